-- Marks of the definitions that take.
use Rattle.std.proofs.Common.{◌≡◌, ℕ, zero, suc, ◌<◌, Bool, true, false, not, ◌||◌, List, [], ◌∷◌, length, Some, slice_get, nat_eq, get_or, set, replicate, ⊎_elim, refl, arith, ap, sym, subst, ◌∙◌}
use Rattle.std.proofs.lemmas.Bool.{and_parts, or_cases, and_from, cases_eq, ne_eqb}
use Rattle.std.proofs.lemmas.Option.{slice_get_within}
use Rattle.std.proofs.lemmas.List.{length-map, get_or-set_other}
use Rattle.sno_pattern.specs.Tree as tree
use Rattle.sno_pattern.specs.Tree.{Tree, tree_of, trees}
use Rattle.sno_pattern.specs.declared.tree.Pattern.{Pattern}
use Rattle.sno_pattern.specs.Guard as guard
use Rattle.sno_pattern.specs.Guard.{Takes}
use Rattle.sno_pattern.specs.Searching.{takes_by, AreSound, AreComplete, AreExact, IsUnmarked}

-- how many places are not marked
abbrev pub unmarked_count : List Bool → ℕ
unmarked_count [] = 0
unmarked_count (true ∷ marks) = unmarked_count marks
unmarked_count (false ∷ marks) = suc (unmarked_count marks)

pub one_less : (marks : List Bool) (i : ℕ) → i < length marks → get_or marks i false ≡ false → unmarked_count (set marks i true) < unmarked_count marks
one_less [] i inside h = absurd (omega arith)
one_less (true ∷ marks) zero inside h = cc
one_less (false ∷ marks) zero inside h = omega arith
one_less (true ∷ marks) (suc i) inside h = one_less marks i (omega arith) h
one_less (false ∷ marks) (suc i) inside h = let less = one_less marks i (omega arith) h in omega arith

-- a literal or a number that takes
takes_literal : (bodies : List Tree) (s : List ℕ) → not (nat_eq (length s) 0) ≡ true → Takes bodies (tree.Lit s)
takes_literal bodies [] h = cc
takes_literal bodies (x ∷ s) h = guard.literal

takes_len : (bodies : List Tree) (n : ℕ) → not (nat_eq n 0) ≡ true → Takes bodies (tree.Len n)
takes_len bodies zero h = cc
takes_len bodies (suc n) h = guard.len

pub takes_by_sound : (bodies : List Tree) (marks : List Bool) → AreSound bodies marks → (p : Tree) → takes_by marks p ≡ true → Takes bodies p
takes_by_sound bodies marks sound (tree.Lit s) h = takes_literal bodies s h
takes_by_sound bodies marks sound (tree.Len n) h = takes_len bodies n h
takes_by_sound bodies marks sound (tree.Pos n) h = cc
takes_by_sound bodies marks sound (tree.Rpos n) h = cc
takes_by_sound bodies marks sound (tree.Tab n) h = cc
takes_by_sound bodies marks sound (tree.Rtab n) h = cc
takes_by_sound bodies marks sound (tree.AnyOf s) h = guard.any_of
takes_by_sound bodies marks sound (tree.NoneOf s) h = guard.none_of
takes_by_sound bodies marks sound (tree.Span s) h = guard.span
takes_by_sound bodies marks sound (tree.Break s) h = cc
takes_by_sound bodies marks sound tree.Arb h = cc
takes_by_sound bodies marks sound (tree.Arbno p) h = cc
takes_by_sound bodies marks sound tree.Bal h = guard.bal
takes_by_sound bodies marks sound tree.Rem h = cc
takes_by_sound bodies marks sound tree.Fence h = cc
takes_by_sound bodies marks sound tree.Abort h = guard.abort
takes_by_sound bodies marks sound tree.Fail h = guard.fail
takes_by_sound bodies marks sound (tree.At v) h = cc
takes_by_sound bodies marks sound (tree.Ref i) h = sound i h
takes_by_sound bodies marks sound (tree.Seq p q) h =
    ⊎_elim (λ first. guard.seq_first (takes_by_sound bodies marks sound p first)) (λ second. guard.seq_second (takes_by_sound bodies marks sound q second))
    (or_cases (takes_by marks p) (takes_by marks q) h)
takes_by_sound bodies marks sound (tree.Alt p q) h =
    guard.alt (takes_by_sound bodies marks sound p (and_parts (takes_by marks p) (takes_by marks q) h).0)
    (takes_by_sound bodies marks sound q (and_parts (takes_by marks p) (takes_by marks q) h).1)
takes_by_sound bodies marks sound (tree.Cond p v) h = guard.cond (takes_by_sound bodies marks sound p h)
takes_by_sound bodies marks sound (tree.Imm p v) h = guard.imm (takes_by_sound bodies marks sound p h)

or_left : (x y : Bool) → x ≡ true → (x || y) ≡ true
or_left true y h = refl
or_left false y h = cc

or_right : (x y : Bool) → y ≡ true → (x || y) ≡ true
or_right true y h = refl
or_right false y h = h

not_null : (n : ℕ) → not (nat_eq (suc n) 0) ≡ true
not_null n = ap not (ne_eqb (suc n) 0 (λ e. omega arith))

pub takes_by_complete : (bodies : List Tree) (marks : List Bool) → AreComplete bodies marks → (p : Tree) → Takes bodies p → takes_by marks p ≡ true
takes_by_complete bodies marks complete p (guard.literal {s = s}) = not_null (length s)
takes_by_complete bodies marks complete p (guard.len {n = n}) = not_null n
takes_by_complete bodies marks complete p guard.any_of = refl
takes_by_complete bodies marks complete p guard.none_of = refl
takes_by_complete bodies marks complete p guard.span = refl
takes_by_complete bodies marks complete p guard.bal = refl
takes_by_complete bodies marks complete p guard.fail = refl
takes_by_complete bodies marks complete p guard.abort = refl
takes_by_complete bodies marks complete r (guard.seq_first {p = p} {q = q} d) = or_left (takes_by marks p) (takes_by marks q) (takes_by_complete bodies marks complete p d)
takes_by_complete bodies marks complete r (guard.seq_second {p = p} {q = q} d) = or_right (takes_by marks p) (takes_by marks q) (takes_by_complete bodies marks complete q d)
takes_by_complete bodies marks complete r (guard.alt {p = p} {q = q} d g) =
    and_from (takes_by marks p) (takes_by marks q) (takes_by_complete bodies marks complete p d) (takes_by_complete bodies marks complete q g)
takes_by_complete bodies marks complete r (guard.cond {p = p} d) = takes_by_complete bodies marks complete p d
takes_by_complete bodies marks complete r (guard.imm {p = p} d) = takes_by_complete bodies marks complete p d
takes_by_complete bodies marks complete r (guard.ref {i = i} {body = body} is d) = complete i body is (takes_by_complete bodies marks complete body d)

pub exact : (bodies : List Tree) (marks : List Bool) → AreSound bodies marks → AreComplete bodies marks → AreExact bodies marks
exact bodies marks sound complete p = (takes_by_sound bodies marks sound p, takes_by_complete bodies marks complete p)

-- no marks at all are sound
pub none_marked : (n i : ℕ) → get_or (replicate n false) i false ≡ false
none_marked zero i = refl
none_marked (suc n) zero = refl
none_marked (suc n) (suc i) = none_marked n i

pub sound_none : (bodies : List Tree) (n : ℕ) → AreSound bodies (replicate n false)
sound_none bodies n i h = let none : get_or (replicate n false) i false ≡ false = none_marked n i in cc

-- one more mark, on a definition that takes by the marks already there
pub sound_more : (bodies : List Tree) (marks : List Bool) (n : ℕ) → AreSound bodies marks → IsUnmarked bodies marks n → AreSound bodies (set marks n true)
sound_more bodies marks n sound u i h =
    ⊎_elim
    (λ same. let there : Takes bodies (tree.Ref n) = guard.ref u.1 (takes_by_sound bodies marks sound u.0 u.2) in
    let P : ℕ → Type 0 = λ x. Takes bodies (tree.Ref x) in subst P (sym same) there)
    (λ other. let still : get_or marks i false ≡ true = sym (get_or-set_other marks n i true false other) ∙ h in sound i still)
    (cases_eq i n)

-- a number at which there is a pattern is below the number of patterns
pub within_bodies : (bodies : List Pattern) (i : ℕ) (body : Tree) → slice_get (trees bodies) i ≡ Some body → i < length bodies
within_bodies bodies i body is = let inside : i < length (trees bodies) = slice_get_within (trees bodies) i body is in rw length-map at inside

pub fewer : (bodies : List Pattern) (marks : List Bool) (i : ℕ) → length marks ≡ length bodies → IsUnmarked (trees bodies) marks i
    → unmarked_count (set marks i true) < unmarked_count marks
fewer bodies marks i as_many u = let inside : i < length bodies = within_bodies bodies i u.0 u.1 in one_less marks i (omega arith) u.3
