-- The pieces of a list, one after the other.
use Rattle.std.proofs.Common.{◌≡◌, ℕ, suc, ◌+◌, ◌-◌, ◌≤◌, Bool, true, false, cond, List, [], ◌∷◌, ◌++◌, length, take, drop, Option, Some, None, refl, ap, subst, sym, ◌∙◌, append_assoc, arith}
use Rattle.std.proofs.lemmas.Iterator.Adapters.{position_from-zero}
use Rattle.std.specs.List.{position, position_from}
use Rattle.std.specs.Borrow.{Bor}
use Rattle.std.specs.Prelude.{IsUtf8, map}
use Rattle.sno_files.specs.Lists.{AreUtf8, HasListCause, HasPieceCause, is_end, lengthened, named, pieces, with_piece}
use Rattle.sno_files.specs.declared.lists.ListFault.{ListFault}
use Rattle.sno_files.specs.declared.lists.ListFault.TheVariants.{NotUtf8, Memory}

-- the first piece goes up to the first end ..
cut_by : (end : ℕ) (b : Bool) (i x : ℕ) (list : List ℕ) (k : ℕ) (later : Option ℕ)
    → (later ≡ Some k → (i + 1 ≤ k) × (pieces end list ≡ take (k - (i + 1)) list ∷ pieces end (drop (suc k - (i + 1)) list))) → cond b (Some i) later ≡ Some k
    → (i ≤ k) × (cond b ([] ∷ pieces end list) (lengthened x (pieces end list)) ≡ take (k - i) (x ∷ list) ∷ pieces end (drop (suc k - i) (x ∷ list)))
cut_by end true i x list k later more h =
    let at : i ≡ k = cc in
    let none : k - i ≡ 0 = omega (arith, at) in
    let one : suc k - i ≡ suc 0 = omega (arith, at) in
    (omega (arith, at), sym (ap (λ n. take n (x ∷ list) ∷ pieces end (drop (suc k - i) (x ∷ list))) none ∙ ap (λ n. [] ∷ pieces end (drop n (x ∷ list))) one))
cut_by end false i x list k later more h =
    let r = more h in
    let n : k - i ≡ suc (k - (i + 1)) = omega (arith, r.0) in
    let m : suc k - i ≡ suc (suc k - (i + 1)) = omega (arith, r.0) in (
      omega (arith, r.0),
      ap (λ ps. lengthened x ps) r.1
          ∙ sym (ap (λ p. take p (x ∷ list) ∷ pieces end (drop (suc k - i) (x ∷ list))) n
          ∙ ap (λ p. take (suc (k - (i + 1))) (x ∷ list) ∷ pieces end (drop p (x ∷ list))) m),
    )

cut_from : (end i : ℕ) (list : List ℕ) (k : ℕ) → position_from (is_end end) i list ≡ Some k
    → (i ≤ k) × (pieces end list ≡ take (k - i) list ∷ pieces end (drop (suc k - i) list))
cut_from end i [] k h = cc
cut_from end i (x ∷ list) k h = cut_by end (is_end end x) i x list k (position_from (is_end end) (i + 1) list) (cut_from end (i + 1) list k) h

pub piece_found : (end : ℕ) (list : List ℕ) (k : ℕ) → position (is_end end) list ≡ Some k → pieces end list ≡ take k list ∷ pieces end (drop (k + 1) list)
piece_found end list k h =
    let a : k - 0 ≡ k = omega arith in
    let b : suc k - 0 ≡ k + 1 = omega arith in
    (cut_from end 0 list k (sym (position_from-zero (is_end end) list) ∙ h)).1
    ∙ ap (λ n. take n list ∷ pieces end (drop (suc k - 0) list)) a ∙ ap (λ n. take k list ∷ pieces end (drop n list)) b

-- .. and is all, if there is none
alone_by : (end : ℕ) (b : Bool) (i x : ℕ) (list : List ℕ) (later : Option ℕ) → (later ≡ None → pieces end list ≡ list ∷ []) → cond b (Some i) later ≡ None
    → cond b ([] ∷ pieces end list) (lengthened x (pieces end list)) ≡ (x ∷ list) ∷ []
alone_by end true i x list later more h = cc
alone_by end false i x list later more h = ap (λ ps. lengthened x ps) (more h)

alone_from : (end i : ℕ) (list : List ℕ) → position_from (is_end end) i list ≡ None → pieces end list ≡ list ∷ []
alone_from end i [] h = refl
alone_from end i (x ∷ list) h = alone_by end (is_end end x) i x list (position_from (is_end end) (i + 1) list) (alone_from end (i + 1) list) h

pub piece_alone : (end : ℕ) (list : List ℕ) → position (is_end end) list ≡ None → pieces end list ≡ list ∷ []
piece_alone end list h = alone_from end 0 list (sym (position_from-zero (is_end end) list) ∙ h)

-- the paths of a piece, and those of the others
first_named : (piece : List ℕ) (more : List (List ℕ)) → named (piece ∷ more) ≡ named (piece ∷ []) ++ named more
first_named [] more = refl
first_named (x ∷ piece) more = refl

-- one piece more was taken
pub piece_more : (before new : List (List ℕ)) (piece : List ℕ) (left more all : List (List ℕ)) → before ++ named left ≡ all → left ≡ piece ∷ more
    → new ≡ with_piece before piece → new ++ named more ≡ all
piece_more before new piece left more all h is taken =
    ap (λ ps. ps ++ named more) taken ∙ append_assoc before (named (piece ∷ [])) (named more) ∙ ap (λ ps. before ++ ps) (sym (first_named piece more))
    ∙ ap (λ ps. before ++ named ps) (sym is) ∙ h

-- what is wrong with a piece is wrong with the list
pub list_cause : (before : List (List ℕ)) (piece : List ℕ) (left more all : List (List ℕ)) (count : ℕ) (fault : ListFault) → before ++ named left ≡ all → left ≡ piece ∷ more
    → AreUtf8 before → count ≡ length before → HasPieceCause count piece fault → HasListCause all fault
list_cause before piece left more all count Memory h is good counted cause = tt
list_cause before piece left more all count (NotUtf8 number) h is good counted cause =
    let all_is = sym h ∙ ap (λ ps. before ++ named ps) is ∙ ap (λ ps. before ++ ps) (first_named piece more ∙ ap (λ ps. ps ++ named more) cause.1) in
    (before, piece, named more, all_is, omega (arith, counted, cause.0), good, cause.2)

-- a path more
utf8_after : (paths : List (Bor (List ℕ))) (path : Bor (List ℕ)) → IsUtf8 path.now → AreUtf8 (map (λ p. p.now) paths) → AreUtf8 (map (λ p. p.now) (paths ++ path ∷ []))
utf8_after [] path good h = (good, tt)
utf8_after (first ∷ paths) path good h = (h.0, utf8_after paths path good h.1)

pub utf8_more : (paths new : List (Bor (List ℕ))) (path : Bor (List ℕ)) (piece : List ℕ) → new ≡ paths ++ path ∷ [] → path.now ≡ piece → IsUtf8 piece
    → AreUtf8 (map (λ p. p.now) paths) → AreUtf8 (map (λ p. p.now) new)
utf8_more paths new path piece is same good h = subst (λ l. AreUtf8 (map (λ p. p.now) l)) (sym is) (utf8_after paths path (subst IsUtf8 (sym same) good) h)
