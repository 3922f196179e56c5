-- More rounds than there are characters left make no difference.
use Rattle.std.proofs.Common.{◌≡◌, ℕ, zero, suc, ◌+◌, ◌-◌, ◌<◌, ◌≤◌, Bool, true, false, cond, List, [], ◌∷◌, length, nat_lt, refl, arith, ap, ◌∙◌, add-one}
use Rattle.std.proofs.lemmas.Bool.{ltb-true}
use Rattle.sno_pattern.specs.Tree.{Tree, Arbno}
use Rattle.sno_pattern.specs.Events.{go_on}
use Rattle.sno_pattern.specs.Results.{rounds, results_of, results}
use Rattle.sno_pattern.specs.Laws.{AllEnds, Within}
use Rattle.sno_pattern.specs.declared.events.Event.{Event}
use Rattle.sno_pattern.specs.declared.events.Event.TheVariants.{End}
use Rattle.sno_pattern.proofs.EachEnd.{AllEnds-map, go_on-cong}
use Rattle.sno_pattern.proofs.Within.{IsWithin, within}

pub same_if : (b : Bool) (x y : List Event) → (b ≡ true → x ≡ y) → cond b x [] ≡ cond b y []
same_if true x y h = h refl
same_if false x y h = refl

-- a first round, and then two ways that agree at every cursor further on
pub same_round : (t : List ℕ) (once : ℕ → List Event) → IsWithin t once → (f g : ℕ → List Event) (c : ℕ) → c ≤ length t
    → ((e : ℕ) → c < e → e ≤ length t → f e ≡ g e)
    → End c [] ∷ go_on (once c) (λ e. cond (nat_lt c e) (f e) []) ≡ End c [] ∷ go_on (once c) (λ e. cond (nat_lt c e) (g e) [])
same_round t once h f g c i agree =
    let each : AllEnds (λ e. cond (nat_lt c e) (f e) [] ≡ cond (nat_lt c e) (g e) []) (once c) =
    AllEnds-map (Within t c) (λ e. cond (nat_lt c e) (f e) [] ≡ cond (nat_lt c e) (g e) [])
    (λ e w. same_if (nat_lt c e) (f e) (g e) (λ past. agree e (ltb-true c e past) w.1)) (once c) (h c i) in
    ap (λ l. End c [] ∷ l) (go_on-cong (λ e. cond (nat_lt c e) (f e) []) (λ e. cond (nat_lt c e) (g e) []) (once c) each)

pub rounds_enough : (t : List ℕ) (once : ℕ → List Event) → IsWithin t once → (n m c : ℕ) → c ≤ length t → length t - c < n → length t - c < m → rounds once n c ≡ rounds once m c
rounds_enough t once h zero m c i few many = absurd (omega arith)
rounds_enough t once h (suc n) zero c i few many = absurd (omega arith)
rounds_enough t once h (suc n) (suc m) c i few many =
    same_round t once h (rounds once n) (rounds once m) c i (λ e past inside. rounds_enough t once h n m e inside (omega arith) (omega arith))

more_rounds : (once : ℕ → List Event) (n c : ℕ) → rounds once (n + 1) c ≡ End c [] ∷ go_on (once c) (λ e. cond (nat_lt c e) (rounds once n e) [])
more_rounds once n c = rw add-one refl

rounds_unrolled : (t : List ℕ) (once : ℕ → List Event) → IsWithin t once → (c : ℕ) → c ≤ length t
    → rounds once (length t - c + 1) c ≡ End c [] ∷ go_on (once c) (λ e. cond (nat_lt c e) (rounds once (length t - e + 1) e) [])
rounds_unrolled t once h c i =
    more_rounds once (length t - c) c
    ∙ same_round t once h (rounds once (length t - c)) (λ e. rounds once (length t - e + 1) e) c i
    (λ e past inside. rounds_enough t once h (length t - c) (length t - e + 1) e inside (omega arith) (omega arith))

-- ARBNO(P) on its own
pub unrolled : (t : List ℕ) (bodies : List Tree) (k : ℕ) (p : Tree) (c : ℕ) → c ≤ length t
    → results t bodies k (Arbno p) c ≡ End c [] ∷ go_on (results t bodies k p c) (λ e. cond (nat_lt c e) (results t bodies k (Arbno p) e) [])
unfolding results_of
unrolled t bodies k p c i = rounds_unrolled t (results t bodies k p) (within t bodies k p) c i
