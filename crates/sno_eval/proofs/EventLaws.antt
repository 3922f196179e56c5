-- Laws of lists of events.
use Rattle.std.proofs.Common.{◌≡◌, ℕ, suc, ◌+◌, ◌-◌, ◌≤◌, true, false, List, [], ◌∷◌, ◌++◌, ap, sym, ◌∙◌, arith, refl, take, Some, None}
use Rattle.std.specs.List.{list_any, position, position_from}
use Rattle.std.proofs.lemmas.Iterator.Adapters.{position_from-zero}
use Rattle.sno_pattern.specs.Events.{cut, put_before, spread, go_on, CondList}
use Rattle.sno_pattern.specs.declared.events.Event.{Event}
use Rattle.sno_pattern.specs.declared.events.Event.TheVariants.{Try, Set, End, Halt}
use Rattle.sno_eval.specs.Steps.{is_halt}

-- if nothing fails the whole match, each list is cut on its own
pub cut_unhalted : (l m : List Event) → list_any is_halt l ≡ false → cut (l ++ m) ≡ cut l ++ cut m
cut_unhalted [] m h = refl
cut_unhalted (Try ∷ l) m h = ap (λ r. Try ∷ r) (cut_unhalted l m h)
cut_unhalted (Set t ∷ l) m h = ap (λ r. Set t ∷ r) (cut_unhalted l m h)
cut_unhalted (End e a ∷ l) m h = ap (λ r. End e a ∷ r) (cut_unhalted l m h)
cut_unhalted (Halt ∷ l) m h = cc

-- what comes after a Halt is cut off
pub cut_halted : (l m : List Event) → list_any is_halt l ≡ true → cut (l ++ m) ≡ cut l
cut_halted [] m h = cc
cut_halted (Try ∷ l) m h = ap (λ r. Try ∷ r) (cut_halted l m h)
cut_halted (Set t ∷ l) m h = ap (λ r. Set t ∷ r) (cut_halted l m h)
cut_halted (End e a ∷ l) m h = ap (λ r. End e a ∷ r) (cut_halted l m h)
cut_halted (Halt ∷ l) m h = refl

-- putting assignments before those of Ends neither adds nor takes away a Halt
pub halts_before : (a : CondList) (l : List Event) → list_any is_halt (put_before a l) ≡ list_any is_halt l
halts_before a [] = refl
halts_before a (Try ∷ l) = halts_before a l
halts_before a (Set t ∷ l) = halts_before a l
halts_before a (End e b ∷ l) = halts_before a l
halts_before a (Halt ∷ l) = refl

-- if a Halt is found, the list is cut after it
found_from : (i : ℕ) (l : List Event) (p : ℕ) → position_from is_halt i l ≡ Some p → (i ≤ p) × (take (suc p - i) l ≡ cut l)
found_from i [] p h = cc
found_from i (Try ∷ l) p h =
    let r = found_from (i + 1) l p h in
    let e : suc p - i ≡ suc (suc p - (i + 1)) = omega (arith, r.0) in
    (omega (arith, r.0), ap (λ k. take k (Try ∷ l)) e ∙ ap (λ m. Try ∷ m) r.1)
found_from i (Set t ∷ l) p h =
    let r = found_from (i + 1) l p h in
    let e : suc p - i ≡ suc (suc p - (i + 1)) = omega (arith, r.0) in
    (omega (arith, r.0), ap (λ k. take k (Set t ∷ l)) e ∙ ap (λ m. Set t ∷ m) r.1)
found_from i (End x a ∷ l) p h =
    let r = found_from (i + 1) l p h in
    let e : suc p - i ≡ suc (suc p - (i + 1)) = omega (arith, r.0) in
    (omega (arith, r.0), ap (λ k. take k (End x a ∷ l)) e ∙ ap (λ m. End x a ∷ m) r.1)
found_from i (Halt ∷ l) p h =
    let same : i ≡ p = cc in
    let e : suc p - i ≡ suc 0 = omega arith in
    (omega arith, ap (λ k. take k (Halt ∷ l)) e)

pub cut_found : (l : List Event) (p : ℕ) → position is_halt l ≡ Some p → take (p + 1) l ≡ cut l
cut_found l p h = let e : p + 1 ≡ suc p - 0 = omega arith in ap (λ k. take k l) e ∙ (found_from 0 l p (sym (position_from-zero is_halt l) ∙ h)).1

-- if no Halt is found, the list stays
none_from : (i : ℕ) (l : List Event) → position_from is_halt i l ≡ None → l ≡ cut l
none_from i [] h = refl
none_from i (Try ∷ l) h = ap (λ m. Try ∷ m) (none_from (i + 1) l h)
none_from i (Set t ∷ l) h = ap (λ m. Set t ∷ m) (none_from (i + 1) l h)
none_from i (End x a ∷ l) h = ap (λ m. End x a ∷ m) (none_from (i + 1) l h)
none_from i (Halt ∷ l) h = cc

pub cut_none : (l : List Event) → position is_halt l ≡ None → l ≡ cut l
cut_none l h = none_from 0 l (sym (position_from-zero is_halt l) ∙ h)

-- going on from an End after which the whole match fails
pub go_on_halted : (e : ℕ) (a : CondList) (rest : List Event) (f : ℕ → List Event) → list_any is_halt (f e) ≡ true → go_on (End e a ∷ rest) f ≡ cut (put_before a (f e))
go_on_halted e a rest f h = cut_halted (put_before a (f e)) (spread rest f) (halts_before a (f e) ∙ h)

-- going on from an End after which more may be tried
pub go_on_unhalted : (e : ℕ) (a : CondList) (rest : List Event) (f : ℕ → List Event) → list_any is_halt (f e) ≡ false → go_on (End e a ∷ rest) f ≡ cut (put_before a (f e)) ++ go_on rest f
go_on_unhalted e a rest f h = cut_unhalted (put_before a (f e)) (spread rest f) (halts_before a (f e) ∙ h)
