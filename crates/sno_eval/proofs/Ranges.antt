-- The cursors that are left, from one on.
use Rattle.std.proofs.Common.{◌≡◌, ℕ, suc, ◌+◌, ◌-◌, ◌≤◌, true, false, length, List, [], ◌∷◌, ◌++◌, ap, sym, ◌∙◌, arith, append_assoc}
use Rattle.std.specs.List.{range_with_len}
use Rattle.sno_pattern.specs.Results.{ends, further_ends}
use Rattle.sno_pattern.specs.Outcome.{starts_from}
pub use Rattle.sno_eval.specs.Steps.{up_to}
use Rattle.sno_pattern.specs.declared.events.Event.{Event}
use Rattle.sno_pattern.specs.declared.events.Event.TheVariants.{Try, End}

-- the first of them, and the others
pub up_to_more : (i n : ℕ) → i ≤ n → up_to i n ≡ i ∷ up_to (i + 1) n
up_to_more i n h =
    let e : suc n - i ≡ suc (suc n - (i + 1)) = omega arith in
    ap (range_with_len i) e

-- one more End
pub ends_more : (done new : List Event) (i n : ℕ) (all : List Event) → i ≤ n → new ≡ done ++ Try ∷ End i [] ∷ [] → done ++ further_ends (up_to i n) ≡ all → new ++ further_ends (up_to (i + 1) n) ≡ all
ends_more done new i n all h is e =
    ap (λ l. l ++ further_ends (up_to (i + 1) n)) is
    ∙ append_assoc done (Try ∷ End i [] ∷ []) (further_ends (up_to (i + 1) n)) ∙ sym (ap (λ s. done ++ further_ends s) (up_to_more i n h)) ∙ e

-- the ends of ARB cost a trial each, as further ends do
pub ends_all : (c n : ℕ) → c ≤ n → further_ends (up_to c n) ≡ ends (up_to c n)
ends_all c n h = ap further_ends (up_to_more c n h) ∙ sym (ap ends (up_to_more c n h))

-- so do the ends of BAL, if there are any
pub ends_some : (es : List ℕ) (l : List Event) → l ≡ further_ends es → (length l ≡ 0 → ⊥) → l ≡ ends es
ends_some [] l is some = absurd (some (ap length is))
ends_some (e ∷ es) l is some = is

-- and if there are none, that costs one trial
pub ends_none : (es : List ℕ) (l one : List Event) → l ≡ further_ends es → length l ≡ 0 → one ≡ Try ∷ [] → one ≡ ends es
ends_none [] l one is none same = same
ends_none (e ∷ es) l one is none same = let some : length l ≡ suc (suc (length (further_ends es))) = ap length is in absurd (omega arith)

-- the starts of a search from a cursor on
pub single_start : (t : List ℕ) (c : ℕ) → up_to c c ≡ starts_from t true c
single_start t c = let one : suc c - c ≡ 1 = omega arith in ap (range_with_len c) one

pub each_start : (t : List ℕ) (c : ℕ) → up_to c (length t) ≡ starts_from t false c
each_start t c = let all : suc (length t) - c ≡ length t + 1 - c = omega arith in ap (range_with_len c) all
