-- Lists that are known up to a number of trials.
use Rattle.std.proofs.Common.{◌≡◌, ℕ, zero, suc, ◌≤◌, List, [], ◌∷◌, ◌++◌, refl, ap, arith}
use Rattle.sno_trace.specs.declared.events.Noted.{Noted}
use Rattle.sno_trace.specs.declared.events.Noted.TheVariants.{Try, Set, Mark, End, Halt, Stop}
use Rattle.sno_trace.specs.Noted.{cut, put_before, spread, go_on, upto}

upto-after : (x y z : List Noted) (n : ℕ) → ((m : ℕ) → m ≤ n → upto m (cut y) ≡ upto m (cut z)) → (m : ℕ) → m ≤ n → upto m (cut (x ++ y)) ≡ upto m (cut (x ++ z))
upto-after [] y z n h m i = h m i
upto-after (Try w ∷ x) y z n h zero i = refl
upto-after (Try w ∷ x) y z n h (suc m) i = ap (λ r. Try w ∷ r) (upto-after x y z n h m (omega arith))
upto-after (Set a ∷ x) y z n h m i = ap (λ r. Set a ∷ r) (upto-after x y z n h m i)
upto-after (Mark d ∷ x) y z n h m i = ap (λ r. Mark d ∷ r) (upto-after x y z n h m i)
upto-after (End e a ∷ x) y z n h m i = ap (λ r. End e a ∷ r) (upto-after x y z n h m i)
upto-after (Halt ∷ x) y z n h m i = refl
upto-after (Stop ∷ x) y z n h m i = refl

pub enough : (l : List Noted) (f : ℕ → List Noted) (m n : ℕ) → m ≤ n → upto m (go_on (upto n l) f) ≡ upto m (go_on l f)
enough [] f m n i = refl
enough (Try y ∷ l) f zero zero i = refl
enough (Try y ∷ l) f zero (suc n) i = refl
enough (Try y ∷ l) f (suc m) zero i = absurd (omega arith)
enough (Try y ∷ l) f (suc m) (suc n) i = ap (λ r. Try y ∷ r) (enough l f m n (omega arith))
enough (Set a ∷ l) f m n i = ap (λ r. Set a ∷ r) (enough l f m n i)
enough (Mark d ∷ l) f m n i = ap (λ r. Mark d ∷ r) (enough l f m n i)
enough (End e a ∷ l) f m n i = upto-after (put_before a (f e)) (spread (upto n l) f) (spread l f) n (λ j h. enough l f j n h) m i
enough (Halt ∷ l) f m n i = refl
enough (Stop ∷ l) f m n i = refl
