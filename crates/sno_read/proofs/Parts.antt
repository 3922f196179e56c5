-- The parts of an object, one after the other.
use Rattle.std.proofs.Common.{◌≡◌, ℕ, zero, suc, ◌-◌, ◌<◌, List, [], ◌∷◌, ◌++◌, length, true, false, nat_eq, Result, Ok, Err, refl, sym, ap, ◌∙◌, arith, append_assoc, append-nil}
use Rattle.sno_read.specs.declared.faults.ReadFault.{ReadFault}
use Rattle.sno_read.specs.declared.faults.Stop.{Stop}
use Rattle.sno_read.specs.declared.faults.Stop.TheVariants.{Memory, Fault}
use Rattle.sno_read.specs.declared.objects.Part.{Part}
use Rattle.sno_read.specs.Gives.{◌>>=◌, Stops}
use Rattle.sno_read.specs.Reading.{Env}
use Rattle.sno_read.specs.Objects.{part_at, gap_at, parts_of, with_front}

-- what is read of a text that isn't empty
abbrev pub more_of : Env → ℕ → List ℕ → Result (List Part) ReadFault
more_of env m text = part_at env text >>= λ x. gap_at env x.1 >>= λ rest. parts_of env m rest >>= λ others. Ok (x.0 ∷ others)

pub more_step : (env : Env) (m : ℕ) (text : List ℕ) (k : ℕ) → k < m → nat_eq (length text) 0 ≡ false → parts_of env m text ≡ more_of env (m - 1) text
unfolding parts_of
more_step env zero text k h e = absurd (omega arith)
more_step env (suc m) text k h e = let p : suc m - 1 ≡ m = omega arith in rw (e, p) refl

pub end_step : (env : Env) (m : ℕ) (text : List ℕ) (k : ℕ) → k < m → nat_eq (length text) 0 ≡ true → parts_of env m text ≡ Ok []
unfolding parts_of
end_step env zero text k h e = absurd (omega arith)
end_step env (suc m) text k h e = rw e refl

-- one part moved to those already read
front_more : (front : List Part) (p : Part) (r : Result (List Part) ReadFault) → with_front (front ++ p ∷ []) r ≡ with_front front (r >>= λ others. Ok (p ∷ others))
front_more front p (Ok ps) = ap (λ l. Ok l) (append_assoc front (p ∷ []) ps)
front_more front p (Err e) = refl

module _ (env : Env) (m k : ℕ) (text : List ℕ) (front : List Part) (whole : Result (List Part) ReadFault) (enough : k < m) (inv : with_front front (parts_of env m text) ≡ whole) where
  pub parts_end : nat_eq (length text) 0 ≡ true → whole ≡ Ok front
  parts_end e = sym inv ∙ ap (with_front front) (end_step env m text k enough e) ∙ ap (λ l. Ok l) (append-nil front)

  whole_is : nat_eq (length text) 0 ≡ false → whole ≡ with_front front (more_of env (m - 1) text)
  whole_is e = sym inv ∙ ap (with_front front) (more_step env m text k enough e)

  pub part_stops : (s : Stop) → nat_eq (length text) 0 ≡ false → Stops s (part_at env text) → Stops s whole
  part_stops Memory e h = tt
  part_stops (Fault f) e h = whole_is e ∙ ap (λ r. with_front front (r >>= λ x. gap_at env x.1 >>= λ rest. parts_of env (m - 1) rest >>= λ others. Ok (x.0 ∷ others))) h

  part_read : (p : Part) (rest_after : List ℕ) → nat_eq (length text) 0 ≡ false → part_at env text ≡ Ok (p, rest_after) → whole ≡ with_front front (gap_at env rest_after >>= λ rest. parts_of env (m - 1) rest >>= λ others. Ok (p ∷ others))
  part_read p rest_after e h = whole_is e ∙ ap (λ r. with_front front (r >>= λ x. gap_at env x.1 >>= λ rest. parts_of env (m - 1) rest >>= λ others. Ok (x.0 ∷ others))) h

  pub gap_stops : (p : Part) (rest_after : List ℕ) (s : Stop) → nat_eq (length text) 0 ≡ false → part_at env text ≡ Ok (p, rest_after) → Stops s (gap_at env rest_after) → Stops s whole
  gap_stops p rest_after Memory e h g = tt
  gap_stops p rest_after (Fault f) e h g = part_read p rest_after e h ∙ ap (λ r. with_front front (r >>= λ rest. parts_of env (m - 1) rest >>= λ others. Ok (p ∷ others))) g

  pub part_more : (p : Part) (rest_after rest : List ℕ) → nat_eq (length text) 0 ≡ false → part_at env text ≡ Ok (p, rest_after) → gap_at env rest_after ≡ Ok rest → with_front (front ++ p ∷ []) (parts_of env (m - 1) rest) ≡ whole
  part_more p rest_after rest e h g = front_more front p (parts_of env (m - 1) rest) ∙ sym (part_read p rest_after e h ∙ ap (λ r. with_front front (r >>= λ a. parts_of env (m - 1) a >>= λ others. Ok (p ∷ others))) g)
