-- How seals are written.
use Rattle.std.proofs.Common.{◌≡◌, refl, sym, ◌∙◌, ap, arith, ℕ, zero, suc, ◌+◌, ◌-◌, ◌/◌, ◌%◌, ◌<◌, List, [], ◌∷◌, ◌++◌, append_assoc}
use Rattle.sno_sealed.specs.Seals.{hex, hex_digit}

pub hex_step : (k n : ℕ) → 0 < k → hex k n ≡ hex (k - 1) (n / 16) ++ hex_digit (n % 16) ∷ []
hex_step zero n some = absurd (omega arith)
hex_step (suc k) n some = let e : suc k - 1 ≡ k = omega arith in rw e refl

pub four_parts : (s k h e : List ℕ) → (((s ++ k) ++ h) ++ 34 ∷ []) ++ e ≡ s ++ (k ++ (h ++ 34 ∷ e))
four_parts s k h e =
    append_assoc ((s ++ k) ++ h) (34 ∷ []) e ∙ append_assoc (s ++ k) h (34 ∷ e) ∙ append_assoc s k (h ++ 34 ∷ e)
