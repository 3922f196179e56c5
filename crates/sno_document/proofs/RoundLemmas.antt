-- A number with a sign says no rounds.
use Rattle.std.proofs.Common.{◌≡◌, Bool, true, false, cond, ◌&&◌, nat_lt, nat_le, Some, None, unwrap_or, refl}
use Rattle.std.specs.Prelude.{◌^◌, ℤ, Float}
use Rattle.std.specs.Float.{binary64, float_is_finite}
use Rattle.fast_float.specs.Text.{Parts, digits_of, nearest, with_sign}
use Rattle.serde_json.specs.Data.{unsigned, negative, float}
use Rattle.serde_json.specs.Read.{is_integer, number_from}
use Rattle.sno_document.specs.Document.{rounds_in}

no_rounds : (b c : Bool) (z : ℤ) (x : Float) → rounds_in (unwrap_or (cond b (Some (negative z)) (cond c (Some (float x)) None)) (unsigned 0)) ≡ None
no_rounds true c z x = refl
no_rounds false true z x = refl
no_rounds false false z x = refl

pub signed_rounds : (p : Parts) → rounds_in (unwrap_or (number_from true p) (unsigned 0)) ≡ None
signed_rounds p =
    no_rounds (is_integer p && nat_lt 0 (digits_of p) && nat_le (digits_of p) (2 ^ 63)) (float_is_finite (nearest binary64 true p))
    (with_sign true (digits_of p)) (nearest binary64 true p)
