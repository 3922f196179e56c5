-- Bytes that are too long for a document.
use Rattle.std.proofs.Common.{◌≡◌, ◌<◌, ℕ, Bool, true, false, cond, List, length, Result, Err, nat_lt, refl}
use Rattle.std.proofs.lemmas.Bool.{lt-ltb}
use Rattle.serde_json.specs.Data.{Data}
use Rattle.sno_document.specs.Json.{json_of}
use Rattle.sno_document.specs.Document.{value_in, value_or}
use Rattle.sno_document.specs.declared.faults.DocumentFault.{DocumentFault}
use Rattle.sno_document.specs.declared.faults.DocumentFault.TheVariants.{DocumentTooLong}

long_by : (b : Bool) (r : Result Data DocumentFault) → b ≡ true → cond b (Err DocumentTooLong) r ≡ Err DocumentTooLong
long_by true r h = refl
long_by false r h = cc

-- more bytes than a document may have
pub too_long : (bytes : List ℕ) → 16777216 < length bytes → value_in bytes ≡ Err DocumentTooLong
unfolding value_in
too_long bytes long = long_by (nat_lt 16777216 (length bytes)) (value_or (json_of bytes)) (lt-ltb 16777216 (length bytes) long)
