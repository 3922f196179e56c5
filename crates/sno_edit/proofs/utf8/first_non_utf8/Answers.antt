-- The test agrees with what is found.
use Rattle.std.proofs.Common.{◌≡◌, ℕ, Bool, true, false, Option, None, Some, if◌then◌else◌, refl, ap, ◌∙◌}
use Rattle.std.proofs.lemmas.Str.{IsUtf8-from_is_utf8, is_utf8-from_IsUtf8}
use Rattle.std.specs.Str.{is_utf8}
use Rattle.std.specs.Str.Lossy.{utf8_valid_len}
use Rattle.sno_edit.proofs.utf8.first_non_utf8.Goals as goal

if_it_is : (test : Bool) (place : ℕ) → test ≡ true → ◌≡◌ {A = Option ℕ} None (if test then None else Some place)
if_it_is true place h = refl
if_it_is false place h = cc

if_not : (test : Bool) (place : ℕ) → (test ≡ true → ⊥) → ◌≡◌ {A = Option ℕ} (Some place) (if test then None else Some place)
if_not true place h = absurd (h refl)
if_not false place h = refl

pub returns-in-Ok-clause-place : goal.returns-in-Ok-clause-place
returns-in-Ok-clause-place c =
    let bytes = c.args.bytes.now in
    if_it_is (is_utf8 bytes) (utf8_valid_len bytes) (is_utf8-from_IsUtf8 bytes c.in-Ok.ensures.cases.1)

pub returns-in-Err-clause-place : goal.returns-in-Err-clause-place
returns-in-Err-clause-place c =
    let bytes = c.args.bytes.now in
    ap Some (c.valid_up_to.ensures ∙ c.in-Err.ensures.valid_len)
    ∙ if_not (is_utf8 bytes) (utf8_valid_len bytes) (λ is. c.in-Err.ensures.cases.0 (IsUtf8-from_is_utf8 bytes is))
