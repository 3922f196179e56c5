-- What a viewer has seen, and why it sees no more.
use Rattle.std.specs.Prelude.{◌≡◌, ◌<◌, ℕ, List, Option, Some, None, length}
use Rattle.std.specs.Fn.{FnOnceReturns, Once}
use denote.Ref.{Bor}
use Rattle.std.specs.Coded.{Coded, code_by, coded×, coded_list}
use Rattle.std.specs.Prelude.{refl}
use Rattle.sno_book.specs.Entries.{Entry, entry_code}
use Rattle.sno_book.specs.Openings.{Opening}
use Rattle.sno_book.specs.States.{VersionedText}
use Rattle.sno_published.specs.Tables.{text_at}
use Rattle.sno_published.specs.declared.faults.ViewFault.{ViewFault}
use Rattle.sno_published.specs.declared.faults.ViewFault.TheVariants.{Ended, Older, Memory}

-- the entries that were shown when it entered last, and those that it has seen or was shown
pub record Viewing : Type 0 where
  pub shown : List Entry
  pub seen : List Entry

-- a viewing is stored as the pair of its fields
abbrev pub viewing_code : Coded Viewing
viewing_code = code_by (List Entry × List Entry) (coded× (coded_list entry_code) (coded_list entry_code)) (λ v. (v.shown, v.seen)) (λ p. record { shown = p.0; seen = p.1 }) (λ _. refl)

-- `Ended` and `Older`: nothing more was seen, and `Older` comes only to a viewer that was shown more than it had
-- found shown. `Memory`: all that is shown was seen
abbrev pub IsCause : ViewFault → Viewing → Viewing → Type 0
IsCause Ended before after = after.seen ≡ before.seen
IsCause Older before after = (after.seen ≡ before.seen) × (length before.shown < length before.seen)
IsCause Memory before after = after.seen ≡ after.shown

-- the result is one that the function may return for these characters and this version
pub record IsLent {F T : Type 0} (calls : Once F (Bor (List ℕ) × (ℕ × Unit {0})) T) (f : F) (opening : Opening) (place : ℕ) (held : VersionedText) (r : T) : Type 0 where
  pub text : Bor (List ℕ)
  pub version : ℕ
  pub there : held ≡ text_at opening place text.now version
  pub returned : FnOnceReturns calls f (text, (version, tt)) r

-- there is a result exactly if there is a text at the place
abbrev pub GivesLent : {F T : Type 0} → Once F (Bor (List ℕ) × (ℕ × Unit {0})) T → F → Opening → Option VersionedText → ℕ → Option T → Type 0
GivesLent calls f opening None place None = Unit {0}
GivesLent calls f opening None place (Some r) = ⊥
GivesLent calls f opening (Some held) place None = ⊥
GivesLent calls f opening (Some held) place (Some r) = IsLent calls f opening place held r
