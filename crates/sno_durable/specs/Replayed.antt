-- Records that are performed again, and why one of them can't be.
use Rattle.std.specs.Prelude.{◌≡◌, ◌⊎◌, ◌+◌, ◌-◌, ◌^◌, ℕ, Bool, true, false, List, [], ◌∷◌, Option, Some, None, codes, min, option_and_then, string_bytes}
use Rattle.serde_json.specs.Data.{Data}
use Rattle.serde_json.specs.Find.{get}
use Rattle.serde_json.specs.View.{view}
use Rattle.sno_book.specs.Openings.{Opening}
use Rattle.sno_desk.specs.Turns.{Position}
use Rattle.sno_document.specs.Json.{json_of}
use Rattle.sno_listing.specs.declared.refusals.Refusal.{Refusal}
use Rattle.sno_serve.specs.Asked.{id_in}
use Rattle.sno_durable.specs.Faults.{is_of_record}
use Rattle.sno_durable.specs.Origins.{IsMeant, small_at}
use Rattle.sno_durable.specs.Past.{string_at}
use Rattle.sno_durable.specs.Performed.{IsRecordOf, IsText, asked_of}
use Rattle.sno_durable.specs.Records.{record_text}
use Rattle.sno_durable.specs.Sought.{IsRepliedOn}
use Rattle.sno_durable.specs.declared.earlier.Reading.{Reading}
use Rattle.sno_durable.specs.declared.faults.DurableFault.{DurableFault}
use Rattle.sno_durable.specs.declared.faults.DurableFault.TheVariants as fault
use Rattle.sno_durable.specs.declared.records.Record.{Record}
use Rattle.sno_durable.specs.declared.records.Origin.{Origin}

-- what a record says: the line of a client, and the number of its statement
pub record RecordSaid : Type 0 where
  pub line : List ℕ
  pub number : ℕ

abbrev pub record_seen : Record → RecordSaid
record_seen r = record { line = string_bytes r.line; number = r.number }

abbrev pub record_by : Option (List ℕ) → Option ℕ → Option RecordSaid
record_by None number = None
record_by (Some line) None = None
record_by (Some line) (Some number) = Some (record { line = line; number = number })

abbrev pub record_said : Data → Option RecordSaid
record_said d = record_by (string_at (codes "line") d) (option_and_then (small_at (codes "statement")) (get (codes "reply") d))

-- what the line says, if it is a record
abbrev pub record_in : List ℕ → Option RecordSaid
record_in bytes = option_and_then record_said (json_of bytes)

-- the statement of a record, performed again at a seat, has another outcome: no entry is accepted, or the text of its reply is another one
pub record HasOtherOutcome (reading : Reading) (opening : Opening) (before after : Position) (bytes : List ℕ) : Type 0 where
  pub said : RecordSaid
  pub is : record_in bytes ≡ Some said
  pub reply : Data
  pub refused : Option Refusal
  pub replied : IsRepliedOn reading.past.entries (view reading.past.versions) 1 opening before.seen after.seen (id_in said.line)
      (asked_of reading said.number said.line) reply refused
  pub text : List ℕ
  pub written : IsText reply text
  pub other : (after.accepted ≡ before.accepted) ⊎ ¬ (bytes ≡ record_text said.line text)

-- why the line with this number can't be performed again: memory ran out, it isn't a record, or its statement has another outcome
abbrev pub IsFault : Reading → Opening → Position → Position → ℕ → List ℕ → DurableFault → Type 0
IsFault reading opening before after place bytes e =
    (e ≡ fault.Memory) ⊎ ((e ≡ fault.Record place) × (record_in bytes ≡ None)) ⊎ ((e ≡ fault.Outcome place) × HasOtherOutcome reading opening before after bytes)

-- the number of the line after the one with this number; it goes no higher than 64 bits do
abbrev pub next_line : ℕ → ℕ
next_line place = min (place + 1) (2 ^ 64 - 1)

-- these records, which come after the line with this number, were performed again one after the other, until one of them couldn't be
abbrev pub HasEnded : Reading → Opening → ℕ → Position → List (List ℕ) → Position → DurableFault → Type 0
HasEnded reading opening place before [] after e = ⊥
HasEnded reading opening place before (bytes ∷ later) after e =
    IsFault reading opening before after (next_line place) bytes e
    ⊎ ((between : Position) × IsRecordOf reading opening before.seen between.seen bytes × HasEnded reading opening (next_line place) between later after e)

-- a fault that says so has its cause in one of these records, which come after the first line
abbrev pub HasStopped : Reading → Opening → List (List ℕ) → DurableFault → Type 0
HasStopped reading opening records e = is_of_record e ≡ true → (begun : Position) × (after : Position) × HasEnded reading opening 1 begun records after e

-- the same, by what lines mean in the store
abbrev pub HasCause : Origin → Opening → List (List ℕ) → DurableFault → Type 0
HasCause origin opening records e = (reading : Reading) × IsMeant origin reading opening × HasStopped reading opening records e
