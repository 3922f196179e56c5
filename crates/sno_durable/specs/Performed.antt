-- Records of the entries that a seat accepts, each with its own line and the text of its reply.
use Rattle.std.specs.Prelude.{◌≡◌, ◌⊎◌, ◌+◌, ◌++◌, ℕ, List, [], ◌∷◌, Option, false, length}
use Rattle.std.specs.Arc.{arc_value}
use mathlib.Core.List.{IsPrefix as Begins}
use Rattle.serde_json.specs.Data.{Data}
use Rattle.serde_json.specs.View.{view}
use Rattle.serde_json.specs.Written.{compact_text, has_float}
use Rattle.sno_book.specs.Entries.{Entry}
use Rattle.sno_book.specs.Openings.{Opening}
use Rattle.sno_desk.specs.Turns.{Position}
use Rattle.sno_listing.specs.declared.refusals.Refusal.{Refusal}
use Rattle.sno_serve.specs.Asked.{asked_in, id_in, within}
use Rattle.sno_serve.specs.Replies.{IsLine, with_ignored}
use Rattle.sno_serve.specs.declared.asked.Asked.{Asked}
use Rattle.sno_durable.specs.Records.{record_text}
use Rattle.sno_durable.specs.Sought.{IsRepliedOn}
use Rattle.sno_durable.specs.declared.earlier.Reading.{Reading}

-- the bytes are the text of this value, which isn't fixed if it has a float
abbrev pub IsText : Data → List ℕ → Type 0
IsText d text = has_float d ≡ false → text ≡ compact_text d

-- a line that has this value comes after these bytes
pub record AddsLine (d : Data) (before after : List ℕ) : Type 0 where
  pub line : List ℕ
  pub joined : after ≡ before ++ line
  pub is : IsLine d line

-- what a line asks for, by what lines mean, if its statement has this number
abbrev pub asked_of : Reading → ℕ → List ℕ → Asked
asked_of reading number line = asked_in (arc_value reading.rules) reading.mode number line

-- the same of a client's line, whose match may take no more trials than the service lets it
abbrev pub asked_now : Reading → ℕ → List ℕ → Asked
asked_now reading number line = within reading.mode.trials (asked_of reading number line)

-- the line was performed at a seat, which had seen the first entries and has seen the second, and this is the text of its reply. A record of
-- an older store may have a line that asks for more trials than a client's line may
pub record IsReplyTo (reading : Reading) (tries : ℕ) (opening : Opening) (before after : List Entry) (line text : List ℕ) : Type 0 where
  pub number : ℕ
  pub asked : Asked
  pub is : (asked ≡ asked_now reading number line) ⊎ (asked ≡ asked_of reading number line)
  pub reply : Data
  pub refused : Option Refusal
  pub replied : IsRepliedOn reading.past.entries (view reading.past.versions) tries opening before after (id_in line) asked reply refused
  pub written : IsText reply text

-- what comes to the records that wait as a line is performed: its record if an entry was accepted, and nothing otherwise
abbrev pub IsRecorded : ℕ → ℕ → List ℕ → List ℕ → List (List ℕ) → List (List ℕ) → Type 0
IsRecorded before after line text waited waits = ((after ≡ before) × (waits ≡ waited)) ⊎ ((after ≡ before + 1) × (waits ≡ waited ++ record_text line text ∷ []))

-- a line was performed once: its record comes to those that wait, if it has one, and its reply to the replies that wait
pub record HasReplied (reading : Reading) (opening : Opening) (before after : Position) (line : List ℕ) (waited waits : List (List ℕ)) (shown shows : List ℕ) : Type 0 where
  pub text : List ℕ
  pub begins : Begins before.seen after.seen
  pub reply : IsReplyTo reading 1 opening before.seen after.seen line text
  pub limited : reply.asked ≡ asked_now reading reply.number line
  pub recorded : IsRecorded before.accepted after.accepted line text waited waits
  pub ignored : List Data
  pub added : AddsLine (with_ignored ignored reply.reply) shown shows

-- the record is that of a line that a seat performed once, and has the text of its reply
pub record IsRecordOf (reading : Reading) (opening : Opening) (before after : List Entry) (bytes : List ℕ) : Type 0 where
  pub line : List ℕ
  pub text : List ℕ
  pub is : bytes ≡ record_text line text
  pub start : List Entry
  pub begins : Begins before start
  pub reply : IsReplyTo reading 1 opening start after line text

-- the records of lines that a seat performed one after the other, while what it had seen grew from the first entries to the second
abbrev pub AreRecords : Reading → Opening → List Entry → List (List ℕ) → List Entry → Type 0
AreRecords reading opening before [] after = Begins before after
AreRecords reading opening before (bytes ∷ later) after =
    (between : List Entry) × IsRecordOf reading opening before between bytes × AreRecords reading opening between later after

-- the records of the entries that were accepted, and no others, have come to those that wait
pub record HasRecords (reading : Reading) (opening : Opening) (before after : Position) (waited waits : List (List ℕ)) : Type 0 where
  pub news : List (List ℕ)
  pub joined : waits ≡ waited ++ news
  pub counted : after.accepted ≡ before.accepted + length news
  pub records : AreRecords reading opening before.seen news after.seen
