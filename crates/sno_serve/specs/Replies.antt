-- Replies: JSON objects with the caller's id.
use Rattle.std.specs.Prelude.{◌≡◌, ◌⊎◌, ℕ, false, true, List, [], ◌∷◌, ◌++◌, length, map, Option, Some, None, Result, Ok, Err, codes, nat_lt, if◌then◌else◌}
use Rattle.std.specs.Fmt.{decimal}
use Rattle.serde_json.specs.Data.{Data, boolean, string, object, Members, no_members, member, put}
use Rattle.serde_json.specs.Written.{compact_text, has_float}
use Rattle.sno_statement.specs.Statement.{Statement}
use Rattle.sno_book.specs.Entries.{Entry}
use Rattle.sno_book.specs.Openings.{Opening, names_in, place_in}
use Rattle.sno_book.specs.Proposals.{Proposal, entry_of}
use Rattle.sno_book.specs.Snapshots.{Snapshot}
use Rattle.sno_listing.specs.Listing.{reason_words}
use Rattle.sno_listing.specs.JsonListing.{array_of, count, text_members, done_members}
use Rattle.sno_listing.specs.declared.refusals.Reason.{Reason}
use Rattle.sno_listing.specs.declared.refusals.Reason.TheVariants as reason
use Rattle.sno_listing.specs.declared.refusals.Refusal.{Refusal}
use Rattle.sno_desk.specs.Replies.{Reply, IsReply, IsReplyAt}
use Rattle.sno_desk.specs.Proposed.{GivesProposed}
use Rattle.sno_desk.specs.Seen.{GivesSeen}
use Rattle.sno_desk.specs.declared.faults.SnapshotFault.{SnapshotFault}
use Rattle.sno_desk.specs.declared.faults.SnapshotFault.TheVariants as snapshot
use Rattle.sno_desk.specs.declared.faults.SubmitFault.{SubmitFault}
use Rattle.sno_desk.specs.declared.faults.SubmitFault.TheVariants as submit
use Rattle.sno_serve.specs.Excerpts.{excerpt_of}
use Rattle.sno_serve.specs.Versions.{GivesAll, text_at_version}
use Rattle.sno_serve.specs.AtVersion.{AtResult, IsResultAt}
use Rattle.sno_serve.specs.declared.at_version.AtFault.TheVariants as at
use Rattle.sno_serve.specs.declared.at_seat.TheConstants.{MAX_INDEX}
use Rattle.sno_serve.specs.declared.asked.Asked.{Asked}
use Rattle.sno_serve.specs.declared.asked.Asked.TheVariants as asks

-- the object with these members, and with the id if there is one
abbrev pub with_id : Option Data → Members → Data
with_id None members = object members
with_id (Some id) members = object (put (codes "id") id members)

-- a reply with a further member
abbrev pub with_further : List ℕ → Data → Data → Data
with_further key value (object members) = object (put key value members)
with_further key value d = d

-- a reply with the names of members of its line that mean nothing there, if there are any
abbrev pub with_ignored : List Data → Data → Data
with_ignored [] d = d
with_ignored (name ∷ names) d = with_further (codes "ignored") (array_of (name ∷ names)) d

-- what is found in statement number s: a message, and which statement it is
abbrev pub finding_data : ℕ → List ℕ → Data
finding_data s message = object (member (codes "message") (string message) (member (codes "place") (string (codes "statement " ++ decimal s)) no_members))

-- a reply with what is found in statement number s, also if that is nothing
abbrev pub with_findings : ℕ → List (List ℕ) → Data → Data
with_findings s messages d = with_further (codes "findings") (array_of (map (finding_data s) messages)) d

-- an object with one member, and with the id
abbrev pub word_reply : Option Data → List ℕ → List ℕ → Data
word_reply id key words = with_id id (member key (string words) no_members)

-- why a statement was refused: the listing's words for its reasons, and a word for each further one
abbrev pub submit_words : SubmitFault → List ℕ
submit_words submit.NoText = reason_words reason.NoText
submit_words submit.TextTooLong = reason_words reason.TextTooLong
submit_words submit.TooManyTrials = reason_words reason.TooManyTrials
submit_words (submit.TriesSpent seen now) = reason_words (reason.TriesSpent seen now)
submit_words submit.GateShut = codes "gate shut"
submit_words submit.Stopped = codes "stopped"
submit_words submit.Full = reason_words reason.Full
submit_words submit.Memory = codes "out of memory"

-- the reply to a statement: its entry, as the listing has it, or the reason why it was refused
abbrev pub submit_reply : Option Data → Reply → Data
submit_reply id (Ok receipt) = with_id id (done_members receipt.index receipt.entry receipt.entry.outcome)
submit_reply id (Err fault) = word_reply id (codes "reason") (submit_words fault)

-- the reply to a statement whose text has another version than the line names: the version that it has
abbrev pub changed_reply : Option Data → ℕ → Data
changed_reply id now = with_id id (member (codes "reason") (string (codes "changed")) (member (codes "version") (count now) no_members))

-- the reply to a statement at one version of its text
abbrev pub at_reply : Option Data → AtResult → Data
at_reply id (Ok receipt) = submit_reply id (Ok receipt)
at_reply id (Err (at.Changed now)) = changed_reply id now
at_reply id (Err (at.Refused fault)) = submit_reply id (Err fault)

-- the reply to a read: the text, as the listing has it
abbrev pub read_reply : Option Data → List ℕ → Snapshot → Data
read_reply id name taken = with_id id (text_members (record { name = name; text = taken.text; version = taken.version }))

-- the reply with these entries
abbrev pub since_reply : Option Data → List Data → Data
since_reply id entries = with_id id (member (codes "entries") (array_of entries) no_members)

-- why a text could not be looked at
abbrev pub look_words : SnapshotFault → List ℕ
look_words snapshot.NoText = codes "no text"
look_words snapshot.Stopped = codes "stopped"
look_words snapshot.Memory = codes "out of memory"

-- the reply to a read by what the seat's snapshot gave
abbrev pub look_reply : Option Data → List ℕ → Result Snapshot SnapshotFault → Data
look_reply id name (Ok taken) = read_reply id name taken
look_reply id name (Err fault) = word_reply id (codes "reason") (look_words fault)

-- a text as it is listed: its length, its name and its version
abbrev pub row_data : List ℕ → List ℕ → ℕ → Data
row_data name text version = object (member (codes "length") (count (length text)) (member (codes "name") (string name) (member (codes "version") (count version) no_members)))

-- texts in order, with their names
abbrev pub rows_data : List (List ℕ) → List Snapshot → List Data
rows_data [] taken = []
rows_data (name ∷ names) [] = []
rows_data (name ∷ names) (one ∷ taken) = row_data name one.text one.version ∷ rows_data names taken

-- the reply with these texts as they are listed
abbrev pub rows_reply : Option Data → List Data → Data
rows_reply id rows = with_id id (member (codes "texts") (array_of rows) no_members)

-- the reply with the texts, by what the seat's snapshots gave
abbrev pub texts_reply : Option Data → List (List ℕ) → Result (List Snapshot) SnapshotFault → Data
texts_reply id names (Ok taken) = rows_reply id (rows_data names taken)
texts_reply id names (Err fault) = word_reply id (codes "reason") (look_words fault)

-- why there is no text as it was at a version: the opening has no text of that name, at some place, or it never had that version
abbrev pub missing_words : Option ℕ → List ℕ
missing_words None = codes "no text"
missing_words (Some place) = codes "no version"

-- the reply to a read of a text as it was at a version
abbrev pub read_at_reply : Option Data → List ℕ → ℕ → Option ℕ → Option (List ℕ) → Data
read_at_reply id name version place None = word_reply id (codes "reason") (missing_words place)
read_at_reply id name version place (Some text) = with_id id (text_members (record { name = name; text = text; version = version }))

-- the reply to a statement that was only tried: what its entry would be if it came next, or the reason why it would be refused
abbrev pub check_reply : Option Data → ℕ → Result Proposal SubmitFault → Data
check_reply id index (Ok p) = with_id id (put (codes "check") (boolean true) (done_members index (entry_of p) p.outcome))
check_reply id index (Err fault) = word_reply id (codes "reason") (submit_words fault)

-- the reason for which the listing has a refused statement, if it is one of its reasons
abbrev pub reason_in : SubmitFault → Option Reason
reason_in submit.NoText = Some reason.NoText
reason_in submit.TextTooLong = Some reason.TextTooLong
reason_in submit.TooManyTrials = Some reason.TooManyTrials
reason_in (submit.TriesSpent seen now) = Some (reason.TriesSpent seen now)
reason_in submit.GateShut = None
reason_in submit.Stopped = None
reason_in submit.Full = Some reason.Full
reason_in submit.Memory = None

abbrev pub refusal_by : ℕ → Option Reason → Option Refusal
refusal_by s None = None
refusal_by s (Some r) = Some (record { number = s; reason = r })

-- what the listing has of a refused statement with this number
abbrev pub refusal_in : ℕ → Reply → Option Refusal
refusal_in s (Ok receipt) = None
refusal_in s (Err fault) = refusal_by s (reason_in fault)

-- what the listing has of a statement that was to be performed at one version: nothing if its text has another version
abbrev pub at_refusal : ℕ → AtResult → Option Refusal
at_refusal s (Ok receipt) = None
at_refusal s (Err (at.Changed now)) = None
at_refusal s (Err (at.Refused fault)) = refusal_by s (reason_in fault)

-- no journal has an entry past the highest index
abbrev pub capped : ℕ → ℕ
capped n = if nat_lt n MAX_INDEX then n else MAX_INDEX

-- a submit by the seat, with its reply and what the listing has of its refusal
pub record IsPerformed (tries : ℕ) (opening : Opening) (before after : List Entry) (id : Option Data) (s : Statement) (d : Data) (refused : Option Refusal) : Type 0 where
  pub returned : Reply
  pub allowed : IsReply (λ _ _. ⊥) tries opening s returned
  pub at : IsReplyAt tries opening before after s returned
  pub reply : d ≡ submit_reply id returned
  pub refusal : refused ≡ refusal_in s.number returned

-- one attempt by the seat at a version of the text, with its reply and what the listing has of its refusal
pub record IsPerformedAt (opening : Opening) (before after : List Entry) (id : Option Data) (s : Statement) (version : ℕ) (d : Data) (refused : Option Refusal) : Type 0 where
  pub gave : AtResult
  pub attempt : IsResultAt opening before after s version gave
  pub reply : d ≡ at_reply id gave
  pub refusal : refused ≡ at_refusal s.number gave

-- a snapshot by the seat, with its reply
pub record IsLooked (opening : Opening) (after : List Entry) (id : Option Data) (name : List ℕ) (d : Data) : Type 0 where
  pub taken : Result Snapshot SnapshotFault
  pub gives : GivesSeen taken opening after name
  pub reply : d ≡ look_reply id name taken

-- snapshots of all texts by the seat at one moment, with the reply
pub record IsListed (opening : Opening) (after : List Entry) (id : Option Data) (d : Data) : Type 0 where
  pub gave : Result (List Snapshot) SnapshotFault
  pub gives : GivesAll gave opening after (names_in opening.texts)
  pub reply : d ≡ texts_reply id (names_in opening.texts) gave

-- the reply to a statement that was only tried, which also has what is found in the statement
pub record IsNoted (id : Option Data) (index : ℕ) (s : Statement) (gave : Result Proposal SubmitFault) (d : Data) : Type 0 where
  pub messages : List (List ℕ)
  pub reply : d ≡ with_findings s.number messages (check_reply id index gave)

-- what the statement would do to its text as the seat sees it, with the reply
pub record IsTried (opening : Opening) (after : List Entry) (id : Option Data) (s : Statement) (d : Data) : Type 0 where
  pub gave : Result Proposal SubmitFault
  pub gives : GivesProposed gave opening after s
  pub noted : IsNoted id (length after) s gave d

-- the bytes are a line that has the value: compact JSON, and a line feed. The text of a value with a float isn't fixed
pub record IsLine (d : Data) (bytes : List ℕ) : Type 0 where
  pub text : List ℕ
  pub ended : bytes ≡ text ++ 10 ∷ []
  pub compact : has_float d ≡ false → text ≡ compact_text d

-- the reply to a line that is too long
abbrev pub too_long_reply : Data
too_long_reply = word_reply None (codes "error") (codes "longer than 16777216 bytes")

-- some words say why the line can't be read
pub record IsFaulted (id : Option Data) (d : Data) : Type 0 where
  pub words : List ℕ
  pub reply : d ≡ word_reply id (codes "error") words

-- the reply to what was asked at a seat: what it had seen before, and has seen now
abbrev pub IsReplied : ℕ → Opening → List Entry → List Entry → Option Data → Asked → Data → Option Refusal → Type 0
IsReplied tries opening before after id (asks.Perform s) d refused = IsPerformed tries opening before after id s d refused
IsReplied tries opening before after id (asks.PerformAt s version) d refused = IsPerformedAt opening before after id s version d refused
IsReplied tries opening before after id (asks.Check s) d refused = IsTried opening after id s d × (refused ≡ None)
IsReplied tries opening before after id (asks.ReadAt name version) d refused =
    ((d ≡ read_at_reply id name version (place_in opening name) (text_at_version opening after name version)) ⊎ (d ≡ word_reply id (codes "reason") (codes "stopped"))) × (refused ≡ None)
IsReplied tries opening before after id asks.Texts d refused = IsListed opening after id d × (refused ≡ None)
IsReplied tries opening before after id (asks.Read name) d refused = IsLooked opening after id name d × (refused ≡ None)
IsReplied tries opening before after id (asks.Since excerpt) d refused =
    ((d ≡ since_reply id (excerpt_of excerpt (capped excerpt.from) after)) ⊎ (d ≡ word_reply id (codes "reason") (codes "stopped"))) × (refused ≡ None)
IsReplied tries opening before after id (asks.Fault fault) d refused = IsFaulted id d × (refused ≡ None)
