-- What several seats leave for the disk, and what of it can be written.
use Rattle.std.specs.Prelude.{◌≡◌, ◌+◌, ◌-◌, ◌≤◌, ◌++◌, ℕ, List, [], ◌∷◌, Option, Some, None, codes, length, map, nat_le, nat_lt, ⊤, if◌then◌else◌}
use Rattle.std.specs.BTreeMap.{insert_entry}
use Rattle.std.specs.Map.{lookup, remove_entry}
use Rattle.std.specs.Ordering.{is_eq, nat_cmp}
use Rattle.std.specs.declared.vec.Vec.{Vec}
use Rattle.serde_json.specs.Data.{Data}
use Rattle.serde_json.specs.View.{view}
use Rattle.sno_book.specs.Entries.{Entry}
use Rattle.sno_book.specs.Openings.{Opening}
use Rattle.sno_serve.specs.Contents.{content_data}
use Rattle.sno_serve.specs.Replies.{with_ignored}
use Rattle.sno_serve.specs.declared.content.Content.{Content}
use Rattle.sno_serve.specs.declared.content.Content.TheVariants as says
use Rattle.sno_store.specs.declared.lines.Lines.{Lines}
use Rattle.sno_store.specs.Shown.{lines_in}
use Rattle.sno_durable.specs.Past.{number_at}
use Rattle.sno_durable.specs.Performed.{AddsLine, IsReplyTo, asked_now}
use Rattle.sno_durable.specs.Records.{record_text}
use Rattle.sno_durable.specs.declared.earlier.Reading.{Reading}
use Rattle.sno_durable.specs.declared.queue.Held.{Held}

-- what is written of the replies that wait, when this number of entries is on the disk: those that show no later entry, in their order
abbrev pub shown_at : ℕ → List Held → List ℕ
shown_at entries [] = []
shown_at entries (held ∷ later) = if nat_le held.seen entries then held.reply.items ++ shown_at entries later else shown_at entries later

-- the replies that go on waiting then
abbrev pub waiting_at : ℕ → List Held → List Held
waiting_at entries [] = []
waiting_at entries (held ∷ later) = if nat_le held.seen entries then waiting_at entries later else held ∷ waiting_at entries later

-- as many records have come as the index of the next entry has risen
abbrev pub HasTaken : Lines → Lines → ℕ → ℕ → Type 0
HasTaken before after next later = length (lines_in after) + next ≡ length (lines_in before) + later

-- these records are taken out one after the other, each at the next index, and the others stay
abbrev pub AreTaken : {A : Type 0} → ℕ → List (Vec ℕ A) → List (ℕ × Vec ℕ A) → List (ℕ × Vec ℕ A) → Type 0
AreTaken next [] old new = new ≡ old
AreTaken next (r ∷ later) old new = (lookup (λ k. is_eq (nat_cmp next k)) old ≡ Some r) × AreTaken (next + 1) later (remove_entry (λ k. is_eq (nat_cmp next k)) old) new

-- the records from one index up to another, each as it was left there, have come to the lines
pub record HasGiven {A : Type 0} (old new : List (ℕ × Vec ℕ A)) (next later : ℕ) (before after : List (List ℕ)) : Type 0 where
  pub given : List (Vec ℕ A)
  pub joined : after ≡ before ++ map (λ r. r.items) given
  pub risen : later ≡ next + length given
  pub taken : AreTaken next given old new

abbrev pub index_after : ℕ → Option ℕ → Option ℕ
index_after before None = None
index_after before (Some n) = if nat_lt n before then None else Some (n - before)

-- the index at the desk of the entry that a reply shows, if it shows one: that of the receipt, or the one that is written, less how many
-- came before
abbrev pub index_shown : ℕ → Content → Option ℕ
index_shown before (says.Entry id receipt) = Some receipt.index
index_shown before (says.Value v) = index_after before (number_at (codes "entry") (view v))
index_shown before (says.Entries id listed) = None

-- what is left for the disk of a line with this reply and this text of it: nothing, or the line's record with the text, at the index that
-- the reply shows
abbrev pub IsLeft : {A : Type 0} → ℕ → List ℕ → Content → List ℕ → Option (ℕ × Vec ℕ A) → Type 0
IsLeft before line reply text None = ⊤
IsLeft before line reply text (Some r) = (index_shown before reply ≡ Some r.0) × (r.1.items ≡ record_text line text)

-- a seat, which had seen the first entries and has seen the second, performed a line, and leaves this record of it and these bytes for the
-- client: both have the one reply, whose text is in the record, and the record has the line
pub record HasLeft {A : Type 0} (reading : Reading) (tries : ℕ) (opening : Opening) (before after : List Entry) (line : List ℕ) (left : Option (ℕ × Vec ℕ A)) (bytes : List ℕ) : Type 0 where
  pub content : Content
  pub text : List ℕ
  pub reply : IsReplyTo reading tries opening before after line text
  pub limited : reply.asked ≡ asked_now reading reply.number line
  pub same : reply.reply ≡ content_data content
  pub record_left : IsLeft reading.past.entries line content text left
  pub ignored : List Data
  pub added : AddsLine (with_ignored ignored reply.reply) [] bytes

-- a record is put among those that wait, at its index, if there is one
abbrev pub with_left : {A : Type 0} → Option (ℕ × Vec ℕ A) → List (ℕ × Vec ℕ A) → List (ℕ × Vec ℕ A)
with_left None records = records
with_left (Some r) records = insert_entry nat_cmp records r.0 r.1
