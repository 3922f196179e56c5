-- What the first line of a store says, and what lines mean in a store of which it is said.
use Rattle.std.specs.Prelude.{◌≡◌, ◌⊎◌, ◌^◌, ◌&&◌, ◌||◌, not, ℕ, Bool, true, false, List, [], ◌∷◌, Option, Some, None, Ok, codes, is_some, nat_eq, nat_lt, option_and_then, ⊤, if◌then◌else◌}
use Rattle.std.specs.Arc.{arc_value}
use Rattle.std.specs.Option.{option_map}
use Rattle.std.specs.declared.vec.Vec.{Vec}
use Rattle.serde_json.specs.Data.{Data}
use Rattle.serde_json.specs.Find.{as_object, get}
use Rattle.serde_json.specs.View.{view}
use Rattle.sno_book.specs.Openings.{Opening}
use Rattle.sno_document.specs.Document.{Document, IsDocument}
use Rattle.sno_document.specs.Json.{json_of}
use Rattle.sno_durable.specs.Compacted.{entries_before, made_of, versions_before}
use Rattle.sno_durable.specs.Past.{number_at, string_at}
use Rattle.sno_durable.specs.declared.earlier.Reading.{Reading}
use Rattle.sno_durable.specs.declared.faults.DurableFault.{DurableFault}
use Rattle.sno_durable.specs.declared.faults.DurableFault.TheVariants as fault
use Rattle.sno_durable.specs.declared.past.Past.{Past}
use Rattle.sno_durable.specs.declared.records.Before.{Before}
use Rattle.sno_durable.specs.declared.records.Origin.{Origin}
use Rattle.sno_durable.specs.declared.records.TheConstants.{FORMAT, LATER_PLAIN_FORMAT, PLAIN_FORMAT}
use Rattle.sno_durable.specs.declared.service.Given.{Given}

-- what is said that came before: how many entries and statements, and the versions that texts had
pub record PastSaid : Type 0 where
  pub entries : ℕ
  pub statements : ℕ
  pub versions : Data

-- the same of stores that the first of them was made of this document
pub record BeforeSaid : Type 0 where
  pub made_of : List ℕ
  pub past : PastSaid

-- what a first line says: a document, a limit of trials, and what came before, if something did
pub record OriginSaid : Type 0 where
  pub document : List ℕ
  pub trials : ℕ
  pub before : Option BeforeSaid

abbrev pub past_seen : Past → PastSaid
past_seen p = record { entries = p.entries; statements = p.statements; versions = view p.versions }

abbrev pub before_seen : Before → BeforeSaid
before_seen b = record { made_of = b.made_of.items; past = past_seen b.past }

abbrev pub origin_seen : Origin → OriginSaid
origin_seen o = record { document = o.document.items; trials = o.trials; before = option_map before_seen o.before }

-- a number of at most 32 bits
abbrev pub small : ℕ → Option ℕ
small n = if nat_lt n (2 ^ 32) then Some n else None

abbrev pub small_at : List ℕ → Data → Option ℕ
small_at key d = option_and_then small (number_at key d)

-- a member that is an object
abbrev pub object_in : Option Data → Option Data
object_in None = None
object_in (Some d) = if is_some (as_object d) then Some d else None

abbrev pub past_by : Option ℕ → Option ℕ → Option Data → Option PastSaid
past_by None statements versions = None
past_by (Some entries) None versions = None
past_by (Some entries) (Some statements) None = None
past_by (Some entries) (Some statements) (Some versions) = Some (record { entries = entries; statements = statements; versions = versions })

-- what a member says that came before, if it says all of it
abbrev pub past_said : Data → Option PastSaid
past_said d = past_by (number_at (codes "entries") d) (small_at (codes "statements") d) (object_in (get (codes "versions") d))

abbrev pub before_by : Option (List ℕ) → Option PastSaid → Option BeforeSaid
before_by None past = None
before_by (Some document) None = None
before_by (Some document) (Some past) = Some (record { made_of = document; past = past })

abbrev pub before_said : Data → Option BeforeSaid
before_said d = before_by (string_at (codes "made_of") d) (option_and_then past_said (get (codes "past") d))

-- whether there are lines of this format that say that something came before, or that nothing did
abbrev pub is_known : Option ℕ → Bool → Bool
is_known None goes_on = false
is_known (Some format) goes_on = nat_eq format FORMAT || (nat_eq format PLAIN_FORMAT && not goes_on) || (nat_eq format LATER_PLAIN_FORMAT && goes_on)

abbrev pub origin_by : Bool → Option (List ℕ) → Option ℕ → Option BeforeSaid → Option OriginSaid
origin_by false document trials before = None
origin_by true None trials before = None
origin_by true (Some document) None before = None
origin_by true (Some document) (Some trials) before = Some (record { document = document; trials = trials; before = before })

-- what a value says as the first line of a store, if it is one
abbrev pub origin_said : Data → Option OriginSaid
origin_said d =
    origin_by (is_known (number_at (codes "nomyake") d) (is_some (before_said d))) (string_at (codes "document") d) (small_at (codes "trials") d) (before_said d)

-- the same of bytes
abbrev pub origin_in : List ℕ → Option OriginSaid
origin_in bytes = option_and_then origin_said (json_of bytes)

-- a store that was opened with these lines was made of what its first line says; before a new one nothing came
abbrev pub IsMadeOf : Origin → List (List ℕ) → Type 0
IsMadeOf origin [] = origin.before ≡ None
IsMadeOf origin (first ∷ later) = origin_in first ≡ Some (origin_seen origin)

-- what is given, if something is, is this
abbrev pub IsGiven : {A : Type 0} → Option A → A → Type 0
IsGiven None x = ⊤
IsGiven (Some y) x = y ≡ x

-- the bytes of a document, if one is given
abbrev pub bytes_given : {A : Type 0} → Option (Vec ℕ A) → Option (List ℕ)
bytes_given None = None
bytes_given (Some document) = Some document.items

-- the document that is given is the one that the store, or the first of those that it goes on from, was made of, and so is the limit of trials
abbrev pub Fits : Given → Origin → Type 0
Fits given origin = IsGiven (bytes_given given.document) (made_of origin.document.items origin.before) × IsGiven given.trials origin.trials

-- why a store with this first line isn't served: memory ran out, it isn't a first line, or something else is given than the store was made of
abbrev pub IsOriginFault : Option (List ℕ) → Option ℕ → List ℕ → DurableFault → Type 0
IsOriginFault document trials first e =
    (e ≡ fault.Memory) ⊎ ((e ≡ fault.Format) × (origin_in first ≡ None))
    ⊎ ((origin : Origin) × (origin_in first ≡ Some (origin_seen origin)) × (((e ≡ fault.OtherDocument) × ¬ IsGiven document (made_of origin.document.items origin.before))
    ⊎ ((e ≡ fault.OtherTrials origin.trials) × ¬ IsGiven trials origin.trials)))

-- the same of a store with these lines; a new one needs a document
abbrev pub IsStartFault : Given → List (List ℕ) → DurableFault → Type 0
IsStartFault given [] e = (e ≡ fault.NoDocument) × (bytes_given given.document ≡ None)
IsStartFault given (first ∷ later) e = IsOriginFault (bytes_given given.document) given.trials first e

-- lines mean what they mean for a store's document: its definitions, the limit of trials that was said, numbers that go on from what came
-- before, and a book that begins with the document's texts
pub record IsMeant (origin : Origin) (reading : Reading) (opening : Opening) : Type 0 where
  pub document : Document
  pub is : IsDocument (record { anchor = false; trials = origin.trials }) origin.document.items (Ok document)
  pub mode : reading.mode ≡ record { anchor = false; trials = origin.trials }
  pub rules : arc_value reading.rules ≡ document.rules
  pub texts : opening.texts ≡ document.texts
  pub entries : reading.past.entries ≡ entries_before origin.before
  pub versions : view reading.past.versions ≡ versions_before origin.before
