-- The first line of a store that goes on from another one, and the listing of one that does.
use Rattle.std.specs.Prelude.{◌≡◌, ◌-◌, ◌++◌, ℕ, List, [], ◌∷◌, Option, Some, None, codes, map, length}
use Rattle.serde_json.specs.Data.{Data, number, unsigned, object, Members, no_members, put}
use Rattle.serde_json.specs.Read.{read}
use Rattle.serde_json.specs.View.{view}
use Rattle.serde_json.specs.Written.{compact_text}
use Rattle.sno_book.specs.States.{VersionedText}
use Rattle.sno_book.specs.Views.{View, state_of}
use Rattle.sno_listing.specs.History.{History}
use Rattle.sno_listing.specs.JsonListing.{array_of, text_data, json_listing, json_listing_data}
use Rattle.sno_serve.specs.Replies.{with_further}
use Rattle.sno_durable.specs.Past.{higher, shown, version_in}
use Rattle.sno_durable.specs.Records.{later_data, past_data}
use Rattle.sno_durable.specs.declared.records.Before.{Before}
use Rattle.sno_durable.specs.declared.records.Origin.{Origin}

-- how many entries and statements came before a store, and the versions that its texts had: none, if it was made of a document
abbrev pub entries_before : Option Before → ℕ
entries_before None = 0
entries_before (Some before) = before.past.entries

abbrev pub statements_before : Option Before → ℕ
statements_before None = 0
statements_before (Some before) = before.past.statements

abbrev pub versions_before : Option Before → Data
versions_before None = object no_members
versions_before (Some before) = view before.past.versions

-- the document that a store was made of, or the first of those that it goes on from
abbrev pub made_of : List ℕ → Option Before → List ℕ
made_of document None = document
made_of document (Some before) = before.made_of.items

-- the version that a text has, after that which it had before, is put under its name
abbrev pub with_version : Data → List ℕ → ℕ → Members → Members
with_version before name version members = put name (number (unsigned (higher (version_in before name) version))) members

-- the version that each text has, after those that came before: members by the texts' names
abbrev pub versions_after : Data → Members → List VersionedText → Members
versions_after before members [] = members
versions_after before members (held ∷ texts) = versions_after before (with_version before held.name held.version members) texts

-- a document as it is with these texts, and without statements
abbrev pub document_after : Data → List VersionedText → Data
document_after d texts = with_further (codes "statements") (array_of []) (with_further (codes "texts") (array_of (map text_data texts)) d)

-- the bytes are a text of JSON with the document that others were, as it is with these texts
pub record IsDocumentAfter (document : List ℕ) (texts : List VersionedText) (bytes : List ℕ) : Type 0 where
  pub old : Data
  pub was : read document ≡ Some old
  pub written : read bytes ≡ Some (document_after old texts)

-- what came before a store that goes on from one after which these texts and entries are left, and whose next statement has this number
abbrev pub past_after : Option Before → ℕ → View → Data
past_after before next v =
    past_data (higher (entries_before before) (length v.journal)) (next - 1) (object (versions_after (versions_before before) no_members (state_of v)))

-- the line is the first one of a store that goes on from such a store: its document has the texts as they are and no statements, and
-- what came before is counted
pub record GoesOn (origin : Origin) (next : ℕ) (v : View) (line : List ℕ) : Type 0 where
  pub document : List ℕ
  pub written : IsDocumentAfter origin.document.items (state_of v) document
  pub first : read line ≡ Some (later_data document origin.trials (made_of origin.document.items origin.before) (past_after origin.before next v))

-- the listing of a store, after this number of entries and these versions of its texts
abbrev pub listing_shown : ℕ → Data → History → List ℕ
listing_shown entries versions h = compact_text (shown entries versions 0 (json_listing_data h)) ++ 10 ∷ []

-- the listing of a store: indices and versions go on from what came before
abbrev pub listing_after : Option Before → History → List ℕ
listing_after None h = json_listing h
listing_after (Some before) h = listing_shown before.past.entries (view before.past.versions) h
