-- The listing of a run as JSON: an object with the entries, the refused statements and the texts. The members of each
-- object are in the order of their names.
use Rattle.std.specs.Prelude.{ℕ, ◌+◌, true, false, List, [], ◌∷◌, ◌++◌, map, Option, Some, None, codes}
use Rattle.serde_json.specs.Data.{Data, boolean, number, string, array, object, unsigned, Members, no_members, member}
use Rattle.serde_json.specs.View.{items_of}
use Rattle.serde_json.specs.Written.{compact_text}
use Rattle.sno_statement.specs.Bindings.{Bindings}
use Rattle.sno_statement.specs.Perform.{Outcome, Matched, Failed, Repeated, All}
use Rattle.sno_statement.specs.declared.match_lists.Match.{Match}
use Rattle.sno_statement.specs.declared.binding.Datum.{Datum}
use Rattle.sno_statement.specs.declared.binding.Datum.TheVariants.{Str, Int}
use Rattle.sno_book.specs.States.{VersionedText}
use Rattle.sno_book.specs.Entries.{Entry}
use Rattle.sno_listing.specs.History.{History}
use Rattle.sno_listing.specs.Listing.{reason_words}
use Rattle.sno_listing.specs.declared.refusals.Refusal.{Refusal}

-- an unsigned number
abbrev pub count : ℕ → Data
count n = number (unsigned n)

-- an array
abbrev pub array_of : List Data → Data
array_of ds = array (items_of ds)

-- a text: its name, its characters and its version
abbrev pub text_members : VersionedText → Members
text_members held = member (codes "name") (string held.name) (member (codes "text") (string held.text) (member (codes "version") (count held.version) no_members))

unfoldable pub text_data : VersionedText → Data
text_data held = object (text_members held)

-- the value of a variable: a string, or a number
abbrev pub value_data : Datum → Data
value_data (Str t) = string t
value_data (Int n) = count n

-- a variable with its value
unfoldable pub binding_data : List ℕ × Datum → Data
binding_data (name, value) = array_of (string name ∷ value_data value ∷ [])

abbrev pub bindings_data : Bindings → Data
bindings_data bound = array_of (map binding_data bound)

-- what an entry says of its statement: the number, the text's name and the version that it was performed on
unfoldable pub subject_members : Entry → Members
subject_members e =
    member (codes "statement") (count e.statement.number) (member (codes "text") (string e.statement.text) (member (codes "version") (count e.version) no_members))

-- a match: what it bound, where it ended, the entry's index, and where it began
unfoldable pub matched_members : ℕ → Entry → ℕ → ℕ → Bindings → Members
matched_members index e start end bound =
    member (codes "bindings") (bindings_data bound) (member (codes "end") (count end) (member (codes "entry") (count index)
    (member (codes "matched") (boolean true) (member (codes "start") (count start) (subject_members e)))))

-- the new text comes first, if there is one
abbrev pub with_after : Option (List ℕ) → Members → Members
with_after None members = members
with_after (Some text) members = member (codes "after") (string text) members

-- a failure: what it bound, and the entry's index
unfoldable pub failed_members : ℕ → Entry → Bindings → Members
failed_members index e bound =
    member (codes "bindings") (bindings_data bound) (member (codes "entry") (count index) (member (codes "matched") (boolean false) (subject_members e)))

-- a repeated statement that matched: what the last match bound, the entry's index, and how many matches there were
unfoldable pub repeated_members : ℕ → Entry → ℕ → Bindings → Members
repeated_members index e matches bound =
    member (codes "bindings") (bindings_data bound) (member (codes "entry") (count index)
    (member (codes "matched") (boolean true) (member (codes "repeated") (count matches) (subject_members e))))

-- one of all matches: what it bound, where it ended, and where it began
unfoldable pub match_data : Match → Data
match_data m = object (member (codes "bindings") (bindings_data m.bindings) (member (codes "end") (count m.end) (member (codes "start") (count m.start) no_members)))

-- a statement for all matches: the matches, and the entry's index
unfoldable pub all_members : ℕ → Entry → List Match → Members
all_members index e matches =
    member (codes "all") (array_of (map match_data matches)) (member (codes "entry") (count index) (member (codes "matched") (boolean true) (subject_members e)))

abbrev pub done_members : ℕ → Entry → Outcome → Members
done_members index e (Matched start end bound after) = with_after after (matched_members index e start end bound)
done_members index e (Failed bound) = failed_members index e bound
done_members index e (Repeated n bound after) = with_after (Some after) (repeated_members index e n bound)
done_members index e (All matches after) = with_after after (all_members index e matches)

-- an entry of the journal, at its index
abbrev pub entry_data : ℕ → Entry → Data
entry_data index e = object (done_members index e e.outcome)

-- the entries, from an index on
abbrev pub entries_data : ℕ → List Entry → List Data
entries_data index [] = []
entries_data index (e ∷ entries) = entry_data index e ∷ entries_data (index + 1) entries

-- a refused statement: the reason and its number
unfoldable pub refused_data : Refusal → Data
refused_data r = object (member (codes "reason") (string (reason_words r.reason)) (member (codes "statement") (count r.number) no_members))

-- the entries in the journal's order, the refused statements by rising number, and the texts in the document's order
unfoldable pub json_listing_data : History → Data
json_listing_data h =
    object (member (codes "entries") (array_of (entries_data 0 h.journal)) (member (codes "refused") (array_of (map refused_data h.refused))
    (member (codes "texts") (array_of (map text_data h.state)) no_members)))

-- its compact text, and a line feed
abbrev pub json_listing : History → List ℕ
json_listing h = compact_text (json_listing_data h) ++ 10 ∷ []
