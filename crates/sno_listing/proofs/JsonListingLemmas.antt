-- What is listed as JSON is ASCII and has no float.
use Rattle.std.proofs.Common.{◌≡◌, ℕ, ◌+◌, Bool, true, false, ◌||◌, List, [], ◌∷◌, ◌++◌, drop, map, Some, None, slice_get, IsTrue, refl, sym, ap, ◌∙◌, arith, append_assoc}
use Rattle.std.specs.List.{list_all}
use Rattle.std.specs.Char.{is_ascii, is_ascii_graphic}
use Rattle.std.specs.Str.{IsAscii, IsUtf8}
use Rattle.std.proofs.lemmas.Bool.{and_from, and_parts, ltb-true}
use Rattle.std.proofs.lemmas.Bool.Decides.{nat_tests}
use Rattle.std.proofs.lemmas.List.{map-append}
use Rattle.std.proofs.lemmas.Str.{IsUtf8-from_ascii}
use Rattle.std.proofs.lemmas.Str.Ascii.{IsAscii-nil, IsAscii-cons}
use Rattle.serde_json.specs.Data.{Data}
use Rattle.serde_json.specs.View.{view, items_of}
use Rattle.serde_json.specs.declared.value.Value.{Value}
use Rattle.serde_json.specs.Written.{has_float, items_have_float}
use Rattle.sno_pattern.specs.Identifiers.{is_letter, is_name_char, is_name}
use Rattle.sno_pattern.specs.TextNames.{is_text_name}
use Rattle.sno_statement.specs.Perform.{Outcome, Matched, Failed, Repeated, All}
use Rattle.sno_statement.specs.declared.match_lists.Match.{Match}
use Rattle.sno_statement.specs.declared.binding.Datum.{Datum}
use Rattle.sno_statement.specs.declared.binding.Datum.TheVariants.{Str, Int}
use Rattle.sno_book.specs.States.{VersionedText}
use Rattle.sno_book.specs.Entries.{Entry}
use Rattle.sno_listing.specs.History.{History}
use Rattle.sno_listing.specs.declared.refusals.Refusal.{Refusal}
use Rattle.sno_listing.proofs.ListingLemmas.{row_next}
use Rattle.sno_listing.specs.JsonListing.{text_data, value_data, binding_data, subject_members, matched_members, failed_members, repeated_members, match_data, all_members, done_members, entries_data, refused_data, json_listing_data}

neither : (a b : Bool) → a ≡ false → b ≡ false → (a || b) ≡ false
neither a b h g = λ i. h i || g i

from_all : (bytes : List ℕ) → IsTrue (list_all is_ascii bytes) → IsAscii bytes
from_all [] h = IsAscii-nil
from_all (b ∷ bytes) h = let p = and_parts (is_ascii b) (list_all is_ascii bytes) h in IsAscii-cons b bytes (ltb-true b 128 p.0) (from_all bytes p.1)

-- ASCII is UTF-8
pub ascii_utf8 : (bytes : List ℕ) → IsTrue (list_all is_ascii bytes) → IsUtf8 bytes
ascii_utf8 bytes h = IsUtf8-from_ascii bytes (from_all bytes h)

wider : (p q : ℕ → Bool) → ((c : ℕ) → p c ≡ true → q c ≡ true) → (bytes : List ℕ) → list_all p bytes ≡ true → list_all q bytes ≡ true
wider p q more [] h = refl
wider p q more (b ∷ bytes) h = let both_hold = and_parts (p b) (list_all p bytes) h in and_from (q b) (list_all q bytes) (more b both_hold.0) (wider p q more bytes both_hold.1)

letter_ascii : (c : ℕ) → is_letter c ≡ true → is_ascii c ≡ true
unfolding is_letter
letter_ascii c h = grind (arith, nat_tests)

name_char_ascii : (c : ℕ) → is_name_char c ≡ true → is_ascii c ≡ true
unfolding is_name_char
name_char_ascii c h = grind (arith, nat_tests)

graphic_ascii : (c : ℕ) → is_ascii_graphic c ≡ true → is_ascii c ≡ true
graphic_ascii c h = grind (arith, nat_tests)

-- the names of variables are ASCII
pub name_ascii : (name : List ℕ) → IsTrue (is_name name) → IsTrue (list_all is_ascii name)
name_ascii [] h = refl
name_ascii (c ∷ cs) h =
    let parts = and_parts (is_letter c) _ h in
    and_from (is_ascii c) (list_all is_ascii cs) (letter_ascii c parts.0) (wider is_name_char is_ascii name_char_ascii cs (and_parts (list_all is_name_char cs) _ parts.1).0)

-- the names of texts are ASCII
pub text_name_ascii : (name : List ℕ) → IsTrue (is_text_name name) → IsTrue (list_all is_ascii name)
text_name_ascii name h = wider is_ascii_graphic is_ascii graphic_ascii name (and_parts _ (list_all is_ascii_graphic name) (and_parts _ _ h).1).1

-- unsigned numbers and strings have no float, nor have values made of them
value_float : (d : Datum) → has_float (value_data d) ≡ false
value_float (Str t) = refl
value_float (Int n) = refl

items_float : {X : Type 0} (f : X → Data) → ((x : X) → has_float (f x) ≡ false) → (xs : List X) → items_have_float (items_of (map f xs)) ≡ false
items_float f h [] = refl
items_float f h (x ∷ xs) = neither (has_float (f x)) _ (h x) (items_float f h xs)

binding_float : (b : List ℕ × Datum) → has_float (binding_data b) ≡ false
unfolding binding_data
binding_float b = neither (has_float (value_data b.1)) false (value_float b.1) refl

match_float : (m : Match) → has_float (match_data m) ≡ false
unfolding match_data
match_float m = neither _ false (items_float binding_data binding_float m.bindings) refl

text_float : (t : VersionedText) → has_float (text_data t) ≡ false
unfolding text_data
text_float t = refl

refused_float : (r : Refusal) → has_float (refused_data r) ≡ false
unfolding refused_data
refused_float r = refl

entry_float : (index : ℕ) (e : Entry) (done : Outcome) → has_float (Data.object (done_members index e done)) ≡ false
unfolding matched_members failed_members repeated_members all_members subject_members
entry_float index e (Matched s t bound None) = neither _ false (items_float binding_data binding_float bound) refl
entry_float index e (Matched s t bound (Some after)) = neither _ false (items_float binding_data binding_float bound) refl
entry_float index e (Failed bound) = neither _ false (items_float binding_data binding_float bound) refl
entry_float index e (Repeated n bound after) = neither _ false (items_float binding_data binding_float bound) refl
entry_float index e (All matches None) = neither _ false (items_float match_data match_float matches) refl
entry_float index e (All matches (Some after)) = neither _ false (items_float match_data match_float matches) refl

entries_float : (index : ℕ) (entries : List Entry) → items_have_float (items_of (entries_data index entries)) ≡ false
entries_float index [] = refl
entries_float index (e ∷ entries) = neither _ _ (entry_float index e e.outcome) (entries_float (index + 1) entries)

-- the listing has no float
pub no_float : (h : History) → has_float (json_listing_data h) ≡ false
unfolding json_listing_data
no_float h =
    neither _ _ (entries_float 0 h.journal)
    (neither _ _ (items_float refused_data refused_float h.refused) (neither _ false (items_float text_data text_float h.state) refl))

-- one more value is added
pub value_step : {A : Type 0} (shown : A → Data) (values new : List Value) (v : Value) (all : List Data) (rows : List A) (i : ℕ) (row : A) → slice_get rows i ≡ Some row
    → new ≡ values ++ v ∷ [] → view v ≡ shown row → map view values ++ map shown (drop i rows) ≡ all
    → map view new ++ map shown (drop (i + 1) rows) ≡ all
value_step shown values new v all rows i row is pushed seen so_far =
    ap (λ (l : List Value). map view l ++ map shown (drop (i + 1) rows)) pushed
    ∙ ap (λ (l : List Data). l ++ map shown (drop (i + 1) rows)) (map-append view values (v ∷ []))
    ∙ append_assoc (map view values) (view v ∷ []) (map shown (drop (i + 1) rows))
    ∙ ap (λ (d : Data). map view values ++ (d ∷ map shown (drop (i + 1) rows))) seen
    ∙ ap (λ (l : List Data). map view values ++ l) (sym (ap (map shown) (row_next rows i row is))) ∙ so_far
