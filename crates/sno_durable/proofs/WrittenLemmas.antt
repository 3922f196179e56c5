-- How deep what is written of a store nests, and that it has no float.
use Rattle.std.proofs.Common.{◌≡◌, ◌≤◌, ◌+◌, ℕ, Bool, true, false, ◌||◌, List, [], ◌∷◌, map, Option, Some, None, option_and_then, nat_eq, Ordering, Less, Equal, Greater, refl, subst, sym, ap, ◌∙◌, arith}
use Rattle.std.specs.Prelude.{⊤, codes, if◌then◌else◌}
use Rattle.std.specs.Ordering.{match_ordering}
use Rattle.serde_json.specs.Data.{Data, null, boolean, number, string, array, object, Items, no_items, item, Members, no_members, member, put, depth, items_depth, members_depth}
use Rattle.serde_json.specs.Find.{get, get_member, as_array}
use Rattle.serde_json.specs.Read.{read, max_depth}
use Rattle.serde_json.specs.View.{items_of}
use Rattle.serde_json.specs.Written.{has_float, items_have_float, members_have_float}
use Rattle.serde_json.proofs.Nesting.{depth-read}
use Rattle.sno_book.specs.States.{VersionedText}
use Rattle.sno_listing.specs.History.{History}
use Rattle.sno_listing.specs.JsonListing.{text_data, json_listing_data}
use Rattle.sno_listing.proofs.JsonListingLemmas.{no_float}
use Rattle.sno_serve.specs.Replies.{with_further}
use Rattle.sno_durable.specs.Compacted.{IsDocumentAfter, document_after, versions_after, with_version}
use Rattle.sno_durable.specs.Past.{items_shown, number_at, raised, raised_from, row_shown, rows_in, rows_shown, shown}

ordering_depth : (o : Ordering) (a b c : Members) (n : ℕ) → members_depth a ≤ n → members_depth b ≤ n → members_depth c ≤ n → members_depth (match_ordering o a b c) ≤ n
ordering_depth Less a b c n p q r = p
ordering_depth Equal a b c n p q r = q
ordering_depth Greater a b c n p q r = r

put_depth : (k : List ℕ) (d : Data) (ms : Members) (n : ℕ) → depth d ≤ n → members_depth ms ≤ n → members_depth (put k d ms) ≤ n
put_depth k d no_members n p q = omega arith
put_depth k d (member l e ms) n p q =
    ordering_depth _ (member k d (member l e ms)) (member l d ms) (member l e (put k d ms)) n (omega arith) (omega arith) (omega (arith, put_depth k d ms n p (omega arith)))

further_depth : (k : List ℕ) (d e : Data) (n : ℕ) → depth d ≤ n → depth e ≤ n + 1 → depth (with_further k d e) ≤ n + 1
further_depth k d null n p q = q
further_depth k d (boolean b) n p q = q
further_depth k d (number m) n p q = q
further_depth k d (string s) n p q = q
further_depth k d (array ds) n p q = q
further_depth k d (object ms) n p q = omega (arith, put_depth k d ms n p (omega arith))

versions_depth : (before : Data) (ms : Members) (texts : List VersionedText) → members_depth ms ≤ 0 → members_depth (versions_after before ms texts) ≤ 0
versions_depth before ms [] h = h
versions_depth before ms (held ∷ texts) h = versions_depth before (with_version before held.name held.version ms) texts (put_depth _ _ ms 0 (omega arith) h)

-- versions nest no deeper than one object
pub versions_shallow : (before d : Data) (texts : List VersionedText) → d ≡ object (versions_after before no_members texts) → depth d + 2 ≤ max_depth
versions_shallow before d texts is = subst (λ e. depth e + 2 ≤ max_depth) (sym is) (omega (arith, versions_depth before no_members texts (omega arith)))

text_depth : (t : VersionedText) → depth (text_data t) ≤ 1
unfolding text_data
text_depth t = omega arith

texts_depth : (texts : List VersionedText) → items_depth (items_of (map text_data texts)) ≤ 1
texts_depth [] = omega arith
texts_depth (t ∷ texts) = omega (arith, text_depth t, texts_depth texts)

after_depth : (d : Data) (texts : List VersionedText) → depth d ≤ max_depth → depth (document_after d texts) ≤ max_depth
after_depth d texts h =
    further_depth _ _ _ 126 (omega arith) (further_depth _ _ d 126 (omega (arith, texts_depth texts)) h)

-- what is written of the document is read again
pub document_written : (document bytes : List ℕ) (old d : Data) (texts : List VersionedText) → read document ≡ Some old → d ≡ document_after old texts
    → (depth d ≤ max_depth → read bytes ≡ Some d) → IsDocumentAfter document texts bytes
document_written document bytes old d texts was is written = record {
  old = old;
  was = was;
  written = written (subst (λ e. depth e ≤ max_depth) (sym is) (after_depth old texts (depth-read document old was))) ∙ ap Some is;
}

neither : (a b : Bool) → a ≡ false → b ≡ false → (a || b) ≡ false
neither a b h g = λ i. h i || g i

left_off : (a b : Bool) → (a || b) ≡ false → a ≡ false
left_off false b h = refl
left_off true b h = h

right_off : (a b : Bool) → (a || b) ≡ false → b ≡ false
right_off false b h = h
right_off true b h = cc

ordering_float : (o : Ordering) (a b c : Members) → members_have_float a ≡ false → members_have_float b ≡ false → members_have_float c ≡ false → members_have_float (match_ordering o a b c) ≡ false
ordering_float Less a b c p q r = p
ordering_float Equal a b c p q r = q
ordering_float Greater a b c p q r = r

put_float : (k : List ℕ) (d : Data) (ms : Members) → has_float d ≡ false → members_have_float ms ≡ false → members_have_float (put k d ms) ≡ false
put_float k d no_members p q = neither _ false p refl
put_float k d (member l e ms) p q =
    let rest = right_off (has_float e) (members_have_float ms) q in
    ordering_float _ (member k d (member l e ms)) (member l d ms) (member l e (put k d ms)) (neither _ _ p q) (neither _ _ p rest)
    (neither _ _ (left_off (has_float e) (members_have_float ms) q) (put_float k d ms p rest))

further_float : (k : List ℕ) (d e : Data) → has_float d ≡ false → has_float e ≡ false → has_float (with_further k d e) ≡ false
further_float k d null p q = q
further_float k d (boolean b) p q = q
further_float k d (number m) p q = q
further_float k d (string s) p q = q
further_float k d (array ds) p q = q
further_float k d (object ms) p q = put_float k d ms p q

raised_float : (key : List ℕ) (by : ℕ) (d : Data) (n : Option ℕ) → has_float d ≡ false → has_float (raised_from key by d n) ≡ false
raised_float key by d None h = h
raised_float key by d (Some n) h = further_float key _ d refl h

raise_float : (key : List ℕ) (by : ℕ) (d : Data) → has_float d ≡ false → has_float (raised key by d) ≡ false
raise_float key by d h = raised_float key by d (number_at key d) h

row_float : (entries version : ℕ) (d : Data) → has_float d ≡ false → has_float (row_shown entries version d) ≡ false
row_float entries version d h = raise_float (codes "version") version (raised (codes "entry") entries d) (raise_float (codes "entry") entries d h)

rows_float : (entries : ℕ) (versions : Data) (key : List ℕ) (ds : Items) → items_have_float ds ≡ false → items_have_float (items_shown entries versions key ds) ≡ false
rows_float entries versions key no_items h = refl
rows_float entries versions key (item d ds) h =
    neither _ _ (row_float entries _ d (left_off (has_float d) (items_have_float ds) h)) (rows_float entries versions key ds (right_off (has_float d) (items_have_float ds) h))

-- the value, if it is there, has no float
abbrev HasNone : Option Data → Type 0
HasNone None = ⊤
HasNone (Some d) = has_float d ≡ false

ordering_none : (o : Ordering) (a b c : Option Data) → HasNone a → HasNone b → HasNone c → HasNone (match_ordering o a b c)
ordering_none Less a b c p q r = p
ordering_none Equal a b c p q r = q
ordering_none Greater a b c p q r = r

member_none : (key : List ℕ) (ms : Members) → members_have_float ms ≡ false → HasNone (get_member key ms)
member_none key no_members h = tt
member_none key (member l e ms) h =
    let rest = member_none key ms (right_off (has_float e) (members_have_float ms) h) in
    ordering_none _ (get_member key ms) (Some e) (get_member key ms) rest (left_off (has_float e) (members_have_float ms) h) rest

get_none : (key : List ℕ) (d : Data) → has_float d ≡ false → HasNone (get key d)
get_none key null h = tt
get_none key (boolean b) h = tt
get_none key (number n) h = tt
get_none key (string s) h = tt
get_none key (array ds) h = tt
get_none key (object ms) h = member_none key ms h

list_float : (entries : ℕ) (versions : Data) (list key : List ℕ) (d : Data) (found : Option Data) → has_float d ≡ false → HasNone found
    → has_float (rows_in entries versions list key d (option_and_then as_array found)) ≡ false
list_float entries versions list key d None h none = h
list_float entries versions list key d (Some null) h none = h
list_float entries versions list key d (Some (boolean b)) h none = h
list_float entries versions list key d (Some (number n)) h none = h
list_float entries versions list key d (Some (string s)) h none = h
list_float entries versions list key d (Some (array ds)) h none = further_float list _ d (rows_float entries versions key ds none) h
list_float entries versions list key d (Some (object ms)) h none = h

lists_float : (entries : ℕ) (versions : Data) (list key : List ℕ) (d : Data) → has_float d ≡ false → has_float (rows_shown entries versions list key d) ≡ false
lists_float entries versions list key d h = list_float entries versions list key d (get list d) h (get_none list d h)

either_float : (b : Bool) (d e : Data) → has_float d ≡ false → has_float e ≡ false → has_float (if b then d else e) ≡ false
either_float false d e p q = q
either_float true d e p q = p

-- a listing whose numbers go on has no float
pub shown_float : (entries : ℕ) (versions d : Data) (h : History) → d ≡ shown entries versions 0 (json_listing_data h) → has_float d ≡ false
shown_float entries versions d h is =
    let row = row_shown entries 0 (json_listing_data h) in
    let entry_rows = rows_shown entries versions (codes "entries") (codes "text") row in
    ap has_float is
    ∙ either_float (nat_eq entries 0) (json_listing_data h) (rows_shown entries versions (codes "texts") (codes "name") entry_rows) (no_float h)
    (lists_float entries versions (codes "texts") (codes "name") entry_rows
    (lists_float entries versions (codes "entries") (codes "text") row (row_float entries 0 (json_listing_data h) (no_float h))))
