-- What a proposal that nothing refuses does to a book.
use Rattle.std.proofs.Common.{◌≡◌, ◌≢◌, ℕ, zero, suc, ◌+◌, ◌<◌, ◌≤◌, ◌^◌, Bool, true, false, cond, nat_eq, List, [], ◌∷◌, length, Option, Some, None, Ok, slice_get, refl, ap, sym, subst, ◌∙◌, arith}
use Rattle.std.proofs.lemmas.Bool.{eqb-true, eqb-false, eq-eqb}
use Rattle.std.proofs.lemmas.List.{length-append}
use Rattle.std.proofs.Math.ListN.{length-map}
use Rattle.std.specs.Arc.{arc_value}
use Rattle.sno_pattern.specs.Identifiers.{same}
use Rattle.sno_statement.specs.Perform.{perform}
use Rattle.sno_book.specs.States.{VersionedText, State, find, renew_by}
use Rattle.sno_book.specs.Entries.{after_of}
use Rattle.sno_book.specs.Journals.{HasStep}
use Rattle.sno_book.specs.Openings.{Opening, IsOpening, names_in, start, place_in}
use Rattle.sno_book.specs.Views.{View, state_of, and_then}
use Rattle.sno_book.specs.Books.{Book, view_of}
use Rattle.sno_book.specs.Proposals.{Proposal, entry_of}
use Rattle.sno_book.specs.Commits.{full, beside, at_place, refusal}
use Rattle.sno_book.specs.VersionedTexts.{Keeps, with_names}
use Rattle.sno_book.specs.Starts.{contents, first_contents}
use Rattle.sno_book.specs.declared.faults.CommitFault.{CommitFault}
use Rattle.sno_book.specs.declared.faults.CommitFault.TheVariants.{NoText}
use Rattle.sno_book.specs.declared.versioned_texts.VersionedText.{VersionedText as StoredText}
use Rattle.sno_book.proofs.Places.{stands_at, stands_inside, find_held, find_none, get_at, held_small}
use Rattle.sno_book.proofs.Steps.{replay_snoc, legal_snoc, below_replayed, below_started, VersionsBelow}

-- what holds if nothing refuses the proposal
pub record IsFree (v : View) (p : Proposal) : Type 0 where
  pub versioned : VersionedText
  pub placed : place_in v.opening p.statement.text ≡ Some p.place
  pub there : slice_get (state_of v) p.place ≡ Some versioned
  pub version : p.version ≡ versioned.version
  pub room : length v.journal ≢ v.opening.room

some_never : {A : Type 0} (b : Bool) (x : A) → cond b (Some x) None ≡ None → b ≡ false
some_never true x h = cc
some_never false x h = refl

room_free : (v : View) → full v ≡ None → length v.journal ≢ v.opening.room
room_free v h = eqb-false (length v.journal) v.opening.room (some_never (nat_eq (length v.journal) v.opening.room) _ h)

beside_if : (v : View) (a : Bool) (g : CommitFault) → cond a (full v) (Some g) ≡ None → (a ≡ true) × (full v ≡ None)
beside_if v true g h = (refl, h)
beside_if v false g h = cc

beside_free : (v : View) (p : Proposal) (o : Option VersionedText) → place_in v.opening p.statement.text ≡ Some p.place → slice_get (state_of v) p.place ≡ o → beside v p o ≡ None → IsFree v p
beside_free v p None placed there h = cc
beside_free v p (Some versioned) placed there h =
    let bs = beside_if v (nat_eq p.version versioned.version) _ h in
    record {
      versioned = versioned;
      placed = placed;
      there = there;
      version = eqb-true p.version versioned.version bs.0;
      room = room_free v bs.1;
    }

place_if : (v : View) (p : Proposal) (place : ℕ) (b : Bool) → nat_eq place p.place ≡ b → place_in v.opening p.statement.text ≡ Some place
    → cond b (beside v p (slice_get (state_of v) place)) (Some NoText) ≡ None → IsFree v p
place_if v p place true is placed h =
    let same : place ≡ p.place = eqb-true place p.place is in
    beside_free v p (slice_get (state_of v) p.place) (placed ∙ ap (λ (x : ℕ). Some x) same) refl
    (subst (λ x. beside v p (slice_get (state_of v) x) ≡ None) same h)
place_if v p place false is placed h = cc

place_free : (v : View) (p : Proposal) (o : Option ℕ) → place_in v.opening p.statement.text ≡ o → at_place v p o ≡ None → IsFree v p
place_free v p None placed h = cc
place_free v p (Some place) placed h = place_if v p place (nat_eq place p.place) refl placed h

pub free : (v : View) (p : Proposal) → refusal v p ≡ None → IsFree v p
free v p h = place_free v p (place_in v.opening p.statement.text) refl h

-- the entry has a step from the book's texts
pub free_step : (v : View) (p : Proposal) (stored : List StoredText) → Keeps v stored → (is_free : IsFree v p) → perform p.statement is_free.versioned.text ≡ Ok p.outcome
    → HasStep (state_of v) (entry_of p)
free_step v p stored keeps is_free performed =
    let names = names_in v.opening.texts in
    let at = stands_at p.statement.text p.place names is_free.placed in
    let there : slice_get (with_names names stored) p.place ≡ Some is_free.versioned = ap (λ (s : State). slice_get s p.place) keeps.texts ∙ is_free.there in
    let found : find p.statement.text (with_names names stored) ≡ Some is_free.versioned = find_held p.statement.text p.place names stored is_free.versioned at there in
    record {
      versioned = is_free.versioned;
      found = ap (λ (s : State). find p.statement.text s) (sym keeps.texts) ∙ found;
      at_version = sym is_free.version;
      performed = performed;
    }

-- the book with one more entry
pub keeps_more : (v : View) (p : Proposal) (old new : List StoredText) → Keeps v old → (is_free : IsFree v p) → perform p.statement is_free.versioned.text ≡ Ok p.outcome
    → with_names (names_in v.opening.texts) new ≡ renew_by p.statement.text (after_of p.outcome) (with_names (names_in v.opening.texts) old) → length new ≡ length old
    → Keeps (and_then v (entry_of p)) new
keeps_more v p old new keeps f performed put as_many =
    let step = free_step v p old keeps f performed in
    record {
      valid = record {
        opening = keeps.valid.opening;
        legal = legal_snoc (start v.opening) v.journal (entry_of p) keeps.valid.legal step;
        within = omega (arith, length-append v.journal (entry_of p ∷ []), keeps.valid.within, f.room);
      };
      texts = put ∙ ap (λ (s : State). renew_by p.statement.text (after_of p.outcome) s) keeps.texts ∙ sym (replay_snoc (start v.opening) v.journal (entry_of p));
      as_many = as_many ∙ keeps.as_many;
    }

-- the place of a name is less than the number of texts
pub place_inside : (b : Book) (stored : List StoredText) (name : List ℕ) (k : ℕ) → Keeps (view_of b) stored → place_in b.opening name ≡ Some k → k < length stored
place_inside b stored name k keeps placed =
    let inside = stands_inside name k (names_in b.opening.texts) (stands_at name k (names_in b.opening.texts) placed) in
    omega (arith, inside, keeps.as_many, length-map b.opening.texts (λ (t : List ℕ × List ℕ). t.0))

-- the text at that place is the text of that name
pub stands_there : (b : Book) (stored : List StoredText) (name : List ℕ) (k : ℕ) (s : StoredText) → Keeps (view_of b) stored → place_in b.opening name ≡ Some k
    → slice_get stored k ≡ Some s → slice_get (state_of (view_of b)) k ≡ Some (record { name = name; text = arc_value s.text; version = s.version })
stands_there b stored name k s keeps placed there =
    ap (λ (l : State). slice_get l k) (sym keeps.texts) ∙ get_at name k (names_in b.opening.texts) stored s (stands_at name k (names_in b.opening.texts) placed) there

-- and it is what is found by the name
pub found_there : (b : Book) (stored : List StoredText) (name : List ℕ) (k : ℕ) (s : StoredText) → Keeps (view_of b) stored → place_in b.opening name ≡ Some k
    → slice_get stored k ≡ Some s → find name (state_of (view_of b)) ≡ Some (record { name = name; text = arc_value s.text; version = s.version })
found_there b stored name k s keeps placed there =
    let names = names_in b.opening.texts in
    let at = stands_at name k names placed in
    ap (λ (l : State). find name l) (sym keeps.texts) ∙ find_held name k names stored _ at (get_at name k names stored s at there)

-- if no text has the name, `find` returns `None`
pub found_none : (b : Book) (stored : List StoredText) (name : List ℕ) → Keeps (view_of b) stored → place_in b.opening name ≡ None → find name (state_of (view_of b)) ≡ None
found_none b stored name keeps none =
    ap (λ (l : State). find name l) (sym keeps.texts) ∙ find_none name 0 (names_in b.opening.texts) stored none

-- no version of a valid book is higher than the number of entries
pub version_small : (v : View) (stored : List StoredText) (k : ℕ) (s : StoredText) → Keeps v stored → slice_get stored k ≡ Some s → s.version ≤ length v.journal
version_small v stored k s keeps there =
    let start_below : VersionsBelow 0 (start v.opening) = below_started v.opening.texts v.opening.room in
    let below = below_replayed 0 (start v.opening) v.journal start_below in
    let versioned : VersionsBelow (0 + length v.journal) (with_names (names_in v.opening.texts) stored) = subst (λ l. VersionsBelow (0 + length v.journal) l) (sym keeps.texts) below in
    let few : length stored ≤ length (names_in v.opening.texts) = omega (arith, keeps.as_many, length-map v.opening.texts (λ (t : List ℕ × List ℕ). t.0)) in
    let small = held_small (0 + length v.journal) k (names_in v.opening.texts) stored s there few versioned in omega (arith, small)

-- the version of a stored text may be raised
pub version_rises : (v : View) (stored : List StoredText) (k : ℕ) (s : StoredText) → Keeps v stored → slice_get stored k ≡ Some s → s.version + 1 < 2 ^ 64
version_rises v stored k s keeps there =
    let small = version_small v stored k s keeps there in omega (arith, small, keeps.valid.within, keeps.valid.opening.room)

place_is : (v : View) (p : Proposal) (place : ℕ) (b : Bool) → b ≡ true → cond b (beside v p (slice_get (state_of v) place)) (Some NoText) ≡ beside v p (slice_get (state_of v) place)
place_is v p place true h = refl
place_is v p place false h = cc

-- why a proposal is refused if its text is at its place
pub refusal_there : (v : View) (p : Proposal) (place : ℕ) (versioned : VersionedText) → place_in v.opening p.statement.text ≡ Some place → place ≡ p.place
    → slice_get (state_of v) place ≡ Some versioned → refusal v p ≡ beside v p (Some versioned)
refusal_there v p place versioned placed same there =
    ap (λ (o : Option ℕ). at_place v p o) placed ∙ place_is v p place (nat_eq place p.place) (eq-eqb place p.place same) ∙ ap (λ (o : Option VersionedText). beside v p o) there

-- ---- a book without entries
held_first : (texts : List (List ℕ × List ℕ)) (room : ℕ) (stored : List StoredText) → contents stored ≡ first_contents texts
    → with_names (names_in texts) stored ≡ start (record { texts = texts; room = room })
held_first [] room [] h = refl
held_first [] room (s ∷ stored) h = cc
held_first (t ∷ texts) room [] h = cc
held_first (t ∷ texts) room (s ∷ stored) h =
    let head : ◌≡◌ {A = List ℕ × ℕ} (arc_value s.text, s.version) (t.1, 0) = cc in
    let rest : contents stored ≡ first_contents texts = cc in
    let tail = held_first texts room stored rest in
    λ i. record { name = t.0; text = (head i).0; version = (head i).1 } ∷ tail i

first_many : (texts : List (List ℕ × List ℕ)) (stored : List StoredText) → contents stored ≡ first_contents texts → length stored ≡ length texts
first_many texts stored h =
    sym (length-map {B = List ℕ × ℕ} stored (λ (s : StoredText). (arc_value s.text, s.version))) ∙ ap (λ (l : List (List ℕ × ℕ)). length l) h
    ∙ length-map {B = List ℕ × ℕ} texts (λ (t : List ℕ × List ℕ). (t.1, 0))

pub keeps_first : (opening : Opening) (stored : List StoredText) → IsOpening opening → contents stored ≡ first_contents opening.texts
    → Keeps (record { opening = opening; journal = [] }) stored
keeps_first opening stored is_opening h = record {
  valid = record { opening = is_opening; legal = tt; within = omega arith };
  texts = held_first opening.texts opening.room stored h;
  as_many = first_many opening.texts stored h;
}

-- ---- a text by its place
row_held : (k : ℕ) (texts : List (List ℕ × List ℕ)) (stored : List StoredText) (t : List ℕ × List ℕ) (s : StoredText) → slice_get texts k ≡ Some t → slice_get stored k ≡ Some s
    → slice_get (with_names (names_in texts) stored) k ≡ Some (record { name = t.0; text = arc_value s.text; version = s.version })
row_held k [] stored t s row there = cc
row_held k (u ∷ texts) [] t s row there = cc
row_held zero (u ∷ texts) (x ∷ stored) t s row there = let a : u ≡ t = cc in let b : x ≡ s = cc in λ i. Some (record { name = (a i).0; text = arc_value (b i).text; version = (b i).version })
row_held (suc k) (u ∷ texts) (x ∷ stored) t s row there = row_held k texts stored t s row there

pub row_there : (b : Book) (stored : List StoredText) (k : ℕ) (t : List ℕ × List ℕ) (s : StoredText) → Keeps (view_of b) stored → slice_get b.opening.texts k ≡ Some t
    → slice_get stored k ≡ Some s → slice_get (state_of (view_of b)) k ≡ Some (record { name = t.0; text = arc_value s.text; version = s.version })
row_there b stored k t s keeps row there = ap (λ (l : State). slice_get l k) (sym keeps.texts) ∙ row_held k b.opening.texts stored t s row there

row_short : (k : ℕ) (texts : List (List ℕ × List ℕ)) (stored : List StoredText) → slice_get texts k ≡ None → slice_get (with_names (names_in texts) stored) k ≡ None
row_short k [] stored row = refl
row_short k (t ∷ texts) [] row = refl
row_short zero (t ∷ texts) (s ∷ stored) row = cc
row_short (suc k) (t ∷ texts) (s ∷ stored) row = row_short k texts stored row

pub row_none : (b : Book) (stored : List StoredText) (k : ℕ) → Keeps (view_of b) stored → slice_get b.opening.texts k ≡ None → slice_get (state_of (view_of b)) k ≡ None
row_none b stored k keeps row = ap (λ (l : State). slice_get l k) (sym keeps.texts) ∙ row_short k b.opening.texts stored row

inside_row : (k : ℕ) (texts : List (List ℕ × List ℕ)) (t : List ℕ × List ℕ) → slice_get texts k ≡ Some t → k < length texts
inside_row k [] t row = cc
inside_row zero (u ∷ texts) t row = omega arith
inside_row (suc k) (u ∷ texts) t row = let h = inside_row k texts t row in omega (arith, h)

pub row_inside : (b : Book) (stored : List StoredText) (k : ℕ) (t : List ℕ × List ℕ) → Keeps (view_of b) stored → slice_get b.opening.texts k ≡ Some t → k < length stored
row_inside b stored k t keeps row = let h = inside_row k b.opening.texts t row in omega (arith, h, keeps.as_many)

held_many : (names : List (List ℕ)) (stored : List StoredText) → length stored ≡ length names → length stored ≡ length (with_names names stored)
held_many [] [] h = refl
held_many [] (s ∷ stored) h = absurd (omega (arith, h))
held_many (n ∷ names) [] h = refl
held_many (n ∷ names) (s ∷ stored) h = let rest = held_many names stored (omega (arith, h)) in omega (arith, rest)

-- the state has as many texts as the book stores
pub state_many : (b : Book) (stored : List StoredText) → Keeps (view_of b) stored → length stored ≡ length (state_of (view_of b))
state_many b stored keeps =
    held_many (names_in b.opening.texts) stored (keeps.as_many ∙ sym (length-map {B = List ℕ} b.opening.texts (λ (t : List ℕ × List ℕ). t.0)))
    ∙ ap (λ (l : State). length l) keeps.texts
