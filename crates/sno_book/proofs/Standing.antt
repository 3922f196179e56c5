-- Which texts there are after some entries: those of the opening, each at the place of its name.
use Rattle.std.proofs.Common.{◌≡◌, ◌≢◌, ℕ, zero, suc, ◌+◌, Bool, true, false, cond, List, [], ◌∷◌, map, Option, Some, None, slice_get, refl, ap, sym, ◌∙◌, subst}
use Rattle.std.specs.List.{position_from}
use Rattle.sno_pattern.specs.Identifiers.{same}
use Rattle.sno_pattern.specs.NameList.{place_of}
use Rattle.sno_book.specs.States.{VersionedText, State, find, raise, renew, renew_by}
use Rattle.sno_book.specs.Entries.{Entry, after_of}
use Rattle.sno_book.specs.Journals.{step, replay}
use Rattle.sno_book.specs.Openings.{Opening, names_in, start, place_in}
use Rattle.sno_book.specs.Views.{View, state_of}
use Rattle.sno_book.specs.Books.{Book, view_of}
use Rattle.sno_book.proofs.Places.{StandsAt, stands_at}

abbrev pub names_of : State → List (List ℕ)
names_of state = map (λ t. t.name) state

renewed_if : (b : Bool) (text : List ℕ) (here : VersionedText) (state rest : State) → names_of rest ≡ names_of state
    → names_of (cond b (raise here text ∷ state) (here ∷ rest)) ≡ here.name ∷ names_of state
renewed_if true text here state rest h = refl
renewed_if false text here state rest h = ap (λ (l : List (List ℕ)). here.name ∷ l) h

renewed_names : (name text : List ℕ) (state : State) → names_of (renew name text state) ≡ names_of state
renewed_names name text [] = refl
renewed_names name text (here ∷ state) = renewed_if (same name here.name) text here state (renew name text state) (renewed_names name text state)

renewed_by : (name : List ℕ) (text : Option (List ℕ)) (state : State) → names_of (renew_by name text state) ≡ names_of state
renewed_by name None state = refl
renewed_by name (Some text) state = renewed_names name text state

replayed_names : (state : State) (journal : List Entry) → names_of (replay state journal) ≡ names_of state
replayed_names state [] = refl
replayed_names state (e ∷ journal) = replayed_names (step state e) journal ∙ renewed_by e.statement.text (after_of e.outcome) state

started_names : (texts : List (List ℕ × List ℕ)) (room : ℕ) → names_of (start (record { texts = texts; room = room })) ≡ names_in texts
started_names [] room = refl
started_names (t ∷ texts) room = ap (λ (l : List (List ℕ)). t.0 ∷ l) (started_names texts room)

-- the text of this name is at this place, and no earlier one has the name
pub record Stood (name : List ℕ) (place : ℕ) (state : State) : Type 0 where
  pub held : VersionedText
  pub there : slice_get state place ≡ Some held
  pub found : find name state ≡ Some held

stood : (name : List ℕ) (k : ℕ) (state : State) → StandsAt name (names_of state) k → Stood name k state
stood name k [] h = absurd h
stood name zero (here ∷ state) h = record { held = here; there = refl; found = rw h refl }
stood name (suc k) (here ∷ state) h =
    let later = stood name k state h.1 in record { held = later.held; there = later.there; found = rw (h.0) later.found }

-- the place of a name in the opening is the place of its text after any entries
pub standing : (opening : Opening) (entries : List Entry) (name : List ℕ) (k : ℕ) → place_in opening name ≡ Some k → Stood name k (replay (start opening) entries)
standing opening entries name k h =
    let names = replayed_names (start opening) entries ∙ started_names opening.texts opening.room in
    stood name k (replay (start opening) entries) (subst (λ (l : List (List ℕ)). StandsAt name l k) (sym names) (stands_at name k (names_in opening.texts) h))

-- the names of a book's texts are those of its opening
pub names_kept : (v : View) → names_of (state_of v) ≡ names_in v.opening.texts
names_kept v = replayed_names (start v.opening) v.journal ∙ started_names v.opening.texts v.opening.room

found_at : (name : List ℕ) (k : ℕ) (state : State) → StandsAt name (names_of state) k → find name state ≡ slice_get state k
found_at name k [] h = absurd h
found_at name zero (held ∷ state) h = rw h refl
found_at name (suc k) (held ∷ state) h = rw h.0 (found_at name k state h.1)

none_if : (b : Bool) (i : ℕ) (later : Option ℕ) (held : VersionedText) (rest : Option VersionedText) → cond b (Some i) later ≡ None → (later ≡ None → rest ≡ None)
    → cond b (Some held) rest ≡ None
none_if true i later held rest h more = absurd (cc)
none_if false i later held rest h more = more h

found_none : (name : List ℕ) (i : ℕ) (state : State) → position_from (same name) i (names_of state) ≡ None → find name state ≡ None
found_none name i [] h = refl
found_none name i (held ∷ state) h =
    none_if (same name held.name) i (position_from (same name) (i + 1) (names_of state)) held (find name state) h (found_none name (i + 1) state)

-- `find` returns the text at the place of the name
pub found_by_place : (book : Book) (name : List ℕ) (k : ℕ) → place_of (names_in book.opening.texts) name ≡ Some k
    → find name (state_of (view_of book)) ≡ slice_get (state_of (view_of book)) k
found_by_place book name k placed =
    found_at name k (state_of (view_of book)) (subst (λ l. StandsAt name l k) (sym (names_kept (view_of book))) (stands_at name k (names_in book.opening.texts) placed))

-- for a name without a place `find` returns `None`
pub found_nowhere : (book : Book) (name : List ℕ) → place_of (names_in book.opening.texts) name ≡ None → find name (state_of (view_of book)) ≡ None
found_nowhere book name nowhere = found_none name 0 (state_of (view_of book)) (ap (λ (l : List (List ℕ)). place_of l name) (names_kept (view_of book)) ∙ nowhere)

-- whether `find` returns a text for a name that the opening has, and for one that it lacks
pub is_named : (book : Book) (name : List ℕ) → place_in book.opening name ≢ None → find name (state_of (view_of book)) ≢ None
is_named book name there none = by_place (place_in book.opening name) refl
  where
    by_place : (o : Option ℕ) → place_in book.opening name ≡ o → ⊥
    by_place None is = there is
    by_place (Some k) is = let found = (standing book.opening book.journal name k is).found in cc (found, none)

pub is_nowhere : (book : Book) (name : List ℕ) → place_in book.opening name ≡ None → find name (state_of (view_of book)) ≡ None
is_nowhere book name nowhere = found_nowhere book name nowhere
