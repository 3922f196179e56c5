-- Stored texts are what some entries leave.
use Rattle.std.proofs.Common.{◌≡◌, ℕ, zero, suc, ◌+◌, ◌<◌, List, [], ◌∷◌, ◌++◌, take, length, set, Option, Some, None, slice_get, refl, ap, sym, ◌∙◌, arith}
use Rattle.std.proofs.lemmas.List.{length-map, map-append}
use Rattle.std.proofs.Common.{Global}
use Rattle.std.specs.declared.sync.Arc.{Arc}
use Rattle.std.specs.Prelude.{slice_index_or}
use Rattle.std.specs.Option.{option_map}
use Rattle.std.specs.Arc.{arc_value}
use Rattle.sno_pattern.specs.NameList.{place_of}
use Rattle.sno_book.specs.States.{State, renew, renew_by}
use Rattle.sno_book.specs.Entries.{Entry, after_of}
use Rattle.sno_book.specs.Journals.{HasStep, step, replay}
use Rattle.sno_book.specs.Openings.{Opening, start, names_in}
use Rattle.sno_book.proofs.Steps.{replay_snoc, legal_snoc}
use Rattle.sno_book.proofs.Places.{StandsAt, stands_at, stands_inside}
use Rattle.sno_book.specs.Starts.{first_contents}
use Rattle.sno_published.specs.StoredTexts.{called, named, contents, IsReplay}
use Rattle.sno_published.specs.Tables.{text_after, text_at}
use Rattle.sno_published.specs.declared.stored_texts.StoredText.{StoredText}

-- a stored text has the name of its place
pub row_at : (names : List (List ℕ)) (stored : List StoredText) (k : ℕ) → length stored ≡ length names
    → slice_get (named names stored) k ≡ option_map (λ s. called (slice_index_or names k []) s) (slice_get stored k)
row_at [] [] k many = refl
row_at [] (s ∷ stored) k many = absurd (omega (arith, many))
row_at (n ∷ names) [] k many = absurd (omega (arith, many))
row_at (n ∷ names) (s ∷ stored) zero many = refl
row_at (n ∷ names) (s ∷ stored) (suc k) many = row_at names stored k (omega (arith, many))

-- the text at a place is the one that is stored there
pub text_row : (opening : Opening) (entries : List Entry) (stored : List StoredText) (k : ℕ) → IsReplay opening entries stored
    → text_after opening entries k ≡ option_map (λ s. text_at opening k (arc_value s.text) s.version) (slice_get stored k)
text_row opening entries stored k is =
    ap (λ (s : State). slice_get s k) (sym is.texts) ∙ row_at (names_in opening.texts) stored k (is.as_many ∙ sym (length-map opening.texts (λ (t : List ℕ × List ℕ). t.0)))

-- a text that is put at the place of a name replaces the text of that name
renew_at : (name text : List ℕ) (k version : ℕ) (names : List (List ℕ)) (stored : List StoredText) (new : StoredText) → StandsAt name names k
    → option_map (λ s. s.version) (slice_get stored k) ≡ Some version → arc_value new.text ≡ text → new.version ≡ version + 1 → named names (set stored k new) ≡ renew name text (named names stored)
renew_at name text k version [] stored new at there is raised = absurd at
renew_at name text k version (n ∷ names) [] new at there is raised = cc
renew_at name text zero version (n ∷ names) (x ∷ stored) new at there is raised =
    let same : x.version ≡ version = cc in
    let higher : new.version ≡ x.version + 1 = raised ∙ ap (λ (y : ℕ). y + 1) (sym same) in
    rw at (λ i. record { name = n; text = is i; version = higher i } ∷ named names stored)
renew_at name text (suc k) version (n ∷ names) (x ∷ stored) new at there is raised =
    rw at.0 (ap (λ (l : State). called n x ∷ l) (renew_at name text k version names stored new at.1 there is raised))

-- the same, by the place of the name in the list of names
pub renewed : (name : List ℕ) (k version : ℕ) (names : List (List ℕ)) (stored : List StoredText) (new : StoredText) → place_of names name ≡ Some k
    → option_map (λ s. s.version) (slice_get stored k) ≡ Some version → new.version ≡ version + 1 → named names (set stored k new) ≡ renew name (arc_value new.text) (named names stored)
renewed name k version names stored new at there raised = renew_at name (arc_value new.text) k version names stored new (stands_at name k names at) there refl raised

-- the place of a name is less than the number of stored texts
pub place_inside : (opening : Opening) (stored : List StoredText) (name : List ℕ) (k : ℕ) → length stored ≡ length opening.texts → place_of (names_in opening.texts) name ≡ Some k → k < length stored
place_inside opening stored name k many at =
    let inside = stands_inside name k (names_in opening.texts) (stands_at name k (names_in opening.texts) at) in
    omega (arith, inside, many, length-map opening.texts (λ (t : List ℕ × List ℕ). t.0))

more : (opening : Opening) (entries : List Entry) (e : Entry) (old new : List StoredText) → IsReplay opening entries old → HasStep (replay (start opening) entries) e
    → named (names_in opening.texts) new ≡ step (replay (start opening) entries) e → length new ≡ length old → IsReplay opening (entries ++ e ∷ []) new
more opening entries e old new is has texts many =
    record {
      legal = legal_snoc (start opening) entries e is.legal has;
      texts = texts ∙ sym (replay_snoc (start opening) entries e);
      as_many = many ∙ is.as_many;
    }

-- an entry without a new text changes nothing that is stored
pub kept : (opening : Opening) (entries : List Entry) (e : Entry) (stored : List StoredText) → IsReplay opening entries stored → HasStep (replay (start opening) entries) e
    → after_of e.outcome ≡ None → IsReplay opening (entries ++ e ∷ []) stored
kept opening entries e stored is has none =
    let state = replay (start opening) entries in
    more opening entries e stored stored is has (is.texts ∙ ap (λ (o : Option (List ℕ)). renew_by e.statement.text o state) (sym none)) refl

-- an entry's new text replaces the old one
pub replaced : (opening : Opening) (entries : List Entry) (e : Entry) (text : List ℕ) (old new : List StoredText) → IsReplay opening entries old → HasStep (replay (start opening) entries) e
    → after_of e.outcome ≡ Some text → named (names_in opening.texts) new ≡ renew e.statement.text text (named (names_in opening.texts) old) → length new ≡ length old
    → IsReplay opening (entries ++ e ∷ []) new
replaced opening entries e text old new is has some put many =
    let state = replay (start opening) entries in
    let texts : named (names_in opening.texts) new ≡ step state e =
    put ∙ ap (λ (s : State). renew e.statement.text text s) is.texts ∙ ap (λ (o : Option (List ℕ)). renew_by e.statement.text o state) (sym some) in
    more opening entries e old new is has texts many

first_take : (texts : List (List ℕ × List ℕ)) (k : ℕ) (text : List ℕ) → option_map (λ t. t.1) (slice_get texts k) ≡ Some text
    → first_contents (take (suc k) texts) ≡ first_contents (take k texts) ++ (text, 0) ∷ []
first_take [] k text h = absurd cc
first_take (t ∷ texts) zero text h = let is : t.1 ≡ text = cc in ap (λ (x : List ℕ). (x, 0) ∷ []) is
first_take (t ∷ texts) (suc k) text h = ap (λ (l : List (List ℕ × ℕ)). (t.1, 0) ∷ l) (first_take texts k text h)

-- one more of the first texts
pub first_more : (texts : List (List ℕ × List ℕ)) (k : ℕ) (stored : List StoredText) (text : Arc (List ℕ) Global) → contents stored ≡ first_contents (take k texts)
    → option_map (λ t. t.1) (slice_get texts k) ≡ Some (arc_value text) → contents (stored ++ record { text = text; version = 0 } ∷ []) ≡ first_contents (take (k + 1) texts)
first_more texts k stored text h there =
    let next : suc k ≡ k + 1 = omega arith in
    map-append (λ (s : StoredText). (arc_value s.text, s.version)) stored (record { text = text; version = 0 } ∷ []) ∙ ap (λ (l : List (List ℕ × ℕ)). l ++ (arc_value text, 0) ∷ []) h
    ∙ sym (first_take texts k (arc_value text) there) ∙ ap (λ (n : ℕ). first_contents (take n texts)) next

first_named : (texts : List (List ℕ × List ℕ)) (room : ℕ) (stored : List StoredText) → contents stored ≡ first_contents texts
    → named (names_in texts) stored ≡ start (record { texts = texts; room = room })
first_named [] room stored h = refl
first_named (t ∷ texts) room [] h = absurd cc
first_named (t ∷ texts) room (s ∷ stored) h =
    let head : (arc_value s.text, s.version) ≡ (t.1, 0) = cc in
    let text : arc_value s.text ≡ t.1 = ap (λ (p : List ℕ × ℕ). p.0) head in
    let version : s.version ≡ 0 = ap (λ (p : List ℕ × ℕ). p.1) head in
    let tail : contents stored ≡ first_contents texts = cc in
    let rest = first_named texts room stored tail in (λ i. record { name = t.0; text = text i; version = version i } ∷ rest i)

-- without entries, the stored texts are those of the opening
pub first : (opening : Opening) (stored : List StoredText) → contents stored ≡ first_contents opening.texts → IsReplay opening [] stored
first opening stored h =
    record {
      legal = tt;
      texts = first_named opening.texts opening.room stored h;
      as_many =
          sym (length-map {B = List ℕ × ℕ} stored (λ (s : StoredText). (arc_value s.text, s.version))) ∙ ap length h ∙ length-map {B = List ℕ × ℕ} opening.texts (λ (t : List ℕ × List ℕ). (t.1, 0));
    }
