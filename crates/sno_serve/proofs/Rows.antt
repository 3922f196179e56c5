-- Lists that are gone through by places.
use Rattle.std.specs.Prelude.{Ok, Err, codes}
use Rattle.std.proofs.Common.{◌≡◌, ℕ, zero, suc, ◌+◌, ◌<◌, Option, Some, None, List, [], ◌∷◌, ◌++◌, length, drop, slice_get, refl, sym, ap, subst, ◌∙◌, arith, append_assoc}
use Rattle.std.proofs.lemmas.List.{append-nil}
use Rattle.serde_json.specs.Data.{Data}
use Rattle.sno_book.specs.Entries.{Entry}
use Rattle.sno_book.specs.Openings.{Opening, names_in}
use Rattle.sno_book.specs.Snapshots.{Snapshot}
use Rattle.sno_published.specs.Snapshots.{snapshots_of}
use Rattle.sno_desk.specs.Seen.{IsCauseForAll}
use Rattle.sno_desk.specs.declared.faults.SnapshotFault.{SnapshotFault}
use Rattle.sno_serve.specs.Replies.{IsListed, look_words, row_data, rows_data, texts_reply, word_reply}
use Rattle.sno_serve.specs.Versions.{given_by, or_later, replaced_at}

after_get : {A : Type 0} (xs : List A) (i : ℕ) (x : A) → slice_get xs i ≡ Some x → drop i xs ≡ x ∷ drop (suc i) xs
after_get [] i x h = cc
after_get (y ∷ ys) zero x h = let same : y ≡ x = cc in ap (λ z. z ∷ ys) same
after_get (y ∷ ys) (suc i) x h = after_get ys i x h

-- what is left of a list at a place begins with the element there
pub drop_get : {A : Type 0} (xs : List A) (i : ℕ) (x : A) → slice_get xs i ≡ Some x → drop i xs ≡ x ∷ drop (i + 1) xs
drop_get xs i x h = let next : suc i ≡ i + 1 = omega arith in subst (λ k. drop i xs ≡ x ∷ drop k xs) next (after_get xs i x h)

-- past the end nothing is left
drop_past : {A : Type 0} (xs : List A) (i : ℕ) → slice_get xs i ≡ None → drop i xs ≡ []
drop_past [] zero h = refl
drop_past [] (suc i) h = refl
drop_past (y ∷ ys) zero h = cc
drop_past (y ∷ ys) (suc i) h = drop_past ys i h

-- inside a list there is an element
pub is_there : {A : Type 0} (xs : List A) (i : ℕ) → i < length xs → slice_get xs i ≡ None → ⊥
is_there [] i h none = omega (arith, h)
is_there (y ∷ ys) zero h none = cc
is_there (y ∷ ys) (suc i) h none = is_there ys i (omega (arith, h)) none

-- one element further
pub moved : {A : Type 0} (so_far xs : List A) (i : ℕ) (x : A) → so_far ++ drop i xs ≡ xs → slice_get xs i ≡ Some x → (so_far ++ x ∷ []) ++ drop (i + 1) xs ≡ xs
moved so_far xs i x h there = append_assoc so_far (x ∷ []) (drop (i + 1) xs) ∙ ap (λ ys. so_far ++ ys) (sym (drop_get xs i x there)) ∙ h

-- one name further
pub name_moved : (so_far : List (List ℕ)) (texts : List (List ℕ × List ℕ)) (i : ℕ) (p : List ℕ × List ℕ) → so_far ++ names_in (drop i texts) ≡ names_in texts
    → slice_get texts i ≡ Some p → (so_far ++ p.0 ∷ []) ++ names_in (drop (i + 1) texts) ≡ names_in texts
name_moved so_far texts i p h there =
    append_assoc so_far (p.0 ∷ []) (names_in (drop (i + 1) texts)) ∙ ap (λ ys. so_far ++ names_in ys) (sym (drop_get texts i p there)) ∙ h

no_rows : (names : List (List ℕ)) → rows_data names [] ≡ []
no_rows [] = refl
no_rows (name ∷ names) = refl

-- one row further
pub row_moved : (so_far all : List Data) (name : List ℕ) (names : List (List ℕ)) (taken : List Snapshot) (i : ℕ) (one : Snapshot)
    → so_far ++ rows_data (name ∷ names) (drop i taken) ≡ all → slice_get taken i ≡ Some one → (so_far ++ row_data name one.text one.version ∷ []) ++ rows_data names (drop (i + 1) taken) ≡ all
row_moved so_far all name names taken i one h there =
    append_assoc so_far (row_data name one.text one.version ∷ []) (rows_data names (drop (i + 1) taken))
    ∙ ap (λ ts. so_far ++ rows_data (name ∷ names) ts) (sym (drop_get taken i one there)) ∙ h

-- there are no more rows
pub rows_ended : (so_far all : List Data) (names : List (List ℕ)) (taken : List Snapshot) (i : ℕ)
    → so_far ++ rows_data names (drop i taken) ≡ all → slice_get taken i ≡ None → so_far ≡ all
rows_ended so_far all names taken i h none =
    sym (append-nil so_far) ∙ sym (ap (λ ds. so_far ++ ds) (no_rows names)) ∙ sym (ap (λ ts. so_far ++ rows_data names ts) (drop_past taken i none)) ∙ h

-- there are no more names
pub names_ended : (so_far : List (List ℕ)) (texts : List (List ℕ × List ℕ)) (i : ℕ) → so_far ++ names_in (drop i texts) ≡ names_in texts
    → slice_get texts i ≡ None → so_far ≡ names_in texts
names_ended so_far texts i h none = sym (append-nil so_far) ∙ sym (ap (λ ts. so_far ++ names_in ts) (drop_past texts i none)) ∙ h

-- all texts are listed
pub listed : (opening given : Opening) (seen : List Entry) (id : Option Data) (d : Data) (names : List (List ℕ)) (taken : List Snapshot)
    → given ≡ opening → names ≡ names_in given.texts → snapshots_of opening seen names ≡ Some taken → d ≡ texts_reply id names (Ok taken) → IsListed opening seen id d
listed opening given seen id d names taken same all there is =
    let named : names ≡ names_in opening.texts = all ∙ ap (λ (o : Opening). names_in o.texts) same in
    record {
      gave = Ok taken;
      gives = subst (λ ns. snapshots_of opening seen ns ≡ Some taken) named there;
      reply = is ∙ ap (λ ns. texts_reply id ns (Ok taken)) named;
    }

-- they are not, for a cause
pub not_listed : (opening given : Opening) (seen : List Entry) (id : Option Data) (d : Data) (names : List (List ℕ)) (fault : SnapshotFault)
    → given ≡ opening → names ≡ names_in given.texts → IsCauseForAll fault opening names → d ≡ word_reply id (codes "reason") (look_words fault) → IsListed opening seen id d
not_listed opening given seen id d names fault same all cause is =
    let named : names ≡ names_in opening.texts = all ∙ ap (λ (o : Opening). names_in o.texts) same in
    record { gave = Err fault; gives = subst (λ ns. IsCauseForAll fault opening ns) named cause; reply = is }

-- the first entry gave the version
pub found : (e : Entry) (entries : List Entry) (name : List ℕ) (version : ℕ) (t : List ℕ) → given_by name version e ≡ Some t → replaced_at (e ∷ entries) name version ≡ Some t
found e entries name version t h = ap (λ o. or_later o (replaced_at entries name version)) h

-- the first entry didn't
pub passed : (e : Entry) (entries : List Entry) (name : List ℕ) (version : ℕ) → given_by name version e ≡ None → replaced_at (e ∷ entries) name version ≡ replaced_at entries name version
passed e entries name version h = ap (λ o. or_later o (replaced_at entries name version)) h
