-- Openings with the same rows and the same room are equal.
use Rattle.std.proofs.Common.{◌≡◌, ◌<◌, ℕ, List, [], length, get_or, ◌∙◌, ap}
use Rattle.std.specs.Prelude.{slice_get}
use Rattle.std.proofs.lemmas.List.{ext_get_or}
use Rattle.std.proofs.lemmas.Option.{slice_get-get_or}
use Rattle.sno_book.specs.Openings.{Opening}

same_at : (xs ys : List (List ℕ × List ℕ)) (i : ℕ) → i < length xs → i < length ys → slice_get xs i ≡ slice_get ys i → get_or xs i ([], []) ≡ get_or ys i ([], [])
same_at xs ys i inside beside h =
    let a = slice_get-get_or xs i ([], []) inside in
    let b = slice_get-get_or ys i ([], []) beside in
    cc

pub same_opening : (a b : Opening) → length a.texts ≡ length b.texts → a.room ≡ b.room
    → ((i : ℕ) → i < length a.texts → slice_get a.texts i ≡ slice_get b.texts i) → a ≡ b
same_opening a b as_many room each =
    let texts : a.texts ≡ b.texts = ext_get_or ([], []) a.texts b.texts as_many (λ i h. same_at a.texts b.texts i h (rw (← as_many) h) (each i h)) in
    let opening : List (List ℕ × List ℕ) → ℕ → Opening = λ rows places. record { texts = rows; room = places } in
    ap (λ rows. opening rows a.room) texts ∙ ap (opening b.texts) room
