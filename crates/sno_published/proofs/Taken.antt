-- Snapshots of what is shown are valid, and one after the other they are all that is asked for.
use Rattle.std.proofs.Common.{◌≡◌, ◌≤◌, ℕ, List, [], ◌∷◌, ◌++◌, length, Some, None, refl, sym, subst, ap}
use Rattle.std.specs.Prelude.{Option, slice_index_or}
use Rattle.std.specs.Option.{option_map}
use Rattle.sno_book.specs.Entries.{Entry}
use Rattle.sno_book.specs.Journals.{Legal}
use Rattle.sno_book.specs.Openings.{Opening, IsOpening, names_in, start}
use Rattle.sno_book.specs.Origins.{HoldsText}
use Rattle.sno_book.specs.Views.{View}
use Rattle.sno_published.specs.Tables.{text_after, text_at}
use Rattle.sno_published.specs.Snapshots.{if_all}

-- a text that was found after legal entries is at its place there
pub stands_after : (opening : Opening) (origin : View) (seen : List Entry) (place version : ℕ) (text : List ℕ) → origin ≡ record { opening = opening; journal = seen } → IsOpening opening
    → Legal (start opening) seen → length seen ≤ opening.room → Some (text_at opening place text version) ≡ text_after opening seen place → HoldsText origin place version text
stands_after opening origin seen place version text from opens legal within found =
    let here : HoldsText (record { opening = opening; journal = seen }) place version text = record {
      valid = record { opening = opens; legal = legal; within = within };
      name = slice_index_or (names_in opening.texts) place [];
      there = sym found;
    } in
    subst (λ (v : View). HoldsText v place version text) (sym from) here

joined : {A : Type 0} (so_far : List A) (a : A) (rest : Option (List A)) → option_map (λ more. (so_far ++ a ∷ []) ++ more) rest ≡ option_map (λ more. so_far ++ more) (option_map (λ more. a ∷ more) rest)
joined so_far a None = refl
joined so_far a (Some more) = ap Some (append_assoc so_far (a ∷ []) more)
  where
    append_assoc : {A : Type 0} (xs ys zs : List A) → (xs ++ ys) ++ zs ≡ xs ++ (ys ++ zs)
    append_assoc [] ys zs = refl
    append_assoc (x ∷ xs) ys zs = ap (λ l. x ∷ l) (append_assoc xs ys zs)

-- one value more
pub one_more : {A : Type 0} (so_far : List A) (a : A) (rest : List (Option A)) → option_map (λ more. (so_far ++ a ∷ []) ++ more) (if_all rest) ≡ option_map (λ more. so_far ++ more) (if_all (Some a ∷ rest))
one_more so_far a rest = joined so_far a (if_all rest)
