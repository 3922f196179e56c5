-- A list that ends as another one is what comes before that end, and the end.
use Rattle.std.proofs.Common.{◌≡◌, ℕ, List, ◌++◌, take, drop, true, nat_eq, refl, subst, sym}
use Rattle.std.specs.Cmp.{unsigned_Decides}
use Rattle.std.specs.Cmp.Lexicographic.{pointwise}
use Rattle.std.proofs.lemmas.List.{take-append-drop}
use Rattle.std.proofs.lemmas.Slice.Eq.{slice_eq-Decides}

pub end_kept : (n : ℕ) (xs ys : List ℕ) → pointwise nat_eq (drop n xs) ys ≡ true → xs ≡ take n xs ++ ys
end_kept n xs ys e = subst (λ (t : List ℕ). xs ≡ take n xs ++ t) ((slice_eq-Decides unsigned_Decides (drop n xs) ys (pointwise nat_eq (drop n xs) ys) refl).0 e) (sym (take-append-drop n xs))
