-- A list that is sorted by what is made of its elements, and the list of what is made of them.
use Rattle.std.proofs.Common.{◌≡◌, ℕ, ◌+◌, ◌<◌, Bool, false, List, [], ◌∷◌, length, get_or, map, subst, sym, arith}
use Rattle.std.proofs.lemmas.List.{get_or-map, length-map}
use Rattle.std.specs.List.Sorted.{IsSortedBy}

pub sorted_map : {X Y : Type 0} (f : X → Y) (lt : Y → Y → Bool) (xs : List X) → IsSortedBy (λ x y. lt (f x) (f y)) xs → IsSortedBy lt (map f xs)
sorted_map f lt [] sorted k d low high = absurd (omega (arith, high))
sorted_map {X} {Y} f lt (x ∷ xs) sorted k d low high =
    let all : List X = x ∷ xs in
    let within : k + 1 < length all = subst (λ (n : ℕ). k + 1 < n) (length-map all f) high in
    let before : k < length all = omega (arith, within) in
    let later : get_or (map f all) (k + 1) d ≡ f (get_or all (k + 1) x) = get_or-map f all (k + 1) x d within in
    let here : get_or (map f all) k d ≡ f (get_or all k x) = get_or-map f all k x d before in
    subst (λ (y : Y). lt (get_or (map f all) (k + 1) d) y ≡ false) (sym here)
    (subst (λ (y : Y). lt y (f (get_or all k x)) ≡ false) (sym later) (sorted k x low within))
