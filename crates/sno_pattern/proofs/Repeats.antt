-- The first repeat is found exactly if a name is repeated.
use Rattle.std.proofs.Common.{◌≡◌, ℕ, ◌+◌, Bool, true, false, cond, ◌||◌, List, [], ◌∷◌, ◌++◌, Option, Some, None, refl, ap, ◌∙◌}
use Rattle.std.specs.List.{list_any}
use Rattle.sno_pattern.specs.Identifiers.{same}
use Rattle.sno_pattern.specs.NameList.{repeat_from, IsNone, AreApart, RepeatsAreFound}

both_false : (x y : Bool) → (x || y) ≡ false → (x ≡ false) × (y ≡ false)
both_false true y h = cc
both_false false y h = (refl, h)

or_false : (x y : Bool) → x ≡ false → y ≡ false → (x || y) ≡ false
or_false true y h g = cc
or_false false y h g = g

-- a test that fails on a list with one more name fails on the list and on that name
any_split : (p : List ℕ → Bool) (l : List (List ℕ)) (x : List ℕ) → list_any p (l ++ x ∷ []) ≡ false → (list_any p l ≡ false) × (p x ≡ false)
any_split p [] x h = (refl, (both_false (p x) false h).0)
any_split p (y ∷ l) x h =
    let b = both_false (p y) (list_any p (l ++ x ∷ [])) h in
    let rest = any_split p l x b.1 in (or_false (p y) (list_any p l) b.0 rest.0, rest.1)

any_join : (p : List ℕ → Bool) (l : List (List ℕ)) (x : List ℕ) → list_any p l ≡ false → p x ≡ false → list_any p (l ++ x ∷ []) ≡ false
any_join p [] x h g = or_false (p x) false g refl
any_join p (y ∷ l) x h g = let b = both_false (p y) (list_any p l) h in or_false (p y) (list_any p (l ++ x ∷ [])) b.0 (any_join p l x b.1 g)

-- none of the names was seen
abbrev AreNew : List (List ℕ) → List (List ℕ) → Type 0
AreNew seen [] = Unit {0}
AreNew seen (name ∷ names) = (list_any (same name) seen ≡ false) × AreNew seen names

new_split : (seen : List (List ℕ)) (x : List ℕ) (names : List (List ℕ)) → AreNew (seen ++ x ∷ []) names → AreNew seen names × IsNone x names
new_split seen x [] h = (tt, tt)
new_split seen x (name ∷ names) h =
    let here = any_split (same name) seen x h.0 in
    let rest = new_split seen x names h.1 in ((here.0, rest.0), (here.1, rest.1))

new_join : (seen : List (List ℕ)) (x : List ℕ) (names : List (List ℕ)) → AreNew seen names → IsNone x names → AreNew (seen ++ x ∷ []) names
new_join seen x [] h g = tt
new_join seen x (name ∷ names) h g = (any_join (same name) seen x h.0 g.0, new_join seen x names h.1 g.1)

not_seen : (b : Bool) (place : ℕ) (rest : Option ℕ) → cond b (Some place) rest ≡ None → (b ≡ false) × (rest ≡ None)
not_seen true place rest h = cc
not_seen false place rest h = (refl, h)

apart_from : (seen : List (List ℕ)) (place : ℕ) (names : List (List ℕ)) → repeat_from seen place names ≡ None → AreNew seen names × AreApart names
apart_from seen place [] h = (tt, tt)
apart_from seen place (x ∷ names) h =
    let here = not_seen (list_any (same x) seen) place (repeat_from (seen ++ x ∷ []) (place + 1) names) h in
    let rest = apart_from (seen ++ x ∷ []) (place + 1) names here.1 in
    let split = new_split seen x names rest.0 in ((here.0, split.0), (split.1, rest.1))

none_from : (seen : List (List ℕ)) (place : ℕ) (names : List (List ℕ)) → AreNew seen names → AreApart names → repeat_from seen place names ≡ None
none_from seen place [] h g = refl
none_from seen place (x ∷ names) h g =
    ap (λ b. cond b (Some place) (repeat_from (seen ++ x ∷ []) (place + 1) names)) h.0 ∙ none_from (seen ++ x ∷ []) (place + 1) names (new_join seen x names h.1 g.0) g.1

none_seen : (names : List (List ℕ)) → AreNew [] names
none_seen [] = tt
none_seen (name ∷ names) = (refl, none_seen names)

pub repeats_are_found : RepeatsAreFound
repeats_are_found names = ((λ h. (apart_from [] 0 names h).1), λ g. none_from [] 0 names (none_seen names) g)
