-- Names go into their list one after another.
use Rattle.std.proofs.Common.{◌≡◌, ℕ, ◌+◌, ◌<◌, Bool, true, false, not, cond, List, [], ◌∷◌, ◌++◌, length, get_or, take, drop, Option, Some, refl, sym, ◌∙◌, ap, add-one, drop-cons}
use Rattle.std.proofs.lemmas.List.{take_more}
use Rattle.std.specs.List.{list_any}
use Rattle.sno_pattern.specs.Identifiers.{same}
use Rattle.sno_pattern.specs.NameList.{repeat_from}

-- the list with one more name, which was not there
appended : (seen : Bool) (keys more : List (List ℕ)) (name : List ℕ) → seen ≡ false → more ≡ cond seen keys (keys ++ name ∷ []) → more ≡ keys ++ name ∷ []
appended true keys more name absent is = cc
appended false keys more name absent is = is

-- what repeats among the remaining names, after a name that isn't there yet
repeat-next : (seen : Bool) (i : ℕ) (o : Option ℕ) → seen ≡ false → cond seen (Some i) o ≡ o
repeat-next true i o absent = cc
repeat-next false i o absent = refl

pub more_is_front : (keys names more : List (List ℕ)) (i : ℕ) (name : List ℕ) → i < length names → name ≡ get_or names i name
    → more ≡ cond (list_any (same name) keys) keys (keys ++ name ∷ []) → list_any (same name) keys ≡ false → keys ≡ take i names
    → more ≡ take (i + 1) names
more_is_front keys names more i name in_range is added absent front =
    appended (list_any (same name) keys) keys more name absent added ∙ ap (λ (k : List (List ℕ)). k ++ name ∷ []) front
    ∙ ap (λ (n : List ℕ). take i names ++ n ∷ []) is ∙ sym (take_more names i name in_range)

pub rest_is_same : (keys names more : List (List ℕ)) (i : ℕ) (name : List ℕ) (first : Option ℕ) → i < length names → name ≡ get_or names i name
    → more ≡ cond (list_any (same name) keys) keys (keys ++ name ∷ []) → list_any (same name) keys ≡ false
    → repeat_from keys i (drop i names) ≡ first → repeat_from more (i + 1) (drop (i + 1) names) ≡ first
rest_is_same keys names more i name first in_range is added absent rest =
    let grown : more ≡ keys ++ name ∷ [] = appended (list_any (same name) keys) keys more name absent added in
    let split : drop i names ≡ name ∷ drop (i + 1) names = drop-cons names i name in_range ∙ ap (λ (k : ℕ). get_or names i name ∷ drop k names) (sym (add-one i)) ∙ ap (λ (n : List ℕ). n ∷ drop (i + 1) names) (sym is) in
    ap (λ (k : List (List ℕ)). repeat_from k (i + 1) (drop (i + 1) names)) grown
    ∙ sym (repeat-next (list_any (same name) keys) i (repeat_from (keys ++ name ∷ []) (i + 1) (drop (i + 1) names)) absent)
    ∙ sym (ap (repeat_from keys i) split) ∙ rest

-- `not b` is true if b is false
pub false_of_not : (b : Bool) → true ≡ not b → b ≡ false
false_of_not true h = cc
false_of_not false h = refl
