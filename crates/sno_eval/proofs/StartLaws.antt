-- The starts of a match, one after the other.
use Rattle.std.proofs.Common.{◌≡◌, ℕ, suc, ◌+◌, ◌-◌, ◌≤◌, Bool, List, [], ◌∷◌, ◌++◌, map, Option, Some, None, ap, sym, ◌∙◌, arith}
use Rattle.std.specs.List.{flat_map, range_with_len}
use Rattle.sno_pattern.specs.Tree.{Tree}
use Rattle.sno_pattern.specs.Results.{results, enough_depth}
use Rattle.sno_pattern.specs.Outcome.{Tried, starts_from, tried_from, cut_scan, found_in, outcome_at_from, outcome_from}
use Rattle.sno_pattern.specs.declared.events.Assign.{Assign}
use Rattle.sno_pattern.specs.declared.events.Event.{Event}
use Rattle.sno_pattern.specs.declared.events.Event.TheVariants.{Try, Set, End, Halt}
use Rattle.sno_pattern.specs.declared.found.Found.{Found}
use Rattle.sno_pattern.specs.declared.found.Hit.{Hit}
use Rattle.sno_pattern.specs.Events.{CondList}
use Rattle.sno_eval.specs.declared.endings.Ending.{Ending}
use Rattle.sno_eval.specs.Endings.{found_after, GoesOnAs}
use Rattle.sno_eval.proofs.Ranges.{up_to, up_to_more}

abbrev pub found_as : List Assign → Option Hit → Found
found_as sets end = record { sets = sets; end = end }

-- an assignment that is done at once is added to those before
pub found_set : (s : ℕ) (sets new : List Assign) (l rest : List Event) (t : Assign) (others : List Tried) → l ≡ Set t ∷ rest → new ≡ sets ++ t ∷ []
    → found_in sets (cut_scan (map (λ e. (s, e)) l ++ others)) ≡ found_in new (cut_scan (map (λ e. (s, e)) rest ++ others))
found_set s sets new l rest t others is added =
    ap (λ m. found_in sets (cut_scan (map (λ e. (s, e)) m ++ others))) is
    ∙ ap (λ z. found_in z (cut_scan (map (λ e. (s, e)) rest ++ others))) (sym added)

-- a trial changes nothing in the result
pub found_tried : (s : ℕ) (sets : List Assign) (l rest : List Event) (others : List Tried) → l ≡ Try ∷ rest
    → found_in sets (cut_scan (map (λ e. (s, e)) l ++ others)) ≡ found_in sets (cut_scan (map (λ e. (s, e)) rest ++ others))
found_tried s sets l rest others is = ap (λ m. found_in sets (cut_scan (map (λ e. (s, e)) m ++ others))) is

-- a Halt fails the whole match
pub found_halt : (s : ℕ) (sets : List Assign) (l rest : List Event) (others : List Tried) → l ≡ Halt ∷ rest → found_in sets (cut_scan (map (λ e. (s, e)) l ++ others)) ≡ record { sets = sets; end = None }
found_halt s sets l rest others is = ap (λ m. found_in sets (cut_scan (map (λ e. (s, e)) m ++ others))) is

-- an End is the success
pub found_end : (s : ℕ) (sets : List Assign) (l rest : List Event) (c : ℕ) (a b : CondList) (others : List Tried) → l ≡ End c a ∷ rest → b ≡ a
    → found_in sets (cut_scan (map (λ e. (s, e)) l ++ others)) ≡ record { sets = sets; end = Some (record { start = s; end = c; conds = b }) }
found_end s sets l rest c a b others is same = ap (λ m. found_in sets (cut_scan (map (λ e. (s, e)) m ++ others))) (is ∙ ap (λ d. End c d ∷ rest) (sym same))

-- the result has these assignments
pub sets_are : (new sets : List Assign) (end : Option Hit) → new ≡ sets → found_as sets end ≡ found_as new end
sets_are new sets end is = ap (λ s. found_as s end) (sym is)

-- all starts are still to be tried
pub begun : (t : List ℕ) (bodies : List Tree) (p : Tree) (anchored : Bool) (from most last : ℕ) (sets : List Assign) → most ≡ enough_depth t bodies → up_to from last ≡ starts_from t anchored from → sets ≡ []
    → outcome_from t bodies p anchored from ≡ found_in sets (cut_scan (flat_map (tried_from t bodies most p) (up_to from last)))
unfolding outcome_at_from
begun t bodies p anchored from most last sets deep all none =
    ap (λ s. found_in [] (cut_scan (flat_map (tried_from t bodies (enough_depth t bodies) p) s))) (sym all)
    ∙ ap (λ k. found_in [] (cut_scan (flat_map (tried_from t bodies k p) (up_to from last)))) (sym deep)
    ∙ ap (λ z. found_in z (cut_scan (flat_map (tried_from t bodies most p) (up_to from last)))) (sym none)

-- one start is tried
pub start_tried : (t : List ℕ) (bodies : List Tree) (k : ℕ) (p : Tree) (s n : ℕ) (sets new : List Assign) (l m : List Event) (ending : Ending) → s ≤ n → l ≡ m → m ≡ results t bodies k p s
    → GoesOnAs sets s l new ending
    → found_in sets (cut_scan (flat_map (tried_from t bodies k p) (up_to s n))) ≡ found_after ending new (flat_map (tried_from t bodies k p) (up_to (s + 1) n))
start_tried t bodies k p s n sets new l m ending h same is goes =
    ap (λ x. found_in sets (cut_scan (flat_map (tried_from t bodies k p) x))) (up_to_more s n h)
    ∙ ap (λ x. found_in sets (cut_scan (map (λ e. (s, e)) x ++ flat_map (tried_from t bodies k p) (up_to (s + 1) n)))) (sym (same ∙ is))
    ∙ goes (flat_map (tried_from t bodies k p) (up_to (s + 1) n))
