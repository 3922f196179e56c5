-- The trials of a match are those of the events of its starts.
use Rattle.std.proofs.Common.{◌≡◌, ℕ, suc, List, [], ◌∷◌, ◌++◌, map, Bool, refl, ap}
use Rattle.std.specs.List.{flat_map}
use Rattle.sno_pattern.specs.Tree.{Tree}
use Rattle.sno_pattern.specs.Results.{results, enough_depth}
use Rattle.sno_pattern.specs.Outcome.{Tried, starts_from, tried_from, cut_scan, trials_in, trials_at_from, trials_from}
use Rattle.sno_pattern.specs.declared.events.Event.{Event}
use Rattle.sno_pattern.specs.declared.events.Event.TheVariants.{Try, Set, End, Halt}
use Rattle.sno_eval.specs.Steps.{trials_of}

trials_join : (s : ℕ) (l m : List Event) (others : List Tried) → trials_in (cut_scan others) ≡ trials_of m → trials_in (cut_scan (map (λ e. (s, e)) l ++ others)) ≡ trials_of (l ++ m)
trials_join s [] m others h = h
trials_join s (Try ∷ l) m others h = ap suc (trials_join s l m others h)
trials_join s (Set a ∷ l) m others h = trials_join s l m others h
trials_join s (End e a ∷ l) m others h = refl
trials_join s (Halt ∷ l) m others h = refl

trials_starts : (t : List ℕ) (bodies : List Tree) (k : ℕ) (p : Tree) (ss : List ℕ) → trials_in (cut_scan (flat_map (tried_from t bodies k p) ss)) ≡ trials_of (flat_map (results t bodies k p) ss)
trials_starts t bodies k p [] = refl
trials_starts t bodies k p (s ∷ ss) = trials_join s (results t bodies k p s) (flat_map (results t bodies k p) ss) (flat_map (tried_from t bodies k p) ss) (trials_starts t bodies k p ss)

pub trials_are : (t : List ℕ) (bodies : List Tree) (p : Tree) (anchored : Bool) (c : ℕ) → trials_from t bodies p anchored c ≡ trials_of (flat_map (results t bodies (enough_depth t bodies) p) (starts_from t anchored c))
unfolding trials_at_from
trials_are t bodies p anchored c = trials_starts t bodies (enough_depth t bodies) p (starts_from t anchored c)
