-- A greater depth makes no difference to the outcome of a match, nor to how many trials it takes.
use Rattle.std.proofs.Common.{◌≡◌, ℕ, ◌+◌, ◌≤◌, Bool, true, false, List, [], ◌∷◌, ◌++◌, length, map, refl, arith, ap, ◌∙◌}
use Rattle.std.specs.List.{flat_map}
use Rattle.sno_pattern.specs.Tree.{Tree}
use Rattle.sno_pattern.specs.Results.{enough_depth}
use Rattle.sno_pattern.specs.Outcome.{Tried, starts, tried_from, cut_scan, scan, found_in, outcome_at, outcome, trials_in, trials_at, trials}
use Rattle.sno_pattern.specs.Guard.{Guarded}
use Rattle.sno_pattern.proofs.EachEnd.{AllOf, AllOf-map}
use Rattle.sno_pattern.proofs.Within.{range_all}
use Rattle.sno_pattern.proofs.Depth.{settled}

same_flat_map : (f g : ℕ → List Tried) (ss : List ℕ) → AllOf (λ s. f s ≡ g s) ss → flat_map f ss ≡ flat_map g ss
same_flat_map f g [] h = refl
same_flat_map f g (s ∷ ss) h = ap (λ l. l ++ flat_map f ss) h.0 ∙ ap (λ l. g s ++ l) (same_flat_map f g ss h.1)

-- each start is a cursor of the text
starts_in_text : (t : List ℕ) (anchored : Bool) → AllOf (λ s. s ≤ length t) (starts t anchored)
starts_in_text t true = (omega arith, tt)
starts_in_text t false = range_all (λ s. s ≤ length t) (length t + 1) 0 (λ e low high. omega arith)

same_scan : (t : List ℕ) (bodies : List Tree) → Guarded bodies → (k : ℕ) (p : Tree) (anchored : Bool) → enough_depth t bodies ≤ k
    → scan t bodies k p anchored ≡ scan t bodies (enough_depth t bodies) p anchored
same_scan t bodies g k p anchored enough =
    ap cut_scan
    (same_flat_map (tried_from t bodies k p) (tried_from t bodies (enough_depth t bodies) p) (starts t anchored)
    (AllOf-map (λ s. s ≤ length t) (λ s. tried_from t bodies k p s ≡ tried_from t bodies (enough_depth t bodies) p s)
    (λ s inside. ap (map (λ e. (s, e))) (settled t bodies g k p s enough inside)) (starts t anchored) (starts_in_text t anchored)))

pub outcome_settled : (t : List ℕ) (bodies : List Tree) → Guarded bodies → (k : ℕ) (p : Tree) (anchored : Bool) → enough_depth t bodies ≤ k
    → outcome_at t bodies k p anchored ≡ outcome t bodies p anchored
unfolding outcome_at
outcome_settled t bodies g k p anchored enough = ap (found_in []) (same_scan t bodies g k p anchored enough)

pub trials_settled : (t : List ℕ) (bodies : List Tree) → Guarded bodies → (k : ℕ) (p : Tree) (anchored : Bool) → enough_depth t bodies ≤ k
    → trials_at t bodies k p anchored ≡ trials t bodies p anchored
unfolding trials_at
trials_settled t bodies g k p anchored enough = ap trials_in (same_scan t bodies g k p anchored enough)
