-- Hits are sorted by their places, as they are kept and so as they are seen.
use Rattle.std.proofs.Common.{rules}
use Rattle.std.proofs.lemmas.List.Sorted.{IsPermutation-map, answers_always}
use Rattle.std.specs.Ordering.{is_lt}
use Rattle.sno_find.specs.Findings.{by_place, hit_seen, place_of}
use Rattle.sno_find.proofs.Sorted.{sorted_map}
use Rattle.sno_find.proofs.hits.put_in_order.Goals as goal

pub returns-clause-same : goal.returns-clause-same
returns-clause-same c = IsPermutation-map hit_seen _ _ c.sort_by_key.ensures.permutation

pub returns-clause-ordered : goal.returns-clause-ordered
returns-clause-ordered c =
    sorted_map hit_seen (λ x y. is_lt (by_place (place_of x) (place_of y))) _
    (c.in_ok-sort_by_key.ensures.sorted (λ hit. place_of (hit_seen hit)) (answers_always _ _ _ (λ f a r g called. search rules)))
