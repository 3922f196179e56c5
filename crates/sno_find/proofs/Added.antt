-- Hits that are added to those before.
use Rattle.std.proofs.Common.{◌≡◌, ℕ, List, [], ◌∷◌, ◌++◌, map, ap, sym, ◌∙◌, append_assoc}
use Rattle.std.proofs.lemmas.List.{map-append}
use Rattle.sno_statement.specs.declared.match_lists.Match.{Match}
use Rattle.sno_find.specs.Findings.{hit_of, hit_seen, hits_seen}
use Rattle.sno_find.specs.declared.hits.Hit.{Hit as StoredHit}

-- one more hit
one_added : (hits : List StoredHit) (hit : StoredHit) → hits_seen (hits ++ hit ∷ []) ≡ hits_seen hits ++ hit_seen hit ∷ []
one_added hits hit = map-append hit_seen hits (hit ∷ [])

-- the next match of a statement is added, and those after it are left
pub next_added : (number : ℕ) (hits : List StoredHit) (hit : StoredHit) (m : Match) (left rest : List Match) → left ≡ m ∷ rest → hit_seen hit ≡ hit_of number m
    → hits_seen (hits ++ hit ∷ []) ++ map (hit_of number) rest ≡ hits_seen hits ++ map (hit_of number) left
next_added number hits hit m left rest is seen =
    ap (λ z. z ++ map (hit_of number) rest) (one_added hits hit)
    ∙ append_assoc (hits_seen hits) (hit_seen hit ∷ []) (map (hit_of number) rest)
    ∙ ap (λ z. hits_seen hits ++ (z ∷ map (hit_of number) rest)) seen
    ∙ ap (λ z. hits_seen hits ++ map (hit_of number) z) (sym is)
