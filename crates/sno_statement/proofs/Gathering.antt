-- One more match is gathered.
use Rattle.std.proofs.Common.{◌≡◌, ℕ, ◌-◌, List, [], ◌∷◌, ◌++◌, length, map, take, drop, ap, ◌∙◌, arith, append_assoc, length-append}
use Rattle.std.proofs.lemmas.List.{map-append}
use Rattle.std.proofs.Math.Seq.{drop-append_seam, take-append_seam}
use Rattle.sno_statement.specs.declared.match_lists.Match.{Match}
use Rattle.sno_statement.specs.declared.match_lists.Span.{Span}
use Rattle.sno_statement.specs.Bindings.{Bindings}
use Rattle.sno_statement.specs.LastAssignments.{values_of_last}
use Rattle.sno_statement.specs.MatchLists.{LastList, list_part, match_seen}

-- the assignments that were added last
last_part : (assigned own more : LastList) → list_part ((assigned ++ own) ++ more) (length assigned) (length (assigned ++ own)) ≡ own
last_part assigned own more =
    let count : length (assigned ++ own) - length assigned ≡ length own = let all = length-append assigned own in omega (arith, all) in
    ap (λ (z : LastList). take (length (assigned ++ own) - length assigned) (drop (length assigned) z)) (append_assoc assigned own more)
    ∙ ap (λ (z : LastList). take (length (assigned ++ own) - length assigned) z) (drop-append_seam assigned (own ++ more))
    ∙ ap (λ (z : ℕ). take z (own ++ more)) count
    ∙ take-append_seam own more

-- the match of the span that was added last, and before it the matches that were gathered before
pub one_more : (t : List ℕ) (assigned own : LastList) (spans : List Span) (start end : ℕ) (bound : Bindings) (ms : List Match)
    → ((more : LastList) → map (match_seen t (assigned ++ more)) spans ≡ ms) → values_of_last t own ≡ bound
    → (more : LastList) → map (match_seen t ((assigned ++ own) ++ more)) (spans ++ record { start = start; end = end; from = length assigned; to = length (assigned ++ own) } ∷ []) ≡ ms ++ record { start = start; end = end; bindings = bound } ∷ []
one_more t assigned own spans start end bound ms before is more =
    let added : Span = record { start = start; end = end; from = length assigned; to = length (assigned ++ own) } in
    let here : match_seen t ((assigned ++ own) ++ more) added ≡ record { start = start; end = end; bindings = bound } =
    ap (λ (z : Bindings). record { start = start; end = end; bindings = z }) (ap (values_of_last t) (last_part assigned own more) ∙ is) in
    map-append (match_seen t ((assigned ++ own) ++ more)) spans (added ∷ [])
    ∙ ap (λ (z : List Match). map (match_seen t ((assigned ++ own) ++ more)) spans ++ z) (ap (λ (z : Match). z ∷ []) here)
    ∙ ap (λ (z : LastList). map (match_seen t z) spans ++ record { start = start; end = end; bindings = bound } ∷ []) (append_assoc assigned own more)
    ∙ ap (λ (z : List Match). z ++ record { start = start; end = end; bindings = bound } ∷ []) (before (own ++ more))
