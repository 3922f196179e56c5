-- What a whole pass does.
use Rattle.std.proofs.Common.{◌≡◌, ℕ, ◌+◌, ◌<◌, ◌≤◌, cond, List, [], ◌∷◌, Option, Some, None, Ok, Err, refl, ap, sym, ◌∙◌, arith}
use Rattle.std.proofs.lemmas.Bool.{lt-ltb, le-ltb}
use Rattle.sno_pattern.specs.Outcome.{outcome}
use Rattle.sno_pattern.specs.declared.found.Found.{Found}
use Rattle.sno_pattern.specs.declared.found.Hit.{Hit}
use Rattle.sno_pattern.proofs.FoundCursors.{from_the_first}
use Rattle.sno_statement.specs.declared.match_lists.Match.{Match}
use Rattle.sno_statement.specs.declared.outcomes.StatementFault.{StatementFault}
use Rattle.sno_statement.specs.declared.outcomes.StatementFault.TheVariants as fault
use Rattle.sno_statement.specs.Statement.{Statement}
use Rattle.sno_statement.specs.Bindings.{Bindings, bind_conds, bind_sets, bindings_of, conds_of}
use Rattle.sno_statement.specs.Passes.{Pass, all_matches, all_trials, begun, match_of, matches_left, moved, most_searches, search, search_trials, trials_together}
use Rattle.sno_statement.specs.Perform.{Failed, Gives, all_or_failed_within, finish_all_within, perform_all_within}
use Rattle.sno_statement.proofs.PassLaws.{counted, none_left, no_trials, trials_kept, trials_over}

module _ (s : Statement) (t : List ℕ) where
  -- the first search takes too many
  pub first_over : s.limit < 0 + search_trials s t 0 → s.limit < all_trials s t
  first_over over = let all = trials_over (begun s t) 0 refl (omega arith) s.limit over in omega (arith, all)

  -- the first search finds a match: the trials of what follows are those of all
  pub trials_from_first : (now : Pass) (hit : Hit) → now ≡ moved (begun s t) (search_trials s t 0) (search s t 0).end → trials_together now ≡ all_trials s t
  trials_from_first now hit is =
      let kept = trials_kept (begun s t) 0 refl (omega arith) in
      let same = ap trials_together is in
      omega (arith, kept, same)

module _ (longest : ℕ) (s : Statement) (t : List ℕ) where
  -- if all searches together take too many trials, the statement is refused
  pub refused_all : s.limit < all_trials s t → perform_all_within longest s t ≡ Err fault.TooManyTrials
  unfolding perform_all_within
  refused_all over = ap (λ b. cond b (Err fault.TooManyTrials) (all_or_failed_within longest s t (all_matches s t))) (lt-ltb s.limit (all_trials s t) over)

  -- if not, its matches decide
  pub within_all : all_trials s t ≤ s.limit → perform_all_within longest s t ≡ all_or_failed_within longest s t (all_matches s t)
  unfolding perform_all_within
  within_all few = ap (λ b. cond b (Err fault.TooManyTrials) (all_or_failed_within longest s t (all_matches s t))) (le-ltb s.limit (all_trials s t) few)

  -- a fault other than for the text's length, with its cause
  pub gives_refused : (e : StatementFault) → (e ≡ fault.TooManyTrials → s.limit < all_trials s t) → (e ≡ fault.TextTooLong → ⊥) → Gives (Err e) (perform_all_within longest s t)
  gives_refused fault.TextTooLong over never = absurd (never refl)
  gives_refused fault.Memory over never = tt
  gives_refused fault.TooManyTrials over never = refused_all (over refl)

  -- the first search fails
  pub failed_all : (found : Found) (bound : Bindings) → found ≡ search s t 0 → found.end ≡ None → bound ≡ bind_conds t (bind_sets t [] found.sets) [] → 0 + search_trials s t 0 ≤ s.limit
      → perform_all_within longest s t ≡ Ok (Failed bound)
  failed_all found bound is none bindings few =
      let nothing : (search s t 0).end ≡ None = ap (λ (z : Found). z.end) (sym is) ∙ none in
      let kept : 0 + all_trials s t ≡ trials_together (moved (begun s t) (search_trials s t 0) None) = trials_kept (begun s t) 0 refl (omega arith) ∙ ap (λ (z : Option Hit). trials_together (moved (begun s t) (search_trials s t 0) z)) nothing in
      let rest = no_trials s t (most_searches t) in
      let plain : found ≡ outcome t s.rules.bodies s.pattern s.anchored = is ∙ (from_the_first t s.rules.bodies s.pattern s.anchored).0 in
      within_all (omega (arith, kept, rest, few))
      ∙ ap (all_or_failed_within longest s t) (none_left (begun s t) 0 refl (omega arith) nothing)
      ∙ ap (λ (z : Found). Ok (Failed (bindings_of t z))) (sym plain)
      ∙ ap (λ (z : Option Hit). Ok (Failed (bind_conds t (bind_sets t [] found.sets) (conds_of z)))) none
      ∙ ap (λ (z : Bindings). Ok (Failed z)) (sym bindings)

  -- the first search finds a match
  pub matched_all : (found : Found) (hit : Hit) (now : Pass) (one : Match) (matches : List Match) → found ≡ search s t 0 → found.end ≡ Some hit
      → now ≡ moved (begun s t) (search_trials s t 0) (search s t 0).end → one ≡ match_of t found hit → matches ≡ one ∷ matches_left now → trials_together now ≤ s.limit
      → perform_all_within longest s t ≡ finish_all_within longest s.object t matches
  matched_all found hit now one matches is some moved_on made all few =
      let there : (search s t 0).end ≡ Some hit = ap (λ (z : Found). z.end) (sym is) ∙ some in
      let rest : now ≡ moved (begun s t) (search_trials s t 0) (Some hit) = moved_on ∙ ap (moved (begun s t) (search_trials s t 0)) there in
      let trials = trials_from_first s t now hit moved_on in
      let same : all_matches s t ≡ one ∷ matches_left now =
      counted (begun s t) 0 refl (omega arith) (search_trials s t 0) hit there refl
      ∙ ap (λ (z : Found). match_of t z hit ∷ matches_left (moved (begun s t) (search_trials s t 0) (Some hit))) (sym is)
      ∙ ap (λ (z : Match). z ∷ matches_left (moved (begun s t) (search_trials s t 0) (Some hit))) (sym made)
      ∙ ap (λ (z : Pass). one ∷ matches_left z) (sym rest) in
      within_all (omega (arith, trials, few)) ∙ ap (all_or_failed_within longest s t) same ∙ ap (finish_all_within longest s.object t) (sym all)
