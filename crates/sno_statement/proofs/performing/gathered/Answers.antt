-- The match that was found last is gathered first.
use Rattle.std.proofs.Common.{◌∙◌, ℕ, List, [], ◌∷◌, sym, subst}
use Rattle.sno_statement.specs.Gathered.{AreGathered}
use Rattle.sno_statement.specs.Passes.{match_by, matches_left}
use Rattle.sno_statement.proofs.performing.gathered.Goals as goal

pub returns-clause-matches : goal.returns-clause-matches
returns-clause-matches c =
    let t = c.args.subject.now in
    let one = match_by t c.args.sets.now c.args.hit.now in
    let all = one ∷ matches_left c.args.pass.now in
    let first = c.in_ok-add.ensures [] (c.new-found.ensures t) in
    c.into_matches.ensures all
    (subst (λ (z : List ℕ). AreGathered z c.gather.new.gathered all) (sym (c.in_ok-shared.ensures ∙ c.requires.same)) (c.in_ok-gather.ensures.matches (one ∷ []) first))
