-- Each match that is found is gathered. At the end no search is left, and the trials that were spent are those of all searches.
use Rattle.std.proofs.Common.{◌≡◌, ◌++◌, ◌∷◌, [], ℕ, List, append_assoc, refl, ap, sym, subst, ◌∙◌, arith}
use Rattle.std.proofs.lemmas.List.{append-nil}
use Rattle.sno_statement.specs.Statement.{Statement}
use Rattle.sno_statement.specs.declared.match_lists.Match.{Match}
use Rattle.sno_statement.specs.Gathered.{AreGathered}
use Rattle.sno_statement.specs.Passes.{Pass, match_by, matches_left, trials_together}
use Rattle.sno_statement.proofs.PassLaws.{ended_within}
use Rattle.sno_statement.proofs.performing.gather.Goals as goal

pub loop-sets-init : goal.loop-sets-init
loop-sets-init c = record {
  matches = ([], refl, λ ms gathered. subst (AreGathered c.args.subject.now c.args.gathered.now) (sym (append-nil ms)) gathered);
  trials = refl;
  statement = refl;
  text = c.requires;
}

pub loop-sets-preserved : goal.loop-sets-preserved
loop-sets-preserved c =
    let t = c.args.subject.now in
    let before = c.loop-sets.invariant in
    let done = before.matches.0 in
    let after = c.next_hit.new.self in
    let kept = c.give_back.ensures in
    let found : Match = match_by t c.in-Some.sets c.in-Some.hit in
    let next : matches_left c.loop-sets.pass ≡ match_by c.loop-sets.pass.text c.in-Some.sets c.in-Some.hit ∷ matches_left after = rw c.in-Some.is at c.in_ok-sets.ensures.next in
    let left : matches_left c.loop-sets.pass ≡ found ∷ matches_left c.give_back.new.self =
    next ∙ ap (λ (z : List ℕ). match_by z c.in-Some.sets c.in-Some.hit ∷ matches_left after) before.text ∙ ap (λ (z : Pass). found ∷ matches_left z) (sym kept) in
    record {
      matches = (
        done ++ found ∷ [],
        append_assoc done (found ∷ []) (matches_left c.give_back.new.self) ∙ ap (λ (z : List Match). done ++ z) (sym left) ∙ before.matches.1,
        λ ms gathered. subst (AreGathered t c.add.new.self) (append_assoc ms done (found ∷ [])) (c.in_ok-add.ensures (ms ++ done) (before.matches.2 ms gathered)),
      );
      trials = ap trials_together kept ∙ c.in_ok-sets.ensures.trials ∙ before.trials;
      statement = ap (λ (z : Pass). z.statement) kept ∙ c.in_ok-sets.ensures.same.0 ∙ before.statement;
      text = ap (λ (z : Pass). z.text) kept ∙ c.in_ok-sets.ensures.same.1 ∙ before.text;
    }

pub returns-clause-matches : goal.returns-clause-matches
returns-clause-matches c ms gathered =
    let before = c.loop-sets.invariant in
    let done = before.matches.0 in
    let nothing : matches_left c.loop-sets.pass ≡ [] = rw c.in_default.is at c.in_ok-sets.ensures.next in
    let all : done ≡ matches_left c.args.pass.now = sym (append-nil done) ∙ ap (λ (z : List Match). done ++ z) (sym nothing) ∙ before.matches.1 in
    subst (λ (z : List Match). AreGathered c.args.subject.now c.loop-sets.gathered (ms ++ z)) all (before.matches.2 ms gathered)

pub returns-clause-within : goal.returns-clause-within
returns-clause-within c =
    let kept = c.in_ok-sets.ensures.trials ∙ c.loop-sets.invariant.trials in
    let limit = ap (λ (z : Statement). z.limit) (c.in_ok-sets.ensures.same.0 ∙ c.loop-sets.invariant.statement) in
    let spent = ended_within c.next_hit.new.self (rw c.in_default.is at c.in_ok-sets.ensures.ended) c.in_ok-sets.ensures.within in
    omega (arith, kept, limit, spent)
