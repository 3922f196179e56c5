-- Each match is added. At the end no search is left, and the trials that were spent are those of all searches.
use Rattle.std.proofs.Common.{◌≡◌, ◌++◌, ◌∷◌, [], ℕ, List, map, ap, sym, ◌∙◌, arith}
use Rattle.std.proofs.lemmas.List.{append-nil}
use Rattle.sno_statement.specs.BytePasses.{byte_match}
use Rattle.sno_statement.specs.Passes.{matches_left}
use Rattle.sno_statement.specs.Statement.{Statement}
use Rattle.sno_statement.specs.declared.match_lists.Match.{Match}
use Rattle.sno_statement.proofs.PassLaws.{ended_within}
use Rattle.sno_find.specs.Findings.{hit_of, hits_seen}
use Rattle.sno_find.specs.declared.hits.Hit.{Hit}
use Rattle.sno_find.proofs.Added.{next_added}
use Rattle.sno_find.proofs.hits.add_all.Goals as goal

pub loop-pass-preserved : goal.loop-pass-preserved
loop-pass-preserved c =
    let number = c.args.statement.now.number in
    let before = c.loop-pass.invariant in
    let left : List Match = matches_left c.next.new.self in
    let m : Match = byte_match c.in-Some.found in
    let next : matches_left c.loop-pass.pass ≡ byte_match c.in-Some.found ∷ matches_left c.next.new.self = rw c.in-Some.is at c.in_ok-found.ensures.next in
    let hit : Hit = record { statement = c.number.result; found = c.in-Some.found } in
    record {
      found = ap (λ (z : List Hit). hits_seen z ++ map (hit_of number) left) c.in_ok-push.ensures.items
          ∙ next_added number c.loop-pass.hits.items hit m (matches_left c.loop-pass.pass) left next (ap (λ (n : ℕ). hit_of n m) (c.number.ensures ∙ ap (λ (z : Statement). z.number) c.search.ensures))
          ∙ before.found;
      trials = c.in_ok-found.ensures.trials ∙ before.trials;
      statement = c.in_ok-found.ensures.same.0 ∙ before.statement;
    }

pub returns-clause-added : goal.returns-clause-added
returns-clause-added c =
    let number = c.args.statement.now.number in
    let nothing : matches_left c.loop-pass.pass ≡ [] = rw c.in_default.is at c.in_ok-found.ensures.next in
    sym (ap (λ (z : List Match). hits_seen c.loop-pass.hits.items ++ map (hit_of number) z) nothing ∙ append-nil (hits_seen c.loop-pass.hits.items))
    ∙ c.loop-pass.invariant.found

pub returns-clause-within : goal.returns-clause-within
returns-clause-within c =
    let kept = c.in_ok-found.ensures.trials ∙ c.loop-pass.invariant.trials in
    let limit = ap (λ (z : Statement). z.limit) (c.in_ok-found.ensures.same.0 ∙ c.loop-pass.invariant.statement) in
    let spent = ended_within c.next.new.self (rw c.in_default.is at c.in_ok-found.ensures.ended) c.in_ok-found.ensures.within in
    omega (arith, kept, limit, spent)
