-- Each search leaves of what is still to come all but the match that it found.
use Rattle.std.proofs.Common.{◌≡◌, ◌≤◌, ◌∷◌, ℕ, List, [], length, Option, Some, None, true, false, ap, sym, subst, ◌∙◌, arith}
use Rattle.std.proofs.lemmas.Result.{err_from_is_err_and}
use Rattle.sno_pattern.specs.declared.found.Found.{Found}
use Rattle.sno_pattern.specs.declared.found.Hit.{Hit}
use Rattle.sno_statement.specs.declared.match_lists.Match.{Match}
use Rattle.sno_statement.specs.Bindings.{bind_conds, bind_sets, conds_of}
use Rattle.sno_statement.specs.Passes.{Pass, IsCursor, counts, cursors_left, match_by, match_of, matches_from, matches_left, most_searches, moved, search, search_trials, trials_together}
use Rattle.sno_statement.proofs.PassLaws.{counted, further, none_left, no_matches, skipped, statement_kept, text_kept, trials_kept, trials_over}
use Rattle.sno_statement.proofs.searches.Searches.next_hit.Goals as goal

pub returns-in_err-found-clause-refused : goal.returns-in_err-found-clause-refused
returns-in_err-found-clause-refused c =
    let p = c.loop-self.self in
    let from = c.in-Some.from in
    let before = c.loop-self.invariant in
    let at : p.at ≡ Some from = ap (λ (z : Pass). z.at) (sym c.self.view_is) ∙ c.in-Some.is in
    let inside : from ≤ length p.text = subst (λ (z : List ℕ). from ≤ length z) (ap (λ (z : Pass). z.text) c.self.view_is) (subst (λ (z : Option ℕ). IsCursor c.self.inside.searched z) c.in-Some.is c.self.invariant.1) in
    let trials = search_trials p.statement p.text from in
    let e = err_from_is_err_and c.from_residual.result c.from_residual.ensures.1 in
    let limit : p.statement.limit ≡ c.args.self.now.statement.limit = ap (λ z. z.limit) before.statement in
    rw (e.1, e.2) (λ is. let over = trials_over p from at inside p.statement.limit (c.in_err-found.ensures.refused is) in let kept = before.trials in omega (arith, limit, over, kept))

pub returns-in_err-found-clause-text : goal.returns-in_err-found-clause-text
returns-in_err-found-clause-text c = c.search.ensures.text ∙ c.loop-self.invariant.text

pub returns-in_default-end-clause-next : goal.returns-in_default-end-clause-next
returns-in_default-end-clause-next c =
    let p = c.loop-self.self in
    let from = c.in-Some.from in
    let before = c.loop-self.invariant in
    let at : p.at ≡ Some from = ap (λ (z : Pass). z.at) (sym c.self.view_is) ∙ c.in-Some.is in
    let inside : from ≤ length p.text = subst (λ (z : List ℕ). from ≤ length z) (ap (λ (z : Pass). z.text) c.self.view_is) (subst (λ (z : Option ℕ). IsCursor c.self.inside.searched z) c.in-Some.is c.self.invariant.1) in
    let trials = search_trials p.statement p.text from in
    let none : (search p.statement p.text from).end ≡ None = ap (λ (z : Found). z.end) (sym c.in_ok-found.ensures.found) ∙ c.in_default-end.is in
    before.matches ∙ none_left p from at inside none

pub returns-in_default-end-clause-trials : goal.returns-in_default-end-clause-trials
returns-in_default-end-clause-trials c =
    let p = c.loop-self.self in
    let from = c.in-Some.from in
    let before = c.loop-self.invariant in
    let at : p.at ≡ Some from = ap (λ (z : Pass). z.at) (sym c.self.view_is) ∙ c.in-Some.is in
    let inside : from ≤ length p.text = subst (λ (z : List ℕ). from ≤ length z) (ap (λ (z : Pass). z.text) c.self.view_is) (subst (λ (z : Option ℕ). IsCursor c.self.inside.searched z) c.in-Some.is c.self.invariant.1) in
    let trials = search_trials p.statement p.text from in
    ap trials_together c.in_ok-found.ensures.moved ∙ sym (trials_kept p from at inside) ∙ before.trials

pub returns-in_default-end-clause-same : goal.returns-in_default-end-clause-same
returns-in_default-end-clause-same c =
    let p = c.loop-self.self in
    let from = c.in-Some.from in
    let before = c.loop-self.invariant in
    let at : p.at ≡ Some from = ap (λ (z : Pass). z.at) (sym c.self.view_is) ∙ c.in-Some.is in
    let inside : from ≤ length p.text = subst (λ (z : List ℕ). from ≤ length z) (ap (λ (z : Pass). z.text) c.self.view_is) (subst (λ (z : Option ℕ). IsCursor c.self.inside.searched z) c.in-Some.is c.self.invariant.1) in
    let trials = search_trials p.statement p.text from in
    let end = (search p.statement p.text from).end in
    (ap (λ (z : Pass). z.statement) c.in_ok-found.ensures.moved ∙ statement_kept p from at inside trials end ∙ before.statement, ap (λ (z : Pass). z.text) c.in_ok-found.ensures.moved ∙ text_kept p from at inside trials end ∙ before.text)

pub returns-then-counts-clause-next : goal.returns-then-counts-clause-next
returns-then-counts-clause-next c =
    let p = c.loop-self.self in
    let from = c.in-Some.from in
    let before = c.loop-self.invariant in
    let at : p.at ≡ Some from = ap (λ (z : Pass). z.at) (sym c.self.view_is) ∙ c.in-Some.is in
    let inside : from ≤ length p.text = subst (λ (z : List ℕ). from ≤ length z) (ap (λ (z : Pass). z.text) c.self.view_is) (subst (λ (z : Option ℕ). IsCursor c.self.inside.searched z) c.in-Some.is c.self.invariant.1) in
    let trials = search_trials p.statement p.text from in
    let hit = c.in-Some-end.hit in
    let some : (search p.statement p.text from).end ≡ Some hit = ap (λ (z : Found). z.end) (sym c.in_ok-found.ensures.found) ∙ c.in-Some-end.is in
    let now : c.search.new.self ≡ moved p trials (Some hit) = c.in_ok-found.ensures.moved ∙ ap (moved p trials) some in
    let was : p.before ≡ c.self.inside.before = ap (λ (z : Pass). z.before) (sym c.self.view_is) in
    let held : counts p.before hit ≡ true = ap (λ (z : Option ℕ). counts z hit) was ∙ sym c.counts.ensures ∙ c.if-counts.true in
    let made : match_of p.text (search p.statement p.text from) hit ≡ match_by p.text c.in_ok-found.found.sets hit =
    ap (λ (z : Found). match_of p.text z hit) (sym c.in_ok-found.ensures.found)
    ∙ ap (λ (z : Option Hit). record { start = hit.start; end = hit.end; bindings = bind_conds p.text (bind_sets p.text [] c.in_ok-found.found.sets) (conds_of z) }) c.in-Some-end.is in
    before.matches ∙ counted p from at inside trials hit some held ∙ ap (λ (z : Match). z ∷ matches_left (moved p trials (Some hit))) made ∙ ap (λ (z : Pass). match_by p.text c.in_ok-found.found.sets hit ∷ matches_left z) (sym now)
    ∙ ap (λ (z : List ℕ). match_by z c.in_ok-found.found.sets hit ∷ matches_left c.search.new.self) before.text

pub returns-then-counts-clause-ended : goal.returns-then-counts-clause-ended
returns-then-counts-clause-ended c =
    let p = c.loop-self.self in
    let from = c.in-Some.from in
    let before = c.loop-self.invariant in
    let at : p.at ≡ Some from = ap (λ (z : Pass). z.at) (sym c.self.view_is) ∙ c.in-Some.is in
    let inside : from ≤ length p.text = subst (λ (z : List ℕ). from ≤ length z) (ap (λ (z : Pass). z.text) c.self.view_is) (subst (λ (z : Option ℕ). IsCursor c.self.inside.searched z) c.in-Some.is c.self.invariant.1) in
    let trials = search_trials p.statement p.text from in
    let hit = c.in-Some-end.hit in
    let some : (search p.statement p.text from).end ≡ Some hit = ap (λ (z : Found). z.end) (sym c.in_ok-found.ensures.found) ∙ c.in-Some-end.is in
    let now : c.search.new.self ≡ moved p trials (Some hit) = c.in_ok-found.ensures.moved ∙ ap (moved p trials) some in
    let was : p.before ≡ c.self.inside.before = ap (λ (z : Pass). z.before) (sym c.self.view_is) in
    let held : counts p.before hit ≡ true = ap (λ (z : Option ℕ). counts z hit) was ∙ sym c.counts.ensures ∙ c.if-counts.true in
    let less = further p from at inside trials hit some in
    let here = ap (λ (z : Pass). cursors_left z.text z.at) now in
    let few = before.fewer in
    omega (arith, less, here, few)

pub returns-then-counts-clause-trials : goal.returns-then-counts-clause-trials
returns-then-counts-clause-trials c =
    let p = c.loop-self.self in
    let from = c.in-Some.from in
    let before = c.loop-self.invariant in
    let at : p.at ≡ Some from = ap (λ (z : Pass). z.at) (sym c.self.view_is) ∙ c.in-Some.is in
    let inside : from ≤ length p.text = subst (λ (z : List ℕ). from ≤ length z) (ap (λ (z : Pass). z.text) c.self.view_is) (subst (λ (z : Option ℕ). IsCursor c.self.inside.searched z) c.in-Some.is c.self.invariant.1) in
    let trials = search_trials p.statement p.text from in
    let hit = c.in-Some-end.hit in
    let some : (search p.statement p.text from).end ≡ Some hit = ap (λ (z : Found). z.end) (sym c.in_ok-found.ensures.found) ∙ c.in-Some-end.is in
    let now : c.search.new.self ≡ moved p trials (Some hit) = c.in_ok-found.ensures.moved ∙ ap (moved p trials) some in
    let was : p.before ≡ c.self.inside.before = ap (λ (z : Pass). z.before) (sym c.self.view_is) in
    let held : counts p.before hit ≡ true = ap (λ (z : Option ℕ). counts z hit) was ∙ sym c.counts.ensures ∙ c.if-counts.true in
    ap trials_together c.in_ok-found.ensures.moved ∙ sym (trials_kept p from at inside) ∙ before.trials

pub returns-then-counts-clause-same : goal.returns-then-counts-clause-same
returns-then-counts-clause-same c =
    let p = c.loop-self.self in
    let from = c.in-Some.from in
    let before = c.loop-self.invariant in
    let at : p.at ≡ Some from = ap (λ (z : Pass). z.at) (sym c.self.view_is) ∙ c.in-Some.is in
    let inside : from ≤ length p.text = subst (λ (z : List ℕ). from ≤ length z) (ap (λ (z : Pass). z.text) c.self.view_is) (subst (λ (z : Option ℕ). IsCursor c.self.inside.searched z) c.in-Some.is c.self.invariant.1) in
    let trials = search_trials p.statement p.text from in
    let hit = c.in-Some-end.hit in
    let some : (search p.statement p.text from).end ≡ Some hit = ap (λ (z : Found). z.end) (sym c.in_ok-found.ensures.found) ∙ c.in-Some-end.is in
    let now : c.search.new.self ≡ moved p trials (Some hit) = c.in_ok-found.ensures.moved ∙ ap (moved p trials) some in
    let was : p.before ≡ c.self.inside.before = ap (λ (z : Pass). z.before) (sym c.self.view_is) in
    let held : counts p.before hit ≡ true = ap (λ (z : Option ℕ). counts z hit) was ∙ sym c.counts.ensures ∙ c.if-counts.true in
    (ap (λ (z : Pass). z.statement) now ∙ before.statement, ap (λ (z : Pass). z.text) now ∙ before.text)

pub loop-self-smaller : goal.loop-self-smaller
loop-self-smaller c =
    let p = c.loop-self.self in
    let from = c.in-Some.from in
    let before = c.loop-self.invariant in
    let at : p.at ≡ Some from = ap (λ (z : Pass). z.at) (sym c.self.view_is) ∙ c.in-Some.is in
    let inside : from ≤ length p.text = subst (λ (z : List ℕ). from ≤ length z) (ap (λ (z : Pass). z.text) c.self.view_is) (subst (λ (z : Option ℕ). IsCursor c.self.inside.searched z) c.in-Some.is c.self.invariant.1) in
    let trials = search_trials p.statement p.text from in
    let hit = c.in-Some-end.hit in
    let some : (search p.statement p.text from).end ≡ Some hit = ap (λ (z : Found). z.end) (sym c.in_ok-found.ensures.found) ∙ c.in-Some-end.is in
    let now : c.search.new.self ≡ moved p trials (Some hit) = c.in_ok-found.ensures.moved ∙ ap (moved p trials) some in
    let was : p.before ≡ c.self.inside.before = ap (λ (z : Pass). z.before) (sym c.self.view_is) in
    let less = further p from at inside trials hit some in
    let here = ap (λ (z : Pass). cursors_left z.text z.at) now in
    omega (arith, less, here)

pub loop-self-preserved : goal.loop-self-preserved
loop-self-preserved c =
    let p = c.loop-self.self in
    let from = c.in-Some.from in
    let before = c.loop-self.invariant in
    let at : p.at ≡ Some from = ap (λ (z : Pass). z.at) (sym c.self.view_is) ∙ c.in-Some.is in
    let inside : from ≤ length p.text = subst (λ (z : List ℕ). from ≤ length z) (ap (λ (z : Pass). z.text) c.self.view_is) (subst (λ (z : Option ℕ). IsCursor c.self.inside.searched z) c.in-Some.is c.self.invariant.1) in
    let trials = search_trials p.statement p.text from in
    let hit = c.in-Some-end.hit in
    let some : (search p.statement p.text from).end ≡ Some hit = ap (λ (z : Found). z.end) (sym c.in_ok-found.ensures.found) ∙ c.in-Some-end.is in
    let now : c.search.new.self ≡ moved p trials (Some hit) = c.in_ok-found.ensures.moved ∙ ap (moved p trials) some in
    let was : p.before ≡ c.self.inside.before = ap (λ (z : Pass). z.before) (sym c.self.view_is) in
    let held : counts p.before hit ≡ false = ap (λ (z : Option ℕ). counts z hit) was ∙ sym c.counts.ensures ∙ c.if-counts.false in
    record {
      matches = before.matches ∙ skipped p from at inside trials hit some held ∙ ap matches_left (sym now);
      trials = ap trials_together (c.in_ok-found.ensures.moved) ∙ sym (trials_kept p from at inside) ∙ before.trials;
      statement = ap (λ (z : Pass). z.statement) now ∙ before.statement;
      text = ap (λ (z : Pass). z.text) now ∙ before.text;
      fewer = omega (arith, further p from at inside trials hit some, before.fewer, ap (λ (z : Pass). cursors_left z.text z.at) now);
    }

pub returns-clause-next : goal.returns-clause-next
returns-clause-next c =
    let p = c.loop-self.self in
    let before = c.loop-self.invariant in
    before.matches ∙ ap (matches_from p.statement p.text (most_searches p.text) p.before) (ap (λ (z : Pass). z.at) (sym c.self.view_is) ∙ c.in_default.is) ∙ no_matches p.statement p.text (most_searches p.text) p.before
