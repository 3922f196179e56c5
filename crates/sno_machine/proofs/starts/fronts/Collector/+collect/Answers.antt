-- The fronts of each kind of pattern.
use Rattle.std.proofs.Common.{◌≡◌, Bool, true, Result, IfOk, sym, ap, ◌∙◌, arith, ◌-◌}
use Rattle.std.proofs.lemmas.Bool.{ltb-true}
use Rattle.std.proofs.lemmas.Result.{IfOk-weaker}
use Rattle.sno_pattern.specs.Tree.{tree_of, trees}
use Rattle.sno_machine.proofs.HeadLaws.{body_at, head_collected, part_collected, place_collected, word_collected, both_collected, ref_collected}
use Rattle.sno_machine.proofs.starts.fronts.Collector.+collect.Goals as goal

-- what follows if the result is that all are there
where_whole : {E P Q : Type 0} (r : Result Bool E) → IfOk r (λ whole. whole ≡ true → P) → (P → Q) → IfOk r (λ whole. whole ≡ true → Q)
where_whole {E} {P} {Q} r h f = IfOk-weaker r (λ whole. whole ≡ true → P) (λ whole. whole ≡ true → Q) (λ whole given is. f (given is)) h

where_put : {E P Q : Type 0} (r : Result Bool E) → IfOk r (λ whole. P) → (P → Q) → IfOk r (λ whole. whole ≡ true → Q)
where_put {E} {P} {Q} r h f = IfOk-weaker r (λ whole. P) (λ whole. whole ≡ true → Q) (λ whole given is. f given) h

pub collect-requires : goal.collect-requires
collect-requires t c = (omega (arith, c.decreases, c.if-self-gt0.true), tt)

pub collect-requires-in-Alt : goal.collect-requires-in-Alt
collect-requires-in-Alt t c = (omega (arith, c.decreases, c.if-self-gt0.true, c.in_ok-begun-in-Alt.ensures.less), tt)

pub collect-requires-in-Some-get : goal.collect-requires-in-Some-get
collect-requires-in-Some-get t c = (omega (arith, c.decreases, c.if-self-gt0-2.true), tt)

pub returns-in-Some-clause-collected : goal.returns-in-Some-clause-collected
returns-in-Some-clause-collected t c = where_put _ c.put.ensures.added (λ added.
    let known = trees c.args.self.now.known.now in
    let part = tree_of c.first_part-part.result.now in
    part_collected known c.args.depth _ _ _ _ _ _ (tree_of c.args.pattern.now) part c.first_part-part.ensures
    (head_collected known c.args.depth _ _ _ _ _ _ part _ added c.put.ensures.words c.put.ensures.places (c.in-Some.ensures known c.args.depth)))

pub returns-in-Some-of-clause-collected : goal.returns-in-Some-of-clause-collected
returns-in-Some-of-clause-collected t c = where_put _ c.put_word.ensures.added (λ added.
    let known = trees c.args.self.now.known.now in
    let part = tree_of c.first_part-part.result.now in
    part_collected known c.args.depth _ _ _ _ _ _ (tree_of c.args.pattern.now) part c.first_part-part.ensures
    (word_collected known c.args.depth _ _ _ _ _ _ part c.in-Some-of.word c.in-Some-of.ensures c.put_word.ensures.heads added c.put_word.ensures.places))

pub returns-in-Pos-clause-collected : goal.returns-in-Pos-clause-collected
returns-in-Pos-clause-collected t c = where_put _ c.put_place.ensures.added (λ added.
    let known = trees c.args.self.now.known.now in
    part_collected known c.args.depth _ _ _ _ _ _ (tree_of c.args.pattern.now) _ (sym (ap tree_of c.in-Pos.is) ∙ c.first_part-part.ensures)
    (place_collected known c.args.depth _ _ _ _ _ _ c.in-Pos.place c.put_place.ensures.heads c.put_place.ensures.words added))

pub returns-else-not-begun-clause-collected : goal.returns-else-not-begun-clause-collected
returns-else-not-begun-clause-collected t c = where_whole _ c.collect-in-Alt.ensures.collected (λ collected.
    let known = trees c.args.self.now.known.now in
    let first = rw c.deref.ensures at (c.in_ok-begun-in-Alt.ensures.collected c.if-not-begun.false) in
    let second = rw (c.deref-in-Alt.ensures, c.collect.ensures.known) at collected in
    part_collected known c.args.depth _ _ _ _ _ _ (tree_of c.args.pattern.now) _ (sym (ap tree_of c.in-Alt.is) ∙ c.first_part-part.ensures)
    (both_collected known c.args.depth (tree_of c.in-Alt.first.value) (tree_of c.in-Alt.second.value) _ _ _ _ _ _ _ _ _ first second))

pub returns-in-Some-get-clause-collected : goal.returns-in-Some-get-clause-collected
returns-in-Some-get-clause-collected t c = where_whole _ c.collect-in-Some-get.ensures.collected (λ collected.
    let known = trees c.args.self.now.known.now in
    part_collected known c.args.depth _ _ _ _ _ _ (tree_of c.args.pattern.now) _ (sym (ap tree_of c.in-Ref.is) ∙ c.first_part-part.ensures)
    (ref_collected known c.args.depth (c.args.depth - 1) c.in-Ref.number (tree_of c.in-Some-get.body.now) _ _ _ _ _ _ (omega (arith, c.if-depth-gt0.true))
    (body_at c.args.self.now.known.now c.in-Ref.number c.in-Some-get.body.now (ltb-true _ _ (sym c.in-Some-get.ensures.lookup.0)) c.in-Some-get.ensures.lookup.1)
    collected))
