-- Up to the first character with which a front can begin there is none, nor is one there if none begins.
use Rattle.std.proofs.Common.{◌≡◌, ◌+◌, length, drop, Some, None, arith, ap, subst, ◌∙◌}
use Rattle.std.proofs.lemmas.List.{length-drop, drop-drop}
use Rattle.memchr.specs.Find.{IsFirstByte}
use Rattle.sno_machine.specs.Beginnings.{may_begin, NoneBegins, NoWord, NoFrontsFrom}
use Rattle.sno_machine.proofs.BeginningLaws.{passes_test, none_up_to, none_there_too}
use Rattle.sno_machine.proofs.starts.front_search.FrontSearch.next.Goals as goal

pub returns-in-None : goal.returns-in-None
returns-in-None c =
    let t = c.args.text.now in
    let x = c.args.self.now in
    let from = c.loop-from.from in
    let found = subst (λ z. IsFirstByte (may_begin x.heads) z None) c.split_at.ensures.back c.in-None.ensures in
    none_up_to t x c.args.start from (length t + 1) c.if-start-self.false c.loop-from.invariant.past c.loop-from.invariant.none
    (passes_test t (may_begin x.heads) from None c.loop-from.invariant.within found)

pub returns-then-begins : goal.returns-then-begins
returns-then-begins c =
    let t = c.args.text.now in
    let x = c.args.self.now in
    let from = c.loop-from.from in
    let passed = c.in-Some.passed in
    let found = subst (λ z. IsFirstByte (may_begin x.heads) z (Some passed)) c.split_at.ensures.back c.in-Some.ensures in
    let all = passes_test t (may_begin x.heads) from (Some passed) c.loop-from.invariant.within found in (
      omega (arith, c.loop-from.invariant.past),
      all.1,
      none_up_to t x c.args.start from (from + passed) c.if-start-self.false c.loop-from.invariant.past c.loop-from.invariant.none all.2,
    )

pub loop-from-preserved : goal.loop-from-preserved
loop-from-preserved c =
    let t = c.args.text.now in
    let x = c.args.self.now in
    let from = c.loop-from.from in
    let passed = c.in-Some.passed in
    let past = c.loop-from.invariant.past in
    let found = subst (λ z. IsFirstByte (may_begin x.heads) z (Some passed)) c.split_at.ensures.back c.in-Some.ensures in
    let all = passes_test t (may_begin x.heads) from (Some passed) c.loop-from.invariant.within found in
    let before = none_up_to t x c.args.start from (from + passed) c.if-start-self.false past c.loop-from.invariant.none all.2 in
    let there : c.split_at-in-Some.result.1.now ≡ drop (from + passed) t =
    c.split_at-in-Some.ensures.back ∙ ap (λ l. drop passed l) c.split_at.ensures.back ∙ drop-drop passed from t ∙ ap (λ n. drop n t) (omega arith) in
    let here = subst (λ l. NoneBegins x.fronts.heads.items l × NoWord x.fronts.words.items l) there (c.begins.ensures c.if-begins.false) in
    let high = found.0.high in
    let next : from + passed + 1 ≡ from + (passed + 1) = omega arith in
    record {
      past = omega (arith, past);
      within = omega (arith, length-drop from t, high);
      none = subst (λ n. NoFrontsFrom t x.fronts c.args.start n) next (none_there_too t x c.args.start (from + passed) c.if-start-self.false (omega (arith, past)) before here);
    }
