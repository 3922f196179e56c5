-- Neither the literal nor one of the heads comes before.
use Rattle.std.proofs.Common.{not, subst}
use Rattle.memchr.specs.Find.{FindsNeedle, IsFirstByte}
use Rattle.sno_machine.specs.Beginnings.{any_begins, heads_in, is_passed}
use Rattle.sno_machine.proofs.BeginningLaws.{PassesOver, passes_literal, passes_few, passes_many}
use Rattle.sno_machine.proofs.starts.beginnings.Beginnings.next.Goals as goal
use Rattle.sno_machine.proofs.starts.beginnings.Beginnings.next.Goals.{in-Literal, in-Few, in-Many}

pub returns-in-None : goal.returns-in-None
returns-in-None c =
    let t = c.args.text.now in
    let start = c.args.start in
    let all : PassesOver t c.args.self.now start c.match-self.passed = elim c.match-self.branch [
      | in-Literal w ↦ rw (w.in-Literal.is, w.passed-is)
          (passes_literal t w.in-Literal.literal start w.find-passed.result c.if-start-text.false
          (subst (λ z. FindsNeedle z w.in-Literal.literal 0 w.find-passed.result) c.split_at.ensures.back w.find-passed.ensures))
      | in-Few w ↦ rw (w.in-Few.is, w.passed-is)
          (passes_few t w.in-Few.needle start w.first-passed.result c.if-start-text.false
          (subst (λ z. IsFirstByte (any_begins (heads_in w.in-Few.needle)) z w.first-passed.result) c.split_at.ensures.back w.first-passed.ensures))
      | in-Many w ↦ rw (w.in-Many.is, w.passed-is)
          (passes_many t w.in-Many.table start w.first-passed-in-Many.result c.if-start-text.false
          (subst (λ z. IsFirstByte (λ x. not (is_passed w.in-Many.table x)) z w.first-passed-in-Many.result) c.split_at.ensures.back w.first-passed-in-Many.ensures))
    ] in
    subst (PassesOver t c.args.self.now start) c.in-None.is all

pub returns-in-Some : goal.returns-in-Some
returns-in-Some c =
    let t = c.args.text.now in
    let start = c.args.start in
    let all : PassesOver t c.args.self.now start c.match-self.passed = elim c.match-self.branch [
      | in-Literal w ↦ rw (w.in-Literal.is, w.passed-is)
          (passes_literal t w.in-Literal.literal start w.find-passed.result c.if-start-text.false
          (subst (λ z. FindsNeedle z w.in-Literal.literal 0 w.find-passed.result) c.split_at.ensures.back w.find-passed.ensures))
      | in-Few w ↦ rw (w.in-Few.is, w.passed-is)
          (passes_few t w.in-Few.needle start w.first-passed.result c.if-start-text.false
          (subst (λ z. IsFirstByte (any_begins (heads_in w.in-Few.needle)) z w.first-passed.result) c.split_at.ensures.back w.first-passed.ensures))
      | in-Many w ↦ rw (w.in-Many.is, w.passed-is)
          (passes_many t w.in-Many.table start w.first-passed-in-Many.result c.if-start-text.false
          (subst (λ z. IsFirstByte (λ x. not (is_passed w.in-Many.table x)) z w.first-passed-in-Many.result) c.split_at.ensures.back w.first-passed-in-Many.ensures))
    ] in
    subst (PassesOver t c.args.self.now start) c.in-Some.is all
