-- One more word is covered.
use Rattle.std.proofs.Common.{◌≡◌, [], ◌∷◌, ◌++◌, length, get_or, ap, arith, length-append, subst}
use Rattle.sno_machine.specs.Beginnings.{NoneBegins}
use Rattle.sno_machine.specs.declared.starts.heads.Head.TheVariants as head
use Rattle.sno_machine.proofs.BeginningLaws.{cover_one_more}
use Rattle.sno_machine.proofs.starts.fronts.Fronts.all_heads.Goals as goal

pub loop-word-preserved : goal.loop-word-preserved
loop-word-preserved c =
    let fronts = c.args.self.now in
    let word = c.word-item.result in
    let i = c.loop-word.word-index in
    let byte = head.Byte word.first in
    let all = c.loop-word.all.items in
    let grown : c.push.new.self.items ≡ all ++ byte ∷ [] = c.in_ok-push.ensures.items in
    record {
      count = omega (arith, ap length grown, length-append all (byte ∷ []), c.loop-word.invariant.count);
      covers = λ text none.
          cover_one_more fronts.heads.items all fronts.words.items i word (omega (arith, c.loop-word-test.true, ap length c.deref-word-items.ensures.value))
          (subst (λ l. word ≡ get_or l i word) c.deref-word-items.ensures.value c.word-item.is)
          c.loop-word.invariant.covers text (subst (λ l. NoneBegins l text) grown none);
    }
