-- One character more.
use Rattle.std.proofs.Common.{arith, inl, inr, refl}
use Rattle.sno_pattern.proofs.Words.{inside, outside}
use Rattle.sno_pattern.proofs.tables.word_of.Goals as goal
use Rattle.sno_pattern.proofs.tables.word_of.Goals.{then-first-member+then-member-first-lt-WORD_BITS, else-first-member, else-first-member-via-then-first-member+else-member-first-lt-WORD_BITS, else-first-member-via-else-first-member}

pub loop-member-preserved : goal.loop-member-preserved
loop-member-preserved c =
    elim c.if-first-member.branch [
      | then-first-member+then-member-first-lt-WORD_BITS w ↦
          inside c.loop-member.word c.args.members.now c.args.first c.loop-member.member-index c.loop-member-test.true c.loop-member.invariant c.if-first-member.word _ w.word-is refl w.if-first-member.true w.if-member-first-lt-WORD_BITS.true
      | else-first-member w ↦
          elim w.else-first-member.branch [
            | else-first-member-via-then-first-member+else-member-first-lt-WORD_BITS w' ↦
                outside c.loop-member.word c.args.members.now c.args.first c.loop-member.member-index c.loop-member-test.true c.loop-member.invariant c.if-first-member.word w.word-is (inr (omega (arith, w'.if-member-first-lt-WORD_BITS.false, w'.if-first-member.true)))
            | else-first-member-via-else-first-member w' ↦
                outside c.loop-member.word c.args.members.now c.args.first c.loop-member.member-index c.loop-member-test.true c.loop-member.invariant c.if-first-member.word w.word-is (inl w'.if-first-member.false)
          ]
    ]
