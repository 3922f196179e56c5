-- One more record was taken.
use Rattle.std.proofs.Common.{ℕ, List, [], ◌∷◌, ◌++◌, ◌+◌, ◌∙◌, ap, refl, sym, arith, length, length-append}
use Rattle.sno_store.specs.Shown.{lines_in}
use Rattle.sno_durable.proofs.Queueing.{given_more}
use Rattle.sno_durable.proofs.queue.Queue.take_records.Goals as goal

pub loop-preserved : goal.loop-preserved
loop-preserved c =
    let pushed = c.in_ok-push.ensures.pushed.1 in record {
      taken = omega (arith, c.loop.invariant.taken, ap length pushed, length-append (lines_in c.loop.records) (c.deref.result.now ∷ []));
      given = given_more c.args.self.now.records.entries c.loop.self.records.entries c.remove.new.self.entries c.args.self.now.next c.loop.self.next (c.loop.self.next + 1)
          (lines_in c.args.records.now) (lines_in c.loop.records) (lines_in c.push.new.self) c.in-Some.record c.loop.invariant.given (sym c.remove.ensures.value ∙ c.in-Some.is)
          c.remove.ensures.entries refl (pushed ∙ ap (λ (l : List ℕ). lines_in c.loop.records ++ l ∷ []) c.deref.ensures.value);
      same = c.loop.invariant.same;
    }
