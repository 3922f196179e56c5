-- No events come from an entry that is dropped; the events to come from a choice are those from its place.
use Rattle.std.proofs.Common.{◌≡◌, ◌++◌, ◌∷◌, [], ap, ◌∙◌, subst, arith}
use Rattle.sno_machine.specs.History.{entries_of, IsHistory, left, steps_left}
use Rattle.sno_machine.specs.declared.run.entries.Entry.{Entry}
use Rattle.sno_machine.specs.declared.run.entries.Entry.TheVariants as entry
use Rattle.sno_machine.proofs.HistoryLaws.{left_new, steps_new, history_old, dropped}
use Rattle.sno_machine.proofs.run.entries.History.back_up.Goals as goal

pub returns-in-Choice-clause-taken_up : goal.returns-in-Choice-clause-taken_up
returns-in-Choice-clause-taken_up c = λ s held.
    let before = c.loop-entry.invariant s held in
    let new = c.pop.new.self.items in
    let x : Entry = entry.Choice c.in-Choice.place in
    let popped : entries_of c.loop-entry.self ≡ new ++ x ∷ [] = c.in-Some.ensures.items ∙ ap (λ z. new ++ z ∷ []) c.in-Choice.is in
    let all = history_old s new x (subst (IsHistory s) popped before.0) in
    record {
      same = before.1 ∙ ap (left s) popped ∙ left_new s new x;
      fewer = omega (arith, before.2, ap (steps_left s) popped, steps_new s new x);
      held = all.0;
      placed = all.1;
    }

pub loop-entry-preserved : goal.loop-entry-preserved
loop-entry-preserved c = λ s held.
    let before = c.loop-entry.invariant s held in
    let new = c.pop.new.self.items in
    let x : Entry = c.in-Some.entry in
    let popped : entries_of c.loop-entry.self ≡ new ++ x ∷ [] = c.in-Some.ensures.items in
    let all = history_old s new x (subst (IsHistory s) popped before.0) in
    (all.0, before.1 ∙ ap (left s) popped ∙ left_new s new x ∙ ap (λ z. z ++ left s new) (dropped s new x c.in_default-entry.not-Choice), omega (arith, before.2, ap (steps_left s) popped, steps_new s new x))
