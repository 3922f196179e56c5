-- The newest entry has the next assignment.
use Rattle.std.proofs.Common.{◌≡◌, ◌<◌, ℕ, List, ◌++◌, ◌∷◌, [], length, ap, sym, ◌∙◌, append_assoc, length-append, arith}
use Rattle.sno_machine.specs.History.{entries_of, in_turn}
use Rattle.sno_machine.specs.declared.run.entries.Entry.{Entry}
use Rattle.sno_machine.specs.declared.run.entries.Entry.TheVariants as entry
use Rattle.sno_machine.proofs.HistoryLaws.{in_turn_new, last_added, unpended}
use Rattle.sno_machine.proofs.run.entries.History.gather_in_turn.Goals as goal

pub loop-self-preserved-in-Pending : goal.loop-self-preserved-in-Pending
loop-self-preserved-in-Pending c =
    let before = c.loop-self.invariant in
    let old = (entries_of c.args.self.now) in
    let new = c.pop.new.self.items in
    let x : Entry = entry.Pending c.in-Pending.start c.in-Pending.name c.in-Pending.end c.in-Pending.below in
    let popped : new ++ x ∷ [] ≡ old ++ before.0 = sym (c.in-Some.ensures.items ∙ ap (λ z. new ++ z ∷ []) c.in-Pending.is) ∙ before.1 in
    let more : length old < length (old ++ before.0) = omega (arith, c.loop-self-test.true, c.len-in-loop-self.ensures, before.2, ap length before.1) in
    let last = last_added old before.0 new x popped more in
    let value : List ℕ × ℕ × ℕ = (c.in-Pending.name.now, c.in-Pending.start, c.in-Pending.end) in
    let gathered = c.loop-self.self.gathered.items in (
      last.0,
      last.1,
      before.2,
      ap (λ z. z ++ in_turn last.0) c.push_reserved.ensures.items
          ∙ append_assoc gathered (value ∷ []) (in_turn last.0)
          ∙ ap (λ z. gathered ++ z) (sym (in_turn_new last.0 x))
          ∙ ap (λ z. gathered ++ in_turn z) (sym last.2)
          ∙ before.3,
      omega (arith, before.4, ap length last.2, length-append last.0 (x ∷ []), ap length c.push_reserved.ensures.items, length-append gathered (value ∷ []), c.push_reserved.ensures.capacity),
    )

pub loop-self-preserved-in_default-entry : goal.loop-self-preserved-in_default-entry
loop-self-preserved-in_default-entry c =
    let before = c.loop-self.invariant in
    let old = (entries_of c.args.self.now) in
    let new = c.pop.new.self.items in
    let x : Entry = c.in-Some.entry in
    let popped : new ++ x ∷ [] ≡ old ++ before.0 = sym c.in-Some.ensures.items ∙ before.1 in
    let more : length old < length (old ++ before.0) = omega (arith, c.loop-self-test.true, c.len-in-loop-self.ensures, before.2, ap length before.1) in
    let last = last_added old before.0 new x popped more in
    let gathered = c.loop-self.self.gathered.items in (
      last.0,
      last.1,
      before.2,
      ap (λ z. gathered ++ z) (sym (ap (λ z. z ++ in_turn last.0) (unpended x c.in_default-entry.not-Pending)))
          ∙ ap (λ z. gathered ++ z) (sym (in_turn_new last.0 x))
          ∙ ap (λ z. gathered ++ in_turn z) (sym last.2)
          ∙ before.3,
      omega (arith, before.4, ap length last.2, length-append last.0 (x ∷ [])),
    )
