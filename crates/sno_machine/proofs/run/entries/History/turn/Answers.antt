-- The entry that was added has the last assignment of what was left.
use Rattle.std.proofs.Common.{◌++◌, ◌∷◌, [], ap, sym, ◌∙◌, subst, append_assoc}
use Rattle.sno_machine.specs.History.{entries_of, IsHistory, conds_at, pended, in_turn}
use Rattle.sno_machine.specs.declared.run.entries.Entry.{Entry}
use Rattle.sno_machine.specs.declared.run.entries.Entry.TheVariants as entry
use Rattle.sno_machine.proofs.HistoryLaws.{conds_kept, history_new, in_turn_new}
use Rattle.sno_machine.proofs.run.entries.History.turn.Goals as goal

pub loop-start-preserved : goal.loop-start-preserved
loop-start-preserved c =
    let before = c.loop-start.invariant in
    let s = before.0 in
    let added = before.1 in
    let old = (entries_of c.loop-start.self) in
    let below = c.in-Some-Pending.below in
    let x : Entry = entry.Pending c.in-Some-Pending.start c.in-Some-Pending.name c.in-Some-Pending.end below in
    let begins = rw c.in-Some-Pending.field-0-is at (c.in-Some-Pending.ensures s before.2) in
    let is = c.in_ok-push.ensures.entries in (
      s,
      added ++ x ∷ [],
      subst (IsHistory s) (sym is) (history_new s old x before.2 begins.is_entry),
      is ∙ ap (λ z. z ++ x ∷ []) before.3 ∙ append_assoc (entries_of c.args.self.now) added (x ∷ []),
      ap (λ z. conds_at z below ++ in_turn (added ++ x ∷ [])) is
          ∙ ap (λ z. z ++ in_turn (added ++ x ∷ [])) (conds_kept old (x ∷ []) below begins.is_entry)
          ∙ ap (λ z. conds_at old below ++ z) (in_turn_new added x)
          ∙ sym (append_assoc (conds_at old below) (pended x) (in_turn added))
          ∙ ap (λ z. z ++ in_turn added) (sym begins.conds)
          ∙ before.4,
    )
