-- The next entry's list is that of the entries before it, and then its assignment.
use Rattle.std.proofs.Common.{rules, ◌≡◌, ℕ, List, ◌+◌, ◌<◌, ◌++◌, ◌∷◌, [], length, get_or, vec_capacity, refl, ap, sym, subst, ◌∙◌, arith, length-append}
use Rattle.std.proofs.lemmas.List.{get_or_default}
use Rattle.sno_machine.specs.History.{conds_of, conds_at}
use Rattle.sno_machine.specs.declared.run.entries.Entry.{Entry}
use Rattle.sno_machine.specs.declared.run.entries.Entry.TheVariants as entry
use Rattle.sno_machine.proofs.TrailLaws.{list_none}
use Rattle.sno_machine.proofs.HistoryLaws.{begins_at}
use Rattle.sno_machine.proofs.run.conditions.put_in_order.Goals as goal
use Rattle.sno_machine.proofs.run.conditions.put_in_order.Goals.{in-Pending+else-below-list, in_default}

pub loop-place-init : goal.loop-place-init
loop-place-init c =
    let none : c.reserve.new.self.items ≡ [] = search rules in
    record {
      list = none ∙ sym (list_none conds_of [] c.args.entries.now);
      few = omega (arith, ap length none);
      room = search rules;
      inside = omega arith;
      number = omega arith;
    }

pub loop-place-preserved : goal.loop-place-preserved
loop-place-preserved c =
    let entries = c.args.entries.now in
    let place = c.loop-place.place in
    let before = c.loop-place.invariant in
    let inside : place < length entries = omega (arith, c.loop-place-test.true) in
    elim c.match-entries-place.branch [
      | in-Pending+else-below-list w ↦
          let x : Entry = entry.Pending w.in-Pending.start w.in-Pending.name w.in-Pending.end w.in-Pending.below in
          let is : x ≡ get_or entries place x = sym w.in-Pending.is ∙ get_or_default entries place _ x inside in
          let begins = begins_at c.requires.held.0 entries place (place + 1) x refl inside is c.requires.held.1 in
          let value : List ℕ × ℕ × ℕ = (w.in-Pending.name.now, w.in-Pending.start, w.in-Pending.end) in
          record {
            list =
                ap (λ z. z.items) w.gathered-is
                ∙ w.push_reserved.ensures.items
                ∙ ap (λ z. z ++ value ∷ []) before.list
                ∙ ap (λ z. conds_at entries z ++ value ∷ []) (sym w.if-below-list.false)
                ∙ sym begins.conds
                ∙ ap (conds_at entries) (sym w.list-is);
            few = omega (arith, before.few, ap (λ z. length z.items) w.gathered-is, ap length w.push_reserved.ensures.items, length-append c.loop-place.gathered.items (value ∷ []));
            room = omega (arith, before.room, ap vec_capacity w.gathered-is, w.push_reserved.ensures.capacity);
            inside = omega (arith, inside);
            number = omega (arith, w.list-is);
          }
      | in_default w ↦ record {
        list = ap (λ z. z.items) w.gathered-is ∙ before.list ∙ ap (conds_at entries) (sym w.list-is);
        few = omega (arith, before.few, ap (λ z. length z.items) w.gathered-is);
        room = omega (arith, before.room, ap vec_capacity w.gathered-is);
        inside = omega (arith, inside);
        number = omega (arith, w.list-is, before.number);
      }
    ]
