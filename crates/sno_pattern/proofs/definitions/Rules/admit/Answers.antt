-- If no reference is past the last definition and no cycle was found, the invariant holds.
use Rattle.std.proofs.Common.{◌≡◌, List, None, sym, subst, ◌∙◌}
use Rattle.std.proofs.lemmas.List.{length-map}
use Rattle.sno_pattern.specs.declared.tree.Pattern.{Pattern}
use Rattle.sno_pattern.specs.Tree.{tree_of, trees}
use Rattle.sno_pattern.specs.Guard.{Guarded}
use Rattle.sno_pattern.specs.Admission.{first_bad_ref}
use Rattle.sno_pattern.proofs.BadRefs.{all_closed, closed_patterns}
use Rattle.sno_pattern.proofs.definitions.Rules.admit.Goals as goal

pub first_cycle-requires : goal.first_cycle-requires
first_cycle-requires c =
    let P : List Pattern → Type 0 = λ l. first_bad_ref (trees l) ≡ None in
    closed_patterns c.deref-2.result.now (subst P (c.deref.ensures.value ∙ sym c.deref-2.ensures.value) (sym c.in_default.ensures))

pub invariant_of-result : goal.invariant_of-result
invariant_of-result c =
    let P : List Pattern → Type 0 = λ l. first_bad_ref (trees l) ≡ None in
    let Q : List Pattern → Type 0 = λ l. Guarded (trees l) in
    let g : Guarded (trees c.deref-2.result.now) = rw c.in-Ok-None.field-0-is at c.in-Ok-None.ensures in (
      record {
        as_many = c.requires ∙ sym (length-map c.args.bodies.items tree_of);
        closed = all_closed (trees c.args.bodies.items) (subst P c.deref.ensures.value (sym c.in_default.ensures));
      },
      subst Q c.deref-2.ensures.value g,
    )
