-- The value of one part more.
use Rattle.std.proofs.Common.{◌≡◌, ◌<◌, ◌+◌, ◌++◌, ℕ, List, length, drop, get_or, append_assoc, ap, sym, subst, ◌∙◌}
use Rattle.std.proofs.lemmas.List.{at_drop_more}
use Rattle.sno_read.specs.declared.objects.Part.{Part}
use Rattle.sno_statement.specs.Bindings.{Bindings}
use Rattle.sno_statement.specs.Value.{part_value, value_of}
use Rattle.sno_statement.proofs.Ascii.{AreAscii, ascii_append}
use Rattle.sno_statement.proofs.values.put_parts.Goals as goal

put_next : (bound : Bindings) (parts : List Part) (out new all : List ℕ) (i : ℕ) (p : Part) → i < length parts → p ≡ get_or parts i p → new ≡ out ++ part_value bound p
    → out ++ value_of bound (drop i parts) ≡ all → new ++ value_of bound (drop (i + 1) parts) ≡ all
put_next bound parts out new all i p inside is put so_far =
    let rest = value_of bound (drop (i + 1) parts) in
    ap (λ (z : List ℕ). z ++ rest) put
    ∙ append_assoc out (part_value bound p) rest
    ∙ ap (λ (z : Part). out ++ (part_value bound z ++ rest)) is
    ∙ sym (at_drop_more (λ (z : List Part). out ++ value_of bound z) parts i p inside)
    ∙ so_far

pub loop-part-preserved : goal.loop-part-preserved
loop-part-preserved c =
    let bound = c.args.bindings.now in
    let out = c.loop-part.out.items in
    let part = c.part-item.result in
    let put = c.in_ok-put_part.ensures in
    record {
      value = put_next bound c.args.parts.now out c.put_part.new.out.items _ c.loop-part.part-index part c.loop-part-test.true c.part-item.is put.value c.loop-part.invariant.value;
      ascii = λ before. subst (λ (z : List ℕ). AreAscii z) (sym put.value) (ascii_append out (part_value bound part) (c.loop-part.invariant.ascii before) put.ascii);
    }
