-- One part more is plain.
use Rattle.std.proofs.Common.{◌≡◌, ◌<◌, ◌+◌, ◌++◌, ◌∷◌, [], ◌&&◌, Bool, true, ℕ, List, length, drop, get_or, map, append_assoc, ap, sym, ◌∙◌}
use Rattle.std.proofs.lemmas.List.{at_drop_more}
use Rattle.std.specs.List.{list_all}
use Rattle.sno_read.specs.ByteParts.{part_of}
use Rattle.sno_read.specs.declared.objects.BytePart.{BytePart}
use Rattle.sno_read.specs.declared.objects.Part.{Part}
use Rattle.sno_statement.specs.FileStatements.{is_plain}
use Rattle.sno_statement.proofs.file_statements.plain_object.Goals as goal

module _ (parts : List BytePart) (i : ℕ) (b : BytePart) (inside : i < length parts) (is : b ≡ get_or parts i b) where
  plain_next : (done new : List Part) (p : Part) → p ≡ part_of b → new ≡ done ++ p ∷ [] → done ++ map part_of (drop i parts) ≡ map part_of parts → new ++ map part_of (drop (i + 1) parts) ≡ map part_of parts
  plain_next done new p same pushed so_far =
      let rest = map part_of (drop (i + 1) parts) in
      ap (λ (z : List Part). z ++ rest) pushed
      ∙ append_assoc done (p ∷ []) rest
      ∙ ap (λ (z : Part). done ++ z ∷ rest) (same ∙ ap part_of is)
      ∙ sym (at_drop_more (λ (z : List BytePart). done ++ map part_of z) parts i b inside)
      ∙ so_far

  all_plain : is_plain (part_of b) ≡ true → list_all is_plain (map part_of (drop i parts)) ≡ list_all is_plain (map part_of parts)
      → list_all is_plain (map part_of (drop (i + 1) parts)) ≡ list_all is_plain (map part_of parts)
  all_plain one so_far =
      let rest = list_all is_plain (map part_of (drop (i + 1) parts)) in
      ap (λ (z : Bool). z && rest) (sym one)
      ∙ ap (λ (z : BytePart). is_plain (part_of z) && rest) is
      ∙ sym (at_drop_more (λ (z : List BytePart). list_all is_plain (map part_of z)) parts i b inside)
      ∙ so_far

pub loop-part-preserved : goal.loop-part-preserved
loop-part-preserved c =
    let parts = c.args.parts.now in
    let i = c.loop-part.part-index in
    let b = c.part-item.result in
    let plain = rw c.in-Some.is at c.in_ok-plain_part.ensures in
    record {
      so_far = plain_next parts i b c.loop-part-test.true c.part-item.is c.loop-part.plain.items c.push.new.self.items c.in-Some.part plain.1 c.in_ok-push-in-Some.ensures.items c.loop-part.invariant.so_far;
      plain = all_plain parts i b c.loop-part-test.true c.part-item.is plain.0 c.loop-part.invariant.plain;
    }
