-- An entry that is wanted is written, and those after it are left.
use Rattle.std.proofs.Common.{◌≡◌, ℕ, suc, ◌+◌, ◌-◌, List, ◌∷◌, ◌++◌, drop, length, take, refl, sym, ap, subst, ◌∙◌, arith}
use Rattle.std.specs.Option.{option_map}
use Rattle.std.proofs.lemmas.Option.{slice_get_read}
use Rattle.sno_book.specs.Entries.{Entry}
use Rattle.sno_listing.proofs.ListingLemmas.{row_next}
use Rattle.sno_serve.specs.Excerpts.{rows_of}
use Rattle.sno_serve.proofs.Contents.{row_passed, row_written, rows_tokens}
use Rattle.sno_serve.proofs.content.put_first.Goals as goal
use Rattle.sno_serve.proofs.content.put_first.Goals.{then-is_of+in_ok-put_entry, else-is_of}

pub loop-place-preserved : goal.loop-place-preserved
loop-place-preserved c =
    let name = option_map (λ n. n.now) c.args.name in
    let entries = c.args.entries.now in
    let place = c.loop-place.place in
    let index = c.args.from + place in
    let e = c.index-entries-place.result in
    let rest = drop (place + 1) entries in
    let out = c.loop-place.out.tokens in
    let left = c.loop-place.left in
    let all = c.args.out.now.tokens ++ rows_tokens (take c.args.most (rows_of name c.args.from entries)) in
    let read = slice_get_read entries (length entries) place e refl c.loop-place-test.true c.index-entries-place.is in
    let so_far : out ++ rows_tokens (take left (rows_of name index (e ∷ rest))) ≡ all =
    ap (λ (l : List Entry). out ++ rows_tokens (take left (rows_of name index l))) (sym (row_next entries place e read)) ∙ c.loop-place.invariant.0 in
    let next : c.args.from + (place + 1) ≡ index + 1 = omega arith in
    elim c.if-is_of.branch [
      | then-is_of+in_ok-put_entry w ↦
          let new = w.put_entry.new.out in
          let one_less : left ≡ suc (left - 1) = omega (arith, c.if-left-eq0.false) in
          let written = row_written name index left (left - 1) e rest out new.tokens all (sym c.is_of.ensures ∙ w.if-is_of.true) one_less w.in_ok-put_entry.ensures.0 so_far in
          subst (λ o. (o.tokens ++ rows_tokens (take c.if-is_of.left (rows_of name (c.args.from + (place + 1)) rest)) ≡ all) × (o.before ≡ c.args.out.now.before)) (sym w.out-is)
          (subst (λ n. (new.tokens ++ rows_tokens (take n (rows_of name (c.args.from + (place + 1)) rest)) ≡ all) × (new.before ≡ c.args.out.now.before)) (sym w.left-is)
          (ap (λ (n : ℕ). new.tokens ++ rows_tokens (take (left - 1) (rows_of name n rest))) next ∙ written, w.in_ok-put_entry.ensures.1 ∙ c.loop-place.invariant.1))
      | else-is_of w ↦
          let passed = row_passed name index left e rest out all (sym c.is_of.ensures ∙ w.if-is_of.false) so_far in
          subst (λ o. (o.tokens ++ rows_tokens (take c.if-is_of.left (rows_of name (c.args.from + (place + 1)) rest)) ≡ all) × (o.before ≡ c.args.out.now.before)) (sym w.out-is)
          (subst (λ n. (out ++ rows_tokens (take n (rows_of name (c.args.from + (place + 1)) rest)) ≡ all) × (c.loop-place.out.before ≡ c.args.out.now.before)) (sym w.left-is)
          (ap (λ (n : ℕ). out ++ rows_tokens (take left (rows_of name n rest))) next ∙ passed, c.loop-place.invariant.1))
    ]
