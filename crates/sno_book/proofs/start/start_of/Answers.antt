-- The texts of an opening.
use Rattle.std.proofs.Common.{◌≡◌, ◌∙◌, ap, sym, refl, false, nat_lt, length, List, ℕ, arith}
use Rattle.std.proofs.lemmas.Bool.{le-ltb}
use Rattle.std.specs.Vec.Iter.{into_iter_items}
use Rattle.sno_pattern.specs.NameList.{repeat_from}
use Rattle.sno_book.specs.Openings.{names_in, texts_seen}
use Rattle.sno_book.specs.Starts.{contents}
use Rattle.sno_book.proofs.TextRows.{repeated, not_added, rest_whole, first_same, contents_more}
use Rattle.sno_book.proofs.start.start_of.Goals as goal

pub returns-then-not-branch-clause-result : goal.returns-then-not-branch-clause-result
returns-then-not-branch-clause-result c =
    let so_far = texts_seen c.loop-name.named.entries in
    let first = repeat_from (names_in so_far) (length c.loop-name.named.entries) (names_in (into_iter_items c.loop-name.name-iterator)) in
    let short : nat_lt 1024 (length c.args.texts.items) ≡ false = le-ltb 1024 (length c.args.texts.items) (omega (arith, c.if-len-gt-MAX_TEXTS.false, c.len.ensures, c.args.texts.ok.0)) in
    let there = not_added c.in-Some.name so_far c.in_ok-add.field-0 c.in_ok-add.ensures.added c.if-not-branch.true in
    let count : c.len-place.result ≡ length c.loop-name.named.entries = c.len-place.ensures.len in
    repeated c.args.texts.items so_far first c.loop-name.invariant.first short c.len-place.result c.args.room c.in-Some.name c.in-Some.text (into_iter_items c.next.new.self) there
    (ap (λ (l : List (List ℕ × List ℕ)). repeat_from (names_in so_far) c.len-place.result (names_in l)) (sym c.in-Some.ensures.steps.0)
    ∙ ap (λ (n : ℕ). repeat_from (names_in so_far) n (names_in (into_iter_items c.loop-name.name-iterator))) count)

pub loop-name-preserved : goal.loop-name-preserved
loop-name-preserved c =
    let grown = c.in_ok-add.ensures.texts c.if-not-branch.false in
    let steps = c.in-Some.ensures.steps in
    record {
      rest = rest_whole _ _ _ _ _ _ grown steps.0 c.loop-name.invariant.rest;
      first = first_same _ _ _ _ _ _ c.in_ok-add.field-0 c.loop-name.named.entries c.add.new.texts.entries grown steps.0 refl refl c.in_ok-add.ensures.added c.if-not-branch.false
          c.loop-name.invariant.first;
      contents = contents_more _ _ (contents c.loop-name.versioned_texts.items) (contents c.add.new.versioned_texts.items) _ grown (c.in_ok-add.ensures.versioned_texts c.if-not-branch.false) c.loop-name.invariant.contents;
      left = let count = ap (λ (l : List (List ℕ × List ℕ)). length l) steps.0 in omega (arith, count, steps.1, c.loop-name.invariant.left);
    }
