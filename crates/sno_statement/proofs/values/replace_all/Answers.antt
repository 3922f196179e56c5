-- One more match is replaced; at the end the rest of the text follows.
use Rattle.std.proofs.Common.{◌≡◌, ◌≤◌, ◌++◌, List, ℕ, length, drop, ◌+◌, arith, refl, subst, ap, sym, ◌∙◌}
use Rattle.std.proofs.lemmas.List.{at_drop_all}
use Rattle.sno_pattern.specs.Ends.{part}
use Rattle.sno_statement.specs.declared.match_lists.Match.{Match}
use Rattle.sno_statement.specs.Value.{value_of}
use Rattle.sno_statement.specs.MatchLists.{match_lent}
use Rattle.sno_statement.specs.Passes.{replaced}
use Rattle.sno_statement.proofs.Ascii.{AreAscii, ascii_append, ascii_drop, ascii_part}
use Rattle.sno_statement.proofs.Replacing.{next_there, written}
use Rattle.sno_statement.proofs.values.replace_all.Goals as goal

pub loop-place-preserved : goal.loop-place-preserved
loop-place-preserved c =
    let t = c.args.subject.now in
    let parts = c.args.parts.now in
    let matches = c.args.matches.now in
    let cursor = c.loop-place.cursor in
    let m = match_lent c.in-Some.m in
    let rest = drop (c.loop-place.place + 1) matches in
    let out = c.loop-place.out.items in
    let kept = c.between.result.now in
    let before : kept ≡ part t cursor m.start = c.between.ensures ∙ ap (λ (z : List ℕ). part z cursor m.start) c.bytes.ensures.value in
    let so_far = ap (λ (z : List Match). out ++ replaced parts t cursor z) (sym (next_there matches c.loop-place.place m c.in-Some.ensures)) ∙ c.loop-place.invariant.value in
    let put : c.put_parts.new.out.items ≡ (out ++ kept) ++ value_of m.bindings parts = c.in_ok-put_parts.ensures.value ∙ ap (λ (z : List ℕ). z ++ value_of m.bindings parts) c.in_ok-extend_from_slice.ensures.items in
    record {
      value = ap (λ (z : List ℕ). z ++ replaced parts t m.end rest) put ∙ written parts t out kept (value_of m.bindings parts) (replaced parts t 0 matches) cursor m rest before refl so_far;
      ascii =
          c.in_ok-put_parts.ensures.ascii
          (subst (λ (z : List ℕ). AreAscii z) (sym c.in_ok-extend_from_slice.ensures.items)
          (ascii_append out kept c.loop-place.invariant.ascii
          (subst (λ (z : List ℕ). AreAscii z) (sym before) (ascii_part t cursor m.start c.bytes.ensures.ascii))));
    }

pub returns : goal.returns
returns c =
    let t = c.args.subject.now in
    let parts = c.args.parts.now in
    let matches = c.args.matches.now in
    let cursor = c.loop-place.cursor in
    let out = c.loop-place.out.items in
    let added = c.in_ok-extend_from_slice-2.ensures.items in
    let end : c.back.result.now ≡ drop cursor t = c.back.ensures ∙ ap (λ (z : List ℕ). drop cursor z) c.bytes-2.ensures.value in
    let none : length matches ≤ c.loop-place.place = omega (arith, c.loop-place-test.false, c.len-place-end.ensures) in
    let nothing = at_drop_all (λ (z : List Match). out ++ replaced parts t cursor z) matches c.loop-place.place none in
    record {
      value = added ∙ ap (λ (z : List ℕ). out ++ z) end ∙ sym nothing ∙ c.loop-place.invariant.value;
      ascii =
          subst (λ (z : List ℕ). AreAscii z) (sym (added ∙ ap (λ (z : List ℕ). out ++ z) end))
          (ascii_append out (drop cursor t) c.loop-place.invariant.ascii (ascii_drop cursor t c.bytes-2.ensures.ascii));
    }
