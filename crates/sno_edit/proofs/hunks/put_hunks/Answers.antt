-- One hunk more, and none at the end.
use Rattle.std.proofs.Common.{◌++◌, [], ◌∷◌, ◌∙◌, List, ap, append-nil, drop, length, refl, subst, take}
use Rattle.std.proofs.lemmas.List.{flat_map_more}
use Rattle.sno_edit.specs.Scripts.{new_lines, old_lines}
use Rattle.sno_edit.specs.Hunks.{AreHunks, Hunk, hunk_at, hunk_text}
use Rattle.sno_edit.proofs.HunkLemmas.{fits_more, hunk_more, new_fewer, old_fewer}
use Rattle.sno_edit.proofs.hunks.put_hunks.Goals as goal

pub loop-place-preserved : goal.loop-place-preserved
loop-place-preserved c =
    let first = take c.in-Some.place c.loop-place.left.script.now in
    let lines = take c.in-Some.count (drop c.in-Some.place c.loop-place.left.script.now) in
    let hunk : Hunk = hunk_at c.loop-place.left.before.old c.loop-place.left.before.new c.in-Some.place c.in-Some.count c.loop-place.left.script.now in
    record {
      old_fits = fits_more c.loop-place.left.before.old c.in_ok-left.left.before.old c.in-Some.place c.in-Some.count (length c.args.script.now)
          c.loop-place.left.script.now c.in_ok-left.left.script.now first lines (length (old_lines first)) (length (old_lines lines))
          c.loop-place.invariant.old_fits c.in-Some.ensures.within c.in_ok-left.ensures.rest refl refl (old_fewer first) (old_fewer lines) c.in_ok-left.ensures.old;
      new_fits = fits_more c.loop-place.left.before.new c.in_ok-left.left.before.new c.in-Some.place c.in-Some.count (length c.args.script.now)
          c.loop-place.left.script.now c.in_ok-left.left.script.now first lines (length (new_lines first)) (length (new_lines lines))
          c.loop-place.invariant.new_fits c.in-Some.ensures.within c.in_ok-left.ensures.rest refl refl (new_fewer first) (new_fewer lines) c.in_ok-left.ensures.new;
      hunks = c.loop-place.invariant.hunks ++ hunk ∷ [];
      written = c.in_ok-left.ensures.written ∙ ap (λ t. t ++ hunk_text c.args.coloured hunk) c.loop-place.invariant.written
          ∙ flat_map_more (hunk_text c.args.coloured) (c.args.diff.now.items) c.loop-place.invariant.hunks hunk;
      parts = hunk_more c.loop-place.left.before.old c.loop-place.left.before.new c.in_ok-left.left.before.old c.in_ok-left.left.before.new
          c.in-Some.place c.in-Some.count c.loop-place.invariant.hunks c.args.script.now c.loop-place.left.script.now c.in_ok-left.left.script.now
          c.loop-place.invariant.parts c.in-Some.ensures.kept c.in_ok-left.ensures.rest c.in_ok-left.ensures.old c.in_ok-left.ensures.new;
    }

pub returns : goal.returns
returns c =
    let P : List Hunk → Type 0 = λ hunks. AreHunks 0 0 hunks c.args.script.now in (
      c.loop-place.invariant.hunks,
      c.loop-place.invariant.written,
      subst P (append-nil c.loop-place.invariant.hunks) (c.loop-place.invariant.parts [] (c.next_hunk.ensures.none c.in_default.is)),
    )
