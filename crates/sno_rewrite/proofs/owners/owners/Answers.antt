-- One reply more, and all of them.
use Rattle.std.proofs.Common.{◌≡◌, ℕ, ◌+◌, List, Option, drop, length, set, slice_get, Some, refl, ap, sym, subst, ◌∙◌, arith}
use Rattle.std.proofs.Math.ListN.{length-set}
use Rattle.std.proofs.lemmas.Option.{slice_get_read}
use Rattle.sno_book.specs.Proposals.{Receipt}
use Rattle.sno_desk.proofs.Worked.{restored}
use Rattle.sno_rewrite.specs.Owners.{Owns}
use Rattle.sno_rewrite.proofs.OwnerLemmas.{owns_more, owns_same}
use Rattle.sno_rewrite.proofs.owners.owners.Goals as goal
use Rattle.sno_rewrite.proofs.owners.owners.Goals.{in-Ok+in_ok-note-in-Ok, in-Err}

pub loop-place-preserved : goal.loop-place-preserved
loop-place-preserved c =
    let read = slice_get_read c.args.replies.now (length c.args.replies.now) c.loop-place.place c.index-replies-place.result refl c.loop-place-test.true c.index-replies-place.is in
    elim c.match-reply.branch [
      | in-Ok+in_ok-note-in-Ok w ↦
          let e : w.receipt.inside.index ≡ w.in-Ok.receipt.index = ap (λ (r : Receipt). r.index) w.receipt.view_is in
          let old = c.loop-place.owners.items in
          let same : w.deref_mut.result.now ≡ old = w.deref_mut.ensures.value in
          let new = w.note.new.owners in
          let grown : new ≡ set old w.in-Ok.receipt.index (Some c.loop-place.place) = w.in_ok-note-in-Ok.ensures.noted ∙ (λ i. set (same i) (e i) (Some c.loop-place.place)) in
          let even = length-set old w.in-Ok.receipt.index (Some c.loop-place.place) in
          let whole = restored c.loop-place.owners.len new (drop (length new) old) (omega (arith, ap length grown, even, w.deref_mut.ensures.len, ap length same)) in
          subst (λ v. Owns c.args.entries c.args.replies.now (c.loop-place.place + 1) v.items) (sym w.owners-is)
          (subst (λ l. Owns c.args.entries c.args.replies.now (c.loop-place.place + 1) l) (sym whole)
          (owns_more c.args.entries c.args.replies.now c.loop-place.place w.in-Ok.receipt old new c.loop-place.invariant (read ∙ ap Some w.in-Ok.is)
          (ap (slice_get old) (sym e) ∙ ap (λ (l : List (Option ℕ)). slice_get l w.receipt.inside.index) (sym same) ∙ w.in_ok-note-in-Ok.ensures.free) grown))
      | in-Err w ↦
          subst (λ v. Owns c.args.entries c.args.replies.now (c.loop-place.place + 1) v.items) (sym w.owners-is)
          (owns_same c.args.entries c.args.replies.now c.loop-place.place w.in-Err.field-0 c.loop-place.owners.items c.loop-place.invariant (read ∙ ap Some w.in-Err.is))
    ]

pub returns-then-all-clause-owns : goal.returns-then-all-clause-owns
returns-then-all-clause-owns c =
    subst (λ (n : ℕ). Owns c.args.entries c.args.replies.now n c.loop-place.owners.items) (omega arith) c.loop-place.invariant
