-- Admission returns the definitions that were drafted.
use Rattle.std.proofs.Common.{◌<◌, ◌∙◌, ℕ, List, length, sym, ap, slice_get, get_or, refl, arith}
use Rattle.std.proofs.Math.ListN.{length-map}
use Rattle.std.proofs.lemmas.Option.{slice_get_read}
use Rattle.sno_pattern.specs.Tree.{tree_of, trees}
use Rattle.sno_document.specs.Document.{IsAdmitted}
use Rattle.sno_document.proofs.CycleLemmas.{no_bad_ref, cycle_parts}
use Rattle.sno_document.proofs.definitions.admit.Goals as goal

pub returns-in-Ok : goal.returns-in-Ok
returns-in-Ok c = (c.in-Ok.ensures.2, IsAdmitted.guarded c.in-Ok.ensures.1)

pub unreachable-requires : goal.unreachable-requires
unreachable-requires c =
    let bad = rw c.in-Err-BadRef.field-0-is at c.in-Err-BadRef.ensures in
    no_bad_ref _ _ (trees c.args.drafted.bodies.items) (c.requires.as_many ∙ sym (length-map c.args.drafted.bodies.items tree_of)) c.requires.covered bad

pub index-requires : goal.index-requires
index-requires c =
    let cycle = rw c.in-Err-Unguarded.field-0-is at c.in-Err-Unguarded.ensures in
    let parts = cycle_parts (trees c.args.drafted.bodies.items) c.in-Err-Unguarded.cycle.items c.in-Some.first.now cycle.1
    (c.in-Some.ensures.value ∙ ap (λ (l : List ℕ). slice_get l 0) c.deref.ensures.value) in
    let inside = parts.2 in
    let long = c.args.drafted.written.ok.0 in
    omega (arith, length-map c.args.drafted.bodies.items tree_of, c.requires.as_many, ap length c.requires.written)

pub returns-in-Some : goal.returns-in-Some
returns-in-Some c = λ _.
    let cycle = rw c.in-Err-Unguarded.field-0-is at c.in-Err-Unguarded.ensures in
    let parts = cycle_parts (trees c.args.drafted.bodies.items) c.in-Err-Unguarded.cycle.items c.in-Some.first.now cycle.1
    (c.in-Some.ensures.value ∙ ap (λ (l : List ℕ). slice_get l 0) c.deref.ensures.value) in
    let inside = parts.2 in
    let short : c.in-Some.first.now < length c.args.drafted.names = omega (arith, length-map c.args.drafted.bodies.items tree_of, c.requires.as_many) in
    IsAdmitted.cycle c.in-Some.first.now parts.0 parts.1
    (slice_get_read c.args.drafted.names (length c.args.drafted.names) c.in-Some.first.now c.index.result.now refl short
    (c.index.ensures ∙ ap (λ (l : List (List ℕ)). get_or l c.in-Some.first.now c.index.result.now) c.requires.written))
