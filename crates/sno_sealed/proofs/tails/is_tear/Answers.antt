-- What the bytes up to the next line feed or NUL say.
use Rattle.std.proofs.Common.{◌≡◌, sym, ◌∙◌, ap, arith, subst, ℕ, List, Bool, true, false, get_or, take, drop, ◌+◌, [], ◌==◌}
use Rattle.std.specs.List.{list_all}
use Rattle.sno_store.proofs.Splits.{first_is_nul}
use Rattle.sno_sealed.specs.Tails.{ends_batch, is_other, is_tear, is_tear_on}
use Rattle.sno_sealed.proofs.TailLemmas.{at_end, at_line, at_nul, at_other, no_break}
use Rattle.sno_sealed.proofs.tails.is_tear.Goals as goal

pub loop-at-preserved-then-rest-at-ne10 : goal.loop-at-preserved-then-rest-at-ne10
loop-at-preserved-then-rest-at-ne10 c =
    let found = c.in-Some.ensures in
    let xs = c.loop-at.rest.now in
    let first = c.args.first.now in
    let h = c.args.has_lines in
    ap (λ (l : List ℕ). is_tear_on first h false [] l) c.split_at-in-Some.ensures.back
    ∙ sym (at_nul first h c.loop-at.begins xs c.in-Some.at found.0.high (λ j below. found.0.before j (omega arith) below) (first_is_nul (get_or xs c.in-Some.at 0) found.1 c.if-rest-at-ne10.true))
    ∙ c.loop-at.invariant

pub returns-then-is_other : goal.returns-then-is_other
returns-then-is_other c =
    let found = c.in-Some.ensures in
    let xs = c.loop-at.rest.now in
    let piece : c.split_at.result.0.now ≡ take c.in-Some.at xs = c.split_at.ensures.front in
    sym (at_other c.args.first.now c.args.has_lines c.loop-at.begins xs c.in-Some.at found.0.high (λ j below. found.0.before j (omega arith) below) c.if-rest-at-ne10.false
    (ap (λ (l : List ℕ). is_other c.args.first.now c.loop-at.begins l) (sym piece) ∙ sym c.is_other.ensures ∙ c.if-is_other.true)) ∙ c.loop-at.invariant

pub returns-then-ends_batch : goal.returns-then-ends_batch
returns-then-ends_batch c =
    let found = c.in-Some.ensures in
    let xs = c.loop-at.rest.now in
    let first = c.args.first.now in
    let h = c.args.has_lines in
    let piece : c.split_at.result.0.now ≡ take c.in-Some.at xs = c.split_at.ensures.front in
    c.are_zeros.ensures ∙ ap (λ (l : List ℕ). list_all (λ x. x == 0) l) c.split_at-in-Some.ensures.back
    ∙ sym (at_end first h c.loop-at.begins xs c.in-Some.at found.0.high (λ j below. found.0.before j (omega arith) below) c.if-rest-at-ne10.false
    (ap (λ (l : List ℕ). is_other first c.loop-at.begins l) (sym piece) ∙ sym c.is_other.ensures ∙ c.if-is_other.false)
    (ap ends_batch (sym piece) ∙ sym c.ends_batch.ensures ∙ c.if-ends_batch.true))
    ∙ c.loop-at.invariant

pub loop-at-preserved : goal.loop-at-preserved
loop-at-preserved c =
    let found = c.in-Some.ensures in
    let xs = c.loop-at.rest.now in
    let first = c.args.first.now in
    let h = c.args.has_lines in
    let piece : c.split_at.result.0.now ≡ take c.in-Some.at xs = c.split_at.ensures.front in
    ap (λ (l : List ℕ). is_tear_on first h h [] l) c.split_at-in-Some.ensures.back
    ∙ sym (at_line first h c.loop-at.begins xs c.in-Some.at found.0.high (λ j below. found.0.before j (omega arith) below) c.if-rest-at-ne10.false
    (ap (λ (l : List ℕ). is_other first c.loop-at.begins l) (sym piece) ∙ sym c.is_other.ensures ∙ c.if-is_other.false)
    (ap ends_batch (sym piece) ∙ sym c.ends_batch.ensures ∙ c.if-ends_batch.false))
    ∙ c.loop-at.invariant

pub returns : goal.returns
returns c = sym (no_break c.args.first.now c.args.has_lines c.loop-at.begins c.loop-at.rest.now (λ j below. c.in_default.ensures j (omega arith) below)) ∙ c.loop-at.invariant
