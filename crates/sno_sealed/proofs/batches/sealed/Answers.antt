-- A line more is sealed.
use Rattle.std.proofs.Common.{◌≡◌, ◌+◌, refl, sym, ◌∙◌, ap, arith, subst, List, ℕ, [], ◌∷◌, ◌++◌, length, decimal}
use Rattle.sno_store.specs.Lines.{IsPlain}
use Rattle.sno_store.specs.Shown.{lines_in, lines_left}
use Rattle.sno_store.proofs.Scans.{AreLines, are_lines}
use Rattle.sno_sealed.specs.Batches.{sealed_lines, sealed_sum}
use Rattle.sno_sealed.proofs.LineLemmas.{decimal_plain}
use Rattle.sno_sealed.proofs.batches.sealed.Goals as goal

pub loop-payload-init : goal.loop-payload-init
loop-payload-init c =
    let left : lines_left c.into_iter-payload-iterator.result ≡ lines_in c.args.payloads.now
    = ap lines_left c.into_iter-payload-iterator.ensures.into_iter_gives ∙ c.iter-payload-items.ensures in
    let chain = c.args.chain in
    let f = c.in_ok-first.first.items in
    let t = c.in_ok-last.last.items in
    record {
      lines = ap (λ (ls : List (List ℕ)). ls ++ sealed_lines chain.sum chain.lines f t (lines_left c.into_iter-payload-iterator.result)) c.new.ensures
          ∙ ap (λ (ls : List (List ℕ)). sealed_lines chain.sum chain.lines f t ls) left;
      sum = ap (λ (ls : List (List ℕ)). sealed_sum chain.sum chain.lines f t ls) left;
      count = ap (λ (ls : List (List ℕ)). chain.lines + length ls) left;
      plain = refl;
      are = subst AreLines (sym left) (are_lines c.args.payloads.now.bytes.items);
    }

pub add-requires-clause-texts : goal.add-requires-clause-texts
add-requires-clause-texts c = (
  subst IsPlain (sym (c.deref.ensures.value ∙ c.in_ok-first.ensures)) (decimal_plain c.args.first c.ranges.first.fits),
  subst IsPlain (sym (c.deref-in-loop-payload.ensures.value ∙ c.in_ok-last.ensures)) (decimal_plain c.args.last c.ranges.last.fits),
)
