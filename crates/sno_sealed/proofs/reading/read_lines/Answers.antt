-- A line more was read.
use Rattle.std.proofs.Common.{◌≡◌, ◌+◌, ◌<◌, ◌^◌, refl, sym, ◌∙◌, ap, arith, subst, List, ℕ, [], ◌∷◌, ◌++◌, length, append_assoc, Fits, w64}
use Rattle.sno_store.specs.Lines.{bytes_of}
use Rattle.sno_store.specs.Shown.{lines_in, lines_left}
use Rattle.sno_sealed.specs.declared.chain.Chain.{Chain}
use Rattle.sno_sealed.specs.Chains.{IsChain, start}
use Rattle.sno_sealed.proofs.LineLemmas.{fewer}
use Rattle.sno_sealed.proofs.ChainLemmas.{start_is}
use Rattle.sno_sealed.proofs.reading.read_lines.Goals as goal

pub loop-line-init : goal.loop-line-init
loop-line-init c = record {
  few = c.bytes_in-bytes.ensures.few;
  done = [];
  all = ap lines_left c.into_iter-line-iterator.ensures.into_iter_gives ∙ c.iter-line-items.ensures;
  read = subst (λ (ch : Chain). IsChain [] (lines_in c.new-reader.result.payloads) ch) (sym c.new-reader.ensures.0)
      (subst (λ (ps : List (List ℕ)). IsChain [] ps start) (sym c.new-reader.ensures.1) start_is);
}

pub loop-line-preserved : goal.loop-line-preserved
loop-line-preserved c =
    let old = c.loop-line.invariant in
    let line = c.in-Some.line.now in
    record {
      few = old.few;
      done = old.done ++ line ∷ [];
      all = append_assoc old.done (line ∷ []) (lines_left c.next.new.self) ∙ ap (λ (ls : List (List ℕ)). old.done ++ ls) (sym c.in-Some.ensures.steps) ∙ old.all;
      read = c.in_ok-take.ensures.taken c.if-not-branch.false old.done old.read;
    }
