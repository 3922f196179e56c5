-- A line more is undamaged.
use Rattle.std.proofs.Common.{◌≡◌, ◌+◌, refl, sym, ◌∙◌, ap, arith, subst, List, ℕ, [], ◌∷◌, ◌++◌, length, append_assoc}
use Rattle.sno_store.specs.Lines.{bytes_of, recovered}
use Rattle.sno_store.specs.Shown.{lines_in, lines_left}
use Rattle.sno_store.proofs.Scans.{within}
use Rattle.sno_sealed.specs.declared.chain.Chain.{Chain}
use Rattle.sno_sealed.specs.Chains.{IsChain, start}
use Rattle.sno_sealed.proofs.ChainLemmas.{start_is}
use Rattle.sno_sealed.proofs.PutLemmas.{lines_within}
use Rattle.sno_sealed.proofs.FrontLemmas.{end_more, first_lines}
use Rattle.sno_sealed.proofs.fronts.undamaged.Goals as goal

pub loop-line-init : goal.loop-line-init
loop-line-init c = record {
  few = omega (arith, lines_within c.args.bytes.now, c.length_of-length.ensures, c.length_of-length.type_inv);
  fits = omega (arith, within c.args.bytes.now (length (bytes_of (recovered c.args.bytes.now))) refl, c.length_of-length.ensures, c.length_of-length.type_inv);
  done = [];
  all = ap lines_left c.into_iter-line-iterator.ensures.into_iter_gives ∙ c.of_file-line-items.ensures;
  read = subst (λ (ch : Chain). IsChain [] (lines_in c.new-reader.result.payloads) ch) (sym c.new-reader.ensures.0)
      (subst (λ (ps : List (List ℕ)). IsChain [] ps start) (sym c.new-reader.ensures.1) start_is);
  end = refl;
}

pub returns-then-not-branch-clause-sums : goal.returns-then-not-branch-clause-sums
returns-then-not-branch-clause-sums c =
    let old = c.loop-line.invariant in
    first_lines old.done (lines_left c.loop-line.line-iterator) (recovered c.args.bytes.now) (lines_in c.loop-line.reader.payloads) c.loop-line.reader.chain old.all old.read

pub overflow_add-end-in-loop-line : goal.overflow_add-end-in-loop-line
overflow_add-end-in-loop-line c =
    let old = c.loop-line.invariant in
    let line = c.in-Some.line.now in
    let is : old.done ++ line ∷ lines_left c.next.new.self ≡ recovered c.args.bytes.now = ap (λ (ls : List (List ℕ)). old.done ++ ls) (sym c.in-Some.ensures.steps) ∙ old.all in
    omega (arith, old.end, old.fits, ap (λ (ls : List (List ℕ)). length (bytes_of ls)) is, end_more old.done (lines_left c.next.new.self) line)

pub loop-line-preserved : goal.loop-line-preserved
loop-line-preserved c =
    let old = c.loop-line.invariant in
    let line = c.in-Some.line.now in
    record {
      few = old.few;
      fits = old.fits;
      done = old.done ++ line ∷ [];
      all = append_assoc old.done (line ∷ []) (lines_left c.next.new.self) ∙ ap (λ (ls : List (List ℕ)). old.done ++ ls) (sym c.in-Some.ensures.steps) ∙ old.all;
      read = c.in_ok-take.ensures.taken c.if-not-branch.false old.done old.read;
      end = omega (arith, old.end, end_more old.done [] line);
    }

pub returns-clause-sums : goal.returns-clause-sums
returns-clause-sums c =
    let old = c.loop-line.invariant in
    first_lines old.done (lines_left c.loop-line.line-iterator) (recovered c.args.bytes.now) (lines_in c.loop-line.reader.payloads) c.loop-line.reader.chain old.all old.read
