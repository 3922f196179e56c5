-- A plain line more.
use Rattle.std.proofs.Common.{◌≡◌, refl, sym, ◌∙◌, ap, subst, ℕ, List, [], ◌∷◌, ◌++◌, ◌+◌}
use Rattle.sno_sealed.specs.declared.chain.Chain.{Chain}
use Rattle.sno_sealed.specs.Chains.{IsChain}
use Rattle.sno_store.specs.Shown.{lines_in}
use Rattle.sno_sealed.proofs.ChainLemmas.{takes_plain}
use Rattle.sno_sealed.proofs.reader.Reader.take_plain.Goals as goal

pub returns-clause-taken : goal.returns-clause-taken
returns-clause-taken c right lines was =
    let old = c.args.self.now in
    let line = c.args.line.now in
    let new : Chain = record { sum = c.sum_after.result; lines = old.chain.lines + 1; plain = old.chain.plain + 1 } in
    let more : lines_in c.pushed.new.lines ≡ lines_in old.payloads ++ line ∷ [] = c.in_ok-pushed.ensures c.if-not-branch.false in
    subst (λ (ps : List (List ℕ)). IsChain (lines ++ line ∷ []) ps new) (sym more)
    (takes_plain lines (lines_in old.payloads) old.chain new line was c.requires.none c.requires.plain c.sum_after.ensures refl refl)
