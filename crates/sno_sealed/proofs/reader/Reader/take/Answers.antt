-- A sealed line more.
use Rattle.std.proofs.Common.{◌≡◌, refl, sym, ◌∙◌, ap, subst, ℕ, List, [], ◌∷◌, ◌++◌, ◌+◌}
use Rattle.sno_sealed.specs.declared.chain.Chain.{Chain}
use Rattle.sno_sealed.specs.Chains.{IsChain, IsSealedBy}
use Rattle.sno_store.specs.Shown.{lines_in}
use Rattle.sno_sealed.proofs.ChainLemmas.{takes_sealed}
use Rattle.sno_sealed.proofs.reader.Reader.take.Goals as goal

pub returns-clause-taken : goal.returns-clause-taken
returns-clause-taken c right lines was =
    let old = c.args.self.now in
    let line = c.args.line.now in
    let opened = c.open.new.self in
    let payload = opened.payload.items in
    let same = c.in_ok-sum.ensures.same in
    let new : Chain = record { sum = c.in-Some.sum; lines = opened.chain.lines + 1; plain = opened.chain.plain } in
    let is : IsSealedBy old.chain.sum (old.chain.lines + 1) line payload c.in-Some.sum = rw c.in-Some.is at c.in_ok-sum.ensures.opened in
    let more : lines_in c.pushed.new.lines ≡ lines_in old.payloads ++ payload ∷ []
    = c.in_ok-pushed.ensures c.if-not-branch.false ∙ ap (λ (l : List ℕ). lines_in opened.payloads ++ l ∷ []) c.deref.ensures.value
    ∙ ap (λ p. lines_in p ++ payload ∷ []) same.1 in
    subst (λ (ps : List (List ℕ)). IsChain (lines ++ line ∷ []) ps new) (sym more)
    (takes_sealed lines (lines_in old.payloads) old.chain new line payload was is (ap (λ (ch : Chain). ch.lines + 1) same.0) (ap (λ (ch : Chain). ch.plain) same.0))
