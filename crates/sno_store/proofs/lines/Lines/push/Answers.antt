-- The bytes of one line more are whole.
use Rattle.std.proofs.Common.{◌≡◌, ◌++◌, ◌∷◌, [], ℕ, List, sym, ◌∙◌, ap, subst}
use Rattle.sno_store.specs.Lines.{recovered, bytes_of}
use Rattle.sno_store.proofs.Scans.{pushed, pushed_whole}
use Rattle.sno_store.proofs.lines.Lines.push.Goals as goal

pub invariant_of-self : goal.invariant_of-self
invariant_of-self c =
    let old = c.args.self.now.bytes.items in
    let line = rw c.if-is_err.ensures.negation at c.extend_from_slice.ensures.items in
    let feed = rw c.if-is_err-2.ensures.negation at c.push.ensures.items in
    let is : c.push.new.self.items ≡ (old ++ c.args.line.now) ++ 10 ∷ [] = feed ∙ ap (λ (l : List ℕ). l ++ 10 ∷ []) line in
    record { whole = subst (λ (l : List ℕ). l ≡ bytes_of (recovered l)) (sym is) (pushed_whole old c.args.self.now.whole c.args.line.now c.in_ok-check_line.ensures.line) }

pub returns-clause-pushed : goal.returns-clause-pushed
returns-clause-pushed c =
    let old = c.args.self.now.bytes.items in
    let line = rw c.if-is_err.ensures.negation at c.extend_from_slice.ensures.items in
    let feed = rw c.if-is_err-2.ensures.negation at c.push.ensures.items in
    let is : c.push.new.self.items ≡ (old ++ c.args.line.now) ++ 10 ∷ [] = feed ∙ ap (λ (l : List ℕ). l ++ 10 ∷ []) line in
    (c.in_ok-check_line.ensures.line, ap recovered is ∙ pushed old c.args.self.now.whole c.args.line.now c.in_ok-check_line.ensures.line)
