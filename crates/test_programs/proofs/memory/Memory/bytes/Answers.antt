-- A writing to the file decides what it holds, and another one doesn't.
use Rattle.std.proofs.Common.{◌≡◌, true, false, Some, List, ℕ, [], ◌∷◌, ◌+◌, drop, Option, refl, ap, sym, ◌∙◌, if◌then◌else◌}
use Rattle.std.specs.Option.{option_map}
use Rattle.std.proofs.lemmas.List.{drop_all, drop_more}
use Rattle.sno_pattern.specs.Identifiers.{same}
use Rattle.test_programs.specs.Memory.{held, held_after}
use Rattle.test_programs.proofs.memory.Memory.bytes.Goals.{then-eq, else-eq}
use Rattle.test_programs.proofs.memory.Memory.bytes.Goals as goal

pub loop-writing-init : goal.loop-writing-init
loop-writing-init c = refl

pub loop-writing-preserved : goal.loop-writing-preserved
loop-writing-preserved c =
    let all = c.deref-writing-items.result.now in
    let path = c.args.path.now in
    let i = c.loop-writing.writing-index in
    let writing = c.writing-item.result in
    let before : Option (List ℕ) = option_map (λ b. b.now) c.loop-writing.bytes in
    let after : Option (List ℕ) = option_map (λ b. b.now) c.if-eq.bytes in
    let whole : all ≡ c.args.self.now.writings.items = c.deref-writing-items.ensures.value in
    let tested : c.eq.result ≡ same writing.path.items path = c.eq.ensures ∙ ap (λ p. same p path) c.as_slice.ensures.value in
    let split : drop i all ≡ writing ∷ drop (i + 1) all = drop_more all i writing c.loop-writing-test.true ∙ ap (λ w. w ∷ drop (i + 1) all) (sym c.writing-item.is) in
    let step : after ≡ (if same writing.path.items path then Some writing.bytes.items else before) = elim c.if-eq.branch [
      | then-eq x ↦ ap (λ o. option_map (λ b. b.now) o) x.bytes-is ∙ ap Some x.as_slice-then-eq.ensures.value ∙ ap (λ b. if b then Some writing.bytes.items else before) (sym x.if-eq.true ∙ tested)
      | else-eq x ↦ ap (λ o. option_map (λ b. b.now) o) x.bytes-is ∙ ap (λ b. if b then Some writing.bytes.items else before) (sym x.if-eq.false ∙ tested)
    ] in
    ap (λ l. held_after path after (drop (i + 1) l)) (sym whole)
    ∙ ap (λ o. held_after path o (drop (i + 1) all)) step
    ∙ ap (held_after path before) (sym split)
    ∙ ap (λ l. held_after path before (drop i l)) whole
    ∙ c.loop-writing.invariant

pub returns : goal.returns
returns c =
    let all = c.deref-writing-items.result.now in
    let found : Option (List ℕ) = option_map (λ b. b.now) c.loop-writing.bytes in
    let nothing = drop_all c.loop-writing.writing-index all c.loop-writing-test.false in
    ap (held_after c.args.path.now found) (sym nothing)
    ∙ ap (λ l. held_after c.args.path.now found (drop c.loop-writing.writing-index l)) c.deref-writing-items.ensures.value
    ∙ c.loop-writing.invariant
