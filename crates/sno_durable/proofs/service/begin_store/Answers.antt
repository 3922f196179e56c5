-- A store that has lines has its first one, and a new one gets it.
use Rattle.std.proofs.Common.{◌≡◌, ℕ, List, [], ◌∷◌, ◌++◌, Bool, true, false, ap, sym, subst, ◌∙◌}
use Rattle.std.specs.Prelude.{IsTrue, Some}
use Rattle.serde_json.specs.Read.{read}
use Rattle.sno_store.specs.Shown.{lines_in}
use Rattle.sno_durable.specs.Records.{origin_data}
use Rattle.sno_durable.proofs.Storing.{begun_already, begun_new}
use Rattle.sno_durable.proofs.service.begin_store.Goals as goal

true_false : (b : Bool) → IsTrue b → b ≡ false → ⊥
true_false true t is = cc is
true_false false t is = cc t

pub returns-then-not-is_empty : goal.returns-then-not-is_empty
returns-then-not-is_empty g c = begun_already c.args.origin.now (lines_in c.args.lines.now) c.args.store.now (λ none. true_false c.is_empty.result (c.is_empty.ensures.1 none) c.if-not-is_empty.true)

pub returns : goal.returns
returns g c =
    let line = c.deref-2.result.now in
    let document = c.in-Ok.ensures.cases.0 ∙ c.deref.ensures.value in
    let one = c.in_ok-push.ensures.pushed.1 ∙ ap (λ (l : List (List ℕ)). l ++ line ∷ []) c.new-first.ensures in
    let is = ap read c.deref-2.ensures.value ∙ c.in_ok-line.ensures ∙ ap (λ (d : List ℕ). Some (origin_data d c.args.origin.now.trials)) document in
    begun_new c.args.origin.now (lines_in c.args.lines.now) line (lines_in c.push.new.self) c.args.store.now c.put.new.self (c.is_empty.ensures.0 c.if-not-is_empty.false) one is
    (λ clean. (c.put.ensures.clean clean, (_, sym (c.in_ok-put.ensures.written clean).0), c.in_ok-put.ensures.acknowledged clean))
