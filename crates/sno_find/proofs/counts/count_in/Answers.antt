-- The statement that is refused is the first one, or one of them whose history would be too long.
use Rattle.std.proofs.Common.{◌∙◌, ◌∷◌, List, suc, length, drop, slice_get, ap, refl, sym, subst}
use Rattle.std.proofs.Math.Seq.{drop-cons}
use Rattle.std.proofs.lemmas.Option.{slice_get_read}
use Rattle.std.proofs.lemmas.Result.{err_from_is_err_and}
use Rattle.sno_statement.specs.Statement.{Statement}
use Rattle.sno_edit.specs.Rules.{rules_seen}
use Rattle.sno_edit.specs.declared.trials.Trials.{Trials}
use Rattle.sno_find.specs.Findings.{first_refused, is_refused}
use Rattle.sno_find.specs.Hits.{IsRefusal}
use Rattle.sno_find.proofs.Causes.{cause}
use Rattle.sno_find.proofs.counts.count_in.Goals as goal

pub returns-in_err-matches-clause-refused : goal.returns-in_err-matches-clause-refused
returns-in_err-matches-clause-refused c =
    let rules = rules_seen c.args.rules.now in
    let path = c.args.path.now in
    let text = c.args.text.now in
    let items = c.statements-statements.result.now in
    let place = c.loop-statement.statement-index in
    let s = c.statement-item.result in
    let read = slice_get_read items (length items) place s refl c.loop-statement-test.true c.statement-item.is in
    let at = ap (λ (l : List Statement). slice_get l place) (sym c.statements-statements.ensures.value) ∙ read in
    let next = drop-cons items place s c.loop-statement-test.true ∙ ap (λ (z : Statement). z ∷ drop (suc place) items) (sym c.statement-item.is) in
    let same = ap (first_refused rules.trials path text) (sym next) ∙ c.loop-statement.invariant.refused in
    let fault = c.in_err-matches.field-0.0 in
    let refused = subst (λ (z : Trials). IsRefusal (is_refused z path text s) s.number fault) c.trials-trials.ensures c.in_err-matches.ensures.refused in
    let e = err_from_is_err_and c.from_residual.result c.from_residual.ensures.1 in
    rw (e.1, e.2) (cause rules path text place s (drop (suc place) items) fault same at refused)
