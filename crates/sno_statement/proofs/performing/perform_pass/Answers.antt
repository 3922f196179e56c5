-- The first search decides whether the statement fails; what follows is what is left of the pass.
use Rattle.std.proofs.Common.{◌≡◌, ◌<◌, ◌≤◌, ◌+◌, [], List, Option, Ok, refl, ap, sym, subst, ◌∙◌, arith}
use Rattle.std.proofs.lemmas.Result.{err_from_is_err_and}
use Rattle.sno_pattern.specs.declared.events.Assign.{Assign}
use Rattle.sno_pattern.specs.declared.found.Found.{Found}
use Rattle.sno_pattern.specs.declared.found.Hit.{Hit}
use Rattle.sno_pattern.specs.declared.texts.TheConstants.{MAX_TEXT}
use Rattle.sno_read.specs.declared.objects.Part.{Part}
use Rattle.sno_statement.specs.Bindings.{bind_conds, bind_sets, conds_of}
use Rattle.sno_statement.specs.Passes.{Pass, begun, match_by, match_of, moved, search, search_trials}
use Rattle.sno_statement.specs.Perform.{Failed, Gives, finish_all}
use Rattle.sno_statement.proofs.WholePasses.{failed_all, first_over, gives_refused, matched_all, trials_from_first}
use Rattle.sno_statement.proofs.performing.perform_pass.Goals as goal

pub returns-in_err-found : goal.returns-in_err-found
returns-in_err-found c =
    let s = c.args.statement.now in
    let t = c.args.subject.now in
    let e = err_from_is_err_and c.from_residual.result c.from_residual.ensures.1 in
    let begin = c.requires.begun in
    rw (e.1, e.2)
    (gives_refused MAX_TEXT s t c.in_err-found.field-0.0
    (λ is. first_over s t (subst (λ (z : Pass). z.statement.limit < z.spent + search_trials z.statement z.text 0) begin (c.in_err-found.ensures.refused is))) c.in_err-found.ensures.never)

pub returns-in_err-matches-in-Some : goal.returns-in_err-matches-in-Some
returns-in_err-matches-in-Some c =
    let s = c.args.statement.now in
    let t = c.args.subject.now in
    let e = err_from_is_err_and c.from_residual-in_err-matches-in-Some.result c.from_residual-in_err-matches-in-Some.ensures.1 in
    let begin = c.requires.begun in
    let now : c.search.new.self ≡ moved (begun s t) (search_trials s t 0) (search s t 0).end = subst (λ (z : Pass). c.search.new.self ≡ moved z (search_trials z.statement z.text 0) (search z.statement z.text 0).end) begin c.in_ok-found.ensures.moved in
    let trials = trials_from_first s t c.search.new.self c.in-Some.hit now in
    let limit : c.search.new.self.statement.limit ≡ s.limit = ap (λ (z : Pass). z.statement.limit) (now ∙ ap (moved (begun s t) (search_trials s t 0)) (ap (λ (z : Found). z.end) (subst (λ (z : Pass). search s t 0 ≡ search z.statement z.text 0) (sym begin) refl ∙ sym c.in_ok-found.ensures.found) ∙ c.in-Some.is)) in
    rw (e.1, e.2)
    (gives_refused MAX_TEXT s t c.in_err-matches-in-Some.field-0.0
    (λ is. let over = c.in_err-matches-in-Some.ensures.refused is in omega (arith, over, trials, limit)) c.in_err-matches-in-Some.ensures.never)

pub returns-in-None : goal.returns-in-None
returns-in-None c =
    let s = c.args.statement.now in
    let t = c.args.subject.now in
    let begin = c.requires.begun in
    let found : c.in_ok-found.found ≡ search s t 0 = subst (λ (z : Pass). c.in_ok-found.found ≡ search z.statement z.text 0) begin c.in_ok-found.ensures.found in
    let few : 0 + search_trials s t 0 ≤ s.limit = subst (λ (z : Pass). z.spent + search_trials z.statement z.text 0 ≤ z.statement.limit) begin c.in_ok-found.ensures.within in
    let all = failed_all MAX_TEXT s t c.in_ok-found.found (bind_conds t (bind_sets t [] c.in_ok-found.found.sets) []) found c.in-None.is refl few in
    subst (Gives c.failed.result) (ap (λ (z : List Assign). Ok (Failed (bind_conds t (bind_sets t [] z) []))) c.as_slice.ensures ∙ sym all) c.failed.ensures

pub returns : goal.returns
returns c =
    let s = c.args.statement.now in
    let t = c.args.subject.now in
    let begin = c.requires.begun in
    let hit = c.in-Some.hit in
    let found : c.in_ok-found.found ≡ search s t 0 = subst (λ (z : Pass). c.in_ok-found.found ≡ search z.statement z.text 0) begin c.in_ok-found.ensures.found in
    let now : c.search.new.self ≡ moved (begun s t) (search_trials s t 0) (search s t 0).end = subst (λ (z : Pass). c.search.new.self ≡ moved z (search_trials z.statement z.text 0) (search z.statement z.text 0).end) begin c.in_ok-found.ensures.moved in
    let limit : c.search.new.self.statement.limit ≡ s.limit = ap (λ (z : Pass). z.statement.limit) (now ∙ ap (moved (begun s t) (search_trials s t 0)) (ap (λ (z : Found). z.end) (sym found) ∙ c.in-Some.is)) in
    let one : match_by t c.in_ok-found.found.sets hit ≡ match_of t c.in_ok-found.found hit = ap (λ (z : Option Hit). record { start = hit.start; end = hit.end; bindings = bind_conds t (bind_sets t [] c.in_ok-found.found.sets) (conds_of z) }) (sym c.in-Some.is) in
    let few = c.in_ok-matches-in-Some.ensures.within in
    let same =
    matched_all MAX_TEXT s t c.in_ok-found.found hit c.search.new.self (match_by t c.in_ok-found.found.sets hit) c.in_ok-matches-in-Some.matches found c.in-Some.is now one
    c.in_ok-matches-in-Some.ensures.matches (omega (arith, few, limit)) in
    subst (Gives c.finish_all.result)
    (ap (λ (z : Option (List Part)). finish_all z t c.in_ok-matches-in-Some.matches) c.object.ensures ∙ sym same) c.finish_all.ensures
