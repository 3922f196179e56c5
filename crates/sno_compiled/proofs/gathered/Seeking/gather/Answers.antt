-- Each search is gathered, and the next one begins where it says. At the end none is left to be done.
use Rattle.std.proofs.Common.{◌≡◌, ◌≤◌, ◌<◌, ◌+◌, ◌-◌, ◌++◌, ◌∷◌, [], ℕ, Bool, List, length, Option, IfSome, ap, sym, subst, ◌∙◌, arith, append_assoc, append-nil}
use Rattle.sno_pattern.specs.declared.found.Found.{Found}
use Rattle.sno_pattern.specs.declared.found.Hit.{Hit}
use Rattle.sno_statement.specs.Passes.{IsCursor, search, search_trials}
use Rattle.sno_statement.specs.Statement.{Statement}
use Rattle.sno_compiled.specs.Gathered.{cursor_or_past, gathered, gathered_by, gathered_trials, next_after}
use Rattle.sno_compiled.specs.declared.gathered.Gathered.{Gathered}
use Rattle.sno_compiled.proofs.GatheredLaws.{end_inside, next_cursor, no_more_trials, none_left, nothing_more, one_more, trials_more}
use Rattle.sno_compiled.proofs.gathered.Seeking.gather.Goals as goal

pub returns-in_default-clause-gathered : goal.returns-in_default-clause-gathered
returns-in_default-clause-gathered c =
    let s = c.args.self.now.statement.now in
    let t = c.args.self.now.text.now in
    let nothing : gathered s t c.loop-left.left c.loop-left.at ≡ [] = ap (gathered s t c.loop-left.left) c.in_default.is ∙ none_left s t c.loop-left.left in
    sym (append-nil c.loop-left.ahead.items) ∙ ap (λ (l : List Gathered). c.loop-left.ahead.items ++ l) (sym nothing) ∙ c.loop-left.invariant.gathered

pub returns-clause-gathered : goal.returns-clause-gathered
returns-clause-gathered c =
    let s = c.args.self.now.statement.now in
    let t = c.args.self.now.text.now in
    let zero : c.loop-left.left ≡ 0 = omega (arith, c.loop-left-test.false) in
    let nothing : gathered s t c.loop-left.left c.loop-left.at ≡ [] = ap (λ (n : ℕ). gathered s t n c.loop-left.at) zero ∙ nothing_more s t c.loop-left.at in
    sym (append-nil c.loop-left.ahead.items) ∙ ap (λ (l : List Gathered). c.loop-left.ahead.items ++ l) (sym nothing) ∙ c.loop-left.invariant.gathered

pub returns-clause-within : goal.returns-clause-within
returns-clause-within c =
    let s = c.args.self.now.statement.now in
    let t = c.args.self.now.text.now in
    let zero : c.loop-left.left ≡ 0 = omega (arith, c.loop-left-test.false) in
    let none : gathered_trials s t c.loop-left.left c.loop-left.at ≡ 0 = ap (λ (n : ℕ). gathered_trials s t n c.loop-left.at) zero ∙ no_more_trials s t c.loop-left.at in
    omega (arith, none, c.loop-left.invariant.trials)

pub cursor_after-at-requires : goal.cursor_after-at-requires
cursor_after-at-requires c =
    let s = c.args.self.now.statement.now in
    let t = c.args.self.now.text.now in
    let before = c.loop-left.invariant in
    let from = c.in-Some.cursor in
    let inside : from ≤ length t = subst (λ (z : Option ℕ). IsCursor t z) c.in-Some.is before.inside in
    let found : c.in_ok-found.found ≡ search s t from =
    c.in_ok-found.ensures.found ∙ ap (λ (z : Statement). search z c.loop-left.self.text.now from) before.statement ∙ ap (λ (z : List ℕ). search s z from) before.text in
    let text : c.search-in-loop-left.new.self.text.now ≡ t = c.in_ok-found.ensures.same.1 ∙ before.text in
    subst (λ (z : List ℕ). IfSome c.in_ok-found.found.end (λ hit. hit.end ≤ length z)) (sym text)
    (subst (λ (z : Option Hit). IfSome z (λ hit. hit.end ≤ length t)) (sym (ap (λ (z : Found). z.end) found)) (end_inside s t from inside))

pub loop-left-preserved : goal.loop-left-preserved
loop-left-preserved c =
    let s = c.args.self.now.statement.now in
    let t = c.args.self.now.text.now in
    let before = c.loop-left.invariant in
    let n = c.loop-left.left in
    let from = c.in-Some.cursor in
    let some : 0 < n = omega (arith, c.loop-left-test.true) in
    let inside : from ≤ length t = subst (λ (z : Option ℕ). IsCursor t z) c.in-Some.is before.inside in
    let found : c.in_ok-found.found ≡ search s t from =
    c.in_ok-found.ensures.found ∙ ap (λ (z : Statement). search z c.loop-left.self.text.now from) before.statement ∙ ap (λ (z : List ℕ). search s z from) before.text in
    let text : c.search-in-loop-left.new.self.text.now ≡ t = c.in_ok-found.ensures.same.1 ∙ before.text in
    let anchored : c.anchored-anchored.result ≡ s.anchored = c.anchored-anchored.ensures ∙ ap (λ (z : Statement). z.anchored) c.search.ensures in
    let after = next_after s.anchored t (search s t from).end in
    let at : c.cursor_after-at.result ≡ after =
    c.cursor_after-at.ensures ∙ ap (λ (z : Bool). next_after z c.search-in-loop-left.new.self.text.now c.in_ok-found.found.end) anchored
    ∙ ap (λ (z : List ℕ). next_after s.anchored z c.in_ok-found.found.end) text ∙ ap (λ (z : Found). next_after s.anchored t z.end) found in
    let next : c.or_past-next.result ≡ cursor_or_past t after =
    c.or_past-next.ensures ∙ ap (λ (z : List ℕ). cursor_or_past z c.cursor_after-at.result) text ∙ ap (cursor_or_past t) at in
    let one : record { found = c.in_ok-found.found; next = c.or_past-next.result } ≡ gathered_by s.anchored t (search s t from) =
    ap (λ (z : Found). record { found = z; next = c.or_past-next.result }) found ∙ ap (λ (z : ℕ). record { found = search s t from; next = z }) next in
    let rest = gathered s t (n - 1) c.cursor_after-at.result in
    let left : gathered s t n c.loop-left.at ≡ gathered_by s.anchored t (search s t from) ∷ rest =
    ap (gathered s t n) c.in-Some.is ∙ one_more s t n from some
    ∙ ap (λ (z : Option ℕ). gathered_by s.anchored t (search s t from) ∷ gathered s t (n - 1) z) (sym at) in
    let trials : gathered_trials s t n c.loop-left.at ≡ search_trials s t from + gathered_trials s t (n - 1) c.cursor_after-at.result =
    ap (gathered_trials s t n) c.in-Some.is ∙ trials_more s t n from some ∙ ap (λ (z : Option ℕ). search_trials s t from + gathered_trials s t (n - 1) z) (sym at) in
    let spent : c.loop-left.self.left ≡ search_trials s t from + c.search-in-loop-left.new.self.left =
    c.in_ok-found.ensures.trials ∙ ap (λ (z : Statement). search_trials z c.loop-left.self.text.now from + c.search-in-loop-left.new.self.left) before.statement
    ∙ ap (λ (z : List ℕ). search_trials s z from + c.search-in-loop-left.new.self.left) before.text in
    record {
      gathered =
          ap (λ (z : List Gathered). z ++ rest) (c.in_ok-push_back.ensures.items ∙ ap (λ (z : Gathered). c.loop-left.ahead.items ++ z ∷ []) one)
          ∙ append_assoc c.loop-left.ahead.items (gathered_by s.anchored t (search s t from) ∷ []) rest
          ∙ ap (λ (z : List Gathered). c.loop-left.ahead.items ++ z) (sym left) ∙ before.gathered;
      trials = omega (arith, trials, spent, before.trials);
      statement = c.in_ok-found.ensures.same.0 ∙ before.statement;
      text = text;
      inside = subst (λ (z : Option ℕ). IsCursor t z) (sym at) (next_cursor s t from inside);
    }
