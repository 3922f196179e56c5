-- Before the first step of a start, all of it is still to come; the last step ends the start.
use Rattle.std.proofs.Common.{◌≡◌, ◌+◌, ◌++◌, [], ◌∷◌, ℕ, map, refl, ap, sym, subst, ◌∙◌, arith}
use Rattle.std.proofs.lemmas.Result.{err_from_is_err_and}
use Rattle.std.specs.List.{flat_map}
use Rattle.sno_pattern.specs.declared.events.Event.TheVariants.{End, Halt}
use Rattle.sno_pattern.specs.Tree.{tree_of}
use Rattle.sno_pattern.specs.Outcome.{tried_from}
use Rattle.sno_machine.specs.Progress.{come}
use Rattle.sno_machine.specs.Endings.{up_to}
use Rattle.sno_machine.specs.History.{entries_of, setting_of, place_to_come, place_steps, left, steps_left, conds_at, IsHistory, IsPlaced}
use Rattle.sno_machine.proofs.EndingLaws.{exceeds_all, found_same, over_limit, overspent, overspent_trials}
use Rattle.sno_machine.proofs.StartLaws.{ahead, begun, comes_to, first_place, none_left}
use Rattle.sno_machine.proofs.HistoryLaws.{overspends}
use Rattle.sno_machine.proofs.run.running.try_starts.Goals as goal

pub returns-in_err-start-clause-refused : goal.returns-in_err-start-clause-refused
returns-in_err-start-clause-refused c =
    let t = c.args.text.now in
    let bodies = c.args.code.now.rules.now.bodies in
    let nodes = c.args.code.now.nodes in
    let p = tree_of c.args.code.now.pattern.now in
    let k = c.args.most in
    let n = c.args.last in
    let r = c.args.progress.now in
    let e = err_from_is_err_and c.from_residual.result c.from_residual.ensures.1 in
    rw (e.1, e.2) (c.in_err-start.ensures.refused bodies p k c.requires.deep c.requires.begin tt)

pub returns-then-start-last-clause-found : goal.returns-then-start-last-clause-found
returns-then-start-last-clause-found c =
    let t = c.args.text.now in
    let bodies = c.args.code.now.rules.now.bodies in
    let p = tree_of c.args.code.now.pattern.now in
    let k = c.args.most in
    c.in_ok-start.ensures.passed bodies p k c.requires.deep c.requires.begin tt ∙ none_left t bodies k p c.next_start.new.progress c.args.last c.in_ok-start.start c.if-start-last.true

pub loop-place-init : goal.loop-place-init
loop-place-init c =
    let t = c.args.text.now in
    let bodies = c.args.code.now.rules.now.bodies in
    let nodes = c.args.code.now.nodes in
    let p = tree_of c.args.code.now.pattern.now in
    let k = c.args.most in
    let n = c.args.last in
    let r = c.args.progress.now in
    let s = setting_of t bodies nodes in
    let first = c.in_ok-start.start in
    let inside = c.if-start-last.false in
    let empty = c.clear.ensures in
    record {
      known = c.requires.known;
      same =
          c.in_ok-start.ensures.passed bodies p k c.requires.deep c.requires.begin tt
          ∙ begun t bodies p nodes k n first c.next_start.new.progress inside c.requires.compiled.begins
          ∙ ap (λ z. comes_to t bodies k p n c.next_start.new.progress first (place_to_come s z (first_place nodes k first) ++ left s z)) (sym empty)
          ∙ ap (λ z. comes_to t bodies k p n c.next_start.new.progress first (place_to_come s (entries_of c.clear.new.self) z ++ left s (entries_of c.clear.new.self))) (sym c.first_place-at.ensures);
      held = subst (IsHistory s) (sym empty) tt;
      placed = subst (IsPlaced s (entries_of c.clear.new.self)) (sym c.first_place-at.ensures) (omega (arith, inside, c.requires.within), omega arith, omega arith);
      inside = inside;
    }

pub returns-in_err-place-clause-refused : goal.returns-in_err-place-clause-refused
returns-in_err-place-clause-refused c =
    let t = c.args.text.now in
    let bodies = c.args.code.now.rules.now.bodies in
    let nodes = c.args.code.now.nodes in
    let p = tree_of c.args.code.now.pattern.now in
    let k = c.args.most in
    let n = c.args.last in
    let r = c.args.progress.now in
    let s = setting_of t bodies nodes in
    let start = c.loop-place.start in
    let before = c.loop-place.invariant in
    let others = flat_map (tried_from t bodies k p) (up_to (start + 1) n) in
    let events = place_to_come s (entries_of c.loop-place.history) c.loop-place.at ++ left s (entries_of c.loop-place.history) in
    let e = err_from_is_err_and c.from_residual-in_err-place.result c.from_residual-in_err-place.ensures.1 in
    let was = c.loop-place.progress in
    let all = flat_map (tried_from t bodies k p) (up_to c.args.first n) in
    rw (e.1, e.2)
    (overspent r all c.in_err-place.field-0.0
    (λ is. over_limit r was all (map (λ e. (start, e)) events ++ others) before.same
    (exceeds_all start was.limit was events others
    (overspends s (entries_of c.loop-place.history) was (place_to_come s (entries_of c.loop-place.history) c.loop-place.at) c.in_err-place.field-0.0 (c.in_err-place.ensures t bodies p (sym c.of-subject.ensures) c.requires.compiled before.held before.placed refl) is))))

pub loop-place-smaller-in-Onward : goal.loop-place-smaller-in-Onward
loop-place-smaller-in-Onward c =
    let t = c.args.text.now in
    let bodies = c.args.code.now.rules.now.bodies in
    let nodes = c.args.code.now.nodes in
    let p = tree_of c.args.code.now.pattern.now in
    let k = c.args.most in
    let n = c.args.last in
    let r = c.args.progress.now in
    let s = setting_of t bodies nodes in
    let start = c.loop-place.start in
    let before = c.loop-place.invariant in
    let others = flat_map (tried_from t bodies k p) (up_to (start + 1) n) in
    let events = place_to_come s (entries_of c.loop-place.history) c.loop-place.at ++ left s (entries_of c.loop-place.history) in
    let did = rw c.in-Onward.is at (c.in_ok-place.ensures t bodies p (sym c.of-subject.ensures) c.requires.compiled before.held before.placed refl) in
    omega (arith, did.fewer)

pub loop-place-smaller-in-Instead : goal.loop-place-smaller-in-Instead
loop-place-smaller-in-Instead c =
    let t = c.args.text.now in
    let bodies = c.args.code.now.rules.now.bodies in
    let nodes = c.args.code.now.nodes in
    let p = tree_of c.args.code.now.pattern.now in
    let k = c.args.most in
    let n = c.args.last in
    let r = c.args.progress.now in
    let s = setting_of t bodies nodes in
    let start = c.loop-place.start in
    let before = c.loop-place.invariant in
    let others = flat_map (tried_from t bodies k p) (up_to (start + 1) n) in
    let events = place_to_come s (entries_of c.loop-place.history) c.loop-place.at ++ left s (entries_of c.loop-place.history) in
    let did = rw c.in-Instead.is at (c.in_ok-place.ensures t bodies p (sym c.of-subject.ensures) c.requires.compiled before.held before.placed refl) in
    omega (arith, did.fewer)

pub loop-place-preserved-in-Onward : goal.loop-place-preserved-in-Onward
loop-place-preserved-in-Onward c =
    let t = c.args.text.now in
    let bodies = c.args.code.now.rules.now.bodies in
    let nodes = c.args.code.now.nodes in
    let p = tree_of c.args.code.now.pattern.now in
    let k = c.args.most in
    let n = c.args.last in
    let r = c.args.progress.now in
    let s = setting_of t bodies nodes in
    let start = c.loop-place.start in
    let before = c.loop-place.invariant in
    let others = flat_map (tried_from t bodies k p) (up_to (start + 1) n) in
    let events = place_to_come s (entries_of c.loop-place.history) c.loop-place.at ++ left s (entries_of c.loop-place.history) in
    let did = rw c.in-Onward.is at (c.in_ok-place.ensures t bodies p (sym c.of-subject.ensures) c.requires.compiled before.held before.placed refl) in
    record {
      known = before.known;
      same = before.same ∙ found_same start c.loop-place.progress c.take_step.new.progress events (place_to_come s (entries_of c.take_step.new.history) c.in-Onward.place ++ left s (entries_of c.take_step.new.history)) did.same others;
      held = did.held;
      placed = did.placed;
      inside = before.inside;
    }

pub loop-place-preserved-in-Instead : goal.loop-place-preserved-in-Instead
loop-place-preserved-in-Instead c =
    let t = c.args.text.now in
    let bodies = c.args.code.now.rules.now.bodies in
    let nodes = c.args.code.now.nodes in
    let p = tree_of c.args.code.now.pattern.now in
    let k = c.args.most in
    let n = c.args.last in
    let r = c.args.progress.now in
    let s = setting_of t bodies nodes in
    let start = c.loop-place.start in
    let before = c.loop-place.invariant in
    let others = flat_map (tried_from t bodies k p) (up_to (start + 1) n) in
    let events = place_to_come s (entries_of c.loop-place.history) c.loop-place.at ++ left s (entries_of c.loop-place.history) in
    let did = rw c.in-Instead.is at (c.in_ok-place.ensures t bodies p (sym c.of-subject.ensures) c.requires.compiled before.held before.placed refl) in
    record {
      known = c.catch_up.ensures ∙ before.known;
      same = before.same ∙ found_same start c.loop-place.progress c.take_step.new.progress events (place_to_come s (entries_of c.take_step.new.history) c.in-Instead.place ++ left s (entries_of c.take_step.new.history)) did.same others;
      held = did.held;
      placed = did.placed;
      inside = before.inside;
    }

pub loop-place-smaller-in-Some : goal.loop-place-smaller-in-Some
loop-place-smaller-in-Some c =
    let t = c.args.text.now in
    let bodies = c.args.code.now.rules.now.bodies in
    let nodes = c.args.code.now.nodes in
    let p = tree_of c.args.code.now.pattern.now in
    let k = c.args.most in
    let n = c.args.last in
    let r = c.args.progress.now in
    let s = setting_of t bodies nodes in
    let start = c.loop-place.start in
    let before = c.loop-place.invariant in
    let others = flat_map (tried_from t bodies k p) (up_to (start + 1) n) in
    let events = place_to_come s (entries_of c.loop-place.history) c.loop-place.at ++ left s (entries_of c.loop-place.history) in
    let did = rw c.in-BackUp.is at (c.in_ok-place.ensures t bodies p (sym c.of-subject.ensures) c.requires.compiled before.held before.placed refl) in
    let taken = c.in-Some.ensures.taken_up s (subst (IsHistory s) (sym did.0) before.held) in
    let same : steps_left s (entries_of c.take_step.new.history) ≡ steps_left s (entries_of c.loop-place.history) = ap (steps_left s) did.0 in
    omega (arith, taken.fewer, same)

pub loop-place-preserved-in-Some : goal.loop-place-preserved-in-Some
loop-place-preserved-in-Some c =
    let t = c.args.text.now in
    let bodies = c.args.code.now.rules.now.bodies in
    let nodes = c.args.code.now.nodes in
    let p = tree_of c.args.code.now.pattern.now in
    let k = c.args.most in
    let n = c.args.last in
    let r = c.args.progress.now in
    let s = setting_of t bodies nodes in
    let start = c.loop-place.start in
    let before = c.loop-place.invariant in
    let others = flat_map (tried_from t bodies k p) (up_to (start + 1) n) in
    let events = place_to_come s (entries_of c.loop-place.history) c.loop-place.at ++ left s (entries_of c.loop-place.history) in
    let did = rw c.in-BackUp.is at (c.in_ok-place.ensures t bodies p (sym c.of-subject.ensures) c.requires.compiled before.held before.placed refl) in
    let taken = c.in-Some.ensures.taken_up s (subst (IsHistory s) (sym did.0) before.held) in
    let now = c.take_step.new.progress in
    record {
      known = c.catch_up-in-BackUp.ensures ∙ before.known;
      same =
          before.same
          ∙ found_same start c.loop-place.progress now events (place_to_come s (entries_of c.back_up.new.self) c.in-Some.place ++ left s (entries_of c.back_up.new.self))
          (did.1 ∙ ap (λ z. come now (left s z)) (sym did.0) ∙ ap (come now) taken.same) others;
      held = taken.held;
      placed = taken.placed;
      inside = before.inside;
    }

pub returns-in_err-start-in-None-clause-refused : goal.returns-in_err-start-in-None-clause-refused
returns-in_err-start-in-None-clause-refused c =
    let t = c.args.text.now in
    let bodies = c.args.code.now.rules.now.bodies in
    let nodes = c.args.code.now.nodes in
    let p = tree_of c.args.code.now.pattern.now in
    let k = c.args.most in
    let n = c.args.last in
    let r = c.args.progress.now in
    let s = setting_of t bodies nodes in
    let start = c.loop-place.start in
    let before = c.loop-place.invariant in
    let others = flat_map (tried_from t bodies k p) (up_to (start + 1) n) in
    let events = place_to_come s (entries_of c.loop-place.history) c.loop-place.at ++ left s (entries_of c.loop-place.history) in
    let did = rw c.in-BackUp.is at (c.in_ok-place.ensures t bodies p (sym c.of-subject.ensures) c.requires.compiled before.held before.placed refl) in
    let now = c.take_step.new.progress in
    let none : left s (entries_of c.take_step.new.history) ≡ [] = c.in-None.ensures.taken_up s (subst (IsHistory s) (sym did.0) before.held) in
    let over = before.same ∙ found_same start c.loop-place.progress now events [] (did.1 ∙ ap (λ z. come now (left s z)) (sym did.0) ∙ ap (come now) none) others in
    let e = err_from_is_err_and c.from_residual-in_err-start-in-None.result c.from_residual-in_err-start-in-None.ensures.1 in
    let all = flat_map (tried_from t bodies k p) (up_to c.args.first n) in
    rw (e.1, e.2)
    (overspent r all c.in_err-start-in-None.field-0.0
    (λ is. over_limit r now all others over
    (overspent_trials now others c.in_err-start-in-None.field-0.0
    (c.in_err-start-in-None.ensures.refused bodies p k c.requires.deep c.requires.begin c.requires.run) is)))

pub returns-then-start-last-2-clause-found : goal.returns-then-start-last-2-clause-found
returns-then-start-last-2-clause-found c =
    let t = c.args.text.now in
    let bodies = c.args.code.now.rules.now.bodies in
    let nodes = c.args.code.now.nodes in
    let p = tree_of c.args.code.now.pattern.now in
    let k = c.args.most in
    let n = c.args.last in
    let r = c.args.progress.now in
    let s = setting_of t bodies nodes in
    let start = c.loop-place.start in
    let before = c.loop-place.invariant in
    let others = flat_map (tried_from t bodies k p) (up_to (start + 1) n) in
    let events = place_to_come s (entries_of c.loop-place.history) c.loop-place.at ++ left s (entries_of c.loop-place.history) in
    let did = rw c.in-BackUp.is at (c.in_ok-place.ensures t bodies p (sym c.of-subject.ensures) c.requires.compiled before.held before.placed refl) in
    let now = c.take_step.new.progress in
    let none : left s (entries_of c.take_step.new.history) ≡ [] = c.in-None.ensures.taken_up s (subst (IsHistory s) (sym did.0) before.held) in
    let over = before.same ∙ found_same start c.loop-place.progress now events [] (did.1 ∙ ap (λ z. come now (left s z)) (sym did.0) ∙ ap (come now) none) others in
    over
    ∙ c.in_ok-start-in-None.ensures.passed bodies p k c.requires.deep c.requires.begin c.requires.run
    ∙ none_left t bodies k p c.next_start-in-None.new.progress n c.in_ok-start-in-None.start c.if-start-last-2.true

pub loop-place-smaller : goal.loop-place-smaller
loop-place-smaller c =
    let t = c.args.text.now in
    let bodies = c.args.code.now.rules.now.bodies in
    let nodes = c.args.code.now.nodes in
    let p = tree_of c.args.code.now.pattern.now in
    let k = c.args.most in
    let n = c.args.last in
    let r = c.args.progress.now in
    let s = setting_of t bodies nodes in
    let start = c.loop-place.start in
    let before = c.loop-place.invariant in
    let others = flat_map (tried_from t bodies k p) (up_to (start + 1) n) in
    let events = place_to_come s (entries_of c.loop-place.history) c.loop-place.at ++ left s (entries_of c.loop-place.history) in
    let did = rw c.in-BackUp.is at (c.in_ok-place.ensures t bodies p (sym c.of-subject.ensures) c.requires.compiled before.held before.placed refl) in
    let now = c.take_step.new.progress in
    let none : left s (entries_of c.take_step.new.history) ≡ [] = c.in-None.ensures.taken_up s (subst (IsHistory s) (sym did.0) before.held) in
    let over = before.same ∙ found_same start c.loop-place.progress now events [] (did.1 ∙ ap (λ z. come now (left s z)) (sym did.0) ∙ ap (come now) none) others in
    let next = c.in_ok-start-in-None.start in
    let inside = c.if-start-last-2.false in
    let empty = c.in-None.ensures.empty in
    let steps = λ (x : ℕ). place_steps s [] (first_place nodes k x) in
    let few = ahead steps (start + 1) next n c.in_ok-start-in-None.ensures.inside.0 inside in
    let here : place_steps s (entries_of c.back_up.new.self) c.first_place-at-in-None.result ≡ steps next =
    ap (λ z. place_steps s z c.first_place-at-in-None.result) empty ∙ ap (place_steps s []) c.first_place-at-in-None.ensures in
    let gone : steps_left s (entries_of c.back_up.new.self) ≡ 0 = ap (steps_left s) empty in
    omega (arith, few, here, gone)

pub loop-place-preserved : goal.loop-place-preserved
loop-place-preserved c =
    let t = c.args.text.now in
    let bodies = c.args.code.now.rules.now.bodies in
    let nodes = c.args.code.now.nodes in
    let p = tree_of c.args.code.now.pattern.now in
    let k = c.args.most in
    let n = c.args.last in
    let r = c.args.progress.now in
    let s = setting_of t bodies nodes in
    let start = c.loop-place.start in
    let before = c.loop-place.invariant in
    let others = flat_map (tried_from t bodies k p) (up_to (start + 1) n) in
    let events = place_to_come s (entries_of c.loop-place.history) c.loop-place.at ++ left s (entries_of c.loop-place.history) in
    let did = rw c.in-BackUp.is at (c.in_ok-place.ensures t bodies p (sym c.of-subject.ensures) c.requires.compiled before.held before.placed refl) in
    let now = c.take_step.new.progress in
    let none : left s (entries_of c.take_step.new.history) ≡ [] = c.in-None.ensures.taken_up s (subst (IsHistory s) (sym did.0) before.held) in
    let over = before.same ∙ found_same start c.loop-place.progress now events [] (did.1 ∙ ap (λ z. come now (left s z)) (sym did.0) ∙ ap (come now) none) others in
    let next = c.in_ok-start-in-None.start in
    let inside = c.if-start-last-2.false in
    let empty = c.in-None.ensures.empty in
    let new = c.next_start-in-None.new.progress in
    record {
      known = c.catch_up-in-BackUp.ensures ∙ before.known;
      same =
          over
          ∙ c.in_ok-start-in-None.ensures.passed bodies p k c.requires.deep c.requires.begin c.requires.run
          ∙ begun t bodies p nodes k n next new inside c.requires.compiled.begins
          ∙ ap (λ z. comes_to t bodies k p n new next (place_to_come s z (first_place nodes k next) ++ left s z)) (sym empty)
          ∙ ap (λ z. comes_to t bodies k p n new next (place_to_come s (entries_of c.back_up.new.self) z ++ left s (entries_of c.back_up.new.self))) (sym c.first_place-at-in-None.ensures);
      held = subst (IsHistory s) (sym empty) tt;
      placed = subst (IsPlaced s (entries_of c.back_up.new.self)) (sym c.first_place-at-in-None.ensures) (omega (arith, inside, c.requires.within), omega arith, omega arith);
      inside = inside;
    }

pub returns-in-Ended-clause-found : goal.returns-in-Ended-clause-found
returns-in-Ended-clause-found c =
    let t = c.args.text.now in
    let bodies = c.args.code.now.rules.now.bodies in
    let nodes = c.args.code.now.nodes in
    let p = tree_of c.args.code.now.pattern.now in
    let k = c.args.most in
    let n = c.args.last in
    let r = c.args.progress.now in
    let s = setting_of t bodies nodes in
    let start = c.loop-place.start in
    let before = c.loop-place.invariant in
    let others = flat_map (tried_from t bodies k p) (up_to (start + 1) n) in
    let events = place_to_come s (entries_of c.loop-place.history) c.loop-place.at ++ left s (entries_of c.loop-place.history) in
    let did = rw c.in-Ended.is at (c.in_ok-place.ensures t bodies p (sym c.of-subject.ensures) c.requires.compiled before.held before.placed refl) in
    let now = c.take_step.new.progress in
    before.same ∙ found_same start c.loop-place.progress now events (End c.in-Ended.place.cursor c.of.result ∷ did.0)
    (did.2
    ∙ ap (λ z. come now (End c.in-Ended.place.cursor (conds_at z c.in-Ended.place.pending) ∷ did.0)) (sym did.1)
    ∙ ap (λ a. come now (End c.in-Ended.place.cursor a ∷ did.0)) (sym (c.of.ensures ∙ ap (λ v. v.items) c.replace-parts.ensures.value ∙ c.in_ok-gather-in-Ended.ensures.gathered))) others

pub returns-in-Failed-clause-found : goal.returns-in-Failed-clause-found
returns-in-Failed-clause-found c =
    let t = c.args.text.now in
    let bodies = c.args.code.now.rules.now.bodies in
    let nodes = c.args.code.now.nodes in
    let p = tree_of c.args.code.now.pattern.now in
    let k = c.args.most in
    let n = c.args.last in
    let r = c.args.progress.now in
    let s = setting_of t bodies nodes in
    let start = c.loop-place.start in
    let before = c.loop-place.invariant in
    let others = flat_map (tried_from t bodies k p) (up_to (start + 1) n) in
    let events = place_to_come s (entries_of c.loop-place.history) c.loop-place.at ++ left s (entries_of c.loop-place.history) in
    let did = rw c.in-Failed.is at (c.in_ok-place.ensures t bodies p (sym c.of-subject.ensures) c.requires.compiled before.held before.placed refl) in
    before.same ∙ found_same start c.loop-place.progress c.take_step.new.progress events (Halt ∷ did.0) did.1 others
