-- The run ends in its first part, or where the run from there ends.
use Rattle.std.proofs.Common.{◌≡◌, ℕ, ◌+◌, ◌<◌, ◌≤◌, ◌∙◌, List, true, ap, sym, subst, arith, length, length-drop, drop, take}
use Rattle.std.proofs.lemmas.List.Folds.{length-prefix_len}
use Rattle.std.proofs.lemmas.List.Sums.{prefix_len-le-length}
use Rattle.std.specs.List.{take_while}
use Rattle.sno_primitives.specs.Rows.{AreRowsOf, goes_by_rows}
use Rattle.sno_primitives.specs.Runs.{goes_through, run_end}
use Rattle.sno_primitives.specs.declared.rows.Rows.{Rows}
use Rattle.sno_primitives.proofs.Lanes.{same_runs}
use Rattle.sno_primitives.proofs.RunLaws.{ends_there, goes_on}
use Rattle.sno_machine.proofs.run.subject.Subject.run_end_by.Goals as goal

-- a run ends within the text
ends_within : (members t : List ℕ) (c : ℕ) → c ≤ length t → run_end true members t c ≤ length t
ends_within members t c low =
    let p = goes_through true members in
    omega (arith, length-prefix_len p (drop c t), prefix_len-le-length p (drop c t), length-drop c t)

module _ (members t near : List ℕ) (rows : Rows) (c run : ℕ) (are : AreRowsOf members rows) (low : c ≤ length t)
    (first : near ≡ take 64 (drop c t)) (found : run ≡ length (take_while (goes_by_rows true rows) near)) where
  -- the run by the set itself
  by_set : run ≡ length (take_while (goes_through true members) (take 64 (drop c t)))
  by_set = found ∙ ap (λ q. length (take_while q near)) (same_runs true members rows are) ∙ ap (λ l. length (take_while (goes_through true members) l)) first

  near_end : run < 64 → c + run ≡ run_end true members t c
  near_end = ends_there true members t c 64 run by_set

  far_end : 64 ≤ run → (c + 64 ≤ length t) × (run_end true members t c ≡ run_end true members t (c + 64))
  far_end = goes_on true members t c 64 run by_set low

pub returns-then-run-lt-NEAR_BY_ROWS-clause-exact : goal.returns-then-run-lt-NEAR_BY_ROWS-clause-exact
returns-then-run-lt-NEAR_BY_ROWS-clause-exact c =
    near_end c.args.set.now c.args.self.now c.front.result.now c.args.rows c.args.c c.run-run.result c.requires.rows c.requires.within (c.front.ensures ∙ ap (take 64) c.after.ensures.value) c.run-run.ensures
    c.if-run-lt-NEAR_BY_ROWS.true

pub returns-then-run-lt-NEAR_BY_ROWS-clause-within : goal.returns-then-run-lt-NEAR_BY_ROWS-clause-within
returns-then-run-lt-NEAR_BY_ROWS-clause-within c =
    let end = near_end c.args.set.now c.args.self.now c.front.result.now c.args.rows c.args.c c.run-run.result c.requires.rows c.requires.within (c.front.ensures ∙ ap (take 64) c.after.ensures.value) c.run-run.ensures
    c.if-run-lt-NEAR_BY_ROWS.true in
    let inside = ends_within c.args.set.now c.args.self.now c.args.c c.requires.within in
    (omega arith, omega (arith, end, inside))

pub far_run_end-requires : goal.far_run_end-requires
far_run_end-requires c =
    let far = far_end c.args.set.now c.args.self.now c.front.result.now c.args.rows c.args.c c.run-run.result c.requires.rows c.requires.within (c.front.ensures ∙ ap (take 64) c.after.ensures.value) c.run-run.ensures
    c.if-run-lt-NEAR_BY_ROWS.false in
    subst (λ t. c.args.c + 64 ≤ length t) (sym (c.self.invariant.1 ∙ c.self.view_is)) far.0

pub returns-else-run-lt-NEAR_BY_ROWS-clause-exact : goal.returns-else-run-lt-NEAR_BY_ROWS-clause-exact
returns-else-run-lt-NEAR_BY_ROWS-clause-exact c =
    let far = far_end c.args.set.now c.args.self.now c.front.result.now c.args.rows c.args.c c.run-run.result c.requires.rows c.requires.within (c.front.ensures ∙ ap (take 64) c.after.ensures.value) c.run-run.ensures
    c.if-run-lt-NEAR_BY_ROWS.false in
    c.far_run_end.ensures.exact ∙ ap (λ t. run_end true c.args.set.now t (c.args.c + 64)) (c.self.invariant.1 ∙ c.self.view_is) ∙ sym far.1

pub returns-else-run-lt-NEAR_BY_ROWS-clause-within : goal.returns-else-run-lt-NEAR_BY_ROWS-clause-within
returns-else-run-lt-NEAR_BY_ROWS-clause-within c =
    let far = far_end c.args.set.now c.args.self.now c.front.result.now c.args.rows c.args.c c.run-run.result c.requires.rows c.requires.within (c.front.ensures ∙ ap (take 64) c.after.ensures.value) c.run-run.ensures
    c.if-run-lt-NEAR_BY_ROWS.false in
    let end = c.far_run_end.ensures.exact ∙ ap (λ t. run_end true c.args.set.now t (c.args.c + 64)) (c.self.invariant.1 ∙ c.self.view_is) in
    let inside = ends_within c.args.set.now c.args.self.now (c.args.c + 64) far.0 in
    (omega (arith, end), omega (arith, end, inside))
