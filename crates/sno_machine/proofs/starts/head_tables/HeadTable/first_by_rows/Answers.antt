-- A run, and then the characters that are looked at one by one.
use Rattle.std.proofs.Common.{◌≡◌, ◌+◌, ◌≤◌, ℕ, Bool, true, false, not, get_or, nat_lt, length, List, take, drop, ap, subst, Some, None, arith}
use Rattle.std.proofs.lemmas.List.{length-drop, length-take}
use Rattle.memchr.specs.Find.{IsFirstByte}
use Rattle.sno_primitives.specs.Rows.{rows_have, goes_by_rows}
use Rattle.sno_primitives.proofs.Seeking.{first_near, first_past, run_within}
use Rattle.sno_machine.specs.Beginnings.{is_passed}
use Rattle.sno_machine.proofs.FarLaws.{NonePass, none_in_run, none_in_front, none_further, first_further}
use Rattle.sno_machine.proofs.TableLaws.{passed_by}
use Rattle.sno_machine.proofs.starts.head_tables.HeadTable.first_by_rows.Goals as goal

pub returns-in-Some : goal.returns-in-Some
returns-in-Some c =
    let table = c.args.self.now in
    let test : ℕ → Bool = λ x. not (is_passed table x) in
    let t : List ℕ = c.args.text.now in
    let passed : ℕ = c.loop-passed.passed in
    let run : ℕ = c.run-run.result in
    let place : ℕ = c.in-Some.place in
    let rest : List ℕ = c.split_at.result.1.now in
    let far : List ℕ = c.split_at-in-loop-passed.result.1.now in
    let others : (x : ℕ) → goes_by_rows true table.rows x ≡ true → test x ≡ false = λ x. passed_by (nat_lt x 128) (get_or table.passed x false) (rows_have table.rows x) (table.by_rows x) in
    let in_far : IsFirstByte test far (Some place) = first_near test far 16 c.front-near.result.now c.front-near.ensures place c.in-Some.ensures in
    let in_rest : IsFirstByte test rest (Some (run + place)) =
    first_past test rest (goes_by_rows true table.rows) run c.run-run.ensures others place (subst (λ l. IsFirstByte test l (Some place)) c.split_at-in-loop-passed.ensures.back in_far) in
    let in_text = first_further test t passed (run + place) c.loop-passed.invariant.1 (subst (λ l. IsFirstByte test l (Some (run + place))) c.split_at.ensures.back in_rest) in
    let sum : passed + (run + place) ≡ passed + run + place = omega arith in
    subst (λ n. IsFirstByte test t (Some n)) sum in_text

pub loop-passed-preserved : goal.loop-passed-preserved
loop-passed-preserved c =
    let table = c.args.self.now in
    let test : ℕ → Bool = λ x. not (is_passed table x) in
    let t : List ℕ = c.args.text.now in
    let passed : ℕ = c.loop-passed.passed in
    let run : ℕ = c.run-run.result in
    let near : List ℕ = c.front-near.result.now in
    let rest : List ℕ = c.split_at.result.1.now in
    let far : List ℕ = c.split_at-in-loop-passed.result.1.now in
    let others : (x : ℕ) → goes_by_rows true table.rows x ≡ true → test x ≡ false = λ x. passed_by (nat_lt x 128) (get_or table.passed x false) (rows_have table.rows x) (table.by_rows x) in
    let in_run : NonePass test rest run = none_in_run test (goes_by_rows true table.rows) rest run c.run-run.ensures others in
    let in_front : NonePass test far (length near) = none_in_front test far near 16 c.front-near.ensures c.in-None.ensures in
    let in_rest : NonePass test rest (run + length near) =
    none_further test rest run (length near) in_run (subst (λ l. NonePass test l (length near)) c.split_at-in-loop-passed.ensures.back in_front) in
    let all_near : length near ≡ length (take 16 far) = ap length c.front-near.ensures in
    let all_far : length far ≡ length (drop run rest) = ap length c.split_at-in-loop-passed.ensures.back in
    let all_rest : length rest ≡ length (drop passed t) = ap length c.split_at.ensures.back in
    let through = run_within test rest (goes_by_rows true table.rows) run c.run-run.ensures others in
    let within : passed + (run + length near) ≤ length t =
    omega (arith, c.loop-passed.invariant.0, all_near, all_far, all_rest, through, length-take 16 far, length-drop run rest, length-drop passed t) in
    (within, none_further test t passed (run + length near) c.loop-passed.invariant.1 (subst (λ l. NonePass test l (run + length near)) c.split_at.ensures.back in_rest))
