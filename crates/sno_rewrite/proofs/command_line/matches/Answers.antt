-- The matches and the faults of the program are known.
use Rattle.std.proofs.Common.{ap, subst, ◌∙◌, map, string_bytes}
use Rattle.std.proofs.lemmas.Result.{IfOk-weaker}
use Rattle.clap.specs.Words.{FailsBy, Kinds, is_simple, is_simple_and_free}
use Rattle.sno_rewrite.proofs.CommandLineLemmas.{faults_are, option_rows_are, program_free, program_simple}
use Rattle.sno_rewrite.proofs.command_line.matches.Goals as goal

pub returns-clause-found : goal.returns-clause-found
returns-clause-found c =
    let is = c.in_ok-program.ensures in
    IfOk-weaker c.try_get_matches_from.result _ _ (λ m h. (h (ap is_simple is ∙ program_simple)).0 ∙ option_rows_are _ (map string_bytes c.args.words.now) is)
    c.try_get_matches_from.ensures.matches

pub returns-clause-fault : goal.returns-clause-fault
returns-clause-fault c =
    let is = c.in_ok-program.ensures in
    subst (λ (ks : Kinds). FailsBy ks c.try_get_matches_from.result) (faults_are _ (map string_bytes c.args.words.now) is)
    (c.try_get_matches_from.ensures.kinds (ap is_simple_and_free is ∙ program_free))
