-- `clap` reads a flag's text as it is in its row.
use Rattle.std.proofs.Common.{◌∙◌}
use Rattle.clap.specs.Words.{found_of}
use Rattle.clap.proofs.WalkLemmas.{one_text-rows}
use Rattle.sno_rewrite.proofs.CommandLineLemmas.{flag_read}
use Rattle.sno_rewrite.proofs.command_line.flag_in.Goals as goal

pub returns : goal.returns
returns c =
    let row = one_text-rows (found_of c.args.matches.now) c.args.name.now in
    c.unwrap_or.ensures ∙ flag_read _ _ c.get_one.result (λ t x g. g) (λ n. c.get_one.ensures.none (row ∙ n)) (λ t s. c.get_one.ensures.value t (row ∙ s))
