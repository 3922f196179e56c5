-- `clap` reads an option's text as it is in its row.
use Rattle.std.proofs.Common.{◌∙◌}
use Rattle.std.specs.Str.Parse.{ExplainsUnsignedError, HasUnsignedDigitsIfOk, ParsesUnsigned}
use Rattle.clap.specs.Words.{found_of}
use Rattle.clap.proofs.WalkLemmas.{one_text-rows}
use Rattle.sno_rewrite.proofs.CommandLineLemmas.{number_read}
use Rattle.sno_rewrite.proofs.command_line.number_in.Goals as goal

pub returns : goal.returns
returns c =
    let row = one_text-rows (found_of c.args.matches.now) c.args.name.now in
    number_read (λ bs r. ParsesUnsigned 32 10 bs r × ExplainsUnsignedError 10 bs r × HasUnsignedDigitsIfOk bs r) _ c.get_one.result (λ t x g. g.0) (λ n. c.get_one.ensures.none (row ∙ n)) (λ t s. c.get_one.ensures.value t (row ∙ s))
