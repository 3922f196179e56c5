-- What comes before the reply, the reply, and the brace after it.
use Rattle.std.proofs.Common.{ℕ, List, [], ◌∷◌, ◌++◌, ap, ◌∙◌}
use Rattle.sno_durable.proofs.RecordLemmas.{record_of, record_printed}
use Rattle.sno_durable.proofs.records.record_line.Goals as goal

pub returns-clause-text : goal.returns-clause-text
returns-clause-text c =
    c.in_ok-push.ensures.items ∙ ap (λ (l : List ℕ). l ++ 125 ∷ []) (c.in_ok-extend_from_slice.ensures.items ∙ ap (λ (l : List ℕ). l ++ c.args.reply.now) c.in_ok-bytes.ensures)
    ∙ record_printed c.args.line.now c.args.reply.now

pub returns-clause-data : goal.returns-clause-data
returns-clause-data c d is = returns-clause-text c ∙ record_of c.args.line.now c.args.reply.now d is
