-- The first piece goes up to the first end, or is all.
use Rattle.std.proofs.Common.{sym, ◌∙◌}
use Rattle.sno_files.proofs.ListLemmas.{piece_alone, piece_found}
use Rattle.sno_files.proofs.lists.first_piece.Goals as goal

pub returns-in-None-clause-pieces : goal.returns-in-None-clause-pieces
returns-in-None-clause-pieces c = piece_alone c.args.end c.args.list.now (sym c.first_end.ensures ∙ c.in-None.is)

pub returns-in-Some-clause-pieces : goal.returns-in-Some-clause-pieces
returns-in-Some-clause-pieces c =
    rw (c.split_at.ensures.front, c.split_at-in-Some.ensures.back) (piece_found c.args.end c.args.list.now c.in-Some.place (sym c.first_end.ensures ∙ c.in-Some.is))
