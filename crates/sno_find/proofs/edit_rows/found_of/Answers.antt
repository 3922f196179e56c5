-- The matches of a statement don't go back.
use Rattle.std.proofs.Common.{length, subst, sym}
use Rattle.sno_find.specs.Findings.{AreRising, hits_of}
use Rattle.sno_find.proofs.OneRising.{first_added, one_rising}
use Rattle.sno_find.proofs.edit_rows.found_of.Goals as goal

pub findings_of-requires : goal.findings_of-requires
findings_of-requires c =
    let path = c.args.path.now in
    let text = c.args.text.now in
    let statement = c.args.statement.now in
    let rising = one_rising c.matches_are_in_order.ensures c.the_first_is_the_plain_match.ensures c.args.trials path text statement in
    let added = first_added c.new-hits.result.items c.add_hits.new.hits.items (hits_of c.args.trials path text statement) c.new-hits.ensures.items c.in_ok-add_hits.ensures.added in
    subst (AreRising (length text) 0) (sym added) rising
