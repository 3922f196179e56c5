-- The hits are in order, and each starts in the text.
use Rattle.std.proofs.Common.{length}
use Rattle.std.proofs.lemmas.List.Elements.{All-same}
use Rattle.std.proofs.lemmas.List.Sorted.{All-permutation}
use Rattle.sno_edit.specs.Rules.{rules_seen}
use Rattle.sno_find.specs.Findings.{all_hits, hits_seen}
use Rattle.sno_find.proofs.Rising.{rising}
use Rattle.sno_find.proofs.Within.{StartsWithin, hits_within}
use Rattle.sno_find.proofs.findings.find_in.Goals as goal

pub findings_of-requires : goal.findings_of-requires
findings_of-requires c =
    let rules = rules_seen c.args.rules.now in
    let path = c.args.path.now in
    let text = c.args.text.now in
    let found = hits_seen c.in_ok-hits.hits.items in
    let sorted = hits_seen c.put_in_order.new.hits.items in
    let each = hits_within c.matches_are_in_order.ensures c.the_first_is_the_plain_match.ensures rules.trials path text rules.statements in
    let here = All-same (StartsWithin (length text)) found (all_hits rules.trials path text rules.statements) c.in_ok-hits.ensures.found each in
    rising (length text) sorted (All-permutation (StartsWithin (length text)) found sorted c.in_ok-put_in_order.ensures.same here) c.in_ok-put_in_order.ensures.ordered
