-- Nothing is assigned after them.
use Rattle.std.proofs.Common.{◌∙◌, [], map, ap, sym}
use Rattle.std.specs.Arc.{arc_value}
use Rattle.std.proofs.lemmas.List.{append-nil}
use Rattle.sno_statement.specs.MatchLists.{LastList, match_seen}
use Rattle.sno_statement.proofs.gathered.Gathered.into_matches.Goals as goal

pub returns : goal.returns
returns c ms gathered = ap (λ (z : LastList). map (match_seen (arc_value c.args.subject) z) c.args.self.spans.items) (sym (append-nil c.args.self.assigned.items)) ∙ gathered []
