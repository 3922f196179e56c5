-- The last line goes on.
use Rattle.std.proofs.Common.{◌≡◌, ap}
use Rattle.sno_rules.specs.RuleFiles.{FileLine}
use Rattle.sno_rules.proofs.RuleFileLaws.{more_of_stored}
use Rattle.sno_rules.proofs.rule_files.put_more.Goals as goal

pub returns : goal.returns
returns c = more_of_stored c.args.number c.pop.new.self.items c.args.lines.now.items c.push.new.self.items c.in-Some.last _ c.args.text.now c.in-Some.ensures.items c.in_ok-push.ensures.items
    (ap (λ x. record { number = c.in-Some.last.number; kind = c.in-Some.last.kind; characters = x }) c.in_ok-extend_from_slice.ensures.items)
