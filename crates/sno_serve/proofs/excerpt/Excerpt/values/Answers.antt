-- The limit, and the number of entries, are a limit together.
use Rattle.sno_serve.proofs.Excerpts.{limited}
use Rattle.sno_serve.proofs.excerpt.Excerpt.values.Goals as goal

pub returns : goal.returns
returns c = cc (c.in_ok-values.ensures, c.most_of-most.ensures, c.as_ref.ensures.value, limited c.args.self.now.limit c.args.self.now.name c.args.from c.args.entries.now)
