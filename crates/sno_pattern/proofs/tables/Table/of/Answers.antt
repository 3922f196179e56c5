-- Two words cover every character.
use Rattle.sno_pattern.proofs.Words.{table_is}
use Rattle.sno_pattern.proofs.tables.Table.of.Goals as goal

pub returns : goal.returns
returns c = table_is c.args.members.now c.word_of.result c.word_of-2.result c.requires c.word_of.ensures c.word_of-2.ensures
