-- The path is UTF-8, as those before it.
use Rattle.sno_files.proofs.ListLemmas.{utf8_more}
use Rattle.sno_files.proofs.lists.put_path.Goals as goal

pub returns-clause-utf8 : goal.returns-clause-utf8
returns-clause-utf8 c = utf8_more _ _ _ _ c.in_ok-push.ensures.items c.in-Ok.ensures.cases.0 c.in-Ok.ensures.cases.1
