-- What waits in the log comes after what is shown.
use Rattle.std.proofs.Common.{sym, subst, drop}
use mathlib.Core.List.{IsPrefix}
use Rattle.sno_published.proofs.Views.{sees}
use Rattle.sno_published.proofs.Prefixes.{prefix_logged}
use Rattle.sno_published.proofs.screens.show_log.Goals as goal

pub publish_as-requires : goal.publish_as-requires
publish_as-requires g c next is =
    let shown = c.args.writer.desk.shown.value in
    sees _ _ shown next (subst (λ l. IsPrefix shown l) (sym is) (prefix_logged shown (drop c.args.writer.behind c.args.writer.log.items)))
