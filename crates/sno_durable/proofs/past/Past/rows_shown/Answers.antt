-- The list is put back as a client is shown it.
use Rattle.std.proofs.Common.{map, sym, ap, ◌∙◌}
use Rattle.serde_json.specs.Data.{Data}
use Rattle.serde_json.specs.View.{view}
use Rattle.serde_json.proofs.Views.{view-Array}
use Rattle.sno_serve.specs.Replies.{with_further}
use Rattle.sno_durable.specs.Past.{named_row_shown}
use Rattle.sno_durable.proofs.ShownLemmas.{rows_found}
use Rattle.sno_durable.proofs.past.Past.rows_shown.Goals as goal

pub returns : goal.returns
returns c =
    c.in_ok-shown.ensures ∙ ap (λ (d : Data). with_further c.args.list.now d (view c.args.object)) (view-Array c.in_ok-rows-in-Some.rows)
    ∙ rows_found c.args.self.now.entries (view c.args.self.now.versions) c.args.list.now c.args.key.now (view c.args.object) c.in-Some.rows.now.items c.in_ok-rows-in-Some.rows.items
    (sym c.in-Some.ensures)
    (c.in_ok-rows-in-Some.ensures ∙ ap (map (λ r. named_row_shown c.args.self.now.entries (view c.args.self.now.versions) c.args.key.now (view r))) c.deref.ensures.value)
