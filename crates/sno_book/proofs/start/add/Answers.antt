-- One more text.
use Rattle.std.proofs.Common.{ap, not, sym, ◌∙◌, Bool, List, ℕ, ◌++◌, ◌∷◌, []}
use Rattle.sno_pattern.specs.Identifiers.{same}
use Rattle.sno_book.specs.Openings.{texts_seen}
use Rattle.sno_book.proofs.TextRows.{Shared, insert_seen, absent, present}
use Rattle.sno_book.proofs.start.add.Goals as goal

pub returns-then-contains_key-clause-added : goal.returns-then-contains_key-clause-added
returns-then-contains_key-clause-added c =
    ap (λ (b : Bool). not b) (sym (present c.contains_key.result (same c.args.name) c.args.texts.now.entries c.contains_key.ensures c.if-contains_key.true))

pub returns-clause-added : goal.returns-clause-added
returns-clause-added c =
    ap (λ (b : Bool). not b) (sym (absent c.contains_key.result (same c.args.name) c.args.texts.now.entries c.contains_key.ensures c.if-contains_key.false))

pub returns-clause-texts : goal.returns-clause-texts
returns-clause-texts c = λ _.
    let new = absent c.contains_key.result (same c.args.name) c.args.texts.now.entries c.contains_key.ensures c.if-contains_key.false in
    ap (λ (es : Shared). texts_seen es) c.in_ok-insert.ensures.entries ∙ insert_seen c.args.name c.in_ok-text.text c.args.texts.now.entries new
    ∙ ap (λ (t : List ℕ). texts_seen c.args.texts.now.entries ++ (c.args.name, t) ∷ []) c.in_ok-text.ensures.ok
