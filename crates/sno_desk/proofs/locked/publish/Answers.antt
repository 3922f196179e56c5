-- One entry more. It is shown first.
use Rattle.std.proofs.Common.{◌≡◌, ◌≤◌, ◌+◌, ℕ, Some, List, [], ◌∷◌, ◌++◌, length, ap, sym, subst, ◌∙◌, arith}
use mathlib.Core.List.{IsPrefix as Begins}
use Rattle.sno_book.specs.Books.{view_of}
use Rattle.sno_book.specs.Entries.{Entry}
use Rattle.sno_book.specs.Journals.{Legal}
use Rattle.sno_book.specs.Views.{View}
use Rattle.sno_book.specs.Openings.{Opening, place_in, start}
use Rattle.sno_book.proofs.BookLaws.{free}
use Rattle.sno_published.specs.Screens.{Screen}
use Rattle.sno_published.proofs.Prefixes.{prefix_self}
use Rattle.sno_desk.proofs.Causes.{has_step, next_step, stands, in_view}
use Rattle.sno_desk.proofs.locked.publish.Goals as goal

pub publish-requires-clause-step : goal.publish-requires-clause-step
publish-requires-clause-step g c =
    let book = c.args.book.now in
    let step = has_step (view_of book) c.args.ready c.requires.free c.requires.performed c.requires.related c.related_agree.ensures in
    next_step (view_of book) c.args.ready g.L.Naming.opening c.args.screen.now.shown c.entry.result.now step c.requires.opening c.requires.level.0 c.entry.ensures

pub returns-in_default-clause-begins : goal.returns-in_default-clause-begins
returns-in_default-clause-begins g c = prefix_self c.args.seat.now.seen

pub returns-clause-committed : goal.returns-clause-committed
returns-clause-committed g c =
    let book = c.args.book.now in
    let few : book.opening.room ≤ 1000000 = subst (λ (o : Opening). o.room ≤ 1000000) (c.deref.ensures ∙ c.opening.ensures) c.room.ensures.small in
    let given = c.finish-receipt.result in
    let accepted = c.finish-receipt.ensures.accepted in
    let opens : c.finish-receipt.new.self.opening ≡ g.L.Naming.opening = ap (λ (v : View). v.opening) accepted.appended ∙ c.requires.opening in
    let after : c.finish-receipt.new.self.journal ≡ book.journal ++ given.entry ∷ [] =
    ap (λ (v : View). v.journal) accepted.appended ∙ ap (λ (e : Entry). book.journal ++ e ∷ []) (sym accepted.entry) in
    let legal : Legal (start g.L.Naming.opening) (book.journal ++ given.entry ∷ []) =
    subst (λ (l : List Entry). Legal (start g.L.Naming.opening) l) after (subst (λ (o : Opening). Legal (start o) c.finish-receipt.new.self.journal) opens c.journal-2.ensures.valid.legal) in
    let shown : c.table.result.now ≡ book.journal ++ given.entry ∷ [] = c.table.ensures ∙ ap (λ (s : Screen). s.shown) c.in-Ok.ensures.published ∙ ap (λ (l : List Entry). l ++ c.entry.result.now ∷ []) c.requires.level.0
    ∙ ap (λ (e : Entry). book.journal ++ e ∷ []) (c.entry.ensures ∙ sym accepted.entry) in
    let begins : Begins (book.journal ++ given.entry ∷ []) c.count.new.self.seen =
    subst (λ (l : List Entry). Begins (book.journal ++ given.entry ∷ []) l) (sym c.count.ensures.seen) (subst (λ (l : List Entry). Begins l c.learn.new.self.seen) shown c.learn.ensures.learnt) in
    let level : length c.args.seat.now.seen ≡ length book.journal = ap length c.requires.level.1 in
    let at_end : given.index ≡ length book.journal = accepted.index in
    let counted : c.count.new.self.accepted ≡ c.args.seat.now.accepted + 1 = c.count.ensures.accepted ∙ ap (λ (n : ℕ). n + 1) c.learn.ensures.accepted in
    record {
      receipt = record { entry = accepted.entry; text = accepted.seen };
      index = stands (view_of book) (view_of c.finish-receipt.new.self) c.args.ready given g.L.Ledger.parts c.args.seat.now.accepted c.args.total.now.total
          accepted c.versions_count_entries.ensures c.requires.backed c.requires.alone c.requires.total c.requires.fits.room few;
      later = omega (arith, level, at_end);
      in_view = in_view (view_of book) (view_of c.finish-receipt.new.self) c.args.ready given g.L.Naming.opening c.count.new.self.seen accepted c.requires.opening legal begins;
      counted = counted;
    }

pub publish-requires-clause-place : goal.publish-requires-clause-place
publish-requires-clause-place g c =
    let book = c.args.book.now in
    let placed : place_in book.opening c.args.ready.statement.text ≡ Some c.args.ready.place = (free (view_of book) c.args.ready c.requires.free).placed in
    let named : place_in g.L.Naming.opening c.args.ready.statement.text ≡ Some c.args.ready.place = subst (λ (o : Opening). place_in o c.args.ready.statement.text ≡ Some c.args.ready.place) c.requires.opening placed in
    ap (λ (e : Entry). place_in g.L.Naming.opening e.statement.text) c.entry.ensures ∙ named ∙ ap (λ (k : ℕ). Some k) (sym c.place.ensures)
