-- Why a proposal is refused if the text at its place has its name.
use Rattle.std.proofs.Common.{◌≡◌, ap, sym, subst, ◌∙◌, ℕ, List, Some, slice_get}
use Rattle.std.specs.Arc.{arc_value}
use Rattle.sno_statement.specs.Statement.{Statement}
use Rattle.sno_book.specs.Books.{Book, view_of}
use Rattle.sno_book.specs.Commits.{beside, refusal}
use Rattle.sno_book.specs.Openings.{Opening, place_in}
use Rattle.sno_book.specs.contracts.books.Book.{the_view}
use Rattle.sno_book.specs.declared.versioned_texts.VersionedText.{VersionedText as StoredText}
use Rattle.sno_book.proofs.BookLaws.{place_inside, refusal_there, stands_there}
use Rattle.sno_book.proofs.books.Book.refusal.Goals as goal

pub text_at-requires : goal.text_at-requires
text_at-requires c =
    let name = c.text.ensures ∙ ap (λ (s : Statement). s.text) c.statement.ensures.statement in
    let placed : place_in (the_view c.self.inside).opening c.args.proposal.now.statement.text ≡ Some c.place-place.result =
    ap (λ (o : Opening). place_in o c.args.proposal.now.statement.text) (sym c.deref.ensures) ∙ ap (λ (n : List ℕ). place_in c.deref.result.now n) (sym name) ∙ c.has_at.ensures.0 c.if-not-has_at.false in
    rw c.deref-2.ensures.value (place_inside (the_view c.self.inside) c.self.inside.versioned_texts.items c.args.proposal.now.statement.text c.place-place.result c.self.invariant placed)

pub returns : goal.returns
returns c =
    let name = c.text.ensures ∙ ap (λ (s : Statement). s.text) c.statement.ensures.statement in
    let placed : place_in (the_view c.self.inside).opening c.args.proposal.now.statement.text ≡ Some c.place-place.result =
    ap (λ (o : Opening). place_in o c.args.proposal.now.statement.text) (sym c.deref.ensures) ∙ ap (λ (n : List ℕ). place_in c.deref.result.now n) (sym name) ∙ c.has_at.ensures.0 c.if-not-has_at.false in
    let b = the_view c.self.inside in
    let p = c.args.proposal.now in
    let s = c.text_at.result.now in
    let stored = ap (λ (l : List StoredText). slice_get l c.place-place.result) (sym c.deref-2.ensures.value) ∙ c.text_at.ensures in
    let there = stands_there b c.self.inside.versioned_texts.items p.statement.text c.place-place.result s c.self.invariant placed stored in
    let here = refusal_there (view_of b) p c.place-place.result _ placed c.place-place.ensures.place there in
    c.refusal_beside.ensures
    ∙ sym (subst (λ (x : Book). refusal (view_of x) p ≡ beside (view_of x) p (Some (record { name = p.statement.text; text = arc_value s.text; version = s.version }))) c.self.view_is here)
