-- One more entry.
use Rattle.std.proofs.Common.{◌≡◌, ap, ◌∙◌, sym, Some, ℕ, [], ◌∷◌, ◌++◌}
use Rattle.std.specs.Arc.{arc_value}
use Rattle.sno_book.specs.Openings.{names_in}
use Rattle.sno_book.specs.Entries.{Entry}
use Rattle.sno_book.specs.Proposals.{entry_of}
use Rattle.sno_book.specs.Books.{view_of}
use Rattle.sno_book.specs.contracts.books.Book.{the_view}
use Rattle.sno_book.proofs.BookLaws.{place_inside, version_rises, keeps_more}
use Rattle.sno_book.proofs.Fitting.{free_here, performed_here, accepted}
use Rattle.sno_book.proofs.books.Book.finish.Goals as goal

pub put-requires-clause-inside : goal.put-requires-clause-inside
put-requires-clause-inside c =
    let b = the_view c.self.inside in
    let p = c.ready.inside.proposal in
    let f = free_here b c.args.self.now p c.args.ready c.self.inside.versioned_texts.items (arc_value c.ready.inside.text) c.self.view_is c.ready.view_is c.self.invariant c.requires.fits c.requires.related
    c.ready.invariant.held c.ready.invariant.performed in
    rw c.place-place.ensures.place (place_inside b c.self.inside.versioned_texts.items p.statement.text p.place c.self.invariant f.placed)

pub put-requires-clause-small : goal.put-requires-clause-small
put-requires-clause-small c = λ s there.
    version_rises (view_of (the_view c.self.inside)) c.self.inside.versioned_texts.items c.place-place.result s c.self.invariant there

pub invariant_of-self : goal.invariant_of-self
invariant_of-self c =
    let b = the_view c.self.inside in
    let p = c.ready.inside.proposal in
    let f = free_here b c.args.self.now p c.args.ready c.self.inside.versioned_texts.items (arc_value c.ready.inside.text) c.self.view_is c.ready.view_is c.self.invariant c.requires.fits c.requires.related
    c.ready.invariant.held c.ready.invariant.performed in
    let performed = performed_here b c.args.self.now p c.args.ready c.self.inside.versioned_texts.items (arc_value c.ready.inside.text) c.self.view_is c.ready.view_is c.self.invariant c.requires.fits
    c.requires.related c.ready.invariant.held c.ready.invariant.performed in
    let at = f.placed ∙ ap (λ (k : ℕ). Some k) (sym c.place-place.ensures.place) in
    let put = c.put.ensures.put (names_in b.opening.texts) p.statement.text at in
    let done = rw c.ready.invariant.after_is at put in
    rw (c.push_reserved.ensures.items, c.ready.invariant.entry_is)
    (keeps_more (view_of b) p c.self.inside.versioned_texts.items c.put.new.versioned_texts.items c.self.invariant f performed done c.put.ensures.as_many)

pub returns-clause-accepted : goal.returns-clause-accepted
returns-clause-accepted c =
    let b = the_view c.self.inside in
    let p = c.ready.inside.proposal in
    let text = arc_value c.ready.inside.text in
    let journal : c.push_reserved.new.self.items ≡ b.journal ++ entry_of p ∷ [] = c.push_reserved.ensures.items ∙ ap (λ (e : Entry). b.journal ++ e ∷ []) c.ready.invariant.entry_is in
    accepted b c.args.self.now p c.args.ready c.self.inside.versioned_texts.items text c.self.view_is c.ready.view_is c.self.invariant c.requires.fits c.requires.related c.ready.invariant.held
    c.ready.invariant.performed c.push_reserved.new.self.items c.receipt.result journal
    (c.receipt.ensures ∙ ap (λ (n : ℕ). record { index = n; entry = entry_of p; text = text }) (c.len-index.ensures ∙ c.self.inside.journal.ok.0))
