-- A proposal that nothing refuses.
use Rattle.std.proofs.Common.{◌≡◌, None, List, slice_get, rules, ap, sym, ◌∙◌}
use Rattle.sno_book.specs.Books.{view_of}
use Rattle.sno_book.specs.Commits.{refusal}
use Rattle.sno_book.specs.contracts.books.Book.{the_view}
use Rattle.sno_book.specs.declared.versioned_texts.VersionedText.{VersionedText as StoredText}
use Rattle.sno_book.proofs.Fitting.{fits_still, stands_still, place_free}
use Rattle.sno_book.proofs.books.Book.prepare.Goals as goal

pub text_at-versioned-requires : goal.text_at-versioned-requires
text_at-versioned-requires c =
    let free : refusal (view_of c.args.self.now) c.args.proposal ≡ None = search rules in
    rw (c.place.ensures.place, c.deref.ensures.value) (place_free (the_view c.self.inside) c.args.self.now c.args.proposal c.self.inside.versioned_texts.items c.self.view_is c.self.invariant free)

pub of-requires : goal.of-requires
of-requires c =
    let free : refusal (view_of c.args.self.now) c.args.proposal ≡ None = search rules in
    let there : slice_get c.self.inside.versioned_texts.items c.args.proposal.place ≡ _ =
    ap (λ (l : List StoredText). slice_get l c.args.proposal.place) (sym c.deref.ensures.value) ∙ ap (λ k. slice_get c.deref.result.now k) (sym c.place.ensures.place) ∙ c.text_at-versioned.ensures in
    stands_still (the_view c.self.inside) c.args.self.now c.args.proposal c.self.inside.versioned_texts.items c.text_at-versioned.result.now c.self.view_is c.self.invariant free
    c.requires c.place.ensures.performed there

pub returns-clause-ready : goal.returns-clause-ready
returns-clause-ready c =
    let free : refusal (view_of c.args.self.now) c.args.proposal ≡ None = search rules in
    record {
      free = free;
      unchanged = search rules;
      kept = search rules;
      holds = search rules;
      fits =
          fits_still (the_view c.self.inside) c.args.self.now c.args.proposal c.in-Ok.ready c.self.inside.versioned_texts.items c.reserve.new.self.items c.self.view_is
          c.in-Ok.ensures.ready c.in-Ok-reserve.ensures.items c.self.invariant free;
    }
