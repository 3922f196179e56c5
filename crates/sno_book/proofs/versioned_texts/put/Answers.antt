-- The new text in place of the old one.
use Rattle.std.proofs.Common.{ap, sym, ◌∙◌, List, slice_get}
use Rattle.sno_book.specs.declared.versioned_texts.VersionedText.{VersionedText as StoredText}
use Rattle.sno_book.proofs.Places.{renewed}
use Rattle.sno_book.proofs.versioned_texts.put.Goals as goal

pub returns-in-Some-clause-put : goal.returns-in-Some-clause-put
returns-in-Some-clause-put c = λ names name at.
    renewed name c.args.place names c.args.versioned_texts.now.items c.text_at.result.now c.in-Some.text c.args.after at
    (ap (λ (l : List StoredText). slice_get l c.args.place) (sym c.deref.ensures.value) ∙ c.text_at.ensures) c.in-Some.is
