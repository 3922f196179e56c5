-- The texts so far are shared.
use Rattle.std.proofs.Common.{◌≡◌, take}
use Rattle.sno_book.specs.Starts.{first_contents}
use Rattle.sno_published.specs.StoredTexts.{contents}
use Rattle.sno_published.proofs.stored_texts.first_texts.Given as goal

abbrev pub invariant-loop-place : goal.invariant-loop-place
invariant-loop-place l = contents l.stored.items ≡ first_contents (take l.place l.opening.texts)
