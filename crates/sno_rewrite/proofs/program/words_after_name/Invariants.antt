-- The arguments so far, with those that are left, are all after the name.
use Rattle.std.proofs.Common.{◌≡◌, ◌++◌}
use Rattle.std.specs.Vec.Iter.{into_iter_items}
use Rattle.sno_rewrite.proofs.program.words_after_name.Given as goal

abbrev pub invariant-loop-word : goal.invariant-loop-word
invariant-loop-word l = (l.rest.items ≡ l.yielded) × (l.yielded ++ into_iter_items l.word-iterator ≡ into_iter_items l.initial.word-iterator)
