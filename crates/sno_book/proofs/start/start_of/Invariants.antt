-- The texts so far, with those that are left, are all texts.
use Rattle.std.proofs.Common.{◌≡◌, ◌++◌, length}
use Rattle.std.specs.Vec.Iter.{into_iter_items, into_iter_len}
use Rattle.sno_pattern.specs.NameList.{repeat_from, first_repeat}
use Rattle.sno_book.specs.Openings.{texts_seen, names_in}
use Rattle.sno_book.specs.Starts.{contents, first_contents}
use Rattle.sno_book.proofs.start.start_of.Given as goal

abbrev pub invariant-loop-name : goal.invariant-loop-name
invariant-loop-name l = record {
  rest : texts_seen l.named.entries ++ into_iter_items l.name-iterator ≡ l.fn.texts.items;
  first : repeat_from (names_in (texts_seen l.named.entries)) (length l.named.entries) (names_in (into_iter_items l.name-iterator)) ≡ first_repeat (names_in l.fn.texts.items);
  contents : contents l.versioned_texts.items ≡ first_contents (texts_seen l.named.entries);
  left : into_iter_len l.name-iterator ≡ length (into_iter_items l.name-iterator);
}
