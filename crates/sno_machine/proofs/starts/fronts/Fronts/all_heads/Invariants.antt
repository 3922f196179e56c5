-- The words so far are covered.
use Rattle.std.proofs.Common.{◌≡◌, ◌+◌, List, ℕ, length, take}
use Rattle.sno_machine.specs.Beginnings.{NoneBegins, NoWord}
use Rattle.sno_machine.proofs.starts.fronts.Fronts.all_heads.Given as goal

abbrev pub invariant-loop-word : goal.invariant-loop-word
invariant-loop-word l = record {
  count : length l.all.items ≡ length l.self.heads.items + l.word-index;
  covers : (text : List ℕ) → NoneBegins l.all.items text → NoneBegins l.self.heads.items text × NoWord (take l.word-index l.self.words.items) text;
}
