-- The names so far are those in the set, and the remaining names repeat one exactly if all the names do.
use Rattle.std.proofs.Common.{◌≡◌, drop, take}
use Rattle.sno_pattern.specs.NameList.{repeat_from, first_repeat}
use Rattle.sno_pattern.proofs.name_list.Names.new.Given as goal

abbrev pub invariant-loop-name : goal.invariant-loop-name
invariant-loop-name l = record {
  front : l.set.keys ≡ take l.name-index l.names;
  rest : repeat_from l.set.keys l.name-index (drop l.name-index l.names) ≡ first_repeat l.names;
}
