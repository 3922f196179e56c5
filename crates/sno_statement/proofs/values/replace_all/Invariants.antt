-- What is written so far, and what the matches that are left leave of the text.
use Rattle.std.proofs.Common.{◌≡◌, ◌++◌, drop, IsTrue}
use Rattle.std.specs.List.{list_all}
use Rattle.std.specs.Char.{is_ascii}
use Rattle.sno_statement.specs.Passes.{replaced}
use Rattle.sno_statement.proofs.values.replace_all.Given as goal

abbrev pub invariant-loop-place : goal.invariant-loop-place
invariant-loop-place l = record {
  value : l.out.items ++ replaced l.parts l.subject l.cursor (drop l.place l.matches) ≡ replaced l.parts l.subject 0 l.matches;
  ascii : IsTrue (list_all is_ascii l.out.items);
}
