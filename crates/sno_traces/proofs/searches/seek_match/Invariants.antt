-- What is sought is what is sought from the search that is next.
use Rattle.std.proofs.Common.{◌≡◌, ◌-◌, ◌≤◌, length}
use Rattle.sno_traces.specs.Searches.{sought_from, sought_in}
use Rattle.sno_traces.proofs.searches.seek_match.Given as goal

abbrev pub invariant-loop-passed : goal.invariant-loop-passed
invariant-loop-passed l = record {
  sought : sought_from l.statement l.text l.earlier (l._passed-end - l._passed) l.search ≡ sought_in l.statement l.text l.earlier;
  same : l.searched ≡ l.text;
  inside : l.search.from ≤ length l.text;
  few : l.search.matches ≤ l.earlier;
}
