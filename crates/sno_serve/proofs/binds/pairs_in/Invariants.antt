-- The names and texts so far, with the members that are left, give the same result.
use Rattle.std.proofs.Common.{◌≡◌, [], length}
use Rattle.serde_json.specs.View.{members_view}
use Rattle.sno_serve.specs.Binds.{bound_from}
use Rattle.sno_serve.proofs.binds.pairs_in.Given as goal

abbrev pub invariant-loop-key : goal.invariant-loop-key
invariant-loop-key l = record {
  rest : bound_from (record { names = l.pairs.names.items; texts = l.pairs.texts.items }) (members_view l.key-iterator)
      ≡ bound_from (record { names = []; texts = [] }) (members_view l.members.entries);
  each : length l.pairs.names.items ≡ length l.pairs.texts.items;
}
