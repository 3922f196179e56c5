-- It may go to another thread: what is borrowed and what borrows may.
use Rattle.std.proofs.Common.{[], ◌∷◌}
use mir.Raw.{raw}
use mir.Syntax.{named}
use base.Fml.{Fml}
use base.Shift.{Keyless}
use denote.Memory.{lone}
use denote.Param.Send.{IsSend, AllSend, owning_send, struct_send, sendable}
use denote.RawPtr.{Ptr, block_ptr, null_ptr, in_block}
use denote.Struct.Owning.{shape, fields, to}
use denote.Struct.Struct.{exits_of}
use Rattle.std.proofs.Crossing.{frees}
use Rattle.std.proofs.Handle.{handle}
use Rattle.std_alloc.proofs.SendSync.{quiet, lies}
use Rattle.sno_compiled.proofs.Crossings.{file_statement_send, ready_send}
use Rattle.sno_compiled.specs.Owned.{tied_at, ready_row}
use Rattle.sno_statement.specs.Statement.{Statement}
use Rattle.sno_statement.specs.contracts.file_statements.FileStatement.{the_row as S}
use Rattle.sno_compiled.specs.contracts.tied.Tied.{the_row, the_type}

inside : (p : Ptr) (F : Fml) → Keyless F → Keyless (in_block p F)
inside (block_ptr b o) F k = k
inside null_ptr F k = tt

owned : (s r : Ptr) (x : Statement) → Keyless (tied_at s r x)
owned s r x =
    inside s _ (λ a. (tt, ((lies S file_statement_send s x, frees.frees handle (raw (lone S.mir)) s), λ y. (tt, (lies (ready_row a) (ready_send (record { mir = named 0; lft = a ∷ [] })) r y, frees.frees handle (raw (lone (ready_row a).mir)) r)))))

pub send : IsSend the_row
send =
    let all : AllSend (fields the_type) = (search sendable, (search sendable, tt)) in
    owning_send the_type all (λ d. owned d.statement d.ready d.value) (λ k. quiet (to the_type) (exits_of k (fields the_type)) ((struct_send (shape the_type) all).leaving k))
