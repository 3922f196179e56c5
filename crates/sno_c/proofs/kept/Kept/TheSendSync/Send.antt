-- A handle may go to another thread: what it holds may.
use mir.Raw.{raw}
use base.Shift.{Keyless}
use denote.Memory.{lone}
use denote.Param.Send.{IsSend, AllSend, owning_send, struct_send, sendable}
use denote.RawPtr.{Ptr}
use denote.Struct.Owning.{shape, fields, to}
use denote.Struct.Struct.{exits_of}
use Rattle.std.proofs.Crossing.{frees}
use Rattle.std.proofs.Handle.{handle}
use Rattle.std.specs.Prelude.{Option, None, Some}
use Rattle.std_alloc.proofs.SendSync.{quiet, lies}
use Rattle.sno_c.proofs.Crossings.{held_send}
use Rattle.sno_c.specs.Kept.{kept_at}
use Rattle.sno_c.specs.contracts.held.Held.{the_row as R}
use Rattle.sno_c.specs.contracts.kept.Kept.{the_row, the_type}
use Rattle.sno_c.specs.declared.held.Held.{Held}

owned : (p : Ptr) (x : Option Held) → Keyless (kept_at p x)
owned p None = tt
owned p (Some x) = (lies R held_send p x, frees.frees handle (raw (lone R.mir)) p)

pub send : IsSend the_row
send =
    let all : AllSend (fields the_type) = (search sendable, tt) in
    owning_send the_type all (λ d. owned d.at d.value) (λ k. quiet (to the_type) (exits_of k (fields the_type)) ((struct_send (shape the_type) all).leaving k))
