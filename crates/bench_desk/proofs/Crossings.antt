-- Which of the program's types may cross threads.
use denote.RattleType.{RattleType}
use denote.Param.Send.{IsSend, sendable}
use denote.Param.SendFields.{as_row_send, declared_send}
use Rattle.std.proofs.Crossing.{Vec-send}
use Rattle.std.proofs.option.Option.TheSendSync as option
use Rattle.std.specs.declared.sync.ledger.Ledger.{Ghosts}
use Rattle.sno_book.specs.contracts.entries.Receipt as Receipt
use Rattle.sno_published.specs.declared.naming.Naming.{Ghosts as NamingGhosts}
use Rattle.sno_desk.proofs.Crossings.{seat_send}
use Rattle.sno_desk.specs.contracts.seats.Seat as Seat
use Rattle.bench_desk.proofs.faults.Fault.TheSendSync as fault
use Rattle.bench_desk.specs.contracts.faults.Fault as Fault
use Rattle.bench_desk.specs.contracts.posts.Post as Post
use Rattle.bench_desk.specs.contracts.posts.Record as Record

record_send : IsSend Receipt.the_row → IsSend Record.the_row
record_send receipt = declared_send Record.the_type (Vec-send Receipt.the_row receipt, (search sendable, (search sendable, (option.the_send Fault.the_row fault.the_send, tt))))

-- a post, from its receipts
pub post_send : (L : RattleType) (n : NamingGhosts L.Denot) (g : Ghosts L.Denot) → IsSend Receipt.the_row → IsSend (Post.the_row L n g)
post_send L n g receipt = declared_send (Post.the_type L n g) (as_row_send (Seat.the_field L n g) (seat_send L n g receipt), (record_send receipt, tt))
