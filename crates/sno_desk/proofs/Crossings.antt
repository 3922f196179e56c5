-- Which of the crate's types may cross threads, given which of the types that they use may.
use denote.RattleType.{RattleType}
use denote.Builtin.{Array}
use mathlib.Core.List.{List, [], ◌∷◌}
use mir.Syntax.{Sym}
use denote.Struct.Field.{row_field}
use denote.Struct.Tuple.{TupleAt, type_at, parts}
use denote.Param.Send.{IsSend, IsSync, AllSync, sendable, view_send, view_sync}
use denote.Param.SendFields.{FieldsHave, as_row_send, as_row_sync, declared_send, declared_sync}
use Rattle.std.proofs.Crossing.{crosses, Arc-send, Arc-sync, Deque-send, send, sync, frees}
use Rattle.std.proofs.option.Option.TheSendSync as option
use Rattle.std.proofs.result.Result.TheSendSync as result
use Rattle.std.proofs.sync.ledger.Book.TheSendSync as total
use Rattle.std.proofs.sync.ledger.Share.TheSendSync as share
use Rattle.std.proofs.sync.Mutex.TheSendSync as mutex
use Rattle.std.specs.contracts.alloc.Global as Global
use Rattle.std.specs.contracts.collections.VecDeque as VecDeque
use Rattle.std.specs.contracts.impls.GlobalAllocator.TheImpl.{ghosts}
use Rattle.std.specs.contracts.option.Option as Option
use Rattle.std.specs.contracts.result.Result as Result
use Rattle.std.specs.declared.sync.ledger.Ledger.{Ghosts}
use Rattle.std.specs.contracts.sync.Arc as Arc
use Rattle.sno_pattern.proofs.texts.Text.TheSendSync as text
use Rattle.sno_pattern.specs.contracts.texts.Text as Text
use Rattle.left_right.proofs.writer.Writer.TheSendSync as writer
use Rattle.left_right.specs.contracts.writer.Writer as Writer
use Rattle.sno_statement.proofs.outcomes.Outcome.TheSendSync as outcome
use Rattle.sno_statement.specs.contracts.statements.Statement as Statement
use Rattle.sno_statement.specs.contracts.statements.Statement.TheInside as StatementInside
use Rattle.sno_pattern.specs.contracts.definitions.Rules as Rules
use Rattle.sno_pattern.proofs.tree.Pattern.TheLaws.TheKnot as knot
use Rattle.sno_pattern.proofs.name_list.Names.TheSendSync as names
use Rattle.sno_pattern.proofs.text_names.TextName.TheSendSync as name
use Rattle.sno_read.proofs.objects.Object.TheSendSync as object
use Rattle.sno_book.proofs.openings.Opening.TheSendSync as opening
use Rattle.sno_book.specs.contracts.books.Book as Book
use Rattle.sno_book.specs.contracts.entries.Entry as Entry
use Rattle.sno_book.specs.contracts.entries.Receipt as Receipt
use Rattle.sno_book.specs.contracts.openings.Opening as Opening
use Rattle.sno_published.proofs.fronts.Front.TheSendSync as front
use Rattle.sno_published.proofs.histories.History.TheSendSync as history
use Rattle.sno_published.proofs.tables.Table.TheSendSync as table
use Rattle.sno_published.proofs.viewers.Viewer.TheSendSync as viewer
use Rattle.sno_published.specs.contracts.fronts.Front as Front
use Rattle.sno_published.specs.contracts.histories.History as History
use Rattle.sno_published.specs.contracts.view_rule.ViewRule as ViewRule
use Rattle.sno_published.specs.contracts.view_rule.ViewRuleProtocolTableSeenEntries.TheImpl as keeps
use Rattle.sno_published.specs.contracts.operations.Operation as Operation
use Rattle.sno_published.specs.contracts.operations.Operation.TheInside as OperationInside
use Rattle.sno_published.specs.contracts.screens.Screen as Screen
use Rattle.sno_published.specs.contracts.screens.Screen.TheInside as ScreenInside
use Rattle.sno_published.specs.contracts.tables.Table as Table
use Rattle.sno_published.specs.contracts.tables.TableAbsorbOperation.TheImpl as absorbs
use Rattle.sno_published.specs.contracts.viewers.Viewer as Viewer
use Rattle.sno_published.specs.declared.naming.Naming.{Ghosts as NamingGhosts}
use Rattle.sno_desk.specs.contracts.desk.Desk as Desk
use Rattle.sno_desk.specs.contracts.faults.SubmitFault as SubmitFault
use Rattle.sno_desk.specs.contracts.locked.Locked as Locked
use Rattle.sno_desk.specs.contracts.locked.Locked.TheInside as LockedInside
use Rattle.sno_desk.specs.contracts.seats.Seat as Seat
use Rattle.sno_desk.specs.contracts.seats.Seat.TheInside as SeatInside

-- definitions
rules_send : IsSend Rules.the_row
rules_send = search (sendable, crosses, knot.send-Pattern, knot.sync-Pattern, names.the_send, names.the_sync) depth 40 fits 100000

rules_sync : IsSync Rules.the_row
rules_sync = search (sendable, crosses, knot.send-Pattern, knot.sync-Pattern, names.the_send, names.the_sync) depth 40 fits 100000

-- a statement, by its fields
statement_send : IsSend Statement.the_row
statement_send = view_send _ _ _ _ _ (declared_send StatementInside.the_type (
  search sendable,
  (
    Arc-send Rules.the_row rules_send rules_sync,
    (
      search (sendable, crosses, knot.send-Pattern, knot.sync-Pattern) depth 40 fits 100000,
      (search (sendable, crosses, object.the_send) depth 40 fits 100000, (search (sendable, crosses, name.the_send) depth 40 fits 100000, (search sendable, (search sendable, (search (sendable, crosses) depth 40 fits 100000, (search sendable, tt)))))),
    ),
  ),
))

statement_sync : IsSync Statement.the_row
statement_sync = view_sync _ _ _ _ _ (declared_sync StatementInside.the_type (
  search sendable,
  (
    Arc-sync Rules.the_row rules_send rules_sync,
    (
      search (sendable, crosses, knot.send-Pattern, knot.sync-Pattern) depth 40 fits 100000,
      (search (sendable, crosses, object.the_sync) depth 40 fits 100000, (search (sendable, crosses, name.the_sync) depth 40 fits 100000, (search sendable, (search sendable, (search (sendable, crosses) depth 40 fits 100000, (search sendable, tt)))))),
    ),
  ),
))

-- an entry, from its statement and its outcome
pub entry_send : IsSend Entry.the_row
entry_send = search (sendable, crosses, outcome.the_send, outcome.the_sync, statement_send, statement_sync) depth 40 fits 100000

pub entry_sync : IsSync Entry.the_row
entry_sync = search (sendable, crosses, outcome.the_send, outcome.the_sync, statement_send, statement_sync) depth 40 fits 100000

-- a book, from its entries
pub book_send : IsSend Entry.the_row → IsSend Book.the_row
book_send entry = search (sendable, crosses, opening.the_send) depth 40 fits 100000

pub book_sync : IsSync Entry.the_row → IsSync Book.the_row
book_sync entry = search (sendable, crosses, opening.the_sync) depth 40 fits 100000

-- a receipt, from its entry
pub receipt_send : IsSend Entry.the_row → IsSend Receipt.the_row
receipt_send entry = search (sendable, crosses) depth 40 fits 100000

pub receipt_sync : IsSync Entry.the_row → IsSync Receipt.the_row
receipt_sync entry = search (sendable, crosses) depth 40 fits 100000

-- ---- seats

abbrev Reply : RattleType
Reply = Result.the_row Receipt.the_row SubmitFault.the_row

abbrev Replies : RattleType
Replies = VecDeque.the_row Reply Global.the_row ghosts

replies_send : IsSend Receipt.the_row → IsSend (Option.the_row Replies)
replies_send receipt =
    let reply : IsSend Reply = result.the_send Receipt.the_row SubmitFault.the_row receipt (search sendable depth 20) in
    option.the_send Replies (Deque-send Reply reply)

pub seat_send : (L : RattleType) (n : NamingGhosts L.Denot) (g : Ghosts L.Denot) → IsSend Receipt.the_row → IsSend (Seat.the_row L n g)
seat_send L n g receipt = view_send _ _ _ _ _ (declared_send (SeatInside.the_type L n g) (search sendable, (share.the_send L g, (as_row_send (Viewer.the_field L n g) (viewer.the_send L n g), (replies_send receipt, tt)))))

-- ---- what is under the lock

module _ (L : RattleType) (n : NamingGhosts L.Denot) (g : Ghosts L.Denot) where
  shared_history_send : IsSend (Arc.the_row History.the_row Global.the_row ghosts)
  shared_history_send = Arc-send History.the_row history.the_send history.the_sync

  operation_send : IsSend (Operation.the_row L n g)
  operation_send =
      let text = option.the_send (Arc.the_row Text.the_row Global.the_row ghosts) (Arc-send Text.the_row text.the_send text.the_sync) in
      view_send _ _ _ _ _ (declared_send (OperationInside.the_type L n g)
      (text, (search sendable, (as_row_send Front.the_field front.the_send, (as_row_send Front.the_field front.the_send, (shared_history_send, (search sendable, (search sendable, tt))))))))

  -- what one reader has seen
  abbrev SeenEntries : RattleType
  SeenEntries = Array Entry.the_row (tt {0}) 0

  writer_send : IsSend (Writer.the_row (Table.the_row L n g) (Operation.the_row L n g) SeenEntries (ViewRule.the_row L) Global.the_row SeenEntries (absorbs.ghosts L n absorbs.no_dict g absorbs.no_dict)
      (keeps.ghosts L n keeps.no_dict g keeps.no_dict) ghosts)
  writer_send = writer.the_send (Table.the_row L n g) (Operation.the_row L n g) SeenEntries (ViewRule.the_row L) Global.the_row SeenEntries (absorbs.ghosts L n absorbs.no_dict g absorbs.no_dict)
      (keeps.ghosts L n keeps.no_dict g keeps.no_dict) ghosts (table.the_send L n g) operation_send send (table.the_sync L n g) sync frees

  screen_send : IsSend (Screen.the_row L (absorbs.ghosts L n absorbs.no_dict g absorbs.no_dict) n g)
  screen_send = view_send _ _ _ _ _ (declared_send (ScreenInside.the_type L (absorbs.ghosts L n absorbs.no_dict g absorbs.no_dict) n g) (writer_send, (shared_history_send, (as_row_send History.the_field history.the_send, (search sendable, tt)))))

  locked_send : IsSend Book.the_row → IsSend (Locked.the_row L n g)
  locked_send book =
      let screen = as_row_send (Screen.the_field L (absorbs.ghosts L n absorbs.no_dict g absorbs.no_dict) n g) screen_send in
      view_send _ _ _ _ _ (declared_send (LockedInside.the_type L n g) (as_row_send Book.the_field book, (screen, (total.the_send L g, (share.the_send L g, tt)))))

  pub desk_sync : IsSend Book.the_row → IsSync (Desk.the_row L n g)
  desk_sync book =
      let lock = mutex.the_sync (Locked.the_row L n g) (locked_send book) in
      declared_sync (Desk.the_type L n g) (Arc-sync Opening.the_row opening.the_send opening.the_sync, (sync, (lock, tt)))

-- ---- closures

parts_sync : (Ts : List RattleType) → AllSync Ts → FieldsHave IsSync (parts Ts)
parts_sync [] s = tt
parts_sync (T ∷ Ts) s = (as_row_sync (row_field T) s.0, parts_sync Ts s.1)

-- a closure, from what it captures
pub closure_sync : (name : Sym) (Ts : List RattleType) → AllSync Ts → IsSync (TupleAt name Ts)
closure_sync name Ts s = declared_sync (type_at name Ts) (parts_sync Ts s)
