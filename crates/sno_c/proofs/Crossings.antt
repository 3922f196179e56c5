-- What a handle holds may go to another thread, by its fields.
use denote.Param.Send.{IsSend, sendable}
use denote.Param.SendFields.{as_row_send, declared_send, variants_send}
use Rattle.std.proofs.Crossing.{crosses, Arc-send}
use Rattle.sno_pattern.specs.contracts.byte_texts.ByteText as ByteText
use Rattle.sno_pattern.specs.contracts.definitions.Rules as Rules
use Rattle.sno_book.specs.contracts.books.Book as Book
use Rattle.sno_desk.proofs.Crossings.{book_send, entry_send}
use Rattle.sno_compiled.proofs.Crossings.{rules_send, rules_sync}
use Rattle.sno_compiled.proofs.compiled.CompiledStatement.TheSendSync as compiled
use Rattle.sno_seek.specs.contracts.seeker.Seeker as Seeker
use Rattle.sno_held_book.specs.contracts.held_book.HeldBook as HeldBook
use Rattle.sno_c.specs.contracts.held.BookWithReply as BookWithReply
use Rattle.sno_c.specs.contracts.held.Held.{enum, the_row}

-- a pattern that is read once
seeker_send : IsSend Seeker.the_row
seeker_send = declared_send Seeker.the_type (compiled.the_send, (search sendable, (search (sendable, crosses) depth 60 fits 100000, (search (sendable, crosses) depth 60 fits 100000, tt))))

-- a text of bytes
text_send : IsSend ByteText.the_row
text_send = search (sendable, crosses) depth 40 fits 100000

-- a book with what its lines are read by
held_book_send : IsSend HeldBook.the_row
held_book_send = declared_send HeldBook.the_type (
  as_row_send Book.the_field (book_send entry_send),
  (Arc-send Rules.the_row rules_send rules_sync, (search sendable, (search sendable, (search (sendable, crosses) depth 40 fits 100000, tt)))),
)

-- .. and with the reply to its last line
book_with_reply_send : IsSend BookWithReply.the_row
book_with_reply_send = declared_send BookWithReply.the_type (held_book_send, (search (sendable, crosses) depth 40 fits 100000, tt))

-- a pattern, a text or a book
pub held_send : IsSend the_row
held_send = variants_send enum ((seeker_send, tt), ((as_row_send ByteText.the_field text_send, tt), ((book_with_reply_send, tt), tt)))
