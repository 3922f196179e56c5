-- A book with what its lines are read by.
use Rattle.std.specs.Prelude.{◌≡◌, ◌<◌, ◌≤◌, ℕ, ◌+◌, ◌^◌, List, [], ◌∷◌, ◌++◌, Option, None, Some, Ok, if◌then◌else◌, length, nat_lt}
use Rattle.std.specs.Arc.{arc_value}
use Rattle.serde_json.specs.Data.{Data}
use Rattle.sno_book.specs.Books.{view_of}
use Rattle.sno_document.specs.Document.{Document, IsDocument}
use Rattle.sno_document.specs.declared.modes.Mode.{Mode}
use Rattle.sno_listing.specs.History.{history_of}
use Rattle.sno_listing.specs.declared.refusals.Refusal.{Refusal}
use Rattle.sno_rewrite.specs.Serial.{serial}
use Rattle.sno_serve.specs.Asked.{asked_in, id_in}
use Rattle.sno_serve.specs.Replies.{IsLine, too_long_reply, with_ignored}
use Rattle.sno_serve.specs.declared.asked.Asked.{Asked}
use Rattle.sno_serve.specs.declared.asked.Asked.TheVariants as asks
use Rattle.sno_serve.specs.declared.intake.TheConstants.{MAX_LINE}
use Rattle.sno_serve.specs.declared.outlet.TheConstants.{MAX_REFUSED}
use Rattle.sno_held_book.specs.Lines.{IsReplied}
use Rattle.sno_held_book.specs.declared.held_book.HeldBook.{HeldBook}

-- The book is what the serial run of the document leaves, with the document's definitions; the next statement comes after the document's.
pub record IsOpened (mode : Mode) (bytes : List ℕ) (b : HeldBook) : Type 0 where
  pub document : Document
  pub spelled : IsDocument mode bytes (Ok document)
  pub performed : serial document ≡ Some (history_of (view_of b.book) b.refused.items)
  pub rules : arc_value b.rules ≡ document.rules
  pub mode_is : b.mode ≡ mode
  pub number : b.number ≡ length document.statements + 1

-- the next number, up to the highest that there is
abbrev pub next_number : ℕ → ℕ
next_number n = if nat_lt (n + 1) (2 ^ 32) then n + 1 else n

-- a statement that is to be performed takes a number
abbrev pub number_after : Asked → ℕ → ℕ
number_after (asks.Perform s) n = next_number n
number_after (asks.PerformAt s version) n = next_number n
number_after (asks.Check s) n = n
number_after (asks.Read name) n = n
number_after (asks.ReadAt name version) n = n
number_after asks.Texts n = n
number_after (asks.Since excerpt) n = n
number_after (asks.Fault fault) n = n

-- a refused statement comes after the earlier ones, up to a limit of the listing
abbrev pub listed_with : List Refusal → Option Refusal → List Refusal
listed_with refused None = refused
listed_with refused (Some r) = if nat_lt (length refused) MAX_REFUSED then refused ++ r ∷ [] else refused

-- definitions and mode are as they were
pub record SameTerms (b c : HeldBook) : Type 0 where
  pub rules : arc_value c.rules ≡ arc_value b.rules
  pub mode : c.mode ≡ b.mode

-- what the line asks for: it is read with the book's definitions and its next number
abbrev pub asked_of : HeldBook → List ℕ → Asked
asked_of b line = asked_in (arc_value b.rules) b.mode b.number line

-- The bytes are the reply to the line, with the line's id and the names of its members that mean nothing there.
pub record IsLineReply (b c : HeldBook) (line bytes : List ℕ) : Type 0 where
  pub reply : Data
  pub refused : Option Refusal
  pub ignored : List Data
  pub replied : IsReplied (view_of b.book) (view_of c.book) (id_in line) (asked_of b line) reply refused
  pub number : c.number ≡ number_after (asked_of b line) b.number
  pub listed : c.refused.items ≡ listed_with b.refused.items refused
  pub written : IsLine (with_ignored ignored reply) bytes

-- .. or say that the line is too long, and nothing is changed
abbrev pub IsReplyTo : HeldBook → HeldBook → List ℕ → List ℕ → Type 0
IsReplyTo b c line bytes = (length line ≤ MAX_LINE → IsLineReply b c line bytes) × (MAX_LINE < length line → IsLine too_long_reply bytes × (c ≡ b))
