-- What the calls with books return.
use Rattle.std.specs.Prelude.{◌≡◌, ◌≢◌, ◌↔◌, ◌⊎◌, ℕ, List, [], Option, None, Some, IfSome, is_some, length}
use Rattle.std.specs.Option.{option_map}
use Rattle.sno_book.specs.Books.{view_of}
use Rattle.sno_document.specs.declared.modes.Mode.{Mode}
use Rattle.sno_held_book.specs.Held.{IsOpened, IsReplyTo, SameTerms, asked_of}
use Rattle.sno_held_book.specs.Lines.{HasTaken}
use Rattle.sno_listing.specs.History.{history_of}
use Rattle.sno_listing.specs.JsonListing.{json_listing}
use Rattle.sno_serve.specs.Accepted.{AsksFor}
use Rattle.sno_c.specs.Buffers.{IsWritten}
use Rattle.sno_c.specs.declared.held.BookWithReply.{BookWithReply}
use Rattle.sno_c.specs.declared.held.Held.{Held}
use Rattle.sno_c.specs.declared.held.Held.TheVariants.{Book, Pattern, Text}

-- the book that a handle holds, if it holds one
abbrev pub book_in : Option Held → Option BookWithReply
book_in None = None
book_in (Some (Pattern p)) = None
book_in (Some (Text t)) = None
book_in (Some (Book b)) = Some b

-- the reply to the book's last line, if it is kept
abbrev pub reply_in : BookWithReply → Option (List ℕ)
reply_in b = option_map (λ v. v.items) b.reply

-- The handle holds a book that was opened of the document, to which no line was given yet.
pub record HasOpenedBook (mode : Mode) (document : List ℕ) (held : Option Held) : Type 0 where
  pub book : BookWithReply
  pub held_is : held ≡ Some (Book book)
  pub opened : IsOpened mode document book.book
  pub fresh : reply_in book ≡ None

-- The bytes have the reported length, and are in the buffer if there is room for them.
pub record IsPut (bytes before after : List ℕ) (reported status : ℕ) : Type 0 where
  pub counted : reported ≡ length bytes
  pub written : IsWritten bytes before after status

-- The line was done once. Its reply is kept with the book, and put in the buffer if there is room for it; or memory ran out, and the book
-- is unchanged or has one entry more, of the line's statement.
pub record IsLineDone (line : List ℕ) (b c : BookWithReply) (before after : List ℕ) (reported status : ℕ) : Type 0 where
  pub replied : (status ≡ 0) ⊎ (status ≡ 5) → (reply : List ℕ) × IsReplyTo b.book c.book line reply × (reply_in c ≡ Some reply) × IsPut reply before after reported status
  pub memory : status ≡ 4 → (reply_in c ≡ None) × (reported ≡ 0) × (after ≡ before) × (c.book.refused.items ≡ b.book.refused.items)
  pub taken : HasTaken (AsksFor (asked_of b.book line)) (view_of b.book.book) (view_of c.book.book)
  pub terms : SameTerms b.book c.book
  pub known : (status ≡ 0) ⊎ (status ≡ 4) ⊎ (status ≡ 5)

-- What a call with a line returns. It is refused with 7, and nothing is changed, unless the handle holds a book.
pub record IsLineCall (line : List ℕ) (book after_book : Option Held) (before after : List ℕ) (reported status : ℕ) : Type 0 where
  pub closed : status ≡ 7 ↔ (book_in book ≡ None)
  pub unchanged : status ≡ 7 → (after_book ≡ book) × (after ≡ before) × (reported ≡ 0)
  pub done : IfSome (book_in book) (λ b. IfSome (book_in after_book) (λ c. IsLineDone line b c before after reported status))
  pub same_kind : is_some (book_in after_book) ≡ is_some (book_in book)

-- the reply that is kept is put in the buffer; 1 if there is none
pub record IsReplyCall (book : Option Held) (before after : List ℕ) (reported status : ℕ) : Type 0 where
  pub closed : status ≡ 7 ↔ (book_in book ≡ None)
  pub nothing : IfSome (book_in book) (λ b. status ≡ 1 ↔ (reply_in b ≡ None))
  pub put : IfSome (book_in book) (λ b. IfSome (reply_in b) (λ reply. IsPut reply before after reported status))
  pub refused : (status ≡ 1) ⊎ (status ≡ 7) → (after ≡ before) × (reported ≡ 0)

-- the listing of the book is put in the buffer, unless memory runs out
pub record IsListingCall (book : Option Held) (before after : List ℕ) (reported status : ℕ) : Type 0 where
  pub closed : status ≡ 7 ↔ (book_in book ≡ None)
  pub put : status ≢ 4 → IfSome (book_in book) (λ b. IsPut (json_listing (history_of (view_of b.book.book) b.book.refused.items)) before after reported status)
  pub refused : (status ≡ 4) ⊎ (status ≡ 7) → (after ≡ before) × (reported ≡ 0)
