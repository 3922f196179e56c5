-- What the steps of a line say together.
use Rattle.std.proofs.Common.{◌≡◌, ◌∙◌, ◌<◌, ◌≤◌, ◌+◌, ℕ, List, Option, Some, length, refl, sym, ap, subst, arith}
use Rattle.std.specs.Prelude.{Ok, Result}
use Rattle.std.specs.Arc.{arc_value}
use Rattle.std.proofs.lemmas.List.{length-map}
use Rattle.serde_json.specs.Data.{Data}
use Rattle.sno_statement.specs.Statement.{Statement}
use Rattle.sno_book.specs.Books.{view_of}
use Rattle.sno_book.specs.Proposals.{Proposal}
use Rattle.sno_book.specs.Views.{View}
use Rattle.sno_document.specs.Document.{IsDocument}
use Rattle.sno_document.specs.Reads.{document_seen}
use Rattle.sno_document.specs.declared.documents.Document.{Document}
use Rattle.sno_document.specs.declared.modes.Mode.{Mode}
use Rattle.sno_listing.specs.History.{history_of}
use Rattle.sno_listing.specs.declared.refusals.Refusal.{Refusal}
use Rattle.sno_rewrite.specs.Serial.{serial}
use Rattle.sno_desk.specs.declared.faults.SubmitFault.{SubmitFault}
use Rattle.sno_serve.specs.Accepted.{AsksFor}
use Rattle.sno_serve.specs.Asked.{id_in}
use Rattle.sno_serve.specs.Replies.{IsLine, IsNoted, too_long_reply, with_ignored}
use Rattle.sno_serve.specs.declared.asked.Asked.{Asked}
use Rattle.sno_serve.specs.declared.intake.TheConstants.{MAX_LINE}
use Rattle.sno_held_book.specs.Held.{IsLineReply, IsOpened, IsReplyTo, asked_of, listed_with, number_after}
use Rattle.sno_held_book.specs.Lines.{GivesAttempt, HasTaken, IsNotedOn, IsReplied}
use Rattle.sno_held_book.specs.declared.held_book.HeldBook.{HeldBook}

-- the reply to a check has what the attempt gave, and some findings
pub noted_on : (v : View) (id : Option Data) (s one other : Statement) (index : ℕ) (gave : Result Proposal SubmitFault) (d : Data) → GivesAttempt gave v one → one ≡ s
    → index ≡ length v.journal → other ≡ s → IsNoted id index other gave d → IsNotedOn v id s d
noted_on v id s one other index gave d gives own many is h = record {
  gave = gave;
  gives = subst (λ (t : Statement). GivesAttempt gave v t) own gives;
  noted = subst (λ (n : ℕ). IsNoted id n s gave d) many (subst (λ (t : Statement). IsNoted id index t gave d) is h);
}

-- the book of a document
pub opened : (mode : Mode) (bytes : List ℕ) (d : Document) (b : HeldBook) → IsDocument mode bytes (Ok (document_seen d))
    → serial (document_seen d) ≡ Some (history_of (view_of b.book) b.refused.items) → arc_value b.rules ≡ arc_value d.rules → b.mode ≡ mode
    → b.number ≡ length d.statements.items + 1 → IsOpened mode bytes b
opened mode bytes d b spelled performed rules mode_is number = record {
  document = document_seen d;
  spelled = spelled;
  performed = performed;
  rules = rules;
  mode_is = mode_is;
  number = number ∙ ap (λ (n : ℕ). n + 1) (sym (length-map d.statements.items arc_value));
}

-- a line with its reply
pub line_reply : (b c : HeldBook) (line bytes : List ℕ) (id : Option Data) (asked : Asked) (reply : Data) (refused : Option Refusal) (ignored : List Data)
    → id ≡ id_in line → asked ≡ asked_of b line → IsReplied (view_of b.book) (view_of c.book) id asked reply refused → c.number ≡ number_after asked b.number
    → c.refused.items ≡ listed_with b.refused.items refused → IsLine (with_ignored ignored reply) bytes → IsLineReply b c line bytes
line_reply b c line bytes id asked reply refused ignored same is replied number listed written = record {
  reply = reply;
  refused = refused;
  ignored = ignored;
  replied = subst (λ (i : Option Data). IsReplied (view_of b.book) (view_of c.book) i (asked_of b line) reply refused) same
      (subst (λ (a : Asked). IsReplied (view_of b.book) (view_of c.book) id a reply refused) is replied);
  number = number ∙ ap (λ (a : Asked). number_after a b.number) is;
  listed = listed;
  written = written;
}

-- what it leaves
pub line_taken : (b : HeldBook) (v w : View) (line : List ℕ) (asked : Asked) → asked ≡ asked_of b line → HasTaken (AsksFor asked) v w → HasTaken (AsksFor (asked_of b line)) v w
line_taken b v w line asked is h = subst (λ (a : Asked). HasTaken (AsksFor a) v w) is h

-- a line that is too long
pub too_long : (b : HeldBook) (line bytes : List ℕ) → MAX_LINE < length line → IsLine too_long_reply bytes → IsReplyTo b b line bytes
too_long b line bytes long written = (λ short. absurd (omega (arith, long, short)), λ _. (written, refl))

-- .. and one that isn't
pub within : (b c : HeldBook) (line bytes : List ℕ) → (MAX_LINE < length line → ⊥) → IsLineReply b c line bytes → IsReplyTo b c line bytes
within b c line bytes short h = (λ _. h, λ long. absurd (short long))
