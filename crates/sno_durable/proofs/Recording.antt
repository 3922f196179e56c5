-- Records that come to those that wait, line by line.
use Rattle.std.proofs.Common.{◌≡◌, ◌⊎◌, ◌+◌, ◌++◌, ℕ, List, [], ◌∷◌, Option, false, length, refl, inl, inr, sym, ap, ◌∙◌, subst, arith, append_assoc, append-nil, length-append}
use mathlib.Core.List.{IsPrefix as Begins}
use Rattle.serde_json.specs.Data.{Data}
use Rattle.serde_json.specs.View.{view}
use Rattle.serde_json.specs.Written.{compact_text, has_float}
use Rattle.sno_book.specs.Entries.{Entry}
use Rattle.sno_book.specs.Openings.{Opening}
use Rattle.sno_desk.specs.Turns.{Position}
use Rattle.sno_listing.specs.declared.refusals.Refusal.{Refusal}
use Rattle.sno_published.proofs.Prefixes.{prefix_self, prefix_trans}
use Rattle.sno_serve.specs.Asked.{id_in}
use Rattle.sno_serve.specs.Replies.{with_ignored}
use Rattle.sno_serve.specs.declared.asked.Asked.{Asked}
use Rattle.sno_durable.specs.Records.{record_text}
use Rattle.sno_durable.specs.Sought.{IsRepliedOn}
use Rattle.sno_durable.specs.Performed.{IsText, AddsLine, IsReplyTo, IsRecorded, HasReplied, IsRecordOf, AreRecords, HasRecords, asked_now, asked_of}
use Rattle.sno_durable.specs.declared.earlier.Reading.{Reading}

-- a text and a line feed were written
pub line_added : (d : Data) (text before middle after : List ℕ) → middle ≡ before ++ text → after ≡ middle ++ 10 ∷ [] → IsText d text → AddsLine d before after
line_added d text before middle after first second is = record {
  line = text ++ 10 ∷ [];
  joined = second ∙ ap (λ (l : List ℕ). l ++ 10 ∷ []) first ∙ append_assoc before text (10 ∷ []);
  is = record { text = text; ended = refl; compact = is };
}

-- the id is the line's
abbrev pub asked_so : (reading : Reading) (tries : ℕ) (opening : Opening) (before after : List Entry) (line : List ℕ) (id : Option Data) (asked : Asked) (d : Data) (refused : Option Refusal)
    → id ≡ id_in line → IsRepliedOn reading.past.entries (view reading.past.versions) tries opening before after id asked d refused
    → IsRepliedOn reading.past.entries (view reading.past.versions) tries opening before after (id_in line) asked d refused
asked_so reading tries opening before after line id asked d refused id_is replied =
    subst (λ (i : Option Data). IsRepliedOn reading.past.entries (view reading.past.versions) tries opening before after i asked d refused) id_is replied

-- a client's line was performed, and this is the text of its reply
abbrev pub reply_made : (reading : Reading) (tries : ℕ) (opening : Opening) (before after : List Entry) (line text : List ℕ) (number : ℕ) (id : Option Data) (asked : Asked) (d : Data) (refused : Option Refusal)
    → id ≡ id_in line → asked ≡ asked_now reading number line → IsRepliedOn reading.past.entries (view reading.past.versions) tries opening before after id asked d refused
    → IsText d text → IsReplyTo reading tries opening before after line text
reply_made reading tries opening before after line text number id asked d refused id_is asked_is replied is = record {
  number = number;
  asked = asked;
  is = inl asked_is;
  reply = d;
  refused = refused;
  replied = asked_so reading tries opening before after line id asked d refused id_is replied;
  written = is;
}

-- the text of a reply, after bytes that were cleared
pub text_written : (d : Data) (before text : List ℕ) → before ≡ [] → (has_float d ≡ false → text ≡ before ++ compact_text d) → IsText d text
text_written d before text none is = λ whole. is whole ∙ ap (λ (l : List ℕ). l ++ compact_text d) none

-- a count that is not the same is one more
pub one_more : (before after : ℕ) → (after ≡ before) ⊎ (after ≡ before + 1) → ¬ (after ≡ before) → after ≡ before + 1
one_more before after (inl same) other = absurd (other same)
one_more before after (inr up) other = up

-- a line was performed
pub replied_made : (reading : Reading) (opening : Opening) (before after : Position) (line text : List ℕ) (number : ℕ) (id : Option Data) (asked : Asked) (d : Data) (refused : Option Refusal)
    (names : List Data) (waited waits : List (List ℕ)) (shown shows : List ℕ) → id ≡ id_in line → asked ≡ asked_now reading number line
    → IsRepliedOn reading.past.entries (view reading.past.versions) 1 opening before.seen after.seen id asked d refused → IsText d text → Begins before.seen after.seen
    → IsRecorded before.accepted after.accepted line text waited waits → AddsLine (with_ignored names d) shown shows → HasReplied reading opening before after line waited waits shown shows
replied_made reading opening before after line text number id asked d refused names waited waits shown shows id_is asked_is replied is begins recorded added = record {
  text = text;
  begins = begins;
  reply = reply_made reading 1 opening before.seen after.seen line text number id asked d refused id_is asked_is replied is;
  limited = asked_is;
  recorded = recorded;
  ignored = names;
  added = added;
}

-- records that come after others
pub records_more : (reading : Reading) (opening : Opening) (before between after : List Entry) (olds news : List (List ℕ))
    → AreRecords reading opening before olds between → AreRecords reading opening between news after → AreRecords reading opening before (olds ++ news) after
records_more reading opening before between after [] [] p q = prefix_trans before between after p q
records_more reading opening before between after [] (r ∷ rs) p q =
    let one = q.1 in
    (q.0, record { line = one.line; text = one.text; is = one.is; start = one.start; begins = prefix_trans before between one.start p one.begins; reply = one.reply }, q.2)
records_more reading opening before between after (r ∷ rs) news p q = (p.0, p.1, records_more reading opening p.0 between after rs news p.2 q)

-- nothing has come
pub records_none : (reading : Reading) (opening : Opening) (here : Position) (waits : List (List ℕ)) → HasRecords reading opening here here waits waits
records_none reading opening here waits = record {
  news = [];
  joined = sym (append-nil waits);
  counted = omega arith;
  records = prefix_self here.seen;
}

-- what has come, and what comes then
pub records_then : (reading : Reading) (opening : Opening) (before between after : Position) (waited some waits : List (List ℕ))
    → HasRecords reading opening before between waited some → HasRecords reading opening between after some waits → HasRecords reading opening before after waited waits
records_then reading opening before between after waited some waits p q = record {
  news = p.news ++ q.news;
  joined = q.joined ∙ ap (λ (l : List (List ℕ)). l ++ q.news) p.joined ∙ append_assoc waited p.news q.news;
  counted = omega (arith, p.counted, q.counted, length-append p.news q.news);
  records = records_more reading opening before.seen between.seen after.seen p.news q.news p.records q.records;
}

recorded_one : (reading : Reading) (opening : Opening) (before after : Position) (line text : List ℕ) (waited waits : List (List ℕ)) → Begins before.seen after.seen
    → IsReplyTo reading 1 opening before.seen after.seen line text → IsRecorded before.accepted after.accepted line text waited waits → HasRecords reading opening before after waited waits
recorded_one reading opening before after line text waited waits begins reply (inl none) = record {
  news = [];
  joined = none.1 ∙ sym (append-nil waited);
  counted = omega (arith, none.0);
  records = begins;
}
recorded_one reading opening before after line text waited waits begins reply (inr one) = record {
  news = record_text line text ∷ [];
  joined = one.1;
  counted = one.0;
  records = (after.seen, record { line = line; text = text; is = refl; start = before.seen; begins = prefix_self before.seen; reply = reply }, prefix_self after.seen);
}

-- a line has its record, if it has one
pub replied_records : (reading : Reading) (opening : Opening) (before after : Position) (line : List ℕ) (waited waits : List (List ℕ)) (shown shows : List ℕ)
    → HasReplied reading opening before after line waited waits shown shows → HasRecords reading opening before after waited waits
replied_records reading opening before after line waited waits shown shows r = recorded_one reading opening before after line r.text waited waits r.begins r.reply r.recorded

-- a line that was performed again
pub record_again : (reading : Reading) (opening : Opening) (before after : List Entry) (bytes line text : List ℕ) (number : ℕ) (id : Option Data) (asked : Asked) (d : Data) (refused : Option Refusal)
    → bytes ≡ record_text line text → id ≡ id_in line → asked ≡ asked_of reading number line
    → IsRepliedOn reading.past.entries (view reading.past.versions) 1 opening before after id asked d refused → IsText d text → IsRecordOf reading opening before after bytes
record_again reading opening before after bytes line text number id asked d refused bytes_are id_is asked_is replied is = record {
  line = line;
  text = text;
  is = bytes_are;
  start = before;
  begins = prefix_self before;
  reply = record {
    number = number;
    asked = asked;
    is = inr asked_is;
    reply = d;
    refused = refused;
    replied = asked_so reading 1 opening before after line id asked d refused id_is replied;
    written = is;
  };
}

-- a record, and those after it
pub record_first : (reading : Reading) (opening : Opening) (before between after : List Entry) (bytes : List ℕ) (all later : List (List ℕ)) → all ≡ bytes ∷ later
    → IsRecordOf reading opening before between bytes → AreRecords reading opening between later after → AreRecords reading opening before all after
record_first reading opening before between after bytes all later is one more =
    subst (λ (l : List (List ℕ)). AreRecords reading opening before l after) (sym is) (between, one, more)

-- what a seat had seen goes on
pub records_end : (reading : Reading) (opening : Opening) (before between after : List Entry) (news : List (List ℕ))
    → AreRecords reading opening before news between → Begins between after → AreRecords reading opening before news after
records_end reading opening before between after [] p q = prefix_trans before between after p q
records_end reading opening before between after (r ∷ rs) p q = (p.0, p.1, records_end reading opening p.0 between after rs p.2 q)

-- the same, for lines that go on meaning what they meant
pub records_on : (reading now : Reading) (opening : Opening) (before between after : Position) (waited some waits : List (List ℕ)) → now ≡ reading
    → HasRecords reading opening before between waited some → HasRecords now opening between after some waits → HasRecords reading opening before after waited waits
records_on reading now opening before between after waited some waits same p q =
    records_then reading opening before between after waited some waits p (subst (λ (r : Reading). HasRecords r opening between after some waits) same q)
