-- Records that are taken out of a queue one after the other.
use Rattle.std.proofs.Common.{◌≡◌, ◌+◌, ◌++◌, ℕ, List, [], ◌∷◌, Option, Some, length, map, refl, sym, ap, ◌∙◌, subst, arith, append_assoc, append-nil, length-append}
use Rattle.std.specs.Map.{lookup, remove_entry}
use Rattle.std.specs.Ordering.{is_eq, nat_cmp}
use Rattle.std.specs.declared.vec.Vec.{Vec}
use Rattle.serde_json.specs.Data.{Data}
use Rattle.serde_json.specs.View.{view}
use Rattle.sno_book.specs.Entries.{Entry}
use Rattle.sno_book.specs.Openings.{Opening}
use Rattle.sno_listing.specs.declared.refusals.Refusal.{Refusal}
use Rattle.sno_serve.specs.Asked.{id_in}
use Rattle.sno_serve.specs.Contents.{content_data}
use Rattle.sno_serve.specs.Replies.{with_ignored}
use Rattle.sno_serve.specs.declared.asked.Asked.{Asked}
use Rattle.sno_serve.specs.declared.content.Content.{Content}
use Rattle.sno_durable.specs.Performed.{AddsLine, IsText, asked_now}
use Rattle.sno_durable.specs.Queued.{AreTaken, HasGiven, HasLeft, IsLeft}
use Rattle.sno_durable.specs.Sought.{IsRepliedOn}
use Rattle.sno_durable.specs.declared.earlier.Reading.{Reading}
use Rattle.sno_durable.proofs.Recording.{reply_made}

map_more : {A : Type 0} (xs : List (Vec ℕ A)) (r : Vec ℕ A) → map (λ v. v.items) (xs ++ r ∷ []) ≡ map (λ v. v.items) xs ++ r.items ∷ []
map_more {A} [] r = refl
map_more {A} (x ∷ xs) r = ap (λ (l : List (List ℕ)). x.items ∷ l) (map_more xs r)

taken_more : {A : Type 0} (next at : ℕ) (xs : List (Vec ℕ A)) (r : Vec ℕ A) (old middle new : List (ℕ × Vec ℕ A)) → at ≡ next + length xs → AreTaken next xs old middle
    → lookup (λ k. is_eq (nat_cmp at k)) middle ≡ Some r → new ≡ remove_entry (λ k. is_eq (nat_cmp at k)) middle → AreTaken next (xs ++ r ∷ []) old new
taken_more {A} next at [] r old middle new is taken found left =
    let here : at ≡ next = omega (arith, is) in (
      subst (λ (n : ℕ). lookup (λ k. is_eq (nat_cmp n k)) old ≡ Some r) here (subst (λ (m : List (ℕ × Vec ℕ A)). lookup (λ k. is_eq (nat_cmp at k)) m ≡ Some r) taken found),
      left ∙ ap (λ (n : ℕ). remove_entry (λ k. is_eq (nat_cmp n k)) middle) here ∙ ap (λ (m : List (ℕ × Vec ℕ A)). remove_entry (λ k. is_eq (nat_cmp next k)) m) taken,
    )
taken_more {A} next at (x ∷ xs) r old middle new is taken found left =
    (taken.0, taken_more (next + 1) at xs r (remove_entry (λ k. is_eq (nat_cmp next k)) old) middle new (omega (arith, is)) taken.1 found left)

-- nothing was taken yet
pub given_none : {A : Type 0} (old : List (ℕ × Vec ℕ A)) (next : ℕ) (lines : List (List ℕ)) → HasGiven old old next next lines lines
given_none old next lines = record { given = []; joined = sym (append-nil lines); risen = omega arith; taken = refl }

-- one more was taken
pub given_more : {A : Type 0} (old middle new : List (ℕ × Vec ℕ A)) (next at later : ℕ) (before some after : List (List ℕ)) (r : Vec ℕ A) → HasGiven old middle next at before some
    → lookup (λ k. is_eq (nat_cmp at k)) middle ≡ Some r → new ≡ remove_entry (λ k. is_eq (nat_cmp at k)) middle → later ≡ at + 1 → after ≡ some ++ r.items ∷ []
    → HasGiven old new next later before after
given_more {A} old middle new next at later before some after r h found left up pushed = record {
  given = h.given ++ r ∷ [];
  joined = pushed ∙ ap (λ (l : List (List ℕ)). l ++ r.items ∷ []) h.joined ∙ append_assoc before (map (λ v. v.items) h.given) (r.items ∷ [])
      ∙ ap (λ (l : List (List ℕ)). before ++ l) (sym (map_more h.given r));
  risen = omega (arith, up, h.risen, length-append h.given (r ∷ []));
  taken = taken_more next at h.given r old middle new h.risen h.taken found left;
}

-- what is left of a line
pub left_made : {A : Type 0} (reading : Reading) (tries : ℕ) (opening : Opening) (before after : List Entry) (line text : List ℕ) (number : ℕ) (id : Option Data) (asked : Asked) (content : Content)
    (refused : Option Refusal) (names : List Data) (left : Option (ℕ × Vec ℕ A)) (empty bytes : List ℕ) → id ≡ id_in line → asked ≡ asked_now reading number line
    → IsRepliedOn reading.past.entries (view reading.past.versions) tries opening before after id asked (content_data content) refused → IsText (content_data content) text
    → IsLeft reading.past.entries line content text left → empty ≡ [] → AddsLine (with_ignored names (content_data content)) empty bytes
    → HasLeft reading tries opening before after line left bytes
left_made {A} reading tries opening before after line text number id asked content refused names left empty bytes id_is asked_is replied is there none added = record {
  content = content;
  text = text;
  reply = reply_made reading tries opening before after line text number id asked (content_data content) refused id_is asked_is replied is;
  limited = asked_is;
  same = refl;
  record_left = there;
  ignored = names;
  added = subst (λ (l : List ℕ). AddsLine (with_ignored names (content_data content)) l bytes) none added;
}
