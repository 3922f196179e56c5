-- From replies to entries and refusals.
use Rattle.std.proofs.Common.{◌≡◌, ℕ, zero, suc, ◌<◌, ◌≤◌, List, [], ◌∷◌, ◌++◌, get_or, take, length, map, Option, Some, None, Result, Ok, Err, slice_get, refl, ap, sym, subst, ◌∙◌, append_assoc, length-append, Global, arith}
use Rattle.std.proofs.lemmas.List.{append-nil, length-map, take_all}
use Rattle.std.specs.Arc.{arc_value}
use Rattle.std.specs.declared.sync.Arc.{Arc}
use Rattle.std.specs.List.{All}
use Rattle.std.specs.Option.{option_map}
use Rattle.std.proofs.lemmas.Option.{slice_get-map, slice_get_read}
use Rattle.std.specs.Prelude.{IsSome}
use mathlib.Core.List.{IsPrefix as Begins}
use Rattle.sno_statement.specs.Statement.{Statement}
use Rattle.sno_statement.specs.declared.outcomes.StatementFault.{StatementFault}
use Rattle.sno_statement.specs.declared.outcomes.StatementFault.TheVariants as statement
use Rattle.sno_book.specs.Proposals.{Receipt}
use Rattle.sno_book.specs.Entries.{Entry}
use Rattle.sno_book.specs.States.{VersionedText, find}
use Rattle.sno_book.specs.Views.{View, IsValid, IsPrefix}
use Rattle.sno_book.specs.Books.{Book, view_of}
use Rattle.sno_book.specs.Journals.{Legal, replay}
use Rattle.sno_book.specs.Openings.{Opening, place_in, start}
use Rattle.sno_book.proofs.Rising.{versions_only_rise}
use Rattle.sno_book.proofs.Standing.{is_named, is_nowhere, standing}
use Rattle.sno_published.specs.Tables.{text_after}
use Rattle.sno_published.proofs.Prefixes.{prefix_trans}
use Rattle.sno_desk.specs.Replies.{IsReply, HasRisen, IsRefusedOn}
use Rattle.sno_desk.specs.Turns.{AreReplies}
use Rattle.sno_desk.specs.declared.faults.SubmitFault.{SubmitFault}
use Rattle.sno_desk.specs.declared.faults.SubmitFault.TheVariants as submit
use Rattle.sno_listing.specs.History.{history_of}
use Rattle.sno_rewrite.specs.Owners.{AreInTurn, IsReplyWithin, IsListed, Lists, Owns, result_in}
use Rattle.sno_document.specs.Document.{Document}
use Rattle.sno_document.specs.Document.{room}
use Rattle.sno_rewrite.specs.Serial.{opening_in, run_from}
use Rattle.sno_rewrite.specs.Shared.{AreAllowed, IsOvertaken, IsRefusedThen, IsShared, IsAllowed, Settles, refusal_of, refusals}
use Rattle.sno_listing.specs.declared.refusals.Reason.{Reason}
use Rattle.sno_listing.specs.declared.refusals.Reason.TheVariants as reason
use Rattle.sno_listing.specs.declared.refusals.Refusal.{Refusal}
use Rattle.sno_rewrite.proofs.OwnerLemmas.{fill, in_order}

-- there are as many replies as statements
pub as_many : (A : Statement → Result Receipt SubmitFault → Type 0) (statements : List Statement) (replies : List (Result Receipt SubmitFault))
    → AreReplies A statements replies → length statements ≡ length replies
as_many A [] [] h = refl
as_many A [] (r ∷ replies) h = absurd h
as_many A (s ∷ statements) [] h = absurd h
as_many A (s ∷ statements) (r ∷ replies) h = ap suc (as_many A statements replies h.1)

-- the reply at a place is for the statement there
pub result_at : (A : Statement → Result Receipt SubmitFault → Type 0) (statements : List Statement) (replies : List (Result Receipt SubmitFault))
    → AreReplies A statements replies → (p : ℕ) (s : Statement) (r : Result Receipt SubmitFault) → slice_get statements p ≡ Some s → slice_get replies p ≡ Some r
    → A s r
result_at A [] [] h p s r e f = absurd (cc)
result_at A [] (y ∷ replies) h p s r e f = absurd h
result_at A (x ∷ statements) [] h p s r e f = absurd h
result_at A (x ∷ statements) (y ∷ replies) h zero s r e f =
    let d : x ≡ s = cc in let g : y ≡ r = cc in subst (λ t. A s t) g (subst (λ t. A t y) d h.0)
result_at A (x ∷ statements) (y ∷ replies) h (suc p) s r e f = result_at A statements replies h.1 p s r e f

-- the element at a place, seen by a view
pub seen_at : {X Y : Type 0} (view : X → Y) (xs : List X) (i : ℕ) (x : X) (y : Y) → i < length xs → x ≡ get_or xs i x → y ≡ view x
    → slice_get (map view xs) i ≡ Some y
seen_at view xs i x y inside there seen = slice_get-map view xs i ∙ ap (option_map view) (slice_get_read xs (length xs) i x refl inside there) ∙ ap Some (sym seen)

take_at : {X : Type 0} (xs : List X) (i : ℕ) (x : X) → slice_get xs i ≡ Some x → take (suc i) xs ≡ take i xs ++ x ∷ []
take_at [] i x h = absurd (cc)
take_at (y ∷ xs) zero x h = let e : y ≡ x = cc in ap (λ z. z ∷ []) e
take_at (y ∷ xs) (suc i) x h = ap (λ l. y ∷ l) (take_at xs i x h)

map_more : {X Y : Type 0} (f : X → Y) (xs : List X) (x : X) → map f (xs ++ x ∷ []) ≡ map f xs ++ f x ∷ []
map_more f [] x = refl
map_more f (y ∷ xs) x = ap (λ l. f y ∷ l) (map_more f xs x)

refusals_more : (statements : List Statement) (results : List (Option Reason)) (s : Statement) (a : Option Reason) → length results ≡ length statements
    → refusals (statements ++ s ∷ []) (results ++ a ∷ []) ≡ refusals statements results ++ refusal_of s a
refusals_more [] [] s a e = append-nil (refusal_of s a)
refusals_more [] (b ∷ results) s a e = absurd (omega arith)
refusals_more (x ∷ statements) [] s a e = absurd (omega arith)
refusals_more (x ∷ statements) (b ∷ results) s a e =
    ap (λ (l : List Refusal). refusal_of x b ++ l) (refusals_more statements results s a (omega arith))
    ∙ sym (append_assoc (refusal_of x b) (refusals statements results) (refusal_of s a))

-- before all replies nothing is listed
pub lists_none : Lists [] [] []
lists_none = record { results = []; as_many = refl; given = refl; listed = refl }

-- one reply more
pub lists_more : (statements : List Statement) (replies : List (Result Receipt SubmitFault)) (i : ℕ) (s : Statement) (r : Result Receipt SubmitFault) (old new : List Refusal)
    → Lists (take i statements) (take i replies) old → slice_get statements i ≡ Some s → slice_get replies i ≡ Some r
    → IsListed s r old new → Lists (take (suc i) statements) (take (suc i) replies) new
lists_more statements replies i s r old new before there replied more =
    let first = take_at statements i s there in
    let second = take_at replies i r replied in
    let given : map result_in (take (suc i) replies) ≡ map Some (before.results ++ more.result ∷ [])
    = ap (map result_in) second ∙ map_more result_in (take i replies) r ∙ (λ j. before.given j ++ more.given j ∷ []) ∙ sym (map_more Some before.results more.result) in
    let even = before.as_many in
    let grown = length-append before.results (more.result ∷ []) in
    let past = ap length first ∙ length-append (take i statements) (s ∷ []) in
    record {
      results = before.results ++ more.result ∷ [];
      as_many = omega (arith, even, grown, past);
      given = given;
      listed = more.listed ∙ ap (λ (l : List Refusal). l ++ refusal_of s more.result) before.listed
          ∙ sym (refusals_more (take i statements) before.results s more.result before.as_many)
          ∙ ap (λ (l : List Statement). refusals l (before.results ++ more.result ∷ [])) (sym first);
    }

-- after the last reply all refusals are listed
pub lists_all : (statements : List Statement) (replies : List (Result Receipt SubmitFault)) (i : ℕ) (refused : List Refusal) → length statements ≤ i → length replies ≤ i
    → Lists (take i statements) (take i replies) refused → Lists statements replies refused
lists_all statements replies i refused past even h =
    subst (λ l. Lists l replies refused) (take_all i statements past)
    (subst (λ l. Lists (take i statements) l refused) (take_all i replies even) h)

-- ---- each result is allowed

-- `find` returns the text at the place of the name after these entries
pub found_there : (opening : Opening) (entries : List Entry) (name : List ℕ) (place : ℕ) (held : VersionedText) → place_in opening name ≡ Some place → text_after opening entries place ≡ Some held
    → find name (replay (start opening) entries) ≡ Some held
found_there opening entries name place held named there =
    let stood = standing opening entries name place named in
    stood.found ∙ sym stood.there ∙ there

refused_then : (v : View) (s : Statement) (refused : StatementFault) (entries : List Entry) → Begins entries v.journal → IsRefusedOn v.opening entries s refused → IsRefusedThen v s refused
refused_then v s refused entries begins on = record {
  entries = entries;
  held = on.held;
  was = record { begins = begins; found = found_there v.opening entries s.text on.place on.held on.named on.there };
  performed = on.performed;
}

overtaken : (tries : ℕ) (v : View) (s : Statement) (before after : List Entry) (seen now : ℕ) → Begins after v.journal → HasRisen v.opening before after s tries seen now
    → IsOvertaken tries v s seen now
overtaken tries v s before after seen now begins h =
    let saw : VersionedText = record { name = h.saw.name; text = h.saw.text; version = seen } in
    let met : VersionedText = record { name = h.versioned.name; text = h.versioned.text; version = now } in
    let became = found_there v.opening after s.text h.place met h.named h.versioned.there in
    let left = standing v.opening v.journal s.text h.place h.named in
    let first = standing v.opening before s.text h.place h.named in
    let low = h.risen first.held.version (record { text = first.held.text; name = first.held.name; there = first.there }) in
    let prefix : IsPrefix (record { opening = v.opening; journal = after }) v = record { opening = refl; more = begins.0; journal = sym begins.1 } in
    record {
      earlier = h.between;
      saw = saw;
      was = record {
        begins = prefix_trans h.between after v.journal h.until begins;
        found = found_there v.opening h.between s.text h.place saw h.named h.saw.there;
      };
      at_first = refl;
      outcome = h.outcome;
      performed = h.performed;
      later = after;
      after = h.until;
      met = met;
      became = record { begins = begins; found = became };
      at_last = refl;
      higher = h.higher;
      lost = omega (arith, low);
      left = left.held;
      found = left.found;
      reached = (versions_only_rise (record { opening = v.opening; journal = after }) v prefix s.text met left.held became left.found).version;
    }

-- what a reply says of its statement is allowed
is_allowed : (shuts : ℕ → ℕ → Type 0) (tries : ℕ) (book : Book) (s : Statement) (r : Result Receipt SubmitFault) (a : Option Reason) → IsReply shuts tries book.opening s r
    → IsReplyWithin tries (view_of book) s r → result_in r ≡ Some a → IsAllowed tries (view_of book) s a
is_allowed shuts tries book s (Ok receipt) a h w e =
    let is : None ≡ a = cc in subst (λ (x : Option Reason). IsAllowed tries (view_of book) s x) is (is_named book s.text h.0, tt)
is_allowed shuts tries book s (Err submit.NoText) a h w e =
    let is : Some reason.NoText ≡ a = cc in subst (λ (x : Option Reason). IsAllowed tries (view_of book) s x) is (is_nowhere book s.text h.0, tt)
is_allowed shuts tries book s (Err submit.TextTooLong) a h w e =
    let is : Some reason.TextTooLong ≡ a = cc in
    subst (λ (x : Option Reason). IsAllowed tries (view_of book) s x) is
    (is_named book s.text h.0, refused_then (view_of book) s statement.TextTooLong w.after w.begins w.at)
is_allowed shuts tries book s (Err submit.TooManyTrials) a h w e =
    let is : Some reason.TooManyTrials ≡ a = cc in
    subst (λ (x : Option Reason). IsAllowed tries (view_of book) s x) is
    (is_named book s.text h.0, refused_then (view_of book) s statement.TooManyTrials w.after w.begins w.at)
is_allowed shuts tries book s (Err (submit.TriesSpent seen now)) a h w e =
    let is : Some (reason.TriesSpent seen now) ≡ a = cc in
    subst (λ (x : Option Reason). IsAllowed tries (view_of book) s x) is
    (is_named book s.text h.0, overtaken tries (view_of book) s w.before w.after seen now w.begins w.at)
is_allowed shuts tries book s (Err submit.GateShut) a h w e = absurd cc
is_allowed shuts tries book s (Err submit.Stopped) a h w e = absurd cc
is_allowed shuts tries book s (Err submit.Full) a h w e = absurd cc
is_allowed shuts tries book s (Err submit.Memory) a h w e = absurd cc

are_allowed : (shuts : ℕ → ℕ → Type 0) (tries : ℕ) (book : Book) (statements : List Statement) (replies : List (Result Receipt SubmitFault)) (results : List (Option Reason))
    → AreReplies (IsReply shuts tries book.opening) statements replies → AreReplies (IsReplyWithin tries (view_of book)) statements replies → map result_in replies ≡ map Some results
    → AreAllowed tries (view_of book) statements results
are_allowed shuts tries book [] [] [] h w e = tt
are_allowed shuts tries book [] [] (a ∷ results) h w e = absurd cc
are_allowed shuts tries book [] (r ∷ replies) results h w e = absurd h
are_allowed shuts tries book (s ∷ statements) [] results h w e = absurd h
are_allowed shuts tries book (s ∷ statements) (r ∷ replies) [] h w e = absurd cc
are_allowed shuts tries book (s ∷ statements) (r ∷ replies) (a ∷ results) h w e =
    let first : result_in r ≡ Some a = cc in
    let rest : map result_in replies ≡ map Some results = cc in
    (is_allowed shuts tries book s r a h.0 w.0 first, are_allowed shuts tries book statements replies results h.1 w.1 rest)

-- there are as many replies as statements, as the program has them
pub replied : (shuts : ℕ → ℕ → Type 0) (tries : ℕ) (opening : Opening) (statements : List (Arc Statement Global)) (replies : List (Result Receipt SubmitFault))
    → AreReplies (IsReply shuts tries opening) (map arc_value statements) replies → length replies ≡ length statements
replied shuts tries opening statements replies h = sym (as_many (IsReply shuts tries opening) (map arc_value statements) replies h) ∙ length-map statements arc_value

-- what is listed with a book whose entries are all owned
pub settles : (shuts : ℕ → ℕ → Type 0) (tries : ℕ) (book : Book) (statements : List Statement) (replies : List (Result Receipt SubmitFault))
    (owners : List (Option ℕ)) (refused : List Refusal) → AreReplies (IsReply shuts tries book.opening) statements replies
    → AreReplies (IsReplyWithin tries (view_of book)) statements replies
    → Owns (length book.journal) replies (length replies) owners → All (λ o. IsSome o) owners → Lists statements replies refused
    → (workers : ℕ) → AreInTurn workers replies → Settles workers tries book.opening statements (history_of (view_of book) refused)
settles shuts tries book statements replies owners refused allowed within owns all lists workers turns =
    let filled = fill owners all in
    record {
      results = lists.results;
      allowed = are_allowed shuts tries book statements replies lists.results allowed within lists.given;
      refused = lists.listed;
      order = filled.order;
      ordered = in_order shuts tries book.opening statements replies book.journal owners allowed within owns filled lists.results lists.given workers turns;
    }

-- what is settled with a valid book that began with the document's texts
pub shares : (tries : ℕ) (d : Document) (book : Book) (before : Opening) (refused : List Refusal) (replies : List (Result Receipt SubmitFault)) (seats workers : ℕ) → seats ≡ workers
    → AreInTurn seats replies → book.opening ≡ before → before.texts ≡ d.texts → before.room ≡ room → IsValid (view_of book)
    → ((w : ℕ) → AreInTurn w replies → Settles w tries book.opening d.statements (history_of (view_of book) refused))
    → (seats ≡ 1 → run_from book.opening d.statements ≡ Some (history_of (view_of book) refused)) → IsShared workers tries d (history_of (view_of book) refused)
shares tries d book before refused replies seats workers all turns opens texts rooms valid settled alone =
    let began : book.opening ≡ opening_in d = opens ∙ (λ i. record { texts = texts i; room = rooms i }) in
    let mine = settled workers (subst (λ (w : ℕ). AreInTurn w replies) all turns) in
    record {
      legal = subst (λ (o : Opening). Legal (start o) book.journal) began valid.legal;
      replayed = ap (λ (o : Opening). replay (start o) book.journal) began;
      settled = subst (λ (o : Opening). Settles workers tries o d.statements (history_of (view_of book) refused)) began mine;
      alone = λ one. ap (λ (o : Opening). run_from o d.statements) (sym began) ∙ alone (all ∙ one);
    }
