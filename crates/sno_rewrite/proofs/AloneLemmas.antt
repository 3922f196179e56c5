-- One worker does what the serial run does.
use Rattle.std.proofs.Common.{◌≡◌, ◌≤◌, ◌<◌, ℕ, ◌+◌, List, [], ◌∷◌, ◌++◌, length, length-append, get_or, map, slice_get, Ok, Err, Option, Some, None, refl, ap, sym, subst, ◌∙◌, append_assoc, arith}
use Rattle.std.proofs.lemmas.List.{append-nil}
use Rattle.std.proofs.lemmas.List.Elements.{All-get_or}
use Rattle.std.proofs.lemmas.List.Sums.{sum_by-cons}
use Rattle.std.specs.List.{All}
use Rattle.std.specs.Prelude.{sum_by}
use mathlib.Core.List.{IsPrefix as Begins}
use Rattle.sno_statement.specs.Statement.{Statement}
use Rattle.sno_statement.specs.declared.outcomes.StatementFault.{StatementFault}
use Rattle.sno_statement.specs.declared.outcomes.StatementFault.TheVariants as statement
use Rattle.sno_book.specs.Books.{Book, view_of}
use Rattle.sno_book.specs.Entries.{Entry}
use Rattle.sno_book.specs.Journals.{HasStep, Legal, replay, step}
use Rattle.sno_book.specs.Openings.{Opening, place_in, start}
use Rattle.sno_book.specs.Proposals.{Receipt}
use Rattle.sno_book.specs.States.{State, VersionedText}
use Rattle.sno_book.proofs.Standing.{is_nowhere}
use Rattle.sno_book.proofs.Steps.{replay_snoc}
use Rattle.sno_published.proofs.Prefixes.{prefix_length, prefix_shorter, prefix_trans, prefix_whole}
use Rattle.sno_desk.specs.Replies.{Reply, HasRisen, IsRefusedOn}
use Rattle.sno_desk.specs.Seen.{IsInView}
use Rattle.sno_desk.specs.Turns.{InTurn, IsSubmitted, Position, every, position}
use Rattle.sno_desk.specs.declared.faults.SubmitFault.TheVariants as submit
use Rattle.sno_listing.specs.History.{History, history_of}
use Rattle.sno_listing.specs.declared.refusals.Reason.{Reason}
use Rattle.sno_listing.specs.declared.refusals.Reason.TheVariants as reason
use Rattle.sno_listing.specs.declared.refusals.Refusal.{Refusal}
use Rattle.sno_rewrite.specs.Owners.{IsAlone, Lists, result_in}
use Rattle.sno_rewrite.specs.Serial.{accept, advance, reason_of, run, run_from}
use Rattle.sno_rewrite.specs.Shared.{refusal_of, refusals}
use Rattle.sno_rewrite.proofs.ReplyLemmas.{found_there}
use Rattle.sno_rewrite.proofs.SerialLemmas.{advance_done, advance_none, advance_refused, run_more}

-- the last entry of a legal journal has its step
legal_last : (state : State) (journal : List Entry) (e : Entry) → Legal state (journal ++ e ∷ []) → HasStep (replay state journal) e
legal_last state [] e h = h.0
legal_last state (d ∷ journal) e h = legal_last (step state d) journal e h.1

-- an entry, with another expression for its version
same_entry : (e : Entry) (version : ℕ) → version ≡ e.version → record { statement = e.statement; version = version; outcome = e.outcome } ≡ e
same_entry e version same = (λ i. record { statement = e.statement; version = same i; outcome = e.outcome })

module _ (tries : ℕ) (opening : Opening) (journal : List Entry) where
  abbrev Submitted : Position → Position → Statement → Reply → Type 0
  Submitted = IsSubmitted (λ _ _. ⊥) tries opening 1

  abbrev so_far : List Entry → List Refusal → History
  so_far seen refused = record { state = replay (start opening) seen; journal = seen; refused = refused }

  -- the worker has seen no more entries than it accepted
  seen_few : (before after : Position) (jobs : List Statement) (replies : List Reply) → InTurn Submitted before after jobs replies → Begins after.seen journal → length journal ≡ after.accepted
      → length before.seen ≤ before.accepted
  seen_few before after [] [] a begins counted =
      let few = prefix_length after.seen journal begins in
      let seen = ap (λ (p : Position). length p.seen) a in
      let accepted = ap (λ (p : Position). p.accepted) a in omega (arith, few, counted, seen, accepted)
  seen_few before after [] (r ∷ replies) a begins counted = absurd a
  seen_few before after (s ∷ jobs) [] a begins counted = absurd a
  seen_few before after (s ∷ jobs) (Ok receipt ∷ replies) a begins counted =
      let low : length before.seen ≤ receipt.index = a.1.at.0 in
      let alone : receipt.index ≡ before.accepted = a.1.follows.alone refl in omega (arith, low, alone)
  seen_few before after (s ∷ jobs) (Err e ∷ replies) a begins counted =
      let more = prefix_length before.seen a.0.seen a.1.begins in
      let rest = seen_few a.0 after jobs replies a.2 begins counted in
      let same : a.0.accepted ≡ before.accepted + 0 = a.1.counted in omega (arith, more, rest, same)

  -- and no fewer
  seen_many : (before mid : Position) (s : Statement) (r : Reply) → Submitted before mid s r → before.accepted ≤ length before.seen → mid.accepted ≤ length mid.seen
  seen_many before mid s (Ok receipt) a low =
      let told = a.at.1 in
      let many = told.many in
      let alone : receipt.index ≡ before.accepted = a.follows.alone refl in
      let grown = length-append told.front (receipt.entry ∷ []) in
      let inside = prefix_length (told.front ++ receipt.entry ∷ []) mid.seen told.begins in
      let counted : mid.accepted ≡ before.accepted + 1 = a.counted in omega (arith, many, alone, grown, inside, counted)
  seen_many before mid s (Err e) a low =
      let more = prefix_length before.seen mid.seen a.begins in
      let counted : mid.accepted ≡ before.accepted + 0 = a.counted in omega (arith, low, more, counted)

  -- an accepted statement is the entry of which the worker was told
  advances_told : (before mid : List Entry) (s : Statement) (receipt : Receipt) (refused : List Refusal) → receipt.entry.statement ≡ s → Begins before mid → (told : IsInView opening mid receipt)
      → length before ≡ receipt.index → length mid ≡ receipt.index + 1 → advance (so_far before refused) s ≡ Some (so_far mid refused)
  advances_told before mid s receipt refused says begins told at_first at_last =
      let front = told.front in
      let e = receipt.entry in
      let many : length front ≡ receipt.index = told.many in
      let grown = length-append front (e ∷ []) in
      let inside : Begins front mid = prefix_trans front (front ++ e ∷ []) mid (e ∷ [], refl) told.begins in
      let same : before ≡ front = prefix_whole before front (prefix_shorter before front mid begins inside (omega (arith, at_first, many))) (omega (arith, at_first, many)) in
      let whole : front ++ e ∷ [] ≡ mid = prefix_whole (front ++ e ∷ []) mid told.begins (omega (arith, grown, many, at_last)) in
      let stepped = legal_last (start opening) front e told.legal in
      let done = advance_done (so_far front refused) e.statement stepped.versioned e.outcome stepped.found stepped.performed in
      let entered : advance (so_far front refused) e.statement ≡ Some (accept (so_far front refused) e) = done ∙ ap (λ (x : Entry). Some (accept (so_far front refused) x)) (same_entry e stepped.versioned.version stepped.at_version) in
      let replayed : Some (accept (so_far front refused) e) ≡ Some (so_far (front ++ e ∷ []) refused)
      = (λ i. Some (record { state = sym (replay_snoc (start opening) front e) i; journal = front ++ e ∷ []; refused = refused })) in
      ap (λ (l : List Entry). advance (so_far l refused) s) same ∙ ap (λ (t : Statement). advance (so_far front refused) t) (sym says) ∙ entered ∙ replayed
      ∙ ap (λ (l : List Entry). Some (so_far l refused)) whole

  -- if performing a statement is refused, the serial run refuses it for the same reason
  advances_refused : (before mid : List Entry) (s : Statement) (fault : StatementFault) (why : Reason) (refused : List Refusal) → before ≡ mid → reason_of fault ≡ Some why → IsRefusedOn opening mid s fault
      → advance (so_far before refused) s ≡ Some (so_far mid (refused ++ record { number = s.number; reason = why } ∷ []))
  advances_refused before mid s fault why refused same is on =
      let found = found_there opening mid s.text on.place on.held on.named on.there in
      ap (λ (l : List Entry). advance (so_far l refused) s) same ∙ advance_refused (so_far mid refused) s on.held fault why found on.performed is

  advances_nowhere : (before mid : List Entry) (s : Statement) (refused : List Refusal) → before ≡ mid → place_in opening s.text ≡ None
      → advance (so_far before refused) s ≡ Some (so_far mid (refused ++ record { number = s.number; reason = reason.NoText } ∷ []))
  advances_nowhere before mid s refused same nowhere =
      ap (λ (l : List Entry). advance (so_far l refused) s) same ∙ advance_none (so_far mid refused) s (is_nowhere (record { opening = opening; journal = mid; spare = 0 }) s.text nowhere)

  -- a text can't change during a try of the only worker
  never_overtaken : (before mid : List Entry) (s : Statement) (seen now : ℕ) → length before ≡ length mid → HasRisen opening before mid s tries seen now → ⊥
  never_overtaken before mid s seen now level h =
      let up = prefix_length before h.between h.since in
      let same : h.between ≡ mid = prefix_whole h.between mid h.until (omega (arith, up, level)) in
      let there : slice_get (replay (start opening) mid) h.place ≡ Some (record { name = h.saw.name; text = h.saw.text; version = seen })
      = ap (λ (l : List Entry). slice_get (replay (start opening) l) h.place) (sym same) ∙ h.saw.there in
      let saw : VersionedText = record { name = h.saw.name; text = h.saw.text; version = seen } in
      let met : VersionedText = record { name = h.versioned.name; text = h.versioned.text; version = now } in
      let both : Some saw ≡ Some met = sym there ∙ h.versioned.there in
      let one : saw ≡ met = cc in
      let version : seen ≡ now = ap (λ (x : VersionedText). x.version) one in
      let higher : seen < now = h.higher in absurd (omega (arith, version, higher))

  advances : (before mid : Position) (s : Statement) (r : Reply) (b : Option Reason) (refused : List Refusal) → Submitted before mid s r → length before.seen ≡ before.accepted
      → length mid.seen ≡ mid.accepted → result_in r ≡ Some b → advance (so_far before.seen refused) s ≡ Some (so_far mid.seen (refused ++ refusal_of s b))
  advances before mid s (Ok receipt) b refused a at_first at_last given =
      let is : None ≡ b = cc in
      let alone : receipt.index ≡ before.accepted = a.follows.alone refl in
      let counted : mid.accepted ≡ before.accepted + 1 = a.counted in
      let told = advances_told before.seen mid.seen s receipt refused a.allowed.1 a.begins a.at.1 (omega (arith, at_first, alone)) (omega (arith, at_last, alone, counted)) in
      told ∙ ap (λ (l : List Refusal). Some (so_far mid.seen l)) (sym (append-nil refused)) ∙ ap (λ (o : Option Reason). Some (so_far mid.seen (refused ++ refusal_of s o))) is
  advances before mid s (Err submit.NoText) b refused a at_first at_last given =
      let is : Some reason.NoText ≡ b = cc in
      let counted : mid.accepted ≡ before.accepted + 0 = a.counted in
      let same = prefix_whole before.seen mid.seen a.begins (omega (arith, at_first, at_last, counted)) in
      advances_nowhere before.seen mid.seen s refused same a.allowed.0 ∙ ap (λ (o : Option Reason). Some (so_far mid.seen (refused ++ refusal_of s o))) is
  advances before mid s (Err submit.TextTooLong) b refused a at_first at_last given =
      let is : Some reason.TextTooLong ≡ b = cc in
      let counted : mid.accepted ≡ before.accepted + 0 = a.counted in
      let same = prefix_whole before.seen mid.seen a.begins (omega (arith, at_first, at_last, counted)) in
      advances_refused before.seen mid.seen s statement.TextTooLong reason.TextTooLong refused same refl a.at ∙ ap (λ (o : Option Reason). Some (so_far mid.seen (refused ++ refusal_of s o))) is
  advances before mid s (Err submit.TooManyTrials) b refused a at_first at_last given =
      let is : Some reason.TooManyTrials ≡ b = cc in
      let counted : mid.accepted ≡ before.accepted + 0 = a.counted in
      let same = prefix_whole before.seen mid.seen a.begins (omega (arith, at_first, at_last, counted)) in
      advances_refused before.seen mid.seen s statement.TooManyTrials reason.TooManyTrials refused same refl a.at ∙ ap (λ (o : Option Reason). Some (so_far mid.seen (refused ++ refusal_of s o))) is
  advances before mid s (Err (submit.TriesSpent seen now)) b refused a at_first at_last given =
      let counted : mid.accepted ≡ before.accepted + 0 = a.counted in
      absurd (never_overtaken before.seen mid.seen s seen now (omega (arith, at_first, at_last, counted)) a.at)
  advances before mid s (Err submit.GateShut) b refused a at_first at_last given = absurd cc
  advances before mid s (Err submit.Stopped) b refused a at_first at_last given = absurd cc
  advances before mid s (Err submit.Full) b refused a at_first at_last given = absurd cc
  advances before mid s (Err submit.Memory) b refused a at_first at_last given = absurd cc

  -- from what the worker had seen at a statement's turn to the whole journal
  runs : (before after : Position) (jobs : List Statement) (replies : List Reply) (results : List (Option Reason)) (refused : List Refusal) → InTurn Submitted before after jobs replies
      → Begins after.seen journal → length journal ≡ after.accepted → before.accepted ≤ length before.seen → map result_in replies ≡ map Some results
      → run (so_far before.seen refused) jobs ≡ Some (so_far journal (refused ++ refusals jobs results))
  runs before after [] [] [] refused a begins counted low given =
      let there : Begins before.seen journal = subst (λ (p : Position). Begins p.seen journal) (sym a) begins in
      let accepted = ap (λ (p : Position). p.accepted) a in
      let whole : before.seen ≡ journal = prefix_whole before.seen journal there (omega (arith, low, counted, accepted)) in
      ap (λ (l : List Entry). Some (so_far l refused)) whole ∙ ap (λ (l : List Refusal). Some (so_far journal l)) (sym (append-nil refused))
  runs before after [] [] (b ∷ results) refused a begins counted low given = absurd cc
  runs before after [] (r ∷ replies) results refused a begins counted low given = absurd a
  runs before after (s ∷ jobs) [] results refused a begins counted low given = absurd a
  runs before after (s ∷ jobs) (r ∷ replies) [] refused a begins counted low given = absurd cc
  runs before after (s ∷ jobs) (r ∷ replies) (b ∷ results) refused a begins counted low given =
      let first : result_in r ≡ Some b = cc in
      let rest : map result_in replies ≡ map Some results = cc in
      let few = seen_few before after (s ∷ jobs) (r ∷ replies) a begins counted in
      let few_then = seen_few a.0 after jobs replies a.2 begins counted in
      let low_then = seen_many before a.0 s r a.1 low in
      let advanced = advances before a.0 s r b refused a.1 (omega (arith, few, low)) (omega (arith, few_then, low_then)) first in
      run_more (so_far before.seen refused) (so_far a.0.seen (refused ++ refusal_of s b)) s jobs advanced
      ∙ runs a.0 after jobs replies results (refused ++ refusal_of s b) a.2 begins counted low_then rest
      ∙ ap (λ (l : List Refusal). Some (so_far journal l)) (append_assoc refused (refusal_of s b) (refusals jobs results))

-- what one worker did is the serial run of the statements, from the book's opening
pub alone_runs : (tries : ℕ) (book : Book) (statements : List Statement) (replies : List Reply) (refused : List Refusal) → IsAlone tries (view_of book) statements replies → Lists statements replies refused
    → run_from book.opening statements ≡ Some (history_of (view_of book) refused)
alone_runs tries book statements replies refused alone lists =
    runs tries book.opening book.journal (position 0 []) alone.after statements replies lists.results [] alone.in_turn alone.begins alone.counted (omega arith) lists.given
    ∙ ap (λ (l : List Refusal). Some (history_of (view_of book) l)) (sym lists.listed)

-- the places of the only worker are all places
every_one : {X : Type 0} (xs : List X) → every 1 0 xs ≡ xs
every_one [] = refl
every_one (x ∷ xs) = ap (λ l. x ∷ l) (every_one xs)

-- if there is one seat, which began with nothing, it is alone
pub alone_of : {X : Type 0} (share : X → ℕ) (view : X → List Entry) (tries : ℕ) (opening its : Opening) (parts : ℕ) (journal : List Entry) (jobs : List Statement) (replies : List Reply) (old new : List X)
    → its ≡ opening → length old ≡ 1 → parts ≡ 1 → length new ≡ 1 → All (λ x. (share x ≡ 0) × (view x ≡ [])) old
    → ((k : ℕ) (d : X) → k < length old → InTurn (IsSubmitted (λ _ _. ⊥) tries opening parts) (position (share (get_or old k d)) (view (get_or old k d))) (position (share (get_or new k d)) (view (get_or new k d)))
    (every (length old) k jobs) (every (length old) k replies))
    → All (λ x. Begins (view x) journal) new → length journal ≡ sum_by share new → IsAlone tries (record { opening = its; journal = journal }) jobs replies
alone_of share view tries opening its parts journal jobs replies [] new opens one single even none turns seen counted = absurd (omega (arith, one))
alone_of share view tries opening its parts journal jobs replies (x ∷ w ∷ old) new opens one single even none turns seen counted = absurd (omega (arith, one))
alone_of share view tries opening its parts journal jobs replies (x ∷ []) [] opens one single even none turns seen counted = absurd (omega (arith, even))
alone_of share view tries opening its parts journal jobs replies (x ∷ []) (y ∷ z ∷ new) opens one single even none turns seen counted = absurd (omega (arith, even))
alone_of share view tries opening its parts journal jobs replies (x ∷ []) (y ∷ []) opens one single even none turns seen counted =
    let fresh = All-get_or (λ x. (share x ≡ 0) × (view x ≡ [])) (x ∷ []) 0 x (omega arith) none in
    let after = position (share y) (view y) in
    let mine = subst (λ (n : ℕ). InTurn (IsSubmitted (λ _ _. ⊥) tries opening n) (position (share x) (view x)) after (every 1 0 jobs) (every 1 0 replies)) single (turns 0 x (omega arith)) in
    let of_jobs = subst (λ (l : List Statement). InTurn (IsSubmitted (λ _ _. ⊥) tries opening 1) (position (share x) (view x)) after l (every 1 0 replies)) (every_one jobs) mine in
    let of_all = subst (λ (l : List Reply). InTurn (IsSubmitted (λ _ _. ⊥) tries opening 1) (position (share x) (view x)) after jobs l) (every_one replies) of_jobs in
    let from_none = subst (λ (p : Position). InTurn (IsSubmitted (λ _ _. ⊥) tries opening 1) p after jobs replies) (λ i. position (fresh.0 i) (fresh.1 i)) of_all in
    let total = sum_by-cons share y [] in
    let alone : IsAlone tries (record { opening = opening; journal = journal }) jobs replies
    = record {
      after = after;
      in_turn = from_none;
      begins = All-get_or (λ x. Begins (view x) journal) (y ∷ []) 0 y (omega arith) seen;
      counted = counted ∙ total ∙ omega arith;
    } in
    subst (λ (o : Opening). IsAlone tries (record { opening = o; journal = journal }) jobs replies) (sym opens) alone
