-- Lines that come to a store, batch by batch.
use Rattle.std.proofs.Common.{◌≡◌, ◌+◌, ◌++◌, ℕ, List, [], ◌∷◌, Option, Some, None, length, refl, sym, ap, ◌∙◌, subst, arith, append_assoc, append-nil, length-append, take}
use Rattle.std.proofs.lemmas.List.Elements.{All-head}
use Rattle.std.proofs.Math.Seq.{take-append_seam}
use Rattle.std.proofs.lemmas.List.Sums.{sum_by-cons}
use Rattle.std.specs.List.{All}
use Rattle.std.specs.Prelude.{IfOk, IsTrue, Result, Ok, Err, sum_by}
use Rattle.serde_json.specs.Read.{read}
use mathlib.Core.List.{IsPrefix as Begins}
use Rattle.sqlite_disk.specs.declared.Disk.{Ghosts}
use Rattle.sno_book.specs.Entries.{Entry}
use Rattle.sno_book.specs.Openings.{Opening}
use Rattle.sno_desk.specs.Turns.{Position, position}
use Rattle.sno_published.proofs.Prefixes.{prefix_self, prefix_trans}
use Rattle.sno_sealed.specs.declared.sealed.Sealed.{Sealed}
use Rattle.sno_sealed.specs.declared.chain.Chain.{Chain}
use Rattle.sno_sealed.specs.Chains.{AreSealed, IsChain}
use Rattle.sno_sealed.specs.Sealed.{store_of, chain_of, lines_of, is_clean, Holds}
use Rattle.sno_store.specs.declared.lines.LinesIter.{LinesIter}
use Rattle.sno_store.specs.Lines.{recovered}
use Rattle.sno_store.specs.Shown.{GivesLine, lines_left}
use Rattle.sno_store.specs.Store as base
use Rattle.sno_durable.specs.Origins.{IsMadeOf, IsMeant}
use Rattle.sno_durable.specs.Performed.{AreRecords, HasRecords}
use Rattle.sno_durable.specs.Stored.{HasBegun, HasGoneOn, HasPut, HasStored, IsKept, IsOnly, later_lines}
use Rattle.sno_durable.specs.Records.{origin_data}
use Rattle.sno_durable.specs.declared.earlier.Reading.{Reading}
use Rattle.sno_durable.specs.declared.records.Origin.{Origin}
use Rattle.sno_durable.proofs.Originating.{first_said, limit_of}
use Rattle.sno_durable.proofs.Recording.{records_end, records_more}

module _ {D : Type 0} {g : Ghosts D} where
  -- nothing has come
  pub put_none : (s : Sealed D g) → HasPut s s []
  put_none s = λ clean. (clean, prefix_self (lines_of s), λ olds held. subst (λ (l : List (List ℕ)). Holds s l) (sym (append-nil olds)) held)

  -- some lines have come, and then others
  pub put_then : (a b c : Sealed D g) (xs ys : List (List ℕ)) → HasPut a b xs → HasPut b c ys → HasPut a c (xs ++ ys)
  put_then a b c xs ys p q = λ clean.
      let later = q clean in
      let earlier = p later.0 in (
        earlier.0,
        prefix_trans (lines_of a) (lines_of b) (lines_of c) earlier.1 later.1,
        λ olds held. subst (λ (l : List (List ℕ)). Holds c l) (append_assoc olds xs ys) (later.2 (olds ++ xs) (earlier.2 olds held)),
      )

  -- no entry was accepted
  pub stored_none : (reading : Reading) (opening : Opening) (here : Position) (s : Sealed D g) → HasStored reading opening here here s s
  stored_none reading opening here s = record { news = []; counted = omega arith; records = prefix_self here.seen; put = put_none s }

  -- the records that waited were put into the store
  pub stored_put : (reading : Reading) (opening : Opening) (before after : Position) (old new : Sealed D g) (waited waits : List (List ℕ)) → waited ≡ []
      → HasRecords reading opening before after waited waits → HasPut old new waits → HasStored reading opening before after old new
  stored_put reading opening before after old new waited waits none r put = record {
    news = r.news;
    counted = r.counted;
    records = r.records;
    put = subst (λ (l : List (List ℕ)). HasPut old new l) (r.joined ∙ ap (λ (l : List (List ℕ)). l ++ r.news) none) put;
  }

  -- some entries were accepted, and then others
  pub stored_then : (reading : Reading) (opening : Opening) (before between after : Position) (a b c : Sealed D g) → HasStored reading opening before between a b
      → HasStored reading opening between after b c → HasStored reading opening before after a c
  stored_then reading opening before between after a b c p q = record {
    news = p.news ++ q.news;
    counted = omega (arith, p.counted, q.counted, length-append p.news q.news);
    records = records_more reading opening before.seen between.seen after.seen p.news q.news p.records q.records;
    put = put_then a b c p.news q.news p.put q.put;
  }

-- the lines that are left after the first one was given
pub rest_given : (old : LinesIter) (line : Option (List ℕ)) (new : LinesIter) (all : List (List ℕ)) → lines_left old ≡ all → GivesLine old line new → lines_left new ≡ later_lines all
rest_given old None new all is g = g.1 ∙ ap later_lines (sym g.0 ∙ is)
rest_given old (Some line) new all is g = ap later_lines (sym g ∙ is)

module _ {D : Type 0} {g : Ghosts D} where
  -- the same, for lines that go on meaning what they meant
  pub stored_on : (reading now : Reading) (opening : Opening) (before between after : Position) (a b c : Sealed D g) → now ≡ reading → HasStored reading opening before between a b
      → HasStored now opening between after b c → HasStored reading opening before after a c
  stored_on reading now opening before between after a b c same p q =
      stored_then reading opening before between after a b c p (subst (λ (r : Reading). HasStored r opening between after b c) same q)

sealed_length : (before count : ℕ) (lines payloads : List (List ℕ)) (after : ℕ) → AreSealed before count lines payloads after → length lines ≡ length payloads
sealed_length before count [] [] after h = refl
sealed_length before count [] (p ∷ ps) after h = absurd h
sealed_length before count (l ∷ ls) [] after h = absurd h
sealed_length before count (l ∷ ls) (p ∷ ps) after h = omega (arith, sealed_length h.0 (count + 1) ls ps after h.2)

-- there are as many payloads as lines
pub chain_length : (lines payloads : List (List ℕ)) (chain : Chain) → IsChain lines payloads chain → length lines ≡ length payloads
chain_length lines payloads chain c =
    omega (arith, ap length c.lines_are, ap length c.payloads_are, length-append c.plains c.sealed, length-append c.plains c.opened, sealed_length _ _ c.sealed c.opened _ c.sums)

module _ {D : Type 0} {g : Ghosts D} where
  -- after a look at what comes after its lines a store has the same lines
  pub put_looked : (old new : Sealed D g) → base.file_of (store_of new) ≡ base.file_of (store_of old) → chain_of new ≡ chain_of old → (IsTrue (is_clean new) → IsTrue (is_clean old)) → HasPut old new []
  put_looked old new file chain clean = λ now.
      let lines : lines_of new ≡ lines_of old = ap recovered file in (
        clean now,
        subst (λ (l : List (List ℕ)). Begins (lines_of old) l) (sym lines) (prefix_self (lines_of old)),
        λ olds held. subst (λ (l : List (List ℕ)). Holds new l) (sym (append-nil olds))
            (subst (λ (l : List (List ℕ)). IsChain l olds (chain_of new)) (sym lines) (subst (λ (c : Chain). IsChain (lines_of old) olds c) (sym chain) held)),
      )

  -- a store that has lines has its first one
  pub begun_already : (origin : Origin) (lines : List (List ℕ)) (s : Sealed D g) → ¬ (lines ≡ []) → HasBegun origin lines s s
  begun_already origin [] s some = absurd (some refl)
  begun_already origin (first ∷ later) s some = record { first = first; news = []; is = refl; joined = append-nil (first ∷ later); put = put_none s }

  -- a new store gets its first line
  pub begun_new : (origin : Origin) (lines : List (List ℕ)) (line : List ℕ) (news : List (List ℕ)) (old new : Sealed D g) → lines ≡ [] → news ≡ line ∷ []
      → read line ≡ Some (origin_data origin.document.items origin.trials) → HasPut old new news → HasBegun origin lines old new
  begun_new origin lines line news old new none one is put =
      subst (λ (l : List (List ℕ)). HasBegun origin l old new) (sym none) (record { first = line; news = news; is = is; joined = one; put = put })

  -- records were performed again, and then lines
  pub gone_on : (reading : Reading) (opening : Opening) (first : ℕ) (begun : List Entry) (between after : Position) (earlier replayed : List (List ℕ)) (old new : Sealed D g)
      → replayed ≡ earlier → AreRecords reading opening begun replayed between.seen → length replayed + first ≡ between.accepted
      → HasStored reading opening between after old new → HasGoneOn reading opening first earlier after old new
  gone_on reading opening first begun between after earlier replayed old new same again counted stored =
      let performed = subst (λ (l : List (List ℕ)). AreRecords reading opening begun l between.seen) same again in
      record {
        news = stored.news;
        counted = omega (arith, stored.counted, counted, ap length same, length-append earlier stored.news);
        records = records_more reading opening [] between.seen after.seen earlier stored.news
            (records_more reading opening [] begun between.seen [] earlier (begun, refl) performed) stored.records;
        put = stored.put;
      }

  -- the same, by the steps of a seat
  pub gone_so : {S : Type 0} (begun replayed reading : Reading) (opening : Opening) (first : ℕ) (seen : List Entry) (between after : Position) (all : List (List ℕ)) (iter : LinesIter)
      (line : Option (List ℕ)) (rest : LinesIter) (shelf shelf_then shelf_later : S) (store_in : S → Sealed D g) (new : Sealed D g)
      → shelf_then ≡ shelf → shelf_later ≡ shelf_then → begun ≡ reading → replayed ≡ begun → lines_left iter ≡ all → GivesLine iter line rest
      → AreRecords begun opening seen (lines_left rest) between.seen → length (lines_left rest) + first ≡ between.accepted
      → HasStored replayed opening between after (store_in shelf_later) new → HasGoneOn reading opening first (later_lines all) after (store_in shelf) new
  gone_so {S} begun replayed reading opening first seen between after all iter line rest shelf shelf_then shelf_later store_in new one other same again is gives records counted stored =
      gone_on reading opening first seen between after (later_lines all) (lines_left rest) (store_in shelf) new (rest_given iter line rest all is gives)
      (subst (λ (r : Reading). AreRecords r opening seen (lines_left rest) between.seen) same records) counted
      (subst (λ (r : Reading). HasStored r opening between after (store_in shelf) new) (again ∙ same)
      (subst (λ (s : S). HasStored replayed opening between after (store_in s) new) (other ∙ one) stored))

  -- a journal begins with what the seat has seen
  pub gone_to : (reading : Reading) (opening : Opening) (first : ℕ) (earlier : List (List ℕ)) (after : Position) (journal : List Entry) (old new : Sealed D g)
      → length journal ≡ after.accepted → Begins after.seen journal → HasGoneOn reading opening first earlier after old new
      → HasGoneOn reading opening first earlier (position (length journal) journal) old new
  gone_to reading opening first earlier after journal old new counted begins gone = record {
    news = gone.news;
    counted = counted ∙ gone.counted;
    records = records_end reading opening [] after.seen journal (earlier ++ gone.news) gone.records begins;
    put = gone.put;
  }

  -- what a service leaves, from its start to its end
  pub all_kept : (origin : Origin) (reading : Reading) (opening : Opening) (journal : List Entry) (first : ℕ) (lines : List (List ℕ)) (old middle new : Sealed D g)
      → IsMadeOf origin lines → IsMeant origin reading opening
      → HasBegun origin lines old middle → HasGoneOn reading opening first (later_lines lines) (position (length journal) journal) middle new
      → IsTrue (is_clean new) → Holds old lines → IsKept origin opening journal first lines old new
  all_kept origin reading opening journal first lines old middle new made meant begun gone clean held =
      let later = gone.put clean in
      let earlier = begun.put later.0 in
      let holds = later.2 (lines ++ begun.news) (earlier.2 lines held) in
      let all : Holds new (begun.first ∷ (later_lines lines ++ gone.news)) = subst (λ (l : List (List ℕ)). Holds new (l ++ gone.news)) begun.joined holds in
      record {
        reading = reading;
        line = begun.first;
        news = gone.news;
        begins = begun.is;
        said = first_said origin lines begun.first (limit_of origin reading opening meant) made begun.is;
        meant = meant;
        same = prefix_trans (lines_of old) (lines_of middle) (lines_of new) earlier.1 later.1;
        holds = all;
        counted = omega (arith, gone.counted, chain_length (lines_of new) (begun.first ∷ (later_lines lines ++ gone.news)) (chain_of new) all);
        records = gone.records;
      }

  -- the one seat of a desk has accepted the whole journal, and has seen no more
  pub gone_closed : {S : Type 0} (accepted : S → ℕ) (seen : S → List Entry) (reading : Reading) (opening other : Opening) (first : ℕ) (earlier : List (List ℕ)) (seats : List S) (journal : List Entry)
      (old new : Sealed D g) → other ≡ opening → IsOnly (λ s. HasGoneOn reading opening first earlier (position (accepted s) (seen s)) old new) seats
      → length journal ≡ sum_by accepted seats → All (λ s. Begins (seen s) journal) seats → HasGoneOn reading other first earlier (position (length journal) journal) old new
  gone_closed {S} accepted seen reading opening other first earlier [] journal old new named only counted begins = absurd only
  gone_closed {S} accepted seen reading opening other first earlier (s ∷ later) journal old new named only counted begins =
      let alone = counted ∙ sum_by-cons accepted s later ∙ ap (λ (l : List S). accepted s + sum_by accepted l) only.0 in
      let all : length journal ≡ accepted s = omega (arith, alone) in
      subst (λ (o : Opening). HasGoneOn reading o first earlier (position (length journal) journal) old new) (sym named)
      (gone_to reading opening first earlier (position (accepted s) (seen s)) journal old new all (All-head (λ s. Begins (seen s) journal) s later begins) only.1)

-- what follows from a result follows if there is one
pub ok_map : {A E : Type 0} (r : Result A E) (P Q : A → Type 0) → ((x : A) → P x → Q x) → IfOk r P → IfOk r Q
ok_map (Ok x) P Q f h = f x h
ok_map (Err e) P Q f h = h

-- a vector holds what was put into its slice
pub restored : {X : Type 0} (n : ℕ) (new more : List X) → n ≡ length new → take n (new ++ more) ≡ new
restored n new more e = ap (λ k. take k (new ++ more)) e ∙ take-append_seam new more

module _ {D : Type 0} {g : Ghosts D} where
  -- what a service leaves, as it is given back
  pub all_left : {E F : Type 0} (first_of : E → ℕ) (r now : Result E F) (origin origin_now : Origin) (reading : Reading) (opening opening_now : Opening) (journal journal_now : List Entry)
      (lines lines_then : List (List ℕ)) (old middle new new_now : Sealed D g) → now ≡ r → origin_now ≡ origin → opening_now ≡ opening → journal_now ≡ journal → new_now ≡ new → lines_then ≡ lines
      → IsMadeOf origin lines → IsMeant origin reading opening → HasBegun origin lines old middle
      → IfOk r (λ e. HasGoneOn reading opening (first_of e) (later_lines lines_then) (position (length journal) journal) middle new)
      → IfOk now (λ e. IsTrue (is_clean new_now) → Holds old lines → IsKept origin_now opening_now journal_now (first_of e) lines old new_now)
  all_left {E} {F} first_of r now origin origin_now reading opening opening_now journal journal_now lines lines_then old middle new new_now is_r is_origin is_opening is_journal is_new is_lines made meant begun gone =
      subst (λ (x : Result E F). IfOk x (λ e. IsTrue (is_clean new_now) → Holds old lines → IsKept origin_now opening_now journal_now (first_of e) lines old new_now)) (sym is_r)
      (subst (λ (n : Sealed D g). IfOk r (λ e. IsTrue (is_clean n) → Holds old lines → IsKept origin_now opening_now journal_now (first_of e) lines old n)) (sym is_new)
      (subst (λ (o : Origin). IfOk r (λ e. IsTrue (is_clean new) → Holds old lines → IsKept o opening_now journal_now (first_of e) lines old new)) (sym is_origin)
      (subst (λ (o : Opening). IfOk r (λ e. IsTrue (is_clean new) → Holds old lines → IsKept origin o journal_now (first_of e) lines old new)) (sym is_opening)
      (subst (λ (j : List Entry). IfOk r (λ e. IsTrue (is_clean new) → Holds old lines → IsKept origin opening j (first_of e) lines old new)) (sym is_journal)
      (ok_map r (λ e. HasGoneOn reading opening (first_of e) (later_lines lines_then) (position (length journal) journal) middle new)
      (λ e. IsTrue (is_clean new) → Holds old lines → IsKept origin opening journal (first_of e) lines old new)
      (λ e went. λ clean held. all_kept origin reading opening journal (first_of e) lines old middle new made meant begun
      (subst (λ (l : List (List ℕ)). HasGoneOn reading opening (first_of e) (later_lines l) (position (length journal) journal) middle new) is_lines went) clean held)
      gone)))))

module _ {D : Type 0} {g : Ghosts D} where
  -- a store that was looked at before it got its first line
  pub begun_looked : (origin : Origin) (lines : List (List ℕ)) (old looked new : Sealed D g) → HasPut old looked [] → HasBegun origin lines looked new → HasBegun origin lines old new
  begun_looked origin lines old looked new put begun = record {
    first = begun.first;
    news = begun.news;
    is = begun.is;
    joined = begun.joined;
    put = put_then old looked new [] begun.news put begun.put;
  }
