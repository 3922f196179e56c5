-- Versions only rise, and each time with an entry.
use Rattle.std.proofs.Common.{◌≡◌, ◌≤◌, ℕ, zero, suc, ◌+◌, ◌⊎◌, inl, inr, Bool, true, false, cond, List, [], ◌∷◌, ◌++◌, length, Option, Some, None, slice_get, refl, ap, sym, ◌∙◌, arith}
use Rattle.sno_pattern.specs.Identifiers.{same}
use Rattle.sno_book.specs.States.{VersionedText, State, find, raise, renew, renew_by}
use Rattle.sno_book.specs.Entries.{Entry, after_of}
use Rattle.sno_book.specs.Journals.{step, replay}
use Rattle.sno_book.specs.Openings.{Opening, start}
use Rattle.sno_book.specs.Views.{View, IsPrefix, state_of}
use Rattle.sno_book.specs.Laws.{OnlyRises, VersionsOnlyRise, VersionsOnlyRiseInPlace, RelatedAgree, VersionsCountEntries}
use Rattle.sno_book.proofs.Steps.{VersionsBelow, below_replayed, below_started}

-- what is found after a step: the text that was found before it, or one whose version is one higher
record Goes (found : Option VersionedText) (versioned : VersionedText) : Type 0 where
  next : VersionedText
  is : found ≡ Some next
  rises : (next ≡ versioned) ⊎ (next.version ≡ versioned.version + 1)

stays : (found : Option VersionedText) (versioned : VersionedText) → found ≡ Some versioned → Goes found versioned
stays found versioned h = record { next = versioned; is = h; rises = inl refl }

renew_case : (b a : Bool) (name text : List ℕ) (here versioned : VersionedText) (state rest : State) → same name here.name ≡ a → cond a (Some here) (find name state) ≡ Some versioned
    → (find name state ≡ Some versioned → Goes (find name rest) versioned) → Goes (find name (cond b (raise here text ∷ state) (here ∷ rest))) versioned
renew_case true true name text here versioned state rest is h later =
    let same : here ≡ versioned = cc in record { next = raise here text; is = rw is; rises = inr (ap (λ (x : VersionedText). x.version + 1) same) }
renew_case true false name text here versioned state rest is h later = stays _ versioned (rw is h)
renew_case false true name text here versioned state rest is h later = stays _ versioned (rw is h)
renew_case false false name text here versioned state rest is h later = let r = later h in record { next = r.next; is = rw is r.is; rises = r.rises }

renewed : (name n text : List ℕ) (state : State) (versioned : VersionedText) → find name state ≡ Some versioned → Goes (find name (renew n text state)) versioned
renewed name n text [] versioned h = cc
renewed name n text (here ∷ state) versioned h = renew_case (same n here.name) (same name here.name) name text here versioned state (renew n text state) refl h (renewed name n text state versioned)

renewed_by : (name n : List ℕ) (text : Option (List ℕ)) (state : State) (versioned : VersionedText) → find name state ≡ Some versioned → Goes (find name (renew_by n text state)) versioned
renewed_by name n None state versioned h = stays _ versioned h
renewed_by name n (Some text) state versioned h = renewed name n text state versioned h

onward : (before next after : VersionedText) → (next ≡ before) ⊎ (next.version ≡ before.version + 1) → OnlyRises next after → OnlyRises before after
onward before next after (inl same) r = rw (← same) r
onward before next after (inr higher) r = record { version = omega (arith, higher, r.version); text = λ equal. absurd (omega (arith, higher, r.version, equal)) }

rises : (name : List ℕ) (state : State) (journal : List Entry) (before after : VersionedText) → find name state ≡ Some before → find name (replay state journal) ≡ Some after → OnlyRises before after
rises name state [] before after h g =
    let same : before ≡ after = cc in rw same (record { version = omega arith; text = λ _. refl })
rises name state (e ∷ journal) before after h g =
    let s = renewed_by name e.statement.text (after_of e.outcome) state before h in onward before s.next after s.rises (rises name (step state e) journal s.next after s.is g)

replay_append : (state : State) (journal more : List Entry) → replay state (journal ++ more) ≡ replay (replay state journal) more
replay_append state [] more = refl
replay_append state (e ∷ journal) more = replay_append (step state e) journal more

-- the texts after the later view are those after the earlier one and the entries that follow
later_state : (earlier later : View) (prefix : IsPrefix earlier later) → state_of later ≡ replay (state_of earlier) prefix.more
later_state earlier later prefix =
    ap (λ (o : Opening). replay (start o) later.journal) prefix.opening ∙ ap (λ (j : List Entry). replay (start earlier.opening) j) prefix.journal
    ∙ replay_append (start earlier.opening) earlier.journal prefix.more

pub versions_only_rise : VersionsOnlyRise
versions_only_rise earlier later prefix name before after h g =
    rises name (state_of earlier) prefix.more before after h (ap (λ (s : State). find name s) (sym (later_state earlier later prefix)) ∙ g)

-- ---- a text by its place

-- the text at a place after a step: the one that was there before it, or one of that name whose version is one higher
renewed_there : (name text : List ℕ) (k : ℕ) (state : State) (versioned : VersionedText) → slice_get state k ≡ Some versioned → Goes (slice_get (renew name text state) k) versioned
renewed_there name text k [] versioned there = cc
renewed_there name text zero (here ∷ state) versioned there = first (same name here.name)
  where
    first : (b : Bool) → Goes (slice_get (cond b (raise here text ∷ state) (here ∷ renew name text state)) 0) versioned
    first true = let same : here ≡ versioned = cc in record { next = raise here text; is = refl; rises = inr (ap (λ (x : VersionedText). x.version + 1) same) }
    first false = stays _ versioned there
renewed_there name text (suc k) (here ∷ state) versioned there = later (same name here.name) (renewed_there name text k state versioned there)
  where
    later : (b : Bool) → Goes (slice_get (renew name text state) k) versioned → Goes (slice_get (cond b (raise here text ∷ state) (here ∷ renew name text state)) (suc k)) versioned
    later true r = stays _ versioned there
    later false r = r

renewed_there_by : (name : List ℕ) (text : Option (List ℕ)) (k : ℕ) (state : State) (versioned : VersionedText) → slice_get state k ≡ Some versioned → Goes (slice_get (renew_by name text state) k) versioned
renewed_there_by name None k state versioned there = stays _ versioned there
renewed_there_by name (Some text) k state versioned there = renewed_there name text k state versioned there

rises_there : (k : ℕ) (state : State) (journal : List Entry) (before after : VersionedText) → slice_get state k ≡ Some before → slice_get (replay state journal) k ≡ Some after → OnlyRises before after
rises_there k state [] before after h g =
    let same : before ≡ after = cc in rw same (record { version = omega arith; text = λ _. refl })
rises_there k state (e ∷ journal) before after h g =
    let s = renewed_there_by e.statement.text (after_of e.outcome) k state before h in onward before s.next after s.rises (rises_there k (step state e) journal s.next after s.is g)

pub versions_only_rise_in_place : VersionsOnlyRiseInPlace
versions_only_rise_in_place earlier later prefix place before after h g =
    rises_there place (state_of earlier) prefix.more before after h (ap (λ (s : State). slice_get s place) (sym (later_state earlier later prefix)) ∙ g)

pub related_agree : RelatedAgree
related_agree one other (inl prefix) place text its there its_there same = (versions_only_rise_in_place one other prefix place text its there its_there).text same
related_agree one other (inr prefix) place text its there its_there same = sym ((versions_only_rise_in_place other one prefix place its text its_there there).text (sym same))

below_at : (n k : ℕ) (state : State) (versioned : VersionedText) → slice_get state k ≡ Some versioned → VersionsBelow n state → versioned.version ≤ n
below_at n k [] versioned there h = cc
below_at n zero (x ∷ state) versioned there h =
    let is : x ≡ versioned = cc in
    let same = ap (λ (y : VersionedText). y.version) is in omega (arith, h.0, same)
below_at n (suc k) (x ∷ state) versioned there h = below_at n k state versioned there h.1

pub versions_count_entries : VersionsCountEntries
versions_count_entries v place versioned there =
    let below = below_replayed 0 (start v.opening) v.journal (below_started v.opening.texts v.opening.room) in
    let small = below_at (0 + length v.journal) place (state_of v) versioned there below in omega (arith, small)
