-- To which statement each entry of a journal belongs.
use Rattle.std.proofs.Common.{◌≡◌, ◌≢◌, ℕ, true, false, zero, suc, ◌+◌, ◌*◌, ◌<◌, ◌⊎◌, inl, inr, List, [], ◌∷◌, ◌++◌, length, get_or, set, map, replicate, Option, Some, None, Result, Ok, Err, slice_get, refl, ap, sym, subst, ◌∙◌, arith}
use Rattle.std.specs.Option.{option_map}
use Rattle.std.specs.List.{All}
use Rattle.std.specs.Prelude.{IsSome}
use Rattle.std.proofs.Math.ListN.{length-set, length-replicate, length-map}
use Rattle.std.proofs.lemmas.List.{get_or-replicate}
use Rattle.std.proofs.lemmas.List.Elements.{All-head, All-tail}
use Rattle.std.proofs.lemmas.Bool.{cases_eq}
use Rattle.std.proofs.lemmas.Option.{slice_get-get_or, slice_get_within, slice_get-map}
use Rattle.sno_statement.specs.Statement.{Statement}
use Rattle.sno_book.specs.Entries.{Entry}
use Rattle.sno_book.specs.Openings.{Opening}
use Rattle.sno_book.specs.Proposals.{Receipt}
use Rattle.sno_book.specs.Views.{View}
use Rattle.sno_published.proofs.Prefixes.{prefix_trans}
use mathlib.Core.List.{IsPrefix as Begins}
use Rattle.sno_desk.specs.Replies.{IsReply}
use Rattle.sno_desk.specs.Turns.{AreReplies}
use Rattle.sno_desk.specs.declared.faults.SubmitFault.{SubmitFault}
use Rattle.sno_listing.specs.declared.refusals.Reason.{Reason}
use Rattle.sno_desk.specs.Seen.{IsInView}
use Rattle.sno_rewrite.specs.Owners.{AreInTurn, IsReplyWithin, IsReceipt, Owns, result_in, reason_in}
use Rattle.sno_rewrite.specs.Shared.{IsOrder}

-- an element that is set is at its place, and all else is as it was
set_there : {X : Type 0} (xs : List X) (i : ℕ) (y : X) → i < length xs → slice_get (set xs i y) i ≡ Some y
set_there [] i y inside = absurd (omega (arith, inside))
set_there (x ∷ xs) zero y inside = refl
set_there (x ∷ xs) (suc i) y inside = set_there xs i y (omega (arith, inside))

set_elsewhere : {X : Type 0} (xs : List X) (i k : ℕ) (y : X) → k ≢ i → slice_get (set xs i y) k ≡ slice_get xs k
set_elsewhere [] i k y other = refl
set_elsewhere (x ∷ xs) zero zero y other = absurd (other refl)
set_elsewhere (x ∷ xs) zero (suc k) y other = refl
set_elsewhere (x ∷ xs) (suc i) zero y other = refl
set_elsewhere (x ∷ xs) (suc i) (suc k) y other = set_elsewhere xs i k y (λ e. other (ap suc e))

module _ (entries : ℕ) (replies : List (Result Receipt SubmitFault)) where
  -- before all replies no entry is owned
  pub owns_none : (owners : List (Option ℕ)) → owners ≡ replicate entries None → Owns entries replies 0 owners
  owns_none owners made = record {
    as_many = ap length made ∙ length-replicate entries None;
    backed = λ k p h.
        let inside : k < length owners = slice_get_within owners k (Some p) h in
        let few : length owners ≡ entries = ap length made ∙ length-replicate entries None in
        let within : k < entries = omega (arith, inside, few) in
        let read : slice_get owners k ≡ Some (get_or owners k None) = slice_get-get_or owners k None inside in
        let e : get_or owners k None ≡ None = ap (λ (l : List (Option ℕ)). get_or l k None) made ∙ get_or-replicate entries k None None within in
        absurd (cc);
    noted = λ p r below h. absurd (omega (arith, below));
  }

  -- a receipt's place owns its entry, which had no owner
  module _ (i : ℕ) (r : Receipt) (old new : List (Option ℕ)) (before : Owns entries replies i old) (there : slice_get replies i ≡ Some (Ok r))
      (free : slice_get old r.index ≡ Some None) (grown : new ≡ set old r.index (Some i)) where
    mine : slice_get new r.index ≡ Some (Some i)
    mine = ap (λ (l : List (Option ℕ)). slice_get l r.index) grown ∙ set_there old r.index (Some i) (slice_get_within old r.index None free)

    others : (k : ℕ) → k ≢ r.index → slice_get new k ≡ slice_get old k
    others k other = ap (λ (l : List (Option ℕ)). slice_get l k) grown ∙ set_elsewhere old r.index k (Some i) other

    backed_by : (k p : ℕ) → slice_get new k ≡ Some (Some p) → (k ≡ r.index) ⊎ (k ≢ r.index) → (p < i + 1) × IsReceipt replies k p
    backed_by k p h (inl same) =
        let at : slice_get new k ≡ Some (Some i) = ap (slice_get new) same ∙ mine in
        let e : p ≡ i = cc in (
          omega (arith, e),
          record {
            receipt = r;
            there = ap (slice_get replies) e ∙ there;
            indexed = sym same;
          },
        )
    backed_by k p h (inr other) = let b = before.backed k p (sym (others k other) ∙ h) in (omega (arith, b.0), b.1)

    noted_by : (p : ℕ) (s : Receipt) → p < i + 1 → slice_get replies p ≡ Some (Ok s) → (p ≡ i) ⊎ (p ≢ i) → slice_get new s.index ≡ Some (Some p)
    noted_by p s below h (inl same) =
        let e : s ≡ r = (let at : slice_get replies p ≡ Some (Ok r) = ap (slice_get replies) same ∙ there in cc) in
        ap (λ (t : Receipt). slice_get new t.index) e ∙ mine ∙ ap (λ (n : ℕ). Some (Some n)) (sym same)
    noted_by p s below h (inr other) =
        let had : slice_get old s.index ≡ Some (Some p) = before.noted p s (omega (arith, below, other)) h in
        others s.index (λ e. let at : slice_get old s.index ≡ Some None = ap (slice_get old) e ∙ free in cc) ∙ had

    pub owns_more : Owns entries replies (i + 1) new
    owns_more = record {
      as_many = ap length grown ∙ length-set old r.index (Some i) ∙ before.as_many;
      backed = λ k p h. backed_by k p h (cases_eq k r.index);
      noted = λ p s below h. noted_by p s below h (cases_eq p i);
    }

  -- a refusal owns nothing
  pub owns_same : (i : ℕ) (e : SubmitFault) (owners : List (Option ℕ)) → Owns entries replies i owners → slice_get replies i ≡ Some (Err e)
      → Owns entries replies (i + 1) owners
  owns_same i e owners before there = record {
    as_many = before.as_many;
    backed = λ k p h. let b = before.backed k p h in (omega (arith, b.0), b.1);
    noted = λ p r below h. (elim (cases_eq p i) [
      | inl same ↦ absurd (let at : slice_get replies p ≡ Some (Err e) = ap (slice_get replies) same ∙ there in cc)
      | inr other ↦ before.noted p r (omega (arith, below, other)) h
    ]);
  }

-- the list of the owners, if each entry is owned
pub record Filled (owners : List (Option ℕ)) : Type 0 where
  pub order : List ℕ
  pub filled : owners ≡ map Some order

pub fill : (owners : List (Option ℕ)) → All (λ o. IsSome o) owners → Filled owners
fill [] h = record { order = []; filled = refl }
fill (None ∷ owners) h = let e : false ≡ true = All-head (λ (o : Option ℕ). IsSome o) None owners h in absurd (cc)
fill (Some p ∷ owners) h = let more = fill owners (All-tail (λ (o : Option ℕ). IsSome o) (Some p) owners h) in record { order = p ∷ more.order; filled = ap (λ (l : List (Option ℕ)). Some p ∷ l) more.filled }

-- a receipt at a place is for the statement at that place
pub receipt_for : (shuts : ℕ → ℕ → Type 0) (tries : ℕ) (opening : Opening) (statements : List Statement) (replies : List (Result Receipt SubmitFault))
    → AreReplies (IsReply shuts tries opening) statements replies → (p : ℕ) (r : Receipt) → slice_get replies p ≡ Some (Ok r)
    → slice_get statements p ≡ Some r.entry.statement
receipt_for shuts tries opening [] [] h p r there = cc
receipt_for shuts tries opening [] (x ∷ replies) h p r there = absurd h
receipt_for shuts tries opening (s ∷ statements) [] h p r there = absurd h
receipt_for shuts tries opening (s ∷ statements) (Ok x ∷ replies) h zero r there =
    let e : x ≡ r = cc in ap Some (sym h.0.1) ∙ ap (λ (t : Receipt). Some t.entry.statement) e
receipt_for shuts tries opening (s ∷ statements) (Err x ∷ replies) h zero r there = cc
receipt_for shuts tries opening (s ∷ statements) (x ∷ replies) h (suc p) r there = receipt_for shuts tries opening statements replies h.1 p r there

-- the entry after a list that begins another one
entry_after : (front more : List Entry) (e : Entry) → slice_get ((front ++ e ∷ []) ++ more) (length front) ≡ Some e
entry_after [] more e = refl
entry_after (x ∷ front) more e = entry_after front more e

-- a receipt's entry is the journal's at its index
entry_in : (v : View) (after : List Entry) (receipt : Receipt) → IsInView v.opening after receipt → Begins after v.journal → slice_get v.journal receipt.index ≡ Some receipt.entry
entry_in v after receipt told begins =
    let whole = prefix_trans (told.front ++ receipt.entry ∷ []) after v.journal told.begins begins in
    ap (slice_get v.journal) (sym told.many) ∙ ap (λ (l : List Entry). slice_get l (length told.front)) (sym whole.1) ∙ entry_after told.front whole.0 receipt.entry

entry_for : (tries : ℕ) (v : View) (statements : List Statement) (replies : List (Result Receipt SubmitFault)) → AreReplies (IsReplyWithin tries v) statements replies
    → (p : ℕ) (r : Receipt) → slice_get replies p ≡ Some (Ok r) → slice_get v.journal r.index ≡ Some r.entry
entry_for tries v [] [] h p r there = cc
entry_for tries v [] (x ∷ replies) h p r there = absurd h
entry_for tries v (s ∷ statements) [] h p r there = absurd h
entry_for tries v (s ∷ statements) (Ok x ∷ replies) h zero r there =
    let e : x ≡ r = cc in
    let within = h.0 in
    subst (λ (y : Receipt). slice_get v.journal y.index ≡ Some y.entry) e (entry_in v within.after x within.at.1 within.begins)
entry_for tries v (s ∷ statements) (Err x ∷ replies) h zero r there = cc
entry_for tries v (s ∷ statements) (x ∷ replies) h (suc p) r there = entry_for tries v statements replies h.1 p r there

-- a refusal is not an acceptance
refused_in : (o : Option Reason) → option_map Some o ≡ Some None → ⊥
refused_in None h = cc
refused_in (Some reason) h = cc

accepted_in : (r : Result Receipt SubmitFault) → result_in r ≡ Some None → (receipt : Receipt) × (r ≡ Ok receipt)
accepted_in (Ok receipt) h = (receipt, refl)
accepted_in (Err e) h = absurd (refused_in (reason_in e) h)

accepted_at : (replies : List (Result Receipt SubmitFault)) (p : ℕ) → slice_get (map result_in replies) p ≡ Some (Some None)
    → (receipt : Receipt) × (slice_get replies p ≡ Some (Ok receipt))
accepted_at [] p h = absurd (cc)
accepted_at (r ∷ replies) zero h = let e : result_in r ≡ Some None = cc in let a = accepted_in r e in (a.0, ap Some a.1)
accepted_at (r ∷ replies) (suc p) h = accepted_at replies p h

-- the result at a place is what the reply there says
inner : (o : Option (Option Reason)) → option_map Some o ≡ Some (Some None) → o ≡ Some None
inner None h = absurd (cc)
inner (Some a) h = let e : a ≡ None = cc in ap Some e

filled_at : (order : List ℕ) (k p : ℕ) → slice_get order k ≡ Some p → slice_get (map Some order) k ≡ Some (Some p)
filled_at [] k p h = absurd (cc)
filled_at (x ∷ order) zero p h = let e : x ≡ p = cc in ap (λ (n : ℕ). Some (Some n)) e
filled_at (x ∷ order) (suc k) p h = filled_at order k p h

order_at : (order : List ℕ) (k p : ℕ) → slice_get (map Some order) k ≡ Some (Some p) → slice_get order k ≡ Some p
order_at [] k p h = absurd (cc)
order_at (x ∷ order) zero p h = let e : x ≡ p = cc in ap Some e
order_at (x ∷ order) (suc k) p h = order_at order k p h

-- if each entry is owned, the owners are the order of the statements
module _ (shuts : ℕ → ℕ → Type 0) (tries : ℕ) (opening : Opening) (statements : List Statement) (replies : List (Result Receipt SubmitFault)) (journal : List Entry)
    (owners : List (Option ℕ)) (allowed : AreReplies (IsReply shuts tries opening) statements replies)
    (there : AreReplies (IsReplyWithin tries (record { opening = opening; journal = journal })) statements replies) (owns : Owns (length journal) replies (length replies) owners)
    (filled : Filled owners) (results : List (Option Reason)) (given : map result_in replies ≡ map Some results) (workers : ℕ) (turns : AreInTurn workers replies) where
  owned : (k p : ℕ) → slice_get filled.order k ≡ Some p → slice_get owners k ≡ Some (Some p)
  owned k p h = ap (λ (l : List (Option ℕ)). slice_get l k) filled.filled ∙ filled_at filled.order k p h

  its : (k p : ℕ) → slice_get filled.order k ≡ Some p → IsReceipt replies k p
  its k p h = (owns.backed k p (owned k p h)).1

  said : (p : ℕ) → slice_get (map result_in replies) p ≡ option_map Some (slice_get results p)
  said p = ap (λ (l : List (Option (Option Reason))). slice_get l p) given ∙ slice_get-map Some results p

  pub in_order : IsOrder workers statements results journal filled.order
  in_order = record {
    as_many = sym (length-map filled.order Some) ∙ sym (ap length filled.filled) ∙ owns.as_many;
    once = λ j k p h g.
        let one = its j p h in
        let other = its k p g in
        let same : one.receipt ≡ other.receipt = (let a = one.there in let b = other.there in cc) in
        sym one.indexed ∙ ap (λ (r : Receipt). r.index) same ∙ other.indexed;
    statement = λ k p h.
        let one = its k p h in
        ap (option_map (λ (e : Entry). e.statement)) (ap (slice_get journal) (sym one.indexed) ∙ entry_for tries (record { opening = opening; journal = journal }) statements replies there p one.receipt one.there) ∙ sym (receipt_for shuts tries opening statements replies allowed p one.receipt one.there);
    accepted = λ k p h.
        let one = its k p h in
        inner (slice_get results p) (sym (said p) ∙ slice_get-map result_in replies p ∙ ap (option_map result_in) one.there);
    all = λ p h.
        let a = accepted_at replies p (said p ∙ ap (option_map Some) h) in
        let inside = slice_get_within replies p (Ok a.0) a.1 in
        let had = owns.noted p a.0 inside a.1 in
        (a.0.index, order_at filled.order a.0.index p (sym (ap (λ (l : List (Option ℕ)). slice_get l a.0.index) filled.filled) ∙ had));
    in_turn = λ j k p later h g.
        let one = its j p h in
        let other = its k (p + (later + 1) * workers) g in
        let up : one.receipt.index < other.receipt.index = turns p later one.receipt other.receipt one.there other.there in
        omega (arith, up, one.indexed, other.indexed);
  }
