-- Going on from the Ends of a list, one event at a time, within a limit of trials.
use Rattle.std.proofs.Common.{◌≡◌, ℕ, zero, suc, ◌+◌, ◌-◌, ◌<◌, ◌≤◌, true, false, cond, List, [], ◌∷◌, ◌++◌, length, drop, get_or, nat_lt, ap, sym, subst, ◌∙◌, arith, refl, append_assoc}
use Rattle.std.proofs.Math.Numerals.{sub-one}
use Rattle.std.proofs.lemmas.List.{drop_more, drop_all, append-nil}
use Rattle.std.specs.List.{list_any}
use Rattle.sno_pattern.specs.Events.{CondList}
use Rattle.sno_pattern.specs.Laws.{AllEnds}
use Rattle.sno_trace.specs.declared.events.Marked.{Marked}
use Rattle.sno_trace.specs.declared.events.Landmark.TheVariants.{NullRound}
use Rattle.sno_trace.specs.declared.events.Noted.{Noted}
use Rattle.sno_trace.specs.declared.events.Noted.TheVariants.{Try, Set, Mark, End, Halt, Stop}
use Rattle.sno_trace.specs.Noted.{cut, put_before, spread, go_on, upto, erase, marked, noted_rounds}
use Rattle.sno_trace.specs.Steps.{is_last, trials_of}
use Rattle.sno_trace.proofs.NotedLaws.{go_on_ended, go_on_unended}
use Rattle.sno_trace.proofs.Limit.{enough}

-- the event at an index is the first of what is left there
pub left_at : (l : List Noted) (i : ℕ) (x y : Noted) → i < length l → x ≡ get_or l i x → x ≡ y → drop i l ≡ y ∷ drop (i + 1) l
left_at l i x y h is_item is = drop_more l i x h ∙ ap (λ z. z ∷ drop (i + 1) l) (sym is_item ∙ is)

-- going on from an event that isn't an End, and ends nothing ..
other_unended : (f : ℕ → List Noted) (n : ℕ) (x : Noted) (rest : List Noted) → ((e : ℕ) (a : CondList) → x ≡ End e a → ⊥) → false ≡ list_any is_last (upto n (go_on (x ∷ []) (λ c. [])))
    → upto n (go_on (x ∷ rest) f) ≡ upto n (go_on (x ∷ []) (λ c. [])) ++ upto (n - trials_of (x ∷ [])) (go_on rest f)
other_unended f zero (Try x) rest other going = cc
other_unended f (suc n) (Try x) rest other going = ap (λ k. Try x ∷ upto k (go_on rest f)) (sym (sub-one (suc n)))
other_unended f n (Set t) rest other going = ap (λ k. Set t ∷ upto k (go_on rest f)) (let e : n ≡ n - 0 = omega arith in e)
other_unended f n (Mark d) rest other going = ap (λ k. Mark d ∷ upto k (go_on rest f)) (let e : n ≡ n - 0 = omega arith in e)
other_unended f n (End e a) rest other going = absurd (other e a refl)
other_unended f n Halt rest other going = cc
other_unended f n Stop rest other going = cc

-- .. and from one that does
other_ended : (f : ℕ → List Noted) (n : ℕ) (x : Noted) (rest : List Noted) → ((e : ℕ) (a : CondList) → x ≡ End e a → ⊥) → true ≡ list_any is_last (upto n (go_on (x ∷ []) (λ c. [])))
    → upto n (go_on (x ∷ rest) f) ≡ upto n (go_on (x ∷ []) (λ c. []))
other_ended f zero (Try x) rest other ended = refl
other_ended f (suc n) (Try x) rest other ended = cc
other_ended f n (Set t) rest other ended = cc
other_ended f n (Mark d) rest other ended = cc
other_ended f n (End e a) rest other ended = absurd (other e a refl)
other_ended f n Halt rest other ended = refl
other_ended f n Stop rest other ended = refl

-- a list that both goes on and ends is all there is, since there is none
pub not_both : (l m : List Noted) → true ≡ false → l ≡ m
not_both l m h = cc

module _ (f : ℕ → List Noted) (total : List Noted) where
  -- an event that isn't an End is added ..
  pub go_on_other : (n k : ℕ) (all new l rest : List Noted) (x : Noted) → l ≡ x ∷ rest → ((e : ℕ) (a : CondList) → x ≡ End e a → ⊥) → false ≡ list_any is_last (upto n (go_on (x ∷ []) (λ c. []))) → k ≡ n - trials_of (x ∷ []) → new ≡ all ++ upto n (go_on (x ∷ []) (λ c. []))
      → all ++ upto n (go_on l f) ≡ total → new ++ upto k (go_on rest f) ≡ total
  go_on_other n k all new l rest x is other going less added e =
      ap (λ m. m ++ upto k (go_on rest f)) added
      ∙ append_assoc all (upto n (go_on (x ∷ []) (λ c. []))) (upto k (go_on rest f))
      ∙ ap (λ j. all ++ (upto n (go_on (x ∷ []) (λ c. [])) ++ upto j (go_on rest f))) less
      ∙ sym (ap (λ m. all ++ m) (other_unended f n x rest other going))
      ∙ sym (ap (λ m. all ++ upto n (go_on m f)) is) ∙ e

  -- .. and it is the last
  pub go_on_other_last : (n : ℕ) (all new l rest : List Noted) (x : Noted) → l ≡ x ∷ rest → ((e : ℕ) (a : CondList) → x ≡ End e a → ⊥) → true ≡ list_any is_last (upto n (go_on (x ∷ []) (λ c. []))) → new ≡ all ++ upto n (go_on (x ∷ []) (λ c. []))
      → all ++ upto n (go_on l f) ≡ total → new ≡ total
  go_on_other_last n all new l rest x is other ended added e =
      added ∙ sym (ap (λ m. all ++ m) (other_ended f n x rest other ended)) ∙ sym (ap (λ m. all ++ upto n (go_on m f)) is) ∙ e

  -- what follows an End is added
  pub go_on_end : (n k : ℕ) (all new l rest later : List Noted) (c : ℕ) (a : CondList) → l ≡ End c a ∷ rest → later ≡ upto n (f c) → false ≡ list_any is_last later → k ≡ n - trials_of later → new ≡ all ++ cut (put_before a later) → all ++ upto n (go_on l f) ≡ total
      → new ++ upto k (go_on rest f) ≡ total
  go_on_end n k all new l rest later c a is same going less added e =
      ap (λ m. m ++ upto k (go_on rest f)) added
      ∙ append_assoc all (cut (put_before a later)) (upto k (go_on rest f))
      ∙ ap (λ j. all ++ (cut (put_before a later) ++ upto j (go_on rest f))) less
      ∙ ap (λ m. all ++ (cut (put_before a m) ++ upto (n - trials_of m) (go_on rest f))) same
      ∙ sym (ap (λ m. all ++ m) (go_on_unended n c a rest f (sym (going ∙ ap (list_any is_last) same))))
      ∙ sym (ap (λ m. all ++ upto n (go_on m f)) is) ∙ e

  -- what follows an End is the last
  pub go_on_last : (n : ℕ) (all new l rest later : List Noted) (c : ℕ) (a : CondList) → l ≡ End c a ∷ rest → later ≡ upto n (f c) → true ≡ list_any is_last later → new ≡ all ++ cut (put_before a later) → all ++ upto n (go_on l f) ≡ total → new ≡ total
  go_on_last n all new l rest later c a is same ended added e =
      added
      ∙ ap (λ m. all ++ cut (put_before a m)) same
      ∙ sym (ap (λ m. all ++ m) (go_on_ended n c a rest f (sym (ended ∙ ap (list_any is_last) same))))
      ∙ sym (ap (λ m. all ++ upto n (go_on m f)) is) ∙ e

  -- only a mark follows an End
  pub go_on_marked : (n : ℕ) (all new l rest : List Noted) (c : ℕ) (a : CondList) (t : Marked) → l ≡ End c a ∷ rest → f c ≡ Mark t ∷ [] → new ≡ all ++ Mark t ∷ [] → all ++ upto n (go_on l f) ≡ total → new ++ upto n (go_on rest f) ≡ total
  go_on_marked n all new l rest c a t is alone added e =
      ap (λ m. m ++ upto n (go_on rest f)) added ∙ append_assoc all (Mark t ∷ []) (upto n (go_on rest f))
      ∙ ap (λ m. all ++ upto n (cut (put_before a m ++ spread rest f))) (sym alone) ∙ sym (ap (λ m. all ++ upto n (go_on m f)) is) ∙ e

  -- nothing is left to go on from
  pub go_on_all : (n : ℕ) (all l : List Noted) (i : ℕ) → length l ≤ i → all ++ upto n (go_on (drop i l) f) ≡ total → all ≡ total
  go_on_all n all l i h e = sym (append-nil all) ∙ sym (ap (λ m. all ++ upto n (go_on m f)) (drop_all i l h)) ∙ e

-- the events after the first
pub AllEnds-tail : (P : ℕ → Type 0) (l rest : List Noted) (x : Noted) → l ≡ x ∷ rest → AllEnds P (erase l) → AllEnds P (erase rest)
AllEnds-tail P l rest x is h = tail x (subst (λ m. AllEnds P (erase m)) is h)
  where
    tail : (x : Noted) → AllEnds P (erase (x ∷ rest)) → AllEnds P (erase rest)
    tail (Try y) g = g
    tail (Set t) g = g
    tail (Mark d) g = g
    tail (End e a) g = g.1
    tail Halt g = g
    tail Stop g = g

-- the first of them, if it is an End
pub AllEnds-head : (P : ℕ → Type 0) (l rest : List Noted) (c : ℕ) (a : CondList) → l ≡ End c a ∷ rest → AllEnds P (erase l) → P c
AllEnds-head P l rest c a is h = (let g : AllEnds P (erase (End c a ∷ rest)) = subst (λ m. AllEnds P (erase m)) is h in g.0)

-- the Ends of what is shown are Ends of the list
pub AllEnds-upto : (P : ℕ → Type 0) (n : ℕ) (l : List Noted) → AllEnds P (erase l) → AllEnds P (erase (upto n l))
AllEnds-upto P n [] h = tt
AllEnds-upto P zero (Try x ∷ l) h = tt
AllEnds-upto P (suc n) (Try x ∷ l) h = AllEnds-upto P n l h
AllEnds-upto P n (Set t ∷ l) h = AllEnds-upto P n l h
AllEnds-upto P n (Mark d ∷ l) h = AllEnds-upto P n l h
AllEnds-upto P n (End e a ∷ l) h = (h.0, AllEnds-upto P n l h.1)
AllEnds-upto P n (Halt ∷ l) h = AllEnds-upto P n l h
AllEnds-upto P n (Stop ∷ l) h = AllEnds-upto P n l h

-- what follows a round that ended at e
abbrev pub next_round : ℕ → (ℕ → List Noted) → ℕ → ℕ → ℕ → List Noted
next_round k once n c e = cond (nat_lt c e) (noted_rounds k once (n - 1) e) (marked k NullRound e ∷ [])

-- no round
pub rounds_none : (limit k : ℕ) (once : ℕ → List Noted) (n c : ℕ) (l : List Noted) → l ≡ [] → n ≡ 0 → l ≡ upto limit (noted_rounds k once n c)
rounds_none limit k once n c l none h = none ∙ sym (ap (λ m. upto limit (noted_rounds k once m c)) h)

-- one round and then what follows it
pub rounds_begun : (limit k : ℕ) (once : ℕ → List Noted) (n c : ℕ) (all begun : List Noted) → 0 < n → all ≡ End c [] ∷ [] → begun ≡ upto limit (once c)
    → all ++ upto limit (go_on begun (next_round k once n c)) ≡ upto limit (noted_rounds k once n c)
rounds_begun limit k once zero c all begun h is same = absurd (omega arith)
rounds_begun limit k once (suc n) c all begun h is same =
    ap (λ m. m ++ upto limit (go_on begun (next_round k once (suc n) c))) is
    ∙ ap (λ m. End c [] ∷ upto limit (go_on m (next_round k once (suc n) c))) same
    ∙ ap (λ m. End c [] ∷ m) (enough (once c) (next_round k once (suc n) c) limit limit (omega arith))
    ∙ ap (λ j. End c [] ∷ upto limit (go_on (once c) (λ e. cond (nat_lt c e) (noted_rounds k once j e) (marked k NullRound e ∷ [])))) (sub-one (suc n))
