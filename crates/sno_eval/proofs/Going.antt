-- Going on from the Ends of a list, one event at a time.
use Rattle.std.proofs.Common.{◌≡◌, ℕ, zero, suc, ◌+◌, ◌-◌, ◌<◌, ◌≤◌, true, false, cond, List, [], ◌∷◌, ◌++◌, length, drop, get_or, nat_lt, ap, sym, subst, ◌∙◌, arith, append_assoc}
use Rattle.std.proofs.Math.Numerals.{sub-one}
use Rattle.std.proofs.lemmas.List.{drop_more, drop_all, append-nil}
use Rattle.std.specs.List.{list_any}
use Rattle.sno_pattern.specs.Events.{cut, put_before, spread, go_on, CondList}
use Rattle.sno_pattern.specs.Results.{rounds}
use Rattle.sno_pattern.specs.Laws.{AllEnds}
use Rattle.sno_pattern.specs.declared.events.Assign.{Assign}
use Rattle.sno_pattern.specs.declared.events.Event.{Event}
use Rattle.sno_pattern.specs.declared.events.Event.TheVariants.{Try, Set, End, Halt}
use Rattle.sno_eval.specs.Steps.{is_halt}
use Rattle.sno_eval.proofs.EventLaws.{go_on_halted, go_on_unhalted}

-- the event at an index is the first of what is left there
pub left_at : (l : List Event) (i : ℕ) (x y : Event) → i < length l → x ≡ get_or l i x → x ≡ y → drop i l ≡ y ∷ drop (i + 1) l
left_at l i x y h is_item is = drop_more l i x h ∙ ap (λ z. z ∷ drop (i + 1) l) (sym is_item ∙ is)

module _ (f : ℕ → List Event) (total : List Event) where
  -- an assignment is added
  pub go_on_set : (all new l rest : List Event) (t : Assign) → l ≡ Set t ∷ rest → new ≡ all ++ Set t ∷ [] → all ++ go_on l f ≡ total → new ++ go_on rest f ≡ total
  go_on_set all new l rest t is added e =
      ap (λ m. m ++ go_on rest f) added ∙ append_assoc all (Set t ∷ []) (go_on rest f) ∙ sym (ap (λ m. all ++ go_on m f) is) ∙ e

  -- a trial is added
  pub go_on_tried : (all new l rest : List Event) → l ≡ Try ∷ rest → new ≡ all ++ Try ∷ [] → all ++ go_on l f ≡ total → new ++ go_on rest f ≡ total
  go_on_tried all new l rest is added e =
      ap (λ m. m ++ go_on rest f) added ∙ append_assoc all (Try ∷ []) (go_on rest f) ∙ sym (ap (λ m. all ++ go_on m f) is) ∙ e

  -- a Halt is the last event
  pub go_on_halt : (all new l rest : List Event) → l ≡ Halt ∷ rest → new ≡ all ++ Halt ∷ [] → all ++ go_on l f ≡ total → new ≡ total
  go_on_halt all new l rest is added e = added ∙ sym (ap (λ m. all ++ go_on m f) is) ∙ e

  -- what follows an End is added
  pub go_on_end : (all new l rest later : List Event) (c : ℕ) (a : CondList) → l ≡ End c a ∷ rest → later ≡ f c → false ≡ list_any is_halt later → new ≡ all ++ cut (put_before a later) → all ++ go_on l f ≡ total → new ++ go_on rest f ≡ total
  go_on_end all new l rest later c a is same unhalted added e =
      ap (λ m. m ++ go_on rest f) added
      ∙ append_assoc all (cut (put_before a later)) (go_on rest f)
      ∙ ap (λ m. all ++ (cut (put_before a m) ++ go_on rest f)) same
      ∙ sym (ap (λ m. all ++ m) (go_on_unhalted c a rest f (sym (unhalted ∙ ap (list_any is_halt) same))))
      ∙ sym (ap (λ m. all ++ go_on m f) is) ∙ e

  -- what follows an End is the last, if it fails the whole match
  pub go_on_last : (all new l rest later : List Event) (c : ℕ) (a : CondList) → l ≡ End c a ∷ rest → later ≡ f c → true ≡ list_any is_halt later → new ≡ all ++ cut (put_before a later) → all ++ go_on l f ≡ total → new ≡ total
  go_on_last all new l rest later c a is same halted added e =
      added
      ∙ ap (λ m. all ++ cut (put_before a m)) same
      ∙ sym (ap (λ m. all ++ m) (go_on_halted c a rest f (sym (halted ∙ ap (list_any is_halt) same))))
      ∙ sym (ap (λ m. all ++ go_on m f) is) ∙ e

  -- nothing follows an End
  pub go_on_none : (all l rest : List Event) (c : ℕ) (a : CondList) → l ≡ End c a ∷ rest → f c ≡ [] → all ++ go_on l f ≡ total → all ++ go_on rest f ≡ total
  go_on_none all l rest c a is none e =
      ap (λ m. all ++ cut (put_before a m ++ spread rest f)) (sym none) ∙ sym (ap (λ m. all ++ go_on m f) is) ∙ e

  -- nothing is left to go on from
  pub go_on_all : (all l : List Event) (i : ℕ) → length l ≤ i → all ++ go_on (drop i l) f ≡ total → all ≡ total
  go_on_all all l i h e = sym (append-nil all) ∙ sym (ap (λ m. all ++ go_on m f) (drop_all i l h)) ∙ e

-- the events after the first
pub AllEnds-tail : (P : ℕ → Type 0) (l rest : List Event) (x : Event) → l ≡ x ∷ rest → AllEnds P l → AllEnds P rest
AllEnds-tail P l rest x is h = tail x (subst (AllEnds P) is h)
  where
    tail : (x : Event) → AllEnds P (x ∷ rest) → AllEnds P rest
    tail Try g = g
    tail (Set t) g = g
    tail (End e a) g = g.1
    tail Halt g = g

-- the first of them, if it is an End
pub AllEnds-head : (P : ℕ → Type 0) (l rest : List Event) (c : ℕ) (a : CondList) → l ≡ End c a ∷ rest → AllEnds P l → P c
AllEnds-head P l rest c a is h = (let g : AllEnds P (End c a ∷ rest) = subst (AllEnds P) is h in g.0)

-- what follows a round that ended at e
abbrev pub next_round : (ℕ → List Event) → ℕ → ℕ → ℕ → List Event
next_round once n c e = cond (nat_lt c e) (rounds once (n - 1) e) []

-- no round
pub rounds_none : (once : ℕ → List Event) (n c : ℕ) → n ≡ 0 → [] ≡ rounds once n c
rounds_none once n c h = sym (ap (λ m. rounds once m c) h)

-- one round and then what follows it
pub rounds_begun : (once : ℕ → List Event) (n c : ℕ) (all begun : List Event) → 0 < n → all ≡ End c [] ∷ [] → begun ≡ once c → all ++ go_on begun (next_round once n c) ≡ rounds once n c
rounds_begun once zero c all begun h is same = absurd (omega arith)
rounds_begun once (suc n) c all begun h is same =
    ap (λ m. m ++ go_on begun (next_round once (suc n) c)) is
    ∙ ap (λ m. End c [] ∷ go_on m (next_round once (suc n) c)) same
    ∙ ap (λ k. End c [] ∷ go_on (once c) (λ e. cond (nat_lt c e) (rounds once k e) [])) (sub-one (suc n))
