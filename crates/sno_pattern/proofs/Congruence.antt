-- Two depths give the same from a cursor if they agree on the unguarded references there, and on all references further on.
use Rattle.std.proofs.Common.{◌≡◌, ℕ, zero, suc, ◌+◌, ◌-◌, ◌<◌, ◌≤◌, cond, List, [], ◌∷◌, ◌++◌, length, nat_lt, inl, inr, ⊎_elim, refl, arith, ap, subst, ◌∙◌}
use Rattle.std.proofs.lemmas.Bool.{cases_lt}
use Rattle.sno_pattern.specs.Tree as tree
use Rattle.sno_pattern.specs.Tree.{Tree}
use Rattle.sno_pattern.specs.Events.{cut, go_on, assign_later, assign_now}
use Rattle.sno_pattern.specs.Results.{rounds, results_of, definition_results, results}
use Rattle.sno_pattern.specs.Laws.{AllEnds, Within}
use Rattle.sno_pattern.specs.Guard.{Takes, Unguarded}
use Rattle.sno_pattern.specs.declared.events.Event.{Event}
use Rattle.sno_pattern.specs.declared.events.Event.TheVariants.{End}
use Rattle.sno_pattern.proofs.EachEnd.{AllEnds-map, AllEnds-both, AllEnds-under, go_on-cong}
use Rattle.sno_pattern.proofs.Within.{IsWithin, within}
use Rattle.sno_pattern.proofs.Taking.{takes_past}
use Rattle.sno_pattern.proofs.Repetition.{same_round}

at_or_past : (P : ℕ → Type 0) (c e : ℕ) → c ≤ e → (c < e → P e) → (e ≤ c → P c) → P e
at_or_past P c e on far here = ⊎_elim far (λ back. let same : c ≡ e = omega arith in subst P same (here back)) (cases_lt c e)

-- rounds of two ways that agree from the cursor on
same_rounds : (t : List ℕ) (once again : ℕ → List Event) → IsWithin t again → (n c : ℕ) → c ≤ length t → once c ≡ again c
    → ((e : ℕ) → c < e → e ≤ length t → once e ≡ again e) → rounds once n c ≡ rounds again n c
same_rounds t once again h zero c i here past = refl
same_rounds t once again h (suc n) c i here past =
    ap (λ l. End c [] ∷ go_on l (λ e. cond (nat_lt c e) (rounds once n e) [])) here
    ∙ same_round t again h (rounds once n) (rounds again n) c i
    (λ e far inside. same_rounds t once again h n e inside (past e far inside) (λ x further. past x (omega arith)))

module _ (t : List ℕ) (bodies : List Tree) (k₁ k₂ : ℕ) where
  -- what the second depth gives for p, with what is known of each End
  each_end : (p : Tree) (c : ℕ) → c ≤ length t → AllEnds (λ e. Within t c e × (Takes bodies p → c < e)) (results t bodies k₂ p c)
  each_end p c i =
      AllEnds-both (Within t c) (λ e. Takes bodies p → c < e) (results t bodies k₂ p c) (within t bodies k₂ p c i)
      (AllEnds-under (Takes bodies p) (λ e. c < e) (results t bodies k₂ p c) (λ d. takes_past t bodies p d k₂ c i))

  same_go_on : (p q : Tree) (c : ℕ) → c ≤ length t → results t bodies k₁ p c ≡ results t bodies k₂ p c
      → ((Takes bodies p → ⊥) → results t bodies k₁ q c ≡ results t bodies k₂ q c)
      → ((e : ℕ) → c < e → e ≤ length t → results t bodies k₁ q e ≡ results t bodies k₂ q e)
      → go_on (results t bodies k₁ p c) (results t bodies k₁ q) ≡ go_on (results t bodies k₂ p c) (results t bodies k₂ q)
  same_go_on p q c i first here past =
      ap (λ l. go_on l (results t bodies k₁ q)) first
      ∙ go_on-cong (results t bodies k₁ q) (results t bodies k₂ q) (results t bodies k₂ p c)
      (AllEnds-map (λ e. Within t c e × (Takes bodies p → c < e)) (λ e. results t bodies k₁ q e ≡ results t bodies k₂ q e)
      (λ e w. at_or_past (λ x. results t bodies k₁ q x ≡ results t bodies k₂ q x) c e w.0.0 (λ far. past e far w.0.1)
      (λ back. here (λ takes. let far : c < e = w.1 takes in absurd (omega arith))))
      (results t bodies k₂ p c) (each_end p c i))

  pub same_results : (p : Tree) (c : ℕ) → c ≤ length t
      → ((i : ℕ) → Unguarded bodies p i → definition_results t bodies k₁ i c ≡ definition_results t bodies k₂ i c)
      → ((i e : ℕ) → c < e → e ≤ length t → definition_results t bodies k₁ i e ≡ definition_results t bodies k₂ i e)
      → results t bodies k₁ p c ≡ results t bodies k₂ p c
  unfolding results_of
  same_results (tree.Lit s) c inside here past = refl
  same_results (tree.Len n) c inside here past = refl
  same_results (tree.Pos n) c inside here past = refl
  same_results (tree.Rpos n) c inside here past = refl
  same_results (tree.Tab n) c inside here past = refl
  same_results (tree.Rtab n) c inside here past = refl
  same_results (tree.AnyOf s) c inside here past = refl
  same_results (tree.NoneOf s) c inside here past = refl
  same_results (tree.Span s) c inside here past = refl
  same_results (tree.Break s) c inside here past = refl
  same_results tree.Arb c inside here past = refl
  same_results (tree.Arbno p) c inside here past =
      same_rounds t (results t bodies k₁ p) (results t bodies k₂ p) (within t bodies k₂ p) (length t - c + 1) c inside
      (same_results p c inside here past)
      (λ e far in_text. same_results p e in_text (λ i u. past i e far in_text) (λ i x on. past i x (omega arith)))
  same_results tree.Bal c inside here past = refl
  same_results tree.Rem c inside here past = refl
  same_results tree.Fence c inside here past = refl
  same_results tree.Abort c inside here past = refl
  same_results tree.Fail c inside here past = refl
  same_results (tree.At v) c inside here past = refl
  same_results (tree.Ref j) c inside here past = here j refl
  same_results (tree.Seq p q) c inside here past =
      same_go_on p q c inside
      (same_results p c inside (λ i u. here i (inl u)) past)
      (λ free. same_results q c inside (λ i u. here i (inr (free, u))) past)
      (λ e far in_text. same_results q e in_text (λ i u. past i e far in_text) (λ i x on. past i x (omega arith)))
  same_results (tree.Alt p q) c inside here past =
      ap (λ l. cut (l ++ results t bodies k₁ q c)) (same_results p c inside (λ i u. here i (inl u)) past)
      ∙ ap (λ l. cut (results t bodies k₂ p c ++ l)) (same_results q c inside (λ i u. here i (inr u)) past)
  same_results (tree.Cond p v) c inside here past = ap (assign_later v c) (same_results p c inside here past)
  same_results (tree.Imm p v) c inside here past = ap (assign_now v c) (same_results p c inside here past)
