-- If the definitions are guarded, a greater depth gives nothing more. At one cursor no definition is met twice on the way down,
-- since each that was met has a chain to each that is met later. So at most as many references nest there as there are
-- definitions, and a part that takes moves the cursor on.
use Rattle.std.proofs.Common.{◌≡◌, ℕ, zero, suc, ◌+◌, ◌-◌, ◌*◌, ◌<◌, ◌≤◌, true, false, List, [], ◌∷◌, length, Option, Some, None, slice_get, eqb, ⊎_elim, refl, arith, sym, subst, ◌∙◌}
use Rattle.std.specs.List.{list_any, IsDistinct, AllByRecursion}
use Rattle.std.proofs.Math.Nat.{mul-le-mul_right}
use Rattle.std.proofs.lemmas.Bool.{eqb-true, ne_eqb, or_cases}
use Rattle.std.proofs.lemmas.Map.Keys.{IsDistinct-cons}
use Rattle.std.proofs.lemmas.Map.Steps.{length-le_from_distinct_below}
use Rattle.std.proofs.lemmas.Option.{slice_get_within}
use Rattle.sno_pattern.specs.Tree.{Tree}
use Rattle.sno_pattern.specs.Results.{definition_results, results, enough_depth}
use Rattle.sno_pattern.specs.Guard as guard
use Rattle.sno_pattern.specs.Guard.{Unguarded, Leads, Chain, Guarded}
use Rattle.sno_pattern.proofs.Taking.{named_body, named_none}
use Rattle.sno_pattern.proofs.Congruence.{same_results}

none_yet : IsDistinct eqb []
unfolding IsDistinct
none_yet = tt

-- one cursor further on saves as many references as there are definitions
one_row : (a b m : ℕ) → a < b → a * m + m ≤ b * m
one_row a b m h = let rows : suc a * m ≤ b * m = mul-le-mul_right m h in omega (arith, rows)

-- each of the definitions that were met has a chain to i, and so to what i leads to
reach_on : (bodies : List Tree) (visited : List ℕ) (i j : ℕ) → Leads bodies i j → AllByRecursion (λ v. Chain bodies v i) visited → AllByRecursion (λ v. Chain bodies v j) visited
reach_on bodies [] i j step h = tt
reach_on bodies (v ∷ visited) i j step h = (guard.more h.0 step, reach_on bodies visited i j step h.1)

-- so i isn't among them
not_met : (bodies : List Tree) → Guarded bodies → (visited : List ℕ) (i : ℕ) → AllByRecursion (λ v. Chain bodies v i) visited → AllByRecursion (λ v. eqb i v ≡ false) visited
not_met bodies g [] i h = tt
not_met bodies g (v ∷ visited) i h =
    (ne_eqb i v (λ same. let P : ℕ → Type 0 = λ x. Chain bodies x i in g i (subst P (sym same) h.0)), not_met bodies g visited i h.1)

-- the definitions that were met on the way down to i at one cursor
record Met (bodies : List Tree) (visited : List ℕ) (i : ℕ) : Type 0 where
  apart : IsDistinct eqb visited
  below : (q : ℕ) → list_any (eqb q) visited ≡ true → q < length bodies
  reach : AllByRecursion (λ v. Chain bodies v i) visited

none_met : (bodies : List Tree) (i : ℕ) → Met bodies [] i
none_met bodies i = record { apart = none_yet; below = λ q h. cc; reach = tt }

below_more : (n i : ℕ) (visited : List ℕ) → i < n → ((q : ℕ) → list_any (eqb q) visited ≡ true → q < n) → (q : ℕ) → list_any (eqb q) (i ∷ visited) ≡ true → q < n
below_more n i visited inside below q h =
    ⊎_elim (λ same. let e : q ≡ i = eqb-true q i same in omega arith) (below q) (or_cases (eqb q i) (list_any (eqb q) visited) h)

module _ (bodies : List Tree) (g : Guarded bodies) (visited : List ℕ) (i : ℕ) (met : Met bodies visited i) (inside : i < length bodies) where
  met_apart : IsDistinct eqb (i ∷ visited)
  met_apart = IsDistinct-cons eqb i visited (not_met bodies g visited i met.reach) met.apart

  met_below : (q : ℕ) → list_any (eqb q) (i ∷ visited) ≡ true → q < length bodies
  met_below = below_more (length bodies) i visited inside met.below

  -- there are fewer of them than definitions
  met_few : length visited < length bodies
  met_few = let few = length-le_from_distinct_below (i ∷ visited) (length bodies) met_apart met_below in omega (arith, few)

  met_more : (j : ℕ) → Leads bodies i j → Met bodies (i ∷ visited) j
  met_more j step = record {
    apart = met_apart;
    below = met_below;
    reach = (guard.one step, reach_on bodies visited i j step met.reach);
  }

-- Any two depths of at least n agree if at most n references can still nest.
abbrev Agree : List ℕ → List Tree → ℕ → Type 0
Agree t bodies n = (visited : List ℕ) (i c : ℕ) → c ≤ length t → Met bodies visited i
    → (length t - c) * length bodies + (length bodies - length visited) ≤ n
    → (k₁ k₂ : ℕ) → n ≤ k₁ → n ≤ k₂ → definition_results t bodies k₁ i c ≡ definition_results t bodies k₂ i c

module _ (t : List ℕ) (bodies : List Tree) (g : Guarded bodies) where
  -- if i has a body
  agree_body : (n : ℕ) → Agree t bodies n → (visited : List ℕ) (i c : ℕ) → c ≤ length t → (met : Met bodies visited i)
      → (length t - c) * length bodies + (length bodies - length visited) ≤ suc n
      → (k₁ k₂ : ℕ) → n ≤ k₁ → n ≤ k₂ → (body : Tree) → slice_get bodies i ≡ Some body → definition_results t bodies (suc k₁) i c ≡ definition_results t bodies (suc k₂) i c
  agree_body n less visited i c in_text met bound k₁ k₂ h₁ h₂ body is =
      let inside : i < length bodies = slice_get_within bodies i body is in
      let few : length visited < length bodies = met_few bodies g visited i met inside in
      let here : (j : ℕ) → Unguarded bodies body j → definition_results t bodies k₁ j c ≡ definition_results t bodies k₂ j c =
      λ j u. less (i ∷ visited) j c in_text (met_more bodies g visited i met inside j (body, is, u)) (omega arith) k₁ k₂ h₁ h₂ in
      let past : (j e : ℕ) → c < e → e ≤ length t → definition_results t bodies k₁ j e ≡ definition_results t bodies k₂ j e =
      λ j e far end. less [] j e end (none_met bodies j) (omega (arith, one_row (length t - e) (length t - c) (length bodies) (omega arith))) k₁ k₂ h₁ h₂ in
      named_body t bodies k₁ i c body is ∙ same_results t bodies k₁ k₂ body c in_text here past ∙ sym (named_body t bodies k₂ i c body is)

  -- no reference can nest if i has a body
  agree_zero : (visited : List ℕ) (i c : ℕ) → Met bodies visited i → (length t - c) * length bodies + (length bodies - length visited) ≤ 0
      → (body : Tree) → slice_get bodies i ≡ Some body → ⊥
  agree_zero visited i c met bound body is =
      let few : length visited < length bodies = met_few bodies g visited i met (slice_get_within bodies i body is) in omega arith

  agree_none : (i c k₁ k₂ : ℕ) → slice_get bodies i ≡ None → definition_results t bodies k₁ i c ≡ definition_results t bodies k₂ i c
  agree_none i c k₁ k₂ is = named_none t bodies k₁ i c is ∙ sym (named_none t bodies k₂ i c is)

  agree_by : (i c k₁ k₂ : ℕ) (found : Option Tree) → slice_get bodies i ≡ found
      → ((body : Tree) → slice_get bodies i ≡ Some body → definition_results t bodies k₁ i c ≡ definition_results t bodies k₂ i c) → definition_results t bodies k₁ i c ≡ definition_results t bodies k₂ i c
  agree_by i c k₁ k₂ None is h = agree_none i c k₁ k₂ is
  agree_by i c k₁ k₂ (Some body) is h = h body is

  agree : (n : ℕ) → Agree t bodies n
  agree zero visited i c in_text met bound k₁ k₂ h₁ h₂ =
      agree_by i c k₁ k₂ (slice_get bodies i) refl (λ body is. absurd (agree_zero visited i c met bound body is))
  agree (suc n) visited i c in_text met bound zero k₂ h₁ h₂ = absurd (omega arith)
  agree (suc n) visited i c in_text met bound (suc k₁) zero h₁ h₂ = absurd (omega arith)
  agree (suc n) visited i c in_text met bound (suc k₁) (suc k₂) h₁ h₂ =
      agree_by i c (suc k₁) (suc k₂) (slice_get bodies i) refl
      (λ body is. agree_body n (agree n) visited i c in_text met bound k₁ k₂ (omega arith) (omega arith) body is)

  named_settled : (k i c : ℕ) → enough_depth t bodies ≤ k → c ≤ length t → definition_results t bodies k i c ≡ definition_results t bodies (enough_depth t bodies) i c
  named_settled k i c enough in_text =
      let rows = one_row (length t - c) (length t + 1) (length bodies) (omega arith) in
      agree (enough_depth t bodies) [] i c in_text (none_met bodies i) (omega (arith, rows)) k (enough_depth t bodies) enough (omega arith)

  -- the depth of the definitions is always enough
  pub settled : (k : ℕ) (p : Tree) (c : ℕ) → enough_depth t bodies ≤ k → c ≤ length t → results t bodies k p c ≡ results t bodies (enough_depth t bodies) p c
  settled k p c enough in_text =
      same_results t bodies k (enough_depth t bodies) p c in_text (λ i u. named_settled k i c enough in_text) (λ i e far end. named_settled k i e enough end)
