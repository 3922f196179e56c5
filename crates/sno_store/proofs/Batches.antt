-- What a crash leaves of lines that are written over zeros, and of zeros that are written over other bytes.
use Rattle.std.proofs.Common.{◌≡◌, ◌⊎◌, inl, inr, ℕ, zero, suc, ◌<◌, ◌≤◌, List, [], ◌∷◌, ◌++◌, length, take, get_or, replicate, Option, Some, None, refl, sym, ◌∙◌, ap, arith, append_assoc, ◌==◌}
use Rattle.std.proofs.lemmas.List.{append-nil}
use Rattle.std.proofs.lemmas.Bool.{cases_Bool}
use Rattle.sno_store.specs.Lines.{lines_after, recovered, bytes_of, IsPlain}
use Rattle.sno_store.proofs.Scans.{AreLines}

-- each byte is a NUL or that of the other list
abbrev pub Mix : List ℕ → List ℕ → Type 0
Mix [] [] = Unit {0}
Mix [] (b ∷ bytes) = ⊥
Mix (a ∷ m) [] = ⊥
Mix (a ∷ m) (b ∷ bytes) = ((a ≡ 0) ⊎ (a ≡ b)) × Mix m bytes

pub mix_of : (m bytes : List ℕ) → length m ≡ length bytes → ((i : ℕ) → i < length bytes → (get_or m i 0 ≡ 0) ⊎ (get_or m i 0 ≡ get_or bytes i 0)) → Mix m bytes
mix_of [] [] same each = tt
mix_of [] (b ∷ bytes) same each = absurd (omega (arith, same))
mix_of (a ∷ m) [] same each = absurd (omega (arith, same))
mix_of (a ∷ m) (b ∷ bytes) same each = (each 0 (omega arith), mix_of m bytes (omega (arith, same)) (λ i low. each (suc i) (omega (arith, low))))

-- ---- lines over zeros: what was read of a line with its rest, if one is begun, and the lines after it

abbrev Open : Type 0
Open = Option (List ℕ × List ℕ)

abbrev to_come : Open → List (List ℕ) → List ℕ
to_come None news = bytes_of news
to_come (Some (begun, rest)) news = rest ++ 10 ∷ bytes_of news

abbrev so_far : Open → List ℕ
so_far None = []
so_far (Some (begun, rest)) = 123 ∷ begun

abbrev all : Open → List (List ℕ) → List (List ℕ)
all None news = news
all (Some (begun, rest)) news = (123 ∷ (begun ++ rest)) ∷ news

abbrev IsPlainRest : Open → Type 0
IsPlainRest None = Unit {0}
IsPlainRest (Some (begun, rest)) = IsPlain rest

torn : (m : List ℕ) (state : Open) (news : List (List ℕ)) (past : List ℕ) → IsPlainRest state → AreLines news → Mix m (to_come state news)
    → (k : ℕ) × (lines_after (so_far state) (m ++ 0 ∷ past) ≡ take k (all state news))
torn [] None news past p are mix = (0, refl)
torn [] (Some (begun, rest)) news past p are mix = (0, refl)
torn (a ∷ m) None [] past p are mix = absurd mix
torn (a ∷ m) None ([] ∷ news) past p are mix = absurd are.0
torn (a ∷ m) None ((b ∷ line) ∷ news) past p are (inl nul, mix) = (0, rw nul refl)
torn (a ∷ m) None ((b ∷ line) ∷ news) past p are (inr same, mix) =
    let later = torn m (Some ([], line)) news past are.0.1 are.1 mix in
    (later.0, rw (same, are.0.0) later.1)
torn (a ∷ m) (Some (begun, [])) news past p are (inl nul, mix) = (0, rw nul refl)
torn (a ∷ m) (Some (begun, [])) news past p are (inr same, mix) =
    let later = torn m None news past tt are mix in
    (suc later.0, rw same (ap (λ (ls : List (List ℕ)). (123 ∷ begun) ∷ ls) later.1 ∙ ap (λ (l : List ℕ). (123 ∷ l) ∷ take later.0 news) (sym (append-nil begun))))
torn (a ∷ m) (Some (begun, b ∷ rest)) news past p are (inl nul, mix) = (0, rw nul refl)
torn (a ∷ m) (Some (begun, b ∷ rest)) news past p are (inr same, mix) =
    let later = torn m (Some (begun ++ b ∷ [], rest)) news past p.2 are mix in
    (later.0, rw (same, p.0, p.1) (later.1 ∙ ap (λ (l : List ℕ). take later.0 ((123 ∷ l) ∷ news)) (append_assoc begun (b ∷ []) rest)))

-- a torn batch over zeros holds the first of its lines
pub torn_batch : (m : List ℕ) (news : List (List ℕ)) (past : List ℕ) → AreLines news → Mix m (bytes_of news) → (k : ℕ) × (recovered (m ++ 0 ∷ past) ≡ take k news)
torn_batch m news past are mix = torn m None news past tt are mix

-- ---- zeros over a tail: it still holds no line

dead : (begun m tail : List ℕ) → lines_after begun tail ≡ [] → Mix m tail → lines_after begun m ≡ []
dead [] [] [] none mix = refl
dead (c ∷ begun) [] [] none mix = refl
dead begun [] (b ∷ tail) none mix = absurd mix
dead begun (a ∷ m) [] none mix = absurd mix
dead [] (a ∷ m) (b ∷ tail) none (inl nul, mix) = rw nul refl
dead (c ∷ begun) (a ∷ m) (b ∷ tail) none (inl nul, mix) = rw nul refl
dead [] (a ∷ m) (b ∷ tail) none (inr is, mix) = rw is (elim (cases_Bool (b == 123)) [
  | inl same ↦ rw same (dead (123 ∷ []) m tail (rw same at none) mix)
  | inr other ↦ rw other refl
])
dead (c ∷ begun) (a ∷ m) (b ∷ tail) none (inr is, mix) = rw is (elim (cases_Bool (b == 10)) [
  | inl same ↦ absurd (let e = rw same at none in cc)
  | inr other ↦ elim (cases_Bool (b == 0)) [
    | inl same ↦ rw (other, same) refl
    | inr more ↦ rw (other, more) (dead (c ∷ (begun ++ b ∷ [])) m tail (rw (other, more) at none) mix)
  ]
])

pub torn_tail : (m tail : List ℕ) → recovered tail ≡ [] → Mix m tail → recovered m ≡ []
torn_tail m tail none mix = dead [] m tail none mix

-- one byte is no line
pub one_byte : (m : List ℕ) → length m ≤ 1 → recovered m ≡ []
one_byte [] short = refl
one_byte (a ∷ []) short = elim (cases_Bool (a == 123)) [ inl same ↦ rw same refl | inr other ↦ rw other refl ]
one_byte (a ∷ b ∷ m) short = absurd (omega arith)

-- ---- zeros

pub zeros_hold_none : (n : ℕ) (past : List ℕ) → 0 < n → recovered (replicate n 0 ++ past) ≡ []
zeros_hold_none zero past some = absurd (omega arith)
zeros_hold_none (suc n) past some = refl

pub only_zeros_hold_none : (n : ℕ) → recovered (replicate n 0) ≡ []
only_zeros_hold_none zero = refl
only_zeros_hold_none (suc n) = refl

pub get_or-zeros : (n i : ℕ) → get_or {A = ℕ} (replicate n 0) i 0 ≡ 0
get_or-zeros zero i = refl
get_or-zeros (suc n) zero = refl
get_or-zeros (suc n) (suc i) = get_or-zeros n i

pub zeros_some : (n : ℕ) → 0 < n → (past : List ℕ) × (replicate n 0 ≡ 0 ∷ past)
zeros_some zero some = absurd (omega arith)
zeros_some (suc n) some = (replicate n 0, refl)
