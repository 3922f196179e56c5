-- The longest front of characters that pass, and what stops it.
use Rattle.std.proofs.Common.{◌≡◌, ℕ, suc, ◌+◌, ◌<◌, Bool, true, false, cond, List, [], ◌∷◌, ◌++◌, length, take, drop, nat_eq, refl, sym, ap, arith, one-add}
use Rattle.std.specs.List.{prefix_len, list_all}
use Rattle.std.proofs.lemmas.Bool.{and_parts, not-false, eqb-true}
use Rattle.std.proofs.lemmas.List.{take_at, drop_at, take-append-drop}
use Rattle.sno_read.specs.Characters.{front, rest_after, begins, is_other}

run_more : (v : Bool) (n m : ℕ) → v ≡ true → n ≡ m → cond v (1 + n) 0 ≡ suc m
run_more true n m e h = omega arith
run_more false n m e h = cc

-- how long that front is
pub prefix_run : (p : ℕ → Bool) (x r : List ℕ) → list_all p x ≡ true → begins p r ≡ false → prefix_len p (x ++ r) ≡ length x
prefix_run p [] [] h e = refl
prefix_run p [] (c ∷ r) h e = rw e refl
prefix_run p (c ∷ x) r h e = run_more (p c) _ _ (and_parts (p c) (list_all p x) h).0 (prefix_run p x r (and_parts (p c) (list_all p x) h).1 e)

-- a front that passes, before what doesn't begin so, is the longest
pub front_run : (p : ℕ → Bool) (x r : List ℕ) → list_all p x ≡ true → begins p r ≡ false → front p (x ++ r) ≡ x
front_run p x r h e = take_at x r _ (sym (prefix_run p x r h e))

pub behind_run : (p : ℕ → Bool) (x r : List ℕ) → list_all p x ≡ true → begins p r ≡ false → rest_after p (x ++ r) ≡ r
behind_run p x r h e = drop_at x r _ (sym (prefix_run p x r h e))

passes_more : (p : ℕ → Bool) (c : ℕ) (cs : List ℕ) (n : ℕ) (v : Bool) → p c ≡ v → list_all p (take n cs) ≡ true → list_all p (take (cond v (1 + n) 0) (c ∷ cs)) ≡ true
passes_more p c cs n true e h = rw (one-add n, e) h
passes_more p c cs n false e h = refl

-- the front passes
pub front_passes : (p : ℕ → Bool) (text : List ℕ) → list_all p (front p text) ≡ true
front_passes p [] = refl
front_passes p (c ∷ cs) = passes_more p c cs _ (p c) refl (front_passes p cs)

stops_more : (p : ℕ → Bool) (c : ℕ) (cs : List ℕ) (n : ℕ) (v : Bool) → p c ≡ v → begins p (drop n cs) ≡ false → begins p (drop (cond v (1 + n) 0) (c ∷ cs)) ≡ false
stops_more p c cs n true e h = rw (one-add n) h
stops_more p c cs n false e h = e

-- what comes after doesn't pass
pub behind_stops : (p : ℕ → Bool) (text : List ℕ) → begins p (rest_after p text) ≡ false
behind_stops p [] = refl
behind_stops p (c ∷ cs) = stops_more p c cs _ (p c) refl (behind_stops p cs)

-- front and rest are the text
pub front_behind : (p : ℕ → Bool) (text : List ℕ) → text ≡ front p text ++ rest_after p text
front_behind p text = sym (take-append-drop (prefix_len p text) text)

-- a text that begins with a character
pub begins_shape : (c : ℕ) (text : List ℕ) → begins (λ d. nat_eq d c) text ≡ true → text ≡ c ∷ drop 1 text
begins_shape c [] h = cc
begins_shape c (d ∷ ds) h = ap (λ k. k ∷ ds) (eqb-true d c h)

-- a text that isn't empty and doesn't begin with another character
pub other_shape : (c : ℕ) (text : List ℕ) → 0 < length text → begins (is_other c) text ≡ false → text ≡ c ∷ drop 1 text
other_shape c [] l h = absurd (omega arith)
other_shape c (d ∷ ds) l h = ap (λ k. k ∷ ds) (eqb-true d c (not-false _ h))
