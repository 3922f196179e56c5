-- A run by its first part, and by what follows that part.
use Rattle.std.proofs.Common.{◌≡◌, ℕ, zero, suc, ◌+◌, ◌<◌, ◌≤◌, Bool, true, false, cond, List, [], ◌∷◌, length, take, drop, refl, ap, sym, ◌∙◌, arith, length-drop}
use Rattle.std.proofs.Math.Seq.{drop-drop}
use Rattle.std.proofs.lemmas.List.{length-take}
use Rattle.std.proofs.lemmas.List.Folds.{length-prefix_len}
use Rattle.std.proofs.lemmas.List.Sums.{prefix_len-le-length, take_while-cons}
use Rattle.std.specs.List.{take_while}
use Rattle.sno_primitives.specs.Runs.{goes_through, run_end}

-- how many characters in a row pass
abbrev pub count : (ℕ → Bool) → List ℕ → ℕ
count p l = length (take_while p l)

count-cons : (p : ℕ → Bool) (x : ℕ) (l : List ℕ) (b : Bool) → p x ≡ b → count p (x ∷ l) ≡ cond b (suc (count p l)) 0
count-cons p x l true is = ap length (take_while-cons p x l) ∙ ap (λ b. length (cond b (x ∷ take_while p l) [])) is
count-cons p x l false is = ap length (take_while-cons p x l) ∙ ap (λ b. length (cond b (x ∷ take_while p l) [])) is

few_by : (p : ℕ → Bool) (n x : ℕ) (l : List ℕ) (b : Bool) → p x ≡ b → count p l ≤ n → count p (x ∷ l) ≤ suc n
few_by p n x l true is few = let e = count-cons p x l true is in omega arith
few_by p n x l false is few = let e = count-cons p x l false is in omega arith

-- a first part has no more characters than were asked for
count-few : (p : ℕ → Bool) (n : ℕ) (l : List ℕ) → count p (take n l) ≤ n
count-few p zero l = omega arith
count-few p (suc n) [] = omega arith
count-few p (suc n) (x ∷ l) = few_by p n x (take n l) (p x) refl (count-few p n l)

count-le : (p : ℕ → Bool) (l : List ℕ) → count p l ≤ length l
count-le p l = omega (arith, length-prefix_len p l, prefix_len-le-length p l)

stops_by : (p : ℕ → Bool) (n x : ℕ) (l : List ℕ) (b : Bool) → p x ≡ b → (count p (take n l) < n → count p l ≡ count p (take n l))
    → count p (x ∷ take n l) < suc n → count p (x ∷ l) ≡ count p (x ∷ take n l)
stops_by p n x l true is others h =
    let e = count-cons p x l true is in
    let f = count-cons p x (take n l) true is in
    let same : count p l ≡ count p (take n l) = others (omega arith) in
    omega arith
stops_by p n x l false is others h = count-cons p x l false is ∙ sym (count-cons p x (take n l) false is)

-- a run that stops within a first part
pub count-stops : (p : ℕ → Bool) (n : ℕ) (l : List ℕ) → count p (take n l) < n → count p l ≡ count p (take n l)
count-stops p zero l h = absurd (omega arith)
count-stops p (suc n) [] h = refl
count-stops p (suc n) (x ∷ l) h = stops_by p n x l (p x) refl (count-stops p n l) h

goes_by : (p : ℕ → Bool) (n x : ℕ) (l : List ℕ) (b : Bool) → p x ≡ b → (count p (take n l) ≡ n → count p l ≡ n + count p (drop n l))
    → count p (x ∷ take n l) ≡ suc n → count p (x ∷ l) ≡ suc n + count p (drop n l)
goes_by p n x l true is others h =
    let e = count-cons p x l true is in
    let f = count-cons p x (take n l) true is in
    let same : count p l ≡ n + count p (drop n l) = others (omega arith) in
    omega arith
goes_by p n x l false is others h = let f = count-cons p x (take n l) false is in absurd (omega arith)

-- a run that goes through a whole first part
pub count-goes_on : (p : ℕ → Bool) (n : ℕ) (l : List ℕ) → count p (take n l) ≡ n → count p l ≡ n + count p (drop n l)
count-goes_on p zero l h = omega arith
count-goes_on p (suc n) [] h = absurd (omega arith)
count-goes_on p (suc n) (x ∷ l) h = goes_by p n x l (p x) refl (count-goes_on p n l) h

module _ (inside : Bool) (members t : List ℕ) (c left run : ℕ) (is : run ≡ count (goes_through inside members) (take left (drop c t))) where
  -- the run ends within the first part
  pub ends_there : run < left → c + run ≡ run_end inside members t c
  ends_there h = ap (λ n. c + n) (is ∙ sym (count-stops (goes_through inside members) left (drop c t) (omega arith)))

  -- the run goes on past the first part
  pub goes_on : c ≤ length t → left ≤ run → (c + left ≤ length t) × (run_end inside members t c ≡ run_end inside members t (c + left))
  goes_on low h =
      let few = count-few (goes_through inside members) left (drop c t) in
      let short = count-le (goes_through inside members) (take left (drop c t)) in
      let far = count-goes_on (goes_through inside members) left (drop c t) (omega arith) in
      let there : drop left (drop c t) ≡ drop (c + left) t = drop-drop left c t in
      let same = ap (count (goes_through inside members)) there in
      (omega (arith, length-drop c t, length-take left (drop c t)), omega arith)
