-- The ends of BAL, found in one walk over the rest of the text.
use Rattle.std.proofs.Common.{◌≡◌, ℕ, zero, suc, ◌+◌, ◌-◌, ◌<◌, ◌≤◌, Bool, true, false, ◌&&◌, cond, List, [], ◌∷◌, length, take, drop, get_or, Option, Some, None, nat_eq, nat_lt, refl, ap, sym, ◌∙◌, arith, length-drop, drop-cons, add-one, add-zero}
use Rattle.std.proofs.Math.Seq.{drop-drop}
use Rattle.std.proofs.lemmas.Bool.{ne_eqb}
use Rattle.std.specs.List.{filter, range_with_len}
use Rattle.sno_pattern.specs.Ends.{part, balanced, bal_ends}
use Rattle.sno_primitives.specs.Depth.{depth_after}
use Rattle.sno_primitives.specs.Walks.{past, walk}

-- two tests that agree from a on
same_tests : (f g : ℕ → Bool) (n a : ℕ) → ((e : ℕ) → a ≤ e → f e ≡ g e) → filter f (range_with_len a n) ≡ filter g (range_with_len a n)
same_tests f g zero a h = refl
same_tests f g (suc n) a h =
    ap (λ b. cond b (a ∷ filter f (range_with_len (a + 1) n)) (filter f (range_with_len (a + 1) n))) (h a (omega arith))
    ∙ ap (λ l. cond (g a) (a ∷ l) l) (same_tests f g n (a + 1) (λ e low. h e (omega arith)))

no_tests : (es : List ℕ) → filter (λ e. false) es ≡ []
no_tests [] = refl
no_tests (e ∷ es) = no_tests es

-- whether the rest is balanced, after a character
abbrev still : Option ℕ → List ℕ → Bool
still None rest = false
still (Some depth) rest = balanced depth rest

closed : (b : Bool) (depth : ℕ) (rest : List ℕ) → (b && balanced depth rest) ≡ still (cond b (Some depth) None) rest
closed true depth rest = refl
closed false depth rest = refl

by_tests : (a b : Bool) (depth : ℕ) (rest : List ℕ) →
    cond a (balanced (depth + 1) rest) (cond b (nat_lt 0 depth && balanced (depth - 1) rest) (balanced depth rest))
    ≡ still (cond a (Some (depth + 1)) (cond b (cond (nat_lt 0 depth) (Some (depth - 1)) None) (Some depth))) rest
by_tests true b depth rest = refl
by_tests false true depth rest = closed (nat_lt 0 depth) (depth - 1) rest
by_tests false false depth rest = refl

still_is : (depth x : ℕ) (rest : List ℕ) → balanced depth (x ∷ rest) ≡ still (depth_after depth x) rest
still_is depth x rest = by_tests (nat_eq x 40) (nat_eq x 41) depth rest

-- the tests from a place on, by what is open there
abbrev tested : Option ℕ → List ℕ → ℕ → List ℕ
tested after rest place = filter (λ e. still after (take (e - place) rest)) (range_with_len (place + 1) (length rest))

by_depth : (after : Option ℕ) (rest : List ℕ) (place : ℕ) → ((n : ℕ) → tested (Some n) rest place ≡ walk rest n place)
    → cond (still after []) (place ∷ tested after rest place) (tested after rest place) ≡ past after place (λ n. walk rest n place)
by_depth None rest place h = no_tests (range_with_len (place + 1) (length rest))
by_depth (Some n) rest place h = ap (λ l. cond (nat_eq n 0) (place ∷ l) l) (h n)

-- the first test, and the others, after a character
first_test : (depth x : ℕ) (rest : List ℕ) (place : ℕ) → balanced depth (take (place + 1 - place) (x ∷ rest)) ≡ still (depth_after depth x) []
first_test depth x rest place =
    let one : place + 1 - place ≡ suc zero = omega arith in
    ap (λ n. balanced depth (take n (x ∷ rest))) one ∙ still_is depth x []

other_test : (depth x : ℕ) (rest : List ℕ) (place e : ℕ) → place + 1 + 1 ≤ e → balanced depth (take (e - place) (x ∷ rest)) ≡ still (depth_after depth x) (take (e - (place + 1)) rest)
other_test depth x rest place e low =
    let more : e - place ≡ suc (e - (place + 1)) = omega arith in
    ap (λ n. balanced depth (take n (x ∷ rest))) more ∙ still_is depth x (take (e - (place + 1)) rest)

both_tests : (f : ℕ → Bool) (a : ℕ) (es gs : List ℕ) (b : Bool) → f a ≡ b → filter f es ≡ gs → cond (f a) (a ∷ filter f es) (filter f es) ≡ cond b (a ∷ gs) gs
both_tests f a es gs b h g = ap (λ v. cond v (a ∷ filter f es) (filter f es)) h ∙ ap (λ l. cond b (a ∷ l) l) g

-- the walk finds what the definition has
walk_is : (l : List ℕ) (depth place : ℕ) → filter (λ e. balanced depth (take (e - place) l)) (range_with_len (place + 1) (length l)) ≡ walk l depth place
walk_is [] depth place = refl
walk_is (x ∷ rest) depth place =
    both_tests (λ e. balanced depth (take (e - place) (x ∷ rest))) (place + 1) (range_with_len (place + 1 + 1) (length rest)) (tested (depth_after depth x) rest (place + 1)) (still (depth_after depth x) [])
    (first_test depth x rest place)
    (same_tests (λ e. balanced depth (take (e - place) (x ∷ rest))) (λ e. still (depth_after depth x) (take (e - (place + 1)) rest)) (length rest) (place + 1 + 1) (λ e low. other_test depth x rest place e low))
    ∙ by_depth (depth_after depth x) rest (place + 1) (λ n. walk_is rest n (place + 1))

-- the ends of BAL
pub bal_is : (t : List ℕ) (c : ℕ) → bal_ends t c ≡ walk (drop c t) 0 c
bal_is t c =
    ap (λ n. filter (λ e. balanced 0 (part t c e)) (range_with_len (c + 1) n)) (sym (length-drop c t)) ∙ walk_is (drop c t) 0 c

-- one character further
pub step : (rest : List ℕ) (i depth place : ℕ) → i < length rest → walk (drop i rest) depth place ≡ past (depth_after depth (get_or rest i 0)) (place + 1) (λ n. walk (drop (i + 1) rest) n (place + 1))
step rest i depth place h =
    ap (λ l. walk l depth place) (drop-cons rest i 0 h)
    ∙ ap (λ k. past (depth_after depth (get_or rest i 0)) (place + 1) (λ n. walk (drop k rest) n (place + 1))) (sym (add-one i))

-- the walk begins at the cursor
pub begun : (t rest : List ℕ) (c : ℕ) → rest ≡ drop c t → bal_ends t c ≡ walk rest 0 (c + 0)
begun t rest c is = bal_is t c ∙ ap (λ l. walk l 0 c) (sym is) ∙ ap (walk rest 0) (sym (add-zero c))

module _ (t rest : List ℕ) (c i depth after : ℕ) (is : rest ≡ drop c t) (more : i < length rest)
    (found : bal_ends t c ≡ walk (drop i rest) depth (c + i)) (taken : Some after ≡ depth_after depth (get_or rest i 0)) where
  taken_on : bal_ends t c ≡ past (Some after) (c + i + 1) (λ n. walk (drop (i + 1) rest) n (c + i + 1))
  taken_on = found ∙ step rest i depth (c + i) more ∙ ap (λ o. past o (c + i + 1) (λ n. walk (drop (i + 1) rest) n (c + i + 1))) (sym taken)

  others : walk (drop (i + 1) rest) 0 (c + i + 1) ≡ bal_ends t (c + i + 1)
  others =
      let place : c + (i + 1) ≡ c + i + 1 = omega arith in
      ap (λ l. walk (drop (i + 1) l) 0 (c + i + 1)) is
      ∙ ap (λ l. walk l 0 (c + i + 1)) (drop-drop (i + 1) c t)
      ∙ ap (λ k. walk (drop k t) 0 (c + i + 1)) place
      ∙ sym (bal_is t (c + i + 1))

  -- nothing is open: an end, and from there on the walk begins again
  pub found_here : after ≡ 0 → bal_ends t c ≡ (c + i + 1) ∷ bal_ends t (c + i + 1)
  found_here none =
      taken_on ∙ ap (λ n. past (Some n) (c + i + 1) (λ m. walk (drop (i + 1) rest) m (c + i + 1))) none ∙ ap (λ l. (c + i + 1) ∷ l) others

  -- some are open: no end here
  pub gone_on : (after ≡ 0 → ⊥) → bal_ends t c ≡ walk (drop (i + 1) rest) after (c + (i + 1))
  gone_on some =
      let place : c + i + 1 ≡ c + (i + 1) = omega arith in
      taken_on
      ∙ ap (λ b. cond b ((c + i + 1) ∷ walk (drop (i + 1) rest) after (c + i + 1)) (walk (drop (i + 1) rest) after (c + i + 1))) (ne_eqb after 0 some)
      ∙ ap (walk (drop (i + 1) rest) after) place
