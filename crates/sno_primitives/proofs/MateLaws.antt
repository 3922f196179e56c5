-- The ends at which parentheses are closed, one character further to the left.
use Rattle.std.proofs.Common.{◌≡◌, ℕ, zero, suc, ◌+◌, ◌-◌, ◌<◌, ◌≤◌, Bool, true, false, cond, List, [], ◌∷◌, length, drop, get_or, Some, None, nat_eq, nat_lt, refl, ap, sym, ◌∙◌, arith, add-one}
use Rattle.std.proofs.lemmas.List.{drop_all}
use Rattle.std.proofs.lemmas.Bool.{ne_eqb, lt-ltb}
use Rattle.std.specs.List.{filter, range_with_len}
use Rattle.sno_pattern.specs.Ends.{part, balanced, bal_ends}
use Rattle.sno_primitives.specs.Depth.{depth_after}
use Rattle.sno_primitives.specs.Mates.{ends_from}
use Rattle.sno_primitives.specs.Walks.{past, walk, IsStack}
use Rattle.sno_primitives.proofs.BalancedEnds.{step, bal_is}

-- some are open after it: no end here
on : (n place : ℕ) (f : ℕ → List ℕ) → past (Some (suc n)) place f ≡ f (suc n)
on n place f = ap (λ b. cond b (place ∷ f (suc n)) (f (suc n))) (ne_eqb (suc n) 0 (λ e. omega arith))

onto : (d place : ℕ) (f : ℕ → List ℕ) → past (depth_after d 40) place f ≡ f (suc d)
onto d place f = ap (λ n. past (Some n) place f) (add-one d) ∙ on d place f

off : (d place : ℕ) (f : ℕ → List ℕ) → past (depth_after (suc (suc d)) 41) place f ≡ f (suc d)
off d place f =
    let lt : nat_lt 0 (suc (suc d)) ≡ true = lt-ltb 0 (suc (suc d)) (omega arith) in
    let less : suc (suc d) - 1 ≡ suc d = omega arith in
    ap (λ b. past (cond b (Some (suc (suc d) - 1)) None) place f) lt ∙ ap (λ n. past (Some n) place f) less ∙ on d place f

-- the ends from the next cursor, by their number
next_ends : (t : List ℕ) (c : ℕ) → (c + 1) ∷ bal_ends t (c + 1) ≡ ends_from t (c + 1)
next_ends t c = ap (λ n. n ∷ bal_ends t n) (add-one c) ∙ ap (ends_from t) (sym (add-one c))

module _ (t : List ℕ) (c : ℕ) (h : c < length t) where
  unfolded : (x depth : ℕ) → get_or t c 0 ≡ x → walk (drop c t) depth c ≡ past (depth_after depth x) (c + 1) (λ n. walk (drop (c + 1) t) n (c + 1))
  unfolded x depth is = step t c depth c h ∙ ap (λ y. past (depth_after depth y) (c + 1) (λ n. walk (drop (c + 1) t) n (c + 1))) is

  -- a `(` takes the nearest one
  pub opened : (x : ℕ) (s : List ℕ) → get_or t c 0 ≡ 40 → IsStack t (c + 1) (x ∷ s) → IsStack t c s
  opened x s is stack d = unfolded 40 (suc d) is ∙ onto (suc d) (c + 1) (λ n. walk (drop (c + 1) t) n (c + 1)) ∙ stack (suc d)

  pub opened_none : get_or t c 0 ≡ 40 → IsStack t (c + 1) [] → IsStack t c []
  opened_none is stack d = unfolded 40 (suc d) is ∙ onto (suc d) (c + 1) (λ n. walk (drop (c + 1) t) n (c + 1)) ∙ stack (suc d)

  pub opened_first : (s : List ℕ) → get_or t c 0 ≡ 40 → IsStack t (c + 1) s → bal_ends t c ≡ ends_from t (get_or s 0 0)
  opened_first s is stack = bal_is t c ∙ unfolded 40 0 is ∙ onto 0 (c + 1) (λ n. walk (drop (c + 1) t) n (c + 1)) ∙ stack 0

  -- a `)` leaves one more, and has no end itself
  pub closed : (s : List ℕ) → get_or t c 0 ≡ 41 → IsStack t (c + 1) s → IsStack t c ((c + 1) ∷ s)
  closed s is stack zero = unfolded 41 1 is ∙ ap (λ l. (c + 1) ∷ l) (sym (bal_is t (c + 1))) ∙ next_ends t c
  closed s is stack (suc d) = unfolded 41 (suc (suc d)) is ∙ off d (c + 1) (λ n. walk (drop (c + 1) t) n (c + 1)) ∙ stack d

  pub closed_first : get_or t c 0 ≡ 41 → bal_ends t c ≡ []
  closed_first is = bal_is t c ∙ unfolded 41 0 is

  -- another character ends at the next cursor, and leaves the others
  pub plain : (x : ℕ) (s : List ℕ) → get_or t c 0 ≡ x → nat_eq x 40 ≡ false → nat_eq x 41 ≡ false → IsStack t (c + 1) s → IsStack t c s
  plain x s is a b stack d =
      unfolded x (suc d) is
      ∙ ap (λ v. past (cond v (Some (suc d + 1)) (cond (nat_eq x 41) (cond (nat_lt 0 (suc d)) (Some (suc d - 1)) None) (Some (suc d)))) (c + 1) (λ n. walk (drop (c + 1) t) n (c + 1))) a
      ∙ ap (λ v. past (cond v (cond (nat_lt 0 (suc d)) (Some (suc d - 1)) None) (Some (suc d))) (c + 1) (λ n. walk (drop (c + 1) t) n (c + 1))) b
      ∙ on d (c + 1) (λ n. walk (drop (c + 1) t) n (c + 1))
      ∙ stack d

  pub plain_first : (x : ℕ) → get_or t c 0 ≡ x → nat_eq x 40 ≡ false → nat_eq x 41 ≡ false → bal_ends t c ≡ ends_from t (c + 1)
  plain_first x is a b =
      bal_is t c ∙ unfolded x 0 is
      ∙ ap (λ v. past (cond v (Some 1) (cond (nat_eq x 41) None (Some 0))) (c + 1) (λ n. walk (drop (c + 1) t) n (c + 1))) a
      ∙ ap (λ v. past (cond v None (Some 0)) (c + 1) (λ n. walk (drop (c + 1) t) n (c + 1))) b
      ∙ ap (λ l. (c + 1) ∷ l) (sym (bal_is t (c + 1)))
      ∙ next_ends t c

-- at the end of the text nothing is closed
pub none_closed : (t : List ℕ) (c : ℕ) → length t ≤ c → IsStack t c []
none_closed t c h d = ap (λ l. walk l (suc d) c) (drop_all c t h)

-- the first one is between the ends of the range
first_by : (f : ℕ → Bool) (n a e : ℕ) (l : List ℕ) (b : Bool) → f a ≡ b → (filter f (range_with_len (a + 1) n) ≡ e ∷ l → (a + 1 ≤ e) × (e < a + 1 + n))
    → cond b (a ∷ filter f (range_with_len (a + 1) n)) (filter f (range_with_len (a + 1) n)) ≡ e ∷ l → (a ≤ e) × (e < a + suc n)
first_by f n a e l true is others h = let same : a ≡ e = cc in (omega arith, omega arith)
first_by f n a e l false is others h = let inside = others h in (omega arith, omega arith)

first_in : (f : ℕ → Bool) (n a e : ℕ) (l : List ℕ) → filter f (range_with_len a n) ≡ e ∷ l → (a ≤ e) × (e < a + n)
first_in f zero a e l h = cc
first_in f (suc n) a e l h = first_by f n a e l (f a) refl (first_in f n (a + 1) e l) h

pub bal_inside : (t : List ℕ) (c e : ℕ) (l : List ℕ) → c ≤ length t → bal_ends t c ≡ e ∷ l → (c < e) × (e ≤ length t)
bal_inside t c e l low h =
    let inside = first_in (λ e. balanced 0 (part t c e)) (length t - c) (c + 1) e l h in
    (omega arith, omega arith)
