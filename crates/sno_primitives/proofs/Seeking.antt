-- The first character of a text that is in a set.
use Rattle.std.proofs.Common.{◌≡◌, ℕ, ◌<◌, ◌≤◌, Bool, true, false, not, ◌||◌, ◌==◌, List, [], ◌∷◌, length, take, drop, get_or-take, get_or-drop, take_all, ◌+◌, ◌-◌, inl, inr, Option, None, Some, slice_index, nat_eq, refl, ap, sym, ◌∙◌, subst, arith}
use Rattle.std.specs.List.{take_while, prefix_len}
use Rattle.std.proofs.lemmas.Bool.{cases_lt}
use Rattle.std.proofs.lemmas.List.{length-take, length-drop}
use Rattle.std.proofs.lemmas.List.Folds.{length-prefix_len}
use Rattle.std.proofs.lemmas.List.Sums.{prefix_len-le-length, prefix_len_passes, prefix_len_stops}
use Rattle.memchr.specs.Find.{IsFirstByte, is_byte, is_byte2, is_byte3}
use Rattle.sno_pattern.specs.Classes.{has}

or_none : (b : Bool) → (b || false) ≡ b
or_none true = refl
or_none false = refl

or_three : (a b d : Bool) → (a || (b || d)) ≡ ((a || b) || d)
or_three true b d = refl
or_three false b d = refl

-- tests that agree find the same
alike : (f g : ℕ → Bool) (text : List ℕ) (r : Option ℕ) → ((x : ℕ) → f x ≡ g x) → IsFirstByte g text r → IsFirstByte f text r
alike f g text r same first = let tests : g ≡ f = λ i x. sym (same x) i in subst (λ test. IsFirstByte test text r) tests first

turned : (a x : ℕ) → nat_eq a x ≡ (x == a)
turned a x = grind (arith)

-- a set that has only one, two or three members
pub first_of_one : (members : List ℕ) (text : List ℕ) (r : Option ℕ) → 1 ≤ length members → length members < 2
    → IsFirstByte (is_byte (slice_index members 0)) text r → IsFirstByte (has members) text r
first_of_one [] text r low high first = absurd (omega arith)
first_of_one (a ∷ []) text r low high first = alike (has (a ∷ [])) (is_byte a) text r (λ x. or_none (nat_eq a x) ∙ turned a x) first
first_of_one (a ∷ b ∷ members) text r low high first = absurd (omega arith)

pub first_of_two : (members : List ℕ) (text : List ℕ) (r : Option ℕ) → 2 ≤ length members → length members < 3
    → IsFirstByte (is_byte2 (slice_index members 0) (slice_index members 1)) text r → IsFirstByte (has members) text r
first_of_two [] text r low high first = absurd (omega arith)
first_of_two (a ∷ []) text r low high first = absurd (omega arith)
first_of_two (a ∷ b ∷ []) text r low high first =
    alike (has (a ∷ b ∷ [])) (is_byte2 a b) text r
    (λ x. ap (λ z. nat_eq a x || z) (or_none (nat_eq b x) ∙ turned b x) ∙ ap (λ z. z || (x == b)) (turned a x)) first
first_of_two (a ∷ b ∷ d ∷ members) text r low high first = absurd (omega arith)

pub first_of_three : (members : List ℕ) (text : List ℕ) (r : Option ℕ) → 3 ≤ length members → length members < 4
    → IsFirstByte (is_byte3 (slice_index members 0) (slice_index members 1) (slice_index members 2)) text r → IsFirstByte (has members) text r
first_of_three [] text r low high first = absurd (omega arith)
first_of_three (a ∷ []) text r low high first = absurd (omega arith)
first_of_three (a ∷ b ∷ []) text r low high first = absurd (omega arith)
first_of_three (a ∷ b ∷ d ∷ []) text r low high first =
    alike (has (a ∷ b ∷ d ∷ [])) (is_byte3 a b d) text r
    (λ x. ap (λ z. nat_eq a x || (nat_eq b x || z)) (or_none (nat_eq d x) ∙ turned d x)
    ∙ or_three (nat_eq a x) (nat_eq b x) (x == d)
    ∙ ap (λ z. (z || nat_eq b x) || (x == d)) (turned a x)
    ∙ ap (λ z. ((x == a) || z) || (x == d)) (turned b x))
    first
first_of_three (a ∷ b ∷ d ∷ e ∷ members) text r low high first = absurd (omega arith)

not_true : (b : Bool) → not b ≡ true → b ≡ true → ⊥
not_true true h g = cc
not_true false h g = cc

not_false : (b : Bool) → not b ≡ false → b ≡ true
not_false true h = refl
not_false false h = cc

-- this many characters come before it
module _ (test : ℕ → Bool) (l : List ℕ) where
  pub passed_is : (k : ℕ) → IsFirstByte test l (Some k) → length (take_while (λ x. not (test x)) l) ≡ k
  passed_is k first =
      let run : ℕ = prefix_len (λ x. not (test x)) l in
      let early : run < k → ⊥ = λ h. first.0.before run (omega arith) h (not_false (test (slice_index l run)) (prefix_len_stops (λ x. not (test x)) l 0 (omega (arith, first.0.high)))) in
      let late : k < run → ⊥ = λ h. not_true (test (slice_index l k)) (prefix_len_passes (λ x. not (test x)) l k 0 h) first.1 in
      length-prefix_len (λ x. not (test x)) l ∙ omega (arith, early, late)

  pub all_passed : IsFirstByte test l None → length (take_while (λ x. not (test x)) l) ≡ length l
  all_passed none =
      let run : ℕ = prefix_len (λ x. not (test x)) l in
      let early : run < length l → ⊥ = λ h. none run (omega arith) h (not_false (test (slice_index l run)) (prefix_len_stops (λ x. not (test x)) l 0 h)) in
      length-prefix_len (λ x. not (test x)) l ∙ omega (arith, early, prefix_len-le-length (λ x. not (test x)) l)

  -- and the other way round: the character after those is the first
  pub first_after : (k : ℕ) → k ≡ length (take_while (λ x. not (test x)) l) → k < length l → IsFirstByte test l (Some k)
  first_after k is within =
      let run : k ≡ prefix_len (λ x. not (test x)) l = is ∙ length-prefix_len (λ x. not (test x)) l in
      let passes : (j : ℕ) → j < k → test (slice_index l j) ≡ true → ⊥ = λ j h. not_true (test (slice_index l j)) (prefix_len_passes (λ x. not (test x)) l j 0 (omega arith)) in
      let stops = not_false (test (slice_index l (prefix_len (λ x. not (test x)) l))) (prefix_len_stops (λ x. not (test x)) l 0 (omega arith)) in
      (record { low = omega arith; high = within; before = λ j _ h. passes j h }, subst (λ j. test (slice_index l j) ≡ true) (sym run) stops)

  pub none_after : (k : ℕ) → k ≡ length (take_while (λ x. not (test x)) l) → length l ≤ k → IsFirstByte test l None
  none_after k is past j low high =
      let run = length-prefix_len (λ x. not (test x)) l in
      not_true (test (slice_index l j)) (prefix_len_passes (λ x. not (test x)) l j 0 (omega arith))

  -- the first of the first characters, and the first of a short text
  module _ (n : ℕ) (front : List ℕ) (is : front ≡ take n l) where
    pub first_near : (k : ℕ) → IsFirstByte test front (Some k) → IsFirstByte test l (Some k)
    first_near k first =
        let long : length front ≡ length (take n l) = ap length is in
        let near : k < n = omega (arith, first.0.high, length-take n l) in
        let there : (j : ℕ) → j < n → slice_index front j ≡ slice_index l j = λ j h. ap (λ s. slice_index s j) is ∙ get_or-take n l j 0 h in (
          record {
            low = omega arith;
            high = omega (arith, first.0.high, length-take n l);
            before = λ j low high passes. first.0.before j low high (ap test (there j (omega arith)) ∙ passes);
          },
          ap test (sym (there k near)) ∙ first.1,
        )

    pub none_near : length l ≤ n → IsFirstByte test front None → IsFirstByte test l None
    none_near short none = subst (λ s. IsFirstByte test s None) (is ∙ take_all n l short) none

  -- the first after a run through characters that don't pass
  module _ (go : ℕ → Bool) (run : ℕ) (is : run ≡ length (take_while go l)) (others : (x : ℕ) → go x ≡ true → test x ≡ false) where
    pub run_within : run ≤ length l
    run_within = omega (arith, is, length-prefix_len go l, prefix_len-le-length go l)

    in_run : (j : ℕ) → j < run → test (slice_index l j) ≡ true → ⊥
    in_run j within passes =
        let through = prefix_len_passes go l j 0 (omega (arith, is, length-prefix_len go l)) in
        let not_here = others (slice_index l j) through in
        cc

    past_run : (j : ℕ) → run ≤ j → slice_index (drop run l) (j - run) ≡ slice_index l j
    past_run j low = get_or-drop run l (j - run) 0 ∙ ap (slice_index l) (omega arith)

    pub first_past : (k : ℕ) → IsFirstByte test (drop run l) (Some k) → IsFirstByte test l (Some (run + k))
    first_past k first =
        let here : run + k - run ≡ k = omega arith in (
          record {
            low = omega arith;
            high = omega (arith, first.0.high, length-drop run l);
            before = λ j _ high passes.
                elim (cases_lt j run) [
                  | inl within ↦ in_run j within passes
                  | inr past ↦ first.0.before (j - run) (omega arith) (omega arith) (ap test (past_run j past) ∙ passes)
                ];
          },
          ap test (sym (past_run (run + k) (omega arith)) ∙ ap (slice_index (drop run l)) here) ∙ first.1,
        )

    pub none_past : IsFirstByte test (drop run l) None → IsFirstByte test l None
    none_past none j low high passes =
        elim (cases_lt j run) [
          | inl within ↦ in_run j within passes
          | inr past ↦ none (j - run) (omega arith) (omega (arith, length-drop run l)) (ap test (past_run j past) ∙ passes)
        ]
