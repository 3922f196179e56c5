-- A match goes by equality and by sets: under faithful numbers it has the same events at the same cursors.
use Rattle.std.proofs.Common.{◌≡◌, ℕ, zero, suc, ◌+◌, ◌-◌, ◌*◌, Bool, true, false, not, cond, ◌&&◌, List, [], ◌∷◌, ◌++◌, length, map, take, drop, nat_eq, nat_lt, nat_le, slice_get, refl, ap, ◌∙◌}
use Rattle.std.specs.List.{All, starts_with, take_while, prefix_len, filter, flat_map, range_with_len}
use Rattle.std.specs.Cmp.Lexicographic.{pointwise}
use Rattle.std.proofs.lemmas.List.{length-map, drop-map, take-map}
use Rattle.std.proofs.lemmas.List.Elements.{All-head, All-tail}
use Rattle.sno_pattern.specs.Tree as tree
use Rattle.sno_pattern.specs.Tree.{Tree}
use Rattle.sno_pattern.specs.Classes.{has}
use Rattle.sno_pattern.specs.Ends.{part, end_if, one_ends, balanced, bal_ends}
use Rattle.sno_pattern.specs.Events.{cut, go_on, assign_later, assign_now}
use Rattle.sno_pattern.specs.Results.{ends, rounds, of_body, results_of, definition_results, enough_depth}
use Rattle.sno_pattern.specs.Outcome.{tried_from, cut_scan, starts_from, scan_from, found_in, trials_in, outcome_at_from, outcome_from, trials_at_from, trials_from}
use Rattle.sno_images.specs.Renumbering.{renumbered, IsAlone, IsFaithful, AreFaithful}
use Rattle.sno_pattern.specs.declared.events.Event.{Event}

same_filter : {p q : ℕ → Bool} → ((x : ℕ) → p x ≡ q x) → (xs : List ℕ) → filter p xs ≡ filter q xs
same_filter {p} {q} h xs = ap (λ t. filter t xs) (λ i x. h x i)

module _ (f : ℕ → ℕ) where
  -- ---- literals
  equal_again : (s t : List ℕ) → All (IsAlone f) s → pointwise nat_eq (map f s) (map f t) ≡ pointwise nat_eq s t
  equal_again [] [] alone = refl
  equal_again [] (x ∷ t) alone = refl
  equal_again (y ∷ s) [] alone = refl
  equal_again (y ∷ s) (x ∷ t) alone =
      ap (λ b. b && pointwise nat_eq (map f s) (map f t)) (All-head (IsAlone f) y s alone x)
      ∙ ap (λ b. nat_eq y x && b) (equal_again s t (All-tail (IsAlone f) y s alone))

  begins_again : (t s : List ℕ) → All (IsAlone f) s → starts_with nat_eq (map f t) (map f s) ≡ starts_with nat_eq t s
  begins_again t s alone =
      ap (λ n. pointwise nat_eq (map f s) (take n (map f t))) (length-map s f)
      ∙ ap (pointwise nat_eq (map f s)) (take-map f (length s) t)
      ∙ equal_again s (take (length s) t) alone

  -- ---- sets: `old` says of a character what `new` says of its number
  run_again : (new old : ℕ → Bool) → ((x : ℕ) → new (f x) ≡ old x) → (t : List ℕ) → prefix_len new (map f t) ≡ prefix_len old t
  run_again new old h [] = refl
  run_again new old h (x ∷ t) = ap (λ b. cond b (1 + prefix_len new (map f t)) 0) (h x) ∙ ap (λ n. cond (old x) (1 + n) 0) (run_again new old h t)

  run_from_again : (new old : ℕ → Bool) → ((x : ℕ) → new (f x) ≡ old x) → (t : List ℕ) (c : ℕ)
      → length (take_while new (drop c (map f t))) ≡ length (take_while old (drop c t))
  run_from_again new old h t c =
      ap (λ l. length (take_while new l)) (drop-map f c t)
      ∙ ap (λ n. length (take n (map f (drop c t)))) (run_again new old h (drop c t))
      ∙ ap length (take-map f (prefix_len old (drop c t)) (drop c t))
      ∙ length-map (take (prefix_len old (drop c t)) (drop c t)) f

  one_again : (new old : ℕ → Bool) → ((x : ℕ) → new (f x) ≡ old x) → (t : List ℕ) (c : ℕ) → one_ends new (map f t) c ≡ one_ends old t c
  one_again new old h [] c = refl
  one_again new old h (x ∷ t) c = ap (λ b. end_if b (c + 1)) (h x)

  part_again : (t : List ℕ) (c e : ℕ) → part (map f t) c e ≡ map f (part t c e)
  part_again t c e = ap (take (e - c)) (drop-map f c t) ∙ take-map f (e - c) (drop c t)

  module _ (opening : (x : ℕ) → nat_eq (f x) 40 ≡ nat_eq x 40) (closing : (x : ℕ) → nat_eq (f x) 41 ≡ nat_eq x 41) where
    -- ---- parentheses
    balanced_again : (t : List ℕ) (d : ℕ) → balanced d (map f t) ≡ balanced d t
    balanced_again [] d = refl
    balanced_again (x ∷ t) d =
        ap (λ b. cond b (balanced (d + 1) (map f t)) (cond (nat_eq (f x) 41) (nat_lt 0 d && balanced (d - 1) (map f t)) (balanced d (map f t)))) (opening x)
        ∙ ap (λ b. cond (nat_eq x 40) (balanced (d + 1) (map f t)) (cond b (nat_lt 0 d && balanced (d - 1) (map f t)) (balanced d (map f t)))) (closing x)
        ∙ ap (λ z. cond (nat_eq x 40) z (cond (nat_eq x 41) (nat_lt 0 d && balanced (d - 1) (map f t)) (balanced d (map f t)))) (balanced_again t (d + 1))
        ∙ ap (λ z. cond (nat_eq x 40) (balanced (d + 1) t) (cond (nat_eq x 41) (nat_lt 0 d && z) (balanced d (map f t)))) (balanced_again t (d - 1))
        ∙ ap (λ z. cond (nat_eq x 40) (balanced (d + 1) t) (cond (nat_eq x 41) (nat_lt 0 d && balanced (d - 1) t) z)) (balanced_again t d)

    part_balanced_again : (t : List ℕ) (c e : ℕ) → balanced 0 (part (map f t) c e) ≡ balanced 0 (part t c e)
    part_balanced_again t c e = ap (balanced 0) (part_again t c e) ∙ balanced_again (part t c e) 0

    bal_again : (t : List ℕ) (c : ℕ) → bal_ends (map f t) c ≡ bal_ends t c
    bal_again t c =
        ap (λ n. filter (λ e. balanced 0 (part (map f t) c e)) (range_with_len (c + 1) (n - c))) (length-map t f)
        ∙ same_filter (part_balanced_again t c) (range_with_len (c + 1) (length t - c))

    module _ (t : List ℕ) where
      -- ---- what a pattern does from a cursor
      same_events : (p : Tree) → IsFaithful f p → {new old : ℕ → ℕ → List Event} → new ≡ old → (c : ℕ)
          → results_of (map f t) new (renumbered f p) c ≡ results_of t old p c
      unfolding results_of
      same_events (tree.Lit s) h g c =
          ap (λ b. ends (end_if b (c + length (map f s)))) (ap (λ l. starts_with nat_eq l (map f s)) (drop-map f c t) ∙ begins_again (drop c t) s h)
          ∙ ap (λ n. ends (end_if (starts_with nat_eq (drop c t) s) (c + n))) (length-map s f)
      same_events (tree.Len n) h g c = ap (λ l. ends (end_if (nat_le (c + n) l) (c + n))) (length-map t f)
      same_events (tree.Pos n) h g c = refl
      same_events (tree.Rpos n) h g c = ap (λ l. ends (end_if (nat_eq (c + n) l) c)) (length-map t f)
      same_events (tree.Tab n) h g c = ap (λ l. ends (end_if (nat_le c n && nat_le n l) n)) (length-map t f)
      same_events (tree.Rtab n) h g c = ap (λ l. ends (end_if (nat_le (c + n) l) (l - n))) (length-map t f)
      same_events (tree.AnyOf s) h g c =
          ap (λ l. ends (one_ends (has (map f s)) l c)) (drop-map f c t) ∙ ap ends (one_again (has (map f s)) (has s) h (drop c t) c)
      same_events (tree.NoneOf s) h g c =
          ap (λ l. ends (one_ends (λ x. not (has (map f s) x)) l c)) (drop-map f c t)
          ∙ ap ends (one_again (λ x. not (has (map f s) x)) (λ x. not (has s x)) (λ x. ap not (h x)) (drop c t) c)
      same_events (tree.Span s) h g c = ap (λ n. ends (end_if (not (nat_eq n 0)) (c + n))) (run_from_again (has (map f s)) (has s) h t c)
      same_events (tree.Break s) h g c =
          ap (λ n. ends (end_if (nat_lt (c + n) (length (map f t))) (c + n))) (run_from_again (λ x. not (has (map f s) x)) (λ x. not (has s x)) (λ x. ap not (h x)) t c)
          ∙ ap (λ l. ends (end_if (nat_lt (c + length (take_while (λ x. not (has s x)) (drop c t))) l) (c + length (take_while (λ x. not (has s x)) (drop c t))))) (length-map t f)
      same_events tree.Arb h g c = ap (λ l. ends (range_with_len c (suc l - c))) (length-map t f)
      same_events (tree.Arbno p) h {new} {old} g c =
          ap (λ l. rounds (results_of (map f t) new (renumbered f p)) (l - c + 1) c) (length-map t f)
          ∙ ap (λ (r : ℕ → List Event). rounds r (length t - c + 1) c) (λ i x. same_events p h g x i)
      same_events tree.Bal h g c = ap ends (bal_again t c)
      same_events tree.Rem h g c = ap (λ l. ends (l ∷ [])) (length-map t f)
      same_events tree.Fence h g c = refl
      same_events tree.Abort h g c = refl
      same_events tree.Fail h g c = refl
      same_events (tree.At v) h g c = refl
      same_events (tree.Ref i) h g c = ap (λ (n : ℕ → ℕ → List Event). n i c) g
      same_events (tree.Seq p q) h {new} {old} g c =
          ap (λ l. go_on l (results_of (map f t) new (renumbered f q))) (same_events p h.0 g c)
          ∙ ap (λ (r : ℕ → List Event). go_on (results_of t old p c) r) (λ i x. same_events q h.1 g x i)
      same_events (tree.Alt p q) h {new} {old} g c =
          ap (λ l. cut (l ++ results_of (map f t) new (renumbered f q) c)) (same_events p h.0 g c)
          ∙ ap (λ l. cut (results_of t old p c ++ l)) (same_events q h.1 g c)
      same_events (tree.Cond p v) h g c = ap (assign_later v c) (same_events p h g c)
      same_events (tree.Imm p v) h g c = ap (assign_now v c) (same_events p h g c)

      same_body : (bodies : List Tree) → All (IsFaithful f) bodies → {new old : ℕ → ℕ → List Event} → new ≡ old → (i c : ℕ)
          → of_body (results_of (map f t) new) (slice_get (map (renumbered f) bodies) i) c ≡ of_body (results_of t old) (slice_get bodies i) c
      same_body [] h g i c = refl
      same_body (p ∷ bodies) h g zero c = same_events p (All-head (IsFaithful f) p bodies h) g c
      same_body (p ∷ bodies) h g (suc i) c = same_body bodies (All-tail (IsFaithful f) p bodies h) g i c

      module _ (bodies : List Tree) (faithful : All (IsFaithful f) bodies) where
        same_definitions : (k : ℕ) → definition_results (map f t) (map (renumbered f) bodies) k ≡ definition_results t bodies k
        unfolding definition_results
        same_definitions zero = refl
        same_definitions (suc k) = λ j i c. same_body bodies faithful (same_definitions k) i c j

        -- ---- starts, and the depth that is enough
        same_tried : (k : ℕ) (p : Tree) → IsFaithful f p → tried_from (map f t) (map (renumbered f) bodies) k (renumbered f p) ≡ tried_from t bodies k p
        same_tried k p h = λ i s. map (λ e. (s, e)) (same_events p h (same_definitions k) s i)

        same_starts : (anchored : Bool) (c : ℕ) → starts_from (map f t) anchored c ≡ starts_from t anchored c
        same_starts anchored c = ap (λ l. cond anchored (c ∷ []) (range_with_len c (l + 1 - c))) (length-map t f)

        same_scan : (k : ℕ) (p : Tree) → IsFaithful f p → (anchored : Bool) (c : ℕ)
            → scan_from (map f t) (map (renumbered f) bodies) k (renumbered f p) anchored c ≡ scan_from t bodies k p anchored c
        same_scan k p h anchored c =
            ap (λ s. cut_scan (flat_map (tried_from (map f t) (map (renumbered f) bodies) k (renumbered f p)) s)) (same_starts anchored c)
            ∙ ap (λ r. cut_scan (flat_map r (starts_from t anchored c))) (same_tried k p h)

        same_depth : enough_depth (map f t) (map (renumbered f) bodies) ≡ enough_depth t bodies
        same_depth = ap (λ l. (l + 1) * length (map (renumbered f) bodies)) (length-map t f) ∙ ap (λ n. (length t + 1) * n) (length-map bodies (renumbered f))

pub same_outcome : (f : ℕ → ℕ) (t : List ℕ) (bodies : List Tree) (p : Tree) (anchored : Bool) (c : ℕ) → AreFaithful f bodies p
    → outcome_from (map f t) (map (renumbered f) bodies) (renumbered f p) anchored c ≡ outcome_from t bodies p anchored c
unfolding outcome_at_from
same_outcome f t bodies p anchored c are =
    ap (λ k. found_in [] (scan_from (map f t) (map (renumbered f) bodies) k (renumbered f p) anchored c)) (same_depth f are.opening are.closing t bodies are.definitions)
    ∙ ap (found_in []) (same_scan f are.opening are.closing t bodies are.definitions (enough_depth t bodies) p are.pattern anchored c)

pub same_trials : (f : ℕ → ℕ) (t : List ℕ) (bodies : List Tree) (p : Tree) (anchored : Bool) (c : ℕ) → AreFaithful f bodies p
    → trials_from (map f t) (map (renumbered f) bodies) (renumbered f p) anchored c ≡ trials_from t bodies p anchored c
unfolding trials_at_from
same_trials f t bodies p anchored c are =
    ap (λ k. trials_in (scan_from (map f t) (map (renumbered f) bodies) k (renumbered f p) anchored c)) (same_depth f are.opening are.closing t bodies are.definitions)
    ∙ ap trials_in (same_scan f are.opening are.closing t bodies are.definitions (enough_depth t bodies) p are.pattern anchored c)
