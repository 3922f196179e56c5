-- If a pattern begins with a literal that isn't at the cursor, the pattern costs one trial and does nothing else.
use Rattle.std.proofs.Common.{◌≡◌, ℕ, zero, suc, ◌+◌, ◌≤◌, false, cond, List, [], ◌∷◌, ◌++◌, length, map, Option, Some, None, refl, ap, sym, subst, ◌∙◌, arith}
use Rattle.std.specs.List.{flat_map, range_with_len}
use Rattle.sno_pattern.specs.Tree as tree
use Rattle.sno_pattern.specs.Tree.{Tree}
use Rattle.sno_pattern.specs.Events.{go_on, assign_later, assign_now}
use Rattle.sno_pattern.specs.Results.{ends, results_of, results, enough_depth}
use Rattle.sno_pattern.specs.Outcome.{tried_from, cut_scan, trials_in, trials_at, trials}
use Rattle.sno_pattern.specs.Beginnings.{first_literal, IsMissing}
use Rattle.sno_pattern.specs.declared.events.Event.TheVariants.{Try}

-- there is a first literal, and it isn't at the cursor
abbrev IsWithout : List ℕ → Option (List ℕ) → ℕ → Type 0
IsWithout t None c = ⊥
IsWithout t (Some s) c = IsMissing t s c

module _ (t : List ℕ) (bodies : List Tree) (k : ℕ) where
  one_trial : (p : Tree) (c : ℕ) → IsWithout t (first_literal p) c → results t bodies k p c ≡ Try ∷ []
  unfolding results_of
  one_trial (tree.Lit s) c h = ap (λ b. ends (cond b ((c + length s) ∷ []) [])) h
  one_trial (tree.Len n) c h = absurd h
  one_trial (tree.Pos n) c h = absurd h
  one_trial (tree.Rpos n) c h = absurd h
  one_trial (tree.Tab n) c h = absurd h
  one_trial (tree.Rtab n) c h = absurd h
  one_trial (tree.AnyOf s) c h = absurd h
  one_trial (tree.NoneOf s) c h = absurd h
  one_trial (tree.Span s) c h = absurd h
  one_trial (tree.Break s) c h = absurd h
  one_trial tree.Arb c h = absurd h
  one_trial (tree.Arbno p) c h = absurd h
  one_trial tree.Bal c h = absurd h
  one_trial tree.Rem c h = absurd h
  one_trial tree.Fence c h = absurd h
  one_trial tree.Abort c h = absurd h
  one_trial tree.Fail c h = absurd h
  one_trial (tree.At v) c h = absurd h
  one_trial (tree.Ref i) c h = absurd h
  one_trial (tree.Seq p q) c h = ap (λ l. go_on l (results t bodies k q)) (one_trial p c h)
  one_trial (tree.Alt p q) c h = absurd h
  one_trial (tree.Cond p v) c h = ap (assign_later v c) (one_trial p c h)
  one_trial (tree.Imm p v) c h = ap (assign_now v c) (one_trial p c h)

pub missing_costs_one : (t : List ℕ) (bodies : List Tree) (k : ℕ) (p : Tree) (s : List ℕ) (c : ℕ) → first_literal p ≡ Some s → IsMissing t s c → results t bodies k p c ≡ Try ∷ []
missing_costs_one t bodies k p s c is missing =
    let P : Option (List ℕ) → Type 0 = λ o. IsWithout t o c in one_trial t bodies k p c (subst P (sym is) missing)

-- n starts from a cursor on cost n trials
each_start : (t : List ℕ) (bodies : List Tree) (k : ℕ) (p : Tree) (s : List ℕ) → first_literal p ≡ Some s → ((c : ℕ) → c ≤ length t → IsMissing t s c)
    → (n start : ℕ) → start + n ≤ length t + 1 → trials_in (cut_scan (flat_map (tried_from t bodies k p) (range_with_len start n))) ≡ n
each_start t bodies k p s is missing zero start inside = refl
each_start t bodies k p s is missing (suc n) start inside =
    ap (λ l. trials_in (cut_scan (map (λ e. (start, e)) l ++ flat_map (tried_from t bodies k p) (range_with_len (start + 1) n))))
    (missing_costs_one t bodies k p s start is (missing start (omega arith)))
    ∙ ap suc (each_start t bodies k p s is missing n (start + 1) (omega arith))

pub nowhere_costs_each_start : (t : List ℕ) (bodies : List Tree) (p : Tree) (s : List ℕ) → first_literal p ≡ Some s → ((c : ℕ) → c ≤ length t → IsMissing t s c)
    → trials t bodies p false ≡ length t + 1
unfolding trials_at
nowhere_costs_each_start t bodies p s is missing = each_start t bodies (enough_depth t bodies) p s is missing (length t + 1) 0 (omega arith)
