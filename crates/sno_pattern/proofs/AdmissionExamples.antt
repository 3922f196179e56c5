-- Worked examples of admission. Patterns are written out, so that a reader can compare them with the rule.
use Rattle.std.proofs.Common.{◌≡◌, ℕ, zero, suc, List, [], ◌∷◌, Option, Some, None, slice_get, eqb, inl, ⊎_elim, refl, subst, arith}
use Rattle.std.specs.List.{IsDistinct}
use Rattle.std.proofs.lemmas.Map.Keys.{IsDistinct-cons}
use Rattle.sno_pattern.specs.Tree.{Tree, Lit, Fail, Ref, Seq, Alt}
use Rattle.sno_pattern.specs.Guard as guard
use Rattle.sno_pattern.specs.Guard.{Unguarded, Leads, Chain, Guarded}
use Rattle.sno_pattern.specs.Admission.{first_bad_ref, IsFirstCycle}

-- A is 'x', B is *D: there are two definitions, and none with number 3
refers_past_the_last : first_bad_ref (Lit (120 ∷ []) ∷ Ref 3 ∷ []) ≡ Some 1
refers_past_the_last = refl

none_apart : IsDistinct eqb []
unfolding IsDistinct
none_apart = tt

-- E is *E 'a' | 'a': refused, since E comes back to itself before a character is taken
left_recursion : IsFirstCycle (Alt (Seq (Ref 0) (Lit (97 ∷ []))) (Lit (97 ∷ [])) ∷ []) (0 ∷ [])
left_recursion = (0, (refl, (Alt (Seq (Ref 0) (Lit (97 ∷ []))) (Lit (97 ∷ [])), refl, inl (inl refl)), IsDistinct-cons eqb 0 [] tt none_apart), λ j before. absurd (omega arith))

-- A is *B, B is *A: refused, with the cycle A, B
two_in_a_cycle : IsFirstCycle (Ref 1 ∷ Ref 0 ∷ []) (0 ∷ 1 ∷ [])
two_in_a_cycle = (
  0,
  (refl, ((Ref 1, refl, refl), (Ref 0, refl, refl)), IsDistinct-cons eqb 0 (1 ∷ []) (refl, tt) (IsDistinct-cons eqb 1 [] tt none_apart)),
  λ j before. absurd (omega arith),
)

-- A is FAIL *A: admitted, since nothing comes after FAIL
abbrev after_fail : List Tree
after_fail = Seq Fail (Ref 0) ∷ []

abbrev LeadsNowhere : ℕ → Option Tree → Type 0
LeadsNowhere j None = Unit {0}
LeadsNowhere j (Some body) = Unguarded after_fail body j → ⊥

leads_nowhere : (j i : ℕ) → LeadsNowhere j (slice_get after_fail i)
leads_nowhere j zero = λ unguarded. ⊎_elim (λ none. none) (λ second. second.0 guard.fail) unguarded
leads_nowhere j (suc i) = tt

no_chain : (i j : ℕ) → Chain after_fail i j → ⊥
no_chain i j (guard.one leads) = subst (LeadsNowhere j) leads.1 (leads_nowhere j i) leads.2
no_chain i k (guard.more {j = j} chain leads) = subst (LeadsNowhere k) leads.1 (leads_nowhere k j) leads.2

recursion_after_fail : Guarded after_fail
recursion_after_fail i chain = no_chain i i chain
