-- The places are passed, and all heads are sought.
use Rattle.std.proofs.Common.{◌≡◌, ◌≤◌, ℕ, false, [], ◌∷◌, subst}
use Rattle.sno_machine.specs.Beginnings.{any_begins, may_begin, IsPast}
use Rattle.sno_machine.proofs.starts.front_search.FrontSearch.of.Goals as goal

pub invariant_of-result : goal.invariant_of-result
invariant_of-result c =
    let cover = c.in_ok-all.ensures.covers in
    let less = subst (λ l. (y : ℕ) → may_begin c.of-heads.result y ≡ false → any_begins l y ≡ false) c.deref.ensures.value c.of-heads.ensures in
    record {
      past_all = subst (λ l. (n : ℕ) → c.past_all-past.result ≤ n → IsPast l n) c.deref-2.ensures.value c.past_all-past.ensures;
      heads_sought = λ x h. (cover (x ∷ []) (less x h)).0;
      words_sought = λ x l h. (cover (x ∷ l) (less x h)).1;
      none_empty = (cover [] tt).1;
    }
