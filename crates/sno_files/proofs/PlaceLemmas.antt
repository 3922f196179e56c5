-- What is known of places while they are written one after the other.
use Rattle.std.proofs.Common.{◌≡◌, ◌≢◌, ℕ, suc, ◌<◌, List, ◌∷◌, length, set, get_or, All, Contains, Option, Some, IfSome, slice_get, refl, ap, subst, sym, ◌∙◌, inr, ⊎_elim, arith}
use Rattle.std.proofs.lemmas.Bool.{cases_eq}
use Rattle.std.proofs.lemmas.List.{get_or-set_same, get_or-set_other, get_or_default}
use Rattle.std.proofs.lemmas.Option.{get_or_from_slice_get}
use denote.Ref.{Bor}
use denote.Param.Members.{Shared}
use Rattle.sno_files.specs.InThreads.{IsBegun, IsCalled, IsDone, IsEmptied, IsPut}
use Rattle.sno_files.specs.declared.in_threads.Numbered.{Numbered}
use Rattle.sno_files.specs.declared.in_threads.Place.{Place}

-- one element was written: what holds of the others still does
pub each_set : {X : Type 0} (R : ℕ → X → X → Type 0) (xs ys : List X) (k : ℕ) (y : X) → k < length ys → ((d : X) → R k (get_or xs k d) y)
    → (j : ℕ) (d : X) → (j ≢ k → R j (get_or xs j d) (get_or ys j d)) → R j (get_or xs j d) (get_or (set ys k y) j d)
each_set R xs ys k y lt here j d other =
    ⊎_elim
    (λ e. subst (λ n. R n (get_or xs n d) (get_or (set ys k y) n d)) (sym e) (subst (R k (get_or xs k d)) (sym (get_or-set_same ys k y d lt)) (here d)))
    (λ n. subst (R j (get_or xs j d)) (sym (get_or-set_other ys k j y d n)) (other n))
    (cases_eq j k)

-- each element is among all
pub all_among : {X : Type 0} (xs : List X) → All (Contains xs) xs
all_among xs k d lt = (k, lt, get_or_default xs k (get_or xs k d) d lt)

-- the first of those that are left, and the others
pub first_left : {X : Type 0} (P : X → Type 0) (xs ys : List X) (x : X) → xs ≡ x ∷ ys → All P xs → P x × All P ys
first_left P xs ys x is h = let all = subst (All P) is h in (all 0 x (omega arith), λ k d lt. all (suc k) d (omega (arith, lt)))

-- one result was put into its place
pub put_one : {X : Type 0} (results : List (Numbered X)) (xs ys : List (Place X)) (one : Numbered X) (y e : Place X) → one.number < length ys → length ys ≡ length xs
    → ((j : ℕ) (d : Place X) → j < length xs → IsPut results j (get_or xs j d) (get_or ys j d)) → Contains results one
    → y.path ≡ (get_or ys one.number e).path → y.result ≡ Some one.result
    → (j : ℕ) (d : Place X) → j < length xs → IsPut results j (get_or xs j d) (get_or (set ys one.number y) j d)
put_one results xs ys one y e lt len before among path is j d below =
    each_set (IsPut results) xs ys one.number y lt
    (λ d. (
      path ∙ ap (λ (p : Place _). p.path) (get_or_default ys one.number e d lt) ∙ (before one.number d (omega (arith, lt, len))).0,
      inr (one.result, is, among),
    ))
    j d (λ n. before j d below)

pub none_yet : {F X : Type 0} (g : Shared F (Bor (List ℕ) × Unit {0}) X) (f : F) (old new : Place X) → IsEmptied old new → IsBegun g f new new
none_yet {F} {X} g f old new h = (refl, subst (λ (o : Option X). IfSome o (λ r. g.post f (new.path, tt) r)) (sym h.1) tt)

-- a result was put into a place: it is of a call, as each of those
pub begun_after : {F X : Type 0} (g : Shared F (Bor (List ℕ) × Unit {0}) X) (f : F) (places : List (Place X)) (results : List (Numbered X)) (i : ℕ) (old before after : Place X)
    → slice_get places i ≡ Some old → All (IsCalled g f places) results → IsPut results i before after → IsBegun g f old before → IsBegun g f old after
begun_after {F} {X} g f places results i old before after at called put begun = (
  put.0 ∙ begun.0,
  ⊎_elim
      (λ same. subst (λ (o : Option X). IfSome o (λ r. g.post f (old.path, tt) r)) (sym same) begun.1)
      (λ new.
      let one : Numbered X = record { number = i; result = new.0 } in
      let call = subst (IsCalled g f places) {y = one} new.2.2 (called new.2.0 one new.2.1) in
      let is : call.0 ≡ old = sym (get_or_from_slice_get places i call.0 old call.1) ∙ get_or_from_slice_get places i old old at in
      subst (λ (o : Option X). IfSome o (λ r. g.post f (old.path, tt) r)) (sym new.1) (subst (λ (p : Place X). g.post f (p.path, tt) new.0) {y = old} is call.2))
      put.1,
)

-- a place was emptied before it was done
pub done_after : {F X : Type 0} (g : Shared F (Bor (List ℕ) × Unit {0}) X) (f : F) (old emptied new : Place X) → IsEmptied old emptied → IsDone g f emptied new → IsDone g f old new
done_after {F} {X} g f old emptied new h done =
    (done.0 ∙ h.0, done.1, done.2, subst (λ (p : Bor (List ℕ)). g.post f (p, tt) done.1) h.0 done.3)
