-- How deep calls are nested, from how deep they are within.
use Rattle.std.proofs.Common.{◌≡◌, ◌≤◌, ℕ, zero, suc, ◌+◌, ◌-◌, ◌<◌, ◌⊎◌, inl, inr, List, [], ◌∷◌, Some, Result, Ok, Err, Vec, Global, drop, slice_get, refl, ap, sym, subst, ◌∙◌, arith}
use Rattle.std.proofs.Math.Numerals.{sub-one}
use Rattle.std.specs.List.{Contains, range_with_len}
use Rattle.std.specs.Result.{IfOk, IfErr, IsErrAnd}
use Rattle.sno_pattern.specs.Events.{CondList}
use Rattle.sno_pattern.specs.Tree.{Tree, Seq, Alt, Arbno, Cond, Imm, Ref}
use Rattle.sno_trace.specs.declared.events.Noted.{Noted}
use Rattle.sno_trace.specs.declared.events.Noted.TheVariants.{Try, Set, Mark, End, Halt, Stop}
use Rattle.sno_trace.specs.declared.faults.TraceFault.{TraceFault}
use Rattle.sno_trace.specs.declared.faults.TraceFault.TheVariants.{TooDeep}
use Rattle.sno_trace.specs.Noted.{noted, upto}
use Rattle.sno_trace.specs.Depth.{EndsAt, Nests}

-- what is known of a list or a fault, in other words
pub list_as : (result : Result (Vec Noted Global) TraceFault) (l m : List Noted) → IfOk result (λ v. v.items ≡ l) → ((z : List Noted) → z ≡ l → z ≡ m) → IfOk result (λ v. v.items ≡ m)
list_as (Ok v) l m h f = f v.items h
list_as (Err e) l m h f = tt

pub deep_as : {A : Type 0} (result : Result A TraceFault) (P Q : Type 0) → IfErr result (λ e. e ≡ TooDeep → P) → (P → Q) → IfErr result (λ e. e ≡ TooDeep → Q)
deep_as (Ok x) P Q h f = tt
deep_as (Err e) P Q h f = λ deep. f (h deep)

-- a fault that is passed on
pub passed_on : {A : Type 0} (result : Result A TraceFault) (e : TraceFault) (P : Type 0) → IsErrAnd result (λ d. d ≡ e) → (e ≡ TooDeep → P) → IfErr result (λ d. d ≡ TooDeep → P)
passed_on (Err d) e P is h = λ deep. h (sym is ∙ deep)
passed_on (Ok x) e P is h = absurd is

-- an End of what is shown is one of the list
pub shown_end : (n : ℕ) (l : List Noted) (e : ℕ) → EndsAt (upto n l) e → EndsAt l e
shown_end n [] e h = h
shown_end zero (Try x ∷ l) e h = absurd h
shown_end (suc n) (Try x ∷ l) e h = shown_end n l e h
shown_end n (Set t ∷ l) e h = shown_end n l e h
shown_end n (Mark d ∷ l) e h = shown_end n l e h
shown_end n (End f a ∷ l) e (inl h) = inl h
shown_end n (End f a ∷ l) e (inr h) = inr (shown_end n l e h)
shown_end n (Halt ∷ l) e h = shown_end n l e h
shown_end n (Stop ∷ l) e h = shown_end n l e h

-- an End of the rest of a list is one of the list
pub later_end : (x : Noted) (l : List Noted) (e : ℕ) → EndsAt l e → EndsAt (x ∷ l) e
later_end (Try x) l e h = h
later_end (Set t) l e h = h
later_end (Mark d) l e h = h
later_end (End f a) l e h = inr h
later_end Halt l e h = h
later_end Stop l e h = h

pub dropped_end : (l : List Noted) (i e : ℕ) → EndsAt (drop i l) e → EndsAt l e
dropped_end l zero e h = h
dropped_end [] (suc i) e h = h
dropped_end (x ∷ l) (suc i) e h = later_end x l e (dropped_end l i e h)

pub found_end : (l : List Noted) (i : ℕ) (rest : List Noted) (e : ℕ) (a : CondList) → drop i l ≡ End e a ∷ rest → EndsAt l e
found_end l i rest e a is = dropped_end l i e (subst (λ m. EndsAt m e) (sym is) (inl refl))

module _ (t : List ℕ) (bodies : List Tree) where
  -- no room is left
  pub nests_none : (n k : ℕ) (p : Tree) (c : ℕ) → n ≡ 0 → Nests t bodies n k p c
  unfolding Nests
  nests_none n k p c is = subst (λ m. Nests t bodies m k p c) (sym is) tt

  -- one more
  pub further : (n r k : ℕ) (p : Tree) (c : ℕ) → r + 1 ≡ n → Nests t bodies (suc r) k p c → Nests t bodies n k p c
  further n r k p c less h =
      (let same : suc r ≡ n = omega (arith, less) in subst (λ m. Nests t bodies m k p c) same h)

  pub in_first : (n r k c : ℕ) (whole left right p : Tree) → whole ≡ Seq left right → p ≡ left → r + 1 ≡ n → Nests t bodies r k p c → Nests t bodies n k whole c
  unfolding Nests
  in_first n r k c whole left right p is same less h =
      further n r k whole c less (subst (λ x. Nests t bodies (suc r) k x c) (sym is) (inl (subst (λ x. Nests t bodies r k x c) same h)))

  pub in_second : (n r k limit c : ℕ) (whole left right p q : Tree) (l m : List Noted) → whole ≡ Seq left right → p ≡ left → q ≡ right → r + 1 ≡ n
      → m ≡ l → l ≡ upto limit (noted t bodies k p c) → (e : ℕ) × EndsAt m e × Nests t bodies r k q e → Nests t bodies n k whole c
  unfolding Nests
  in_second n r k limit c whole left right p q l m is same_left same_right less same does (e, ends, h) =
      (let ends_there : EndsAt (noted t bodies k left c) e = shown_end limit (noted t bodies k left c) e (subst (λ x. EndsAt x e) (same ∙ does ∙ ap (λ x. upto limit (noted t bodies k x c)) same_left) ends) in
      further n r k whole c less (subst (λ x. Nests t bodies (suc r) k x c) (sym is) (inr (e, ends_there, subst (λ x. Nests t bodies r k x e) same_right h))))

  pub in_either : (n r k c : ℕ) (whole left right p : Tree) → whole ≡ Alt left right → p ≡ left → r + 1 ≡ n → Nests t bodies r k p c → Nests t bodies n k whole c
  unfolding Nests
  in_either n r k c whole left right p is same less h =
      further n r k whole c less (subst (λ x. Nests t bodies (suc r) k x c) (sym is) (inl (subst (λ x. Nests t bodies r k x c) same h)))

  pub in_other : (n r k c : ℕ) (whole left right p : Tree) → whole ≡ Alt left right → p ≡ right → r + 1 ≡ n → Nests t bodies r k p c → Nests t bodies n k whole c
  unfolding Nests
  in_other n r k c whole left right p is same less h =
      further n r k whole c less (subst (λ x. Nests t bodies (suc r) k x c) (sym is) (inr (subst (λ x. Nests t bodies r k x c) same h)))

  -- the rounds of ARBNO
  pub in_part : (n k c : ℕ) (whole child p : Tree) → whole ≡ Arbno child → p ≡ child → Nests t bodies n k (Arbno p) c → Nests t bodies n k whole c
  in_part n k c whole child p is same h = subst (λ x. Nests t bodies n k x c) (ap Arbno same ∙ sym is) h

  pub in_round : (n r k : ℕ) (p : Tree) (c : ℕ) → r + 1 ≡ n → Nests t bodies r k p c → Nests t bodies n k (Arbno p) c
  unfolding Nests
  in_round n r k p c less h = further n r k (Arbno p) c less (inl h)

  pub in_later_round : (n r k limit : ℕ) (p : Tree) (c e : ℕ) (l m : List Noted) → r + 1 ≡ n → m ≡ l → l ≡ upto limit (noted t bodies k p c) → EndsAt m e → c < e → Nests t bodies r k (Arbno p) e
      → Nests t bodies n k (Arbno p) c
  unfolding Nests
  in_later_round n r k limit p c e l m less same does ends some h =
      (let ends_there : EndsAt (noted t bodies k p c) e = shown_end limit (noted t bodies k p c) e (subst (λ x. EndsAt x e) (same ∙ does) ends) in
      further n r k (Arbno p) c less (inr (e, ends_there, some, h)))

  -- what is assigned
  pub in_assigned : (n r k c : ℕ) (whole child p : Tree) (v : List ℕ) → (whole ≡ Cond child v) ⊎ (whole ≡ Imm child v) → p ≡ child → r + 1 ≡ n → Nests t bodies r k p c → Nests t bodies n k whole c
  unfolding Nests
  in_assigned n r k c whole child p v (inl is) same less h =
      further n r k whole c less (subst (λ x. Nests t bodies (suc r) k x c) (sym is) (subst (λ x. Nests t bodies r k x c) same h))
  in_assigned n r k c whole child p v (inr is) same less h =
      further n r k whole c less (subst (λ x. Nests t bodies (suc r) k x c) (sym is) (subst (λ x. Nests t bodies r k x c) same h))

  -- the body of a definition
  pub in_named : (n r k c : ℕ) (whole : Tree) (i : ℕ) → whole ≡ Ref i → r + 1 ≡ n → Nests t bodies (r + 1) k (Ref i) c → Nests t bodies n k whole c
  in_named n r k c whole i is less h = subst (λ x. Nests t bodies n k x c) (sym is) (subst (λ m. Nests t bodies m k (Ref i) c) less h)

  pub in_body : (r k i c : ℕ) (p : Tree) → 0 < k → Some p ≡ slice_get bodies i → Nests t bodies r (k - 1) p c → Nests t bodies (r + 1) k (Ref i) c
  unfolding Nests
  in_body r zero i c p some is h = absurd (omega arith)
  in_body r (suc k) i c p some is h =
      further (r + 1) r (suc k) (Ref i) c refl (p, is, subst (λ j. Nests t bodies r j p c) (sub-one (suc k)) h)

-- a start
pub in_range : (a n d : ℕ) → d < n → Contains (range_with_len a n) (a + d)
in_range a zero d h = absurd (omega arith)
in_range a (suc n) zero h = (0, omega arith, omega arith)
in_range a (suc n) (suc d) h =
    let one : Contains (range_with_len (a + 1) n) (a + 1 + d) = in_range (a + 1) n d (omega arith) in
    let there : Contains (range_with_len (a + 1) n) (a + suc d) = subst (Contains (range_with_len (a + 1) n)) (omega arith) one in
    (suc there.0, omega (arith, there.1), there.2)

pub in_starts : (s c last : ℕ) (l : List ℕ) → c ≤ s → s < last + 1 → range_with_len c (last + 1 - c) ≡ l → Contains l s
in_starts s c last l past h is =
    let there : c + (s - c) ≡ s = omega (arith, past) in
    subst (λ m. Contains m s) is (subst (Contains (range_with_len c (last + 1 - c))) there (in_range c (last + 1 - c) (s - c) (omega (arith, past, h))))
