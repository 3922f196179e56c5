-- The numbers of an image are faithful: an ASCII character and a named one are alone under theirs.
use Rattle.std.proofs.Common.{◌≡◌, ◌≢◌, ◌<◌, ◌≤◌, ◌+◌, ◌⊎◌, inl, inr, ℕ, Bool, true, false, cond, ◌||◌, List, [], ◌∷◌, map, nat_eq, nat_lt, Option, Some, None, arith, ap, sym, refl, ◌∙◌}
use Rattle.std.specs.List.{All, list_any, position_from}
use Rattle.std.proofs.lemmas.Bool.{eq-eqb, ne_eqb, lt-ltb, le-ltb, cases_lt}
use Rattle.std.proofs.lemmas.Bool.Decides.{eqb_tells}
use Rattle.std.proofs.lemmas.List.Elements.{All-nil, All-cons, All-head, All-tail}
use Rattle.sno_pattern.specs.Tree as tree
use Rattle.sno_pattern.specs.Tree.{Tree}
use Rattle.sno_pattern.specs.Classes.{has}
use Rattle.sno_images.specs.declared.laws.TheConstants.{MAX_NAMED}
use Rattle.sno_images.specs.Renumbering.{number_at, image_number, IsNamed, NamesAll, IsAlone, IsApart, IsFaithful, AreFaithful}

-- ---- places in a list of characters
abbrev place_from : ℕ → ℕ → List ℕ → Option ℕ
place_from n x ks = position_from (λ k. nat_eq k x) n ks

at_least_by : (n i : ℕ) (rest : Option ℕ) → (rest ≡ Some i → n + 1 ≤ i) → (b : Bool) → cond b (Some n) rest ≡ Some i → n ≤ i
at_least_by n i rest more true g = let same : n ≡ i = cc in omega (arith, same)
at_least_by n i rest more false g = let far = more g in omega (arith, far)

at_least : (n i x : ℕ) (ks : List ℕ) → place_from n x ks ≡ Some i → n ≤ i
at_least n i x [] h = cc
at_least n i x (k ∷ ks) h = at_least_by n i (place_from (n + 1) x ks) (at_least (n + 1) i x ks) (nat_eq k x) h

here : (n i : ℕ) (rest : Option ℕ) (b : Bool) → b ≡ true → cond b (Some n) rest ≡ Some i → n ≡ i
here n i rest true e h = cc
here n i rest false e h = cc

there : (n i : ℕ) (rest : Option ℕ) (b : Bool) → b ≡ false → cond b (Some n) rest ≡ Some i → rest ≡ Some i
there n i rest true e h = cc
there n i rest false e h = h

abbrev Tells : ℕ → ℕ → Type 0
Tells a b = ((nat_eq a b ≡ true) × (a ≡ b)) ⊎ ((nat_eq a b ≡ false) × (a ≢ b))

one_place_step : (n i y x k : ℕ) (of_y of_x : Option ℕ) → (of_y ≡ Some i → n + 1 ≤ i) → (of_x ≡ Some i → n + 1 ≤ i) → (of_y ≡ Some i → of_x ≡ Some i → y ≡ x)
    → Tells k y → Tells k x → cond (nat_eq k y) (Some n) of_y ≡ Some i → cond (nat_eq k x) (Some n) of_x ≡ Some i → y ≡ x
one_place_step n i y x k of_y of_x far_y far_x again (inl p) (inl q) h g = sym p.1 ∙ q.1
one_place_step n i y x k of_y of_x far_y far_x again (inl p) (inr q) h g =
    let is : n ≡ i = here n i of_y (nat_eq k y) p.0 h in
    let far = far_x (there n i of_x (nat_eq k x) q.0 g) in absurd (omega (arith, is, far))
one_place_step n i y x k of_y of_x far_y far_x again (inr p) (inl q) h g =
    let is : n ≡ i = here n i of_x (nat_eq k x) q.0 g in
    let far = far_y (there n i of_y (nat_eq k y) p.0 h) in absurd (omega (arith, is, far))
one_place_step n i y x k of_y of_x far_y far_x again (inr p) (inr q) h g = again (there n i of_y (nat_eq k y) p.0 h) (there n i of_x (nat_eq k x) q.0 g)

-- two characters at one place are the same
one_place : (n i y x : ℕ) (ks : List ℕ) → place_from n y ks ≡ Some i → place_from n x ks ≡ Some i → y ≡ x
one_place n i y x [] h g = cc
one_place n i y x (k ∷ ks) h g =
    one_place_step n i y x k (place_from (n + 1) y ks) (place_from (n + 1) x ks)
    (at_least (n + 1) i y ks) (at_least (n + 1) i x ks) (one_place (n + 1) i y x ks) (eqb_tells k y) (eqb_tells k x) h g

-- ---- numbers
past_ascii : (o : Option ℕ) → 128 ≤ number_at o
past_ascii None = omega arith
past_ascii (Some p) = omega arith

own : (named : List ℕ) (x : ℕ) → x < 128 → image_number named x ≡ x
own named x h = ap (λ b. cond b x (number_at (place_from 0 x named))) (lt-ltb x 128 h)

given : (named : List ℕ) (x : ℕ) → 128 ≤ x → image_number named x ≡ number_at (place_from 0 x named)
given named x h = ap (λ b. cond b x (number_at (place_from 0 x named))) (le-ltb x 128 h)

alone_by : (f : ℕ → ℕ) (y : ℕ) → ((x : ℕ) → f y ≡ f x → y ≡ x) → IsAlone f y
alone_by f y apart x = by (eqb_tells y x)
  where
    by : ((nat_eq y x ≡ true) × (y ≡ x)) ⊎ ((nat_eq y x ≡ false) × (y ≢ x)) → nat_eq (f y) (f x) ≡ nat_eq y x
    by (inl p) = eq-eqb (f y) (f x) (ap f p.1) ∙ sym p.0
    by (inr p) = ne_eqb (f y) (f x) (λ e. p.1 (apart x e)) ∙ sym p.0

ascii_alone : (named : List ℕ) (y : ℕ) → y < 128 → IsAlone (image_number named) y
ascii_alone named y small = alone_by (image_number named) y apart
  where
    apart : (x : ℕ) → image_number named y ≡ image_number named x → y ≡ x
    apart x e = by (cases_lt x 128)
      where
        by : (x < 128) ⊎ (128 ≤ x) → y ≡ x
        by (inl h) = sym (own named y small) ∙ e ∙ own named x h
        by (inr h) =
            let is : y ≡ number_at (place_from 0 x named) = sym (own named y small) ∙ e ∙ given named x h in
            let far = past_ascii (place_from 0 x named) in absurd (omega (arith, is, far, small))

named_alone : (named : List ℕ) (y i : ℕ) → 128 ≤ y → place_from 0 y named ≡ Some i → i < MAX_NAMED → IsAlone (image_number named) y
named_alone named y i large is_there few = alone_by (image_number named) y apart
  where
    number : image_number named y ≡ 128 + i
    number = given named y large ∙ ap number_at is_there

    apart : (x : ℕ) → image_number named y ≡ image_number named x → y ≡ x
    apart x e = by (cases_lt x 128)
      where
        at : (o : Option ℕ) → place_from 0 x named ≡ o → 128 + i ≡ number_at o → y ≡ x
        at None is same = absurd (omega (arith, same, few))
        at (Some j) is same = let one : j ≡ i = omega (arith, same) in one_place 0 i y x named is_there (is ∙ ap Some one)

        by : (x < 128) ⊎ (128 ≤ x) → y ≡ x
        by (inl h) = let is : 128 + i ≡ x = sym number ∙ e ∙ own named x h in absurd (omega (arith, is, h))
        by (inr h) = at (place_from 0 x named) refl (sym number ∙ e ∙ given named x h)

is_alone : (named : List ℕ) (y : ℕ) → IsNamed named y → IsAlone (image_number named) y
is_alone named y (inl small) = ascii_alone named y small
is_alone named y (inr (place, is_there, few)) = by (cases_lt y 128)
  where
    by : (y < 128) ⊎ (128 ≤ y) → IsAlone (image_number named) y
    by (inl small) = ascii_alone named y small
    by (inr large) = named_alone named y place large is_there few

-- ---- patterns
all_alone : (named : List ℕ) (s : List ℕ) → All (IsNamed named) s → All (IsAlone (image_number named)) s
all_alone named [] are = All-nil (IsAlone (image_number named))
all_alone named (y ∷ s) are =
    All-cons (IsAlone (image_number named)) y s (is_alone named y (All-head (IsNamed named) y s are)) (all_alone named s (All-tail (IsNamed named) y s are))

-- a set whose members are alone is apart
set_apart : (f : ℕ → ℕ) (s : List ℕ) → All (IsAlone f) s → IsApart f s
set_apart f [] alone x = refl
set_apart f (m ∷ s) alone x =
    ap (λ b. b || has (map f s) (f x)) (All-head (IsAlone f) m s alone x)
    ∙ ap (λ b. nat_eq m x || b) (set_apart f s (All-tail (IsAlone f) m s alone) x)

module _ (named : List ℕ) where
  is_faithful : (p : Tree) → NamesAll named p → IsFaithful (image_number named) p
  is_faithful (tree.Lit s) h = all_alone named s h
  is_faithful (tree.Len n) h = tt
  is_faithful (tree.Pos n) h = tt
  is_faithful (tree.Rpos n) h = tt
  is_faithful (tree.Tab n) h = tt
  is_faithful (tree.Rtab n) h = tt
  is_faithful (tree.AnyOf s) h = set_apart (image_number named) s (all_alone named s h)
  is_faithful (tree.NoneOf s) h = set_apart (image_number named) s (all_alone named s h)
  is_faithful (tree.Span s) h = set_apart (image_number named) s (all_alone named s h)
  is_faithful (tree.Break s) h = set_apart (image_number named) s (all_alone named s h)
  is_faithful tree.Arb h = tt
  is_faithful (tree.Arbno p) h = is_faithful p h
  is_faithful tree.Bal h = tt
  is_faithful tree.Rem h = tt
  is_faithful tree.Fence h = tt
  is_faithful tree.Abort h = tt
  is_faithful tree.Fail h = tt
  is_faithful (tree.At v) h = tt
  is_faithful (tree.Ref i) h = tt
  is_faithful (tree.Seq p q) h = (is_faithful p h.0, is_faithful q h.1)
  is_faithful (tree.Alt p q) h = (is_faithful p h.0, is_faithful q h.1)
  is_faithful (tree.Cond p v) h = is_faithful p h
  is_faithful (tree.Imm p v) h = is_faithful p h

  all_faithful : (bodies : List Tree) → All (NamesAll named) bodies → All (IsFaithful (image_number named)) bodies
  all_faithful [] h = All-nil (IsFaithful (image_number named))
  all_faithful (p ∷ bodies) h =
      All-cons (IsFaithful (image_number named)) p bodies (is_faithful p (All-head (NamesAll named) p bodies h)) (all_faithful bodies (All-tail (NamesAll named) p bodies h))

eq_sym : (a b : ℕ) → nat_eq a b ≡ nat_eq b a
eq_sym a b = by (eqb_tells a b)
  where
    by : ((nat_eq a b ≡ true) × (a ≡ b)) ⊎ ((nat_eq a b ≡ false) × (a ≢ b)) → nat_eq a b ≡ nat_eq b a
    by (inl p) = p.0 ∙ sym (eq-eqb b a (sym p.1))
    by (inr p) = p.0 ∙ sym (ne_eqb b a (λ e. p.1 (sym e)))

-- an ASCII character keeps its number, which no other one gets
kept : (named : List ℕ) (y : ℕ) → y < 128 → (x : ℕ) → nat_eq (image_number named x) y ≡ nat_eq x y
kept named y small x =
    ap (nat_eq (image_number named x)) (sym (own named y small))
    ∙ eq_sym (image_number named x) (image_number named y)
    ∙ ascii_alone named y small x
    ∙ eq_sym y x

pub faithful : (named : List ℕ) (bodies : List Tree) (p : Tree) → All (NamesAll named) bodies → NamesAll named p → AreFaithful (image_number named) bodies p
faithful named bodies p all one = record {
  opening = kept named 40 (omega arith);
  closing = kept named 41 (omega arith);
  pattern = is_faithful named p one;
  definitions = all_faithful named bodies all;
}
