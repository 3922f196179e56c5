-- Beginnings of one list.
use Rattle.std.proofs.Common.{◌≡◌, ◌≤◌, List, [], ◌∷◌, ◌++◌, length, refl, ap, sym, ◌∙◌, arith, append_assoc, length-append}
use mathlib.Core.List.{IsPrefix}
use Rattle.std.specs.List.{fold}
use Rattle.sno_book.specs.Entries.{Entry}
use Rattle.sno_published.specs.Changes.{Change}

-- each list begins itself
pub prefix_self : {A : Type 0} (xs : List A) → IsPrefix xs xs
prefix_self [] = ([], refl)
prefix_self (x ∷ xs) = let r = prefix_self xs in (r.0, ap (λ ys. x ∷ ys) r.1)

pub prefix_trans : {A : Type 0} (xs ys zs : List A) → IsPrefix xs ys → IsPrefix ys zs → IsPrefix xs zs
prefix_trans xs ys zs p q = (p.0 ++ q.0, sym (append_assoc xs p.0 q.0) ∙ (ap (λ w. w ++ q.0) p.1 ∙ q.1))

-- of two beginnings of one list the shorter begins the longer
pub prefix_shorter : {A : Type 0} (xs ys zs : List A) → IsPrefix xs zs → IsPrefix ys zs → length xs ≤ length ys → IsPrefix xs ys
prefix_shorter [] ys zs p q few = (ys, refl)
prefix_shorter (x ∷ xs) [] zs p q few = absurd (omega arith)
prefix_shorter (x ∷ xs) (y ∷ ys) [] p q few = absurd (cc (p.1))
prefix_shorter (x ∷ xs) (y ∷ ys) (z ∷ zs) p q few =
    let heads : x ≡ y = cc (p.1, q.1) in
    let rest = prefix_shorter xs ys zs (p.0, cc (p.1)) (q.0, cc (q.1)) (omega arith) in (rest.0, cc (heads, rest.1))

-- a beginning as long as the whole is the whole
pub prefix_whole : {A : Type 0} (xs ys : List A) → IsPrefix xs ys → length ys ≤ length xs → xs ≡ ys
prefix_whole [] [] p few = refl
prefix_whole [] (y ∷ ys) p few = absurd (omega arith)
prefix_whole (x ∷ xs) [] p few = absurd (cc (p.1))
prefix_whole (x ∷ xs) (y ∷ ys) p few = let rest = prefix_whole xs ys (p.0, cc (p.1)) (omega arith) in cc (p.1, rest)

pub prefix_length : {A : Type 0} (xs ys : List A) → IsPrefix xs ys → length xs ≤ length ys
prefix_length xs ys p = omega (arith, sym (ap length p.1) ∙ length-append xs p.0)

-- what is shown begins what is shown after the changes of a log
pub prefix_logged : (shown : List Entry) (changes : List Change) → IsPrefix shown (fold (λ entries change. entries ++ change.added) shown changes)
prefix_logged shown [] = prefix_self shown
prefix_logged shown (change ∷ changes) = prefix_trans shown (shown ++ change.added) _ (change.added, refl) (prefix_logged (shown ++ change.added) changes)
