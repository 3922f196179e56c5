-- What holds of each End of a list of events when lists are cut, joined and gone on from.
use Rattle.std.proofs.Common.{◌≡◌, ℕ, Bool, true, false, cond, List, [], ◌∷◌, ◌++◌, refl, ap, ◌∙◌}
use Rattle.std.specs.List.{filter}
use Rattle.sno_pattern.specs.Events.{CondList, cut, put_before, spread, go_on, assign_later, assign_now}
use Rattle.sno_pattern.specs.Results.{ends, further_ends}
use Rattle.sno_pattern.specs.Laws.{AllEnds}
use Rattle.sno_pattern.specs.declared.events.Event.{Event}
use Rattle.sno_pattern.specs.declared.events.Event.TheVariants.{Try, Set, End, Halt}

-- what follows from it holds too
pub AllEnds-map : (P Q : ℕ → Type 0) → ((e : ℕ) → P e → Q e) → (l : List Event) → AllEnds P l → AllEnds Q l
AllEnds-map P Q f [] h = tt
AllEnds-map P Q f (Try ∷ l) h = AllEnds-map P Q f l h
AllEnds-map P Q f (Set t ∷ l) h = AllEnds-map P Q f l h
AllEnds-map P Q f (End e a ∷ l) h = (f e h.0, AllEnds-map P Q f l h.1)
AllEnds-map P Q f (Halt ∷ l) h = AllEnds-map P Q f l h

-- two facts at once
pub AllEnds-both : (P Q : ℕ → Type 0) (l : List Event) → AllEnds P l → AllEnds Q l → AllEnds (λ e. P e × Q e) l
AllEnds-both P Q [] h g = tt
AllEnds-both P Q (Try ∷ l) h g = AllEnds-both P Q l h g
AllEnds-both P Q (Set t ∷ l) h g = AllEnds-both P Q l h g
AllEnds-both P Q (End e a ∷ l) h g = ((h.0, g.0), AllEnds-both P Q l h.1 g.1)
AllEnds-both P Q (Halt ∷ l) h g = AllEnds-both P Q l h g

-- what holds under a premise
pub AllEnds-under : (A : Type 0) (P : ℕ → Type 0) (l : List Event) → (A → AllEnds P l) → AllEnds (λ e. A → P e) l
AllEnds-under A P [] h = tt
AllEnds-under A P (Try ∷ l) h = AllEnds-under A P l h
AllEnds-under A P (Set t ∷ l) h = AllEnds-under A P l h
AllEnds-under A P (End e a ∷ l) h = ((λ x. (h x).0), AllEnds-under A P l (λ x. (h x).1))
AllEnds-under A P (Halt ∷ l) h = AllEnds-under A P l h

pub AllEnds-cut : (P : ℕ → Type 0) (l : List Event) → AllEnds P l → AllEnds P (cut l)
AllEnds-cut P [] h = tt
AllEnds-cut P (Try ∷ l) h = AllEnds-cut P l h
AllEnds-cut P (Set t ∷ l) h = AllEnds-cut P l h
AllEnds-cut P (End e a ∷ l) h = (h.0, AllEnds-cut P l h.1)
AllEnds-cut P (Halt ∷ l) h = tt

pub AllEnds-append : (P : ℕ → Type 0) (l m : List Event) → AllEnds P l → AllEnds P m → AllEnds P (l ++ m)
AllEnds-append P [] m h g = g
AllEnds-append P (Try ∷ l) m h g = AllEnds-append P l m h g
AllEnds-append P (Set t ∷ l) m h g = AllEnds-append P l m h g
AllEnds-append P (End e a ∷ l) m h g = (h.0, AllEnds-append P l m h.1 g)
AllEnds-append P (Halt ∷ l) m h g = AllEnds-append P l m h g

pub AllEnds-put_before : (P : ℕ → Type 0) (a : CondList) (l : List Event) → AllEnds P l → AllEnds P (put_before a l)
AllEnds-put_before P a [] h = tt
AllEnds-put_before P a (Try ∷ l) h = AllEnds-put_before P a l h
AllEnds-put_before P a (Set t ∷ l) h = AllEnds-put_before P a l h
AllEnds-put_before P a (End e b ∷ l) h = (h.0, AllEnds-put_before P a l h.1)
AllEnds-put_before P a (Halt ∷ l) h = AllEnds-put_before P a l h

-- each End of what follows an End
pub AllEnds-spread : (P Q : ℕ → Type 0) (f : ℕ → List Event) → ((e : ℕ) → P e → AllEnds Q (f e)) → (l : List Event) → AllEnds P l → AllEnds Q (spread l f)
AllEnds-spread P Q f each [] h = tt
AllEnds-spread P Q f each (Try ∷ l) h = AllEnds-spread P Q f each l h
AllEnds-spread P Q f each (Set t ∷ l) h = AllEnds-spread P Q f each l h
AllEnds-spread P Q f each (End e a ∷ l) h =
    AllEnds-append Q (put_before a (f e)) (spread l f) (AllEnds-put_before Q a (f e) (each e h.0)) (AllEnds-spread P Q f each l h.1)
AllEnds-spread P Q f each (Halt ∷ l) h = AllEnds-spread P Q f each l h

pub AllEnds-go_on : (P Q : ℕ → Type 0) (f : ℕ → List Event) → ((e : ℕ) → P e → AllEnds Q (f e)) → (l : List Event) → AllEnds P l → AllEnds Q (go_on l f)
AllEnds-go_on P Q f each l h = AllEnds-cut Q (spread l f) (AllEnds-spread P Q f each l h)

pub AllEnds-assign_later : (P : ℕ → Type 0) (v : List ℕ) (c : ℕ) (l : List Event) → AllEnds P l → AllEnds P (assign_later v c l)
AllEnds-assign_later P v c [] h = tt
AllEnds-assign_later P v c (Try ∷ l) h = AllEnds-assign_later P v c l h
AllEnds-assign_later P v c (Set t ∷ l) h = AllEnds-assign_later P v c l h
AllEnds-assign_later P v c (End e b ∷ l) h = (h.0, AllEnds-assign_later P v c l h.1)
AllEnds-assign_later P v c (Halt ∷ l) h = AllEnds-assign_later P v c l h

pub AllEnds-assign_now : (P : ℕ → Type 0) (v : List ℕ) (c : ℕ) (l : List Event) → AllEnds P l → AllEnds P (assign_now v c l)
AllEnds-assign_now P v c [] h = tt
AllEnds-assign_now P v c (Try ∷ l) h = AllEnds-assign_now P v c l h
AllEnds-assign_now P v c (Set t ∷ l) h = AllEnds-assign_now P v c l h
AllEnds-assign_now P v c (End e b ∷ l) h = (h.0, AllEnds-assign_now P v c l h.1)
AllEnds-assign_now P v c (Halt ∷ l) h = AllEnds-assign_now P v c l h

-- the Ends of a primitive
abbrev pub AllOf : (ℕ → Type 0) → List ℕ → Type 0
AllOf P [] = Unit {0}
AllOf P (e ∷ es) = P e × AllOf P es

AllEnds-further : (P : ℕ → Type 0) (es : List ℕ) → AllOf P es → AllEnds P (further_ends es)
AllEnds-further P [] h = tt
AllEnds-further P (e ∷ es) h = (h.0, AllEnds-further P es h.1)

pub AllEnds-ends : (P : ℕ → Type 0) (es : List ℕ) → AllOf P es → AllEnds P (ends es)
AllEnds-ends P [] h = tt
AllEnds-ends P (e ∷ es) h = (h.0, AllEnds-further P es h.1)

pub AllOf-map : (P Q : ℕ → Type 0) → ((e : ℕ) → P e → Q e) → (es : List ℕ) → AllOf P es → AllOf Q es
AllOf-map P Q f [] h = tt
AllOf-map P Q f (e ∷ es) h = (f e h.0, AllOf-map P Q f es h.1)

AllOf-kept : (P : ℕ → Type 0) (b : Bool) (e : ℕ) (es : List ℕ) → P e → AllOf P es → AllOf P (cond b (e ∷ es) es)
AllOf-kept P true e es h g = (h, g)
AllOf-kept P false e es h g = g

pub AllOf-filter : (P : ℕ → Type 0) (test : ℕ → Bool) (es : List ℕ) → AllOf P es → AllOf P (filter test es)
AllOf-filter P test [] h = tt
AllOf-filter P test (e ∷ es) h = AllOf-kept P (test e) e (filter test es) h.0 (AllOf-filter P test es h.1)

-- the one end that is allowed
pub AllOf-end_if : (P : ℕ → Type 0) (allowed : Bool) (e : ℕ) → (allowed ≡ true → P e) → AllOf P (cond allowed (e ∷ []) [])
AllOf-end_if P true e h = (h refl, tt)
AllOf-end_if P false e h = tt

-- Going on by two ways that agree at each End gives the same events.
pub spread-cong : (f g : ℕ → List Event) (l : List Event) → AllEnds (λ e. f e ≡ g e) l → spread l f ≡ spread l g
spread-cong f g [] h = refl
spread-cong f g (Try ∷ l) h = ap (λ r. Try ∷ r) (spread-cong f g l h)
spread-cong f g (Set t ∷ l) h = ap (λ r. Set t ∷ r) (spread-cong f g l h)
spread-cong f g (End e a ∷ l) h = ap (λ r. put_before a r ++ spread l f) h.0 ∙ ap (λ r. put_before a (g e) ++ r) (spread-cong f g l h.1)
spread-cong f g (Halt ∷ l) h = ap (λ r. Halt ∷ r) (spread-cong f g l h)

pub go_on-cong : (f g : ℕ → List Event) (l : List Event) → AllEnds (λ e. f e ≡ g e) l → go_on l f ≡ go_on l g
go_on-cong f g l h = ap cut (spread-cong f g l h)
