-- Laws of noted lists.
use Rattle.std.proofs.Common.{◌≡◌, ℕ, zero, suc, ◌+◌, ◌-◌, ◌<◌, ◌≤◌, true, false, List, [], ◌∷◌, ◌++◌, ap, sym, ◌∙◌, arith, refl, take, Some, None}
use Rattle.std.specs.List.{list_any, position, position_from}
use Rattle.std.proofs.lemmas.Iterator.Adapters.{position_from-zero}
use Rattle.std.proofs.lemmas.List.{append-nil}
use Rattle.sno_pattern.specs.Events.{CondList}
use Rattle.sno_pattern.specs.declared.events.What.TheVariants.{Part}
use Rattle.sno_trace.specs.declared.events.Trial.{Trial}
use Rattle.sno_trace.specs.declared.events.Landmark.TheVariants.{Enter, Leave}
use Rattle.sno_trace.specs.declared.events.Noted.{Noted}
use Rattle.sno_trace.specs.declared.events.Noted.TheVariants.{Try, Set, Mark, End, Halt, Stop}
use Rattle.sno_trace.specs.Noted.{cut, put_before, spread, go_on, assign_later, assign_now, marked, leave_each, leave_last, within_definition, upto}
use Rattle.sno_trace.specs.Steps.{is_last, trials_of}

-- if nothing ends the first list, each list is cut on its own
pub cut_unended : (l m : List Noted) → list_any is_last l ≡ false → cut (l ++ m) ≡ cut l ++ cut m
cut_unended [] m h = refl
cut_unended (Try x ∷ l) m h = ap (λ r. Try x ∷ r) (cut_unended l m h)
cut_unended (Set t ∷ l) m h = ap (λ r. Set t ∷ r) (cut_unended l m h)
cut_unended (Mark d ∷ l) m h = ap (λ r. Mark d ∷ r) (cut_unended l m h)
cut_unended (End e a ∷ l) m h = ap (λ r. End e a ∷ r) (cut_unended l m h)
cut_unended (Halt ∷ l) m h = cc
cut_unended (Stop ∷ l) m h = cc

-- what comes after a Halt or a Stop is cut off
pub cut_ended : (l m : List Noted) → list_any is_last l ≡ true → cut (l ++ m) ≡ cut l
cut_ended [] m h = cc
cut_ended (Try x ∷ l) m h = ap (λ r. Try x ∷ r) (cut_ended l m h)
cut_ended (Set t ∷ l) m h = ap (λ r. Set t ∷ r) (cut_ended l m h)
cut_ended (Mark d ∷ l) m h = ap (λ r. Mark d ∷ r) (cut_ended l m h)
cut_ended (End e a ∷ l) m h = ap (λ r. End e a ∷ r) (cut_ended l m h)
cut_ended (Halt ∷ l) m h = refl
cut_ended (Stop ∷ l) m h = refl

-- putting assignments before those of Ends changes neither what is last nor the trials
pub last_before : (a : CondList) (l : List Noted) → list_any is_last (put_before a l) ≡ list_any is_last l
last_before a [] = refl
last_before a (Try x ∷ l) = last_before a l
last_before a (Set t ∷ l) = last_before a l
last_before a (Mark d ∷ l) = last_before a l
last_before a (End e b ∷ l) = last_before a l
last_before a (Halt ∷ l) = refl
last_before a (Stop ∷ l) = refl

pub trials_before : (a : CondList) (l : List Noted) → trials_of (put_before a l) ≡ trials_of l
trials_before a [] = refl
trials_before a (Try x ∷ l) = ap suc (trials_before a l)
trials_before a (Set t ∷ l) = trials_before a l
trials_before a (Mark d ∷ l) = trials_before a l
trials_before a (End e b ∷ l) = trials_before a l
trials_before a (Halt ∷ l) = trials_before a l
trials_before a (Stop ∷ l) = trials_before a l

-- if a last event is found, the list is cut after it
found_from : (i : ℕ) (l : List Noted) (p : ℕ) → position_from is_last i l ≡ Some p → (i ≤ p) × (take (suc p - i) l ≡ cut l)
found_from i [] p h = cc
found_from i (Try x ∷ l) p h =
    let r = found_from (i + 1) l p h in
    let e : suc p - i ≡ suc (suc p - (i + 1)) = omega (arith, r.0) in
    (omega (arith, r.0), ap (λ k. take k (Try x ∷ l)) e ∙ ap (λ m. Try x ∷ m) r.1)
found_from i (Set t ∷ l) p h =
    let r = found_from (i + 1) l p h in
    let e : suc p - i ≡ suc (suc p - (i + 1)) = omega (arith, r.0) in
    (omega (arith, r.0), ap (λ k. take k (Set t ∷ l)) e ∙ ap (λ m. Set t ∷ m) r.1)
found_from i (Mark d ∷ l) p h =
    let r = found_from (i + 1) l p h in
    let e : suc p - i ≡ suc (suc p - (i + 1)) = omega (arith, r.0) in
    (omega (arith, r.0), ap (λ k. take k (Mark d ∷ l)) e ∙ ap (λ m. Mark d ∷ m) r.1)
found_from i (End x a ∷ l) p h =
    let r = found_from (i + 1) l p h in
    let e : suc p - i ≡ suc (suc p - (i + 1)) = omega (arith, r.0) in
    (omega (arith, r.0), ap (λ k. take k (End x a ∷ l)) e ∙ ap (λ m. End x a ∷ m) r.1)
found_from i (Halt ∷ l) p h =
    let same : i ≡ p = cc in
    let e : suc p - i ≡ suc 0 = omega arith in
    (omega arith, ap (λ k. take k (Halt ∷ l)) e)
found_from i (Stop ∷ l) p h =
    let same : i ≡ p = cc in
    let e : suc p - i ≡ suc 0 = omega arith in
    (omega arith, ap (λ k. take k (Stop ∷ l)) e)

pub cut_found : (l : List Noted) (p : ℕ) → position is_last l ≡ Some p → take (p + 1) l ≡ cut l
cut_found l p h = let e : p + 1 ≡ suc p - 0 = omega arith in ap (λ k. take k l) e ∙ (found_from 0 l p (sym (position_from-zero is_last l) ∙ h)).1

-- if none is found, the list stays
none_from : (i : ℕ) (l : List Noted) → position_from is_last i l ≡ None → l ≡ cut l
none_from i [] h = refl
none_from i (Try x ∷ l) h = ap (λ m. Try x ∷ m) (none_from (i + 1) l h)
none_from i (Set t ∷ l) h = ap (λ m. Set t ∷ m) (none_from (i + 1) l h)
none_from i (Mark d ∷ l) h = ap (λ m. Mark d ∷ m) (none_from (i + 1) l h)
none_from i (End x a ∷ l) h = ap (λ m. End x a ∷ m) (none_from (i + 1) l h)
none_from i (Halt ∷ l) h = cc
none_from i (Stop ∷ l) h = cc

pub cut_none : (l : List Noted) → position is_last l ≡ None → l ≡ cut l
cut_none l h = none_from 0 l (sym (position_from-zero is_last l) ∙ h)

-- a list without a Halt or a Stop isn't cut
pub cut_all : (l : List Noted) → list_any is_last l ≡ false → cut l ≡ l
cut_all [] h = refl
cut_all (Try x ∷ l) h = ap (λ r. Try x ∷ r) (cut_all l h)
cut_all (Set t ∷ l) h = ap (λ r. Set t ∷ r) (cut_all l h)
cut_all (Mark d ∷ l) h = ap (λ r. Mark d ∷ r) (cut_all l h)
cut_all (End e a ∷ l) h = ap (λ r. End e a ∷ r) (cut_all l h)
cut_all (Halt ∷ l) h = cc
cut_all (Stop ∷ l) h = cc

-- The first n trials of a list that is changed are those of the list, changed.
pub upto_cut : (n : ℕ) (l : List Noted) → upto n (cut l) ≡ cut (upto n l)
upto_cut n [] = refl
upto_cut zero (Try x ∷ l) = refl
upto_cut (suc n) (Try x ∷ l) = ap (λ r. Try x ∷ r) (upto_cut n l)
upto_cut n (Set t ∷ l) = ap (λ r. Set t ∷ r) (upto_cut n l)
upto_cut n (Mark d ∷ l) = ap (λ r. Mark d ∷ r) (upto_cut n l)
upto_cut n (End e a ∷ l) = ap (λ r. End e a ∷ r) (upto_cut n l)
upto_cut n (Halt ∷ l) = refl
upto_cut n (Stop ∷ l) = refl

pub upto_before : (n : ℕ) (a : CondList) (l : List Noted) → upto n (put_before a l) ≡ put_before a (upto n l)
upto_before n a [] = refl
upto_before zero a (Try x ∷ l) = refl
upto_before (suc n) a (Try x ∷ l) = ap (λ r. Try x ∷ r) (upto_before n a l)
upto_before n a (Set t ∷ l) = ap (λ r. Set t ∷ r) (upto_before n a l)
upto_before n a (Mark d ∷ l) = ap (λ r. Mark d ∷ r) (upto_before n a l)
upto_before n a (End e b ∷ l) = ap (λ r. End e (a ++ b) ∷ r) (upto_before n a l)
upto_before n a (Halt ∷ l) = ap (λ r. Halt ∷ r) (upto_before n a l)
upto_before n a (Stop ∷ l) = ap (λ r. Stop ∷ r) (upto_before n a l)

pub upto_later : (n : ℕ) (v : List ℕ) (c : ℕ) (l : List Noted) → upto n (assign_later v c l) ≡ assign_later v c (upto n l)
upto_later n v c [] = refl
upto_later zero v c (Try x ∷ l) = refl
upto_later (suc n) v c (Try x ∷ l) = ap (λ r. Try x ∷ r) (upto_later n v c l)
upto_later n v c (Set t ∷ l) = ap (λ r. Set t ∷ r) (upto_later n v c l)
upto_later n v c (Mark d ∷ l) = ap (λ r. Mark d ∷ r) (upto_later n v c l)
upto_later n v c (End e b ∷ l) = ap (λ r. End e (b ++ (v, c, e) ∷ []) ∷ r) (upto_later n v c l)
upto_later n v c (Halt ∷ l) = ap (λ r. Halt ∷ r) (upto_later n v c l)
upto_later n v c (Stop ∷ l) = ap (λ r. Stop ∷ r) (upto_later n v c l)

pub upto_now : (n : ℕ) (v : List ℕ) (c : ℕ) (l : List Noted) → upto n (assign_now v c l) ≡ assign_now v c (upto n l)
upto_now n v c [] = refl
upto_now zero v c (Try x ∷ l) = refl
upto_now (suc n) v c (Try x ∷ l) = ap (λ r. Try x ∷ r) (upto_now n v c l)
upto_now n v c (Set t ∷ l) = ap (λ r. Set t ∷ r) (upto_now n v c l)
upto_now n v c (Mark d ∷ l) = ap (λ r. Mark d ∷ r) (upto_now n v c l)
upto_now n v c (End e b ∷ l) = ap (λ r. Set (record { name = v; what = Part c e }) ∷ End e b ∷ r) (upto_now n v c l)
upto_now n v c (Halt ∷ l) = ap (λ r. Halt ∷ r) (upto_now n v c l)
upto_now n v c (Stop ∷ l) = ap (λ r. Stop ∷ r) (upto_now n v c l)

pub upto_leave : (n k i c : ℕ) (l : List Noted) → upto n (leave_each k i c l) ≡ leave_each k i c (upto n l)
upto_leave n k i c [] = refl
upto_leave zero k i c (Try x ∷ l) = refl
upto_leave (suc n) k i c (Try x ∷ l) = ap (λ r. Try x ∷ r) (upto_leave n k i c l)
upto_leave n k i c (Set t ∷ l) = ap (λ r. Set t ∷ r) (upto_leave n k i c l)
upto_leave n k i c (Mark d ∷ l) = ap (λ r. Mark d ∷ r) (upto_leave n k i c l)
upto_leave n k i c (End e b ∷ l) = ap (λ r. marked k (Leave i e) c ∷ End e b ∷ r) (upto_leave n k i c l)
upto_leave n k i c (Halt ∷ l) = ap (λ r. Halt ∷ r) (upto_leave n k i c l)
upto_leave n k i c (Stop ∷ l) = ap (λ r. Stop ∷ r) (upto_leave n k i c l)

-- what a definition does that fails at last, unless something ends it
upto_left : (n k i c : ℕ) (l : List Noted) → upto n (leave_each k i c l ++ leave_last k i c l) ≡ leave_each k i c (upto n l) ++ leave_last k i c (upto n l)
upto_left n k i c [] = refl
upto_left zero k i c (Try x ∷ l) = refl
upto_left (suc n) k i c (Try x ∷ l) = ap (λ r. Try x ∷ r) (upto_left n k i c l)
upto_left n k i c (Set t ∷ l) = ap (λ r. Set t ∷ r) (upto_left n k i c l)
upto_left n k i c (Mark d ∷ l) = ap (λ r. Mark d ∷ r) (upto_left n k i c l)
upto_left n k i c (End e b ∷ l) = ap (λ r. marked k (Leave i e) c ∷ End e b ∷ r) (upto_left n k i c l)
upto_left n k i c (Halt ∷ l) = ap (λ r. Halt ∷ upto n r) (append-nil (leave_each k i c l)) ∙ ap (λ r. Halt ∷ r) (upto_leave n k i c l) ∙ sym (ap (λ r. Halt ∷ r) (append-nil (leave_each k i c (upto n l))))
upto_left n k i c (Stop ∷ l) = ap (λ r. Stop ∷ upto n r) (append-nil (leave_each k i c l)) ∙ ap (λ r. Stop ∷ r) (upto_leave n k i c l) ∙ sym (ap (λ r. Stop ∷ r) (append-nil (leave_each k i c (upto n l))))

pub upto_within : (n k i c : ℕ) (l : List Noted) → upto n (within_definition k i c l) ≡ within_definition k i c (upto n l)
upto_within n k i c l = ap (λ r. marked k (Enter i) c ∷ r) (upto_left n k i c l)

-- no more trials than the limit
pub few_trials : (n : ℕ) (l : List Noted) → trials_of (upto n l) ≤ n
few_trials n [] = omega arith
few_trials zero (Try x ∷ l) = omega arith
few_trials (suc n) (Try x ∷ l) = omega (arith, few_trials n l)
few_trials n (Set t ∷ l) = few_trials n l
few_trials n (Mark d ∷ l) = few_trials n l
few_trials n (End e b ∷ l) = few_trials n l
few_trials n (Halt ∷ l) = few_trials n l
few_trials n (Stop ∷ l) = few_trials n l

-- Two lists one after the other: if nothing ends the first within the limit, the second has the trials that are left ..
pub upto_append : (n : ℕ) (l m : List Noted) → list_any is_last (upto n l) ≡ false → upto n (l ++ m) ≡ upto n l ++ upto (n - trials_of (upto n l)) m
upto_append n [] m h = let e : n ≡ n - 0 = omega arith in ap (λ k. upto k m) e
upto_append zero (Try x ∷ l) m h = cc
upto_append (suc n) (Try x ∷ l) m h =
    let e : n - trials_of (upto n l) ≡ suc n - suc (trials_of (upto n l)) = omega arith in
    ap (λ r. Try x ∷ r) (upto_append n l m h ∙ ap (λ k. upto n l ++ upto k m) e)
upto_append n (Set t ∷ l) m h = ap (λ r. Set t ∷ r) (upto_append n l m h)
upto_append n (Mark d ∷ l) m h = ap (λ r. Mark d ∷ r) (upto_append n l m h)
upto_append n (End e a ∷ l) m h = ap (λ r. End e a ∷ r) (upto_append n l m h)
upto_append n (Halt ∷ l) m h = cc
upto_append n (Stop ∷ l) m h = cc

-- .. and if something ends it, the second doesn't count.
pub upto_ended : (n : ℕ) (l m : List Noted) → list_any is_last (upto n l) ≡ true → cut (upto n (l ++ m)) ≡ cut (upto n l)
upto_ended n [] m h = cc
upto_ended zero (Try x ∷ l) m h = refl
upto_ended (suc n) (Try x ∷ l) m h = ap (λ r. Try x ∷ r) (upto_ended n l m h)
upto_ended n (Set t ∷ l) m h = ap (λ r. Set t ∷ r) (upto_ended n l m h)
upto_ended n (Mark d ∷ l) m h = ap (λ r. Mark d ∷ r) (upto_ended n l m h)
upto_ended n (End e a ∷ l) m h = ap (λ r. End e a ∷ r) (upto_ended n l m h)
upto_ended n (Halt ∷ l) m h = refl
upto_ended n (Stop ∷ l) m h = refl

-- a trial that fits, and one that doesn't
pub upto_one : (n : ℕ) (x : Trial) (l : List Noted) → 0 < n → upto n (Try x ∷ l) ≡ Try x ∷ upto (n - 1) l
upto_one zero x l h = absurd (omega arith)
upto_one (suc n) x l h = let e : n ≡ suc n - 1 = omega arith in ap (λ k. Try x ∷ upto k l) e

pub upto_none : (n : ℕ) (x : Trial) (l : List Noted) → n ≡ 0 → upto n (Try x ∷ l) ≡ Stop ∷ []
upto_none n x l h = ap (λ k. upto k (Try x ∷ l)) h

-- going on from an End after which nothing more is shown
pub go_on_ended : (n e : ℕ) (a : CondList) (rest : List Noted) (f : ℕ → List Noted) → list_any is_last (upto n (f e)) ≡ true → upto n (go_on (End e a ∷ rest) f) ≡ cut (put_before a (upto n (f e)))
go_on_ended n e a rest f h =
    upto_cut n (put_before a (f e) ++ spread rest f)
    ∙ upto_ended n (put_before a (f e)) (spread rest f) (ap (list_any is_last) (upto_before n a (f e)) ∙ last_before a (upto n (f e)) ∙ h)
    ∙ ap cut (upto_before n a (f e))

-- going on from an End after which more may be tried
pub go_on_unended : (n e : ℕ) (a : CondList) (rest : List Noted) (f : ℕ → List Noted) → list_any is_last (upto n (f e)) ≡ false
    → upto n (go_on (End e a ∷ rest) f) ≡ cut (put_before a (upto n (f e))) ++ upto (n - trials_of (upto n (f e))) (go_on rest f)
go_on_unended n e a rest f h =
    let going : list_any is_last (upto n (put_before a (f e))) ≡ false = ap (list_any is_last) (upto_before n a (f e)) ∙ last_before a (upto n (f e)) ∙ h in
    let left : ℕ = n - trials_of (upto n (f e)) in
    let count : trials_of (upto n (put_before a (f e))) ≡ trials_of (upto n (f e)) = ap trials_of (upto_before n a (f e)) ∙ trials_before a (upto n (f e)) in
    upto_cut n (put_before a (f e) ++ spread rest f)
    ∙ ap cut (upto_append n (put_before a (f e)) (spread rest f) going)
    ∙ cut_unended (upto n (put_before a (f e))) (upto (n - trials_of (upto n (put_before a (f e)))) (spread rest f)) going
    ∙ ap (λ m. cut m ++ cut (upto (n - trials_of (upto n (put_before a (f e)))) (spread rest f))) (upto_before n a (f e))
    ∙ ap (λ k. cut (put_before a (upto n (f e))) ++ cut (upto (n - k) (spread rest f))) count
    ∙ ap (λ m. cut (put_before a (upto n (f e))) ++ m) (sym (upto_cut left (spread rest f)))
