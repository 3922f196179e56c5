-- Lists of events that are made from other lists, one event at a time.
use Rattle.std.proofs.Common.{◌≡◌, ℕ, true, false, List, [], ◌∷◌, ◌++◌, map, refl}
use Rattle.sno_pattern.specs.Events.{CondList}
use Rattle.sno_trace.specs.declared.events.Noted.{Noted}
use Rattle.sno_trace.specs.declared.events.Noted.TheVariants.{Try, Set, Mark, End, Halt, Stop}
use Rattle.sno_trace.specs.Noted.{cut, put_before, assign_later, assign_now, leave_each}
use Rattle.sno_trace.specs.Steps.{is_last, is_ending}
use Rattle.sno_trace.specs.Promise.{until_ended}

-- what the first event becomes comes first
pub later_first : (v : List ℕ) (c : ℕ) (x : Noted) (l : List Noted) → assign_later v c (x ∷ l) ≡ assign_later v c (x ∷ []) ++ assign_later v c l
later_first v c (Try x) l = refl
later_first v c (Set a) l = refl
later_first v c (Mark d) l = refl
later_first v c (End e a) l = refl
later_first v c Halt l = refl
later_first v c Stop l = refl

pub now_first : (v : List ℕ) (c : ℕ) (x : Noted) (l : List Noted) → assign_now v c (x ∷ l) ≡ assign_now v c (x ∷ []) ++ assign_now v c l
now_first v c (Try x) l = refl
now_first v c (Set a) l = refl
now_first v c (Mark d) l = refl
now_first v c (End e a) l = refl
now_first v c Halt l = refl
now_first v c Stop l = refl

pub leave_first : (k i c : ℕ) (x : Noted) (l : List Noted) → leave_each k i c (x ∷ l) ≡ leave_each k i c (x ∷ []) ++ leave_each k i c l
leave_first k i c (Try x) l = refl
leave_first k i c (Set a) l = refl
leave_first k i c (Mark d) l = refl
leave_first k i c (End e a) l = refl
leave_first k i c Halt l = refl
leave_first k i c Stop l = refl

-- what follows an End goes on after an event that isn't the last, and ends with one that is
pub cut_first : (a : CondList) (x : Noted) (l : List Noted) → is_last x ≡ false → cut (put_before a (x ∷ l)) ≡ put_before a (x ∷ []) ++ cut (put_before a l)
cut_first a (Try x) l h = refl
cut_first a (Set t) l h = refl
cut_first a (Mark d) l h = refl
cut_first a (End e b) l h = refl
cut_first a Halt l h = cc
cut_first a Stop l h = cc

pub cut_last : (a : CondList) (x : Noted) (l : List Noted) → is_last x ≡ true → cut (put_before a (x ∷ l)) ≡ put_before a (x ∷ [])
cut_last a (Try x) l h = cc
cut_last a (Set t) l h = cc
cut_last a (Mark d) l h = cc
cut_last a (End e b) l h = cc
cut_last a Halt l h = refl
cut_last a Stop l h = refl

-- so do the events of a start
pub started : (s : ℕ) (x : Noted) (l : List Noted) → is_ending x ≡ false → until_ended (map (λ y. (s, y)) (x ∷ l)) ≡ (s, x) ∷ until_ended (map (λ y. (s, y)) l)
started s (Try x) l h = refl
started s (Set t) l h = refl
started s (Mark d) l h = refl
started s (End e b) l h = cc
started s Halt l h = cc
started s Stop l h = cc

pub start_ended : (s : ℕ) (x : Noted) (l : List Noted) → is_ending x ≡ true → until_ended (map (λ y. (s, y)) (x ∷ l)) ≡ (s, x) ∷ []
start_ended s (Try x) l h = cc
start_ended s (Set t) l h = cc
start_ended s (Mark d) l h = cc
start_ended s (End e b) l h = refl
start_ended s Halt l h = refl
start_ended s Stop l h = refl
