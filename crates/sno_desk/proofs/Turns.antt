-- Dealing out jobs in turn.
use Rattle.std.proofs.Common.{◌≡◌, ◌<◌, ◌≤◌, ◌⊎◌, inl, inr, ℕ, zero, suc, ◌+◌, ◌-◌, true, false, List, [], ◌∷◌, ◌++◌, ◌∙◌, length, get_or, map, refl, sym, ap, subst, append_assoc, length-append, arith}
use Rattle.std.specs.Prelude.{sum, Option, Some, None, sum_by}
use Rattle.std.proofs.Math.Dec.{leb}
use Rattle.std.proofs.lemmas.Bool.Decides.{leb_tells}
use Rattle.std.proofs.lemmas.List.Sums.{sum-map, sum_by-cons}
use Rattle.std.proofs.lemmas.List.{append-nil, get_or-map, length-map, map-append}
use mathlib.Core.List.{IsPrefix as Begins}
use Rattle.sno_statement.specs.Statement.{Statement}
use Rattle.sno_published.proofs.Prefixes.{prefix_self, prefix_trans}
use Rattle.sno_book.specs.Entries.{Entry}
use Rattle.sno_book.specs.Openings.{Opening}
use Rattle.sno_desk.specs.Replies.{Reply, IsReply, receipts_in}
use Rattle.sno_desk.specs.Turns.{AreReplies, BeginsWith, Deals, Goes, HasGrown, HasTurns, HasWorked, InTurn, IsSubmitted, Position, every, position, shares_after}

-- a seat that did nothing has grown in the sense of `HasGrown`
pub grown_self : (p : Position) → HasGrown p p
grown_self p = record { accepted = omega arith; begins = prefix_self p.seen }

pub grown_on : (first second third : Position) → HasGrown first second → HasGrown second third → HasGrown first third
grown_on first second third g h =
    let one : first.accepted ≤ second.accepted = g.accepted in
    let other : second.accepted ≤ third.accepted = h.accepted in
    record { accepted = omega arith; begins = prefix_trans first.seen second.seen third.seen g.begins h.begins }

-- and so has one that submitted
pub grown_by : (before after : Position) (r : Reply) → after.accepted ≡ before.accepted + receipts_in r → Begins before.seen after.seen → HasGrown before after
grown_by before after r counted begins = record { accepted = omega arith; begins = begins }

pub grown_still : (before now after : Position) → HasGrown before now → after.accepted ≡ now.accepted → after.seen ≡ now.seen → HasGrown before after
grown_still before now after g counted seen =
    let one : before.accepted ≤ now.accepted = g.accepted in
    record { accepted = omega arith; begins = subst (λ (l : List Entry). Begins before.seen l) (sym seen) g.begins }

pub goes_none : (A : Position → Position → Statement → Reply → Type 0) (before : Position) (all : List Statement) → Goes A before before all all []
goes_none A before all = record { on = λ after more h. h }

-- the job whose turn it is has its reply
pub goes_one : (A : Position → Position → Statement → Reply → Type 0) (before now next : Position) (all : List Statement) (count wait : ℕ) (s : Statement) (jobs : List Statement)
    (replies : List Reply) (r : Reply)
    → wait ≡ 0 → A now next s r → Goes A before now all (every count wait (s ∷ jobs)) replies → Goes A before next all (every count (count - 1) jobs) (replies ++ r ∷ [])
goes_one A before now next all count zero s jobs replies r e a g = record { on = λ after more h. rw append_assoc (g.on after (r ∷ more) (next, a, h)) }
goes_one A before now next all count (suc wait) s jobs replies r e a g = absurd (omega arith)

-- a job of another seat is passed over
pub goes_by : (A : Position → Position → Statement → Reply → Type 0) (before now : Position) (all : List Statement) (count wait next : ℕ) (s : Statement) (jobs : List Statement)
    (replies : List Reply)
    → next + 1 ≡ wait → Goes A before now all (every count wait (s ∷ jobs)) replies → Goes A before now all (every count next jobs) replies
goes_by A before now all count zero next s jobs replies e g = absurd (omega arith)
goes_by A before now all count (suc wait) next s jobs replies e g =
    let q : wait ≡ next = omega arith in
    let P : ℕ → Type 0 = λ w. Goes A before now all (every count w jobs) replies in subst P q g

pub goes_end : (A : Position → Position → Statement → Reply → Type 0) (before now : Position) (all : List Statement) (count wait : ℕ) (left : List Statement)
    (replies : List Reply) → left ≡ [] → Goes A before now all (every count wait left) replies → InTurn A before now all replies
goes_end A before now all count wait left replies none g =
    let P : List Statement → Type 0 = λ l. Goes A before now all (every count wait l) replies in
    let h = subst P none g in
    rw append-nil at (h.on now [] refl)

-- ---- the replies of one seat

as_many : (A : Position → Position → Statement → Reply → Type 0) (before after : Position) (jobs : List Statement) (replies : List Reply) → InTurn A before after jobs replies → length replies ≡ length jobs
as_many A before after [] [] a = refl
as_many A before after [] (r ∷ replies) a = absurd a
as_many A before after (s ∷ jobs) [] a = absurd a
as_many A before after (s ∷ jobs) (r ∷ replies) a = ap (λ n. suc n) (as_many A a.0 after jobs replies a.2)

-- each reply is a result for its job, and the seat has accepted as many more as there are receipts
module _ (shuts : ℕ → ℕ → Type 0) (tries : ℕ) (opening : Opening) (seats : ℕ) where
  each_reply : (before after : Position) (jobs : List Statement) (replies : List Reply) → InTurn (IsSubmitted shuts tries opening seats) before after jobs replies
      → AreReplies (IsReply shuts tries opening) jobs replies
  each_reply before after [] [] a = tt
  each_reply before after [] (r ∷ replies) a = absurd a
  each_reply before after (s ∷ jobs) [] a = absurd a
  each_reply before after (s ∷ jobs) (r ∷ replies) a = (a.1.allowed, each_reply a.0 after jobs replies a.2)

  all_counted : (before after : Position) (jobs : List Statement) (replies : List Reply) → InTurn (IsSubmitted shuts tries opening seats) before after jobs replies
      → after.accepted ≡ before.accepted + sum_by receipts_in replies
  all_counted before after [] [] a = let same = ap (λ (p : Position). p.accepted) a in omega (arith, same)
  all_counted before after [] (r ∷ replies) a = absurd a
  all_counted before after (s ∷ jobs) [] a = absurd a
  all_counted before after (s ∷ jobs) (r ∷ replies) a =
      let rest = all_counted a.0 after jobs replies a.2 in
      let one = a.1.counted in
      let more = sum_by-cons receipts_in r replies in
      omega (arith, rest, one, more)

-- ---- the replies of all seats

-- two lists of the same length have equally many elements in each seat's turns
turns_alike : {X Y : Type 0} (count first : ℕ) (xs : List X) (ys : List Y) → length xs ≡ length ys → length (every count first xs) ≡ length (every count first ys)
turns_alike count first [] [] e = refl
turns_alike count first [] (y ∷ ys) e = absurd (omega arith)
turns_alike count first (x ∷ xs) [] e = absurd (omega arith)
turns_alike count zero (x ∷ xs) (y ∷ ys) e = ap (λ n. suc n) (turns_alike count (count - 1) xs ys (omega arith))
turns_alike count (suc first) (x ∷ xs) (y ∷ ys) e = turns_alike count first xs ys (omega arith)

none_left : {X : Type 0} (xs : List X) → length xs ≡ 0 → xs ≡ []
none_left [] e = refl
none_left (x ∷ xs) e = absurd (omega arith)

begins_whole : {X : Type 0} (xs front : List X) → BeginsWith xs front → length front ≡ length xs → xs ≡ front
begins_whole {X} xs front b e =
    let joined = b.joined in
    let sizes = ap length joined in
    let more = length-append front b.left in
    let left = none_left b.left (omega arith) in
    let whole : xs ≡ front ++ [] = joined ∙ ap (λ l. front ++ l) left in
    whole ∙ append-nil front

deals_at : {X : Type 0} (count first : ℕ) (queues : List (List X)) (replies : List X) → Deals count first queues replies
    → (k place : ℕ) → place ≡ first + k → k < length queues → BeginsWith (get_or queues k []) (every count place replies)
deals_at count first [] replies d k place e h = absurd (omega arith)
deals_at {X} count first (queue ∷ queues) replies d zero place e h =
    let same : first ≡ place = omega arith in
    let P : ℕ → Type 0 = λ p. BeginsWith queue (every count p replies) in subst P same d.0
deals_at count first (queue ∷ queues) replies d (suc k) place e h = deals_at count (suc first) queues replies d.1 k place (omega arith) (omega arith)

-- if the replies of each seat are for its jobs, the replies in the order of the jobs are for all jobs
pub all_replies : (A : Statement → Reply → Type 0) (count : ℕ) → 1 ≤ count → (jobs : List Statement) (replies : List Reply)
    → length replies ≡ length jobs → ((k : ℕ) → k < count → AreReplies A (every count k jobs) (every count k replies)) → AreReplies A jobs replies
all_replies A count some [] [] e each = tt
all_replies A count some [] (r ∷ replies) e each = absurd (omega arith)
all_replies A count some (s ∷ jobs) [] e each = absurd (omega arith)
all_replies A count some (s ∷ jobs) (r ∷ replies) e each =
    let front = each 0 (omega arith) in
    (front.0, all_replies A count some jobs replies (omega arith) (λ k h. later A count jobs replies k front.1 (λ inside. each (suc k) inside) (leb_tells (suc (suc k)) count) h))
  where
    later : (A : Statement → Reply → Type 0) (count : ℕ) (jobs : List Statement) (replies : List Reply) (k : ℕ)
        → AreReplies A (every count (count - 1) jobs) (every count (count - 1) replies)
        → (suc k < count → AreReplies A (every count k jobs) (every count k replies))
        → ((leb (suc (suc k)) count ≡ true) × (suc (suc k) ≤ count)) ⊎ ((leb (suc (suc k)) count ≡ false) × (count < suc (suc k))) → k < count → AreReplies A (every count k jobs) (every count k replies)
    later A count jobs replies k last inside (inl p) h = inside (omega arith)
    later A count jobs replies k last inside (inr p) h =
        let same : count - 1 ≡ k = omega arith in
        let P : ℕ → Type 0 = λ m. AreReplies A (every count m jobs) (every count m replies) in subst P same last

-- all shares, from each seat's share
raised_all : (count first : ℕ) (before after : List ℕ) (replies : List Reply) → length after ≡ length before
    → ((k place : ℕ) → place ≡ first + k → k < length before → get_or after k 0 ≡ get_or before k 0 + sum_by receipts_in (every count place replies))
    → after ≡ shares_after count first before replies
raised_all count first [] [] replies e each = refl
raised_all count first [] (y ∷ after) replies e each = absurd (omega arith)
raised_all count first (x ∷ before) [] replies e each = absurd (omega arith)
raised_all count first (x ∷ before) (y ∷ after) replies e each =
    let front : y ≡ x + sum_by receipts_in (every count first replies) = each 0 first (omega arith) (omega arith) in
    let rest = raised_all count (suc first) before after replies (omega arith) (λ k place q h. each (suc k) place (omega arith) (omega arith)) in
    cc

first_of : {X : Type 0} (xs : List X) (k : ℕ) → k < length xs → X
first_of [] k h = absurd (omega arith)
first_of (x ∷ xs) k h = x

-- one seat's replies, from what it kept
replies_of_seat : (A : Position → Position → Statement → Reply → Type 0) (jobs : List Statement) (mine : List Reply) (before after : Position)
    (kept : Option (List Reply)) (queue : List Reply)
    → HasWorked A jobs before after kept → kept ≡ Some queue → BeginsWith queue mine → length mine ≡ length jobs → InTurn A before after jobs mine
replies_of_seat A jobs mine before after None queue worked kept b e = absurd cc
replies_of_seat A jobs mine before after (Some replies) queue worked kept b e =
    let same : replies ≡ queue = cc in
    let counts = as_many A before after jobs replies worked in
    let counted : length mine ≡ length queue = e ∙ sym counts ∙ ap length same in
    let whole : replies ≡ mine = same ∙ begins_whole queue mine b counted in
    let P : List Reply → Type 0 = λ l. InTurn A before after jobs l in
    subst P whole worked

-- as many replies as jobs are kept
kept_turns : (A : Position → Position → Statement → Reply → Type 0) (jobs : List Statement) (before after : Position) (kept : Option (List Reply)) (queue : List Reply)
    → HasWorked A jobs before after kept → kept ≡ Some queue → length queue ≡ length jobs
kept_turns A jobs before after None queue worked kept = absurd cc
kept_turns A jobs before after (Some replies) queue worked kept =
    let same : replies ≡ queue = cc in
    let P : List Reply → Type 0 = λ l. length l ≡ length jobs in
    subst P same (as_many A before after jobs replies worked)

turns_all : {X : Type 0} (count first : ℕ) (queues : List (List X)) (jobs : List Statement)
    → ((k place : ℕ) → place ≡ first + k → k < length queues → length (get_or queues k []) ≡ length (every count place jobs)) → HasTurns count first queues jobs
turns_all count first [] jobs each = tt
turns_all count first (queue ∷ queues) jobs each = (
  each 0 first (omega arith) (omega arith),
  turns_all count (suc first) queues jobs (λ k place q h. each (suc k) place (omega arith) (omega arith)),
)

module _ {X Q : Type 0} (share : X → ℕ) (view : X → List Entry) (kept : X → Option (List Reply)) (items : Q → List Reply) (shuts : ℕ → ℕ → Type 0) (tries : ℕ) (opening : Opening) (seats : ℕ) where
  abbrev at : X → Position
  at x = position (share x) (view x)

  abbrev Submitted : Position → Position → Statement → Reply → Type 0
  Submitted = IsSubmitted shuts tries opening seats

  -- the seats work, and then their replies are taken and put in order: each seat's jobs have their replies in turn
  pub record Settles (jobs : List Statement) (before worked after : List X) (queues : List Q) (replies : List Reply) : Type 0 where
    pub some : 1 ≤ length before
    pub worked_as_many : length worked ≡ length before
    pub after_as_many : length after ≡ length before
    pub queues_as_many : length queues ≡ length before
    pub at_work : (k : ℕ) (d : X) → k < length before → HasWorked Submitted (every (length before) k jobs) (at (get_or before k d)) (at (get_or worked k d)) (kept (get_or worked k d))
    pub taken : (k : ℕ) (d : X) (e : Q) → k < length before → kept (get_or worked k d) ≡ Some (items (get_or queues k e))
    pub same : (k : ℕ) (d : X) → k < length before → share (get_or after k d) ≡ share (get_or worked k d)
    pub same_view : (k : ℕ) (d : X) → k < length before → view (get_or after k d) ≡ view (get_or worked k d)
    pub dealt : Deals (length before) 0 (map items queues) replies
    pub in_all : length replies ≡ length jobs

  at_seat : (jobs : List Statement) (before worked after : List X) (queues : List Q) (replies : List Reply)
      → Settles jobs before worked after queues replies → (k : ℕ) (d : X) (e : Q) → k < length before
      → InTurn Submitted (at (get_or before k d)) (at (get_or after k d)) (every (length before) k jobs) (every (length before) k replies)
  at_seat jobs before worked after queues replies s k d e h =
      let inside : k < length (map items queues) = rw length-map (rw s.queues_as_many h) in
      let begins = deals_at (length before) 0 (map items queues) replies s.dealt k k (omega arith) inside in
      let there = get_or-map items queues k e [] (rw s.queues_as_many h) in
      let P : List Reply → Type 0 = λ q. BeginsWith q (every (length before) k replies) in
      let mine = replies_of_seat Submitted (every (length before) k jobs) (every (length before) k replies) (at (get_or before k d)) (at (get_or worked k d)) (kept (get_or worked k d))
      (items (get_or queues k e)) (s.at_work k d h) (s.taken k d e h) (subst P there begins) (turns_alike (length before) k replies jobs s.in_all) in
      let count : ℕ → Type 0 = λ n. InTurn Submitted (at (get_or before k d)) (position n (view (get_or worked k d))) (every (length before) k jobs) (every (length before) k replies) in
      let seen : List Entry → Type 0 = λ l. InTurn Submitted (at (get_or before k d)) (position (share (get_or after k d)) l) (every (length before) k jobs) (every (length before) k replies) in
      subst seen (sym (s.same_view k d h)) (subst count (sym (s.same k d h)) mine)

  -- the replies that are taken from the seats at work
  pub taken_turns : (jobs : List Statement) (before worked : List X) (queues : List Q) → length queues ≡ length before
      → ((k : ℕ) (d : X) → k < length before → HasWorked Submitted (every (length before) k jobs) (at (get_or before k d)) (at (get_or worked k d)) (kept (get_or worked k d)))
      → ((k : ℕ) (d : X) (e : Q) → k < length before → kept (get_or worked k d) ≡ Some (items (get_or queues k e)))
      → HasTurns (length before) 0 (map items queues) jobs
  taken_turns jobs before worked queues many at_work taken =
      turns_all (length before) 0 (map items queues) jobs
      (λ k place q h.
      let inside : k < length queues = rw length-map at h in
      let within : k < length before = omega arith in
      let d = first_of before k within in
      let e = first_of queues k inside in
      let same : k ≡ place = omega arith in
      let mine = kept_turns Submitted (every (length before) k jobs) (at (get_or before k d)) (at (get_or worked k d)) (kept (get_or worked k d)) (items (get_or queues k e))
      (at_work k d within) (taken k d e within) in
      let there = ap length (get_or-map items queues k e [] inside) in
      let P : ℕ → Type 0 = λ m. length (get_or (map items queues) k []) ≡ length (every (length before) m jobs) in
      subst P same (there ∙ mine))

  pub settled_results : (jobs : List Statement) (before worked after : List X) (queues : List Q) (replies : List Reply)
      → Settles jobs before worked after queues replies → AreReplies (IsReply shuts tries opening) jobs replies
  settled_results jobs before worked after queues replies s =
      all_replies (IsReply shuts tries opening) (length before) s.some jobs replies s.in_all
      (λ k h.
      let d = first_of before k h in
      each_reply shuts tries opening seats (at (get_or before k d)) (at (get_or after k d)) (every (length before) k jobs) (every (length before) k replies)
      (at_seat jobs before worked after queues replies s k d (first_of queues k (rw s.queues_as_many h)) h))

  pub settled_turns : (jobs : List Statement) (before worked after : List X) (queues : List Q) (replies : List Reply)
      → Settles jobs before worked after queues replies → (k : ℕ) (d : X) → k < length before
      → InTurn Submitted (at (get_or before k d)) (at (get_or after k d)) (every (length before) k jobs) (every (length before) k replies)
  settled_turns jobs before worked after queues replies s k d h =
      at_seat jobs before worked after queues replies s k d (first_of queues k (rw s.queues_as_many h)) h

  pub settled_shares : (jobs : List Statement) (before worked after : List X) (queues : List Q) (replies : List Reply)
      → Settles jobs before worked after queues replies → map share after ≡ shares_after (length before) 0 (map share before) replies
  settled_shares jobs before worked after queues replies s =
      raised_all (length before) 0 (map share before) (map share after) replies (simp length-map s.after_as_many)
      (λ k place q h.
      let inside : k < length before = rw length-map at h in
      let d = first_of before k inside in
      let same : k ≡ place = omega arith in
      let mine = all_counted shuts tries opening seats (at (get_or before k d)) (at (get_or after k d)) (every (length before) k jobs) (every (length before) k replies)
      (at_seat jobs before worked after queues replies s k d (first_of queues k (rw s.queues_as_many inside)) inside) in
      let was = get_or-map share before k d 0 inside in
      let is = get_or-map share after k d 0 (rw s.after_as_many inside) in
      let P : ℕ → Type 0 = λ m. get_or (map share after) k 0 ≡ get_or (map share before) k 0 + sum_by receipts_in (every (length before) m replies) in
      subst P same (omega (arith, mine, was, is)))

-- ---- the queues in turn
deals_front : {X : Type 0} (count first : ℕ) (queues : List (List X)) (last : List X) (replies : List X) → Deals count first (queues ++ last ∷ []) replies → Deals count first queues replies
deals_front count first [] last replies d = tt
deals_front count first (queue ∷ queues) last replies d = (d.0, deals_front count (suc first) queues last replies d.1)

deals_last : {X : Type 0} (count first place : ℕ) (queues : List (List X)) (last : List X) (replies : List X) → place ≡ first + length queues
    → Deals count first (queues ++ last ∷ []) replies → BeginsWith last (every count place replies)
deals_last count first place [] last replies e d =
    let same : first ≡ place = omega arith in
    let P : ℕ → Type 0 = λ p. BeginsWith last (every count p replies) in subst P same d.0
deals_last count first place (queue ∷ queues) last replies e d = deals_last count (suc first) place queues last replies (omega arith) d.1

deals_later : {X : Type 0} (count first : ℕ) (queues : List (List X)) (r : X) (replies : List X) → Deals count first queues replies → Deals count (suc first) queues (r ∷ replies)
deals_later count first [] r replies d = tt
deals_later count first (queue ∷ queues) r replies d = (d.0, deals_later count (suc first) queues r replies d.1)

begins_one : {X : Type 0} (queue rest front : List X) (r : X) → queue ≡ r ∷ rest → BeginsWith rest front → BeginsWith queue (r ∷ front)
begins_one queue rest front r e b = record { left = b.left; joined = e ∙ ap (λ l. r ∷ l) b.joined }

turned : {X : Type 0} (count : ℕ) (queue rest : List X) (queues : List (List X)) (r : X) (replies : List X) → count ≡ suc (length queues) → queue ≡ r ∷ rest
    → Deals count 0 (queues ++ rest ∷ []) replies → Deals count 0 (queue ∷ queues) (r ∷ replies)
turned count queue rest queues r replies many e d = (
  begins_one queue rest (every count (count - 1) replies) r e (deals_last count 0 (count - 1) queues rest replies (omega arith) d),
  deals_later count 0 queues r replies (deals_front count 0 queues rest replies d),
)

-- the first reply of the first queue, and that queue put last
pub taken_in_turn : {X Q : Type 0} (items : Q → List X) (before mids after : List Q) (queue rest : Q) (r : X) (replies : List X)
    → before ≡ queue ∷ mids → items queue ≡ r ∷ items rest → after ≡ mids ++ rest ∷ []
    → Deals (length before) 0 (map items after) replies → Deals (length before) 0 (map items before) (r ∷ replies)
taken_in_turn {X} items before mids after queue rest r replies was one is d =
    let count = length before in
    let many : count ≡ suc (length (map items mids)) = rw length-map (ap length was) in
    let rows : map items after ≡ map items mids ++ items rest ∷ [] = ap (map items) is ∙ map-append items mids (rest ∷ []) in
    let P : List (List X) → Type 0 = λ l. Deals count 0 l replies in
    let Q' : List (List X) → Type 0 = λ l. Deals count 0 l (r ∷ replies) in
    let now = turned count (items queue) (items rest) (map items mids) r replies many one (subst P rows d) in
    subst Q' (sym (ap (map items) was)) now

pub deals_none : {X : Type 0} (count first : ℕ) (queues : List (List X)) → Deals count first queues []
deals_none count first [] = tt
deals_none count first (queue ∷ queues) = (record { left = queue; joined = refl }, deals_none count (suc first) queues)

-- ---- how many replies the queues have
turns_earlier : {X : Type 0} (count first : ℕ) (queues : List (List X)) (job : Statement) (jobs : List Statement) → HasTurns count (suc first) queues (job ∷ jobs) → HasTurns count first queues jobs
turns_earlier count first [] job jobs h = tt
turns_earlier count first (queue ∷ queues) job jobs h = (h.0, turns_earlier count (suc first) queues job jobs h.1)

turns_with_last : {X : Type 0} (count first place : ℕ) (queues : List (List X)) (last : List X) (jobs : List Statement) → place ≡ first + length queues
    → length last ≡ length (every count place jobs) → HasTurns count first queues jobs → HasTurns count first (queues ++ last ∷ []) jobs
turns_with_last count first place [] last jobs e many h =
    let same : place ≡ first = omega arith in
    let P : ℕ → Type 0 = λ p. length last ≡ length (every count p jobs) in (subst P same many, tt)
turns_with_last count first place (queue ∷ queues) last jobs e many h = (h.0, turns_with_last count (suc first) place queues last jobs (omega arith) many h.1)

-- the first queue without its first reply, put after the others
pub turns_in_turn : {X Q : Type 0} (items : Q → List X) (before mids after : List Q) (queue rest : Q) (r : X) (job : Statement) (jobs : List Statement)
    → before ≡ queue ∷ mids → items queue ≡ r ∷ items rest → after ≡ mids ++ rest ∷ []
    → HasTurns (length before) 0 (map items before) (job ∷ jobs) → HasTurns (length before) 0 (map items after) jobs
turns_in_turn {X} items before mids after queue rest r job jobs was one is h =
    let count = length before in
    let many : count ≡ suc (length (map items mids)) = rw length-map (ap length was) in
    let P : List (List X) → Type 0 = λ l. HasTurns count 0 l (job ∷ jobs) in
    let Q' : List (List X) → Type 0 = λ l. HasTurns count 0 l jobs in
    let front : HasTurns count 0 (items queue ∷ map items mids) (job ∷ jobs) = subst P (ap (map items) was) h in
    let rows : map items after ≡ map items mids ++ items rest ∷ [] = ap (map items) is ∙ map-append items mids (rest ∷ []) in
    let sizes : length (items queue) ≡ suc (length (items rest)) = ap length one in
    let turns : length (items queue) ≡ suc (length (every count (count - 1) jobs)) = front.0 in
    let left : length (items rest) ≡ length (every count (count - 1) jobs) = omega arith in
    subst Q' (sym rows) (turns_with_last count 0 (count - 1) (map items mids) (items rest) jobs (omega arith) left (turns_earlier count 0 (map items mids) job jobs front.1))

-- while there are jobs the first queue has a reply
pub first_has_one : {X Q : Type 0} (items : Q → List X) (queues : List Q) (d : Q) (job : Statement) (jobs : List Statement) → 0 < length queues
    → HasTurns (length queues) 0 (map items queues) (job ∷ jobs) → 0 < length (items (get_or queues 0 d))
first_has_one items [] d job jobs some h = absurd (omega arith)
first_has_one items (queue ∷ queues) d job jobs some h = let many = h.0 in omega (arith, many)

-- ---- all shares together
-- the receipts among the turns of some seats, from one seat on
abbrev turns_total : ℕ → ℕ → ℕ → List Reply → ℕ
turns_total count first zero replies = 0
turns_total count first (suc seats) replies = sum_by receipts_in (every count first replies) + turns_total count (suc first) seats replies

turns_of_none : (count first seats : ℕ) → turns_total count first seats [] ≡ 0
turns_of_none count first zero = refl
turns_of_none count first (suc seats) = let rest = turns_of_none count (suc first) seats in omega (arith, rest)

turns_later : (count first seats : ℕ) (r : Reply) (replies : List Reply) → turns_total count (suc first) seats (r ∷ replies) ≡ turns_total count first seats replies
turns_later count first zero r replies = refl
turns_later count first (suc seats) r replies = ap (λ n. sum_by receipts_in (every count first replies) + n) (turns_later count (suc first) seats r replies)

turns_last : (count first seats place : ℕ) (replies : List Reply) → place ≡ first + seats
    → turns_total count first (suc seats) replies ≡ turns_total count first seats replies + sum_by receipts_in (every count place replies)
turns_last count first zero place replies e =
    let same : first ≡ place = omega arith in
    let P : ℕ → Type 0 = λ p. sum_by receipts_in (every count first replies) + 0 ≡ 0 + sum_by receipts_in (every count p replies) in
    subst P same (omega arith)
turns_last count first (suc seats) place replies e =
    let rest = turns_last count (suc first) seats place replies (omega arith) in omega (arith, rest)

turns_whole : (seats : ℕ) (replies : List Reply) → turns_total (suc seats) 0 (suc seats) replies ≡ sum_by receipts_in replies
turns_whole seats [] = turns_of_none (suc seats) 0 (suc seats)
turns_whole seats (r ∷ replies) =
    let rest = turns_whole seats replies in
    let last = turns_last (suc seats) 0 seats (suc seats - 1) replies (omega arith) in
    let later = turns_later (suc seats) 0 seats r replies in
    let front = sum_by-cons receipts_in r (every (suc seats) (suc seats - 1) replies) in
    let all = sum_by-cons receipts_in r replies in
    omega (arith, rest, last, later, front, all)

raised_total : (count first : ℕ) (shares : List ℕ) (replies : List Reply)
    → sum (shares_after count first shares replies) ≡ sum shares + turns_total count first (length shares) replies
raised_total count first [] replies = refl
raised_total count first (share ∷ shares) replies =
    let rest = raised_total count (suc first) shares replies in
    let a = sum_by-cons (λ n. n) (share + sum_by receipts_in (every count first replies)) (shares_after count (suc first) shares replies) in
    let b = sum_by-cons (λ n. n) share shares in
    omega (arith, rest, a, b)

-- all shares together have risen by the number of all receipts
pub shares_total : {X : Type 0} (share : X → ℕ) (before after : List X) (replies : List Reply) → 1 ≤ length before
    → map share after ≡ shares_after (length before) 0 (map share before) replies → sum_by share after ≡ sum_by share before + sum_by receipts_in replies
shares_total share [] after replies some e = absurd (omega arith)
shares_total share (x ∷ xs) after replies some e =
    let raised = ap sum e in
    let total = raised_total (suc (length xs)) 0 (map share (x ∷ xs)) replies in
    let whole = turns_whole (length xs) replies in
    let many : length (map share (x ∷ xs)) ≡ suc (length xs) = length-map (x ∷ xs) share in
    let P : ℕ → Type 0 = λ n. sum (shares_after (suc (length xs)) 0 (map share (x ∷ xs)) replies) ≡ sum (map share (x ∷ xs)) + turns_total (suc (length xs)) 0 n replies in
    let at : sum (shares_after (suc (length xs)) 0 (map share (x ∷ xs)) replies) ≡ sum (map share (x ∷ xs)) + turns_total (suc (length xs)) 0 (suc (length xs)) replies = subst P many total in
    let b = sum-map share (x ∷ xs) in
    let a = sum-map share after in
    omega (arith, raised, at, whole, a, b)
