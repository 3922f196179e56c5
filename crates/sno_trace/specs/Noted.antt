-- The events of a match with notes: of each trial the leaf, the cursor at which it was tried, and where it ended; and marks of where
-- definitions are entered and left, and of rounds that are dropped. Without them they are the lists of `Results.antt`, word for word.
use Rattle.std.specs.Prelude.{ℕ, zero, suc, ◌+◌, ◌-◌, Bool, true, false, List, [], ◌∷◌, ◌++◌, length, slice_get, nat_lt, Option, Some, None, if◌then◌else◌}
use Rattle.sno_pattern.specs.Tree as tree
use Rattle.sno_pattern.specs.Tree.{Tree}
use Rattle.sno_pattern.specs.Events.{CondList}
use Rattle.sno_primitives.specs.Leaves.{leaf_ends}
use Rattle.sno_pattern.specs.declared.events.What.TheVariants.{Part, Cursor}
use Rattle.sno_pattern.specs.declared.events.Event.{Event}
use Rattle.sno_pattern.specs.declared.events.Event.TheVariants as event
use Rattle.sno_trace.specs.declared.events.Landmark.{Landmark}
use Rattle.sno_trace.specs.declared.events.Landmark.TheVariants.{Enter, Leave, Fail, NullRound}
use Rattle.sno_trace.specs.declared.events.Noted.{Noted}
use Rattle.sno_trace.specs.declared.events.Noted.TheVariants.{Try, Set, Mark, End, Halt, Stop}
use Rattle.std.specs.List.{list_any}
use Rattle.sno_trace.specs.Steps.{is_last}

-- the notes and marks taken off; Stop is in no list of `noted`, and ends a list as Halt does
abbrev pub erase : List Noted → List Event
erase [] = []
erase (Try x ∷ l) = event.Try ∷ erase l
erase (Set a ∷ l) = event.Set a ∷ erase l
erase (Mark d ∷ l) = erase l
erase (End e a ∷ l) = event.End e a ∷ erase l
erase (Halt ∷ l) = event.Halt ∷ erase l
erase (Stop ∷ l) = event.Halt ∷ erase l

-- up to and including the first Halt or Stop
abbrev pub cut : List Noted → List Noted
cut [] = []
cut (Try x ∷ l) = Try x ∷ cut l
cut (Set a ∷ l) = Set a ∷ cut l
cut (Mark d ∷ l) = Mark d ∷ cut l
cut (End e a ∷ l) = End e a ∷ cut l
cut (Halt ∷ l) = Halt ∷ []
cut (Stop ∷ l) = Stop ∷ []

-- conditional assignments put before those of each End
abbrev pub put_before : CondList → List Noted → List Noted
put_before a [] = []
put_before a (Try x ∷ l) = Try x ∷ put_before a l
put_before a (Set x ∷ l) = Set x ∷ put_before a l
put_before a (Mark d ∷ l) = Mark d ∷ put_before a l
put_before a (End e b ∷ l) = End e (a ++ b) ∷ put_before a l
put_before a (Halt ∷ l) = Halt ∷ put_before a l
put_before a (Stop ∷ l) = Stop ∷ put_before a l

-- each End replaced by what follows it
abbrev pub spread : List Noted → (ℕ → List Noted) → List Noted
spread [] f = []
spread (Try x ∷ l) f = Try x ∷ spread l f
spread (Set x ∷ l) f = Set x ∷ spread l f
spread (Mark d ∷ l) f = Mark d ∷ spread l f
spread (End e a ∷ l) f = put_before a (f e) ++ spread l f
spread (Halt ∷ l) f = Halt ∷ spread l f
spread (Stop ∷ l) f = Stop ∷ spread l f

-- going on from each End
abbrev pub go_on : List Noted → (ℕ → List Noted) → List Noted
go_on l f = cut (spread l f)

-- the part from c to each End assigned to v if the whole match succeeds
abbrev pub assign_later : List ℕ → ℕ → List Noted → List Noted
assign_later v c [] = []
assign_later v c (Try x ∷ l) = Try x ∷ assign_later v c l
assign_later v c (Set x ∷ l) = Set x ∷ assign_later v c l
assign_later v c (Mark d ∷ l) = Mark d ∷ assign_later v c l
assign_later v c (End e a ∷ l) = End e (a ++ (v, c, e) ∷ []) ∷ assign_later v c l
assign_later v c (Halt ∷ l) = Halt ∷ assign_later v c l
assign_later v c (Stop ∷ l) = Stop ∷ assign_later v c l

-- the part from c to each End assigned to v just before that End
abbrev pub assign_now : List ℕ → ℕ → List Noted → List Noted
assign_now v c [] = []
assign_now v c (Try x ∷ l) = Try x ∷ assign_now v c l
assign_now v c (Set x ∷ l) = Set x ∷ assign_now v c l
assign_now v c (Mark d ∷ l) = Mark d ∷ assign_now v c l
assign_now v c (End e a ∷ l) = Set (record { name = v; what = Part c e }) ∷ End e a ∷ assign_now v c l
assign_now v c (Halt ∷ l) = Halt ∷ assign_now v c l
assign_now v c (Stop ∷ l) = Stop ∷ assign_now v c l

-- a trial of the leaf p at the cursor c; k more references may be nested
abbrev pub tried : ℕ → Tree → ℕ → Option ℕ → Bool → Noted
tried k p c e again = Try (record { leaf = p; cursor = c; end = e; again = again; below = k })

-- a trial for each end; the first is `again` if the leaf is backed into for it, and the others are
abbrev pub noted_tries : ℕ → Bool → Tree → ℕ → List ℕ → List Noted
noted_tries k again p c [] = []
noted_tries k again p c (e ∷ es) = tried k p c (Some e) again ∷ End e [] ∷ noted_tries k true p c es

-- what a primitive does that has these ends
abbrev pub noted_ends : ℕ → Tree → ℕ → List ℕ → List Noted
noted_ends k p c [] = tried k p c None false ∷ []
noted_ends k p c (e ∷ es) = noted_tries k false p c (e ∷ es)

-- a mark at the cursor c; k more references may be nested
abbrev pub marked : ℕ → Landmark → ℕ → Noted
marked k what c = Mark (record { what = what; cursor = c; below = k })

-- before each End the definition i is left, which was entered at c
abbrev pub leave_each : ℕ → ℕ → ℕ → List Noted → List Noted
leave_each k i c [] = []
leave_each k i c (Try x ∷ l) = Try x ∷ leave_each k i c l
leave_each k i c (Set x ∷ l) = Set x ∷ leave_each k i c l
leave_each k i c (Mark x ∷ l) = Mark x ∷ leave_each k i c l
leave_each k i c (End e a ∷ l) = marked k (Leave i e) c ∷ End e a ∷ leave_each k i c l
leave_each k i c (Halt ∷ l) = Halt ∷ leave_each k i c l
leave_each k i c (Stop ∷ l) = Stop ∷ leave_each k i c l

-- after its last End it fails, unless the whole match does
abbrev pub leave_last : ℕ → ℕ → ℕ → List Noted → List Noted
leave_last k i c l = if list_any is_last l then [] else marked k (Fail i) c ∷ []

-- what the definition i does from c, with marks where it is entered and left
abbrev pub within_definition : ℕ → ℕ → ℕ → List Noted → List Noted
within_definition k i c l = marked k (Enter i) c ∷ (leave_each k i c l ++ leave_last k i c l)

-- at most n rounds of ARBNO; one that takes no character is dropped
abbrev pub noted_rounds : ℕ → (ℕ → List Noted) → ℕ → ℕ → List Noted
noted_rounds k once zero c = []
noted_rounds k once (suc n) c = End c [] ∷ go_on (once c) (λ e. if nat_lt c e then noted_rounds k once n e else marked k NullRound e ∷ [])

-- `named i c` is what the definition with number i does from cursor c
unfoldable pub noted_of : List ℕ → (ℕ → ℕ → List Noted) → ℕ → Tree → ℕ → List Noted
noted_of t named k (tree.Arbno p) c = noted_rounds k (noted_of t named k p) (length t - c + 1) c
noted_of t named k tree.Fence c = tried k tree.Fence c (Some c) false ∷ End c [] ∷ Halt ∷ []
noted_of t named k tree.Abort c = tried k tree.Abort c None false ∷ Halt ∷ []
noted_of t named k (tree.At v) c = tried k (tree.At v) c (Some c) false ∷ Set (record { name = v; what = Cursor c }) ∷ End c [] ∷ []
noted_of t named k (tree.Ref i) c = within_definition k i c (named i c)
noted_of t named k (tree.Seq p q) c = go_on (noted_of t named k p c) (noted_of t named k q)
noted_of t named k (tree.Alt p q) c = cut (noted_of t named k p c ++ noted_of t named k q c)
noted_of t named k (tree.Cond p v) c = assign_later v c (noted_of t named k p c)
noted_of t named k (tree.Imm p v) c = assign_now v c (noted_of t named k p c)
noted_of t named k p c = noted_ends k p c (leaf_ends t p c)

-- a definition's body, looked up when it is met; nothing if there is none
abbrev pub noted_body : (Tree → ℕ → List Noted) → Option Tree → ℕ → List Noted
noted_body go None c = []
noted_body go (Some body) c = go body c

-- at most k references deep; nothing if k is 0
unfoldable pub noted_definition : List ℕ → List Tree → ℕ → ℕ → ℕ → List Noted
noted_definition t bodies zero i c = []
noted_definition t bodies (suc k) i c = noted_body (noted_of t (noted_definition t bodies k) k) (slice_get bodies i) c

-- what a pattern does from a cursor, at most k references deep, noted
abbrev pub noted : List ℕ → List Tree → ℕ → Tree → ℕ → List Noted
noted t bodies k p c = noted_of t (noted_definition t bodies k) k p c

-- the first n trials with what comes between them; Stop instead of a further one
abbrev pub upto : ℕ → List Noted → List Noted
upto n [] = []
upto zero (Try x ∷ l) = Stop ∷ []
upto (suc n) (Try x ∷ l) = Try x ∷ upto n l
upto n (Set x ∷ l) = Set x ∷ upto n l
upto n (Mark d ∷ l) = Mark d ∷ upto n l
upto n (End e a ∷ l) = End e a ∷ upto n l
upto n (Halt ∷ l) = Halt ∷ upto n l
upto n (Stop ∷ l) = Stop ∷ upto n l
