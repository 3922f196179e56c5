-- What the calls for an assignment return.
use Rattle.std.specs.Prelude.{◌≡◌, ◌<◌, ◌↔◌, ◌⊎◌, ◌++◌, ℕ, List, Option, None, IfSome, MatchOption, true, false, drop, length, slice_get}
use Rattle.sno_pattern.specs.declared.events.Assign.{Assign}
use Rattle.sno_pattern.specs.declared.events.What.{What}
use Rattle.sno_pattern.specs.declared.events.What.TheVariants.{Part, Cursor}
use Rattle.sno_seek.specs.Assignments.{found_assignments}
use Rattle.sno_c.specs.Patterns.{pattern_in}
use Rattle.sno_c.specs.declared.assignments.FoundAssignment.{FoundAssignment}
use Rattle.sno_c.specs.declared.held.Held.{Held}

-- what is reported of no assignment
abbrev pub no_assignment : FoundAssignment
no_assignment = record { name_length = 0; start = 0; end = 0; is_cursor = false }

-- .. and of one: its part, or its cursor
abbrev pub what_seen : ℕ → What → FoundAssignment
what_seen n (Part start end) = record { name_length = n; start = start; end = end; is_cursor = false }
what_seen n (Cursor c) = record { name_length = n; start = c; end = c; is_cursor = true }

abbrev pub assignment_seen : Assign → FoundAssignment
assignment_seen s = what_seen (length s.name) s.what

-- The assignment is reported, and the buffer begins with its name. If that is too long, the buffer is unchanged.
pub record IsReported (s : Assign) (before after : List ℕ) (found : FoundAssignment) (status : ℕ) : Type 0 where
  pub seen : found ≡ assignment_seen s
  pub short : status ≡ 5 ↔ (length before < length s.name)
  pub unchanged : status ≡ 5 → after ≡ before
  pub named : status ≡ 0 → after ≡ s.name ++ drop (length s.name) before
  pub known : (status ≡ 0) ⊎ (status ≡ 5)

-- What a call for the assignment at a place returns. It is refused with 7 unless the handle holds a pattern, and returns 1 past
-- the last assignment; then nothing is changed.
pub record IsAssignmentCall (place : ℕ) (pattern : Option Held) (before after : List ℕ) (found : FoundAssignment) (status : ℕ) : Type 0 where
  pub closed : status ≡ 7 ↔ (pattern_in pattern ≡ None)
  pub there : IfSome (pattern_in pattern) (λ p. MatchOption (slice_get (found_assignments p.found) place) (status ≡ 1) (λ s. IsReported s before after found status))
  pub nothing : (status ≡ 7) ⊎ (status ≡ 1) → (after ≡ before) × (found ≡ no_assignment)
