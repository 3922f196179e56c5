-- How deep in parentheses a place is.
use Rattle.std.specs.Prelude.{ℕ, ◌+◌, ◌-◌, nat_eq, nat_lt, Option, Some, None, if◌then◌else◌}

-- how many are open after a character; `None` if it is a `)` that closes nothing
abbrev pub depth_after : ℕ → ℕ → Option ℕ
depth_after depth x =
    if nat_eq x 40 then Some (depth + 1) else if nat_eq x 41 then (if nat_lt 0 depth then Some (depth - 1) else None) else Some depth
