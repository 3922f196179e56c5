-- Who may do what with a new file, whose permissions are a number as the system has it.
use Rattle.std.specs.Prelude.{◌≡◌, ◌==◌, refl, ℕ, Bool, true, false, bit_and, bit_or, if◌then◌else◌}
use Rattle.sno_files.specs.declared.owners.TheConstants.{ALL, NOT_AS_OWNER, OWN, READ, WRITE, RUN}

-- what the group and others may do, if both may
abbrev pub of_both : ℕ → ℕ → ℕ
of_both mode both = if bit_and mode both == both then both else 0

-- what the group and others may do of what both may
abbrev pub shared : ℕ → ℕ
shared mode = bit_or (of_both mode READ) (bit_or (of_both mode WRITE) (of_both mode RUN))

-- the permissions of a file, or without that to run it as its owner, if it has another owner
abbrev pub for_owner : ℕ → Bool → ℕ
for_owner mode true = bit_and mode ALL
for_owner mode false = bit_and mode NOT_AS_OWNER

-- The same, if it has another group: without that to run it as its group, and the group and others may only do what both may.
abbrev pub kept_mode : ℕ → Bool → Bool → ℕ
kept_mode mode has_owner true = for_owner mode has_owner
kept_mode mode has_owner false = bit_or (bit_and (for_owner mode has_owner) OWN) (shared mode)

-- examples, in octal
same : kept_mode 0o104755 true true ≡ 0o4755
same = refl

other_owner : kept_mode 0o106664 false true ≡ 0o2664
other_owner = refl

other_group : kept_mode 0o106664 true false ≡ 0o4644
other_group = refl

neither : kept_mode 0o100664 false false ≡ 0o644
neither = refl

guarded : kept_mode 0o100604 false false ≡ 0o600
guarded = refl
