-- Characters under other numbers. What a match does depends on a character only by which characters are equal to it, which sets have it, and
-- whether it is a parenthesis. So a text of any characters may be matched by its image, in which each character is a byte.
use Rattle.std.specs.Prelude.{◌≡◌, ◌<◌, ◌⊎◌, ◌+◌, ℕ, Bool, List, map, nat_eq, nat_lt, Option, Some, None, if◌then◌else◌}
use Rattle.std.specs.List.{All, position_from}
use Rattle.sno_pattern.specs.Tree as tree
use Rattle.sno_pattern.specs.Tree.{Tree}
use Rattle.sno_pattern.specs.Classes.{has}
use Rattle.sno_pattern.specs.Outcome.{outcome_from, trials_from}
use Rattle.sno_images.specs.declared.laws.TheConstants.{MAX_NAMED}

-- the tree in whose literals and sets each character has the number that f gives it
abbrev pub renumbered : (ℕ → ℕ) → Tree → Tree
renumbered f (tree.Lit s) = tree.Lit (map f s)
renumbered f (tree.AnyOf s) = tree.AnyOf (map f s)
renumbered f (tree.NoneOf s) = tree.NoneOf (map f s)
renumbered f (tree.Span s) = tree.Span (map f s)
renumbered f (tree.Break s) = tree.Break (map f s)
renumbered f (tree.Arbno p) = tree.Arbno (renumbered f p)
renumbered f (tree.Seq p q) = tree.Seq (renumbered f p) (renumbered f q)
renumbered f (tree.Alt p q) = tree.Alt (renumbered f p) (renumbered f q)
renumbered f (tree.Cond p v) = tree.Cond (renumbered f p) v
renumbered f (tree.Imm p v) = tree.Imm (renumbered f p) v
renumbered f p = p

-- no other character has the number of this one
abbrev pub IsAlone : (ℕ → ℕ) → ℕ → Type 0
IsAlone f y = (x : ℕ) → nat_eq (f y) (f x) ≡ nat_eq y x

-- no character outside the set has the number of a member; members may share one
abbrev pub IsApart : (ℕ → ℕ) → List ℕ → Type 0
IsApart f s = (x : ℕ) → has (map f s) (f x) ≡ has s x

-- each character of a literal is alone, and each set is apart
abbrev pub IsFaithful : (ℕ → ℕ) → Tree → Type 0
IsFaithful f (tree.Lit s) = All (IsAlone f) s
IsFaithful f (tree.AnyOf s) = IsApart f s
IsFaithful f (tree.NoneOf s) = IsApart f s
IsFaithful f (tree.Span s) = IsApart f s
IsFaithful f (tree.Break s) = IsApart f s
IsFaithful f (tree.Arbno p) = IsFaithful f p
IsFaithful f (tree.Seq p q) = IsFaithful f p × IsFaithful f q
IsFaithful f (tree.Alt p q) = IsFaithful f p × IsFaithful f q
IsFaithful f (tree.Cond p v) = IsFaithful f p
IsFaithful f (tree.Imm p v) = IsFaithful f p
IsFaithful f p = Unit {0}

-- the same of a pattern with its definitions, and both parentheses keep their numbers, which no other character gets
pub record AreFaithful (f : ℕ → ℕ) (bodies : List Tree) (p : Tree) : Type 0 where
  pub opening : (x : ℕ) → nat_eq (f x) 40 ≡ nat_eq x 40
  pub closing : (x : ℕ) → nat_eq (f x) 41 ≡ nat_eq x 41
  pub pattern : IsFaithful f p
  pub definitions : All (IsFaithful f) bodies

-- Under faithful numbers a search from a cursor has the same outcome, with the same cursors and assignments ..
abbrev pub RenumberingKeepsTheOutcome : Type 0
RenumberingKeepsTheOutcome = (f : ℕ → ℕ) (t : List ℕ) (bodies : List Tree) (p : Tree) (anchored : Bool) (c : ℕ) → AreFaithful f bodies p
    → outcome_from (map f t) (map (renumbered f) bodies) (renumbered f p) anchored c ≡ outcome_from t bodies p anchored c

-- .. after as many trials.
abbrev pub RenumberingKeepsTheTrials : Type 0
RenumberingKeepsTheTrials = (f : ℕ → ℕ) (t : List ℕ) (bodies : List Tree) (p : Tree) (anchored : Bool) (c : ℕ) → AreFaithful f bodies p
    → trials_from (map f t) (map (renumbered f) bodies) (renumbered f p) anchored c ≡ trials_from t bodies p anchored c

-- ---- Numbers of a byte. ASCII characters have their own, those that are named have one each from 128 on, and all others share 255.
abbrev pub number_at : Option ℕ → ℕ
number_at None = 255
number_at (Some place) = 128 + place

abbrev pub image_number : List ℕ → ℕ → ℕ
image_number named x = if nat_lt x 128 then x else number_at (position_from (λ k. nat_eq k x) 0 named)

-- the character is ASCII, or one of the first that are named
abbrev pub IsNamed : List ℕ → ℕ → Type 0
IsNamed named x = (x < 128) ⊎ ((place : ℕ) × (position_from (λ k. nat_eq k x) 0 named ≡ Some place) × (place < MAX_NAMED))

-- so is each character of its literals and sets
abbrev pub NamesAll : List ℕ → Tree → Type 0
NamesAll named (tree.Lit s) = All (IsNamed named) s
NamesAll named (tree.AnyOf s) = All (IsNamed named) s
NamesAll named (tree.NoneOf s) = All (IsNamed named) s
NamesAll named (tree.Span s) = All (IsNamed named) s
NamesAll named (tree.Break s) = All (IsNamed named) s
NamesAll named (tree.Arbno p) = NamesAll named p
NamesAll named (tree.Seq p q) = NamesAll named p × NamesAll named q
NamesAll named (tree.Alt p q) = NamesAll named p × NamesAll named q
NamesAll named (tree.Cond p v) = NamesAll named p
NamesAll named (tree.Imm p v) = NamesAll named p
NamesAll named p = Unit {0}

-- If a pattern and its definitions have no other characters, these numbers are faithful to them.
abbrev pub ImageNumbersAreFaithful : Type 0
ImageNumbersAreFaithful = (named : List ℕ) (bodies : List Tree) (p : Tree) → All (NamesAll named) bodies → NamesAll named p → AreFaithful (image_number named) bodies p
