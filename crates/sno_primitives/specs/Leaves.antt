-- Where a primitive ends, by its tree.
use Rattle.std.specs.Prelude.{◌≡◌, ℕ, ◌+◌, ◌≤◌, Bool, true, false, List, [], ◌∷◌, length}
use Rattle.sno_pattern.specs.Tree as tree
use Rattle.sno_pattern.specs.Tree.{Tree}
use Rattle.sno_pattern.specs.Ends.{literal_ends, len_ends, pos_ends, rpos_ends, tab_ends, rtab_ends, any_ends, notany_ends, span_ends, break_ends, arb_ends, bal_ends, rem_ends}

-- the ends of a primitive that does nothing but end, in order
abbrev pub leaf_ends : List ℕ → Tree → ℕ → List ℕ
leaf_ends t (tree.Lit s) c = literal_ends t s c
leaf_ends t (tree.Len n) c = len_ends t n c
leaf_ends t (tree.Pos n) c = pos_ends n c
leaf_ends t (tree.Rpos n) c = rpos_ends t n c
leaf_ends t (tree.Tab n) c = tab_ends t n c
leaf_ends t (tree.Rtab n) c = rtab_ends t n c
leaf_ends t (tree.AnyOf s) c = any_ends t s c
leaf_ends t (tree.NoneOf s) c = notany_ends t s c
leaf_ends t (tree.Span s) c = span_ends t s c
leaf_ends t (tree.Break s) c = break_ends t s c
leaf_ends t tree.Arb c = arb_ends t c
leaf_ends t tree.Bal c = bal_ends t c
leaf_ends t tree.Rem c = rem_ends t c
leaf_ends t _ c = []

-- the pattern has at most one end, and does nothing but end
abbrev pub is_single : Tree → Bool
is_single (tree.Lit s) = true
is_single (tree.Len n) = true
is_single (tree.Pos n) = true
is_single (tree.Rpos n) = true
is_single (tree.Tab n) = true
is_single (tree.Rtab n) = true
is_single (tree.AnyOf s) = true
is_single (tree.NoneOf s) = true
is_single (tree.Span s) = true
is_single (tree.Break s) = true
is_single tree.Rem = true
is_single _ = false

-- The ends of ARB are the cursor and then the ends from the next cursor.
abbrev pub ArbitraryEndsFollow : Type 0
ArbitraryEndsFollow = (t : List ℕ) (c : ℕ) → c ≤ length t → arb_ends t c ≡ c ∷ arb_ends t (c + 1)
