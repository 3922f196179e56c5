-- The reserved words, and the trees that they spell.
use Rattle.std.specs.Prelude.{ℕ, List, Option, Some, None, codes, if◌then◌else◌}
use Rattle.sno_pattern.specs.Identifiers.{same}
use Rattle.sno_pattern.specs.Tree as tree
use Rattle.sno_pattern.specs.Tree.{Tree}
use Rattle.sno_read.specs.declared.keywords.Word.{Word}
use Rattle.sno_read.specs.declared.keywords.Word.TheVariants as word
use Rattle.sno_read.specs.declared.keywords.NumberCall.{NumberCall}
use Rattle.sno_read.specs.declared.keywords.NumberCall.TheVariants as number
use Rattle.sno_read.specs.declared.keywords.SetCall.{SetCall}
use Rattle.sno_read.specs.declared.keywords.SetCall.TheVariants as set
use Rattle.sno_read.specs.declared.keywords.Keyword.{Keyword}
use Rattle.sno_read.specs.declared.keywords.Keyword.TheVariants.{Primitive, Counted, Chosen, Repeated}

-- what the word is, if it is a call
unfoldable pub call_of : List ℕ → Option Keyword
call_of w =
    if same w (codes "LEN") then Some (Counted number.Len)
    else (if same w (codes "POS") then Some (Counted number.Pos)
    else (if same w (codes "RPOS") then Some (Counted number.Rpos)
    else (if same w (codes "TAB") then Some (Counted number.Tab)
    else (if same w (codes "RTAB") then Some (Counted number.Rtab)
    else (if same w (codes "ANY") then Some (Chosen set.AnyOf)
    else (if same w (codes "NOTANY") then Some (Chosen set.NoneOf)
    else (if same w (codes "SPAN") then Some (Chosen set.Span)
    else (if same w (codes "BREAK") then Some (Chosen set.Break)
    else (if same w (codes "ARBNO") then Some Repeated
    else None)))))))))

-- what the word is, if it is reserved
unfoldable pub keyword_of : List ℕ → Option Keyword
keyword_of w =
    if same w (codes "ARB") then Some (Primitive word.Arb)
    else (if same w (codes "BAL") then Some (Primitive word.Bal)
    else (if same w (codes "REM") then Some (Primitive word.Rem)
    else (if same w (codes "FENCE") then Some (Primitive word.Fence)
    else (if same w (codes "ABORT") then Some (Primitive word.Abort)
    else (if same w (codes "FAIL") then Some (Primitive word.Fail)
    else call_of w)))))

-- the tree of a word that is a pattern on its own
abbrev pub word_tree : Word → Tree
word_tree word.Arb = tree.Arb
word_tree word.Bal = tree.Bal
word_tree word.Rem = tree.Rem
word_tree word.Fence = tree.Fence
word_tree word.Abort = tree.Abort
word_tree word.Fail = tree.Fail

-- the tree of a call with a number
abbrev pub number_tree : NumberCall → ℕ → Tree
number_tree number.Len n = tree.Len n
number_tree number.Pos n = tree.Pos n
number_tree number.Rpos n = tree.Rpos n
number_tree number.Tab n = tree.Tab n
number_tree number.Rtab n = tree.Rtab n

-- the tree of a call with a set of characters
abbrev pub set_tree : SetCall → List ℕ → Tree
set_tree set.AnyOf s = tree.AnyOf s
set_tree set.NoneOf s = tree.NoneOf s
set_tree set.Span s = tree.Span s
set_tree set.Break s = tree.Break s
