-- How much is left to do: a measure that falls with each call.
use Rattle.std.proofs.Common.{◌≡◌, ℕ, zero, suc, ◌+◌, ◌-◌, ◌*◌, ◌<◌, ◌≤◌, List, [], ◌∷◌, Some, slice_get, arith, ap}
use Rattle.std.proofs.Math.Nat.{mul-le-mul_right}
use Rattle.std.proofs.Math.Numerals.{sub-one}
use Rattle.sno_pattern.specs.Tree.{Tree, Lit, Len, Pos, Rpos, Tab, Rtab, AnyOf, NoneOf, Span, Break, Arb, Arbno, Bal, Rem, Fence, Abort, Fail, At, Ref, Seq, Alt, Cond, Imm}

-- how many patterns a pattern is made of, itself among them
unfoldable pub nodes : Tree → ℕ
nodes (Arbno p) = nodes p + 1
nodes (Seq p q) = nodes p + nodes q + 1
nodes (Alt p q) = nodes p + nodes q + 1
nodes (Cond p v) = nodes p + 1
nodes (Imm p v) = nodes p + 1
nodes _ = 1

unfoldable pub all_nodes : List Tree → ℕ
all_nodes [] = 0
all_nodes (p ∷ ps) = nodes p + all_nodes ps

-- `depth` references, each to a body of the definitions; then a pattern of `count` nodes, with some rounds
unfoldable pub work : ℕ → List Tree → ℕ → ℕ → ℕ → ℕ
work len bodies depth count rounds = depth * ((1 + all_nodes bodies) * (len + 3)) + (count * (len + 3) + rounds)

-- a part of the pattern
pub work_part : (len : ℕ) (bodies : List Tree) (depth less more rounds : ℕ) → less < more → rounds < len + 3 → work len bodies depth less rounds < work len bodies depth more 0
unfolding work
work_part len bodies depth less more rounds h few =
    let steps : (less + 1) * (len + 3) ≤ more * (len + 3) = mul-le-mul_right (len + 3) (omega arith) in
    omega arith

-- fewer rounds of the same pattern
pub work_round : (len : ℕ) (bodies : List Tree) (depth count less more : ℕ) → less < more → work len bodies depth count less < work len bodies depth count more
unfolding work
work_round len bodies depth count less more h = omega arith

body_nodes : (bodies : List Tree) (i : ℕ) (body : Tree) → Some body ≡ slice_get bodies i → nodes body ≤ all_nodes bodies
unfolding all_nodes
body_nodes [] i body h = cc
body_nodes (p ∷ ps) zero body h = let same : nodes body ≡ nodes p = cc in omega arith
body_nodes (p ∷ ps) (suc i) body h = let less : nodes body ≤ all_nodes ps = body_nodes ps i body h in omega arith

one_deeper : (len all count depth : ℕ) → count * (len + 3) ≤ all * (len + 3) → depth * ((1 + all) * (len + 3)) + (count * (len + 3) + 0) < suc depth * ((1 + all) * (len + 3)) + (0 * (len + 3) + 0)
one_deeper len all count depth few = omega arith

-- a body of the definitions, one reference deeper
pub work_body : (len : ℕ) (bodies : List Tree) (depth i : ℕ) (body : Tree) → Some body ≡ slice_get bodies i → 0 < depth → work len bodies (depth - 1) (nodes body) 0 < work len bodies depth 0 0
unfolding work
work_body len bodies zero i body h deep = absurd (omega arith)
work_body len bodies (suc depth) i body h deep =
    let few : nodes body * (len + 3) ≤ all_nodes bodies * (len + 3) = mul-le-mul_right (len + 3) (body_nodes bodies i body h) in
    rw sub-one (one_deeper len (all_nodes bodies) (nodes body) depth few)

-- how many nodes a pattern with parts has
pub nodes_of_seq : (whole left right : Tree) → whole ≡ Seq left right → nodes whole ≡ nodes left + nodes right + 1
unfolding nodes
nodes_of_seq whole left right is = ap nodes is

pub nodes_of_alt : (whole left right : Tree) → whole ≡ Alt left right → nodes whole ≡ nodes left + nodes right + 1
unfolding nodes
nodes_of_alt whole left right is = ap nodes is

pub nodes_of_arbno : (whole child : Tree) → whole ≡ Arbno child → nodes whole ≡ nodes child + 1
unfolding nodes
nodes_of_arbno whole child is = ap nodes is

pub nodes_of_cond : (whole child : Tree) (v : List ℕ) → whole ≡ Cond child v → nodes whole ≡ nodes child + 1
unfolding nodes
nodes_of_cond whole child v is = ap nodes is

pub nodes_of_imm : (whole child : Tree) (v : List ℕ) → whole ≡ Imm child v → nodes whole ≡ nodes child + 1
unfolding nodes
nodes_of_imm whole child v is = ap nodes is

-- a pattern counts itself among its nodes
pub some_nodes : (p : Tree) → 0 < nodes p
unfolding nodes
some_nodes (Lit s) = omega arith
some_nodes (Len n) = omega arith
some_nodes (Pos n) = omega arith
some_nodes (Rpos n) = omega arith
some_nodes (Tab n) = omega arith
some_nodes (Rtab n) = omega arith
some_nodes (AnyOf s) = omega arith
some_nodes (NoneOf s) = omega arith
some_nodes (Span s) = omega arith
some_nodes (Break s) = omega arith
some_nodes Arb = omega arith
some_nodes (Arbno p) = omega arith
some_nodes Bal = omega arith
some_nodes Rem = omega arith
some_nodes Fence = omega arith
some_nodes Abort = omega arith
some_nodes Fail = omega arith
some_nodes (At v) = omega arith
some_nodes (Ref i) = omega arith
some_nodes (Seq p q) = omega arith
some_nodes (Alt p q) = omega arith
some_nodes (Cond p v) = omega arith
some_nodes (Imm p v) = omega arith

-- a call for a part has less to do than the call for the whole, t
pub falls : (len : ℕ) (bodies : List Tree) (depth less more rounds t : ℕ) → work len bodies depth more 0 ≡ t → less < more → rounds < len + 3 → work len bodies depth less rounds < t
falls len bodies depth less more rounds t is h few = omega (arith, work_part len bodies depth less more rounds h few)
