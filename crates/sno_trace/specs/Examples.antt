-- Worked examples: each is proved by computing from the definitions alone. Texts and patterns are written out.
use Rattle.std.specs.Prelude.{◌≡◌, ℕ, false, [], ◌∷◌, Option, Some, None, codes, refl}
use Rattle.sno_pattern.specs.Tree as tree
use Rattle.sno_pattern.specs.Tree.{Tree, Lit, Arbno, Fence, Ref, Seq, Alt, Cond, Imm}
use Rattle.sno_pattern.specs.declared.events.What.TheVariants.{Part}
use Rattle.sno_trace.specs.declared.events.Landmark.TheVariants as mark
use Rattle.sno_trace.specs.declared.events.Noted.{Noted}
use Rattle.sno_trace.specs.declared.events.Noted.TheVariants.{Set, End, Halt, Stop}
use Rattle.sno_trace.specs.Noted.{noted, noted_of, noted_definition, tried, marked, upto}
use Rattle.sno_trace.specs.Promise.{shown_up_to}

-- 'a' and 'b' at a cursor, one reference deep or none
abbrev a_at : ℕ → ℕ → Option ℕ → Noted
a_at k c e = tried k (Lit (codes "a")) c e false

abbrev b_at : ℕ → ℕ → Option ℕ → Noted
b_at k c e = tried k (Lit (codes "b")) c e false

-- A definition is entered, left before what follows it, and fails at last: *P 'b' on ab, where P is 'a'.
one_definition : noted (codes "ab") (Lit (codes "a") ∷ []) 1 (Seq (Ref 0) (Lit (codes "b"))) 0
    ≡ marked 1 (mark.Enter 0) 0 ∷ a_at 0 0 (Some 1) ∷ marked 1 (mark.Leave 0 1) 0 ∷ b_at 1 1 (Some 2) ∷ End 2 [] ∷ marked 1 (mark.Fail 0) 0 ∷ []
unfolding noted_of noted_definition
one_definition = refl

-- It is left before its immediate assignment outside, and once more for each further end: *P $ V on ab, where P is 'a' | 'ab'.
left_twice : noted (codes "ab") (Alt (Lit (codes "a")) (Lit (codes "ab")) ∷ []) 1 (Imm (Ref 0) (codes "V")) 0
    ≡ marked 1 (mark.Enter 0) 0
    ∷ a_at 0 0 (Some 1) ∷ marked 1 (mark.Leave 0 1) 0 ∷ Set (record { name = codes "V"; what = Part 0 1 }) ∷ End 1 []
    ∷ tried 0 (Lit (codes "ab")) 0 (Some 2) false ∷ marked 1 (mark.Leave 0 2) 0 ∷ Set (record { name = codes "V"; what = Part 0 2 }) ∷ End 2 []
    ∷ marked 1 (mark.Fail 0) 0 ∷ []
unfolding noted_of noted_definition
left_twice = refl

-- If the whole match fails within it, it isn't left: *P on a, where P is 'a' FENCE 'b'.
halted_within : noted (codes "a") (Seq (Lit (codes "a")) (Seq Fence (Lit (codes "b"))) ∷ []) 1 (Ref 0) 0
    ≡ marked 1 (mark.Enter 0) 0 ∷ a_at 0 0 (Some 1) ∷ tried 0 tree.Fence 1 (Some 1) false ∷ b_at 0 1 None ∷ Halt ∷ []
unfolding noted_of noted_definition
halted_within = refl

-- If no more references may be nested, it fails at once.
no_depth_left : noted (codes "a") (Lit (codes "a") ∷ []) 0 (Ref 0) 0 ≡ marked 0 (mark.Enter 0) 0 ∷ marked 0 (mark.Fail 0) 0 ∷ []
unfolding noted_of noted_definition
no_depth_left = refl

-- A round that takes no character is dropped, and one that takes some is not: ARBNO('' | 'a') on a.
null_round_dropped : noted (codes "a") [] 0 (Arbno (Alt (Lit []) (Lit (codes "a")))) 0
    ≡ End 0 [] ∷ tried 0 (Lit []) 0 (Some 0) false ∷ marked 0 mark.NullRound 0
    ∷ a_at 0 0 (Some 1) ∷ End 1 [] ∷ tried 0 (Lit []) 1 (Some 1) false ∷ marked 0 mark.NullRound 1 ∷ a_at 0 1 None ∷ []
unfolding noted_of noted_definition
null_round_dropped = refl

-- Marks take nothing of a limit, and none comes after a Stop: one trial of *P 'b' on ab, where P is 'a'.
one_trial : upto 1 (noted (codes "ab") (Lit (codes "a") ∷ []) 1 (Seq (Ref 0) (Lit (codes "b"))) 0)
    ≡ marked 1 (mark.Enter 0) 0 ∷ a_at 0 0 (Some 1) ∷ marked 1 (mark.Leave 0 1) 0 ∷ Stop ∷ []
unfolding noted_of noted_definition
one_trial = refl

-- What an End assigns later keeps the order in which its parts end: ('a' . V) . W on a.
assigned_in_order : noted (codes "a") [] 0 (Cond (Cond (Lit (codes "a")) (codes "V")) (codes "W")) 0
    ≡ a_at 0 0 (Some 1) ∷ End 1 ((codes "V", 0, 1) ∷ (codes "W", 0, 1) ∷ []) ∷ []
unfolding noted_of noted_definition
assigned_in_order = refl

-- of 'a' on bb what the first two starts show
first_two_starts : shown_up_to 1 ((0, a_at 0 0 None) ∷ (1, a_at 0 1 None) ∷ (2, a_at 0 2 None) ∷ [])
    ≡ (0, a_at 0 0 None) ∷ (1, a_at 0 1 None) ∷ []
first_two_starts = refl
