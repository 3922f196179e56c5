-- What patterns do, from what their parts do, within a limit of trials.
use Rattle.std.proofs.Common.{◌≡◌, ℕ, zero, suc, ◌+◌, ◌-◌, ◌<◌, ◌≤◌, true, false, cond, List, [], ◌∷◌, ◌++◌, length, Some, None, slice_get, ap, sym, subst, ◌∙◌, arith}
use Rattle.std.proofs.Math.Numerals.{sub-one}
use Rattle.std.proofs.lemmas.Bool.{lt-ltb, le-ltb}
use Rattle.std.specs.List.{list_any}
use Rattle.sno_pattern.specs.Tree.{Tree, Seq, Alt, Arbno, Cond, Imm, Ref}
use Rattle.sno_pattern.specs.Results.{results}
use Rattle.sno_pattern.specs.Laws.{AllEnds, Within}
use Rattle.sno_pattern.proofs.EachEnd.{AllEnds-map}
use Rattle.sno_pattern.proofs.Within.{within}
use Rattle.sno_trace.specs.declared.events.Landmark.TheVariants.{NullRound}
use Rattle.sno_trace.specs.declared.events.Noted.{Noted}
use Rattle.sno_trace.specs.Noted.{cut, go_on, upto, erase, assign_later, assign_now, marked, within_definition, noted, noted_of, noted_rounds, noted_definition, noted_body}
use Rattle.sno_trace.specs.Steps.{is_last, trials_of}
use Rattle.sno_trace.proofs.Erasing.{notes_off}
use Rattle.sno_trace.proofs.NotedLaws.{upto_cut, upto_append, upto_ended, upto_later, upto_now, upto_within}
use Rattle.sno_trace.proofs.Limit.{enough}
use Rattle.sno_trace.proofs.Going.{next_round, AllEnds-upto}

-- each End of what is shown of a pattern lies within the text
pub inside : (t : List ℕ) (bodies : List Tree) (k n : ℕ) (p : Tree) (c : ℕ) (l m : List Noted) → c ≤ length t → l ≡ m → m ≡ upto n (noted t bodies k p c) → AllEnds (Within t 0) (erase l)
inside t bodies k n p c l m h same is =
    let all : AllEnds (Within t 0) (results t bodies k p c) = AllEnds-map (Within t c) (Within t 0) (λ e w. (omega arith, w.1)) (results t bodies k p c) (within t bodies k p c h) in
    subst (λ x. AllEnds (Within t 0) (erase x)) (sym (same ∙ is)) (AllEnds-upto (Within t 0) n (noted t bodies k p c) (subst (AllEnds (Within t 0)) (sym (notes_off t bodies k p c)) all))

-- both sides of an alternation
pub both_sides : (t : List ℕ) (bodies : List Tree) (k n r c : ℕ) (whole left right p q : Tree) (l m z : List Noted) → whole ≡ Alt left right → p ≡ left → q ≡ right
    → l ≡ upto n (noted t bodies k p c) → false ≡ list_any is_last l → r ≡ n - trials_of l → m ≡ upto r (noted t bodies k q c) → z ≡ l ++ m → cut z ≡ upto n (noted t bodies k whole c)
unfolding noted_of
both_sides t bodies k n r c whole left right p q l m z is same_left same_right does_l going less does_m joined =
    let first : l ≡ upto n (noted t bodies k left c) = does_l ∙ ap (λ x. upto n (noted t bodies k x c)) same_left in
    ap cut joined
    ∙ ap (λ x. cut (l ++ x)) (does_m ∙ ap (λ x. upto r (noted t bodies k x c)) same_right ∙ ap (λ j. upto j (noted t bodies k right c)) less)
    ∙ ap (λ x. cut (x ++ upto (n - trials_of x) (noted t bodies k right c))) first
    ∙ sym (ap cut (upto_append n (noted t bodies k left c) (noted t bodies k right c) (sym (going ∙ ap (list_any is_last) first))))
    ∙ sym (upto_cut n (noted t bodies k left c ++ noted t bodies k right c))
    ∙ sym (ap (λ x. upto n (noted t bodies k x c)) is)

-- the left side alone, if nothing more is shown after it
pub one_side : (t : List ℕ) (bodies : List Tree) (k n c : ℕ) (whole left right p : Tree) (l z : List Noted) → whole ≡ Alt left right → p ≡ left
    → l ≡ upto n (noted t bodies k p c) → true ≡ list_any is_last l → z ≡ l → cut z ≡ upto n (noted t bodies k whole c)
unfolding noted_of
one_side t bodies k n c whole left right p l z is same_left does_l ended same =
    let first : l ≡ upto n (noted t bodies k left c) = does_l ∙ ap (λ x. upto n (noted t bodies k x c)) same_left in
    ap cut (same ∙ first)
    ∙ sym (upto_ended n (noted t bodies k left c) (noted t bodies k right c) (sym (ended ∙ ap (list_any is_last) first)))
    ∙ sym (upto_cut n (noted t bodies k left c ++ noted t bodies k right c))
    ∙ sym (ap (λ x. upto n (noted t bodies k x c)) is)

-- one part and then the other
pub seq_does : (t : List ℕ) (bodies : List Tree) (k n c : ℕ) (whole left right p q : Tree) (l m z : List Noted) → whole ≡ Seq left right → p ≡ left → q ≡ right
    → m ≡ l → l ≡ upto n (noted t bodies k p c) → z ≡ upto n (go_on m (noted t bodies k q)) → z ≡ upto n (noted t bodies k whole c)
unfolding noted_of
seq_does t bodies k n c whole left right p q l m z is same_left same_right same does_l does_z =
    does_z
    ∙ ap (λ x. upto n (go_on m (noted t bodies k x))) same_right
    ∙ ap (λ x. upto n (go_on x (noted t bodies k right))) (same ∙ does_l ∙ ap (λ x. upto n (noted t bodies k x c)) same_left)
    ∙ enough (noted t bodies k left c) (noted t bodies k right) n n (omega arith)
    ∙ sym (ap (λ x. upto n (noted t bodies k x c)) is)

-- rounds
pub arbno_does : (t : List ℕ) (bodies : List Tree) (k n c : ℕ) (whole child p : Tree) (bytes : List ℕ) (z : List Noted) → whole ≡ Arbno child → p ≡ child → bytes ≡ t
    → z ≡ upto n (noted_rounds k (noted t bodies k p) (length bytes - c + 1) c) → z ≡ upto n (noted t bodies k whole c)
unfolding noted_of
arbno_does t bodies k n c whole child p bytes z is same_child same does_z =
    does_z
    ∙ ap (λ x. upto n (noted_rounds k (noted t bodies k p) (length x - c + 1) c)) same
    ∙ ap (λ x. upto n (noted_rounds k (noted t bodies k x) (length t - c + 1) c)) same_child
    ∙ sym (ap (λ x. upto n (noted t bodies k x c)) is)

-- assignments
pub cond_does : (t : List ℕ) (bodies : List Tree) (k n c : ℕ) (whole child p : Tree) (v : List ℕ) (l m z : List Noted) → whole ≡ Cond child v → p ≡ child
    → m ≡ l → l ≡ upto n (noted t bodies k p c) → z ≡ assign_later v c m → z ≡ upto n (noted t bodies k whole c)
unfolding noted_of
cond_does t bodies k n c whole child p v l m z is same_child same does_l does_z =
    does_z ∙ ap (assign_later v c) (same ∙ does_l ∙ ap (λ x. upto n (noted t bodies k x c)) same_child)
    ∙ sym (upto_later n v c (noted t bodies k child c)) ∙ sym (ap (λ x. upto n (noted t bodies k x c)) is)

pub imm_does : (t : List ℕ) (bodies : List Tree) (k n c : ℕ) (whole child p : Tree) (v : List ℕ) (l m z : List Noted) → whole ≡ Imm child v → p ≡ child
    → m ≡ l → l ≡ upto n (noted t bodies k p c) → z ≡ assign_now v c m → z ≡ upto n (noted t bodies k whole c)
unfolding noted_of
imm_does t bodies k n c whole child p v l m z is same_child same does_l does_z =
    does_z ∙ ap (assign_now v c) (same ∙ does_l ∙ ap (λ x. upto n (noted t bodies k x c)) same_child)
    ∙ sym (upto_now n v c (noted t bodies k child c)) ∙ sym (ap (λ x. upto n (noted t bodies k x c)) is)

-- a reference
pub ref_does : (t : List ℕ) (bodies : List Tree) (k n c : ℕ) (whole : Tree) (i : ℕ) (l m z : List Noted) → whole ≡ Ref i → m ≡ l → l ≡ upto n (noted_definition t bodies k i c) → z ≡ within_definition k i c m → z ≡ upto n (noted t bodies k whole c)
unfolding noted_of
ref_does t bodies k n c whole i l m z is same does_l does_z =
    does_z ∙ ap (within_definition k i c) (same ∙ does_l) ∙ sym (upto_within n k i c (noted_definition t bodies k i c)) ∙ sym (ap (λ x. upto n (noted t bodies k x c)) is)

-- the depth is used up
pub named_no_more : (t : List ℕ) (bodies : List Tree) (k n i c : ℕ) (l : List Noted) → l ≡ [] → k ≡ 0 → l ≡ upto n (noted_definition t bodies k i c)
unfolding noted_definition
named_no_more t bodies k n i c l none h = none ∙ sym (ap (λ j. upto n (noted_definition t bodies j i c)) h)

-- no definition has the number
pub named_missing : (t : List ℕ) (bodies : List Tree) (k n i c : ℕ) (l : List Noted) → l ≡ [] → None ≡ slice_get bodies i → l ≡ upto n (noted_definition t bodies k i c)
unfolding noted_definition
named_missing t bodies zero n i c l none h = none
named_missing t bodies (suc k) n i c l none h = none ∙ ap (λ b. upto n (noted_body (noted_of t (noted_definition t bodies k) k) b c)) h

-- the definition's body does it
pub named_does : (t : List ℕ) (bodies : List Tree) (k n i c : ℕ) (p : Tree) (l : List Noted) → 0 < k → Some p ≡ slice_get bodies i → l ≡ upto n (noted t bodies (k - 1) p c) → l ≡ upto n (noted_definition t bodies k i c)
unfolding noted_definition
named_does t bodies zero n i c p l h is does = absurd (omega arith)
named_does t bodies (suc k) n i c p l h is does =
    does ∙ ap (λ j. upto n (noted t bodies j p c)) (sub-one (suc k)) ∙ ap (λ b. upto n (noted_body (noted_of t (noted_definition t bodies k) k) b c)) is

-- a round that took a character is followed by more
pub round_taken : (limit k : ℕ) (once : ℕ → List Noted) (n c e : ℕ) (l : List Noted) → c < e → l ≡ upto limit (noted_rounds k once (n - 1) e) → l ≡ upto limit (next_round k once n c e)
round_taken limit k once n c e l h is = is ∙ sym (ap (λ b. upto limit (cond b (noted_rounds k once (n - 1) e) (marked k NullRound e ∷ []))) (lt-ltb c e h))

-- one that took no character is dropped
pub round_dropped : (k : ℕ) (once : ℕ → List Noted) (n c e : ℕ) → e ≤ c → next_round k once n c e ≡ marked k NullRound e ∷ []
round_dropped k once n c e h = ap (λ b. cond b (noted_rounds k once (n - 1) e) (marked k NullRound e ∷ [])) (le-ltb c e h)
