-- What files in memory hold once something was written.
use Rattle.std.proofs.Common.{◌≡◌, ◌≢◌, ℕ, ◌+◌, ◌<◌, ◌≤◌, Bool, true, false, nat_eq, List, [], ◌∷◌, ◌++◌, length, take, drop, Option, None, Some, Result, Ok, Err, OnOk, OnErr, if◌then◌else◌, refl, ap, sym, subst, ◌∙◌}
use Rattle.std.proofs.lemmas.Bool.{eq-eqb, eqb-true, and_from, and_parts}
use Rattle.std.specs.Arc.{arc_value}
use Rattle.sno_pattern.specs.Identifiers.{same}
use Rattle.sno_edit.specs.Batches.{Written, IsReplaced, AreReplaced}
use Rattle.sno_edit.specs.Held.{Held, Kept, OthersKept}
use Rattle.sno_edit.specs.declared.folders.NewText.{NewText}
use Rattle.test_programs.specs.Memory.{held, held_after, IsWritten}
use Rattle.test_programs.specs.declared.memory.Writing.{Writing}

same_self : (t : List ℕ) → same t t ≡ true
same_self [] = refl
same_self (c ∷ t) = and_from (nat_eq c c) (same t t) (eq-eqb c c refl) (same_self t)

same_is : (a b : List ℕ) → same a b ≡ true → a ≡ b
same_is [] [] h = refl
same_is [] (y ∷ b) h = cc
same_is (x ∷ a) [] h = cc
same_is (x ∷ a) (y ∷ b) h =
    let hs = and_parts (nat_eq x y) (same a b) h in
    let head : x ≡ y = eqb-true x y hs.0 in
    let tail = same_is a b hs.1 in cc

not_true : (b : Bool) → (b ≡ true → ⊥) → b ≡ false
not_true true never = elim (never refl) [ ]
not_true false never = refl

-- what a file holds after one more writing
held_last : (path : List ℕ) (before : Option (List ℕ)) (ws : List Writing) (w : Writing)
    → held_after path before (ws ++ w ∷ []) ≡ (if same w.path.items path then Some w.bytes.items else held_after path before ws)
held_last path before [] w = refl
held_last path before (v ∷ ws) w = held_last path (if same v.path.items path then Some v.bytes.items else before) ws w

-- the file that was written holds these bytes
pub held_written : (path bytes : List ℕ) (old new : List Writing) → IsWritten path bytes old new → held path new ≡ Some bytes
held_written path bytes old new is =
    let there : same is.writing.path.items path ≡ true = ap (λ p. same p path) is.path_is ∙ same_self path in
    ap (held path) is.added ∙ held_last path None old is.writing
    ∙ ap (λ b. if b then Some is.writing.bytes.items else held path old) there ∙ ap Some is.bytes_are

-- each other file holds what it held
pub held_others : (path bytes : List ℕ) (old new : List Writing) → IsWritten path bytes old new → (other : List ℕ) → other ≢ path → held other new ≡ held other old
held_others path bytes old new is other unlike =
    let elsewhere : same is.writing.path.items other ≡ false =
    not_true (same is.writing.path.items other) (λ h. unlike (sym (same_is is.writing.path.items other h) ∙ is.path_is)) in
    ap (held other) is.added ∙ held_last other None old is.writing ∙ ap (λ b. if b then Some is.writing.bytes.items else held other old) elsewhere

-- one file was replaced, by what a replacement says
pub one_replaced : (file : NewText) (before after : Held) (r : Written) → OnOk r (after file.path.now (arc_value file.text)) → OnErr r (Kept before after)
    → OthersKept file.path.now before after → IsReplaced file before after r
one_replaced file before after (Ok done) written kept others = (written, others)
one_replaced file before after (Err fault) written kept others = kept

-- files that were replaced, and one more
pub one_more_replaced : {F : Type 0} (holds : F → Held) (f g h : F) (files : List NewText) (results : List Written) (file : NewText) (r : Written)
    → AreReplaced holds f files results g → IsReplaced file (holds g) (holds h) r → AreReplaced holds f (files ++ file ∷ []) (results ++ r ∷ []) h
one_more_replaced holds f g h [] [] file r is one = (h, subst (λ x. IsReplaced file (holds x) (holds h) r) is one, refl)
one_more_replaced holds f g h [] (x ∷ results) file r is one = elim is [ ]
one_more_replaced holds f g h (a ∷ files) [] file r is one = elim is [ ]
one_more_replaced holds f g h (a ∷ files) (x ∷ results) file r (k, first, rest) one = (k, first, one_more_replaced holds k g h files results file r rest one)
