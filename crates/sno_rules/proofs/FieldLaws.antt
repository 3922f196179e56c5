-- The fields of a text, by its first character.
use Rattle.std.proofs.Common.{◌≡◌, ℕ, ◌+◌, ◌-◌, ◌≤◌, List, [], ◌∷◌, length, drop, Result, Ok, Err, ap, refl, subst, sym, arith}
use Rattle.std.proofs.lemmas.List.{length-drop}
use Rattle.sno_rules.specs.declared.faults.LineFault.{LineFault}
use Rattle.sno_rules.specs.Lines.{Fields, with_field, front_of, rest_of}
use Rattle.sno_rules.specs.Rules.{AreFields, no_more, unknown, more}

pub nothing : (text : List ℕ) → length text ≡ 0 → text ≡ []
nothing [] h = refl
nothing (c ∷ cs) h = absurd (omega (arith, h))

pub within : (total k : ℕ) (after next text : List ℕ) → next ≡ drop k after → length after + 1 ≡ length text → length text ≤ total → length next ≤ total
within total k after next text is long h = let e : length next ≡ length (drop k after) = ap length is in omega (arith, e, long, h, length-drop k after)

pub none_left : (total : ℕ) (f : Fields) (text : List ℕ) → text ≡ [] → AreFields total f text (Ok f)
none_left total f text is = subst (λ t. AreFields total f t (Ok f)) (sym is) (no_more f)

pub one_unknown : (total : ℕ) (f : Fields) (text : List ℕ) (colon : ℕ) (after field : List ℕ) (e : LineFault) → text ≡ colon ∷ after → field ≡ front_of 58 after
    → with_field f (total - length after) field ≡ Err e → AreFields total f text (Err e)
one_unknown total f text colon after field e is front gives =
    subst (λ t. AreFields total f t (Err e)) (sym is) (unknown f colon after e (subst (λ (x : List ℕ). with_field f (total - length after) x ≡ Err e) front gives))

pub one_field : (total : ℕ) (f g : Fields) (text : List ℕ) (colon : ℕ) (after field next : List ℕ) (r : Result Fields LineFault) → text ≡ colon ∷ after → field ≡ front_of 58 after
    → next ≡ rest_of 58 after → with_field f (total - length after) field ≡ Ok g → AreFields total g next r → AreFields total f text r
one_field total f g text colon after field next r is front rest gives others =
    subst (λ t. AreFields total f t r) (sym is)
    (more f g colon after r (subst (λ (x : List ℕ). with_field f (total - length after) x ≡ Ok g) front gives) (subst (λ (x : List ℕ). AreFields total g x r) rest others))
