-- Sets: what is read of them is spelled so.
use Rattle.std.proofs.Common.{◌≡◌, ℕ, zero, suc, ◌<◌, Bool, true, false, cond, List, ◌++◌, length, drop, nat_eq, Option, Some, None, Ok, refl, sym, ap, subst, ◌∙◌, arith, append_assoc}
use Rattle.std.proofs.lemmas.Bool.{and_parts, eqb-false}
use Rattle.sno_pattern.specs.Texts.{first_non_ascii}
use Rattle.sno_pattern.proofs.TextLemmas.{all_ascii}
use Rattle.sno_read.specs.declared.faults.ReadFault.{ReadFault}
use Rattle.sno_read.specs.declared.faults.ReadFault.TheVariants as fault
use Rattle.sno_read.specs.Characters.{is_blank, is_quote, front, skip, begins, goes_on}
use Rattle.sno_read.specs.Grammar.{SomeBlanks, IsLiteral, IsSetOfDocument, AreLiterals, IsSetOfRule}
use Rattle.sno_read.specs.Grammar as grammar
use Rattle.sno_read.specs.Reading.{Env, Read, place, unless_above, unless_empty, literal_at, ascii_literal_at, literals_by, literals_at, set_at}
use Rattle.sno_read.proofs.Ascii.{AreAscii, ascii_joined}
use Rattle.sno_read.proofs.Fronts.{front_passes, front_behind}
use Rattle.sno_read.proofs.Results.{bind_ok, if_false, if_true, unless_ok, ok_same, pair_ok}
use Rattle.sno_read.proofs.TokensRead.{literal_sound, some_front}

-- what is read as a set is spelled so
abbrev pub SetsSound : (List ℕ → List ℕ → Type 0) → Env → Type 0
SetsSound IsSet env = (text s rest : List ℕ) → set_at env text ≡ Ok (s, rest) → (x : List ℕ) × IsSet x s × (text ≡ x ++ rest)

above_ok : (env : Env) (inside : List ℕ) (p q : List ℕ × List ℕ) (o : Option ℕ) → unless_above env inside p o ≡ Ok q → (o ≡ None) × (p ≡ q)
above_ok env inside p q None h = (refl, ok_same p q h)
above_ok env inside p q (Some i) h = cc

ascii_literal_sound : (env : Env) (text s rest : List ℕ) → ascii_literal_at env text ≡ Ok (s, rest) → (x : List ℕ) × IsLiteral x s × AreAscii s × (text ≡ x ++ rest)
unfolding ascii_literal_at
ascii_literal_sound env text s rest h =
    let a = bind_ok (literal_at env text) _ (s, rest) h in
    let b = above_ok env (drop 1 text) a.0 (s, rest) (first_non_ascii a.0.0) a.2 in
    let l = literal_sound env text s rest (a.1 ∙ ap (λ p. Ok p) b.1) in
    let none : first_non_ascii s ≡ None = subst (λ (p : List ℕ × List ℕ). first_non_ascii p.0 ≡ None) b.1 b.0 in
    (l.0, l.1, all_ascii s (sym none), l.2)

-- blanks come before another literal
goes_on_blanks : (text : List ℕ) → goes_on text ≡ true → SomeBlanks (front is_blank text)
unfolding goes_on
goes_on_blanks text h = (front_passes is_blank text, some_front is_blank text (and_parts (begins is_blank text) (begins is_quote (skip text)) h).0)

abbrev Literals : List ℕ → List ℕ → List ℕ → Type 0
Literals text s rest = (x : List ℕ) × AreLiterals x s × AreAscii s × (text ≡ x ++ rest)

literals_sound : (env : Env) (n : ℕ) (text s rest : List ℕ) → literals_at env n text ≡ Ok (s, rest) → Literals text s rest
unfolding literals_at
literals_sound env zero text s rest h = cc
literals_sound env (suc n) text s rest h =
    let a = bind_ok (ascii_literal_at env text) _ (s, rest) h in
    let l = ascii_literal_sound env text a.0.0 a.0.1 a.1 in
    by_next (literals_at env n) (λ m u. literals_sound env n m u rest) a.0 l.0 l.1 l.2 l.3 (goes_on a.0.1) refl a.2
  where
    by_next : (more : List ℕ → Read (List ℕ)) → ((m u : List ℕ) → more m ≡ Ok (u, rest) → Literals m u rest) → (p : List ℕ × List ℕ) (x : List ℕ) → IsLiteral x p.0 → AreAscii p.0 → text ≡ x ++ p.1 → (g : Bool) → goes_on p.1 ≡ g → literals_by more p g ≡ Ok (s, rest) → Literals text s rest
    by_next more sound p x i a split true e g =
        let b = bind_ok (more (skip p.1)) _ (s, rest) g in
        let same = pair_ok (p.0 ++ b.0.0, b.0.1) s rest b.2 in
        let y = sound (skip p.1) b.0.0 (b.1 ∙ ap (λ l. Ok (b.0.0, l)) same.1) in (
          x ++ (front is_blank p.1 ++ y.0),
          subst (λ u. AreLiterals (x ++ (front is_blank p.1 ++ y.0)) u) same.0 (grammar.another x (front is_blank p.1) y.0 p.0 b.0.0 i (goes_on_blanks p.1 e) y.1),
          subst (λ u. AreAscii u) same.0 (ascii_joined p.0 b.0.0 a y.2),
          split ∙ ap (λ l. x ++ l) (front_behind is_blank p.1 ∙ ap (λ l. front is_blank p.1 ++ l) y.3 ∙ sym (append_assoc (front is_blank p.1) y.0 rest)) ∙ sym (append_assoc x (front is_blank p.1 ++ y.0) rest),
        )
    by_next more sound p x i a split false e g =
        let same = pair_ok p s rest g in
        (x, subst (λ u. AreLiterals x u) same.0 (grammar.one x p.0 i), subst (λ u. AreAscii u) same.0 a, split ∙ ap (λ l. x ++ l) same.1)

-- members that were read are some
some_ok : (e : ReadFault) (p q : List ℕ × List ℕ) → unless_empty e p ≡ Ok q → (0 < length q.0) × (p ≡ q)
some_ok e p q h =
    let b = unless_ok (nat_eq (length p.0) 0) (Ok p) e q h in
    let same = ok_same p q b.1 in
    let none : length p.0 ≡ 0 → ⊥ = eqb-false _ _ b.0 in
    let some : 0 < length p.0 = omega (arith, none) in
    (subst (λ (r : List ℕ × List ℕ). 0 < length r.0) same some, same)

pub document_set_sound : (env : Env) → env.in_rule ≡ false → SetsSound IsSetOfDocument env
unfolding set_at
document_set_sound env document text s rest h =
    let a = bind_ok (cond env.in_rule (literals_at env (suc (length text)) text) (ascii_literal_at env text)) _ (s, rest) h in
    let b = some_ok (fault.EmptySet (place env text)) a.0 (s, rest) a.2 in
    let l = ascii_literal_sound env text s rest (sym (if_false env.in_rule _ _ document) ∙ a.1 ∙ ap (λ p. Ok p) b.1) in
    (l.0, (l.1, b.0), l.3)

pub rule_set_sound : (env : Env) → env.in_rule ≡ true → SetsSound IsSetOfRule env
unfolding set_at
rule_set_sound env rule text s rest h =
    let a = bind_ok (cond env.in_rule (literals_at env (suc (length text)) text) (ascii_literal_at env text)) _ (s, rest) h in
    let b = some_ok (fault.EmptySet (place env text)) a.0 (s, rest) a.2 in
    let l = literals_sound env (suc (length text)) text s rest (sym (if_true env.in_rule _ _ rule) ∙ a.1 ∙ ap (λ p. Ok p) b.1) in
    (l.0, record { literals = l.1; some = b.0; ascii = l.2 }, l.3)
