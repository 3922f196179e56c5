-- What is read of a whole text is spelled so.
use Rattle.std.proofs.Common.{◌≡◌, ℕ, ◌≤◌, true, false, List, [], ◌∷◌, ◌++◌, length, nat_eq, nat_lt, Option, Some, None, Ok, IsTrue, refl, sym, ap, subst, ◌∙◌, arith, append-nil}
use Rattle.std.specs.List.{list_all}
use Rattle.std.specs.Char.{is_ascii}
use Rattle.std.proofs.lemmas.Bool.{ltb-false, eqb-true}
use Rattle.sno_pattern.specs.Texts.{first_non_ascii}
use Rattle.sno_pattern.specs.Tree.{Tree}
use Rattle.sno_read.specs.declared.faults.ReadFault.TheVariants as fault
use Rattle.sno_read.specs.Characters.{is_blank, front, skip}
use Rattle.sno_read.specs.Depth.{depth}
use Rattle.sno_read.specs.Grammar.{AreBlanks, IsSetOfDocument, IsSetOfRule, IsAlternation, Spells, SpellsRule}
use Rattle.sno_read.specs.Reading.{Env, end_at, unless_too_deep, whole_of, short_text, short_ascii, ascii_only, pattern_of, rule_pattern_of, alternation_at, inside}
use Rattle.sno_pattern.proofs.TextLemmas.{all_ascii}
use Rattle.sno_read.proofs.Fronts.{front_passes, front_behind}
use Rattle.sno_read.proofs.Results.{bind_ok, if_ok, unless_ok, ok_same}
use Rattle.sno_read.proofs.SetsRead.{SetsSound, document_set_sound, rule_set_sound}
use Rattle.sno_read.proofs.Sound.{alternation_sound}

ascii_ok : (o : Option ℕ) (text t : List ℕ) → ascii_only o text ≡ Ok t → (o ≡ None) × (text ≡ t)
ascii_ok None text t h = (refl, ok_same text t h)
ascii_ok (Some i) text t h = cc

pub checked_ok : (text t : List ℕ) → short_ascii text ≡ Ok t → (length text ≤ 4096) × IsTrue (list_all is_ascii text) × (text ≡ t)
checked_ok text t h =
    let p = unless_ok (nat_lt 4096 (length text)) (ascii_only (first_non_ascii text) text) (fault.TooLong 4096) t h in
    let q = ascii_ok (first_non_ascii text) text t p.1 in
    (ltb-false _ _ p.0, all_ascii text (sym q.0), q.1)

pub short_ok : (text t : List ℕ) → short_text text ≡ Ok t → (length text ≤ 4096) × (text ≡ t)
short_ok text t h =
    let p = unless_ok (nat_lt 4096 (length text)) (Ok text) (fault.TooLong 4096) t h in
    (ltb-false _ _ p.0, ok_same text t p.1)

pub nothing_left : (l : List ℕ) → length l ≡ 0 → l ≡ []
nothing_left [] h = refl
nothing_left (c ∷ cs) h = absurd (omega arith)

pub ended_ok : (env : Env) (text : List ℕ) (n : ℕ) → end_at env text ≡ Ok n → text ≡ []
unfolding end_at
ended_ok env text n h = nothing_left text (eqb-true _ _ (if_ok (nat_eq (length text) 0) (Ok 0) _ n h).0)

shallow_ok : (env : Env) (t u : Tree) → unless_too_deep env t ≡ Ok u → (depth u ≤ 1000) × (t ≡ u)
unfolding unless_too_deep
shallow_ok env t u h =
    let p = unless_ok (nat_lt 1000 (depth t)) (Ok t) _ u h in
    let e = ok_same t u p.1 in
    (subst (λ v. depth v ≤ 1000) e (ltb-false _ _ p.0), e)

-- what is read of a whole text
record Whole (IsSet : List ℕ → List ℕ → Type 0) (names : List (List ℕ)) (earlier : ℕ) (text : List ℕ) (t : Tree) : Type 0 where
  before : List ℕ
  inside : List ℕ
  after : List ℕ
  blank_before : AreBlanks before
  alternation : IsAlternation IsSet names earlier 100 inside t
  blank_after : AreBlanks after
  joined : text ≡ before ++ (inside ++ after)
  shallow : depth t ≤ 1000

whole_sound : (IsSet : List ℕ → List ℕ → Type 0) (env : Env) → SetsSound IsSet env → (text : List ℕ) (t : Tree) → whole_of env text ≡ Ok t → Whole IsSet env.names env.earlier text t
unfolding whole_of
whole_sound IsSet env sets text t h =
    let w = unless_ok (nat_eq (length (skip text)) 0) _ (fault.Empty env.total) t h in
    let a = bind_ok (alternation_at env 100 (inside env 100) (skip text)) _ t w.1 in
    let e = bind_ok (end_at env (skip a.0.1)) _ t a.2 in
    let s = shallow_ok env a.0.0 t e.2 in
    let x = alternation_sound IsSet env sets 100 (skip text) a.0.0 a.0.1 a.1 in
    let rest : a.0.1 ≡ front is_blank a.0.1 = front_behind is_blank a.0.1 ∙ ap (λ l. front is_blank a.0.1 ++ l) (ended_ok env (skip a.0.1) e.0 e.1) ∙ append-nil (front is_blank a.0.1) in
    record {
      before = front is_blank text;
      inside = x.0;
      after = front is_blank a.0.1;
      blank_before = front_passes is_blank text;
      alternation = subst (λ u. IsAlternation IsSet env.names env.earlier 100 x.0 u) s.1 x.1;
      blank_after = front_passes is_blank a.0.1;
      joined = front_behind is_blank text ∙ ap (λ l. front is_blank text ++ l) (x.2 ∙ ap (λ l. x.0 ++ l) rest);
      shallow = s.0;
    }

pub pattern_sound : (names : List (List ℕ)) (earlier : ℕ) (text : List ℕ) (t : Tree) → pattern_of names earlier text ≡ Ok t → Spells names earlier text t
unfolding pattern_of
pattern_sound names earlier text t h =
    let c = bind_ok (short_ascii text) _ t h in
    let k = checked_ok text c.0 c.1 in
    let env : Env = record { names = names; earlier = earlier; total = length text; in_rule = false } in
    let w = whole_sound IsSetOfDocument env (document_set_sound env refl) c.0 t c.2 in
    record {
      short = k.0;
      ascii = k.1;
      before = w.before;
      inside = w.inside;
      after = w.after;
      blank_before = w.blank_before;
      alternation = w.alternation;
      blank_after = w.blank_after;
      joined = k.2 ∙ w.joined;
      shallow = w.shallow;
    }

pub rule_pattern_sound : (names : List (List ℕ)) (earlier : ℕ) (text : List ℕ) (t : Tree) → rule_pattern_of names earlier text ≡ Ok t → SpellsRule names earlier text t
unfolding rule_pattern_of
rule_pattern_sound names earlier text t h =
    let c = bind_ok (short_text text) _ t h in
    let k = short_ok text c.0 c.1 in
    let env : Env = record { names = names; earlier = earlier; total = length text; in_rule = true } in
    let w = whole_sound IsSetOfRule env (rule_set_sound env refl) c.0 t c.2 in
    record {
      short = k.0;
      before = w.before;
      inside = w.inside;
      after = w.after;
      blank_before = w.blank_before;
      alternation = w.alternation;
      blank_after = w.blank_after;
      joined = k.1 ∙ w.joined;
      shallow = w.shallow;
    }
