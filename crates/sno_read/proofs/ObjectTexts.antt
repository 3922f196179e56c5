-- Objects: what is read is spelled so, and what is spelled so is read.
use Rattle.std.proofs.Common.{◌≡◌, ℕ, zero, suc, ◌-◌, ◌<◌, Bool, true, false, cond, List, [], ◌∷◌, ◌++◌, length, nat_eq, Result, Ok, refl, sym, ap, subst, ◌∙◌, arith, append-nil, length-append}
use Rattle.std.proofs.lemmas.Bool.{eqb-true, ne_eqb}
use Rattle.sno_pattern.specs.Identifiers.{is_name_char}
use Rattle.sno_read.specs.declared.faults.ReadFault.{ReadFault}
use Rattle.sno_read.specs.declared.characters.Start.{Start}
use Rattle.sno_read.specs.declared.characters.Start.TheVariants as start
use Rattle.sno_read.specs.declared.objects.Part.{Part}
use Rattle.sno_read.specs.declared.objects.Part.TheVariants.{Quoted, Var}
use Rattle.sno_read.specs.Gives.{◌>>=◌}
use Rattle.sno_read.specs.Characters.{is_blank, front, skip, begins, start_of}
use Rattle.sno_read.specs.Grammar.{AreBlanks, SomeBlanks}
use Rattle.sno_read.specs.ObjectGrammar.{IsPart, AreParts, SpellsObject, SpellsRuleObject}
use Rattle.sno_read.specs.ObjectGrammar as grammar
use Rattle.sno_read.specs.Laws.{OneObject, OneRuleObject}
use Rattle.sno_read.specs.Reading.{Env, literal_at, variable_at, blanks_at, short_text, short_ascii}
use Rattle.sno_read.specs.Objects.{part_by, part_at, gap_at, parts_of, object_of, rule_object_of}
use Rattle.sno_read.proofs.Fronts.{front_passes, front_behind}
use Rattle.sno_read.proofs.Results.{bind_ok, ok_same, pair_ok}
use Rattle.sno_read.proofs.TokensRead.{literal_sound, variable_sound, parted_sound}
use Rattle.sno_read.proofs.TokensAgain.{literal_again, variable_again, parted_again}
use Rattle.sno_read.proofs.Marks.{Starts, starts_more, literal_starts, named_starts, name_starts, letter_begins, starts_no_blank, blanks_or, skip_blanks}
use Rattle.sno_read.proofs.Complete.{quoted_starts, blank_ends_name}
use Rattle.sno_read.proofs.Parts.{more_step, end_step}
use Rattle.sno_read.proofs.SoundTexts.{checked_ok, short_ok, nothing_left}
use Rattle.sno_read.proofs.CompleteTexts.{checked_again, short_again}

pub part_by_sound : (env : Env) (text : List ℕ) (p : Part) (rest : List ℕ) (st : Start) → part_by env text st ≡ Ok (p, rest) → (x : List ℕ) × IsPart env.names x p × (text ≡ x ++ rest)
part_by_sound env text p rest start.Quote h =
    let a = bind_ok (literal_at env text) _ (p, rest) h in
    let same = pair_ok (Quoted a.0.0, a.0.1) p rest a.2 in
    let l = literal_sound env text a.0.0 a.0.1 a.1 in
    (l.0, subst (λ q. IsPart env.names l.0 q) same.0 (grammar.quoted l.0 a.0.0 l.1), l.2 ∙ ap (λ r. l.0 ++ r) same.1)
part_by_sound env text p rest start.Letter h =
    let a = bind_ok (variable_at env text) _ (p, rest) h in
    let same = pair_ok (Var a.0.0, a.0.1) p rest a.2 in
    let v = variable_sound env text a.0.0 a.0.1 a.1 in
    (a.0.0, subst (λ q. IsPart env.names a.0.0 q) same.0 (grammar.variable a.0.0 v.0), v.1 ∙ ap (λ r. a.0.0 ++ r) same.1)
part_by_sound env text p rest start.At h = cc
part_by_sound env text p rest start.Star h = cc
part_by_sound env text p rest start.Open h = cc
part_by_sound env text p rest start.Other h = cc

part_starts : (names : List (List ℕ)) (x : List ℕ) (p : Part) → IsPart names x p → Starts x
part_starts names x p (grammar.quoted y s l) = literal_starts y s l
part_starts names x p (grammar.variable v i) = named_starts v i.is_name

parts_start : (names : List (List ℕ)) (x : List ℕ) (ps : List Part) → AreParts names x ps → 0 < length ps → Starts x
parts_start names x ps grammar.none h = absurd (omega arith)
parts_start names x ps (grammar.last y b p i bb) h = starts_more y _ (part_starts names y p i)
parts_start names x ps (grammar.more y b z p q qs i bb r) h = starts_more y _ (part_starts names y p i)

no_parts : (names : List (List ℕ)) (x : List ℕ) (ps : List Part) → AreParts names x ps → length ps ≡ 0 → x ≡ []
no_parts names x ps grammar.none h = refl
no_parts names x ps (grammar.last y b p i bb) h = absurd (omega arith)
no_parts names x ps (grammar.more y b z p q qs i bb r) h = absurd (omega arith)

-- nothing, or blanks with something after them
pub gap_sound : (env : Env) (text rest : List ℕ) → gap_at env text ≡ Ok rest → (b : List ℕ) × AreBlanks b × (text ≡ b ++ rest) × (0 < length rest → 0 < length b)
unfolding gap_at
gap_sound env text rest h = by_case (nat_eq (length text) 0) refl h
  where
    by_case : (v : Bool) → nat_eq (length text) 0 ≡ v → cond v (Ok text) (blanks_at env text) ≡ Ok rest → (b : List ℕ) × AreBlanks b × (text ≡ b ++ rest) × (0 < length rest → 0 < length b)
    by_case true e g =
        let same = ok_same text rest g in
        let empty = eqb-true (length text) 0 e in
        ([], refl, same, λ l. absurd (omega (arith, empty, ap length same)))
    by_case false e g = let p = parted_sound env text rest g in (p.0, p.1.0, p.2, λ l. p.1.1)

-- one part before the others
joined : (names : List (List ℕ)) (x b rest : List ℕ) (p : Part) (others : List Part) → IsPart names x p → AreBlanks b → (0 < length rest → 0 < length b) → AreParts names rest others → AreParts names (x ++ (b ++ rest)) (p ∷ others)
joined names x b rest p [] i bb h r =
    let e = no_parts names rest [] r refl in
    rw (e, append-nil b) (grammar.last x b p i bb)
joined names x b rest p (q ∷ qs) i bb h r =
    let s = parts_start names rest (q ∷ qs) r (omega arith) in
    let some : 0 < length b = h (omega (arith, ap length s.3)) in
    grammar.more x b rest p q qs i (bb, some) r

parts_sound : (env : Env) (n : ℕ) (text : List ℕ) (ps : List Part) → parts_of env n text ≡ Ok ps → AreParts env.names text ps
unfolding parts_of part_at
parts_sound env zero text ps h = cc
parts_sound env (suc n) text ps h = by_case (nat_eq (length text) 0) refl (parts_of env n) (λ rest others. parts_sound env n rest others) h
  where
    by_case : (v : Bool) → nat_eq (length text) 0 ≡ v → (rests : List ℕ → Result (List Part) ReadFault) → ((rest : List ℕ) (others : List Part) → rests rest ≡ Ok others → AreParts env.names rest others)
        → cond v (Ok []) (part_at env text >>= λ x. gap_at env x.1 >>= λ rest. rests rest >>= λ others. Ok (x.0 ∷ others)) ≡ Ok ps → AreParts env.names text ps
    by_case true e rests sound g =
        let empty = nothing_left text (eqb-true (length text) 0 e) in
        let same = ok_same [] ps g in
        subst (λ l. AreParts env.names text l) same (subst (λ l. AreParts env.names l []) (sym empty) grammar.none)
    by_case false e rests sound g =
        let a = bind_ok (part_at env text) _ ps g in
        let b = bind_ok (gap_at env a.0.1) _ ps a.2 in
        let d = bind_ok (rests b.0) _ ps b.2 in
        let same = ok_same (a.0.0 ∷ d.0) ps d.2 in
        let x = part_by_sound env text a.0.0 a.0.1 (start_of text) a.1 in
        let s = gap_sound env a.0.1 b.0 b.1 in
        let made = joined env.names x.0 s.0 b.0 a.0.0 d.0 x.1 s.1 s.3 (sound b.0 d.0 d.1) in
        subst (λ l. AreParts env.names text l) same (subst (λ l. AreParts env.names l (a.0.0 ∷ d.0)) (sym (x.2 ∙ ap (λ l. x.0 ++ l) s.2)) made)

pub object_sound : (names : List (List ℕ)) (text : List ℕ) (ps : List Part) → object_of names text ≡ Ok ps → SpellsObject names text ps
unfolding object_of
object_sound names text ps h =
    let c = bind_ok (short_ascii text) _ ps h in
    let k = checked_ok text c.0 c.1 in
    record {
      short = k.0;
      ascii = k.1;
      before = front is_blank c.0;
      inside = skip c.0;
      blank_before = front_passes is_blank c.0;
      are_parts = parts_sound (record { names = names; earlier = 0; total = length text; in_rule = false }) (suc (length (skip c.0))) (skip c.0) ps c.2;
      joined = k.2 ∙ front_behind is_blank c.0;
    }

pub rule_object_sound : (names : List (List ℕ)) (text : List ℕ) (ps : List Part) → rule_object_of names text ≡ Ok ps → SpellsRuleObject names text ps
unfolding rule_object_of
rule_object_sound names text ps h =
    let c = bind_ok (short_text text) _ ps h in
    let k = short_ok text c.0 c.1 in
    record {
      short = k.0;
      before = front is_blank c.0;
      inside = skip c.0;
      blank_before = front_passes is_blank c.0;
      are_parts = parts_sound (record { names = names; earlier = 0; total = length text; in_rule = true }) (suc (length (skip c.0))) (skip c.0) ps c.2;
      joined = k.1 ∙ front_behind is_blank c.0;
    }

part_again : (env : Env) (x : List ℕ) (p : Part) (r : List ℕ) → IsPart env.names x p → begins is_name_char r ≡ false → part_at env (x ++ r) ≡ Ok (p, r)
unfolding part_at
part_again env x p r (grammar.quoted y s l) h = rw (quoted_starts y r s l, literal_again env y s r l) refl
part_again env x p r (grammar.variable v i) h =
    let n = name_starts v i.is_name in
    let e : start_of (v ++ r) ≡ start.Letter = ap (λ l. start_of (l ++ r)) n.3 ∙ letter_begins n.0 (n.2 ++ r) n.1 in
    rw (e, variable_again env v r i h) refl

gap_again : (env : Env) (b r : List ℕ) → SomeBlanks b → begins is_blank r ≡ false → gap_at env (b ++ r) ≡ Ok r
unfolding gap_at
gap_again env b r h e =
    let some : nat_eq (length (b ++ r)) 0 ≡ false = ne_eqb _ 0 (λ i. omega (arith, i, h.1, length-append b r)) in
    rw some (parted_again env b r h e)

last_gap : (env : Env) (b : List ℕ) → AreBlanks b → gap_at env b ≡ Ok []
unfolding gap_at
last_gap env [] h = refl
last_gap env (c ∷ b) h = ap (gap_at env) (sym (append-nil (c ∷ b))) ∙ gap_again env (c ∷ b) [] (h, omega arith) refl

blank_last : (b : List ℕ) → AreBlanks b → begins is_name_char b ≡ false
unfolding is_name_char
blank_last b h = rw append-nil at (blanks_or is_name_char b [] refl refl h refl)

-- a part, a gap and more
step_again : (env : Env) (n : ℕ) (text : List ℕ) (p : Part) (rest_after rest : List ℕ) (others : List Part) → length text < n → 0 < length text → part_at env text ≡ Ok (p, rest_after) → gap_at env rest_after ≡ Ok rest → parts_of env (n - 1) rest ≡ Ok others → parts_of env n text ≡ Ok (p ∷ others)
step_again env n text p rest_after rest others l o a g m =
    let some : nat_eq (length text) 0 ≡ false = ne_eqb _ 0 (λ i. omega arith) in
    more_step env n text _ l some ∙ rw (a, g, m) refl

parts_again : (env : Env) (x : List ℕ) (ps : List Part) → AreParts env.names x ps → (n : ℕ) → length x < n → parts_of env n x ≡ Ok ps
parts_again env x ps grammar.none n l = end_step env n [] _ l refl
parts_again env x ps (grammar.last y b p i bb) n l =
    let s = part_starts env.names y p i in
    let long : 0 < length y = omega (arith, ap length s.3) in
    let sum = length-append y b in
    step_again env n (y ++ b) p b [] [] l (omega arith) (part_again env y p b i (blank_last b bb)) (last_gap env b bb) (end_step env (n - 1) [] 0 (omega arith) refl)
parts_again env x ps (grammar.more y b z p q qs i bb r) n l =
    let s = part_starts env.names y p i in
    let long : 0 < length y = omega (arith, ap length s.3) in
    let sum = length-append y (b ++ z) in
    let sum2 = length-append b z in
    step_again env n (y ++ (b ++ z)) p (b ++ z) z (q ∷ qs) l (omega arith) (part_again env y p (b ++ z) i (blank_ends_name b z bb)) (gap_again env b z bb (rw append-nil at (starts_no_blank z [] (parts_start env.names z (q ∷ qs) r (omega arith))))) (parts_again env z (q ∷ qs) r (n - 1) (omega arith))

inside_no_blank : (names : List (List ℕ)) (x : List ℕ) (ps : List Part) → AreParts names x ps → begins is_blank x ≡ false
inside_no_blank names x ps grammar.none = refl
inside_no_blank names x ps (grammar.last y b p i bb) = starts_no_blank y b (part_starts names y p i)
inside_no_blank names x ps (grammar.more y b z p q qs i bb r) = starts_no_blank y (b ++ z) (part_starts names y p i)

pub object_again : (names : List (List ℕ)) (text : List ℕ) (ps : List Part) → SpellsObject names text ps → object_of names text ≡ Ok ps
unfolding object_of
object_again names text ps s =
    let skipped : skip text ≡ s.inside = ap skip s.joined ∙ skip_blanks s.before s.inside s.blank_before (inside_no_blank names s.inside ps s.are_parts) in
    rw (checked_again text s.short s.ascii, skipped) (parts_again (record { names = names; earlier = 0; total = length text; in_rule = false }) s.inside ps s.are_parts (suc (length s.inside)) (omega arith))

pub one_object_law : OneObject
one_object_law names text ps qs s r = ok_same ps qs (sym (object_again names text ps s) ∙ object_again names text qs r)

pub rule_object_again : (names : List (List ℕ)) (text : List ℕ) (ps : List Part) → SpellsRuleObject names text ps → rule_object_of names text ≡ Ok ps
unfolding rule_object_of
rule_object_again names text ps s =
    let skipped : skip text ≡ s.inside = ap skip s.joined ∙ skip_blanks s.before s.inside s.blank_before (inside_no_blank names s.inside ps s.are_parts) in
    rw (short_again text s.short, skipped) (parts_again (record { names = names; earlier = 0; total = length text; in_rule = true }) s.inside ps s.are_parts (suc (length s.inside)) (omega arith))

pub one_rule_object_law : OneRuleObject
one_rule_object_law names text ps qs s r = ok_same ps qs (sym (rule_object_again names text ps s) ∙ rule_object_again names text qs r)
