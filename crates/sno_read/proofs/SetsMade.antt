-- The sets of calls, made from what was read.
use Rattle.std.proofs.Common.{◌≡◌, ℕ, ◌-◌, ◌<◌, Bool, true, false, not, ◌&&◌, List, [], ◌++◌, length, drop, nat_eq, Option, Some, None, Ok, Err, if◌then◌else◌, refl, sym, ap, subst, ◌∙◌, append_assoc}
use Rattle.std.specs.List.{list_all}
use Rattle.std.specs.Char.{is_ascii}
use Rattle.std.proofs.lemmas.Bool.{and_parts}
use Rattle.sno_pattern.specs.Texts.{first_non_ascii}
use Rattle.sno_pattern.specs.Classes.{is_class, class_of}
use Rattle.sno_pattern.proofs.TextLemmas.{all_ascii, none_non_ascii}
use Rattle.sno_read.specs.declared.faults.ReadFault.{ReadFault}
use Rattle.sno_read.specs.declared.faults.ReadFault.TheVariants as fault
use Rattle.sno_read.specs.declared.faults.Stop.{Stop}
use Rattle.sno_read.specs.declared.faults.Stop.TheVariants.{Memory, Fault}
use Rattle.sno_read.specs.Gives.{◌>>=◌, Stops}
use Rattle.sno_read.specs.Characters.{skip, goes_on}
use Rattle.sno_read.specs.Reading.{Env, Read, place, literal_at, ascii_literal_at, literals_by, literals_at, unless_empty}
use Rattle.sno_read.proofs.Ascii.{AreAscii}
use Rattle.sno_read.proofs.Results.{if_some}
use Rattle.sno_read.proofs.SetsAgain.{literals_step}

not_true : (v : Bool) → not v ≡ true → v ≡ false
not_true true h = cc
not_true false h = refl

-- members that a set was made of
class_is : (members class : List ℕ) → Some class ≡ class_of members → (members ≡ class) × (nat_eq (length members) 0 ≡ false) × AreAscii members
class_is members class h =
    let p = if_some (is_class members) (Some members) class (sym h) in
    let q = and_parts (not (nat_eq (length members) 0)) (list_all is_ascii members) p.0 in
    let same : members ≡ class = cc in
    (same, not_true _ q.0, q.1)

no_class : (v w : Bool) (members : List ℕ) → None ≡ (if v && w then Some members else None) → w ≡ true → v ≡ false
no_class true true members h e = cc
no_class true false members h e = cc
no_class false w members h e = refl

no_not : (v : Bool) → not v ≡ false → v ≡ true
no_not true h = refl
no_not false h = cc

-- ASCII members of which no set was made are none
class_refused : (members : List ℕ) → None ≡ class_of members → AreAscii members → nat_eq (length members) 0 ≡ true
class_refused members h a = no_not _ (no_class (not (nat_eq (length members) 0)) (list_all is_ascii members) members h a)

pub members_made : (members class r : List ℕ) (e : ReadFault) → Some class ≡ class_of members → unless_empty e (members, r) ≡ Ok (class, r)
members_made members class r e h = let c = class_is members class h in rw (c.1) (ap (λ l. Ok (l, r)) c.0)

pub literal_made : (env : Env) (text s r members class : List ℕ) (e : ReadFault) → literal_at env text ≡ Ok (s, r) → members ≡ s → Some class ≡ class_of members → (ascii_literal_at env text >>= unless_empty e) ≡ Ok (class, r)
unfolding ascii_literal_at
literal_made env text s r members class e h same c =
    let made : Some class ≡ class_of s = subst (λ l. Some class ≡ class_of l) same c in
    rw (h, none_non_ascii s (class_is s class made).2) (members_made s class r e made)

pub literal_refused : (env : Env) (text s r members : List ℕ) (stop : Stop) → literal_at env text ≡ Ok (s, r) → members ≡ s → None ≡ class_of members → ((i : ℕ) → first_non_ascii s ≡ Some i → stop ≡ Fault (fault.NonAscii (place env (drop i (drop 1 text))))) → (first_non_ascii s ≡ None → stop ≡ Fault (fault.EmptySet (place env text))) → Stops stop (ascii_literal_at env text >>= unless_empty (fault.EmptySet (place env text)))
unfolding ascii_literal_at
literal_refused env text s r members stop h same c some none = by_case (first_non_ascii s) refl
  where
    by_case : (o : Option ℕ) → first_non_ascii s ≡ o → Stops stop (ascii_literal_at env text >>= unless_empty (fault.EmptySet (place env text)))
    by_case (Some i) e = rw (some i e, h, e) refl
    by_case None e =
        let refused : None ≡ class_of s = subst (λ l. None ≡ class_of l) same c in
        rw (none e, h, e, class_refused s refused (all_ascii s (sym e))) refl

-- literals that were joined, and the rest of them
abbrev pub with_literals : List ℕ → Read (List ℕ) → Read (List ℕ)
with_literals front others = others >>= λ u. Ok (front ++ u.0, u.1)

front_more : (front s : List ℕ) (r : Read (List ℕ)) → with_literals (front ++ s) r ≡ with_literals front (r >>= λ u. Ok (s ++ u.0, u.1))
front_more front s (Ok u) = ap (λ l. Ok (l, u.1)) (append_assoc front s u.0)
front_more front s (Err e) = refl

pub no_front : (r : Read (List ℕ)) → with_literals [] r ≡ r
no_front (Ok u) = refl
no_front (Err e) = refl

module _ (env : Env) (m k : ℕ) (text front : List ℕ) (whole : Read (List ℕ)) (enough : k < m) (inv : with_literals front (literals_at env m text) ≡ whole) where
  whole_is : whole ≡ with_literals front (ascii_literal_at env text >>= λ s. literals_by (literals_at env (m - 1)) s (goes_on s.1))
  whole_is = sym inv ∙ ap (with_literals front) (literals_step env m text k enough)

  pub literal_stops : (s : Stop) → Stops s (ascii_literal_at env text) → Stops s whole
  literal_stops Memory h = tt
  literal_stops (Fault f) h = whole_is ∙ ap (λ r. with_literals front (r >>= λ s. literals_by (literals_at env (m - 1)) s (goes_on s.1))) h

  literal_read : (s r : List ℕ) → ascii_literal_at env text ≡ Ok (s, r) → whole ≡ with_literals front (literals_by (literals_at env (m - 1)) (s, r) (goes_on r))
  literal_read s r h = whole_is ∙ ap (λ r. with_literals front (r >>= λ s. literals_by (literals_at env (m - 1)) s (goes_on s.1))) h

  pub literal_last : (s r : List ℕ) → ascii_literal_at env text ≡ Ok (s, r) → goes_on r ≡ false → whole ≡ Ok (front ++ s, r)
  literal_last s r h g = literal_read s r h ∙ rw g refl

  pub literal_more : (s r : List ℕ) → ascii_literal_at env text ≡ Ok (s, r) → goes_on r ≡ true → with_literals (front ++ s) (literals_at env (m - 1) (skip r)) ≡ whole
  literal_more s r h g = front_more front s (literals_at env (m - 1) (skip r)) ∙ sym (literal_read s r h ∙ rw g refl)
