-- Sets are read as they are spelled.
use Rattle.std.proofs.Common.{◌≡◌, ℕ, zero, suc, ◌-◌, ◌<◌, true, false, ◌&&◌, List, [], ◌∷◌, ◌++◌, length, nat_eq, Ok, IsTrue, refl, ap, ◌∙◌, arith, append_assoc, length-append}
use Rattle.std.proofs.lemmas.Bool.{ne_eqb}
use Rattle.sno_pattern.proofs.TextLemmas.{none_non_ascii}
use Rattle.sno_read.specs.declared.faults.ReadFault.TheVariants as fault
use Rattle.sno_read.specs.Gives.{◌>>=◌}
use Rattle.sno_read.specs.Characters.{is_blank, is_quote, begins, goes_on}
use Rattle.sno_read.specs.Grammar.{AreBlanks, SomeBlanks, IsLiteral, AreLiterals, IsSetOfRule}
use Rattle.sno_read.specs.Grammar as grammar
use Rattle.sno_read.specs.Reading.{Env, place, ascii_literal_at, literals_by, literals_at, unless_empty, set_at}
use Rattle.sno_read.proofs.Ascii.{AreAscii, ascii_front, ascii_behind}
use Rattle.sno_read.proofs.Marks.{Starts, quote_start, literal_starts, blanks_begin, skip_blanks}
use Rattle.sno_read.proofs.Results.{if_false, if_true}
use Rattle.sno_read.proofs.TokensAgain.{literal_again}

-- the argument of a set begins with a quote, and is read before blanks and a closing parenthesis
abbrev pub SetsAgain : (List ℕ → List ℕ → Type 0) → Env → Type 0
SetsAgain IsSet env = ((x s : List ℕ) → IsSet x s → Starts x) × ((x s c r : List ℕ) → IsSet x s → AreBlanks c → set_at env (x ++ (c ++ (41 ∷ r))) ≡ Ok (s, c ++ (41 ∷ r)))

-- the argument of a set of a document whose text is ASCII
abbrev pub IsAsciiSet : List ℕ → List ℕ → Type 0
IsAsciiSet x s = IsLiteral x s × (0 < length s) × AreAscii s

ascii_literal_again : (env : Env) (x s r : List ℕ) → IsLiteral x s → AreAscii s → ascii_literal_at env (x ++ r) ≡ Ok (s, r)
unfolding ascii_literal_at
ascii_literal_again env x s r l a = rw (literal_again env x s r l, none_non_ascii s a) refl

pub literals_step : (env : Env) (n : ℕ) (text : List ℕ) (m : ℕ) → m < n → literals_at env n text ≡ (ascii_literal_at env text >>= λ s. literals_by (literals_at env (n - 1)) s (goes_on s.1))
unfolding literals_at
literals_step env zero text m h = absurd (omega arith)
literals_step env (suc n) text m h = let e : suc n - 1 ≡ n = omega arith in rw e refl

-- a text that begins with a quote
abbrev Quote : List ℕ → Type 0
Quote x = (c : ℕ) × IsTrue (is_quote c) × (cs : List ℕ) × (x ≡ c ∷ cs)

literals_quote : (x s : List ℕ) → AreLiterals x s → Quote x
literals_quote x s (grammar.one y u l) = (l.quote, l.is_quote, u ++ (l.quote ∷ []), l.spelled)
literals_quote x s (grammar.another y b z u v l bb r) = (l.quote, l.is_quote, (u ++ (l.quote ∷ [])) ++ (b ++ z), ap (λ k. k ++ (b ++ z)) l.spelled)

quote_starts : (x : List ℕ) → Quote x → Starts x
quote_starts x q = (q.0, quote_start q.0 q.1, q.2, q.3)

quote_no_blank : (x r : List ℕ) → Quote x → begins is_blank (x ++ r) ≡ false
quote_no_blank x r q = rw q.3 (quote_start q.0 q.1).no_blank

stops_at_closing : (c r : List ℕ) → AreBlanks c → goes_on (c ++ (41 ∷ r)) ≡ false
unfolding goes_on
stops_at_closing [] r h = refl
stops_at_closing (d ∷ c) r h = ap (λ l. begins is_blank ((d ∷ c) ++ (41 ∷ r)) && begins is_quote l) (skip_blanks (d ∷ c) (41 ∷ r) h refl) ∙ rw (blanks_begin (d ∷ c) (41 ∷ r) (h, omega arith)) refl

goes_on_quote : (b x r : List ℕ) → SomeBlanks b → Quote x → goes_on (b ++ (x ++ r)) ≡ true
unfolding goes_on
goes_on_quote b x r h q = rw (blanks_begin b (x ++ r) h, skip_blanks b (x ++ r) h.0 (quote_no_blank x r q), q.3, q.1) refl

literals_again : (env : Env) (x s : List ℕ) → AreLiterals x s → AreAscii s → (c r : List ℕ) → AreBlanks c → (n : ℕ) → length x < n → literals_at env n (x ++ (c ++ (41 ∷ r))) ≡ Ok (s, c ++ (41 ∷ r))
literals_again env x s (grammar.one y u l) a c r cb n h =
    literals_step env n (y ++ (c ++ (41 ∷ r))) _ h ∙ rw (ascii_literal_again env y u (c ++ (41 ∷ r)) l a, stops_at_closing c r cb) refl
literals_again env x s (grammar.another y b z u v l bb j) a c r cb n h =
    let q = literals_quote z v j in
    let starts = literal_starts y u l in
    let split : (y ++ (b ++ z)) ++ (c ++ (41 ∷ r)) ≡ y ++ (b ++ (z ++ (c ++ (41 ∷ r)))) = append_assoc y (b ++ z) (c ++ (41 ∷ r)) ∙ ap (λ k. y ++ k) (append_assoc b z (c ++ (41 ∷ r))) in
    let less : length z < n - 1 = omega (arith, h, length-append y (b ++ z), length-append b z, bb.1) in
    ap (λ k. literals_at env n k) split ∙ literals_step env n (y ++ (b ++ (z ++ (c ++ (41 ∷ r))))) _ h
    ∙ rw (ascii_literal_again env y u (b ++ (z ++ (c ++ (41 ∷ r)))) l (ascii_front u v a), goes_on_quote b z (c ++ (41 ∷ r)) bb q, skip_blanks b (z ++ (c ++ (41 ∷ r))) bb.0 (quote_no_blank z (c ++ (41 ∷ r)) q), literals_again env z v j (ascii_behind u v a) c r cb (n - 1) less) refl

pub document_sets_again : (env : Env) → env.in_rule ≡ false → SetsAgain IsAsciiSet env
unfolding set_at
document_sets_again env document = (
  λ x s l. literal_starts x s l.0,
  λ x s c r l cb.
      let some : nat_eq (length s) 0 ≡ false = ne_eqb (length s) 0 (λ e. omega (arith, l.1)) in
      ap (λ v. v >>= unless_empty (fault.EmptySet (place env (x ++ (c ++ (41 ∷ r)))))) (if_false env.in_rule _ _ document) ∙ rw (ascii_literal_again env x s (c ++ (41 ∷ r)) l.0 l.2, some) refl,
)

pub rule_sets_again : (env : Env) → env.in_rule ≡ true → SetsAgain IsSetOfRule env
unfolding set_at
rule_sets_again env rule = (
  λ x s l. quote_starts x (literals_quote x s l.literals),
  λ x s c r l cb.
      let some : nat_eq (length s) 0 ≡ false = ne_eqb (length s) 0 (λ e. omega (arith, l.some)) in
      let long : length x < suc (length (x ++ (c ++ (41 ∷ r)))) = omega (arith, length-append x (c ++ (41 ∷ r))) in
      ap (λ v. v >>= unless_empty (fault.EmptySet (place env (x ++ (c ++ (41 ∷ r)))))) (if_true env.in_rule _ _ rule) ∙ rw (literals_again env x s l.literals l.ascii c r cb (suc (length (x ++ (c ++ (41 ∷ r))))) long, some) refl,
)
