-- How texts of the grammar begin, and what may come after them.
use Rattle.std.proofs.Common.{◌≡◌, ℕ, ◌<◌, ◌≤◌, Bool, true, false, ◌⊎◌, inl, inr, List, [], ◌∷◌, ◌++◌, nat_eq, IsTrue, refl, sym, ap, ◌∙◌, arith, append-nil}
use Rattle.std.specs.List.{list_all}
use Rattle.std.specs.Char.{is_ascii_digit}
use Rattle.std.proofs.lemmas.Bool.{and_parts, ne_eqb}
use Rattle.std.proofs.lemmas.Bool.Decides.{nat_tests}
use Rattle.sno_pattern.specs.Identifiers.{is_letter, is_name_char, is_name}
use Rattle.sno_pattern.specs.Tree.{Tree}
use Rattle.sno_read.specs.declared.characters.Start.TheVariants as start
use Rattle.sno_read.specs.declared.characters.Following.TheVariants as follows
use Rattle.sno_read.specs.Characters.{is_blank, is_quote, skip, begins, start_of, what_follows, sign_of}
use Rattle.sno_read.specs.Grammar.{AreBlanks, SomeBlanks, IsLiteral, parenthesized, signed_by, IsElement, IsItem, IsConcatenation, IsAlternation}
use Rattle.sno_read.specs.Grammar as grammar
use Rattle.sno_read.proofs.Fronts.{behind_run}
use Rattle.sno_read.proofs.Reserved.{keyword_name}

-- a letter is between A and z
letter_range : (c : ℕ) → is_letter c ≡ true → (65 ≤ c) × (c ≤ 122)
unfolding is_letter
letter_range c h = grind (arith, nat_tests)

blank_cases : (c : ℕ) → is_blank c ≡ true → (c ≡ 32) ⊎ (c ≡ 9)
blank_cases c h = grind (arith, nat_tests)

quote_cases : (c : ℕ) → is_quote c ≡ true → (c ≡ 39) ⊎ (c ≡ 34)
quote_cases c h = grind (arith, nat_tests)

no_blank_from : (c : ℕ) → 32 < c → is_blank c ≡ false
no_blank_from c h = grind (arith, nat_tests)

-- a character that begins an element
pub record IsStart (c : ℕ) : Type 0 where
  pub no_blank : is_blank c ≡ false
  pub no_closing : nat_eq c 41 ≡ false
  pub no_dot : nat_eq c 46 ≡ false
  pub no_dollar : nat_eq c 36 ≡ false
  pub no_bar : nat_eq c 124 ≡ false

letter_start : (c : ℕ) → is_letter c ≡ true → IsStart c
letter_start c h =
    let r = letter_range c h in
    record {
      no_blank = no_blank_from c (omega (arith, r.0));
      no_closing = ne_eqb c 41 (λ e. omega (arith, r.0));
      no_dot = ne_eqb c 46 (λ e. omega (arith, r.0));
      no_dollar = ne_eqb c 36 (λ e. omega (arith, r.0));
      no_bar = ne_eqb c 124 (λ e. omega (arith, r.1));
    }

pub quote_start : (c : ℕ) → is_quote c ≡ true → IsStart c
quote_start c h = by_case (quote_cases c h)
  where
    by_case : (c ≡ 39) ⊎ (c ≡ 34) → IsStart c
    by_case (inl e) = rw e (record { no_blank = refl; no_closing = refl; no_dot = refl; no_dollar = refl; no_bar = refl })
    by_case (inr e) = rw e (record { no_blank = refl; no_closing = refl; no_dot = refl; no_dollar = refl; no_bar = refl })

-- a text that begins with such a character
abbrev pub Starts : List ℕ → Type 0
Starts x = (c : ℕ) × IsStart c × (cs : List ℕ) × (x ≡ c ∷ cs)

pub starts_more : (x y : List ℕ) → Starts x → Starts (x ++ y)
starts_more x y s = (s.0, s.1, s.2 ++ y, ap (λ l. l ++ y) s.3)

pub name_starts : (w : List ℕ) → IsTrue (is_name w) → (c : ℕ) × (is_letter c ≡ true) × (cs : List ℕ) × (w ≡ c ∷ cs)
name_starts [] h = cc
name_starts (c ∷ cs) h = (c, (and_parts (is_letter c) _ h).0, cs, refl)

pub named_starts : (w : List ℕ) → IsTrue (is_name w) → Starts w
named_starts w h = let n = name_starts w h in (n.0, letter_start n.0 n.1, n.2, n.3)

pub literal_starts : (x s : List ℕ) → IsLiteral x s → Starts x
literal_starts x s l = (l.quote, quote_start l.quote l.is_quote, s ++ (l.quote ∷ []), l.spelled)

module _ (IsSet : List ℕ → List ℕ → Type 0) (names : List (List ℕ)) (earlier : ℕ) where
  pub element_starts : (k : ℕ) (x : List ℕ) (t : Tree) → IsElement IsSet names earlier k x t → Starts x
  element_starts k x t (grammar.quoted y s l) = literal_starts y s l
  element_starts k x t (grammar.cursor v h) = (64, record { no_blank = refl; no_closing = refl; no_dot = refl; no_dollar = refl; no_bar = refl }, v, refl)
  element_starts k x t (grammar.starred w i n e) = (42, record { no_blank = refl; no_closing = refl; no_dot = refl; no_dollar = refl; no_bar = refl }, w, refl)
  element_starts k x t (grammar.plain w i n r e l) = named_starts w n
  element_starts k x t (grammar.word w it e) = named_starts w (keyword_name w _ e)
  element_starts k x t (grammar.counted w b ds c call n e bb d cb) = starts_more w _ (named_starts w (keyword_name w _ e))
  element_starts k x t (grammar.chosen w b y s c call e bb l cb) = starts_more w _ (named_starts w (keyword_name w _ e))
  element_starts k x t (grammar.repeated w b y c u e bb a cb) = starts_more w _ (named_starts w (keyword_name w _ e))
  element_starts k x t (grammar.group b y c u bb a cb) = (40, record { no_blank = refl; no_closing = refl; no_dot = refl; no_dollar = refl; no_bar = refl }, _, refl)

  pub item_starts : (k : ℕ) (x : List ℕ) (t : Tree) → IsItem IsSet names earlier k x t → Starts x
  item_starts k x t (grammar.element y u e) = element_starts k y u e
  item_starts k x t (grammar.later y b c v u i bb cb h) = starts_more y _ (item_starts k y u i)
  item_starts k x t (grammar.at_once y b c v u i bb cb h) = starts_more y _ (item_starts k y u i)

  pub concatenation_starts : (k : ℕ) (x : List ℕ) (t : Tree) → IsConcatenation IsSet names earlier k x t → Starts x
  concatenation_starts k x t (grammar.single y u i) = item_starts k y u i
  concatenation_starts k x t (grammar.followed y b z u v i bb r) = starts_more y _ (item_starts k y u i)

  pub alternation_starts : (k : ℕ) (x : List ℕ) (t : Tree) → IsAlternation IsSet names earlier k x t → Starts x
  alternation_starts k x t (grammar.only y u i) = concatenation_starts k y u i
  alternation_starts k x t (grammar.otherwise y b c z u v i bb cb r) = starts_more y _ (concatenation_starts k y u i)

-- a text that begins so doesn't begin with a blank, and an item follows
pub starts_no_blank : (x r : List ℕ) → Starts x → begins is_blank (x ++ r) ≡ false
starts_no_blank x r s = rw s.3 s.1.no_blank

pub starts_item : (x r : List ℕ) → Starts x → sign_of (x ++ r) ≡ follows.Item
unfolding sign_of
starts_item x r s = rw (s.3, s.1.no_closing, s.1.no_dot, s.1.no_dollar, s.1.no_bar) refl

-- a text that begins with blanks fails a test that blanks fail
pub blanks_stop : (p : ℕ → Bool) (b r : List ℕ) → p 32 ≡ false → p 9 ≡ false → SomeBlanks b → begins p (b ++ r) ≡ false
blanks_stop p [] r e f h = absurd (omega (arith, h.1))
blanks_stop p (c ∷ b) r e f h = by_case (blank_cases c (and_parts (is_blank c) (list_all is_blank b) h.0).0)
  where
    by_case : (c ≡ 32) ⊎ (c ≡ 9) → p c ≡ false
    by_case (inl g) = rw g e
    by_case (inr g) = rw g f

-- as above, also without blanks if the rest fails the test
pub blanks_or : (p : ℕ → Bool) (b r : List ℕ) → p 32 ≡ false → p 9 ≡ false → AreBlanks b → begins p r ≡ false → begins p (b ++ r) ≡ false
blanks_or p [] r e f h g = g
blanks_or p (c ∷ b) r e f h g = blanks_stop p (c ∷ b) r e f (h, omega arith)

pub blanks_begin : (b r : List ℕ) → SomeBlanks b → begins is_blank (b ++ r) ≡ true
blanks_begin [] r h = absurd (omega (arith, h.1))
blanks_begin (c ∷ b) r h = (and_parts (is_blank c) (list_all is_blank b) h.0).0

pub skip_blanks : (b r : List ℕ) → AreBlanks b → begins is_blank r ≡ false → skip (b ++ r) ≡ r
skip_blanks b r h e = behind_run is_blank b r h e

-- what follows blanks
pub follows_blanks : (b r : List ℕ) → SomeBlanks b → begins is_blank r ≡ false → what_follows (b ++ r) ≡ sign_of r
unfolding what_follows
follows_blanks b r h e = rw (blanks_begin b r h, skip_blanks b r h.0 e) refl

-- blanks and a closing parenthesis, or blanks alone: nothing follows
pub follows_closing : (c r : List ℕ) → AreBlanks c → what_follows (c ++ (41 ∷ r)) ≡ follows.Nothing
unfolding what_follows sign_of
follows_closing [] r h = refl
follows_closing (d ∷ c) r h = follows_blanks (d ∷ c) (41 ∷ r) (h, omega arith) refl

follows_nothing : (c : List ℕ) → AreBlanks c → what_follows (c ++ []) ≡ follows.Nothing
unfolding what_follows sign_of
follows_nothing [] h = refl
follows_nothing (d ∷ c) h = follows_blanks (d ∷ c) [] (h, omega arith) refl

pub follows_end : (c : List ℕ) → AreBlanks c → what_follows c ≡ follows.Nothing
follows_end c h = ap what_follows (sym (append-nil c)) ∙ follows_nothing c h

-- a letter is a character of names
pub letter_in_name : (c : ℕ) → is_letter c ≡ true → is_name_char c ≡ true
unfolding is_letter is_name_char
letter_in_name c h = grind (arith, nat_tests)

-- a letter begins a name
pub letter_begins : (c : ℕ) (r : List ℕ) → is_letter c ≡ true → start_of (c ∷ r) ≡ start.Letter
unfolding start_of
letter_begins c r h =
    let l = letter_range c h in
    let q : is_quote c ≡ false = no_quote c (omega (arith, l.0)) in
    let a : nat_eq c 64 ≡ false = ne_eqb c 64 (λ e. omega (arith, l.0)) in
    let b : nat_eq c 42 ≡ false = ne_eqb c 42 (λ e. omega (arith, l.0)) in
    let d : nat_eq c 40 ≡ false = ne_eqb c 40 (λ e. omega (arith, l.0)) in
    rw (q, a, b, d, h) refl
  where
    no_quote : (c : ℕ) → 39 < c → is_quote c ≡ false
    no_quote c h = grind (arith, nat_tests)

-- a digit isn't a blank
pub digit_no_blank : (c : ℕ) → is_ascii_digit c ≡ true → is_blank c ≡ false
digit_no_blank c h = grind (arith, nat_tests)
