-- In a document, whose text is ASCII, the sets are ASCII.
use Rattle.std.proofs.Common.{◌≡◌, ℕ, zero, suc, List, [], ◌∷◌, ◌++◌, refl, subst, arith}
use Rattle.std.specs.List.{list_all}
use Rattle.std.specs.Char.{is_ascii}
use Rattle.std.proofs.lemmas.Bool.{and_parts}
use Rattle.sno_pattern.specs.Tree.{Tree}
use Rattle.sno_read.specs.Grammar.{IsLiteral, IsSetOfDocument, parenthesized, signed_by, IsElement, IsItem, IsConcatenation, IsAlternation}
use Rattle.sno_read.specs.Grammar as grammar
use Rattle.sno_read.proofs.Ascii.{AreAscii, ascii_front, ascii_behind}
use Rattle.sno_read.proofs.SetsAgain.{IsAsciiSet}

pub ascii_after : (c : ℕ) (x : List ℕ) → AreAscii (c ∷ x) → AreAscii x
ascii_after c x h = (and_parts (is_ascii c) (list_all is_ascii x) h).1

pub literal_content : (x s : List ℕ) → IsLiteral x s → AreAscii x → AreAscii s
literal_content x s l a = ascii_front s (l.quote ∷ []) (ascii_after l.quote (s ++ (l.quote ∷ [])) (subst (λ y. AreAscii y) l.spelled a))

-- what is in parentheses after a name, and alone
in_parens : (b x c : List ℕ) → AreAscii (parenthesized b x c) → AreAscii x
in_parens b x c a = ascii_front x (c ++ (41 ∷ [])) (ascii_behind b (x ++ (c ++ (41 ∷ []))) (ascii_after 40 (b ++ (x ++ (c ++ (41 ∷ [])))) a))

in_call : (w b x c : List ℕ) → AreAscii (w ++ parenthesized b x c) → AreAscii x
in_call w b x c a = in_parens b x c (ascii_behind w (parenthesized b x c) a)

after_blanks : (x b y : List ℕ) → AreAscii (x ++ (b ++ y)) → AreAscii y
after_blanks x b y a = ascii_behind b y (ascii_behind x (b ++ y) a)

after_sign : (x : List ℕ) (sign : ℕ) (b c y : List ℕ) → AreAscii (x ++ signed_by sign b c y) → AreAscii y
after_sign x sign b c y a = ascii_behind c y (ascii_after sign (c ++ y) (ascii_behind b (sign ∷ (c ++ y)) (ascii_behind x (signed_by sign b c y) a)))

module _ (names : List (List ℕ)) (earlier : ℕ) where
  abbrev Strengthens : ℕ → Type 0
  Strengthens k = (x : List ℕ) (t : Tree) → AreAscii x → IsAlternation IsSetOfDocument names earlier k x t → IsAlternation IsAsciiSet names earlier k x t

  -- what is one parenthesis deeper
  abbrev Deeper : ℕ → Type 0
  Deeper k = (j : ℕ) → k ≡ suc j → Strengthens j

  element_ascii : (k : ℕ) → Deeper k → (x : List ℕ) (t : Tree) → AreAscii x → IsElement IsSetOfDocument names earlier k x t → IsElement IsAsciiSet names earlier k x t
  element_ascii k deeper x t a (grammar.quoted y s l) = grammar.quoted y s l
  element_ascii k deeper x t a (grammar.cursor v i) = grammar.cursor v i
  element_ascii k deeper x t a (grammar.starred w i n e) = grammar.starred w i n e
  element_ascii k deeper x t a (grammar.plain w i n r e l) = grammar.plain w i n r e l
  element_ascii k deeper x t a (grammar.word w it e) = grammar.word w it e
  element_ascii k deeper x t a (grammar.counted w b ds c call n e bb d cb) = grammar.counted w b ds c call n e bb d cb
  element_ascii k deeper x t a (grammar.chosen w b y s c call e bb l cb) = grammar.chosen w b y s c call e bb (l.0, l.1, literal_content y s l.0 (in_call w b y c a)) cb
  element_ascii k deeper x t a (grammar.repeated w b y c u e bb r cb) = grammar.repeated w b y c u e bb (deeper _ refl y u (in_call w b y c a) r) cb
  element_ascii k deeper x t a (grammar.group b y c u bb r cb) = grammar.group b y c u bb (deeper _ refl y u (in_parens b y c a) r) cb

  item_ascii : (k : ℕ) → Deeper k → (x : List ℕ) (t : Tree) → AreAscii x → IsItem IsSetOfDocument names earlier k x t → IsItem IsAsciiSet names earlier k x t
  item_ascii k deeper x t a (grammar.element y u e) = grammar.element y u (element_ascii k deeper y u a e)
  item_ascii k deeper x t a (grammar.later y b c v u i bb cb h) = grammar.later y b c v u (item_ascii k deeper y u (ascii_front y (signed_by 46 b c v) a) i) bb cb h
  item_ascii k deeper x t a (grammar.at_once y b c v u i bb cb h) = grammar.at_once y b c v u (item_ascii k deeper y u (ascii_front y (signed_by 36 b c v) a) i) bb cb h

  concatenation_ascii : (k : ℕ) → Deeper k → (x : List ℕ) (t : Tree) → AreAscii x → IsConcatenation IsSetOfDocument names earlier k x t → IsConcatenation IsAsciiSet names earlier k x t
  concatenation_ascii k deeper x t a (grammar.single y u i) = grammar.single y u (item_ascii k deeper y u a i)
  concatenation_ascii k deeper x t a (grammar.followed y b z u v i bb r) = grammar.followed y b z u v (item_ascii k deeper y u (ascii_front y (b ++ z) a) i) bb (concatenation_ascii k deeper z v (after_blanks y b z a) r)

  parts_ascii : (k : ℕ) → Deeper k → Strengthens k
  parts_ascii k deeper x t a (grammar.only y u i) = grammar.only y u (concatenation_ascii k deeper y u a i)
  parts_ascii k deeper x t a (grammar.otherwise y b c z u v i bb cb r) = grammar.otherwise y b c z u v (concatenation_ascii k deeper y u (ascii_front y (signed_by 124 b c z) a) i) bb cb (parts_ascii k deeper z v (after_sign y 124 b c z a) r)

  pub alternation_ascii : (k : ℕ) → Strengthens k
  alternation_ascii zero = parts_ascii zero (λ j e. absurd (omega arith))
  alternation_ascii (suc k) = parts_ascii (suc k) (λ j e. let same : k ≡ j = omega arith in subst (λ i. Strengthens i) same (alternation_ascii k))
