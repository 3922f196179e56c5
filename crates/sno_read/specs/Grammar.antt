-- The grammar of patterns: which texts spell which trees. A text is joined from parts; k is how many parentheses may be open
-- inside one. Above each constructor is a line of the grammar: in it _ means one or more blanks, and ~ none or more.
use Rattle.std.specs.Prelude.{◌≡◌, ℕ, suc, ◌+◌, ◌-◌, ◌*◌, ◌≤◌, ◌<◌, false, List, [], ◌∷◌, ◌++◌, length, Some, None, IsTrue}
use Rattle.std.specs.List.{list_all}
use Rattle.std.specs.Char.{is_ascii, is_ascii_digit}
use Rattle.sno_pattern.specs.Identifiers.{is_name, is_reserved}
use Rattle.sno_pattern.specs.NameList.{place_of}
use Rattle.sno_pattern.specs.Tree.{Tree, Lit, At, Ref, Arbno, Seq, Alt, Cond, Imm}
use Rattle.sno_read.specs.declared.keywords.Word.{Word}
use Rattle.sno_read.specs.declared.keywords.NumberCall.{NumberCall}
use Rattle.sno_read.specs.declared.keywords.SetCall.{SetCall}
use Rattle.sno_read.specs.declared.keywords.Keyword.TheVariants.{Primitive, Counted, Chosen, Repeated}
use Rattle.sno_read.specs.Signs.{open_parenthesis, close_parenthesis, asterisk, period, dollar, at_sign, bar, digit_zero}
use Rattle.sno_read.specs.Characters.{is_blank, is_quote, is_other}
use Rattle.sno_read.specs.Depth.{depth}
use Rattle.sno_read.specs.Keywords.{keyword_of, word_tree, number_tree, set_tree}
use Rattle.sno_read.specs.declared.characters.TheConstants.{MAX_NUMBER}
use Rattle.sno_read.specs.declared.reading.TheConstants.{MAX_WRITTEN, MAX_OPEN, MAX_DEPTH}

-- blanks, or nothing
abbrev pub AreBlanks : List ℕ → Type 0
AreBlanks b = IsTrue (list_all is_blank b)

-- at least one blank, and nothing else
abbrev pub SomeBlanks : List ℕ → Type 0
SomeBlanks b = AreBlanks b × (0 < length b)

-- the value of further digits after digits of value n
abbrev pub decimal : ℕ → List ℕ → ℕ
decimal n [] = n
decimal n (d ∷ ds) = decimal (n * 10 + (d - digit_zero)) ds

-- digits that spell the number
pub record IsNumber (digits : List ℕ) (n : ℕ) : Type 0 where
  pub some : 0 < length digits
  pub all_digits : IsTrue (list_all is_ascii_digit digits)
  pub value : decimal 0 digits ≡ n
  pub small : n ≤ MAX_NUMBER

-- quotes of one kind, with these characters inside
pub record IsLiteral (text characters : List ℕ) : Type 0 where
  pub quote : ℕ
  pub is_quote : IsTrue (is_quote quote)
  pub others : IsTrue (list_all (is_other quote) characters)
  pub spelled : text ≡ quote ∷ (characters ++ (quote ∷ []))

-- a name that is not reserved, and not a definition's name
pub record IsVariable (names : List (List ℕ)) (name : List ℕ) : Type 0 where
  pub is_name : IsTrue (is_name name)
  pub not_reserved : is_reserved name ≡ false
  pub no_definition : place_of names name ≡ None

-- x in parentheses, with blanks inside them
abbrev pub parenthesized : List ℕ → List ℕ → List ℕ → List ℕ
parenthesized b x c = open_parenthesis ∷ (b ++ (x ++ (c ++ (close_parenthesis ∷ []))))

-- a sign between blanks, and a variable
abbrev pub signed_by : ℕ → List ℕ → List ℕ → List ℕ → List ℕ
signed_by sign b c v = b ++ (sign ∷ (c ++ v))

-- the argument of a set in a document: a literal that isn't empty
abbrev pub IsSetOfDocument : List ℕ → List ℕ → Type 0
IsSetOfDocument x s = IsLiteral x s × (0 < length s)

-- literals with blanks between them, joined
pub data AreLiterals : List ℕ → List ℕ → Type 0 where
  -- literals: literal
  one : (x s : List ℕ) → IsLiteral x s → AreLiterals x s
  -- literals: literal _ literals
  another : (x b y s u : List ℕ) → IsLiteral x s → SomeBlanks b → AreLiterals y u → AreLiterals (x ++ (b ++ y)) (s ++ u)

-- the argument of a set in a rule: literals of ASCII characters, not all of them empty
pub record IsSetOfRule (text members : List ℕ) : Type 0 where
  pub literals : AreLiterals text members
  pub some : 0 < length members
  pub ascii : IsTrue (list_all is_ascii members)

-- what is the argument of a set is said by `IsSet`
module _ (IsSet : List ℕ → List ℕ → Type 0) (names : List (List ℕ)) (earlier : ℕ) where
  mutual
    pub data IsElement : ℕ → List ℕ → Tree → Type 0 where
      -- element: literal
      quoted : {k : ℕ} (x s : List ℕ) → IsLiteral x s → IsElement k x (Lit s)
      -- element: @variable
      cursor : {k : ℕ} (v : List ℕ) → IsVariable names v → IsElement k (at_sign ∷ v) (At v)
      -- element: *definition
      starred : {k : ℕ} (w : List ℕ) (i : ℕ) → IsTrue (is_name w) → place_of names w ≡ Some i → IsElement k (asterisk ∷ w) (Ref i)
      -- element: definition, one of the earlier ones
      plain : {k : ℕ} (w : List ℕ) (i : ℕ) → IsTrue (is_name w) → is_reserved w ≡ false → place_of names w ≡ Some i → i < earlier → IsElement k w (Ref i)
      -- element: ARB, BAL, REM, FENCE, ABORT or FAIL
      word : {k : ℕ} (w : List ℕ) (it : Word) → keyword_of w ≡ Some (Primitive it) → IsElement k w (word_tree it)
      -- element: LEN(~ number ~), and likewise POS, RPOS, TAB, RTAB
      counted : {k : ℕ} (w b ds c : List ℕ) (call : NumberCall) (n : ℕ) → keyword_of w ≡ Some (Counted call) → AreBlanks b → IsNumber ds n → AreBlanks c → IsElement (suc k) (w ++ parenthesized b ds c) (number_tree call n)
      -- element: ANY(~ set ~), and likewise NOTANY, SPAN, BREAK
      chosen : {k : ℕ} (w b x s c : List ℕ) (call : SetCall) → keyword_of w ≡ Some (Chosen call) → AreBlanks b → IsSet x s → AreBlanks c → IsElement (suc k) (w ++ parenthesized b x c) (set_tree call s)
      -- element: ARBNO(~ alternation ~)
      repeated : {k : ℕ} (w b x c : List ℕ) (t : Tree) → keyword_of w ≡ Some Repeated → AreBlanks b → IsAlternation k x t → AreBlanks c → IsElement (suc k) (w ++ parenthesized b x c) (Arbno t)
      -- element: (~ alternation ~)
      group : {k : ℕ} (b x c : List ℕ) (t : Tree) → AreBlanks b → IsAlternation k x t → AreBlanks c → IsElement (suc k) (parenthesized b x c) t

    pub data IsItem : ℕ → List ℕ → Tree → Type 0 where
      -- item: element
      element : {k : ℕ} (x : List ℕ) (t : Tree) → IsElement k x t → IsItem k x t
      -- item: item _ . _ variable
      later : {k : ℕ} (x b c v : List ℕ) (t : Tree) → IsItem k x t → SomeBlanks b → SomeBlanks c → IsVariable names v → IsItem k (x ++ signed_by period b c v) (Cond t v)
      -- item: item _ $ _ variable
      at_once : {k : ℕ} (x b c v : List ℕ) (t : Tree) → IsItem k x t → SomeBlanks b → SomeBlanks c → IsVariable names v → IsItem k (x ++ signed_by dollar b c v) (Imm t v)

    pub data IsConcatenation : ℕ → List ℕ → Tree → Type 0 where
      -- concatenation: item
      single : {k : ℕ} (x : List ℕ) (t : Tree) → IsItem k x t → IsConcatenation k x t
      -- concatenation: item _ concatenation
      followed : {k : ℕ} (x b y : List ℕ) (t u : Tree) → IsItem k x t → SomeBlanks b → IsConcatenation k y u → IsConcatenation k (x ++ (b ++ y)) (Seq t u)

    pub data IsAlternation : ℕ → List ℕ → Tree → Type 0 where
      -- alternation: concatenation
      only : {k : ℕ} (x : List ℕ) (t : Tree) → IsConcatenation k x t → IsAlternation k x t
      -- alternation: concatenation _ | _ alternation
      otherwise : {k : ℕ} (x b c y : List ℕ) (t u : Tree) → IsConcatenation k x t → SomeBlanks b → SomeBlanks c → IsAlternation k y u → IsAlternation k (x ++ signed_by bar b c y) (Alt t u)

-- pattern: ~ alternation ~
-- The text spells the tree: at most 4,096 ASCII characters, an alternation with blanks around it and at most 100 parentheses
-- open at any place, and a tree of depth at most 1,000.
pub record Spells (names : List (List ℕ)) (earlier : ℕ) (text : List ℕ) (tree : Tree) : Type 0 where
  pub short : length text ≤ MAX_WRITTEN
  pub ascii : IsTrue (list_all is_ascii text)
  pub before : List ℕ
  pub inside : List ℕ
  pub after : List ℕ
  pub blank_before : AreBlanks before
  pub alternation : IsAlternation IsSetOfDocument names earlier MAX_OPEN inside tree
  pub blank_after : AreBlanks after
  pub joined : text ≡ before ++ (inside ++ after)
  pub shallow : depth tree ≤ MAX_DEPTH

-- pattern of a rule: ~ alternation ~
-- The text of a rule spells the tree: as `Spells`, but that literals may have any bytes, and that a set may have several.
pub record SpellsRule (names : List (List ℕ)) (earlier : ℕ) (text : List ℕ) (tree : Tree) : Type 0 where
  pub short : length text ≤ MAX_WRITTEN
  pub before : List ℕ
  pub inside : List ℕ
  pub after : List ℕ
  pub blank_before : AreBlanks before
  pub alternation : IsAlternation IsSetOfRule names earlier MAX_OPEN inside tree
  pub blank_after : AreBlanks after
  pub joined : text ≡ before ++ (inside ++ after)
  pub shallow : depth tree ≤ MAX_DEPTH
