-- The grammar of objects: which texts spell which parts. Above each constructor is a line of the grammar: in it _ means one or
-- more blanks, and ~ none or more.
use Rattle.std.specs.Prelude.{◌≡◌, ℕ, ◌≤◌, List, [], ◌∷◌, ◌++◌, length, IsTrue}
use Rattle.std.specs.List.{list_all}
use Rattle.std.specs.Char.{is_ascii}
use Rattle.sno_read.specs.declared.objects.Part.{Part}
use Rattle.sno_read.specs.declared.objects.Part.TheVariants.{Quoted, Var}
use Rattle.sno_read.specs.Grammar.{AreBlanks, SomeBlanks, IsLiteral, IsVariable}
use Rattle.sno_read.specs.declared.reading.TheConstants.{MAX_WRITTEN}

module _ (names : List (List ℕ)) where
  pub data IsPart : List ℕ → Part → Type 0 where
    -- part: literal
    quoted : (x s : List ℕ) → IsLiteral x s → IsPart x (Quoted s)
    -- part: variable
    variable : (v : List ℕ) → IsVariable names v → IsPart v (Var v)

  -- parts with blanks between them, and any blanks after the last
  pub data AreParts : List ℕ → List Part → Type 0 where
    -- parts: nothing
    none : AreParts [] []
    -- parts: part ~
    last : (x b : List ℕ) (p : Part) → IsPart x p → AreBlanks b → AreParts (x ++ b) (p ∷ [])
    -- parts: part _ parts, with at least one part after the blanks
    more : (x b y : List ℕ) (p q : Part) (ps : List Part) → IsPart x p → SomeBlanks b → AreParts y (q ∷ ps) → AreParts (x ++ (b ++ y)) (p ∷ q ∷ ps)

-- object: ~ parts
-- The text spells the parts: at most 4,096 ASCII characters, and the parts with blanks around them.
pub record SpellsObject (names : List (List ℕ)) (text : List ℕ) (parts : List Part) : Type 0 where
  pub short : length text ≤ MAX_WRITTEN
  pub ascii : IsTrue (list_all is_ascii text)
  pub before : List ℕ
  pub inside : List ℕ
  pub blank_before : AreBlanks before
  pub are_parts : AreParts names inside parts
  pub joined : text ≡ before ++ inside

-- object of a rule: ~ parts
-- The text of a rule spells the parts: as `SpellsObject`, but that literals may have any bytes.
pub record SpellsRuleObject (names : List (List ℕ)) (text : List ℕ) (parts : List Part) : Type 0 where
  pub short : length text ≤ MAX_WRITTEN
  pub before : List ℕ
  pub inside : List ℕ
  pub blank_before : AreBlanks before
  pub are_parts : AreParts names inside parts
  pub joined : text ≡ before ++ inside
