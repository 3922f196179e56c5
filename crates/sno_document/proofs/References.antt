-- A pattern that a text spells refers only to definitions.
use Rattle.std.proofs.Common.{◌≡◌, ℕ, true, List, length, Some, refl, IsTrue, arith}
use Rattle.std.proofs.lemmas.Bool.{and_from, lt-ltb}
use Rattle.sno_pattern.specs.Tree.{Tree, refs_below}
use Rattle.sno_pattern.specs.Identifiers.{same}
use Rattle.sno_pattern.specs.NameList.{place_of}
use Rattle.sno_read.specs.Grammar.{IsElement, IsItem, IsConcatenation, IsAlternation, IsSetOfDocument, IsSetOfRule, Spells, SpellsRule}
use Rattle.sno_read.specs.Keywords.{word_tree, number_tree, set_tree}
use Rattle.sno_read.specs.declared.keywords.Word.{Word}
use Rattle.sno_read.specs.declared.keywords.Word.TheVariants as words
use Rattle.sno_read.specs.declared.keywords.NumberCall.{NumberCall}
use Rattle.sno_read.specs.declared.keywords.NumberCall.TheVariants as numbers
use Rattle.sno_read.specs.declared.keywords.SetCall.{SetCall}
use Rattle.sno_read.specs.declared.keywords.SetCall.TheVariants as sets
use Rattle.sno_document.proofs.PlaceLemmas.{position_inside}

word_covered : (n : ℕ) (w : Word) → refs_below n (word_tree w) ≡ true
word_covered n words.Arb = refl
word_covered n words.Bal = refl
word_covered n words.Rem = refl
word_covered n words.Fence = refl
word_covered n words.Abort = refl
word_covered n words.Fail = refl

number_covered : (n : ℕ) (call : NumberCall) (m : ℕ) → refs_below n (number_tree call m) ≡ true
number_covered n numbers.Len m = refl
number_covered n numbers.Pos m = refl
number_covered n numbers.Rpos m = refl
number_covered n numbers.Tab m = refl
number_covered n numbers.Rtab m = refl

set_covered : (n : ℕ) (call : SetCall) (s : List ℕ) → refs_below n (set_tree call s) ≡ true
set_covered n sets.AnyOf s = refl
set_covered n sets.NoneOf s = refl
set_covered n sets.Span s = refl
set_covered n sets.Break s = refl

module _ (IsSet : List ℕ → List ℕ → Type 0) (names : List (List ℕ)) (earlier : ℕ) where
  place_covered : (w : List ℕ) (i : ℕ) → place_of names w ≡ Some i → refs_below (length names) (Tree.Ref i) ≡ true
  place_covered w i h = lt-ltb i (length names) (let m = position_inside (same w) 0 i names h in omega arith)

  mutual
    element_covered : {k : ℕ} {x : List ℕ} {t : Tree} → IsElement IsSet names earlier k x t → refs_below (length names) t ≡ true
    element_covered (IsElement.quoted x s l) = refl
    element_covered (IsElement.cursor v h) = refl
    element_covered (IsElement.starred w i h g) = place_covered w i g
    element_covered (IsElement.plain w i h g p e) = place_covered w i p
    element_covered (IsElement.word w it h) = word_covered (length names) it
    element_covered (IsElement.counted w b ds c call n h g d e) = number_covered (length names) call n
    element_covered (IsElement.chosen w b x s c call h g is e) = set_covered (length names) call s
    element_covered (IsElement.repeated w b x c t h g a e) = alternation_covered a
    element_covered (IsElement.group b x c t g a e) = alternation_covered a

    item_covered : {k : ℕ} {x : List ℕ} {t : Tree} → IsItem IsSet names earlier k x t → refs_below (length names) t ≡ true
    item_covered (IsItem.element x t e) = element_covered e
    item_covered (IsItem.later x b c v t i g h w) = item_covered i
    item_covered (IsItem.at_once x b c v t i g h w) = item_covered i

    concatenation_covered : {k : ℕ} {x : List ℕ} {t : Tree} → IsConcatenation IsSet names earlier k x t → refs_below (length names) t ≡ true
    concatenation_covered (IsConcatenation.single x t i) = item_covered i
    concatenation_covered (IsConcatenation.followed x b y t u i g c) = and_from _ _ (item_covered i) (concatenation_covered c)

    alternation_covered : {k : ℕ} {x : List ℕ} {t : Tree} → IsAlternation IsSet names earlier k x t → refs_below (length names) t ≡ true
    alternation_covered (IsAlternation.only x t c) = concatenation_covered c
    alternation_covered (IsAlternation.otherwise x b c y t u p g h a) = and_from _ _ (concatenation_covered p) (alternation_covered a)

-- each reference of a pattern that a text spells is to a definition
pub spelled_covered : (names : List (List ℕ)) (earlier : ℕ) (text : List ℕ) (t : Tree) → Spells names earlier text t → IsTrue (refs_below (length names) t)
spelled_covered names earlier text t s = alternation_covered IsSetOfDocument names earlier s.alternation

pub rule_covered : (names : List (List ℕ)) (earlier : ℕ) (text : List ℕ) (t : Tree) → SpellsRule names earlier text t → IsTrue (refs_below (length names) t)
rule_covered names earlier text t s = alternation_covered IsSetOfRule names earlier s.alternation
