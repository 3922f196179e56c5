-- The keywords are the reserved words, and each of them is a name.
use Rattle.std.proofs.Common.{◌≡◌, ℕ, Bool, true, false, cond, ◌||◌, List, [], ◌∷◌, map, Option, Some, None, IsTrue, refl, codes}
use Rattle.std.specs.List.{list_any, list_all}
use Rattle.std.proofs.lemmas.Bool.{and_parts, eqb-true}
use Rattle.sno_pattern.specs.Identifiers.{is_name, is_letter, is_name_char, is_reserved, same}
use Rattle.sno_read.specs.declared.keywords.Word.TheVariants as word
use Rattle.sno_read.specs.declared.keywords.NumberCall.TheVariants as number
use Rattle.sno_read.specs.declared.keywords.SetCall.TheVariants as set
use Rattle.sno_read.specs.declared.keywords.Keyword.{Keyword}
use Rattle.sno_read.specs.declared.keywords.Keyword.TheVariants.{Primitive, Counted, Chosen, Repeated}
use Rattle.sno_read.specs.Keywords.{keyword_of, call_of}

-- the keywords as a table
abbrev table : List (List ℕ × Keyword)
table =
    (codes "ARB", Primitive word.Arb) ∷ (codes "BAL", Primitive word.Bal) ∷ (codes "REM", Primitive word.Rem)
    ∷ (codes "FENCE", Primitive word.Fence) ∷ (codes "ABORT", Primitive word.Abort) ∷ (codes "FAIL", Primitive word.Fail)
    ∷ (codes "LEN", Counted number.Len) ∷ (codes "POS", Counted number.Pos) ∷ (codes "RPOS", Counted number.Rpos)
    ∷ (codes "TAB", Counted number.Tab) ∷ (codes "RTAB", Counted number.Rtab)
    ∷ (codes "ANY", Chosen set.AnyOf) ∷ (codes "NOTANY", Chosen set.NoneOf) ∷ (codes "SPAN", Chosen set.Span) ∷ (codes "BREAK", Chosen set.Break)
    ∷ (codes "ARBNO", Repeated) ∷ []

abbrev look_up : List ℕ → List (List ℕ × Keyword) → Option Keyword
look_up w [] = None
look_up w (e ∷ es) = cond (same w e.0) (Some e.1) (look_up w es)

abbrev words_of : List (List ℕ × Keyword) → List (List ℕ)
words_of es = map (λ (e : List ℕ × Keyword). e.0) es

table_keyword : (w : List ℕ) → keyword_of w ≡ look_up w table
unfolding keyword_of call_of
table_keyword w = refl

table_reserved : (w : List ℕ) → is_reserved w ≡ list_any (same w) (words_of table)
unfolding is_reserved
table_reserved w = refl

none_more : (v : Bool) (k : Keyword) (o : Option Keyword) (rest : Bool) → (o ≡ None → rest ≡ false) → cond v (Some k) o ≡ None → (v || rest) ≡ false
none_more true k o rest more h = cc
none_more false k o rest more h = more h

none_listed : (w : List ℕ) (es : List (List ℕ × Keyword)) → look_up w es ≡ None → list_any (same w) (words_of es) ≡ false
none_listed w [] h = refl
none_listed w (e ∷ es) h = none_more (same w e.0) e.1 (look_up w es) (list_any (same w) (words_of es)) (none_listed w es) h

-- what isn't a keyword isn't reserved
pub reserved_not : (w : List ℕ) → keyword_of w ≡ None → is_reserved w ≡ false
reserved_not w h = rw (table_reserved w) (none_listed w table (rw (table_keyword w) at h))

listed_more : (v : Bool) (k : Keyword) (o : Option Keyword) (rest : Bool) → (rest ≡ false → o ≡ None) → (v || rest) ≡ false → cond v (Some k) o ≡ None
listed_more true k o rest more h = cc
listed_more false k o rest more h = more h

listed_none : (w : List ℕ) (es : List (List ℕ × Keyword)) → list_any (same w) (words_of es) ≡ false → look_up w es ≡ None
listed_none w [] h = refl
listed_none w (e ∷ es) h = listed_more (same w e.0) e.1 (look_up w es) (list_any (same w) (words_of es)) (listed_none w es) h

-- what isn't reserved isn't a keyword
pub keyword_none : (w : List ℕ) → is_reserved w ≡ false → keyword_of w ≡ None
keyword_none w h = rw (table_keyword w) (listed_none w table (rw (table_reserved w) at h))

-- texts with the same characters are equal
same_list : (x y : List ℕ) → same x y ≡ true → x ≡ y
same_list [] [] h = refl
same_list [] (b ∷ y) h = cc
same_list (a ∷ x) [] h = cc
same_list (a ∷ x) (b ∷ y) h =
    let p = and_parts _ _ h in
    let e = eqb-true a b p.0 in
    let i = same_list x y p.1 in
    cc

name_more : (w x : List ℕ) (k j : Keyword) (o : Option Keyword) (v : Bool) → same w x ≡ v → IsTrue (is_name x) → (o ≡ Some k → IsTrue (is_name w)) → cond v (Some j) o ≡ Some k → IsTrue (is_name w)
name_more w x k j o true e n more h = rw (same_list w x e) n
name_more w x k j o false e n more h = more h

name_listed : (w : List ℕ) (k : Keyword) (es : List (List ℕ × Keyword)) → IsTrue (list_all is_name (words_of es)) → look_up w es ≡ Some k → IsTrue (is_name w)
name_listed w k [] a h = cc
name_listed w k (e ∷ es) a h =
    let p = and_parts (is_name e.0) (list_all is_name (words_of es)) a in
    name_more w e.0 k e.1 (look_up w es) (same w e.0) refl p.0 (name_listed w k es p.1) h

words_are_names : IsTrue (list_all is_name (words_of table))
unfolding is_letter is_name_char
words_are_names = refl

-- a keyword is a name
pub keyword_name : (w : List ℕ) (k : Keyword) → keyword_of w ≡ Some k → IsTrue (is_name w)
keyword_name w k h = name_listed w k table words_are_names (rw (table_keyword w) at h)
