-- Lines and columns, a byte at a time.
use Rattle.std.proofs.Common.{◌≡◌, ◌≤◌, ℕ, ◌+◌, ◌<◌, Bool, true, false, cond, ◌||◌, if◌then◌else◌, List, [], ◌∷◌, ◌++◌, length, take, get_or, refl, ap, sym, ◌∙◌, arith, length-append}
use Rattle.std.proofs.Math.Bool.{or-false}
use Rattle.std.proofs.lemmas.List.{take_more}
use Rattle.std.proofs.lemmas.List.Elements.{filter-append}
use Rattle.std.proofs.lemmas.List.Filters.{length-filter_more}
use Rattle.std.proofs.lemmas.List.Folds.{list_any-append}
use Rattle.std.specs.List.{filter, list_any}
use Rattle.sno_edit.specs.Positions.{begins_character, column_at, last_line, line_at}
use Rattle.sno_edit.specs.Scripts.{is_line_feed}

-- what comes after the last line feed, with one byte more
one_more : (x y : ℕ) (feeds is both : Bool) (t rest line : List ℕ) → both ≡ (feeds || is) → rest ≡ (if is then [] else line ++ x ∷ [])
    → (if both then rest else y ∷ (t ++ x ∷ [])) ≡ (if is then [] else (if feeds then line else y ∷ t) ++ x ∷ [])
one_more x y true is both t rest line h so = ap (λ b. if b then rest else y ∷ (t ++ x ∷ [])) h ∙ so
one_more x y false true both t rest line h so = ap (λ b. if b then rest else y ∷ (t ++ x ∷ [])) h ∙ so
one_more x y false false both t rest line h so = ap (λ b. if b then rest else y ∷ (t ++ x ∷ [])) h

alone : (x : ℕ) (is : Bool) → ◌≡◌ {A = List ℕ} (if is || false then [] else x ∷ []) (if is then [] else x ∷ [])
alone x true = refl
alone x false = refl

pub last_line_more : (text : List ℕ) (x : ℕ) → last_line (text ++ x ∷ []) ≡ (if is_line_feed x then [] else last_line text ++ x ∷ [])
last_line_more [] x = alone x (is_line_feed x)
last_line_more (y ∷ t) x =
    let any = list_any-append is_line_feed (y ∷ t) (x ∷ []) ∙ ap (λ b. list_any is_line_feed (y ∷ t) || b) (or-false (is_line_feed x)) in
    one_more x y (list_any is_line_feed (y ∷ t)) (is_line_feed x) (list_any is_line_feed ((y ∷ t) ++ x ∷ [])) t (last_line (t ++ x ∷ [])) (last_line t) any (last_line_more t x)

-- how many characters begin in it then
begun : (line : List ℕ) (x : ℕ) (begins : Bool) → length (line ++ (if begins then x ∷ [] else [])) + 1 ≡ (if begins then length line + 1 + 1 else length line + 1)
begun line x true = ap (λ n. n + 1) (length-append line (x ∷ []))
begun line x false = ap (λ n. n + 1) (length-append line []) ∙ omega arith

counted : (line : List ℕ) (x : ℕ) (is : Bool)
    → length (filter begins_character (if is then [] else line ++ x ∷ [])) + 1
    ≡ (if is then 1 else (if begins_character x then length (filter begins_character line) + 1 + 1 else length (filter begins_character line) + 1))
counted line x true = refl
counted line x false =
    ap (λ l. length l + 1) (filter-append begins_character line (x ∷ [])) ∙ begun (filter begins_character line) x (begins_character x)

pub column_more : (text : List ℕ) (i x : ℕ) → i < length text
    → (if is_line_feed (get_or text i x) then 1 else (if begins_character (get_or text i x) then column_at text i + 1 else column_at text i)) ≡ column_at text (i + 1)
column_more text i x lt =
    let more = ap last_line (take_more text i x lt) ∙ last_line_more (take i text) (get_or text i x) in
    sym (ap (λ l. length (filter begins_character l) + 1) more ∙ counted (last_line (take i text)) (get_or text i x) (is_line_feed (get_or text i x)))

-- a line feed ends a line
line_by : (n m : ℕ) (is : Bool) → m ≡ n + cond is 1 0 → (if is then n + 1 + 1 else n + 1) ≡ m + 1
line_by n m true h = omega (arith, h)
line_by n m false h = omega (arith, h)

pub line_more : (text : List ℕ) (i x : ℕ) → i < length text
    → (if is_line_feed (get_or text i x) then line_at text i + 1 else line_at text i) ≡ line_at text (i + 1)
line_more text i x lt =
    line_by (length (filter is_line_feed (take i text))) (length (filter is_line_feed (take (i + 1) text))) (is_line_feed (get_or text i x))
    (length-filter_more is_line_feed text i x lt)

-- each byte adds one at most
pub one_at_most : (n i : ℕ) (is : Bool) → n ≤ i + 1 → (if is then n + 1 else n) ≤ i + 1 + 1
one_at_most n i true le = omega (arith, le)
one_at_most n i false le = omega (arith, le)

pub one_or_more : (n i : ℕ) (is begins : Bool) → n ≤ i + 1 → (if is then 1 else (if begins then n + 1 else n)) ≤ i + 1 + 1
one_or_more n i true begins le = omega arith
one_or_more n i false true le = omega (arith, le)
one_or_more n i false false le = omega (arith, le)
