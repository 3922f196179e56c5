-- Lines one after the other, and scripts that grow at their end.
use Rattle.std.proofs.Common.{◌≡◌, ℕ, suc, ◌+◌, ◌-◌, ◌<◌, ◌≤◌, Bool, true, false, nat_eq, cond, List, [], ◌∷◌, ◌++◌, length, take, drop, get_or, Option, Some, None, refl, ap, sym, ◌∙◌, append_assoc, append-nil, arith}
use Rattle.std.proofs.lemmas.List.{take-append-drop, take_more}
use Rattle.std.proofs.lemmas.Bool.{eqb-true, and_parts}
use Rattle.std.proofs.lemmas.Iterator.Adapters.{position_from-zero}
use Rattle.std.specs.Borrow.{Bor}
use Rattle.std.specs.List.{concat, position, position_from}
use Rattle.sno_pattern.specs.Identifiers.{same}
use Rattle.sno_edit.specs.declared.scripts.DiffLine.{DiffLine}
use Rattle.sno_edit.specs.declared.scripts.Mark.{Mark}
use Rattle.sno_edit.specs.declared.scripts.Mark.TheVariants.{Kept, Removed, Added}
use Rattle.sno_edit.specs.Scripts.{is_line_feed, lines_in, new_lines, new_part, new_text, old_lines, old_part, old_text, seen, with_first}

-- lines of the same characters are equal
pub same_is : (a b : List ℕ) → same a b ≡ true → a ≡ b
same_is [] [] h = refl
same_is [] (y ∷ b) h = cc
same_is (x ∷ a) [] h = cc
same_is (x ∷ a) (y ∷ b) h =
    let hs = and_parts (nat_eq x y) (same a b) h in
    let head : x ≡ y = eqb-true x y hs.0 in
    let tail = same_is a b hs.1 in cc

-- where the first line ends: after the first line feed ..
first_line : (b : Bool) (i : ℕ) (x : ℕ) (text : List ℕ) (k : ℕ) (later : Option ℕ)
    → (later ≡ Some k → (i + 1 ≤ k) × (lines_in text ≡ take (suc k - (i + 1)) text ∷ lines_in (drop (suc k - (i + 1)) text))) → cond b (Some i) later ≡ Some k
    → (i ≤ k) × (cond b ((x ∷ []) ∷ lines_in text) (with_first x (lines_in text)) ≡ take (suc k - i) (x ∷ text) ∷ lines_in (drop (suc k - i) (x ∷ text)))
first_line true i x text k later more h =
    let at : i ≡ k = cc in
    let one : suc k - i ≡ suc 0 = omega (arith, at) in
    (omega (arith, at), sym (ap (λ n. take n (x ∷ text) ∷ lines_in (drop n (x ∷ text))) one))
first_line false i x text k later more h =
    let r = more h in
    let n : suc k - i ≡ suc (suc k - (i + 1)) = omega (arith, r.0) in
    (omega (arith, r.0), ap (λ lines. with_first x lines) r.1 ∙ sym (ap (λ n. take n (x ∷ text) ∷ lines_in (drop n (x ∷ text))) n))

line_from : (i : ℕ) (text : List ℕ) (k : ℕ) → position_from is_line_feed i text ≡ Some k
    → (i ≤ k) × (lines_in text ≡ take (suc k - i) text ∷ lines_in (drop (suc k - i) text))
line_from i [] k h = cc
line_from i (x ∷ text) k h = first_line (is_line_feed x) i x text k (position_from is_line_feed (i + 1) text) (line_from (i + 1) text k) h

pub line_found : (text : List ℕ) (k : ℕ) → position is_line_feed text ≡ Some k → lines_in text ≡ take (k + 1) text ∷ lines_in (drop (k + 1) text)
line_found text k h =
    let n : suc k - 0 ≡ k + 1 = omega arith in
    (line_from 0 text k (sym (position_from-zero is_line_feed text) ∙ h)).1 ∙ ap (λ n. take n text ∷ lines_in (drop n text)) n

take_all : (text : List ℕ) → take (length text) text ≡ text
take_all [] = refl
take_all (x ∷ text) = ap (λ t. x ∷ t) (take_all text)

drop_all : (text : List ℕ) → drop (length text) text ≡ []
drop_all [] = refl
drop_all (x ∷ text) = drop_all text

-- .. and with the text, if it has none
one_more : (b : Bool) (i : ℕ) (x : ℕ) (text : List ℕ) (later : Option ℕ) → (later ≡ None → with_first x (lines_in text) ≡ (x ∷ text) ∷ []) → cond b (Some i) later ≡ None
    → cond b ((x ∷ []) ∷ lines_in text) (with_first x (lines_in text)) ≡ (x ∷ text) ∷ []
one_more true i x text later more h = cc
one_more false i x text later more h = more h

one_from : (i : ℕ) (x : ℕ) (text : List ℕ) → position_from is_line_feed i (x ∷ text) ≡ None → lines_in (x ∷ text) ≡ (x ∷ text) ∷ []
one_from i x [] h = one_more (is_line_feed x) i x [] None (λ _. refl) h
one_from i x (y ∷ text) h =
    one_more (is_line_feed x) i x (y ∷ text) (position_from is_line_feed (i + 1) (y ∷ text)) (λ none. ap (λ lines. with_first x lines) (one_from (i + 1) y text none)) h

pub line_alone : (text : List ℕ) → 0 < length text → position is_line_feed text ≡ None → lines_in text ≡ take (length text) text ∷ lines_in (drop (length text) text)
line_alone [] some h = absurd (omega (arith, some))
line_alone (x ∷ text) some h =
    one_from 0 x text (sym (position_from-zero is_line_feed (x ∷ text)) ∙ h) ∙ ap (λ t. t ∷ []) (sym (take_all (x ∷ text)))
    ∙ ap (λ t. take (length (x ∷ text)) (x ∷ text) ∷ lines_in t) (sym (drop_all (x ∷ text)))

-- the lines of a text, one after the other, are the text
joined_first : (x : ℕ) (lines : List (List ℕ)) → concat (with_first x lines) ≡ x ∷ concat lines
joined_first x [] = refl
joined_first x (line ∷ lines) = refl

joined_by : (b : Bool) (x : ℕ) (text : List ℕ) → concat (lines_in text) ≡ text → concat (cond b ((x ∷ []) ∷ lines_in text) (with_first x (lines_in text))) ≡ x ∷ text
joined_by true x text h = ap (λ t. x ∷ t) h
joined_by false x text h = joined_first x (lines_in text) ∙ ap (λ t. x ∷ t) h

joined_lines : (text : List ℕ) → concat (lines_in text) ≡ text
joined_lines [] = refl
joined_lines (x ∷ text) = joined_by (is_line_feed x) x text (joined_lines text)

old_joined_by : (mark : Mark) (line : List ℕ) (lines : List (List ℕ)) → concat (old_part mark (line ∷ []) ++ lines) ≡ old_part mark line ++ concat lines
old_joined_by Kept line lines = refl
old_joined_by Removed line lines = refl
old_joined_by Added line lines = refl

new_joined_by : (mark : Mark) (line : List ℕ) (lines : List (List ℕ)) → concat (new_part mark (line ∷ []) ++ lines) ≡ new_part mark line ++ concat lines
new_joined_by Kept line lines = refl
new_joined_by Removed line lines = refl
new_joined_by Added line lines = refl

old_joined : (script : List DiffLine) → concat (old_lines script) ≡ old_text script
old_joined [] = refl
old_joined (line ∷ script) = old_joined_by line.mark line.text.now (old_lines script) ∙ ap (λ t. old_part line.mark line.text.now ++ t) (old_joined script)

new_joined : (script : List DiffLine) → concat (new_lines script) ≡ new_text script
new_joined [] = refl
new_joined (line ∷ script) = new_joined_by line.mark line.text.now (new_lines script) ∙ ap (λ t. new_part line.mark line.text.now ++ t) (new_joined script)

-- a script with the lines of a text has the text
pub old_text_is : (script : List DiffLine) (text : List ℕ) (rest : List (Bor (List ℕ))) → old_lines script ++ seen rest ≡ lines_in text → rest ≡ [] → old_text script ≡ text
old_text_is script text rest h none =
    sym (old_joined script) ∙ ap concat (sym (append-nil (old_lines script)) ∙ ap (λ r. old_lines script ++ seen r) (sym none) ∙ h) ∙ joined_lines text

pub new_text_is : (script : List DiffLine) (text : List ℕ) (rest : List (Bor (List ℕ))) → new_lines script ++ seen rest ≡ lines_in text → rest ≡ [] → new_text script ≡ text
new_text_is script text rest h none =
    sym (new_joined script) ∙ ap concat (sym (append-nil (new_lines script)) ∙ ap (λ r. new_lines script ++ seen r) (sym none) ∙ h) ∙ joined_lines text

pub seen_append : (a b : List (Bor (List ℕ))) → seen (a ++ b) ≡ seen a ++ seen b
seen_append [] b = refl
seen_append (line ∷ a) b = ap (λ t. line.now ∷ t) (seen_append a b)

pub seen_more : (lines : List (Bor (List ℕ))) (i : ℕ) (d : Bor (List ℕ)) → i < length lines → seen (take (i + 1) lines) ≡ seen (take i lines) ++ (get_or lines i d).now ∷ []
seen_more lines i d lt = ap seen (take_more lines i d lt) ∙ seen_append (take i lines) (get_or lines i d ∷ [])

-- what comes before, with the first lines and then the others
pub split_lines : (before after : List (List ℕ)) (k : ℕ) (front back lines : List (Bor (List ℕ))) → front ≡ take k lines → back ≡ drop k lines → after ≡ before ++ seen front
    → after ++ seen back ≡ before ++ seen lines
split_lines before after k front back lines f b is =
    let whole : seen lines ≡ seen front ++ seen back =
    ap seen (sym (take-append-drop k lines)) ∙ seen_append (take k lines) (drop k lines) ∙ ap (λ t. seen t ++ seen (drop k lines)) (sym f) ∙ ap (λ t. seen front ++ seen t) (sym b) in
    ap (λ t. t ++ seen back) is ∙ append_assoc before (seen front) (seen back) ∙ ap (λ t. before ++ t) (sym whole)

-- the same, where nothing is added afterwards, or before
pub split_lines_then : (before between after : List (List ℕ)) (k : ℕ) (front back lines : List (Bor (List ℕ))) → front ≡ take k lines → back ≡ drop k lines
    → between ≡ before ++ seen front → after ≡ between ++ [] → after ++ seen back ≡ before ++ seen lines
split_lines_then before between after k front back lines f b is nothing = split_lines before after k front back lines f b (nothing ∙ append-nil between ∙ is)

pub split_lines_after : (before between after : List (List ℕ)) (k : ℕ) (front back lines : List (Bor (List ℕ))) → front ≡ take k lines → back ≡ drop k lines
    → between ≡ before ++ [] → after ≡ between ++ seen front → after ++ seen back ≡ before ++ seen lines
split_lines_after before between after k front back lines f b nothing is = split_lines before after k front back lines f b (is ∙ ap (λ t. t ++ seen front) (nothing ∙ append-nil before))

-- lines of the old text that the new one has too
pub split_shared : (before after : List (List ℕ)) (k : ℕ) (front back olds news : List (Bor (List ℕ))) → front ≡ take k olds → back ≡ drop k news
    → seen (take k olds) ≡ seen (take k news) → after ≡ before ++ seen front → after ++ seen back ≡ before ++ seen news
split_shared before after k front back olds news f b shared is =
    split_lines before after k (take k news) back news refl b (is ∙ ap (λ t. before ++ seen t) f ∙ ap (λ t. before ++ t) shared)

-- one line more of what both have
pub same_more : (olds news : List (Bor (List ℕ))) (i : ℕ) (d e : Bor (List ℕ)) → i < length olds → i < length news
    → seen (take i olds) ≡ seen (take i news) → (get_or olds i d).now ≡ (get_or news i e).now → seen (take (i + 1) olds) ≡ seen (take (i + 1) news)
same_more olds news i d e lt less so is =
    seen_more olds i d lt ∙ ap (λ t. t ++ (get_or olds i d).now ∷ []) so ∙ ap (λ t. seen (take i news) ++ t ∷ []) is ∙ sym (seen_more news i e less)

-- the lines of a text, with one more
pub line_more : (text rest : List ℕ) (lines after : List (Bor (List ℕ))) (line : Bor (List ℕ)) (n : ℕ) (tail : List ℕ) → seen lines ++ lines_in rest ≡ lines_in text
    → lines_in rest ≡ take n rest ∷ lines_in (drop n rest) → after ≡ lines ++ line ∷ [] → line.now ≡ take n rest → tail ≡ drop n rest → seen after ++ lines_in tail ≡ lines_in text
line_more text rest lines after line n tail so first is front back =
    ap (λ l. seen l ++ lines_in tail) is ∙ ap (λ t. t ++ lines_in tail) (seen_append lines (line ∷ [])) ∙ append_assoc (seen lines) (line.now ∷ []) (lines_in tail)
    ∙ ap (λ t. seen lines ++ (t ∷ lines_in tail)) front ∙ ap (λ t. seen lines ++ (take n rest ∷ lines_in t)) back ∙ ap (λ t. seen lines ++ t) (sym first) ∙ so

pub old_append : (a b : List DiffLine) → old_lines (a ++ b) ≡ old_lines a ++ old_lines b
old_append [] b = refl
old_append (line ∷ a) b =
    ap (λ t. old_part line.mark (line.text.now ∷ []) ++ t) (old_append a b) ∙ sym (append_assoc (old_part line.mark (line.text.now ∷ [])) (old_lines a) (old_lines b))

pub new_append : (a b : List DiffLine) → new_lines (a ++ b) ≡ new_lines a ++ new_lines b
new_append [] b = refl
new_append (line ∷ a) b =
    ap (λ t. new_part line.mark (line.text.now ∷ []) ++ t) (new_append a b) ∙ sym (append_assoc (new_part line.mark (line.text.now ∷ [])) (new_lines a) (new_lines b))

old_part_append : (mark : Mark) (s t : List (List ℕ)) → old_part mark (s ++ t) ≡ old_part mark s ++ old_part mark t
old_part_append Kept s t = refl
old_part_append Removed s t = refl
old_part_append Added s t = refl

new_part_append : (mark : Mark) (s t : List (List ℕ)) → new_part mark (s ++ t) ≡ new_part mark s ++ new_part mark t
new_part_append Kept s t = refl
new_part_append Removed s t = refl
new_part_append Added s t = refl

-- a script with one line more, of those that have a mark
pub old_more : (before : List (List ℕ)) (sofar after : List DiffLine) (mark : Mark) (lines : List (Bor (List ℕ))) (i : ℕ) (d : Bor (List ℕ)) → i < length lines
    → old_lines sofar ≡ before ++ old_part mark (seen (take i lines)) → after ≡ sofar ++ (record { mark = mark; text = get_or lines i d }) ∷ []
    → old_lines after ≡ before ++ old_part mark (seen (take (i + 1) lines))
old_more before sofar after mark lines i d lt so is =
    let x : List (List ℕ) = (get_or lines i d).now ∷ [] in
    let parts : old_part mark (seen (take (i + 1) lines)) ≡ old_part mark (seen (take i lines)) ++ old_part mark x =
    ap (λ t. old_part mark t) (seen_more lines i d lt) ∙ old_part_append mark (seen (take i lines)) x in
    ap old_lines is ∙ old_append sofar ((record { mark = mark; text = get_or lines i d }) ∷ []) ∙ ap (λ t. old_lines sofar ++ t) (append-nil (old_part mark x))
    ∙ ap (λ t. t ++ old_part mark x) so ∙ append_assoc before (old_part mark (seen (take i lines))) (old_part mark x) ∙ ap (λ t. before ++ t) (sym parts)

pub new_more : (before : List (List ℕ)) (sofar after : List DiffLine) (mark : Mark) (lines : List (Bor (List ℕ))) (i : ℕ) (d : Bor (List ℕ)) → i < length lines
    → new_lines sofar ≡ before ++ new_part mark (seen (take i lines)) → after ≡ sofar ++ (record { mark = mark; text = get_or lines i d }) ∷ []
    → new_lines after ≡ before ++ new_part mark (seen (take (i + 1) lines))
new_more before sofar after mark lines i d lt so is =
    let x : List (List ℕ) = (get_or lines i d).now ∷ [] in
    let parts : new_part mark (seen (take (i + 1) lines)) ≡ new_part mark (seen (take i lines)) ++ new_part mark x =
    ap (λ t. new_part mark t) (seen_more lines i d lt) ∙ new_part_append mark (seen (take i lines)) x in
    ap new_lines is ∙ new_append sofar ((record { mark = mark; text = get_or lines i d }) ∷ []) ∙ ap (λ t. new_lines sofar ++ t) (append-nil (new_part mark x))
    ∙ ap (λ t. t ++ new_part mark x) so ∙ append_assoc before (new_part mark (seen (take i lines))) (new_part mark x) ∙ ap (λ t. before ++ t) (sym parts)
