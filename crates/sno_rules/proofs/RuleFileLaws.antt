-- One more line of a file of rules, and more of the last one.
use Rattle.std.proofs.Common.{◌≡◌, ℕ, ◌+◌, ◌<◌, List, [], ◌∷◌, ◌++◌, length, map, Result, Ok, Err, ap, refl, sym, subst, ◌∙◌, arith}
use Rattle.std.proofs.lemmas.List.{map-append}
use Rattle.sno_rules.specs.declared.faults.RuleFileFault.{RuleFileFault}
use Rattle.sno_rules.specs.declared.rule_files.FileLine.{FileLine as StoredLine}
use Rattle.sno_rules.specs.RuleFiles.{AreLines, FileLine, line_seen, after_first, after_line, line_of, with_line, with_more, more, no_more, wrong}

pub none_left : (n : ℕ) (lines : List FileLine) (text : List ℕ) → length text ≡ 0 → AreLines n lines text (Ok lines)
none_left n lines [] h = no_more n lines
none_left n lines (c ∷ cs) h = absurd (omega (arith, h))

pub wrong_line : (n : ℕ) (lines : List FileLine) (text line : List ℕ) (e : RuleFileFault) → 0 < length text → line ≡ line_of text → with_line n lines line ≡ Err e → AreLines n lines text (Err e)
wrong_line n lines [] line e h is gives = absurd (omega (arith, h))
wrong_line n lines (c ∷ cs) line e h is gives = wrong n lines c cs e (subst (λ (x : List ℕ). with_line n lines x ≡ Err e) is gives)

pub one_line : (n : ℕ) (lines next : List FileLine) (text line after : List ℕ) (r : Result (List FileLine) RuleFileFault) → 0 < length text → line ≡ line_of text → after ≡ after_line text
    → with_line n lines line ≡ Ok next → AreLines (n + 1) next after r → AreLines n lines text r
one_line n lines next [] line after r h is rest gives others = absurd (omega (arith, h))
one_line n lines next (c ∷ cs) line after r h is rest gives others =
    more n lines next c cs r (subst (λ (x : List ℕ). with_line n lines x ≡ Ok next) is gives) (subst (λ (x : List ℕ). AreLines (n + 1) next x r) rest others)

-- more of the last line, which has these others before it
pub more_of : (n : ℕ) (before : List FileLine) (l : FileLine) (text : List ℕ)
    → with_more n (before ++ (l ∷ [])) text ≡ Ok (before ++ (record { number = l.number; kind = l.kind; characters = l.characters ++ text } ∷ []))
more_of n [] l text = refl
more_of n (k ∷ []) l text = refl
more_of n (k ∷ (j ∷ before)) l text = ap (after_first k) (more_of n (j ∷ before) l text)

pub more_of_stored : (n : ℕ) (before old new : List StoredLine) (l k : StoredLine) (text : List ℕ) → old ≡ before ++ (l ∷ []) → new ≡ before ++ (k ∷ [])
    → line_seen k ≡ record { number = l.number; kind = l.kind; characters = l.characters.items ++ text } → with_more n (map line_seen old) text ≡ Ok (map line_seen new)
more_of_stored n before old new l k text was is seen =
    ap (λ x. with_more n (map line_seen x) text) was ∙ ap (λ x. with_more n x text) (map-append line_seen before (l ∷ [])) ∙ more_of n (map line_seen before) (line_seen l) text
    ∙ ap (λ x. Ok (map line_seen before ++ (x ∷ []))) (sym seen) ∙ ap Ok (sym (map-append line_seen before (k ∷ []))) ∙ ap (λ x. Ok (map line_seen x)) (sym is)
