-- Which lines the parts of a file hold.
use Rattle.std.proofs.Common.{◌≡◌, inl, inr, ℕ, ◌≤◌, false, List, [], ◌∷◌, ◌++◌, length, take, drop, refl, sym, ◌∙◌, ap, arith, append_assoc, length-append, ◌==◌}
use Rattle.std.proofs.lemmas.List.{append-nil, take_at, drop_at}
use Rattle.std.proofs.lemmas.Bool.{cases_Bool, cases_eq}
use Rattle.std.proofs.lemmas.Bool.Decides.{nat_tests}
use Rattle.sno_store.specs.Lines.{lines_after, recovered, bytes_of, IsPlain, IsLine}

abbrev pub AreLines : List (List ℕ) → Type 0
AreLines [] = Unit {0}
AreLines (line ∷ lines) = IsLine line × AreLines lines

-- ---- lines at the front

pub rest_of_line : (c : ℕ) (begun line rest : List ℕ) → IsPlain line → lines_after (c ∷ begun) (line ++ 10 ∷ rest) ≡ (c ∷ (begun ++ line)) ∷ recovered rest
rest_of_line c begun [] rest plain = ap (λ (l : List ℕ). (c ∷ l) ∷ recovered rest) (sym (append-nil begun))
rest_of_line c begun (b ∷ line) rest plain =
    rw (plain.0, plain.1) (rest_of_line c (begun ++ b ∷ []) line rest plain.2 ∙ ap (λ (l : List ℕ). (c ∷ l) ∷ recovered rest) (append_assoc begun (b ∷ []) line))

pub recovered-line : (line rest : List ℕ) → IsLine line → recovered (line ++ 10 ∷ rest) ≡ line ∷ recovered rest
recovered-line [] rest is = absurd is
recovered-line (b ∷ line) rest is = rw is.0 (rest_of_line 123 [] line rest is.1)

pub recovered-front : (lines : List (List ℕ)) (rest : List ℕ) → AreLines lines → recovered (bytes_of lines ++ rest) ≡ lines ++ recovered rest
recovered-front [] rest are = refl
recovered-front (line ∷ lines) rest are =
    ap recovered (append_assoc line (10 ∷ bytes_of lines) rest) ∙ recovered-line line (bytes_of lines ++ rest) are.0 ∙ ap (λ (ls : List (List ℕ)). line ∷ ls) (recovered-front lines rest are.1)

-- a line that isn't ended, or that a NUL ends, doesn't count
pub unended : (c : ℕ) (begun line : List ℕ) → IsPlain line → lines_after (c ∷ begun) line ≡ []
unended c begun [] plain = refl
unended c begun (b ∷ line) plain = rw (plain.0, plain.1) (unended c (begun ++ b ∷ []) line plain.2)

pub ended_by_nul : (c : ℕ) (begun line rest : List ℕ) → IsPlain line → lines_after (c ∷ begun) (line ++ 0 ∷ rest) ≡ []
ended_by_nul c begun [] rest plain = refl
ended_by_nul c begun (b ∷ line) rest plain = rw (plain.0, plain.1) (ended_by_nul c (begun ++ b ∷ []) line rest plain.2)

-- ---- what is recovered

pub bytes_of-append : (olds news : List (List ℕ)) → bytes_of (olds ++ news) ≡ bytes_of olds ++ bytes_of news
bytes_of-append [] news = refl
bytes_of-append (line ∷ olds) news = ap (λ (l : List ℕ). line ++ 10 ∷ l) (bytes_of-append olds news) ∙ sym (append_assoc line (10 ∷ bytes_of olds) (bytes_of news))

pub AreLines-append : (olds news : List (List ℕ)) → AreLines olds → AreLines news → AreLines (olds ++ news)
AreLines-append [] news a b = b
AreLines-append (line ∷ olds) news a b = (a.0, AreLines-append olds news a.1 b)

plain-push : (line : List ℕ) (b : ℕ) → IsPlain line → (b == 10) ≡ false → (b == 0) ≡ false → IsPlain (line ++ b ∷ [])
plain-push [] b plain one two = (one, two, tt)
plain-push (a ∷ line) b plain one two = (plain.0, plain.1, plain-push line b plain.2 one two)

-- the beginning of a line, or nothing
abbrev IsBegun : List ℕ → Type 0
IsBegun [] = Unit {0}
IsBegun (c ∷ begun) = (c ≡ 123) × IsPlain begun

lines_after_are : (begun file : List ℕ) → IsBegun begun → AreLines (lines_after begun file)
lines_after_are [] [] is = tt
lines_after_are (c ∷ begun) [] is = tt
lines_after_are [] (b ∷ rest) is = elim (cases_Bool (b == 123)) [ inl same ↦ rw same (lines_after_are (123 ∷ []) rest (refl, tt)) | inr other ↦ rw other tt ]
lines_after_are (c ∷ begun) (b ∷ rest) is = elim (cases_Bool (b == 10)) [
  | inl same ↦ rw same (is, lines_after_are [] rest tt)
  | inr other ↦ elim (cases_Bool (b == 0)) [
    | inl same ↦ rw (other, same) tt
    | inr more ↦ rw (other, more) (lines_after_are (c ∷ (begun ++ b ∷ [])) rest (is.0, plain-push begun b is.1 other more))
  ]
]

pub are_lines : (file : List ℕ) → AreLines (recovered file)
are_lines file = lines_after_are [] file tt

pub recovered-bytes_of : (lines : List (List ℕ)) → AreLines lines → recovered (bytes_of lines) ≡ lines
recovered-bytes_of lines are = ap recovered (sym (append-nil (bytes_of lines))) ∙ recovered-front lines [] are ∙ append-nil lines

-- ---- the lines of a file and its tail

abbrev Splits : List ℕ → List ℕ → Type 0
Splits begun file = (tail : List ℕ) × (begun ++ file ≡ bytes_of (lines_after begun file) ++ tail)

split_after : (begun file : List ℕ) → Splits begun file
split_after [] [] = ([], refl)
split_after (c ∷ begun) [] = (c ∷ begun, append-nil (c ∷ begun))
split_after [] (b ∷ rest) = elim (cases_eq b 123) [
  | inl is_open ↦
      let later = split_after (123 ∷ []) rest in
      let same : recovered (b ∷ rest) ≡ lines_after (123 ∷ []) rest = grind (arith, nat_tests) in
      (later.0, ap (λ (x : ℕ). x ∷ rest) is_open ∙ later.1 ∙ ap (λ (ls : List (List ℕ)). bytes_of ls ++ later.0) (sym same))
  | inr shut ↦
      let none : recovered (b ∷ rest) ≡ [] = grind (arith, nat_tests) in
      (b ∷ rest, ap (λ (ls : List (List ℕ)). bytes_of ls ++ b ∷ rest) (sym none))
]
split_after (c ∷ begun) (b ∷ rest) = elim (cases_eq b 10) [
  | inl is_feed ↦
      let later = split_after [] rest in
      let same : lines_after (c ∷ begun) (b ∷ rest) ≡ (c ∷ begun) ∷ recovered rest = grind (arith, nat_tests) in (
        later.0,
        ap (λ (x : ℕ). (c ∷ begun) ++ x ∷ rest) is_feed ∙ ap (λ (l : List ℕ). (c ∷ begun) ++ 10 ∷ l) later.1
            ∙ sym (append_assoc (c ∷ begun) (10 ∷ bytes_of (recovered rest)) later.0) ∙ ap (λ (ls : List (List ℕ)). bytes_of ls ++ later.0) (sym same),
      )
  | inr other ↦ elim (cases_eq b 0) [
    | inl is_nul ↦
        let none : lines_after (c ∷ begun) (b ∷ rest) ≡ [] = grind (arith, nat_tests) in
        ((c ∷ begun) ++ b ∷ rest, ap (λ (ls : List (List ℕ)). bytes_of ls ++ ((c ∷ begun) ++ b ∷ rest)) (sym none))
    | inr more ↦
        let later = split_after (c ∷ (begun ++ b ∷ [])) rest in
        let same : lines_after (c ∷ begun) (b ∷ rest) ≡ lines_after (c ∷ (begun ++ b ∷ [])) rest = grind (arith, nat_tests) in
        (later.0, sym (append_assoc (c ∷ begun) (b ∷ []) rest) ∙ later.1 ∙ ap (λ (ls : List (List ℕ)). bytes_of ls ++ later.0) (sym same))
  ]
]

module _ (file : List ℕ) (end : ℕ) (size : end ≡ length (bytes_of (recovered file))) where
  pub front : take end file ≡ bytes_of (recovered file)
  front = let s = split_after [] file in ap (λ (l : List ℕ). take end l) s.1 ∙ take_at (bytes_of (recovered file)) s.0 end (sym size)

  pub split : file ≡ bytes_of (recovered file) ++ drop end file
  split =
      let s = split_after [] file in
      let is : drop end file ≡ s.0 = ap (λ (l : List ℕ). drop end l) s.1 ∙ drop_at (bytes_of (recovered file)) s.0 end (sym size) in
      s.1 ∙ ap (λ (l : List ℕ). bytes_of (recovered file) ++ l) (sym is)

  pub within : end ≤ length file
  within = let s = split_after [] file in omega (arith, size, ap length s.1, length-append (bytes_of (recovered file)) s.0)

  no_more : (ls : List (List ℕ)) → recovered file ≡ recovered file ++ ls → ls ≡ []
  no_more [] same = refl
  no_more (line ∷ ls) same = absurd (omega (arith, ap length same, length-append (recovered file) (line ∷ ls)))

  -- there is no line after them
  pub tail : recovered (drop end file) ≡ []
  tail = no_more (recovered (drop end file)) (ap recovered split ∙ recovered-front (recovered file) (drop end file) (are_lines file))

-- one line more
module _ (file : List ℕ) (whole : file ≡ bytes_of (recovered file)) (line : List ℕ) (is : IsLine line) where
  pub pushed : recovered ((file ++ line) ++ 10 ∷ []) ≡ recovered file ++ line ∷ []
  pushed =
      ap recovered (append_assoc file line (10 ∷ [])) ∙ ap (λ (l : List ℕ). recovered (l ++ (line ++ 10 ∷ []))) whole
      ∙ recovered-front (recovered file) (line ++ 10 ∷ []) (are_lines file) ∙ ap (λ (ls : List (List ℕ)). recovered file ++ ls) (recovered-line line [] is)

  pub pushed_whole : (file ++ line) ++ 10 ∷ [] ≡ bytes_of (recovered ((file ++ line) ++ 10 ∷ []))
  pushed_whole =
      append_assoc file line (10 ∷ []) ∙ ap (λ (l : List ℕ). l ++ (line ++ 10 ∷ [])) whole ∙ sym (bytes_of-append (recovered file) (line ∷ []))
      ∙ ap bytes_of (sym pushed)
