-- A whole text is read as the tree that it spells, and so it spells no other.
use Rattle.std.proofs.Common.{◌≡◌, ℕ, suc, ◌≤◌, true, false, List, [], ◌++◌, length, nat_eq, nat_lt, Ok, IsTrue, refl, sym, ap, subst, ◌∙◌, arith, append-nil, length-append}
use Rattle.std.specs.List.{list_all}
use Rattle.std.specs.Char.{is_ascii}
use Rattle.std.proofs.lemmas.Bool.{le-ltb, ne_eqb}
use Rattle.sno_pattern.specs.Identifiers.{is_name_char}
use Rattle.sno_pattern.specs.Tree.{Tree}
use Rattle.sno_read.specs.Characters.{skip, begins}
use Rattle.sno_read.specs.Depth.{depth}
use Rattle.sno_read.specs.Grammar.{AreBlanks, IsSetOfRule, IsAlternation, Spells, SpellsRule}
use Rattle.sno_read.specs.Laws.{OneTree, OneRuleTree}
use Rattle.sno_read.specs.Reading.{Env, end_at, unless_too_deep, whole_of, short_text, short_ascii, pattern_of, rule_pattern_of, alternation_at, inside}
use Rattle.sno_pattern.proofs.TextLemmas.{none_non_ascii}
use Rattle.sno_read.proofs.Marks.{alternation_starts, starts_no_blank, blanks_or, skip_blanks, follows_end}
use Rattle.sno_read.proofs.Ascii.{AreAscii, ascii_front, ascii_behind}
use Rattle.sno_read.proofs.SetsAgain.{SetsAgain, IsAsciiSet, document_sets_again, rule_sets_again}
use Rattle.sno_read.proofs.AsciiSets.{alternation_ascii}
use Rattle.sno_read.proofs.Complete.{alternation_again, inside_again}
use Rattle.sno_read.proofs.Results.{ok_same}

pub checked_again : (text : List ℕ) → length text ≤ 4096 → IsTrue (list_all is_ascii text) → short_ascii text ≡ Ok text
checked_again text s a =
    let few : nat_lt 4096 (length text) ≡ false = le-ltb _ _ s in
    rw (few, none_non_ascii text a) refl

pub short_again : (text : List ℕ) → length text ≤ 4096 → short_text text ≡ Ok text
short_again text s =
    let few : nat_lt 4096 (length text) ≡ false = le-ltb _ _ s in
    rw few refl

skip_all : (c : List ℕ) → AreBlanks c → skip c ≡ []
skip_all c h = ap skip (sym (append-nil c)) ∙ skip_blanks c [] h refl

module _ (IsSet : List ℕ → List ℕ → Type 0) (env : Env) (sets : SetsAgain IsSet env) where
  whole_alternation : (x c : List ℕ) (t : Tree) → IsAlternation IsSet env.names env.earlier 100 x t → AreBlanks c → alternation_at env 100 (inside env 100) (x ++ c) ≡ Ok (t, c)
  unfolding alternation_at is_name_char
  whole_alternation x c t a cb =
      let stop : begins is_name_char c ≡ false = rw append-nil at (blanks_or is_name_char c [] refl refl cb refl) in
      alternation_again IsSet env sets 100 x t a (inside env 100) (inside_again IsSet env sets 100) c stop (follows_end c cb) (suc (length (x ++ c))) (omega arith)

  whole_again : (text before x after : List ℕ) (t : Tree) → AreBlanks before → IsAlternation IsSet env.names env.earlier 100 x t → AreBlanks after → text ≡ before ++ (x ++ after) → depth t ≤ 1000 → whole_of env text ≡ Ok t
  unfolding whole_of end_at unless_too_deep
  whole_again text before x after t bb a cb joined d =
      let starts = alternation_starts IsSet env.names env.earlier 100 x t a in
      let skipped : skip text ≡ x ++ after = ap skip joined ∙ skip_blanks before (x ++ after) bb (starts_no_blank x after starts) in
      let some : nat_eq (length (x ++ after)) 0 ≡ false = ne_eqb _ 0 (λ e. omega (arith, e, ap length starts.3, length-append x after)) in
      let low : nat_lt 1000 (depth t) ≡ false = le-ltb _ _ d in
      rw (skipped, some, whole_alternation x after t a cb, skip_all after cb, low) refl

pub pattern_again : (names : List (List ℕ)) (earlier : ℕ) (text : List ℕ) (t : Tree) → Spells names earlier text t → pattern_of names earlier text ≡ Ok t
unfolding pattern_of
pattern_again names earlier text t s =
    let env : Env = record { names = names; earlier = earlier; total = length text; in_rule = false } in
    let ascii : AreAscii s.inside = ascii_front s.inside s.after (ascii_behind s.before (s.inside ++ s.after) (subst (λ l. AreAscii l) s.joined s.ascii)) in
    rw (checked_again text s.short s.ascii) (whole_again IsAsciiSet env (document_sets_again env refl) text s.before s.inside s.after t s.blank_before (alternation_ascii names earlier 100 s.inside t ascii s.alternation) s.blank_after s.joined s.shallow)

pub one_tree_law : OneTree
one_tree_law names earlier text t u s r = ok_same t u (sym (pattern_again names earlier text t s) ∙ pattern_again names earlier text u r)

pub rule_pattern_again : (names : List (List ℕ)) (earlier : ℕ) (text : List ℕ) (t : Tree) → SpellsRule names earlier text t → rule_pattern_of names earlier text ≡ Ok t
unfolding rule_pattern_of
rule_pattern_again names earlier text t s =
    let env : Env = record { names = names; earlier = earlier; total = length text; in_rule = true } in
    rw (short_again text s.short) (whole_again IsSetOfRule env (rule_sets_again env refl) text s.before s.inside s.after t s.blank_before s.alternation s.blank_after s.joined s.shallow)

pub one_rule_tree_law : OneRuleTree
one_rule_tree_law names earlier text t u s r = ok_same t u (sym (rule_pattern_again names earlier text t s) ∙ rule_pattern_again names earlier text u r)
