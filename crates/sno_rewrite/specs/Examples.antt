-- Worked examples of runs and their listings. Each holds by computation alone, and a reader can compare documents and
-- lines.
use Rattle.std.specs.Prelude.{◌≡◌, ℕ, false, List, [], ◌∷◌, ◌++◌, Some, None, codes, refl}
use Rattle.std.specs.Option.{option_map}
use Rattle.std.specs.Fmt.{digits}
use Rattle.sno_pattern.specs.Tree.{Tree, Lit, Span, Break, Rem, Seq, Cond}
use Rattle.sno_pattern.specs.Definitions.{Definitions}
use Rattle.sno_pattern.specs.Results.{results_of, definition_results}
use Rattle.sno_pattern.specs.Outcome.{outcome_at, trials_at}
use Rattle.sno_read.specs.declared.objects.Part.{Part}
use Rattle.sno_read.specs.declared.objects.Part.TheVariants.{Quoted, Var}
use Rattle.sno_statement.specs.Statement.{Statement, with_repeat}
use Rattle.sno_document.specs.Document.{Document}
use Rattle.sno_listing.specs.Listing.{listing, text_line, binding_line, done_lines, entry_label, entry_subject, refused_line}
use Rattle.sno_rewrite.specs.Serial.{serial, advance}

-- a line of a listing
abbrev line : List ℕ → List ℕ
line words = words ++ 10 ∷ []

abbrev no_rules : Definitions
no_rules = record { names = []; bodies = [] }

abbrev with_object : List Part → ℕ → List ℕ → Tree → Statement
with_object parts number text pattern = record { number = number; rules = no_rules; pattern = pattern; object = Some parts; text = text; anchored = false; limit = 1000000; repeat = None; all = false }

abbrev without_object : ℕ → List ℕ → Tree → Statement
without_object number text pattern = record { number = number; rules = no_rules; pattern = pattern; object = None; text = text; anchored = false; limit = 1000000; repeat = None; all = false }

-- T is abc, and its b is replaced by X
abbrev one_replacement : Document
one_replacement = record { rules = no_rules; texts = (codes "T", codes "abc") ∷ []; statements = with_object (Quoted (codes "X") ∷ []) 1 (codes "T") (Lit (codes "b")) ∷ [] }

one_replacement_listed : option_map listing (serial one_replacement)
    ≡ Some (line (codes "texts 1") ++ (line (codes "T 1 |aXc|") ++ (line (codes "entries 1") ++ (line (codes "0 statement 1 T 0 matched 1 2") ++ (line (codes "  -> |aXc|") ++ line (codes "refused 0"))))))
unfolding listing text_line binding_line done_lines entry_label entry_subject refused_line advance outcome_at trials_at results_of definition_results digits
one_replacement_listed = refl

-- A is k=v, and its two sides are exchanged; B is aaab, in which SPAN('a') 'a' fails; there is no text C
abbrev three_statements : Document
three_statements = record {
  rules = no_rules;
  texts = (codes "A", codes "k=v") ∷ (codes "B", codes "aaab") ∷ [];
  statements = with_object (Var (codes "V") ∷ Quoted (codes "=") ∷ Var (codes "K") ∷ []) 1 (codes "A")
      (Seq (Cond (Break (codes "=")) (codes "K")) (Seq (Lit (codes "=")) (Cond Rem (codes "V"))))
      ∷ without_object 2 (codes "B") (Seq (Span (codes "a")) (Lit (codes "a"))) ∷ without_object 3 (codes "C") (Lit (codes "x")) ∷ [];
}

three_statements_listed : option_map listing (serial three_statements)
    ≡ Some (line (codes "texts 2") ++ (line (codes "A 1 |v=k|") ++ (line (codes "B 0 |aaab|") ++ (line (codes "entries 2") ++ (line (codes "0 statement 1 A 0 matched 0 3")
    ++ (line (codes "  K = |k|") ++ (line (codes "  V = |v|") ++ (line (codes "  -> |v=k|") ++ (line (codes "1 statement 2 B 0 failed") ++ (line (codes "refused 1") ++ line (codes "statement 3 no text")))))))))))
unfolding listing text_line binding_line done_lines entry_label entry_subject refused_line advance outcome_at trials_at results_of definition_results digits
three_statements_listed = refl

-- two statements on T, which is ab. The second is performed on what the first left, and puts the same characters back.
-- Each raises the version
abbrev two_versions : Document
two_versions = record {
  rules = no_rules;
  texts = (codes "T", codes "ab") ∷ [];
  statements = with_object (Quoted (codes "b") ∷ []) 1 (codes "T") (Lit (codes "a")) ∷ with_object (Quoted (codes "bb") ∷ []) 2 (codes "T") (Lit (codes "bb")) ∷ [];
}

two_versions_listed : option_map listing (serial two_versions)
    ≡ Some (line (codes "texts 1") ++ (line (codes "T 2 |bb|") ++ (line (codes "entries 2") ++ (line (codes "0 statement 1 T 0 matched 0 1")
    ++ (line (codes "  -> |bb|") ++ (line (codes "1 statement 2 T 1 matched 0 2") ++ (line (codes "  -> |bb|") ++ line (codes "refused 0"))))))))
unfolding listing text_line binding_line done_lines entry_label entry_subject refused_line advance outcome_at trials_at results_of definition_results digits
two_versions_listed = refl

-- T is aXbXc, and each X in it is replaced by a stroke: one entry, and one version
abbrev all_replaced : Document
all_replaced = record {
  rules = no_rules;
  texts = (codes "T", codes "aXbXc") ∷ [];
  statements = with_repeat (with_object (Quoted (codes "-") ∷ []) 1 (codes "T") (Lit (codes "X"))) 1000 ∷ [];
}

all_replaced_listed : option_map listing (serial all_replaced)
    ≡ Some (line (codes "texts 1") ++ (line (codes "T 1 |a-b-c|") ++ (line (codes "entries 1") ++ (line (codes "0 statement 1 T 0 repeated 2") ++ (line (codes "  -> |a-b-c|") ++ line (codes "refused 0"))))))
unfolding listing text_line binding_line done_lines entry_label entry_subject refused_line advance outcome_at trials_at results_of definition_results digits
all_replaced_listed = refl
