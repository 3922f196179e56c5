-- What all matches leave, without them.
use Rattle.std.proofs.Common.{◌≡◌, ◌≤◌, ◌<◌, ◌+◌, ◌∷◌, [], ℕ, List, length, cond, Option, Some, None, Ok, Err, refl, ap, sym, ◌∙◌, arith, Vec, Global}
use Rattle.std.proofs.lemmas.Bool.{lt-ltb, le-ltb}
use Rattle.std.proofs.Math.Dec.{eqb-suc-zero}
use Rattle.sno_pattern.specs.declared.byte_texts.TheConstants.{MAX_BYTES}
use Rattle.sno_read.specs.declared.objects.Part.{Part}
use Rattle.sno_statement.specs.declared.match_lists.Match.{Match}
use Rattle.sno_statement.specs.declared.outcomes.StatementFault.TheVariants as fault
use Rattle.sno_statement.specs.declared.file_faults.FileStatementFault.{FileStatementFault}
use Rattle.sno_statement.specs.declared.file_faults.FileStatementFault.TheVariants as file
use Rattle.sno_statement.specs.FileFaults.{plain}
use Rattle.sno_statement.specs.Statement.{Statement}
use Rattle.sno_statement.specs.Passes.{all_matches, all_trials, begun, matches_left, replaced, trials_together}
use Rattle.sno_statement.specs.Perform.{All, all_or_failed_within, finish_all_within, perform_all_within}
use Rattle.sno_statement.specs.Rewriting.{IsReplaced, GivesRewritten, finished, rewriting}
use Rattle.sno_statement.proofs.PassLaws.{matches_few}
use Rattle.sno_statement.proofs.WholePasses.{refused_all, within_all}

-- a pass over a text has few matches
pub begun_few : (s : Statement) (t : List ℕ) → length t ≤ MAX_BYTES → length (matches_left (begun s t)) ≤ MAX_BYTES + 1
begun_few s t short = omega (arith, short, matches_few s t (length t + 1) None (Some 0))

-- the trials of a whole pass
pub over_begun : (s : Statement) (t : List ℕ) → s.limit < trials_together (begun s t) → s.limit < all_trials s t
over_begun s t over = omega (arith, over)

pub within_begun : (s : Statement) (t : List ℕ) → trials_together (begun s t) ≤ s.limit → all_trials s t ≤ s.limit
within_begun s t few = omega (arith, few)

-- a pass that is refused refuses the statement
pub refused_rewriting : (s : Statement) (t : List ℕ) (e : FileStatementFault) → (plain e ≡ fault.TooManyTrials → s.limit < all_trials s t) → (plain e ≡ fault.TextTooLong → ⊥) → GivesRewritten (Err e) (rewriting (perform_all_within MAX_BYTES s t))
refused_rewriting s t file.TextTooLong over never = λ other. absurd (never refl)
refused_rewriting s t file.Memory over never = λ other. absurd (other refl)
refused_rewriting s t file.HistoryTooLong over never = λ other. absurd (other refl)
refused_rewriting s t file.TooManyTrials over never = λ other. ap rewriting (refused_all MAX_BYTES s t (over refl))

-- without an object the matches are counted
counted : (s : Statement) (t : List ℕ) (ms : List Match) → s.object ≡ None → rewriting (all_or_failed_within MAX_BYTES s t ms) ≡ Ok (record { matches = length ms; after = None })
counted s t [] none = refl
counted s t (m ∷ ms) none = ap (λ (z : Option (List Part)). rewriting (finish_all_within MAX_BYTES z t (m ∷ ms))) none

pub counted_all : (s : Statement) (t : List ℕ) (n : ℕ) → s.object ≡ None → all_trials s t ≤ s.limit → n ≡ length (all_matches s t) → Ok (record { matches = n; after = None }) ≡ rewriting (perform_all_within MAX_BYTES s t)
counted_all s t n none few is =
    ap (λ (z : ℕ). Ok (record { matches = z; after = None })) is ∙ sym (ap rewriting (within_all MAX_BYTES s t few) ∙ counted s t (all_matches s t) none)

-- with one they are replaced
one_finished : (t : List ℕ) (parts : List Part) (m : Match) (ms : List Match) (text : Option (Vec ℕ Global)) → IsReplaced (replaced parts t 0 (m ∷ ms)) text
    → rewriting (finish_all_within MAX_BYTES (Some parts) t (m ∷ ms)) ≡ finished (length (m ∷ ms)) text
one_finished t parts m ms None long =
    ap (λ b. rewriting (cond b (Err fault.TextTooLong) (Ok (All (m ∷ ms) (Some (replaced parts t 0 (m ∷ ms))))))) (lt-ltb MAX_BYTES (length (replaced parts t 0 (m ∷ ms))) long)
    ∙ ap (λ b. cond b (Ok (record { matches = 0; after = None })) (Err fault.TextTooLong)) (sym (eqb-suc-zero (length ms)))
one_finished t parts m ms (Some v) is =
    ap (λ b. rewriting (cond b (Err fault.TextTooLong) (Ok (All (m ∷ ms) (Some (replaced parts t 0 (m ∷ ms))))))) (le-ltb MAX_BYTES (length (replaced parts t 0 (m ∷ ms))) is.1)
    ∙ ap (λ (z : List ℕ). Ok (record { matches = length (m ∷ ms); after = Some z })) (sym is.0)
    ∙ ap (λ b. cond b (Ok (record { matches = 0; after = None })) (Ok (record { matches = length (m ∷ ms); after = Some v.items }))) (sym (eqb-suc-zero (length ms)))

all_finished : (s : Statement) (t : List ℕ) (parts : List Part) (ms : List Match) (text : Option (Vec ℕ Global)) → s.object ≡ Some parts → IsReplaced (replaced parts t 0 ms) text
    → rewriting (all_or_failed_within MAX_BYTES s t ms) ≡ finished (length ms) text
all_finished s t parts [] None some is = refl
all_finished s t parts [] (Some v) some is = refl
all_finished s t parts (m ∷ ms) text some is = ap (λ (z : Option (List Part)). rewriting (finish_all_within MAX_BYTES z t (m ∷ ms))) some ∙ one_finished t parts m ms text is

pub replaced_all : (s : Statement) (t : List ℕ) (parts : List Part) (n : ℕ) (text : Option (Vec ℕ Global)) → s.object ≡ Some parts → all_trials s t ≤ s.limit
    → n ≡ length (all_matches s t) → IsReplaced (replaced parts t 0 (all_matches s t)) text → finished n text ≡ rewriting (perform_all_within MAX_BYTES s t)
replaced_all s t parts n text some few is made =
    ap (λ (z : ℕ). finished z text) is ∙ sym (ap rewriting (within_all MAX_BYTES s t few) ∙ all_finished s t parts (all_matches s t) text some made)
