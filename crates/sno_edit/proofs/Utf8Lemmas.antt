-- What rules leave of UTF-8 is UTF-8, and why a statement cuts a character.
use Rattle.std.proofs.Common.{◌≡◌, ◌≢◌, ℕ, Bool, true, false, List, [], ◌∷◌, ◌++◌, Option, None, Some, Result, Ok, Err, IsUtf8, if◌then◌else◌, unwrap_or, refl, true≢false, ap, sym, subst, ◌∙◌}
use Rattle.std.proofs.lemmas.Str.{IsUtf8-from_is_utf8, is_utf8-from_IsUtf8}
use Rattle.std.specs.Str.{is_utf8}
use Rattle.std.specs.Str.Lossy.{utf8_valid_len}
use Rattle.sno_statement.specs.Rewriting.{Rewriting}
use Rattle.sno_statement.specs.Statement.{Statement}
use Rattle.sno_statement.specs.declared.outcomes.StatementFault.{StatementFault}
use Rattle.sno_statement.specs.declared.outcomes.StatementFault.TheVariants as statement
use Rattle.sno_edit.specs.Edits.{Edited, IsCut, edited, in_turn, is_for, left_by, rewriting_of, then_on, turn, unless_cut, with_text}
use Rattle.sno_statement.specs.FileFaults.{in_file}
use Rattle.sno_edit.specs.Faults.{follows, of_refused}
use Rattle.sno_edit.specs.Positions.{position_of}
use Rattle.sno_edit.specs.Rules.{FileRules}
use Rattle.sno_edit.specs.declared.edits.CutCharacter.{CutCharacter}
use Rattle.sno_edit.specs.declared.faults.FileFault.{FileFault}
use Rattle.sno_edit.specs.declared.faults.FileFault.TheVariants.{Cut}
use Rattle.sno_edit.specs.declared.faults.FileFault.TheVariants as fault
use Rattle.sno_edit.specs.Files.{HasCause}
use Rattle.sno_edit.specs.Held.{Held}
use Rattle.sno_pattern.specs.Texts.{byte_text_of}
use Rattle.sno_edit.specs.declared.trials.Trials.{Trials}

-- the place at which a character is cut, by what is known of the two texts
abbrev cut_by : Bool → Bool → ℕ → Option ℕ
cut_by was is place = if was then (if is then None else Some place) else None

ok_is : (a b : Edited) → ◌≡◌ {A = Result Edited FileFault} (Ok a) (Ok b) → a ≡ b
ok_is a b h = cc

-- ---- What is left is UTF-8
uncut : (s : Statement) (was is : Bool) (place : ℕ) (left e : Edited) → unless_cut s (cut_by was is place) left ≡ Ok e → was ≡ true → (is ≡ true) × (left ≡ e)
uncut s true true place left e h known = (refl, ok_is left e h)
uncut s true false place left e h known = cc
uncut s false is place left e h known = cc

left_utf8 : (s : Statement) (e : Edited) (r : Result Rewriting StatementFault) (next : Edited) → left_by s e r ≡ Ok next → is_utf8 e.text ≡ true → is_utf8 next.text ≡ true
left_utf8 s e (Ok done) next h was =
    let text = unwrap_or done.after e.text in
    let both = uncut s (is_utf8 e.text) (is_utf8 text) (utf8_valid_len text) _ next h was in
    ap (λ x. is_utf8 x.text) (sym both.1) ∙ both.0
left_utf8 s e (Err fault) next h was = cc

turn_by : (for_it : Bool) (s : Statement) (e : Edited) (r : Result Rewriting StatementFault) (next : Edited) → (if for_it then left_by s e r else Ok e) ≡ Ok next
    → is_utf8 e.text ≡ true → is_utf8 next.text ≡ true
turn_by true s e r next h was = left_utf8 s e r next h was
turn_by false s e r next h was = subst (λ x. is_utf8 x.text ≡ true) (ok_is e next h) was

turn_utf8 : (path : List ℕ) (trials : Trials) (s : Statement) (e next : Edited) → turn path trials s e ≡ Ok next → is_utf8 e.text ≡ true → is_utf8 next.text ≡ true
turn_utf8 path trials s e next h was = turn_by (is_for path s) s e (rewriting_of trials s e.text) next h was

then_utf8 : (first : Result Edited FileFault) (go_on : Edited → Result Edited FileFault) (last : Edited) → then_on first go_on ≡ Ok last
    → ((e : Edited) → first ≡ Ok e → is_utf8 e.text ≡ true) → ((e : Edited) → go_on e ≡ Ok last → is_utf8 e.text ≡ true → is_utf8 last.text ≡ true) → is_utf8 last.text ≡ true
then_utf8 (Ok e) go_on last h now later = later e h (now e refl)
then_utf8 (Err fault) go_on last h now later = cc

in_turn_utf8 : (path : List ℕ) (trials : Trials) (statements : List Statement) (e last : Edited) → in_turn path trials statements e ≡ Ok last
    → is_utf8 e.text ≡ true → is_utf8 last.text ≡ true
in_turn_utf8 path trials [] e last h was = subst (λ x. is_utf8 x.text ≡ true) (ok_is e last h) was
in_turn_utf8 path trials (s ∷ statements) e last h was =
    then_utf8 (turn path trials s e) (in_turn path trials statements) last h (λ next so. turn_utf8 path trials s e next so was)
    (λ next so is. in_turn_utf8 path trials statements next last so is)

pub edited_utf8 : (rules : FileRules) (path old : List ℕ) (e : Edited) → edited rules path old ≡ Ok e → IsUtf8 old → IsUtf8 e.text
edited_utf8 rules path old e h was =
    IsUtf8-from_is_utf8 e.text (in_turn_utf8 path rules.trials rules.statements (record { text = old; matches = 0 }) e h (is_utf8-from_IsUtf8 old was))

-- ---- Why a character is cut
-- the statements from some on, the first of which cuts a character, or a later one
record IsCutFrom (path : List ℕ) (trials : Trials) (statements : List Statement) (begin : Edited) (cut : CutCharacter) : Type 0 where
  before : List Statement
  s : Statement
  later : List Statement
  e : Edited
  done : Rewriting
  parts : statements ≡ before ++ s ∷ later
  number : cut.statement ≡ s.number
  left : in_turn path trials before begin ≡ Ok e
  would : rewriting_of trials s e.text ≡ Ok done
  was : is_utf8 e.text ≡ true
  is : is_utf8 (unwrap_or done.after e.text) ≡ false
  valid : cut.position ≡ position_of (unwrap_or done.after e.text) (utf8_valid_len (unwrap_or done.after e.text))

-- what a refusal says of the statement that is refused
record IsCutBy (s : Statement) (e : Edited) (r : Result Rewriting StatementFault) (cut : CutCharacter) : Type 0 where
  done : Rewriting
  number : cut.statement ≡ s.number
  would : r ≡ Ok done
  was : is_utf8 e.text ≡ true
  is : is_utf8 (unwrap_or done.after e.text) ≡ false
  valid : cut.position ≡ position_of (unwrap_or done.after e.text) (utf8_valid_len (unwrap_or done.after e.text))

cut_is : (s : Statement) (was is : Bool) (place : ℕ) (left : Edited) (cut : CutCharacter) → unless_cut s (cut_by was is place) left ≡ Err (Cut cut)
    → (was ≡ true) × (is ≡ false) × (cut.statement ≡ s.number) × (cut.position ≡ position_of left.text place)
cut_is s true true place left cut h = cc
cut_is s true false place left cut h = (refl, refl, sym (ap (λ c. c.statement) (cut_same _ cut h)), sym (ap (λ c. c.position) (cut_same _ cut h))) where
  cut_same : (a b : CutCharacter) → ◌≡◌ {A = Result Edited FileFault} (Err (Cut a)) (Err (Cut b)) → a ≡ b
  cut_same a b h = cc
cut_is s false is place left cut h = cc

no_fault_cuts : (number : ℕ) (fault : StatementFault) (cut : CutCharacter) → of_refused (record { statement = number; fault = in_file fault }) ≡ Cut cut → ⊥
no_fault_cuts number statement.Memory cut h = cc
no_fault_cuts number statement.TextTooLong cut h = cc
no_fault_cuts number statement.TooManyTrials cut h = cc

err_is : (a b : FileFault) → ◌≡◌ {A = Result Edited FileFault} (Err a) (Err b) → a ≡ b
err_is a b h = cc

left_cut : (s : Statement) (e : Edited) (r : Result Rewriting StatementFault) (cut : CutCharacter) → left_by s e r ≡ Err (Cut cut) → IsCutBy s e r cut
left_cut s e (Ok done) cut h =
    let text = unwrap_or done.after e.text in
    let all = cut_is s (is_utf8 e.text) (is_utf8 text) (utf8_valid_len text) _ cut h in
    record { done = done; number = all.2; would = refl; was = all.0; is = all.1; valid = all.3 }
left_cut s e (Err fault) cut h = absurd (no_fault_cuts s.number fault cut (err_is _ _ h))

turn_cut : (for_it : Bool) (s : Statement) (e : Edited) (r : Result Rewriting StatementFault) (cut : CutCharacter) → (if for_it then left_by s e r else Ok e) ≡ Err (Cut cut)
    → IsCutBy s e r cut
turn_cut true s e r cut h = left_cut s e r cut h
turn_cut false s e r cut h = cc

-- what comes of the first, and then of the others
record IsCutThen (first : Result Edited FileFault) (go_on : Edited → Result Edited FileFault) (cut : CutCharacter) : Type 0 where
  next : Edited
  first_is : first ≡ Ok next
  then_is : go_on next ≡ Err (Cut cut)

data Either (A B : Type 0) : Type 0 where
  Now : A → Either A B
  Later : B → Either A B

then_cut : (first : Result Edited FileFault) (go_on : Edited → Result Edited FileFault) (cut : CutCharacter) → then_on first go_on ≡ Err (Cut cut)
    → Either (first ≡ Err (Cut cut)) (IsCutThen first go_on cut)
then_cut (Ok e) go_on cut h = Later (record { next = e; first_is = refl; then_is = h })
then_cut (Err fault) go_on cut h = Now h

cut_now : (path : List ℕ) (trials : Trials) (s : Statement) (statements : List Statement) (begin : Edited) (cut : CutCharacter)
    → IsCutBy s begin (rewriting_of trials s begin.text) cut → IsCutFrom path trials (s ∷ statements) begin cut
cut_now path trials s statements begin cut by = record {
  before = [];
  s = s;
  later = statements;
  e = begin;
  done = by.done;
  parts = refl;
  number = by.number;
  left = refl;
  would = by.would;
  was = by.was;
  is = by.is;
  valid = by.valid;
}

cut_later : (path : List ℕ) (trials : Trials) (s : Statement) (statements : List Statement) (begin next : Edited) (cut : CutCharacter)
    → turn path trials s begin ≡ Ok next → IsCutFrom path trials statements next cut → IsCutFrom path trials (s ∷ statements) begin cut
cut_later path trials s statements begin next cut first by = record {
  before = s ∷ by.before;
  s = by.s;
  later = by.later;
  e = by.e;
  done = by.done;
  parts = ap (λ t. s ∷ t) by.parts;
  number = by.number;
  left = ap (λ t. then_on t (in_turn path trials by.before)) first ∙ by.left;
  would = by.would;
  was = by.was;
  is = by.is;
  valid = by.valid;
}

in_turn_cut : (path : List ℕ) (trials : Trials) (statements : List Statement) (begin : Edited) (cut : CutCharacter)
    → in_turn path trials statements begin ≡ Err (Cut cut) → IsCutFrom path trials statements begin cut
in_turn_cut path trials [] begin cut h = cc
in_turn_cut path trials (s ∷ statements) begin cut h =
    by (then_cut (turn path trials s begin) (in_turn path trials statements) cut h)
    (λ next so. in_turn_cut path trials statements next cut so) where
      by : Either (turn path trials s begin ≡ Err (Cut cut)) (IsCutThen (turn path trials s begin) (in_turn path trials statements) cut)
          → ((next : Edited) → in_turn path trials statements next ≡ Err (Cut cut) → IsCutFrom path trials statements next cut)
          → IsCutFrom path trials (s ∷ statements) begin cut
      by (Now is) again = cut_now path trials s statements begin cut (turn_cut (is_for path s) s begin (rewriting_of trials s begin.text) cut is)
      by (Later more) again = cut_later path trials s statements begin more.next cut more.first_is (again more.next more.then_is)

pub edited_cut : (rules : FileRules) (path old : List ℕ) (cut : CutCharacter) → edited rules path old ≡ Err (Cut cut) → IsCut rules path old cut
edited_cut rules path old cut h =
    let by = in_turn_cut path rules.trials rules.statements (record { text = old; matches = 0 }) cut h in
    record {
      before = by.before;
      s = by.s;
      later = by.later;
      e = by.e;
      done = by.done;
      statements = by.parts;
      number = by.number;
      left = by.left;
      would = by.would;
      was = IsUtf8-from_is_utf8 by.e.text by.was;
      never = λ is. true≢false (sym (is_utf8-from_IsUtf8 (unwrap_or by.done.after by.e.text) is) ∙ by.is);
      valid = by.valid;
    }

-- ---- Which refusals there are
-- a statement is refused, or it cuts a character; else memory ran out
abbrev IsRefusal : FileFault → Type 0
IsRefusal fault.TooLong = ⊥
IsRefusal (fault.Refused refused) = Unit {0}
IsRefusal (fault.Cut cut) = Unit {0}
IsRefusal (fault.Unread kind) = ⊥
IsRefusal (fault.Unwritten kind) = ⊥
IsRefusal fault.Memory = Unit {0}

unless_refusal : (s : Statement) (at : Option ℕ) (left : Edited) (e : FileFault) → unless_cut s at left ≡ Err e → IsRefusal e
unless_refusal s None left e h = cc
unless_refusal s (Some place) left e h = subst IsRefusal (err_is _ e h) tt

fault_refusal : (number : ℕ) (f : StatementFault) → IsRefusal (of_refused (record { statement = number; fault = in_file f }))
fault_refusal number statement.Memory = tt
fault_refusal number statement.TextTooLong = tt
fault_refusal number statement.TooManyTrials = tt

left_refusal : (s : Statement) (e : Edited) (r : Result Rewriting StatementFault) (f : FileFault) → left_by s e r ≡ Err f → IsRefusal f
left_refusal s e (Ok done) f h = unless_refusal s _ _ f h
left_refusal s e (Err fault) f h = subst IsRefusal (err_is _ f h) (fault_refusal s.number fault)

turn_refusal : (for_it : Bool) (s : Statement) (e : Edited) (r : Result Rewriting StatementFault) (f : FileFault) → (if for_it then left_by s e r else Ok e) ≡ Err f → IsRefusal f
turn_refusal true s e r f h = left_refusal s e r f h
turn_refusal false s e r f h = cc

then_refusal : (first : Result Edited FileFault) (go_on : Edited → Result Edited FileFault) (f : FileFault) → then_on first go_on ≡ Err f
    → (first ≡ Err f → IsRefusal f) → ((e : Edited) → go_on e ≡ Err f → IsRefusal f) → IsRefusal f
then_refusal (Ok e) go_on f h now later = later e h
then_refusal (Err fault) go_on f h now later = now h

in_turn_refusal : (path : List ℕ) (trials : Trials) (statements : List Statement) (e : Edited) (f : FileFault) → in_turn path trials statements e ≡ Err f → IsRefusal f
in_turn_refusal path trials [] e f h = cc
in_turn_refusal path trials (s ∷ statements) e f h =
    then_refusal (turn path trials s e) (in_turn path trials statements) f h
    (λ is. turn_refusal (is_for path s) s e (rewriting_of trials s e.text) f is)
    (λ next so. in_turn_refusal path trials statements next f so)

-- why the file is not edited
pub refusal_cause : (rules : FileRules) (path : List ℕ) (before : Held) (old : List ℕ) (e : FileFault) → before path old → byte_text_of old ≡ Ok old
    → (follows e → edited rules path old ≡ Err e) → HasCause rules path before e
refusal_cause rules path before old fault.TooLong held text h = absurd (in_turn_refusal path rules.trials rules.statements _ _ (h tt))
refusal_cause rules path before old (fault.Refused refused) held text h = λ so. (old, held, text, h so)
refusal_cause rules path before old (fault.Cut cut) held text h = (old, held, text, h tt, edited_cut rules path old cut (h tt))
refusal_cause rules path before old (fault.Unread kind) held text h = tt
refusal_cause rules path before old (fault.Unwritten kind) held text h = absurd (in_turn_refusal path rules.trials rules.statements _ _ (h tt))
refusal_cause rules path before old fault.Memory held text h = tt
