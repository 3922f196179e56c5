-- Records that are performed again, until one of them can't be.
use Rattle.std.proofs.Common.{◌≡◌, ◌⊎◌, ℕ, true, false, List, ◌∷◌, Option, Some, inl, inr, refl, ap, sym, subst, ◌∙◌}
use Rattle.std.specs.Option.{option_map}
use Rattle.std.specs.Prelude.{IfErr, Result, Ok, Err, string_bytes}
use Rattle.sno_book.specs.Openings.{Opening}
use Rattle.sno_desk.specs.Turns.{Position}
use Rattle.serde_json.specs.Data.{Data}
use Rattle.serde_json.specs.View.{view}
use Rattle.sno_listing.specs.declared.refusals.Refusal.{Refusal}
use Rattle.sno_serve.specs.Asked.{id_in}
use Rattle.sno_serve.specs.declared.asked.Asked.{Asked}
use Rattle.sno_durable.specs.Sought.{IsRepliedOn}
use Rattle.sno_store.specs.declared.lines.LinesIter.{LinesIter}
use Rattle.sno_store.specs.Shown.{GivesLine, lines_left}
use Rattle.sno_durable.specs.Faults.{is_of_record}
use Rattle.sno_durable.specs.Origins.{IsMeant}
use Rattle.sno_durable.specs.Performed.{IsRecordOf, IsText, asked_of}
use Rattle.sno_durable.specs.Records.{record_text}
use Rattle.sno_durable.specs.Replayed.{HasCause, HasEnded, HasOtherOutcome, HasStopped, IsFault, RecordSaid, next_line, record_in, record_seen}
use Rattle.sno_durable.specs.Stored.{later_lines}
use Rattle.sno_durable.specs.declared.earlier.Reading.{Reading}
use Rattle.sno_durable.specs.declared.faults.DurableFault.{DurableFault}
use Rattle.sno_durable.specs.declared.faults.DurableFault.TheVariants as fault
use Rattle.sno_durable.specs.declared.records.Origin.{Origin}
use Rattle.sno_durable.specs.declared.records.Record.{Record}
use Rattle.sno_durable.proofs.Storing.{rest_given}

-- the next one can't be
pub ended_here : (reading : Reading) (opening : Opening) (place at : ℕ) (before after : Position) (bytes : List ℕ) (all later : List (List ℕ)) (e : DurableFault) → all ≡ bytes ∷ later
    → at ≡ next_line place → IsFault reading opening before after at bytes e → HasEnded reading opening place before all after e
ended_here reading opening place at before after bytes all later e is there h =
    subst (λ (l : List (List ℕ)). HasEnded reading opening place before l after e) (sym is) (inl (subst (λ (n : ℕ). IsFault reading opening before after n bytes e) there h))

-- the next one was performed, and a later one can't be
pub ended_later : (reading : Reading) (opening : Opening) (place at : ℕ) (before between after : Position) (bytes : List ℕ) (all later : List (List ℕ)) (e : DurableFault) → all ≡ bytes ∷ later
    → at ≡ next_line place → IsRecordOf reading opening before.seen between.seen bytes → HasEnded reading opening at between later after e → HasEnded reading opening place before all after e
ended_later reading opening place at before between after bytes all later e is there one more =
    subst (λ (l : List (List ℕ)). HasEnded reading opening place before l after e) (sym is)
    (inr (between, one, subst (λ (n : ℕ). HasEnded reading opening n between later after e) there more))

-- a fault of another kind says nothing of records
pub not_stopped : (reading : Reading) (opening : Opening) (records : List (List ℕ)) (e : DurableFault) → is_of_record e ≡ false → HasStopped reading opening records e
not_stopped reading opening records e other is = absurd (true_is_false (sym is ∙ other))
  where
    true_is_false : true ≡ false → ⊥
    true_is_false h = cc h

pub memory_stops : (reading : Reading) (opening : Opening) (records : List (List ℕ)) (e : DurableFault) → e ≡ fault.Memory → HasStopped reading opening records e
memory_stops reading opening records e is = not_stopped reading opening records e (ap is_of_record is)

-- the first line was given, and the records are the others
pub stopped_so : (reading begun : Reading) (opening : Opening) (before after : Position) (all : List (List ℕ)) (iter : LinesIter) (line : Option (List ℕ)) (rest : LinesIter) (e : DurableFault)
    → begun ≡ reading → lines_left iter ≡ all → GivesLine iter line rest → HasEnded begun opening 1 before (lines_left rest) after e → HasStopped reading opening (later_lines all) e
stopped_so reading begun opening before after all iter line rest e same is gives h = λ t. (
  before,
  after,
  subst (λ (r : Reading). HasEnded r opening 1 before (later_lines all) after e) same
      (subst (λ (l : List (List ℕ)). HasEnded begun opening 1 before l after e) (rest_given iter line rest all is gives) h),
)

-- what follows from a result follows if it is a fault
pub err_map : {A E : Type 0} (r : Result A E) (P Q : E → Type 0) → ((e : E) → P e → Q e) → IfErr r P → IfErr r Q
err_map (Ok x) P Q f h = h
err_map (Err e) P Q f h = f e h

-- the same, as it is given back
pub cause_left : {E : Type 0} (r now : Result E DurableFault) (origin origin_now : Origin) (reading : Reading) (opening opening_now : Opening) (lines lines_then : List (List ℕ))
    → now ≡ r → origin_now ≡ origin → opening_now ≡ opening → lines_then ≡ lines → IsMeant origin reading opening
    → IfErr r (HasStopped reading opening (later_lines lines_then)) → IfErr now (HasCause origin_now opening_now (later_lines lines))
cause_left {E} r now origin origin_now reading opening opening_now lines lines_then is_r is_origin is_opening is_lines meant stopped =
    subst (λ (x : Result E DurableFault). IfErr x (HasCause origin_now opening_now (later_lines lines))) (sym is_r)
    (subst (λ (o : Origin). IfErr r (HasCause o opening_now (later_lines lines))) (sym is_origin)
    (subst (λ (o : Opening). IfErr r (HasCause origin o (later_lines lines))) (sym is_opening)
    (err_map r (HasStopped reading opening (later_lines lines_then)) (HasCause origin opening (later_lines lines))
    (λ e h. (reading, meant, subst (λ (l : List (List ℕ)). HasStopped reading opening (later_lines l) e) is_lines h)) stopped)))

-- a statement that was performed again has another outcome
pub other_made : (reading : Reading) (opening : Opening) (before after : Position) (bytes text : List ℕ) (said : RecordSaid) (id : Option Data) (asked : Asked) (d : Data) (refused : Option Refusal)
    → record_in bytes ≡ Some said → id ≡ id_in said.line → asked ≡ asked_of reading said.number said.line
    → IsRepliedOn reading.past.entries (view reading.past.versions) 1 opening before.seen after.seen id asked d refused → IsText d text
    → (after.accepted ≡ before.accepted) ⊎ ¬ (bytes ≡ record_text said.line text) → HasOtherOutcome reading opening before after bytes
other_made reading opening before after bytes text said id asked d refused is id_is asked_is replied written other = record {
  said = said;
  is = is;
  reply = d;
  refused = refused;
  replied = subst (λ (a : Asked). IsRepliedOn reading.past.entries (view reading.past.versions) 1 opening before.seen after.seen (id_in said.line) a d refused) asked_is
      (subst (λ (i : Option Data). IsRepliedOn reading.past.entries (view reading.past.versions) 1 opening before.seen after.seen i asked d refused) id_is replied);
  text = text;
  written = written;
  other = other;
}

-- the same, by the steps of a seat: the record was read, its line asked, and the line's reply written
pub outcome_other : (reading : Reading) (opening : Opening) (before after : Position) (place : ℕ) (bytes line text : List ℕ) (read : Option Record) (stored : Record) (id : Option Data)
    (asked : Asked) (d : Data) (refused : Option Refusal) → option_map record_seen read ≡ record_in bytes → read ≡ Some stored → line ≡ string_bytes stored.line → id ≡ id_in line
    → asked ≡ asked_of reading stored.number line → IsRepliedOn reading.past.entries (view reading.past.versions) 1 opening before.seen after.seen id asked d refused → IsText d text
    → (after.accepted ≡ before.accepted) ⊎ ¬ (bytes ≡ record_text line text) → IsFault reading opening before after place bytes (fault.Outcome place)
outcome_other reading opening before after place bytes line text read stored id asked d refused says is line_is id_is asked_is replied written other =
    inr (inr (
      refl,
      other_made reading opening before after bytes text (record_seen stored) id asked d refused (sym says ∙ ap (option_map record_seen) is) (id_is ∙ ap id_in line_is)
          (asked_is ∙ ap (asked_of reading stored.number) line_is) replied written
          (subst (λ (l : List ℕ). (after.accepted ≡ before.accepted) ⊎ ¬ (bytes ≡ record_text l text)) line_is other),
    ))
