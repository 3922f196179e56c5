-- What a store was made of, by its lines.
use Rattle.std.proofs.Common.{◌≡◌, ◌≤◌, ◌^◌, ℕ, Bool, true, false, cond, nat_lt, refl, ap, arith, if◌then◌else◌, List, [], ◌∷◌, Option, Some, None, sym, subst, ◌∙◌, inl, inr}
use Rattle.std.specs.Prelude.{option_and_then}
use Rattle.std.proofs.lemmas.Bool.{ltb-false}
use Rattle.std.specs.Option.{option_map}
use Rattle.std.specs.Str.{is_utf8}
use Rattle.serde_json.specs.Data.{Data}
use Rattle.serde_json.specs.Read.{read}
use Rattle.sno_book.specs.Openings.{Opening}
use Rattle.sno_document.specs.declared.modes.Mode.{Mode}
use Rattle.sno_statement.specs.Statement.{IsLimit}
use Rattle.sno_store.specs.declared.lines.LinesIter.{LinesIter}
use Rattle.sno_store.specs.Shown.{GivesLine, lines_left}
use Rattle.sno_durable.specs.Compacted.{made_of}
use Rattle.sno_durable.specs.Origins.{IsGiven, IsMadeOf, IsMeant, IsOriginFault, IsStartFault, OriginSaid, before_seen, bytes_given, origin_by, origin_in, origin_said, origin_seen, small}
use Rattle.sno_durable.specs.Records.{origin_data}
use Rattle.sno_durable.specs.Stored.{IsFirst}
use Rattle.sno_durable.specs.declared.earlier.Reading.{Reading}
use Rattle.sno_durable.specs.declared.faults.DurableFault.{DurableFault}
use Rattle.sno_durable.specs.declared.faults.DurableFault.TheVariants as fault
use Rattle.sno_durable.specs.declared.records.Before.{Before}
use Rattle.sno_durable.specs.declared.records.Origin.{Origin}
use Rattle.sno_durable.specs.declared.service.Given.{Given}

-- there is a first line
pub made_first : (origin : Origin) (first : List ℕ) (all : List (List ℕ)) (old new : LinesIter) → lines_left old ≡ all → GivesLine old (Some first) new
    → origin_in first ≡ Some (origin_seen origin) → IsMadeOf origin all
made_first origin first all old new are gives said = subst (λ (l : List (List ℕ)). IsMadeOf origin l) (sym gives ∙ are) said

pub fault_first : (given : Given) (first : List ℕ) (all : List (List ℕ)) (old new : LinesIter) (e : DurableFault) → lines_left old ≡ all → GivesLine old (Some first) new
    → IsOriginFault (bytes_given given.document) given.trials first e → IsStartFault given all e
fault_first given first all old new e are gives h = subst (λ (l : List (List ℕ)). IsStartFault given l e) (sym gives ∙ are) h

-- there is no line
pub made_new : (origin : Origin) (all : List (List ℕ)) (old new : LinesIter) → lines_left old ≡ all → GivesLine old None new → origin.before ≡ None → IsMadeOf origin all
made_new origin all old new are gives none = subst (λ (l : List (List ℕ)). IsMadeOf origin l) (sym gives.0 ∙ are) none

pub fault_new : (given : Given) (all : List (List ℕ)) (old new : LinesIter) (e : DurableFault) → lines_left old ≡ all → GivesLine old None new → e ≡ fault.NoDocument
    → bytes_given given.document ≡ None → IsStartFault given all e
fault_new given all old new e are gives is none = subst (λ (l : List (List ℕ)). IsStartFault given l e) (sym gives.0 ∙ are) (is, none)

-- what was read of a first line is what it says
said_so : (first : List ℕ) (read : Option Origin) (origin : Origin) → option_map origin_seen read ≡ origin_in first → read ≡ Some origin → origin_in first ≡ Some (origin_seen origin)
said_so first read origin says is = sym says ∙ ap (option_map origin_seen) is

-- another document is given
pub other_document : (document : Option (List ℕ)) (trials : Option ℕ) (first : List ℕ) (read : Option Origin) (origin : Origin) (bytes : List ℕ)
    → option_map origin_seen read ≡ origin_in first → read ≡ Some origin → bytes ≡ made_of origin.document.items origin.before → ¬ IsGiven document bytes
    → IsOriginFault document trials first fault.OtherDocument
other_document document trials first read origin bytes says is are other =
    inr (inr (origin, said_so first read origin says is, inl (refl, λ given. other (subst (λ (l : List ℕ). IsGiven document l) (sym are) given))))

-- another limit of trials is given
pub other_trials : (document : Option (List ℕ)) (trials : Option ℕ) (first : List ℕ) (read : Option Origin) (origin : Origin)
    → option_map origin_seen read ≡ origin_in first → read ≡ Some origin → ¬ IsGiven trials origin.trials
    → IsOriginFault document trials first (fault.OtherTrials origin.trials)
other_trials document trials first read origin says is other = inr (inr (origin, said_so first read origin says is, inr (refl, other)))

by_utf8 : (b : Bool) (d : Option Data) (o : OriginSaid) → option_and_then origin_said (cond b d None) ≡ Some o → option_and_then origin_said d ≡ Some o
by_utf8 true d o h = h
by_utf8 false d o h = cc

small_is : (n : ℕ) → IsLimit n → small n ≡ Some n
small_is n limit = by_test (nat_lt n (2 ^ 32)) refl
  where
    by_test : (b : Bool) → nat_lt n (2 ^ 32) ≡ b → (if b then Some n else None) ≡ Some n
    by_test true is = refl
    by_test false is =
        let few : n ≤ 1000000000 = limit.1 in
        let many : 2 ^ 32 ≤ n = ltb-false n (2 ^ 32) is in
        let none : ⊥ = omega (arith, few, many) in
        absurd none

new_said : (document : List ℕ) (trials : ℕ) → IsLimit trials → origin_said (origin_data document trials) ≡ Some (record { document = document; trials = trials; before = None })
new_said document trials limit = ap (λ (n : Option ℕ). origin_by true (Some document) n None) (small_is trials limit)

-- the first line of a store says what it was made of
pub first_said : (origin : Origin) (lines : List (List ℕ)) (line : List ℕ) → IsLimit origin.trials → IsMadeOf origin lines → IsFirst origin lines line
    → option_and_then origin_said (read line) ≡ Some (origin_seen origin)
first_said origin [] line limit none is =
    ap (option_and_then origin_said) is ∙ new_said origin.document.items origin.trials limit
    ∙ ap (λ (b : Option Before). Some (record { document = origin.document.items; trials = origin.trials; before = option_map before_seen b })) (sym none)
first_said origin (first ∷ later) line limit said is =
    subst (λ (l : List ℕ). option_and_then origin_said (read l) ≡ Some (origin_seen origin)) (sym is) (by_utf8 (is_utf8 first) (read first) (origin_seen origin) said)

-- the limit of trials is one
pub limit_of : (origin : Origin) (reading : Reading) (opening : Opening) → IsMeant origin reading opening → IsLimit origin.trials
limit_of origin reading opening meant = subst (λ (m : Mode). IsLimit m.trials) meant.mode reading.limit
