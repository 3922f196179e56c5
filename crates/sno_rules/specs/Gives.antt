-- What the calls give: what is wanted, or out of memory.
use Rattle.std.specs.Prelude.{◌≡◌, ◌≢◌, ℕ, List, [], length, Option, Some, None, Result, Ok, Err}
use Rattle.std.specs.Borrow.{Bor}
use Rattle.std.proofs.Common.{Global, Vec}
use Rattle.sno_rules.specs.declared.names.SetName.{SetName}
use Rattle.sno_rules.specs.declared.calls.SetWord.{SetWord}
use Rattle.sno_rules.specs.declared.spelling.Spelling.{Spelling as StoredSpelling}
use Rattle.sno_rules.specs.declared.faults.SpellingFault.{SpellingFault}
use Rattle.sno_rules.specs.declared.faults.SpellingFault.TheVariants.{Memory}
use Rattle.sno_rules.specs.Spelling.{IsCall, IsJoined, IsSpelled, IsStep, Part, Spelled, nothing_spelled, spelling_seen}

abbrev pub Gives : {X Y : Type 0} → (X → Y) → Result X SpellingFault → Result Y SpellingFault → Type 0
Gives view (Ok x) wanted = wanted ≡ Ok (view x)
Gives view (Err e) wanted = e ≢ Memory → wanted ≡ Err e

abbrev pub part_seen : Bor (List ℕ) × Bor (List ℕ) → List ℕ × List ℕ
part_seen p = (p.0.now, p.1.now)

abbrev pub JoinedGives : List SetName → ℕ → List ℕ → Result (Vec ℕ Global × Bor (List ℕ)) SpellingFault → Type 0
JoinedGives names total text (Ok p) = IsJoined names total [] text (Ok (p.0.items, p.1.now))
JoinedGives names total text (Err e) = e ≢ Memory → IsJoined names total [] text (Err e)

abbrev pub GivesCall : List SetName → ℕ → Spelled → Spelled → ℕ → SetWord → List ℕ → Result (Bor (List ℕ)) SpellingFault → Type 0
GivesCall names total before after place w text (Ok rest) = IsCall names total before place w text (Ok (after, rest.now))
GivesCall names total before after place w text (Err e) = e ≢ Memory → IsCall names total before place w text (Err e)

abbrev pub GivesStep : List SetName → ℕ → Spelled → Spelled → List ℕ → Result (Bor (List ℕ)) SpellingFault → Type 0
GivesStep names total before after text (Ok rest) = IsStep names total before text (Ok (after, rest.now))
GivesStep names total before after text (Err e) = e ≢ Memory → IsStep names total before text (Err e)

abbrev pub GivesSpelled : List SetName → List ℕ → Result StoredSpelling SpellingFault → Type 0
GivesSpelled names written (Ok s) = IsSpelled names (length written) nothing_spelled written (Ok (spelling_seen s))
GivesSpelled names written (Err e) = e ≢ Memory → IsSpelled names (length written) nothing_spelled written (Err e)

-- A definition is a set with these members, or none: its parts are all joined, or something is left, or one of them is none.
abbrev pub IsSet : List SetName → List ℕ → Option (List ℕ) → Type 0
IsSet names written (Some members) = IsJoined names (length written) [] written (Ok (members, []))
IsSet names written None = (joined : Part) × IsJoined names (length written) [] written joined × ((members : List ℕ) → joined ≡ Ok (members, []) → ⊥)
