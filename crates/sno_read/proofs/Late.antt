-- When memory is needed.
use Rattle.std.proofs.Common.{◌≡◌, ℕ, suc, true, false, List, [], length, nat_eq, Result, Ok, Err, ap, ◌∙◌, arith}
use Rattle.sno_read.specs.declared.faults.ReadFault.{ReadFault}
use Rattle.sno_read.specs.declared.faults.ReadFault.TheVariants as fault
use Rattle.sno_read.specs.Gives.{◌>>=◌, Returns, OnOutOfMemory}
use Rattle.sno_read.specs.Characters.{skip}
use Rattle.sno_read.specs.Reading.{Env, short_text, short_ascii}
use Rattle.sno_read.specs.Objects.{parts_of, object_of, rule_object_of}
use Rattle.sno_read.proofs.Parts.{end_step}

-- a fault that the reading finds isn't `Memory`
pub fault_is_found : (X : Type 0) {Y : Type 0} (holds : Type 0) (reading : Result Y ReadFault) (e : ReadFault) → (reading ≡ Err fault.Memory → ⊥) → reading ≡ Err e → OnOutOfMemory {X = X} (Err e) holds
fault_is_found X holds reading fault.Memory h g = absurd (h g)
fault_is_found X holds reading (fault.Empty i) h g = tt
fault_is_found X holds reading (fault.OpenQuote i) h g = tt
fault_is_found X holds reading (fault.Unexpected i) h g = tt
fault_is_found X holds reading (fault.BadNumber i) h g = tt
fault_is_found X holds reading (fault.UnknownName i) h g = tt
fault_is_found X holds reading (fault.EmptySet i) h g = tt
fault_is_found X holds reading (fault.TooDeep i) h g = tt
fault_is_found X holds reading (fault.TooLong i) h g = tt
fault_is_found X holds reading (fault.ReservedTarget i) h g = tt
fault_is_found X holds reading (fault.NonAscii i) h g = tt

-- a text with a fault spells nothing
pub fault_spells_nothing : (X : Type 0) {Y : Type 0} (view : X → Y) (y : Y) (reading : Result Y ReadFault) (e : ReadFault) → reading ≡ Ok y → reading ≡ Err e → Returns view (Err e) (Ok y)
fault_spells_nothing X view y (Ok x) e h g = cc
fault_spells_nothing X view y (Err d) e h g = cc

-- blanks alone are the object of no parts
pub blank_object : (names : List (List ℕ)) (text t : List ℕ) → short_ascii text ≡ Ok t → nat_eq (length (skip t)) 0 ≡ true → object_of names text ≡ Ok []
unfolding object_of
blank_object names text t h g =
    let env : Env = record { names = names; earlier = 0; total = length text; in_rule = false } in
    ap (λ r. r >>= λ z. parts_of env (suc (length (skip z))) (skip z)) h ∙ end_step env (suc (length (skip t))) (skip t) (length (skip t)) (omega arith) g

pub blank_rule_object : (names : List (List ℕ)) (text t : List ℕ) → short_text text ≡ Ok t → nat_eq (length (skip t)) 0 ≡ true → rule_object_of names text ≡ Ok []
unfolding rule_object_of
blank_rule_object names text t h g =
    let env : Env = record { names = names; earlier = 0; total = length text; in_rule = true } in
    ap (λ r. r >>= λ z. parts_of env (suc (length (skip z))) (skip z)) h ∙ end_step env (suc (length (skip t))) (skip t) (length (skip t)) (omega arith) g
