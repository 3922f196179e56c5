-- Laws of the grammar.
use Rattle.std.specs.Prelude.{◌≡◌, ◌≢◌, ℕ, List, Err}
use Rattle.sno_pattern.specs.Tree.{Tree}
use Rattle.sno_read.specs.declared.objects.Part.{Part}
use Rattle.sno_read.specs.declared.faults.ReadFault.TheVariants as fault
use Rattle.sno_read.specs.Reading.{pattern_of, rule_pattern_of}
use Rattle.sno_read.specs.Objects.{object_of, rule_object_of}
use Rattle.sno_read.specs.Grammar.{Spells, SpellsRule}
use Rattle.sno_read.specs.ObjectGrammar.{SpellsObject, SpellsRuleObject}

-- no text spells two trees
abbrev pub OneTree : Type 0
OneTree = (names : List (List ℕ)) (earlier : ℕ) (text : List ℕ) (t u : Tree) → Spells names earlier text t → Spells names earlier text u → t ≡ u

-- no text spells two objects
abbrev pub OneObject : Type 0
OneObject = (names : List (List ℕ)) (text : List ℕ) (ps qs : List Part) → SpellsObject names text ps → SpellsObject names text qs → ps ≡ qs

-- no text has the fault `Memory`, which comes only from the machine
abbrev pub MemoryIsNoFault : Type 0
MemoryIsNoFault =
    ((names : List (List ℕ)) (earlier : ℕ) (text : List ℕ) → pattern_of names earlier text ≢ Err fault.Memory)
    × ((names : List (List ℕ)) (text : List ℕ) → object_of names text ≢ Err fault.Memory)

-- no text of a rule spells two trees
abbrev pub OneRuleTree : Type 0
OneRuleTree = (names : List (List ℕ)) (earlier : ℕ) (text : List ℕ) (t u : Tree) → SpellsRule names earlier text t → SpellsRule names earlier text u → t ≡ u

-- no text of a rule spells two objects
abbrev pub OneRuleObject : Type 0
OneRuleObject = (names : List (List ℕ)) (text : List ℕ) (ps qs : List Part) → SpellsRuleObject names text ps → SpellsRuleObject names text qs → ps ≡ qs

-- no text of a rule has the fault `Memory`
abbrev pub MemoryIsNoRuleFault : Type 0
MemoryIsNoRuleFault =
    ((names : List (List ℕ)) (earlier : ℕ) (text : List ℕ) → rule_pattern_of names earlier text ≢ Err fault.Memory)
    × ((names : List (List ℕ)) (text : List ℕ) → rule_object_of names text ≢ Err fault.Memory)
