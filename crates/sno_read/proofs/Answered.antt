-- The results of a public call, compared with the grammars.
use Rattle.std.proofs.Common.{ℕ, List, Result, Ok, Err, IfOk, subst}
use Rattle.sno_pattern.specs.Tree.{Tree, tree_of}
use Rattle.sno_pattern.specs.declared.tree.Pattern.{Pattern}
use Rattle.sno_read.specs.declared.faults.ReadFault.{ReadFault}
use Rattle.sno_read.specs.declared.objects.Part.{Part}
use Rattle.sno_read.specs.Gives.{Returns}
use Rattle.sno_read.specs.Grammar.{Spells, SpellsRule}
use Rattle.sno_read.specs.ObjectGrammar.{SpellsObject, SpellsRuleObject}
use Rattle.sno_read.specs.Reading.{pattern_of, rule_pattern_of}
use Rattle.sno_read.specs.Objects.{object_of, rule_object_of}
use Rattle.sno_read.proofs.SoundTexts.{pattern_sound, rule_pattern_sound}
use Rattle.sno_read.proofs.CompleteTexts.{pattern_again, rule_pattern_again}
use Rattle.sno_read.proofs.ObjectTexts.{object_sound, object_again, rule_object_sound, rule_object_again}

pub pattern_found : (names : List (List ℕ)) (earlier : ℕ) (text : List ℕ) (r : Result Pattern ReadFault) → Returns tree_of r (pattern_of names earlier text) → IfOk r (λ p. Spells names earlier text (tree_of p))
pattern_found names earlier text (Ok p) h = pattern_sound names earlier text (tree_of p) h
pattern_found names earlier text (Err e) h = tt

pub pattern_only : (names : List (List ℕ)) (earlier : ℕ) (text : List ℕ) (r : Result Pattern ReadFault) → Returns tree_of r (pattern_of names earlier text) → (t : Tree) → Spells names earlier text t → Returns tree_of r (Ok t)
pattern_only names earlier text r h t s = subst (λ (z : Result Tree ReadFault). Returns tree_of r z) (pattern_again names earlier text t s) h

pub object_found : (names : List (List ℕ)) (text : List ℕ) (r : Result (List Part) ReadFault) → Returns (λ (o : List Part). o) r (object_of names text) → IfOk r (λ o. SpellsObject names text o)
object_found names text (Ok o) h = object_sound names text o h
object_found names text (Err e) h = tt

pub object_only : (names : List (List ℕ)) (text : List ℕ) (r : Result (List Part) ReadFault) → Returns (λ (o : List Part). o) r (object_of names text) → (ps : List Part) → SpellsObject names text ps → Returns (λ (o : List Part). o) r (Ok ps)
object_only names text r h ps s = subst (λ (z : Result (List Part) ReadFault). Returns (λ (o : List Part). o) r z) (object_again names text ps s) h

pub rule_pattern_found : (names : List (List ℕ)) (earlier : ℕ) (text : List ℕ) (r : Result Pattern ReadFault) → Returns tree_of r (rule_pattern_of names earlier text) → IfOk r (λ p. SpellsRule names earlier text (tree_of p))
rule_pattern_found names earlier text (Ok p) h = rule_pattern_sound names earlier text (tree_of p) h
rule_pattern_found names earlier text (Err e) h = tt

pub rule_pattern_only : (names : List (List ℕ)) (earlier : ℕ) (text : List ℕ) (r : Result Pattern ReadFault) → Returns tree_of r (rule_pattern_of names earlier text) → (t : Tree) → SpellsRule names earlier text t → Returns tree_of r (Ok t)
rule_pattern_only names earlier text r h t s = subst (λ (z : Result Tree ReadFault). Returns tree_of r z) (rule_pattern_again names earlier text t s) h

pub rule_object_found : (names : List (List ℕ)) (text : List ℕ) (r : Result (List Part) ReadFault) → Returns (λ (o : List Part). o) r (rule_object_of names text) → IfOk r (λ o. SpellsRuleObject names text o)
rule_object_found names text (Ok o) h = rule_object_sound names text o h
rule_object_found names text (Err e) h = tt

pub rule_object_only : (names : List (List ℕ)) (text : List ℕ) (r : Result (List Part) ReadFault) → Returns (λ (o : List Part). o) r (rule_object_of names text) → (ps : List Part) → SpellsRuleObject names text ps → Returns (λ (o : List Part). o) r (Ok ps)
rule_object_only names text r h ps s = subst (λ (z : Result (List Part) ReadFault). Returns (λ (o : List Part). o) r z) (rule_object_again names text ps s) h
