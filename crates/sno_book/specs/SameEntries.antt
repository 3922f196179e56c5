-- Whether two statements, two outcomes and two entries are the same. It is proved that they are the same exactly if
-- they are equal.
use Rattle.std.specs.Prelude.{ℕ, Bool, false, ◌&&◌, List, Option, nat_eq}
use Rattle.std.specs.Option.{option_eq}
use Rattle.std.specs.Cmp.Lexicographic.{pointwise}
use Rattle.std.proofs.Math.Bool.{beq}
use Rattle.sno_pattern.specs.Identifiers.{same}
use Rattle.sno_pattern.specs.Definitions.{Definitions}
use Rattle.sno_read.specs.declared.objects.Part.{Part}
use Rattle.sno_read.specs.declared.objects.Part.TheVariants.{Quoted, Var}
use Rattle.sno_statement.specs.Statement.{Statement}
use Rattle.sno_statement.specs.Bindings.{Bindings}
use Rattle.sno_statement.specs.Perform.{Outcome, Matched, Failed, Repeated, All}
use Rattle.sno_statement.specs.declared.match_lists.Match.{Match}
use Rattle.sno_statement.specs.declared.binding.Datum.{Datum}
use Rattle.sno_statement.specs.declared.binding.Datum.TheVariants.{Str, Int}
use Rattle.sno_book.specs.Entries.{Entry}
use Rattle.sno_book.specs.SamePatterns.{same_tree}

-- parts of objects
abbrev pub same_part : Part → Part → Bool
same_part (Quoted s) (Quoted t) = same s t
same_part (Var v) (Var w) = same v w
same_part _ _ = false

abbrev pub same_object : Option (List Part) → Option (List Part) → Bool
same_object = option_eq (pointwise same_part)

-- names and bodies, in their order
abbrev pub same_definitions : Definitions → Definitions → Bool
same_definitions d e = pointwise same d.names e.names && pointwise same_tree d.bodies e.bodies

abbrev pub same_statement : Statement → Statement → Bool
same_statement s t =
    nat_eq s.number t.number
    && (nat_eq s.limit t.limit
    && (option_eq nat_eq s.repeat t.repeat
    && (beq s.all t.all
    && (beq s.anchored t.anchored
    && (same s.text t.text && (same_object s.object t.object && (same_tree s.pattern t.pattern && same_definitions s.rules t.rules)))))))

-- values of variables
abbrev pub same_datum : Datum → Datum → Bool
same_datum (Str s) (Str t) = same s t
same_datum (Int m) (Int n) = nat_eq m n
same_datum _ _ = false

abbrev pub same_binding : List ℕ × Datum → List ℕ × Datum → Bool
same_binding b c = same b.0 c.0 && same_datum b.1 c.1

-- variables with their values, in their order
abbrev pub same_bound : Bindings → Bindings → Bool
same_bound = pointwise same_binding

abbrev pub same_match : Match → Match → Bool
same_match m n = nat_eq m.start n.start && (nat_eq m.end n.end && same_bound m.bindings n.bindings)

abbrev pub same_outcome : Outcome → Outcome → Bool
same_outcome (Matched s e b after) (Matched t f c more) = nat_eq s t && (nat_eq e f && (same_bound b c && option_eq same after more))
same_outcome (Failed b) (Failed c) = same_bound b c
same_outcome (Repeated m b t) (Repeated n c u) = nat_eq m n && (same_bound b c && same t u)
same_outcome (All ms after) (All ns more) = pointwise same_match ms ns && option_eq same after more
same_outcome _ _ = false

abbrev pub same_entry : Entry → Entry → Bool
same_entry e f = nat_eq e.version f.version && (same_statement e.statement f.statement && same_outcome e.outcome f.outcome)
