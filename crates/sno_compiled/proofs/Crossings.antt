-- What a compiled statement holds may go to another thread, by its fields.
use denote.Ref.{NamedLft}
use denote.Hole.{as_row}
use denote.Struct.Field.{shr_ref_field}
use denote.Param.Send.{IsSend, IsSync, sendable, shr_send, view_send, view_sync}
use denote.Param.SendFields.{as_row_send, declared_send, declared_sync, variants_send}
use Rattle.std.proofs.Crossing.{crosses, Arc-send, Arc-sync}
use Rattle.sno_pattern.proofs.name_list.Names.TheSendSync as names
use Rattle.sno_pattern.proofs.text_names.TextName.TheSendSync as name
use Rattle.sno_pattern.proofs.tree.Pattern.TheLaws.TheKnot as knot
use Rattle.sno_pattern.specs.contracts.definitions.Rules as Rules
use Rattle.sno_pattern.specs.contracts.tree.Pattern as Pattern
use Rattle.sno_statement.specs.contracts.file_statements.FileStatement as FileStatement
use Rattle.sno_statement.specs.contracts.file_statements.FileStatement.TheInside as FileStatementInside
use Rattle.sno_statement.specs.contracts.statements.Statement as Statement
use Rattle.sno_statement.specs.contracts.statements.Statement.TheInside as StatementInside
use Rattle.sno_machine.specs.contracts.code.Code as Code
use Rattle.sno_machine.specs.contracts.code.Code.TheInside as CodeInside
use Rattle.sno_machine.specs.contracts.compiling.nodes.Compiled as Compiled
use Rattle.sno_machine.specs.contracts.compiling.nodes.Nodes as Nodes
use Rattle.sno_machine.specs.contracts.compiling.nodes.Node as Node
use Rattle.sno_machine.specs.contracts.compiling.nodes.Operation as Operation
use Rattle.sno_machine.specs.contracts.compiling.lookaheads.Lookahead as Lookahead
use Rattle.sno_machine.specs.contracts.compiling.other_leaves.OtherLeaf as OtherLeaf
use Rattle.sno_machine.specs.contracts.run.one_character.OneCharacter as OneCharacter
use Rattle.sno_machine.specs.contracts.run.singles.Single as Single
use Rattle.sno_machine.specs.contracts.starts.beginnings.Beginnings as Beginnings
use Rattle.sno_machine.specs.contracts.starts.needles.Needle as Needle
use Rattle.sno_machine.specs.contracts.starts.run_starts.RunStart as RunStart
use Rattle.sno_machine.specs.contracts.workspace.Workspace as Workspace
use Rattle.sno_compiled.specs.contracts.ready.Ready as Ready

-- a pair, so that fields and variants stand in a row
abbrev ◌&◌ : {A B : Type 0} → A → B → A × B
a & b = (a, b)

infixr 10 ◌&◌
-- definitions
pub rules_send : IsSend Rules.the_row
rules_send = search (sendable, crosses, knot.send-Pattern, names.the_send) depth 40 fits 100000

pub rules_sync : IsSync Rules.the_row
rules_sync = search (sendable, crosses, knot.sync-Pattern, names.the_sync) depth 40 fits 100000

-- a statement
statement_send : IsSend Statement.the_row
statement_send = view_send _ _ _ _ _ (declared_send StatementInside.the_type (
    -- number, rules, pattern
    search sendable & Arc-send Rules.the_row rules_send rules_sync & search (sendable, crosses, knot.send-Pattern, knot.sync-Pattern) depth 40 fits 100000
    -- object, text, anchored, limit, repeat, all
    & search (sendable, crosses) depth 40 fits 100000 & search (sendable, crosses, name.the_send) depth 40 fits 100000 & search sendable & search sendable & search (sendable, crosses) depth 40 fits 100000 & search sendable & tt
    ))

statement_sync : IsSync Statement.the_row
statement_sync = view_sync _ _ _ _ _ (declared_sync StatementInside.the_type (
    search sendable & Arc-sync Rules.the_row rules_send rules_sync & search (sendable, crosses, knot.send-Pattern, knot.sync-Pattern) depth 40 fits 100000
    & search (sendable, crosses) depth 40 fits 100000 & search (sendable, crosses, name.the_sync) depth 40 fits 100000 & search sendable & search sendable & search (sendable, crosses) depth 40 fits 100000 & search sendable & tt
    ))

-- .. for files
pub file_statement_send : IsSend FileStatement.the_row
file_statement_send = view_send _ _ _ _ _ (declared_send FileStatementInside.the_type
    (statement_send & search (sendable, crosses) depth 40 fits 100000 & search (sendable, crosses) depth 40 fits 100000 & tt))

file_statement_sync : IsSync FileStatement.the_row
file_statement_sync = view_sync _ _ _ _ _ (declared_sync FileStatementInside.the_type
    (statement_sync & search (sendable, crosses) depth 40 fits 100000 & search (sendable, crosses) depth 40 fits 100000 & tt))

-- what a node does
pattern_sync : IsSync Pattern.the_row
pattern_sync = search (sendable, crosses, knot.sync-Pattern) depth 80 fits 100000

pattern_send : (a : NamedLft) → IsSend (as_row (shr_ref_field a Pattern.the_row tt))
pattern_send a = as_row_send (shr_ref_field a Pattern.the_row tt) (shr_send a.mir a.lft Pattern.the_row pattern_sync)

single_send : (a : NamedLft) → IsSend (Single.the_row a)
single_send a = search (sendable, crosses) depth 60 fits 100000

one_send : (a : NamedLft) → IsSend (OneCharacter.the_row a)
one_send a = search (sendable, crosses) depth 40 fits 100000

leaf_send : (a : NamedLft) → IsSend (OtherLeaf.the_row a)
leaf_send a = search (sendable, crosses) depth 40 fits 100000

lookahead_send : IsSend Lookahead.the_row
lookahead_send = search sendable depth 20

needle_send : (a : NamedLft) → IsSend (Needle.the_row a)
needle_send a = search (sendable, crosses) depth 40 fits 100000

operation_send : (a : NamedLft) → IsSend (Operation.the_row a)
operation_send a = variants_send (Operation.enum a) (
    -- Single, Character, Len, Rpos, LastCharacter, Row, Leaf, Fork, ForkCharacter, ForkCall
    (single_send a & tt) & (search sendable & tt) & (search sendable & tt) & (search sendable & tt) & (search sendable & tt) & (one_send a & tt) & (leaf_send a & tt) & tt & (search sendable & tt) & (search sendable & tt)
    -- Repeat, RepeatLookahead, Rounds, Round, Seek, SeekMarked
    & (pattern_send a & tt) & (pattern_send a & lookahead_send & tt) & (pattern_send a & lookahead_send & tt) & (single_send a & tt) & (needle_send a & tt) & (needle_send a & tt)
    -- Mark, MarkSingle, MarkRow, Moved, Later, Now
    & tt & (single_send a & tt) & tt & tt & (search (sendable, crosses) depth 20 & tt) & (search (sendable, crosses) depth 20 & tt)
    -- Call, Jump, Return, Further, FurtherLookahead, Halt
    & (search sendable & tt) & (search sendable & tt) & tt & tt & (lookahead_send & tt) & tt & tt
    )

-- what a pattern is compiled to
node_send : (a : NamedLft) → IsSend (Node.the_row a)
node_send a = declared_send (Node.the_type a) (operation_send a & search sendable & search sendable & tt)

nodes_send : (a : NamedLft) → IsSend (Nodes.the_row a)
nodes_send a = declared_send (Nodes.the_type a) (search (sendable, crosses, node_send) & search sendable & tt)

beginnings_send : (a : NamedLft) → IsSend (Beginnings.the_row a)
beginnings_send a = search (sendable, crosses) depth 60 fits 100000

run_send : (a : NamedLft) → IsSend (RunStart.the_row a)
run_send a = search (sendable, crosses) depth 60 fits 100000

compiled_send : (a : NamedLft) → IsSend (Compiled.the_row a)
compiled_send a = declared_send (Compiled.the_type a) (nodes_send a & beginnings_send a & search (sendable, crosses, run_send) depth 20 & search (sendable, rules_sync) depth 20 & pattern_send a & tt)

code_send : (a : NamedLft) → IsSend (Code.the_row a)
code_send a = view_send _ _ _ _ _ (declared_send (CodeInside.the_type a) (compiled_send a & tt))

-- what matches keep
workspace_send : (a : NamedLft) → IsSend (Workspace.the_row a)
workspace_send a = search (sendable, crosses) depth 60 fits 100000

-- a statement with its compiled pattern
pub ready_send : (a : NamedLft) → IsSend (Ready.the_row a)
ready_send a = declared_send (Ready.the_type a) (search (sendable, file_statement_sync) & code_send a & workspace_send a & tt)
