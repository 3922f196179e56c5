-- What is owned of a value and of what borrows from it.
use mir.Raw.{raw}
use mir.Syntax.{named}
use base.Fraction.{full_share}
use base.Fml.{Fml, fsep, fex, feq, flft, flent}
use base.Stored.{Coded}
use denote.Memory.{lone}
use denote.RattleType.{RattleType}
use denote.RawPtr.{Ptr, lies_at, in_block}
use Rattle.std.specs.Prelude.{ℕ, [], ◌∷◌}
use Rattle.std.specs.Box.Ownership.{box_owns}
use Rattle.sno_compiled.specs.Blocks.{chunk}
use Rattle.sno_statement.specs.Statement.{Statement}
use Rattle.sno_compiled.specs.declared.ready.Ready.{Ready}
use Rattle.sno_statement.specs.contracts.file_statements.FileStatement.{the_row as S}
use Rattle.sno_compiled.specs.contracts.ready.Ready.{the_row as R}

abbrev pub ready_row : ℕ → RattleType
ready_row a = R (record { mir = named 0; lft = a ∷ [] })

abbrev pub statement_coded : Coded Statement
statement_coded = S.coded

-- while a lasts, the value at s is lent, and what is ready at r may borrow from it; afterwards it is whole again
module _ (s r : Ptr) (x : Statement) (a : ℕ) where
  abbrev pub ready_owns : Ready → Fml
  ready_owns y = fsep (feq Statement y.statement.now x) (box_owns chunk (ready_row a) r y)

  abbrev pub life_owns : Fml
  life_owns = fsep (flft (a ∷ []) full_share) (fsep (fsep (flent (a ∷ []) (lies_at S full_share s x)) (chunk (raw (lone S.mir)) s)) (fex Ready ready_owns))

abbrev pub tied_at : Ptr → Ptr → Statement → Fml
tied_at s r x = in_block s (fex ℕ (life_owns s r x))
