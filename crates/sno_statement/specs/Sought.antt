-- Whose matches are sought.
use Rattle.sno_statement.specs.Statement.{Statement}
use Rattle.sno_statement.specs.declared.searches.Sought.{Sought}
use Rattle.sno_statement.specs.declared.searches.Sought.TheVariants.{InText, InFile}

-- the statement whose matches are sought
abbrev pub sought : Sought → Statement
sought (InText s) = s.now
sought (InFile s) = s.now
