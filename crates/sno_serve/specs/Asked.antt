-- What a line asks for: a JSON value that names a text to be read, or an index to list from, or wants the texts, or is a statement.
use Rattle.std.specs.Prelude.{ℕ, Bool, true, false, ◌&&◌, nat_le, nat_lt, List, Option, Some, None, Result, Ok, Err, codes, if◌then◌else◌, option_and_then}
use Rattle.serde_json.specs.Data.{unsigned, Data, boolean, number, string}
use Rattle.serde_json.specs.Find.{get}
use Rattle.sno_pattern.specs.Definitions.{Definitions}
use Rattle.sno_pattern.specs.TextNames.{is_text_name}
use Rattle.sno_statement.specs.Statement.{Statement}
use Rattle.sno_document.specs.Json.{json_of}
use Rattle.sno_document.specs.Single.{statement_in}
use Rattle.sno_document.specs.Bound.{bound_statement_in}
use Rattle.sno_document.specs.declared.faults.DocumentFault.{DocumentFault}
use Rattle.sno_document.specs.declared.faults.DocumentFault.TheVariants as fault
use Rattle.sno_document.specs.declared.modes.Mode.{Mode}
use Rattle.sno_statement.specs.declared.statements.TheConstants.{MAX_TRIALS}
use Rattle.sno_serve.specs.Binds.{Bound, bound_in}
use Rattle.sno_serve.specs.declared.faults.BindFault.{BindFault}
use Rattle.sno_serve.specs.declared.faults.LineFault.{LineFault}
use Rattle.sno_serve.specs.declared.faults.LineFault.TheVariants as of_line
use Rattle.sno_serve.specs.declared.asked.Asked.{Asked}
use Rattle.sno_serve.specs.declared.asked.Asked.TheVariants as asks

-- the caller's id: a string or a number
abbrev pub id_or_none : Option Data → Option Data
id_or_none (Some (string s)) = Some (string s)
id_or_none (Some (number n)) = Some (number n)
id_or_none d = None

-- the id of a line, if it has one
abbrev pub id_in : List ℕ → Option Data
id_in line = option_and_then (λ d. id_or_none (get (codes "id") d)) (json_of line)

-- a member of another kind than it has to be
abbrev pub shape : LineFault
shape = of_line.Document fault.Shape

-- the name of a text
abbrev pub name_of : ℕ → Data → Result (List ℕ) LineFault
name_of s (string name) = if is_text_name name then Ok name else Err (of_line.Document (fault.StatementName s))
name_of s d = Err shape

-- the name of a text, if the member is there
abbrev pub some_name : Result (List ℕ) LineFault → Result (Option (List ℕ)) LineFault
some_name (Ok name) = Ok (Some name)
some_name (Err e) = Err e

abbrev pub name_or_none : ℕ → Option Data → Result (Option (List ℕ)) LineFault
name_or_none s None = Ok None
name_or_none s (Some d) = some_name (name_of s d)

-- a whole number from 0, if the member is there
abbrev pub whole_or_none : Option Data → Result (Option ℕ) LineFault
whole_or_none None = Ok None
whole_or_none (Some (number (unsigned n))) = Ok (Some n)
whole_or_none (Some d) = Err shape

-- true or false, if the member is there
abbrev pub flag_in : Option Data → Result Bool LineFault
flag_in None = Ok false
flag_in (Some (boolean b)) = Ok b
flag_in (Some d) = Err shape

-- the limit of trials: the usual one if the member is missing, and otherwise from 1 to the highest that there is
abbrev pub trials_in : ℕ → Option Data → Result ℕ LineFault
trials_in usual None = Ok usual
trials_in usual (Some (number (unsigned n))) = if nat_le 1 n && nat_le n MAX_TRIALS then Ok n else Err of_line.Trials
trials_in usual (Some d) = Err of_line.Trials

-- the text with this name is to be read: as it is, or as it was at the version that the member `at` is, if there is one
abbrev pub asks_read : Result (List ℕ) LineFault → Result (Option ℕ) LineFault → Asked
asks_read (Err e) at = asks.Fault e
asks_read (Ok name) (Err e) = asks.Fault e
asks_read (Ok name) (Ok None) = asks.Read name
asks_read (Ok name) (Ok (Some version)) = asks.ReadAt name version

-- the entries from an index on are asked for: no more than the limit, if there is one, and those of one text, if it is named
abbrev pub asks_excerpt : ℕ → Result (Option ℕ) LineFault → Result (Option (List ℕ)) LineFault → Asked
asks_excerpt from (Err e) name = asks.Fault e
asks_excerpt from (Ok limit) (Err e) = asks.Fault e
asks_excerpt from (Ok limit) (Ok name) = asks.Since (record { from = from; limit = limit; name = name })

abbrev pub asks_since : Data → Result (Option ℕ) LineFault → Result (Option (List ℕ)) LineFault → Asked
asks_since (number (unsigned n)) limit name = asks_excerpt n limit name
asks_since d limit name = asks.Fault shape

-- the texts are to be listed
abbrev pub asks_texts : Data → Asked
asks_texts (boolean true) = asks.Texts
asks_texts d = asks.Fault shape

-- the statement is to be performed: at the version that the member `if_version` is, if there is one
abbrev pub asks_at : Option Data → Statement → Asked
asks_at None s = asks.Perform s
asks_at (Some (number (unsigned version))) s = asks.PerformAt s version
asks_at (Some d) s = asks.Fault shape

-- the statement is only to be tried if the member `check` is true
abbrev pub asks_done : Bool → Option Data → Statement → Asked
asks_done true version s = asks.Check s
asks_done false version s = asks_at version s

-- the statement is to be performed or tried, or can't be read
abbrev pub asks_read_statement : Bool → Option Data → Result Statement DocumentFault → Asked
asks_read_statement check version (Ok s) = asks_done check version s
asks_read_statement check version (Err e) = asks.Fault (of_line.Document e)

-- statement number s that the line is, in which names may represent texts
abbrev pub statement_by : Definitions → Mode → ℕ → List ℕ → Option Bound → Result Statement DocumentFault
statement_by rules mode s line None = statement_in rules mode s line
statement_by rules mode s line (Some b) = bound_statement_in rules b.names b.texts mode s line

-- the line is statement number s; the first fault is of `trials`, then of `bind`, then of `check`, then of the statement
abbrev pub asks_checked : Definitions → Mode → ℕ → List ℕ → Option Bound → Option Data → Result Bool LineFault → Asked
asks_checked rules mode s line bound version (Err e) = asks.Fault e
asks_checked rules mode s line bound version (Ok check) = asks_read_statement check version (statement_by rules mode s line bound)

abbrev pub asks_bound : Definitions → Mode → ℕ → List ℕ → Option Data → Result Bool LineFault → Result (Option Bound) BindFault → Asked
asks_bound rules mode s line version check (Err e) = asks.Fault (of_line.Bind e)
asks_bound rules mode s line version check (Ok bound) = asks_checked rules mode s line bound version check

abbrev pub asks_limited : Definitions → Bool → ℕ → List ℕ → Data → Result ℕ LineFault → Asked
asks_limited rules anchor s line d (Err e) = asks.Fault e
asks_limited rules anchor s line d (Ok trials) =
    asks_bound rules (record { anchor = anchor; trials = trials }) s line (get (codes "if_version") d) (flag_in (get (codes "check") d))
    (bound_in rules.names (get (codes "bind") d))

abbrev pub asks_statement : Definitions → Mode → ℕ → List ℕ → Data → Asked
asks_statement rules mode s line d = asks_limited rules mode.anchor s line d (trials_in mode.trials (get (codes "trials") d))

-- without a member `read` or `since`, a member `texts` asks for the texts, and without it the line is statement number s
abbrev pub asked_last : Definitions → Mode → ℕ → List ℕ → Data → Option Data → Asked
asked_last rules mode s line d (Some texts) = asks_texts texts
asked_last rules mode s line d None = asks_statement rules mode s line d

-- a member `read` comes before a member `since`, and that before the others
abbrev pub asked_by : Definitions → Mode → ℕ → List ℕ → Data → Option Data → Option Data → Asked
asked_by rules mode s line d (Some read) since = asks_read (name_of s read) (whole_or_none (get (codes "at") d))
asked_by rules mode s line d None (Some since) = asks_since since (whole_or_none (get (codes "limit") d)) (name_or_none s (get (codes "text") d))
asked_by rules mode s line d None None = asked_last rules mode s line d (get (codes "texts") d)

-- what the value of the line asks for
abbrev pub asked_for : Definitions → Mode → ℕ → List ℕ → Option Data → Asked
asked_for rules mode s line None = asks.Fault (of_line.Document fault.NotJson)
asked_for rules mode s line (Some d) = asked_by rules mode s line d (get (codes "read") d) (get (codes "since") d)

-- what a line asks for
abbrev pub asked_in : Definitions → Mode → ℕ → List ℕ → Asked
asked_in rules mode s line = asked_for rules mode s line (json_of line)

-- how many trials a match of the statement that is asked for may take; none if no statement is
abbrev pub trials_asked : Asked → ℕ
trials_asked (asks.Perform s) = s.limit
trials_asked (asks.PerformAt s version) = s.limit
trials_asked (asks.Check s) = s.limit
trials_asked (asks.Read name) = 0
trials_asked (asks.ReadAt name version) = 0
trials_asked asks.Texts = 0
trials_asked (asks.Since e) = 0
trials_asked (asks.Fault fault) = 0

-- the same, at a service that lets no match take more trials than its ceiling: to ask for more is a fault
abbrev pub within : ℕ → Asked → Asked
within ceiling asked = if nat_lt ceiling (trials_asked asked) then asks.Fault (of_line.TrialsAbove ceiling) else asked
