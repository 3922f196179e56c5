-- The command line: five options, in any order, each at most once.
use Rattle.std.specs.Prelude.{◌≡◌, ◌≢◌, ◌⊎◌, ◌^◌, ℕ, Bool, true, false, ◌&&◌, List, [], ◌∷◌, length, nat_lt, nat_le, Option, Some, None, Result, Ok, Err, unwrap_or, option_and_then, if◌then◌else◌, codes, pos}
use Rattle.std.specs.List.{list_all}
use Rattle.std.specs.Option.{option_map_or}
use Rattle.std.specs.Char.{digit_value}
use Rattle.std.specs.Str.{bytes_eq}
use Rattle.std.specs.Str.Parse.{digits_value, without_leading_plus}
use Rattle.clap.specs.Words.{App, Row, Rule, Text, fault_of, IsAmong, Kinds, matches_of, new_app, new_rule, one_of, with_rule}
use Rattle.clap.specs.Simple.{on_top}
use Rattle.clap.specs.declared.builder.action.ArgAction.TheVariants.{Set, SetTrue}
use Rattle.clap.specs.declared.builder.value_parser.ValueParser.TheVariants.{Signed}
use Rattle.clap.specs.declared.error.kind.ErrorKind.{ErrorKind}
use Rattle.clap.specs.declared.error.kind.ErrorKind.TheVariants.{DisplayHelp, DisplayVersion, OutOfMemory}
use Rattle.sno_rewrite.specs.declared.options.Options.{Options}
use Rattle.sno_statement.specs.declared.statements.TheConstants.{MAX_TRIALS, USUAL_TRIALS}
use Rattle.sno_desk.specs.declared.desk.TheConstants.{MAX_TRIES}
use Rattle.sno_rewrite.specs.declared.options.TheConstants.{MAX_WORKERS}
use Rattle.sno_rewrite.specs.declared.command_line.TheConstants.{USUAL_TRIES}
use Rattle.sno_rewrite.specs.declared.command_line.OptionsFault.{OptionsFault}
use Rattle.sno_rewrite.specs.declared.command_line.OptionsFault.TheVariants.{Help, Usage, Memory}

-- `--NAME`
abbrev pub flag : Text → Rule
flag name = record (new_rule name) { long = Some name; action = Some SetTrue }

-- `--NAME NUMBER` or `--NAME=NUMBER`, with a number of at most 32 bits
abbrev pub numeric : Text → Rule
numeric name = record (new_rule name) { long = Some name; action = Some Set; parser = Some (Signed (pos 0) (pos 4294967295)); value_names = 1 }

-- the same, with its value if it is not given
abbrev pub numeric_or : Text → Text → Rule
numeric_or value name = record (numeric name) { defaults = value ∷ [] }

-- the program with only the options for help and the version; no argument is the program's name
abbrev pub bare_program : App
bare_program = on_top (λ s. record s { no_binary_name = true; has_version = true }) (new_app (codes "sno_rewrite"))

-- the program with the options of shared runs
unfoldable pub shared_program : App
shared_program = with_rule (with_rule bare_program (numeric (codes "workers"))) (numeric_or (codes "100") (codes "tries"))

-- the program with all its options
unfoldable pub program : App
program = with_rule (with_rule (with_rule shared_program (flag (codes "anchor"))) (flag (codes "json"))) (numeric_or (codes "1000000") (codes "trials"))

-- whether a flag is given
abbrev pub flag_in : Text → List Row → Bool
flag_in name rows = option_map_or (λ t. bytes_eq t (codes "true")) (one_of name rows) false

-- one decimal digit or more
abbrev pub is_numeral : Text → Bool
is_numeral ds = nat_lt 0 (length ds) && list_all (λ d. nat_lt (digit_value d) 10) ds

abbrev pub number_of_text : Text → Option ℕ
number_of_text ds = if is_numeral ds && nat_lt (digits_value 10 ds) (2 ^ 32) then Some (digits_value 10 ds) else None

-- the number that a text writes, with or without a leading plus sign
abbrev pub number_in : Text → List Row → Option ℕ
number_in name rows = option_and_then (λ t. number_of_text (without_leading_plus t)) (one_of name rows)

-- the options that were given
abbrev pub options_in : List Row → Options
options_in rows = record {
  anchor = flag_in (codes "anchor") rows;
  workers = number_in (codes "workers") rows;
  tries = unwrap_or (number_in (codes "tries") rows) USUAL_TRIES;
  json = flag_in (codes "json") rows;
  trials = unwrap_or (number_in (codes "trials") rows) USUAL_TRIALS;
}

abbrev pub is_up_to : ℕ → ℕ → Bool
is_up_to most n = nat_le 1 n && nat_le n most

-- workers are 1 to 16, if there are any; tries are 1 to 1,000, and trials 1 to 1,000,000,000
abbrev pub are_valid : Options → Bool
are_valid options = option_map_or (is_up_to MAX_WORKERS) options.workers true && (is_up_to MAX_TRIES options.tries && is_up_to MAX_TRIALS options.trials)

-- what is wrong with the arguments, or what they ask for, as `clap` reads them; empty if they are read
unfoldable pub faults : List Text → Kinds
faults words = fault_of program words

-- what the arguments give for each option
unfoldable pub option_rows : List Text → List Row
option_rows words = matches_of program words

-- help or the version is asked for
abbrev pub IsAsked : ErrorKind → Type 0
IsAsked kind = (kind ≡ DisplayHelp) ⊎ (kind ≡ DisplayVersion)

-- Why arguments give no options: they can't be read, for another cause than that they ask for help or the version; or a
-- number is past its limits.
pub data AreRefused (words : List Text) : Type 0 where
  unread : (kind : ErrorKind) → IsAmong kind (faults words) → kind ≢ DisplayHelp → kind ≢ DisplayVersion → AreRefused words
  past_limits : faults words ≡ [] → are_valid (options_in (option_rows words)) ≡ false → AreRefused words

-- What is returned for arguments: the options that they give; help or the version, if they ask for it; the usage, if
-- they are refused; or out of memory.
abbrev pub IsParsed : List Text → Result Options OptionsFault → Type 0
IsParsed words (Ok o) = (faults words ≡ []) × (o ≡ options_in (option_rows words)) × (are_valid o ≡ true)
IsParsed words (Err (Help text)) = IsAmong DisplayHelp (faults words) ⊎ IsAmong DisplayVersion (faults words)
IsParsed words (Err (Usage text)) = AreRefused words
IsParsed words (Err Memory) = Unit {0}

-- a fault of `clap` is reported by its text: help or the version, or another
abbrev pub IsFaultOf : ErrorKind → OptionsFault → Type 0
IsFaultOf kind (Help text) = IsAsked kind
IsFaultOf kind (Usage text) = (kind ≢ DisplayHelp) × (kind ≢ DisplayVersion) × (kind ≢ OutOfMemory)
IsFaultOf kind Memory = Unit {0}

-- options within their limits are returned as they are, and others are refused
abbrev pub IsChecked : Options → Result Options OptionsFault → Type 0
IsChecked options (Ok o) = (o ≡ options) × (are_valid options ≡ true)
IsChecked options (Err (Help text)) = ⊥
IsChecked options (Err (Usage text)) = are_valid options ≡ false
IsChecked options (Err Memory) = Unit {0}

-- the options without any argument
abbrev pub plain_options : Options
plain_options = record { anchor = false; workers = None; tries = USUAL_TRIES; json = false; trials = USUAL_TRIALS }
