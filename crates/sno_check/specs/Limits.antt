-- How statements are performed without any option, by value, and one limit. All others of a check are those of the crates below.
use Rattle.std.specs.Prelude.{◌≡◌, false, refl}
use Rattle.sno_document.specs.declared.modes.Mode.{Mode}
use Rattle.sno_check.specs.declared.checking.TheConstants.{USUAL}
use Rattle.sno_check.specs.declared.single.TheConstants.{MAX_LITERALS}

abbrev usual : Mode
usual = record { anchor = false; trials = 1000000 }

usual_mode : USUAL ≡ usual
usual_mode = refl

-- the most characters of literals in which it is sought what a round may find again
most_literals : MAX_LITERALS ≡ 4096
most_literals = refl
