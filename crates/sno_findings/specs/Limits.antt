-- The limits of findings, as numbers.
use Rattle.std.specs.Prelude.{◌≡◌, refl}
use Rattle.sno_findings.specs.declared.collector.TheConstants.{MANY}
use Rattle.sno_findings.specs.declared.excerpts.TheConstants.{BEFORE, AFTER}
use Rattle.sno_findings.specs.declared.found_again.TheConstants.{MOST_PARTS}
use Rattle.sno_findings.specs.declared.spelling.TheConstants.{MAX_WORD}

-- findings, from which on no nearest names are sought
many_findings : MANY ≡ 1000
many_findings = refl

-- bytes of an excerpt before its place
before_the_place : BEFORE ≡ 60
before_the_place = refl

-- bytes of an excerpt after its place
after_the_place : AFTER ≡ 40
after_the_place = refl

-- parts of patterns that are looked at for one statement
most_parts : MOST_PARTS ≡ 10000
most_parts = refl

-- bytes of a word whose nearest name is sought
longest_word : MAX_WORD ≡ 256
longest_word = refl
