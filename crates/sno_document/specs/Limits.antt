-- The limits of documents, as numbers. Those of definitions, texts, rounds and trials are the limits of the crates below.
use Rattle.std.specs.Prelude.{◌≡◌, refl}
use Rattle.sno_document.specs.declared.documents.TheConstants.{MAX_DOCUMENT}
use Rattle.sno_document.specs.declared.statements.TheConstants.{MAX_STATEMENTS}
use Rattle.sno_document.specs.declared.trees.TheConstants.{MAX_DEPTH}

-- bytes of a document
longest_document : MAX_DOCUMENT ≡ 16777216
longest_document = refl

most_statements : MAX_STATEMENTS ≡ 1000000
most_statements = refl

-- arrays and objects within one another
deepest_nesting : MAX_DEPTH ≡ 127
deepest_nesting = refl
