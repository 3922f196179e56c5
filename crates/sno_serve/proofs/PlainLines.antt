-- What a line asks for that is a statement and nothing else.
use Rattle.std.proofs.Common.{◌≡◌, ℕ, List, false, Some, None, ap, ◌∙◌}
use Rattle.std.specs.Prelude.{codes}
use Rattle.serde_json.specs.Data.{Data}
use Rattle.serde_json.specs.Find.{get}
use Rattle.sno_pattern.specs.Definitions.{Definitions}
use Rattle.sno_document.specs.Json.{json_of}
use Rattle.sno_document.specs.Single.{statement_in}
use Rattle.sno_document.specs.declared.modes.Mode.{Mode}
use Rattle.sno_serve.specs.Asked.{asked_in, asked_by, asks_read_statement, id_in, id_or_none}
use Rattle.sno_serve.specs.PlainLines.{IsPlain}

asked_plainly : (rules : Definitions) (mode : Mode) (s : ℕ) (line : List ℕ) (d : Data) → IsPlain d
    → asked_by rules mode s line d (get (codes "read") d) (get (codes "since") d) ≡ asks_read_statement false None (statement_in rules mode s line)
asked_plainly rules mode s line d p = rw (p.0.0, p.0.1, p.0.2, p.1.0, p.1.1, p.1.2, p.1.3)

pub plain_asks : (rules : Definitions) (mode : Mode) (s : ℕ) (line : List ℕ) (d : Data) → json_of line ≡ Some d → IsPlain d
    → asked_in rules mode s line ≡ asks_read_statement false None (statement_in rules mode s line)
plain_asks rules mode s line d is p =
    let read : asked_in rules mode s line ≡ asked_by rules mode s line d (get (codes "read") d) (get (codes "since") d) = rw is in
    read ∙ asked_plainly rules mode s line d p

pub id_of : (line : List ℕ) (d : Data) → json_of line ≡ Some d → id_in line ≡ id_or_none (get (codes "id") d)
id_of line d is = rw is
