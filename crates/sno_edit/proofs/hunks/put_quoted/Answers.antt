-- At the end all characters are written.
use Rattle.std.proofs.Common.{◌≡◌, ◌++◌, sym, ap, ◌∙◌}
use Rattle.std.proofs.lemmas.Iterator.{YieldsList-from_chars}
use Rattle.std.proofs.lemmas.Iterator.Consumers.{YieldsList-end}
use Rattle.std.proofs.lemmas.List.{map-id}
use Rattle.std.specs.List.{flat_map}
use Rattle.std.specs.Str.{chars}
use Rattle.std.specs.String.{string_bytes}
use Rattle.sno_edit.specs.Hunks.{quoted_character}
use Rattle.sno_edit.proofs.hunks.put_quoted.Goals as goal

pub returns : goal.returns
returns c =
    let t = YieldsList-end (YieldsList-from_chars c.args.path.now c.utf8.path cc) c.loop-character.yielded _ c.loop-character.yielded_by _ _ c.in-None.is c.next.ensures.steps in
    let all : c.loop-character.yielded ≡ chars c.args.path.now = sym (map-id c.loop-character.yielded) ∙ t.0 in
    c.loop-character.invariant ∙ ap (λ t. string_bytes c.args.diff.now ++ flat_map quoted_character t) all
