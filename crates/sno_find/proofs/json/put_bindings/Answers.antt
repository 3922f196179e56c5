-- The comma, the name and the object.
use Rattle.std.specs.Prelude.{codes}
use Rattle.sno_find.specs.Json.{bindings_json, key, object_json}
use Rattle.sno_find.proofs.Joined.{three_joined}
use Rattle.sno_find.proofs.json.put_bindings.Goals as goal

pub returns : goal.returns
unfolding bindings_json
returns c =
    three_joined c.args.out.now.items c.put_text.new.out.items c.put_key.new.out.items c.put_object.new.out.items (codes ",") (key (codes "variables"))
    (object_json c.args.bindings.now) c.in_ok-put_text.ensures c.in_ok-put_key.ensures c.in_ok-put_object.ensures
