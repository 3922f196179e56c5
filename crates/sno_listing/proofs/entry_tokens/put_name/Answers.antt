-- The bytes of the name are the name.
use Rattle.std.proofs.Common.{List, ℕ, [], ◌∷◌, ◌++◌, ap, ◌∙◌, append_assoc}
use Rattle.std.specs.Prelude.{codes}
use Rattle.std.specs.Fmt.{decimal}
use Rattle.json.specs.Token.{Token, key}
use Rattle.sno_listing.proofs.entry_tokens.put_name.Goals as goal

pub returns : goal.returns
returns c =
    let string = c.in_ok-put_string.ensures in
    let count = c.in_ok-put_count.ensures in
    let rest : List Token = key (codes "version") ∷ Token.number (decimal c.args.version) ∷ [] in (
      count.0 ∙ ap (λ (l : List Token). l ++ rest) string.0 ∙ append_assoc c.args.out.now.tokens (key (codes "text") ∷ Token.string c.bytes.result.now ∷ []) rest
          ∙ ap (λ (t : List ℕ). c.args.out.now.tokens ++ (key (codes "text") ∷ Token.string t ∷ rest)) c.bytes.ensures.value,
      count.1 ∙ string.1,
    )
