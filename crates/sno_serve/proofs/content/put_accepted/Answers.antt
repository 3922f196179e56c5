-- The two parts of the entry, with the id between them, are all of it.
use Rattle.std.proofs.Common.{List, ◌++◌, ap, ◌∙◌, append_assoc}
use Rattle.std.specs.Option.{option_map}
use Rattle.json.specs.Token.{Token}
use Rattle.sno_book.specs.Proposals.{Receipt}
use Rattle.sno_listing.specs.Tokens.{head_tokens, tail_tokens}
use Rattle.sno_serve.specs.Contents.{id_data, id_tokens}
use Rattle.sno_serve.proofs.Contents.{entry_parts}
use Rattle.sno_serve.proofs.content.put_accepted.Goals as goal

pub returns : goal.returns
returns c =
    let old = c.args.out.now.tokens in
    let id = id_tokens (option_map id_data c.args.id.now) in
    let entry = c.receipt.inside.entry in
    let head = head_tokens c.receipt.inside.index entry.outcome in
    let tail = tail_tokens entry entry.outcome in (
      c.in_ok-put_tail.ensures.0 ∙ ap (λ (l : List Token). l ++ tail) c.in_ok-put_id.ensures.0 ∙ ap (λ (l : List Token). (l ++ id) ++ tail) c.in_ok-put_head.ensures.0
          ∙ append_assoc (old ++ head) id tail ∙ append_assoc old head (id ++ tail)
          ∙ ap (λ (r : Receipt). old ++ (head_tokens r.index r.entry.outcome ++ (id ++ tail_tokens r.entry r.entry.outcome))) c.receipt.view_is
          ∙ ap (λ (l : List Token). old ++ l) (entry_parts (option_map id_data c.args.id.now) c.args.receipt.now),
      c.in_ok-put_tail.ensures.1 ∙ c.in_ok-put_id.ensures.1 ∙ c.in_ok-put_head.ensures.1,
    )
