-- The two parts of the entry are all of it.
use Rattle.std.proofs.Common.{List, ◌++◌, ap, ◌∙◌, append_assoc}
use Rattle.json.specs.Token.{Token}
use Rattle.sno_listing.specs.Tokens.{head_tokens, tail_tokens}
use Rattle.sno_listing.proofs.TokenLemmas.{entry_parts}
use Rattle.sno_listing.proofs.entry_tokens.put_entry.Goals as goal

pub returns : goal.returns
returns c =
    let head = c.in_ok-put_head.ensures in
    let tail = c.in_ok-put_tail.ensures in
    let done = c.args.entry.now.outcome in (
      tail.0 ∙ ap (λ (l : List Token). l ++ tail_tokens c.args.entry.now done) head.0 ∙ append_assoc _ (head_tokens c.args.index done) (tail_tokens c.args.entry.now done)
          ∙ ap (λ (l : List Token). c.args.out.now.tokens ++ l) (entry_parts c.args.index c.args.entry.now),
      tail.1 ∙ head.1,
    )
