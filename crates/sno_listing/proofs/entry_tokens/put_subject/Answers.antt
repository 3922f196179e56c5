-- The members are written one after the other.
use Rattle.std.proofs.Common.{◌∙◌}
use Rattle.sno_listing.proofs.TokenLemmas.{subject_written}
use Rattle.sno_listing.proofs.entry_tokens.put_subject.Goals as goal

pub returns : goal.returns
returns c =
    let count = c.in_ok-put_count.ensures in
    let name = c.in_ok-put_name.ensures in
    let last = c.in_ok-end_object.ensures in (
      subject_written c.args.out.now.tokens c.put_count.new.out.tokens c.put_name.new.out.tokens c.end_object.new.self.tokens c.from.result c.args.number c.args.name.now
          c.args.version c.from.ensures count.0 name.0 last.ok,
      last.room.0 ∙ name.1 ∙ count.1,
    )
