-- What is stored is what the entries leave, with the new one.
use Rattle.std.proofs.Common.{◌≡◌, ◌∷◌, [], List, length, ap, sym, subst, arith, length-append}
use Rattle.sno_book.specs.Entries.{Entry}
use Rattle.sno_published.specs.StoredTexts.{IsReplay}
use Rattle.sno_published.proofs.Replays.{place_inside}
use Rattle.sno_published.proofs.tables.Table.take_in.Goals as goal

pub renew-requires : goal.renew-requires
renew-requires g c = place_inside g.L.Naming.opening c.self.inside.stored.items c.requires.next.0.statement.text c.args.place c.self.invariant.2.as_many c.requires.next.2

pub invariant_of-self-2 : goal.invariant_of-self-2
invariant_of-self-2 g c =
    let opening = g.L.Naming.opening in
    let next = c.requires.next in
    let old = c.args.self.now in
    let was = subst (λ (es : List Entry). IsReplay opening es c.self.inside.stored.items) c.self.view_is c.self.invariant.2 in
    let is = c.in_ok-renew.ensures opening old next.0 next.1 next.2 was next.3 in
    let more = length-append old (next.0 ∷ []) in (
      c.self.invariant.0,
      ap (λ f. f.history) next.4,
      subst (λ (es : List Entry). IsReplay opening es c.renew.new.stored.items) (sym (ap (λ f. f.entries) next.4)) is,
      omega (arith, ap (λ f. length f.entries) next.4, more, c.requires.room),
      c.requires.tried,
    )
