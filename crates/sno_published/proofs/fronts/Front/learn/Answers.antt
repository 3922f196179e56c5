-- Both fronts begin what both have seen.
use Rattle.std.proofs.Common.{ap, subst, List}
use mathlib.Core.List.{IsPrefix}
use Rattle.sno_book.specs.Entries.{Entry}
use Rattle.sno_published.proofs.Prefixes.{prefix_shorter}
use Rattle.sno_published.proofs.fronts.Front.learn.Goals as goal

pub returns : goal.returns
returns c =
    let both = c.learn.new.self.log in
    let mine : IsPrefix c.self.inside.seen.log both = subst (λ (l : List Entry). IsPrefix l both) (ap (λ s. s.log) c.again-both.ensures) c.learn.ensures.2 in
    let other = c.learn.ensures.3 in
    rw (← c.self.view_is, ← c.other.view_is)
    (record {
      first = λ few. prefix_shorter c.self.inside.seen.log c.other.inside.seen.log both mine other few;
      second = λ few. prefix_shorter c.other.inside.seen.log c.self.inside.seen.log both other mine few;
    })
