-- The entry that was added is the attempt's.
use Rattle.std.proofs.Common.{◌≡◌, ◌+◌, ◌∷◌, [], ◌++◌, length, ap, ◌∙◌, arith, Some}
use Rattle.sno_published.specs.Changes.{last_of}
use Rattle.sno_published.proofs.Prefixes.{prefix_whole}
use Rattle.sno_published.proofs.LastEntries.{one_more}
use Rattle.sno_published.proofs.operations.Operation.added_in.Goals as goal

pub returns : goal.returns
returns g c =
    let given = c.self.inside in
    let before = given.before.entries in
    let entry = given.entry.value in
    let front = c.args.front.now in
    let tried = c.args.tried.now.entries in
    let many : length tried ≡ length given.tried.entries = omega (arith, c.count.ensures, c.count-2.ensures, c.if-count.false) in
    let same : tried ≡ given.tried.entries = prefix_whole tried given.tried.entries (c.learn.ensures.first (omega (arith, many))) (omega (arith, many)) in
    let long : length front.entries ≡ length before + 1 =
    omega (arith, c.count-else-count.ensures, c.count-else-count-2.ensures, c.if-count-2.false, c.count-3.ensures, c.count-4.ensures, c.if-count-ne1.false) in
    let found : last_of front.entries ≡ Some entry = c.requires.last ∙ ap last_of same ∙ c.self.invariant.3 in
    let entries : front.entries ≡ before ++ entry ∷ [] = one_more before front.entries entry (c.learn-2.ensures.first (omega (arith, long))) long found in
    let history : front.history ≡ g.L.Naming.book = c.requires.histories.0 in
    c.again.ensures ∙ (λ i. record { history = history i; entries = entries i }) ∙ ap (λ change. record { history = g.L.Naming.book; entries = change.before ++ change.added }) c.self.view_is
