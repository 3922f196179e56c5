-- The sign is here, later, or nowhere.
use Rattle.std.proofs.Common.{◌≡◌, ℕ, ◌+◌, suc, ◌&&◌, true, false, nat_eq, get_or, drop, length, sym, ◌∙◌, ap, arith}
use Rattle.sno_rules.specs.Lines.{before_sign, quote_after}
use Rattle.sno_rules.proofs.SignLaws.{sign_here, sign_later, sign_nowhere}
use Rattle.sno_rules.proofs.signs.before_sign.Goals as goal

pub returns-then-is_sign-clause-exact : goal.returns-then-is_sign-clause-exact
returns-then-is_sign-clause-exact c =
    let here = sign_here c.args.sign c.loop-place.quote c.loop-place.place c.args.text.now c.loop-place-test.true (sym c.is_sign.ensures ∙ c.if-is_sign.true) in
    omega (arith, here, c.loop-place.invariant)

pub loop-place-preserved : goal.loop-place-preserved
loop-place-preserved c =
    let later = sign_later c.args.sign c.loop-place.quote c.loop-place.place c.args.text.now c.loop-place-test.true (sym c.is_sign.ensures ∙ c.if-is_sign.false) in
    let quote = ap (λ q. before_sign c.args.sign q (drop (c.loop-place.place + 1) c.args.text.now)) c.quote_after-quote.ensures in
    omega (arith, later, quote, c.loop-place.invariant)

pub returns-clause-exact : goal.returns-clause-exact
returns-clause-exact c =
    let nowhere = sign_nowhere c.args.sign c.loop-place.quote c.loop-place.place c.args.text.now c.loop-place-test.false in
    omega (arith, nowhere, c.loop-place.invariant, c.loop-place.auto.place-end, c.loop-place-test.false)
