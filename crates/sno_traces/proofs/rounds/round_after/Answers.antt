-- One round after the other, until one is the one that is wanted, or leaves no new text.
use Rattle.std.proofs.Common.{◌≡◌, ◌+◌, ◌-◌, ℕ, List, Option, Some, None, refl, ap, sym, ◌∙◌, arith}
use Rattle.std.specs.Arc.{arc_value}
use Rattle.std.specs.Option.{option_map}
use Rattle.sno_statement.specs.Perform.{perform}
use Rattle.sno_traces.specs.Rounds.{round_from, text_left}
use Rattle.sno_traces.proofs.RoundSteps.{round_matched, round_ended, last_round}
use Rattle.sno_traces.proofs.rounds.round_after.Goals as goal

pub returns-in-None : goal.returns-in-None
returns-in-None c =
    let s = c.args.once.now in
    let t = arc_value c.loop-matches.round.text in
    sym (round_ended s c.loop-matches.round.matches t (c.args.earlier - c.loop-matches.matches)
    (ap (option_map arc_value) (sym c.in-None.is) ∙ c.in_ok-text_after.ensures ∙ ap (λ (z : List ℕ). text_left (perform s z)) c.deref.ensures))
    ∙ c.loop-matches.invariant.wanted

pub loop-matches-preserved : goal.loop-matches-preserved
loop-matches-preserved c =
    let s = c.args.once.now in
    let t = arc_value c.loop-matches.round.text in
    let i = c.loop-matches.matches in
    let after = arc_value c.in-Some.text in
    record {
      wanted =
          ap (λ k. round_from s (c.args.earlier - (i + 1)) (k + 1) after) (sym c.loop-matches.invariant.counted)
          ∙ sym (round_matched s c.loop-matches.round.matches t c.args.earlier i after (omega arith)
          (ap (option_map arc_value) (sym c.in-Some.is) ∙ c.in_ok-text_after.ensures ∙ ap (λ (z : List ℕ). text_left (perform s z)) c.deref.ensures))
          ∙ c.loop-matches.invariant.wanted;
      counted = refl;
    }

pub returns : goal.returns
returns c = sym (last_round c.args.once.now c.loop-matches.round.matches (arc_value c.loop-matches.round.text) c.args.earlier c.loop-matches.matches (omega arith)) ∙ c.loop-matches.invariant.wanted
