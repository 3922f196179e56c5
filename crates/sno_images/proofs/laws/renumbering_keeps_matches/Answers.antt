-- The law, as it was proved.
use Rattle.sno_images.proofs.Renumbered.{same_outcome, same_trials}
use Rattle.sno_images.proofs.laws.renumbering_keeps_matches.Goals as goal

pub returns-clause-outcome : goal.returns-clause-outcome
returns-clause-outcome c = same_outcome

pub returns-clause-trials : goal.returns-clause-trials
returns-clause-trials c = same_trials
