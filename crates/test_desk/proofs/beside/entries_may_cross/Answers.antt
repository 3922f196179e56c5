-- What a call says of its type's entry is said of an entry.
use Rattle.test_desk.proofs.beside.entries_may_cross.Goals as goal

pub returns : goal.returns
returns c = record { sends = record { owned = c.may_cross.ensures.sends.owned; leaving = λ k d w. tt } }
