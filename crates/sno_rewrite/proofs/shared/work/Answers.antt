-- The replies are those of submits at points of the closed journal.
use Rattle.std.proofs.Common.{◌≡◌, ℕ, List, [], length, map, drop, sym, subst, ap, ◌∙◌, arith}
use Rattle.std.specs.Arc.{arc_value}
use Rattle.std.specs.List.{All}
use Rattle.std.specs.Prelude.{sum_by}
use mathlib.Core.List.{IsPrefix as Begins}
use Rattle.sno_desk.specs.Replies.{IsReply}
use Rattle.sno_desk.specs.declared.seats.Seat.{Seat}
use Rattle.sno_desk.proofs.Worked.{restored}
use Rattle.sno_rewrite.specs.Owners.{AreInTurn}
use Rattle.sno_rewrite.proofs.AloneLemmas.{alone_of}
use Rattle.sno_rewrite.proofs.ReplyLemmas.{as_many}
use Rattle.sno_rewrite.proofs.TurnLemmas.{turns_all}
use Rattle.sno_rewrite.proofs.WithinLemmas.{within_book}
use Rattle.sno_rewrite.proofs.shared.work.Goals as goal

pub returns-in-Ok-close-clause-within : goal.returns-in-Ok-close-clause-within
returns-in-Ok-close-clause-within g c =
    let many = sym (as_many (IsReply (λ _ _. ⊥) c.args.tries g.L.Naming.opening) (map arc_value c.args.statements.now) c.in-Ok.replies.items c.in-Ok.ensures.allowed) in
    let new : List (Seat g.row.L.Denot) = c.run_workers.new.seats in
    let whole = restored c.args.seats.len new (drop (length new) c.args.seats.items) (omega arith) in
    let seen = subst (λ (l : List (Seat g.row.L.Denot)). All (λ s. Begins s.seen c.in-Ok-close.book.journal) l) whole c.in-Ok-close.ensures.seen in
    within_book (λ _ _. ⊥) c.args.tries g.L.Naming.opening c.in-Ok-close.book.opening g.L.Ledger.parts c.in-Ok-close.book.journal (λ s. s.accepted) (λ s. s.seen)
    (map arc_value c.args.statements.now) c.in-Ok.replies.items c.deref_mut.result.now new
    (c.in-Ok-close.ensures.opening ∙ c.requires.opening) (omega arith) (omega arith) many c.in-Ok.ensures.in_turn seen

pub returns-in-Ok-close-clause-in_turn : goal.returns-in-Ok-close-clause-in_turn
returns-in-Ok-close-clause-in_turn g c =
    let old = c.deref_mut.result.now in
    let turns = turns_all (λ _ _. ⊥) c.args.tries g.L.Naming.opening g.L.Ledger.parts (λ s. s.accepted) (λ s. s.seen) (map arc_value c.args.statements.now) c.in-Ok.replies.items
    old c.run_workers.new.seats (omega arith) c.in-Ok.ensures.in_turn in
    subst (λ (n : ℕ). AreInTurn n c.in-Ok.replies.items) (omega arith) turns

pub returns-in-Ok-close-clause-alone : goal.returns-in-Ok-close-clause-alone
returns-in-Ok-close-clause-alone g c = λ one.
    let old : List (Seat g.row.L.Denot) = c.deref_mut.result.now in
    let new : List (Seat g.row.L.Denot) = c.run_workers.new.seats in
    let same : old ≡ c.args.seats.items = c.deref_mut.ensures.value in
    let whole = restored c.args.seats.len new (drop (length new) c.args.seats.items) (omega arith) in
    let seen = subst (λ (l : List (Seat g.row.L.Denot)). All (λ s. Begins s.seen c.in-Ok-close.book.journal) l) whole c.in-Ok-close.ensures.seen in
    let none = subst (λ (l : List (Seat g.row.L.Denot)). All (λ s. (s.accepted ≡ 0) × (s.seen ≡ [])) l) (sym same) c.requires.none in
    let counted = c.in-Ok-close.ensures.counted ∙ ap (λ (l : List (Seat g.row.L.Denot)). sum_by (λ s. s.accepted) l) whole in
    alone_of (λ s. s.accepted) (λ s. s.seen) c.args.tries g.L.Naming.opening c.in-Ok-close.book.opening g.L.Ledger.parts c.in-Ok-close.book.journal
    (map arc_value c.args.statements.now) c.in-Ok.replies.items old new
    (c.in-Ok-close.ensures.opening ∙ c.requires.opening) (omega arith) (omega arith) (omega arith) none c.in-Ok.ensures.in_turn seen counted
