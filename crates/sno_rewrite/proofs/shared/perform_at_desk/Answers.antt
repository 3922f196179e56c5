-- What was settled is a shared run of the document.
use Rattle.std.proofs.Common.{◌≡◌, Some, length, map, refl, ap, sym, subst, ◌∙◌}
use Rattle.std.specs.Arc.{arc_value}
use Rattle.sno_book.specs.Views.{IsValid}
use Rattle.sno_book.specs.Books.{Book, view_of}
use Rattle.sno_document.specs.Reads.{document_seen}
use Rattle.sno_rewrite.specs.Histories.{history_seen}
use Rattle.sno_rewrite.specs.Owners.{AreInTurn, IsAlone}
use Rattle.sno_rewrite.specs.Serial.{run_from}
use Rattle.sno_rewrite.specs.Shared.{Settles}
use Rattle.sno_rewrite.proofs.ReplyLemmas.{shares}
use Rattle.sno_rewrite.proofs.shared.perform_at_desk.Goals as goal

pub returns-clause-shared : goal.returns-clause-shared
returns-clause-shared g c =
    let p = c.in_ok-performed.performed in
    let same : p.book ≡ c.in_ok-book.book = c.in_ok-performed.ensures.book in
    let statements = c.deref-2.ensures.value in
    let replies = c.deref-3.ensures.value in
    let opens = ap (λ (b : Book). b.opening) same ∙ c.in_ok-book.ensures.opening ∙ c.in_ok-desk.ensures.opening in
    shares c.args.tries (document_seen c.args.document) p.book c.args.document.book.opening p.refused.items c.in_ok-book.replies.items (length c.in_ok-desk.seats.items) c.args.workers
    c.in_ok-desk.ensures.count c.in_ok-book.ensures.in_turn opens refl c.requires.ready.room
    (subst (λ (b : Book). IsValid (view_of b)) (sym same) c.in_ok-book.ensures.valid)
    (λ w turns.
    let settled = c.in_ok-performed.ensures.settles w (subst (λ l. AreInTurn w l) (sym replies) turns) in
    let there = subst (λ (b : Book). Settles w c.args.tries b.opening (map arc_value c.deref-2.result.now) (history_seen p)) (sym same) settled in
    subst (λ l. Settles w c.args.tries p.book.opening (map arc_value l) (history_seen p)) statements there)
    (λ one.
    let alone = subst (λ l. IsAlone c.args.tries (view_of c.in_ok-book.book) (map arc_value l) c.in_ok-book.replies.items) c.deref.ensures.value (c.in_ok-book.ensures.alone one) in
    let ran = c.in_ok-performed.ensures.alone (subst (λ l. IsAlone c.args.tries (view_of c.in_ok-book.book) (map arc_value l) c.deref-3.result.now) (sym statements)
    (subst (λ l. IsAlone c.args.tries (view_of c.in_ok-book.book) (map arc_value c.args.document.statements.items) l) (sym replies) alone)) in
    let there = subst (λ (b : Book). run_from b.opening (map arc_value c.deref-2.result.now) ≡ Some (history_seen p)) (sym same) ran in
    subst (λ l. run_from p.book.opening (map arc_value l) ≡ Some (history_seen p)) statements there)
