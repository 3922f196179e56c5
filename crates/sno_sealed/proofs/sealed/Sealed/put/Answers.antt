-- A batch is sealed and put.
use Rattle.std.proofs.Common.{◌≡◌, refl, sym, ◌∙◌, ap, arith, subst, inl, inr, ℕ, ◌+◌, Bool, true, false, IsTrue, List, [], ◌∷◌, ◌++◌, length, length-append, decimal}
use Rattle.std.proofs.lemmas.Bool.{cases_Bool}
use Rattle.std.proofs.lemmas.Result.{err_from_is_err_and}
use Rattle.sno_store.specs.Lines.{bytes_of, recovered}
use Rattle.sno_store.specs.Shown.{lines_in}
use Rattle.sno_store.specs.Store.{leaves_open, takes_lines, lines_of}
use Rattle.sno_sealed.specs.Sealed.{sealed_now}
use Rattle.sno_sealed.proofs.ChainLemmas.{same_count}
use Rattle.sno_sealed.proofs.PutLemmas.{added, batch_fault, batch_fits, counted_more, left, lines_within, none_left}
use Rattle.sno_sealed.proofs.sealed.Sealed.put.Goals as goal

pub returns-in_err-lines-clause-crash : goal.returns-in_err-lines-clause-crash
returns-in_err-lines-clause-crash g c is clean file leaves olds holds =
    let self = c.args.self.now in
    none_left (lines_of self.store) (lines_in c.args.payloads.now) olds self.chain holds file (ap recovered (self.store.durable is clean file leaves))

pub returns-in_err-lines-clause-cause : goal.returns-in_err-lines-clause-cause
returns-in_err-lines-clause-cause g c =
    let self = c.args.self.now in
    let news = lines_in c.args.payloads.now in
    let is : takes_lines self.store ≡ true = sym c.is_open.ensures ∙ c.if-not-is_open.false in
    let p = err_from_is_err_and c.from_residual.result c.from_residual.ensures.1 in
    rw (p.1, p.2) (batch_fault g.D.Disk (takes_lines self.store) (length (bytes_of (sealed_now self news))) (self.chain.lines + length news) self.store.disk c.in_err-lines.field-0.0
    (λ clean. omega (arith, self.counted is clean, lines_within (g.D.Disk.seen self.store.disk), batch_fits self.chain.sum self.chain.lines news)) c.in_err-lines.ensures.cause)

pub invariant_of-self : goal.invariant_of-self
invariant_of-self g c =
    let self = c.args.self.now in
    let was : takes_lines self.store ≡ true = sym c.is_open.ensures ∙ c.if-not-is_open.false in
    record {
      counted = λ is clean. elim (cases_Bool (leaves_open c.in_err-put.field-0.0)) [
        | inl stays ↦ ap length ((c.in_err-put.ensures.kept stays).1 clean) ∙ self.counted was (c.in_err-put.ensures.clean clean)
        | inr shuts ↦ absurd (let e : false ≡ true = sym (c.in_err-put.ensures.shut shuts) ∙ is in cc)
      ];
    }

pub returns-in_err-put-clause-crash : goal.returns-in_err-put-clause-crash
returns-in_err-put-clause-crash g c is clean file leaves olds holds =
    let self = c.args.self.now in
    left (lines_of self.store) (lines_in c.args.payloads.now) olds self.chain holds (lines_in c.in_ok-lines.field-0.lines) file
    c.in_ok-lines.ensures.lines (c.put.ensures.crash is clean file leaves)

pub invariant_of-self-2 : goal.invariant_of-self-2
invariant_of-self-2 g c =
    let self = c.args.self.now in
    let was : takes_lines self.store ≡ true = sym c.is_open.ensures ∙ c.if-not-is_open.false in
    record {
      counted = λ is clean. counted_more (lines_of self.store) (lines_in c.in_ok-lines.field-0.lines) (lines_of c.put.new.self) (lines_in c.args.payloads.now) self.chain c.in_ok-lines.field-0.chain
          (self.counted was (c.in_ok-put.ensures.clean clean)) c.in_ok-lines.ensures.lines (c.in_ok-put.ensures.acknowledged clean).0 c.in_ok-lines.ensures.chain;
    }

pub returns-clause-acknowledged : goal.returns-clause-acknowledged
returns-clause-acknowledged g c clean olds holds =
    let self = c.args.self.now in
    added (lines_of self.store) (lines_in c.args.payloads.now) olds self.chain holds (lines_in c.in_ok-lines.field-0.lines) (lines_of c.put.new.self) c.in_ok-lines.field-0.chain
    c.in_ok-lines.ensures.lines (c.in_ok-put.ensures.acknowledged clean).0 c.in_ok-lines.ensures.chain

pub returns-clause-crash : goal.returns-clause-crash
returns-clause-crash g c is clean file leaves olds holds =
    let self = c.args.self.now in
    left (lines_of self.store) (lines_in c.args.payloads.now) olds self.chain holds (lines_in c.in_ok-lines.field-0.lines) file
    c.in_ok-lines.ensures.lines (c.put.ensures.crash is clean file leaves)

pub returns-clause-count : goal.returns-clause-count
returns-clause-count g c clean =
    let self = c.args.self.now in
    let news = lines_in c.args.payloads.now in
    let sum = self.chain.sum in
    let n = self.chain.lines in
    ap length (c.in_ok-put.ensures.acknowledged clean).0 ∙ length-append (lines_of self.store) (lines_in c.in_ok-lines.field-0.lines)
    ∙ omega (arith, ap length c.in_ok-lines.ensures.lines, same_count sum n (decimal (n + 1)) (decimal (n + length news)) news)
