-- What a statement would do, with what is found in it.
use Rattle.std.proofs.Common.{◌≡◌, ℕ, List, length, ap, subst, ◌∙◌}
use Rattle.std.specs.Prelude.{Option, Result}
use Rattle.serde_json.specs.Data.{Data}
use Rattle.sno_statement.specs.Statement.{Statement}
use Rattle.sno_book.specs.Entries.{Entry}
use Rattle.sno_book.specs.Openings.{Opening}
use Rattle.sno_book.specs.Proposals.{Proposal}
use Rattle.sno_desk.specs.Proposed.{GivesProposed}
use Rattle.sno_desk.specs.declared.faults.SubmitFault.{SubmitFault}
use Rattle.sno_serve.specs.Replies.{IsNoted, IsTried, check_reply, with_findings}

-- the reply to a check has some findings
pub noted : (id : Option Data) (s : Statement) (number index : ℕ) (gave : Result Proposal SubmitFault) (messages : List (List ℕ)) (reply d : Data)
    → number ≡ s.number → reply ≡ check_reply id index gave → d ≡ with_findings number messages reply → IsNoted id index s gave d
noted id s number index gave messages reply d own checked is = record {
  messages = messages;
  reply = is ∙ ap (λ n. with_findings n messages reply) own ∙ ap (λ r. with_findings s.number messages r) checked;
}

-- .. and what the seat's proposal gave
pub tried : (opening : Opening) (after : List Entry) (id : Option Data) (s its : Statement) (index : ℕ) (gave : Result Proposal SubmitFault) (d : Data)
    → GivesProposed gave opening after s → index ≡ length after → its ≡ s → IsNoted id index its gave d → IsTried opening after id s d
tried opening after id s its index gave d gives many own h = record {
  gave = gave;
  gives = gives;
  noted = subst (λ (n : ℕ). IsNoted id n s gave d) many (subst (λ (t : Statement). IsNoted id index t gave d) own h);
}
