-- Each file that is held has a report.
use Rattle.std.proofs.Common.{arith}
use Rattle.sno_files.proofs.EndLemmas.{held_count, held_ends, ok_then}
use Rattle.sno_files.proofs.editing.edit_held.Goals as goal

pub returns-clause-ends : goal.returns-clause-ends
returns-clause-ends g c = ok_then c.edit_files-ends.result (λ ends h. held_ends _ _ _ _ c.split_at.ensures.front h) c.edit_files-ends.ensures.edited

pub returns-clause-most : goal.returns-clause-most
returns-clause-most g c =
    ok_then c.edit_files-ends.result (λ ends h. omega (arith, held_count _ _ h, c.split_at.ensures.front_len, c.len.ensures, c.in_ok-held.ensures.few.1)) c.edit_files-ends.ensures.edited

pub returns-clause-some : goal.returns-clause-some
returns-clause-some g c =
    ok_then c.edit_files-ends.result
    (λ ends h some. omega (arith, held_count _ _ h, c.split_at.ensures.front_len, c.len.ensures, c.in_ok-held.ensures.some (omega arith) some)) c.edit_files-ends.ensures.edited
