-- The lines are the beginning of the file.
use Rattle.std.proofs.Common.{◌≡◌, ℕ, List, length, sym, ◌∙◌, ap, arith}
use Rattle.sno_store.specs.Lines.{recovered, bytes_of}
use Rattle.sno_store.proofs.Scans.{front, within, are_lines, recovered-bytes_of}
use Rattle.sno_store.proofs.content.content_of.Goals as goal

pub overflow_sub-room : goal.overflow_sub-room
overflow_sub-room c =
    let file = c.args.bytes.items in
    let size : c.end_of_lines-end.result ≡ length (bytes_of (recovered file)) = c.end_of_lines-end.ensures ∙ ap (λ (l : List ℕ). length (bytes_of (recovered l))) c.deref.ensures.value in
    omega (arith, within file c.end_of_lines-end.result size)

pub of_whole-requires : goal.of_whole-requires
of_whole-requires c =
    let file = c.args.bytes.items in
    let size : c.end_of_lines-end.result ≡ length (bytes_of (recovered file)) = c.end_of_lines-end.ensures ∙ ap (λ (l : List ℕ). length (bytes_of (recovered l))) c.deref.ensures.value in
    let is : c.truncate.new.self.items ≡ bytes_of (recovered file) = c.truncate.ensures.items ∙ front file c.end_of_lines-end.result size in
    is ∙ ap bytes_of (sym (ap recovered is ∙ recovered-bytes_of (recovered file) (are_lines file)))

pub returns-clause-lines : goal.returns-clause-lines
returns-clause-lines c =
    let file = c.args.bytes.items in
    let size : c.end_of_lines-end.result ≡ length (bytes_of (recovered file)) = c.end_of_lines-end.ensures ∙ ap (λ (l : List ℕ). length (bytes_of (recovered l))) c.deref.ensures.value in
    c.of_whole.ensures ∙ ap recovered (c.truncate.ensures.items ∙ front file c.end_of_lines-end.result size) ∙ recovered-bytes_of (recovered file) (are_lines file)

pub returns-clause-all : goal.returns-clause-all
returns-clause-all c =
    let file = c.args.bytes.items in
    let size : c.end_of_lines-end.result ≡ length (bytes_of (recovered file)) = c.end_of_lines-end.ensures ∙ ap (λ (l : List ℕ). length (bytes_of (recovered l))) c.deref.ensures.value in
    omega (arith, within file c.end_of_lines-end.result size)
