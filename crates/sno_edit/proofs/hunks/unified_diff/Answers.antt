-- A script with a change has names and hunks.
use Rattle.std.proofs.Common.{◌++◌, ◌∙◌, ap, arith, string_bytes}
use Rattle.std.specs.List.{flat_map}
use Rattle.sno_edit.specs.Hunks.{hunk_text, names_text}
use Rattle.sno_edit.proofs.HunkLemmas.{kept_whole, no_diff, whole_diff}
use Rattle.sno_edit.proofs.hunks.unified_diff.Goals as goal

pub returns-then-kept_len-script : goal.returns-then-kept_len-script
returns-then-kept_len-script c =
    no_diff c.args.coloured c.args.path.now c.args.script.now c.new-diff.result.items
    (kept_whole c.kept_len.result c.args.script.now (omega arith) c.kept_len.ensures.kept) c.new-diff.ensures.items

pub returns : goal.returns
returns c =
    let hunks = flat_map (hunk_text c.args.coloured) c.in_ok-put_hunks.ensures.0 in
    let names = names_text c.args.coloured c.args.path.now in
    let named = c.in_ok-put_names.ensures ∙ ap (λ t. t ++ names) c.new-names.ensures.bytes in
    let begun = c.in_ok-put.ensures ∙ ap (λ t. t ++ c.deref.result.now) c.new-diff.ensures.items ∙ c.deref.ensures ∙ named in
    whole_diff c.args.coloured c.args.path.now c.args.script.now c.in_ok-put_hunks.ensures.0 c.put_hunks.new.diff.items
    (λ kept. c.if-kept_len-script.false (c.kept_len.ensures.all kept)) c.in_ok-put_hunks.ensures.2
    (c.in_ok-put_hunks.ensures.1 ∙ ap (λ t. t ++ hunks) begun)
