-- The reports are those of a run that edits one file after the other.
use Rattle.std.proofs.Common.{◌≡◌, ◌++◌, map, take, vec_len, List, [], ℕ, ap, arith, subst, sym, ◌∙◌}
use Rattle.sno_edit.specs.Batches.{AreReplaced, settled}
use Rattle.sno_edit.specs.Files.{AreFilesEnds}
use Rattle.sno_edit.specs.Rules.{rules_seen}
use Rattle.sno_edit.proofs.BatchLemmas.{batch_ends, differ_fewer, refused_ends}
use Rattle.sno_edit.proofs.batches.edit_batch.Goals as goal

pub returns-in-Ok-clause-ends : goal.returns-in-Ok-clause-ends
returns-in-Ok-clause-ends g c first sofar so =
    let rules = rules_seen c.args.rules.now in
    let count : vec_len c.plan_files.new.planned ≡ c.settle_all.result = omega (arith, c.settle_all.ensures.count, c.deref-in-Ok.ensures.len) in
    let paths : ℕ → List (List ℕ) = λ n. sofar ++ map (λ p. p.now) (take n c.args.paths.now) in
    subst (λ n. AreFilesEnds g.F.Folder.holds rules first (paths n) c.replace_all.new.self c.settle_all.new.ends.items) count
    (subst (λ e. AreFilesEnds g.F.Folder.holds rules first (paths (vec_len c.plan_files.new.planned)) c.replace_all.new.self e)
    (sym (c.settle_all.ensures.settled ∙ ap (λ r. c.args.ends.now.items ++ settled c.deref-in-Ok.result.now r) c.deref-in-Ok-2.ensures.value ∙ ap (λ p. c.args.ends.now.items ++ settled p c.in-Ok.results.items) c.deref-in-Ok.ensures.value))
    (batch_ends _ _ _ _ _ _ _ _ _ _ _ so c.plan_files.ensures.planned (differ_fewer _ _ c.requires.differ)
    (subst (λ w. AreReplaced g.F.Folder.holds c.args.folder.now w c.in-Ok.results.items c.replace_all.new.self) c.deref.ensures.value c.in-Ok.ensures.replaced)))

pub returns-clause-ends : goal.returns-clause-ends
returns-clause-ends g c first sofar so =
    let rules = rules_seen c.args.rules.now in
    let count : vec_len c.plan_files.new.planned ≡ c.settle_all-in-Err.result = omega (arith, c.settle_all-in-Err.ensures.count, c.deref-in-Err.ensures.len) in
    let paths : ℕ → List (List ℕ) = λ n. sofar ++ map (λ p. p.now) (take n c.args.paths.now) in
    subst (λ n. AreFilesEnds g.F.Folder.holds rules first (paths n) c.replace_all.new.self c.settle_all-in-Err.new.ends.items) count
    (subst (λ e. AreFilesEnds g.F.Folder.holds rules first (paths (vec_len c.plan_files.new.planned)) c.replace_all.new.self e)
    (sym (c.settle_all-in-Err.ensures.settled ∙ ap (λ p. c.args.ends.now.items ++ settled p []) c.deref-in-Err.ensures.value))
    (subst (λ f. AreFilesEnds g.F.Folder.holds rules first (paths (vec_len c.plan_files.new.planned)) f (c.args.ends.now.items ++ settled c.plan_files.new.planned.items []))
    (sym c.in-Err.ensures.untouched)
    (refused_ends _ _ _ _ _ _ _ _ _ so c.plan_files.ensures.planned)))
