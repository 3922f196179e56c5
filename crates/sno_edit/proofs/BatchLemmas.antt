-- A batch is as if each of its files were edited before the next.
use Rattle.std.proofs.Common.{◌≡◌, ◌≢◌, ℕ, zero, suc, ◌+◌, ◌<◌, ◌≤◌, Bool, true, false, List, [], ◌∷◌, ◌++◌, length, take, drop, get_or, map, not, ◌&&◌, Result, Ok, Err, refl, true≢false, arith, ap, sym, subst, ◌∙◌}
use Rattle.std.proofs.lemmas.Bool.{eq-eqb, or_parts}
use Rattle.std.specs.List.{list_any}
use Rattle.std.specs.Result.{IsErrAnd}
use Rattle.std.specs.Borrow.{Bor}
use Rattle.std.specs.Arc.{arc_value}
use Rattle.std.proofs.lemmas.List.{append_assoc, append-nil, drop_more, take_more}
use Rattle.std.proofs.Math.Seq.{drop-length, take-add}
use Rattle.sno_pattern.specs.Identifiers.{same}
use Rattle.sno_edit.specs.Batches.{Written, End, IsReplaced, AreReplaced, Differ, IsAbsent, TakesWrite, ArePlanned, settle, settle_done, settled}
use Rattle.sno_edit.specs.Edits.{Edited, edited}
use Rattle.sno_edit.specs.Faults.{of_write}
use Rattle.sno_edit.specs.Rules.{FileRules}
use Rattle.sno_edit.specs.Held.{Held, Kept, OthersKept}
use Rattle.sno_edit.specs.Files.{AreFilesEnds, HasCause, IsDone, IsEdit, IsFileEnd}
use Rattle.sno_edit.specs.declared.files.Done.{Done}
use Rattle.sno_edit.specs.declared.folders.NewText.{NewText}
use Rattle.sno_edit.specs.declared.folders.WriteFault.{WriteFault}
use Rattle.sno_edit.specs.declared.folders.WriteFault.TheVariants as writing
use Rattle.sno_edit.specs.declared.faults.FileFault.{FileFault}
use Rattle.sno_edit.specs.declared.faults.FileFault.TheVariants as fault
use Rattle.sno_edit.proofs.ScriptLemmas.{same_is}
use Rattle.sno_edit.proofs.Utf8Lemmas.{edited_utf8}

takes_append : (b : Bool) (path text : List ℕ) (ws vs : List NewText) (P Q : List NewText → Type 0) → ((w : List NewText) → P w → Q (w ++ vs))
    → TakesWrite b path text ws P → TakesWrite b path text (ws ++ vs) Q
takes_append false path text ws vs P Q go h = go ws h
takes_append true path text [] vs P Q go h = elim h [ ]
takes_append true path text (w ∷ ws) vs P Q go (a, b, h) = (a, b, go ws h)

takes_mono : (b : Bool) (path text : List ℕ) (ws : List NewText) (P Q : List NewText → Type 0) → ((w : List NewText) → P w → Q w)
    → TakesWrite b path text ws P → TakesWrite b path text ws Q
takes_mono false path text ws P Q go h = go ws h
takes_mono true path text [] P Q go h = elim h [ ]
takes_mono true path text (w ∷ ws) P Q go (a, b, h) = (a, b, go ws h)

-- files that were planned, and others
pub planned_append : (rules : FileRules) (before : Held) (ps qs : List (List ℕ)) (es fs : List End) (ws vs : List NewText)
    → ArePlanned rules before ps es ws → ArePlanned rules before qs fs vs → ArePlanned rules before (ps ++ qs) (es ++ fs) (ws ++ vs)
planned_append rules before [] qs [] fs ws vs h more = subst (λ w. ArePlanned rules before qs fs (w ++ vs)) (sym h) more
planned_append rules before [] qs (e ∷ es) fs ws vs h more = elim h [ ]
planned_append rules before (p ∷ ps) qs [] fs ws vs h more = elim h [ ]
planned_append rules before (p ∷ ps) qs (Err e ∷ es) fs ws vs (cause, h) more = (cause, planned_append rules before ps qs es fs ws vs h more)
planned_append rules before (p ∷ ps) qs (Ok done ∷ es) fs ws vs (old, new, edit, changed, h) more =
    (old, new, edit, changed, takes_append done.changed p new ws vs _ _ (λ w k. planned_append rules before ps qs es fs w vs k more) h)

-- what was planned for a file holds as long as the file holds what it held
cause_kept : (rules : FileRules) (path : List ℕ) (before after : Held) (e : FileFault) → ((bytes : List ℕ) → before path bytes → after path bytes)
    → HasCause rules path before e → HasCause rules path after e
cause_kept rules path before after fault.TooLong go (bytes, held, long) = (bytes, go bytes held, long)
cause_kept rules path before after (fault.Refused refused) go h = λ so. let (text, held, is, bad) = h so in (text, go text held, is, bad)
cause_kept rules path before after (fault.Cut cut) go (text, held, is, bad, why) = (text, go text held, is, bad, why)
cause_kept rules path before after (fault.Unwritten kind) go (old, e, (held, is, does), other) = (old, e, (go old held, is, does), other)
cause_kept rules path before after (fault.Unread kind) go h = h
cause_kept rules path before after fault.Memory go h = h

planned_kept : (rules : FileRules) (path : List ℕ) (before after : Held) → OthersKept path before after → (ps : List (List ℕ)) (es : List End) (ws : List NewText)
    → IsAbsent path ps → ArePlanned rules before ps es ws → ArePlanned rules after ps es ws
planned_kept rules path before after kept [] [] ws others h = h
planned_kept rules path before after kept [] (e ∷ es) ws others h = elim h [ ]
planned_kept rules path before after kept (p ∷ ps) [] ws others h = elim h [ ]
planned_kept rules path before after kept (p ∷ ps) (Err e ∷ es) ws (other, others) (cause, h) =
    (cause_kept rules p before after e (λ bytes. kept p bytes other) cause, planned_kept rules path before after kept ps es ws others h)
planned_kept rules path before after kept (p ∷ ps) (Ok done ∷ es) ws (other, others) (old, new, (held, is, does), changed, h) = (
  old,
  new,
  (kept p old other held, is, does),
  changed,
  takes_mono done.changed p new ws _ _ (λ w k. planned_kept rules path before after kept ps es w others k) h,
)

-- two texts of which it is known whether they are the same
pub differs : (old new : List ℕ) → true ≡ not (same old new) → same old new ≡ false
differs old new h = by-not (same old new) h where
  by-not : (b : Bool) → true ≡ not b → b ≡ false
  by-not true h = h
  by-not false h = refl

agrees : (old new : List ℕ) → false ≡ not (same old new) → old ≡ new
agrees old new h = same_is old new (by-not (same old new) h) where
  by-not : (b : Bool) → false ≡ not b → b ≡ true
  by-not true h = refl
  by-not false h = h

-- a file that stays the same
unchanged_end : (rules : FileRules) (path : List ℕ) (held : Held) (done : Done) (old new : List ℕ)
    → IsEdit rules path held old (record { text = new; matches = done.matches }) → done.changed ≡ not (same old new) → false ≡ not (same old new)
    → IsDone rules path held held done
unchanged_end rules path held done old new edit changed is = record {
  old = old;
  new = new;
  edit = edit;
  utf8 = edited_utf8 rules path old (record { text = new; matches = done.matches }) edit.2;
  changed = changed;
  holds = subst (λ t. held path t) (agrees old new is) edit.0;
  others = λ other bytes differs h. h;
}

-- one report more, and then those of the others
one_then : {F : Type 0} (holds : F → Held) (rules : FileRules) (first g : F) (sofar : List (List ℕ)) (p : List ℕ) (ps : List (List ℕ)) (ends : List End) (e : End) (es : List End)
    → AreFilesEnds holds rules first ((sofar ++ p ∷ []) ++ ps) g ((ends ++ e ∷ []) ++ es) → AreFilesEnds holds rules first (sofar ++ p ∷ ps) g (ends ++ e ∷ es)
one_then holds rules first g sofar p ps ends e es h =
    subst (λ x. AreFilesEnds holds rules first x g (ends ++ e ∷ es)) (append_assoc sofar (p ∷ []) ps)
    (subst (λ x. AreFilesEnds holds rules first ((sofar ++ p ∷ []) ++ ps) g x) (append_assoc ends (e ∷ []) es) h)

-- a file that changes, and its write
written_end : (rules : FileRules) (path : List ℕ) (before after : Held) (done : Done) (old new : List ℕ) (file : NewText)
    → IsEdit rules path before old (record { text = new; matches = done.matches }) → done.changed ≡ not (same old new)
    → file.path.now ≡ path → arc_value file.text ≡ new → after file.path.now (arc_value file.text) → OthersKept file.path.now before after
    → IsDone rules path before after done
written_end rules path before after done old new file edit changed is text holds others = record {
  old = old;
  new = new;
  edit = edit;
  utf8 = edited_utf8 rules path old (record { text = new; matches = done.matches }) edit.2;
  changed = changed;
  holds = subst (λ p. after p new) is (subst (λ t. after file.path.now t) text holds);
  others = subst (λ p. OthersKept p before after) is others;
}

-- a write that failed
pub unwritten_cause : (rules : FileRules) (path : List ℕ) (before : Held) (e : WriteFault) (old new : List ℕ) (matches : ℕ)
    → IsEdit rules path before old (record { text = new; matches = matches }) → same old new ≡ false → HasCause rules path before (of_write e)
unwritten_cause rules path before (writing.Failed kind) old new matches edit other = (old, record { text = new; matches = matches }, edit, other)
unwritten_cause rules path before writing.Memory old new matches edit other = tt

-- a write that was refused alone
pub write_refused : (rules : FileRules) (path : List ℕ) (before after : Held) (r : Result Done FileFault) (e : WriteFault) (old new : List ℕ) (matches : ℕ)
    → IsErrAnd r (λ y. y ≡ of_write e) → IsEdit rules path before old (record { text = new; matches = matches }) → same old new ≡ false → Kept before after
    → IsFileEnd rules path before after r
write_refused rules path before after (Ok done) e old new matches is edit other kept = elim is [ ]
write_refused rules path before after (Err y) e old new matches is edit other kept =
    (subst (λ x. HasCause rules path before x) (sym is) (unwritten_cause rules path before e old new matches edit other), kept)

-- the paths that references lead to
abbrev pub paths_at : List (Bor (List ℕ)) → List (List ℕ)
paths_at paths = map (λ p. p.now) paths

pub paths_append : (a b : List (Bor (List ℕ))) → paths_at (a ++ b) ≡ paths_at a ++ paths_at b
paths_append [] b = refl
paths_append (p ∷ a) b = ap (λ t. p.now ∷ t) (paths_append a b)

-- a file that was planned with its matches, its write, and then the others
done_ends : {F : Type 0} (holds : F → Held) (rules : FileRules) (first f g : F) (sofar : List (List ℕ)) (p : List ℕ) (ps : List (List ℕ)) (ends : List End) (done : Done) (es : List End)
    (old new : List ℕ) (b : Bool) (ws : List NewText) (rs : List Written) → IsAbsent p ps
    → ((h : F) (e : End) (vs : List NewText) (qs : List Written) → AreFilesEnds holds rules first (sofar ++ p ∷ []) h (ends ++ e ∷ []) → ArePlanned rules (holds h) ps es vs → AreReplaced holds h vs qs g
    → AreFilesEnds holds rules first ((sofar ++ p ∷ []) ++ ps) g ((ends ++ e ∷ []) ++ settled es qs))
    → AreFilesEnds holds rules first sofar f ends → IsEdit rules p (holds f) old (record { text = new; matches = done.matches }) → done.changed ≡ not (same old new) → b ≡ not (same old new)
    → TakesWrite b p new ws (ArePlanned rules (holds f) ps es) → AreReplaced holds f ws rs g
    → AreFilesEnds holds rules first (sofar ++ p ∷ ps) g (ends ++ (settle_done b done rs).0 ∷ settled es (settle_done b done rs).1)
done_ends holds rules first f g sofar p ps ends done es old new false ws rs others again so edit changed is planned replaced =
    one_then holds rules first g sofar p ps ends (Ok done) (settled es rs)
    (again f (Ok done) ws rs (AreFilesEnds.one_more sofar f f ends p (Ok done) so (unchanged_end rules p (holds f) done old new edit changed is)) planned replaced)
done_ends holds rules first f g sofar p ps ends done es old new true [] rs others again so edit changed is planned replaced = elim planned [ ]
done_ends holds rules first f g sofar p ps ends done es old new true (w ∷ ws) [] others again so edit changed is planned replaced = elim replaced [ ]
done_ends holds rules first f g sofar p ps ends done es old new true (w ∷ ws) (Ok written ∷ rs) others again so edit changed is (path, text, planned) (h, (held, kept), replaced) =
    one_then holds rules first g sofar p ps ends (Ok done) (settled es rs)
    (again h (Ok done) ws rs
    (AreFilesEnds.one_more sofar f h ends p (Ok done) so (written_end rules p (holds f) (holds h) done old new w edit changed path text held kept))
    (planned_kept rules p (holds f) (holds h) (subst (λ x. OthersKept x (holds f) (holds h)) path kept) ps es ws others planned) replaced)
done_ends holds rules first f g sofar p ps ends done es old new true (w ∷ ws) (Err e ∷ rs) others again so edit changed is (path, text, planned) (h, kept, replaced) =
    one_then holds rules first g sofar p ps ends (Err (of_write e)) (settled es rs)
    (again h (Err (of_write e)) ws rs
    (AreFilesEnds.one_more sofar f h ends p (Err (of_write e)) so (unwritten_cause rules p (holds f) e old new done.matches edit (differs old new is), kept))
    (planned_kept rules p (holds f) (holds h) (λ other bytes unlike. kept other bytes) ps es ws others planned) replaced)

-- The files of a batch, from the state in which they were planned to the one that their writes left: each has the
-- report of a run that edits one after the other.
pub batch_ends : {F : Type 0} (holds : F → Held) (rules : FileRules) (first f g : F) (sofar ps : List (List ℕ)) (ends es : List End) (ws : List NewText) (rs : List Written)
    → AreFilesEnds holds rules first sofar f ends → ArePlanned rules (holds f) ps es ws → Differ ps → AreReplaced holds f ws rs g
    → AreFilesEnds holds rules first (sofar ++ ps) g (ends ++ settled es rs)
batch_ends holds rules first f g sofar [] ends [] [] [] so planned differ replaced =
    subst (λ h. AreFilesEnds holds rules first (sofar ++ []) h (ends ++ [])) (sym replaced)
    (subst (λ p. AreFilesEnds holds rules first p f (ends ++ [])) (sym (append-nil sofar))
    (subst (λ e. AreFilesEnds holds rules first sofar f e) (sym (append-nil ends)) so))
batch_ends holds rules first f g sofar [] ends [] [] (r ∷ rs) so planned differ replaced = elim replaced [ ]
batch_ends holds rules first f g sofar [] ends [] (w ∷ ws) rs so planned differ replaced = cc
batch_ends holds rules first f g sofar [] ends (e ∷ es) ws rs so planned differ replaced = elim planned [ ]
batch_ends holds rules first f g sofar (p ∷ ps) ends [] ws rs so planned differ replaced = elim planned [ ]
batch_ends holds rules first f g sofar (p ∷ ps) ends (Err e ∷ es) ws rs so (cause, planned) (others, differ) replaced =
    one_then holds rules first g sofar p ps ends (Err e) (settled es rs)
    (batch_ends holds rules first f g (sofar ++ p ∷ []) ps (ends ++ Err e ∷ []) es ws rs
    (AreFilesEnds.one_more sofar f f ends p (Err e) so (cause, λ path bytes h. h)) planned differ replaced)
batch_ends holds rules first f g sofar (p ∷ ps) ends (Ok done ∷ es) ws rs so (old, new, edit, changed, takes) (others, differ) replaced =
    done_ends holds rules first f g sofar p ps ends done es old new done.changed ws rs others
    (λ h e vs qs now planned replaced. batch_ends holds rules first h g (sofar ++ p ∷ []) ps (ends ++ e ∷ []) es vs qs now planned differ replaced)
    so edit changed changed takes replaced

-- the same for a file if the writes were refused together
refused_end : {F : Type 0} (holds : F → Held) (rules : FileRules) (first f : F) (sofar : List (List ℕ)) (p : List ℕ) (ps : List (List ℕ)) (ends : List End) (done : Done) (es : List End)
    (old new : List ℕ) (b : Bool) (ws : List NewText)
    → ((e : End) (vs : List NewText) → AreFilesEnds holds rules first (sofar ++ p ∷ []) f (ends ++ e ∷ []) → ArePlanned rules (holds f) ps es vs
    → AreFilesEnds holds rules first ((sofar ++ p ∷ []) ++ ps) f ((ends ++ e ∷ []) ++ settled es []))
    → AreFilesEnds holds rules first sofar f ends → IsEdit rules p (holds f) old (record { text = new; matches = done.matches }) → done.changed ≡ not (same old new) → b ≡ not (same old new)
    → TakesWrite b p new ws (ArePlanned rules (holds f) ps es)
    → AreFilesEnds holds rules first (sofar ++ p ∷ ps) f (ends ++ (settle_done b done []).0 ∷ settled es (settle_done b done []).1)
refused_end holds rules first f sofar p ps ends done es old new false ws again so edit changed is planned =
    one_then holds rules first f sofar p ps ends (Ok done) (settled es [])
    (again (Ok done) ws (AreFilesEnds.one_more sofar f f ends p (Ok done) so (unchanged_end rules p (holds f) done old new edit changed is)) planned)
refused_end holds rules first f sofar p ps ends done es old new true [] again so edit changed is planned = elim planned [ ]
refused_end holds rules first f sofar p ps ends done es old new true (w ∷ ws) again so edit changed is (path, text, planned) =
    one_then holds rules first f sofar p ps ends (Err fault.Memory) (settled es [])
    (again (Err fault.Memory) ws (AreFilesEnds.one_more sofar f f ends p (Err fault.Memory) so (tt, λ path bytes h. h)) planned)

-- the same if the writes were refused together
pub refused_ends : {F : Type 0} (holds : F → Held) (rules : FileRules) (first f : F) (sofar ps : List (List ℕ)) (ends es : List End) (ws : List NewText)
    → AreFilesEnds holds rules first sofar f ends → ArePlanned rules (holds f) ps es ws → AreFilesEnds holds rules first (sofar ++ ps) f (ends ++ settled es [])
refused_ends holds rules first f sofar [] ends [] ws so planned =
    subst (λ p. AreFilesEnds holds rules first p f (ends ++ [])) (sym (append-nil sofar))
    (subst (λ e. AreFilesEnds holds rules first sofar f e) (sym (append-nil ends)) so)
refused_ends holds rules first f sofar [] ends (e ∷ es) ws so planned = elim planned [ ]
refused_ends holds rules first f sofar (p ∷ ps) ends [] ws so planned = elim planned [ ]
refused_ends holds rules first f sofar (p ∷ ps) ends (Err e ∷ es) ws so (cause, planned) =
    one_then holds rules first f sofar p ps ends (Err e) (settled es [])
    (refused_ends holds rules first f (sofar ++ p ∷ []) ps (ends ++ Err e ∷ []) es ws
    (AreFilesEnds.one_more sofar f f ends p (Err e) so (cause, λ path bytes h. h)) planned)
refused_ends holds rules first f sofar (p ∷ ps) ends (Ok done ∷ es) ws so (old, new, edit, changed, takes) =
    refused_end holds rules first f sofar p ps ends done es old new done.changed ws
    (λ e vs now planned. refused_ends holds rules first f (sofar ++ p ∷ []) ps (ends ++ e ∷ []) es vs now planned)
    so edit changed changed takes

-- one path more that is not among them
absent_append : (a : List (List ℕ)) (x y : List ℕ) → IsAbsent y a → x ≢ y → IsAbsent y (a ++ x ∷ [])
absent_append [] x y h one = (one, tt)
absent_append (z ∷ a) x y (here, h) one = (here, absent_append a x y h one)

differ_append : (a : List (List ℕ)) (x : List ℕ) → Differ a → IsAbsent x a → Differ (a ++ x ∷ [])
differ_append [] x h none = (tt, tt)
differ_append (y ∷ a) x (others, h) (one, none) = (absent_append a x y others (λ is. one (sym is)), differ_append a x h none)

same_self : (a : List ℕ) → same a a ≡ true
same_self [] = refl
same_self (x ∷ a) = ap (λ b. b && same a a) (eq-eqb x x refl) ∙ same_self a

absent : (paths : List (Bor (List ℕ))) (x : List ℕ) → list_any (λ p. same p.now x) paths ≡ false → IsAbsent x (paths_at paths)
absent [] x h = tt
absent (p ∷ paths) x h =
    let parts = or_parts (same p.now x) (list_any (λ q. same q.now x) paths) h in
    (λ is. true≢false (sym (subst (λ t. same p.now t ≡ true) is (same_self p.now)) ∙ parts.0), absent paths x parts.1)

-- one path more of a batch
pub differ_more : (paths : List (Bor (List ℕ))) (i : ℕ) (d : Bor (List ℕ)) → i < length paths → Differ (paths_at (take i paths))
    → list_any (λ p. same p.now (get_or paths i d).now) (take i paths) ≡ false → Differ (paths_at (take (i + 1) paths))
differ_more paths i d lt so none =
    subst Differ (sym (ap paths_at (take_more paths i d lt) ∙ paths_append (take i paths) (get_or paths i d ∷ [])))
    (differ_append (paths_at (take i paths)) (get_or paths i d).now so (absent (take i paths) (get_or paths i d).now none))

-- one file more that was planned
pub planned_more : (rules : FileRules) (before : Held) (paths : List (Bor (List ℕ))) (i : ℕ) (d : Bor (List ℕ)) (es after : List End) (e : End) (ws writes added : List NewText)
    → i < length paths → ArePlanned rules before (paths_at (take i paths)) es ws → ArePlanned rules before ((get_or paths i d).now ∷ []) (e ∷ []) added
    → after ≡ es ++ e ∷ [] → writes ≡ ws ++ added → ArePlanned rules before (paths_at (take (i + 1) paths)) after writes
planned_more rules before paths i d es after e ws writes added lt so one is all =
    subst (λ p. ArePlanned rules before p after writes) (sym (ap paths_at (take_more paths i d lt) ∙ paths_append (take i paths) (get_or paths i d ∷ [])))
    (subst (λ w. ArePlanned rules before (paths_at (take i paths) ++ (get_or paths i d).now ∷ []) after w) (sym all)
    (subst (λ x. ArePlanned rules before (paths_at (take i paths) ++ (get_or paths i d).now ∷ []) x (ws ++ added)) (sym is)
    (planned_append rules before (paths_at (take i paths)) ((get_or paths i d).now ∷ []) es (e ∷ []) ws added so one)))

-- one report more
pub settled_more : (planned : List End) (i : ℕ) (d : End) (left rest : List Written) (ends after whole : List End) (e : End) → i < length planned
    → ends ++ settled (drop i planned) left ≡ whole → (e, rest) ≡ settle (get_or planned i d) left → after ≡ ends ++ e ∷ [] → after ++ settled (drop (i + 1) planned) rest ≡ whole
settled_more planned i d left rest ends after whole e lt so one is =
    let step : settled (drop i planned) left ≡ e ∷ settled (drop (i + 1) planned) rest =
    ap (λ t. settled t left) (drop_more planned i d lt) ∙ ap (λ p. p.0 ∷ settled (drop (i + 1) planned) p.1) (sym one) in
    ap (λ t. t ++ settled (drop (i + 1) planned) rest) is ∙ append_assoc ends (e ∷ []) (settled (drop (i + 1) planned) rest) ∙ ap (λ t. ends ++ t) (sym step) ∙ so

pub settled_all : (planned : List End) (left : List Written) (ends whole : List End) → ends ++ settled (drop (length planned) planned) left ≡ whole → ends ≡ whole
settled_all planned left ends whole so =
    sym (append-nil ends) ∙ ap (λ t. ends ++ settled t left) (sym (drop-length planned)) ∙ so

-- the first of them differ too
absent_fewer : (n : ℕ) (paths : List (Bor (List ℕ))) (x : List ℕ) → IsAbsent x (paths_at paths) → IsAbsent x (paths_at (take n paths))
absent_fewer zero paths x h = tt
absent_fewer (suc n) [] x h = tt
absent_fewer (suc n) (p ∷ paths) x (here, h) = (here, absent_fewer n paths x h)

pub differ_fewer : (n : ℕ) (paths : List (Bor (List ℕ))) → Differ (paths_at paths) → Differ (paths_at (take n paths))
differ_fewer zero paths h = tt
differ_fewer (suc n) [] h = tt
differ_fewer (suc n) (p ∷ paths) (others, h) = (absent_fewer n paths p.now others, differ_fewer n paths h)

take_fewer : (n m : ℕ) (paths : List (Bor (List ℕ))) → n ≤ length (take m paths) → take n (take m paths) ≡ take n paths
take_fewer zero m paths le = refl
take_fewer (suc n) zero paths le = absurd (omega (arith, le))
take_fewer (suc n) (suc m) [] le = absurd (omega (arith, le))
take_fewer (suc n) (suc m) (p ∷ paths) le = ap (λ t. p ∷ t) (take_fewer n m paths (omega (arith, le)))

-- a batch more, of n files
pub batch_more : {F : Type 0} (holds : F → Held) (rules : FileRules) (first g : F) (paths : List (Bor (List ℕ))) (i m n : ℕ) (rest batch : List (Bor (List ℕ))) (ends : List End)
    → rest ≡ drop i paths → batch ≡ take m rest → n ≤ length batch → AreFilesEnds holds rules first (paths_at (take i paths) ++ paths_at (take n batch)) g ends
    → AreFilesEnds holds rules first (paths_at (take (i + n) paths)) g ends
batch_more holds rules first g paths i m n rest batch ends after is le h =
    let whole : batch ≡ take m (drop i paths) = is ∙ ap (λ r. take m r) after in
    let part : take n batch ≡ take n (drop i paths) = ap (λ b. take n b) whole ∙ take_fewer n m (drop i paths) (subst (λ b. n ≤ length b) whole le) in
    subst (λ p. AreFilesEnds holds rules first (paths_at p) g ends) (sym (take-add i n paths))
    (subst (λ p. AreFilesEnds holds rules first p g ends) (sym (paths_append (take i paths) (take n (drop i paths))))
    (subst (λ b. AreFilesEnds holds rules first (paths_at (take i paths) ++ paths_at b) g ends) part h))
