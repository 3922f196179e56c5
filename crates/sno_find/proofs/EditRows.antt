-- Rows that were written, and those that are left.
use Rattle.std.proofs.Common.{◌≡◌, ◌<◌, ◌≤◌, ◌+◌, ℕ, suc, Bool, true, false, cond, map, drop, arith, Result, Ok, Err, OnOk, List, [], ◌∷◌, ◌++◌, take, length, get_or, Option, Some, None, refl, ap, sym, ◌∙◌, subst, append_assoc}
use Rattle.std.proofs.Math.Seq.{drop-cons}
use Rattle.std.proofs.lemmas.List.{append-nil, drop_all, flat_map_more, take_more}
use Rattle.std.proofs.KnownBytes.{Appends-nil, Appends-trans}
use Rattle.std.specs.Io.KnownBytes.{Appends}
use Rattle.std.specs.List.{flat_map}
use Rattle.sno_statement.specs.Statement.{Statement}
use Rattle.sno_edit.specs.declared.trials.Trials.{Trials}
use Rattle.sno_find.specs.EditRows.{edit_json, go_on, left_of, matches_json, statement_json}
use Rattle.sno_find.specs.Findings.{finding_of, hits_of, is_refused}
use Rattle.sno_find.specs.Json.{finding_json}
use Rattle.sno_find.specs.declared.findings.Finding.{Finding}

-- what was written so far, and with the rows that are left the whole
pub record IsWritten (old new : Option (List ℕ)) (left whole : List ℕ) : Type 0 where
  pub so_far : List ℕ
  pub appends : Appends old new so_far
  pub joined : so_far ++ left ≡ whole

pub written_none : (old : Option (List ℕ)) (whole : List ℕ) → IsWritten old old whole whole
written_none old whole = record { so_far = []; appends = Appends-nil old; joined = refl }

-- the first of the rows that are left are written
pub written_more : (old mid new : Option (List ℕ)) (row rest left whole : List ℕ) → IsWritten old mid left whole → Appends mid new row → left ≡ row ++ rest
    → IsWritten old new rest whole
written_more old mid new row rest left whole so more is = record {
  so_far = so.so_far ++ row;
  appends = Appends-trans old mid new so.so_far row so.appends more;
  joined = append_assoc so.so_far row rest ∙ ap (λ (z : List ℕ). so.so_far ++ z) (sym is) ∙ so.joined;
}

-- .. and no row is left
pub written_all : (old new : Option (List ℕ)) (whole : List ℕ) → IsWritten old new [] whole → Appends old new whole
written_all old new whole so = subst (Appends old new) (sym (append-nil so.so_far) ∙ so.joined) so.appends

-- of the last statement nothing follows
pub nothing_after : (trials : Trials) (path : List ℕ) (left : Option (List ℕ)) → go_on left (edit_json trials path []) ≡ []
nothing_after trials path None = refl
nothing_after trials path (Some text) = refl

-- one row more of those of a list
pub row_written : {X : Type 0} (old mid new : Option (List ℕ)) (f : X → List ℕ) (xs : List X) (i : ℕ) (x : X) → i < length xs
    → Appends old mid (flat_map f (take i xs)) → Appends mid new (f (get_or xs i x)) → Appends old new (flat_map f (take (i + 1) xs))
row_written {X} old mid new f xs i x inside so more =
    subst (λ (ys : List X). Appends old new (flat_map f ys)) (sym (take_more xs i x inside))
    (subst (Appends old new) (flat_map_more f [] (take i xs) (get_or xs i x)) (Appends-trans old mid new (flat_map f (take i xs)) (f (get_or xs i x)) so more))

-- the first of the statements that are left is performed
pub one_performed : (trials : Trials) (path text : List ℕ) (s : Statement) (here rest : List Statement) (left : Option (List ℕ)) → here ≡ s ∷ rest → left_of trials path text s ≡ left
    → edit_json trials path here text ≡ statement_json trials path text s ++ go_on left (edit_json trials path rest)
one_performed trials path text s here rest left at is =
    ap (λ (l : List Statement). edit_json trials path l text) at
    ∙ ap (λ (o : Option (List ℕ)). statement_json trials path text s ++ go_on o (edit_json trials path rest)) is

-- what is left of a list, one element more
drop_item : {X : Type 0} (xs : List X) (i : ℕ) (x : X) → i < length xs → x ≡ get_or xs i x → drop i xs ≡ x ∷ drop (i + 1) xs
drop_item {X} xs i x inside is =
    let next : suc i ≡ i + 1 = omega arith in
    drop-cons xs i x inside ∙ ap (λ (z : X). z ∷ drop (suc i) xs) (sym is) ∙ ap (λ (n : ℕ). x ∷ drop n xs) next

-- a statement that is not the last one is performed, and leaves this text
pub turn_written : (trials : Trials) (path text next : List ℕ) (earlier : List Statement) (last s : Statement) (i : ℕ) (old mid new : Option (List ℕ)) (whole : List ℕ) → i < length earlier
    → s ≡ get_or earlier i s → left_of trials path text s ≡ Some next → IsWritten old mid (edit_json trials path (drop i earlier ++ last ∷ []) text) whole
    → Appends mid new (statement_json trials path text s) → IsWritten old new (edit_json trials path (drop (i + 1) earlier ++ last ∷ []) next) whole
turn_written trials path text next earlier last s i old mid new whole inside is left so more =
    let rest : List Statement = drop (i + 1) earlier ++ last ∷ [] in
    written_more old mid new (statement_json trials path text s) (edit_json trials path rest next) (edit_json trials path (drop i earlier ++ last ∷ []) text) whole so more
    (one_performed trials path text s (drop i earlier ++ last ∷ []) rest (Some next) (ap (λ (l : List Statement). l ++ last ∷ []) (drop_item earlier i s inside is)) left)

-- the last statement is performed, after which nothing is left
pub last_written : (trials : Trials) (path text : List ℕ) (earlier : List Statement) (last : Statement) (i : ℕ) (old mid new : Option (List ℕ)) (whole : List ℕ) → length earlier ≤ i
    → IsWritten old mid (edit_json trials path (drop i earlier ++ last ∷ []) text) whole → {A E : Type 0} (r : Result A E) → OnOk r (Appends mid new (statement_json trials path text last))
    → OnOk r (Appends old new whole)
last_written trials path text earlier last i old mid new whole ended so (Err e) more = tt
last_written trials path text earlier last i old mid new whole ended so (Ok x) more =
    let row = statement_json trials path text last in
    let is : edit_json trials path (drop i earlier ++ last ∷ []) text ≡ row ++ [] =
    ap (λ (l : List Statement). edit_json trials path (l ++ last ∷ []) text) (drop_all i earlier ended)
    ∙ ap (λ (z : List ℕ). row ++ z) (nothing_after trials path (left_of trials path text last)) in
    written_all old new whole (written_more old mid new row [] (edit_json trials path (drop i earlier ++ last ∷ []) text) whole so more is)

-- the matches that were found are those of the statement
pub rows_found : (trials : Trials) (path text : List ℕ) (s : Statement) (old new : Option (List ℕ)) (found : List Finding) → is_refused trials path text s ≡ false
    → found ≡ map (finding_of text) (hits_of trials path text s) → Appends old new (flat_map (finding_json path text) found) → Appends old new (matches_json trials path text s)
unfolding matches_json
rows_found trials path text s old new found within is so =
    subst (λ (b : Bool). Appends old new (cond b [] (flat_map (finding_json path text) (map (finding_of text) (hits_of trials path text s))))) (sym within)
    (subst (λ (z : List Finding). Appends old new (flat_map (finding_json path text) z)) is so)

-- of one that is refused there are none
pub rows_refused : (trials : Trials) (path text : List ℕ) (s : Statement) (old : Option (List ℕ)) → is_refused trials path text s ≡ true → Appends old old (matches_json trials path text s)
unfolding matches_json
rows_refused trials path text s old refused =
    subst (λ (b : Bool). Appends old old (cond b [] (flat_map (finding_json path text) (map (finding_of text) (hits_of trials path text s))))) (sym refused) (Appends-nil old)
