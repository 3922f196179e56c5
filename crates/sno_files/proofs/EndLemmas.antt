-- Reports of the first of several files.
use Rattle.std.proofs.Common.{◌≡◌, ℕ, zero, suc, ◌<◌, ◌≤◌, List, [], ◌∷◌, ◌++◌, length, take, map, Result, refl, ap, subst, arith, slice_set, slice_index_or}
use Rattle.std.proofs.lemmas.List.{length-append}
use Rattle.std.specs.Borrow.{Bor}
use Rattle.std.specs.Prelude.{IfOk, Ok, Err}
use Rattle.sno_edit.specs.Files.{AreFilesEnds, IsFileEnd}
use Rattle.sno_edit.specs.Rules.{FileRules}
use Rattle.sno_edit.specs.declared.files.Done.{Done}
use Rattle.sno_edit.specs.declared.faults.FileFault.{FileFault}
use Rattle.sno_files.specs.Editing.{AreFirstEnds, any_bytes}

abbrev Ends : Type 0
Ends = List (Result Done FileFault)

-- one file more, of which there is a report
end_after : (rules : FileRules) (paths : List (List ℕ)) (path : List ℕ) (ends : Ends) (end : Result Done FileFault) → length paths ≡ length ends → AreFirstEnds rules paths ends
    → IsFileEnd rules path any_bytes any_bytes end → AreFirstEnds rules (paths ++ path ∷ []) (ends ++ end ∷ [])
end_after rules [] path [] end same all is = (is, tt)
end_after rules [] path (e ∷ ends) end same all is = absurd (omega (arith, same))
end_after rules (p ∷ paths) path [] end same all is = absurd (omega (arith, same))
end_after rules (p ∷ paths) path (e ∷ ends) end same all is = (all.0, end_after rules paths path ends end (omega (arith, same)) all.1 is)

-- files that were edited one after the other have a report each
pub first_ends : {F : Type 0} {rules : FileRules} {first last : F} {paths : List (List ℕ)} {ends : Ends} → AreFilesEnds (λ f path bytes. Unit {0}) rules first paths last ends
    → (length paths ≡ length ends) × AreFirstEnds rules paths ends
first_ends AreFilesEnds.no_file = (refl, tt)
first_ends {rules = rules} (AreFilesEnds.one_more paths f g ends path end so one) =
    let r = first_ends so in
    (omega (arith, r.0, length-append paths (path ∷ []), length-append ends (end ∷ [])), end_after rules paths path ends end r.0 r.1 one)

-- the first files of more
ends_of_more : (rules : FileRules) (n : ℕ) (paths : List (Bor (List ℕ))) (ends : Ends) → AreFirstEnds rules (map (λ p. p.now) (take n paths)) ends
    → AreFirstEnds rules (map (λ p. p.now) paths) ends
ends_of_more rules n paths [] h = tt
ends_of_more rules zero paths (e ∷ ends) h = elim h [ ]
ends_of_more rules (suc n) [] (e ∷ ends) h = elim h [ ]
ends_of_more rules (suc n) (p ∷ paths) (e ∷ ends) h = (h.0, ends_of_more rules n paths ends h.1)

-- the reports of files that are held together, and how many they are
pub held_ends : {F : Type 0} {rules : FileRules} {first last : F} (n : ℕ) (paths files : List (Bor (List ℕ))) (ends : Ends) → files ≡ take n paths
    → AreFilesEnds (λ f path bytes. Unit {0}) rules first (map (λ p. p.now) files) last ends → AreFirstEnds rules (map (λ p. p.now) paths) ends
held_ends {rules = rules} n paths files ends front h =
    ends_of_more rules n paths ends (subst (λ (l : List (Bor (List ℕ))). AreFirstEnds rules (map (λ p. p.now) l) ends) front (first_ends h).1)

pub path_count : (files : List (Bor (List ℕ))) → length (map (λ p. p.now) files) ≡ length files
path_count [] = refl
path_count (p ∷ files) = ap (λ n. suc n) (path_count files)

pub held_count : {F : Type 0} {rules : FileRules} {first last : F} (files : List (Bor (List ℕ))) (ends : Ends)
    → AreFilesEnds (λ f path bytes. Unit {0}) rules first (map (λ p. p.now) files) last ends → length ends ≡ length files
held_count files ends h = omega (arith, (first_ends h).0, path_count files)

-- what holds of a result
pub ok_then : {A E : Type 0} {P Q : A → Type 0} (r : Result A E) → ((a : A) → P a → Q a) → IfOk r P → IfOk r Q
ok_then (Ok a) f h = f a h
ok_then (Err e) f h = tt

-- there are no more reports than files
pub few_ends : (rules : FileRules) (paths : List (List ℕ)) (ends : Ends) → AreFirstEnds rules paths ends → length ends ≤ length paths
few_ends rules paths [] h = omega arith
few_ends rules [] (e ∷ ends) h = elim h [ ]
few_ends rules (p ∷ paths) (e ∷ ends) h = omega (arith, few_ends rules paths ends h.1)

-- the report of a file that is edited anew
pub end_anew : (rules : FileRules) (paths : List (Bor (List ℕ))) (ends : Ends) (i : ℕ) (d : Bor (List ℕ)) (end : Result Done FileFault) → AreFirstEnds rules (map (λ p. p.now) paths) ends
    → IsFileEnd rules (slice_index_or paths i d).now any_bytes any_bytes end → i < length ends → AreFirstEnds rules (map (λ p. p.now) paths) (slice_set ends i end)
end_anew rules paths [] i d end h is within = absurd (omega (arith, within))
end_anew rules [] (e ∷ ends) i d end h is within = elim h [ ]
end_anew rules (p ∷ paths) (e ∷ ends) zero d end h is within = (is, h.1)
end_anew rules (p ∷ paths) (e ∷ ends) (suc i) d end h is within = (h.0, end_anew rules paths ends i d end h.1 is (omega (arith, within)))
