-- A search along unguarded references, depth first, through definitions that were not seen.
use Rattle.std.proofs.Common.{◌≡◌, ℕ, suc, ◌+◌, ◌<◌, ◌≤◌, ◌⊎◌, Bool, true, false, List, [], ◌∷◌, ◌++◌, length, reverse, get_or, set, eqb, inl, inr, ⊎_elim, refl, arith, ap, sym, subst, ◌∙◌}
use Rattle.std.specs.List.{AllByRecursion, IsDistinct}
use Rattle.std.proofs.lemmas.Bool.{both_ways, cases_eq, cases_lt, cases_Bool, ne_eqb}
use Rattle.std.proofs.lemmas.List.{get_or-set_same, get_or-set_other, length-map, reverse-append}
use Rattle.std.proofs.lemmas.Map.Keys.{IsDistinct-cons}
use Rattle.sno_pattern.specs.Tree.{Tree, tree_of, trees}
use Rattle.sno_pattern.specs.declared.tree.Pattern.{Pattern}
use Rattle.sno_pattern.specs.Guard.{Leads}
use Rattle.sno_pattern.specs.Searching.{IsFreshWay, IsClosed, IsDeadEnd, IsSearched, AreReferences}
use Rattle.sno_pattern.proofs.Marks.{unmarked_count, one_less}

-- what is marked stays marked
abbrev pub Kept : List Bool → List Bool → Type 0
Kept before after = (j : ℕ) → get_or before j false ≡ true → get_or after j false ≡ true

-- so no more places are left than before
pub kept_count : (before after : List Bool) → length after ≡ length before → Kept before after → unmarked_count after ≤ unmarked_count before
kept_count [] [] long kept = omega arith
kept_count [] (y ∷ after) long kept = absurd (omega arith)
kept_count (x ∷ before) [] long kept = absurd (omega arith)
kept_count (true ∷ before) (true ∷ after) long kept = kept_count before after (omega arith) (λ j h. kept (suc j) h)
kept_count (true ∷ before) (false ∷ after) long kept = absurd (both_ways false refl (kept 0 refl))
kept_count (false ∷ before) (true ∷ after) long kept = let rest = kept_count before after (omega arith) (λ j h. kept (suc j) h) in omega arith
kept_count (false ∷ before) (false ∷ after) long kept = let rest = kept_count before after (omega arith) (λ j h. kept (suc j) h) in omega arith

-- the measure of the search falls
pub search_falls : (before after : List Bool) (next : ℕ) → length after ≡ length before → Kept before after → next < length after → get_or after next false ≡ false
    → unmarked_count (set after next true) < unmarked_count before
search_falls before after next long kept inside new =
    let fewer = one_less after next inside new in let no_more = kept_count before after long kept in omega arith

-- a place that is marked now was marked before, or is the one just marked
marked_now : (seen : List Bool) (next x : ℕ) → get_or (set seen next true) x false ≡ true → (x ≡ next) ⊎ (get_or seen x false ≡ true)
marked_now seen next x h =
    ⊎_elim (λ same. inl same) (λ other. let still : get_or seen x false ≡ true = sym (get_or-set_other seen next x true false other) ∙ h in inr still) (cases_eq x next)

marked_kept : (seen : List Bool) (next : ℕ) → next < length seen → Kept seen (set seen next true)
marked_kept seen next inside j h =
    ⊎_elim (λ same. let here : get_or (set seen next true) next false ≡ true = get_or-set_same seen next true false inside in rw same here)
    (λ other. get_or-set_other seen next j true false other ∙ h) (cases_eq j next)

unseen_before : (before after : List Bool) → Kept before after → (x : ℕ) → get_or after x false ≡ false → get_or before x false ≡ false
unseen_before before after kept x new =
    ⊎_elim (λ seen. absurd (both_ways (get_or after x false) new (kept x seen))) (λ unseen. unseen) (cases_Bool (get_or before x false))

none_apart : IsDistinct eqb []
unfolding IsDistinct
none_apart = tt

module _ (bodies : List Tree) (target : ℕ) where
  closed_kept : (seen later : List Bool) (x : ℕ) → Kept seen later → IsClosed bodies target seen x → IsClosed bodies target later x
  closed_kept seen later x kept h j leads = ((h j leads).0, kept j (h j leads).1)

  -- nothing was looked at yet
  pub searched_none : (found : List ℕ) (seen : List Bool) → IsSearched bodies found 0 target seen seen
  searched_none found seen = record {
    kept = λ j h. h;
    done = λ k h. absurd (omega arith);
    rest = λ x no_mark mark. absurd (both_ways (get_or seen x false) no_mark mark);
  }

  one_more : (found : List ℕ) (n : ℕ) (seen : List Bool) → ((k : ℕ) → k < n → (get_or found k 0 ≡ target → ⊥) × (get_or seen (get_or found k 0) false ≡ true))
      → (get_or found n 0 ≡ target → ⊥) × (get_or seen (get_or found n 0) false ≡ true)
      → (k : ℕ) → k < n + 1 → (get_or found k 0 ≡ target → ⊥) × (get_or seen (get_or found k 0) false ≡ true)
  one_more found n seen below here k h =
      ⊎_elim (below k)
      (λ last. let same : n ≡ k = omega arith in
      let P : ℕ → Type 0 = λ i. (get_or found i 0 ≡ target → ⊥) × (get_or seen (get_or found i 0) false ≡ true) in subst P same here)
      (cases_lt k n)

  -- the next reference was seen before
  pub searched_seen : (found : List ℕ) (n : ℕ) (before after : List Bool) → IsSearched bodies found n target before after
      → (get_or found n 0 ≡ target → ⊥) → get_or after (get_or found n 0) false ≡ true → IsSearched bodies found (n + 1) target before after
  searched_seen found n before after s ne seen = record {
    kept = s.kept;
    done = one_more found n after s.done (ne, seen);
    rest = s.rest;
  }

  -- the next reference was searched, and it is a dead end
  pub searched_more : (found : List ℕ) (n : ℕ) (before after later : List Bool) → IsSearched bodies found n target before after
      → (get_or found n 0 ≡ target → ⊥) → get_or found n 0 < length after
      → IsDeadEnd bodies (get_or found n 0) target (set after (get_or found n 0) true) later → IsSearched bodies found (n + 1) target before later
  searched_more found n before after later s ne inside d =
      let next : ℕ = get_or found n 0 in
      let on : Kept after later = λ j h. d.kept j (marked_kept after next inside j h) in
      let seen : get_or later next false ≡ true = d.kept next (get_or-set_same after next true false inside) in
      record {
        kept = λ j h. on j (s.kept j h);
        done = one_more found n later (λ k h. ((s.done k h).0, on (get_or found k 0) (s.done k h).1)) (ne, seen);
        rest = λ x no_mark mark.
            ⊎_elim
            (λ marked. ⊎_elim
            (λ same. let P : ℕ → Type 0 = IsClosed bodies target later in subst P (sym same) d.done)
            (λ was. closed_kept after later x on (s.rest x no_mark was))
            (marked_now after next x marked))
            (λ unmarked. d.rest x unmarked mark)
            (cases_Bool (get_or (set after next true) x false));
      }

  -- all references were looked at
  pub dead_end : (from : ℕ) (found : List ℕ) (n : ℕ) (before after : List Bool) → AreReferences bodies from found → length found ≤ n
      → IsSearched bodies found n target before after → IsDeadEnd bodies from target before after
  dead_end from found n before after r all_of s = record {
    kept = s.kept;
    done = λ j leads. let at = r.all j leads in let there = s.done at.0 (omega (arith, at.1)) in
        let P : ℕ → Type 0 = λ i. (i ≡ target → ⊥) × (get_or after i false ≡ true) in subst P at.2 there;
    rest = s.rest;
  }

  -- the next reference is the target
  pub way_ends : (from : ℕ) (found : List ℕ) (n : ℕ) (before : List Bool) (way : List ℕ) → AreReferences bodies from found → n < length found
      → get_or found n 0 ≡ target → way ≡ [] → IsFreshWay bodies from (reverse way) target before
  way_ends from found n before way r inside here none =
      let P : ℕ → Type 0 = Leads bodies from in
      let Q : List ℕ → Type 0 = λ w. IsFreshWay bodies from (reverse w) target before in
      subst Q (sym none) (record { path = subst P here (r.each n inside); fresh = tt; apart = none_apart })

  pub not_seen_apart : (seen : List Bool) (next : ℕ) → next < length seen → (way : List ℕ) → AllByRecursion (λ x. get_or (set seen next true) x false ≡ false) way
      → AllByRecursion (λ x. eqb next x ≡ false) way
  not_seen_apart seen next inside [] h = tt
  not_seen_apart seen next inside (x ∷ way) h = (
    ne_eqb next x
        (λ same. let here : get_or (set seen next true) next false ≡ true = get_or-set_same seen next true false inside in
        let P : ℕ → Type 0 = λ i. get_or (set seen next true) i false ≡ true in both_ways (get_or (set seen next true) x false) h.0 (subst P same here)),
    not_seen_apart seen next inside way h.1,
  )

  not_seen_before : (before after : List Bool) → Kept before after → (way : List ℕ) → AllByRecursion (λ x. get_or after x false ≡ false) way
      → AllByRecursion (λ x. get_or before x false ≡ false) way
  not_seen_before before after kept [] h = tt
  not_seen_before before after kept (x ∷ way) h = (unseen_before before after kept x h.0, not_seen_before before after kept way h.1)

  -- a way from the next reference becomes one from here, with that reference before it
  fresh_on : (from next : ℕ) (before after : List Bool) (way : List ℕ) → Leads bodies from next → Kept before after → next < length after
      → get_or after next false ≡ false → IsFreshWay bodies next way target (set after next true) → IsFreshWay bodies from (next ∷ way) target before
  fresh_on from next before after way leads kept inside new w = record {
    path = (leads, w.path);
    fresh = (
      unseen_before before after kept next new,
      not_seen_before before (set after next true) (λ j h. marked_kept after next inside j (kept j h)) way w.fresh,
    );
    apart = IsDistinct-cons eqb next way (not_seen_apart after next inside way w.fresh) w.apart;
  }

  pub way_goes_on : (from : ℕ) (found : List ℕ) (n : ℕ) (before after : List Bool) (rest way : List ℕ) → AreReferences bodies from found → n < length found
      → IsSearched bodies found n target before after → get_or found n 0 < length after → get_or after (get_or found n 0) false ≡ false
      → IsFreshWay bodies (get_or found n 0) (reverse rest) target (set after (get_or found n 0) true)
      → way ≡ rest ++ get_or found n 0 ∷ [] → IsFreshWay bodies from (reverse way) target before
  way_goes_on from found n before after rest way r inside s low new w is =
      let turned : get_or found n 0 ∷ reverse rest ≡ reverse way = sym (ap reverse is ∙ reverse-append rest (get_or found n 0 ∷ [])) in
      let P : List ℕ → Type 0 = λ l. IsFreshWay bodies from l target before in
      subst P turned (fresh_on from (get_or found n 0) before after (reverse rest) (r.each n inside) s.kept low new w)

-- a reference is to one of the definitions
pub low_reference : (bodies : List Pattern) (from : ℕ) (found : List ℕ) (n : ℕ) (seen : List Bool) → AreReferences (trees bodies) from found → n < length found
    → length seen ≡ length bodies → get_or found n 0 < length seen
low_reference bodies from found n seen r inside long = let low = r.inside n inside in omega (arith, low, length-map bodies tree_of)

pub same_references : (bodies : List Tree) (from : ℕ) (found items : List ℕ) → AreReferences bodies from found → items ≡ found → AreReferences bodies from items
same_references bodies from found items r same = let P : List ℕ → Type 0 = AreReferences bodies from in subst P (sym same) r
