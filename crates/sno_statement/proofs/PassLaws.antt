-- A pass, search by search.
use Rattle.std.proofs.Common.{◌≡◌, ℕ, zero, suc, ◌+◌, ◌-◌, ◌<◌, ◌≤◌, Bool, true, false, not, ◌||◌, cond, List, [], ◌∷◌, ◌++◌, length, nat_eq, Option, Some, None, IfSome, refl, ap, sym, subst, ◌∙◌, arith}
use Rattle.std.proofs.lemmas.Bool.{eqb-false}
use Rattle.sno_pattern.specs.SearchLaws.{LiesFrom}
use Rattle.sno_pattern.specs.Results.{enough_depth}
use Rattle.sno_pattern.specs.declared.found.Found.{Found}
use Rattle.sno_pattern.specs.declared.found.Hit.{Hit}
use Rattle.sno_pattern.proofs.FoundCursors.{searches_lie}
use Rattle.sno_statement.specs.declared.match_lists.Match.{Match}
use Rattle.sno_statement.specs.Statement.{Statement}
use Rattle.sno_statement.specs.Passes.{Pass, IsCursor, counts, cursors_left, match_of, matches_after, matches_from, matches_left, most_searches, moved, next_search, search, search_trials, trials_after, trials_onward, trials_together}

-- a cursor past c, within the text; or none
abbrev pub IsPast : List ℕ → ℕ → Option ℕ → Type 0
IsPast t c None = Unit {0}
IsPast t c (Some d) = (c < d) × (d ≤ length t)

next_by : (t : List ℕ) (c e : ℕ) (same last anchored : Bool) → c ≤ e → e ≤ length t → (same ≡ false → c < e) → (last ≡ false → e < length t)
    → IsPast t c (cond (not same) (Some e) (cond (anchored || last) None (Some (e + 1))))
next_by t c e false last anchored past inside moves more = (moves refl, inside)
next_by t c e true true true past inside moves more = tt
next_by t c e true true false past inside moves more = tt
next_by t c e true false true past inside moves more = tt
next_by t c e true false false past inside moves more = (omega arith, let h : e < length t = more refl in omega arith)

-- the search after a match that lies from c on begins past c
pub next_past : (anchored : Bool) (t : List ℕ) (c : ℕ) (hit : Hit) → LiesFrom t c hit → IsPast t c (next_search anchored t hit)
next_past anchored t c hit lies =
    let onward = lies.onward in
    let forward = lies.forward in
    let within = lies.within in
    next_by t c hit.end (nat_eq hit.start hit.end) (nat_eq hit.end (length t)) anchored (omega arith) lies.within
    (λ h. let apart = eqb-false hit.start hit.end h in omega arith) (λ h. let apart = eqb-false hit.end (length t) h in omega arith)

pub past_cursor : (t : List ℕ) (c : ℕ) (at : Option ℕ) → IsPast t c at → IsCursor t at
past_cursor t c None h = tt
past_cursor t c (Some d) h = h.1

pub past_fewer : (t : List ℕ) (c : ℕ) (at : Option ℕ) → IsPast t c at → c ≤ length t → cursors_left t at < length t + 1 - c
past_fewer t c None h inside = omega arith
past_fewer t c (Some d) h inside = omega (arith, h.0, h.1)

pub few_cursors : (t : List ℕ) (at : Option ℕ) → cursors_left t at ≤ length t + 1
few_cursors t None = omega arith
few_cursors t (Some c) = omega arith

module _ (s : Statement) (t : List ℕ) where
  -- what a search finds lies from its cursor on
  pub lies_at : (c : ℕ) → c ≤ length t → IfSome (search s t c).end (LiesFrom t c)
  lies_at c inside = (searches_lie (enough_depth t s.rules.bodies) t s.rules.bodies s.pattern s.anchored c inside).0

  -- two ways that go on alike past a cursor
  after_alike : (c : ℕ) (before : Option ℕ) (go other : Option ℕ → Option ℕ → List Match) (found : Found) (hit : Option Hit) → IfSome hit (LiesFrom t c)
      → ((b at : Option ℕ) → IsPast t c at → go b at ≡ other b at) → matches_after s t before go found hit ≡ matches_after s t before other found hit
  after_alike c before go other found None lies alike = refl
  after_alike c before go other found (Some hit) lies alike =
      ap (λ z. cond (counts before hit) (match_of t found hit ∷ []) [] ++ z) (alike (Some hit.end) (next_search s.anchored t hit) (next_past s.anchored t c hit lies))

  -- As many searches as there are cursors left are enough.
  same_matches : (n m : ℕ) (before at : Option ℕ) → IsCursor t at → cursors_left t at ≤ n → cursors_left t at ≤ m → matches_from s t n before at ≡ matches_from s t m before at
  unfolding matches_from
  same_matches zero zero before at i h g = refl
  same_matches zero (suc m) before None i h g = refl
  same_matches zero (suc m) before (Some c) i h g = absurd (omega arith)
  same_matches (suc n) zero before None i h g = refl
  same_matches (suc n) zero before (Some c) i h g = absurd (omega arith)
  same_matches (suc n) (suc m) before None i h g = refl
  same_matches (suc n) (suc m) before (Some c) i h g =
      after_alike c before (matches_from s t n) (matches_from s t m) (search s t c) (search s t c).end (lies_at c i)
      (λ b at past. same_matches n m b at (past_cursor t c at past) (let fewer = past_fewer t c at past i in omega arith) (let fewer = past_fewer t c at past i in omega arith))

  -- one search, and those that follow
  pub next_matches : (before : Option ℕ) (c : ℕ) → c ≤ length t
      → matches_from s t (most_searches t) before (Some c) ≡ matches_after s t before (matches_from s t (most_searches t)) (search s t c) (search s t c).end
  unfolding matches_from
  next_matches before c inside =
      same_matches (most_searches t) (suc (length t)) before (Some c) inside (omega arith) (omega arith)
      ∙ after_alike c before (matches_from s t (length t)) (matches_from s t (most_searches t)) (search s t c) (search s t c).end (lies_at c inside)
      (λ b at past. same_matches (length t) (most_searches t) b at (past_cursor t c at past) (let fewer = past_fewer t c at past inside in omega arith) (few_cursors t at))

  trials_alike : (c : ℕ) (go other : Option ℕ → ℕ) (hit : Option Hit) → IfSome hit (LiesFrom t c) → ((at : Option ℕ) → IsPast t c at → go at ≡ other at)
      → trials_after s t go hit ≡ trials_after s t other hit
  trials_alike c go other None lies alike = refl
  trials_alike c go other (Some hit) lies alike = alike (next_search s.anchored t hit) (next_past s.anchored t c hit lies)

  same_trials : (n m : ℕ) (at : Option ℕ) → IsCursor t at → cursors_left t at ≤ n → cursors_left t at ≤ m → trials_onward s t n at ≡ trials_onward s t m at
  unfolding trials_onward
  same_trials zero zero at i h g = refl
  same_trials zero (suc m) None i h g = refl
  same_trials zero (suc m) (Some c) i h g = absurd (omega arith)
  same_trials (suc n) zero None i h g = refl
  same_trials (suc n) zero (Some c) i h g = absurd (omega arith)
  same_trials (suc n) (suc m) None i h g = refl
  same_trials (suc n) (suc m) (Some c) i h g =
      ap (λ z. search_trials s t c + z)
      (trials_alike c (trials_onward s t n) (trials_onward s t m) (search s t c).end (lies_at c i)
      (λ at past. same_trials n m at (past_cursor t c at past) (let fewer = past_fewer t c at past i in omega arith) (let fewer = past_fewer t c at past i in omega arith)))

  pub next_trials : (c : ℕ) → c ≤ length t
      → trials_onward s t (most_searches t) (Some c) ≡ search_trials s t c + trials_after s t (trials_onward s t (most_searches t)) (search s t c).end
  unfolding trials_onward
  next_trials c inside =
      same_trials (most_searches t) (suc (length t)) (Some c) inside (omega arith) (omega arith)
      ∙ ap (λ z. search_trials s t c + z)
      (trials_alike c (trials_onward s t (length t)) (trials_onward s t (most_searches t)) (search s t c).end (lies_at c inside)
      (λ at past. same_trials (length t) (most_searches t) at (past_cursor t c at past) (let fewer = past_fewer t c at past inside in omega arith) (few_cursors t at)))

  -- no search is left
  pub no_matches : (n : ℕ) (before : Option ℕ) → matches_from s t n before None ≡ []
  unfolding matches_from
  no_matches zero before = refl
  no_matches (suc n) before = refl

  pub no_trials : (n : ℕ) → trials_onward s t n None ≡ 0
  unfolding trials_onward
  no_trials zero = refl
  no_trials (suc n) = refl

-- at the end of a pass all trials were spent
pub ended_within : (p : Pass) → p.at ≡ None → p.spent ≤ p.statement.limit → trials_together p ≤ p.statement.limit
ended_within p end few =
    let all : trials_together p ≡ p.spent + 0 = ap (λ (z : Option ℕ). p.spent + trials_onward p.statement p.text (most_searches p.text) z) end ∙ ap (λ (z : ℕ). p.spent + z) (no_trials p.statement p.text (most_searches p.text)) in
    omega (arith, all, few)

-- one match more, or none
one_more : (b : Bool) (m : Match) (ms : List Match) (n : ℕ) → length ms ≤ n → length (cond b (m ∷ []) [] ++ ms) ≤ suc n
one_more true m ms n h = omega (arith, h)
one_more false m ms n h = omega (arith, h)

after_few : (s : Statement) (t : List ℕ) (before : Option ℕ) (go : Option ℕ → Option ℕ → List Match) (found : Found) (end : Option Hit) (n : ℕ)
    → ((b c : Option ℕ) → length (go b c) ≤ n) → length (matches_after s t before go found end) ≤ suc n
after_few s t before go found None n h = omega arith
after_few s t before go found (Some hit) n h = one_more (counts before hit) (match_of t found hit) _ n (h (Some hit.end) (next_search s.anchored t hit))

-- there are at most as many matches as searches
pub matches_few : (s : Statement) (t : List ℕ) (n : ℕ) (before c : Option ℕ) → length (matches_from s t n before c) ≤ n
unfolding matches_from
matches_few s t zero before c = omega arith
matches_few s t (suc n) before None = omega arith
matches_few s t (suc n) before (Some c) = after_few s t before (matches_from s t n) (search s t c) (search s t c).end n (matches_few s t n)

-- the pass after a search
module _ (p : Pass) (c : ℕ) (at : p.at ≡ Some c) (inside : c ≤ length p.text) where
  matches_here : matches_left p ≡ matches_after p.statement p.text p.before (matches_from p.statement p.text (most_searches p.text)) (search p.statement p.text c) (search p.statement p.text c).end
  matches_here = ap (matches_from p.statement p.text (most_searches p.text) p.before) at ∙ next_matches p.statement p.text p.before c inside

  -- a search that fails ends the pass
  pub none_left : (search p.statement p.text c).end ≡ None → matches_left p ≡ []
  none_left is = matches_here ∙ ap (matches_after p.statement p.text p.before (matches_from p.statement p.text (most_searches p.text)) (search p.statement p.text c)) is

  after_hit : (n : ℕ) (hit : Hit) → (search p.statement p.text c).end ≡ Some hit
      → matches_left p ≡ cond (counts p.before hit) (match_of p.text (search p.statement p.text c) hit ∷ []) [] ++ matches_left (moved p n (Some hit))
  after_hit n hit is = matches_here ∙ ap (matches_after p.statement p.text p.before (matches_from p.statement p.text (most_searches p.text)) (search p.statement p.text c)) is

  pub counted : (n : ℕ) (hit : Hit) → (search p.statement p.text c).end ≡ Some hit → counts p.before hit ≡ true
      → matches_left p ≡ match_of p.text (search p.statement p.text c) hit ∷ matches_left (moved p n (Some hit))
  counted n hit is held = after_hit n hit is ∙ ap (λ z. cond z (match_of p.text (search p.statement p.text c) hit ∷ []) [] ++ matches_left (moved p n (Some hit))) held

  pub skipped : (n : ℕ) (hit : Hit) → (search p.statement p.text c).end ≡ Some hit → counts p.before hit ≡ false → matches_left p ≡ matches_left (moved p n (Some hit))
  skipped n hit is held = after_hit n hit is ∙ ap (λ z. cond z (match_of p.text (search p.statement p.text c) hit ∷ []) [] ++ matches_left (moved p n (Some hit))) held

  trials_here : trials_together p ≡ p.spent + (search_trials p.statement p.text c + trials_after p.statement p.text (trials_onward p.statement p.text (most_searches p.text)) (search p.statement p.text c).end)
  trials_here = ap (λ z. p.spent + trials_onward p.statement p.text (most_searches p.text) z) at ∙ ap (λ z. p.spent + z) (next_trials p.statement p.text c inside)

  trials_by : (end : Option Hit) → p.spent + (search_trials p.statement p.text c + trials_after p.statement p.text (trials_onward p.statement p.text (most_searches p.text)) end)
      ≡ trials_together (moved p (search_trials p.statement p.text c) end)
  trials_by None = let none = no_trials p.statement p.text (most_searches p.text) in omega (arith, none)
  trials_by (Some hit) = omega arith

  -- the trials together stay the same
  pub trials_kept : trials_together p ≡ trials_together (moved p (search_trials p.statement p.text c) (search p.statement p.text c).end)
  trials_kept = trials_here ∙ trials_by (search p.statement p.text c).end

  -- a search that takes too many makes them too many
  pub trials_over : (limit : ℕ) → limit < p.spent + search_trials p.statement p.text c → limit < trials_together p
  trials_over limit over = let all = trials_here in omega (arith, all, over)

  -- after a match the next search begins further on
  pub further : (n : ℕ) (hit : Hit) → (search p.statement p.text c).end ≡ Some hit → cursors_left p.text (moved p n (Some hit)).at < cursors_left p.text p.at
  further n hit is =
      let lies : LiesFrom p.text c hit = subst (λ (z : Option Hit). IfSome z (LiesFrom p.text c)) is (lies_at p.statement p.text c inside) in
      subst (λ (z : Option ℕ). cursors_left p.text (moved p n (Some hit)).at < cursors_left p.text z) (sym at)
      (past_fewer p.text c (next_search p.statement.anchored p.text hit) (next_past p.statement.anchored p.text c hit lies) inside)

  -- .. within the text
  pub cursor_next : (n : ℕ) (hit : Hit) → (search p.statement p.text c).end ≡ Some hit → IsCursor p.text (moved p n (Some hit)).at
  cursor_next n hit is =
      let lies : LiesFrom p.text c hit = subst (λ (z : Option Hit). IfSome z (LiesFrom p.text c)) is (lies_at p.statement p.text c inside) in
      past_cursor p.text c (next_search p.statement.anchored p.text hit) (next_past p.statement.anchored p.text c hit lies)

  -- statement and text stay the same
  pub statement_kept : (n : ℕ) (end : Option Hit) → (moved p n end).statement ≡ p.statement
  statement_kept n None = refl
  statement_kept n (Some hit) = refl

  pub text_kept : (n : ℕ) (end : Option Hit) → (moved p n end).text ≡ p.text
  text_kept n None = refl
  text_kept n (Some hit) = refl
