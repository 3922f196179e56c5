-- Lines that are passed over.
use Rattle.std.proofs.Common.{◌≡◌, ◌≤◌, ◌<◌, ◌+◌, ℕ, zero, suc, Bool, true, false, List, Option, Some, None, length, take, drop, get_or, if◌then◌else◌, refl, ap, sym, ◌∙◌, arith, length-take, length-drop}
use Rattle.std.proofs.lemmas.List.{get_or-drop, get_or-take}
use Rattle.std.specs.Prelude.{IfSome}
use Rattle.memchr.specs.Find.{IsFirstByte, is_byte}
use Rattle.sno_edit.specs.Positions.{begins_character, column_at, line_at, position_of}
use Rattle.sno_edit.specs.declared.positions.Position.{Position}
use Rattle.sno_edit.specs.Scripts.{is_line_feed}
use Rattle.sno_edit.proofs.PositionLemmas.{column_more, line_more}
use Rattle.sno_find.specs.Feeds.{IsNextFeed}

-- none of the n bytes from place i on is a line feed
abbrev pub NoFeed : List ℕ → ℕ → ℕ → Type 0
NoFeed text i n = (j : ℕ) → j < n → is_line_feed (get_or text (i + j) 0) ≡ false

module _ (text : List ℕ) (i : ℕ) where
  pub same_line : (n : ℕ) → i + n ≤ length text → NoFeed text i n → line_at text (i + n) ≡ line_at text i
  same_line zero within none = ap (line_at text) (omega arith)
  same_line (suc n) within none =
      let next : i + suc n ≡ i + n + 1 = omega arith in
      let before : line_at text (i + n) ≡ line_at text i = same_line n (omega (arith, within)) (λ j low. none j (omega (arith, low))) in
      ap (line_at text) next ∙ sym (line_more text (i + n) 0 (omega (arith, within)))
      ∙ ap (λ (b : Bool). if b then line_at text (i + n) + 1 else line_at text (i + n)) (none n (omega arith)) ∙ before

  -- the line and the column after the next line feed
  pub past_line : (n : ℕ) → i + n < length text → NoFeed text i n → is_line_feed (get_or text (i + n) 0) ≡ true → line_at text i + 1 ≡ line_at text (i + n + 1)
  past_line n inside none feed =
      ap (λ (l : ℕ). l + 1) (sym (same_line n (omega (arith, inside)) none))
      ∙ sym (ap (λ (b : Bool). if b then line_at text (i + n) + 1 else line_at text (i + n)) feed) ∙ line_more text (i + n) 0 inside

  pub past_column : (n : ℕ) → i + n < length text → is_line_feed (get_or text (i + n) 0) ≡ true → 1 ≡ column_at text (i + n + 1)
  past_column n inside feed =
      sym (ap (λ (b : Bool). if b then 1 else (if begins_character (get_or text (i + n) 0) then column_at text (i + n) + 1 else column_at text (i + n))) feed)
      ∙ column_more text (i + n) 0 inside

  -- .. and the position there
  pub past_position : (from : Position) (place n : ℕ) → from.place ≡ i → from ≡ position_of text from.place → place ≤ length text → IsNextFeed text i place n
      → record { place = i + n + 1; line = from.line + 1; column = 1 } ≡ position_of text (i + n + 1)
  past_position from place n at is within next =
      let inside : i + n < length text = omega (arith, next.before, within) in
      let line : from.line ≡ line_at text i = ap (λ (p : Position). p.line) is ∙ ap (line_at text) at in
      ap (λ (l : ℕ). record { place = i + n + 1; line = l; column = 1 }) (ap (λ (l : ℕ). l + 1) line ∙ past_line n inside next.none next.feed)
      ∙ ap (λ (k : ℕ). record { place = i + n + 1; line = line_at text (i + n + 1); column = k }) (past_column n inside next.feed)

not_true : (b : Bool) → (b ≡ true → ⊥) → b ≡ false
not_true true never = absurd (never refl)
not_true false never = refl

one : (text : List ℕ) (from place j : ℕ) → from + j < place → get_or (drop from (take place text)) j 0 ≡ get_or text (from + j) 0
one text from place j low = get_or-drop from (take place text) j 0 ∙ get_or-take place text (from + j) 0 low

-- the first line feed of what lies between two places
pub next_feed : (text : List ℕ) (from place : ℕ) (r : Option ℕ) → from ≤ place → place ≤ length text → IsFirstByte (is_byte 10) (drop from (take place text)) r
    → IfSome r (IsNextFeed text from place)
next_feed text from place None after within first = tt
next_feed text from place (Some n) after within first =
    let before : from + n < place = omega (arith, first.0.high, length-drop from (take place text), length-take place text, after, within) in
    record {
      before = before;
      none = λ j low. not_true (is_line_feed (get_or text (from + j) 0)) (λ is. first.0.before j (omega arith) low (ap is_line_feed (one text from place j (omega (arith, low, before))) ∙ is));
      feed = sym (ap is_line_feed (one text from place n before)) ∙ first.1;
    }
