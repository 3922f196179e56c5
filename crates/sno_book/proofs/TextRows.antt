-- Texts one after another, no two of one name.
use Rattle.std.proofs.Common.{◌≡◌, ℕ, ◌+◌, ◌≤◌, Bool, true, false, cond, not, List, [], ◌∷◌, ◌++◌, length, Option, Some, None, Ok, Err, refl, ap, sym, ◌∙◌, arith, append_assoc, append-nil, ◌||◌, nat_lt}
use Rattle.std.proofs.Common.{Global}
use Rattle.std.specs.Option.{is_some}
use Rattle.std.specs.List.{list_any}
use Rattle.std.specs.Map.{lookup}
use Rattle.std.specs.Arc.{arc_value}
use Rattle.std.specs.declared.sync.Arc.{Arc}
use Rattle.std.proofs.lemmas.List.{map-append, length-append}
use Rattle.std.proofs.Math.ListN.{length-map}
use Rattle.indexmap.specs.IndexMap.{insert_entry}
use Rattle.sno_pattern.specs.Identifiers.{same}
use Rattle.sno_pattern.specs.NameList.{repeat_from, first_repeat}
use Rattle.sno_book.specs.Openings.{IsOpening, names_in, texts_seen, opening_of, unless_repeated}
use Rattle.sno_book.specs.declared.faults.BookFault.TheVariants as fault
use Rattle.sno_book.specs.Starts.{first_contents}

abbrev pub Shared : Type 0
Shared = List (List ℕ × Arc (List ℕ) Global)

there_if : (b : Bool) (x : Arc (List ℕ) Global) (o : Option (Arc (List ℕ) Global)) (later : Bool) → is_some o ≡ later → is_some (cond b (Some x) o) ≡ b || later
there_if true x o later h = refl
there_if false x o later h = h

-- whether there is a text of a name
pub there_seen : (t : List ℕ → Bool) (es : Shared) → is_some (lookup t es) ≡ list_any t (names_in (texts_seen es))
there_seen t [] = refl
there_seen t (e ∷ es) = there_if (t e.0) e.1 (lookup t es) (list_any t (names_in (texts_seen es))) (there_seen t es)

insert_if : (b : Bool) (k : List ℕ) (v : Arc (List ℕ) Global) (e : List ℕ × Arc (List ℕ) Global) (es more : Shared) (later : Bool) → b || later ≡ false
    → (later ≡ false → texts_seen more ≡ texts_seen es ++ (k, arc_value v) ∷ [])
    → texts_seen (cond b ((e.0, v) ∷ es) (e ∷ more)) ≡ (e.0, arc_value e.1) ∷ (texts_seen es ++ (k, arc_value v) ∷ [])
insert_if true k v e es more later h rest = cc
insert_if false k v e es more later h rest = ap (λ (l : List (List ℕ × List ℕ)). (e.0, arc_value e.1) ∷ l) (rest h)

-- a text of a new name comes after the others
pub insert_seen : (k : List ℕ) (v : Arc (List ℕ) Global) (es : Shared) → list_any (same k) (names_in (texts_seen es)) ≡ false
    → texts_seen (insert_entry same es k v) ≡ texts_seen es ++ (k, arc_value v) ∷ []
insert_seen k v [] h = refl
insert_seen k v (e ∷ es) h = insert_if (same k e.0) k v e es (insert_entry same es k v) (list_any (same k) (names_in (texts_seen es))) h (insert_seen k v es)

-- the name that was sought is not there
pub absent : (found : Bool) (t : List ℕ → Bool) (es : Shared) → found ≡ is_some (lookup t es) → found ≡ false → list_any t (names_in (texts_seen es)) ≡ false
absent found t es looked h = sym (there_seen t es) ∙ sym looked ∙ h

pub present : (found : Bool) (t : List ℕ → Bool) (es : Shared) → found ≡ is_some (lookup t es) → found ≡ true → list_any t (names_in (texts_seen es)) ≡ true
present found t es looked h = sym (there_seen t es) ∙ sym looked ∙ h

-- ---- a loop over the texts: those so far, those that are left, and all of them
here_if : (b : Bool) (i : ℕ) (o : Option ℕ) → b ≡ true → cond b (Some i) o ≡ Some i
here_if true i o h = refl
here_if false i o h = cc

past_if : (b : Bool) (i : ℕ) (o : Option ℕ) → b ≡ false → cond b (Some i) o ≡ o
past_if true i o h = cc
past_if false i o h = refl

short_if : (b : Bool) (o : Option ℕ) (texts : List (List ℕ × List ℕ)) (room : ℕ) → b ≡ false → cond b (Err fault.TooMany) (unless_repeated o texts room) ≡ unless_repeated o texts room
short_if true o texts room h = cc
short_if false o texts room h = refl

module _ (all so_far : List (List ℕ × List ℕ)) (first : Option ℕ) (is_first : first ≡ first_repeat (names_in all)) (short : nat_lt 1024 (length all) ≡ false) where
  -- the next text has the name of an earlier one
  pub repeated : (i room : ℕ) (name text : List ℕ) (rest : List (List ℕ × List ℕ)) → list_any (same name) (names_in so_far) ≡ true
      → repeat_from (names_in so_far) i (names_in ((name, text) ∷ rest)) ≡ first → opening_of all room ≡ Err (fault.Duplicate i)
  repeated i room name text rest there left =
      let here : Some i ≡ first_repeat (names_in all) =
      sym (here_if (list_any (same name) (names_in so_far)) i (repeat_from (names_in so_far ++ name ∷ []) (i + 1) (names_in rest)) there) ∙ left ∙ is_first in
      short_if (nat_lt 1024 (length all)) (first_repeat (names_in all)) all room short ∙ ap (λ (o : Option ℕ). unless_repeated o all room) (sym here)

  -- no text is left
  pub finished : (room : ℕ) → so_far ++ [] ≡ all → first ≡ None → opening_of all room ≡ Ok (record { texts = so_far; room = room })
  finished room whole none =
      let same : so_far ≡ all = sym (append-nil so_far) ∙ whole in
      short_if (nat_lt 1024 (length all)) (first_repeat (names_in all)) all room short ∙ ap (λ (o : Option ℕ). unless_repeated o all room) (sym is_first ∙ none)
      ∙ ap (λ (l : List (List ℕ × List ℕ)). Ok (record { texts = l; room = room })) (sym same)

  pub is_opening : (room : ℕ) → so_far ++ [] ≡ all → first ≡ None → length all ≤ 1024 → room ≤ 1000000 → IsOpening (record { texts = so_far; room = room })
  is_opening room whole none few small =
      let same : all ≡ so_far = sym (sym (append-nil so_far) ∙ whole) in
      record {
        few = let len : length all ≡ length so_far = ap (λ (l : List (List ℕ × List ℕ)). length l) same in omega (arith, few, len);
        apart = ap (λ (l : List (List ℕ × List ℕ)). first_repeat (names_in l)) (sym same) ∙ sym is_first ∙ none;
        room = small;
      }

true_of : (b added : Bool) → added ≡ not b → added ≡ false → b ≡ true
true_of true added h g = refl
true_of false added h g = cc

false_of : (b added : Bool) → added ≡ not b → added ≡ true → b ≡ false
false_of true added h g = cc
false_of false added h g = refl

-- the name that wasn't added is there already
pub not_added : (name : List ℕ) (so_far : List (List ℕ × List ℕ)) (added : Bool) → added ≡ not (list_any (same name) (names_in so_far)) → added ≡ false → list_any (same name) (names_in so_far) ≡ true
not_added name so_far added h g = true_of (list_any (same name) (names_in so_far)) added h g

-- one more text
pub rest_whole : (so_far more left rest all : List (List ℕ × List ℕ)) (t : List ℕ × List ℕ) → more ≡ so_far ++ t ∷ [] → left ≡ t ∷ rest → so_far ++ left ≡ all → more ++ rest ≡ all
rest_whole so_far more left rest all t grown is whole =
    ap (λ (l : List (List ℕ × List ℕ)). l ++ rest) grown ∙ append_assoc so_far (t ∷ []) rest ∙ ap (λ (l : List (List ℕ × List ℕ)). so_far ++ l) (sym is) ∙ whole

names_snoc : (so_far : List (List ℕ × List ℕ)) (t : List ℕ × List ℕ) → names_in (so_far ++ t ∷ []) ≡ names_in so_far ++ t.0 ∷ []
names_snoc so_far t = map-append (λ (t : List ℕ × List ℕ). t.0) so_far (t ∷ [])

pub first_same : (so_far more left rest : List (List ℕ × List ℕ)) (t : List ℕ × List ℕ) (first : Option ℕ) (added : Bool) (es fs : Shared) → more ≡ so_far ++ t ∷ [] → left ≡ t ∷ rest
    → more ≡ texts_seen fs → so_far ≡ texts_seen es
    → added ≡ not (list_any (same t.0) (names_in so_far)) → added ≡ true → repeat_from (names_in so_far) (length es) (names_in left) ≡ first
    → repeat_from (names_in more) (length fs) (names_in rest) ≡ first
first_same so_far more left rest t first added es fs grown is fs_seen es_seen asked h invariant =
    let new = false_of (list_any (same t.0) (names_in so_far)) added asked h in
    let step : repeat_from (names_in so_far) (length es) (names_in (t ∷ rest)) ≡ repeat_from (names_in so_far ++ t.0 ∷ []) (length es + 1) (names_in rest) =
    past_if (list_any (same t.0) (names_in so_far)) (length es) (repeat_from (names_in so_far ++ t.0 ∷ []) (length es + 1) (names_in rest)) new in
    let count : length fs ≡ length es + 1 =
    omega (
      arith,
      sym (length-map {B = List ℕ × List ℕ} fs (λ (e : List ℕ × Arc (List ℕ) Global). (e.0, arc_value e.1))),
      ap (λ (l : List (List ℕ × List ℕ)). length l) (sym fs_seen),
      ap (λ (l : List (List ℕ × List ℕ)). length l) grown,
      length-append so_far (t ∷ []),
      ap (λ (l : List (List ℕ × List ℕ)). length l) es_seen,
      length-map {B = List ℕ × List ℕ} es (λ (e : List ℕ × Arc (List ℕ) Global). (e.0, arc_value e.1)),
    ) in
    ap (λ (n : ℕ). repeat_from (names_in more) n (names_in rest)) count
    ∙ ap (λ (ks : List (List ℕ)). repeat_from ks (length es + 1) (names_in rest)) (ap names_in grown ∙ names_snoc so_far t)
    ∙ sym step ∙ ap (λ (l : List (List ℕ × List ℕ)). repeat_from (names_in so_far) (length es) (names_in l)) (sym is) ∙ invariant

-- the stored text and version of the text that was added
pub contents_more : (so_far more : List (List ℕ × List ℕ)) (old new : List (List ℕ × ℕ)) (t : List ℕ × List ℕ) → more ≡ so_far ++ t ∷ [] → new ≡ old ++ (t.1, 0) ∷ []
    → old ≡ first_contents so_far → new ≡ first_contents more
contents_more so_far more old new t grown put is =
    put ∙ ap (λ (l : List (List ℕ × ℕ)). l ++ (t.1, 0) ∷ []) is ∙ sym (map-append (λ (t : List ℕ × List ℕ). (t.1, 0)) so_far (t ∷ [])) ∙ ap first_contents (sym grown)
