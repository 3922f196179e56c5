-- No text has the fault `Memory`.
use Rattle.std.proofs.Common.{◌≡◌, ℕ, zero, suc, Bool, true, false, cond, ◌||◌, List, length, drop, nat_eq, nat_lt, Option, Some, None, Result, Ok, Err, ap}
use Rattle.std.specs.Option.{is_some}
use Rattle.std.specs.List.{prefix_len}
use Rattle.std.specs.Char.{is_ascii_digit}
use Rattle.sno_pattern.specs.Identifiers.{is_letter, is_name_char, is_reserved, name_of}
use Rattle.sno_pattern.specs.NameList.{place_of}
use Rattle.sno_pattern.specs.Texts.{first_non_ascii}
use Rattle.sno_pattern.specs.Tree.{Tree}
use Rattle.sno_read.specs.declared.faults.ReadFault.{ReadFault}
use Rattle.sno_read.specs.declared.faults.ReadFault.TheVariants as fault
use Rattle.sno_read.specs.declared.characters.Start.{Start}
use Rattle.sno_read.specs.declared.characters.Start.TheVariants as start
use Rattle.sno_read.specs.declared.characters.Following.{Following}
use Rattle.sno_read.specs.declared.characters.Following.TheVariants as follows
use Rattle.sno_read.specs.declared.keywords.Keyword.{Keyword}
use Rattle.sno_read.specs.declared.keywords.Keyword.TheVariants.{Primitive, Counted, Chosen, Repeated}
use Rattle.sno_read.specs.declared.keywords.NumberCall.{NumberCall}
use Rattle.sno_read.specs.declared.keywords.SetCall.{SetCall}
use Rattle.sno_read.specs.Depth.{depth}
use Rattle.sno_read.specs.Gives.{◌>>=◌, found_or}
use Rattle.sno_read.specs.Keywords.{keyword_of}
use Rattle.sno_read.specs.Characters.{is_blank, is_other, quote_of, front, skip, begins, value_of, start_of, what_follows, goes_on}
use Rattle.sno_read.specs.Laws.{MemoryIsNoFault, MemoryIsNoRuleFault}
use Rattle.sno_read.specs.Reading.{Env, Read, place, below, unless_above, literal_at, ascii_literal_at, literals_by, literals_at, set_at, number_at, name_at, variable_at, opening_at, closing_at, blanks_at, sign_at, cursor_at, reference_at, plain_of, number_call_at, set_call_at, group_at, repetition_at, from_name, from_name_at, quotation_at, element_by, element_at, target_by, targets_at, item_at, item_by, items_at, next_part_by, parts_at, concatenation_at, alternation_at, inside, end_at, unless_too_deep, whole_of, ascii_only, short_text, short_ascii, pattern_of, rule_pattern_of}
use Rattle.sno_read.specs.Objects.{gap_at, parts_of, object_of, rule_object_of}
use Rattle.sno_read.specs.Objects as objects

-- it isn't `Memory`
abbrev Safe : {A : Type 0} → Result A ReadFault → Type 0
Safe r = r ≡ Err fault.Memory → ⊥

safe_bind : {A B : Type 0} (r : Result A ReadFault) (f : A → Result B ReadFault) → Safe r → ((x : A) → Safe (f x)) → Safe (r >>= f)
safe_bind (Ok x) f h k = k x
safe_bind (Err e) f h k = λ g. h (same e g)
  where
    same : {A B : Type 0} (e : ReadFault) → ◌≡◌ {A = Result B ReadFault} (Err e) (Err fault.Memory) → ◌≡◌ {A = Result A ReadFault} (Err e) (Err fault.Memory)
    same e g = let i : e ≡ fault.Memory = cc in ap (λ u. Err u) i

safe_if : {A : Type 0} (b : Bool) (x y : Result A ReadFault) → Safe x → Safe y → Safe (cond b x y)
safe_if true x y h k = h
safe_if false x y h k = k

safe_found : {A : Type 0} (e : ReadFault) (o : Option A) → (e ≡ fault.Memory → ⊥) → Safe (found_or e o)
safe_found e None h = λ g. h (cc)
safe_found e (Some x) h = λ g. (cc)

literal_safe : (env : Env) (text : List ℕ) → Safe (literal_at env text)
unfolding literal_at
literal_safe env text = safe_bind (found_or (fault.Unexpected (place env text)) (quote_of text)) _ (safe_found _ (quote_of text) (λ e. (cc))) (λ q. safe_if (nat_lt (prefix_len (is_other q) (drop 1 text)) (length (drop 1 text))) _ _ (λ e. (cc)) (λ e. (cc)))

above_safe : (env : Env) (inside : List ℕ) (s : List ℕ × List ℕ) (o : Option ℕ) → Safe (unless_above env inside s o)
above_safe env inside s None = λ e. (cc)
above_safe env inside s (Some i) = λ e. (cc)

ascii_literal_safe : (env : Env) (text : List ℕ) → Safe (ascii_literal_at env text)
unfolding ascii_literal_at
ascii_literal_safe env text = safe_bind (literal_at env text) _ (literal_safe env text) (λ s. above_safe env (drop 1 text) s (first_non_ascii s.0))

literals_safe : (env : Env) (n : ℕ) (text : List ℕ) → Safe (literals_at env n text)
unfolding literals_at
literals_safe env zero text = λ e. (cc)
literals_safe env (suc n) text = safe_bind (ascii_literal_at env text) _ (ascii_literal_safe env text) (λ s. by_next (literals_at env n) (λ a. literals_safe env n a) s (goes_on s.1))
  where
    by_next : (more : List ℕ → Read (List ℕ)) → ((a : List ℕ) → Safe (more a)) → (s : List ℕ × List ℕ) (g : Bool) → Safe (literals_by more s g)
    by_next more h s true = safe_bind (more (skip s.1)) _ (h (skip s.1)) (λ u e. (cc))
    by_next more h s false = λ e. (cc)

set_safe : (env : Env) (text : List ℕ) → Safe (set_at env text)
unfolding set_at
set_safe env text = safe_bind (cond env.in_rule (literals_at env (suc (length text)) text) (ascii_literal_at env text)) _ (safe_if env.in_rule _ _ (literals_safe env (suc (length text)) text) (ascii_literal_safe env text)) (λ s. safe_if (nat_eq (length s.0) 0) _ _ (λ e. (cc)) (λ e. (cc)))

number_safe : (env : Env) (text : List ℕ) → Safe (number_at env text)
unfolding number_at
number_safe env text = safe_bind (found_or (fault.BadNumber (place env text)) (value_of (front is_ascii_digit text))) _ (safe_found _ (value_of (front is_ascii_digit text)) (λ e. (cc))) (λ n e. (cc))

name_safe : (env : Env) (text : List ℕ) → Safe (name_at env text)
unfolding name_at
name_safe env text = safe_if (begins is_letter text) _ _ (safe_bind (found_or (fault.TooLong (place env text)) (name_of (front is_name_char text))) _ (safe_found _ (name_of (front is_name_char text)) (λ e. (cc))) (λ n e. (cc))) (λ e. (cc))

variable_safe : (env : Env) (text : List ℕ) → Safe (variable_at env text)
unfolding variable_at
variable_safe env text = safe_bind (name_at env text) _ (name_safe env text) (λ n. safe_if (is_reserved n.0 || is_some (place_of env.names n.0)) _ _ (λ e. (cc)) (λ e. (cc)))

opened_safe : (env : Env) (room : ℕ) (text : List ℕ) → Safe (opening_at env room text)
unfolding opening_at
opened_safe env room text = safe_if (begins (λ c. nat_eq c 40) text) _ _ (safe_if (nat_eq room 0) _ _ (λ e. (cc)) (λ e. (cc))) (λ e. (cc))

closed_safe : (env : Env) (text : List ℕ) → Safe (closing_at env text)
unfolding closing_at
closed_safe env text = safe_if (begins (λ c. nat_eq c 41) (skip text)) _ _ (λ e. (cc)) (λ e. (cc))

parted_safe : (env : Env) (text : List ℕ) → Safe (blanks_at env text)
unfolding blanks_at
parted_safe env text = safe_if (begins is_blank text) _ _ (λ e. (cc)) (λ e. (cc))

signed_safe : (env : Env) (text : List ℕ) → Safe (sign_at env text)
unfolding sign_at
signed_safe env text = parted_safe env (drop 1 (skip text))

counted_safe : (env : Env) (room : ℕ) (call : NumberCall) (text : List ℕ) → Safe (number_call_at env room call text)
unfolding number_call_at
counted_safe env room call text = safe_bind (opening_at env room text) _ (opened_safe env room text) (λ a. safe_bind (number_at env a) _ (number_safe env a) (λ n. safe_bind (closing_at env n.1) _ (closed_safe env n.1) (λ b e. (cc))))

chosen_safe : (env : Env) (room : ℕ) (call : SetCall) (text : List ℕ) → Safe (set_call_at env room call text)
unfolding set_call_at
chosen_safe env room call text = safe_bind (opening_at env room text) _ (opened_safe env room text) (λ a. safe_bind (set_at env a) _ (set_safe env a) (λ n. safe_bind (closing_at env n.1) _ (closed_safe env n.1) (λ b e. (cc))))

module _ (env : Env) (room : ℕ) (inner : List ℕ → Read Tree) (within : (text : List ℕ) → Safe (inner text)) where
  group_safe : (text : List ℕ) → Safe (group_at env room inner text)
  unfolding group_at
  group_safe text = safe_bind (opening_at env room text) _ (opened_safe env room text) (λ a. safe_bind (inner a) _ (within a) (λ x. safe_bind (closing_at env x.1) _ (closed_safe env x.1) (λ b e. (cc))))

  named_by_safe : (unknown : ReadFault) (name : List ℕ × List ℕ) (o : Option Keyword) → (unknown ≡ fault.Memory → ⊥) → Safe (from_name env room inner unknown name o)
  unfolding plain_of repetition_at
  named_by_safe unknown name None h = safe_bind (found_or unknown (below env.earlier (place_of env.names name.0))) _ (safe_found unknown (below env.earlier (place_of env.names name.0)) h) (λ i e. (cc))
  named_by_safe unknown name (Some (Primitive w)) h = λ e. (cc)
  named_by_safe unknown name (Some (Counted call)) h = counted_safe env room call name.1
  named_by_safe unknown name (Some (Chosen call)) h = chosen_safe env room call name.1
  named_by_safe unknown name (Some Repeated) h = safe_bind (group_at env room inner name.1) _ (group_safe name.1) (λ x e. (cc))

  named_safe : (text : List ℕ) → Safe (from_name_at env room inner text)
  unfolding from_name_at
  named_safe text = safe_bind (name_at env text) _ (name_safe env text) (λ n. named_by_safe (fault.UnknownName (place env text)) n (keyword_of n.0) (λ e. (cc)))

  element_by_safe : (text : List ℕ) (st : Start) → Safe (element_by env room inner text st)
  unfolding quotation_at cursor_at reference_at
  element_by_safe text start.Quote = safe_bind (literal_at env text) _ (literal_safe env text) (λ s e. (cc))
  element_by_safe text start.At = safe_bind (variable_at env (drop 1 text)) _ (variable_safe env (drop 1 text)) (λ v e. (cc))
  element_by_safe text start.Star = safe_bind (name_at env (drop 1 text)) _ (name_safe env (drop 1 text)) (λ n. safe_bind (found_or (fault.UnknownName (place env (drop 1 text))) (place_of env.names n.0)) _ (safe_found _ (place_of env.names n.0) (λ e. (cc))) (λ i e. (cc)))
  element_by_safe text start.Open = group_safe text
  element_by_safe text start.Letter = named_safe text
  element_by_safe text start.Other = λ e. (cc)

  targets_safe : (n : ℕ) (t : Tree) (text : List ℕ) → Safe (targets_at env n t text)
  unfolding targets_at
  targets_safe zero t text = λ e. (cc)
  targets_safe (suc n) t text = by_sign (targets_at env n) (λ u a. targets_safe n u a) (what_follows text)
    where
      by_sign : (more : Tree → List ℕ → Read Tree) → ((u : Tree) (a : List ℕ) → Safe (more u a)) → (f : Following) → Safe (target_by env more t text f)
      by_sign more h follows.Dot = safe_bind (sign_at env text) _ (signed_safe env text) (λ a. safe_bind (variable_at env a) _ (variable_safe env a) (λ v. h _ v.1))
      by_sign more h follows.Dollar = safe_bind (sign_at env text) _ (signed_safe env text) (λ a. safe_bind (variable_at env a) _ (variable_safe env a) (λ v. h _ v.1))
      by_sign more h follows.Nothing = λ e. (cc)
      by_sign more h follows.Bar = λ e. (cc)
      by_sign more h follows.Item = λ e. (cc)

  item_safe : (text : List ℕ) → Safe (item_at env room inner text)
  unfolding item_at element_at
  item_safe text = safe_bind (element_at env room inner text) _ (element_by_safe text (start_of text)) (λ x. targets_safe (suc (length x.1)) x.0 x.1)

  items_safe : (n : ℕ) (text : List ℕ) → Safe (items_at env (item_at env room inner) n text)
  unfolding items_at
  items_safe zero text = λ e. (cc)
  items_safe (suc n) text = safe_bind (item_at env room inner text) _ (item_safe text) (λ x. by_next (items_at env (item_at env room inner) n) (λ a. items_safe n a) x (what_follows x.1))
    where
      by_next : (more : List ℕ → Read Tree) → ((a : List ℕ) → Safe (more a)) → (x : Tree × List ℕ) (f : Following) → Safe (item_by more x f)
      by_next more h x follows.Item = safe_bind (more (skip x.1)) _ (h (skip x.1)) (λ y e. (cc))
      by_next more h x follows.Nothing = λ e. (cc)
      by_next more h x follows.Dot = λ e. (cc)
      by_next more h x follows.Dollar = λ e. (cc)
      by_next more h x follows.Bar = λ e. (cc)

  parts_safe : (n : ℕ) (text : List ℕ) → Safe (parts_at env (concatenation_at env room inner) n text)
  unfolding parts_at concatenation_at
  parts_safe zero text = λ e. (cc)
  parts_safe (suc n) text = safe_bind (concatenation_at env room inner text) _ (items_safe (suc (length text)) text) (λ x. by_next (parts_at env (concatenation_at env room inner) n) (λ a. parts_safe n a) x (what_follows x.1))
    where
      by_next : (more : List ℕ → Read Tree) → ((a : List ℕ) → Safe (more a)) → (x : Tree × List ℕ) (f : Following) → Safe (next_part_by env more x f)
      by_next more h x follows.Bar = safe_bind (sign_at env x.1) _ (signed_safe env x.1) (λ a. safe_bind (more a) _ (h a) (λ y e. (cc)))
      by_next more h x follows.Nothing = λ e. (cc)
      by_next more h x follows.Dot = λ e. (cc)
      by_next more h x follows.Dollar = λ e. (cc)
      by_next more h x follows.Item = λ e. (cc)

inside_safe : (env : Env) (room : ℕ) (text : List ℕ) → Safe (inside env room text)
unfolding inside alternation_at
inside_safe env zero text = λ e. (cc)
inside_safe env (suc room) text = parts_safe env room (inside env room) (inside_safe env room) (suc (length text)) text

alternation_safe : (env : Env) (room : ℕ) (text : List ℕ) → Safe (alternation_at env room (inside env room) text)
unfolding alternation_at
alternation_safe env room text = parts_safe env room (inside env room) (inside_safe env room) (suc (length text)) text

whole_safe : (env : Env) (text : List ℕ) → Safe (whole_of env text)
unfolding whole_of end_at unless_too_deep
whole_safe env text =
    safe_if (nat_eq (length (skip text)) 0) _ _ (λ e. (cc)) (safe_bind (alternation_at env 100 (inside env 100) (skip text)) _ (alternation_safe env 100 (skip text)) (λ x. safe_bind (end_at env (skip x.1)) _ (safe_if (nat_eq (length (skip x.1)) 0) _ _ (λ e. (cc)) (λ e. (cc))) (λ n. safe_if (nat_lt 1000 (depth x.0)) _ _ (λ e. (cc)) (λ e. (cc)))))

ascii_safe : (o : Option ℕ) (text : List ℕ) → Safe (ascii_only o text)
ascii_safe None text = λ e. (cc)
ascii_safe (Some i) text = λ e. (cc)

checked_safe : (text : List ℕ) → Safe (short_ascii text)
checked_safe text = safe_if (nat_lt 4096 (length text)) _ _ (λ e. (cc)) (ascii_safe (first_non_ascii text) text)

part_by_safe : (env : Env) (text : List ℕ) (st : Start) → Safe (objects.part_by env text st)
part_by_safe env text start.Quote = safe_bind (literal_at env text) _ (literal_safe env text) (λ s e. (cc))
part_by_safe env text start.Letter = safe_bind (variable_at env text) _ (variable_safe env text) (λ v e. (cc))
part_by_safe env text start.At = λ e. (cc)
part_by_safe env text start.Star = λ e. (cc)
part_by_safe env text start.Open = λ e. (cc)
part_by_safe env text start.Other = λ e. (cc)

gap_safe : (env : Env) (text : List ℕ) → Safe (gap_at env text)
unfolding gap_at
gap_safe env text = safe_if (nat_eq (length text) 0) _ _ (λ e. (cc)) (parted_safe env text)

object_parts_safe : (env : Env) (n : ℕ) (text : List ℕ) → Safe (parts_of env n text)
unfolding parts_of objects.part_at
object_parts_safe env zero text = λ e. (cc)
object_parts_safe env (suc n) text =
    safe_if (nat_eq (length text) 0) _ _ (λ e. (cc)) (safe_bind (objects.part_at env text) _ (part_by_safe env text (start_of text)) (λ x. safe_bind (gap_at env x.1) _ (gap_safe env x.1) (λ rest. safe_bind (parts_of env n rest) _ (object_parts_safe env n rest) (λ ps e. (cc)))))

pub memory_is_no_fault : MemoryIsNoFault
unfolding pattern_of object_of
memory_is_no_fault = (
  λ names earlier text. safe_bind (short_ascii text) _ (checked_safe text) (λ t. whole_safe (record { names = names; earlier = earlier; total = length text; in_rule = false }) t),
  λ names text. safe_bind (short_ascii text) _ (checked_safe text) (λ t. object_parts_safe (record { names = names; earlier = 0; total = length text; in_rule = false }) (suc (length (skip t))) (skip t)),
)

short_safe : (text : List ℕ) → Safe (short_text text)
short_safe text = safe_if (nat_lt 4096 (length text)) _ _ (λ e. (cc)) (λ e. (cc))

pub memory_is_no_rule_fault : MemoryIsNoRuleFault
unfolding rule_pattern_of rule_object_of
memory_is_no_rule_fault = (
  λ names earlier text. safe_bind (short_text text) _ (short_safe text) (λ t. whole_safe (record { names = names; earlier = earlier; total = length text; in_rule = true }) t),
  λ names text. safe_bind (short_text text) _ (short_safe text) (λ t. object_parts_safe (record { names = names; earlier = 0; total = length text; in_rule = true }) (suc (length (skip t))) (skip t)),
)
