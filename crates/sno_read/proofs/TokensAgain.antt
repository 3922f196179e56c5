-- Literals, numbers, names and parentheses are read as they are spelled.
use Rattle.std.proofs.Common.{◌≡◌, ℕ, suc, ◌+◌, ◌-◌, ◌*◌, ◌<◌, ◌≤◌, true, false, not, ◌&&◌, List, [], ◌∷◌, ◌++◌, length, nat_eq, nat_lt, Some, Ok, IsTrue, refl, ap, ◌∙◌, arith, append_assoc, length-append}
use Rattle.std.specs.List.{prefix_len, list_all}
use Rattle.std.specs.Char.{is_ascii_digit}
use Rattle.std.proofs.lemmas.Bool.{lt-ltb, le-ltb, eq-eqb, ne_eqb, and_parts, and_from}
use Rattle.sno_pattern.specs.Identifiers.{is_letter, is_name_char, is_name}
use Rattle.sno_read.specs.declared.faults.ReadFault.{ReadFault}
use Rattle.sno_read.specs.Characters.{is_blank, is_other, begins, number_from}
use Rattle.sno_read.specs.Grammar.{AreBlanks, SomeBlanks, decimal, IsNumber, IsLiteral, IsVariable}
use Rattle.sno_read.specs.Reading.{Env, literal_by, literal_at, number_at, name_at, variable_at, opening_at, closing_at, blanks_at, sign_at}
use Rattle.sno_read.proofs.Fronts.{prefix_run, front_run, behind_run}
use Rattle.sno_read.proofs.Marks.{name_starts, letter_in_name, blanks_begin, skip_blanks}

closed_again : (e : ReadFault) (q : ℕ) (s r : List ℕ) → IsTrue (list_all (is_other q) s) → literal_by e q (s ++ (q ∷ r)) ≡ Ok (s, r)
closed_again e q s r h =
    let same : is_other q q ≡ false = ap not (eq-eqb q q refl) in
    let within : prefix_len (is_other q) (s ++ (q ∷ r)) < length (s ++ (q ∷ r)) = rw (prefix_run (is_other q) s (q ∷ r) h same, length-append s (q ∷ r)) (omega arith) in
    rw (lt-ltb _ _ within, front_run (is_other q) s (q ∷ r) h same, behind_run (is_other q) s (q ∷ r) h same) refl

pub literal_again : (env : Env) (x s r : List ℕ) → IsLiteral x s → literal_at env (x ++ r) ≡ Ok (s, r)
unfolding literal_at
literal_again env x s r l =
    let split : x ++ r ≡ l.quote ∷ (s ++ (l.quote ∷ r)) = ap (λ k. k ++ r) l.spelled ∙ ap (λ k. l.quote ∷ k) (append_assoc s (l.quote ∷ []) r) in
    rw (split, l.is_quote) (closed_again _ l.quote s r l.others)

grows : (m : ℕ) (ds : List ℕ) → m ≤ decimal m ds
grows m [] = omega arith
grows m (d ∷ ds) = omega (arith, grows (m * 10 + (d - 48)) ds)

decimal_number : (m : ℕ) (ds : List ℕ) (n : ℕ) → decimal m ds ≡ n → n ≤ 65536 → number_from m ds ≡ Some n
unfolding number_from
decimal_number m [] n e h = ap (λ k. Some k) e
decimal_number m (d ∷ ds) n e h =
    let g = grows (m * 10 + (d - 48)) ds in
    let small : nat_lt 65536 (m * 10 + (d - 48)) ≡ false = le-ltb _ _ (omega (arith, g, e)) in
    rw small (decimal_number (m * 10 + (d - 48)) ds n e h)

pub number_again : (env : Env) (ds : List ℕ) (n : ℕ) (r : List ℕ) → IsNumber ds n → begins is_ascii_digit r ≡ false → number_at env (ds ++ r) ≡ Ok (n, r)
unfolding number_at
number_again env ds n r d h =
    let some : nat_eq (length ds) 0 ≡ false = ne_eqb (length ds) 0 (λ e. omega (arith, d.some)) in
    rw (front_run is_ascii_digit ds r d.all_digits h, behind_run is_ascii_digit ds r d.all_digits h, some, decimal_number 0 ds n d.value d.small) refl

-- the characters of a name
in_name : (w : List ℕ) → IsTrue (is_name w) → list_all is_name_char w ≡ true
in_name [] h = cc
in_name (c ∷ cs) h =
    let p = and_parts (is_letter c) (list_all is_name_char cs && nat_lt (length cs) 64) h in
    and_from (is_name_char c) (list_all is_name_char cs) (letter_in_name c p.0) (and_parts (list_all is_name_char cs) _ p.1).0

letter_first : (w r : List ℕ) → IsTrue (is_name w) → begins is_letter (w ++ r) ≡ true
letter_first w r h = let n = name_starts w h in rw n.3 n.1

pub name_again : (env : Env) (w r : List ℕ) → IsTrue (is_name w) → begins is_name_char r ≡ false → name_at env (w ++ r) ≡ Ok (w, r)
unfolding name_at
name_again env w r n h =
    rw (letter_first w r n, front_run is_name_char w r (in_name w n) h, behind_run is_name_char w r (in_name w n) h, n) refl

pub variable_again : (env : Env) (v r : List ℕ) → IsVariable env.names v → begins is_name_char r ≡ false → variable_at env (v ++ r) ≡ Ok (v, r)
unfolding variable_at
variable_again env v r i h = rw (name_again env v r i.is_name h, i.not_reserved, i.no_definition) refl

pub opened_again : (env : Env) (k : ℕ) (b r : List ℕ) → AreBlanks b → begins is_blank r ≡ false → opening_at env (suc k) (40 ∷ (b ++ r)) ≡ Ok r
unfolding opening_at
opened_again env k b r h e =
    let some : nat_eq (suc k) 0 ≡ false = ne_eqb (suc k) 0 (λ i. omega arith) in
    rw (skip_blanks b r h e, some) refl

pub closed_paren_again : (env : Env) (c r : List ℕ) → AreBlanks c → closing_at env (c ++ (41 ∷ r)) ≡ Ok r
unfolding closing_at
closed_paren_again env c r h = rw (skip_blanks c (41 ∷ r) h refl) refl

pub parted_again : (env : Env) (b r : List ℕ) → SomeBlanks b → begins is_blank r ≡ false → blanks_at env (b ++ r) ≡ Ok r
unfolding blanks_at
parted_again env b r h e = rw (blanks_begin b r h, skip_blanks b r h.0 e) refl

pub signed_again : (env : Env) (sign : ℕ) (b c r : List ℕ) → is_blank sign ≡ false → SomeBlanks b → SomeBlanks c → begins is_blank r ≡ false → sign_at env (b ++ (sign ∷ (c ++ r))) ≡ Ok r
unfolding sign_at
signed_again env sign b c r s bb cb e = rw (skip_blanks b (sign ∷ (c ++ r)) bb.0 s) (parted_again env c r cb e)
