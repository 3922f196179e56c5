-- Literals, numbers, names and parentheses: what is read of them is spelled so.
use Rattle.std.proofs.Common.{◌≡◌, ℕ, suc, ◌+◌, ◌-◌, ◌*◌, ◌<◌, ◌≤◌, Bool, true, false, cond, ◌||◌, List, [], ◌∷◌, ◌++◌, length, take, drop, nat_eq, nat_lt, Some, Ok, IsTrue, refl, sym, ap, ◌∙◌, arith, one-add, append_assoc, length-drop}
use Rattle.std.specs.Option.{is_some}
use Rattle.std.specs.List.{prefix_len, list_all}
use Rattle.std.specs.Char.{is_ascii_digit}
use Rattle.std.proofs.lemmas.Bool.{ltb-true, ltb-false, eqb-true, eqb-false}
use Rattle.sno_pattern.specs.Identifiers.{is_letter, is_name_char, is_name, is_reserved, name_of}
use Rattle.sno_pattern.specs.NameList.{place_of}
use Rattle.sno_read.specs.declared.faults.ReadFault.{ReadFault}
use Rattle.sno_read.specs.declared.faults.ReadFault.TheVariants as fault
use Rattle.sno_read.specs.declared.characters.Following.{Following}
use Rattle.sno_read.specs.declared.characters.Following.TheVariants as follows
use Rattle.sno_read.specs.Gives.{found_or}
use Rattle.sno_read.specs.Characters.{is_blank, is_quote, is_other, quote_of, front, rest_after, skip, begins, value_of, number_from, what_follows, sign_of}
use Rattle.sno_read.specs.Grammar.{AreBlanks, SomeBlanks, decimal, IsNumber, IsLiteral, IsVariable}
use Rattle.sno_read.specs.Reading.{Env, place, literal_by, literal_at, number_at, name_at, variable_at, opening_at, closing_at, blanks_at, sign_at}
use Rattle.sno_read.proofs.Fronts.{front_passes, behind_stops, front_behind, begins_shape, other_shape}
use Rattle.sno_read.proofs.Results.{bind_ok, found_ok, if_ok, unless_ok, if_some, unless_some, ok_same, pair_ok, or_false, none_is}

quote_shape : (text : List ℕ) (q : ℕ) → quote_of text ≡ Some q → IsTrue (is_quote q) × (text ≡ q ∷ drop 1 text)
quote_shape [] q h = cc
quote_shape (c ∷ cs) q h =
    let p = if_some (is_quote c) (Some c) q h in
    let e : c ≡ q = cc in
    (rw e at p.0, ap (λ k. k ∷ cs) e)

closed_shape : (e : ReadFault) (q : ℕ) (text s rest : List ℕ) → literal_by e q text ≡ Ok (s, rest) → IsTrue (list_all (is_other q) s) × (text ≡ s ++ (q ∷ rest))
closed_shape e q text s rest h =
    let p = if_ok (nat_lt (prefix_len (is_other q) text) (length text)) _ e (s, rest) h in
    let same = pair_ok (front (is_other q) text, drop 1 (rest_after (is_other q) text)) s rest p.1 in
    let within : prefix_len (is_other q) text < length text = ltb-true _ _ p.0 in
    let long : 0 < length (rest_after (is_other q) text) = rw (length-drop (prefix_len (is_other q) text) text) (omega arith) in (
      rw same.0 at (front_passes (is_other q) text),
      front_behind (is_other q) text ∙ ap (λ l. l ++ rest_after (is_other q) text) same.0 ∙ ap (λ l. s ++ l) (other_shape q (rest_after (is_other q) text) long (behind_stops (is_other q) text) ∙ ap (λ l. q ∷ l) same.1),
    )

pub literal_sound : (env : Env) (text s rest : List ℕ) → literal_at env text ≡ Ok (s, rest) → (x : List ℕ) × IsLiteral x s × (text ≡ x ++ rest)
unfolding literal_at
literal_sound env text s rest h =
    let a = bind_ok (found_or (fault.Unexpected (place env text)) (quote_of text)) _ (s, rest) h in
    let q = quote_shape text a.0 (found_ok _ _ _ a.1) in
    let c = closed_shape _ a.0 (drop 1 text) s rest a.2 in (
      a.0 ∷ (s ++ (a.0 ∷ [])),
      record { quote = a.0; is_quote = q.0; others = c.0; spelled = refl },
      q.1 ∙ ap (λ l. a.0 ∷ l) (c.1 ∙ sym (append_assoc s (a.0 ∷ []) rest)),
    )

-- the value of digits, as it is read
number_decimal : (m : ℕ) (ds : List ℕ) (n : ℕ) → m ≤ 65536 → number_from m ds ≡ Some n → (decimal m ds ≡ n) × (n ≤ 65536)
unfolding number_from
number_decimal m [] n h e = let same : m ≡ n = cc in (same, omega arith)
number_decimal m (d ∷ ds) n h e =
    let p = unless_some (nat_lt 65536 (m * 10 + (d - 48))) (number_from (m * 10 + (d - 48)) ds) n e in
    number_decimal (m * 10 + (d - 48)) ds n (ltb-false _ _ p.0) p.1

pub number_sound : (env : Env) (text : List ℕ) (n : ℕ) (rest : List ℕ) → number_at env text ≡ Ok (n, rest) → (ds : List ℕ) × IsNumber ds n × (text ≡ ds ++ rest)
unfolding number_at
number_sound env text n rest h =
    let ds = front is_ascii_digit text in
    let a = bind_ok (found_or (fault.BadNumber (place env text)) (value_of ds)) _ (n, rest) h in
    let same = pair_ok (a.0, rest_after is_ascii_digit text) n rest a.2 in
    let v = unless_some (nat_eq (length ds) 0) (number_from 0 ds) a.0 (found_ok _ _ _ a.1) in
    let d = number_decimal 0 ds a.0 (omega arith) v.1 in
    let e : length ds ≡ 0 → ⊥ = eqb-false _ _ v.0 in (
      ds,
      record { some = omega (arith, e); all_digits = front_passes is_ascii_digit text; value = d.0 ∙ same.0; small = rw (← same.0) d.1 },
      front_behind is_ascii_digit text ∙ ap (λ l. ds ++ l) same.1,
    )

pub name_sound : (env : Env) (text w rest : List ℕ) → name_at env text ≡ Ok (w, rest) → IsTrue (is_name w) × (text ≡ w ++ rest)
unfolding name_at
name_sound env text w rest h =
    let f = front is_name_char text in
    let p = if_ok (begins is_letter text) _ _ (w, rest) h in
    let a = bind_ok (found_or (fault.TooLong (place env text)) (name_of f)) _ (w, rest) p.1 in
    let same = pair_ok (a.0, rest_after is_name_char text) w rest a.2 in
    let n = if_some (is_name f) (Some f) a.0 (found_ok _ _ _ a.1) in
    let e : f ≡ w = (let k : f ≡ a.0 = cc in k ∙ same.0) in
    (rw e at n.0, front_behind is_name_char text ∙ ap (λ l. l ++ rest_after is_name_char text) e ∙ ap (λ l. w ++ l) same.1)

pub variable_sound : (env : Env) (text v rest : List ℕ) → variable_at env text ≡ Ok (v, rest) → IsVariable env.names v × (text ≡ v ++ rest)
unfolding variable_at
variable_sound env text v rest h =
    let a = bind_ok (name_at env text) _ (v, rest) h in
    let b = unless_ok (is_reserved a.0.0 || is_some (place_of env.names a.0.0)) (Ok a.0) _ (v, rest) a.2 in
    let same = (pair_ok a.0 v rest b.1).0 in
    let n = name_sound env text v rest (a.1 ∙ b.1) in
    let o = or_false (is_reserved a.0.0) (is_some (place_of env.names a.0.0)) b.0 in
    (record { is_name = n.0; not_reserved = rw same at o.0; no_definition = rw same at (none_is _ o.1) }, n.1)

pub opened_sound : (env : Env) (room : ℕ) (text rest : List ℕ) → opening_at env room text ≡ Ok rest → (k : ℕ) × (room ≡ suc k) × (b : List ℕ) × AreBlanks b × (text ≡ 40 ∷ (b ++ rest))
unfolding opening_at
opened_sound env room text rest h =
    let p = if_ok (begins (λ c. nat_eq c 40) text) _ _ rest h in
    let q = unless_ok (nat_eq room 0) _ _ rest p.1 in
    let e : room ≡ 0 → ⊥ = eqb-false _ _ q.0 in
    let same = ok_same _ rest q.1 in (
      room - 1,
      omega (arith, e),
      front is_blank (drop 1 text),
      front_passes is_blank (drop 1 text),
      begins_shape 40 text p.0 ∙ ap (λ l. 40 ∷ l) (front_behind is_blank (drop 1 text) ∙ ap (λ l. front is_blank (drop 1 text) ++ l) same),
    )

pub closed_sound : (env : Env) (text rest : List ℕ) → closing_at env text ≡ Ok rest → (c : List ℕ) × AreBlanks c × (text ≡ c ++ (41 ∷ rest))
unfolding closing_at
closed_sound env text rest h =
    let p = if_ok (begins (λ c. nat_eq c 41) (skip text)) _ _ rest h in
    let same = ok_same _ rest p.1 in (
      front is_blank text,
      front_passes is_blank text,
      front_behind is_blank text ∙ ap (λ l. front is_blank text ++ l) (begins_shape 41 (skip text) p.0 ∙ ap (λ l. 41 ∷ l) same),
    )

-- a front of blanks that isn't empty, if a blank begins the text
pub some_front : (p : ℕ → Bool) (text : List ℕ) → begins p text ≡ true → 0 < length (front p text)
some_front p [] h = cc
some_front p (c ∷ cs) h = some_taken p c cs (prefix_len p cs) (p c) h
  where
    some_taken : (p : ℕ → Bool) (c : ℕ) (cs : List ℕ) (n : ℕ) (v : Bool) → v ≡ true → 0 < length (take (cond v (1 + n) 0) (c ∷ cs))
    some_taken p c cs n true h = rw (one-add n) (omega arith)
    some_taken p c cs n false h = cc

pub parted_sound : (env : Env) (text rest : List ℕ) → blanks_at env text ≡ Ok rest → (b : List ℕ) × SomeBlanks b × (text ≡ b ++ rest)
unfolding blanks_at
parted_sound env text rest h =
    let p = if_ok (begins is_blank text) _ _ rest h in
    (front is_blank text, (front_passes is_blank text, some_front is_blank text p.0), front_behind is_blank text ∙ ap (λ l. front is_blank text ++ l) (ok_same _ rest p.1))

-- which sign the tests found
dot_is : (a b d e : Bool) → cond a follows.Nothing (cond b follows.Dot (cond d follows.Dollar (cond e follows.Bar follows.Item))) ≡ follows.Dot → b ≡ true
dot_is true b d e h = cc
dot_is false true d e h = refl
dot_is false false true e h = cc
dot_is false false false true h = cc
dot_is false false false false h = cc

dollar_is : (a b d e : Bool) → cond a follows.Nothing (cond b follows.Dot (cond d follows.Dollar (cond e follows.Bar follows.Item))) ≡ follows.Dollar → d ≡ true
dollar_is true b d e h = cc
dollar_is false true d e h = cc
dollar_is false false true e h = refl
dollar_is false false false true h = cc
dollar_is false false false false h = cc

bar_is : (a b d e : Bool) → cond a follows.Nothing (cond b follows.Dot (cond d follows.Dollar (cond e follows.Bar follows.Item))) ≡ follows.Bar → e ≡ true
bar_is true b d e h = cc
bar_is false true d e h = cc
bar_is false false true e h = cc
bar_is false false false true h = refl
bar_is false false false false h = cc

-- a sign is its character
dot_shape : (l : List ℕ) → sign_of l ≡ follows.Dot → l ≡ 46 ∷ drop 1 l
unfolding sign_of
dot_shape [] h = cc
dot_shape (c ∷ cs) h = ap (λ k. k ∷ cs) (eqb-true c 46 (dot_is (nat_eq c 41) (nat_eq c 46) (nat_eq c 36) (nat_eq c 124) h))

dollar_shape : (l : List ℕ) → sign_of l ≡ follows.Dollar → l ≡ 36 ∷ drop 1 l
unfolding sign_of
dollar_shape [] h = cc
dollar_shape (c ∷ cs) h = ap (λ k. k ∷ cs) (eqb-true c 36 (dollar_is (nat_eq c 41) (nat_eq c 46) (nat_eq c 36) (nat_eq c 124) h))

bar_shape : (l : List ℕ) → sign_of l ≡ follows.Bar → l ≡ 124 ∷ drop 1 l
unfolding sign_of
bar_shape [] h = cc
bar_shape (c ∷ cs) h = ap (λ k. k ∷ cs) (eqb-true c 124 (bar_is (nat_eq c 41) (nat_eq c 46) (nat_eq c 36) (nat_eq c 124) h))

blank_first : (b : Bool) (x f : Following) → cond b x follows.Nothing ≡ f → (f ≡ follows.Nothing → ⊥) → (b ≡ true) × (x ≡ f)
blank_first true x f h n = (refl, h)
blank_first false x f h n = absurd (n (sym h))

-- what follows an item comes after blanks
pub follows_shape : (text : List ℕ) (f : Following) → what_follows text ≡ f → (f ≡ follows.Nothing → ⊥) → SomeBlanks (front is_blank text) × (text ≡ front is_blank text ++ skip text) × (sign_of (skip text) ≡ f)
unfolding what_follows
follows_shape text f h n =
    let p = blank_first (begins is_blank text) (sign_of (skip text)) f h n in
    ((front_passes is_blank text, some_front is_blank text p.0), front_behind is_blank text, p.1)

-- a text that continues with blanks, a sign, blanks and a rest
abbrev pub Signed : ℕ → List ℕ → List ℕ → Type 0
Signed sign text rest = (b : List ℕ) × SomeBlanks b × (c : List ℕ) × SomeBlanks c × (text ≡ b ++ (sign ∷ (c ++ rest)))

signed_sound : (env : Env) (text rest : List ℕ) (f : Following) (sign : ℕ) → what_follows text ≡ f → (f ≡ follows.Nothing → ⊥) → (sign_of (skip text) ≡ f → skip text ≡ sign ∷ drop 1 (skip text)) → sign_at env text ≡ Ok rest → Signed sign text rest
unfolding sign_at
signed_sound env text rest f sign h n shape s =
    let p = follows_shape text f h n in
    let q = parted_sound env (drop 1 (skip text)) rest s in
    (front is_blank text, p.0, q.0, q.1, p.1 ∙ ap (λ l. front is_blank text ++ l) (shape p.2 ∙ ap (λ l. sign ∷ l) q.2))

pub dot_sound : (env : Env) (text rest : List ℕ) → what_follows text ≡ follows.Dot → sign_at env text ≡ Ok rest → Signed 46 text rest
dot_sound env text rest h s = signed_sound env text rest follows.Dot 46 h (λ e. (cc)) (dot_shape (skip text)) s

pub dollar_sound : (env : Env) (text rest : List ℕ) → what_follows text ≡ follows.Dollar → sign_at env text ≡ Ok rest → Signed 36 text rest
dollar_sound env text rest h s = signed_sound env text rest follows.Dollar 36 h (λ e. (cc)) (dollar_shape (skip text)) s

pub bar_sound : (env : Env) (text rest : List ℕ) → what_follows text ≡ follows.Bar → sign_at env text ≡ Ok rest → Signed 124 text rest
bar_sound env text rest h s = signed_sound env text rest follows.Bar 124 h (λ e. (cc)) (bar_shape (skip text)) s
