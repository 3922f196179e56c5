-- What is read is spelled so.
use Rattle.std.proofs.Common.{◌≡◌, ℕ, zero, suc, ◌<◌, Bool, true, false, cond, List, [], ◌∷◌, ◌++◌, length, drop, nat_eq, nat_lt, Option, Some, None, Result, Ok, IsTrue, refl, sym, ap, subst, ◌∙◌, append_assoc, append-nil}
use Rattle.std.proofs.lemmas.Bool.{ltb-true, eqb-true}
use Rattle.sno_pattern.specs.Identifiers.{is_letter, is_name, same}
use Rattle.sno_pattern.specs.NameList.{place_of}
use Rattle.sno_pattern.specs.Tree as tree
use Rattle.sno_pattern.specs.Tree.{Tree}
use Rattle.sno_read.specs.declared.faults.ReadFault.{ReadFault}
use Rattle.sno_read.specs.declared.faults.ReadFault.TheVariants as fault
use Rattle.sno_read.specs.declared.characters.Start.{Start}
use Rattle.sno_read.specs.declared.characters.Start.TheVariants as start
use Rattle.sno_read.specs.declared.characters.Following.{Following}
use Rattle.sno_read.specs.declared.characters.Following.TheVariants as follows
use Rattle.sno_read.specs.declared.keywords.NumberCall.{NumberCall}
use Rattle.sno_read.specs.declared.keywords.SetCall.{SetCall}
use Rattle.sno_read.specs.declared.keywords.Keyword.{Keyword}
use Rattle.sno_read.specs.declared.keywords.Keyword.TheVariants.{Primitive, Counted, Chosen, Repeated}
use Rattle.sno_read.specs.Gives.{found_or}
use Rattle.sno_read.specs.Keywords.{keyword_of, word_tree, number_tree, set_tree}
use Rattle.sno_read.specs.Characters.{is_blank, is_quote, front, skip, start_of, what_follows}
use Rattle.sno_read.specs.Grammar.{AreBlanks, SomeBlanks, IsNumber, IsLiteral, IsVariable, parenthesized, signed_by, IsElement, IsItem, IsConcatenation, IsAlternation, Spells}
use Rattle.sno_read.specs.Grammar as grammar
use Rattle.sno_read.specs.Reading.{Env, Read, place, below, literal_at, set_at, number_at, name_at, variable_at, opening_at, closing_at, sign_at, cursor_at, reference_at, plain_of, number_call_at, set_call_at, group_at, repetition_at, from_name, from_name_at, quotation_at, element_by, element_at, target_by, targets_at, item_at, item_by, items_at, next_part_by, parts_at, concatenation_at, alternation_at, inside}
use Rattle.sno_read.proofs.Results.{bind_ok, found_ok, if_some, pair_ok}
use Rattle.sno_read.proofs.Reserved.{reserved_not}
use Rattle.sno_read.proofs.SetsRead.{SetsSound}
use Rattle.sno_read.proofs.TokensRead.{literal_sound, number_sound, name_sound, variable_sound, opened_sound, closed_sound, Signed, dot_sound, dollar_sound, bar_sound, follows_shape}

-- a text in parentheses, and what comes after it
pub paren_split : (b x c rest : List ℕ) → parenthesized b x c ++ rest ≡ 40 ∷ (b ++ (x ++ (c ++ (41 ∷ rest))))
paren_split b x c rest = simp append_assoc

pub signed_split : (sign : ℕ) (b c v rest : List ℕ) → signed_by sign b c v ++ rest ≡ b ++ (sign ∷ (c ++ (v ++ rest)))
signed_split sign b c v rest = simp append_assoc

-- how an element begins, by its tests
at_is : (a b d e f : Bool) → cond a start.Quote (cond b start.At (cond d start.Star (cond e start.Open (cond f start.Letter start.Other)))) ≡ start.At → b ≡ true
at_is true b d e f h = cc
at_is false true d e f h = refl
at_is false false true e f h = cc
at_is false false false true f h = cc
at_is false false false false true h = cc
at_is false false false false false h = cc

star_is : (a b d e f : Bool) → cond a start.Quote (cond b start.At (cond d start.Star (cond e start.Open (cond f start.Letter start.Other)))) ≡ start.Star → d ≡ true
star_is true b d e f h = cc
star_is false true d e f h = cc
star_is false false true e f h = refl
star_is false false false true f h = cc
star_is false false false false true h = cc
star_is false false false false false h = cc

at_shape : (text : List ℕ) → start_of text ≡ start.At → text ≡ 64 ∷ drop 1 text
unfolding start_of
at_shape [] h = cc
at_shape (c ∷ cs) h = ap (λ k. k ∷ cs) (eqb-true c 64 (at_is (is_quote c) (nat_eq c 64) (nat_eq c 42) (nat_eq c 40) (is_letter c) h))

star_shape : (text : List ℕ) → start_of text ≡ start.Star → text ≡ 42 ∷ drop 1 text
unfolding start_of
star_shape [] h = cc
star_shape (c ∷ cs) h = ap (λ k. k ∷ cs) (eqb-true c 42 (star_is (is_quote c) (nat_eq c 64) (nat_eq c 42) (nat_eq c 40) (is_letter c) h))

-- what was read in parentheses
abbrev Inside : ℕ → List ℕ → List ℕ → (ℕ → List ℕ → Type 0) → Type 0
Inside room text rest P = (k : ℕ) × (room ≡ suc k) × (b : List ℕ) × AreBlanks b × (x : List ℕ) × P k x × (c : List ℕ) × AreBlanks c × (text ≡ parenthesized b x c ++ rest)

parens_sound : (env : Env) (room : ℕ) (P : ℕ → List ℕ → Type 0) (text a m rest : List ℕ) → opening_at env room text ≡ Ok a → ((k : ℕ) → room ≡ suc k → (x : List ℕ) × P k x × (a ≡ x ++ m)) → closing_at env m ≡ Ok rest → Inside room text rest P
parens_sound env room P text a m rest o mid e =
    let p = opened_sound env room text a o in
    let q = mid p.0 p.1 in
    let r = closed_sound env m rest e in (
      p.0,
      p.1,
      p.2,
      p.3,
      q.0,
      q.1,
      r.0,
      r.1,
      p.4 ∙ ap (λ l. 40 ∷ (p.2 ++ l)) (q.2 ∙ ap (λ l. q.0 ++ l) r.2) ∙ sym (paren_split p.2 q.0 r.0 rest),
    )

counted_sound : (env : Env) (room : ℕ) (call : NumberCall) (text : List ℕ) (t : Tree) (rest : List ℕ) → number_call_at env room call text ≡ Ok (t, rest) → (n : ℕ) × (number_tree call n ≡ t) × Inside room text rest (λ k ds. IsNumber ds n)
unfolding number_call_at
counted_sound env room call text t rest h =
    let a = bind_ok (opening_at env room text) _ (t, rest) h in
    let n = bind_ok (number_at env a.0) _ (t, rest) a.2 in
    let e = bind_ok (closing_at env n.0.1) _ (t, rest) n.2 in
    let same = pair_ok (number_tree call n.0.0, e.0) t rest e.2 in
    (n.0.0, same.0, parens_sound env room (λ k ds. IsNumber ds n.0.0) text a.0 n.0.1 rest a.1 (λ k _. number_sound env a.0 n.0.0 n.0.1 n.1) (e.1 ∙ ap (λ l. Ok l) same.1))

chosen_sound : (IsSet : List ℕ → List ℕ → Type 0) (env : Env) → SetsSound IsSet env → (room : ℕ) (call : SetCall) (text : List ℕ) (t : Tree) (rest : List ℕ) → set_call_at env room call text ≡ Ok (t, rest) → (s : List ℕ) × (set_tree call s ≡ t) × Inside room text rest (λ k x. IsSet x s)
unfolding set_call_at
chosen_sound IsSet env sets room call text t rest h =
    let a = bind_ok (opening_at env room text) _ (t, rest) h in
    let n = bind_ok (set_at env a.0) _ (t, rest) a.2 in
    let e = bind_ok (closing_at env n.0.1) _ (t, rest) n.2 in
    let same = pair_ok (set_tree call n.0.0, e.0) t rest e.2 in
    (n.0.0, same.0, parens_sound env room (λ k x. IsSet x n.0.0) text a.0 n.0.1 rest a.1 (λ k _. sets a.0 n.0.0 n.0.1 n.1) (e.1 ∙ ap (λ l. Ok l) same.1))

module _ (IsSet : List ℕ → List ℕ → Type 0) (env : Env) (sets : SetsSound IsSet env) (room : ℕ) (inner : List ℕ → Read Tree) where
  -- what `inner` reads is an alternation, with one parenthesis fewer to open
  abbrev Reads : Type 0
  Reads = (text : List ℕ) (t : Tree) (rest : List ℕ) → inner text ≡ Ok (t, rest) → (k : ℕ) → room ≡ suc k → (x : List ℕ) × IsAlternation IsSet env.names env.earlier k x t × (text ≡ x ++ rest)

  group_sound : Reads → (text : List ℕ) (t : Tree) (rest : List ℕ) → group_at env room inner text ≡ Ok (t, rest) → Inside room text rest (λ k x. IsAlternation IsSet env.names env.earlier k x t)
  unfolding group_at
  group_sound reads text t rest h =
      let a = bind_ok (opening_at env room text) _ (t, rest) h in
      let n = bind_ok (inner a.0) _ (t, rest) a.2 in
      let e = bind_ok (closing_at env n.0.1) _ (t, rest) n.2 in
      let same = pair_ok (n.0.0, e.0) t rest e.2 in
      parens_sound env room (λ k x. IsAlternation IsSet env.names env.earlier k x t) text a.0 n.0.1 rest a.1 (λ k i. reads a.0 t n.0.1 (n.1 ∙ ap (λ u. Ok (u, n.0.1)) same.0) k i) (e.1 ∙ ap (λ l. Ok l) same.1)

  -- an element that was read
  abbrev Element : List ℕ → Tree → List ℕ → Type 0
  Element text t rest = (x : List ℕ) × IsElement IsSet env.names env.earlier room x t × (text ≡ x ++ rest)

  below_ok : (n i : ℕ) (o : Option ℕ) → below n o ≡ Some i → (o ≡ Some i) × (i < n)
  below_ok n i None h = cc
  below_ok n i (Some j) h =
      let p = if_some (nat_lt j n) (Some j) i h in
      let e : j ≡ i = cc in
      (p.1, rw (← e) (ltb-true j n p.0))

  -- what was read in parentheses after a name
  called : (text w m rest : List ℕ) (t u : Tree) (P : ℕ → List ℕ → Type 0) → text ≡ w ++ m → u ≡ t → Inside room m rest P → ((k : ℕ) (b x c : List ℕ) → AreBlanks b → P k x → AreBlanks c → IsElement IsSet env.names env.earlier (suc k) (w ++ parenthesized b x c) u) → Element text t rest
  called text w m rest t u P split same p make =
      let d = make p.0 p.2 p.4 p.6 p.3 p.5 p.7 in
      (w ++ parenthesized p.2 p.4 p.6, rw (p.1, ← same) d, split ∙ ap (λ l. w ++ l) p.8 ∙ sym (append_assoc w (parenthesized p.2 p.4 p.6) rest))

  named_by_sound : Reads → (text : List ℕ) (unknown : ReadFault) (w m : List ℕ) (t : Tree) (rest : List ℕ) (o : Option Keyword) → IsTrue (is_name w) → text ≡ w ++ m → keyword_of w ≡ o → from_name env room inner unknown (w, m) o ≡ Ok (t, rest) → Element text t rest
  unfolding plain_of repetition_at
  named_by_sound reads text unknown w m t rest None n split k h =
      let a = bind_ok (found_or unknown (below env.earlier (place_of env.names w))) _ (t, rest) h in
      let i = below_ok env.earlier a.0 (place_of env.names w) (found_ok _ _ _ a.1) in
      let same = pair_ok (tree.Ref a.0, m) t rest a.2 in
      (w, rw (← same.0) (grammar.plain w a.0 n (reserved_not w k) i.0 i.1), split ∙ ap (λ l. w ++ l) same.1)
  named_by_sound reads text unknown w m t rest (Some (Primitive it)) n split k h =
      let same = pair_ok (word_tree it, m) t rest h in
      (w, rw (← same.0) (grammar.word w it k), split ∙ ap (λ l. w ++ l) same.1)
  named_by_sound reads text unknown w m t rest (Some (Counted call)) n split k h =
      let p = counted_sound env room call m t rest h in
      called text w m rest t (number_tree call p.0) (λ k ds. IsNumber ds p.0) split p.1 p.2 (λ j b x c bb d cb. grammar.counted w b x c call p.0 k bb d cb)
  named_by_sound reads text unknown w m t rest (Some (Chosen call)) n split k h =
      let p = chosen_sound IsSet env sets room call m t rest h in
      called text w m rest t (set_tree call p.0) (λ k x. IsSet x p.0) split p.1 p.2 (λ j b x c bb d cb. grammar.chosen w b x p.0 c call k bb d cb)
  named_by_sound reads text unknown w m t rest (Some Repeated) n split k h =
      let a = bind_ok (group_at env room inner m) _ (t, rest) h in
      let same = pair_ok (tree.Arbno a.0.0, a.0.1) t rest a.2 in
      let p = group_sound reads m a.0.0 rest (a.1 ∙ ap (λ l. Ok (a.0.0, l)) same.1) in
      called text w m rest t (tree.Arbno a.0.0) (λ k x. IsAlternation IsSet env.names env.earlier k x a.0.0) split same.0 p (λ j b x c bb d cb. grammar.repeated w b x c a.0.0 k bb d cb)

  named_sound : Reads → (text : List ℕ) (t : Tree) (rest : List ℕ) → from_name_at env room inner text ≡ Ok (t, rest) → Element text t rest
  unfolding from_name_at
  named_sound reads text t rest h =
      let a = bind_ok (name_at env text) _ (t, rest) h in
      let n = name_sound env text a.0.0 a.0.1 a.1 in
      named_by_sound reads text (fault.UnknownName (place env text)) a.0.0 a.0.1 t rest (keyword_of a.0.0) n.0 n.1 refl a.2

  element_by_sound : Reads → (text : List ℕ) (t : Tree) (rest : List ℕ) (st : Start) → start_of text ≡ st → element_by env room inner text st ≡ Ok (t, rest) → Element text t rest
  unfolding quotation_at cursor_at reference_at
  element_by_sound reads text t rest start.Quote s h =
      let a = bind_ok (literal_at env text) _ (t, rest) h in
      let same = pair_ok (tree.Lit a.0.0, a.0.1) t rest a.2 in
      let l = literal_sound env text a.0.0 a.0.1 a.1 in
      (l.0, subst (λ u. IsElement IsSet env.names env.earlier room l.0 u) same.0 (grammar.quoted l.0 a.0.0 l.1), l.2 ∙ ap (λ r. l.0 ++ r) same.1)
  element_by_sound reads text t rest start.At s h =
      let a = bind_ok (variable_at env (drop 1 text)) _ (t, rest) h in
      let same = pair_ok (tree.At a.0.0, a.0.1) t rest a.2 in
      let v = variable_sound env (drop 1 text) a.0.0 a.0.1 a.1 in
      (64 ∷ a.0.0, subst (λ u. IsElement IsSet env.names env.earlier room (64 ∷ a.0.0) u) same.0 (grammar.cursor a.0.0 v.0), at_shape text s ∙ ap (λ r. 64 ∷ r) (v.1 ∙ ap (λ r. a.0.0 ++ r) same.1))
  element_by_sound reads text t rest start.Star s h =
      let a = bind_ok (name_at env (drop 1 text)) _ (t, rest) h in
      let i = bind_ok (found_or (fault.UnknownName (place env (drop 1 text))) (place_of env.names a.0.0)) _ (t, rest) a.2 in
      let same = pair_ok (tree.Ref i.0, a.0.1) t rest i.2 in
      let n = name_sound env (drop 1 text) a.0.0 a.0.1 a.1 in
      (42 ∷ a.0.0, subst (λ u. IsElement IsSet env.names env.earlier room (42 ∷ a.0.0) u) same.0 (grammar.starred a.0.0 i.0 n.0 (found_ok _ _ _ i.1)), star_shape text s ∙ ap (λ r. 42 ∷ r) (n.1 ∙ ap (λ r. a.0.0 ++ r) same.1))
  element_by_sound reads text t rest start.Open s h =
      let p = group_sound reads text t rest h in
      let d = grammar.group p.2 p.4 p.6 t p.3 p.5 p.7 in
      (parenthesized p.2 p.4 p.6, subst (λ j. IsElement IsSet env.names env.earlier j (parenthesized p.2 p.4 p.6) t) (sym p.1) d, p.8)
  element_by_sound reads text t rest start.Letter s h = named_sound reads text t rest h
  element_by_sound reads text t rest start.Other s h = cc

  element_sound : Reads → (text : List ℕ) (t : Tree) (rest : List ℕ) → element_at env room inner text ≡ Ok (t, rest) → Element text t rest
  unfolding element_at
  element_sound reads text t rest h = element_by_sound reads text t rest (start_of text) refl h

  -- an item that grew from one that spells t
  abbrev Item : List ℕ → List ℕ → Tree → List ℕ → Type 0
  Item x text t rest = (y : List ℕ) × IsItem IsSet env.names env.earlier room (x ++ y) t × (text ≡ y ++ rest)

  item_as_is : (x text : List ℕ) (t u : Tree) (rest : List ℕ) → IsItem IsSet env.names env.earlier room x t → ◌≡◌ {A = Result (Tree × List ℕ) ReadFault} (Ok (t, text)) (Ok (u, rest)) → Item x text u rest
  item_as_is x text t u rest i h =
      let same = pair_ok (t, text) u rest h in
      ([], rw (append-nil x, ← same.0) i, same.1)

  -- one more target
  grown : (x text a v r : List ℕ) (sign : ℕ) (u : Tree) (rest : List ℕ) (s : Signed sign text a) → a ≡ v ++ r → Item (x ++ signed_by sign s.0 s.2 v) r u rest → Item x text u rest
  grown x text a v r sign u rest s split i = (
    signed_by sign s.0 s.2 v ++ i.0,
    rw (append_assoc x (signed_by sign s.0 s.2 v) i.0) at i.1,
    s.4 ∙ ap (λ l. s.0 ++ (sign ∷ (s.2 ++ l))) split ∙ sym (signed_split sign s.0 s.2 v r) ∙ ap (λ l. signed_by sign s.0 s.2 v ++ l) i.2 ∙ sym (append_assoc (signed_by sign s.0 s.2 v) i.0 rest),
  )

  targets_sound : (n : ℕ) (x : List ℕ) (t : Tree) (text : List ℕ) (u : Tree) (rest : List ℕ) → IsItem IsSet env.names env.earlier room x t → targets_at env n t text ≡ Ok (u, rest) → Item x text u rest
  unfolding targets_at
  targets_sound zero x t text u rest i h = cc
  targets_sound (suc n) x t text u rest i h = by_sign (targets_at env n) (λ y v a. targets_sound n y v a u rest) (what_follows text) refl h
    where
      by_sign : (more : Tree → List ℕ → Read Tree) → ((y : List ℕ) (v : Tree) (a : List ℕ) → IsItem IsSet env.names env.earlier room y v → more v a ≡ Ok (u, rest) → Item y a u rest) → (f : Following) → what_follows text ≡ f → target_by env more t text f ≡ Ok (u, rest) → Item x text u rest
      by_sign more sound follows.Dot e g =
          let a = bind_ok (sign_at env text) _ (u, rest) g in
          let v = bind_ok (variable_at env a.0) _ (u, rest) a.2 in
          let s = dot_sound env text a.0 e a.1 in
          let q = variable_sound env a.0 v.0.0 v.0.1 v.1 in
          grown x text a.0 v.0.0 v.0.1 46 u rest s q.1 (sound (x ++ signed_by 46 s.0 s.2 v.0.0) (tree.Cond t v.0.0) v.0.1 (grammar.later x s.0 s.2 v.0.0 t i s.1 s.3 q.0) v.2)
      by_sign more sound follows.Dollar e g =
          let a = bind_ok (sign_at env text) _ (u, rest) g in
          let v = bind_ok (variable_at env a.0) _ (u, rest) a.2 in
          let s = dollar_sound env text a.0 e a.1 in
          let q = variable_sound env a.0 v.0.0 v.0.1 v.1 in
          grown x text a.0 v.0.0 v.0.1 36 u rest s q.1 (sound (x ++ signed_by 36 s.0 s.2 v.0.0) (tree.Imm t v.0.0) v.0.1 (grammar.at_once x s.0 s.2 v.0.0 t i s.1 s.3 q.0) v.2)
      by_sign more sound follows.Nothing e g = item_as_is x text t u rest i g
      by_sign more sound follows.Bar e g = item_as_is x text t u rest i g
      by_sign more sound follows.Item e g = item_as_is x text t u rest i g

  item_sound : Reads → (text : List ℕ) (t : Tree) (rest : List ℕ) → item_at env room inner text ≡ Ok (t, rest) → (x : List ℕ) × IsItem IsSet env.names env.earlier room x t × (text ≡ x ++ rest)
  unfolding item_at
  item_sound reads text t rest h =
      let a = bind_ok (element_at env room inner text) _ (t, rest) h in
      let e = element_sound reads text a.0.0 a.0.1 a.1 in
      let i = targets_sound (suc (length a.0.1)) e.0 a.0.0 a.0.1 t rest (grammar.element e.0 a.0.0 e.1) a.2 in
      (e.0 ++ i.0, i.1, e.2 ∙ ap (λ l. e.0 ++ l) i.2 ∙ sym (append_assoc e.0 i.0 rest))

  abbrev Concatenation : List ℕ → Tree → List ℕ → Type 0
  Concatenation text t rest = (x : List ℕ) × IsConcatenation IsSet env.names env.earlier room x t × (text ≡ x ++ rest)

  item_alone : (text : List ℕ) (p : Tree × List ℕ) (t : Tree) (rest : List ℕ) (x : List ℕ) → IsItem IsSet env.names env.earlier room x p.0 → text ≡ x ++ p.1 → ◌≡◌ {A = Result (Tree × List ℕ) ReadFault} (Ok p) (Ok (t, rest)) → Concatenation text t rest
  item_alone text p t rest x i split h =
      let same = pair_ok p t rest h in
      (x, rw (← same.0) (grammar.single x p.0 i), split ∙ ap (λ l. x ++ l) same.1)

  items_sound : Reads → (n : ℕ) (text : List ℕ) (t : Tree) (rest : List ℕ) → items_at env (item_at env room inner) n text ≡ Ok (t, rest) → Concatenation text t rest
  unfolding items_at
  items_sound reads zero text t rest h = cc
  items_sound reads (suc n) text t rest h =
      let a = bind_ok (item_at env room inner text) _ (t, rest) h in
      let i = item_sound reads text a.0.0 a.0.1 a.1 in
      by_next (items_at env (item_at env room inner) n) (λ m u. items_sound reads n m u rest) a.0 i.0 i.1 i.2 (what_follows a.0.1) refl a.2
    where
      by_next : (more : List ℕ → Read Tree) → ((m : List ℕ) (u : Tree) → more m ≡ Ok (u, rest) → Concatenation m u rest) → (p : Tree × List ℕ) (x : List ℕ) → IsItem IsSet env.names env.earlier room x p.0 → text ≡ x ++ p.1 → (f : Following) → what_follows p.1 ≡ f → item_by more p f ≡ Ok (t, rest) → Concatenation text t rest
      by_next more sound p x i split follows.Item e g =
          let b = bind_ok (more (skip p.1)) _ (t, rest) g in
          let s = follows_shape p.1 follows.Item e (λ k. (cc)) in
          let same = pair_ok (tree.Seq p.0 b.0.0, b.0.1) t rest b.2 in
          let y = sound (skip p.1) b.0.0 (b.1 ∙ ap (λ l. Ok (b.0.0, l)) same.1) in (
            x ++ (front is_blank p.1 ++ y.0),
            subst (λ u. IsConcatenation IsSet env.names env.earlier room (x ++ (front is_blank p.1 ++ y.0)) u) same.0 (grammar.followed x (front is_blank p.1) y.0 p.0 b.0.0 i s.0 y.1),
            split ∙ ap (λ l. x ++ l) (s.1 ∙ ap (λ l. front is_blank p.1 ++ l) y.2 ∙ sym (append_assoc (front is_blank p.1) y.0 rest)) ∙ sym (append_assoc x (front is_blank p.1 ++ y.0) rest),
          )
      by_next more sound p x i split follows.Nothing e g = item_alone text p t rest x i split g
      by_next more sound p x i split follows.Dot e g = item_alone text p t rest x i split g
      by_next more sound p x i split follows.Dollar e g = item_alone text p t rest x i split g
      by_next more sound p x i split follows.Bar e g = item_alone text p t rest x i split g

  abbrev Alternation : List ℕ → Tree → List ℕ → Type 0
  Alternation text t rest = (x : List ℕ) × IsAlternation IsSet env.names env.earlier room x t × (text ≡ x ++ rest)

  part_alone : (text : List ℕ) (p : Tree × List ℕ) (t : Tree) (rest : List ℕ) (x : List ℕ) → IsConcatenation IsSet env.names env.earlier room x p.0 → text ≡ x ++ p.1 → ◌≡◌ {A = Result (Tree × List ℕ) ReadFault} (Ok p) (Ok (t, rest)) → Alternation text t rest
  part_alone text p t rest x i split h =
      let same = pair_ok p t rest h in
      (x, rw (← same.0) (grammar.only x p.0 i), split ∙ ap (λ l. x ++ l) same.1)

  parts_sound : Reads → (n : ℕ) (text : List ℕ) (t : Tree) (rest : List ℕ) → parts_at env (concatenation_at env room inner) n text ≡ Ok (t, rest) → Alternation text t rest
  unfolding parts_at concatenation_at
  parts_sound reads zero text t rest h = cc
  parts_sound reads (suc n) text t rest h =
      let a = bind_ok (concatenation_at env room inner text) _ (t, rest) h in
      let i = items_sound reads (suc (length text)) text a.0.0 a.0.1 a.1 in
      by_next (parts_at env (concatenation_at env room inner) n) (λ m u. parts_sound reads n m u rest) a.0 i.0 i.1 i.2 (what_follows a.0.1) refl a.2
    where
      by_next : (more : List ℕ → Read Tree) → ((m : List ℕ) (u : Tree) → more m ≡ Ok (u, rest) → Alternation m u rest) → (p : Tree × List ℕ) (x : List ℕ) → IsConcatenation IsSet env.names env.earlier room x p.0 → text ≡ x ++ p.1 → (f : Following) → what_follows p.1 ≡ f → next_part_by env more p f ≡ Ok (t, rest) → Alternation text t rest
      by_next more sound p x i split follows.Bar e g =
          let a = bind_ok (sign_at env p.1) _ (t, rest) g in
          let b = bind_ok (more a.0) _ (t, rest) a.2 in
          let s = bar_sound env p.1 a.0 e a.1 in
          let same = pair_ok (tree.Alt p.0 b.0.0, b.0.1) t rest b.2 in
          let y = sound a.0 b.0.0 (b.1 ∙ ap (λ l. Ok (b.0.0, l)) same.1) in (
            x ++ signed_by 124 s.0 s.2 y.0,
            subst (λ u. IsAlternation IsSet env.names env.earlier room (x ++ signed_by 124 s.0 s.2 y.0) u) same.0 (grammar.otherwise x s.0 s.2 y.0 p.0 b.0.0 i s.1 s.3 y.1),
            split ∙ ap (λ l. x ++ l) (s.4 ∙ ap (λ l. s.0 ++ (124 ∷ (s.2 ++ l))) y.2 ∙ sym (signed_split 124 s.0 s.2 y.0 rest)) ∙ sym (append_assoc x (signed_by 124 s.0 s.2 y.0) rest),
          )
      by_next more sound p x i split follows.Nothing e g = part_alone text p t rest x i split g
      by_next more sound p x i split follows.Dot e g = part_alone text p t rest x i split g
      by_next more sound p x i split follows.Dollar e g = part_alone text p t rest x i split g
      by_next more sound p x i split follows.Item e g = part_alone text p t rest x i split g

module _ (IsSet : List ℕ → List ℕ → Type 0) (env : Env) (sets : SetsSound IsSet env) where
  -- what is read inside parentheses
  inside_sound : (room : ℕ) → Reads IsSet env sets room (inside env room)
  unfolding inside alternation_at
  inside_sound zero text t rest h k e = cc
  inside_sound (suc room) text t rest h k e =
      let same : room ≡ k = cc in
      rw (← same) (parts_sound IsSet env sets room (inside env room) (inside_sound room) (suc (length text)) text t rest h)

  pub alternation_sound : (room : ℕ) (text : List ℕ) (t : Tree) (rest : List ℕ) → alternation_at env room (inside env room) text ≡ Ok (t, rest) → (x : List ℕ) × IsAlternation IsSet env.names env.earlier room x t × (text ≡ x ++ rest)
  unfolding alternation_at
  alternation_sound room text t rest h = parts_sound IsSet env sets room (inside env room) (inside_sound room) (suc (length text)) text t rest h
