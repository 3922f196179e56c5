-- What is spelled so is read.
use Rattle.std.proofs.Common.{◌≡◌, ℕ, zero, suc, ◌-◌, ◌<◌, ◌≤◌, false, List, [], ◌∷◌, ◌++◌, length, Option, Some, Ok, IsTrue, refl, ap, subst, ◌∙◌, arith, append_assoc, length-append}
use Rattle.std.specs.Char.{is_ascii_digit}
use Rattle.std.specs.List.{list_all}
use Rattle.std.proofs.lemmas.Bool.{lt-ltb, and_parts}
use Rattle.sno_pattern.specs.Identifiers.{is_name_char, is_name}
use Rattle.sno_pattern.specs.NameList.{place_of}
use Rattle.sno_pattern.specs.Tree as tree
use Rattle.sno_pattern.specs.Tree.{Tree}
use Rattle.sno_read.specs.declared.characters.Start.TheVariants as start
use Rattle.sno_read.specs.declared.characters.Following.TheVariants as follows
use Rattle.sno_read.specs.declared.faults.ReadFault.TheVariants as fault
use Rattle.sno_read.specs.declared.keywords.NumberCall.{NumberCall}
use Rattle.sno_read.specs.declared.keywords.SetCall.{SetCall}
use Rattle.sno_read.specs.declared.keywords.Keyword.{Keyword}
use Rattle.sno_read.specs.Keywords.{keyword_of, number_tree, set_tree}
use Rattle.sno_read.specs.Characters.{is_blank, begins, start_of, what_follows, sign_of}
use Rattle.sno_read.specs.Grammar.{AreBlanks, SomeBlanks, IsNumber, IsLiteral, IsVariable, parenthesized, signed_by, IsElement, IsItem, IsConcatenation, IsAlternation}
use Rattle.sno_read.specs.Grammar as grammar
use Rattle.sno_read.specs.Reading.{Env, Read, place, below, cursor_at, reference_at, plain_of, number_call_at, set_call_at, group_at, repetition_at, from_name, from_name_at, quotation_at, element_at, target_by, targets_at, item_at, item_by, items_at, parts_at, concatenation_at, alternation_at, inside}
use Rattle.sno_read.proofs.Sound.{paren_split, signed_split}
use Rattle.sno_read.proofs.Steps.{targets_step, items_step, parts_step}
use Rattle.sno_read.proofs.Reserved.{keyword_none, keyword_name}
use Rattle.sno_read.proofs.Marks.{digit_no_blank, name_starts, named_starts, concatenation_starts, alternation_starts, starts_no_blank, starts_item, blanks_stop, blanks_or, skip_blanks, follows_blanks, follows_closing, letter_begins}
use Rattle.sno_read.proofs.TokensAgain.{literal_again, number_again, name_again, variable_again, opened_again, closed_paren_again, signed_again}
use Rattle.sno_read.proofs.SetsAgain.{SetsAgain}

digits_stop : (c r : List ℕ) → AreBlanks c → begins is_ascii_digit (c ++ (41 ∷ r)) ≡ false
digits_stop c r h = blanks_or is_ascii_digit c (41 ∷ r) refl refl h refl

digits_no_blank : (ds m : List ℕ) (n : ℕ) → IsNumber ds n → begins is_blank (ds ++ m) ≡ false
digits_no_blank [] m n d = absurd (omega (arith, d.some))
digits_no_blank (c ∷ ds) m n d = digit_no_blank c (and_parts (is_ascii_digit c) (list_all is_ascii_digit ds) d.all_digits).0

number_reads : (env : Env) (k : ℕ) (call : NumberCall) (b ds c : List ℕ) (n : ℕ) (r : List ℕ) → AreBlanks b → IsNumber ds n → AreBlanks c → number_call_at env (suc k) call (parenthesized b ds c ++ r) ≡ Ok (number_tree call n, r)
unfolding number_call_at
number_reads env k call b ds c n r bb d cb =
    rw (paren_split b ds c r, opened_again env k b (ds ++ (c ++ (41 ∷ r))) bb (digits_no_blank ds (c ++ (41 ∷ r)) n d), number_again env ds n (c ++ (41 ∷ r)) d (digits_stop c r cb), closed_paren_again env c r cb) refl

-- what begins with a name
named_element : (env : Env) (room : ℕ) (inner : List ℕ → Read Tree) (w m : List ℕ) → IsTrue (is_name w) → element_at env room inner (w ++ m) ≡ from_name_at env room inner (w ++ m)
unfolding element_at
named_element env room inner w m n =
    let s = name_starts w n in
    let e : start_of (w ++ m) ≡ start.Letter = ap (λ l. start_of (l ++ m)) s.3 ∙ letter_begins s.0 (s.2 ++ m) s.1 in
    rw e refl

paren_ends_name : (b x c r : List ℕ) → begins is_name_char (parenthesized b x c ++ r) ≡ false
unfolding is_name_char
paren_ends_name b x c r = refl

below_again : (n i : ℕ) (o : Option ℕ) → o ≡ Some i → i < n → below n o ≡ Some i
below_again n i o e h = rw (e, lt-ltb i n h) refl

pub quoted_starts : (x r : List ℕ) (s : List ℕ) → IsLiteral x s → start_of (x ++ r) ≡ start.Quote
unfolding start_of
quoted_starts x r s l = rw (l.spelled, l.is_quote) refl

-- a call, after its name
called_again : (env : Env) (room : ℕ) (inner : List ℕ → Read Tree) (w p r : List ℕ) (key : Keyword) (t : Tree) → keyword_of w ≡ Some key → begins is_name_char (p ++ r) ≡ false → from_name env room inner (fault.UnknownName (place env (w ++ (p ++ r)))) (w, p ++ r) (Some key) ≡ Ok (t, r) → element_at env room inner ((w ++ p) ++ r) ≡ Ok (t, r)
unfolding from_name_at
called_again env room inner w p r key t k h g =
    let n = keyword_name w key k in
    ap (λ l. element_at env room inner l) (append_assoc w p r) ∙ named_element env room inner w (p ++ r) n ∙ rw (name_again env w (p ++ r) n h, k) g

repeated_again : (env : Env) (room : ℕ) (inner : List ℕ → Read Tree) (m r : List ℕ) (t : Tree) → group_at env room inner m ≡ Ok (t, r) → repetition_at env room inner m ≡ Ok (tree.Arbno t, r)
unfolding repetition_at
repeated_again env room inner m r t h = rw h refl

-- no target is here
abbrev NoTarget : List ℕ → Type 0
NoTarget r = (env : Env) (more : Tree → List ℕ → Read Tree) (t : Tree) → target_by env more t r (what_follows r) ≡ Ok (t, r)

-- no item is here
abbrev NoItem : List ℕ → Type 0
NoItem r = (more : List ℕ → Read Tree) (t : Tree) → item_by more (t, r) (what_follows r) ≡ Ok (t, r)

later_again : (env : Env) (n : ℕ) (u : Tree) (b c v r : List ℕ) (m : ℕ) → m < n → SomeBlanks b → SomeBlanks c → IsVariable env.names v → begins is_name_char r ≡ false → targets_at env n u (b ++ (46 ∷ (c ++ (v ++ r)))) ≡ targets_at env (n - 1) (tree.Cond u v) r
unfolding sign_of
later_again env n u b c v r m l bb cb i h =
    let e : what_follows (b ++ (46 ∷ (c ++ (v ++ r)))) ≡ follows.Dot = follows_blanks b (46 ∷ (c ++ (v ++ r))) bb refl in
    targets_step env n u (b ++ (46 ∷ (c ++ (v ++ r)))) m l ∙ rw (e, signed_again env 46 b c (v ++ r) refl bb cb (starts_no_blank v r (named_starts v i.is_name)), variable_again env v r i h) refl

at_once_again : (env : Env) (n : ℕ) (u : Tree) (b c v r : List ℕ) (m : ℕ) → m < n → SomeBlanks b → SomeBlanks c → IsVariable env.names v → begins is_name_char r ≡ false → targets_at env n u (b ++ (36 ∷ (c ++ (v ++ r)))) ≡ targets_at env (n - 1) (tree.Imm u v) r
unfolding sign_of
at_once_again env n u b c v r m l bb cb i h =
    let e : what_follows (b ++ (36 ∷ (c ++ (v ++ r)))) ≡ follows.Dollar = follows_blanks b (36 ∷ (c ++ (v ++ r))) bb refl in
    targets_step env n u (b ++ (36 ∷ (c ++ (v ++ r)))) m l ∙ rw (e, signed_again env 36 b c (v ++ r) refl bb cb (starts_no_blank v r (named_starts v i.is_name)), variable_again env v r i h) refl

-- what is left after a target is shorter
signed_longer : (sign : ℕ) (b c v r : List ℕ) → suc (length r) ≤ length (b ++ (sign ∷ (c ++ (v ++ r))))
signed_longer sign b c v r = simp length-append (omega arith)

pub blank_ends_name : (b r : List ℕ) → SomeBlanks b → begins is_name_char (b ++ r) ≡ false
unfolding is_name_char
blank_ends_name b r h = blanks_stop is_name_char b r refl refl h

-- what is left after a bar is shorter
bar_longer : (y s c k : List ℕ) → suc (length k) ≤ length (y ++ (s ++ (124 ∷ (c ++ k))))
bar_longer y s c k = simp length-append (omega arith)

module _ (IsSet : List ℕ → List ℕ → Type 0) (env : Env) (sets : SetsAgain IsSet env) where
  -- after a part in parentheses come blanks and the closing parenthesis
  abbrev pub InnerAgain : ℕ → (List ℕ → Read Tree) → Type 0
  InnerAgain room inner = (k : ℕ) → room ≡ suc k → (x : List ℕ) (t : Tree) (c r : List ℕ) → IsAlternation IsSet env.names env.earlier k x t → AreBlanks c → inner (x ++ (c ++ (41 ∷ r))) ≡ Ok (t, c ++ (41 ∷ r))

  set_reads : (k : ℕ) (call : SetCall) (b x s c r : List ℕ) → AreBlanks b → IsSet x s → AreBlanks c → set_call_at env (suc k) call (parenthesized b x c ++ r) ≡ Ok (set_tree call s, r)
  unfolding set_call_at
  set_reads k call b x s c r bb l cb =
      rw (paren_split b x c r, opened_again env k b (x ++ (c ++ (41 ∷ r))) bb (starts_no_blank x (c ++ (41 ∷ r)) (sets.0 x s l)), sets.1 x s c r l cb, closed_paren_again env c r cb) refl

  group_reads : (k : ℕ) (inner : List ℕ → Read Tree) (b x c : List ℕ) (t : Tree) (r : List ℕ) → InnerAgain (suc k) inner → AreBlanks b → IsAlternation IsSet env.names env.earlier k x t → AreBlanks c → group_at env (suc k) inner (parenthesized b x c ++ r) ≡ Ok (t, r)
  unfolding group_at
  group_reads k inner b x c t r again bb a cb =
      rw (paren_split b x c r, opened_again env k b (x ++ (c ++ (41 ∷ r))) bb (starts_no_blank x (c ++ (41 ∷ r)) (alternation_starts IsSet env.names env.earlier k x t a)), again k refl x t c r a cb, closed_paren_again env c r cb) refl

  element_again : (room : ℕ) (x : List ℕ) (t : Tree) → IsElement IsSet env.names env.earlier room x t → (inner : List ℕ → Read Tree) → InnerAgain room inner → (r : List ℕ) → begins is_name_char r ≡ false → element_at env room inner (x ++ r) ≡ Ok (t, r)
  unfolding element_at quotation_at cursor_at reference_at from_name_at plain_of start_of
  element_again room x t (grammar.quoted y s l) inner again r h = rw (quoted_starts y r s l, literal_again env y s r l) refl
  element_again room x t (grammar.cursor v i) inner again r h = rw (variable_again env v r i h) refl
  element_again room x t (grammar.starred w i n e) inner again r h = rw (name_again env w r n h, e) refl
  element_again room x t (grammar.plain w i n k e l) inner again r h =
      named_element env room inner w r n ∙ rw (name_again env w r n h, keyword_none w k, below_again env.earlier i (place_of env.names w) e l) refl
  element_again room x t (grammar.word w it k) inner again r h =
      let n = keyword_name w _ k in
      named_element env room inner w r n ∙ rw (name_again env w r n h, k) refl
  element_again room x t (grammar.counted w b ds c call i e bb d cb) inner again r h =
      called_again env _ inner w (parenthesized b ds c) r _ _ e (paren_ends_name b ds c r) (number_reads env _ call b ds c i r bb d cb)
  element_again room x t (grammar.chosen w b y s c call e bb l cb) inner again r h =
      called_again env _ inner w (parenthesized b y c) r _ _ e (paren_ends_name b y c r) (set_reads _ call b y s c r bb l cb)
  element_again room x t (grammar.repeated w b y c u e bb a cb) inner again r h =
      called_again env _ inner w (parenthesized b y c) r _ _ e (paren_ends_name b y c r) (repeated_again env _ inner (parenthesized b y c ++ r) r u (group_reads _ inner b y c u r again bb a cb))
  element_again room x t (grammar.group b y c u bb a cb) inner again r h = group_reads _ inner b y c u r again bb a cb

  item_again : (room : ℕ) (x : List ℕ) (t : Tree) → IsItem IsSet env.names env.earlier room x t → (inner : List ℕ → Read Tree) → InnerAgain room inner → (r : List ℕ) → begins is_name_char r ≡ false → (n : ℕ) × (length r < n) × (item_at env room inner (x ++ r) ≡ targets_at env n t r)
  unfolding item_at
  item_again room x t (grammar.element y u e) inner again r h = (suc (length r), omega arith, rw (element_again room y u e inner again r h) refl)
  item_again room x t (grammar.later y b c v u i bb cb j) inner again r h =
      let q = item_again room y u i inner again (b ++ (46 ∷ (c ++ (v ++ r)))) (blank_ends_name b _ bb) in
      let l = signed_longer 46 b c v r in (
        q.0 - 1,
        omega (arith, q.1, l),
        ap (λ k. item_at env room inner k) (append_assoc y (signed_by 46 b c v) r ∙ ap (λ k. y ++ k) (signed_split 46 b c v r)) ∙ q.2 ∙ later_again env q.0 u b c v r _ q.1 bb cb j h,
      )
  item_again room x t (grammar.at_once y b c v u i bb cb j) inner again r h =
      let q = item_again room y u i inner again (b ++ (36 ∷ (c ++ (v ++ r)))) (blank_ends_name b _ bb) in
      let l = signed_longer 36 b c v r in (
        q.0 - 1,
        omega (arith, q.1, l),
        ap (λ k. item_at env room inner k) (append_assoc y (signed_by 36 b c v) r ∙ ap (λ k. y ++ k) (signed_split 36 b c v r)) ∙ q.2 ∙ at_once_again env q.0 u b c v r _ q.1 bb cb j h,
      )

  item_alone : (room : ℕ) (x : List ℕ) (t : Tree) → IsItem IsSet env.names env.earlier room x t → (inner : List ℕ → Read Tree) → InnerAgain room inner → (r : List ℕ) → begins is_name_char r ≡ false → NoTarget r → item_at env room inner (x ++ r) ≡ Ok (t, r)
  item_alone room x t i inner again r h e =
      let q = item_again room x t i inner again r h in
      q.2 ∙ targets_step env q.0 t r _ q.1 ∙ e env (targets_at env (q.0 - 1)) t

  concatenation_again : (room : ℕ) (x : List ℕ) (t : Tree) → IsConcatenation IsSet env.names env.earlier room x t → (inner : List ℕ → Read Tree) → InnerAgain room inner → (r : List ℕ) → begins is_name_char r ≡ false → NoTarget r → NoItem r → (n : ℕ) → length (x ++ r) < n → items_at env (item_at env room inner) n (x ++ r) ≡ Ok (t, r)
  concatenation_again room x t (grammar.single y u i) inner again r h a b n l =
      items_step env (item_at env room inner) n (y ++ r) _ l ∙ rw (item_alone room y u i inner again r h a) (b (items_at env (item_at env room inner) (n - 1)) u)
  concatenation_again room x t (grammar.followed y s z u v i bb j) inner again r h a b n l =
      let split : (y ++ (s ++ z)) ++ r ≡ y ++ (s ++ (z ++ r)) = append_assoc y (s ++ z) r ∙ ap (λ k. y ++ k) (append_assoc s z r) in
      let starts = concatenation_starts IsSet env.names env.earlier room z v j in
      let blank = starts_no_blank z r starts in
      let e : what_follows (s ++ (z ++ r)) ≡ follows.Item = follows_blanks s (z ++ r) bb blank ∙ starts_item z r starts in
      let no_target : NoTarget (s ++ (z ++ r)) = (λ env more t. rw e refl) in
      let less : length (z ++ r) < n - 1 = omega (arith, bb.1, simp length-append at (ap length split), l, length-append s (z ++ r), length-append y (s ++ (z ++ r)), ap length split) in
      ap (λ k. items_at env (item_at env room inner) n k) split ∙ items_step env (item_at env room inner) n (y ++ (s ++ (z ++ r))) _ l
      ∙ rw (item_alone room y u i inner again (s ++ (z ++ r)) (blank_ends_name s _ bb) no_target, e, skip_blanks s (z ++ r) bb.0 blank, concatenation_again room z v j inner again r h a b (n - 1) less) refl

  pub alternation_again : (room : ℕ) (x : List ℕ) (t : Tree) → IsAlternation IsSet env.names env.earlier room x t → (inner : List ℕ → Read Tree) → InnerAgain room inner → (r : List ℕ) → begins is_name_char r ≡ false → what_follows r ≡ follows.Nothing → (n : ℕ) → length (x ++ r) < n → parts_at env (concatenation_at env room inner) n (x ++ r) ≡ Ok (t, r)
  unfolding concatenation_at sign_of
  alternation_again room x t (grammar.only y u i) inner again r h e n l =
      parts_step env (concatenation_at env room inner) n (y ++ r) _ l ∙ rw (concatenation_again room y u i inner again r h (λ env more t. rw e refl) (λ more t. rw e refl) (suc (length (y ++ r))) (omega arith), e) refl
  alternation_again room x t (grammar.otherwise y s c z u v i bb cb j) inner again r h e n l =
      let m = s ++ (124 ∷ (c ++ (z ++ r))) in
      let split : (y ++ signed_by 124 s c z) ++ r ≡ y ++ (s ++ (124 ∷ (c ++ (z ++ r)))) = append_assoc y (signed_by 124 s c z) r ∙ ap (λ k. y ++ k) (signed_split 124 s c z r) in
      let blank = starts_no_blank z r (alternation_starts IsSet env.names env.earlier room z v j) in
      let f : what_follows (s ++ (124 ∷ (c ++ (z ++ r)))) ≡ follows.Bar = follows_blanks s (124 ∷ (c ++ (z ++ r))) bb refl in
      let less : length (z ++ r) < n - 1 = omega (arith, l, ap length split, bar_longer y s c (z ++ r)) in
      ap (λ k. parts_at env (concatenation_at env room inner) n k) split ∙ parts_step env (concatenation_at env room inner) n (y ++ (s ++ (124 ∷ (c ++ (z ++ r))))) _ l
      ∙ rw (concatenation_again room y u i inner again m (blank_ends_name s _ bb) (λ env more t. rw f refl) (λ more t. rw f refl) (suc (length (y ++ m))) (omega arith), f, signed_again env 124 s c (z ++ r) refl bb cb blank, alternation_again room z v j inner again r h e (n - 1) less) refl

  -- what is inside parentheses is read
  pub inside_again : (room : ℕ) → InnerAgain room (inside env room)
  unfolding inside alternation_at is_name_char
  inside_again zero k e x t c r a cb = absurd (omega arith)
  inside_again (suc room) k e x t c r a cb =
      let same : k ≡ room = cc in
      let b : IsAlternation IsSet env.names env.earlier room x t = subst (λ j. IsAlternation IsSet env.names env.earlier j x t) same a in
      alternation_again room x t b (inside env room) (inside_again room) (c ++ (41 ∷ r)) (blanks_or is_name_char c (41 ∷ r) refl refl cb refl) (follows_closing c r cb) (suc (length (x ++ (c ++ (41 ∷ r))))) (omega arith)
