-- Each note is honest.
use Rattle.std.proofs.Common.{◌≡◌, ℕ, zero, suc, ◌+◌, ◌-◌, Bool, true, false, cond, List, [], ◌∷◌, ◌++◌, length, nat_lt, slice_get, Option, Some, None, refl, ap, sym, ◌∙◌}
use Rattle.sno_pattern.specs.Tree as tree
use Rattle.sno_pattern.specs.Tree.{Tree}
use Rattle.sno_pattern.specs.Events.{CondList}
use Rattle.sno_primitives.specs.Leaves.{leaf_ends}
use Rattle.sno_trace.specs.declared.events.Trial.{Trial}
use Rattle.std.specs.List.{list_any}
use Rattle.sno_trace.specs.declared.events.Landmark.TheVariants.{Fail, NullRound}
use Rattle.sno_trace.specs.declared.events.Noted.{Noted}
use Rattle.sno_trace.specs.declared.events.Noted.TheVariants.{Try, Set, Mark, End, Halt, Stop}
use Rattle.sno_trace.specs.Noted.{cut, put_before, spread, go_on, assign_later, assign_now, marked, leave_each, leave_last, within_definition, noted_tries, noted_ends, noted_rounds, noted_of, noted_body, noted_definition}
use Rattle.sno_trace.specs.Steps.{is_last}
use Rattle.sno_trace.specs.Promise.{AllTrials, IsHonest, ends_of, NotesAreHonest}
use Rattle.std.proofs.Common.{append_assoc}

module _ (P : Trial → Type 0) where
  all-cut : (l : List Noted) → AllTrials P l → AllTrials P (cut l)
  all-cut [] h = tt
  all-cut (Try x ∷ l) h = (h.0, all-cut l h.1)
  all-cut (Set a ∷ l) h = all-cut l h
  all-cut (Mark d ∷ l) h = all-cut l h
  all-cut (End e a ∷ l) h = all-cut l h
  all-cut (Halt ∷ l) h = tt
  all-cut (Stop ∷ l) h = tt

  all-append : (l m : List Noted) → AllTrials P l → AllTrials P m → AllTrials P (l ++ m)
  all-append [] m h g = g
  all-append (Try x ∷ l) m h g = (h.0, all-append l m h.1 g)
  all-append (Set a ∷ l) m h g = all-append l m h g
  all-append (Mark d ∷ l) m h g = all-append l m h g
  all-append (End e a ∷ l) m h g = all-append l m h g
  all-append (Halt ∷ l) m h g = all-append l m h g
  all-append (Stop ∷ l) m h g = all-append l m h g

  all-put_before : (b : CondList) (l : List Noted) → AllTrials P l → AllTrials P (put_before b l)
  all-put_before b [] h = tt
  all-put_before b (Try x ∷ l) h = (h.0, all-put_before b l h.1)
  all-put_before b (Set a ∷ l) h = all-put_before b l h
  all-put_before b (Mark d ∷ l) h = all-put_before b l h
  all-put_before b (End e a ∷ l) h = all-put_before b l h
  all-put_before b (Halt ∷ l) h = all-put_before b l h
  all-put_before b (Stop ∷ l) h = all-put_before b l h

  all-spread : (f : ℕ → List Noted) → ((e : ℕ) → AllTrials P (f e)) → (l : List Noted) → AllTrials P l → AllTrials P (spread l f)
  all-spread f each [] h = tt
  all-spread f each (Try x ∷ l) h = (h.0, all-spread f each l h.1)
  all-spread f each (Set a ∷ l) h = all-spread f each l h
  all-spread f each (Mark d ∷ l) h = all-spread f each l h
  all-spread f each (End e a ∷ l) h = all-append (put_before a (f e)) (spread l f) (all-put_before a (f e) (each e)) (all-spread f each l h)
  all-spread f each (Halt ∷ l) h = all-spread f each l h
  all-spread f each (Stop ∷ l) h = all-spread f each l h

  all-go_on : (f : ℕ → List Noted) → ((e : ℕ) → AllTrials P (f e)) → (l : List Noted) → AllTrials P l → AllTrials P (go_on l f)
  all-go_on f each l h = all-cut (spread l f) (all-spread f each l h)

  all-later : (v : List ℕ) (c : ℕ) (l : List Noted) → AllTrials P l → AllTrials P (assign_later v c l)
  all-later v c [] h = tt
  all-later v c (Try x ∷ l) h = (h.0, all-later v c l h.1)
  all-later v c (Set a ∷ l) h = all-later v c l h
  all-later v c (Mark d ∷ l) h = all-later v c l h
  all-later v c (End e a ∷ l) h = all-later v c l h
  all-later v c (Halt ∷ l) h = all-later v c l h
  all-later v c (Stop ∷ l) h = all-later v c l h

  all-now : (v : List ℕ) (c : ℕ) (l : List Noted) → AllTrials P l → AllTrials P (assign_now v c l)
  all-now v c [] h = tt
  all-now v c (Try x ∷ l) h = (h.0, all-now v c l h.1)
  all-now v c (Set a ∷ l) h = all-now v c l h
  all-now v c (Mark d ∷ l) h = all-now v c l h
  all-now v c (End e a ∷ l) h = all-now v c l h
  all-now v c (Halt ∷ l) h = all-now v c l h
  all-now v c (Stop ∷ l) h = all-now v c l h

  all-each : (k i c : ℕ) (l : List Noted) → AllTrials P l → AllTrials P (leave_each k i c l)
  all-each k i c [] h = tt
  all-each k i c (Try x ∷ l) h = (h.0, all-each k i c l h.1)
  all-each k i c (Set a ∷ l) h = all-each k i c l h
  all-each k i c (Mark d ∷ l) h = all-each k i c l h
  all-each k i c (End e a ∷ l) h = all-each k i c l h
  all-each k i c (Halt ∷ l) h = all-each k i c l h
  all-each k i c (Stop ∷ l) h = all-each k i c l h

  all-last : (k i c : ℕ) (b : Bool) → AllTrials P (cond b [] (marked k (Fail i) c ∷ []))
  all-last k i c true = tt
  all-last k i c false = tt

  all-within : (k i c : ℕ) (l : List Noted) → AllTrials P l → AllTrials P (within_definition k i c l)
  all-within k i c l h = all-append (leave_each k i c l) (leave_last k i c l) (all-each k i c l h) (all-last k i c (list_any is_last l))

  all-if : (k e : ℕ) (b : Bool) (l : List Noted) → AllTrials P l → AllTrials P (cond b l (marked k NullRound e ∷ []))
  all-if k e true l h = h
  all-if k e false l h = tt

  all-rounds : (k : ℕ) (once : ℕ → List Noted) → ((e : ℕ) → AllTrials P (once e)) → (n c : ℕ) → AllTrials P (noted_rounds k once n c)
  all-rounds k once each zero c = tt
  all-rounds k once each (suc n) c =
      all-go_on (λ e. cond (nat_lt c e) (noted_rounds k once n e) (marked k NullRound e ∷ [])) (λ e. all-if k e (nat_lt c e) (noted_rounds k once n e) (all-rounds k once each n e)) (once c) (each c)

-- the trials that back into a leaf: each shows a later end
honest-further : (t : List ℕ) (k : ℕ) (p : Tree) (c first : ℕ) (between es : List ℕ) → ends_of t p c ≡ first ∷ (between ++ es) → AllTrials (IsHonest t) (noted_tries k true p c es)
honest-further t k p c first between [] is = tt
honest-further t k p c first between (e ∷ es) is =
    ((first, between, es, is), honest-further t k p c first (between ++ e ∷ []) es (is ∙ ap (λ m. first ∷ m) (sym (append_assoc between (e ∷ []) es))))

honest-ends : (t : List ℕ) (k : ℕ) (p : Tree) (c : ℕ) (es : List ℕ) → ends_of t p c ≡ es → AllTrials (IsHonest t) (noted_ends k p c es)
honest-ends t k p c [] is = (is, tt)
honest-ends t k p c (e ∷ es) is = ((es, is), honest-further t k p c e [] es is)

module _ (t : List ℕ) (named : ℕ → ℕ → List Noted) (h : (i c : ℕ) → AllTrials (IsHonest t) (named i c)) (k : ℕ) where
  honest-of : (p : Tree) (c : ℕ) → AllTrials (IsHonest t) (noted_of t named k p c)
  unfolding noted_of
  honest-of (tree.Lit s) c = honest-ends t k (tree.Lit s) c (leaf_ends t (tree.Lit s) c) refl
  honest-of (tree.Len n) c = honest-ends t k (tree.Len n) c (leaf_ends t (tree.Len n) c) refl
  honest-of (tree.Pos n) c = honest-ends t k (tree.Pos n) c (leaf_ends t (tree.Pos n) c) refl
  honest-of (tree.Rpos n) c = honest-ends t k (tree.Rpos n) c (leaf_ends t (tree.Rpos n) c) refl
  honest-of (tree.Tab n) c = honest-ends t k (tree.Tab n) c (leaf_ends t (tree.Tab n) c) refl
  honest-of (tree.Rtab n) c = honest-ends t k (tree.Rtab n) c (leaf_ends t (tree.Rtab n) c) refl
  honest-of (tree.AnyOf s) c = honest-ends t k (tree.AnyOf s) c (leaf_ends t (tree.AnyOf s) c) refl
  honest-of (tree.NoneOf s) c = honest-ends t k (tree.NoneOf s) c (leaf_ends t (tree.NoneOf s) c) refl
  honest-of (tree.Span s) c = honest-ends t k (tree.Span s) c (leaf_ends t (tree.Span s) c) refl
  honest-of (tree.Break s) c = honest-ends t k (tree.Break s) c (leaf_ends t (tree.Break s) c) refl
  honest-of tree.Arb c = honest-ends t k tree.Arb c (leaf_ends t tree.Arb c) refl
  honest-of (tree.Arbno p) c = all-rounds (IsHonest t) k (noted_of t named k p) (honest-of p) (length t - c + 1) c
  honest-of tree.Bal c = honest-ends t k tree.Bal c (leaf_ends t tree.Bal c) refl
  honest-of tree.Rem c = honest-ends t k tree.Rem c (leaf_ends t tree.Rem c) refl
  honest-of tree.Fence c = (([], refl), tt)
  honest-of tree.Abort c = (refl, tt)
  honest-of tree.Fail c = (refl, tt)
  honest-of (tree.At v) c = (([], refl), tt)
  honest-of (tree.Ref i) c = all-within (IsHonest t) k i c (named i c) (h i c)
  honest-of (tree.Seq p q) c = all-go_on (IsHonest t) (noted_of t named k q) (honest-of q) (noted_of t named k p c) (honest-of p c)
  honest-of (tree.Alt p q) c = all-cut (IsHonest t) (noted_of t named k p c ++ noted_of t named k q c) (all-append (IsHonest t) (noted_of t named k p c) (noted_of t named k q c) (honest-of p c) (honest-of q c))
  honest-of (tree.Cond p v) c = all-later (IsHonest t) v c (noted_of t named k p c) (honest-of p c)
  honest-of (tree.Imm p v) c = all-now (IsHonest t) v c (noted_of t named k p c) (honest-of p c)

honest-body : (t : List ℕ) (go : Tree → ℕ → List Noted) → ((p : Tree) (c : ℕ) → AllTrials (IsHonest t) (go p c)) → (body : Option Tree) (c : ℕ) → AllTrials (IsHonest t) (noted_body go body c)
honest-body t go h None c = tt
honest-body t go h (Some body) c = h body c

honest-definition : (t : List ℕ) (bodies : List Tree) (k i c : ℕ) → AllTrials (IsHonest t) (noted_definition t bodies k i c)
unfolding noted_definition
honest-definition t bodies zero i c = tt
honest-definition t bodies (suc k) i c =
    honest-body t (noted_of t (noted_definition t bodies k) k) (honest-of t (noted_definition t bodies k) (honest-definition t bodies k) k) (slice_get bodies i) c

pub notes_honest : NotesAreHonest
notes_honest t bodies k p c = honest-of t (noted_definition t bodies k) (honest-definition t bodies k) k p c
