-- With its notes taken off, a noted list is the list of events.
use Rattle.std.proofs.Common.{◌≡◌, ℕ, zero, suc, ◌+◌, ◌-◌, Bool, true, false, cond, List, [], ◌∷◌, ◌++◌, length, nat_lt, slice_get, Option, Some, None, refl, ap, ◌∙◌}
use Rattle.sno_pattern.specs.Tree as tree
use Rattle.sno_pattern.specs.Tree.{Tree}
use Rattle.sno_pattern.specs.Events as events
use Rattle.sno_pattern.specs.Events.{CondList}
use Rattle.sno_pattern.specs.Results.{ends, further_ends, rounds, results_of, of_body, definition_results, results}
use Rattle.sno_primitives.specs.Leaves.{leaf_ends}
use Rattle.sno_pattern.specs.declared.events.What.TheVariants.{Part}
use Rattle.sno_pattern.specs.declared.events.Event.{Event}
use Rattle.sno_pattern.specs.declared.events.Event.TheVariants as event
use Rattle.std.proofs.lemmas.List.{append-nil}
use Rattle.std.specs.List.{list_any}
use Rattle.sno_trace.specs.declared.events.Landmark.TheVariants.{Fail, NullRound}
use Rattle.sno_trace.specs.declared.events.Noted.{Noted}
use Rattle.sno_trace.specs.declared.events.Noted.TheVariants.{Try, Set, Mark, End, Halt, Stop}
use Rattle.sno_trace.specs.Noted.{erase, cut, put_before, spread, go_on, assign_later, assign_now, marked, leave_each, leave_last, within_definition, noted_tries, noted_ends, noted_rounds, noted_of, noted_body, noted_definition, noted}
use Rattle.sno_trace.specs.Steps.{is_last}

erase-append : (l m : List Noted) → erase (l ++ m) ≡ erase l ++ erase m
erase-append [] m = refl
erase-append (Try x ∷ l) m = ap (λ r. event.Try ∷ r) (erase-append l m)
erase-append (Set a ∷ l) m = ap (λ r. event.Set a ∷ r) (erase-append l m)
erase-append (Mark d ∷ l) m = erase-append l m
erase-append (End e a ∷ l) m = ap (λ r. event.End e a ∷ r) (erase-append l m)
erase-append (Halt ∷ l) m = ap (λ r. event.Halt ∷ r) (erase-append l m)
erase-append (Stop ∷ l) m = ap (λ r. event.Halt ∷ r) (erase-append l m)

erase-cut : (l : List Noted) → erase (cut l) ≡ events.cut (erase l)
erase-cut [] = refl
erase-cut (Try x ∷ l) = ap (λ r. event.Try ∷ r) (erase-cut l)
erase-cut (Set a ∷ l) = ap (λ r. event.Set a ∷ r) (erase-cut l)
erase-cut (Mark d ∷ l) = erase-cut l
erase-cut (End e a ∷ l) = ap (λ r. event.End e a ∷ r) (erase-cut l)
erase-cut (Halt ∷ l) = refl
erase-cut (Stop ∷ l) = refl

erase-put_before : (a : CondList) (l : List Noted) → erase (put_before a l) ≡ events.put_before a (erase l)
erase-put_before a [] = refl
erase-put_before a (Try x ∷ l) = ap (λ r. event.Try ∷ r) (erase-put_before a l)
erase-put_before a (Set x ∷ l) = ap (λ r. event.Set x ∷ r) (erase-put_before a l)
erase-put_before a (Mark d ∷ l) = erase-put_before a l
erase-put_before a (End e b ∷ l) = ap (λ r. event.End e (a ++ b) ∷ r) (erase-put_before a l)
erase-put_before a (Halt ∷ l) = ap (λ r. event.Halt ∷ r) (erase-put_before a l)
erase-put_before a (Stop ∷ l) = ap (λ r. event.Halt ∷ r) (erase-put_before a l)

erase-spread : (f : ℕ → List Noted) (g : ℕ → List Event) → ((e : ℕ) → erase (f e) ≡ g e) → (l : List Noted) → erase (spread l f) ≡ events.spread (erase l) g
erase-spread f g h [] = refl
erase-spread f g h (Try x ∷ l) = ap (λ r. event.Try ∷ r) (erase-spread f g h l)
erase-spread f g h (Set x ∷ l) = ap (λ r. event.Set x ∷ r) (erase-spread f g h l)
erase-spread f g h (Mark d ∷ l) = erase-spread f g h l
erase-spread f g h (End e a ∷ l) =
    erase-append (put_before a (f e)) (spread l f)
    ∙ ap (λ r. r ++ erase (spread l f)) (erase-put_before a (f e) ∙ ap (events.put_before a) (h e))
    ∙ ap (λ r. events.put_before a (g e) ++ r) (erase-spread f g h l)
erase-spread f g h (Halt ∷ l) = ap (λ r. event.Halt ∷ r) (erase-spread f g h l)
erase-spread f g h (Stop ∷ l) = ap (λ r. event.Halt ∷ r) (erase-spread f g h l)

erase-go_on : (f : ℕ → List Noted) (g : ℕ → List Event) → ((e : ℕ) → erase (f e) ≡ g e) → (l : List Noted) (m : List Event) → erase l ≡ m
    → erase (go_on l f) ≡ events.go_on m g
erase-go_on f g h l m same = erase-cut (spread l f) ∙ ap events.cut (erase-spread f g h l ∙ ap (λ r. events.spread r g) same)

erase-later : (v : List ℕ) (c : ℕ) (l : List Noted) → erase (assign_later v c l) ≡ events.assign_later v c (erase l)
erase-later v c [] = refl
erase-later v c (Try x ∷ l) = ap (λ r. event.Try ∷ r) (erase-later v c l)
erase-later v c (Set x ∷ l) = ap (λ r. event.Set x ∷ r) (erase-later v c l)
erase-later v c (Mark d ∷ l) = erase-later v c l
erase-later v c (End e a ∷ l) = ap (λ r. event.End e (a ++ (v, c, e) ∷ []) ∷ r) (erase-later v c l)
erase-later v c (Halt ∷ l) = ap (λ r. event.Halt ∷ r) (erase-later v c l)
erase-later v c (Stop ∷ l) = ap (λ r. event.Halt ∷ r) (erase-later v c l)

erase-now : (v : List ℕ) (c : ℕ) (l : List Noted) → erase (assign_now v c l) ≡ events.assign_now v c (erase l)
erase-now v c [] = refl
erase-now v c (Try x ∷ l) = ap (λ r. event.Try ∷ r) (erase-now v c l)
erase-now v c (Set x ∷ l) = ap (λ r. event.Set x ∷ r) (erase-now v c l)
erase-now v c (Mark d ∷ l) = erase-now v c l
erase-now v c (End e a ∷ l) = ap (λ r. event.Set (record { name = v; what = Part c e }) ∷ event.End e a ∷ r) (erase-now v c l)
erase-now v c (Halt ∷ l) = ap (λ r. event.Halt ∷ r) (erase-now v c l)
erase-now v c (Stop ∷ l) = ap (λ r. event.Halt ∷ r) (erase-now v c l)

erase-each : (k i c : ℕ) (l : List Noted) → erase (leave_each k i c l) ≡ erase l
erase-each k i c [] = refl
erase-each k i c (Try x ∷ l) = ap (λ r. event.Try ∷ r) (erase-each k i c l)
erase-each k i c (Set x ∷ l) = ap (λ r. event.Set x ∷ r) (erase-each k i c l)
erase-each k i c (Mark d ∷ l) = erase-each k i c l
erase-each k i c (End e a ∷ l) = ap (λ r. event.End e a ∷ r) (erase-each k i c l)
erase-each k i c (Halt ∷ l) = ap (λ r. event.Halt ∷ r) (erase-each k i c l)
erase-each k i c (Stop ∷ l) = ap (λ r. event.Halt ∷ r) (erase-each k i c l)

erase-last : (k i c : ℕ) (b : Bool) → erase (cond b [] (marked k (Fail i) c ∷ [])) ≡ []
erase-last k i c true = refl
erase-last k i c false = refl

erase-within : (k i c : ℕ) (l : List Noted) → erase (within_definition k i c l) ≡ erase l
erase-within k i c l =
    erase-append (leave_each k i c l) (leave_last k i c l)
    ∙ ap (λ r. r ++ erase (leave_last k i c l)) (erase-each k i c l)
    ∙ ap (λ r. erase l ++ r) (erase-last k i c (list_any is_last l))
    ∙ append-nil (erase l)

erase-tries : (k : ℕ) (again : Bool) (p : Tree) (c : ℕ) (es : List ℕ) → erase (noted_tries k again p c es) ≡ further_ends es
erase-tries k again p c [] = refl
erase-tries k again p c (e ∷ es) = ap (λ r. event.Try ∷ event.End e [] ∷ r) (erase-tries k true p c es)

erase-ends : (k : ℕ) (p : Tree) (c : ℕ) (es : List ℕ) → erase (noted_ends k p c es) ≡ ends es
erase-ends k p c [] = refl
erase-ends k p c (e ∷ es) = ap (λ r. event.Try ∷ event.End e [] ∷ r) (erase-tries k true p c es)

erase-if : (k e : ℕ) (b : Bool) (l : List Noted) (m : List Event) → erase l ≡ m → erase (cond b l (marked k NullRound e ∷ [])) ≡ cond b m []
erase-if k e true l m h = h
erase-if k e false l m h = refl

erase-rounds : (k : ℕ) (f : ℕ → List Noted) (g : ℕ → List Event) → ((e : ℕ) → erase (f e) ≡ g e) → (n c : ℕ) → erase (noted_rounds k f n c) ≡ rounds g n c
erase-rounds k f g h zero c = refl
erase-rounds k f g h (suc n) c =
    ap (λ r. event.End c [] ∷ r)
    (erase-go_on (λ e. cond (nat_lt c e) (noted_rounds k f n e) (marked k NullRound e ∷ [])) (λ e. cond (nat_lt c e) (rounds g n e) [])
    (λ e. erase-if k e (nat_lt c e) (noted_rounds k f n e) (rounds g n e) (erase-rounds k f g h n e)) (f c) (g c) (h c))

module _ (t : List ℕ) (named : ℕ → ℕ → List Noted) (known : ℕ → ℕ → List Event) (h : (i c : ℕ) → erase (named i c) ≡ known i c) where
  pub erase-of : (k : ℕ) (p : Tree) (c : ℕ) → erase (noted_of t named k p c) ≡ results_of t known p c
  unfolding noted_of results_of
  erase-of k (tree.Lit s) c = erase-ends k (tree.Lit s) c (leaf_ends t (tree.Lit s) c)
  erase-of k (tree.Len n) c = erase-ends k (tree.Len n) c (leaf_ends t (tree.Len n) c)
  erase-of k (tree.Pos n) c = erase-ends k (tree.Pos n) c (leaf_ends t (tree.Pos n) c)
  erase-of k (tree.Rpos n) c = erase-ends k (tree.Rpos n) c (leaf_ends t (tree.Rpos n) c)
  erase-of k (tree.Tab n) c = erase-ends k (tree.Tab n) c (leaf_ends t (tree.Tab n) c)
  erase-of k (tree.Rtab n) c = erase-ends k (tree.Rtab n) c (leaf_ends t (tree.Rtab n) c)
  erase-of k (tree.AnyOf s) c = erase-ends k (tree.AnyOf s) c (leaf_ends t (tree.AnyOf s) c)
  erase-of k (tree.NoneOf s) c = erase-ends k (tree.NoneOf s) c (leaf_ends t (tree.NoneOf s) c)
  erase-of k (tree.Span s) c = erase-ends k (tree.Span s) c (leaf_ends t (tree.Span s) c)
  erase-of k (tree.Break s) c = erase-ends k (tree.Break s) c (leaf_ends t (tree.Break s) c)
  erase-of k tree.Arb c = erase-ends k tree.Arb c (leaf_ends t tree.Arb c)
  erase-of k (tree.Arbno p) c = erase-rounds k (noted_of t named k p) (results_of t known p) (erase-of k p) (length t - c + 1) c
  erase-of k tree.Bal c = erase-ends k tree.Bal c (leaf_ends t tree.Bal c)
  erase-of k tree.Rem c = erase-ends k tree.Rem c (leaf_ends t tree.Rem c)
  erase-of k tree.Fence c = refl
  erase-of k tree.Abort c = refl
  erase-of k tree.Fail c = refl
  erase-of k (tree.At v) c = refl
  erase-of k (tree.Ref i) c = erase-within k i c (named i c) ∙ h i c
  erase-of k (tree.Seq p q) c = erase-go_on (noted_of t named k q) (results_of t known q) (erase-of k q) (noted_of t named k p c) (results_of t known p c) (erase-of k p c)
  erase-of k (tree.Alt p q) c =
      erase-cut (noted_of t named k p c ++ noted_of t named k q c)
      ∙ ap events.cut (erase-append (noted_of t named k p c) (noted_of t named k q c) ∙ ap (λ r. r ++ erase (noted_of t named k q c)) (erase-of k p c) ∙ ap (λ r. results_of t known p c ++ r) (erase-of k q c))
  erase-of k (tree.Cond p v) c = erase-later v c (noted_of t named k p c) ∙ ap (events.assign_later v c) (erase-of k p c)
  erase-of k (tree.Imm p v) c = erase-now v c (noted_of t named k p c) ∙ ap (events.assign_now v c) (erase-of k p c)

erase-body : (go : Tree → ℕ → List Noted) (on : Tree → ℕ → List Event) → ((p : Tree) (c : ℕ) → erase (go p c) ≡ on p c) → (body : Option Tree) (c : ℕ) → erase (noted_body go body c) ≡ of_body on body c
erase-body go on h None c = refl
erase-body go on h (Some body) c = h body c

erase-definition : (t : List ℕ) (bodies : List Tree) (k i c : ℕ) → erase (noted_definition t bodies k i c) ≡ definition_results t bodies k i c
unfolding noted_definition definition_results
erase-definition t bodies zero i c = refl
erase-definition t bodies (suc k) i c =
    erase-body (noted_of t (noted_definition t bodies k) k) (results_of t (definition_results t bodies k))
    (erase-of t (noted_definition t bodies k) (definition_results t bodies k) (erase-definition t bodies k) k) (slice_get bodies i) c

pub notes_off : (t : List ℕ) (bodies : List Tree) (k : ℕ) (p : Tree) (c : ℕ) → erase (noted t bodies k p c) ≡ results t bodies k p c
notes_off t bodies k p c = erase-of t (noted_definition t bodies k) (definition_results t bodies k) (erase-definition t bodies k) k p c
