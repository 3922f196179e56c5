-- The head of each kind of leaf.
use Rattle.std.proofs.Common.{◌≡◌, ℕ, List, ap, inl, inr, refl, subst, sym, ◌∙◌, slice_get}
use Rattle.sno_pattern.specs.Tree.{Tree, tree_of}
use Rattle.sno_machine.specs.Beginnings.{IsHeadOf}
use Rattle.sno_machine.specs.declared.starts.heads.Head.{Head}
use Rattle.sno_machine.proofs.HeadLaws.{literal_begins, any_begin, none_begin, span_begins}
use Rattle.sno_machine.proofs.starts.heads.head_of.Goals as goal

-- the head of a leaf is that of the pattern that is this leaf
of_leaf : (known : List Tree) (depth : ℕ) (leaf p : Tree) (h : Head) → p ≡ leaf → IsHeadOf known depth leaf h → IsHeadOf known depth p h
of_leaf known depth leaf p h is begins = subst (λ z. IsHeadOf known depth z h) (sym is) begins

pub returns-in-Some : goal.returns-in-Some
returns-in-Some c = λ known depth.
    of_leaf known depth _ _ _ (ap tree_of c.in-Lit.is)
    (literal_begins known depth c.in-Lit.literal c.in-Some.byte (c.in-Some.ensures ∙ ap (λ z. slice_get z 0) c.bytes.ensures.value))

pub returns-in-Some-only_byte : goal.returns-in-Some-only_byte
returns-in-Some-only_byte c = λ known depth.
    of_leaf known depth _ _ _ (ap tree_of c.in-Bytes.is)
    (literal_begins known depth c.in-Bytes.literal c.in-Some-only_byte.byte (c.in-Some-only_byte.ensures ∙ ap (λ z. slice_get z 0) c.bytes-in-Bytes.ensures.value))

pub returns-in-AnyOf : goal.returns-in-AnyOf
returns-in-AnyOf c = λ known depth. elim c.in-AnyOf.is [
  | inl is ↦ of_leaf known depth _ _ _ (ap tree_of is) (any_begin known depth c.in-AnyOf.class _ (λ x. refl))
  | inr is ↦ of_leaf known depth _ _ _ (ap tree_of is) (span_begins known depth c.in-AnyOf.class _ (λ x. refl))
]

pub returns-in-NoneOf : goal.returns-in-NoneOf
returns-in-NoneOf c = λ known depth. of_leaf known depth _ _ _ (ap tree_of c.in-NoneOf.is) (none_begin known depth c.in-NoneOf.class _ (λ x. refl))
