-- Bytes have only one result.
use Rattle.std.proofs.Common.{◌≡◌, ℕ, List, [], ◌∷◌, Result, Ok, Err, false, refl, sym, ap, subst, ◌∙◌, inl, inr, arith}
use Rattle.std.proofs.lemmas.Bool.{cases_lt}
use Rattle.serde_json.specs.Data.{Data}
use Rattle.sno_pattern.specs.Tree.{Tree}
use Rattle.sno_pattern.specs.Definitions.{Definitions}
use Rattle.sno_pattern.specs.Guard.{Chain}
use Rattle.sno_pattern.specs.Admission.{IsWay, IsFirstCycle}
use Rattle.sno_pattern.proofs.Cycles.{not_guarded}
use Rattle.sno_document.specs.Shape.{Rows, rows_of}
use Rattle.sno_document.specs.Document.{Document, IsAdmitted, IsDocument, value_in, definitions_of, document_with}
use Rattle.sno_document.specs.declared.faults.DocumentFault.{DocumentFault}
use Rattle.sno_document.specs.declared.modes.Mode.{Mode}

more_way : (bodies : List Tree) (i x : ℕ) (rest : List ℕ) (j : ℕ) → Chain bodies i x → IsWay bodies x rest j → Chain bodies i j
more_way bodies i x [] j c w = Chain.more c w
more_way bodies i x (y ∷ rest) j c w = more_way bodies i y rest j (Chain.more c w.0) w.1

way_chain : (bodies : List Tree) (i : ℕ) (rest : List ℕ) (j : ℕ) → IsWay bodies i rest j → Chain bodies i j
way_chain bodies i [] j w = Chain.one w
way_chain bodies i (x ∷ rest) j w = more_way bodies i x rest j (Chain.one w.0) w.1

-- there is only one first definition on a cycle
first_same : (bodies : List Tree) (i : ℕ) (others : List ℕ) (k : ℕ) (more : List ℕ) → IsFirstCycle bodies (i ∷ others) → IsFirstCycle bodies (k ∷ more) → i ≡ k
first_same bodies i others k more h g =
    elim (cases_lt h.0 g.0) [
      | inl below ↦ absurd (g.2 h.0 below (way_chain bodies h.0 others h.0 h.1.1))
      | inr above ↦ elim (cases_lt g.0 h.0) [
        | inl below ↦ absurd (h.2 g.0 below (way_chain bodies g.0 more g.0 g.1.1))
        | inr under ↦ (let same : h.0 ≡ g.0 = omega arith in h.1.0 ∙ same ∙ sym g.1.0)
      ]
    ]

admitted_once : (rules : Definitions) (r s : Result Definitions DocumentFault) → IsAdmitted rules r → IsAdmitted rules s → r ≡ s
admitted_once rules _ _ (IsAdmitted.guarded h) (IsAdmitted.guarded g) = refl
admitted_once rules _ _ (IsAdmitted.guarded h) (IsAdmitted.cycle i others c is) = absurd (not_guarded rules.bodies (i ∷ others) c h)
admitted_once rules _ _ (IsAdmitted.cycle i others c is) (IsAdmitted.guarded g) = absurd (not_guarded rules.bodies (i ∷ others) c g)
admitted_once rules _ _ (IsAdmitted.cycle i others c is) (IsAdmitted.cycle k more b it) = let same : i ≡ k = first_same rules.bodies i others k more c b in cc

module _ (bytes : List ℕ) (d e : Data) (a : value_in bytes ≡ Ok d) (b : value_in bytes ≡ Ok e) where
  same_value : d ≡ e
  same_value = cc

  module _ (rows more : Rows) (p : rows_of d ≡ Ok rows) (q : rows_of e ≡ Ok more) where
    same_rows : rows ≡ more
    same_rows = let same : d ≡ e = same_value in cc

    same_definitions : definitions_of false rows.patterns ≡ definitions_of false more.patterns
    same_definitions = ap (λ (r : Rows). definitions_of false r.patterns) same_rows

-- bytes represent only one document or have only one first fault
pub one_result : (mode : Mode) (bytes : List ℕ) (r s : Result Document DocumentFault) → IsDocument mode bytes r → IsDocument mode bytes s → r ≡ s
one_result mode bytes _ _ (IsDocument.no_value h) (IsDocument.no_value g) = cc
one_result mode bytes _ _ (IsDocument.no_value h) (IsDocument.no_rows e b q) = cc
one_result mode bytes _ _ (IsDocument.no_value h) (IsDocument.no_definitions e more b q y) = cc
one_result mode bytes _ _ (IsDocument.no_value h) (IsDocument.not_admitted e more rules b q y z) = cc
one_result mode bytes _ _ (IsDocument.no_value h) (IsDocument.whole e more rules b q y z w) = cc
one_result mode bytes _ _ (IsDocument.no_rows d a p) (IsDocument.no_value g) = cc
one_result mode bytes _ _ (IsDocument.no_rows d a p) (IsDocument.no_rows e b q) = let v : d ≡ e = same_value bytes d e a b in cc
one_result mode bytes _ _ (IsDocument.no_rows d a p) (IsDocument.no_definitions e more b q y) = let v : d ≡ e = same_value bytes d e a b in cc
one_result mode bytes _ _ (IsDocument.no_rows d a p) (IsDocument.not_admitted e more rules b q y z) = let v : d ≡ e = same_value bytes d e a b in cc
one_result mode bytes _ _ (IsDocument.no_rows d a p) (IsDocument.whole e more rules b q y z w) = let v : d ≡ e = same_value bytes d e a b in cc
one_result mode bytes _ _ (IsDocument.no_definitions d rows a p x) (IsDocument.no_value g) = cc
one_result mode bytes _ _ (IsDocument.no_definitions d rows a p x) (IsDocument.no_rows e b q) = let v : d ≡ e = same_value bytes d e a b in cc
one_result mode bytes _ _ (IsDocument.no_definitions d rows a p x) (IsDocument.no_definitions e more b q y) =
    let v = same_definitions bytes d e a b rows more p q in cc
one_result mode bytes _ _ (IsDocument.no_definitions d rows a p x) (IsDocument.not_admitted e more rules b q y z) =
    let v = same_definitions bytes d e a b rows more p q in cc
one_result mode bytes _ _ (IsDocument.no_definitions d rows a p x) (IsDocument.whole e more rules b q y z w) =
    let v = same_definitions bytes d e a b rows more p q in cc
one_result mode bytes _ _ (IsDocument.not_admitted d rows rules a p x u) (IsDocument.no_value g) = cc
one_result mode bytes _ _ (IsDocument.not_admitted d rows rules a p x u) (IsDocument.no_rows e b q) = let v : d ≡ e = same_value bytes d e a b in cc
one_result mode bytes _ _ (IsDocument.not_admitted d rows rules a p x u) (IsDocument.no_definitions e more b q y) =
    let v = same_definitions bytes d e a b rows more p q in cc
one_result mode bytes _ _ (IsDocument.not_admitted {e = f} d rows rules a p x u) (IsDocument.not_admitted {e = g} e more others b q y z) =
    let v = same_definitions bytes d e a b rows more p q in
    let same : others ≡ rules = cc in
    let once = admitted_once rules (Err f) (Err g) u (subst (λ k. IsAdmitted k (Err g)) same z) in cc
one_result mode bytes _ _ (IsDocument.not_admitted {e = f} d rows rules a p x u) (IsDocument.whole e more others b q y z w) =
    let v = same_definitions bytes d e a b rows more p q in
    let same : others ≡ rules = cc in
    let once = admitted_once rules (Err f) (Ok rules) u (subst (λ k. IsAdmitted k (Ok k)) same z) in cc
one_result mode bytes _ _ (IsDocument.whole d rows rules a p x u t) (IsDocument.no_value g) = cc
one_result mode bytes _ _ (IsDocument.whole d rows rules a p x u t) (IsDocument.no_rows e b q) = let v : d ≡ e = same_value bytes d e a b in cc
one_result mode bytes _ _ (IsDocument.whole d rows rules a p x u t) (IsDocument.no_definitions e more b q y) =
    let v = same_definitions bytes d e a b rows more p q in cc
one_result mode bytes _ _ (IsDocument.whole d rows rules a p x u t) (IsDocument.not_admitted {e = g} e more others b q y z) =
    let v = same_definitions bytes d e a b rows more p q in
    let same : others ≡ rules = cc in
    let once = admitted_once rules (Ok rules) (Err g) u (subst (λ k. IsAdmitted k (Err g)) same z) in cc
one_result mode bytes _ _ (IsDocument.whole d rows rules a p x u t) (IsDocument.whole e more others b q y z w) =
    let v = same_definitions bytes d e a b rows more p q in
    let same : rules ≡ others = cc in
    let ways : rows ≡ more = same_rows bytes d e a b rows more p q in
    sym t ∙ (λ i. document_with (same i) mode (ways i)) ∙ w
