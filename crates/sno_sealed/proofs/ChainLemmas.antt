-- A chain of sums with one line more.
use Rattle.std.proofs.Common.{take, ◌≡◌, refl, sym, ◌∙◌, ap, arith, ℕ, zero, suc, ◌+◌, ◌<◌, Bool, false, List, [], ◌∷◌, ◌++◌, append_assoc, length, length-append, subst}
use Rattle.std.proofs.lemmas.List.{append-nil}
use Rattle.sno_sealed.specs.declared.chain.Chain.{Chain}
use Rattle.sno_sealed.specs.Seals.{sealed_line, sum_after, sum_of}
use Rattle.sno_sealed.specs.Batches.{sealed_lines, sealed_sum}
use Rattle.sno_sealed.specs.Chains.{AreSealed, ArePlain, IsChain, IsSealedBy, looks_sealed, plain_sum, start}

pub sealed_push : (before count : ℕ) (lines payloads : List (List ℕ)) (after : ℕ) (line payload : List ℕ) (sum : ℕ)
    → AreSealed before count lines payloads after → IsSealedBy after (count + length lines + 1) line payload sum
    → AreSealed before count (lines ++ line ∷ []) (payloads ++ payload ∷ []) sum
sealed_push before count [] [] after line payload sum are is =
    let e : count + length {A = List ℕ} [] + 1 ≡ count + 1 = omega arith in
    (sum, subst (λ (b : ℕ). IsSealedBy b (count + 1) line payload sum) (sym are) (subst (λ (n : ℕ). IsSealedBy after n line payload sum) e is), refl)
sealed_push before count [] (p ∷ ps) after line payload sum are is = absurd are
sealed_push before count (l ∷ ls) [] after line payload sum are is = absurd are
sealed_push before count (l ∷ ls) (p ∷ ps) after line payload sum are is =
    let e : count + suc (length ls) + 1 ≡ (count + 1) + length ls + 1 = omega arith in
    (are.0, are.1, sealed_push are.0 (count + 1) ls ps after line payload sum are.2 (subst (λ (n : ℕ). IsSealedBy after n line payload sum) e is))

pub plain_push : (lines : List (List ℕ)) (line : List ℕ) → ArePlain lines → looks_sealed line ≡ false → ArePlain (lines ++ line ∷ [])
plain_push [] line are is = (is, tt)
plain_push (l ∷ ls) line are is = (are.0, plain_push ls line are.1 is)

pub sum_push : (before : ℕ) (lines : List (List ℕ)) (line : List ℕ) → plain_sum before (lines ++ line ∷ []) ≡ sum_after (plain_sum before lines) line
sum_push before [] line = refl
sum_push before (l ∷ ls) line = sum_push (sum_after before l) ls line

pub start_is : IsChain [] [] start
start_is = record { plains = []; sealed = []; opened = []; lines_are = refl; payloads_are = refl; none = tt; sums = refl; plain = refl; count = refl }

pub takes_sealed : (lines payloads : List (List ℕ)) (old new : Chain) (line payload : List ℕ) → IsChain lines payloads old
    → IsSealedBy old.sum (old.lines + 1) line payload new.sum → new.lines ≡ old.lines + 1 → new.plain ≡ old.plain
    → IsChain (lines ++ line ∷ []) (payloads ++ payload ∷ []) new
takes_sealed lines payloads old new line payload c is more same =
    let n : old.lines + 1 ≡ length c.plains + length c.sealed + 1 = omega (arith, c.count, ap length c.lines_are, length-append c.plains c.sealed) in
    record {
      plains = c.plains;
      sealed = c.sealed ++ line ∷ [];
      opened = c.opened ++ payload ∷ [];
      lines_are = ap (λ (ls : List (List ℕ)). ls ++ line ∷ []) c.lines_are ∙ append_assoc c.plains c.sealed (line ∷ []);
      payloads_are = ap (λ (ls : List (List ℕ)). ls ++ payload ∷ []) c.payloads_are ∙ append_assoc c.plains c.opened (payload ∷ []);
      none = c.none;
      sums = sealed_push (plain_sum 0 c.plains) (length c.plains) c.sealed c.opened old.sum line payload new.sum c.sums (subst (λ (k : ℕ). IsSealedBy old.sum k line payload new.sum) n is);
      plain = c.plain ∙ sym same;
      count = length-append lines (line ∷ []) ∙ ap (λ (k : ℕ). k + 1) c.count ∙ sym more;
    }

nothing_sealed : (before count : ℕ) (lines payloads : List (List ℕ)) (after : ℕ) → AreSealed before count lines payloads after → length lines ≡ 0
    → (lines ≡ []) × (payloads ≡ []) × (before ≡ after)
nothing_sealed before count [] [] after are none = (refl, refl, are)
nothing_sealed before count [] (p ∷ ps) after are none = absurd are
nothing_sealed before count (l ∷ ls) ps after are none = absurd (omega (arith, none))

pub takes_plain : (lines payloads : List (List ℕ)) (old new : Chain) (line : List ℕ) → IsChain lines payloads old → old.lines ≡ old.plain
    → looks_sealed line ≡ false → new.sum ≡ sum_after old.sum line → new.lines ≡ old.lines + 1 → new.plain ≡ old.plain + 1
    → IsChain (lines ++ line ∷ []) (payloads ++ line ∷ []) new
takes_plain lines payloads old new line c none is sum more plain =
    let few : length c.sealed ≡ 0 = omega (arith, none, c.plain, c.count, ap length c.lines_are, length-append c.plains c.sealed) in
    let n = nothing_sealed (plain_sum 0 c.plains) (length c.plains) c.sealed c.opened old.sum c.sums few in
    record {
      plains = c.plains ++ line ∷ [];
      sealed = [];
      opened = [];
      lines_are = ap (λ (ls : List (List ℕ)). ls ++ line ∷ []) (c.lines_are ∙ ap (λ (ls : List (List ℕ)). c.plains ++ ls) n.0 ∙ append-nil c.plains) ∙ sym (append-nil (c.plains ++ line ∷ []));
      payloads_are = ap (λ (ls : List (List ℕ)). ls ++ line ∷ []) (c.payloads_are ∙ ap (λ (ls : List (List ℕ)). c.plains ++ ls) n.1 ∙ append-nil c.plains) ∙ sym (append-nil (c.plains ++ line ∷ []));
      none = plain_push c.plains line c.none is;
      sums = sum_push 0 c.plains line ∙ ap (λ (s : ℕ). sum_after s line) n.2 ∙ sym sum;
      plain = length-append c.plains (line ∷ []) ∙ ap (λ (k : ℕ). k + 1) c.plain ∙ sym plain;
      count = length-append lines (line ∷ []) ∙ ap (λ (k : ℕ). k + 1) c.count ∙ sym more;
    }

-- ---- lines that are sealed together

pub first_sealed : (before count : ℕ) (first last : List ℕ) (k : ℕ) (news : List (List ℕ))
    → take k (sealed_lines before count first last news) ≡ sealed_lines before count first last (take k news)
first_sealed before count first last zero news = refl
first_sealed before count first last (suc k) [] = refl
first_sealed before count first last (suc k) (p ∷ news) =
    ap (λ (ls : List (List ℕ)). sealed_line before (count + 1) first last p ∷ ls) (first_sealed (sum_of before (count + 1) first last p) (count + 1) first last k news)

pub same_count : (before count : ℕ) (first last : List ℕ) (news : List (List ℕ)) → length (sealed_lines before count first last news) ≡ length news
same_count before count first last [] = refl
same_count before count first last (p ∷ news) = ap suc (same_count (sum_of before (count + 1) first last p) (count + 1) first last news)

pub lines_more : (lines payloads : List (List ℕ)) (ch : Chain) (first last : List ℕ) (news : List (List ℕ)) → IsChain lines payloads ch
    → IsChain (lines ++ sealed_lines ch.sum ch.lines first last news) (payloads ++ news)
    (record { sum = sealed_sum ch.sum ch.lines first last news; lines = ch.lines + length news; plain = ch.plain })
lines_more lines payloads ch first last [] is = record {
  plains = is.plains;
  sealed = is.sealed;
  opened = is.opened;
  lines_are = append-nil lines ∙ is.lines_are;
  payloads_are = append-nil payloads ∙ is.payloads_are;
  none = is.none;
  sums = is.sums;
  plain = is.plain;
  count = let e : ch.lines ≡ ch.lines + 0 = omega arith in ap length (append-nil lines) ∙ is.count ∙ e;
}
lines_more lines payloads ch first last (p ∷ news) is =
    let line = sealed_line ch.sum (ch.lines + 1) first last p in
    let mid : Chain = record { sum = sum_of ch.sum (ch.lines + 1) first last p; lines = ch.lines + 1; plain = ch.plain } in
    let one = takes_sealed lines payloads ch mid line p is (record { first = first; last = last; is = refl; own = refl }) refl refl in
    let more = lines_more (lines ++ line ∷ []) (payloads ++ p ∷ []) mid first last news one in
    let later = sealed_lines mid.sum mid.lines first last news in
    let end : ℕ → Chain = λ (n : ℕ). record { sum = sealed_sum mid.sum mid.lines first last news; lines = n; plain = ch.plain } in
    let e : (ch.lines + 1) + length news ≡ ch.lines + suc (length news) = omega arith in
    subst (λ (n : ℕ). IsChain (lines ++ line ∷ later) (payloads ++ p ∷ news) (end n)) e
    (subst (λ (ls : List (List ℕ)). IsChain ls (payloads ++ p ∷ news) (end ((ch.lines + 1) + length news))) (append_assoc lines (line ∷ []) later)
    (subst (λ (ps : List (List ℕ)). IsChain ((lines ++ line ∷ []) ++ later) ps (end ((ch.lines + 1) + length news))) (append_assoc payloads (p ∷ []) news) more))
