-- The parts of a sealed line, one after the other.
use Rattle.std.proofs.Common.{◌≡◌, sym, ◌∙◌, ap, ℕ, List, [], ◌∷◌, ◌++◌}
use Rattle.sno_sealed.specs.Seals.{closes, ended, hex, own_sum, sealed_line, sum_of, sum_key, summed}
use Rattle.sno_sealed.proofs.SealLemmas.{four_parts}
use Rattle.sno_sealed.proofs.seals.seal.Goals as goal

pub returns-clause-line : goal.returns-clause-line
unfolding sealed_line
returns-clause-line c =
    let s = summed c.args.number c.args.first.now c.args.last.now c.args.payload.now in
    let e = ended c.args.payload.now in
    let a : c.put_summed.new.out.items ≡ s = c.in_ok-put_summed.ensures ∙ ap (λ (l : List ℕ). l ++ s) c.clear.ensures.items in
    let n = sum_of c.args.before c.args.number c.args.first.now c.args.last.now c.args.payload.now in
    let own : c.own_sum-sum.result ≡ n = c.own_sum-sum.ensures ∙ ap (λ (l : List ℕ). own_sum c.args.before l c.closes.result) (c.deref.ensures.value ∙ a) ∙ ap (own_sum c.args.before s) c.closes.ensures in
    let k : c.extend_from_slice.new.self.items ≡ s ++ sum_key = c.in_ok-extend_from_slice.ensures.items ∙ ap (λ (l : List ℕ). l ++ sum_key) a in
    let h : c.put_hex.new.out.items ≡ (s ++ sum_key) ++ hex 16 n
    = c.in_ok-put_hex.ensures ∙ ap (λ (l : List ℕ). l ++ hex 16 c.own_sum-sum.result) k ∙ ap (λ (k : ℕ). (s ++ sum_key) ++ hex 16 k) own in
    let q : c.push.new.self.items ≡ ((s ++ sum_key) ++ hex 16 n) ++ 34 ∷ [] = c.in_ok-push.ensures.items ∙ ap (λ (l : List ℕ). l ++ 34 ∷ []) h in
    c.in_ok-put_end.ensures ∙ ap (λ (l : List ℕ). l ++ e) q ∙ four_parts s sum_key (hex 16 n) e
