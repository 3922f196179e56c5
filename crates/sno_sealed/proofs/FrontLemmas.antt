-- The first lines of a file.
use Rattle.std.proofs.Common.{◌≡◌, refl, sym, ◌∙◌, ap, arith, subst, ℕ, ◌+◌, List, [], ◌∷◌, ◌++◌, length, take, length-append}
use Rattle.std.proofs.lemmas.List.{take_at}
use Rattle.sno_store.specs.Lines.{bytes_of}
use Rattle.sno_store.proofs.Scans.{bytes_of-append}
use Rattle.sno_sealed.specs.declared.chain.Chain.{Chain}
use Rattle.sno_sealed.specs.Chains.{IsChain}

pub first_lines : (done left all payloads : List (List ℕ)) (chain : Chain) → done ++ left ≡ all → IsChain done payloads chain
    → (ps : List (List ℕ)) × (ch : Chain) × IsChain (take chain.lines all) ps ch
first_lines done left all payloads chain is read =
    (payloads, chain, subst (λ (ls : List (List ℕ)). IsChain ls payloads chain) (sym (ap (λ (ls : List (List ℕ)). take chain.lines ls) (sym is) ∙ take_at done left chain.lines read.count)) read)

pub end_more : (done left : List (List ℕ)) (line : List ℕ) → length (bytes_of (done ++ line ∷ left)) ≡ length (bytes_of done) + (length line + 1) + length (bytes_of left)
end_more done left line =
    omega (arith, ap length (bytes_of-append done (line ∷ left)), length-append (bytes_of done) (line ++ 10 ∷ bytes_of left), length-append line (10 ∷ bytes_of left))
