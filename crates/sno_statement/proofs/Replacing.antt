-- The text with one more match replaced.
use Rattle.std.proofs.Common.{◌≡◌, ℕ, ◌+◌, ◌≤◌, ◌<◌, List, ◌∷◌, ◌++◌, length, drop, ap, sym, ◌∙◌, append_assoc, arith, length-append, Some, None, Option, slice_get, refl, subst, MatchOption, IfSome, Vec, Global}
use Rattle.std.proofs.Common.{get_or}
use Rattle.std.proofs.lemmas.List.{drop_more}
use Rattle.std.proofs.lemmas.Option.{get_or_from_slice_get, slice_get_within}
use Rattle.sno_pattern.specs.Ends.{part}
use Rattle.sno_read.specs.declared.objects.Part.{Part}
use Rattle.sno_statement.specs.declared.match_lists.Match.{Match}
use Rattle.sno_pattern.specs.declared.byte_texts.TheConstants.{MAX_BYTES}
use Rattle.sno_statement.specs.Rewriting.{IsReplaced}
use Rattle.sno_statement.specs.Value.{value_of}
use Rattle.sno_statement.specs.Passes.{replaced}

-- the matches from a place on are the one there and those after it
match_next : (matches : List Match) (i : ℕ) (m : Match) → i < length matches → m ≡ get_or matches i m → drop i matches ≡ m ∷ drop (i + 1) matches
match_next matches i m inside is = drop_more matches i m inside ∙ ap (λ (z : Match). z ∷ drop (i + 1) matches) (sym is)

pub next_there : (matches : List Match) (i : ℕ) (m : Match) → Some m ≡ slice_get matches i → drop i matches ≡ m ∷ drop (i + 1) matches
next_there matches i m there = match_next matches i m (slice_get_within matches i m (sym there)) (sym (get_or_from_slice_get matches i m m (sym there)))

-- what is written goes on with the text before the match, the object's value, and then the rest
pub written : (parts : List Part) (t out kept value all : List ℕ) (c : ℕ) (m : Match) (ms : List Match) → kept ≡ part t c m.start → value ≡ value_of m.bindings parts
    → out ++ replaced parts t c (m ∷ ms) ≡ all → ((out ++ kept) ++ value) ++ replaced parts t m.end ms ≡ all
written parts t out kept value all c m ms before is so_far =
    append_assoc (out ++ kept) value (replaced parts t m.end ms) ∙ append_assoc out kept (value ++ replaced parts t m.end ms)
    ∙ ap (λ (z : List ℕ). out ++ (z ++ (value ++ replaced parts t m.end ms))) before
    ∙ ap (λ (z : List ℕ). out ++ (part t c m.start ++ (z ++ replaced parts t m.end ms))) is ∙ so_far

-- how long that is
pub counted : (parts : List Part) (t kept : List ℕ) (c total all : ℕ) (m : Match) (ms : List Match) → kept ≡ part t c m.start
    → total + length (replaced parts t c (m ∷ ms)) ≡ all → total + length kept + length (value_of m.bindings parts) + length (replaced parts t m.end ms) ≡ all
counted parts t kept c total all m ms before so_far =
    let outer = length-append (part t c m.start) (value_of m.bindings parts ++ replaced parts t m.end ms) in
    let inner = length-append (value_of m.bindings parts) (replaced parts t m.end ms) in
    let here : length kept ≡ length (part t c m.start) = ap length before in
    omega (arith, so_far, outer, inner, here)

-- a text that goes on is at least as long
longer : (xs ys all : List ℕ) (n : ℕ) → xs ++ ys ≡ all → n < length xs → n < length all
longer xs ys all n is long = let both = length-append xs ys in let here : length (xs ++ ys) ≡ length all = ap length is in omega (arith, both, here, long)

-- what was written, and what is written with one more match; nothing is written any more once the text is too long
pub match_written : (parts : List Part) (t kept all : List ℕ) (c : ℕ) (m : Match) (ms : List Match) (old new : Option (Vec ℕ Global)) → kept ≡ part t c m.start
    → MatchOption old (MAX_BYTES < length all) (λ v. v.items ++ replaced parts t c (m ∷ ms) ≡ all)
    → MatchOption old (new ≡ None) (λ v. MatchOption new (MAX_BYTES < length ((v.items ++ kept) ++ value_of m.bindings parts)) (λ w. w.items ≡ (v.items ++ kept) ++ value_of m.bindings parts))
    → MatchOption new (MAX_BYTES < length all) (λ w. w.items ++ replaced parts t m.end ms ≡ all)
match_written parts t kept all c m ms None None before long added = long
match_written parts t kept all c m ms None (Some w) before long added = absurd cc
match_written parts t kept all c m ms (Some v) None before so_far added =
    longer ((v.items ++ kept) ++ value_of m.bindings parts) (replaced parts t m.end ms) all MAX_BYTES (written parts t v.items kept (value_of m.bindings parts) all c m ms before refl so_far) added
match_written parts t kept all c m ms (Some v) (Some w) before so_far added =
    ap (λ (z : List ℕ). z ++ replaced parts t m.end ms) added ∙ written parts t v.items kept (value_of m.bindings parts) all c m ms before refl so_far

-- the text with its end
pub end_written : (end all : List ℕ) (old new : Option (Vec ℕ Global))
    → MatchOption old (MAX_BYTES < length all) (λ v. v.items ++ end ≡ all)
    → MatchOption old (new ≡ None) (λ v. MatchOption new (MAX_BYTES < length (v.items ++ end)) (λ w. w.items ≡ v.items ++ end))
    → IfSome new (λ v. length v.items ≤ MAX_BYTES) → IsReplaced all new
end_written end all None None long added short = long
end_written end all None (Some w) long added short = absurd cc
end_written end all (Some v) None so_far added short = subst (λ (z : List ℕ). MAX_BYTES < length z) so_far added
end_written end all (Some v) (Some w) so_far added short =
    let is : w.items ≡ all = added ∙ so_far in
    (is, subst (λ (z : List ℕ). length z ≤ MAX_BYTES) is short)
