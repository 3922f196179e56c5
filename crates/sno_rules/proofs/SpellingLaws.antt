-- One more part of an argument, and one more piece of a text.
use Rattle.std.proofs.Common.{◌≡◌, ℕ, ◌-◌, ◌<◌, List, [], ◌∷◌, ◌++◌, length, true, Result, Ok, Err, sym, subst, arith}
use Rattle.sno_rules.specs.declared.names.SetName.{SetName}
use Rattle.sno_rules.specs.declared.faults.SpellingFault.{SpellingFault}
use Rattle.sno_rules.specs.Spelling.{IsJoined, IsSpelled, IsStep, Part, Spelled, goes_on, part_at, more, no_more, stopped, stepped}

pub one_part : (names : List SetName) (total : ℕ) (so_far longer text characters rest : List ℕ) (r : Part) → longer ≡ so_far ++ characters → goes_on text ≡ true
    → part_at names (total - length text) text ≡ Ok (characters, rest) → IsJoined names total longer rest r → IsJoined names total so_far text r
one_part names total so_far longer text characters rest r is goes part others =
    more so_far text characters rest r goes part (subst (λ (x : List ℕ). IsJoined names total x rest r) is others)

pub none_left : (names : List SetName) (total : ℕ) (s : Spelled) (text : List ℕ) → length text ≡ 0 → IsSpelled names total s text (Ok s)
none_left names total s [] h = no_more s
none_left names total s (c ∷ cs) h = absurd (omega (arith, h))

pub stop_here : (names : List SetName) (total : ℕ) (s : Spelled) (text : List ℕ) (e : SpellingFault) → 0 < length text → IsStep names total s text (Err e) → IsSpelled names total s text (Err e)
stop_here names total s [] e h step = absurd (omega (arith, h))
stop_here names total s (c ∷ cs) e h step = stopped s c cs e step

pub one_step : (names : List SetName) (total : ℕ) (s t : Spelled) (text rest : List ℕ) (r : Result Spelled SpellingFault) → 0 < length text → IsStep names total s text (Ok (t, rest))
    → IsSpelled names total t rest r → IsSpelled names total s text r
one_step names total s t [] rest r h step others = absurd (omega (arith, h))
one_step names total s t (c ∷ cs) rest r h step others = stepped s t c cs rest r step others
