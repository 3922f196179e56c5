-- Three lists, appended one after the other.
use Rattle.std.proofs.Common.{◌≡◌, ℕ, List, ◌++◌, ap, ◌∙◌, append_assoc}

pub three_joined : (a b c d x y z : List ℕ) → b ≡ a ++ x → c ≡ b ++ y → d ≡ c ++ z → d ≡ a ++ (x ++ (y ++ z))
three_joined a b c d x y z first second third =
    third ∙ ap (λ (l : List ℕ). l ++ z) second ∙ append_assoc b y z ∙ ap (λ (l : List ℕ). l ++ (y ++ z)) first ∙ append_assoc a x (y ++ z)
