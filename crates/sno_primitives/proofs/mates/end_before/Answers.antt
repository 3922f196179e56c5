-- What the character does to the list of those that are closed.
use Rattle.std.proofs.Common.{◌≡◌, ◌+◌, ◌∷◌, ℕ, [], List, reverse, length, refl, ap, arith, sym, subst, ◌∙◌}
use Rattle.std.proofs.lemmas.List.{reverse-append}
use Rattle.std.proofs.lemmas.Bool.{ne_eqb}
use Rattle.sno_primitives.specs.Walks.{IsStack}
use Rattle.sno_primitives.proofs.MateLaws.{opened, opened_none, opened_first, closed, closed_first, plain, plain_first}
use Rattle.sno_primitives.proofs.mates.end_before.Goals as goal

pub returns-in-Some-clause-stack : goal.returns-in-Some-clause-stack
returns-in-Some-clause-stack c = λ t h is stack.
    let left = c.pop.new.self.items in
    let all : reverse c.args.closed.now.items ≡ c.in-Some.end ∷ reverse left = ap reverse c.in-Some.ensures.items ∙ reverse-append left (c.in-Some.end ∷ []) in
    opened t c.args.c h c.in-Some.end (reverse left) (is ∙ c.in-40.is) (subst (IsStack t (c.args.c + 1)) all stack)

pub returns-in-Some-clause-exact : goal.returns-in-Some-clause-exact
returns-in-Some-clause-exact c = λ t h is stack.
    let left = c.pop.new.self.items in
    let all : reverse c.args.closed.now.items ≡ c.in-Some.end ∷ reverse left = ap reverse c.in-Some.ensures.items ∙ reverse-append left (c.in-Some.end ∷ []) in
    opened_first t c.args.c h (c.in-Some.end ∷ reverse left) (is ∙ c.in-40.is) (subst (IsStack t (c.args.c + 1)) all stack)

nothing : (l : List ℕ) → length l ≡ 0 → l ≡ []
nothing [] h = refl
nothing (x ∷ l) h = absurd (omega arith)

pub returns-in-None-clause-stack : goal.returns-in-None-clause-stack
returns-in-None-clause-stack c = λ t h is stack.
    let was : c.args.closed.now.items ≡ [] = nothing c.args.closed.now.items (omega (arith, c.args.closed.now.ok.0, c.in-None.ensures.cases.0)) in
    let now : c.pop.new.self.items ≡ [] = nothing c.pop.new.self.items (omega (arith, c.pop.new.self.ok.0, c.in-None.ensures.cases.1)) in
    subst (λ l. IsStack t c.args.c (reverse l)) (sym now)
    (opened_none t c.args.c h (is ∙ c.in-40.is) (subst (λ l. IsStack t (c.args.c + 1) (reverse l)) was stack))

pub returns-in-None-clause-exact : goal.returns-in-None-clause-exact
returns-in-None-clause-exact c = λ t h is stack.
    let was : c.args.closed.now.items ≡ [] = nothing c.args.closed.now.items (omega (arith, c.args.closed.now.ok.0, c.in-None.ensures.cases.0)) in
    opened_first t c.args.c h [] (is ∙ c.in-40.is) (subst (λ l. IsStack t (c.args.c + 1) (reverse l)) was stack)

pub returns-in_ok-push-in-41-clause-stack : goal.returns-in_ok-push-in-41-clause-stack
returns-in_ok-push-in-41-clause-stack c = λ t h is stack.
    let was = c.args.closed.now.items in
    let all : reverse c.push.new.self.items ≡ (c.args.c + 1) ∷ reverse was = ap reverse c.in_ok-push-in-41.ensures.items ∙ reverse-append was ((c.args.c + 1) ∷ []) in
    subst (IsStack t c.args.c) (sym all) (closed t c.args.c h (reverse was) (is ∙ c.in-41.is) stack)

pub returns-in_ok-push-in-41-clause-exact : goal.returns-in_ok-push-in-41-clause-exact
returns-in_ok-push-in-41-clause-exact c = λ t h is stack. closed_first t c.args.c h (is ∙ c.in-41.is)

pub returns-in_default-clause-exact : goal.returns-in_default-clause-exact
returns-in_default-clause-exact c = λ t h is stack.
    plain_first t c.args.c h c.args.character is (ne_eqb c.args.character 40 (λ e. omega arith)) (ne_eqb c.args.character 41 (λ e. omega arith))

pub returns-in_default-clause-stack : goal.returns-in_default-clause-stack
returns-in_default-clause-stack c = λ t h is stack.
    plain t c.args.c h c.args.character (reverse c.args.closed.now.items) is (ne_eqb c.args.character 40 (λ e. omega arith)) (ne_eqb c.args.character 41 (λ e. omega arith)) stack
