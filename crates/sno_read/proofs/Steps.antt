-- One step of each loop of the reading, for any bound on it.
use Rattle.std.proofs.Common.{◌≡◌, ℕ, zero, suc, ◌-◌, ◌<◌, List, Result, Ok, Err, refl, arith}
use Rattle.sno_pattern.specs.Tree.{Tree, Alt}
use Rattle.sno_read.specs.declared.faults.ReadFault.{ReadFault}
use Rattle.sno_read.specs.declared.characters.Following.TheVariants as follows
use Rattle.sno_read.specs.Gives.{◌>>=◌}
use Rattle.sno_read.specs.Characters.{what_follows}
use Rattle.sno_read.specs.Reading.{Env, Read, sign_at, targets_at, target_by, items_at, item_by, parts_at, next_part_by, inside, alternation_at}

pub targets_step : (env : Env) (n : ℕ) (t : Tree) (text : List ℕ) (m : ℕ) → m < n → targets_at env n t text ≡ target_by env (targets_at env (n - 1)) t text (what_follows text)
unfolding targets_at
targets_step env zero t text m h = absurd (omega arith)
targets_step env (suc n) t text m h = let e : suc n - 1 ≡ n = omega arith in rw e refl

pub items_step : (env : Env) (item : List ℕ → Read Tree) (n : ℕ) (text : List ℕ) (m : ℕ) → m < n → items_at env item n text ≡ (item text >>= λ x. item_by (items_at env item (n - 1)) x (what_follows x.1))
unfolding items_at
items_step env item zero text m h = absurd (omega arith)
items_step env item (suc n) text m h = let e : suc n - 1 ≡ n = omega arith in rw e refl

pub parts_step : (env : Env) (part : List ℕ → Read Tree) (n : ℕ) (text : List ℕ) (m : ℕ) → m < n → parts_at env part n text ≡ (part text >>= λ x. next_part_by env (parts_at env part (n - 1)) x (what_follows x.1))
unfolding parts_at
parts_step env part zero text m h = absurd (omega arith)
parts_step env part (suc n) text m h = let e : suc n - 1 ≡ n = omega arith in rw e refl

-- what comes after a bar is read, and then made one with the tree before it
read_then : (r : Result (List ℕ) ReadFault) (more : List ℕ → Read Tree) (made : Tree × List ℕ → Read Tree) → (r >>= λ a. more a >>= made) ≡ ((r >>= more) >>= made)
read_then (Err d) more made = refl
read_then (Ok a) more made = refl

pub bar_then : (env : Env) (more : List ℕ → Read Tree) (x : Tree × List ℕ) → next_part_by env more x follows.Bar ≡ ((sign_at env x.1 >>= more) >>= λ y. Ok (Alt x.0 y.0, y.1))
bar_then env more x = read_then (sign_at env x.1) more (λ y. Ok (Alt x.0 y.0, y.1))

pub inside_step : (env : Env) (room : ℕ) (text : List ℕ) → 0 < room → inside env room text ≡ alternation_at env (room - 1) (inside env (room - 1)) text
unfolding inside
inside_step env zero text h = absurd (omega arith)
inside_step env (suc room) text h = let e : suc room - 1 ≡ room = omega arith in rw e refl
