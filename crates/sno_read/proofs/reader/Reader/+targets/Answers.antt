-- Each exit is one step of `targets_at`, for any bound on it.
use Rattle.std.proofs.Common.{◌-◌, arith, rules}
use Rattle.sno_pattern.specs.Tree.{tree_of}
use Rattle.sno_read.specs.Views.{env_of}
use Rattle.sno_read.proofs.Steps.{targets_step}
use Rattle.sno_read.proofs.reader.Reader.+targets.Goals as goal

pub returns-in_err-rest-in-Dot-clause-read : goal.returns-in_err-rest-in-Dot-clause-read
returns-in_err-rest-in-Dot-clause-read t c = λ n h. rw (targets_step (env_of c.args.self.now) n (tree_of c.args.pattern) c.args.rest.characters.now _ h) (grind arith)

pub returns-in_err-name-in-Dot-clause-read : goal.returns-in_err-name-in-Dot-clause-read
returns-in_err-name-in-Dot-clause-read t c = λ n h. rw (targets_step (env_of c.args.self.now) n (tree_of c.args.pattern) c.args.rest.characters.now _ h) (grind arith)

pub returns-in_err-read-in-Dot-clause-read : goal.returns-in_err-read-in-Dot-clause-read
returns-in_err-read-in-Dot-clause-read t c = λ n h. rw (targets_step (env_of c.args.self.now) n (tree_of c.args.pattern) c.args.rest.characters.now _ h)
    (let i = c.in_err-read-in-Dot.ensures.read (n - 1) (omega (arith, c.in_ok-rest-in-Dot.ensures.shorter, c.in_ok-name-in-Dot.ensures.shorter)) in grind arith)

pub returns-in_ok-read-in-Dot-clause-read : goal.returns-in_ok-read-in-Dot-clause-read
returns-in_ok-read-in-Dot-clause-read t c = λ n h. rw (targets_step (env_of c.args.self.now) n (tree_of c.args.pattern) c.args.rest.characters.now _ h)
    (let i = c.in_ok-read-in-Dot.ensures.read (n - 1) (omega (arith, c.in_ok-rest-in-Dot.ensures.shorter, c.in_ok-name-in-Dot.ensures.shorter)) in grind arith)

pub returns-in-Nothing : goal.returns-in-Nothing
returns-in-Nothing t c = record { read = λ n h. rw (targets_step (env_of c.args.self.now) n (tree_of c.args.pattern) c.args.rest.characters.now _ h) (search rules); shorter = omega arith }
