-- Each exit of a loop is one step of its reading, for any bound on it; a group is what `inside` reads.
use Rattle.std.proofs.Common.{suc, ◌-◌, length, refl, arith, rules}
use Rattle.sno_read.specs.Reading.{item_at, concatenation_at, alternation_at, group_at, inside}
use Rattle.sno_read.specs.Views.{env_of}
use Rattle.sno_read.proofs.Steps.{items_step, parts_step, bar_then, inside_step}
use Rattle.sno_read.proofs.reader.Reader.+grammar.Goals as goal

pub concatenation-returns-in_err-pattern-clause-read : goal.concatenation-returns-in_err-pattern-clause-read
concatenation-returns-in_err-pattern-clause-read t c = λ n h. rw (items_step (env_of c.args.self.now) (item_at (env_of c.args.self.now) c.args.room (inside (env_of c.args.self.now) c.args.room)) n c.args.rest.characters.now _ h) (search rules)

pub concatenation-returns-in_default : goal.concatenation-returns-in_default
concatenation-returns-in_default t c = record { read = λ n h. rw (items_step (env_of c.args.self.now) (item_at (env_of c.args.self.now) c.args.room (inside (env_of c.args.self.now) c.args.room)) n c.args.rest.characters.now _ h) (search rules); shorter = c.in_ok-pattern.ensures.shorter }

pub alternation-returns-in_err-pattern-clause-read : goal.alternation-returns-in_err-pattern-clause-read
unfolding concatenation_at
alternation-returns-in_err-pattern-clause-read t c = λ n h. rw (parts_step (env_of c.args.self.now) (concatenation_at (env_of c.args.self.now) c.args.room (inside (env_of c.args.self.now) c.args.room)) n c.args.rest.characters.now _ h)
    (let p = c.in_err-pattern.ensures.read (suc (length c.args.rest.characters.now)) (omega arith) in search rules)

pub alternation-returns-in_default : goal.alternation-returns-in_default
unfolding concatenation_at
alternation-returns-in_default t c = record { read = λ n h. rw (parts_step (env_of c.args.self.now) (concatenation_at (env_of c.args.self.now) c.args.room (inside (env_of c.args.self.now) c.args.room)) n c.args.rest.characters.now _ h) (let p = c.in_ok-pattern.ensures.read (suc (length c.args.rest.characters.now)) (omega arith) in search rules); shorter = c.in_ok-pattern.ensures.shorter }

pub group-returns-in_err-pattern-clause-read : goal.group-returns-in_err-pattern-clause-read
unfolding group_at alternation_at
group-returns-in_err-pattern-clause-read t c =
    let i = c.in_err-pattern.ensures.read (suc (length c.in_ok-rest.rest.characters.now)) (omega arith) in
    let e = inside_step (env_of c.args.self.now) c.args.room c.in_ok-rest.rest.characters.now c.in_ok-rest.ensures.more in
    search rules

pub group-returns-in_err-rest-2-clause-read : goal.group-returns-in_err-rest-2-clause-read
unfolding group_at alternation_at
group-returns-in_err-rest-2-clause-read t c =
    let i = c.in_ok-pattern.ensures.read (suc (length c.in_ok-rest.rest.characters.now)) (omega arith) in
    let e = inside_step (env_of c.args.self.now) c.args.room c.in_ok-rest.rest.characters.now c.in_ok-rest.ensures.more in
    search rules

pub group-returns-clause-read : goal.group-returns-clause-read
unfolding group_at alternation_at
group-returns-clause-read t c =
    let i = c.in_ok-pattern.ensures.read (suc (length c.in_ok-rest.rest.characters.now)) (omega arith) in
    let e = inside_step (env_of c.args.self.now) c.args.room c.in_ok-rest.rest.characters.now c.in_ok-rest.ensures.more in
    search rules

pub concatenation-returns-clause-read : goal.concatenation-returns-clause-read
concatenation-returns-clause-read t c = λ n h. rw (items_step (env_of c.args.self.now) (item_at (env_of c.args.self.now) c.args.room (inside (env_of c.args.self.now) c.args.room)) n c.args.rest.characters.now _ h)
    (let i = c.both.ensures.next refl _ (c.concatenation-others.ensures.read (n - 1) (omega (arith, c.in_ok-pattern.ensures.shorter, c.after_blanks.ensures.size))) in search rules)

pub alternation-returns-clause-read : goal.alternation-returns-clause-read
unfolding concatenation_at
alternation-returns-clause-read t c = λ n h. rw (parts_step (env_of c.args.self.now) (concatenation_at (env_of c.args.self.now) c.args.room (inside (env_of c.args.self.now) c.args.room)) n c.args.rest.characters.now _ h)
    (let p = c.in_ok-pattern.ensures.read (suc (length c.args.rest.characters.now)) (omega arith) in
    let i = c.both.ensures.either refl _ (c.otherwise-others.ensures.read (n - 1) (omega (arith, c.in_ok-pattern.ensures.shorter))) in
    search (rules, bar_then))
