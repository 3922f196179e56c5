-- The members are the characters of the literal.
use Rattle.sno_read.specs.declared.faults.ReadFault.TheVariants.{EmptySet}
use Rattle.sno_read.specs.Reading.{place}
use Rattle.sno_read.specs.Views.{env_of}
use Rattle.sno_read.proofs.SetsMade.{literal_made, literal_refused}
use Rattle.sno_read.proofs.reader.Reader.one_literal.Goals as goal

pub returns-in-Some-clause-read : goal.returns-in-Some-clause-read
returns-in-Some-clause-read c = literal_made (env_of c.args.self.now) c.args.rest.characters.now c.in_ok-content.content.characters.now c.in_ok-content.rest_after.characters.now c.in_ok-members.members.items c.in-Some.class (EmptySet (place (env_of c.args.self.now) c.args.rest.characters.now)) c.in_ok-content.ensures.read c.in_ok-members.ensures.items c.in-Some.ensures

pub returns-in-None-clause-read : goal.returns-in-None-clause-read
returns-in-None-clause-read c = literal_refused (env_of c.args.self.now) c.args.rest.characters.now c.in_ok-content.content.characters.now c.in_ok-content.rest_after.characters.now c.in_ok-members.members.items c.refused.result c.in_ok-content.ensures.read c.in_ok-members.ensures.items c.in-None.ensures c.refused.ensures.some c.refused.ensures.none
