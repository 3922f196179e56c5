-- A literal of an ASCII text is ASCII.
use Rattle.sno_read.specs.Views.{env_of}
use Rattle.sno_read.proofs.AsciiRests.{literal_ascii}
use Rattle.sno_read.proofs.reader.Reader.part.Goals as goal

pub text-requires : goal.text-requires
text-requires c = literal_ascii (env_of c.args.self.now) c.args.rest.characters.now c.in_ok-content-in-Quote.content.characters.now c.in_ok-content-in-Quote.rest_after.characters.now c.in_ok-content-in-Quote.ensures.read c.requires
