-- A reader, as what is needed to read a text.
use Rattle.sno_read.specs.declared.reader.Reader.{Reader}
use Rattle.sno_read.specs.Reading.{Env}

abbrev pub env_of : Reader → Env
env_of r = record { names = r.names.now; earlier = r.earlier; total = r.total; in_rule = r.in_rule }
