-- Statements for files, by value.
use Rattle.std.specs.Prelude.{ℕ, Bool, true, List, Option, None, is_ok}
use Rattle.sno_pattern.specs.Texts.{text_of}
use Rattle.sno_read.specs.declared.objects.Part.{Part}
use Rattle.sno_read.specs.declared.objects.Part.TheVariants.{Quoted, Var}
use Rattle.sno_statement.specs.Statement.{Statement}

-- this statement, with this object, and repeated at most this often if at all
abbrev pub with_object_and_repeat : Statement → Option (List Part) → Option ℕ → Statement
with_object_and_repeat s object repeat = record { number = s.number; rules = s.rules; pattern = s.pattern; object = object; text = s.text; anchored = s.anchored; limit = s.limit; repeat = repeat; all = s.all }

-- this statement, performed once with this object
abbrev pub with_object : Statement → Option (List Part) → Statement
with_object s object = with_object_and_repeat s object None

-- what a statement finds, without what it does with it
abbrev pub searching : Statement → Statement
searching s = with_object_and_repeat s None None

-- whether a part of an object can be one of an object for texts: its literal is a text
abbrev pub is_plain : Part → Bool
is_plain (Quoted s) = is_ok (text_of s)
is_plain (Var v) = true
