-- Parts of objects by value, whether their literals are ASCII or any bytes.
use Rattle.sno_read.specs.declared.objects.Part.{Part}
use Rattle.sno_read.specs.declared.objects.Part.TheVariants.{Quoted, Var}
use Rattle.sno_read.specs.declared.objects.BytePart.{BytePart}
use Rattle.sno_read.specs.declared.objects.BytePart.TheVariants as bytes

-- the part that a part of bytes is
abbrev pub part_of : BytePart → Part
part_of (bytes.Quoted s) = Quoted s
part_of (bytes.Var v) = Var v
