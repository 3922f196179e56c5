-- The values of one search, as spans of the bytes that were searched.
use Rattle.std.specs.Prelude.{◌≤◌, length}
use Rattle.sno_pattern.specs.declared.byte_texts.TheConstants.{MAX_BYTES}
use Rattle.sno_statement.specs.declared.binding.Datum.{Datum}
use Rattle.sno_statement.specs.declared.binding.Datum.TheVariants.{Str, Int}
use Rattle.sno_statement.specs.declared.spans.SpanValue.{SpanValue}
use Rattle.sno_statement.specs.declared.spans.SpanValue.TheVariants.{Bytes, Number}

-- a value that is lent is that value
abbrev pub value_lent : SpanValue → Datum
value_lent (Bytes s) = Str s.now
value_lent (Number n) = Int n

-- a span is no longer than a text of bytes can be
abbrev pub IsShort : SpanValue → Type 0
IsShort (Bytes s) = length s.now ≤ MAX_BYTES
IsShort (Number n) = Unit {0}
