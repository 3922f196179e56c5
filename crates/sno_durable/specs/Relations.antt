-- What another store is to one, by what their lines say.
use Rattle.std.specs.Prelude.{ℕ, Bool, true, false, Option, Some, None, nat_eq, nat_le, if◌then◌else◌, ◌&&◌, not}
use Rattle.std.specs.Cmp.Lexicographic.{pointwise}
use Rattle.sno_durable.specs.declared.relations.StoreFacts.{StoreFacts}
use Rattle.sno_durable.specs.declared.relations.Relation.{Relation}
use Rattle.sno_durable.specs.declared.relations.Relation.TheVariants.{Other, Leftover, Further, Apart}

-- the index of the entry after the last record; without one, of the first entry that isn't the document's
abbrev pub end_of : ℕ → Option ℕ → ℕ
end_of past None = past
end_of past (Some next) = next

-- whether a store that comes after this many entries begins where one ends; entries of a document have no record, so the end of a store without
-- records may be further on
abbrev pub begins_at : ℕ → Option ℕ → ℕ → Bool
begins_at past None later = nat_le past later
begins_at past (Some next) later = nat_eq next later

abbrev pub relation_by : Bool → Bool → Option ℕ → Relation
relation_by false goes_on next = Other
relation_by true goes_on None = Leftover
relation_by true true (Some next) = Further
relation_by true false (Some next) = Apart

-- made of one document, with one limit of trials
abbrev pub is_of_one : StoreFacts → StoreFacts → Bool
is_of_one one other = pointwise nat_eq one.made_of.items other.made_of.items && nat_eq one.trials other.trials

abbrev pub relation_of : StoreFacts → StoreFacts → Relation
relation_of one other = relation_by (is_of_one one other) (begins_at one.past one.next other.past) other.next
