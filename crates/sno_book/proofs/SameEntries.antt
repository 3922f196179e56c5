-- `same_entry` holds exactly for equal entries. The same is proved of all that entries are made of.
use Rattle.std.proofs.Common.{◌≡◌, ℕ, Bool, ◌&&◌, nat_eq, List, Option, Some, None, refl, ap}
use Rattle.std.specs.Bool.{Decides}
use Rattle.std.specs.Option.{option_eq}
use Rattle.std.specs.Cmp.{booleans_Decides, unsigned_Decides}
use Rattle.std.specs.Cmp.Lexicographic.{pointwise}
use Rattle.std.proofs.Math.Bool.{beq}
use Rattle.std.proofs.lemmas.Bool.Decides.{Decides-at, Decides-like, Decides-and}
use Rattle.std.proofs.lemmas.Slice.Eq.{bytes_eq-Decides, slice_eq-Decides}
use Rattle.sno_pattern.specs.Identifiers.{same}
use Rattle.sno_pattern.specs.Definitions.{Definitions}
use Rattle.sno_read.specs.declared.objects.Part.{Part}
use Rattle.sno_read.specs.declared.objects.Part.TheVariants.{Quoted, Var}
use Rattle.sno_statement.specs.Statement.{Statement}
use Rattle.sno_statement.specs.Bindings.{Bindings}
use Rattle.sno_statement.specs.Perform.{Outcome, Matched, Failed, Repeated, All}
use Rattle.sno_statement.specs.declared.match_lists.Match.{Match}
use Rattle.sno_statement.specs.declared.binding.Datum.{Datum}
use Rattle.sno_statement.specs.declared.binding.Datum.TheVariants.{Str, Int}
use Rattle.sno_book.specs.Entries.{Entry}
use Rattle.sno_book.specs.SamePatterns.{same_tree}
use Rattle.sno_book.specs.SameEntries.{same_part, same_object, same_definitions, same_statement, same_datum, same_binding, same_bound, same_match, same_outcome, same_entry}
use Rattle.sno_book.proofs.SameTrees.{tree_decides}

-- lists, and values that may be there, by their elements
lists : {A : Type 0} (E : A → A → Bool) → ((a b : A) → Decides (E a b) (a ≡ b)) → (a b : List A) → Decides (pointwise E a b) (a ≡ b)
lists E each a b = slice_eq-Decides each a b (pointwise E a b) refl

options : {A : Type 0} (E : A → A → Bool) → ((a b : A) → Decides (E a b) (a ≡ b)) → (a b : Option A) → Decides (option_eq E a b) (a ≡ b)
options E each None None = (λ h. refl, λ e. refl)
options E each None (Some y) = (λ h. cc, λ e. cc)
options E each (Some x) None = (λ h. cc, λ e. cc)
options E each (Some x) (Some y) = Decides-like (E x y) (λ (e : x ≡ y). ap (λ (z : _). Some z) e) (λ (e : Some x ≡ Some y). cc) (each x y)

-- statements
part_decides : (p q : Part) → Decides (same_part p q) (p ≡ q)
part_decides (Quoted s) (Quoted t) = Decides-like (same s t) (λ (e : s ≡ t). ap Quoted e) (λ (e : Quoted s ≡ Quoted t). cc) (bytes_eq-Decides s t)
part_decides (Quoted s) (Var w) = (λ h. cc, λ e. cc)
part_decides (Var v) (Quoted t) = (λ h. cc, λ e. cc)
part_decides (Var v) (Var w) = Decides-like (same v w) (λ (e : v ≡ w). ap Var e) (λ (e : Var v ≡ Var w). cc) (bytes_eq-Decides v w)

definitions_decide : (d e : Definitions) → Decides (same_definitions d e) (d ≡ e)
definitions_decide d e =
    let names = pointwise same d.names e.names in
    let bodies = pointwise same_tree d.bodies e.bodies in
    Decides-like (names && bodies) (λ (h : (d.names ≡ e.names) × (d.bodies ≡ e.bodies)). (λ i. record { names = h.0 i; bodies = h.1 i }))
    (λ (h : d ≡ e). (ap (λ (x : Definitions). x.names) h, ap (λ (x : Definitions). x.bodies) h))
    (Decides-and names bodies (lists same bytes_eq-Decides d.names e.names) (lists same_tree tree_decides d.bodies e.bodies))

statement_decides : (s t : Statement) → Decides (same_statement s t) (s ≡ t)
statement_decides s t =
    let number = nat_eq s.number t.number in
    let limit = nat_eq s.limit t.limit in
    let repeat = option_eq nat_eq s.repeat t.repeat in
    let all = beq s.all t.all in
    let anchored = beq s.anchored t.anchored in
    let text = same s.text t.text in
    let object = same_object s.object t.object in
    let pattern = same_tree s.pattern t.pattern in
    let rules = same_definitions s.rules t.rules in
    Decides-like (number && (limit && (repeat && (all && (anchored && (text && (object && (pattern && rules))))))))
    (λ (h : (s.number ≡ t.number) × ((s.limit ≡ t.limit) × ((s.repeat ≡ t.repeat) × ((s.all ≡ t.all) × ((s.anchored ≡ t.anchored) × ((s.text ≡ t.text) × ((s.object ≡ t.object) × ((s.pattern ≡ t.pattern) × (s.rules ≡ t.rules))))))))). (λ i. record {
      number = h.0 i;
      limit = h.1.0 i;
      repeat = h.1.1.0 i;
      all = h.1.1.1.0 i;
      anchored = h.1.1.1.1.0 i;
      text = h.1.1.1.1.1.0 i;
      object = h.1.1.1.1.1.1.0 i;
      pattern = h.1.1.1.1.1.1.1.0 i;
      rules = h.1.1.1.1.1.1.1.1 i;
    }))
    (λ (h : s ≡ t). (ap (λ (x : Statement). x.number) h, (ap (λ (x : Statement). x.limit) h, (ap (λ (x : Statement). x.repeat) h, (ap (λ (x : Statement). x.all) h, (ap (λ (x : Statement). x.anchored) h, (ap (λ (x : Statement). x.text) h, (ap (λ (x : Statement). x.object) h, (ap (λ (x : Statement). x.pattern) h, ap (λ (x : Statement). x.rules) h)))))))))
    (Decides-and number (limit && (repeat && (all && (anchored && (text && (object && (pattern && rules))))))) (unsigned_Decides s.number t.number)
    (Decides-and limit (repeat && (all && (anchored && (text && (object && (pattern && rules)))))) (unsigned_Decides s.limit t.limit)
    (Decides-and repeat (all && (anchored && (text && (object && (pattern && rules))))) (options nat_eq unsigned_Decides s.repeat t.repeat)
    (Decides-and all (anchored && (text && (object && (pattern && rules)))) (booleans_Decides s.all t.all)
    (Decides-and anchored (text && (object && (pattern && rules))) (booleans_Decides s.anchored t.anchored)
    (Decides-and text (object && (pattern && rules)) (bytes_eq-Decides s.text t.text)
    (Decides-and object (pattern && rules) (options (pointwise same_part) (lists same_part part_decides) s.object t.object)
    (Decides-and pattern rules (tree_decides s.pattern t.pattern) (definitions_decide s.rules t.rules)))))))))

-- outcomes
datum_decides : (d e : Datum) → Decides (same_datum d e) (d ≡ e)
datum_decides (Str s) (Str t) = Decides-like (same s t) (λ (e : s ≡ t). ap Str e) (λ (e : Str s ≡ Str t). cc) (bytes_eq-Decides s t)
datum_decides (Str s) (Int n) = (λ h. cc, λ e. cc)
datum_decides (Int m) (Str t) = (λ h. cc, λ e. cc)
datum_decides (Int m) (Int n) = Decides-like (nat_eq m n) (λ (e : m ≡ n). ap Int e) (λ (e : Int m ≡ Int n). cc) (unsigned_Decides m n)

binding_decides : (b c : List ℕ × Datum) → Decides (same_binding b c) (b ≡ c)
binding_decides b c =
    let name = same b.0 c.0 in
    let datum = same_datum b.1 c.1 in
    Decides-like (name && datum) (λ (h : (b.0 ≡ c.0) × (b.1 ≡ c.1)). (λ i. (h.0 i, h.1 i)))
    (λ (h : b ≡ c). (ap (λ (x : List ℕ × Datum). x.0) h, ap (λ (x : List ℕ × Datum). x.1) h))
    (Decides-and name datum (bytes_eq-Decides b.0 c.0) (datum_decides b.1 c.1))

bound_decides : (b c : Bindings) → Decides (same_bound b c) (b ≡ c)
bound_decides b c = lists same_binding binding_decides b c

match_decides : (m n : Match) → Decides (same_match m n) (m ≡ n)
match_decides m n =
    let from = nat_eq m.start n.start in
    let to = nat_eq m.end n.end in
    let bound = same_bound m.bindings n.bindings in
    Decides-like (from && (to && bound)) (λ (h : (m.start ≡ n.start) × ((m.end ≡ n.end) × (m.bindings ≡ n.bindings))). (λ i. record { start = h.0 i; end = h.1.0 i; bindings = h.1.1 i }))
    (λ (h : m ≡ n). (ap (λ (x : Match). x.start) h, (ap (λ (x : Match). x.end) h, ap (λ (x : Match). x.bindings) h)))
    (Decides-and from (to && bound) (unsigned_Decides m.start n.start) (Decides-and to bound (unsigned_Decides m.end n.end) (bound_decides m.bindings n.bindings)))

outcome_decides : (d e : Outcome) → Decides (same_outcome d e) (d ≡ e)
outcome_decides (Matched s e b after) (Matched t f c more) =
    let from = nat_eq s t in
    let to = nat_eq e f in
    let bound = same_bound b c in
    let text = option_eq same after more in
    Decides-like (from && (to && (bound && text)))
    (λ (h : (s ≡ t) × ((e ≡ f) × ((b ≡ c) × (after ≡ more)))). (λ i. Matched (h.0 i) (h.1.0 i) (h.1.1.0 i) (h.1.1.1 i)))
    (λ (h : Matched s e b after ≡ Matched t f c more). (cc, (cc, (cc, cc))))
    (Decides-and from (to && (bound && text)) (unsigned_Decides s t)
    (Decides-and to (bound && text) (unsigned_Decides e f)
    (Decides-and bound text (bound_decides b c) (options same bytes_eq-Decides after more))))
outcome_decides (Matched s e b after) (Failed c) = (λ h. cc, λ e. cc)
outcome_decides (Matched s e b after) (Repeated n c u) = (λ h. cc, λ e. cc)
outcome_decides (Matched s e b after) (All ns more) = (λ h. cc, λ e. cc)
outcome_decides (Failed b) (Matched t f c more) = (λ h. cc, λ e. cc)
outcome_decides (Failed b) (Repeated n c u) = (λ h. cc, λ e. cc)
outcome_decides (Failed b) (All ns more) = (λ h. cc, λ e. cc)
outcome_decides (Repeated m b t) (Matched s f c more) = (λ h. cc, λ e. cc)
outcome_decides (Repeated m b t) (Failed c) = (λ h. cc, λ e. cc)
outcome_decides (Repeated m b t) (All ns more) = (λ h. cc, λ e. cc)
outcome_decides (All ms after) (Matched s f c more) = (λ h. cc, λ e. cc)
outcome_decides (All ms after) (Failed c) = (λ h. cc, λ e. cc)
outcome_decides (All ms after) (Repeated n c u) = (λ h. cc, λ e. cc)
outcome_decides (All ms after) (All ns more) =
    let matches = pointwise same_match ms ns in
    let text = option_eq same after more in
    Decides-like (matches && text) (λ (h : (ms ≡ ns) × (after ≡ more)). (λ i. All (h.0 i) (h.1 i))) (λ (h : All ms after ≡ All ns more). (cc, cc))
    (Decides-and matches text (lists same_match match_decides ms ns) (options same bytes_eq-Decides after more))
outcome_decides (Repeated m b t) (Repeated n c u) =
    let matches = nat_eq m n in
    let bound = same_bound b c in
    let text = same t u in
    Decides-like (matches && (bound && text)) (λ (h : (m ≡ n) × ((b ≡ c) × (t ≡ u))). (λ i. Repeated (h.0 i) (h.1.0 i) (h.1.1 i)))
    (λ (h : Repeated m b t ≡ Repeated n c u). (cc, (cc, cc)))
    (Decides-and matches (bound && text) (unsigned_Decides m n) (Decides-and bound text (bound_decides b c) (bytes_eq-Decides t u)))
outcome_decides (Failed b) (Failed c) = Decides-like (same_bound b c) (λ (e : b ≡ c). ap Failed e) (λ (e : Failed b ≡ Failed c). cc) (bound_decides b c)

entry_decides : (e f : Entry) → Decides (same_entry e f) (e ≡ f)
entry_decides e f =
    let version = nat_eq e.version f.version in
    let statement = same_statement e.statement f.statement in
    let done = same_outcome e.outcome f.outcome in
    Decides-like (version && (statement && done))
    (λ (h : (e.version ≡ f.version) × ((e.statement ≡ f.statement) × (e.outcome ≡ f.outcome))). (λ i. record { version = h.0 i; statement = h.1.0 i; outcome = h.1.1 i }))
    (λ (h : e ≡ f). (ap (λ (x : Entry). x.version) h, (ap (λ (x : Entry). x.statement) h, ap (λ (x : Entry). x.outcome) h)))
    (Decides-and version (statement && done) (unsigned_Decides e.version f.version)
    (Decides-and statement done (statement_decides e.statement f.statement) (outcome_decides e.outcome f.outcome)))

-- `same_entry` decides whether entries are equal
pub decided : (r : Bool) (e f : Entry) → r ≡ same_entry e f → Decides r (e ≡ f)
decided r e f is = Decides-at r (same_entry e f) is (entry_decides e f)
