-- What holds of all that a crash may leave, by induction on the calls.
use Rattle.std.specs.Prelude.{◌≡◌, ◌≤◌, refl, ℕ, ⊤, true, List, [], ◌∷◌, Option, Some, None, Result, Ok, Err, IfErr}
use Rattle.std.specs.List.{AllByRecursion}
use Rattle.sno_replace.specs.declared.calls.Done.{Done}
use Rattle.sno_replace.specs.declared.calls.Done.TheVariants.{RemovedOld, RemovedNew, Linked, Renamed, Waited}
use Rattle.sno_replace.specs.Folders.{Names, after, either_way, left_after, renamed, AtEachMoment, Always, IsQuiet, HasStore, Keeps, names}
use Rattle.sno_replace.specs.Faults.{is_not_replaced}
use Rattle.sno_replace.specs.declared.faults.ReplaceFault.{ReplaceFault}

-- what a call keeps holds of what is left whether it is lost or not
pub either_way_keeps : (P : Names → Type 0) (d : Done) → ((n : Names) → P n → P (after d n)) → (ns : List Names) → AllByRecursion P ns → AllByRecursion P (either_way d ns)
either_way_keeps P d keeps [] all = all
either_way_keeps P d keeps (n ∷ ns) (here, rest) = (here, (keeps n here, either_way_keeps P d keeps ns rest))

-- without a call that moves the new store, the store stays
pub quiet_keeps : (a : ℕ) (done : List Done) → IsQuiet done → (n : Names) → HasStore a n → (ns : List Names) → AllByRecursion (HasStore a) ns → AtEachMoment (HasStore a) n ns done
quiet_keeps a [] quiet n is ns all = all
quiet_keeps a (RemovedOld ∷ done) quiet n is ns all = (all, quiet_keeps a done quiet (after RemovedOld n) is (either_way RemovedOld ns) (either_way_keeps (HasStore a) RemovedOld (λ m it. it) ns all))
quiet_keeps a (RemovedNew ∷ done) quiet n is ns all = (all, quiet_keeps a done quiet (after RemovedNew n) is (either_way RemovedNew ns) (either_way_keeps (HasStore a) RemovedNew (λ m it. it) ns all))
quiet_keeps a (Linked ∷ done) quiet n is ns all = (all, quiet_keeps a done quiet (after Linked n) is (either_way Linked ns) (either_way_keeps (HasStore a) Linked (λ m it. it) ns all))
quiet_keeps a (Renamed ∷ done) quiet n is ns all = elim quiet [ ]
quiet_keeps a (Waited ∷ done) quiet n is ns all = (all, quiet_keeps a done quiet n is (n ∷ []) (is, tt))

-- the new store, if there is one, has at least this many entries
abbrev pub NewHas : (ℕ → ℕ) → ℕ → Option ℕ → Type 0
NewHas entries least None = ⊤
NewHas entries least (Some f) = least ≤ entries f

-- the store and the new one have at least this many
abbrev pub BothKeep : (ℕ → ℕ) → ℕ → Names → Type 0
BothKeep entries least n = Keeps entries least n × NewHas entries least n.new

pub renamed_keeps : (entries : ℕ → ℕ) (least : ℕ) (n : Names) → BothKeep entries least n → (o : Option ℕ) → NewHas entries least o → BothKeep entries least (renamed n o)
renamed_keeps entries least n both None has = both
renamed_keeps entries least n both (Some f) has = ((f, refl, has), tt)

-- each call keeps that
pub call_keeps : (entries : ℕ → ℕ) (least : ℕ) (d : Done) (n : Names) → BothKeep entries least n → BothKeep entries least (after d n)
call_keeps entries least RemovedOld n both = both
call_keeps entries least RemovedNew n both = (both.0, tt)
call_keeps entries least Linked n both = both
call_keeps entries least Renamed n both = renamed_keeps entries least n both n.new both.1
call_keeps entries least Waited n both = both

pub left_keeps : (entries : ℕ → ℕ) (least : ℕ) (d : Done) (n : Names) → BothKeep entries least n → (ns : List Names) → AllByRecursion (BothKeep entries least) ns → AllByRecursion (BothKeep entries least) (left_after d n ns)
left_keeps entries least RemovedOld n both ns all = either_way_keeps (BothKeep entries least) RemovedOld (call_keeps entries least RemovedOld) ns all
left_keeps entries least RemovedNew n both ns all = either_way_keeps (BothKeep entries least) RemovedNew (call_keeps entries least RemovedNew) ns all
left_keeps entries least Linked n both ns all = either_way_keeps (BothKeep entries least) Linked (call_keeps entries least Linked) ns all
left_keeps entries least Renamed n both ns all = either_way_keeps (BothKeep entries least) Renamed (call_keeps entries least Renamed) ns all
left_keeps entries least Waited n both ns all = (both, tt)

pub stores_keep : (entries : ℕ → ℕ) (least : ℕ) (ns : List Names) → AllByRecursion (BothKeep entries least) ns → AllByRecursion (Keeps entries least) ns
stores_keep entries least [] all = all
stores_keep entries least (n ∷ ns) (both, rest) = (both.0, stores_keep entries least ns rest)

-- whatever is called, a store is there that has at least so many entries
pub always_keeps : (entries : ℕ → ℕ) (least : ℕ) (done : List Done) (n : Names) → BothKeep entries least n → (ns : List Names) → AllByRecursion (BothKeep entries least) ns → AtEachMoment (Keeps entries least) n ns done
always_keeps entries least [] n both ns all = stores_keep entries least ns all
always_keeps entries least (d ∷ done) n both ns all = (stores_keep entries least ns all, always_keeps entries least done (after d n) (call_keeps entries least d n both) (left_after d n ns) (left_keeps entries least d n both ns all))

-- a replacement that failed before the new store had its place has left the store at each moment
pub kept_if_quiet : {T : Type 0} (r : Result T ReplaceFault) (done : List Done) → IfErr r (λ fault. is_not_replaced fault ≡ true → IsQuiet done)
    → IfErr r (λ fault. is_not_replaced fault ≡ true → (a b : ℕ) (old : Option ℕ) → Always (HasStore a) (names (Some a) (Some b) old) done)
kept_if_quiet (Ok it) done quiet = tt
kept_if_quiet (Err fault) done quiet = λ is a b old. quiet_keeps a done (quiet is) (names (Some a) (Some b) old) refl (names (Some a) (Some b) old ∷ []) (refl, tt)
