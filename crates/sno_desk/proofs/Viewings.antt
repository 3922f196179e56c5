-- What a seat returns, from what its viewer sees.
use Rattle.std.proofs.Common.{◌≡◌, ◌≢◌, ◌<◌, ℕ, List, [], ◌∷◌, length, map, Some, None, Result, Ok, Err, IfErr, refl, ap, sym, ◌∙◌, arith}
use Rattle.std.proofs.lemmas.List.{length-map}
use Rattle.std.proofs.lemmas.Option.{slice_get-get_or}
use Rattle.std.specs.Option.{option_map}
use Rattle.std.specs.Prelude.{Option}
use Rattle.std.specs.Fn.{Once}
use denote.Ref.{Bor}
use Rattle.sno_book.specs.States.{VersionedText}
use Rattle.sno_book.specs.Entries.{Entry}
use Rattle.sno_book.specs.Journals.{replay}
use Rattle.sno_book.specs.Openings.{Opening, names_in, place_in, start}
use Rattle.sno_book.specs.Snapshots.{Snapshot}
use Rattle.sno_published.specs.Snapshots.{if_all, snapshot_at, snapshot_of, snapshots_of}
use Rattle.sno_published.specs.Tables.{text_after}
use Rattle.sno_published.specs.Viewings.{GivesLent, IsCause, Viewing}
use Rattle.sno_published.specs.declared.faults.ViewFault.{ViewFault}
use Rattle.sno_published.specs.declared.faults.ViewFault.TheVariants.{Ended, Older, Memory}
use Rattle.sno_desk.specs.Seen.{IsLookCause, IsPlaceCause, places_of}
use Rattle.sno_desk.specs.declared.faults.LookFault.{LookFault}
use Rattle.sno_desk.specs.declared.faults.LookFault.TheVariants as look
use Rattle.sno_book.proofs.Places.{stands_at, stands_inside}
use Rattle.sno_book.proofs.Standing.{names_kept, standing}

-- at the place of a name there is a text after any entries
pub stays_there : (opening : Opening) (entries : List Entry) (name : List ℕ) (place : ℕ) → place_in opening name ≡ Some place → text_after opening entries place ≢ None
stays_there opening entries name place at none = let stood = standing opening entries name place at in absurd (cc (stood.there, none))

-- at each place of the opening there is a text after any entries
pub held_there : (opening : Opening) (entries : List Entry) (place : ℕ) → place < length opening.texts → text_after opening entries place ≢ None
held_there opening entries place within none =
    let state = replay (start opening) entries in
    let names = names_kept (record { opening = opening; journal = entries }) in
    let many : length state ≡ length opening.texts =
    sym (length-map state (λ t. t.name)) ∙ ap length names ∙ length-map opening.texts (λ t. t.0) in
    let at = slice_get-get_or state place (record { name = []; text = []; version = 0 }) (omega (arith, many, within)) in
    absurd (cc (at, none))

-- what is said of each fault follows from what is known of it
pub if_err_so : {T E : Type 0} (r : Result T E) (P Q : E → Type 0) → ((e : E) → P e → Q e) → IfErr r P → IfErr r Q
if_err_so (Ok v) P Q so h = h
if_err_so (Err e) P Q so h = so e h

-- at the place of a name `NoText` never comes
pub look_cause : (fault : LookFault) (opening : Opening) (name : List ℕ) (place : ℕ) → place_in opening name ≡ Some place → IsPlaceCause fault opening place
    → IsLookCause fault opening name
look_cause look.NoText opening name place at past =
    let names = names_in opening.texts in
    let within = stands_inside name place names (stands_at name place names at) in
    absurd (omega (arith, within, past, length-map opening.texts (λ t. t.0)))
look_cause look.Stopped opening name place at within = λ none. absurd (cc (at, none))

-- a look that was refused has shown nothing more
pub sees_no_more : (fault : ViewFault) (before after : Viewing) → fault ≢ Memory → IsCause fault before after → after.seen ≡ before.seen
sees_no_more Ended before after other cause = cause
sees_no_more Older before after other cause = cause.0
sees_no_more Memory before after other cause = absurd (other refl)

-- a function that wasn't called had no text to be called with
pub lent_none : {F T : Type 0} (calls : Once F (Bor (List ℕ) × (ℕ × Unit {0})) T) (f : F) (opening : Opening) (held : Option VersionedText) (place : ℕ) (o : Option T)
    → o ≡ None → GivesLent calls f opening held place o → held ≡ None
lent_none calls f opening None place o none given = refl
lent_none calls f opening (Some held) place None none given = absurd given
lent_none calls f opening (Some held) place (Some r) none given = absurd cc

-- a list with one value more is there if the rest is
is_there : {A : Type 0} (a : A) (rest : Option (List A)) → rest ≢ None → option_map (λ more. a ∷ more) rest ≢ None
is_there a None there = absurd (there refl)
is_there a (Some more) there = λ none. absurd cc

was_there : {A : Type 0} (a : A) (rest : Option (List A)) → option_map (λ more. a ∷ more) rest ≢ None → rest ≢ None
was_there a None there = absurd (there refl)
was_there a (Some more) there = λ none. absurd cc

one_there : (opening : Opening) (seen : List Entry) (name : List ℕ) (places : List (Option ℕ)) (rest : List (Option Snapshot)) → (if_all places ≢ None → if_all rest ≢ None)
    → (found : Option ℕ) → place_in opening name ≡ found → if_all (found ∷ places) ≢ None → if_all (snapshot_at opening seen found ∷ rest) ≢ None
one_there opening seen name places rest others None at there = absurd (there refl)
one_there opening seen name places rest others (Some place) at there = held (text_after opening seen place) refl
  where
    held : (found : Option VersionedText) → text_after opening seen place ≡ found → if_all (snapshot_at opening seen (Some place) ∷ rest) ≢ None
    held None is = absurd (stays_there opening seen name place at is)
    held (Some text) is = rw is (is_there _ (if_all rest) (others (was_there place (if_all places) there)))

-- if the opening has a text of each of the names, there is a snapshot of each
pub all_there : (opening : Opening) (seen : List Entry) (names : List (List ℕ)) → places_of opening names ≢ None → snapshots_of opening seen names ≢ None
all_there opening seen [] there = λ none. absurd cc
all_there opening seen (name ∷ names) there =
    one_there opening seen name (map (place_in opening) names) (map (snapshot_of opening seen) names) (all_there opening seen names) (place_in opening name) refl there
