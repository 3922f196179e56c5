-- Proposals that fit a book: exactly those that nothing refuses.
use Rattle.std.proofs.Common.{◌≡◌, ◌<◌, ℕ, zero, suc, List, [], ◌∷◌, ◌++◌, length, nat_eq, Some, None, Ok, slice_get, refl, ap, sym, subst, ◌∙◌, arith}
use Rattle.std.specs.Arc.{arc_value}
use Rattle.std.proofs.lemmas.Bool.{eq-eqb}
use Rattle.sno_pattern.proofs.Repeats.{repeats_are_found}
use Rattle.sno_statement.specs.Perform.{perform}
use Rattle.sno_book.specs.States.{VersionedText, State}
use Rattle.sno_book.specs.Entries.{Entry}
use Rattle.sno_book.specs.Openings.{names_in, start, place_in}
use Rattle.sno_book.specs.Views.{View, IsValid, AreRelated, state_of, and_then}
use Rattle.sno_book.specs.Books.{Book, view_of}
use Rattle.sno_book.specs.Origins.{HoldsText, IsPerformed}
use Rattle.sno_book.specs.Proposals.{Proposal, Receipt, entry_of}
use Rattle.sno_book.specs.Commits.{full, refusal, Fits, IsAccepted}
use Rattle.sno_book.specs.VersionedTexts.{Keeps, with_names}
use Rattle.sno_book.specs.declared.faults.CommitFault.TheVariants.{Changed}
use Rattle.sno_book.specs.declared.versioned_texts.VersionedText.{VersionedText as StoredText}
use Rattle.sno_book.proofs.Places.{StandsAt, stands_at, same_is}
use Rattle.sno_book.proofs.Steps.{replay_snoc}
use Rattle.sno_book.proofs.BookLaws.{IsFree, free, free_step, place_inside, refusal_there, stands_there}
use Rattle.sno_book.proofs.Rising.{versions_count_entries, related_agree}
use Rattle.sno_book.proofs.Fresh.{chosen, not_full}
use Rattle.sno_book.proofs.Named.{placed_at}

-- the text at the place of a name has that name
named_at : (name : List ℕ) (k : ℕ) (names : List (List ℕ)) (stored : List StoredText) (versioned : VersionedText) → StandsAt name names k
    → slice_get (with_names names stored) k ≡ Some versioned → versioned.name ≡ name
named_at name k [] stored versioned at there = absurd at
named_at name k (n ∷ names) [] versioned at there = cc
named_at name zero (n ∷ names) (x ∷ stored) versioned at there = let here : n ≡ versioned.name = cc in sym here ∙ sym (same_is name n at)
named_at name (suc k) (n ∷ names) (x ∷ stored) versioned at there = named_at name k names stored versioned at.1 there

-- a text at a place has the name of that place
name_there : (k : ℕ) (names : List (List ℕ)) (stored : List StoredText) (versioned : VersionedText) → slice_get (with_names names stored) k ≡ Some versioned
    → slice_get names k ≡ Some versioned.name
name_there k [] stored versioned there = cc
name_there k (n ∷ names) [] versioned there = cc
name_there zero (n ∷ names) (x ∷ stored) versioned there = let here : n ≡ versioned.name = cc in ap (λ (m : List ℕ). Some m) here
name_there (suc k) (n ∷ names) (x ∷ stored) versioned there = name_there k names stored versioned there

-- a proposal that nothing refuses fits
pub fits : (v : View) (p : Proposal) (stored : List StoredText) → Keeps v stored → refusal v p ≡ None → Fits v p
fits v p stored keeps unrefused =
    let f = free v p unrefused in
    let names = names_in v.opening.texts in
    let there : slice_get (with_names names stored) p.place ≡ Some f.versioned = ap (λ (s : State). slice_get s p.place) keeps.texts ∙ f.there in
    let named = named_at p.statement.text p.place names stored f.versioned (stands_at p.statement.text p.place names f.placed) there in
    let count = versions_count_entries v p.place f.versioned f.there in
    record {
      text = f.versioned.text;
      there = f.there ∙ (λ i. Some (record { name = named i; text = f.versioned.text; version = sym f.version i }));
      room = omega (arith, keeps.valid.within, f.room);
      rises = omega (arith, count, f.version, keeps.valid.within, keeps.valid.opening.room);
    }

-- and nothing refuses one that fits
pub fits_free : (v : View) (p : Proposal) (stored : List StoredText) → Keeps v stored → Fits v p → refusal v p ≡ None
fits_free v p stored keeps h =
    let names = names_in v.opening.texts in
    let versioned : VersionedText = record { name = p.statement.text; text = h.text; version = p.version } in
    let there : slice_get (with_names names stored) p.place ≡ Some versioned = ap (λ (s : State). slice_get s p.place) keeps.texts ∙ h.there in
    let apart = (repeats_are_found names).0 keeps.valid.opening.apart in
    let placed : place_in v.opening p.statement.text ≡ Some p.place = placed_at p.place p.statement.text names apart (name_there p.place names stored versioned there) in
    refusal_there v p p.place versioned placed refl h.there
    ∙ chosen (nat_eq p.version p.version) (full v) (Changed p.version p.version) (eq-eqb p.version p.version refl)
    ∙ not_full (length v.journal) v.opening.room (nat_eq (length v.journal) v.opening.room) refl (λ same. omega (arith, h.room, same))

-- the place of a proposal that nothing refuses is less than the number of texts
pub place_free : (b book : Book) (p : Proposal) (stored : List StoredText) → b ≡ book → Keeps (view_of b) stored → refusal (view_of book) p ≡ None → p.place < length stored
place_free b book p stored equal keeps none =
    let f = free (view_of b) p (ap (λ (c : Book). refusal (view_of c) p) equal ∙ none) in place_inside b stored p.statement.text p.place keeps f.placed

-- the text in the book is the one that the proposal's statement was performed on
pub stands_still : (b book : Book) (p : Proposal) (stored : List StoredText) (s : StoredText) → b ≡ book → Keeps (view_of b) stored → refusal (view_of book) p ≡ None
    → AreRelated p.origin (view_of book) → IsPerformed p.origin p.place p.version p.statement p.outcome → slice_get stored p.place ≡ Some s
    → HoldsText p.origin p.place p.version (arc_value s.text)
stands_still b book p stored s equal keeps none related performed at =
    let f = free (view_of b) p (ap (λ (c : Book). refusal (view_of c) p) equal ∙ none) in
    let there = stands_there b stored p.statement.text p.place s keeps f.placed at in
    let is : f.versioned ≡ record { name = p.statement.text; text = arc_value s.text; version = s.version } = cc in
    let here : AreRelated p.origin (view_of b) = subst (λ (c : Book). AreRelated p.origin (view_of c)) (sym equal) related in
    let before : VersionedText = record { name = performed.held.name; text = performed.text; version = p.version } in
    let now : VersionedText = record { name = p.statement.text; text = arc_value s.text; version = s.version } in
    let text : performed.text ≡ arc_value s.text =
    related_agree p.origin (view_of b) here p.place before now performed.held.there there (f.version ∙ ap (λ (x : VersionedText). x.version) is) in
    subst (λ (t : List ℕ). HoldsText p.origin p.place p.version t) text performed.held

pub fits_still : (b book : Book) (p ready : Proposal) (stored : List StoredText) (journal : List Entry) → b ≡ book → ready ≡ p → journal ≡ b.journal → Keeps (view_of b) stored
    → refusal (view_of book) p ≡ None → Fits (record { opening = b.opening; journal = journal }) ready
fits_still b book p ready stored journal same holds still keeps none =
    let here : Fits (view_of b) p = fits (view_of b) p stored keeps (ap (λ (c : Book). refusal (view_of c) p) same ∙ none) in
    let now : Fits (record { opening = b.opening; journal = journal }) p =
    subst (λ (j : List Entry). Fits (record { opening = b.opening; journal = j }) p) (sym still) here in
    subst (λ (q : Proposal). Fits (record { opening = b.opening; journal = journal }) q) (sym holds) now

-- a proposal that was prepared, and a book that it fits
module _ (b book : Book) (p ready : Proposal) (stored : List StoredText) (text : List ℕ) (equal : b ≡ book) (holds : p ≡ ready) (keeps : Keeps (view_of b) stored)
    (fit : Fits (view_of book) ready) (related : AreRelated ready.origin (view_of book)) (stands : HoldsText p.origin p.place p.version text) (performed : perform p.statement text ≡ Ok p.outcome) where
  fit_here : Fits (view_of b) p
  fit_here =
      let here : Fits (view_of b) ready = subst (λ (c : Book). Fits (view_of c) ready) (sym equal) fit in
      subst (λ (q : Proposal). Fits (view_of b) q) (sym holds) here

  related_here : AreRelated p.origin (view_of b)
  related_here =
      let here : AreRelated ready.origin (view_of b) = subst (λ (c : Book). AreRelated ready.origin (view_of c)) (sym equal) related in
      subst (λ (q : Proposal). AreRelated q.origin (view_of b)) (sym holds) here

  none_here : refusal (view_of b) p ≡ None
  none_here = fits_free (view_of b) p stored keeps fit_here

  -- nothing refuses it
  pub free_here : IsFree (view_of b) p
  free_here = free (view_of b) p none_here

  -- its statement was performed on the book's text
  pub performed_here : perform p.statement free_here.versioned.text ≡ Ok p.outcome
  performed_here =
      let before : VersionedText = record { name = stands.name; text = text; version = p.version } in
      let agree : text ≡ free_here.versioned.text = related_agree p.origin (view_of b) related_here p.place before free_here.versioned stands.there free_here.there free_here.version in
      ap (λ (t : List ℕ). perform p.statement t) (sym agree) ∙ performed

  -- and so it is accepted
  pub accepted : (journal : List Entry) (given : Receipt) → journal ≡ b.journal ++ entry_of p ∷ []
      → given ≡ record { index = length b.journal; entry = entry_of p; text = text } → IsAccepted (view_of book) (record { opening = b.opening; journal = journal }) ready given
  accepted journal given grown received =
      let v : View = view_of b in
      let appended : record { opening = v.opening; journal = journal } ≡ and_then v (entry_of p) = ap (λ (j : List Entry). record { opening = v.opening; journal = j }) grown in
      let before : VersionedText = record { name = stands.name; text = text; version = p.version } in
      let now : VersionedText = record { name = p.statement.text; text = fit_here.text; version = p.version } in
      let agree : text ≡ fit_here.text = related_agree p.origin v related_here p.place before now stands.there fit_here.there refl in
      let given_text : text ≡ given.text = sym (ap (λ (r : Receipt). r.text) received) in
      let is : IsAccepted v (record { opening = b.opening; journal = journal }) p given = record {
        free = none_here;
        appended = appended;
        has_step = free_step v p stored keeps free_here performed_here;
        stepped = ap (λ (w : View). state_of w) appended ∙ replay_snoc (start v.opening) v.journal (entry_of p);
        index = ap (λ (r : Receipt). r.index) received;
        entry = ap (λ (r : Receipt). r.entry) received;
        text = fit_here.there ∙ ap (λ (t : List ℕ). Some (record { name = p.statement.text; text = t; version = p.version })) (sym agree ∙ given_text);
        seen = subst (λ (t : List ℕ). HoldsText p.origin p.place p.version t) given_text stands;
      } in
      let at_book : IsAccepted (view_of book) (record { opening = b.opening; journal = journal }) p given =
      subst (λ (c : Book). IsAccepted (view_of c) (record { opening = b.opening; journal = journal }) p given) equal is in
      subst (λ (q : Proposal). IsAccepted (view_of book) (record { opening = b.opening; journal = journal }) q given) holds at_book

-- a current text of a book
pub stands_in : (book : Book) (origin : View) (name taken text : List ℕ) (place version : ℕ) → origin ≡ view_of book → IsValid (view_of book) → text ≡ taken
    → slice_get (state_of (view_of book)) place ≡ Some (record { name = name; text = taken; version = version }) → HoldsText origin place version text
stands_in book origin name taken text place version from valid same_text there =
    let here : HoldsText (view_of book) place version taken = record { valid = valid; name = name; there = there } in
    let at : HoldsText origin place version taken = subst (λ (v : View). HoldsText v place version taken) (sym from) here in
    subst (λ (t : List ℕ). HoldsText origin place version t) (sym same_text) at
