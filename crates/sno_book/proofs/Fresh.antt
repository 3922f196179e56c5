-- A proposal on the current text of a book.
use Rattle.std.proofs.Common.{◌≡◌, ◌≢◌, ℕ, Bool, true, false, cond, nat_eq, List, [], ◌∷◌, length, append-nil, Option, Some, None, inl, refl, ap, sym, ◌∙◌}
use Rattle.std.proofs.lemmas.Bool.{eq-eqb, eqb-true, and_from}
use Rattle.sno_pattern.specs.Identifiers.{same}
use Rattle.sno_statement.specs.Statement.{Statement}
use Rattle.sno_book.specs.Openings.{place_in}
use Rattle.sno_book.specs.States.{VersionedText}
use Rattle.sno_book.specs.Commits.{full}
use Rattle.sno_book.specs.Views.{View, AreRelated}
use Rattle.sno_book.specs.Laws.{FreshIsFree, FreshIsRelated}
use Rattle.sno_book.specs.declared.faults.CommitFault.{CommitFault}
use Rattle.sno_book.specs.declared.faults.CommitFault.TheVariants.{Changed, Full}
use Rattle.sno_book.proofs.BookLaws.{refusal_there}

pub same_self : (t : List ℕ) → same t t ≡ true
same_self [] = refl
same_self (c ∷ t) = and_from (nat_eq c c) (same t t) (eq-eqb c c refl) (same_self t)

pub same_equal : (s t : List ℕ) → s ≡ t → same s t ≡ true
same_equal s t h = rw h (same_self t)

pub not_full : (n room : ℕ) (b : Bool) → nat_eq n room ≡ b → n ≢ room → cond b (Some Full) None ≡ None
not_full n room true is h = absurd (h (eqb-true n room is))
not_full n room false is h = refl

pub chosen : (a : Bool) (x : Option CommitFault) (g : CommitFault) → a ≡ true → cond a x (Some g) ≡ x
chosen true x g h = refl
chosen false x g h = cc

pub fresh_is_free : FreshIsFree
fresh_is_free v snapshot s p taken proposed room =
    let versioned : VersionedText = record { name = s.text; text = snapshot.text; version = snapshot.version } in
    let placed : place_in v.opening p.statement.text ≡ Some snapshot.place = ap (λ (t : Statement). place_in v.opening t.text) proposed.statement ∙ taken.place in
    refusal_there v p snapshot.place versioned placed (sym proposed.place) taken.there
    ∙ chosen (nat_eq p.version versioned.version) (full v) (Changed p.version versioned.version) (eq-eqb p.version versioned.version proposed.version)
    ∙ not_full (length v.journal) v.opening.room (nat_eq (length v.journal) v.opening.room) refl room

-- a view begins itself
pub related_self : (one other : View) → one ≡ other → AreRelated one other
related_self one other equal = inl (record { opening = ap (λ (v : View). v.opening) (sym equal); more = []; journal = ap (λ (v : View). v.journal) (sym equal) ∙ sym (append-nil one.journal) })

pub fresh_is_related : FreshIsRelated
fresh_is_related v snapshot s p taken proposed = related_self p.origin v (proposed.origin ∙ taken.origin)
