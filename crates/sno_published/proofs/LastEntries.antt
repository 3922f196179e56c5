-- The last of some entries.
use Rattle.std.proofs.Common.{◌≡◌, ◌+◌, List, [], ◌∷◌, ◌++◌, length, Option, Some, None, refl, ap, sym, ◌∙◌, arith, length-append}
use mathlib.Core.List.{IsPrefix}
use Rattle.sno_book.specs.Entries.{Entry}
use Rattle.sno_published.specs.Changes.{last_after, last_of}

pub last_snoc : (found : Option Entry) (entries : List Entry) (e : Entry) → last_after found (entries ++ e ∷ []) ≡ Some e
last_snoc found [] e = refl
last_snoc found (d ∷ entries) e = last_snoc (Some d) entries e

one_rest : (before rest : List Entry) (e : Entry) → length (before ++ rest) ≡ length before + 1 → last_of (before ++ rest) ≡ Some e → before ++ rest ≡ before ++ e ∷ []
one_rest before [] e long last = absurd (omega (arith, length-append {A = Entry} before [], long))
one_rest before (x ∷ []) e long last =
    let found : Some x ≡ Some e = sym (last_snoc None before x) ∙ last in
    let same : x ≡ e = cc in ap (λ (y : Entry). before ++ y ∷ []) same
one_rest before (x ∷ y ∷ rest) e long last = absurd (omega (arith, length-append before (x ∷ y ∷ rest), long))

-- if one entry was added, the last one is what was added
pub one_more : (before after : List Entry) (e : Entry) → IsPrefix before after → length after ≡ length before + 1 → last_of after ≡ Some e → after ≡ before ++ e ∷ []
one_more before after e begins long last = sym begins.1 ∙ one_rest before begins.0 e (ap length begins.1 ∙ long) (ap last_of begins.1 ∙ last)
