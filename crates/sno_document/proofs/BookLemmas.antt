-- What a book returns for the texts of a document.
use Rattle.std.proofs.Common.{◌≡◌, ℕ, ◌+◌, ◌<◌, ◌≤◌, ◌^◌, Bool, true, false, cond, List, [], length, nat_lt, Option, Some, None, Ok, Err, refl, ap, sym, arith}
use Rattle.std.proofs.Math.ListN.{length-map}
use Rattle.std.proofs.lemmas.Bool.{ltb-true}
use Rattle.sno_pattern.specs.NameList.{first_repeat}
use Rattle.sno_book.specs.Openings as opening
use Rattle.sno_book.specs.Openings.{Opening, opening_of, names_in}
use Rattle.sno_book.specs.declared.faults.BookFault.TheVariants as book
use Rattle.sno_document.specs.Document.{NamedTexts, unless_repeated, distinct}
use Rattle.sno_document.specs.declared.faults.DocumentFault.TheVariants.{TextDuplicate}
use Rattle.sno_document.proofs.PlaceLemmas.{repeat_inside}

found : (o : Option ℕ) (texts : NamedTexts) (room : ℕ) (b : Opening) → opening.unless_repeated o texts room ≡ Ok b
    → (unless_repeated o texts ≡ Ok b.texts) × (b.room ≡ room)
found None texts room b h = let same : record { texts = texts; room = room } ≡ b = cc in (ap (λ (o : Opening). Ok o.texts) same, ap (λ (o : Opening). o.room) (sym same))
found (Some place) texts room b h = cc

opened : (long : Bool) (texts : NamedTexts) (room : ℕ) (b : Opening)
    → cond long (Err book.TooMany) (opening.unless_repeated (first_repeat (names_in texts)) texts room) ≡ Ok b → (distinct texts ≡ Ok b.texts) × (b.room ≡ room)
opened true texts room b h = cc
opened false texts room b h = found (first_repeat (names_in texts)) texts room b h

-- a book holds the texts that it was given
pub book_texts : (texts : NamedTexts) (room : ℕ) (b : Opening) → opening_of texts room ≡ Ok b → (distinct texts ≡ Ok b.texts) × (b.room ≡ room)
book_texts texts room b h = opened (nat_lt 1024 (length texts)) texts room b h

repeats : (o : Option ℕ) (texts : NamedTexts) (room place : ℕ) → opening.unless_repeated o texts room ≡ Err (book.Duplicate place) → o ≡ Some place
repeats None texts room place h = cc
repeats (Some p) texts room place h = cc

repeated : (long : Bool) (texts : NamedTexts) (room place : ℕ)
    → cond long (Err book.TooMany) (opening.unless_repeated (first_repeat (names_in texts)) texts room) ≡ Err (book.Duplicate place)
    → first_repeat (names_in texts) ≡ Some place
repeated true texts room place h = cc
repeated false texts room place h = repeats (first_repeat (names_in texts)) texts room place h

-- a duplicate of the book is one of the document
pub book_duplicate : (texts : NamedTexts) (room place : ℕ) → opening_of texts room ≡ Err (book.Duplicate place) → distinct texts ≡ Err (TextDuplicate (place + 1))
book_duplicate texts room place h = ap (λ (o : Option ℕ). unless_repeated o texts) (repeated (nat_lt 1024 (length texts)) texts room place h)

pub duplicate_small : (texts : NamedTexts) (room place : ℕ) → opening_of texts room ≡ Err (book.Duplicate place) → length texts ≤ 1024 → place + 1 < 2 ^ 64
duplicate_small texts room place h few =
    let first = repeated (nat_lt 1024 (length texts)) texts room place h in
    let inside = repeat_inside [] 0 place (names_in texts) first in
    let many : length (names_in texts) ≡ length texts = length-map texts (λ (t : List ℕ × List ℕ). t.0) in
    omega (arith, inside, many, few)

never : (o : Option ℕ) (texts : NamedTexts) (room : ℕ) → opening.unless_repeated o texts room ≡ Err book.TooMany → false ≡ true
never None texts room h = cc
never (Some p) texts room h = cc

many_if : (long : Bool) (texts : NamedTexts) (room : ℕ) → cond long (Err book.TooMany) (opening.unless_repeated (first_repeat (names_in texts)) texts room) ≡ Err book.TooMany → long ≡ true
many_if true texts room h = refl
many_if false texts room h = never (first_repeat (names_in texts)) texts room h

-- at most 1,024 texts are not too many
pub never_many : (texts : NamedTexts) (room : ℕ) → opening_of texts room ≡ Err book.TooMany → length texts ≤ 1024 → ⊥
never_many texts room h few = let long = ltb-true 1024 (length texts) (many_if (nat_lt 1024 (length texts)) texts room h) in omega (arith, long, few)
