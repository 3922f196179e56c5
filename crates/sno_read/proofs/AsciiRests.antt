-- What is read of an ASCII text is ASCII, and so is what is left of it.
use Rattle.std.proofs.Common.{◌≡◌, ℕ, List, Ok, subst}
use Rattle.sno_read.specs.declared.objects.Part.{Part}
use Rattle.sno_read.specs.Characters.{is_blank, front, skip, start_of}
use Rattle.sno_read.specs.Reading.{Env, literal_at}
use Rattle.sno_read.specs.Objects.{part_at, gap_at}
use Rattle.sno_read.proofs.Ascii.{AreAscii, ascii_front, ascii_behind}
use Rattle.sno_read.proofs.AsciiSets.{literal_content}
use Rattle.sno_read.proofs.Fronts.{front_behind}
use Rattle.sno_read.proofs.TokensRead.{literal_sound}
use Rattle.sno_read.proofs.ObjectTexts.{part_by_sound, gap_sound}

pub literal_ascii : (env : Env) (text s rest : List ℕ) → literal_at env text ≡ Ok (s, rest) → AreAscii text → AreAscii s
literal_ascii env text s rest h a =
    let l = literal_sound env text s rest h in
    literal_content l.0 s l.1 (ascii_front l.0 rest (subst (λ y. AreAscii y) l.2 a))

pub part_ascii : (env : Env) (text : List ℕ) (p : Part) (rest : List ℕ) → part_at env text ≡ Ok (p, rest) → AreAscii text → AreAscii rest
unfolding part_at
part_ascii env text p rest h a =
    let x = part_by_sound env text p rest (start_of text) h in
    ascii_behind x.0 rest (subst (λ y. AreAscii y) x.2 a)

pub gap_ascii : (env : Env) (text rest : List ℕ) → gap_at env text ≡ Ok rest → AreAscii text → AreAscii rest
gap_ascii env text rest h a =
    let b = gap_sound env text rest h in
    ascii_behind b.0 rest (subst (λ y. AreAscii y) b.2 a)

pub skip_ascii : (text : List ℕ) → AreAscii text → AreAscii (skip text)
skip_ascii text a = ascii_behind (front is_blank text) (skip text) (subst (λ y. AreAscii y) (front_behind is_blank text) a)
