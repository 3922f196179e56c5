-- What `clap` reads from arguments.
use Rattle.std.proofs.Common.{◌≡◌, ◌⊎◌, ℕ, Bool, true, false, cond, List, [], ◌∷◌, length, map, Option, Some, None, Result, Ok, Err, IfOk, unwrap_or, nat_lt, string_bytes, String, Global, refl, sym, ap, subst, ◌∙◌, inl, inr, codes}
use Rattle.std.specs.List.{list_all}
use Rattle.std.specs.Option.{option_map_or}
use Rattle.std.specs.Prelude.{option_and_then}
use Rattle.std.specs.Char.{digit_value}
use Rattle.std.specs.Str.{bytes_eq}
use Rattle.std.specs.Str.Parse.{AllDigits, ParsesBool, ParsesUnsigned, digits_value, without_leading_plus}
use Rattle.std.proofs.lemmas.Bool.{and_from, and_parts, lt-ltb, ltb-true}
use Rattle.std.proofs.lemmas.Slice.Eq.{bytes_eq-Decides}
use Rattle.clap.specs.Words.{App, IsAmong, ReadsOne, Row, Text, fault_of, is_simple, is_simple_and_free, matches_of}
use Rattle.clap.specs.declared.error.kind.ErrorKind.{ErrorKind}
use Rattle.clap.specs.declared.error.kind.ErrorKind.TheVariants.{OutOfMemory}
use Rattle.clap.proofs.OnLiterals.{clap_on_literals}
use Rattle.sno_rewrite.specs.CommandLine.{AreRefused, IsParsed, IsChecked, IsFaultOf, faults, is_numeral, number_of_text, option_rows, options_in, plain_options, program, shared_program}
use Rattle.sno_rewrite.specs.declared.options.Options.{Options}
use Rattle.sno_rewrite.specs.declared.command_line.OptionsFault.{OptionsFault}
use Rattle.sno_rewrite.specs.declared.command_line.OptionsFault.TheVariants.{Help, Usage, Memory}

-- the program is one of those whose matches and faults are known
pub program_simple : is_simple program ≡ true
unfolding program shared_program
program_simple = refl

pub program_free : is_simple_and_free program ≡ true
unfolding program shared_program
program_free = refl

pub option_rows_are : (a : App) (words : List Text) → a ≡ program → matches_of a words ≡ option_rows words
unfolding option_rows
option_rows_are a words is = ap (λ (b : App). matches_of b words) is

pub faults_are : (a : App) (words : List Text) → a ≡ program → fault_of a words ≡ faults words
unfolding faults
faults_are a words is = ap (λ (b : App). fault_of b words) is

digits_true : (ds : Text) → AllDigits 10 ds → list_all (λ d. nat_lt (digit_value d) 10) ds ≡ true
digits_true [] h = refl
digits_true (d ∷ ds) h = and_from _ _ (lt-ltb (digit_value d) 10 h.0) (digits_true ds h.1)

digits_from : (ds : Text) → list_all (λ d. nat_lt (digit_value d) 10) ds ≡ true → AllDigits 10 ds
digits_from [] h = tt
digits_from (d ∷ ds) h = let parts = and_parts (nat_lt (digit_value d) 10) _ h in (ltb-true (digit_value d) 10 parts.0, digits_from ds parts.1)

number_yes : (b : Bool) (n v : ℕ) → b ≡ true → v ≡ n → Some v ≡ cond b (Some n) None
number_yes true n v h is = ap (λ (m : ℕ). Some m) is
number_yes false n v h is = cc

number_no : (b : Bool) (n : ℕ) → (b ≡ true → ⊥) → None ≡ cond b (Some n) None
number_no true n h = absurd (h refl)
number_no false n h = refl

number_as_read : {E : Type 0} (G : Text → Result ℕ E → Type 0) (t : Text) (r : Option ℕ) → ((x : Result ℕ E) → G t x → ParsesUnsigned 32 10 t x)
    → ReadsOne G t r → r ≡ number_of_text (without_leading_plus t)
number_as_read G t (Some v) parses read =
    let p = parses (Ok v) read in
    let ds = without_leading_plus t in
    number_yes _ (digits_value 10 ds) v (and_from _ _ (and_from _ _ (lt-ltb 0 (length ds) p.0.0.0) (digits_true ds p.0.0.1)) (lt-ltb (digits_value 10 ds) 4294967296 p.0.1)) p.1
number_as_read G t None parses read =
    let ds = without_leading_plus t in
    number_no _ (digits_value 10 ds) (λ h.
    let parts = and_parts (is_numeral ds) (nat_lt (digits_value 10 ds) 4294967296) h in
    let digits = and_parts (nat_lt 0 (length ds)) _ parts.0 in
    parses (Err read.0) read.1 ((ltb-true 0 (length ds) digits.0, digits_from ds digits.1), ltb-true (digits_value 10 ds) 4294967296 parts.1))

-- the number that is read from an option's text
pub number_read : {E : Type 0} (G : Text → Result ℕ E → Type 0) (o : Option Text) (r : Option ℕ) → ((t : Text) (x : Result ℕ E) → G t x → ParsesUnsigned 32 10 t x)
    → (o ≡ None → r ≡ None) → ((t : Text) → o ≡ Some t → ReadsOne G t r) → r ≡ option_and_then (λ t. number_of_text (without_leading_plus t)) o
number_read G None r parses none value = none refl
number_read G (Some t) r parses none value = number_as_read G t r (parses t) (value t refl)

unless : (b : Bool) → (b ≡ true → ⊥) → false ≡ b
unless true h = absurd (h refl)
unless false h = refl

flag_as_read : {E : Type 0} (G : Text → Result Bool E → Type 0) (t : Text) (r : Option Bool) → ((x : Result Bool E) → G t x → ParsesBool t x)
    → ReadsOne G t r → unwrap_or r false ≡ bytes_eq t (codes "true")
flag_as_read G t (Some true) parses read = sym ((bytes_eq-Decides t (codes "true")).1 (parses (Ok true) read))
flag_as_read G t (Some false) parses read = sym (ap (λ (x : Text). bytes_eq x (codes "true")) (parses (Ok false) read))
flag_as_read G t None parses read = unless (bytes_eq t (codes "true")) (λ h. (parses (Err read.0) read.1).0 ((bytes_eq-Decides t (codes "true")).0 h))

-- whether a flag's text is `true`
pub flag_read : {E : Type 0} (G : Text → Result Bool E → Type 0) (o : Option Text) (r : Option Bool) → ((t : Text) (x : Result Bool E) → G t x → ParsesBool t x)
    → (o ≡ None → r ≡ None) → ((t : Text) → o ≡ Some t → ReadsOne G t r) → unwrap_or r false ≡ option_map_or (λ t. bytes_eq t (codes "true")) o false
flag_read G None r parses none value = ap (λ (x : Option Bool). unwrap_or x false) (none refl)
flag_read G (Some t) r parses none value = flag_as_read G t r (parses t) (value t refl)

-- what is returned for a fault is right for the arguments that have it
pub fault_result : (words : List Text) (kind : ErrorKind) (fault : OptionsFault) → (kind ≡ OutOfMemory) ⊎ IsAmong kind (faults words) → IsFaultOf kind fault
    → IsParsed words (Err fault)
fault_result words kind (Help text) (inl memory) (inl help) = cc
fault_result words kind (Help text) (inl memory) (inr version) = cc
fault_result words kind (Help text) (inr among) (inl help) = inl (subst (λ (k : ErrorKind). IsAmong k (faults words)) help among)
fault_result words kind (Help text) (inr among) (inr version) = inr (subst (λ (k : ErrorKind). IsAmong k (faults words)) version among)
fault_result words kind (Usage text) (inl memory) tells = absurd (tells.2 memory)
fault_result words kind (Usage text) (inr among) tells = AreRefused.unread kind among tells.0 tells.1
fault_result words kind Memory h tells = tt

plain_given : options_in (option_rows []) ≡ plain_options
unfolding option_rows program shared_program clap_on_literals
plain_given = refl

-- no arguments give the plain options
pub plain_result : (words : List (String Global)) (rows : List Row) (options : Options) (result : Result Options OptionsFault) → rows ≡ option_rows (map string_bytes words)
    → options ≡ options_in rows → IsChecked options result → words ≡ [] → IfOk result (λ o. o ≡ plain_options)
plain_result words rows options (Ok o) are given checked none =
    checked.0 ∙ given ∙ ap options_in (are ∙ ap (λ (w : List (String Global)). option_rows (map string_bytes w)) none) ∙ plain_given
plain_result words rows options (Err e) are given checked none = tt
