-- The limits of desks, as numbers. Those of texts and entries are the limits of the crates below.
use Rattle.std.specs.Prelude.{◌≡◌, refl}
use Rattle.sno_desk.specs.declared.desk.TheConstants.{MAX_SEATS, MAX_TRIES}

most_seats : MAX_SEATS ≡ 16
most_seats = refl

-- how many times a statement may be tried
most_tries : MAX_TRIES ≡ 1000
most_tries = refl
