-- The limit of an image, as a number.
use Rattle.std.specs.Prelude.{◌≡◌, refl}
use Rattle.sno_images.specs.declared.laws.TheConstants.{MAX_NAMED}

-- characters beyond ASCII that have a number of their own: those from 128 to 254
most_named : MAX_NAMED ≡ 127
most_named = refl
