-- What an Ok says of the steps that led to it.
use Rattle.std.proofs.Common.{◌≡◌, Bool, true, false, cond, ap, ◌||◌, Option, Some, None, Result, Ok, Err, refl}
use Rattle.std.specs.Option.{is_some}
use Rattle.sno_read.specs.declared.faults.ReadFault.{ReadFault}
use Rattle.sno_read.specs.Gives.{◌>>=◌, found_or}

pub bind_ok : {A B : Type 0} (r : Result A ReadFault) (f : A → Result B ReadFault) (y : B) → (r >>= f) ≡ Ok y → (x : A) × (r ≡ Ok x) × (f x ≡ Ok y)
bind_ok (Ok x) f y h = (x, refl, h)
bind_ok (Err e) f y h = cc

pub found_ok : {A : Type 0} (e : ReadFault) (o : Option A) (x : A) → found_or e o ≡ Ok x → o ≡ Some x
found_ok e None x h = cc
found_ok e (Some y) x h = cc

pub if_ok : {A : Type 0} (b : Bool) (r : Result A ReadFault) (e : ReadFault) (y : A) → cond b r (Err e) ≡ Ok y → (b ≡ true) × (r ≡ Ok y)
if_ok true r e y h = (refl, h)
if_ok false r e y h = cc

pub unless_ok : {A : Type 0} (b : Bool) (r : Result A ReadFault) (e : ReadFault) (y : A) → cond b (Err e) r ≡ Ok y → (b ≡ false) × (r ≡ Ok y)
unless_ok true r e y h = cc
unless_ok false r e y h = (refl, h)

pub if_some : {A : Type 0} (b : Bool) (o : Option A) (y : A) → cond b o None ≡ Some y → (b ≡ true) × (o ≡ Some y)
if_some true o y h = (refl, h)
if_some false o y h = cc

pub unless_some : {A : Type 0} (b : Bool) (o : Option A) (y : A) → cond b None o ≡ Some y → (b ≡ false) × (o ≡ Some y)
unless_some true o y h = cc
unless_some false o y h = (refl, h)

pub ok_same : {A : Type 0} (x y : A) → ◌≡◌ {A = Result A ReadFault} (Ok x) (Ok y) → x ≡ y
ok_same x y h = cc

pub or_false : (a b : Bool) → (a || b) ≡ false → (a ≡ false) × (b ≡ false)
or_false true b h = cc
or_false false b h = (refl, h)

pub none_is : {A : Type 0} (o : Option A) → is_some o ≡ false → o ≡ None
none_is None h = refl
none_is (Some x) h = cc

pub pair_ok : {A B : Type 0} (p : A × B) (x : A) (y : B) → ◌≡◌ {A = Result (A × B) ReadFault} (Ok p) (Ok (x, y)) → (p.0 ≡ x) × (p.1 ≡ y)
pair_ok {A} {B} p x y h = (ap (λ (z : A × B). z.0) (ok_same p (x, y) h), ap (λ (z : A × B). z.1) (ok_same p (x, y) h))

pub if_false : {A : Type 0} (v : Bool) (x y : A) → v ≡ false → cond v x y ≡ y
if_false true x y h = cc
if_false false x y h = refl

pub if_true : {A : Type 0} (v : Bool) (x y : A) → v ≡ true → cond v x y ≡ x
if_true true x y h = refl
if_true false x y h = cc
