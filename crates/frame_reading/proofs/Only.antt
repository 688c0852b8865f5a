-- An identifier is told by its format and its number, so two that meet a contract are equal. Assumes nothing.
use Prim.Native.Nat.{ℕ}
use mathlib.Core.Path.{◌≡◌, refl}
use mathlib.Core.Bool.{Bool, true, false}
use Rattle.laws.proofs.Only.{only}
use Rattle.identifiers.specs.declared.Id.{Id}
use Rattle.identifiers.specs.declared.Id.TheVariants.{Standard, Extended}
use Rattle.frame_reading.specs.Reading.{id_said}

id_back : Bool × ℕ → Id
id_back (false, raw) = Standard (record { 0 = raw })
id_back (true, raw) = Extended (record { 0 = raw })

id-back : (r : Id) → id_back (id_said r) ≡ r
unfolding id_back
id-back (Standard id) = refl
id-back (Extended id) = refl

pub only-identifier : (r s : Id) → id_said r ≡ id_said s → r ≡ s
only-identifier = only id_said id_back id-back
