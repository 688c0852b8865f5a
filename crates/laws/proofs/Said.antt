-- A test that may refuse, before what follows it: where something was given, the test passed and the rest gave it. Assumes nothing.
use Prim.Native.Nat.{ℕ}
use mathlib.Core.Path.{◌≡◌, refl, ap}
use mathlib.Core.Bool.{Bool, true, false, cond, false≢true}
use mathlib.Core.List.{List}
use Rattle.laws.specs.Said.{Said, refuses, gives, accepted}

pub passed : {A : Type 0} (refused : Bool) (k : ℕ) (n : List ℕ) (next : Said A) (x : A)
    → cond refused (refuses k n) next ≡ gives x → (refused ≡ false) × (next ≡ gives x)
passed true k n next x e = absurd (false≢true (ap accepted e))
passed false k n next x e = (refl, e)

-- what was given is one thing
given : {A : Type 0} → A → Said A → A
given other (gives x) = x
given other (refuses k n) = other

pub gives_same : {A : Type 0} (x y : A) → gives x ≡ gives y → x ≡ y
unfolding given
gives_same x y e = ap (given x) e
