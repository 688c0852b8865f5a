-- What each pattern character asks for, from the tests that tell it. Assumes nothing.
use Prim.Native.Nat.{ℕ, ◌+◌, ◌<◌}
use mathlib.Core.Path.{◌≡◌}
use mathlib.Core.Bool.{Bool, true, false, cond}
use lib.Dec.{T, eqb}
use native.Mathlib.Decide.{ℕ_discrete}
use native.Mathlib.Omega.{arith}
use borrow.Author.Tests.{ne_eqb}
use Rattle.filter_characters.specs.Characters.{is_character}
use Rattle.filter_characters.proofs.Characters.{character-none}
use Rattle.filter_compilers.specs.Words.{one, care}

pub one-is : (c : ℕ) → c ≡ 49 → one c ≡ 1
unfolding one
one-is c e = rw e

pub one-not : (c : ℕ) → (c ≡ 49 → ⊥) → one c ≡ 0
unfolding one
one-not c n = rw (ne_eqb c 49 n)

pub care-not : (c : ℕ) → c ≡ 120 → care c ≡ 0
unfolding care
care-not c e = rw e

pub care-is : (c : ℕ) → (c ≡ 120 → ⊥) → care c ≡ 1
unfolding care
care-is c n = rw (ne_eqb c 120 n)

one-small : (b : Bool) → cond {A = ℕ} b 1 0 < 2
one-small true = omega arith
one-small false = omega arith

care-small : (b : Bool) → cond {A = ℕ} b 0 1 < 2
care-small true = omega arith
care-small false = omega arith

pub one-lt : (c : ℕ) → one c < 2
unfolding one
one-lt c = one-small (eqb c 49)

pub care-lt : (c : ℕ) → care c < 2
unfolding care
care-lt c = care-small (eqb c 120)

-- a character other than `x` is `0` or `1`, as its bit says
pub value : (c : ℕ) → T (is_character c) → (c ≡ 120 → ⊥) → c ≡ 48 + one c
unfolding one
value c t n = elim (ℕ_discrete c 48) [ yes e ↦ rw e | no n0 ↦ elim (ℕ_discrete c 49) [ yes e ↦ rw e | no n1 ↦ absurd (rw (character-none c n0 n1 n) at t) ] ]
