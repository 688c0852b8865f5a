-- Tests joined by "or" and "and", taken apart and put together. Assumes nothing.
use mathlib.Core.Path.{◌≡◌, refl, sym}
use mathlib.Core.Bool.{Bool, true, false, ◌||◌, ◌&&◌, true≢false, false≢true}
use lib.Dec.{T}

pub neither : (a b : Bool) → (a || b) ≡ false → (a ≡ false) × (b ≡ false)
neither false b e = (refl, e)
neither true b e = absurd (true≢false e)

pub or_no : (a b : Bool) → a ≡ false → b ≡ false → (a || b) ≡ false
or_no false b e h = h
or_no true b e h = absurd (true≢false e)

pub not-both : (a b : Bool) → (a && b) ≡ false → a ≡ true → b ≡ false
not-both false b e h = absurd (false≢true h)
not-both true b e h = e

pub and_no : (a b : Bool) → (a ≡ true → b ≡ false) → (a && b) ≡ false
and_no false b h = refl
and_no true b h = h refl

pub both_true : (a b : Bool) → (a && b) ≡ true → (a ≡ true) × (b ≡ true)
both_true true b e = (refl, e)
both_true false b e = absurd (false≢true e)

-- two tests that both pass
pub both_left : (a b : Bool) → T (a && b) → T a
both_left true b t = tt
both_left false b t = t

pub both_right : (a b : Bool) → T (a && b) → T b
both_right true b t = t
both_right false b t = absurd t

pub and-first-no : (a b : Bool) → a ≡ false → (a && b) ≡ false
and-first-no a b e = rw e

pub and_yes : (a b : Bool) → a ≡ true → b ≡ true → (a && b) ≡ true
and_yes a b e h = rw (e, h)

pub and-last-no : (a b : Bool) → b ≡ false → (a && b) ≡ false
and-last-no true b e = e
and-last-no false b e = refl

-- two tests that pass in the same cases are the same
pub same_test : (a b : Bool) → (a ≡ true → b ≡ true) → (b ≡ true → a ≡ true) → a ≡ b
same_test true b to from = sym (to refl)
same_test false true to from = from refl
same_test false false to from = refl

pub is_true : (b : Bool) → T b → b ≡ true
is_true true t = refl
is_true false t = elim t [ ]
