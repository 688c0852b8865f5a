-- A row of fields and the number that it draws: values that fit come back, and so does the number, since the fields
-- share nothing and leave no bit out. Assumes nothing.
use Prim.Native.Nat.{ℕ, suc, ◌+◌, ◌*◌, ◌/◌, ◌%◌, ◌^◌, ◌<◌}
use mathlib.Core.Path.{◌≡◌, refl, ap, ◌∙◌}
use mathlib.Core.List.{List, [], ◌∷◌}
use lib.ListN.{length}
use lib.Pow.{pow_pos, pow-add, shr_lt, split, high, low}
use native.Mathlib.Nat.{mod-lt, mul-le-mul_right, suc-mul}
use native.Mathlib.Omega.{arith}
use Rattle.laws.specs.Row.{width, pack, unpack, bytes, regroup, Fit, none, field}

-- a value above a part that fits below it
joined-below : (w k v n : ℕ) → v < 2 ^ w → n < 2 ^ k → v * 2 ^ k + n < 2 ^ (w + k)
joined-below w k v n hv hn = rw pow-add (omega (arith, mul-le-mul_right (2 ^ k) hv, suc-mul v (2 ^ k)))

pub pack-below : {row values : List ℕ} → Fit row values → pack row values < 2 ^ width row
pack-below none = omega arith
pack-below (field w v {row} {values} h fit) = joined-below w (width row) v (pack row values) h (pack-below fit)

pub unpack-pack : {row values : List ℕ} → Fit row values → unpack row (pack row values) ≡ values
unpack-pack none = refl
unpack-pack (field w v {row} {values} h fit) =
    rw (high v (width row) (pack-below fit), low v (width row) (pack-below fit), unpack-pack fit)

pub unpack-length : (row : List ℕ) (n : ℕ) → length (unpack row n) ≡ length row
unpack-length [] n = refl
unpack-length (w ∷ row) n = ap suc (unpack-length row (n % 2 ^ width row))

pub unpack-fits : (row : List ℕ) (n : ℕ) → n < 2 ^ width row → Fit row (unpack row n)
unpack-fits [] n h = none
unpack-fits (w ∷ row) n h =
    field w (n / 2 ^ width row) (shr_lt w (width row) h) (unpack-fits row (n % 2 ^ width row) (mod-lt n (pow_pos (width row))))

pub pack-unpack : (row : List ℕ) (n : ℕ) → n < 2 ^ width row → pack row (unpack row n) ≡ n
pack-unpack [] n h = omega arith
pack-unpack (w ∷ row) n h =
    rw (pack-unpack row (n % 2 ^ width row) (mod-lt n (pow_pos (width row)))) (split n (width row))

pub regroup-fits : (from to values : List ℕ) → width from ≡ width to → Fit from values → Fit to (regroup from to values)
regroup-fits from to values same fit = unpack-fits to (pack from values) (rw (← same) (pack-below fit))

pub regroup-back : (from to values : List ℕ) → width from ≡ width to → Fit from values → regroup to from (regroup from to values) ≡ values
regroup-back from to values same fit =
    ap (unpack from) (pack-unpack to (pack from values) (rw (← same) (pack-below fit))) ∙ unpack-pack fit

-- a word's four bytes, high byte first
pub four_bytes : (w a b c d : ℕ) → w < 2 ^ 32 → a ≡ w / 2 ^ 24 % 256 → b ≡ w / 2 ^ 16 % 256 → c ≡ w / 2 ^ 8 % 256 → d ≡ w % 256
    → a ∷ b ∷ c ∷ d ∷ [] ≡ unpack (bytes 4) w
four_bytes w a b c d h ea eb ec ed =
    let pa : a ≡ w / 16777216 = omega arith in
    let pb : b ≡ w % 16777216 / 65536 = omega arith in
    let pc : c ≡ w % 16777216 % 65536 / 256 = omega arith in
    let pd : d ≡ w % 16777216 % 65536 % 256 / 1 = omega arith in
    rw (pa, pb, pc, pd)
