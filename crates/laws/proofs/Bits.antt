-- The bit at a position of a `|`, an `&`, a `^`, a `!` and a shifted digit, each by how the library takes them apart in halves; and the bits
-- determine the number. Assumes nothing.
use mathlib.Core.Path.{◌≡◌, refl, sym, ap, ◌∙◌, subst}
use mathlib.Core.Logic.{◌≢◌}
use Prim.Native.Nat.{ℕ, zero, suc, ◌+◌, ◌-◌, ◌*◌, ◌/◌, ◌%◌, ◌^◌, ◌≤◌, ◌<◌, min, max}
use native.Mathlib.Nat.{mod-lt, mod-eq_of_lt, div-eq_of_lt, zero-lt-suc, mul_assoc, zero-mod, zero-div, div-one, pow-suc, div-add-mod', div-lt_iff_lt-mul, div-div-eq-div-mul, pow-succ'}
use native.Mathlib.Omega.{arith}
use native.Mathlib.Decide.{dec_lt}
use lib.Arith.{digits_mod, lt-one}
use lib.Pow.{pow-add, pow_mono, shl_lt, shl-shr}
use lib.Bits.{or_lt, bit_and, bit_or, bit_xor, differ, xor_shr, xor_step, or_shr, or_step, and_shr, and_step, shifted_even}
use Rattle.laws.specs.Bits.{bit_at}

pub bit-lt : (w k : ℕ) → bit_at w k < 2
bit-lt w k = mod-lt (w / 2 ^ k) (zero-lt-suc 1)

pub bit-zero : (k : ℕ) → bit_at 0 k ≡ 0
bit-zero k = ap (λ (x : ℕ). x % 2) (zero-div (2 ^ k)) ∙ zero-mod 2

-- a number below 2 ^ n has none from n on
pub bit-beyond : (w n k : ℕ) → w < 2 ^ n → n ≤ k → bit_at w k ≡ 0
bit-beyond w n k small beyond = ap (λ (x : ℕ). x % 2) (div-eq_of_lt (omega (arith, pow_mono {i = n} {j = k} beyond))) ∙ zero-mod 2

max-lt : (a b : ℕ) → a < 2 → b < 2 → max a b < 2
max-lt a b ha hb = omega arith

min-lt : (a b : ℕ) → a < 2 → b < 2 → min a b < 2
min-lt a b ha hb = omega arith

pub bit-or : (a b k : ℕ) → bit_at (bit_or a b) k ≡ max (bit_at a k) (bit_at b k)
bit-or a b k =
    ap (λ (x : ℕ). x % 2) (or_shr a b k ∙ or_step (a / 2 ^ k) (b / 2 ^ k))
    ∙ digits_mod (bit_or (a / 2 ^ k / 2) (b / 2 ^ k / 2)) (max-lt (bit_at a k) (bit_at b k) (bit-lt a k) (bit-lt b k))

pub bit-and : (a b k : ℕ) → bit_at (bit_and a b) k ≡ min (bit_at a k) (bit_at b k)
bit-and a b k =
    ap (λ (x : ℕ). x % 2) (and_shr a b k ∙ and_step (a / 2 ^ k) (b / 2 ^ k))
    ∙ digits_mod (bit_and (a / 2 ^ k / 2) (b / 2 ^ k / 2)) (min-lt (bit_at a k) (bit_at b k) (bit-lt a k) (bit-lt b k))

-- a digit at p has its bit_at there, and no other
pub bit-here : (v p : ℕ) → v < 2 → bit_at (v * 2 ^ p) p ≡ v
bit-here v p h = ap (λ (x : ℕ). x % 2) (shl-shr v p) ∙ mod-eq_of_lt h

below : (v p k : ℕ) → v < 2 → p < k → bit_at (v * 2 ^ p) k ≡ 0
below v p k hv h =
    ap (λ (x : ℕ). x % 2) (div-eq_of_lt (omega (arith, shl_lt 1 p hv, pow_mono {i = 1 + p} {j = k} (omega arith)))) ∙ zero-mod 2

above : (v k d : ℕ) → bit_at (v * 2 ^ (suc d + k)) k ≡ 0
above v k d =
    ap (λ (x : ℕ). x % 2)
    (ap (λ (x : ℕ). v * x / 2 ^ k) (pow-add 2 (suc d) k) ∙ ap (λ (x : ℕ). x / 2 ^ k) (sym (mul_assoc v (2 ^ suc d) (2 ^ k))) ∙ shl-shr (v * 2 ^ suc d) k)
    ∙ shifted_even v d

pub bit-there : (v p k : ℕ) → v < 2 → p ≢ k → bit_at (v * 2 ^ p) k ≡ 0
bit-there v p k hv ne =
    elim (dec_lt p k) [
      | yes h ↦ below v p k hv h
      | no h ↦ subst (λ (x : ℕ). bit_at (v * 2 ^ x) k ≡ 0) {x = suc (p - suc k) + k} {y = p} (omega arith) (above v k (p - suc k))
    ]

-- ---- the bits below n determine a number below 2 ^ n
bit-half : (w k : ℕ) → bit_at w (suc k) ≡ bit_at (w / 2) k
bit-half w k = ap (λ (x : ℕ). x % 2) (ap (λ (x : ℕ). w / x) (pow-succ' 2 k) ∙ sym (div-div-eq-div-mul w 2 (2 ^ k)))

half_lt : (a n : ℕ) → a < 2 ^ suc n → a / 2 < 2 ^ n
half_lt a n h = (div-lt_iff_lt-mul (zero-lt-suc 1)).1 (subst (λ (x : ℕ). a < x) (pow-suc 2 n) h)

pub bit-ext : (n a b : ℕ) → a < 2 ^ n → b < 2 ^ n → ((k : ℕ) → k < n → bit_at a k ≡ bit_at b k) → a ≡ b
bit-ext zero a b ha hb e = lt-one ha ∙ sym (lt-one hb)
bit-ext (suc n) a b ha hb e =
    let half : a / 2 ≡ b / 2 = bit-ext n (a / 2) (b / 2) (half_lt a n ha) (half_lt b n hb) (λ k h. sym (bit-half a k) ∙ e (suc k) (omega arith) ∙ bit-half b k) in
    let low : a % 2 ≡ b % 2 = sym (ap (λ (x : ℕ). x % 2) (div-one a)) ∙ e 0 (omega arith) ∙ ap (λ (x : ℕ). x % 2) (div-one b) in
    omega (arith, div-add-mod' a 2, div-add-mod' b 2)

-- ---- `^` and `!`
differ-lt : (a b : ℕ) → a < 2 → b < 2 → differ a b < 2
differ-lt zero b ha hb = hb
differ-lt (suc a) zero ha hb = ha
differ-lt (suc a) (suc b) ha hb = differ-lt a b (omega arith) (omega arith)

pub bit-xor : (a b k : ℕ) → bit_at (bit_xor a b) k ≡ differ (bit_at a k) (bit_at b k)
bit-xor a b k =
    ap (λ (x : ℕ). x % 2) (xor_shr a b k ∙ xor_step (a / 2 ^ k) (b / 2 ^ k))
    ∙ digits_mod (bit_xor (a / 2 ^ k / 2) (b / 2 ^ k / 2)) (differ-lt (bit_at a k) (bit_at b k) (bit-lt a k) (bit-lt b k))

pub bit-first : (w : ℕ) → bit_at w 0 ≡ w % 2
bit-first w = ap (λ (x : ℕ). x % 2) (div-one w)

pub bit_not : (k n m : ℕ) → k < n → m < 2 ^ n → bit_at (2 ^ n - 1 - m) k ≡ 1 - bit_at m k
bit_not k zero m h hm = absurd (omega arith)
bit_not zero (suc n) m h hm =
    let e : (2 ^ suc n - 1 - m) % 2 ≡ 1 - m % 2 = omega arith in
    rw (bit-first (2 ^ suc n - 1 - m), bit-first m) e
bit_not (suc k) (suc n) m h hm =
    let e : (2 ^ suc n - 1 - m) / 2 ≡ 2 ^ n - 1 - m / 2 = omega arith in
    bit-half (2 ^ suc n - 1 - m) k ∙ ap (λ (x : ℕ). bit_at x k) e ∙ bit_not k n (m / 2) (omega arith) (half_lt m n hm) ∙ ap (λ (x : ℕ). 1 - x) (sym (bit-half m k))

-- no bit_at of a number lies past its size
pub bit_past : (n w k : ℕ) → w < 2 ^ n → n ≤ k → bit_at w k ≡ 0
bit_past n w k hw h = ap (λ (x : ℕ). x % 2) (div-eq_of_lt (omega (arith, pow_mono {i = n} {j = k} h))) ∙ zero-mod 2

-- two digits differ by nothing only if they are equal
pub differ-zero : (a b : ℕ) → differ a b ≡ 0 → a ≡ b
differ-zero zero b e = sym e
differ-zero (suc a) zero e = e
differ-zero (suc a) (suc b) e = ap suc (differ-zero a b e)

pub differ_same : (a : ℕ) → differ a a ≡ 0
differ_same zero = refl
differ_same (suc a) = differ_same a

pub or_assoc : (n a b c : ℕ) → a < 2 ^ n → b < 2 ^ n → c < 2 ^ n → bit_or (bit_or a b) c ≡ bit_or a (bit_or b c)
or_assoc n a b c ha hb hc = bit-ext n (bit_or (bit_or a b) c) (bit_or a (bit_or b c)) (or_lt n (bit_or a b) c (or_lt n a b ha hb) hc) (or_lt n a (bit_or b c) ha (or_lt n b c hb hc)) (λ k h. each k)
  where
    each : (k : ℕ) → bit_at (bit_or (bit_or a b) c) k ≡ bit_at (bit_or a (bit_or b c)) k
    each k =
        bit-or (bit_or a b) c k ∙ ap (λ (x : ℕ). max x (bit_at c k)) (bit-or a b k)
        ∙ three (bit_at a k) (bit_at b k) (bit_at c k)
        ∙ sym (bit-or a (bit_or b c) k ∙ ap (max (bit_at a k)) (bit-or b c k))
      where
        three : (x y z : ℕ) → max (max x y) z ≡ max x (max y z)
        three x y z = omega arith
