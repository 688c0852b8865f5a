-- The numbers that a pattern lets through, by its first character: the k-th of them has that character's bit, and its other bits are those of a number
-- that the rest lets through; and they rise. Assumes nothing.
use Prim.Native.Nat.{ℕ, zero, suc, ◌+◌, ◌-◌, ◌*◌, ◌/◌, ◌^◌, ◌≤◌, ◌<◌}
use mathlib.Core.Path.{◌≡◌, refl, sym, ap, ap₂, ◌∙◌}
use mathlib.Core.List.{List, [], ◌∷◌, ◌++◌}
use lib.ListN.{length, get_or, drop, length-append, get_or-append}
use lib.Seq.{get_or-append-add}
use native.Mathlib.Nat.{pow-suc, add-mul, mul_assoc, mul_comm}
use native.Mathlib.Decide.{ℕ_discrete, dec_lt}
use native.Mathlib.Numerals.{add-one}
use native.Mathlib.Omega.{arith}
use borrow.Author.Tests.{eq-eqb, ne_eqb}
use Rattle.filter_report.specs.Through.{raised, members_of}
use Rattle.filter_report.proofs.Places.{at_place, past_end}

pub raised_long : (by : ℕ) (numbers : List ℕ) → length (raised by numbers) ≡ length numbers
unfolding raised
raised_long by [] = refl
raised_long by (n ∷ numbers) = ap suc (raised_long by numbers)

raised_at : (by : ℕ) (numbers : List ℕ) (i : ℕ) → i < length numbers → get_or (raised by numbers) i 0 ≡ by + get_or numbers i 0
unfolding raised
raised_at by [] i h = absurd (omega arith)
raised_at by (n ∷ numbers) zero h = refl
raised_at by (n ∷ numbers) (suc i) h = raised_at by numbers i (omega arith)

-- ---- by the first character
module _ (c : ℕ) (rest : List ℕ) where
  pub members-zero : c ≡ 48 → members_of (c ∷ rest) ≡ members_of rest
  unfolding members_of
  members-zero e = rw (eq-eqb c 48 e)

  pub members-one : c ≡ 49 → members_of (c ∷ rest) ≡ raised (2 ^ length rest) (members_of rest)
  unfolding members_of
  members-one e = rw (ne_eqb c 48 (λ z. omega arith), eq-eqb c 49 e)

  pub members-free : (c ≡ 48 → ⊥) → (c ≡ 49 → ⊥) → members_of (c ∷ rest) ≡ members_of rest ++ raised (2 ^ length rest) (members_of rest)
  unfolding members_of
  members-free z o = rw (ne_eqb c 48 z, ne_eqb c 49 o)

-- ---- they rise
abbrev pub Rising : List ℕ → Type 0
Rising numbers = (i j : ℕ) → i < j → j < length numbers → get_or numbers i 0 < get_or numbers j 0

abbrev Below : ℕ → List ℕ → Type 0
Below limit numbers = (i : ℕ) → i < length numbers → get_or numbers i 0 < limit

module _ (by : ℕ) (numbers : List ℕ) (below : Below by numbers) (rising : Rising numbers) where
  n : ℕ
  n = length numbers

  front : (i : ℕ) → i < n → get_or (numbers ++ raised by numbers) i 0 ≡ get_or numbers i 0
  unfolding n
  front i h = get_or-append numbers (raised by numbers) 0 i h

  back : (i : ℕ) → n ≤ i → i < n + n → get_or (numbers ++ raised by numbers) i 0 ≡ by + get_or numbers (i - n) 0
  unfolding n
  back i g h =
      let place : i ≡ n + (i - n) = omega arith in
      ap (λ (k : ℕ). get_or (numbers ++ raised by numbers) k 0) place ∙ get_or-append-add numbers (raised by numbers) (i - n) 0 ∙ raised_at by numbers (i - n) (omega arith)

  twice : length (numbers ++ raised by numbers) ≡ n + n
  unfolding n
  twice = length-append numbers (raised by numbers) ∙ ap (λ (k : ℕ). length numbers + k) (raised_long by numbers)

  raised_below : Below (by + by) (raised by numbers)
  raised_below i h =
      let inside : i < length numbers = omega (arith, raised_long by numbers) in
      omega (arith, raised_at by numbers i inside, below i inside)

  raised-rising : Rising (raised by numbers)
  raised-rising i j h k =
      let inside : j < length numbers = omega (arith, raised_long by numbers) in
      omega (arith, raised_at by numbers i (omega arith), raised_at by numbers j inside, rising i j h inside)

  joined-below : Below (by + by) (numbers ++ raised by numbers)
  unfolding n
  joined-below i h =
      elim (dec_lt i n) [
        | yes l ↦ omega (arith, front i l, below i l)
        | no g ↦ omega (arith, back i (omega arith) (omega (arith, twice)), below (i - n) (omega (arith, twice)))
      ]

  joined-rising : Rising (numbers ++ raised by numbers)
  unfolding n
  joined-rising i j h k =
      elim (dec_lt j n) [
        | yes l ↦ omega (arith, front i (omega arith), front j l, rising i j h l)
        | no g ↦ elim (dec_lt i n) [
          | yes l ↦ omega (arith, front i l, back j (omega arith) (omega (arith, twice)), below i l)
          | no f ↦ omega (arith, back i (omega arith) (omega (arith, twice)), back j (omega arith) (omega (arith, twice)), rising (i - n) (j - n) (omega arith) (omega (arith, twice)))
        ]
      ]

rise : (cs : List ℕ) → Below (2 ^ length cs) (members_of cs) × Rising (members_of cs)
unfolding members_of
rise [] = (λ i h. (let first : i ≡ 0 = omega arith in rw first (omega arith)), λ i j h k. absurd (omega arith))
rise (c ∷ cs) = step (rise cs)
  where
    double : 2 ^ suc (length cs) ≡ 2 ^ length cs + 2 ^ length cs
    double = pow-suc 2 (length cs) ∙ omega arith

    step : Below (2 ^ length cs) (members_of cs) × Rising (members_of cs) → Below (2 ^ suc (length cs)) (members_of (c ∷ cs)) × Rising (members_of (c ∷ cs))
    step (b, r) =
        elim (ℕ_discrete c 48) [
          | yes p ↦ rw (members-zero c cs p) (λ i h. omega (arith, b i h, double), r)
          | no z ↦ elim (ℕ_discrete c 49) [
            | yes p ↦ rw (members-one c cs p, double) (raised_below (2 ^ length cs) (members_of cs) b r, raised-rising (2 ^ length cs) (members_of cs) b r)
            | no o ↦ rw (members-free c cs z o, double) (joined-below (2 ^ length cs) (members_of cs) b r, joined-rising (2 ^ length cs) (members_of cs) b r)
          ]
        ]

pub members-rise : (cs : List ℕ) → Rising (members_of cs)
members-rise cs = (rise cs).1

-- ---- the k-th number of a pattern: its first bit, how many numbers the rest lets through, and which of them has the other bits
abbrev pub SplitAt : ℕ → ℕ → ℕ → ℕ → ℕ → ℕ → Type 0
SplitAt c size k bit half left =
    (rest : List ℕ) → size ≡ length (members_of (c ∷ rest)) → k < size
    → (half ≡ length (members_of rest)) × (left < half) × (get_or (members_of (c ∷ rest)) k 0 ≡ bit * 2 ^ length rest + get_or (members_of rest) left 0)

module _ (c size k : ℕ) where
  pub split-zero : c ≡ 48 → SplitAt c size k 0 size k
  split-zero e rest s h =
      let all = members-zero c rest e in
      (s ∙ ap length all, h, ap (λ (l : List ℕ). get_or l k 0) all ∙ omega arith)

  pub split_one : c ≡ 49 → SplitAt c size k 1 size k
  split_one e rest s h =
      let all = members-one c rest e in
      let long : size ≡ length (members_of rest) = s ∙ ap length all ∙ raised_long (2 ^ length rest) (members_of rest) in
      (long, h, ap (λ (l : List ℕ). get_or l k 0) all ∙ raised_at (2 ^ length rest) (members_of rest) k (omega arith) ∙ omega arith)

  module _ (z : c ≡ 48 → ⊥) (o : c ≡ 49 → ⊥) where
    half_is : (rest : List ℕ) → size ≡ length (members_of (c ∷ rest)) → size ≡ length (members_of rest) + length (members_of rest)
    half_is rest s =
        s ∙ ap length (members-free c rest z o)
        ∙ length-append (members_of rest) (raised (2 ^ length rest) (members_of rest))
        ∙ ap (λ (n : ℕ). length (members_of rest) + n) (raised_long (2 ^ length rest) (members_of rest))

    pub split-low : k < size / 2 → SplitAt c size k 0 (size / 2) k
    split-low low rest s h =
        let two = half_is rest s in
        let half : size / 2 ≡ length (members_of rest) = omega arith in (
          half,
          low,
          ap (λ (l : List ℕ). get_or l k 0) (members-free c rest z o)
              ∙ get_or-append (members_of rest) (raised (2 ^ length rest) (members_of rest)) 0 k (omega arith) ∙ omega arith,
        )

    pub split-high : size / 2 ≤ k → SplitAt c size k 1 (size / 2) (k - size / 2)
    split-high high rest s h =
        let two = half_is rest s in
        let half : size / 2 ≡ length (members_of rest) = omega arith in
        let place : k ≡ length (members_of rest) + (k - size / 2) = omega arith in
        let inside : k - size / 2 < length (members_of rest) = omega arith in (
          half,
          omega arith,
          ap (λ (l : List ℕ). get_or l k 0) (members-free c rest z o)
              ∙ ap (λ (n : ℕ). get_or (members_of rest ++ raised (2 ^ length rest) (members_of rest)) n 0) place
              ∙ get_or-append-add (members_of rest) (raised (2 ^ length rest) (members_of rest)) (k - size / 2) 0
              ∙ raised_at (2 ^ length rest) (members_of rest) (k - size / 2) inside ∙ omega arith,
        )

-- ---- the bits that are known, and the number of the rest that has the others
abbrev pub Known : List ℕ → ℕ → ℕ → ℕ → ℕ → ℕ → Type 0
Known pattern k n size left i =
    (size ≡ length (members_of (drop i pattern))) × (left < size) × (n < 2 ^ i)
    × (get_or (members_of pattern) k 0 ≡ n * 2 ^ length (drop i pattern) + get_or (members_of (drop i pattern)) left 0)

shifted : (n bit w g : ℕ) → n * (w * 2) + (bit * w + g) ≡ (2 * n + bit) * w + g
shifted n bit w g =
    let one : n * (w * 2) ≡ (2 * n) * w = mul_comm n (w * 2) ∙ ap (λ (x : ℕ). x * n) (mul_comm w 2) ∙ mul_assoc 2 w n ∙ ap (λ (x : ℕ). 2 * x) (mul_comm w n) ∙ sym (mul_assoc 2 n w) in
    omega (arith, one, add-mul (2 * n) bit w)

pub known-turn : (pattern : List ℕ) (k n size left i bit half next : ℕ) → i < length pattern → Known pattern k n size left i
    → SplitAt (get_or pattern i 0) size left bit half next → bit ≤ 1 → Known pattern k (2 * n + bit) half next (i + 1)
known-turn pattern k n size left i bit half next h (s, l, small, e) split one =
    let here = at_place pattern i h in
    let rest = drop (i + 1) pattern in
    let parts = split rest (s ∙ ap (λ (p : List ℕ). length (members_of p)) here) l in
    let double : 2 ^ (i + 1) ≡ 2 ^ i * 2 = ap (λ (x : ℕ). 2 ^ x) (add-one i) ∙ pow-suc 2 i in
    let own = get_or pattern i 0 ∷ rest in
    let w = 2 ^ length rest in
    let whole : get_or (members_of pattern) k 0 ≡ n * 2 ^ length own + get_or (members_of own) left 0 = e ∙ ap (λ (p : List ℕ). n * 2 ^ length p + get_or (members_of p) left 0) here in
    let bits = ap₂ (λ (x y : ℕ). n * x + y) (pow-suc 2 (length rest)) parts.2 ∙ shifted n bit w (get_or (members_of rest) next 0) in
    (parts.0, parts.1, omega arith, whole ∙ bits)

pub known-end : (pattern : List ℕ) (k n size left i : ℕ) → length pattern ≤ i → Known pattern k n size left i → n ≡ get_or (members_of pattern) k 0
unfolding members_of
known-end pattern k n size left i h (s, l, small, e) =
    let none = past_end pattern i h in
    let all : size ≡ 1 = s ∙ ap (λ (p : List ℕ). length (members_of p)) none in
    let first : left ≡ 0 = omega arith in
    sym (e ∙ ap (λ (p : List ℕ). n * 2 ^ length p + get_or (members_of p) left 0) none ∙ ap (λ (x : ℕ). n * 1 + get_or (0 ∷ []) x 0) first ∙ omega arith)
