-- Both words in one, the bits of `x` 32 positions above the code's: each can be taken from it, and where the row has all 32 positions what `x` leaves
-- is the mask. Assumes nothing.
use Prim.Native.Nat.{ℕ, zero, suc, ◌+◌, ◌-◌, ◌*◌, ◌/◌, ◌%◌, ◌^◌, ◌≤◌, ◌<◌}
use mathlib.Core.Path.{◌≡◌, refl, sym, ap, ap₂, ◌∙◌}
use mathlib.Core.Bool.{Bool, true, false, cond}
use mathlib.Core.List.{List, [], ◌∷◌}
use lib.Bits.{bit_or, or_block, or_shifted}
use lib.Dec.{T, eqb, ltb, ltb→lt}
use lib.ListN.{length, drop}
use lib.Pow.{shl_lt, pow_mono}
use native.Mathlib.Nat.{add-mul, mul-le-mul_right, mul_assoc, mul_comm, add-zero, pow-suc}
use native.Mathlib.Omega.{arith}
use Rattle.laws.proofs.Bools.{both_left, both_right}
use Rattle.filter_characters.specs.Characters.{all_characters}
use Rattle.filter_compilers.specs.Table.{run}
use Rattle.filter_compilers.specs.Words.{one, care, word_of, code_of, mask_of}
use Rattle.filter_compilers.specs.Meaning.{within}
use Rattle.filter_compilers.proofs.Characters.{one-lt, care-lt}
use Rattle.filter_compilers.proofs.Agree.{word_lt}
use Rattle.filter_compilers.proofs.Turned.{spare, both, eight_places, marks_of, exchange_of, row-turned}

one-laid : (c p : ℕ) → p < 32 → one c * 2 ^ p < 2 ^ 32
one-laid c p h = omega (arith, shl_lt 1 p (one-lt c), pow_mono {i = 1 + p} {j = 32} (omega arith))

laid_both : (m w c p : ℕ) → w < 2 ^ 32 → p < 32
    → bit_or (both c * 2 ^ p) (m * 2 ^ 32 + w) ≡ bit_or (spare c * 2 ^ p) m * 2 ^ 32 + bit_or (one c * 2 ^ p) w
laid_both m w c p h hp =
    let apart : both c * 2 ^ p ≡ (spare c * 2 ^ p) * 2 ^ 32 + one c * 2 ^ p =
    add-mul (spare c * 2 ^ 32) (one c) (2 ^ p)
    ∙ ap (λ (x : ℕ). x + one c * 2 ^ p) (mul_assoc (spare c) (2 ^ 32) (2 ^ p) ∙ ap (λ (x : ℕ). spare c * x) (mul_comm (2 ^ 32) (2 ^ p)) ∙ sym (mul_assoc (spare c) (2 ^ p) (2 ^ 32)))
    in
    ap (λ (x : ℕ). bit_or x (m * 2 ^ 32 + w)) apart ∙ or_block 32 (spare c * 2 ^ p) m (one c * 2 ^ p) w (one-laid c p hp) h

word-both : (ps cs : List ℕ) → T (within ps) → word_of both ps cs ≡ word_of spare ps cs * 2 ^ 32 + word_of one ps cs
unfolding word_of
word-both [] cs t = refl
word-both (p ∷ ps) [] t = refl
word-both (p ∷ ps) (c ∷ cs) t =
    let hp : p < 32 = ltb→lt p 32 (both_left (ltb p 32) (within ps) t) in
    let rest : T (within ps) = both_right (ltb p 32) (within ps) t in
    ap (bit_or (both c * 2 ^ p)) (word-both ps cs rest)
    ∙ laid_both (word_of spare ps cs) (word_of one ps cs) c p (word_lt one one-lt ps cs rest) hp

-- ---- a run down to position 0
module _ (digit : ℕ → ℕ) (small : (c : ℕ) → digit c < 2) where
  run-next : (n c : ℕ) (cs : List ℕ) → word_of digit (run 0 n) cs < 2 ^ n → word_of digit (run 0 (suc n)) (c ∷ cs) ≡ digit c * 2 ^ n + word_of digit (run 0 n) cs
  unfolding word_of
  run-next n c cs h = ap (λ (p : ℕ). bit_or (digit c * 2 ^ p) (word_of digit (run 0 n) cs)) (add-zero n) ∙ or_shifted (digit c) n (word_of digit (run 0 n) cs) h

  run-lt : (n : ℕ) (cs : List ℕ) → length cs ≡ n → word_of digit (run 0 n) cs < 2 ^ n
  unfolding word_of
  run-lt zero cs h = omega arith
  run-lt (suc n) [] h = absurd (omega arith)
  run-lt (suc n) (c ∷ cs) h =
      let rest : word_of digit (run 0 n) cs < 2 ^ n = run-lt n cs (omega arith) in
      let here : digit c * 2 ^ n ≤ 1 * 2 ^ n = mul-le-mul_right (2 ^ n) (omega (arith, small c)) in
      omega (arith, run-next n c cs rest, here, pow-suc 2 n)

one-or-other : (b : Bool) → cond {A = ℕ} b 1 0 + cond {A = ℕ} b 0 1 ≡ 1
one-or-other true = refl
one-or-other false = refl

spare-care : (c : ℕ) → spare c + care c ≡ 1
unfolding care
spare-care c = one-or-other (eqb c 120)

spare-lt : (c : ℕ) → spare c < 2
spare-lt c = omega (arith, spare-care c)

all_told : (n : ℕ) (cs : List ℕ) → length cs ≡ n → word_of spare (run 0 n) cs + word_of care (run 0 n) cs + 1 ≡ 2 ^ n
unfolding word_of
all_told zero cs h = refl
all_told (suc n) [] h = absurd (omega arith)
all_told (suc n) (c ∷ cs) h =
    let long : length cs ≡ n = omega arith in
    let a = run-next spare spare-lt n c cs (run-lt spare spare-lt n cs long) in
    let b = run-next care care-lt n c cs (run-lt care care-lt n cs long) in
    let d : spare c * 2 ^ n + care c * 2 ^ n ≡ 2 ^ n = sym (add-mul (spare c) (care c) (2 ^ n)) ∙ ap (λ (x : ℕ). x * 2 ^ n) (spare-care c) ∙ omega arith in
    omega (arith, a, b, d, all_told n cs long, pow-suc 2 n)

parts : (w : ℕ) (row : List ℕ) → length row ≡ 32 → w ≡ word_of both (run 0 32) row
    → (w % 2 ^ 32 ≡ code_of (run 0 32) row) × (2 ^ 32 - 1 - w / 2 ^ 32 ≡ mask_of (run 0 32) row)
parts w row long e =
    let sum : w ≡ word_of spare (run 0 32) row * 2 ^ 32 + code_of (run 0 32) row = e ∙ word-both (run 0 32) row tt in
    let small : code_of (run 0 32) row < 2 ^ 32 = word_lt one one-lt (run 0 32) row tt in
    (omega arith, omega (arith, all_told 32 row long))

pub row_read : (row : List ℕ) (a b c d e f g h x y w : ℕ) → length row ≡ 32 → all_characters row ≡ true
    → a ≡ word_of (λ c. c) eight_places (drop 0 row) → b ≡ word_of (λ c. c) eight_places (drop 8 row)
    → c ≡ word_of (λ c. c) eight_places (drop 16 row) → d ≡ word_of (λ c. c) eight_places (drop 24 row)
    → e ≡ marks_of a → f ≡ marks_of b → g ≡ marks_of c → h ≡ marks_of d
    → x ≡ exchange_of 0xAA55_AA55_AA55_AA55 0x00AA_00AA_00AA_00AA 7 (bit_or (e * 8) (bit_or (f * 4) (bit_or (g * 2) h)))
    → y ≡ exchange_of 0xCCCC_3333_CCCC_3333 0x0000_CCCC_0000_CCCC 14 x
    → w ≡ exchange_of 0xF0F0_F0F0_0F0F_0F0F 0x0000_0000_F0F0_F0F0 28 y
    → (w % 2 ^ 32 ≡ code_of (run 0 32) row) × (2 ^ 32 - 1 - w / 2 ^ 32 ≡ mask_of (run 0 32) row)
row_read row a b c d e f g h x y w long good ea eb ec ed ee ef eg eh ex ey ew =
    let square : bit_or (e * 8) (bit_or (f * 4) (bit_or (g * 2) h)) ≡ bit_or (marks_of a * 8) (bit_or (marks_of b * 4) (bit_or (marks_of c * 2) (marks_of d))) =
    ap₂ (λ (n v : ℕ). bit_or (n * 8) v) ee (ap₂ (λ (n v : ℕ). bit_or (n * 4) v) ef (ap₂ (λ (n v : ℕ). bit_or (n * 2) v) eg eh)) in
    parts w row long
    (ew ∙ ap (exchange_of 0xF0F0_F0F0_0F0F_0F0F 0x0000_0000_F0F0_F0F0 28)
    (ey ∙ ap (exchange_of 0xCCCC_3333_CCCC_3333 0x0000_CCCC_0000_CCCC 14) (ex ∙ ap (exchange_of 0xAA55_AA55_AA55_AA55 0x00AA_00AA_00AA_00AA 7) square))
    ∙ row-turned row a b c d (rw good tt) ea eb ec ed)
