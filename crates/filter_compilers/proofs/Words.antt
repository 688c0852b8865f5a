-- Words of characters that stand beside each other: the words of the parts, or'd together, for `|` is associative. Assumes nothing.
use Prim.Native.Nat.{ℕ, zero, suc, ◌+◌, ◌*◌, ◌^◌, ◌<◌}
use mathlib.Core.Path.{◌≡◌, refl, sym, ap, ap₂, ◌∙◌}
use mathlib.Core.List.{List, [], ◌∷◌, ◌++◌}
use lib.Bits.{bit_or}
use lib.ListN.{length, drop, replicate}
use native.Mathlib.Nat.{add_assoc, zero-add, suc-add, zero-mul, pow-suc}
use native.Mathlib.Omega.{arith}
use Rattle.laws.proofs.Bits.{or_assoc}
use Rattle.filter_compilers.specs.Table.{run}
use Rattle.filter_compilers.specs.Words.{word_of}

pub below_power : (n : ℕ) → n < 2 ^ n
below_power zero = omega arith
below_power (suc n) = omega (arith, below_power n, pow-suc 2 n)

-- numbers of any size, for each has a power of 2 above it
pub or-three : (a b c : ℕ) → bit_or (bit_or a b) c ≡ bit_or a (bit_or b c)
or-three a b c =
    let above : a + b + c < 2 ^ (a + b + c) = below_power (a + b + c) in
    or_assoc (a + b + c) a b c (omega arith) (omega arith) (omega arith)

module _ (digit : ℕ → ℕ) where
  word_none : (ps : List ℕ) → word_of digit ps [] ≡ 0
  unfolding word_of
  word_none [] = refl
  word_none (p ∷ ps) = refl

  -- positions in two parts
  pub word_split : (ps qs cs : List ℕ) → word_of digit (ps ++ qs) cs ≡ bit_or (word_of digit ps cs) (word_of digit qs (drop (length ps) cs))
  unfolding word_of
  word_split [] qs cs = refl
  word_split (p ∷ ps) qs [] = sym (word_none qs)
  word_split (p ∷ ps) qs (c ∷ cs) =
      ap (bit_or (digit c * 2 ^ p)) (word_split ps qs cs)
      ∙ sym (or-three (digit c * 2 ^ p) (word_of digit ps cs) (word_of digit qs (drop (length ps) cs)))

  -- positions and characters in two parts
  pub word-append : (ps qs cs ds : List ℕ) → length cs ≡ length ps → word_of digit (ps ++ qs) (cs ++ ds) ≡ bit_or (word_of digit ps cs) (word_of digit qs ds)
  unfolding word_of
  word-append [] qs [] ds h = refl
  word-append [] qs (c ∷ cs) ds h = absurd (omega arith)
  word-append (p ∷ ps) qs [] ds h = absurd (omega arith)
  word-append (p ∷ ps) qs (c ∷ cs) ds h =
      ap (bit_or (digit c * 2 ^ p)) (word-append ps qs cs ds (omega arith))
      ∙ sym (or-three (digit c * 2 ^ p) (word_of digit ps cs) (word_of digit qs ds))

  -- a run of characters in two parts
  pub word-beside : (low : ℕ) (cs ds : List ℕ) → word_of digit (run low (length cs + length ds)) (cs ++ ds)
      ≡ bit_or (word_of digit (run (length ds + low) (length cs)) cs) (word_of digit (run low (length ds)) ds)
  unfolding word_of
  word-beside low [] ds = ap (λ (n : ℕ). word_of digit (run low n) ds) (zero-add (length ds))
  word-beside low (c ∷ cs) ds =
      ap (λ (n : ℕ). word_of digit (run low n) (c ∷ (cs ++ ds))) (suc-add (length cs) (length ds))
      ∙ ap₂ (λ (n w : ℕ). bit_or (digit c * 2 ^ n) w) (add_assoc (length cs) (length ds) low) (word-beside low cs ds)
      ∙ sym (or-three (digit c * 2 ^ (length cs + (length ds + low))) (word_of digit (run (length ds + low) (length cs)) cs) (word_of digit (run low (length ds)) ds))

  -- `x`, where it asks for nothing
  pub word-spared : digit 120 ≡ 0 → (low n : ℕ) → word_of digit (run low n) (replicate n 120) ≡ 0
  unfolding word_of
  word-spared z low zero = refl
  word-spared z low (suc n) =
      ap₂ bit_or (ap (λ (d : ℕ). d * 2 ^ (n + low)) z ∙ zero-mul (2 ^ (n + low))) (word-spared z low n)
