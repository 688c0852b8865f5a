-- The ones of a word from a position on, counted at once, are its ones among the positions of a run: the highest is counted apart at each. So the
-- shift by them is two to their number. Assumes nothing.
use Prim.Native.Nat.{ℕ, zero, suc, ◌+◌, ◌*◌, ◌/◌, ◌%◌, ◌^◌, ◌≤◌, ◌<◌}
use mathlib.Core.Path.{◌≡◌, sym, ap, ap₂, ◌∙◌}
use mathlib.Core.Bool.{Bool}
use mathlib.Core.List.{List}
use lib.Count.{ones, ones_cat, ones-le}
use lib.Pow.{mod-pow-add, shr-shr, shr_lt, shr_mod, pow-lt, pow_pos}
use native.Mathlib.Nat.{mod-lt, mod-one, mod-eq_of_lt, add_comm, one-mul}
use native.Mathlib.Decide.{ℕ_discrete}
use native.Mathlib.Omega.{arith}
use Rattle.laws.specs.Bits.{bit_at}
use Rattle.laws.proofs.Bits.{bit-lt}
use Rattle.filter_registers.specs.Registers.{mask_in}
use Rattle.filter_compilers.specs.Table.{run}
use Rattle.filter_list.specs.Answers.{id_positions, ones_among, through_of}

-- a digit's ones
digit : (b : ℕ) → b < 2 → ones b ≡ b
unfolding ones
digit b h = elim (ℕ_discrete b 0) [ yes e ↦ rw e | no n ↦ (let e : b ≡ 1 = omega arith in rw e) ]

from : (low n w : ℕ) → ones (w / 2 ^ low % 2 ^ n) ≡ ones_among (run low n) w
unfolding ones
from low zero w = ap ones (mod-one (w / 2 ^ low))
from low (suc n) w =
    ap (λ (x : ℕ). ones (w / 2 ^ low % 2 ^ x)) {x = suc n} {y = 1 + n} (omega arith)
    ∙ ap ones (mod-pow-add (w / 2 ^ low) 1 n)
    ∙ ones_cat n (bit_at (w / 2 ^ low) n) (w / 2 ^ low % 2 ^ n) (mod-lt (w / 2 ^ low) (pow_pos n))
    ∙ ap₂ (λ (x y : ℕ). x + y) (digit (bit_at (w / 2 ^ low) n) (bit-lt (w / 2 ^ low) n) ∙ there) (from low n w)
  where
    there : bit_at (w / 2 ^ low) n ≡ bit_at w (n + low)
    there = ap (λ (x : ℕ). x % 2) (shr-shr w low n ∙ ap (λ (x : ℕ). w / 2 ^ x) (add_comm low n))

pub counted : (low n w : ℕ) → w < 2 ^ (n + low) → ones (w / 2 ^ low) ≡ ones_among (run low n) w
counted low n w h = ap ones (sym (shr_mod n low h)) ∙ from low n w

pub counted-le : (low n w : ℕ) → w < 2 ^ (n + low) → ones (w / 2 ^ low) ≤ n
counted-le low n w h = ones-le n (w / 2 ^ low) (shr_lt n low h)

pub through-is : (extended : Bool) (registers : List ℕ) (low n w : ℕ) → id_positions extended ≡ run low n → w ≡ mask_in registers → w < 2 ^ (n + low) → n < 32
    → (1 * 2 ^ ones (w / 2 ^ low)) % 2 ^ 32 ≡ through_of extended registers
unfolding through_of
through-is extended registers low n w e m h k =
    mod-eq_of_lt {n = 1 * 2 ^ ones (w / 2 ^ low)} {m = 2 ^ 32} (omega (arith, pow-lt {i = ones (w / 2 ^ low)} {j = 32} (omega (arith, counted-le low n w h))))
    ∙ one-mul (2 ^ ones (w / 2 ^ low))
    ∙ ap (λ (x : ℕ). 2 ^ x) (counted low n w h ∙ ap₂ ones_among (sym e) m)
