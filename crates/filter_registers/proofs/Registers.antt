-- The registers hold both words: four bytes in a row are the number that they draw. Assumes nothing.
use Prim.Native.Nat.{ℕ, ◌-◌, ◌^◌, ◌<◌}
use mathlib.Core.Logic.{◌↔◌}
use mathlib.Core.Path.{◌≡◌, sym, ap, ◌∙◌}
use native.Mathlib.Decide.{dec_lt}
use native.Mathlib.Omega.{arith}
use Rattle.laws.specs.Row.{bytes}
use Rattle.laws.specs.Bits.{bit_at}
use Rattle.laws.proofs.Row.{pack-unpack}
use Rattle.laws.proofs.Bits.{bit-lt, bit_not, bit_past}
use Rattle.filter_registers.specs.Registers.{registers_of, code_in, mask_in}
use Rattle.filter_registers.specs.Meaning.{Agree, Accepts}

pub code-back : (code mask : ℕ) → code < 2 ^ 32 → code_in (registers_of code mask) ≡ code
code-back code mask h = pack-unpack (bytes 4) code h

pub mask-back : (code mask : ℕ) → mask < 2 ^ 32 → mask_in (registers_of code mask) ≡ 2 ^ 32 - 1 - mask
mask-back code mask h = pack-unpack (bytes 4) (2 ^ 32 - 1 - mask) (omega arith)

-- equal registers have equal words
pub registers-equal : (c m c' m' : ℕ) → c < 2 ^ 32 → m < 2 ^ 32 → c' < 2 ^ 32 → m' < 2 ^ 32
    → registers_of c m ≡ registers_of c' m' → (c ≡ c') × (m ≡ m')
registers-equal c m c' m' hc hm hc' hm' e =
    let n : 2 ^ 32 - 1 - m ≡ 2 ^ 32 - 1 - m' = sym (mask-back c m hm) ∙ ap mask_in e ∙ mask-back c' m' hm' in
    (sym (code-back c m hc) ∙ ap code_in e ∙ code-back c' m' hc', omega arith)

-- the registers accept what code and mask agree with
module _ (code mask w : ℕ) (hc : code < 2 ^ 32) (hm : mask < 2 ^ 32) where
  to : Accepts (registers_of code mask) w → Agree code mask w
  to a k e = elim (dec_lt k 32) [ yes h ↦ inside h | no h ↦ absurd (outside h) ]
    where
      inside : k < 32 → bit_at code k ≡ bit_at w k
      inside h =
          sym (ap (λ (x : ℕ). bit_at x k) (code-back code mask hc))
          ∙ a k h (ap (λ (x : ℕ). bit_at x k) (mask-back code mask hm) ∙ bit_not k 32 mask h hm ∙ ap (λ (x : ℕ). 1 - x) e)

      outside : (k < 32 → ⊥) → ⊥
      outside h = let z : bit_at mask k ≡ 0 = bit_past 32 mask k hm (omega arith) in omega arith

  from : Agree code mask w → Accepts (registers_of code mask) w
  from a k h e =
      let z : 1 - bit_at mask k ≡ 0 = sym (ap (λ (x : ℕ). bit_at x k) (mask-back code mask hm) ∙ bit_not k 32 mask h hm) ∙ e in
      let l : bit_at mask k < 2 = bit-lt mask k in
      ap (λ (x : ℕ). bit_at x k) (code-back code mask hc) ∙ a k (omega arith)

  pub accepts-is : Accepts (registers_of code mask) w ↔ Agree code mask w
  accepts-is = (to, from)
