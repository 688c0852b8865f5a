-- A number's digits: the last one behind those of its tenth, in the definition and in an output. Assumes nothing.
use Prim.Native.Nat.{ℕ, zero, suc, ◌+◌, ◌/◌, ◌%◌, ◌^◌, ◌≤◌, ◌<◌}
use mathlib.Core.Path.{◌≡◌, refl, sym, ap, ◌∙◌}
use mathlib.Core.Bool.{Bool, true, false, cond}
use mathlib.Core.List.{List, [], ◌∷◌, ◌++◌}
use lib.Dec.{ltb}
use lib.ListN.{length, set, length-append}
use native.Mathlib.Omega.{arith}
use native.Mathlib.Decide.{dec_lt}
use borrow.Author.Tests.{lt-ltb, le-ltb, ltb-false}
use Rattle.laws.specs.Laid.{laid}
use Rattle.laws.proofs.Laid.{set-laid, set_then}
use Rattle.text.specs.Decimal.{digits_of, decimal}

digits_of-same : (k j n : ℕ) → n < k → n < j → digits_of k n ≡ digits_of j n
unfolding digits_of
digits_of-same zero j n hk hj = absurd (omega arith)
digits_of-same (suc k) zero n hk hj = absurd (omega arith)
digits_of-same (suc k) (suc j) n hk hj = by (ltb n 10) refl (λ a b. digits_of-same k j (n / 10) a b)
  where
    by : (b : Bool) → ltb n 10 ≡ b → (n / 10 < k → n / 10 < j → digits_of k (n / 10) ≡ digits_of j (n / 10))
        → cond b ((48 + n) ∷ []) (digits_of k (n / 10) ++ ((48 + n % 10) ∷ [])) ≡ cond b ((48 + n) ∷ []) (digits_of j (n / 10) ++ ((48 + n % 10) ∷ []))
    by true e r = refl
    by false e r =
        let l : 10 ≤ n = ltb-false n 10 e in
        rw (r (omega arith) (omega arith))

pub decimal-small : (n : ℕ) → n < 10 → decimal n ≡ (48 + n) ∷ []
unfolding decimal digits_of
decimal-small n h = rw (lt-ltb n 10 h)

pub decimal_step : (n : ℕ) → 10 ≤ n → decimal n ≡ decimal (n / 10) ++ ((48 + n % 10) ∷ [])
unfolding decimal digits_of
decimal_step n h = rw (le-ltb n 10 h, digits_of-same n (suc (n / 10)) (n / 10) (omega arith) (omega arith))

pub step-long : (n : ℕ) → 10 ≤ n → length (decimal n) ≡ length (decimal (n / 10)) + 1
step-long n h = ap length (decimal_step n h) ∙ length-append (decimal (n / 10)) ((48 + n % 10) ∷ [])

pub small-long : (n : ℕ) → n < 10 → length (decimal n) ≡ 1
small-long n h = ap length (decimal-small n h)

pub pair-long : (n : ℕ) → 10 ≤ n → n / 10 < 10 → length (decimal n) ≡ 2
pair-long n h s = omega (arith, step-long n h, small-long (n / 10) s)

pub steps-long : (n : ℕ) → 10 ≤ n → 10 ≤ n / 10 → length (decimal n) ≡ length (decimal (n / 10 / 10)) + 2
steps-long n h s = omega (arith, step-long n h, step-long (n / 10) s)

-- a number below a power of ten has at most so many digits
pub decimal-long : (k n : ℕ) → n < 10 ^ suc k → length (decimal n) ≤ suc k
decimal-long zero n h = omega (arith, small-long n (omega arith))
decimal-long (suc k) n h =
    elim (dec_lt n 10) [
      | yes a ↦ omega (arith, small-long n a)
      | no a ↦ omega (arith, step-long n (omega arith), decimal-long k (n / 10) (omega arith))
    ]

-- a number of 64 bits
pub decimal-most : (n : ℕ) → n < 2 ^ 64 → length (decimal n) ≤ 20
decimal-most n h = decimal-long 19 n (omega (arith, h))

-- ---- digits put into an output: one, and the last behind those of the tenth
pub put_small : (at n : ℕ) (out : List ℕ) → n < 10 → at + length (decimal n) ≤ length out → set out at (48 + n) ≡ laid at (decimal n) out
put_small at n out h r =
    set-laid at (48 + n) out (omega (arith, small-long n h)) ∙ ap (λ (t : List ℕ). laid at t out) (sym (decimal-small n h))

pub put_step : (at n last : ℕ) (out now : List ℕ) → 10 ≤ n → at + length (decimal n) ≤ length out → last ≡ at + length (decimal (n / 10)) → now ≡ laid at (decimal (n / 10)) out
    → set now last (48 + n % 10) ≡ laid at (decimal n) out
put_step at n last out now h r e p =
    ap (λ (l : List ℕ). set l last (48 + n % 10)) p
    ∙ set_then last (48 + n % 10) at (decimal (n / 10)) out e (omega (arith, step-long n h))
    ∙ ap (λ (t : List ℕ). laid at t out) (sym (decimal_step n h))

-- two digits at once
pub put-pair : (at n : ℕ) (out : List ℕ) → 10 ≤ n → n / 10 < 10 → at + length (decimal n) ≤ length out
    → set (set out at (48 + n / 10)) (at + 1) (48 + n % 10) ≡ laid at (decimal n) out
put-pair at n out h s r =
    put_step at n (at + 1) out (set out at (48 + n / 10)) h r (omega (arith, small-long (n / 10) s))
    (put_small at (n / 10) out s (omega (arith, step-long n h)))

pub put-steps : (at n last : ℕ) (out now : List ℕ) → 10 ≤ n → 10 ≤ n / 10 → at + length (decimal n) ≤ length out
    → last ≡ at + length (decimal (n / 10 / 10)) → now ≡ laid at (decimal (n / 10 / 10)) out
    → set (set now last (48 + n / 10 % 10)) (last + 1) (48 + n % 10) ≡ laid at (decimal n) out
put-steps at n last out now h s r e p =
    put_step at n (last + 1) out (set now last (48 + n / 10 % 10)) h r (omega (arith, step-long (n / 10) s))
    (put_step at (n / 10) last out now s (omega (arith, step-long n h)) e p)
