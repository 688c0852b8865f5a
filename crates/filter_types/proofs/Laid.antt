-- Numbers laid into a word field by field make the sum of the numbers, each shifted to its field's lowest position: the bits of one field stand
-- where no other has any. Assumes nothing.
use Prim.Native.Nat.{ℕ, zero, suc, ◌+◌, ◌*◌, ◌/◌, ◌%◌, ◌^◌, ◌<◌}
use mathlib.Core.Path.{◌≡◌, refl, sym, ap, ap₂, ◌∙◌}
use mathlib.Core.Bool.{Bool, true, false}
use mathlib.Core.List.{List, [], ◌∷◌, ◌++◌}
use lib.Bits.{bit_or, or_zero_r, or_shifted, or_shifted_r, or_block}
use lib.ListN.{length}
use lib.Pow.{pow-add, pow_mono, pow_pos, shl_lt, shr-shr, mod-pow-add}
use native.Mathlib.Decide.{ℕ_discrete}
use native.Mathlib.Nat.{add-mul, mul_assoc, mod-eq_of_lt, mod-lt, mod-one, zero-mul, zero-add, suc-add, add_comm}
use native.Mathlib.Omega.{arith}
use mir.Val.{bool_byte}
use Rattle.laws.specs.Row.{bit}
use Rattle.laws.specs.Bits.{bit_at}
use Rattle.laws.proofs.Bits.{bit-lt}
use Rattle.filter_compilers.specs.Table.{single_standard, single_extended, dual_standard, dual_extended, fields_of, joined, run}
use Rattle.filter_compilers.specs.Words.{one, word_of}
use Rattle.filter_compilers.proofs.Words.{or-three}
use Rattle.filter_types.specs.Words.{written, written_in, laid_of}

pub flag-lt : (b : Bool) → bit b < 2
flag-lt true = omega arith
flag-lt false = omega arith

-- as the library converts it
pub flag-is : (b : Bool) → bool_byte b ≡ bit b
flag-is true = refl
flag-is false = refl

pub one-digit : (d : ℕ) → d < 2 → one (48 + d) ≡ d
unfolding one
one-digit d h = elim (ℕ_discrete d 0) [ yes e ↦ rw e | no n ↦ (let e : d ≡ 1 = omega arith in rw e) ]

-- fields one after the other
word-join : (ps qs s t : List ℕ) → length s ≡ length ps → word_of one (ps ++ qs) (s ++ t) ≡ bit_or (word_of one ps s) (word_of one qs t)
unfolding word_of
word-join [] qs [] t h = refl
word-join [] qs (c ∷ s) t h = absurd (omega arith)
word-join (p ∷ ps) qs [] t h = absurd (omega arith)
word-join (p ∷ ps) qs (c ∷ s) t h =
    ap (bit_or (one c * 2 ^ p)) (word-join ps qs s t (omega arith))
    ∙ sym (or-three (one c * 2 ^ p) (word_of one ps s) (word_of one qs t))

run_length : (low n : ℕ) → length (run low n) ≡ n
run_length low zero = refl
run_length low (suc n) = ap suc (run_length low n)

pub written-length : (n v : ℕ) → length (written n v) ≡ n
written-length zero v = refl
written-length (suc n) v = ap suc (written-length n v)

pub written-split : (m n v : ℕ) → written (m + n) v ≡ written m (v / 2 ^ n) ++ written n v
written-split zero n v = rw (zero-add n)
written-split (suc m) n v =
    rw (suc-add m n)
    (ap₂ (λ (x : ℕ) (l : List ℕ). (48 + x % 2) ∷ l) (ap (λ (k : ℕ). v / 2 ^ k) (add_comm m n) ∙ sym (shr-shr v n m)) (written-split m n v))

-- the bits of one number, at a run of positions
shifted : (v low n : ℕ) → bit_at v n * 2 ^ (n + low) + v % 2 ^ n * 2 ^ low ≡ v % 2 ^ suc n * 2 ^ low
shifted v low n =
    rw (pow-add 2 n low, ← mul_assoc, ← add-mul) (ap (λ (x : ℕ). x * 2 ^ low) (sym (mod-pow-add v 1 n)) ∙ ap (λ (k : ℕ). v % 2 ^ k * 2 ^ low) (one_more n))
  where
    one_more : (k : ℕ) → 1 + k ≡ suc k
    one_more k = omega arith

run-laid : (n low v : ℕ) → word_of one (run low n) (written n v) ≡ v % 2 ^ n * 2 ^ low
unfolding word_of
run-laid zero low v = sym (ap (λ (x : ℕ). x * 2 ^ low) (mod-one v) ∙ zero-mul (2 ^ low))
run-laid (suc n) low v =
    let digit : one (48 + bit_at v n) ≡ bit_at v n = one-digit (bit_at v n) (bit-lt v n) in
    let low_part : v % 2 ^ n * 2 ^ low < 2 ^ (n + low) = shl_lt n low (mod-lt v (pow_pos n)) in
    ap₂ (λ (d rest : ℕ). bit_or (d * 2 ^ (n + low)) rest) digit (run-laid n low v)
    ∙ or_shifted (bit_at v n) (n + low) (v % 2 ^ n * 2 ^ low) low_part ∙ shifted v low n

-- a number between what stands above it and what stands below it
between : (h x low n v : ℕ) → x < 2 ^ low → v < 2 ^ n → bit_or (h * 2 ^ (n + low) + x) (v * 2 ^ low) ≡ h * 2 ^ (n + low) + x + v * 2 ^ low
between h x low n v hx hv =
    let above : x < 2 ^ (n + low) = omega (arith, pow_mono {i = low} {j = n + low} (omega arith)) in
    let e : bit_or (h * 2 ^ (n + low) + x) (0 * 2 ^ (n + low) + v * 2 ^ low) ≡ bit_or h 0 * 2 ^ (n + low) + bit_or x (v * 2 ^ low) =
    or_block (n + low) h 0 x (v * 2 ^ low) above (shl_lt n low hv) in
    let f : bit_or (h * 2 ^ (n + low) + x) (v * 2 ^ low) ≡ h * 2 ^ (n + low) + (v * 2 ^ low + x) =
    ap (bit_or (h * 2 ^ (n + low) + x)) (sym (ap (λ (u : ℕ). u + v * 2 ^ low) (zero-mul (2 ^ (n + low))) ∙ zero-add (v * 2 ^ low)))
    ∙ e ∙ ap₂ (λ (a b : ℕ). a * 2 ^ (n + low) + b) (or_zero_r h) (or_shifted_r v low x hx) in
    omega arith

-- what is laid so far, and the fields that are left
abbrev laid_on : ℕ → List (List ℕ) → List ℕ → ℕ
laid_on w fs vs = bit_or w (word_of one (joined fs) (written_in fs vs))

lay-low : (low n v w h x : ℕ) (fs : List (List ℕ)) (vs : List ℕ) → w ≡ h * 2 ^ (n + low) + x → x < 2 ^ low
    → laid_on w (run low n ∷ fs) (v ∷ vs) ≡ laid_on (w + v % 2 ^ n * 2 ^ low) fs vs
lay-low low n v w h x fs vs e hx =
    let left : ℕ = word_of one (joined fs) (written_in fs vs) in
    let sum : bit_or w (v % 2 ^ n * 2 ^ low) ≡ w + v % 2 ^ n * 2 ^ low = rw e (between h x low n (v % 2 ^ n) hx (mod-lt v (pow_pos n))) in
    ap (λ (m : ℕ). bit_or w (word_of one (run low n ++ joined fs) (written m v ++ written_in fs vs))) (run_length low n)
    ∙ ap (bit_or w) (word-join (run low n) (joined fs) (written n v) (written_in fs vs) (written-length n v ∙ sym (run_length low n)))
    ∙ ap (λ (u : ℕ). bit_or w (bit_or u left)) (run-laid n low v)
    ∙ sym (or-three w (v % 2 ^ n * 2 ^ low) left)
    ∙ ap (λ (u : ℕ). bit_or u left) sum

lay : (low n v w h x : ℕ) (fs : List (List ℕ)) (vs : List ℕ) → w ≡ h * 2 ^ (n + low) + x → x < 2 ^ low → v < 2 ^ n
    → laid_on w (run low n ∷ fs) (v ∷ vs) ≡ laid_on (w + v * 2 ^ low) fs vs
lay low n v w h x fs vs e hx hv = lay-low low n v w h x fs vs e hx ∙ ap (λ (u : ℕ). laid_on (w + u * 2 ^ low) fs vs) (mod-eq_of_lt hv)

lay-none : (w : ℕ) → laid_on w [] [] ≡ w
unfolding word_of
lay-none w = or_zero_r w

-- ---- the four filters
pub laid-single-standard : (id rtr a b : ℕ) → id < 2 ^ 11 → rtr < 2 → a < 2 ^ 8 → b < 2 ^ 8
    → laid_of (fields_of single_standard) (id ∷ rtr ∷ a ∷ b ∷ []) ≡ id * 2 ^ 21 + (rtr * 2 ^ 20 + (a * 2 ^ 8 + b))
unfolding laid_of fields_of
laid-single-standard id rtr a b h₁ h₂ h₃ h₄ =
    let w₁ : ℕ = 0 + id * 2 ^ 21 in
    let w₂ : ℕ = w₁ + rtr * 2 ^ 20 in
    let w₃ : ℕ = w₂ + a * 2 ^ 8 in
    let last : w₃ + b * 2 ^ 0 ≡ id * 2 ^ 21 + (rtr * 2 ^ 20 + (a * 2 ^ 8 + b)) = omega arith in
    lay 21 11 id 0 0 0 (run 20 1 ∷ run 8 8 ∷ run 0 8 ∷ []) (rtr ∷ a ∷ b ∷ []) refl (omega arith) h₁
    ∙ lay 20 1 rtr w₁ id 0 (run 8 8 ∷ run 0 8 ∷ []) (a ∷ b ∷ []) (omega arith) (omega arith) h₂
    ∙ lay 8 8 a w₂ (id * 2 ^ 5 + rtr * 2 ^ 4) 0 (run 0 8 ∷ []) (b ∷ []) (omega arith) (omega arith) h₃
    ∙ lay 0 8 b w₃ (id * 2 ^ 13 + rtr * 2 ^ 12 + a) 0 [] [] (omega arith) (omega arith) h₄
    ∙ lay-none (w₃ + b * 2 ^ 0)
    ∙ last

pub laid-single-extended : (id rtr : ℕ) → id < 2 ^ 29 → rtr < 2 → laid_of (fields_of single_extended) (id ∷ rtr ∷ []) ≡ id * 2 ^ 3 + rtr * 2 ^ 2
unfolding laid_of fields_of
laid-single-extended id rtr h₁ h₂ =
    let w₁ : ℕ = 0 + id * 2 ^ 3 in
    let last : w₁ + rtr * 2 ^ 2 ≡ id * 2 ^ 3 + rtr * 2 ^ 2 = omega arith in
    lay 3 29 id 0 0 0 (run 2 1 ∷ []) (rtr ∷ []) refl (omega arith) h₁
    ∙ lay 2 1 rtr w₁ id 0 [] [] (omega arith) (omega arith) h₂
    ∙ lay-none (w₁ + rtr * 2 ^ 2)
    ∙ last

-- the payload's two halves are two fields
nibbles : (w a id rtr : ℕ) → laid_on w ((run 16 4 ++ run 0 4) ∷ run 5 11 ∷ run 4 1 ∷ []) (a ∷ id ∷ rtr ∷ [])
    ≡ laid_on w (run 16 4 ∷ run 0 4 ∷ run 5 11 ∷ run 4 1 ∷ []) (a / 16 ∷ a ∷ id ∷ rtr ∷ [])
nibbles w a id rtr =
    ap (λ (l : List ℕ). bit_or w (word_of one (run 16 4 ++ (run 0 4 ++ (run 5 11 ++ run 4 1))) (l ++ (written 11 id ++ written 1 rtr)))) (written-split 4 4 a)

pub laid-dual-standard : (id rtr a id' rtr' : ℕ) → id < 2 ^ 11 → rtr < 2 → a < 2 ^ 8 → id' < 2 ^ 11 → rtr' < 2
    → laid_of (fields_of dual_standard) (id ∷ rtr ∷ a ∷ id' ∷ rtr' ∷ [])
    ≡ id * 2 ^ 21 + (rtr * 2 ^ 20 + a / 16 * 2 ^ 16) + (id' * 2 ^ 5 + (rtr' * 2 ^ 4 + a % 16))
unfolding laid_of fields_of
laid-dual-standard id rtr a id' rtr' h₁ h₂ h₃ h₄ h₅ =
    let w₁ : ℕ = 0 + id * 2 ^ 21 in
    let w₂ : ℕ = w₁ + rtr * 2 ^ 20 in
    let w₃ : ℕ = w₂ + a / 16 * 2 ^ 16 in
    let w₄ : ℕ = w₃ + a % 16 * 2 ^ 0 in
    let w₅ : ℕ = w₄ + id' * 2 ^ 5 in
    let high : ℕ = id * 2 ^ 5 + rtr * 2 ^ 4 + a / 16 in
    let last : w₅ + rtr' * 2 ^ 4 ≡ id * 2 ^ 21 + (rtr * 2 ^ 20 + a / 16 * 2 ^ 16) + (id' * 2 ^ 5 + (rtr' * 2 ^ 4 + a % 16)) = omega arith in
    lay 21 11 id 0 0 0 (run 20 1 ∷ (run 16 4 ++ run 0 4) ∷ run 5 11 ∷ run 4 1 ∷ []) (rtr ∷ a ∷ id' ∷ rtr' ∷ []) refl (omega arith) h₁
    ∙ lay 20 1 rtr w₁ id 0 ((run 16 4 ++ run 0 4) ∷ run 5 11 ∷ run 4 1 ∷ []) (a ∷ id' ∷ rtr' ∷ []) (omega arith) (omega arith) h₂
    ∙ nibbles w₂ a id' rtr'
    ∙ lay 16 4 (a / 16) w₂ (id * 2 + rtr) 0 (run 0 4 ∷ run 5 11 ∷ run 4 1 ∷ []) (a ∷ id' ∷ rtr' ∷ []) (omega arith) (omega arith) (omega arith)
    ∙ lay-low 0 4 a w₃ (high * 2 ^ 12) 0 (run 5 11 ∷ run 4 1 ∷ []) (id' ∷ rtr' ∷ []) (omega arith) (omega arith)
    ∙ lay 5 11 id' w₄ high (a % 16) (run 4 1 ∷ []) (rtr' ∷ []) (omega arith) (omega arith) h₄
    ∙ lay 4 1 rtr' w₅ (high * 2 ^ 11 + id') (a % 16) [] [] (omega arith) (omega arith) h₅
    ∙ lay-none (w₅ + rtr' * 2 ^ 4)
    ∙ last

pub laid-dual-extended : (id id' : ℕ) → id < 2 ^ 16 → id' < 2 ^ 16 → laid_of (fields_of dual_extended) (id ∷ id' ∷ []) ≡ id * 2 ^ 16 + id'
unfolding laid_of fields_of
laid-dual-extended id id' h₁ h₂ =
    let w₁ : ℕ = 0 + id * 2 ^ 16 in
    let last : w₁ + id' * 2 ^ 0 ≡ id * 2 ^ 16 + id' = omega arith in
    lay 16 16 id 0 0 0 (run 0 16 ∷ []) (id' ∷ []) refl (omega arith) h₁
    ∙ lay 0 16 id' w₁ id 0 [] [] (omega arith) (omega arith) h₂
    ∙ lay-none (w₁ + id' * 2 ^ 0)
    ∙ last
