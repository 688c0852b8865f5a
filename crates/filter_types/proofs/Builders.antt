-- The two builders of one filter. A builder from code and mask keeps every code bit, also outside the mask; and where it means the same as a
-- pattern set, the registers are equal exactly if it was given no such bit. For a compared bit can be seen: turn it over in a word that is
-- accepted. So the masks are equal, and so are the codes inside them. Assumes nothing.
use Prim.Native.Nat.{ℕ, zero, suc, ◌+◌, ◌*◌, ◌^◌, ◌-◌, ◌<◌}
use mathlib.Core.Path.{◌≡◌, refl, sym, ap, ap₂, ◌∙◌}
use mathlib.Core.Logic.{◌≢◌, ◌↔◌, inl, inr}
use mathlib.Core.List.{List, [], ◌∷◌}
use lib.Bits.{bit_xor, differ, xor_lt}
use lib.Dec.{T}
use lib.ListN.{length, get_or, length-append}
use lib.Pow.{pow-lt}
use native.Mathlib.Decide.{ℕ_discrete}
use native.Mathlib.Omega.{arith}
use Rattle.laws.specs.Bits.{bit_at}
use Rattle.laws.specs.Said.{gives}
use Rattle.laws.proofs.Bits.{bit-lt, bit-xor, bit-here, bit-there, bit-ext}
use Rattle.filter_registers.specs.Registers.{registers_of, code_in}
use Rattle.filter_registers.specs.Meaning.{Agree}
use Rattle.filter_registers.proofs.Registers.{code-back, registers-equal, accepts-is}
use Rattle.filter_compilers.specs.Table.{Filter, fields_of, row_of, joined}
use Rattle.filter_compilers.specs.Words.{one, care, code_of, mask_of}
use Rattle.filter_types.specs.Words.{written, written_in, laid_of}
use Rattle.filter_compilers.specs.Answers.{compile_of}
use Rattle.filter_types.specs.Answers.{code_mask_of}
use Rattle.filter_compilers.specs.Meaning.{distinct}
use Rattle.filter_types.specs.Meaning.{Same, SameMeaning, Tidy}
use Rattle.filter_compilers.proofs.Table.{row-distinct, row_within}
use Rattle.filter_compilers.proofs.Characters.{one-lt, care-lt, one-not, care-is}
use Rattle.filter_types.proofs.Answers.{codes-whole}
use Rattle.filter_types.proofs.Laid.{written-length}
use Rattle.filter_compilers.proofs.Agree.{at, off, where-is, word_lt, code_at}
use Rattle.filter_compilers.proofs.Means.{whole, code-small, mask-small, registers-made}

-- ---- a word with one bit turned over
flip : ℕ → ℕ → ℕ
flip w k = bit_xor w (1 * 2 ^ k)

flip-lt : (w k : ℕ) → w < 2 ^ 32 → k < 32 → flip w k < 2 ^ 32
unfolding flip
flip-lt w k hw hk = xor_lt 32 w (1 * 2 ^ k) hw (omega (arith, pow-lt {i = k} {j = 32} hk))

differ-one : (x : ℕ) → x < 2 → differ x 1 ≡ 1 - x
differ-one x h = elim (ℕ_discrete x 0) [ yes e ↦ rw e | no n ↦ (let e : x ≡ 1 = omega arith in rw e) ]

differ-none : (x : ℕ) → differ x 0 ≡ x
differ-none zero = refl
differ-none (suc x) = refl

flip-here : (w k : ℕ) → bit_at (flip w k) k ≡ 1 - bit_at w k
unfolding flip
flip-here w k = bit-xor w (1 * 2 ^ k) k ∙ ap (differ (bit_at w k)) (bit-here 1 k (omega arith)) ∙ differ-one (bit_at w k) (bit-lt w k)

flip-there : (w k j : ℕ) → k ≢ j → bit_at (flip w k) j ≡ bit_at w j
unfolding flip
flip-there w k j n = bit-xor w (1 * 2 ^ k) j ∙ ap (differ (bit_at w j)) (bit-there 1 k j (omega arith) n) ∙ differ-none (bit_at w j)

-- ---- the same meaning: the same bits are compared
module _ (c m c' m' : ℕ) (hc' : c' < 2 ^ 32) (to : (w : ℕ) → w < 2 ^ 32 → Agree c' m' w → Agree c m w) where
  agreed : Agree c m c'
  agreed = to c' hc' (λ k e. refl)

  compared : (k : ℕ) → k < 32 → bit_at m k ≡ 1 → bit_at m' k ≡ 1
  compared k hk e = elim (ℕ_discrete (bit_at m' k) 1) [ yes h ↦ h | no n ↦ absurd (wrong n) ]
    where
      wrong : (bit_at m' k ≡ 1 → ⊥) → ⊥
      wrong n =
          let still : Agree c' m' (flip c' k) = λ j ej. sym (flip-there c' k j (λ p. n (ap (bit_at m') p ∙ ej))) in
          let turned : bit_at c k ≡ 1 - bit_at c' k = to (flip c' k) (flip-lt c' k hc' hk) still k e ∙ flip-here c' k in
          let kept : bit_at c k ≡ bit_at c' k = agreed k e in
          let l : bit_at c' k < 2 = bit-lt c' k in
          omega arith

module _ (c m c' m' : ℕ) (hc : c < 2 ^ 32) (hm : m < 2 ^ 32) (hc' : c' < 2 ^ 32) (hm' : m' < 2 ^ 32) (same : Same c m c' m') where
  masks-equal : m ≡ m'
  masks-equal = bit-ext 32 m m' hm hm' each
    where
      each : (k : ℕ) → k < 32 → bit_at m k ≡ bit_at m' k
      each k h =
          let p : bit_at m k ≡ 1 → bit_at m' k ≡ 1 = compared c m c' m' hc' (λ w hw. (same w hw).1) k h in
          let q : bit_at m' k ≡ 1 → bit_at m k ≡ 1 = compared c' m' c m hc (λ w hw. (same w hw).0) k h in
          elim (ℕ_discrete (bit_at m k) 1) [ yes e ↦ e ∙ sym (p e) | no n ↦ elim (ℕ_discrete (bit_at m' k) 1) [ yes e ↦ absurd (n (q e)) | no n' ↦ omega (arith, bit-lt m k, bit-lt m' k) ] ]

  -- where the first has no code bit outside its mask
  equal-registers : Tidy c m → (registers_of c m ≡ registers_of c' m') ↔ Tidy c' m'
  equal-registers tidy = (there, back)
    where
      there : registers_of c m ≡ registers_of c' m' → Tidy c' m'
      there e k z =
          let p = registers-equal c m c' m' hc hm hc' hm' e in
          ap (λ (x : ℕ). bit_at x k) (sym p.0) ∙ tidy k (ap (λ (x : ℕ). bit_at x k) p.1 ∙ z)

      code : Tidy c' m' → (k : ℕ) → k < 32 → bit_at c k ≡ bit_at c' k
      code t k h =
          elim (ℕ_discrete (bit_at m k) 1) [
            | yes e ↦ agreed c m c' m' hc' (λ w hw. (same w hw).1) k e
            | no n ↦
                (let z : bit_at m k ≡ 0 = omega (arith, bit-lt m k) in
                tidy k z ∙ sym (t k (ap (λ (x : ℕ). bit_at x k) (sym masks-equal) ∙ z)))
          ]

      back : Tidy c' m' → registers_of c m ≡ registers_of c' m'
      back t = ap₂ registers_of (bit-ext 32 c c' hc hc' (code t)) masks-equal

-- ---- patterns make no code bit outside the mask
one-spared : (c : ℕ) → care c ≡ 0 → one c ≡ 0
one-spared c z = elim (ℕ_discrete c 120) [ yes e ↦ one-not c (λ f. omega arith) | no n ↦ (let o : care c ≡ 1 = care-is c n in absurd (omega arith)) ]

patterns-tidy : (ps cs : List ℕ) → T (distinct ps) → length cs ≡ length ps → Tidy (code_of ps cs) (mask_of ps cs)
patterns-tidy ps cs apart long k z = elim (where-is k ps) [ inl (i, h, p) ↦ found i h p | inr none ↦ off one one-lt ps cs k none ]
  where
    found : (i : ℕ) → i < length ps → k ≡ get_or ps i 0 → bit_at (code_of ps cs) k ≡ 0
    found i h p =
        let hc : i < length cs = omega arith in
        let m : care (get_or cs i 0) ≡ 0 = sym (at care care-lt ps cs apart i h hc) ∙ ap (bit_at (mask_of ps cs)) (sym p) ∙ z in
        ap (bit_at (code_of ps cs)) p ∙ at one one-lt ps cs apart i h hc ∙ one-spared (get_or cs i 0) m

-- ---- every filter's builder from code and mask
pub laid-small : (filter : Filter) (values : List ℕ) → laid_of (fields_of filter) values < 2 ^ 32
unfolding laid_of
laid-small filter values = word_lt one one-lt (row_of filter) (written_in (fields_of filter) values) (row_within filter)

pub written-whole : (fields : List (List ℕ)) (values : List ℕ) → length values ≡ length fields → length (written_in fields values) ≡ length (joined fields)
written-whole [] values h = refl
written-whole (f ∷ fields) [] h = absurd (omega arith)
written-whole (f ∷ fields) (v ∷ values) h =
    length-append (written (length f) v) (written_in fields values)
    ∙ ap₂ ◌+◌ (written-length (length f) v) (written-whole fields values (omega arith))
    ∙ sym (length-append f (joined fields))

module _ (filter : Filter) (codes masks : List ℕ) (laid : (code_mask_of filter codes masks).0 ≡ gives 8) where
  pub registers-laid : (code_mask_of filter codes masks).1 ≡ registers_of (laid_of (fields_of filter) codes) (laid_of (fields_of filter) masks)
  unfolding code_mask_of
  registers-laid = rw laid

  -- the code's bits stand in the registers, whatever the mask
  pub code-kept : code_in (code_mask_of filter codes masks).1 ≡ laid_of (fields_of filter) codes
  code-kept = ap code_in registers-laid ∙ code-back (laid_of (fields_of filter) codes) (laid_of (fields_of filter) masks) (laid-small filter codes)

  pub bit_kept : (i : ℕ) → i < length (row_of filter)
      → bit_at (code_in (code_mask_of filter codes masks).1) (get_or (row_of filter) i 0) ≡ one (get_or (written_in (fields_of filter) codes) i 0)
  unfolding laid_of
  bit_kept i k =
      let long = written-whole (fields_of filter) codes (codes-whole filter codes masks laid) in
      ap (λ (x : ℕ). bit_at x (get_or (row_of filter) i 0)) code-kept
      ∙ code_at (row_of filter) (written_in (fields_of filter) codes) (row-distinct filter) long i (omega arith)

  pub builders : (patterns : List (List ℕ)) → (compile_of filter patterns).0 ≡ gives 8
      → SameMeaning (compile_of filter patterns).1 (code_mask_of filter codes masks).1
      → ((compile_of filter patterns).1 ≡ (code_mask_of filter codes masks).1) ↔ Tidy (laid_of (fields_of filter) codes) (laid_of (fields_of filter) masks)
  builders patterns made same =
      let row = row_of filter in
      let cs = joined patterns in
      let c = code_of row cs in
      let m = mask_of row cs in
      let c' = laid_of (fields_of filter) codes in
      let m' = laid_of (fields_of filter) masks in
      let hc = code-small filter patterns made in
      let hm = mask-small filter patterns made in
      let hc' = laid-small filter codes in
      let hm' = laid-small filter masks in
      let meaning : SameMeaning (registers_of c m) (registers_of c' m') = rw (registers-made filter patterns made, registers-laid) at same in
      rw (registers-made filter patterns made, registers-laid)
      (equal-registers c m c' m' hc hm hc' hm'
      (λ w hw. (
        λ a. (accepts-is c' m' w hc' hm').0 ((meaning w hw).0 ((accepts-is c m w hc hm).1 a)),
        λ a. (accepts-is c m w hc hm).0 ((meaning w hw).1 ((accepts-is c' m' w hc' hm').1 a)),
      ))
      (patterns-tidy row cs (row-distinct filter) (whole filter patterns made)))
