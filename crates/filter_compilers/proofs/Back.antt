-- Registers made from patterns give the patterns back: at each place the two words say which character stood there. Assumes nothing.
use Prim.Native.Nat.{ℕ, ◌+◌, ◌-◌, ◌<◌}
use mathlib.Core.Path.{◌≡◌, sym, ap, ap₂, ◌∙◌}
use mathlib.Core.Bool.{cond}
use mathlib.Core.List.{List}
use lib.Dec.{T, eqb}
use lib.ListN.{length, get_or, length-map}
use lib.Seq.{ext_get_or}
use native.Mathlib.Decide.{ℕ_discrete}
use native.Mathlib.Omega.{arith}
use Rattle.laws.specs.Bits.{bit_at}
use Rattle.laws.specs.Said.{gives}
use Rattle.laws.proofs.Bits.{bit_not}
use Rattle.filter_characters.specs.Characters.{is_character}
use Rattle.filter_registers.specs.Registers.{code_in, mask_in}
use Rattle.filter_registers.proofs.Registers.{code-back, mask-back}
use Rattle.filter_compilers.specs.Table.{Filter, fields_of, row_of, joined}
use Rattle.filter_compilers.specs.Words.{one, care, code_of, mask_of}
use Rattle.filter_compilers.specs.Answers.{compile_of}
use Rattle.filter_compilers.specs.Meaning.{character_in, characters_in, patterns_in}
use Rattle.filter_compilers.proofs.Table.{row-distinct, row_within, within-at}
use Rattle.filter_compilers.proofs.Characters.{care-is, care-not, value}
use Rattle.filter_compilers.proofs.Mapped.{mapped_at, apart}
use Rattle.filter_compilers.proofs.Agree.{code_at, mask_at, character-at}
use Rattle.filter_compilers.proofs.Means.{widths, whole, good, code-small, mask-small, registers-made}

-- the character that a code bit and a mask bit tell
told : (c : ℕ) → T (is_character c) → cond (eqb (1 - care c) 1) 120 (48 + one c) ≡ c
told c t = elim (ℕ_discrete c 120) [ yes e ↦ rw (care-not c e) (sym e) | no n ↦ rw (care-is c n) (sym (value c t n)) ]

module _ (filter : Filter) (patterns : List (List ℕ)) (made : (compile_of filter patterns).0 ≡ gives 8) where
  place : (i : ℕ) → i < length (row_of filter) → character_in (compile_of filter patterns).1 (get_or (row_of filter) i 0) ≡ get_or (joined patterns) i 0
  place i h =
      let row = row_of filter in
      let cs = joined patterns in
      let p = get_or (row_of filter) i 0 in
      let hc : i < length (joined patterns) = omega (arith, whole filter patterns made) in
      let code : bit_at (code_in (compile_of filter patterns).1) p ≡ one (get_or (joined patterns) i 0) =
      ap (λ (r : List ℕ). bit_at (code_in r) p) (registers-made filter patterns made)
      ∙ ap (λ (x : ℕ). bit_at x p) (code-back (code_of row cs) (mask_of row cs) (code-small filter patterns made))
      ∙ code_at row cs (row-distinct filter) (whole filter patterns made) i hc in
      let mask : bit_at (mask_in (compile_of filter patterns).1) p ≡ 1 - care (get_or (joined patterns) i 0) =
      ap (λ (r : List ℕ). bit_at (mask_in r) p) (registers-made filter patterns made)
      ∙ ap (λ (x : ℕ). bit_at x p) (mask-back (code_of row cs) (mask_of row cs) (mask-small filter patterns made))
      ∙ bit_not p 32 (mask_of row cs) (within-at row (row_within filter) i h) (mask-small filter patterns made)
      ∙ ap (λ (x : ℕ). 1 - x) (mask_at row cs (row-distinct filter) (whole filter patterns made) i hc) in
      ap₂ (λ (m c : ℕ). cond (eqb m 1) 120 (48 + c)) mask code ∙ told (get_or cs i 0) (character-at cs (good filter patterns made) i hc)

  pub patterns-back : patterns_in (compile_of filter patterns).1 (fields_of filter) ≡ patterns
  patterns-back =
      let registers = (compile_of filter patterns).1 in
      apart (character_in registers) (fields_of filter) patterns (widths filter patterns made)
      (ext_get_or 0 (characters_in registers (row_of filter)) (joined patterns)
      (length-map (row_of filter) (character_in registers) ∙ sym (whole filter patterns made))
      (λ i h. (let k : i < length (row_of filter) = omega (arith, length-map (row_of filter) (character_in registers)) in mapped_at (character_in registers) (row_of filter) i k ∙ place i k)))
