-- Every code and mask has patterns of the same meaning: those that are read off its registers, with `x` where a position is not compared. They are pattern
-- characters, as many as each field has positions; and a position that no field names is compared by neither. So `builders` speaks of some patterns,
-- whatever the codes and masks. Assumes nothing.
use Prim.Native.Nat.{ℕ, suc, ◌+◌, ◌-◌, ◌<◌}
use mathlib.Core.Path.{◌≡◌, refl, sym, ap, ap₂, ◌∙◌}
use mathlib.Core.Logic.{◌≢◌, ◌↔◌, inl, inr}
use mathlib.Core.Bool.{Bool, true, false, cond}
use mathlib.Core.List.{List, [], ◌∷◌, map}
use lib.Dec.{eqb}
use lib.ListN.{length, get_or, length-map}
use native.Mathlib.Decide.{ℕ_discrete}
use native.Mathlib.Omega.{arith}
use borrow.Author.Tests.{eq-eqb, ne_eqb, eqb-false}
use Rattle.laws.specs.Bits.{bit_at}
use Rattle.laws.specs.Said.{Said, gives}
use Rattle.laws.proofs.Bits.{bit-lt, bit_not}
use Rattle.laws.proofs.Bools.{and_yes}
use Rattle.filter_characters.specs.Characters.{is_character, all_characters}
use Rattle.filter_registers.specs.Registers.{code_in, mask_in}
use Rattle.filter_registers.specs.Meaning.{Accepts}
use Rattle.filter_registers.proofs.Registers.{mask-back}
use Rattle.filter_compilers.specs.Table.{Filter, fields_of, row_of, joined, lengths}
use Rattle.filter_compilers.specs.Words.{one}
use Rattle.filter_compilers.specs.Answers.{lengths_of, characters_of, compile_of}
use Rattle.filter_compilers.specs.Meaning.{Matches, character_in, characters_in, patterns_in}
use Rattle.filter_compilers.proofs.Table.{row_within, within-at}
use Rattle.filter_compilers.proofs.Characters.{one-lt}
use Rattle.filter_compilers.proofs.Joined.{good-said}
use Rattle.filter_compilers.proofs.Mapped.{mapped_at, mapped-joined}
use Rattle.filter_compilers.proofs.Agree.{off, where-is}
use Rattle.filter_compilers.proofs.Means.{means}
use Rattle.filter_types.specs.Words.{written_in, laid_of}
use Rattle.filter_types.specs.Answers.{code_mask_of}
use Rattle.filter_types.specs.Meaning.{SameMeaning}
use Rattle.filter_types.proofs.Builders.{laid-small, registers-laid}

-- ---- the characters read off registers
character-good : (registers : List ℕ) (p : ℕ) → is_character (character_in registers p) ≡ true
character-good registers p = by (eqb (bit_at (mask_in registers) p) 1) (bit_at (code_in registers) p) (bit-lt (code_in registers) p)
  where
    by : (free : Bool) (b : ℕ) → b < 2 → is_character (cond free 120 (48 + b)) ≡ true
    by true b h = refl
    by false b h = elim (ℕ_discrete b 0) [ yes e ↦ rw e | no n ↦ (let e : b ≡ 1 = omega arith in rw e) ]

characters-good : (registers ps : List ℕ) → all_characters (characters_in registers ps) ≡ true
characters-good registers [] = refl
characters-good registers (p ∷ ps) =
    and_yes (is_character (character_in registers p)) (all_characters (characters_in registers ps)) (character-good registers p) (characters-good registers ps)

each_long : (f : ℕ → ℕ) (fields : List (List ℕ)) → lengths (map (map f) fields) ≡ lengths fields
each_long f [] = refl
each_long f (x ∷ fields) = ap₂ (λ (n : ℕ) (ns : List ℕ). n ∷ ns) (length-map x f) (each_long f fields)

lengths-right : (field : ℕ) (ns : List ℕ) (rest : Said ℕ) → lengths_of field ns ns rest ≡ rest
lengths-right field [] rest = refl
lengths-right field (n ∷ ns) rest = rw (eq-eqb n n refl) (lengths-right (suc field) ns rest)

-- compared, and so a digit; or `x`
digit-there : (registers : List ℕ) (p : ℕ) → bit_at (mask_in registers) p ≡ 0 → character_in registers p ≡ 48 + bit_at (code_in registers) p
digit-there registers p z = rw (ne_eqb (bit_at (mask_in registers) p) 1 (λ e. omega arith))

compared-there : (registers : List ℕ) (p : ℕ) → (character_in registers p ≡ 120 → ⊥) → bit_at (mask_in registers) p ≡ 0
compared-there registers p other = by (eqb (bit_at (mask_in registers) p) 1) refl other
  where
    by : (free : Bool) → eqb (bit_at (mask_in registers) p) 1 ≡ free → (cond free 120 (48 + bit_at (code_in registers) p) ≡ 120 → ⊥) → bit_at (mask_in registers) p ≡ 0
    by true e n = absurd (n refl)
    by false e n = omega (arith, bit-lt (mask_in registers) p, eqb-false (bit_at (mask_in registers) p) 1 e)

-- ---- the patterns read off registers
module _ (filter : Filter) (registers : List ℕ) where
  abbrev pub read : List (List ℕ)
  read = patterns_in registers (fields_of filter)

  read-joined : joined read ≡ characters_in registers (row_of filter)
  read-joined = sym (mapped-joined (character_in registers) (fields_of filter))

  pub read-compiles : (compile_of filter read).0 ≡ gives 8
  unfolding compile_of
  read-compiles =
      ap (λ (ls : List ℕ). lengths_of 0 (lengths (fields_of filter)) ls (characters_of 0 read)) (each_long (character_in registers) (fields_of filter))
      ∙ lengths-right 0 (lengths (fields_of filter)) (characters_of 0 read)
      ∙ good-said 0 read (ap all_characters read-joined ∙ characters-good registers (row_of filter))

  long : length (joined read) ≡ length (row_of filter)
  long = ap length read-joined ∙ length-map (row_of filter) (character_in registers)

  read_at : (i : ℕ) → i < length (row_of filter) → get_or (joined read) i 0 ≡ character_in registers (get_or (row_of filter) i 0)
  read_at i h = ap (λ (l : List ℕ). get_or l i 0) read-joined ∙ mapped_at (character_in registers) (row_of filter) i h

  module _ (spared : (k : ℕ) → k < 32 → ((i : ℕ) → i < length (row_of filter) → k ≢ get_or (row_of filter) i 0) → bit_at (mask_in registers) k ≡ 1) (w : ℕ) where
    accepts-read : Matches (row_of filter) (joined read) w → Accepts registers w
    accepts-read fit k hk z = elim (where-is k (row_of filter)) [ inl (i, h, p) ↦ found i h p | inr none ↦ absurd (omega (arith, spared k hk none)) ]
      where
        found : (i : ℕ) → i < length (row_of filter) → k ≡ get_or (row_of filter) i 0 → bit_at (code_in registers) k ≡ bit_at w k
        found i h p =
            let here : get_or (joined read) i 0 ≡ 48 + bit_at (code_in registers) k = read_at i h ∙ ap (character_in registers) (sym p) ∙ digit-there registers k z in
            let same = fit i (omega (arith, long)) (λ x. omega (arith, bit-lt (code_in registers) k)) in
            omega (arith, ap (bit_at w) p)

    read-accepts : Accepts registers w → Matches (row_of filter) (joined read) w
    read-accepts accepts i h other =
        let hi : i < length (row_of filter) = omega (arith, long) in
        let here = read_at i hi in
        let z : bit_at (mask_in registers) (get_or (row_of filter) i 0) ≡ 0 = compared-there registers (get_or (row_of filter) i 0) (λ x. other (here ∙ x)) in
        here ∙ digit-there registers (get_or (row_of filter) i 0) z
        ∙ ap (λ (b : ℕ). 48 + b) (accepts (get_or (row_of filter) i 0) (within-at (row_of filter) (row_within filter) i hi) z)

    pub read-means : Accepts (compile_of filter read).1 w ↔ Accepts registers w
    read-means =
        let m = means filter read read-compiles w in
        (λ a. accepts-read (m.0 a), λ a. m.1 (read-accepts a))

-- ---- for every filter, and all codes and masks that it accepts
module _ (filter : Filter) (codes masks : List ℕ) (laid : (code_mask_of filter codes masks).0 ≡ gives 8) where
  abbrev registers : List ℕ
  registers = (code_mask_of filter codes masks).1

  -- no mask bit stands where the filter has no field
  spared : (k : ℕ) → k < 32 → ((i : ℕ) → i < length (row_of filter) → k ≢ get_or (row_of filter) i 0) → bit_at (mask_in registers) k ≡ 1
  unfolding laid_of
  spared k hk none =
      let mask = laid_of (fields_of filter) masks in
      let zero : bit_at (laid_of (fields_of filter) masks) k ≡ 0 = off one one-lt (row_of filter) (written_in (fields_of filter) masks) k none in
      ap (λ (r : List ℕ). bit_at (mask_in r) k) (registers-laid filter codes masks laid)
      ∙ ap (λ (x : ℕ). bit_at x k) (mask-back (laid_of (fields_of filter) codes) mask (laid-small filter masks))
      ∙ bit_not k 32 mask hk (laid-small filter masks)
      ∙ ap (λ (b : ℕ). 1 - b) zero

  pub has-patterns : (patterns : List (List ℕ))
      × ((compile_of filter patterns).0 ≡ gives 8)
      × SameMeaning (compile_of filter patterns).1 (code_mask_of filter codes masks).1
  has-patterns = (read filter registers, read-compiles filter registers, λ w hw. read-means filter registers spared w)
