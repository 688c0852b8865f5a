-- The word compare of a frame is the definition, position by position: the word that a frame shows has, at the positions of each field, the digits of what the
-- frame shows there, and the compare asks for just the positions that the half's fields name. Assumes nothing.
use Prim.Native.Nat.{ℕ, ◌^◌, ◌<◌}
use mathlib.Core.Path.{◌≡◌, sym, ap, ap₂, subst, ◌∙◌}
use mathlib.Core.Bool.{Bool, true, false, cond, ◌||◌}
use mathlib.Core.List.{List, map, [], ◌∷◌}
use lib.Dec.{T, eqb, ltb}
use lib.ListN.{length, take, drop}
use Rattle.laws.specs.Said.{Said, refuses, gives}
use Rattle.filter_compilers.specs.Table.{Filter, fields_of, joined}
use Rattle.filter_types.specs.Words.{written_each, laid_of}
use Rattle.filter_registers.specs.Registers.{code_in, mask_in}
use Rattle.filter_compilers.specs.Meaning.{distinct, within, character_in, characters_in, patterns_in}
use Rattle.filter_types.proofs.Builders.{laid-small}
use Rattle.filter_compilers.proofs.Table.{row-distinct}
use Rattle.filter_compilers.proofs.Mapped.{mapped-joined, mapped-take, mapped-drop}
use Rattle.frame_info.specs.Info.{extended_of, data_length_of}
use Rattle.filter_matcher.specs.Fields.{row_for, shown_in, shown_bits, compared_fields, first_fields}
use Rattle.filter_matcher.specs.Shown.{ones_at, show_by, show_of}
use Rattle.filter_matcher.specs.declared.shown.Shown.{Shown}
use Rattle.filter_matcher.proofs.Digits.{shown_at, shown-each}
use Rattle.filter_matcher.proofs.Halves.{first-distinct, first-within, second-distinct, second-within, numbers-whole}
use Rattle.filter_matcher.specs.Match.{all_fit, fits_either, accepts_of}
use Rattle.filter_matcher.specs.Words.{miss_of, agrees_of, compare_of, match_of}
use Rattle.filter_matcher.proofs.Named.{miss-is}

-- ---- the compare of one half is the agreement of its fields
module _ (registers : List ℕ) (filter : Filter) (values : List ℕ) (whole : length values ≡ length (fields_of filter))
    (code-small : code_in registers < 2 ^ 32) (mask-small : mask_in registers < 2 ^ 32) where
  abbrev w : ℕ
  w = laid_of (fields_of filter) values

  -- some of the fields, which are the first or the last of them
  some : (fs asked shown : List (List ℕ)) → T (distinct (joined fs)) → T (within (joined fs))
      → map (characters_in registers) fs ≡ asked → map (map (shown_at w)) fs ≡ shown
      → eqb (miss_of (code_in registers) (mask_in registers) w (ones_at (joined fs))) 0 ≡ all_fit (joined asked) (joined shown)
  some fs asked shown distinct-fs within-fs a s =
      miss-is registers w code-small mask-small (laid-small filter values) (joined fs) distinct-fs within-fs
      ∙ ap₂ all_fit (mapped-joined (character_in registers) fs ∙ ap joined a) (mapped-joined (shown_at w) fs ∙ ap joined s)

  each : map (map (shown_at w)) (fields_of filter) ≡ written_each (fields_of filter) values
  each = shown-each (fields_of filter) values (row-distinct filter) whole

  pub first-half : (n : ℕ) → T (distinct (joined (take n (fields_of filter)))) → T (within (joined (take n (fields_of filter))))
      → eqb (miss_of (code_in registers) (mask_in registers) w (ones_at (joined (take n (fields_of filter))))) 0
      ≡ all_fit (joined (take n (patterns_in registers (fields_of filter)))) (joined (take n (written_each (fields_of filter) values)))
  first-half n d i =
      some (take n (fields_of filter)) _ _ d i (mapped-take (characters_in registers) n (fields_of filter))
      (mapped-take (map (shown_at w)) n (fields_of filter) ∙ ap (take n) each)

  pub second-half : (n : ℕ) → T (distinct (joined (drop n (fields_of filter)))) → T (within (joined (drop n (fields_of filter))))
      → eqb (miss_of (code_in registers) (mask_in registers) w (ones_at (joined (drop n (fields_of filter))))) 0
      ≡ all_fit (joined (drop n (patterns_in registers (fields_of filter)))) (joined (drop n (written_each (fields_of filter) values)))
  second-half n d i =
      some (drop n (fields_of filter)) _ _ d i (mapped-drop (characters_in registers) n (fields_of filter))
      (mapped-drop (map (shown_at w)) n (fields_of filter) ∙ ap (drop n) each)

or-none : (a b : Bool) → b ≡ a → b ≡ (a || false)
or-none true b e = e
or-none false b e = e

-- ---- the law: the compare of the words that a frame shows is the definition
module _ (registers frame : List ℕ) (code-small : code_in registers < 2 ^ 32) (mask-small : mask_in registers < 2 ^ 32) where
  half₁ : (filter : Filter) (bytes : ℕ) → eqb (miss_of (code_in registers) (mask_in registers) (laid_of (fields_of filter) (shown_in filter frame)) (ones_at (joined (take (compared_fields filter bytes) (fields_of filter))))) 0
      ≡ all_fit (joined (take (compared_fields filter bytes) (patterns_in registers (fields_of filter)))) (joined (take (compared_fields filter bytes) (shown_bits filter frame)))
  half₁ filter bytes =
      first-half registers filter (shown_in filter frame) (numbers-whole filter _ _ _ _) code-small mask-small (compared_fields filter bytes) (first-distinct filter bytes) (first-within filter bytes)

  half₂ : (filter : Filter) → eqb (miss_of (code_in registers) (mask_in registers) (laid_of (fields_of filter) (shown_in filter frame)) (ones_at (joined (drop (first_fields filter) (fields_of filter))))) 0
      ≡ all_fit (joined (drop (first_fields filter) (patterns_in registers (fields_of filter)))) (joined (drop (first_fields filter) (shown_bits filter frame)))
  half₂ filter = second-half registers filter (shown_in filter frame) (numbers-whole filter _ _ _ _) code-small mask-small (first_fields filter) (second-distinct filter) (second-within filter)

  pub agrees-is : (dual : Bool) → agrees_of dual (code_in registers) (mask_in registers) (show_of frame) ≡ accepts_of dual registers frame
  unfolding agrees_of show_of show_by accepts_of fits_either
  agrees-is true = ap₂ (λ (a b : Bool). a || b) (half₁ (row_for true (extended_of frame)) (data_length_of frame)) (half₂ (row_for true (extended_of frame)))
  agrees-is false = or-none _ _ (half₁ (row_for false (extended_of frame)) (data_length_of frame))

  pub compare-is : (kind : ℕ) → compare_of kind (code_in registers) (mask_in registers) (show_of frame) ≡ match_of kind registers frame
  unfolding compare_of match_of
  compare-is kind = ap (λ (b : Bool). cond {A = Said Bool} (ltb 1 kind) (refuses 7 (0 ∷ [])) (gives b)) (agrees-is (eqb kind 1))

-- ---- what is compared is the registers' words and what the frame shows
pub matched : (dual : Bool) (code mask : ℕ) (registers frame : List ℕ) (shown : Shown) → (code ≡ code_in registers) × (code < 2 ^ 32)
    → (mask ≡ mask_in registers) × (mask < 2 ^ 32) → shown ≡ show_of frame → agrees_of dual code mask shown ≡ accepts_of dual registers frame
matched dual code mask registers frame shown c m s =
    ap₂ (λ (x y : ℕ). agrees_of dual x y shown) c.0 m.0
    ∙ ap (agrees_of dual (code_in registers) (mask_in registers)) s
    ∙ agrees-is registers frame (subst (λ (x : ℕ). x < 2 ^ 32) c.0 c.1) (subst (λ (x : ℕ). x < 2 ^ 32) m.0 m.1) dual

pub compared : (kind code mask : ℕ) (registers frame : List ℕ) (shown : Shown) → (code ≡ code_in registers) × (code < 2 ^ 32)
    → (mask ≡ mask_in registers) × (mask < 2 ^ 32) → shown ≡ show_of frame → compare_of kind code mask shown ≡ match_of kind registers frame
compared kind code mask registers frame shown c m s =
    ap₂ (λ (x y : ℕ). compare_of kind x y shown) c.0 m.0
    ∙ ap (compare_of kind (code_in registers) (mask_in registers)) s
    ∙ compare-is registers frame (subst (λ (x : ℕ). x < 2 ^ 32) c.0 c.1) (subst (λ (x : ℕ). x < 2 ^ 32) m.0 m.1) kind

-- ---- the compare of a dual filter: the first half, and the second where the first does not agree
pub by_first : (kind code mask m : ℕ) (shown : Shown) → kind ≡ 1 → m ≡ miss_of code mask shown.dual shown.first → m ≡ 0
    → gives true ≡ compare_of kind code mask shown
unfolding compare_of agrees_of
by_first kind code mask m shown k e none = rw (k, sym e ∙ none)
