-- A row drawn from above, one run of characters below the other: what is below is `x` still, which asks for nothing, so that the row's word is the runs'
-- words or'd together, and all of the row are pattern characters if all of the runs are. Assumes nothing.
use Prim.Native.Nat.{ℕ, zero, suc, ◌+◌, ◌-◌, ◌≤◌}
use mathlib.Core.Path.{◌≡◌, refl, sym, ap, ap₂, ◌∙◌}
use mathlib.Core.Bool.{Bool, true, false, ◌&&◌}
use mathlib.Core.List.{List, [], ◌∷◌, ◌++◌, append_assoc}
use lib.Bits.{bit_or, or_zero_r}
use lib.ListN.{length, take, drop, replicate, length-append, length-replicate, replicate-append-replicate}
use lib.Seq.{paste, take_at, drop_at, take-length, drop-append-add}
use native.Mathlib.Omega.{arith}
use Rattle.filter_characters.specs.Characters.{is_character, all_characters}
use Rattle.filter_compilers.specs.Table.{run}
use Rattle.filter_compilers.specs.Words.{word_of}
use Rattle.filter_compilers.proofs.Words.{word-beside, word-spared}

-- ---- all are pattern characters
pub and-group : (a b c : Bool) → ((a && b) && c) ≡ (a && (b && c))
and-group true b c = refl
and-group false b c = refl

pub and-true : (a : Bool) → (a && true) ≡ a
and-true true = refl
and-true false = refl

pub all_append : (s t : List ℕ) → all_characters (s ++ t) ≡ (all_characters s && all_characters t)
all_append [] t = refl
all_append (c ∷ s) t = ap (λ (b : Bool). is_character c && b) (all_append s t) ∙ sym (and-group (is_character c) (all_characters s) (all_characters t))

all-spared : (n : ℕ) → all_characters (replicate n 120) ≡ true
all-spared zero = refl
all-spared (suc n) = all-spared n

-- ---- one run below the other
abbrev spared : ℕ → List ℕ
spared n = replicate n 120

spared-long : (n : ℕ) → length (spared n) ≡ n
spared-long n = length-replicate n 120

spare-drop : (n k j : ℕ) → k ≡ n + j → drop {A = ℕ} n (replicate k 120) ≡ replicate j 120
spare-drop n k j e =
    ap (λ (m : ℕ). drop {A = ℕ} n (replicate m 120)) e
    ∙ ap (drop {A = ℕ} n) (sym (replicate-append-replicate n j 120))
    ∙ drop_at (replicate n 120) (replicate j 120) n (length-replicate n 120)

pasted : (f p s : List ℕ) (at k j : ℕ) → f ≡ p ++ replicate k 120 → length p ≡ at → k ≡ length s + j
    → paste f at s (length s) ≡ (p ++ s) ++ replicate j 120
pasted f p s at k j e h room =
    ap₂ (λ (x y : List ℕ). x ++ y)
    (ap₂ (λ (x y : List ℕ). x ++ y) (ap (take at) e ∙ take_at p (replicate k 120) at h) (take-length s))
    (ap (drop (at + length s)) e ∙ ap (λ (m : ℕ). drop (m + length s) (p ++ replicate k 120)) (sym h) ∙ drop-append-add p (replicate k 120) (length s) ∙ spare-drop (length s) k j room)

-- drawn down to a position, with the word of the runs so far for each kind of bit, and whether all of them are pattern characters
pub record Down (row : List ℕ) (low : ℕ) (word : (ℕ → ℕ) → ℕ) (all : Bool) : Type 0 where
  pub front : List ℕ
  pub split : row ≡ front ++ replicate low 120
  pub long : length front + low ≡ 32
  pub laid : (digit : ℕ → ℕ) → digit 120 ≡ 0 → word_of digit (run low (length front)) front ≡ word digit
  pub good : all_characters front ≡ all

pub nothing-drawn : Down (replicate 32 120) 32 (λ digit. 0) true
unfolding word_of
nothing-drawn = record { front = []; split = refl; long = refl; laid = λ digit z. refl; good = refl }

module _ {row : List ℕ} {high : ℕ} {word : (ℕ → ℕ) → ℕ} {all : Bool} (D : Down row high word all) where
  module _ (low : ℕ) (s : List ℕ) (room : low + length s ≤ high) where
    gap : ℕ
    gap = high - low - length s

    above : List ℕ
    above = D.front ++ spared gap

    above-long : length above + (length s + low) ≡ 32
    unfolding gap above
    above-long = omega (arith, length-append D.front (spared gap), spared-long gap, D.long)

    above-laid : (digit : ℕ → ℕ) → digit 120 ≡ 0 → word_of digit (run (length s + low) (length above)) above ≡ word digit
    unfolding gap above
    above-laid digit z =
        ap (λ (n : ℕ). word_of digit (run (length s + low) n) above) (length-append D.front (spared gap))
        ∙ word-beside digit (length s + low) D.front (spared gap)
        ∙ ap₂ bit_or
        (ap (λ (n : ℕ). word_of digit (run n (length D.front)) D.front) (omega (arith, spared-long gap)) ∙ D.laid digit z)
        (ap (λ (n : ℕ). word_of digit (run (length s + low) n) (spared gap)) (spared-long gap) ∙ word-spared digit z (length s + low) gap)
        ∙ or_zero_r (word digit)

    above_good : all_characters above ≡ all
    unfolding above
    above_good = all_append D.front (spared gap) ∙ ap₂ ◌&&◌ D.good (all-spared gap) ∙ and-true all

    parts : high ≡ gap + (length s + low)
    unfolding gap
    parts = omega arith

    shape : row ≡ above ++ replicate (length s + low) 120
    unfolding gap above
    shape =
        D.split
        ∙ ap (λ (n : ℕ). D.front ++ spared n) parts
        ∙ ap (λ (l : List ℕ). D.front ++ l) (sym (replicate-append-replicate gap (length s + low) 120))
        ∙ sym (append_assoc D.front (spared gap) (replicate (length s + low) 120))

    pub run-drawn : (next : List ℕ) → next ≡ paste row (32 - low - length s) s (length s)
        → Down next low (λ digit. bit_or (word digit) (word_of digit (run low (length s)) s)) (all && all_characters s)
    run-drawn next e = record {
      front = above ++ s;
      split = e ∙ pasted row above s (32 - low - length s) (length s + low) low shape (omega (arith, above-long)) refl;
      long = omega (arith, length-append above s, above-long);
      laid = λ digit z. ap (λ (n : ℕ). word_of digit (run low n) (above ++ s)) (length-append above s) ∙ word-beside digit low above s ∙ ap (λ (w : ℕ). bit_or w (word_of digit (run low (length s)) s)) (above-laid digit z);
      good = all_append above s ∙ ap (λ (b : Bool). b && all_characters s) above_good;
    }

  -- the whole row
  pub row_laid : (digit : ℕ → ℕ) → digit 120 ≡ 0 → word_of digit (run 0 32) row ≡ word digit
  row_laid digit z =
      let long : length D.front + length (spared high) ≡ 32 = omega (arith, D.long, spared-long high) in
      ap (word_of digit (run 0 32)) D.split
      ∙ ap (λ (n : ℕ). word_of digit (run 0 n) (D.front ++ replicate high 120)) (sym long)
      ∙ word-beside digit 0 D.front (spared high)
      ∙ ap₂ bit_or
      (ap (λ (n : ℕ). word_of digit (run n (length D.front)) D.front) (omega (arith, spared-long high)) ∙ D.laid digit z)
      (ap (λ (n : ℕ). word_of digit (run 0 n) (spared high)) (spared-long high) ∙ word-spared digit z 0 high)
      ∙ or_zero_r (word digit)

  pub row-good : all_characters row ≡ all
  row-good =
      ap all_characters D.split ∙ all_append D.front (spared high) ∙ ap₂ ◌&&◌ D.good (all-spared high) ∙ and-true all
