-- A square of eight times eight bits turned about its diagonal brings the marks of 32 characters into the order of their positions. Each step of
-- it keeps `|`, so that the word of a row is that of its characters, each by itself; what it makes of one pattern character at one place is
-- computed, for every place. Assumes nothing.
use Prim.Native.Nat.{ℕ, zero, suc, ◌+◌, ◌*◌, ◌/◌, ◌%◌, ◌^◌, ◌≤◌, ◌<◌, min, max}
use mathlib.Core.Path.{◌≡◌, refl, sym, ap, ap₂, ◌∙◌, subst}
use mathlib.Core.Bool.{Bool, true, false, cond, ◌&&◌}
use mathlib.Core.List.{List, [], ◌∷◌}
use lib.Bits.{bit_and, bit_or, or_comm, or_zero_r, or_shr, or_mod, or_block, or_shifted, or_lt, and_le_l}
use lib.Dec.{T, eqb, eqb→eq}
use lib.ListN.{length, drop, get_or}
use native.Mathlib.Decide.{ℕ_discrete}
use native.Mathlib.Nat.{zero-mul, add-zero, zero-div, zero-mod, mul-one}
use lib.Pow.{pow_pos}
use lib.Seq.{drop-drop, drop-cons}
use native.Mathlib.Numerals.{add-one}
use native.Mathlib.Omega.{arith}
use Rattle.std.specs.Int.{w64, from_be_bytes}
use Rattle.laws.specs.Bits.{bit_at}
use Rattle.laws.specs.Tabulate.{part}
use Rattle.laws.proofs.Bits.{bit-or, bit-and, bit-lt, bit-ext}
use Rattle.laws.proofs.Bools.{both_left, both_right}
use Rattle.filter_characters.specs.Characters.{is_character, all_characters}
use Rattle.filter_characters.proofs.Characters.{character-none}
use Rattle.filter_compilers.specs.Table.{run}
use Rattle.filter_compilers.specs.Words.{one, word_of}
use Rattle.filter_compilers.proofs.Words.{below_power, or-three, word_split}

-- ---- functions that keep `|`
pub record Keeps (f : ℕ → ℕ) : Type 0 where
  pub none : f 0 ≡ 0
  pub join : (a b : ℕ) → f (bit_or a b) ≡ bit_or (f a) (f b)

and-or-bit : (a b m : ℕ) → a < 2 → b < 2 → m < 2 → min (max a b) m ≡ max (min a m) (min b m)
and-or-bit a b m ha hb hm = omega arith

and-or : (a b m : ℕ) → bit_and (bit_or a b) m ≡ bit_or (bit_and a m) (bit_and b m)
and-or a b m =
    let n = a + b in
    let above : n < 2 ^ n = below_power n in
    let joined : bit_or a b < 2 ^ n = or_lt n a b (omega arith) (omega arith) in
    bit-ext n _ _
    (omega (arith, and_le_l (bit_or a b) m))
    (or_lt n (bit_and a m) (bit_and b m) (omega (arith, and_le_l a m)) (omega (arith, and_le_l b m)))
    (λ k h. bit-and (bit_or a b) m k ∙ ap (λ (x : ℕ). min x (bit_at m k)) (bit-or a b k)
    ∙ and-or-bit (bit_at a k) (bit_at b k) (bit_at m k) (bit-lt a k) (bit-lt b k) (bit-lt m k)
    ∙ ap₂ max (sym (bit-and a m k)) (sym (bit-and b m k)) ∙ sym (bit-or (bit_and a m) (bit_and b m) k))

or-four : (a b c d : ℕ) → bit_or (bit_or a b) (bit_or c d) ≡ bit_or (bit_or a c) (bit_or b d)
or-four a b c d =
    or-three a b (bit_or c d)
    ∙ ap (bit_or a) (sym (or-three b c d) ∙ ap (λ (x : ℕ). bit_or x d) (or_comm b c) ∙ or-three c b d)
    ∙ sym (or-three a c (bit_or b d))

or-times : (a b k : ℕ) → bit_or a b * 2 ^ k ≡ bit_or (a * 2 ^ k) (b * 2 ^ k)
or-times a b k =
    sym (ap₂ bit_or (sym (add-zero (a * 2 ^ k))) (sym (add-zero (b * 2 ^ k)))
    ∙ or_block k a b 0 0 (pow_pos k) (pow_pos k) ∙ add-zero (bit_or a b * 2 ^ k))

module _ {f g : ℕ → ℕ} (F : Keeps f) (G : Keeps g) where
  keeps-after : Keeps (λ x. f (g x))
  keeps-after = record { none = ap f G.none ∙ F.none; join = λ a b. ap f (G.join a b) ∙ F.join (g a) (g b) }

  keeps-beside : Keeps (λ x. bit_or (f x) (g x))
  keeps-beside = record { none = ap₂ bit_or F.none G.none; join = λ a b. ap₂ bit_or (F.join a b) (G.join a b) ∙ or-four (f a) (f b) (g a) (g b) }

keeps-and : (m : ℕ) → Keeps (λ x. bit_and x m)
keeps-and m = record { none = refl; join = λ a b. and-or a b m }

keeps-down : (k : ℕ) → Keeps (λ x. x / 2 ^ k)
keeps-down k = record { none = zero-div (2 ^ k); join = λ a b. or_shr a b k }

keeps-up : (k : ℕ) → Keeps (λ x. x * 2 ^ k)
keeps-up k = record { none = zero-mul (2 ^ k); join = λ a b. or-times a b k }

keeps-rest : (k : ℕ) → Keeps (λ x. x % 2 ^ k)
keeps-rest k = record { none = zero-mod (2 ^ k); join = λ a b. or_mod a b k }

-- ---- the steps
abbrev pub marks_of : ℕ → ℕ
marks_of word = bit_or (bit_and word 0x0101_0101_0101_0101) (bit_and (word / 4) 0x1010_1010_1010_1010)

abbrev pub exchange_of : ℕ → ℕ → ℕ → ℕ → ℕ
exchange_of kept moved by bits = bit_or (bit_and bits kept) (bit_or (bit_and bits moved * 2 ^ by % 2 ^ 64) (bit_and (bits / 2 ^ by) moved))

abbrev pub turned_of : ℕ → ℕ
turned_of square =
    exchange_of 0xF0F0_F0F0_0F0F_0F0F 0x0000_0000_F0F0_F0F0 28
    (exchange_of 0xCCCC_3333_CCCC_3333 0x0000_CCCC_0000_CCCC 14
    (exchange_of 0xAA55_AA55_AA55_AA55 0x00AA_00AA_00AA_00AA 7 square))

keeps-marks : Keeps marks_of
keeps-marks = keeps-beside (keeps-and 0x0101_0101_0101_0101) (keeps-after (keeps-and 0x1010_1010_1010_1010) (keeps-down 2))

keeps-exchange : (kept moved by : ℕ) → Keeps (exchange_of kept moved by)
keeps-exchange kept moved by =
    keeps-beside (keeps-and kept)
    (keeps-beside
    (keeps-after (keeps-rest 64) (keeps-after (keeps-up by) (keeps-and moved)))
    (keeps-after (keeps-and moved) (keeps-down by)))

keeps-turned : Keeps turned_of
keeps-turned =
    keeps-after (keeps-exchange 0xF0F0_F0F0_0F0F_0F0F 0x0000_0000_F0F0_F0F0 28)
    (keeps-after (keeps-exchange 0xCCCC_3333_CCCC_3333 0x0000_CCCC_0000_CCCC 14) (keeps-exchange 0xAA55_AA55_AA55_AA55 0x00AA_00AA_00AA_00AA 7))

keeps-word : (k : ℕ) → Keeps (λ word. turned_of (marks_of word * 2 ^ k))
keeps-word k = keeps-after keeps-turned (keeps-after (keeps-up k) keeps-marks)

-- ---- one character
abbrev pub spare : ℕ → ℕ
spare c = cond (eqb c 120) 1 0

-- both bits of a character, that of `x` above the code's 32 positions
abbrev pub both : ℕ → ℕ
both c = spare c * 2 ^ 32 + one c

-- a function brings a character at one place to a position
abbrev brings : (ℕ → ℕ) → ℕ → ℕ → ℕ → Bool
brings f p q c = eqb (f (c * 2 ^ p)) (both c * 2 ^ q)

-- each pattern character, at each of these places, to its position
abbrev pub brings_all : (ℕ → ℕ) → List ℕ → List ℕ → Bool
brings_all f [] [] = true
brings_all f [] (q ∷ qs) = false
brings_all f (p ∷ ps) [] = false
brings_all f (p ∷ ps) (q ∷ qs) = (brings f p q 48 && (brings f p q 49 && brings f p q 120)) && brings_all f ps qs

by-character : (P : ℕ → Type 0) (c : ℕ) → T (is_character c) → P 48 → P 49 → P 120 → P c
by-character P c t a b d =
    elim (ℕ_discrete c 48) [ yes e ↦ subst P (sym e) a | no n ↦ elim (ℕ_discrete c 49) [ yes e ↦ subst P (sym e) b | no m ↦ elim (ℕ_discrete c 120) [ yes e ↦ subst P (sym e) d | no k ↦ absurd (rw (character-none c n m k) at t) ] ] ]

module _ (f : ℕ → ℕ) (F : Keeps f) where
  brought : (p q c : ℕ) → T (brings f p q 48 && (brings f p q 49 && brings f p q 120)) → T (is_character c) → f (c * 2 ^ p) ≡ both c * 2 ^ q
  brought p q c t good =
      let rest = both_right (brings f p q 48) (brings f p q 49 && brings f p q 120) t in
      eqb→eq (f (c * 2 ^ p)) (both c * 2 ^ q)
      (by-character (λ (x : ℕ). T (brings f p q x)) c good
      (both_left (brings f p q 48) (brings f p q 49 && brings f p q 120) t)
      (both_left (brings f p q 49) (brings f p q 120) rest)
      (both_right (brings f p q 49) (brings f p q 120) rest))

  through : (ps qs cs : List ℕ) → T (brings_all f ps qs) → T (all_characters cs) → f (word_of (λ c. c) ps cs) ≡ word_of both qs cs
  unfolding word_of
  through [] [] cs t good = F.none
  through [] (q ∷ qs) cs t good = absurd t
  through (p ∷ ps) [] cs t good = absurd t
  through (p ∷ ps) (q ∷ qs) [] t good = F.none
  through (p ∷ ps) (q ∷ qs) (c ∷ cs) t good =
      let here = brings f p q 48 && (brings f p q 49 && brings f p q 120) in
      F.join (c * 2 ^ p) (word_of (λ c. c) ps cs)
      ∙ ap₂ bit_or
      (brought p q c (both_left here (brings_all f ps qs) t) (both_left (is_character c) (all_characters cs) good))
      (through ps qs cs (both_right here (brings_all f ps qs) t) (both_right (is_character c) (all_characters cs) good))

-- ---- eight characters, and the row
abbrev pub eight_places : List ℕ
eight_places = 56 ∷ 48 ∷ 40 ∷ 32 ∷ 24 ∷ 16 ∷ 8 ∷ 0 ∷ []

-- bytes that share no bit
or-bytes : (a b c d e f g h : ℕ) → a < 256 → b < 256 → c < 256 → d < 256 → e < 256 → f < 256 → g < 256 → h < 256
    → a * 2 ^ 56 + b * 2 ^ 48 + c * 2 ^ 40 + d * 2 ^ 32 + e * 2 ^ 24 + f * 2 ^ 16 + g * 2 ^ 8 + h
    ≡ bit_or (a * 2 ^ 56) (bit_or (b * 2 ^ 48) (bit_or (c * 2 ^ 40) (bit_or (d * 2 ^ 32) (bit_or (e * 2 ^ 24) (bit_or (f * 2 ^ 16) (bit_or (g * 2 ^ 8) h))))))
or-bytes a b c d e f g h ha hb hc hd he hf hg hh =
    let two : bit_or (g * 2 ^ 8) h ≡ g * 2 ^ 8 + h = or_shifted g 8 h (omega arith) in
    let three : bit_or (f * 2 ^ 16) (bit_or (g * 2 ^ 8) h) ≡ f * 2 ^ 16 + (g * 2 ^ 8 + h) = ap (bit_or (f * 2 ^ 16)) two ∙ or_shifted f 16 _ (omega arith) in
    let four : bit_or (e * 2 ^ 24) (bit_or (f * 2 ^ 16) (bit_or (g * 2 ^ 8) h)) ≡ e * 2 ^ 24 + (f * 2 ^ 16 + (g * 2 ^ 8 + h)) = ap (bit_or (e * 2 ^ 24)) three ∙ or_shifted e 24 _ (omega arith) in
    let five = ap (bit_or (d * 2 ^ 32)) four ∙ or_shifted d 32 (e * 2 ^ 24 + (f * 2 ^ 16 + (g * 2 ^ 8 + h))) (omega arith) in
    let six = ap (bit_or (c * 2 ^ 40)) five ∙ or_shifted c 40 (d * 2 ^ 32 + (e * 2 ^ 24 + (f * 2 ^ 16 + (g * 2 ^ 8 + h)))) (omega arith) in
    let seven = ap (bit_or (b * 2 ^ 48)) six ∙ or_shifted b 48 (c * 2 ^ 40 + (d * 2 ^ 32 + (e * 2 ^ 24 + (f * 2 ^ 16 + (g * 2 ^ 8 + h))))) (omega arith) in
    let eight = ap (bit_or (a * 2 ^ 56)) seven ∙ or_shifted a 56 (b * 2 ^ 48 + (c * 2 ^ 40 + (d * 2 ^ 32 + (e * 2 ^ 24 + (f * 2 ^ 16 + (g * 2 ^ 8 + h)))))) (omega arith) in
    omega (arith, eight)

module _ (row : List ℕ) where
  next : (p i j : ℕ) (ps : List ℕ) → i < length row → j ≡ i + 1 → word_of (λ c. c) (p ∷ ps) (drop i row) ≡ bit_or (get_or row i 0 * 2 ^ p) (word_of (λ c. c) ps (drop j row))
  unfolding word_of
  next p i j ps h e =
      ap (word_of (λ c. c) (p ∷ ps)) (drop-cons row i 0 h)
      ∙ ap (λ (k : ℕ). bit_or (get_or row i 0 * 2 ^ p) (word_of (λ c. c) ps (drop k row))) (sym (e ∙ add-one i))

  -- the bytes from a place on
  eight-bytes : (i : ℕ) → i + 8 ≤ length row
      → bit_or (get_or row i 0 * 2 ^ 56) (bit_or (get_or row (i + 1) 0 * 2 ^ 48) (bit_or (get_or row (i + 2) 0 * 2 ^ 40) (bit_or (get_or row (i + 3) 0 * 2 ^ 32)
      (bit_or (get_or row (i + 4) 0 * 2 ^ 24) (bit_or (get_or row (i + 5) 0 * 2 ^ 16) (bit_or (get_or row (i + 6) 0 * 2 ^ 8) (get_or row (i + 7) 0)))))))
      ≡ word_of (λ c. c) eight_places (drop i row)
  unfolding word_of
  eight-bytes i room =
      sym (
      next 56 i (i + 1) (drop 1 eight_places) (omega arith) (omega arith)
      ∙ ap (λ (w : ℕ). bit_or (get_or row i 0 * 2 ^ 56) w) (next 48 (i + 1) (i + 2) (drop 2 eight_places) (omega arith) (omega arith)
      ∙ ap (λ (w : ℕ). bit_or (get_or row (i + 1) 0 * 2 ^ 48) w) (next 40 (i + 2) (i + 3) (drop 3 eight_places) (omega arith) (omega arith)
      ∙ ap (λ (w : ℕ). bit_or (get_or row (i + 2) 0 * 2 ^ 40) w) (next 32 (i + 3) (i + 4) (drop 4 eight_places) (omega arith) (omega arith)
      ∙ ap (λ (w : ℕ). bit_or (get_or row (i + 3) 0 * 2 ^ 32) w) (next 24 (i + 4) (i + 5) (drop 5 eight_places) (omega arith) (omega arith)
      ∙ ap (λ (w : ℕ). bit_or (get_or row (i + 4) 0 * 2 ^ 24) w) (next 16 (i + 5) (i + 6) (drop 6 eight_places) (omega arith) (omega arith)
      ∙ ap (λ (w : ℕ). bit_or (get_or row (i + 5) 0 * 2 ^ 16) w) (next 8 (i + 6) (i + 7) (drop 7 eight_places) (omega arith) (omega arith)
      ∙ ap (λ (w : ℕ). bit_or (get_or row (i + 6) 0 * 2 ^ 8) w) (next 0 (i + 7) (i + 8) (drop 8 eight_places) (omega arith) (omega arith)
      ∙ or_zero_r (get_or row (i + 7) 0 * 1) ∙ mul-one (get_or row (i + 7) 0)))))))))

  pub eight-word : (i : ℕ) → i + 8 ≤ length row → ((k : ℕ) → get_or row k 0 < 256) → from_be_bytes w64 (part row i 8) ≡ word_of (λ c. c) eight_places (drop i row)
  eight-word i room small =
      rw (add-zero i)
      (or-bytes _ _ _ _ _ _ _ _ (small i) (small (i + 1)) (small (i + 2)) (small (i + 3)) (small (i + 4)) (small (i + 5)) (small (i + 6)) (small (i + 7))
      ∙ eight-bytes i room)

good-drop : (n : ℕ) (cs : List ℕ) → T (all_characters cs) → T (all_characters (drop n cs))
good-drop zero cs t = t
good-drop (suc n) [] t = t
good-drop (suc n) (c ∷ cs) t = good-drop n cs (both_right (is_character c) (all_characters cs) t)

-- the four words of a row
pub row-turned : (row : List ℕ) (a b c d : ℕ) → T (all_characters row)
    → a ≡ word_of (λ x. x) eight_places (drop 0 row) → b ≡ word_of (λ x. x) eight_places (drop 8 row)
    → c ≡ word_of (λ x. x) eight_places (drop 16 row) → d ≡ word_of (λ x. x) eight_places (drop 24 row)
    → turned_of (bit_or (marks_of a * 8) (bit_or (marks_of b * 4) (bit_or (marks_of c * 2) (marks_of d)))) ≡ word_of both (run 0 32) row
unfolding one
row-turned row a b c d good ea eb ec ed =
    let part : (n : ℕ) → T (all_characters (drop n row)) = λ n. good-drop n row good in
    let first : turned_of (marks_of a * 8) ≡ word_of both (run 24 8) row = rw ea (through (λ w. turned_of (marks_of w * 2 ^ 3)) (keeps-word 3) eight_places (run 24 8) row tt good) in
    let second : turned_of (marks_of b * 4) ≡ word_of both (run 16 8) (drop 8 row) = rw eb (through (λ w. turned_of (marks_of w * 2 ^ 2)) (keeps-word 2) eight_places (run 16 8) (drop 8 row) tt (part 8)) in
    let third : turned_of (marks_of c * 2) ≡ word_of both (run 8 8) (drop 16 row) = rw ec (through (λ w. turned_of (marks_of w * 2 ^ 1)) (keeps-word 1) eight_places (run 8 8) (drop 16 row) tt (part 16)) in
    let fourth : turned_of (marks_of d) ≡ word_of both (run 0 8) (drop 24 row) = rw ed (through (λ w. turned_of (marks_of w)) (keeps-after keeps-turned keeps-marks) eight_places (run 0 8) (drop 24 row) tt (part 24)) in
    keeps-turned.join (marks_of a * 8) (bit_or (marks_of b * 4) (bit_or (marks_of c * 2) (marks_of d)))
    ∙ ap₂ bit_or first
    (keeps-turned.join (marks_of b * 4) (bit_or (marks_of c * 2) (marks_of d))
    ∙ ap₂ bit_or second (keeps-turned.join (marks_of c * 2) (marks_of d) ∙ ap₂ bit_or third fourth))
    ∙ sym whole
  where
    behind : (n : ℕ) → drop 8 (drop n row) ≡ drop (n + 8) row
    behind n = drop-drop 8 n row

    whole : word_of both (run 0 32) row
        ≡ bit_or (word_of both (run 24 8) row) (bit_or (word_of both (run 16 8) (drop 8 row)) (bit_or (word_of both (run 8 8) (drop 16 row)) (word_of both (run 0 8) (drop 24 row))))
    whole =
        word_split both (run 24 8) (run 0 24) row
        ∙ ap (bit_or (word_of both (run 24 8) row))
        (word_split both (run 16 8) (run 0 16) (drop 8 row)
        ∙ ap (bit_or (word_of both (run 16 8) (drop 8 row)))
        (ap (word_of both (run 0 16)) (behind 8)
        ∙ word_split both (run 8 8) (run 0 8) (drop 16 row)
        ∙ ap (bit_or (word_of both (run 8 8) (drop 16 row))) (ap (word_of both (run 0 8)) (behind 16))))
