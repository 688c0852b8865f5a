-- A row that a filter's fields are drawn in has the word of the filter's fields joined, and its characters are good if theirs are: the runs in the drawing's
-- order are the fields in the arguments' order, whose two differ by one nibble of one filter. Assumes nothing.
use Prim.Native.Nat.{ℕ, ◌-◌}
use mathlib.Core.Path.{◌≡◌, refl, sym, ap, ◌∙◌}
use mathlib.Core.Bool.{Bool, true, false, ◌&&◌}
use mathlib.Core.List.{List, [], ◌∷◌, ◌++◌}
use lib.Bits.{bit_or, or_zero_r, or_comm}
use lib.ListN.{length, take, drop, replicate, take-append-drop, length-drop}
use lib.Seq.{paste, length-take-le}
use native.Mathlib.Omega.{arith}
use Rattle.laws.specs.Said.{gives}
use Rattle.filter_characters.specs.Characters.{all_characters}
use Rattle.filter_compilers.specs.Table.{Filter, single_standard, single_extended, dual_standard, dual_extended, run, fields_of, row_of, joined, lengths}
use Rattle.filter_compilers.specs.Words.{word_of}
use Rattle.filter_compilers.specs.Answers.{lengths_of}
use Rattle.filter_compilers.proofs.Words.{or-three, word-append}
use Rattle.filter_compilers.proofs.Lengths.{lengths-given}
use Rattle.filter_compilers.proofs.Drawing.{nothing-drawn, run-drawn, row_laid, row-good, and-group, and-true, all_append}

-- the row shows the filter's patterns
pub record Shows (filter : Filter) (patterns : List (List ℕ)) (row : List ℕ) : Type 0 where
  pub words : (digit : ℕ → ℕ) → digit 120 ≡ 0 → word_of digit (run 0 32) row ≡ word_of digit (row_of filter) (joined patterns)
  pub good : all_characters row ≡ all_characters (joined patterns)
  pub widths : lengths patterns ≡ lengths (fields_of filter)

-- ---- parts from the first on, and from the last on
right : {A : Type 0} → (A → A → A) → A → List A → A
right op end [] = end
right op end (v ∷ vs) = op v (right op end vs)

left : {A : Type 0} → (A → A → A) → A → List A → A
left op a [] = a
left op a (v ∷ vs) = left op (op a v) vs

module _ {A : Type 0} (op : A → A → A) (end : A) (group : (a b c : A) → op (op a b) c ≡ op a (op b c)) (last : (a : A) → op a end ≡ a) where
  left-right : (a : A) (vs : List A) → left op a vs ≡ op a (right op end vs)
  unfolding left right
  left-right a [] = sym (last a)
  left-right a (v ∷ vs) = left-right (op a v) vs ∙ group a v (right op end vs)

  -- the second of two parts may stand behind the two that follow
  behind : ((a b : A) → op a b ≡ op b a) → (p q a b : A) → op (op p q) (op a (op b end)) ≡ op p (op a (op b (op q end)))
  behind swap p q a b =
      group p q (op a (op b end))
      ∙ ap (op p) (swap q (op a (op b end)) ∙ group a (op b end) q ∙ ap (op a) (ap (λ (x : A). op x q) (last b) ∙ ap (op b) (sym (last q))))

and-swap : (a b : Bool) → (a && b) ≡ (b && a)
and-swap true b = sym (and-true b)
and-swap false true = refl
and-swap false false = refl

-- ---- fields joined
words_of : (ℕ → ℕ) → List (List ℕ) → List (List ℕ) → List ℕ
words_of digit [] patterns = []
words_of digit (f ∷ fields) [] = []
words_of digit (f ∷ fields) (p ∷ patterns) = word_of digit f p ∷ words_of digit fields patterns

joined_word : (digit : ℕ → ℕ) (fields patterns : List (List ℕ)) → lengths patterns ≡ lengths fields
    → word_of digit (joined fields) (joined patterns) ≡ right bit_or 0 (words_of digit fields patterns)
unfolding word_of words_of right
joined_word digit [] patterns h = refl
joined_word digit (f ∷ fields) [] h = absurd (let z : ◌≡◌ {A = ℕ} 0 1 = cc in omega arith)
joined_word digit (f ∷ fields) (p ∷ patterns) h =
    let here : length p ≡ length f = cc in
    let rest : lengths patterns ≡ lengths fields = cc in
    word-append digit f (joined fields) p (joined patterns) here ∙ ap (bit_or (word_of digit f p)) (joined_word digit fields patterns rest)

goods_of : List (List ℕ) → List Bool
goods_of [] = []
goods_of (p ∷ patterns) = all_characters p ∷ goods_of patterns

joined-good : (patterns : List (List ℕ)) → all_characters (joined patterns) ≡ right ◌&&◌ true (goods_of patterns)
unfolding goods_of right
joined-good [] = refl
joined-good (p ∷ patterns) = all_append p (joined patterns) ∙ ap (λ (b : Bool). all_characters p && b) (joined-good patterns)

-- ---- the four filters
abbrev laid_at : (ℕ → ℕ) → ℕ → List ℕ → ℕ
laid_at digit low s = word_of digit (run low (length s)) s

-- a run drawn into a row
abbrev Draws : ℕ → List ℕ → List ℕ → List ℕ → Type 0
Draws low s row next = next ≡ paste row (32 - low - length s) s (length s)

or-all : (vs : List ℕ) → left bit_or 0 vs ≡ right bit_or 0 vs
or-all vs = left-right bit_or 0 or-three or_zero_r 0 vs

and-all : (vs : List Bool) → left ◌&&◌ true vs ≡ right ◌&&◌ true vs
and-all vs = left-right ◌&&◌ true and-group and-true true vs

pub single-standard : (id rtr first second one two three row : List ℕ) → lengths_of 0 (11 ∷ 1 ∷ 8 ∷ 8 ∷ []) (length id ∷ length rtr ∷ length first ∷ length second ∷ []) (gives 8) ≡ gives 8
    → Draws 21 id (replicate 32 120) one → Draws 20 rtr one two → Draws 8 first two three → Draws 0 second three row
    → Shows single_standard (id ∷ rtr ∷ first ∷ second ∷ []) row
unfolding fields_of left right words_of goods_of
single-standard id rtr first second one two three row made e1 e2 e3 e4 =
    let same = (lengths-given 0 (11 ∷ 1 ∷ 8 ∷ 8 ∷ []) (length id ∷ length rtr ∷ length first ∷ length second ∷ []) (gives 8) made).0 in
    let a : length id ≡ 11 = cc in
    let b : length rtr ≡ 1 = cc in
    let c : length first ≡ 8 = cc in
    let d : length second ≡ 8 = cc in
    let d1 = run-drawn nothing-drawn 21 id (omega arith) one e1 in
    let d2 = run-drawn d1 20 rtr (omega arith) two e2 in
    let d3 = run-drawn d2 8 first (omega arith) three e3 in
    let d4 = run-drawn d3 0 second (omega arith) row e4 in
    record {
      words = λ digit z. row_laid d4 digit z ∙ or-all (laid_at digit 21 id ∷ laid_at digit 20 rtr ∷ laid_at digit 8 first ∷ laid_at digit 0 second ∷ []) ∙ rw (a, b, c, d) (sym (joined_word digit (fields_of single_standard) (id ∷ rtr ∷ first ∷ second ∷ []) (rw (a, b, c, d))));
      good = row-good d4 ∙ and-all (goods_of (id ∷ rtr ∷ first ∷ second ∷ [])) ∙ sym (joined-good (id ∷ rtr ∷ first ∷ second ∷ []));
      widths = rw (a, b, c, d);
    }

pub single-extended : (id rtr one row : List ℕ) → lengths_of 0 (29 ∷ 1 ∷ []) (length id ∷ length rtr ∷ []) (gives 8) ≡ gives 8
    → Draws 3 id (replicate 32 120) one → Draws 2 rtr one row
    → Shows single_extended (id ∷ rtr ∷ []) row
unfolding fields_of left right words_of goods_of
single-extended id rtr one row made e1 e2 =
    let same = (lengths-given 0 (29 ∷ 1 ∷ []) (length id ∷ length rtr ∷ []) (gives 8) made).0 in
    let a : length id ≡ 29 = cc in
    let b : length rtr ≡ 1 = cc in
    let d1 = run-drawn nothing-drawn 3 id (omega arith) one e1 in
    let d2 = run-drawn d1 2 rtr (omega arith) row e2 in
    record {
      words = λ digit z. row_laid d2 digit z ∙ or-all (laid_at digit 3 id ∷ laid_at digit 2 rtr ∷ []) ∙ rw (a, b) (sym (joined_word digit (fields_of single_extended) (id ∷ rtr ∷ []) (rw (a, b))));
      good = row-good d2 ∙ and-all (goods_of (id ∷ rtr ∷ [])) ∙ sym (joined-good (id ∷ rtr ∷ []));
      widths = rw (a, b);
    }

pub dual-extended : (first second one row : List ℕ) → lengths_of 0 (16 ∷ 16 ∷ []) (length first ∷ length second ∷ []) (gives 8) ≡ gives 8
    → Draws 16 first (replicate 32 120) one → Draws 0 second one row
    → Shows dual_extended (first ∷ second ∷ []) row
unfolding fields_of left right words_of goods_of
dual-extended first second one row made e1 e2 =
    let same = (lengths-given 0 (16 ∷ 16 ∷ []) (length first ∷ length second ∷ []) (gives 8) made).0 in
    let a : length first ≡ 16 = cc in
    let b : length second ≡ 16 = cc in
    let d1 = run-drawn nothing-drawn 16 first (omega arith) one e1 in
    let d2 = run-drawn d1 0 second (omega arith) row e2 in
    record {
      words = λ digit z. row_laid d2 digit z ∙ or-all (laid_at digit 16 first ∷ laid_at digit 0 second ∷ []) ∙ rw (a, b) (sym (joined_word digit (fields_of dual_extended) (first ∷ second ∷ []) (rw (a, b))));
      good = row-good d2 ∙ and-all (goods_of (first ∷ second ∷ [])) ∙ sym (joined-good (first ∷ second ∷ []));
      widths = rw (a, b);
    }

-- a payload's two nibbles
payload-word : (digit : ℕ → ℕ) (s : List ℕ) → length s ≡ 8 → word_of digit (run 16 4 ++ run 0 4) s ≡ bit_or (laid_at digit 16 (take 4 s)) (laid_at digit 0 (drop 4 s))
payload-word digit s h =
    let high : length (take 4 s) ≡ 4 = length-take-le 4 s (omega arith) in
    let low : length (drop 4 s) ≡ 4 = omega (arith, length-drop 4 s) in
    ap (word_of digit (run 16 4 ++ run 0 4)) (sym (take-append-drop 4 s))
    ∙ word-append digit (run 16 4) (run 0 4) (take 4 s) (drop 4 s) high
    ∙ rw (high, low)

payload-good : (s : List ℕ) → all_characters s ≡ (all_characters (take 4 s) && all_characters (drop 4 s))
payload-good s = ap all_characters (sym (take-append-drop 4 s)) ∙ all_append (take 4 s) (drop 4 s)

pub dual-standard : (id rtr payload other last nibble one two three four five row : List ℕ) → lengths_of 0 (11 ∷ 1 ∷ 8 ∷ 11 ∷ 1 ∷ []) (length id ∷ length rtr ∷ length payload ∷ length other ∷ length last ∷ []) (gives 8) ≡ gives 8
    → Draws 21 id (replicate 32 120) one → Draws 20 rtr one two → Draws 16 (take 4 payload) two three
    → Draws 5 other three four → Draws 4 last four five → Draws 0 nibble five row → nibble ≡ drop 4 payload
    → Shows dual_standard (id ∷ rtr ∷ payload ∷ other ∷ last ∷ []) row
unfolding fields_of left right words_of goods_of
dual-standard id rtr payload other last nibble one two three four five row made e1 e2 e3 e4 e5 e6 rest =
    let same = (lengths-given 0 (11 ∷ 1 ∷ 8 ∷ 11 ∷ 1 ∷ []) (length id ∷ length rtr ∷ length payload ∷ length other ∷ length last ∷ []) (gives 8) made).0 in
    let a : length id ≡ 11 = cc in
    let b : length rtr ≡ 1 = cc in
    let c : length payload ≡ 8 = cc in
    let d : length other ≡ 11 = cc in
    let e : length last ≡ 1 = cc in
    let high : length (take 4 payload) ≡ 4 = length-take-le 4 payload (omega arith) in
    let low : length (drop 4 payload) ≡ 4 = omega (arith, length-drop 4 payload) in
    let d1 = run-drawn nothing-drawn 21 id (omega arith) one e1 in
    let d2 = run-drawn d1 20 rtr (omega arith) two e2 in
    let d3 = run-drawn d2 16 (take 4 payload) (omega arith) three e3 in
    let d4 = run-drawn d3 5 other (omega arith) four e4 in
    let d5 = run-drawn d4 4 last (omega arith) five e5 in
    let d6 = run-drawn d5 0 (drop 4 payload) (omega arith) row (rw rest at e6) in
    record {
      words = λ digit z. row_laid d6 digit z
          ∙ or-all (laid_at digit 21 id ∷ laid_at digit 20 rtr ∷ laid_at digit 16 (take 4 payload) ∷ laid_at digit 5 other ∷ laid_at digit 4 last ∷ laid_at digit 0 (drop 4 payload) ∷ [])
          ∙ ap (λ (w : ℕ). bit_or (laid_at digit 21 id) (bit_or (laid_at digit 20 rtr) w))
          (sym (behind bit_or 0 or-three or_zero_r or_comm (laid_at digit 16 (take 4 payload)) (laid_at digit 0 (drop 4 payload)) (laid_at digit 5 other) (laid_at digit 4 last))
          ∙ ap (λ (w : ℕ). bit_or w (bit_or (laid_at digit 5 other) (bit_or (laid_at digit 4 last) 0))) (sym (payload-word digit payload c)))
          ∙ rw (a, b, d, e) (sym (joined_word digit (fields_of dual_standard) (id ∷ rtr ∷ payload ∷ other ∷ last ∷ []) (rw (a, b, c, d, e))));
      good = row-good d6
          ∙ and-all (all_characters id ∷ all_characters rtr ∷ all_characters (take 4 payload) ∷ all_characters other ∷ all_characters last ∷ all_characters (drop 4 payload) ∷ [])
          ∙ ap (λ (t : Bool). all_characters id && (all_characters rtr && t))
          (sym (behind ◌&&◌ true and-group and-true and-swap (all_characters (take 4 payload)) (all_characters (drop 4 payload)) (all_characters other) (all_characters last))
          ∙ ap (λ (t : Bool). t && (all_characters other && (all_characters last && true))) (sym (payload-good payload)))
          ∙ sym (joined-good (id ∷ rtr ∷ payload ∷ other ∷ last ∷ []));
      widths = rw (a, b, c, d, e);
    }
