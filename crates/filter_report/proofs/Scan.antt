-- A line by its first character: what the code reads of it. Assumes nothing.
use Prim.Native.Nat.{ℕ, suc, ◌+◌, ◌*◌, ◌-◌, ◌^◌, ◌≤◌, ◌<◌, min}
use mathlib.Core.Path.{◌≡◌, refl, sym, ap, ◌∙◌}
use mathlib.Core.Bool.{Bool, true, false, cond, ◌&&◌, false≢true}
use mathlib.Core.List.{List, [], ◌∷◌}
use lib.Dec.{eqb, ltb}
use lib.ListN.{length, get_or, take, drop, length-drop}
use lib.Seq.{take_all}
use native.Mathlib.Omega.{arith}
use native.Mathlib.Decide.{dec_le, dec_lt}
use borrow.Author.Tests.{lt-ltb, le-ltb, lt-leb, le-leb, eq-eqb, ne_eqb}
use Rattle.std.specs.Prelude.{None, Some, Ok, Err}
use Rattle.std.specs.Char.{digit_value}
use Rattle.std.specs.List.{prefix_len, IsFirstAndRest}
use Rattle.std.specs.Cmp.Lexicographic.{pointwise}
use Rattle.std.proofs.lemmas.Bool.{eqb-true}
use Rattle.filter_report.specs.Line.{is_blank, ends, closes, unblanked, digit_of, base_of, judged, number_from, number_of, word_of, line_of, is_hex}
use Rattle.filter_report.specs.declared.line.Fault.{Fault}
use Rattle.filter_report.specs.declared.line.Fault.TheVariants.{Above, NotANumber}

-- the characters behind those in front that are blank
pub unblanked_is : (line : List ℕ) → drop (prefix_len is_blank line) line ≡ unblanked line
unfolding unblanked
unblanked_is [] = refl
unblanked_is (c ∷ line) = by (is_blank c) (unblanked_is line)
  where
    n : ℕ
    n = prefix_len is_blank line

    by : (b : Bool) → drop n line ≡ unblanked line → drop (cond b (1 + n) 0) (c ∷ line) ≡ cond b (unblanked line) (c ∷ line)
    by true e = ap (λ (k : ℕ). drop k (c ∷ line)) {x = 1 + n} {y = suc n} (omega arith) ∙ e
    by false e = refl

pub unblanked_at : (line : List ℕ) (n : ℕ) → n ≡ prefix_len is_blank line → take (length line - n) (drop n line) ≡ unblanked line
unblanked_at line n e = take_all (length line - n) (drop n line) (omega (arith, length-drop n line)) ∙ ap (λ (k : ℕ). drop k line) e ∙ unblanked_is line

-- a line has nothing more to say where it is blank, or its first other character begins a remark
abbrev pub nothing_first : List ℕ → Bool
nothing_first [] = true
nothing_first (c ∷ line) = eqb c 35

mark_word : (c : ℕ) → c ≡ 35 → is_blank c ≡ false
unfolding is_blank
mark_word c e = rw e

pub ends_is : (line : List ℕ) → ends line ≡ nothing_first (unblanked line)
unfolding ends unblanked
ends_is [] = refl
ends_is (c ∷ line) = by (eqb c 35) (is_blank c) refl refl (ends_is line)
  where
    by : (b w : Bool) → eqb c 35 ≡ b → is_blank c ≡ w → ends line ≡ nothing_first (unblanked line)
        → cond b true (cond w (ends line) false) ≡ nothing_first (cond w (unblanked line) (c ∷ line))
    by true true e f h = absurd (false≢true (sym (mark_word c (eqb-true c 35 e)) ∙ f))
    by true false e f h = sym e
    by false true e f h = h
    by false false e f h = sym e

-- ---- digits
pub digit_is : (c : ℕ) → digit_of c ≡ min (digit_value c) 16
unfolding digit_of
digit_is c = grind arith

module _ (limit : ℕ) (hex sixteen : Bool) where
  -- two numbers above the limit are above it with any digits behind them
  above_same : (m n : ℕ) (line : List ℕ) → limit < m → limit < n → number_from limit hex sixteen m line ≡ number_from limit hex sixteen n line
  unfolding number_from
  above_same m n [] hm hn = rw (lt-leb m limit hm, lt-leb n limit hn)
  above_same m n (c ∷ line) hm hn =
      by (ltb (digit_of c) (base_of sixteen)) (above_same (base_of sixteen * m + digit_of c) (base_of sixteen * n + digit_of c) line (more sixteen m hm) (more sixteen n hn))
    where
      more : (b : Bool) (k : ℕ) → limit < k → limit < base_of b * k + digit_of c
      more true k h = omega arith
      more false k h = omega arith

      by : (b : Bool) → number_from limit hex sixteen (base_of sixteen * m + digit_of c) line ≡ number_from limit hex sixteen (base_of sixteen * n + digit_of c) line
          → cond b (number_from limit hex sixteen (base_of sixteen * m + digit_of c) line) (cond (closes hex (c ∷ line)) (judged limit m) (Err NotANumber))
          ≡ cond b (number_from limit hex sixteen (base_of sixteen * n + digit_of c) line) (cond (closes hex (c ∷ line)) (judged limit n) (Err NotANumber))
      by true e = e
      by false e = rw (lt-leb m limit hm, lt-leb n limit hn)

  -- a digit more, of a number that is kept within 32 bits
  pub digit_more : (n c : ℕ) (line : List ℕ) → limit < 2 ^ 32 - 1 → digit_value c < base_of sixteen
      → number_from limit hex sixteen (min (min (n * base_of sixteen) (2 ^ 32 - 1) + digit_value c) (2 ^ 32 - 1)) line ≡ number_from limit hex sixteen n (c ∷ line)
  unfolding number_from
  digit_more n c line h d = rw (same, lt-ltb (digit_value c) (base_of sixteen) d) (elim (dec_le (base_of sixteen * n + digit_value c) most) [
    | yes small ↦ ap (λ (m : ℕ). number_from limit hex sixteen m line) (kept sixteen d small)
    | no large ↦ above_same kept_n (base_of sixteen * n + digit_value c) line (rw (full sixteen d (omega arith)) h) (omega arith)
  ])
    where
      most : ℕ
      most = 2 ^ 32 - 1

      kept_n : ℕ
      kept_n = min (min (n * base_of sixteen) (2 ^ 32 - 1) + digit_value c) (2 ^ 32 - 1)

      few : (s : Bool) → base_of s ≤ 16
      few true = omega arith
      few false = omega arith

      same : digit_of c ≡ digit_value c
      same = omega (arith, digit_is c, few sixteen)

      kept : (s : Bool) → digit_value c < base_of s → base_of s * n + digit_value c ≤ 2 ^ 32 - 1 → min (min (n * base_of s) (2 ^ 32 - 1) + digit_value c) (2 ^ 32 - 1) ≡ base_of s * n + digit_value c
      kept true l h = omega arith
      kept false l h = omega arith

      full : (s : Bool) → digit_value c < base_of s → 2 ^ 32 - 1 < base_of s * n + digit_value c → min (min (n * base_of s) (2 ^ 32 - 1) + digit_value c) (2 ^ 32 - 1) ≡ 2 ^ 32 - 1
      full true l h = omega arith
      full false l h = omega arith

  -- where no digit comes
  pub digit_none : (n : ℕ) (line : List ℕ) → base_of sixteen ≤ digit_of (get_or line 0 0) → number_from limit hex sixteen n line ≡ cond (closes hex line) (judged limit n) (Err NotANumber)
  unfolding number_from closes
  digit_none n [] d = refl
  digit_none n (c ∷ line) d = rw (le-ltb (digit_of c) (base_of sixteen) d)

  pub number_some : (line : List ℕ) → digit_of (get_or line 0 0) < base_of sixteen → number_of limit hex sixteen line ≡ number_from limit hex sixteen 0 line
  unfolding number_of
  number_some line d = rw (lt-ltb (digit_of (get_or line 0 0)) (base_of sixteen) d)

  pub number_none : (line : List ℕ) → base_of sixteen ≤ digit_of (get_or line 0 0) → number_of limit hex sixteen line ≡ Err NotANumber
  unfolding number_of
  number_none line d = rw (le-ltb (digit_of (get_or line 0 0)) (base_of sixteen) d)

-- the number of digits that were read, behind which no digit comes
module _ (limit : ℕ) (hex sixteen : Bool) (n : ℕ) (rest line : List ℕ) (same : number_from limit hex sixteen n rest ≡ number_from limit hex sixteen 0 line)
    (first : length rest < length line → digit_of (get_or line 0 0) < base_of sixteen) (all : length rest ≡ length line → rest ≡ line) (few : length rest ≤ length line)
    (stop : base_of sixteen ≤ digit_of (get_or rest 0 0)) where
  some : (length rest ≡ length line → ⊥) → number_of limit hex sixteen line ≡ cond (closes hex rest) (judged limit n) (Err NotANumber)
  some d = number_some limit hex sixteen line (first (omega (arith, few, d))) ∙ sym same ∙ digit_none limit hex sixteen n rest stop

  pub number_empty : length rest ≡ length line → Err NotANumber ≡ number_of limit hex sixteen line
  number_empty e = sym (number_none limit hex sixteen line (rw (sym (all e)) stop))

  pub number_open : (length rest ≡ length line → ⊥) → closes hex rest ≡ false → Err NotANumber ≡ number_of limit hex sixteen line
  number_open d e = sym (some d ∙ rw e)

  pub number_above : (length rest ≡ length line → ⊥) → closes hex rest ≡ true → limit < n → Err Above ≡ number_of limit hex sixteen line
  number_above d e h = sym (some d ∙ rw (e, lt-leb n limit h))

  pub number_within : (length rest ≡ length line → ⊥) → closes hex rest ≡ true → n ≤ limit → Ok n ≡ number_of limit hex sixteen line
  number_within d e h = sym (some d ∙ rw (e, le-leb n limit h))

first_digit : (sixteen : Bool) (c : ℕ) → digit_value c < base_of sixteen → digit_of c < base_of sixteen
first_digit sixteen c h = omega (arith, digit_is c)

-- where the digits end: at the line's end, or at another character
pub stop_end : (sixteen : Bool) (rest : List ℕ) → length rest ≡ 0 → base_of sixteen ≤ digit_of (get_or rest 0 0)
unfolding digit_of
stop_end true [] e = omega arith
stop_end false [] e = omega arith
stop_end sixteen (c ∷ rest) e = absurd (omega arith)

pub stop_other : (sixteen : Bool) (rest behind : List ℕ) (c d base : ℕ) → IsFirstAndRest rest c behind → d ≡ c → base ≡ base_of sixteen → (digit_value d < base → ⊥) → base_of sixteen ≤ digit_of (get_or rest 0 0)
stop_other sixteen rest behind c d base first e b n =
    let stop : base_of sixteen ≤ digit_value c = rw (sym e) (omega (arith, b, n)) in
    rw first.0 (by sixteen stop)
  where
    by : (s : Bool) → base_of s ≤ digit_value c → base_of s ≤ digit_of c
    by true h = omega (arith, digit_is c)
    by false h = omega (arith, digit_is c)

-- a digit more
pub digit_turn : (limit : ℕ) (hex sixteen : Bool) (n next c d : ℕ) (rest behind line : List ℕ) → limit < 2 ^ 32 - 1 → IsFirstAndRest rest c behind → digit_value d < base_of sixteen → d ≡ c
    → next ≡ min (min (n * base_of sixteen) (2 ^ 32 - 1) + digit_value d) (2 ^ 32 - 1)
    → (number_from limit hex sixteen n rest ≡ number_from limit hex sixteen 0 line)
    × (length rest ≤ length line)
    × (length rest ≡ length line → rest ≡ line)
    × (length rest < length line → digit_of (get_or line 0 0) < base_of sixteen)
    → (number_from limit hex sixteen next behind ≡ number_from limit hex sixteen 0 line)
    × (length behind ≤ length line)
    × (length behind ≡ length line → behind ≡ line)
    × (length behind < length line → digit_of (get_or line 0 0) < base_of sixteen)
digit_turn limit hex sixteen n next c d rest behind line h first v e step before =
    let more : digit_value c < base_of sixteen = rw (sym e) v in (
      ap (λ (m : ℕ). number_from limit hex sixteen m behind) (step ∙ ap (λ (x : ℕ). min (min (n * base_of sixteen) (2 ^ 32 - 1) + digit_value x) (2 ^ 32 - 1)) e)
          ∙ digit_more limit hex sixteen n c behind h more
          ∙ ap (number_from limit hex sixteen n) (sym first.0)
          ∙ before.0,
      omega (arith, first.1, before.1),
      λ a. absurd (omega (arith, a, first.1, before.1)),
      λ _. elim (dec_lt (length rest) (length line)) [
        | yes l ↦ before.3 l
        | no g ↦ rw (sym (before.2 (omega (arith, g, before.1))) ∙ first.0) (first_digit sixteen c more)
      ],
    )

-- where a number may end
module _ (hex : Bool) where
  pub closes_mark : (rest : List ℕ) → 1 ≤ length rest → get_or rest 0 0 ≡ 35 → closes hex rest ≡ hex
  unfolding closes
  closes_mark [] h e = absurd (omega arith)
  closes_mark (c ∷ rest) h e = rw (eq-eqb c 35 e)

  pub closes_other : (rest : List ℕ) → (get_or rest 0 0 ≡ 35 → ⊥) → closes hex rest ≡ ends rest
  unfolding closes ends
  closes_other [] n = refl
  closes_other (c ∷ rest) n = rw (ne_eqb c 35 n)

-- what a line says, by its first word
module _ (limit : ℕ) (hex : Bool) (line : List ℕ) where
  pub line_none : nothing_first (unblanked line) ≡ true → Ok None ≡ line_of limit hex line
  unfolding line_of
  line_none e = sym (rw (ends_is line, e))

  pub line_some : (n : ℕ) → nothing_first (unblanked line) ≡ false → word_of limit hex (unblanked line) ≡ Ok n → Ok (Some n) ≡ line_of limit hex line
  unfolding line_of
  line_some n e w = sym (rw (ends_is line, e, w))

  pub line_fault : (f : Fault) → nothing_first (unblanked line) ≡ false → word_of limit hex (unblanked line) ≡ Err f → Err f ≡ line_of limit hex line
  unfolding line_of
  line_fault f e w = sym (rw (ends_is line, e, w))

-- behind `0x` or not
hex_is : (word : List ℕ) → pointwise eqb (take 2 word) (48 ∷ 120 ∷ []) ≡ is_hex word
hex_is [] = refl
hex_is (c ∷ []) = one (eqb c 48)
  where
    one : (b : Bool) → b && false ≡ cond b false false
    one true = refl
    one false = refl
hex_is (c ∷ d ∷ word) = two (eqb c 48) (eqb d 120)
  where
    two : (a b : Bool) → a && (b && true) ≡ cond a b false
    two true true = refl
    two true false = refl
    two false b = refl

module _ (limit : ℕ) (hex : Bool) (word : List ℕ) where
  pub word_hex : pointwise eqb (take 2 word) (48 ∷ 120 ∷ []) ≡ true → number_of limit hex true (drop 2 word) ≡ word_of limit hex word
  unfolding word_of
  word_hex e = sym (rw (sym (hex_is word) ∙ e))

  pub word_bare : pointwise eqb (take 2 word) (48 ∷ 120 ∷ []) ≡ false → number_of limit hex hex word ≡ word_of limit hex word
  unfolding word_of
  word_bare e = sym (rw (sym (hex_is word) ∙ e))
