-- What a pattern lets through, told by the matcher's own test: each number that it accepts stands once among its members, and no other does. So the pattern of
-- a list has as many members as are answered, its list's among them, and the others are what is left. Assumes nothing.
use Prim.Native.Nat.{ℕ, suc, ◌+◌, ◌-◌, ◌^◌, ◌≤◌, ◌<◌}
use mathlib.Core.Path.{◌≡◌, refl, sym, ap, ap₂, ◌∙◌}
use mathlib.Core.Bool.{Bool, true, false, cond, ◌&&◌}
use mathlib.Core.List.{List, [], ◌∷◌, ◌++◌, Memᴰ}
use lib.Arith.{lt-one}
use lib.Dec.{T, eqb, ltb}
use lib.ListN.{length, length-append}
use lib.Pow.{pow_mono}
use native.Mathlib.Nat.{pow-suc}
use native.Mathlib.Decide.{ℕ_discrete, dec_lt}
use native.Mathlib.Omega.{arith}
use borrow.Author.Tests.{eq-eqb, ne_eqb, lt-ltb, le-ltb}
use Rattle.laws.specs.Row.{bit}
use Rattle.laws.proofs.Bools.{both_left, both_right}
use Rattle.identifiers.specs.Limits.{width_of, limit_of}
use Rattle.filter_characters.specs.Characters.{is_character, all_characters}
use Rattle.filter_characters.proofs.Characters.{character-none}
use Rattle.filter_list.specs.Pattern.{pattern_of}
use Rattle.filter_list.specs.Answers.{first_above, through_of, registers_of_list}
use Rattle.filter_list_laws.specs.Accepts.{accepts_id, count_below, accepted_of}
use Rattle.filter_list_laws.proofs.Counts.{accepts-low, accepts-high, free, pattern-counts}
use Rattle.filter_list_laws.proofs.Members.{none_above, member-accepted}
use Rattle.filter_list_laws.proofs.Request.{count-is, pattern-good}
use Rattle.filter_report.specs.Through.{raised, members_of, occurs, different, not_listed}
use Rattle.filter_report.proofs.Listed.{width_small, pattern-long}
use Rattle.filter_report.proofs.Members.{raised_long, members-zero, members-one, members-free}
use Rattle.filter_report.proofs.Unlisted.{occurrences, others-count}

-- ---- how often a number stands among others
occurrences-join : (n : ℕ) (a b : List ℕ) → occurrences n (a ++ b) ≡ occurrences n a + occurrences n b
unfolding occurrences
occurrences-join n [] b = omega arith
occurrences-join n (m ∷ a) b = omega (arith, occurrences-join n a b)

occurrences-raised : (by n : ℕ) (numbers : List ℕ) → occurrences (by + n) (raised by numbers) ≡ occurrences n numbers
unfolding occurrences raised
occurrences-raised by n [] = refl
occurrences-raised by n (m ∷ numbers) = ap₂ (λ (t : Bool) (k : ℕ). cond t 1 0 + k) same (occurrences-raised by n numbers)
  where
    same : eqb (by + m) (by + n) ≡ eqb m n
    same = elim (ℕ_discrete m n) [ yes p ↦ eq-eqb (by + m) (by + n) (omega arith) ∙ sym (eq-eqb m n p) | no q ↦ ne_eqb (by + m) (by + n) (λ p. q (omega arith)) ∙ sym (ne_eqb m n q) ]

occurrences-low : (by n : ℕ) (numbers : List ℕ) → n < by → occurrences n (raised by numbers) ≡ 0
unfolding occurrences raised
occurrences-low by n [] h = refl
occurrences-low by n (m ∷ numbers) h = rw (ne_eqb (by + m) n (λ p. omega arith)) (omega (arith, occurrences-low by n numbers h))

double : (n : ℕ) → 2 ^ suc n ≡ 2 ^ n + 2 ^ n
double n = pow-suc 2 n ∙ omega arith

-- ---- by the first character, whatever it is
module _ (P : List ℕ → Type 0) (c : ℕ) (rest : List ℕ) where
  by-character : T (is_character c) → (c ≡ 48 → P (members_of rest)) → (c ≡ 49 → P (raised (2 ^ length rest) (members_of rest)))
      → (c ≡ 120 → P (members_of rest ++ raised (2 ^ length rest) (members_of rest))) → P (members_of (c ∷ rest))
  by-character t z o x =
      elim (ℕ_discrete c 48) [
        | yes p ↦ rw (members-zero c rest p) (z p)
        | no a ↦ elim (ℕ_discrete c 49) [
          | yes p ↦ rw (members-one c rest p) (o p)
          | no b ↦ elim (ℕ_discrete c 120) [ yes p ↦ rw (members-free c rest a b) (x p) | no d ↦ absurd (rw (character-none c a b d) at t) ]
        ]
      ]

-- ---- a number below two to the pattern's length stands once if the pattern accepts it, and else never; a larger one never
module _ (c : ℕ) (cs : List ℕ) (good : T (is_character c)) where
  beyond-turn : ((m : ℕ) → 2 ^ length cs ≤ m → occurrences m (members_of cs) ≡ 0) → (n : ℕ) → 2 ^ suc (length cs) ≤ n → occurrences n (members_of (c ∷ cs)) ≡ 0
  beyond-turn rest n h =
      let w = 2 ^ length cs in
      let twice = double (length cs) in
      let low : occurrences n (members_of cs) ≡ 0 = rest n (omega arith) in
      let place : n ≡ w + (n - w) = omega arith in
      let high : occurrences n (raised w (members_of cs)) ≡ 0 = ap (λ (m : ℕ). occurrences m (raised w (members_of cs))) place ∙ occurrences-raised w (n - w) (members_of cs) ∙ rest (n - w) (omega arith) in
      by-character (λ l. occurrences n l ≡ 0) c cs good (λ p. low) (λ p. high) (λ p. occurrences-join n (members_of cs) (raised w (members_of cs)) ∙ omega (arith, low, high))

  low_turn : (n : ℕ) → n < 2 ^ length cs → occurrences n (members_of cs) ≡ bit (accepts_id cs n) → occurrences n (members_of (c ∷ cs)) ≡ bit (accepts_id (c ∷ cs) n)
  low_turn n h rest =
      let w = 2 ^ length cs in
      let none = occurrences-low w n (members_of cs) h in
      let said = ap bit (accepts-low c n cs h) in
      by-character (λ m. occurrences n m ≡ bit (accepts_id (c ∷ cs) n)) c cs good
      (λ p. rest ∙ sym (said ∙ rw p))
      (λ p. none ∙ sym (said ∙ rw p))
      (λ p. occurrences-join n (members_of cs) (raised w (members_of cs)) ∙ omega (arith, none) ∙ rest ∙ sym (said ∙ rw p))

  high-turn : (i : ℕ) → i < 2 ^ length cs → occurrences (2 ^ length cs + i) (members_of cs) ≡ 0 → occurrences i (members_of cs) ≡ bit (accepts_id cs i)
      → occurrences (2 ^ length cs + i) (members_of (c ∷ cs)) ≡ bit (accepts_id (c ∷ cs) (2 ^ length cs + i))
  high-turn i h none rest =
      let w = 2 ^ length cs in
      let up = occurrences-raised w i (members_of cs) in
      let said = ap bit (accepts-high c i cs h) in
      by-character (λ m. occurrences (w + i) m ≡ bit (accepts_id (c ∷ cs) (w + i))) c cs good
      (λ p. none ∙ sym (said ∙ rw p))
      (λ p. up ∙ rest ∙ sym (said ∙ rw p))
      (λ p. occurrences-join (w + i) (members_of cs) (raised w (members_of cs)) ∙ omega (arith, none) ∙ up ∙ rest ∙ sym (said ∙ rw p))

  long-turn : length (members_of cs) ≡ 2 ^ free cs → length (members_of (c ∷ cs)) ≡ 2 ^ free (c ∷ cs)
  unfolding free
  long-turn rest =
      let many = raised_long (2 ^ length cs) (members_of cs) in
      by-character (λ m. length m ≡ 2 ^ (cond (eqb c 120) 1 0 + free cs)) c cs good
      (λ p. rw p (rest ∙ ap (λ (n : ℕ). 2 ^ n) (omega arith)))
      (λ p. rw p (many ∙ rest ∙ ap (λ (n : ℕ). 2 ^ n) (omega arith)))
      (λ p. rw p (length-append (members_of cs) (raised (2 ^ length cs) (members_of cs)) ∙ omega (arith, many, rest) ∙ sym (double (free cs)) ∙ ap (λ (n : ℕ). 2 ^ n) (omega arith)))

members-beyond : (cs : List ℕ) → T (all_characters cs) → (n : ℕ) → 2 ^ length cs ≤ n → occurrences n (members_of cs) ≡ 0
unfolding members_of occurrences
members-beyond [] t n h = rw (ne_eqb 0 n (λ p. omega arith))
members-beyond (c ∷ cs) t n h =
    beyond-turn c cs (both_left (is_character c) (all_characters cs) t) (members-beyond cs (both_right (is_character c) (all_characters cs) t)) n h

members-count : (cs : List ℕ) → T (all_characters cs) → (n : ℕ) → n < 2 ^ length cs → occurrences n (members_of cs) ≡ bit (accepts_id cs n)
unfolding members_of occurrences count_below free
members-count [] t n h = rw (lt-one h) (omega (arith, pattern-counts [] tt))
members-count (c ∷ cs) t n h =
    let good = both_left (is_character c) (all_characters cs) t in
    let rest = both_right (is_character c) (all_characters cs) t in
    let twice = double (length cs) in
    elim (dec_lt n (2 ^ length cs)) [
      | yes l ↦ low_turn c cs good n l (members-count cs rest n l)
      | no g ↦ (
          let w = 2 ^ length cs in
          let place : w + (n - w) ≡ n = omega arith in
          let small : n - w < w = omega arith in
          rw place at (high-turn c cs good (n - w) small (members-beyond cs rest (w + (n - w)) (omega arith)) (members-count cs rest (n - w) small))
          )
    ]

-- there are two to the number of `x`
members-long : (cs : List ℕ) → T (all_characters cs) → length (members_of cs) ≡ 2 ^ free cs
unfolding members_of free
members-long [] t = refl
members-long (c ∷ cs) t = long-turn c cs (both_left (is_character c) (all_characters cs) t) (members-long cs (both_right (is_character c) (all_characters cs) t))

-- ---- a number is a member exactly if it has no more bits than the pattern has characters, and the pattern accepts it
stands-once : (n : ℕ) (numbers : List ℕ) (b : Bool) → occurrences n numbers ≡ bit b → occurs n numbers ≡ b
unfolding occurrences occurs
stands-once n [] true e = absurd (omega arith)
stands-once n [] false e = refl
stands-once n (m ∷ numbers) b e = by (eqb m n) b e (stands-once n numbers b)
  where
    by : (t b : Bool) → cond t 1 0 + occurrences n numbers ≡ bit b → (occurrences n numbers ≡ bit b → occurs n numbers ≡ b) → cond t true (occurs n numbers) ≡ b
    by true true e rest = refl
    by true false e rest = absurd (omega arith)
    by false b e rest = rest (omega arith)

pub members-are : (cs : List ℕ) → T (all_characters cs) → (n : ℕ) → occurs n (members_of cs) ≡ (ltb n (2 ^ length cs) && accepts_id cs n)
members-are cs t n =
    elim (dec_lt n (2 ^ length cs)) [
      | yes l ↦ rw (lt-ltb n (2 ^ length cs) l) (stands-once n (members_of cs) (accepts_id cs n) (members-count cs t n l))
      | no g ↦ rw (le-ltb n (2 ^ length cs) (omega arith)) (stands-once n (members_of cs) false (members-beyond cs t n (omega arith)))
    ]

-- ---- the pattern of a list
free-few : (cs : List ℕ) → free cs ≤ length cs
unfolding free
free-few [] = omega arith
free-few (c ∷ cs) = by (eqb c 120) (free-few cs)
  where
    by : (t : Bool) → free cs ≤ length cs → cond t 1 0 + free cs ≤ suc (length cs)
    by true h = omega arith
    by false h = omega arith

all_of : (extended : Bool) → suc (limit_of extended) ≡ 2 ^ width_of extended
all_of false = refl
all_of true = refl

module _ (extended : Bool) (list : List ℕ) where
  abbrev pattern : List ℕ
  pattern = pattern_of (width_of extended) list

  good : T (all_characters pattern)
  good = rw (pattern-good (width_of extended) list) tt

  long : length pattern ≡ width_of extended
  long = pattern-long extended list

  -- as many members as are answered
  pub through-members : through_of extended (registers_of_list extended list) ≡ length (members_of (pattern_of (width_of extended) list))
  unfolding accepted_of
  through-members =
      count-is extended pattern long (pattern-good (width_of extended) list)
      ∙ ap (λ (n : ℕ). count_below n (accepts_id pattern)) (all_of extended ∙ ap (λ (n : ℕ). 2 ^ n) (sym long))
      ∙ pattern-counts pattern good
      ∙ sym (members-long pattern good)

  pub through-small : through_of extended (registers_of_list extended list) < 2 ^ 32
  through-small = omega (arith, through-members, members-long pattern good, pow_mono {i = free pattern} {j = 31} (omega (arith, free-few pattern, long, width_small extended)))

  -- the listed ones are among them, each once; the others are the rest
  pub through-others : first_above (limit_of extended) list ≡ length list
      → through_of extended (registers_of_list extended list) ≡ different list + length (not_listed (pattern_of (width_of extended) list) list)
  through-others within = through-members ∙ others-count list (members_of pattern) once
    where
      once : (n : ℕ) → Memᴰ n list → occurrences n (members_of pattern) ≡ 1
      once n m =
          let small : n < 2 ^ length pattern = rw long (omega (arith, none_above (limit_of extended) list (omega arith) n m, all_of extended)) in
          members-count pattern good n small ∙ ap bit (member-accepted (width_of extended) list n m)
