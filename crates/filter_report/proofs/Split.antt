-- A text by its lines, and what is found in them, one line more at a time. Assumes nothing.
use Prim.Native.Nat.{ℕ, suc, ◌+◌, ◌*◌, ◌≤◌, ◌<◌}
use mathlib.Core.Path.{◌≡◌, refl, sym, ap, ap₂, subst, ◌∙◌}
use mathlib.Core.Bool.{Bool, true, false, cond, false≢true}
use mathlib.Core.List.{List, [], ◌∷◌, ◌++◌, append_assoc, append-nil}
use lib.Dec.{eqb}
use lib.ListN.{length, take, set}
use lib.Seq.{take-suc-set}
use native.Mathlib.Numerals.{add-one}
use native.Mathlib.Omega.{arith}
use Rattle.std.specs.Prelude.{Option, Some, None, Result, Ok, Err}
use Rattle.std.specs.List.{slice_split, onto_first}
use Rattle.std.proofs.lemmas.Iterator.{YieldsList}
use Rattle.filter_report.specs.Line.{line_of, ends}
use Rattle.filter_report.specs.Lines.{onto, lines_of, Found, listed, above_at, wrong_at, found_by, found_from, found_in}
use Rattle.filter_report.specs.declared.line.Fault.{Fault}
use Rattle.filter_report.specs.declared.line.Fault.TheVariants.{Above, NotANumber}
use Rattle.filter_report.specs.Parts.{fault_found}

-- ---- the lines
lines_are : (text : List ℕ) → slice_split (λ b. eqb b 10) text ≡ lines_of text
unfolding lines_of
lines_are [] = refl
lines_are (c ∷ text) = by (eqb c 10) (lines_are text)
  where
    first : (lines : List (List ℕ)) → onto_first c lines ≡ onto c lines
    first [] = refl
    first (line ∷ lines) = refl

    by : (b : Bool) → slice_split (λ b. eqb b 10) text ≡ lines_of text
        → cond b ([] ∷ slice_split (λ b. eqb b 10) text) (onto_first c (slice_split (λ b. eqb b 10) text)) ≡ cond b ([] ∷ lines_of text) (onto c (lines_of text))
    by true e = ap (λ (lines : List (List ℕ)). [] ∷ lines) e
    by false e = first (slice_split (λ b. eqb b 10) text) ∙ ap (onto c) e

-- the characters of lines, and one behind each
abbrev pub spread : List (List ℕ) → ℕ
spread [] = 0
spread (line ∷ lines) = length line + 1 + spread lines

spread_onto : (c : ℕ) (lines : List (List ℕ)) → 0 < spread lines → spread (onto c lines) ≡ suc (spread lines)
spread_onto c [] h = absurd (omega arith)
spread_onto c (line ∷ lines) h = omega arith

spread_lines : (text : List ℕ) → spread (lines_of text) ≡ length text + 1
unfolding lines_of
spread_lines [] = omega arith
spread_lines (c ∷ text) = by (eqb c 10) (spread_lines text)
  where
    by : (b : Bool) → spread (lines_of text) ≡ length text + 1 → spread (cond b ([] ∷ lines_of text) (onto c (lines_of text))) ≡ suc (length text) + 1
    by true e = omega (arith, e)
    by false e = omega (arith, e, spread_onto c (lines_of text) (omega (arith, e)))

-- ---- what is found
-- identifiers in front
abbrev pub behind : List ℕ → Found → Found
behind front (listed list) = listed (front ++ list)
behind front (above_at k line) = above_at k line
behind front (wrong_at k line) = wrong_at k line

behind_none : (f : Found) → f ≡ behind [] f
behind_none (listed list) = refl
behind_none (above_at k line) = refl
behind_none (wrong_at k line) = refl

behind_more : (front : List ℕ) (n : ℕ) (f : Found) → behind front (found_by 0 [] (Ok (Some n)) f) ≡ behind (front ++ (n ∷ [])) f
behind_more front n (listed list) = ap listed (sym (append_assoc front (n ∷ []) list))
behind_more front n (above_at k line) = refl
behind_more front n (wrong_at k line) = refl

abbrev has_identifier : Result (Option ℕ) Fault → Bool
has_identifier (Ok (Some n)) = true
has_identifier (Ok None) = false
has_identifier (Err f) = false

-- an identifier has a character
identifier_long : (limit : ℕ) (hex : Bool) (line : List ℕ) (n : ℕ) → line_of limit hex line ≡ Ok (Some n) → 1 ≤ length line
unfolding line_of ends
identifier_long limit hex [] n e = absurd (false≢true (ap has_identifier e))
identifier_long limit hex (c ∷ line) n e = omega arith

-- how far a text is read: what is found stands in the front of a list, or is found in the lines that are left
pub record ReadUp (limit : ℕ) (hex : Bool) (text : List ℕ) (number count : ℕ) (list : List ℕ) (lines : List (List ℕ)) : Type 0 where
  pub found : found_in limit hex text ≡ behind (take count list) (found_from limit hex (number + 1) lines)
  pub room : 2 * count + spread lines ≤ length text + 1
  pub few : number + spread lines ≤ length text + 1

pub read_start : (limit : ℕ) (hex : Bool) (text list : List ℕ) → ReadUp limit hex text 0 0 list (slice_split (λ b. eqb b 10) text)
unfolding found_in
read_start limit hex text list = record {
  found = ap (found_from limit hex 1) (sym (lines_are text)) ∙ behind_none (found_from limit hex 1 (slice_split (λ b. eqb b 10) text));
  room = omega (arith, ap spread (lines_are text), spread_lines text);
  few = omega (arith, ap spread (lines_are text), spread_lines text);
}

pub read_end : {limit : ℕ} {hex : Bool} {text list : List ℕ} {number count : ℕ} → ReadUp limit hex text number count list [] → listed (take count list) ≡ found_in limit hex text
unfolding found_from
read_end {list = list} {count = count} r = sym (r.found ∙ ap listed (append-nil (take count list)))

module _ {limit : ℕ} {hex : Bool} {text list line : List ℕ} {number count : ℕ} {lines : List (List ℕ)} (r : ReadUp limit hex text number count list (line ∷ lines)) where
  pub read_nothing : Ok None ≡ line_of limit hex line → ReadUp limit hex text (number + 1) count list lines
  unfolding found_from
  read_nothing e = record {
    found = r.found ∙ rw (sym e) (ap (λ (k : ℕ). behind (take count list) (found_from limit hex k lines)) (sym (add-one (number + 1))));
    room = omega (arith, r.room);
    few = omega (arith, r.few);
  }

  pub read_room : (n : ℕ) → Ok (Some n) ≡ line_of limit hex line → 2 * count + 1 ≤ length text
  read_room n e = omega (arith, r.room, identifier_long limit hex line n (sym e))

  pub read_identifier : (n : ℕ) → Ok (Some n) ≡ line_of limit hex line → count < length list → ReadUp limit hex text (number + 1) (count + 1) (set list count n) lines
  unfolding found_from
  read_identifier n e h = record {
    found = r.found ∙ rw (sym e) (behind_more (take count list) n (found_from limit hex (suc (number + 1)) lines)
        ∙ ap₂ (λ (l : List ℕ) (k : ℕ). behind l (found_from limit hex k lines)) (sym (stored list count n h)) (sym (add-one (number + 1))));
    room = omega (arith, r.room, identifier_long limit hex line n (sym e));
    few = omega (arith, r.few);
  }
    where
      stored : (list : List ℕ) (count n : ℕ) → count < length list → take (count + 1) (set list count n) ≡ take count list ++ (n ∷ [])
      stored list count n h = ap (λ (k : ℕ). take k (set list count n)) (add-one count) ∙ take-suc-set list count n h

  pub read_fault : (f : Fault) → Err f ≡ line_of limit hex line → fault_found f (number + 1) line ≡ found_in limit hex text
  unfolding found_from
  read_fault f e = sym (r.found ∙ rw (sym e) (by f))
    where
      by : (f : Fault) → behind (take count list) (found_by (number + 1) line (Err f) (found_from limit hex (suc (number + 1)) lines)) ≡ fault_found f (number + 1) line
      by Above = refl
      by NotANumber = refl

  pub read_few : number + 1 ≤ length text + 1
  read_few = omega (arith, r.few)

-- ---- the lines that an iterator has left: one comes, or none
module _ {S A : Type 0} {steps : S → Option A → S → Type 0} {v : A → List ℕ} {s t : S} {limit : ℕ} {hex : Bool} {text list : List ℕ} {number count : ℕ} where
  pub line_taken : (x : A) → (lines : List (List ℕ)) × YieldsList steps v s lines × ReadUp limit hex text number count list lines → steps s (Some x) t
      → (lines : List (List ℕ)) × YieldsList steps v t lines × ReadUp limit hex text number count list (v x ∷ lines)
  line_taken x left k = by left.0 left.1 left.2
    where
      by : (lines : List (List ℕ)) → YieldsList steps v s lines → ReadUp limit hex text number count list lines
          → (lines : List (List ℕ)) × YieldsList steps v t lines × ReadUp limit hex text number count list (v x ∷ lines)
      by [] y r = absurd (y.runs x t k)
      by (line ∷ lines) y r =
          let next = y.runs.1 x t k in
          (lines, record { runs = next.1 }, subst (λ l. ReadUp limit hex text number count list (l ∷ lines)) (sym next.0) r)

  pub lines_over : (lines : List (List ℕ)) × YieldsList steps v s lines × ReadUp limit hex text number count list lines → steps s None t → listed (take count list) ≡ found_in limit hex text
  lines_over left k = by left.0 left.1 left.2
    where
      by : (lines : List (List ℕ)) → YieldsList steps v s lines → ReadUp limit hex text number count list lines → listed (take count list) ≡ found_in limit hex text
      by [] y r = read_end r
      by (line ∷ lines) y r = absurd (y.runs.0 t k)

-- no more identifiers than have room
pub count_fits : {limit : ℕ} {hex : Bool} {text list : List ℕ} {number count : ℕ} {lines : List (List ℕ)} → ReadUp limit hex text number count list lines → length text ≤ 2 * length list → count ≤ length list
count_fits r h = omega (arith, r.room, h)
