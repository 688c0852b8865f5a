-- The words of a file by what the reader answers; and that each of its refusals has words, since it has no others. Assumes nothing.
use Prim.Native.Nat.{ℕ, zero, suc, ◌+◌}
use mathlib.Core.Path.{◌≡◌, refl, ◌∙◌}
use mathlib.Core.Bool.{Bool, true, false, cond, ◌||◌}
use mathlib.Core.List.{List, [], ◌∷◌, ◌++◌}
use lib.Dec.{eqb, ltb}
use lib.ListN.{length, get_or}
use Rattle.laws.specs.Ascii.{ascii}
use Rattle.laws.specs.Said.{Said, refuses, gives}
use Rattle.refusals.specs.Table.{number_of, carried_of, in_one, refusal_said}
use Rattle.refusals.specs.declared.Refusal.{Refusal}
use Rattle.refusals.specs.declared.Refusal.TheVariants.{IdentifierAboveLimit, InvalidDataLength, NonCompliantDlc, PatternLength, PatternByte, OutputTooShort, FilterKind, DrainRuns, NoDrainRuns, BrokenState, FileEnds, CountAboveLimit, BytesAfterEnd, WrongLength, EmptyList, EntryAboveLimit}
use Rattle.file_reading.specs.Format.{filter_limit, frame_limit, filter_bytes, frame_bytes, count_at}
use Rattle.file_reading.specs.declared.Sections.{Sections}
use Rattle.file_reading.specs.Reader.{sections_with, field, frames_from, frames_at, filters_from, read_of}
use Rattle.file_words.specs.Words.{around, count_words, refusal_words, words_of}

pub words-read : (s : List ℕ) (sections : Sections) → read_of s ≡ gives sections → words_of s ≡ []
unfolding words_of
words-read s sections e = rw e

pub words-refused : (s : List ℕ) (f : Refusal) → read_of s ≡ refusal_said f → words_of s ≡ refusal_words s (number_of f) (in_one (carried_of f))
unfolding words_of
words-refused s f e = rw e

-- the words by what was refused
abbrev pub words_by : List ℕ → Refusal → List ℕ
words_by s f = refusal_words s (number_of f) (in_one (carried_of f))

module _ (s : List ℕ) (f : Refusal) (now : List ℕ) (at : ℕ) where
  pub kind-words : (byte : ℕ) → f ≡ FilterKind at → byte ≡ get_or s at 0
      → now ≡ around (ascii "the filter at byte ") at (around (ascii " is of kind ") byte (ascii "; a kind is 0 (single) or 1 (dual)\n")) → now ≡ words_by s f
  unfolding refusal_words
  kind-words byte e b h = rw (e, ← b) h

  pub ends-words : f ≡ FileEnds at
      → now ≡ around (ascii "the file's length is ") (length s) (around (ascii ", too short for the field that begins at byte ") at (ascii "\n")) → now ≡ words_by s f
  unfolding refusal_words
  ends-words e h = rw e h

  pub count-words : f ≡ CountAboveLimit at → now ≡ count_words s at → now ≡ words_by s f
  unfolding refusal_words
  count-words e h = rw e h

module _ (s : List ℕ) where
  others : (f : Refusal) → ((at : ℕ) → f ≡ FilterKind at → ⊥) → ((at : ℕ) → f ≡ FileEnds at → ⊥) → ((at : ℕ) → f ≡ CountAboveLimit at → ⊥)
      → words_by s f ≡ around (ascii "by its counts the file has ") (in_one (carried_of f)) (ascii " bytes, but more follow\n")
  unfolding refusal_words
  others IdentifierAboveLimit k e c = refl
  others (InvalidDataLength n) k e c = refl
  others (NonCompliantDlc n) k e c = refl
  others (PatternLength n) k e c = refl
  others (PatternByte n m b) k e c = refl
  others (OutputTooShort n) k e c = refl
  others (FilterKind n) k e c = absurd (k n refl)
  others DrainRuns k e c = refl
  others NoDrainRuns k e c = refl
  others BrokenState k e c = refl
  others (FileEnds n) k e c = absurd (e n refl)
  others (CountAboveLimit n) k e c = absurd (c n refl)
  others (BytesAfterEnd n) k e c = refl
  others (WrongLength n) k e c = refl
  others EmptyList k e c = refl
  others (EntryAboveLimit n) k e c = refl

  pub other-words : (f : Refusal) (page now : List ℕ) (n : ℕ) → ((at : ℕ) → f ≡ FilterKind at → ⊥) → ((at : ℕ) → f ≡ FileEnds at → ⊥)
      → ((at : ℕ) → f ≡ CountAboveLimit at → ⊥) → n ≡ in_one (carried_of f) → page ≡ []
      → now ≡ page ++ around (ascii "by its counts the file has ") n (ascii " bytes, but more follow\n") → now ≡ words_by s f
  other-words f page now n k e c en ep h = h ∙ rw (ep, en, others f k e c)

-- ---- the reader refuses by 7, 11, 12 or 13
abbrev pub has_words : Said Sections → Bool
has_words (gives sections) = true
has_words (refuses number carried) = eqb number 7 || (eqb number 11 || (eqb number 12 || eqb number 13))

-- a test, by which the reader refuses or goes on
test : (b : Bool) (number at : ℕ) (next : Said Sections) → has_words (refuses number (at ∷ [])) ≡ true → has_words next ≡ true
    → has_words (cond b (refuses number (at ∷ [])) next) ≡ true
test true number at next p q = p
test false number at next p q = q

frames-have : (len : ℕ) (sections : Sections) (n at : ℕ) → has_words (frames_from len sections n at) ≡ true
unfolding frames_from
frames-have len sections zero at = test (ltb at len) 13 at (gives sections) refl refl
frames-have len sections (suc n) at =
    test (ltb len (at + frame_bytes)) 11 at (frames_from len sections n (at + frame_bytes)) refl (frames-have len sections n (at + frame_bytes))

module _ (s : List ℕ) (filters : ℕ) where
  second-has : (at : ℕ) → has_words (frames_at s filters at) ≡ true
  unfolding frames_at
  second-has at =
      let frames = frames_from (length s) (sections_with filters (count_at s at) (at + 2)) (count_at s at) (at + 2) in
      let count = test (ltb frame_limit (count_at s at)) 12 at frames refl (frames-have _ _ _ _) in
      test (ltb (length s) (at + 2)) 11 at (cond (ltb frame_limit (count_at s at)) (refuses 12 (at ∷ [])) frames) refl count

  filters-have : (n at : ℕ) → has_words (filters_from s filters n at) ≡ true
  unfolding filters_from
  filters-have zero at = second-has at
  filters-have (suc n) at =
      let next = filters_from s filters n (at + filter_bytes) in
      let registers = test (ltb (length s) (at + 1 + 8)) 11 (at + 1) next refl (filters-have n (at + filter_bytes)) in
      let kind = test (ltb 1 (get_or s at 0)) 7 at (field (length s) (at + 1) 8 next) refl registers in
      test (ltb (length s) (at + 1)) 11 at (cond (ltb 1 (get_or s at 0)) (refuses 7 (at ∷ [])) (field (length s) (at + 1) 8 next)) refl kind

pub read-has-words : (s : List ℕ) → has_words (read_of s) ≡ true
unfolding read_of
read-has-words s =
    let filters = filters_from s (get_or s 0 0) (get_or s 0 0) 1 in
    let count = test (ltb filter_limit (get_or s 0 0)) 12 0 filters refl (filters-have s (get_or s 0 0) (get_or s 0 0) 1) in
    test (ltb (length s) (0 + 1)) 11 0 (cond (ltb filter_limit (get_or s 0 0)) (refuses 12 (0 ∷ [])) filters) refl count
