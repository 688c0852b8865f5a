-- The words go by the first 53,396 bytes, which are all that the program reads: a longer file is refused by a byte before them, or because it is
-- longer. Assumes nothing.
use Prim.Native.Nat.{ℕ, zero, suc, ◌+◌, ◌*◌, ◌≤◌, ◌<◌}
use mathlib.Core.Path.{◌≡◌, refl, ap, ◌∙◌}
use mathlib.Core.Bool.{Bool, true, false, cond}
use mathlib.Core.List.{List, [], ◌∷◌}
use lib.Dec.{ltb}
use lib.ListN.{length, get_or, take}
use lib.Seq.{take_all, get_or-take}
use native.Mathlib.Omega.{arith}
use native.Mathlib.Decide.{dec_lt}
use borrow.Author.Tests.{le-ltb, lt-ltb, ltb-false}
use Rattle.laws.specs.Said.{refuses}
use Rattle.file_reading.specs.Format.{filter_limit, frame_limit, filter_bytes, frame_bytes, filters_end, longest, count_at}
use Rattle.file_reading.specs.declared.Sections.{Sections}
use Rattle.file_reading.specs.Reader.{sections_with, frames_from, frames_at, filters_from, read_of}
use Rattle.file_reading.proofs.Cap.{read-cap}
use Rattle.file_words.specs.Words.{count_words, refusal_words, read_words, words_of}

module _ (t s : List ℕ) (same : (i : ℕ) → i < longest + 1 → get_or t i 0 ≡ get_or s i 0) (long : longest < length s) where
  frames-same : (sections : Sections) (n at : ℕ) → at + frame_bytes * n ≤ longest
      → read_words t (frames_from (length s) sections n at) ≡ read_words s (frames_from (length s) sections n at)
  unfolding frames_from refusal_words
  frames-same sections zero at h = rw (lt-ltb at (length s) (omega arith))
  frames-same sections (suc n) at h = rw (le-ltb (length s) (at + frame_bytes) (omega arith)) (frames-same sections n (at + frame_bytes) (omega arith))

  count_same : (at : ℕ) → at < longest → count_words t at ≡ count_words s at
  unfolding count_words
  count_same at h = rw (same 0 (omega arith), same at (omega arith), same (at + 1) (omega arith))

  second-same : (filters at : ℕ) → at ≤ filters_end filter_limit → read_words t (frames_at s filters at) ≡ read_words s (frames_at s filters at)
  unfolding frames_at refusal_words
  second-same filters at h = rw (le-ltb (length s) (at + 2) (omega arith)) (by (ltb frame_limit (count_at s at)) refl)
    where
      by : (above : Bool) → ltb frame_limit (count_at s at) ≡ above
          → read_words t (cond above (refuses 12 (at ∷ [])) (frames_from (length s) (sections_with filters (count_at s at) (at + 2)) (count_at s at) (at + 2)))
          ≡ read_words s (cond above (refuses 12 (at ∷ [])) (frames_from (length s) (sections_with filters (count_at s at) (at + 2)) (count_at s at) (at + 2)))
      by true e = count_same at (omega arith)
      by false e =
          let few : count_at s at ≤ frame_limit = ltb-false frame_limit (count_at s at) e in
          frames-same (sections_with filters (count_at s at) (at + 2)) (count_at s at) (at + 2) (omega arith)

  first-same : (filters n at : ℕ) → at + filter_bytes * n ≤ filters_end filter_limit → read_words t (filters_from s filters n at) ≡ read_words s (filters_from s filters n at)
  unfolding filters_from refusal_words
  first-same filters zero at h = second-same filters at (omega arith)
  first-same filters (suc n) at h =
      rw (le-ltb (length s) (at + 1) (omega arith), le-ltb (length s) (at + 1 + 8) (omega arith)) (by (ltb 1 (get_or s at 0)) (first-same filters n (at + filter_bytes) (omega arith)))
    where
      by : (bad : Bool) → read_words t (filters_from s filters n (at + filter_bytes)) ≡ read_words s (filters_from s filters n (at + filter_bytes))
          → read_words t (cond bad (refuses 7 (at ∷ [])) (filters_from s filters n (at + filter_bytes)))
          ≡ read_words s (cond bad (refuses 7 (at ∷ [])) (filters_from s filters n (at + filter_bytes)))
      by true rest = rw (same at (omega arith))
      by false rest = rest

  read_same : read_words t (read_of s) ≡ read_words s (read_of s)
  unfolding read_of refusal_words
  read_same = rw (le-ltb (length s) (0 + 1) (omega arith)) (by (ltb filter_limit (get_or s 0 0)) refl)
    where
      by : (above : Bool) → ltb filter_limit (get_or s 0 0) ≡ above
          → read_words t (cond above (refuses 12 (0 ∷ [])) (filters_from s (get_or s 0 0) (get_or s 0 0) 1))
          ≡ read_words s (cond above (refuses 12 (0 ∷ [])) (filters_from s (get_or s 0 0) (get_or s 0 0) 1))
      by true e = count_same 0 (omega arith)
      by false e =
          let few : get_or s 0 0 ≤ filter_limit = ltb-false filter_limit (get_or s 0 0) e in
          first-same (get_or s 0 0) (get_or s 0 0) 1 (omega arith)

pub words-cap : (s : List ℕ) → words_of (take 53396 s) ≡ words_of s
unfolding words_of
words-cap s =
    elim (dec_lt 53396 (length s)) [
      | yes h ↦ ap (read_words (take 53396 s)) (read-cap s) ∙ read_same (take 53396 s) s (λ i l. get_or-take 53396 s i 0 l) (omega arith)
      | no h ↦ ap words_of (take_all 53396 s (omega arith))
    ]
