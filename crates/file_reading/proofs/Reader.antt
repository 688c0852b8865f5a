-- One turn of the reader's definitions, and where each ends. Assumes nothing.
use Prim.Native.Nat.{ℕ, zero, suc, ◌+◌, ◌*◌, ◌≤◌, ◌<◌}
use mathlib.Core.Path.{◌≡◌}
use mathlib.Core.List.{List, [], ◌∷◌}
use lib.ListN.{length, get_or}
use native.Mathlib.Omega.{arith}
use borrow.Author.Tests.{lt-ltb, le-ltb}
use Rattle.laws.specs.Said.{Said, refuses}
use Rattle.file_reading.specs.Format.{filter_limit, frame_limit, filter_bytes, frame_bytes, count_at}
use Rattle.file_reading.specs.declared.Sections.{Sections}
use Rattle.file_reading.specs.Reader.{sections_with, frames_from, frames_at, filters_from, read_of}

module _ (len : ℕ) (sections : Sections) where
  pub frames-cut : (n at whole : ℕ) → at + frame_bytes * whole ≤ len → len < at + frame_bytes * (whole + 1) → whole < n
      → refuses 11 ((at + frame_bytes * whole) ∷ []) ≡ frames_from len sections n at
  unfolding frames_from
  frames-cut zero at whole l m h = absurd (omega arith)
  frames-cut (suc n) at zero l m h =
      let e : at + frame_bytes * 0 ≡ at = omega arith in
      rw (e, lt-ltb len (at + frame_bytes) (omega arith))
  frames-cut (suc n) at (suc whole) l m h =
      let e : at + frame_bytes * suc whole ≡ at + frame_bytes + frame_bytes * whole = omega arith in
      rw (e, le-ltb len (at + frame_bytes) (omega arith)) (frames-cut n (at + frame_bytes) whole (omega arith) (omega arith) (omega arith))

  pub frames-over : (n at : ℕ) → at + frame_bytes * n < len → refuses 13 ((at + frame_bytes * n) ∷ []) ≡ frames_from len sections n at
  unfolding frames_from
  frames-over zero at h =
      let e : at + frame_bytes * 0 ≡ at = omega arith in
      rw (e, lt-ltb at len (omega arith))
  frames-over (suc n) at h =
      let e : at + frame_bytes * suc n ≡ at + frame_bytes + frame_bytes * n = omega arith in
      rw (e, le-ltb len (at + frame_bytes) (omega arith)) (frames-over n (at + frame_bytes) (omega arith))

module _ (s : List ℕ) (filters : ℕ) (said : Said Sections) where
  pub filters-turn : (left at less next : ℕ) → left ≡ suc less → next ≡ at + filter_bytes → get_or s at 0 ≤ 1 → at + filter_bytes ≤ length s
      → filters_from s filters left at ≡ said → filters_from s filters less next ≡ said
  unfolding filters_from
  filters-turn left at less next e f k l h =
      rw f (simp (e, le-ltb (length s) (at + 1) (omega arith), le-ltb 1 (get_or s at 0) k, le-ltb (length s) (at + 1 + 8) (omega arith)) at h)

  pub kind-cut : (left at : ℕ) → 0 < left → length s < at + 1 → filters_from s filters left at ≡ said → refuses 11 (at ∷ []) ≡ said
  unfolding filters_from
  kind-cut zero at p l h = absurd (omega arith)
  kind-cut (suc n) at p l h = simp (lt-ltb (length s) (at + 1) l) at h

  pub kind-bad : (left at : ℕ) → 0 < left → at + 1 ≤ length s → 1 < get_or s at 0 → filters_from s filters left at ≡ said → refuses 7 (at ∷ []) ≡ said
  unfolding filters_from
  kind-bad zero at p l k h = absurd (omega arith)
  kind-bad (suc n) at p l k h = simp (le-ltb (length s) (at + 1) l, lt-ltb 1 (get_or s at 0) k) at h

  pub registers-cut : (left at : ℕ) → 0 < left → at + 1 ≤ length s → get_or s at 0 ≤ 1 → length s < at + 1 + 8
      → filters_from s filters left at ≡ said → refuses 11 ((at + 1) ∷ []) ≡ said
  unfolding filters_from
  registers-cut zero at p l k m h = absurd (omega arith)
  registers-cut (suc n) at p l k m h = simp (le-ltb (length s) (at + 1) l, le-ltb 1 (get_or s at 0) k, lt-ltb (length s) (at + 1 + 8) m) at h

  pub filters-end : (left at end : ℕ) → left ≡ 0 → end ≡ at → filters_from s filters left at ≡ said → frames_at s filters end ≡ said
  unfolding filters_from
  filters-end left at end e f h = rw f (simp e at h)

-- ---- a count that is there and within its limit, and what follows it
pub filters-first : (s : List ℕ) (filters : ℕ) → 1 ≤ length s → filters ≡ get_or s 0 0 → filters ≤ filter_limit → filters_from s filters filters 1 ≡ read_of s
unfolding read_of
filters-first s filters l e h = simp (le-ltb (length s) 1 l, ← e, le-ltb filter_limit filters h)

pub frames-first : (s : List ℕ) (filters frames at : ℕ) → at + 2 ≤ length s → frames ≡ count_at s at → frames ≤ frame_limit
    → frames_from (length s) (sections_with filters frames (at + 2)) frames (at + 2) ≡ frames_at s filters at
unfolding frames_at
frames-first s filters frames at l e h = simp (le-ltb (length s) (at + 2) l, ← e, le-ltb frame_limit frames h)
