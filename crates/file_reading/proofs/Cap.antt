-- The answer goes by the first 53,396 bytes, one more than the longest file has: no field stands behind them. Assumes nothing.
use Prim.Native.Nat.{ℕ, zero, suc, ◌+◌, ◌*◌, ◌≤◌, ◌<◌}
use mathlib.Core.Path.{◌≡◌, refl, ap, ap₂}
use mathlib.Core.Bool.{Bool, true, false, cond}
use mathlib.Core.List.{List, [], ◌∷◌}
use lib.Dec.{ltb}
use lib.ListN.{length, get_or, take, length-take}
use lib.Seq.{take_all, get_or-take}
use native.Mathlib.Omega.{arith}
use native.Mathlib.Decide.{dec_lt}
use borrow.Author.Tests.{lt-ltb, le-ltb, ltb-false}
use Rattle.laws.specs.Said.{Said, refuses}
use Rattle.file_reading.specs.Format.{filter_limit, frame_limit, filter_bytes, frame_bytes, filters_end, longest, count_at}
use Rattle.file_reading.specs.declared.Sections.{Sections}
use Rattle.file_reading.specs.Reader.{sections_with, frames_from, frames_at, filters_from, read_of}

frames-same : (k l : ℕ) (sections : Sections) (n at : ℕ) → at + frame_bytes * n < k → at + frame_bytes * n < l → frames_from k sections n at ≡ frames_from l sections n at
unfolding frames_from
frames-same k l sections zero at hk hl = rw (lt-ltb at k (omega arith), lt-ltb at l (omega arith))
frames-same k l sections (suc n) at hk hl =
    rw (le-ltb k (at + frame_bytes) (omega arith), le-ltb l (at + frame_bytes) (omega arith)) (frames-same k l sections n (at + frame_bytes) (omega arith) (omega arith))

module _ (t s : List ℕ) (same : (i : ℕ) → i < longest + 1 → get_or t i 0 ≡ get_or s i 0) (lt : longest < length t) (ls : longest < length s) where
  second-same : (filters at : ℕ) → at ≤ filters_end filter_limit → frames_at t filters at ≡ frames_at s filters at
  unfolding frames_at
  second-same filters at h =
      let count : count_at t at ≡ count_at s at = ap₂ (λ (x y : ℕ). x * 256 + y) (same at (omega arith)) (same (at + 1) (omega arith)) in
      rw (le-ltb (length t) (at + 2) (omega arith), le-ltb (length s) (at + 2) (omega arith), count) (by (ltb frame_limit (count_at s at)) refl)
    where
      by : (above : Bool) → ltb frame_limit (count_at s at) ≡ above
          → cond above (refuses 12 (at ∷ [])) (frames_from (length t) (sections_with filters (count_at s at) (at + 2)) (count_at s at) (at + 2))
          ≡ cond above (refuses 12 (at ∷ [])) (frames_from (length s) (sections_with filters (count_at s at) (at + 2)) (count_at s at) (at + 2))
      by true e = refl
      by false e =
          let few : count_at s at ≤ frame_limit = ltb-false frame_limit (count_at s at) e in
          frames-same (length t) (length s) (sections_with filters (count_at s at) (at + 2)) (count_at s at) (at + 2) (omega arith) (omega arith)

  first-same : (filters n at : ℕ) → at + filter_bytes * n ≤ filters_end filter_limit → filters_from t filters n at ≡ filters_from s filters n at
  unfolding filters_from
  first-same filters zero at h = second-same filters at (omega arith)
  first-same filters (suc n) at h =
      rw (
        le-ltb (length t) (at + 1) (omega arith),
        le-ltb (length s) (at + 1) (omega arith),
        same at (omega arith),
        le-ltb (length t) (at + 1 + 8) (omega arith),
        le-ltb (length s) (at + 1 + 8) (omega arith),
      )
      (ap (λ (r : Said Sections). cond (ltb 1 (get_or s at 0)) (refuses 7 (at ∷ [])) r) (first-same filters n (at + filter_bytes) (omega arith)))

  read_same : read_of t ≡ read_of s
  unfolding read_of
  read_same =
      rw (le-ltb (length t) (0 + 1) (omega arith), le-ltb (length s) (0 + 1) (omega arith), same 0 (omega arith)) (by (ltb filter_limit (get_or s 0 0)) refl)
    where
      by : (above : Bool) → ltb filter_limit (get_or s 0 0) ≡ above
          → cond above (refuses 12 (0 ∷ [])) (filters_from t (get_or s 0 0) (get_or s 0 0) 1) ≡ cond above (refuses 12 (0 ∷ [])) (filters_from s (get_or s 0 0) (get_or s 0 0) 1)
      by true e = refl
      by false e =
          let few : get_or s 0 0 ≤ filter_limit = ltb-false filter_limit (get_or s 0 0) e in
          first-same (get_or s 0 0) (get_or s 0 0) 1 (omega arith)

pub read-cap : (s : List ℕ) → read_of (take 53396 s) ≡ read_of s
read-cap s =
    elim (dec_lt 53396 (length s)) [
      | yes h ↦ read_same (take 53396 s) s (λ i l. get_or-take 53396 s i 0 l) (omega (arith, length-take 53396 s)) (omega arith)
      | no h ↦ ap read_of (take_all 53396 s (omega arith))
    ]
