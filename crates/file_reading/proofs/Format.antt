-- What the reader accepts is a file of the format, and a file of the format is what it accepts: the definition goes through the same
-- fields. Assumes nothing.
use Prim.Native.Nat.{ℕ, zero, suc, ◌+◌, ◌*◌, ◌≤◌, ◌<◌}
use mathlib.Core.Path.{◌≡◌, sym, ap, ◌∙◌, subst}
use mathlib.Core.List.{List}
use lib.Dec.{ltb}
use lib.ListN.{length, get_or}
use native.Mathlib.Omega.{arith}
use borrow.Author.Tests.{le-ltb, ltb-false}
use Rattle.laws.specs.Said.{gives}
use Rattle.laws.proofs.Said.{passed, gives_same}
use Rattle.file_reading.specs.Format.{filter_limit, frame_limit, filter_bytes, frame_bytes, filters_end, start_of_frames, count_at, File}
use Rattle.file_reading.specs.declared.Sections.{Sections}
use Rattle.file_reading.specs.Reader.{sections_with, frames_from, frames_at, filters_from, read_of}

-- ---- a file is read
pub frames-read : (len : ℕ) (sections : Sections) (n at : ℕ) → at + frame_bytes * n ≡ len → frames_from len sections n at ≡ gives sections
unfolding frames_from
frames-read len sections zero at e = rw (le-ltb at len (omega arith))
frames-read len sections (suc n) at e = rw (le-ltb len (at + frame_bytes) (omega arith)) (frames-read len sections n (at + frame_bytes) (omega arith))

module _ (s : List ℕ) (filters : ℕ) where
  filters-read : (n at : ℕ) → ((i : ℕ) → i < n → get_or s (at + filter_bytes * i) 0 ≤ 1) → at + filter_bytes * n ≤ length s
      → filters_from s filters n at ≡ frames_at s filters (at + filter_bytes * n)
  unfolding filters_from
  filters-read zero at kinds l =
      let e : at + filter_bytes * 0 ≡ at = omega arith in
      rw e
  filters-read (suc n) at kinds l =
      let first : get_or s at 0 ≤ 1 = subst (λ (j : ℕ). get_or s j 0 ≤ 1) {x = at + filter_bytes * 0} {y = at} (omega arith) (kinds 0 (omega arith)) in
      rw (le-ltb (length s) (at + 1) (omega arith), le-ltb 1 (get_or s at 0) first, le-ltb (length s) (at + 1 + 8) (omega arith))
      (filters-read n (at + filter_bytes) (λ i h. subst (λ (j : ℕ). get_or s j 0 ≤ 1) {x = at + filter_bytes * suc i} {y = at + filter_bytes + filter_bytes * i} (omega arith) (kinds (suc i) (omega arith))) (omega arith)
      ∙ ap (frames_at s filters) {x = at + filter_bytes + filter_bytes * n} {y = at + filter_bytes * suc n} (omega arith))

pub good-read : (s : List ℕ) (filters frames : ℕ) → File s filters frames → read_of s ≡ gives (sections_with filters frames (start_of_frames filters))
unfolding read_of frames_at
good-read s filters frames file =
    let long : length s ≡ start_of_frames filters + frame_bytes * frames = file.whole in
    let few : get_or s 0 0 ≤ filter_limit = subst (λ (x : ℕ). x ≤ filter_limit) file.filter-count file.filters-within in
    let some : count_at s (filters_end filters) ≤ frame_limit = subst (λ (x : ℕ). x ≤ frame_limit) file.frame-count file.frames-within in
    let start : filters_end filters + 2 ≡ start_of_frames filters = omega arith in
    rw (
      le-ltb (length s) (0 + 1) (omega arith),
      le-ltb filter_limit (get_or s 0 0) few,
      ← file.filter-count,
      filters-read s filters filters 1 file.kinds (omega arith),
      le-ltb (length s) (filters_end filters + 2) (omega arith),
      le-ltb frame_limit (count_at s (filters_end filters)) some,
      start,
      ← file.frame-count,
    )
    (frames-read (length s) (sections_with filters frames (start_of_frames filters)) frames (start_of_frames filters) (sym long))

-- ---- what is read is a file
frames-good : (len : ℕ) (sections : Sections) (n at : ℕ) (x : Sections) → frames_from len sections n at ≡ gives x → at ≤ len → (at + frame_bytes * n ≡ len) × (sections ≡ x)
unfolding frames_from
frames-good len sections zero at x h l =
    let p = passed (ltb at len) 13 _ (gives sections) x h in
    (omega (arith, ltb-false at len p.0), gives_same sections x p.1)
frames-good len sections (suc n) at x h l =
    let p = passed (ltb len (at + frame_bytes)) 11 _ (frames_from len sections n (at + frame_bytes)) x h in
    let q = frames-good len sections n (at + frame_bytes) x p.1 (ltb-false len (at + frame_bytes) p.0) in
    (omega (arith, q.0), q.1)

module _ (s : List ℕ) (filters : ℕ) where
  filters-good : (n at : ℕ) (x : Sections) → filters_from s filters n at ≡ gives x
      → ((i : ℕ) → i < n → get_or s (at + filter_bytes * i) 0 ≤ 1) × (frames_at s filters (at + filter_bytes * n) ≡ gives x)
  unfolding filters_from
  filters-good zero at x h =
      let e : at + filter_bytes * 0 ≡ at = omega arith in
      ((λ i l. absurd (omega arith)), rw e h)
  filters-good (suc n) at x h =
      let there = passed (ltb (length s) (at + 1)) 11 _ _ x h in
      let kind = passed (ltb 1 (get_or s at 0)) 7 _ _ x there.1 in
      let registers = passed (ltb (length s) (at + 1 + 8)) 11 _ _ x kind.1 in
      let rest = filters-good n (at + filter_bytes) x registers.1 in (
        each (ltb-false 1 (get_or s at 0) kind.0) rest.0,
        subst (λ (k : ℕ). frames_at s filters k ≡ gives x) {x = at + filter_bytes + filter_bytes * n} {y = at + filter_bytes * suc n} (omega arith) rest.1,
      )
    where
      each : get_or s at 0 ≤ 1 → ((i : ℕ) → i < n → get_or s (at + filter_bytes + filter_bytes * i) 0 ≤ 1) → (i : ℕ) → i < suc n → get_or s (at + filter_bytes * i) 0 ≤ 1
      each first later zero l = subst (λ (k : ℕ). get_or s k 0 ≤ 1) {x = at} {y = at + filter_bytes * 0} (omega arith) first
      each first later (suc i) l = subst (λ (k : ℕ). get_or s k 0 ≤ 1) {x = at + filter_bytes + filter_bytes * i} {y = at + filter_bytes * suc i} (omega arith) (later i (omega arith))

pub read-good : (s : List ℕ) (sections : Sections) → read_of s ≡ gives sections
    → File s sections.filters sections.frames × (sections.filters_start ≡ 1) × (sections.frames_start ≡ start_of_frames sections.filters)
unfolding read_of frames_at
read-good s sections h =
    let there = passed (ltb (length s) (0 + 1)) 11 _ _ sections h in
    let few = passed (ltb filter_limit (get_or s 0 0)) 12 _ _ sections there.1 in
    let kinds = filters-good s (get_or s 0 0) (get_or s 0 0) 1 sections few.1 in
    let count = passed (ltb (length s) (filters_end (get_or s 0 0) + 2)) 11 _ _ sections kinds.1 in
    let some = passed (ltb frame_limit (count_at s (filters_end (get_or s 0 0)))) 12 _ _ sections count.1 in
    let end = frames-good (length s) _ (count_at s (filters_end (get_or s 0 0))) (filters_end (get_or s 0 0) + 2) sections some.1 (ltb-false (length s) (filters_end (get_or s 0 0) + 2) count.0) in
    let ea : get_or s 0 0 ≡ sections.filters = ap (λ (x : Sections). x.filters) end.1 in
    let ec : count_at s (filters_end (get_or s 0 0)) ≡ sections.frames = ap (λ (x : Sections). x.frames) end.1 in
    let long : filters_end (get_or s 0 0) + 2 + frame_bytes * count_at s (filters_end (get_or s 0 0)) ≡ length s = end.0 in (
      record {
        filter-count = sym ea;
        filters-within = subst (λ (x : ℕ). x ≤ filter_limit) ea (ltb-false filter_limit (get_or s 0 0) few.0);
        kinds = λ i l. kinds.0 i (subst (λ (x : ℕ). i < x) (sym ea) l);
        frame-count = sym ec ∙ ap (λ (x : ℕ). count_at s (filters_end x)) ea;
        frames-within = subst (λ (x : ℕ). x ≤ frame_limit) ec (ltb-false frame_limit (count_at s (filters_end (get_or s 0 0))) some.0);
        whole = omega arith;
      },
      sym (ap (λ (x : Sections). x.filters_start) end.1),
      sym (ap (λ (x : Sections). x.frames_start) end.1) ∙ omega arith,
    )
