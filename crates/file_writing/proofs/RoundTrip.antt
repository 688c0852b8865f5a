-- Reading what was written gives the same counts and sections, and writing what a file holds gives the same bytes: both go by the file's
-- parts, a count, the filters, a count, the frames. Assumes nothing.
use Prim.Native.Nat.{ℕ, zero, suc, ◌+◌, ◌*◌, ◌/◌, ◌%◌, ◌≤◌, ◌<◌}
use mathlib.Core.Path.{◌≡◌, refl, sym, ap, ◌∙◌, subst}
use mathlib.Core.Bool.{Bool, true, false, cond}
use mathlib.Core.List.{List, [], ◌∷◌, ◌++◌}
use lib.Dec.{ltb}
use lib.ListN.{length, get_or, take, drop, length-append, length-drop, take-append-drop, get_or-append}
use lib.Seq.{drop-cons, take_all, take_at, take-append_seam, get_or-append-add, length-take-le, drop-drop, get_or-take, get_or-drop}
use native.Mathlib.Nat.{zero-add}
use native.Mathlib.Numerals.{one-add}
use native.Mathlib.Omega.{arith}
use borrow.Author.Tests.{le-ltb, ltb-false}
use Rattle.laws.specs.Said.{gives}
use Rattle.laws.specs.Laid.{written}
use Rattle.laws.specs.Tabulate.{Bytes}
use Rattle.file_reading.specs.Format.{filter_limit, frame_limit, filter_bytes, frame_bytes, filters_end, start_of_frames, count_at, File, filters_in, frames_in}
use Rattle.file_reading.specs.declared.Sections.{Sections}
use Rattle.file_reading.specs.Reader.{sections_with, read_of}
use Rattle.file_reading.proofs.Format.{good-read, read-good}
use Rattle.file_writing.specs.Writer.{filter_count, frame_count, frames_part, file_of, first_bad_kind, needed, write_of, leaves}
use Rattle.file_writing.proofs.Writer.{Whole, whole}

-- ---- what is written is a file
kinds-good : (filters : List ℕ) (n i : ℕ) → i + n ≤ first_bad_kind filters n i → (j : ℕ) → j < n → get_or filters (filter_bytes * (i + j)) 0 ≤ 1
unfolding first_bad_kind
kinds-good filters zero i h j l = absurd (omega arith)
kinds-good filters (suc n) i h j l = by (ltb 1 (get_or filters (filter_bytes * i) 0)) refl j l h (λ g. kinds-good filters n (i + 1) g)
  where
    by : (bad : Bool) → ltb 1 (get_or filters (filter_bytes * i) 0) ≡ bad → (j : ℕ) → j < suc n → i + suc n ≤ cond bad i (first_bad_kind filters n (i + 1))
        → (i + 1 + n ≤ first_bad_kind filters n (i + 1) → (j : ℕ) → j < n → get_or filters (filter_bytes * (i + 1 + j)) 0 ≤ 1) → get_or filters (filter_bytes * (i + j)) 0 ≤ 1
    by true e j l h r = absurd (omega arith)
    by false e zero l h r = subst (λ (k : ℕ). get_or filters (filter_bytes * k) 0 ≤ 1) {x = i} {y = i + 0} (omega arith) (ltb-false 1 (get_or filters (filter_bytes * i) 0) e)
    by false e (suc j) l h r = subst (λ (k : ℕ). get_or filters (filter_bytes * k) 0 ≤ 1) {x = i + 1 + j} {y = i + suc j} (omega arith) (r (omega arith) j (omega arith))

module _ (filters frames : List ℕ) where
  file-long : length (file_of filters frames) ≡ needed filters frames
  file-long = simp length-append (omega arith)

  -- behind the first count, and behind the filters
  in-filters : (k : ℕ) → k < length filters → get_or (file_of filters frames) (1 + k) 0 ≡ get_or filters k 0
  in-filters k h = rw one-add (get_or-append filters (frames_part frames) 0 k h)

  past-filters : (k : ℕ) → get_or (file_of filters frames) (1 + (length filters + k)) 0 ≡ get_or (frames_part frames) k 0
  past-filters k = rw one-add (get_or-append-add filters (frames_part frames) k 0)

  made-good : (room n : ℕ) → Whole filters frames room n → File (file_of filters frames) (filter_count filters) (frame_count frames)
  made-good room n w =
      let whole-filters : length filters ≡ filter_bytes * filter_count filters = w.filters-whole in
      let whole-frames : length frames ≡ frame_bytes * frame_count frames = w.frames-whole in
      let high : get_or (file_of filters frames) (filters_end (filter_count filters)) 0 ≡ frame_count frames / 256 =
      subst (λ (k : ℕ). get_or (file_of filters frames) k 0 ≡ frame_count frames / 256) {x = 1 + (length filters + 0)} {y = filters_end (filter_count filters)} (omega arith) (past-filters 0) in
      let low : get_or (file_of filters frames) (filters_end (filter_count filters) + 1) 0 ≡ frame_count frames % 256 =
      subst (λ (k : ℕ). get_or (file_of filters frames) k 0 ≡ frame_count frames % 256) {x = 1 + (length filters + 1)} {y = filters_end (filter_count filters) + 1} (omega arith) (past-filters 1) in
      record {
        filter-count = refl;
        filters-within = w.filters-within;
        kinds = λ i h.
            subst (λ (x : ℕ). x ≤ 1) (sym (in-filters (filter_bytes * i) (omega arith)))
            (subst (λ (k : ℕ). get_or filters (filter_bytes * k) 0 ≤ 1) {x = 0 + i} {y = i} (omega arith) (kinds-good filters (filter_count filters) 0 (omega (arith, w.kinds)) i h));
        frame-count = rw (high, low) (omega arith);
        frames-within = w.frames-within;
        whole = file-long ∙ omega arith;
      }

  -- reading what was written
  pub read-written : (room n : ℕ) → write_of filters frames room ≡ gives n
      → (read_of (file_of filters frames) ≡ gives (sections_with (filter_count filters) (frame_count frames) (start_of_frames (filter_count filters))))
      × (filters_in (file_of filters frames) (filter_count filters) ≡ filters)
      × (frames_in (file_of filters frames) (filter_count filters) (frame_count frames) ≡ frames)
  read-written room n h =
      let w : Whole filters frames room n = whole filters frames room n h in
      let e : filter_bytes * filter_count filters ≡ length filters = sym w.filters-whole in
      let start : 3 + length filters ≡ suc (length filters + 2) = omega arith in (
        good-read (file_of filters frames) (filter_count filters) (frame_count frames) (made-good room n w),
        rw (e, take-append_seam),
        rw (e, start) (rw (drop-add filters (frames_part frames) 2) (take_all (frame_bytes * frame_count frames) frames (omega (arith, w.frames-whole)))),
      )
    where
      drop-add : (xs ys : List ℕ) (k : ℕ) → drop (length xs + k) (xs ++ ys) ≡ drop k ys
      drop-add [] ys k = rw zero-add
      drop-add (x ∷ xs) ys k =
          let q : suc (length xs) + k ≡ suc (length xs + k) = omega arith in
          rw q (drop-add xs ys k)

  -- the output, up to the length that was answered, is the file
  pub written_is : (out : List ℕ) (n : ℕ) → write_of filters frames (length out) ≡ gives n → take n (leaves filters frames out) ≡ file_of filters frames
  unfolding written
  written_is out n h =
      let w : Whole filters frames (length out) n = whole filters frames (length out) n h in
      rw h (take_at (file_of filters frames) (drop (length (file_of filters frames)) out) n (file-long ∙ sym w.long))

-- ---- writing what a file holds
kinds-all : (filters : List ℕ) (n i : ℕ) → ((j : ℕ) → j < n → get_or filters (filter_bytes * (i + j)) 0 ≤ 1) → first_bad_kind filters n i ≡ i + n
unfolding first_bad_kind
kinds-all filters zero i kinds = omega arith
kinds-all filters (suc n) i kinds =
    let first : get_or filters (filter_bytes * i) 0 ≤ 1 = subst (λ (j : ℕ). get_or filters (filter_bytes * j) 0 ≤ 1) {x = i + 0} {y = i} (omega arith) (kinds 0 (omega arith)) in
    rw (le-ltb 1 (get_or filters (filter_bytes * i) 0) first)
    (kinds-all filters n (i + 1) (λ j l. subst (λ (m : ℕ). get_or filters (filter_bytes * m) 0 ≤ 1) {x = i + suc j} {y = i + 1 + j} (omega arith) (kinds (suc j) (omega arith))) ∙ omega arith)

module _ (s : List ℕ) (n m : ℕ) (file : File s n m) where
  filters-long : length (filters_in s n) ≡ filter_bytes * n
  filters-long = length-take-le (filter_bytes * n) (drop 1 s) (simp length-drop (omega (arith, file.whole)))

  frames-long : length (frames_in s n m) ≡ frame_bytes * m
  frames-long = length-take-le (frame_bytes * m) (drop (start_of_frames n) s) (simp length-drop (omega (arith, file.whole)))

  parts : s ≡ get_or s 0 0 ∷ (filters_in s n ++ (get_or s (filters_end n) 0 ∷ get_or s (filters_end n + 1) 0 ∷ frames_in s n m))
  parts =
      let long : length s ≡ start_of_frames n + frame_bytes * m = file.whole in
      let e1 : suc (filters_end n) ≡ filters_end n + 1 = omega arith in
      let e2 : suc (filters_end n + 1) ≡ start_of_frames n = omega arith in
      drop-cons s 0 0 (omega arith)
      ∙ ap (λ (x : List ℕ). get_or s 0 0 ∷ x)
      (sym (take-append-drop (filter_bytes * n) (drop 1 s))
      ∙ ap (λ (x : List ℕ). filters_in s n ++ x)
      (drop-drop (filter_bytes * n) 1 s ∙ drop-cons s (filters_end n) 0 (omega arith)
      ∙ ap (λ (x : List ℕ). get_or s (filters_end n) 0 ∷ x)
      (ap (λ (k : ℕ). drop k s) e1 ∙ drop-cons s (filters_end n + 1) 0 (omega arith)
      ∙ ap (λ (x : List ℕ). get_or s (filters_end n + 1) 0 ∷ x)
      (ap (λ (k : ℕ). drop k s) e2 ∙ sym (take_all (frame_bytes * m) (drop (start_of_frames n) s) (simp length-drop (omega arith)))))))

  same_bytes : Bytes s → file_of (filters_in s n) (frames_in s n m) ≡ s
  same_bytes bytes =
      let count : filter_count (filters_in s n) ≡ get_or s 0 0 = ap (λ (x : ℕ). x / filter_bytes) filters-long ∙ omega (arith, file.filter-count) in
      let second : frame_count (frames_in s n m) ≡ count_at s (filters_end n) = ap (λ (x : ℕ). x / frame_bytes) frames-long ∙ omega (arith, file.frame-count) in
      let below : get_or s (filters_end n + 1) 0 < 256 = bytes (filters_end n + 1) in
      let high : frame_count (frames_in s n m) / 256 ≡ get_or s (filters_end n) 0 = rw second (omega arith) in
      let low : frame_count (frames_in s n m) % 256 ≡ get_or s (filters_end n + 1) 0 = rw second (omega arith) in
      rw (count, high, low) (sym parts)

  kind-in : (j : ℕ) → j < n → get_or (filters_in s n) (filter_bytes * (0 + j)) 0 ≤ 1
  kind-in j l =
      let e : filter_bytes * (0 + j) ≡ filter_bytes * j = omega arith in
      rw (e, get_or-take (filter_bytes * n) (drop 1 s) (filter_bytes * j) 0 (omega arith), get_or-drop 1 s (filter_bytes * j) 0) (file.kinds j l)

  good-write : (room : ℕ) → length s ≤ room → write_of (filters_in s n) (frames_in s n m) room ≡ gives (length s)
  unfolding write_of
  good-write room h =
      let long : length s ≡ start_of_frames n + frame_bytes * m = file.whole in
      let q : filter_bytes * n / filter_bytes ≡ n = omega arith in
      let r : frame_bytes * m / frame_bytes ≡ m = omega arith in
      let k : first_bad_kind (filters_in s n) n 0 ≡ 0 + n = kinds-all (filters_in s n) n 0 kind-in in
      rw (
        filters-long,
        frames-long,
        q,
        r,
        k,
        le-ltb 0 (filter_bytes * n % filter_bytes) (omega arith),
        le-ltb 0 (frame_bytes * m % frame_bytes) (omega arith),
        le-ltb filter_limit n file.filters-within,
        le-ltb frame_limit m file.frames-within,
        le-ltb (0 + n) n (omega arith),
        le-ltb room (3 + filter_bytes * n + frame_bytes * m) (omega arith),
      )
      (ap gives (sym long))

-- writing what was read gives the same bytes
pub write-good : (s : List ℕ) (sections : Sections) (room : ℕ) → read_of s ≡ gives sections → Bytes s → length s ≤ room
    → (write_of (filters_in s sections.filters) (frames_in s sections.filters sections.frames) room ≡ gives (length s))
    × (file_of (filters_in s sections.filters) (frames_in s sections.filters sections.frames) ≡ s)
write-good s sections room h bytes l =
    let file : File s sections.filters sections.frames = (read-good s sections h).0 in
    (good-write s sections.filters sections.frames file room l, same_bytes s sections.filters sections.frames file bytes)
