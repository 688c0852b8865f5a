-- The frame file: filters, then frames, each section after its count.
-- Source: the outline, "Frame file and program".
use Rattle.std.specs.Prelude.{ℕ, ◌+◌, ◌*◌, ◌≤◌, ◌<◌, ◌≡◌, List, length, get_or, take, drop}

-- the most filters that a file has, and the most frames
abbrev pub filter_limit : ℕ
filter_limit = 16

abbrev pub frame_limit : ℕ
frame_limit = 4096

-- the bytes of a filter, which are its kind and its registers, and of a frame
abbrev pub filter_bytes : ℕ
filter_bytes = 9

abbrev pub frame_bytes : ℕ
frame_bytes = 13

-- where the filters end, after a count of one byte, and where the frames start, after one of two
abbrev pub filters_end : ℕ → ℕ
filters_end filters = 1 + filter_bytes * filters

abbrev pub start_of_frames : ℕ → ℕ
start_of_frames filters = 3 + filter_bytes * filters

-- the longest file
abbrev pub longest : ℕ
longest = start_of_frames filter_limit + frame_bytes * frame_limit

-- the two bytes at a place, high byte first
abbrev pub count_at : List ℕ → ℕ → ℕ
count_at s at = get_or s at 0 * 256 + get_or s (at + 1) 0

-- the bytes are a file of so many filters and so many frames
pub record File (s : List ℕ) (filters frames : ℕ) : Type 0 where
  pub filter-count : filters ≡ get_or s 0 0
  pub filters-within : filters ≤ filter_limit
  pub kinds : (i : ℕ) → i < filters → get_or s (1 + filter_bytes * i) 0 ≤ 1
  pub frame-count : frames ≡ count_at s (filters_end filters)
  pub frames-within : frames ≤ frame_limit
  pub whole : length s ≡ start_of_frames filters + frame_bytes * frames

-- its entries
abbrev pub filters_in : List ℕ → ℕ → List ℕ
filters_in s filters = take (filter_bytes * filters) (drop 1 s)

abbrev pub frames_in : List ℕ → ℕ → ℕ → List ℕ
frames_in s filters frames = take (frame_bytes * frames) (drop (start_of_frames filters) s)
