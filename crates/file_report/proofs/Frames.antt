-- Turns of the loops over frames, by the rows at their indices, and the whole texts. Assumes nothing.
use Prim.Native.Nat.{ℕ, ◌+◌, ◌-◌, ◌*◌, ◌^◌, ◌≤◌, ◌<◌}
use mathlib.Core.Path.{◌≡◌, refl, sym, ap, ap₂, ◌∙◌}
use mathlib.Core.Bool.{Bool, true, false, cond}
use mir.Val.{bool_byte}
use mathlib.Core.List.{List, [], ◌∷◌, ◌++◌, append_assoc}
use lib.ListN.{length, get_or, set, length-append}
use native.Mathlib.Numerals.{add-one}
use native.Mathlib.Omega.{arith}
use Rattle.laws.specs.Ascii.{ascii}
use Rattle.laws.specs.Said.{Said, gives}
use Rattle.laws.specs.Laid.{laid, laid_first, laying, written}
use Rattle.laws.specs.Tabulate.{tabulate}
use Rattle.laws.proofs.Laid.{length-laid, set_then, laid_then}
use Rattle.file_reading.specs.Format.{filter_limit, frame_limit, filter_bytes, frame_bytes, start_of_frames}
use Rattle.file_reading.specs.declared.Sections.{Sections}
use Rattle.file_reading.specs.Reader.{read_of}
use Rattle.file_reading.proofs.Format.{read-good}
use Rattle.text.specs.Decimal.{decimal}
use Rattle.text.specs.Put.{place_behind, put_at}
use Rattle.text.specs.Page.{added}
use Rattle.text.proofs.Decimal.{decimal-long, decimal-most}
use Rattle.text.proofs.Pages.{added-fits}
use Rattle.text.proofs.Put.{place-put, text-put}
use Rattle.file_report.specs.Text.{any, line_of, lines_from, count_of, good_text, bad_text, read_text, text_of}
use Rattle.file_report.specs.Held.{row_at, rows_in}
use Rattle.file_report.specs.Length.{line_length, lines_length}
use Rattle.file_report.proofs.Held.{row-many, text-read}
use Rattle.file_report.proofs.Text.{lines_more, lines_long, count-more, count_most, long-more}

pub long-none : (n : ℕ) → 0 ≡ lines_length n 0
unfolding lines_length
long-none n = refl

pub long-turn : (n i : ℕ) → lines_length n (i + 1) ≡ lines_length n i + line_length n i
unfolding lines_length
long-turn n i = ap (lines_length n) (add-one i)

pub line-room : (n i m : ℕ) → i < m → lines_length n i + line_length n i ≤ lines_length n m
line-room n i m h =
    let e : i + 1 + (m - (i + 1)) ≡ m = omega arith in
    let r : lines_length n (i + 1) ≤ lines_length n m = rw e at (long-more n (i + 1) (m - (i + 1))) in
    omega (arith, long-turn n i)

-- the rows of a file's frames, by their index
module _ (s : List ℕ) (sections : Sections) where
  abbrev rows : ℕ → List (List Bool)
  rows m = tabulate m (row_at s sections)

  wide : (i : ℕ) → length (row_at s sections i) ≡ sections.filters
  wide = row-many s sections

  pub lines_none : (out : List ℕ) → out ≡ laid 0 (lines_from 0 (rows 0)) out
  unfolding lines_from
  lines_none out = refl

  pub count_none : 0 ≡ count_of (rows 0)
  unfolding count_of
  count_none = refl

  pub lines-turn : (i at : ℕ) (out was now : List ℕ) → at ≡ lines_length sections.filters i
      → was ≡ laid 0 (lines_from 0 (rows i)) out → now ≡ laid at (line_of i (row_at s sections i)) was → now ≡ laid 0 (lines_from 0 (rows (i + 1))) out
  lines-turn i at out was now ea ew en =
      en
      ∙ ap (λ (l : List ℕ). laid at (line_of i (row_at s sections i)) l) ew
      ∙ laid_then at 0 (lines_from 0 (rows i)) (line_of i (row_at s sections i)) out
      (omega (arith, lines_long sections.filters (row_at s sections) wide i)) (omega arith)
      ∙ ap (λ (l : List ℕ). laid 0 l out)
      (sym (lines_more sections.filters (row_at s sections) wide i) ∙ ap (λ (k : ℕ). lines_from 0 (rows k)) (sym (add-one i)))

  byte-is : (b : Bool) → bool_byte b ≡ cond b 1 0
  byte-is true = refl
  byte-is false = refl

  pub count-turn : (i count byte : ℕ) (some : Bool) → count ≡ count_of (rows i) → some ≡ any (row_at s sections i) → byte ≡ bool_byte some
      → count + byte ≡ count_of (rows (i + 1))
  count-turn i count byte some ec es eb =
      ap₂ (λ (x y : ℕ). x + y) ec (eb ∙ byte-is some ∙ ap (λ (b : Bool). cond b 1 0) es)
      ∙ sym (count-more sections.filters (row_at s sections) wide i) ∙ ap (λ (k : ℕ). count_of (rows k)) (sym (add-one i))

  pub count-few : (m : ℕ) → count_of (rows m) ≤ m
  count-few m = count_most sections.filters (row_at s sections) wide m

  -- the whole text of m frames
  pub good-long : (m : ℕ) → length (good_text (rows m)) ≡ lines_length sections.filters m + (9 + (length (decimal (count_of (rows m))) + 1))
  unfolding good_text
  good-long m = simp length-append (omega (arith, lines_long sections.filters (row_at s sections) wide m))

  pub good-most : (m : ℕ) → m ≤ frame_limit → length (good_text (rows m)) ≤ lines_length sections.filters m + 14
  good-most m h = omega (arith, good-long m, decimal-long 3 (count_of (rows m)) (omega (arith, count-few m)))

  -- the lines, "accepted ", the count and a newline, put one behind another
  module _ (m at p q count : ℕ) (out one two three : List ℕ) (room : length (good_text (rows m)) ≤ length out)
      (ea : at ≡ lines_length sections.filters m) (ec : count ≡ count_of (rows m)) (e1 : one ≡ laid 0 (lines_from 0 (rows m)) out)
      (ep : p ≡ place_behind at (ascii "accepted ") one) (e2 : two ≡ put_at at (ascii "accepted ") one)
      (eq : q ≡ place_behind p (decimal count) two) (e3 : three ≡ put_at p (decimal count) two) where
    long : length (good_text (rows m)) ≡ at + (9 + (length (decimal count) + 1))
    long = good-long m ∙ rw (ea, ec)

    lines : at ≡ 0 + length (lines_from 0 (rows m))
    lines = omega (arith, ea, lines_long sections.filters (row_at s sections) wide m)

    long-one : length one ≡ length out
    long-one = ap length e1 ∙ length-laid 0 (lines_from 0 (rows m)) out (omega (arith, long, lines))

    word : (p ≡ at + 9) × (two ≡ laid at (ascii "accepted ") one)
    word =
        let fits : at + 9 ≤ length one = omega (arith, long, long-one) in
        (place-put at p (ascii "accepted ") one ep fits, text-put at (ascii "accepted ") one two e2 fits)

    two_is : two ≡ laid 0 (lines_from 0 (rows m) ++ ascii "accepted ") out
    two_is = word.1 ∙ ap (laid at (ascii "accepted ")) e1 ∙ laid_then at 0 (lines_from 0 (rows m)) (ascii "accepted ") out lines (omega arith)

    long-two : length two ≡ length out
    long-two = ap length word.1 ∙ length-laid at (ascii "accepted ") one (omega (arith, long, long-one)) ∙ long-one

    number : (q ≡ p + length (decimal count)) × (three ≡ laid p (decimal count) two)
    number =
        let fits : p + length (decimal count) ≤ length two = omega (arith, long, long-two, word.0) in
        (place-put p q (decimal count) two eq fits, text-put p (decimal count) two three e3 fits)

    pub good-end : q + 1 ≡ length (good_text (rows m))
    good-end = omega (arith, long, word.0, number.0)

    pub good-room : q < length three
    good-room =
        let same : length three ≡ length out
        = ap length number.1 ∙ length-laid p (decimal count) two (omega (arith, long, long-two, word.0)) ∙ long-two in
        omega (arith, good-end)

    pub good-put : set three q 10 ≡ laid_first (good_text (rows m)) out
    unfolding good_text
    good-put =
        let front = lines_from 0 (rows m) ++ ascii "accepted " in
        let behind : p ≡ 0 + length front = omega (arith, lines, word.0, length-append (lines_from 0 (rows m)) (ascii "accepted ")) in
        let three-is : three ≡ laid 0 (front ++ decimal count) out
        = number.1 ∙ ap (laid p (decimal count)) two_is ∙ laid_then p 0 front (decimal count) out behind (omega arith) in
        let last : q ≡ 0 + length (front ++ decimal count) = omega (arith, behind, number.0, length-append front (decimal count)) in
        let whole : (front ++ decimal count) ++ (10 ∷ []) ≡ lines_from 0 (rows m) ++ (ascii "accepted " ++ (decimal (count_of (rows m)) ++ (10 ∷ [])))
        = rw ec (simp append_assoc) in
        ap (λ (l : List ℕ). set l q 10) three-is
        ∙ set_then q 10 0 (front ++ decimal count) out last (omega (arith, good-end, room))
        ∙ ap (λ (l : List ℕ). laid 0 l out) whole

-- a refusal's text, composed on a page that has room for any two numbers
pub bad-added : (number place : ℕ) (one two three four five : List ℕ) → number < 2 ^ 64 → place < 2 ^ 64
    → one ≡ added 53 [] (ascii "refused ") → two ≡ added 53 one (decimal number) → three ≡ added 53 two (ascii " at ")
    → four ≡ added 53 three (decimal place) → five ≡ added 53 four (ascii "\n") → five ≡ bad_text number place
unfolding bad_text
bad-added number place one two three four five fn fp e1 e2 e3 e4 e5 =
    let most = decimal-most number fn in
    let more = decimal-most place fp in
    let first : one ≡ ascii "refused " = e1 ∙ added-fits 53 [] (ascii "refused ") (omega arith) in
    let long1 : length one ≡ 8 = ap length first in
    let second : two ≡ one ++ decimal number = e2 ∙ added-fits 53 one (decimal number) (omega arith) in
    let long2 : length two ≡ 8 + length (decimal number) = ap length second ∙ length-append one (decimal number) ∙ omega arith in
    let third : three ≡ two ++ ascii " at " = e3 ∙ added-fits 53 two (ascii " at ") (omega arith) in
    let long3 : length three ≡ 12 + length (decimal number) = ap length third ∙ length-append two (ascii " at ") ∙ omega arith in
    let fourth : four ≡ three ++ decimal place = e4 ∙ added-fits 53 three (decimal place) (omega arith) in
    let long4 : length four ≡ 12 + length (decimal number) + length (decimal place) = ap length fourth ∙ length-append three (decimal place) ∙ omega arith in
    e5 ∙ added-fits 53 four (ascii "\n") (omega arith)
    ∙ ap (λ (t : List ℕ). t ++ ascii "\n") (fourth ∙ ap (λ (t : List ℕ). t ++ decimal place)
    (third ∙ ap (λ (t : List ℕ). t ++ ascii " at ") (second ∙ ap (λ (t : List ℕ). t ++ decimal number) first)))
    ∙ simp append_assoc

-- the text of a file that is read
module _ (s : List ℕ) (sections : Sections) (read : read_of s ≡ gives sections) where
  pub text-long : length (text_of s) ≡ lines_length sections.filters sections.frames + (9 + (length (decimal (count_of (rows_in s sections))) + 1))
  text-long = ap length (text-read s sections read) ∙ good-long s sections sections.frames

  pub text-most : length (text_of s) ≤ lines_length sections.filters sections.frames + 14
  text-most = omega (arith, ap length (text-read s sections read), good-most s sections sections.frames (read-good s sections read).0.frames-within)

-- ---- from what the reader answered
pub text-refused : (s : List ℕ) (said : Said Sections) → read_of s ≡ said → text_of s ≡ read_text s said
unfolding text_of
text-refused s said e = ap (read_text s) e

pub same_text : (t u out now : List ℕ) (said : Said ℕ) → u ≡ t → (said ≡ laying t out) × (now ≡ written (laying t out) t out)
    → (said ≡ laying u out) × (now ≡ written (laying u out) u out)
same_text t u out now said e p = rw e p

-- where the filters and the frames of a file that is read stand
pub record Within (s : List ℕ) (sections : Sections) : Type 0 where
  pub few-filters : sections.filters ≤ filter_limit
  pub few-frames : sections.frames ≤ frame_limit
  pub filters-within : sections.filters_start + filter_bytes * sections.filters ≤ length s
  pub frames-within : sections.frames_start + frame_bytes * sections.frames ≤ length s
  pub start-low : sections.filters_start < 256
  pub frames-low : sections.frames_start < 256
  pub kinds : (i : ℕ) → i < sections.filters → get_or s (sections.filters_start + filter_bytes * i) 0 ≤ 1

pub within : (s : List ℕ) (sections : Sections) → read_of s ≡ gives sections → Within s sections
within s sections e =
    let p = read-good s sections e in
    let long : length s ≡ start_of_frames sections.filters + frame_bytes * sections.frames = p.0.whole in
    record {
      few-filters = p.0.filters-within;
      few-frames = p.0.frames-within;
      filters-within = omega (arith, p.1);
      frames-within = omega (arith, p.2);
      start-low = omega (arith, p.1);
      frames-low = omega (arith, p.2, p.0.filters-within);
      kinds = λ i l. rw p.1 (p.0.kinds i l);
    }
