-- Why a file is refused, in words with the numbers at hand; nothing where it is accepted.
-- Source: the outline, "Frame file and program" and refusals 7, 11, 12, 13.
use Rattle.std.specs.Prelude.{ℕ, cond, List, [], ◌++◌, eqb, length, get_or}
use Rattle.laws.specs.Ascii.{ascii}
use Rattle.laws.specs.Said.{Said, refuses, gives}
use Rattle.refusals.specs.Table.{in_one}
use Rattle.text.specs.Decimal.{decimal}
use Rattle.file_reading.specs.Format.{filter_limit, frame_limit, count_at}
use Rattle.file_reading.specs.declared.Sections.{Sections}
use Rattle.file_reading.specs.Reader.{read_of}

-- a number between two texts
unfoldable pub around : List ℕ → ℕ → List ℕ → List ℕ
around before n behind = before ++ (decimal n ++ behind)

-- a count above its limit: of filters, which stands first, or of frames
unfoldable pub count_words : List ℕ → ℕ → List ℕ
count_words s at =
    cond (eqb at 0)
    (around [] (get_or s 0 0) (around (ascii " filters announced, at most ") filter_limit (ascii "; is this a frame file?\n")))
    (around [] (count_at s at) (around (ascii " frames announced, at most ") frame_limit (ascii "\n")))

-- by the reader's number and its place; the last is 13, since the reader has no other (proofs/Refused)
unfoldable pub refusal_words : List ℕ → ℕ → ℕ → List ℕ
refusal_words s number at =
    cond (eqb number 7)
    (around (ascii "the filter at byte ") at (around (ascii " is of kind ") (get_or s at 0) (ascii "; a kind is 0 (single) or 1 (dual)\n")))
    (cond (eqb number 11)
    (around (ascii "the file's length is ") (length s) (around (ascii ", too short for the field that begins at byte ") at (ascii "\n")))
    (cond (eqb number 12) (count_words s at)
    (around (ascii "by its counts the file has ") at (ascii " bytes, but more follow\n"))))

abbrev pub read_words : List ℕ → Said Sections → List ℕ
read_words s (gives sections) = []
read_words s (refuses number carried) = refusal_words s number (in_one carried)

unfoldable pub words_of : List ℕ → List ℕ
words_of s = read_words s (read_of s)
