-- The outline's whole case, by computation: its text has 19 characters; without its last byte the file is refused. Assumes nothing.
use mathlib.Core.Path.{◌≡◌, refl}
use lib.ListN.{replicate, take}
use Rattle.laws.specs.Ascii.{ascii}
use Rattle.laws.specs.Laid.{laying}
use Rattle.file_reading.specs.Reader.{frames_from, frames_at, filters_from, read_of}
use Rattle.text.specs.Decimal.{digits_of, decimal}
use Rattle.file_report.specs.Text.{bad_text, text_of}
use Rattle.file_report.proofs.Cases.{whole_case, whole-case}
use Rattle.abi_answers.specs.Answers.{answer_of}

-- an output of 18 bytes is one too short
pub report-worked : (answer_of (laying (text_of whole_case) (replicate 19 0)) ≡ record { number = 0; value = 19 })
    × (answer_of (laying (text_of whole_case) (replicate 18 0)) ≡ record { number = 6; value = 19 })
unfolding laying
report-worked = (rw whole-case, rw whole-case)

pub cut-worked : (text_of (take 37 whole_case) ≡ ascii "refused 11 at 25\n")
    × (answer_of (laying (text_of (take 37 whole_case)) (replicate 17 0)) ≡ record { number = 0; value = 17 })
unfolding frames_from frames_at filters_from read_of digits_of decimal bad_text text_of laying
cut-worked = (refl, refl)
