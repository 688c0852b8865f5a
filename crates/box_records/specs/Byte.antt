-- A record's kind as a byte: 0 frame, 1 Overrun, 2 BusOff; any byte above is no kind.
-- Source: docs/ABI.md, "The box's script".
use Rattle.std.specs.Prelude.{ℕ, cond, eqb, leb, Result, Ok, Err}
use Rattle.refusals.specs.declared.Refusal.{Refusal}
use Rattle.refusals.specs.declared.Refusal.TheVariants.{BrokenState}
use Rattle.box_records.specs.declared.RecordError.TheVariants.{Overrun, BusOff}
use Rattle.box_records.specs.declared.RecordKind.{RecordKind}
use Rattle.box_records.specs.declared.RecordKind.TheVariants.{Frame, Error}

abbrev pub kind_byte : RecordKind → ℕ
kind_byte Frame = 0
kind_byte (Error Overrun) = 1
kind_byte (Error BusOff) = 2

-- the largest byte that is a kind
abbrev pub kind_limit : ℕ
kind_limit = 2

-- total, though no byte above the limit is read
abbrev pub kind_of : ℕ → RecordKind
kind_of byte = cond (eqb byte 0) Frame (cond (eqb byte 1) (Error Overrun) (Error BusOff))

abbrev pub kind_read : ℕ → Result RecordKind Refusal
kind_read byte = cond (leb byte kind_limit) (Ok (kind_of byte)) (Err BrokenState)
