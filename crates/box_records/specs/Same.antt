-- Two records compared: their kinds, and their bytes one by one.
-- Source: the outline, "The box", state rules: at release the held record is the front's copy.
use Rattle.std.specs.Prelude.{ℕ, Bool, true, false, ◌&&◌, List, [], ◌∷◌, eqb}
use Rattle.box_records.specs.declared.RecordError.{RecordError}
use Rattle.box_records.specs.declared.RecordError.TheVariants.{Overrun, BusOff}
use Rattle.box_records.specs.declared.RecordKind.{RecordKind}
use Rattle.box_records.specs.declared.RecordKind.TheVariants.{Frame, Error}
use Rattle.box_records.specs.declared.Record.{Record}

unfoldable pub same_bytes : List ℕ → List ℕ → Bool
same_bytes [] [] = true
same_bytes [] (y ∷ ys) = false
same_bytes (x ∷ xs) [] = false
same_bytes (x ∷ xs) (y ∷ ys) = eqb x y && same_bytes xs ys

abbrev pub same_error : RecordError → RecordError → Bool
same_error Overrun Overrun = true
same_error Overrun BusOff = false
same_error BusOff Overrun = false
same_error BusOff BusOff = true

abbrev pub same_kind : RecordKind → RecordKind → Bool
same_kind Frame Frame = true
same_kind Frame (Error g) = false
same_kind (Error f) Frame = false
same_kind (Error f) (Error g) = same_error f g

abbrev pub same_record : Record → Record → Bool
same_record a b = same_kind a.kind b.kind && same_bytes a.bytes b.bytes
