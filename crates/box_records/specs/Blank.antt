-- The blank record.
-- Source: the outline, "The box": a take answers the oldest record, or that there is none.
use Rattle.std.specs.Prelude.{replicate}
use Rattle.box_records.specs.declared.RecordKind.TheVariants.{Frame}
use Rattle.box_records.specs.declared.Record.{Record}

-- what stands where no record is told
abbrev pub blank : Record
blank = record { kind = Frame; bytes = replicate 13 0 }
