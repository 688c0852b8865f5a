-- `filter_report::pieces::put_hex` meets its contract: at each turn one byte more stands behind the others. Assumes nothing.
use Rattle.std.proofs.Common.{◌≡◌, ◌++◌, take}
use Rattle.filter_report.specs.Hex.{hex_of}
use Rattle.filter_report.proofs.pieces.put_hex.Given as goal

abbrev pub invariant-loop-byte : goal.invariant-loop-byte
invariant-loop-byte l = l.page ≡ l.initial.page ++ hex_of (take l.byte-index l.bytes)
