-- A step's command as a byte: 0 nothing, 1 abort, 2 release.
-- Source: docs/ABI.md, "The box's script".
use Rattle.std.specs.Prelude.{ℕ}
use Rattle.box_drain.specs.declared.Command.{Command}
use Rattle.box_drain.specs.declared.Command.TheVariants as command

abbrev pub command_byte : Command → ℕ
command_byte command.Nothing = 0
command_byte command.Abort = 1
command_byte command.Release = 2
