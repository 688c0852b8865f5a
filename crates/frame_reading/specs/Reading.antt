-- What reading the identifier answers: its format and its number.
-- Source: the outline, "Frame buffer".
use Rattle.std.specs.Prelude.{ℕ, Bool, List}
use Rattle.identifiers.specs.Limits.{is_extended, raw_of}
use Rattle.identifiers.specs.declared.Id.{Id}
use Rattle.frame_info.specs.Info.{extended_of}
use Rattle.frame_reading.specs.Buffer.{id_of}

abbrev pub id_said : Id → Bool × ℕ
id_said id = (is_extended id, raw_of id)

unfoldable pub identifier_of : List ℕ → Bool × ℕ
identifier_of b = (extended_of b, id_of b)
