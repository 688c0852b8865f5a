-- `box_records::Record::same` meets its contract: the derived equality is the definition, kind by kind. Assumes nothing.
use Rattle.std.proofs.Common.{◌≡◌, ◌∙◌, refl}
use Rattle.box_records.specs.declared.RecordError.TheVariants.{Overrun, BusOff}
use Rattle.box_records.specs.declared.RecordKind.{RecordKind}
use Rattle.box_records.specs.declared.RecordKind.TheVariants.{Frame, Error}
use Rattle.box_records.specs.contracts.RecordKindPartialEq.TheImpl as kinds
use Rattle.box_records.specs.Same.{same_kind}
use Rattle.box_records.proofs.Same.{same-pointwise}
use Rattle.box_records.proofs.Record.same.Goals as goal

derived-kind : (j k : RecordKind) → kinds.ghosts.eq j k ≡ same_kind j k
derived-kind Frame Frame = refl
derived-kind Frame (Error g) = refl
derived-kind (Error f) Frame = refl
derived-kind (Error Overrun) (Error Overrun) = refl
derived-kind (Error Overrun) (Error BusOff) = refl
derived-kind (Error BusOff) (Error Overrun) = refl
derived-kind (Error BusOff) (Error BusOff) = refl

pub returns : goal.returns
returns c = c.eq.ensures ∙ rw (same-pointwise c.args.self.bytes c.args.other.bytes, derived-kind c.args.self.kind c.args.other.kind) refl
