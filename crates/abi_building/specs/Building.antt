-- Building by plain numbers: an identifier is its format and its number, the frame a lent slice that must be 13 bytes long.
-- Source: the outline, "What changes shape"; docs/ABI.md.
use Rattle.std.specs.Prelude.{ℕ, Bool, true, false, cond, List, leb, length, Result, Ok, Err}
use Rattle.laws.specs.Said.{Said}
use Rattle.refusals.specs.declared.Refusal.{Refusal}
use Rattle.refusals.specs.declared.Refusal.TheVariants.{IdentifierAboveLimit}
use Rattle.identifiers.specs.declared.Id.{Id}
use Rattle.identifiers.specs.declared.Id.TheVariants.{Standard, Extended}
use Rattle.frame_reading.specs.Buffer.{Frame}
use Rattle.frame_building.specs.Building.{build_in}
use Rattle.frame_building.specs.declared.Way.{Way}
use Rattle.frame_building.specs.declared.Way.TheVariants.{Rust}
use Rattle.abi_answers.specs.Answers.{delivering, delivery_leaves}

-- the identifier of a format and a number: a standard number that no u16 holds is none
abbrev pub id_from : Bool → ℕ → Result Id Refusal
id_from true raw = Ok (Extended (record { 0 = raw }))
id_from false raw = cond (leb raw 0xFFFF) (Ok (Standard (record { 0 = raw }))) (Err IdentifierAboveLimit)

abbrev pub plain : Bool → ℕ → Bool → Bool → ℕ → List ℕ → Frame
plain extended id remote own code payload =
    record { extended = extended; remote = remote; own = own; code = code; id = id; payload = payload }

abbrev pub plain_data : Bool → ℕ → Bool → List ℕ → Frame
plain_data extended id own payload = plain extended id false own (length payload) payload

-- building, in a way, into a lent frame, whose place among the arguments is given
abbrev pub building_in : Way → ℕ → List ℕ → Frame → Said ℕ
building_in way argument frame f = delivering 13 argument frame (build_in way f)

abbrev pub building_in_leaves : Way → ℕ → List ℕ → Frame → List ℕ
building_in_leaves way argument frame f = delivery_leaves 13 argument frame (build_in way f)

-- in the Rust's way
abbrev pub building : ℕ → List ℕ → Frame → Said ℕ
building = building_in Rust

abbrev pub building_leaves : ℕ → List ℕ → Frame → List ℕ
building_leaves = building_in_leaves Rust
