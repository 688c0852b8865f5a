-- Building by plain numbers is building by identifiers: a number that makes no identifier is refused by building too.
-- Assumes nothing.
use Prim.Native.Nat.{ℕ, ◌<◌}
use mathlib.Core.Path.{◌≡◌, refl, ap, sym, ◌∙◌}
use mathlib.Core.Bool.{Bool, true, false, cond}
use mathlib.Core.List.{List, [], ◌∷◌}
use lib.Dec.{leb, eqb}
use lib.ListN.{length, replicate}
use native.Mathlib.Omega.{arith}
use borrow.Author.Tests.{lt-leb, leb-false}
use Rattle.std.specs.Prelude.{Ok, Err}
use Rattle.laws.specs.Said.{Said, refuses, gives}
use Rattle.laws.specs.Laid.{written}
use Rattle.refusals.specs.declared.Refusal.{Refusal}
use Rattle.refusals.specs.Table.{refusal_said}
use Rattle.refusals.specs.declared.Refusal.TheVariants.{IdentifierAboveLimit}
use Rattle.identifiers.specs.declared.Id.{Id}
use Rattle.identifiers.specs.Limits.{limit_of, is_extended, raw_of}
use Rattle.identifiers.specs.declared.Id.TheVariants.{Standard, Extended}
use Rattle.frame_reading.specs.Buffer.{Frame}
use Rattle.frame_building.specs.Building.{in_order, non_compliant_by, judge_by, build_by, most_of, build_in, built_over, asked}
use Rattle.frame_building.specs.declared.Way.{Way}
use Rattle.frame_building.proofs.Judged.{way-built}
use Rattle.abi_answers.specs.Answers.{sized, delivery_leaves}
use Rattle.abi_building.specs.Building.{id_from, plain}

above : (wrong_code format : Bool) (id : ℕ) (remote : Bool) (code length : ℕ) → limit_of format < id
    → in_order wrong_code format id remote code length ≡ refuses 1 []
above wrong_code format id remote code length h = rw (lt-leb id (limit_of format) h)

-- an identifier that was made is the format and the number
pub made-id : (extended : Bool) (id : ℕ) (i : Id) → id_from extended id ≡ Ok i → (is_extended i ≡ extended) × (raw_of i ≡ id)
made-id true id i e =
    let same : Extended (record { 0 = id }) ≡ i = cc in
    (sym (ap is_extended same), sym (ap raw_of same))
made-id false id i e = by (leb id 0xFFFF) e
  where
    by : (fits : Bool) → cond fits (Ok (Standard (record { 0 = id }))) (Err IdentifierAboveLimit) ≡ Ok i
        → (is_extended i ≡ false) × (raw_of i ≡ id)
    by true e =
        let same : Standard (record { 0 = id }) ≡ i = cc in
        (sym (ap is_extended same), sym (ap raw_of same))
    by false e = absurd (let z : ◌≡◌ {A = ℕ} 0 1 = cc in omega arith)

-- where none was made, building owes the same refusal
pub no-id : (extended : Bool) (id : ℕ) (r : Refusal) → id_from extended id ≡ Err r
    → (wrong_code remote : Bool) (code length : ℕ) → in_order wrong_code extended id remote code length ≡ refusal_said r
no-id true id r e wrong_code remote code length = absurd (let z : ◌≡◌ {A = ℕ} 0 1 = cc in omega arith)
no-id false id r e wrong_code remote code length = by (leb id 0xFFFF) refl e
  where
    by : (fits : Bool) → leb id 0xFFFF ≡ fits → cond fits (Ok (Standard (record { 0 = id }))) (Err IdentifierAboveLimit) ≡ Err r
        → in_order wrong_code false id remote code length ≡ refusal_said r
    by true small e = absurd (let z : ◌≡◌ {A = ℕ} 0 1 = cc in omega arith)
    by false large e =
        let same : IdentifierAboveLimit ≡ r = cc in
        above wrong_code false id remote code length (omega (arith, leb-false id 0xFFFF large)) ∙ ap refusal_said same

-- the frame that is asked for by an identifier that was made
pub asked-plain : (extended : Bool) (id : ℕ) (i : Id) → id_from extended id ≡ Ok i → (remote own : Bool) (code : ℕ) (payload : List ℕ)
    → asked i remote own code payload ≡ plain extended id remote own code payload
asked-plain extended id i e remote own code payload = rw ((made-id extended id i e).0, (made-id extended id i e).1)

-- and what building owes where none was, in either way
pub none-built : (way : Way) (f : Frame) (r : Refusal) → id_from f.extended f.id ≡ Err r → build_in way f ≡ (refusal_said r, replicate 13 0)
unfolding judge_by build_by
none-built way f r e =
    let wrong = non_compliant_by (most_of way) f.remote f.code (length f.payload) in
    rw (way-built way f, no-id f.extended f.id r e wrong f.remote f.code (length f.payload))

-- a buffer that was built into stands beside the answer as the frame does: after a refusal neither is delivered
pub laid-over : (argument : ℕ) (slice bytes before : List ℕ) (said : Said ℕ) (a : Said ℕ × List ℕ) → said ≡ a.0 → bytes ≡ built_over a before
    → delivery_leaves 13 argument slice (said, bytes) ≡ delivery_leaves 13 argument slice a
unfolding sized written
laid-over argument slice bytes before said (refuses number carried, frame) told laid = rw told (by (eqb (length slice) 13))
  where
    by : (fits : Bool) → written (cond fits (refuses number carried) (refuses 14 (argument ∷ []))) bytes slice
        ≡ written (cond fits (refuses number carried) (refuses 14 (argument ∷ []))) frame slice
    by true = refl
    by false = refl
laid-over argument slice bytes before said (gives n, frame) told laid = rw (told, laid)
