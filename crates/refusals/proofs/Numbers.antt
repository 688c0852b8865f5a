-- A refusal's number is a small one, and the numbers that it carries are read back from the one that they make. Assumes nothing.
use Prim.Native.Nat.{ℕ, zero, suc, ◌+◌, ◌*◌, ◌/◌, ◌%◌, ◌<◌}
use mathlib.Core.Path.{◌≡◌, refl}
use mathlib.Core.Bool.{true}
use mathlib.Core.List.{List, [], ◌∷◌, ◌++◌}
use lib.Dec.{T}
use lib.ListN.{length}
use native.Mathlib.Omega.{arith}
use Rattle.refusals.specs.Table.{number_of, carried_of, in_one}
use Rattle.refusals.specs.declared.Refusal.{Refusal}
use Rattle.refusals.specs.declared.Refusal.TheVariants.{IdentifierAboveLimit, InvalidDataLength, NonCompliantDlc, PatternLength, PatternByte, OutputTooShort, FilterKind, DrainRuns, NoDrainRuns, BrokenState, FileEnds, CountAboveLimit, BytesAfterEnd, WrongLength, EmptyList, EntryAboveLimit}

pub number_small : (f : Refusal) → number_of f < 256
number_small IdentifierAboveLimit = omega arith
number_small (InvalidDataLength n) = omega arith
number_small (NonCompliantDlc n) = omega arith
number_small (PatternLength n) = omega arith
number_small (PatternByte n m b) = omega arith
number_small (OutputTooShort n) = omega arith
number_small (FilterKind n) = omega arith
number_small DrainRuns = omega arith
number_small NoDrainRuns = omega arith
number_small BrokenState = omega arith
number_small (FileEnds n) = omega arith
number_small (CountAboveLimit n) = omega arith
number_small (BytesAfterEnd n) = omega arith
number_small (WrongLength n) = omega arith
number_small EmptyList = omega arith
number_small (EntryAboveLimit n) = omega arith

-- so many numbers out of one
pub out_of : ℕ → ℕ → List ℕ
out_of zero v = []
out_of (suc zero) v = v ∷ []
out_of (suc (suc n)) v = out_of (suc n) (v / 256) ++ (v % 256 ∷ [])

-- the numbers behind the first fit a byte each: in the code they are bytes
abbrev pub Bytes : List ℕ → Type 0
Bytes [] = T true
Bytes (n ∷ numbers) = (n < 256) × Bytes numbers

abbrev pub Fits : List ℕ → Type 0
Fits [] = T true
Fits (n ∷ numbers) = Bytes numbers

three_back : (field place byte : ℕ) → place < 256 → byte < 256 → out_of 3 (in_one (field ∷ place ∷ byte ∷ [])) ≡ field ∷ place ∷ byte ∷ []
unfolding out_of
three_back field place byte hp hb =
    let v = (field * 256 + place) * 256 + byte in
    let a : v / 256 / 256 ≡ field = omega arith in
    let b : v / 256 % 256 ≡ place = omega arith in
    let c : v % 256 ≡ byte = omega arith in
    rw (a, b, c)

pub carried-back : (f : Refusal) → Fits (carried_of f) → out_of (length (carried_of f)) (in_one (carried_of f)) ≡ carried_of f
unfolding out_of
carried-back IdentifierAboveLimit h = refl
carried-back (InvalidDataLength n) h = refl
carried-back (NonCompliantDlc n) h = refl
carried-back (PatternLength n) h = refl
carried-back (PatternByte n m b) h = three_back n m b h.0 h.1.0
carried-back (OutputTooShort n) h = refl
carried-back (FilterKind n) h = refl
carried-back DrainRuns h = refl
carried-back NoDrainRuns h = refl
carried-back BrokenState h = refl
carried-back (FileEnds n) h = refl
carried-back (CountAboveLimit n) h = refl
carried-back (BytesAfterEnd n) h = refl
carried-back (WrongLength n) h = refl
carried-back EmptyList h = refl
carried-back (EntryAboveLimit n) h = refl
