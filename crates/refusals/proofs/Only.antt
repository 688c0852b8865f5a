-- A refusal is told by its number and what it carries: the outline's table, read backwards, gives it again. Assumes nothing.
use Prim.Native.Nat.{ℕ, ◌-◌}
use mathlib.Core.Path.{◌≡◌, refl}
use mathlib.Core.List.{List, [], ◌∷◌}
use lib.ListN.{get_or}
use Rattle.std.proofs.Common.{Result, Ok, Err, ap}
use Rattle.laws.specs.Said.{Said, refuses, gives}
use Rattle.laws.proofs.Only.{only}
use Rattle.refusals.specs.Table.{number_of, carried_of, refusal_said, answer_said, bytes_said}
use Rattle.refusals.specs.declared.Refusal.{Refusal}
use Rattle.refusals.specs.declared.Refusal.TheVariants.{IdentifierAboveLimit, InvalidDataLength, NonCompliantDlc, PatternLength, PatternByte, OutputTooShort, FilterKind, DrainRuns, NoDrainRuns, BrokenState, FileEnds, CountAboveLimit, BytesAfterEnd, WrongLength, EmptyList, EntryAboveLimit}

-- what is read where the table has no such row
abbrev none : Refusal
none = EmptyList

-- the refusal of a number that carries nothing, and of one that carries numbers
pub refusal_at : ℕ → List ℕ → Refusal
refusal_at k [] =
    get_or
    (IdentifierAboveLimit ∷ none ∷ none ∷ none ∷ none ∷ none ∷ none ∷ DrainRuns ∷ NoDrainRuns ∷ BrokenState ∷ none ∷ none ∷ none ∷ none ∷ EmptyList ∷ [])
    (k - 1)
    none
refusal_at k (n ∷ more) =
    get_or
    (EntryAboveLimit n ∷ InvalidDataLength n ∷ NonCompliantDlc n ∷ PatternLength n ∷ PatternByte n (get_or more 0 0) (get_or more 1 0) ∷ OutputTooShort n ∷ FilterKind n
    ∷ none ∷ none ∷ none ∷ FileEnds n ∷ CountAboveLimit n ∷ BytesAfterEnd n ∷ WrongLength n ∷ [])
    (k - 1)
    none

pub refusal-at : (f : Refusal) → refusal_at (number_of f) (carried_of f) ≡ f
unfolding refusal_at
refusal-at IdentifierAboveLimit = refl
refusal-at (InvalidDataLength n) = refl
refusal-at (NonCompliantDlc n) = refl
refusal-at (PatternLength n) = refl
refusal-at (PatternByte n m b) = refl
refusal-at (OutputTooShort n) = refl
refusal-at (FilterKind n) = refl
refusal-at DrainRuns = refl
refusal-at NoDrainRuns = refl
refusal-at BrokenState = refl
refusal-at (FileEnds n) = refl
refusal-at (CountAboveLimit n) = refl
refusal-at (BytesAfterEnd n) = refl
refusal-at (WrongLength n) = refl
refusal-at EmptyList = refl
refusal-at (EntryAboveLimit n) = refl

back : {A : Type 0} → Said A → Refusal
back (refuses k n) = refusal_at k n
back (gives a) = none

pub only-refusal : (A : Type 0) (f g : Refusal) → refusal_said {A = A} f ≡ refusal_said {A = A} g → f ≡ g
unfolding back
only-refusal A = only refusal_said back refusal-at

-- an answer is told by what is told of its value, where that can be read back, or by its refusal
module _ {A B : Type 0} (told : A → B) (read : B → A) (read-told : (a : A) → read (told a) ≡ a) where
  answer_back : Said B → Result A Refusal
  answer_back (gives b) = Ok (read b)
  answer_back (refuses k n) = Err (refusal_at k n)

  answer-back : (r : Result A Refusal) → answer_back (answer_said told r) ≡ r
  unfolding answer_back
  answer-back (Ok a) = ap Ok (read-told a)
  answer-back (Err f) = ap Err (refusal-at f)

  pub only-answer : (r s : Result A Refusal) → answer_said told r ≡ answer_said told s → r ≡ s
  only-answer = only (answer_said told) answer_back answer-back

-- an answer that comes with bytes likewise
bytes_back : Said ℕ × List ℕ → Result (List ℕ) Refusal
bytes_back (gives n, bytes) = Ok bytes
bytes_back (refuses k n, bytes) = Err (refusal_at k n)

bytes-back : (n : ℕ) (r : Result (List ℕ) Refusal) → bytes_back (bytes_said n r) ≡ r
unfolding bytes_back
bytes-back n (Ok bytes) = refl
bytes-back n (Err f) = ap Err (refusal-at f)

pub only-bytes : (n : ℕ) (r s : Result (List ℕ) Refusal) → bytes_said n r ≡ bytes_said n s → r ≡ s
only-bytes n = only (bytes_said n) bytes_back (bytes-back n)
