-- The refusals in the outline's numbers, and the numbers that each carries.
-- Source: the outline, "Refusals by number"; request #102 for 15, and for the index that 1 carries; request #106 for the three numbers of 5.
use Rattle.std.specs.Prelude.{ℕ, ◌+◌, ◌*◌, List, [], ◌∷◌, replicate, Result, Ok, Err}
use Rattle.laws.specs.Said.{Said, refuses, gives}
use Rattle.refusals.specs.declared.Refusal.{Refusal}
use Rattle.refusals.specs.declared.Refusal.TheVariants.{IdentifierAboveLimit, InvalidDataLength, NonCompliantDlc, PatternLength, PatternByte, OutputTooShort, FilterKind, DrainRuns, NoDrainRuns, BrokenState, FileEnds, CountAboveLimit, BytesAfterEnd, WrongLength, EmptyList, EntryAboveLimit}

abbrev pub number_of : Refusal → ℕ
number_of IdentifierAboveLimit = 1
number_of (InvalidDataLength length) = 2
number_of (NonCompliantDlc code) = 3
number_of (PatternLength field) = 4
number_of (PatternByte field place byte) = 5
number_of (OutputTooShort needed) = 6
number_of (FilterKind at) = 7
number_of DrainRuns = 8
number_of NoDrainRuns = 9
number_of BrokenState = 10
number_of (FileEnds offset) = 11
number_of (CountAboveLimit at) = 12
number_of (BytesAfterEnd offset) = 13
number_of (WrongLength at) = 14
number_of EmptyList = 15
number_of (EntryAboveLimit index) = 1

abbrev pub carried_of : Refusal → List ℕ
carried_of IdentifierAboveLimit = []
carried_of (InvalidDataLength length) = length ∷ []
carried_of (NonCompliantDlc code) = code ∷ []
carried_of (PatternLength field) = field ∷ []
carried_of (PatternByte field place byte) = field ∷ place ∷ byte ∷ []
carried_of (OutputTooShort needed) = needed ∷ []
carried_of (FilterKind at) = at ∷ []
carried_of DrainRuns = []
carried_of NoDrainRuns = []
carried_of BrokenState = []
carried_of (FileEnds offset) = offset ∷ []
carried_of (CountAboveLimit at) = at ∷ []
carried_of (BytesAfterEnd offset) = offset ∷ []
carried_of (WrongLength at) = at ∷ []
carried_of EmptyList = []
carried_of (EntryAboveLimit index) = index ∷ []

abbrev pub refusal_said : {A : Type 0} → Refusal → Said A
refusal_said f = refuses (number_of f) (carried_of f)

-- an answer by what is told of its value, or by its refusal
abbrev pub answer_said : {A B : Type 0} → (A → B) → Result A Refusal → Said B
answer_said told (Ok value) = gives (told value)
answer_said told (Err f) = refusal_said f

-- an answer that comes with n bytes: so many are given, and zeros stand beside a refusal
abbrev pub bytes_said : ℕ → Result (List ℕ) Refusal → Said ℕ × List ℕ
bytes_said n (Ok bytes) = (gives n, bytes)
bytes_said n (Err f) = (refusal_said f, replicate n 0)

-- the numbers that a refusal carries in one number, for an answer that has room for one: 0 for none, and each further one in a byte of its own
abbrev pub behind : ℕ → List ℕ → ℕ
behind n [] = n
behind n (m ∷ numbers) = behind (n * 256 + m) numbers

abbrev pub in_one : List ℕ → ℕ
in_one [] = 0
in_one (n ∷ numbers) = behind n numbers
