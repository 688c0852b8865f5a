-- A list by its places.
use Rattle.std.specs.Prelude.{ℕ, zero, suc, ◌+◌, ◌<◌, List, [], ◌∷◌, get_or}

-- f 0, f 1, .. f (n - 1)
abbrev pub tabulate {ℓ} : {A : Type ℓ} → ℕ → (ℕ → A) → List A
tabulate zero f = []
tabulate (suc n) f = f 0 ∷ tabulate n (λ i. f (suc i))

-- the n numbers from a place on, 0 past the end
abbrev pub part : List ℕ → ℕ → ℕ → List ℕ
part l at n = tabulate n (λ i. get_or l (at + i) 0)

-- each number is a byte
abbrev pub Bytes : List ℕ → Type 0
Bytes l = (i : ℕ) → get_or l i 0 < 256
