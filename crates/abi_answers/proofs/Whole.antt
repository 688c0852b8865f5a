-- What an exported function answers and leaves for a lent slice of the right length, and for any other. Assumes nothing.
use Prim.Native.Nat.{ℕ}
use mathlib.Core.Path.{◌≡◌, ap, sym, ◌∙◌}
use mathlib.Core.List.{List, [], ◌∷◌}
use lib.ListN.{length, replicate, length-replicate}
use native.Mathlib.Omega.{arith}
use borrow.Author.Tests.{eq-eqb, ne_eqb, le-leb}
use Rattle.laws.specs.Said.{Said, refuses}
use Rattle.laws.specs.Laid.{laying, written}
use Rattle.laws.proofs.Copy.{copied-whole}
use Rattle.abi_answers.specs.Answers.{answer_of, sized, delivering, delivery_leaves, laid_into}

pub sized-yes : (n argument : ℕ) (slice : List ℕ) (said : Said ℕ) → length slice ≡ n → sized n argument slice said ≡ said
unfolding sized
sized-yes n argument slice said h = rw (eq-eqb (length slice) n h)

pub sized-no : (n argument : ℕ) (slice : List ℕ) (said : Said ℕ) → (length slice ≡ n → ⊥) → sized n argument slice said ≡ refuses 14 (argument ∷ [])
unfolding sized
sized-no n argument slice said h = rw (ne_eqb (length slice) n h)

-- what is delivered is the answer and its bytes
pub delivered : (n argument : ℕ) (slice : List ℕ) (said a : Said ℕ × List ℕ) → length slice ≡ n → said ≡ a
    → (answer_of said.0 ≡ answer_of (delivering n argument slice a)) × (written said.0 said.1 slice ≡ delivery_leaves n argument slice a)
delivered n argument slice said a h same =
    let due : delivering n argument slice a ≡ a.0 = sized-yes n argument slice a.0 h in (
      ap (λ (p : Said ℕ × List ℕ). answer_of p.0) same ∙ sym (ap answer_of due),
      ap (λ (p : Said ℕ × List ℕ). written p.0 p.1 slice) same ∙ sym (ap (λ (s : Said ℕ). written s a.1 slice) due),
    )

-- a slice of n bytes is laid whole into n zeros
pub laid-whole : (n : ℕ) (slice : List ℕ) → length slice ≡ n → laid_into n slice ≡ slice
unfolding laying written
laid-whole n slice h =
    rw (le-leb (length slice) (length {A = ℕ} (replicate n 0)) (omega (arith, length-replicate {A = ℕ} n 0)))
    (copied-whole slice (replicate n 0) (omega (arith, length-replicate {A = ℕ} n 0)))
