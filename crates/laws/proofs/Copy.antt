-- A copy into the front of a list, one element more at each turn. Assumes nothing.
use Prim.Native.Nat.{ℕ, ◌+◌, ◌≤◌, ◌<◌}
use mathlib.Core.Path.{◌≡◌, ap, ◌∙◌}
use mathlib.Core.List.{List, ◌++◌, append-nil}
use lib.ListN.{length, get_or, set, take, drop, drop_of_length-le}
use lib.Seq.{paste-suc, length-paste}
use native.Mathlib.Nat.{zero-add}
use native.Mathlib.Numerals.{add-one}
use native.Mathlib.Omega.{arith}

pub copied_more : (bytes out : List ℕ) (n : ℕ) → n < length bytes → n < length out
    → set (take n bytes ++ drop n out) n (get_or bytes n 0) ≡ take (n + 1) bytes ++ drop (n + 1) out
copied_more bytes out n h k = rw add-one (simp zero-add at (paste-suc out 0 bytes n 0 (omega arith) h))

pub copied-length : (bytes out : List ℕ) (n : ℕ) → n ≤ length bytes → n ≤ length out → length (take n bytes ++ drop n out) ≡ length out
copied-length bytes out n h k = simp zero-add at (length-paste out 0 bytes n (omega arith) h)

pub copied-whole : (bytes out : List ℕ) → length out ≤ length bytes → bytes ++ drop (length bytes) out ≡ bytes
copied-whole bytes out h = ap (λ (rest : List ℕ). bytes ++ rest) (drop_of_length-le out h) ∙ append-nil bytes
