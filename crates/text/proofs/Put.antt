-- A text put into an output: laid from the place on where it fits, and all as it was where it does not. Assumes nothing.
use Prim.Native.Nat.{ℕ, ◌+◌, ◌≤◌, ◌<◌}
use mathlib.Core.Path.{◌≡◌}
use mathlib.Core.Bool.{true, false}
use mathlib.Core.List.{List}
use lib.Dec.{leb}
use lib.ListN.{length}
use borrow.Author.Tests.{le-leb, lt-leb}
use Rattle.laws.specs.Laid.{laid}
use Rattle.text.specs.Put.{place_behind, put_at}

module _ (at : ℕ) (text out : List ℕ) where
  pub put-short : length out < at + length text → (at ≡ place_behind at text out) × (out ≡ put_at at text out)
  unfolding place_behind put_at
  put-short h =
      let short : leb (at + length text) (length out) ≡ false = lt-leb (at + length text) (length out) h in
      (rw short, rw short)

  pub put-fits : (r : ℕ) (now : List ℕ) → at + length text ≤ length out → r ≡ at + length text → now ≡ laid at text out
      → (r ≡ place_behind at text out) × (now ≡ put_at at text out)
  unfolding place_behind put_at
  put-fits r now h e p =
      let fits : leb (at + length text) (length out) ≡ true = le-leb (at + length text) (length out) h in
      (rw fits e, rw fits p)

-- what a caller that has room for the text knows
pub place-put : (at r : ℕ) (text out : List ℕ) → r ≡ place_behind at text out → at + length text ≤ length out → r ≡ at + length text
unfolding place_behind
place-put at r text out e h =
    let fits : leb (at + length text) (length out) ≡ true = le-leb (at + length text) (length out) h in
    rw fits at e

pub text-put : (at : ℕ) (text out now : List ℕ) → now ≡ put_at at text out → at + length text ≤ length out → now ≡ laid at text out
unfolding put_at
text-put at text out now e h =
    let fits : leb (at + length text) (length out) ≡ true = le-leb (at + length text) (length out) h in
    rw fits at e
