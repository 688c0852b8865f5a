-- A list from a place on. Assumes nothing.
use Prim.Native.Nat.{ℕ, ◌+◌, ◌≤◌, ◌<◌}
use mathlib.Core.Path.{◌≡◌, sym, ap, ◌∙◌}
use mathlib.Core.List.{List, [], ◌∷◌}
use lib.ListN.{length, get_or, drop, drop_of_length-le}
use lib.Seq.{drop-cons}
use native.Mathlib.Numerals.{add-one}

pub at_place : (list : List ℕ) (i : ℕ) → i < length list → drop i list ≡ get_or list i 0 ∷ drop (i + 1) list
at_place list i h = drop-cons list i 0 h ∙ ap (λ (n : ℕ). get_or list i 0 ∷ drop n list) (sym (add-one i))

pub past_end : (list : List ℕ) (i : ℕ) → length list ≤ i → drop i list ≡ []
past_end list i h = drop_of_length-le list {i = i} h
