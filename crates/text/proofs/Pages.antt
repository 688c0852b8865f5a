-- A page with a text put behind what is written on it: how far it is written, and what. Assumes nothing.
use Rattle.std.proofs.Common.{◌≡◌, ℕ, ◌+◌, ◌≤◌, List, ◌++◌, Bool, true, false, length, take, drop, refl, sym, ap, arith}
use Rattle.std.proofs.lemmas.List.{length-take-le}
use mathlib.Core.Path.{◌∙◌}
use lib.Dec.{leb}
use borrow.Author.Tests.{leb-true, leb-false, le-leb, lt-leb}
use Rattle.std.proofs.Math.Seq.{take-append_seam, take-append-add}
use Rattle.laws.specs.Laid.{laid, laid_first}
use Rattle.text.specs.Put.{place_behind, put_at}
use Rattle.text.specs.Page.{added}

module _ (n used : ℕ) (text bytes : List ℕ) (whole : length bytes ≡ n) (within : used ≤ n) where
  long : length (take used bytes) ≡ used
  long = length-take-le used bytes (omega arith)

  written : take (used + length text) (laid used text bytes) ≡ take used bytes ++ text
  written =
      let behind = take-append-add (take used bytes) (laid_first text (drop used bytes)) (length text) in
      ap (λ m. take (m + length text) (laid used text bytes)) (sym long) ∙ (behind ∙ ap (λ t. take used bytes ++ t) (take-append_seam text (drop (length text) (drop used bytes))))

  within-by : (fits : Bool) (r : ℕ) → leb (used + length text) (length bytes) ≡ fits → r ≡ place_behind used text bytes → r ≤ n
  unfolding place_behind
  within-by true r e h = let fits = leb-true (used + length text) (length bytes) e in let place = rw e at h in omega (arith, place)
  within-by false r e h = let place = rw e at h in omega (arith, place)

  pub page-within : (r : ℕ) → r ≡ place_behind used text bytes → r ≤ n
  page-within r = within-by (leb (used + length text) (length bytes)) r refl

  added-by : (fits : Bool) → leb (used + length text) (length bytes) ≡ fits → take (place_behind used text bytes) (put_at used text bytes) ≡ added n (take used bytes) text
  unfolding place_behind put_at added
  added-by true e =
      let room : leb (length (take used bytes) + length text) n ≡ true = le-leb _ _ (omega (arith, long, leb-true (used + length text) (length bytes) e)) in
      rw (e, room) written
  added-by false e =
      let short : leb (length (take used bytes) + length text) n ≡ false = lt-leb _ _ (omega (arith, long, leb-false (used + length text) (length bytes) e)) in
      rw (e, short) refl

  pub page-added : (r : ℕ) (now : List ℕ) → r ≡ place_behind used text bytes → now ≡ put_at used text bytes → take r now ≡ added n (take used bytes) text
  page-added r now p q = ap (λ m. take m now) p ∙ (ap (λ l. take (place_behind used text bytes) l) q ∙ added-by (leb (used + length text) (length bytes)) refl)

-- a text that has room on a page stands behind all that is written
pub added-fits : (n : ℕ) (page text : List ℕ) → length page + length text ≤ n → added n page text ≡ page ++ text
unfolding added
added-fits n page text room = rw (le-leb (length page + length text) n room) refl
