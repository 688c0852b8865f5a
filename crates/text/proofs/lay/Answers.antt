-- `text::lay` meets its contract: the text fits and is put, or the place behind it tells that it does not. Assumes nothing.
use Prim.Native.Nat.{ℕ}
use mathlib.Core.Path.{◌≡◌, refl, sym, ◌∙◌}
use mathlib.Core.Bool.{Bool, true, false}
use mathlib.Core.List.{List}
use lib.Dec.{leb}
use lib.ListN.{length}
use native.Mathlib.Nat.{zero-add}
use native.Mathlib.Omega.{arith}
use borrow.Author.Tests.{le-leb, lt-leb, leb-true, leb-false}
use Rattle.laws.specs.Laid.{laying, written}
use Rattle.text.specs.Put.{place_behind, put_at}
use Rattle.text.proofs.Put.{put-short, place-put}
use Rattle.text.proofs.lay.Goals as goal

-- a text fits where the place behind it is as far as it is long
module _ (text out : List ℕ) (r : ℕ) (place : r ≡ place_behind 0 text out) where
  told-by : (fits : Bool) → leb (length text) (length out) ≡ fits → leb (length text) (length out) ≡ leb (length text) r
  told-by true e = e ∙ sym (le-leb (length text) r (omega (arith, place-put 0 r text out place (omega (arith, leb-true (length text) (length out) e)))))
  told-by false e =
      let short = leb-false (length text) (length out) e in
      e ∙ sym (lt-leb (length text) r (omega (arith, short, place, (put-short 0 text out (omega arith)).0)))

  told : leb (length text) (length out) ≡ leb (length text) r
  told = told-by (leb (length text) (length out)) refl

pub returns-then-put_text-length : goal.returns-then-put_text-length
unfolding laying written put_at
returns-then-put_text-length c =
    let put = c.put_text in
    let short = told _ _ _ put.ensures.value ∙ lt-leb _ _ c.if-put_text-length.true in
    record { result_value = rw short; out_after = put.ensures.out_after ∙ rw (zero-add, short) }

pub returns : goal.returns
unfolding laying written put_at
returns c =
    let put = c.put_text in
    let fits = told _ _ _ put.ensures.value ∙ le-leb _ _ c.if-put_text-length.false in
    record { result_value = rw fits; out_after = put.ensures.out_after ∙ rw (zero-add, fits) }
