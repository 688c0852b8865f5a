-- The answers to a list, each from the tests that lead to it, and the pattern's buffer with them. Assumes nothing.
use Prim.Native.Nat.{ℕ, ◌≤◌, ◌<◌}
use mathlib.Core.Path.{◌≡◌, refl, sym, ap, ◌∙◌}
use mathlib.Core.Bool.{Bool}
use mathlib.Core.List.{List, [], ◌∷◌}
use lib.ListN.{length, take, replicate}
use native.Mathlib.Omega.{arith}
use borrow.Author.Tests.{lt-ltb, le-ltb, eq-eqb, ne_eqb}
use Rattle.std.proofs.Common.{Result, Ok, Err}
use Rattle.std.specs.Result.{result_unwrap_or}
use Rattle.laws.specs.Said.{refuses, gives}
use Rattle.laws.specs.Laid.{laid_first, written}
use Rattle.refusals.specs.declared.Refusal.{Refusal}
use Rattle.refusals.specs.Table.{bytes_said}
use Rattle.identifiers.specs.Limits.{width_of, limit_of}
use Rattle.filter_list.specs.Pattern.{character_at, down_from, pattern_of}
use Rattle.filter_list.specs.Answers.{first_above, registers_for, through_of, registers_of_list, listing_of, listed_of, leaves}
use Rattle.filter_list.proofs.Pattern.{down-front, down-same}

module _ (extended : Bool) (list out : List ℕ) where
  -- a refusal: zeros, and the buffer as it was
  refused : (k : ℕ) (n : List ℕ) → listing_of extended list (length out) ≡ refuses k n
      → ((refuses k n, replicate 8 0) ≡ listed_of extended list (length out)) × (out ≡ leaves extended list out)
  unfolding written
  refused k n e = (rw e, rw e)

  is-empty : length list ≡ 0 → listing_of extended list (length out) ≡ refuses 15 []
  unfolding listing_of
  is-empty e = rw (eq-eqb (length list) 0 e)

  pub empty : length list ≡ 0 → ((refuses 15 [], replicate 8 0) ≡ listed_of extended list (length out)) × (out ≡ leaves extended list out)
  empty e = refused 15 [] (is-empty e)

  module _ (some : length list ≡ 0 → ⊥) (limit at : ℕ) (is-limit : limit ≡ limit_of extended) (first : at ≡ first_above limit list) where
    found : first_above (limit_of extended) list ≡ at
    found = sym (first ∙ ap (λ (n : ℕ). first_above n list) is-limit)

    is-above : at < length list → listing_of extended list (length out) ≡ refuses 1 (at ∷ [])
    unfolding listing_of
    is-above h = rw (ne_eqb (length list) 0 some, found, lt-ltb at (length list) h)

    pub above : at < length list → ((refuses 1 (at ∷ []), replicate 8 0) ≡ listed_of extended list (length out)) × (out ≡ leaves extended list out)
    above h = refused 1 (at ∷ []) (is-above h)

    module _ (within : length list ≤ at) (width : ℕ) (is-width : width ≡ width_of extended) where
      is-short : length out < width → listing_of extended list (length out) ≡ refuses 6 (width ∷ [])
      unfolding listing_of
      is-short h = rw (ne_eqb (length list) 0 some, found, le-ltb at (length list) within, sym is-width, lt-ltb (length out) width h)

      pub short : length out < width → ((refuses 6 (width ∷ []), replicate 8 0) ≡ listed_of extended list (length out)) × (out ≡ leaves extended list out)
      short h = refused 6 (width ∷ []) (is-short h)

      is_made : width ≤ length out → listing_of extended list (length out) ≡ gives (through_of extended (registers_of_list extended list))
      unfolding listing_of
      is_made h = rw (ne_eqb (length list) 0 some, found, le-ltb at (length list) within, le-ltb (length out) (width_of extended) (omega arith))

      module _ (f : ℕ → ℕ) (told : (k : ℕ) → f k ≡ character_at list k) (now : List ℕ) (laid : now ≡ laid_first (down_from width f) out) where
        text : down_from width f ≡ pattern_of (width_of extended) list
        unfolding pattern_of
        text = ap (λ (n : ℕ). down_from n f) is-width ∙ down-same (width_of extended) f (character_at list) (λ k h. told k)

        front : take width now ≡ pattern_of (width_of extended) list
        front = down-front width f out now laid ∙ text

        -- the registers of the pattern that is written, and their count
        pub made : (registers : List ℕ) → width ≤ length out → registers ≡ registers_for extended (take width now)
            → ((gives (through_of extended registers), registers) ≡ listed_of extended list (length out)) × (now ≡ leaves extended list out)
        unfolding written
        made registers room e =
            let same : registers ≡ registers_of_list extended list = e ∙ ap (registers_for extended) front in
            (rw (is_made room, same), rw (is_made room) (laid ∙ ap (λ (t : List ℕ). laid_first t out) text))

-- the bytes beside an answer, where zeros stand for none
pub bytes_or_zeros : (n : ℕ) (r : Result (List ℕ) Refusal) → result_unwrap_or r (replicate n 0) ≡ (bytes_said n r).1
bytes_or_zeros n (Ok bytes) = refl
bytes_or_zeros n (Err f) = refl
