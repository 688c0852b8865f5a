-- What is built, in whatever way, reads back the same; all else in a built buffer is zero; and a buffer with all else zero is made again from what
-- is read of it. The rows of fields leave no bit out and share none, so each way is the laws of rows. Assumes nothing.
use Prim.Native.Nat.{ℕ, ◌+◌, ◌-◌, ◌/◌, ◌%◌, ◌≤◌, ◌<◌, min}
use mathlib.Core.Path.{◌≡◌, refl, ap, sym, ◌∙◌}
use mathlib.Core.Bool.{Bool, true, false, cond, true≢false}
use mathlib.Core.List.{List, [], ◌∷◌, ◌++◌}
use lib.Dec.{eqb}
use lib.ListN.{length, get_or, drop, replicate, length-drop, take-append-drop}
use lib.Seq.{length-take-le, drop-cons, drop-drop}
use native.Mathlib.Omega.{arith}
use borrow.Author.Tests.{eqb-true, eqb-false}
use Rattle.laws.specs.Said.{gives}
use Rattle.laws.specs.Row.{pack, regroup, bit, bytes}
use Rattle.laws.specs.Tabulate.{part, Bytes}
use Rattle.laws.proofs.Row.{pack-unpack, regroup-back}
use Rattle.laws.proofs.Tabulate.{part-is}
use Rattle.frame_info.specs.Info.{info_row, id_bytes, info_of, extended_of, remote_of, own_of, code_of, data_length_of, data_offset_of}
use Rattle.frame_reading.specs.Buffer.{Frame, id_row, frame_of, id_fields, id_of, data_of}
use Rattle.frame_info.proofs.Info.{start-bound, data-bound, used-bound}
use Rattle.frame_reading.proofs.Reading.{row-width, two_fields, bytes-row-fit, id-within}
use Rattle.frame_building.specs.Buffer.{info_byte, id_bytes_of, buffer_of}
use Rattle.frame_building.specs.Building.{build_by}
use Rattle.frame_building.specs.Good.{Good}
use Rattle.frame_building.specs.Clean.{Clean}
use Rattle.frame_building.proofs.Judged.{accepted-build}
use Rattle.frame_building.proofs.Fields.{built-info, built-extended, built-remote, built-own, built-code, built-id, built-spare, built-length, built-data, built-rest}

same-frame : (f g : Frame) → f.extended ≡ g.extended → f.remote ≡ g.remote → f.own ≡ g.own → f.code ≡ g.code → f.id ≡ g.id
    → f.payload ≡ g.payload → f ≡ g
same-frame f g a b c d e h =
    rw (a, b, c, d, e, h)

-- ---- what a way of building makes, by its largest remote code
module _ (most : ℕ) (f : Frame) (good : Good most f) where
  pub reads-back : frame_of (buffer_of f) ≡ f
  reads-back =
      same-frame (frame_of (buffer_of f)) f (built-extended most f good) (built-remote most f good) (built-own most f good) (built-code most f good)
      (built-id most f good) (built-data most f good)

  pub built-again : build_by most (frame_of (buffer_of f)) ≡ (gives 13, buffer_of f)
  built-again = ap (build_by most) reads-back ∙ accepted-build most f good

  pub built-clean : Clean most (buffer_of f)
  built-clean =
      record {
        reserved-bit = ap (λ (l : List ℕ). get_or l 2 0) (built-info most f good);
        spare-bits = built-spare most f good;
        after-data = rw (built-length most f good, built-extended most f good) (built-rest most f good);
        remote-code = λ r. rw (built-code most f good) (good.request (sym (built-remote most f good) ∙ r));
      }

read-bit : (x : ℕ) → x < 2 → bit (eqb x 1) ≡ x
read-bit x h = by (eqb x 1) refl
  where
    zero_is : (n : ℕ) → n < 2 → (n ≡ 1 → ⊥) → 0 ≡ n
    zero_is n p q = omega arith

    by : (one : Bool) → eqb x 1 ≡ one → bit (eqb x 1) ≡ x
    by true e = rw e (sym (eqb-true x 1 e))
    by false e = rw e (zero_is x h (eqb-false x 1 e))

-- of a data frame a code below 8 tells the length
length-code : (remote : Bool) (code : ℕ) → remote ≡ false → cond remote 0 (min code 8) < 8 → code ≡ cond remote 0 (min code 8)
length-code false code d h = omega arith
length-code true code d h = absurd (true≢false d)

length-full : (remote : Bool) (code : ℕ) → cond remote 0 (min code 8) ≡ 8 → 8 ≤ code
length-full false code h = omega arith
length-full true code h = omega arith

module _ (most : ℕ) (b : List ℕ) (long : length b ≡ 13) (small : Bytes b) (clean : Clean most b) where
  head : info_byte (extended_of b) (remote_of b) (own_of b) (code_of b) ≡ get_or b 0 0
  head =
      let n : ℕ = get_or b 0 0 in
      let byte : n < 256 = small 0 in
      let reserved : n % 128 % 64 / 32 ≡ 0 = clean.reserved-bit in
      let info : bit (extended_of b) ∷ bit (remote_of b) ∷ 0 ∷ bit (own_of b) ∷ code_of b ∷ [] ≡ info_of b =
      rw (read-bit (n / 128) (omega arith), read-bit (n % 128 / 64) (omega arith), read-bit (n % 128 % 64 % 32 / 16) (omega arith), reserved) in
      ap (pack info_row) info ∙ pack-unpack info_row n byte

  fields : id_fields (extended_of b) b ≡ id_of b ∷ 0 ∷ []
  fields = two_fields (extended_of b) b ∙ ap (λ (x : ℕ). id_of b ∷ x ∷ []) clean.spare-bits

  ids : id_bytes_of (extended_of b) (id_of b) ≡ part b 1 (id_bytes (extended_of b))
  ids =
      ap (regroup (id_row (extended_of b)) (bytes (id_bytes (extended_of b)))) (sym fields)
      ∙ regroup-back (bytes (id_bytes (extended_of b))) (id_row (extended_of b)) (part b 1 (id_bytes (extended_of b))) (sym (row-width (extended_of b)))
      (bytes-row-fit (extended_of b) b small)

  data-length : length (data_of b) ≡ data_length_of b
  unfolding data_of
  data-length = length-take-le (data_length_of b) (drop (data_offset_of b) b) (simp length-drop (omega (arith, used-bound b)))

  clean-good : Good most (frame_of b)
  unfolding data_length_of
  clean-good =
      record {
        within = id-within (extended_of b) b small;
        short = rw data-length (data-bound b);
        coded = omega (arith, small 0);
        empty = λ r. data-length ∙ rw r;
        request = clean.remote-code;
        equal = λ d. rw data-length (length-code (remote_of b) (code_of b) d);
        full = λ d. rw data-length (length-full (remote_of b) (code_of b));
      }

  behind : data_of b ++ replicate (13 - (data_offset_of b + length (data_of b))) 0 ≡ drop (data_offset_of b) b
  unfolding data_of
  behind =
      rw (data-length, ← clean.after-data, ← drop-drop (data_length_of b) (data_offset_of b) b)
      (take-append-drop (data_length_of b) (drop (data_offset_of b) b))

  front : get_or b 0 0 ∷ (part b 1 (id_bytes (extended_of b)) ++ drop (data_offset_of b) b) ≡ b
  front =
      let room : 1 + id_bytes (extended_of b) ≤ length b = omega (arith, start-bound (extended_of b)) in
      rw (← part-is (id_bytes (extended_of b)) 1 b room, ← drop-drop (id_bytes (extended_of b)) 1 b, take-append-drop)
      (sym (drop-cons b 0 0 (omega arith)))

  whole : buffer_of (frame_of b) ≡ b
  unfolding buffer_of
  whole = rw (head, ids, behind) front

  pub made_again : build_by most (frame_of b) ≡ (gives 13, b)
  made_again = accepted-build most (frame_of b) clean-good ∙ ap (λ (l : List ℕ). (gives 13, l)) whole
