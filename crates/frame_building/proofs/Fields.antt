-- What stands in the fields of a built buffer. Assumes nothing.
use Prim.Native.Nat.{ℕ, ◌+◌, ◌-◌, ◌^◌, ◌≤◌, ◌<◌, min}
use mathlib.Core.Path.{◌≡◌, refl, ap, sym, ◌∙◌}
use mathlib.Core.Bool.{Bool, true, false, cond}
use mathlib.Core.List.{List, [], ◌∷◌, ◌++◌}
use lib.Dec.{eqb, ltb}
use lib.ListN.{length, get_or, drop, replicate, length-append}
use lib.Seq.{take_at, drop_at, take-append_seam, drop-append_seam, drop-drop}
use native.Mathlib.Omega.{arith}
use borrow.Author.Tests.{ltb-true, ltb-false}
use Rattle.laws.specs.Row.{regroup, bytes, bit, Fit, none, field}
use Rattle.laws.specs.Tabulate.{part}
use Rattle.laws.proofs.Row.{unpack-pack, regroup-back}
use Rattle.laws.proofs.Tabulate.{part-is}
use Rattle.identifiers.specs.Limits.{limit_of}
use Rattle.frame_info.specs.Info.{id_bytes, data_start, info_of, extended_of, remote_of, own_of, code_of, data_length_of}
use Rattle.frame_reading.specs.Buffer.{Frame, id_row, id_fields, id_in, id_of, data_of}
use Rattle.frame_reading.proofs.Reading.{row-width}
use Rattle.frame_building.specs.Buffer.{id_bytes_of, buffer_of}
use Rattle.frame_building.specs.Good.{Good}
use Rattle.frame_building.proofs.Buffer.{ids-length}

bit_below : (b : Bool) → bit b < 2 ^ 1
bit_below false = omega arith
bit_below true = omega arith

pub bit-read : (b : Bool) → eqb (bit b) 1 ≡ b
bit-read false = refl
bit-read true = refl

-- an identifier within its limit fits its field
pub id-fits : (format : Bool) (id : ℕ) → id ≤ limit_of format → Fit (id_row format) (id ∷ 0 ∷ [])
id-fits false id h = field 11 id (omega arith) (field 5 0 (omega arith) none)
id-fits true id h = field 29 id (omega arith) (field 3 0 (omega arith) none)

-- the data length that an accepted code gives
coded-length : (remote : Bool) (code n : ℕ) → n ≤ 8 → (remote ≡ true → n ≡ 0) → (remote ≡ false → n < 8 → code ≡ n)
    → (remote ≡ false → n ≡ 8 → 8 ≤ code) → cond remote 0 (min code 8) ≡ n
coded-length true code n short empty equal full = sym (empty refl)
coded-length false code n short empty equal full = by (ltb n 8) refl
  where
    full-length : (m : ℕ) → m ≤ 8 → 8 ≤ m → m ≡ 8
    full-length m p q = omega arith

    by : (less : Bool) → ltb n 8 ≡ less → min code 8 ≡ n
    by true e = let h : n < 8 = ltb-true n 8 e in omega (arith, equal refl h)
    by false e = let h : n ≡ 8 = full-length n short (ltb-false n 8 e) in omega (arith, full refl h)

module _ (most : ℕ) (f : Frame) (good : Good most f) where
  pub built-info : info_of (buffer_of f) ≡ bit f.extended ∷ bit f.remote ∷ 0 ∷ bit f.own ∷ f.code ∷ []
  unfolding buffer_of
  built-info =
      unpack-pack
      (field 1 _ (bit_below f.extended)
      (field 1 _ (bit_below f.remote)
      (field 1 0 (omega arith)
      (field 1 _ (bit_below f.own)
      (field 4 f.code (omega (arith, good.coded)) none)))))

  pub built-extended : extended_of (buffer_of f) ≡ f.extended
  built-extended = ap (λ (l : List ℕ). eqb (get_or l 0 0) 1) built-info ∙ bit-read f.extended

  pub built-remote : remote_of (buffer_of f) ≡ f.remote
  built-remote = ap (λ (l : List ℕ). eqb (get_or l 1 0) 1) built-info ∙ bit-read f.remote

  pub built-own : own_of (buffer_of f) ≡ f.own
  built-own = ap (λ (l : List ℕ). eqb (get_or l 3 0) 1) built-info ∙ bit-read f.own

  pub built-code : code_of (buffer_of f) ≡ f.code
  built-code = ap (λ (l : List ℕ). get_or l 4 0) built-info

  -- the identifier's bytes, and then the data
  ids : List ℕ
  ids = id_bytes_of f.extended f.id

  rest : List ℕ
  rest = f.payload ++ replicate (13 - (data_start f.extended + length f.payload)) 0

  long : length ids ≡ id_bytes f.extended
  unfolding ids
  long = ids-length f.extended f.id

  ids-part : part (buffer_of f) 1 (id_bytes f.extended) ≡ ids
  unfolding buffer_of ids rest
  ids-part =
      sym (part-is (id_bytes f.extended) 1 (buffer_of f) (simp length-append (omega (arith, long))))
      ∙ take_at ids rest (id_bytes f.extended) long

  pub built-fields : id_fields f.extended (buffer_of f) ≡ f.id ∷ 0 ∷ []
  unfolding ids
  built-fields =
      ap (regroup (bytes (id_bytes f.extended)) (id_row f.extended)) ids-part
      ∙ regroup-back (id_row f.extended) (bytes (id_bytes f.extended)) (f.id ∷ 0 ∷ []) (row-width f.extended)
      (id-fits f.extended f.id good.within)

  pub built-length : data_length_of (buffer_of f) ≡ length f.payload
  unfolding data_length_of
  built-length =
      rw (built-remote, built-code)
      (coded-length f.remote f.code (length f.payload) good.short good.empty good.equal good.full)

  behind : drop (data_start f.extended) (buffer_of f) ≡ rest
  unfolding buffer_of ids rest
  behind = sym (drop-drop (id_bytes f.extended) 1 (buffer_of f)) ∙ drop_at ids rest (id_bytes f.extended) long

  pub built-data : data_of (buffer_of f) ≡ f.payload
  unfolding data_of rest
  built-data = rw (built-length, built-extended, behind) (take-append_seam f.payload _)

  pub built-id : id_of (buffer_of f) ≡ f.id
  built-id = ap (λ (e : Bool). id_in e (buffer_of f)) built-extended ∙ ap (λ (l : List ℕ). get_or l 0 0) built-fields

  pub built-spare : get_or (id_fields (extended_of (buffer_of f)) (buffer_of f)) 1 0 ≡ 0
  built-spare = ap (λ (e : Bool). get_or (id_fields e (buffer_of f)) 1 0) built-extended ∙ ap (λ (l : List ℕ). get_or l 1 0) built-fields

  pub built-rest : drop (data_start f.extended + length f.payload) (buffer_of f) ≡ replicate (13 - (data_start f.extended + length f.payload)) 0
  unfolding rest
  built-rest =
      sym (drop-drop (length f.payload) (data_start f.extended) (buffer_of f))
      ∙ (ap (drop (length f.payload)) behind ∙ drop-append_seam f.payload _)
