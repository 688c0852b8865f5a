-- The buffer's parts: what data laid into an empty buffer make of it, and the identifier's bytes.
-- Assumes nothing.
use Prim.Native.Nat.{ℕ, zero, suc, ◌+◌, ◌-◌, ◌*◌, ◌/◌, ◌%◌, ◌≤◌}
use mathlib.Core.Path.{◌≡◌, ap, ap₂, ◌∙◌}
use mathlib.Core.Bool.{Bool, true, false}
use mathlib.Core.List.{List, [], ◌∷◌, ◌++◌}
use lib.ListN.{length-replicate, length, drop, replicate}
use lib.Seq.{take_at, drop_at, drop-nil}
use native.Mathlib.Nat.{add-zero, zero-sub, suc-sub-suc, sub-zero}
use native.Mathlib.Omega.{arith}
use Rattle.laws.specs.Row.{pack, bytes}
use Rattle.laws.specs.Laid.{laid}
use Rattle.laws.proofs.Row.{unpack-length}
use Rattle.frame_info.specs.Info.{id_bytes, data_start}
use Rattle.frame_reading.specs.Buffer.{Frame, id_row}
use Rattle.frame_building.specs.Buffer.{info_byte, id_bytes_of, buffer_of}

drop-zeros : (n k : ℕ) → drop k (replicate n zero) ≡ replicate (n - k) zero
drop-zeros zero k = rw (drop-nil k, zero-sub k)
drop-zeros (suc n) zero = rw sub-zero
drop-zeros (suc n) (suc k) = rw suc-sub-suc (drop-zeros n k)

-- data laid behind the first bytes of a buffer that is zero from there on
laid-behind : (front payload : List ℕ) (n room : ℕ) → length front ≡ n
    → laid n payload (front ++ replicate room 0) ≡ front ++ (payload ++ replicate (room - length payload) 0)
laid-behind front payload n room h =
    ap₂ (λ (x y : List ℕ). x ++ (payload ++ drop (length payload) y)) (take_at front (replicate room 0) n h) (drop_at front (replicate room 0) n h)
    ∙ ap (λ (l : List ℕ). front ++ (payload ++ l)) (drop-zeros room (length payload))

pub ids-length : (format : Bool) (id : ℕ) → length (id_bytes_of format id) ≡ id_bytes format
ids-length format id = unpack-length (bytes (id_bytes format)) (pack (id_row format) (id ∷ 0 ∷ [])) ∙ length-replicate (id_bytes format) 8

-- a frame without data
abbrev pub emptied : Frame → Frame
emptied f =
    record { extended = f.extended; remote = f.remote; own = f.own; code = f.code; id = f.id; payload = [] }

-- its buffer, spelt out
pub fronted : (f : Frame) (first : ℕ) (ids : List ℕ) → first ≡ info_byte f.extended f.remote f.own f.code
    → ids ≡ id_bytes_of f.extended f.id → first ∷ (ids ++ replicate (13 - data_start f.extended) 0) ≡ buffer_of (emptied f)
unfolding buffer_of
fronted f first ids byte same = rw (byte, same, add-zero (data_start f.extended))

-- a frame's data laid into the buffer without data are its buffer
pub filled : (f : Frame) → laid (data_start f.extended) f.payload (buffer_of (emptied f)) ≡ buffer_of f
unfolding buffer_of
filled f =
    let start = data_start f.extended in
    let front_length : length (info_byte f.extended f.remote f.own f.code ∷ id_bytes_of f.extended f.id) ≡ start =
    rw (ids-length f.extended f.id) (omega arith) in
    let rest : 13 - (start + 0) - length f.payload ≡ 13 - (start + length f.payload) = omega arith in
    laid-behind (info_byte f.extended f.remote f.own f.code ∷ id_bytes_of f.extended f.id) f.payload start (13 - (start + 0))
    front_length
    ∙ rw rest

-- an identifier's word, the high byte first
pub standard-bytes : (raw : ℕ) → raw ≤ 0x7FF → raw * 32 / 256 % 256 ∷ raw * 32 % 256 ∷ [] ≡ id_bytes_of false raw
standard-bytes raw small =
    let first : raw * 32 / 256 % 256 ≡ (raw * 32 + 0) / 256 = omega arith in
    let second : raw * 32 % 256 ≡ (raw * 32 + 0) % 256 / 1 = omega arith in
    cc

pub extended-bytes : (raw : ℕ) → raw ≤ 0x1FFF_FFFF
    → raw * 8 / 0x100_0000 % 256 ∷ raw * 8 / 0x1_0000 % 256 ∷ raw * 8 / 0x100 % 256 ∷ raw * 8 % 256 ∷ [] ≡ id_bytes_of true raw
extended-bytes raw small =
    let word : ℕ = raw * 8 + 0 in
    let first : raw * 8 / 0x100_0000 % 256 ≡ word / 0x100_0000 = omega arith in
    let second : raw * 8 / 0x1_0000 % 256 ≡ word % 0x100_0000 / 0x1_0000 = omega arith in
    let third : raw * 8 / 0x100 % 256 ≡ word % 0x100_0000 % 0x1_0000 / 0x100 = omega arith in
    let fourth : raw * 8 % 256 ≡ word % 0x100_0000 % 0x1_0000 % 0x100 / 1 = omega arith in
    cc
