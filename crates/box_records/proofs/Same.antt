-- The comparison of records is the library's of their parts; and it is equality: a record is the same as itself, and what is found the same is equal.
-- Assumes nothing.
use Prim.Native.Nat.{ℕ}
use mathlib.Core.Path.{◌≡◌, refl, sym, ap, ◌∙◌}
use mathlib.Core.Bool.{true}
use mathlib.Core.List.{List, [], ◌∷◌}
use Rattle.std.proofs.Common.{nat_eq}
use Rattle.std.specs.Cmp.Lexicographic.{pointwise, same_text}
use Rattle.std.proofs.lemmas.Cmp.{nat_list_eq_equiv}
use Rattle.laws.proofs.Bools.{both_true}
use Rattle.box_records.specs.declared.RecordError.TheVariants.{Overrun, BusOff}
use Rattle.box_records.specs.declared.RecordKind.{RecordKind}
use Rattle.box_records.specs.declared.RecordKind.TheVariants.{Frame, Error}
use Rattle.box_records.specs.declared.Record.{Record}
use Rattle.box_records.specs.Same.{same_bytes, same_kind, same_record}

-- the library's equality of bytes
pub same-pointwise : (a b : List ℕ) → pointwise nat_eq a b ≡ same_bytes a b
unfolding same_bytes
same-pointwise [] [] = refl
same-pointwise [] (y ∷ ys) = refl
same-pointwise (x ∷ xs) [] = refl
same-pointwise (x ∷ xs) (y ∷ ys) = rw (same-pointwise xs ys) refl

bytes-self : (xs : List ℕ) → same_bytes xs xs ≡ true
bytes-self xs = sym (same-pointwise xs xs) ∙ nat_list_eq_equiv.refl xs

kind-self : (k : RecordKind) → same_kind k k ≡ true
kind-self Frame = refl
kind-self (Error Overrun) = refl
kind-self (Error BusOff) = refl

pub same_self : (r : Record) → same_record r r ≡ true
same_self r = simp (kind-self r.kind, bytes-self r.bytes)

bytes-equal : (xs ys : List ℕ) → same_bytes xs ys ≡ true → xs ≡ ys
bytes-equal xs ys e = same_text xs ys (sym (same-pointwise xs ys ∙ e))

kind-equal : (j k : RecordKind) → same_kind j k ≡ true → j ≡ k
kind-equal Frame Frame e = refl
kind-equal Frame (Error g) e = cc
kind-equal (Error f) Frame e = cc
kind-equal (Error Overrun) (Error Overrun) e = refl
kind-equal (Error Overrun) (Error BusOff) e = cc
kind-equal (Error BusOff) (Error Overrun) e = cc
kind-equal (Error BusOff) (Error BusOff) e = refl

pub same-equal : (r s : Record) → same_record r s ≡ true → r ≡ s
same-equal r s e =
    let h = both_true (same_kind r.kind s.kind) (same_bytes r.bytes s.bytes) e in
    let made : RecordKind → List ℕ → Record = λ k b. record { kind = k; bytes = b } in
    ap (λ (k : RecordKind). made k r.bytes) (kind-equal r.kind s.kind h.0)
    ∙ ap (λ (b : List ℕ). made s.kind b) (bytes-equal r.bytes s.bytes h.1)
