-- A state's parts, each laid behind the one before it, and its numbers stored one by one. Assumes nothing.
use Prim.Native.Nat.{ℕ, zero, suc, ◌+◌, ◌%◌, ◌^◌, ◌<◌}
use mathlib.Core.Path.{◌≡◌, refl, sym, ap, ◌∙◌}
use mathlib.Core.List.{List, [], ◌∷◌, ◌++◌, append_assoc, append-nil}
use lib.ListN.{length, get_or, set, drop, length-append, drop_of_length-le}
use native.Mathlib.Omega.{arith}
use borrow.Rule.Slice.PartMut.{put_mid}
use Rattle.std.specs.Int.{w32, to_be_bytes}
use Rattle.std.specs.List.{flat_map}
use Rattle.laws.specs.Laid.{laid}
use Rattle.laws.specs.Row.{bytes, unpack}
use Rattle.laws.proofs.Laid.{length-laid, laid_then, set_then}
use Rattle.laws.proofs.Row.{four_bytes}
use Rattle.box_state.specs.declared.ReceiveBox.{ReceiveBox}
use Rattle.box_script.specs.State.{joined, words_bytes, record_bytes, entries_bytes, places_bytes, phase_byte, state_bytes}
use Rattle.box_script.proofs.Run.{part-laid}

-- the texts of a list's places are those of its elements
pub joined-flat : {A : Type 0} (text : A → List ℕ) (d : A) (n : ℕ) (xs : List A) → length xs ≡ n → joined n (λ i. text (get_or xs i d)) ≡ flat_map text xs
joined-flat text d zero [] e = refl
joined-flat text d (suc n) [] e = absurd (omega arith)
joined-flat text d zero (x ∷ xs) e = absurd (omega arith)
joined-flat text d (suc n) (x ∷ xs) e = ap (λ (l : List ℕ). text x ++ l) (joined-flat text d n xs (omega arith))

pub word-told : (n : ℕ) → n < 2 ^ 32 → to_be_bytes w32 n ≡ unpack (bytes 4) n
word-told n h = four_bytes n _ _ _ _ h (omega arith) (omega arith) (omega arith) (omega arith)

-- so many bytes are laid into the front
pub record Laid (n : ℕ) (text out now : List ℕ) : Type 0 where
  pub long : length text ≡ n
  pub is : now ≡ laid 0 text out

pub part-then : (n k : ℕ) (text part out now : List ℕ) → length part ≡ k → Laid n text out now → Laid (n + k) (text ++ part) out (put_mid n k now part)
part-then n k text part out now e so = record {
  long = length-append text part ∙ omega (arith, so.long);
  is = part-laid n k part now e ∙ ap (laid n part) so.is ∙ laid_then n 0 text part out (omega (arith, so.long)) (omega arith);
}

pub byte-then : (n x : ℕ) (text out now : List ℕ) → n < length out → Laid n text out now → Laid (n + 1) (text ++ (x ∷ [])) out (set now n x)
byte-then n x text out now room so = record {
  long = length-append text (x ∷ []) ∙ omega (arith, so.long);
  is = ap (λ (l : List ℕ). set l n x) so.is ∙ set_then n x 0 text out (omega (arith, so.long)) room;
}

pub all-laid : (n : ℕ) (text out now : List ℕ) → length out ≡ n → Laid n text out now → now ≡ text
all-laid n text out now e so = so.is ∙ ap (λ (l : List ℕ). text ++ l) (drop_of_length-le out {i = length text} (omega (arith, so.long))) ∙ append-nil text

-- words, and a state
pub words-laid : (out i e w : List ℕ) → length out ≡ 12 → length i ≡ 4 → length e ≡ 4 → length w ≡ 4
    → put_mid 8 4 (put_mid 4 4 (i ++ drop 4 out) e) w ≡ i ++ (e ++ w)
words-laid out i e w room li le lw =
    let first : Laid 4 i out (i ++ drop 4 out) = record { long = li; is = ap (λ (n : ℕ). i ++ drop n out) (sym li) } in
    all-laid 12 _ out _ room (part-then 8 4 _ w out _ lw (part-then 4 4 _ e out _ le first)) ∙ append_assoc i e w

grouped : (es ps r w : List ℕ) (h c l q k p : ℕ)
    → ((((((((es ++ (h ∷ [])) ++ (c ∷ [])) ++ (l ∷ [])) ++ ps) ++ (q ∷ [])) ++ (k ∷ [])) ++ (p ∷ [])) ++ r) ++ w
    ≡ (es ++ (h ∷ c ∷ l ∷ [])) ++ ((ps ++ (q ∷ k ∷ [])) ++ (p ∷ (r ++ w)))
grouped es ps r w h c l q k p = simp append_assoc

module _ (out es ps r w : List ℕ) (h c l q k p : ℕ)
    (room : length out ≡ 1376) (le : length es ≡ 896) (lp : length ps ≡ 448) (lr : length r ≡ 14) where
  first : Laid 896 es out (es ++ drop 896 out)
  first = record { long = le; is = ap (λ (n : ℕ). es ++ drop n out) (sym le) }

  numbers : Laid 899 (((es ++ (h ∷ [])) ++ (c ∷ [])) ++ (l ∷ [])) out (set (set (set (es ++ drop 896 out) 896 h) 897 c) 898 l)
  numbers = byte-then 898 l _ out _ (omega arith) (byte-then 897 c _ out _ (omega arith) (byte-then 896 h _ out _ (omega arith) first))

  steps : Laid 1364 ((((((((es ++ (h ∷ [])) ++ (c ∷ [])) ++ (l ∷ [])) ++ ps) ++ (q ∷ [])) ++ (k ∷ [])) ++ (p ∷ [])) ++ r) out
      (put_mid 1350 14 (set (set (set (put_mid 899 448 (set (set (set (es ++ drop 896 out) 896 h) 897 c) 898 l) ps) 1347 q) 1348 k) 1349 p) r)
  steps =
      part-then 1350 14 _ r out _ lr
      (byte-then 1349 p _ out _ (omega arith) (byte-then 1348 k _ out _ (omega arith) (byte-then 1347 q _ out _ (omega arith) (part-then 899 448 _ ps out _ lp numbers))))

  pub steps-room : length (put_mid 1350 14 (set (set (set (put_mid 899 448 (set (set (set (es ++ drop 896 out) 896 h) 897 c) 898 l) ps) 1347 q) 1348 k) 1349 p) r) ≡ 1376
  steps-room = ap length steps.is ∙ length-laid 0 _ out (omega (arith, steps.long)) ∙ room

  pub state-laid : length w ≡ 12
      → put_mid 1364 12 (put_mid 1350 14 (set (set (set (put_mid 899 448 (set (set (set (es ++ drop 896 out) 896 h) 897 c) 898 l) ps) 1347 q) 1348 k) 1349 p) r) w
      ≡ (es ++ (h ∷ c ∷ l ∷ [])) ++ ((ps ++ (q ∷ k ∷ [])) ++ (p ∷ (r ++ w)))
  state-laid lw = all-laid 1376 _ out _ room (part-then 1364 12 _ w out _ lw steps) ∙ grouped es ps r w h c l q k p

-- and each of them is the state's
pub state-told : (g : ReceiveBox) (es ps r w : List ℕ) (h c l q k p : ℕ) → es ≡ entries_bytes g.fifo.entries → ps ≡ places_bytes g.queue.places → r ≡ record_bytes g.held
    → w ≡ words_bytes g.words → h ≡ g.fifo.head % 256 → c ≡ g.fifo.count % 256 → l ≡ g.fifo.weight % 256 → q ≡ g.queue.head % 256 → k ≡ g.queue.count % 256 → p ≡ phase_byte g.phase
    → (es ++ (h ∷ c ∷ l ∷ [])) ++ ((ps ++ (q ∷ k ∷ [])) ++ (p ∷ (r ++ w))) ≡ state_bytes g
unfolding state_bytes
state-told g es ps r w h c l q k p ees eps er ew eh ec el eq ek ep = rw (ees, eps, er, ew, eh, ec, el, eq, ek, ep)
