-- What was read, or refused, of a state: each part, and the whole. Assumes nothing.
use Prim.Native.Nat.{ℕ, ◌+◌, ◌*◌}
use mathlib.Core.Path.{◌≡◌, refl, ap, ◌∙◌}
use mathlib.Core.Bool.{Bool, true, false, cond, ◌&&◌}
use mathlib.Core.List.{List, [], ◌∷◌}
use lib.Dec.{leb}
use lib.ListN.{length, get_or, set}
use native.Mathlib.Omega.{arith}
use Rattle.std.specs.Prelude.{Ok, Err}
use Rattle.laws.specs.Said.{refuses, gives}
use Rattle.refusals.specs.declared.Refusal.{Refusal}
use Rattle.refusals.specs.declared.Refusal.TheVariants.{BrokenState}
use Rattle.laws.specs.Tabulate.{tabulate}
use Rattle.box_records.specs.declared.Record.{Record}
use Rattle.box_fifo.specs.declared.Entry.{Entry}
use Rattle.box_words.specs.declared.Words.{Words}
use Rattle.box_state.specs.declared.Phase.{Phase}
use Rattle.box_state.specs.declared.ReceiveBox.{ReceiveBox}
use Rattle.box_script.specs.State.{words_at, entry_at, record_at, entries_at, places_at, phase_of, firsts_within, encodes_state, state_at}
use Rattle.box_script.specs.Format.{load_at}

module _ {A : Type 0} where
  pub judged-good : (b : Bool) (x y : A) → cond b (Ok x) (Err BrokenState) ≡ Ok y → (b ≡ true) × (y ≡ x)
  judged-good true x y e = (refl, cc)
  judged-good false x y e = cc

  pub judged-bad : (b : Bool) (x : A) (f : Refusal) → cond b (Ok x) (Err BrokenState) ≡ Err f → (b ≡ false) × (f ≡ BrokenState)
  judged-bad true x f e = cc
  judged-bad false x f e = (refl, cc)

module _ (s : List ℕ) (at : ℕ) where
  entries : Bool
  entries = firsts_within 64 1 s at

  places : Bool
  places = firsts_within 32 2 s (at + 899)

  step : Bool
  step = leb (get_or s (at + 1349) 0) 7

  held : Bool
  held = leb (get_or s (at + 1350) 0) 2

  none-loaded : encodes_state s at ≡ false → load_at s at ≡ refuses 10 []
  unfolding load_at
  none-loaded e = rw e

  judged : encodes_state s at ≡ entries && (places && (step && held))
  unfolding encodes_state entries places step held
  judged = refl

  pub no-entries : firsts_within 64 1 s at ≡ false → load_at s at ≡ refuses 10 []
  unfolding entries
  no-entries e = none-loaded (judged ∙ rw e)

  -- one part that is not within its limit is enough
  last-no : (x y z : Bool) → (x && (y && (z && false))) ≡ false
  last-no true true true = refl
  last-no true true false = refl
  last-no true false z = refl
  last-no false y z = refl

  pub no-places : firsts_within 32 2 s (at + 899) ≡ false → load_at s at ≡ refuses 10 []
  unfolding entries places
  no-places f = none-loaded (judged ∙ rw f (last-no (firsts_within 64 1 s at) true true))

  pub no_step : leb (get_or s (at + 1349) 0) 7 ≡ false → load_at s at ≡ refuses 10 []
  unfolding entries places step
  no_step g = none-loaded (judged ∙ rw g (last-no (firsts_within 64 1 s at) (firsts_within 32 2 s (at + 899)) true))

  pub no_held : leb (get_or s (at + 1350) 0) 2 ≡ false → load_at s at ≡ refuses 10 []
  unfolding entries places step held
  no_held h = none-loaded (judged ∙ rw h (last-no (firsts_within 64 1 s at) (firsts_within 32 2 s (at + 899)) (leb (get_or s (at + 1349) 0) 7)))

  pub all-loaded : firsts_within 64 1 s at ≡ true → firsts_within 32 2 s (at + 899) ≡ true → leb (get_or s (at + 1349) 0) 7 ≡ true → leb (get_or s (at + 1350) 0) 2 ≡ true
      → load_at s at ≡ gives (state_at s at)
  unfolding load_at entries places step held
  all-loaded e f g h = let good : encodes_state s at ≡ true = judged ∙ rw (e, f, g, h) in rw good

  -- the state that the parts make
  pub state-read : (es : List Entry) (ps : List Record) (h c l q k : ℕ) (p : Phase) (r : Record) (w : Words)
      → es ≡ tabulate 64 (λ i. entry_at s (at + 14 * i)) → ps ≡ tabulate 32 (λ i. record_at s (at + 899 + 14 * i))
      → h ≡ get_or s (at + 896) 0 → c ≡ get_or s (at + 897) 0 → l ≡ get_or s (at + 898) 0 → q ≡ get_or s (at + 1347) 0 → k ≡ get_or s (at + 1348) 0
      → p ≡ phase_of (get_or s (at + 1349) 0) → r ≡ record_at s (at + 1350) → w ≡ words_at s (at + 1364)
      → ◌≡◌ {A = ReceiveBox} (record { fifo = record { entries = es; head = h; count = c; weight = l }; queue = record { places = ps; head = q; count = k }; phase = p; held = r; words = w }) (state_at s at)
  unfolding state_at entries_at places_at
  state-read es ps h c l q k p r w ees eps eh ec el eq ek ep er ew =
      let head : at + 1347 ≡ at + 899 + 448 = omega arith in
      let count : at + 1348 ≡ at + 899 + 449 = omega arith in
      let hq : q ≡ get_or s (at + 899 + 448) 0 = eq ∙ ap (λ (n : ℕ). get_or s n 0) head in
      let kq : k ≡ get_or s (at + 899 + 449) 0 = ek ∙ ap (λ (n : ℕ). get_or s n 0) count in
      λ i. record {
        fifo = record { entries = ees i; head = eh i; count = ec i; weight = el i };
        queue = record { places = eps i; head = hq i; count = kq i };
        phase = ep i;
        held = er i;
        words = ew i;
      }

-- an answer of one byte
pub one-stored : (x : ℕ) (a : List ℕ) → length a ≡ 1 → set a 0 x ≡ x ∷ []
one-stored x [] e = absurd (omega arith)
one-stored x (y ∷ []) e = refl
one-stored x (y ∷ z ∷ l) e = absurd (omega arith)
