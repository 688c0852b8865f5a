-- The first byte that is no pattern character, field by field: what is said of it, when it is, and where it stands in the fields joined. Assumes nothing.
use Prim.Native.Nat.{ℕ, zero, suc, ◌+◌, ◌≤◌, ◌<◌}
use mathlib.Core.Path.{◌≡◌, refl, sym, ap, ◌∙◌}
use mathlib.Core.Bool.{Bool, true, false, cond, not, true≢false}
use mathlib.Core.List.{List, [], ◌∷◌, ◌++◌}
use lib.ListN.{length, take, drop, get_or, get_or-append, length-append}
use lib.Seq.{get_or-append-add, drop-cons, drop-length}
use native.Mathlib.Numerals.{add-one}
use native.Mathlib.Nat.{suc-add, zero-add}
use native.Mathlib.Decide.{dec_lt}
use native.Mathlib.Omega.{arith}
use borrow.Author.Tests.{le-ltb, lt-ltb, ltb-false}
use Rattle.laws.specs.Said.{Said, refuses, gives}
use Rattle.laws.proofs.Bools.{both_true, and_yes}
use Rattle.refusals.specs.Table.{refusal_said}
use Rattle.refusals.specs.declared.Refusal.{Refusal}
use Rattle.refusals.specs.declared.Refusal.TheVariants.{PatternByte}
use Rattle.filter_characters.specs.Characters.{is_character, all_characters, bad_at}
use Rattle.filter_characters.proofs.Characters.{all-or-bad}
use Rattle.filter_compilers.specs.Table.{joined, lengths}
use Rattle.filter_compilers.specs.Answers.{characters_of}
use Rattle.filter_compilers.proofs.Drawing.{all_append}

bad-found : (s t : List ℕ) → bad_at s < length s → bad_at (s ++ t) ≡ bad_at s
unfolding bad_at
bad-found [] t h = absurd (omega arith)
bad-found (c ∷ s) t h = cases (is_character c) h (bad-found s t)
  where
    cases : (b : Bool) → cond b (suc (bad_at s)) 0 < suc (length s) → (bad_at s < length s → bad_at (s ++ t) ≡ bad_at s) → cond b (suc (bad_at (s ++ t))) 0 ≡ cond b (suc (bad_at s)) 0
    cases true g r = ap suc (r (omega arith))
    cases false g r = refl

bad-passed : (s t : List ℕ) → length s ≤ bad_at s → bad_at (s ++ t) ≡ length s + bad_at t
unfolding bad_at
bad-passed [] t h = sym (zero-add (bad_at t))
bad-passed (c ∷ s) t h = cases (is_character c) h (bad-passed s t) ∙ sym (suc-add (length s) (bad_at t))
  where
    cases : (b : Bool) → suc (length s) ≤ cond b (suc (bad_at s)) 0 → (length s ≤ bad_at s → bad_at (s ++ t) ≡ length s + bad_at t) → cond b (suc (bad_at (s ++ t))) 0 ≡ suc (length s + bad_at t)
    cases true g r = ap suc (r (omega arith))
    cases false g r = absurd (omega arith)

-- ---- field by field
passed-field : (field : ℕ) (p : List ℕ) (patterns : List (List ℕ)) → length p ≤ bad_at p → characters_of field (p ∷ patterns) ≡ characters_of (suc field) patterns
passed-field field p patterns h = rw (le-ltb (bad_at p) (length p) h)

found-field : (field : ℕ) (p : List ℕ) (patterns : List (List ℕ)) → bad_at p < length p
    → characters_of field (p ∷ patterns) ≡ refuses 5 (field ∷ bad_at p ∷ get_or p (bad_at p) 0 ∷ [])
found-field field p patterns h = rw (lt-ltb (bad_at p) (length p) h)

-- a refusal, where the code found it
pub said-found : (field n : ℕ) (p : List ℕ) (patterns : List (List ℕ)) (r : Refusal) → n ≡ bad_at p → n < length p → r ≡ PatternByte field n (get_or p n 0)
    → refusal_said r ≡ characters_of field (p ∷ patterns)
said-found field n p patterns r e h same =
    ap refusal_said same ∙ ap (λ (k : ℕ). refuses 5 (field ∷ k ∷ get_or p k 0 ∷ [])) e ∙ sym (found-field field p patterns (omega arith))

pub said-passed : (field n : ℕ) (p : List ℕ) (patterns : List (List ℕ)) (said : Said ℕ) → n ≡ bad_at p → length p ≤ n → said ≡ characters_of (suc field) patterns
    → said ≡ characters_of field (p ∷ patterns)
said-passed field n p patterns said e h same = same ∙ sym (passed-field field p patterns (omega arith))

-- ---- one field after the other
module _ (k : ℕ) (patterns : List (List ℕ)) (p : List ℕ) (h : k < length patterns) (e : get_or patterns k [] ≡ p) where
  here : characters_of k (drop k patterns) ≡ characters_of k (p ∷ drop (suc k) patterns)
  here = ap (characters_of k) (drop-cons patterns k [] h ∙ ap (λ (q : List ℕ). q ∷ drop (suc k) patterns) e)

  pub characters-next : length p ≤ bad_at p → characters_of k (drop k patterns) ≡ characters_of (k + 1) (drop (k + 1) patterns)
  characters-next good =
      here ∙ passed-field k p (drop (suc k) patterns) good ∙ ap (λ (j : ℕ). characters_of j (drop j patterns)) (sym (add-one k))

  pub characters-found : (n : ℕ) → bad_at p ≡ n → n < length p → characters_of k (drop k patterns) ≡ refuses 5 (k ∷ n ∷ get_or p n 0 ∷ [])
  characters-found n at bad =
      here ∙ found-field k p (drop (suc k) patterns) (omega arith) ∙ ap (λ (i : ℕ). refuses 5 (k ∷ i ∷ get_or p i 0 ∷ [])) at

pub characters-end : (k : ℕ) (patterns : List (List ℕ)) → k ≡ length patterns → characters_of k (drop k patterns) ≡ gives 8
characters-end k patterns e = ap (characters_of k) (ap (λ (j : ℕ). drop j patterns) e ∙ drop-length patterns)

-- no field is longer than all
pub in-joined : (k : ℕ) (patterns : List (List ℕ)) → length (get_or patterns k []) ≤ length (joined patterns)
in-joined k [] = omega arith
in-joined zero (p ∷ patterns) = omega (arith, length-append p (joined patterns))
in-joined (suc k) (p ∷ patterns) = omega (arith, length-append p (joined patterns), in-joined k patterns)

good_none : (s : List ℕ) → all_characters s ≡ true → length s ≤ bad_at s
good_none s e = ltb-false (bad_at s) (length s) (all-or-bad s ∙ ap not e)

none-good : (s : List ℕ) → length s ≤ bad_at s → all_characters s ≡ true
none-good s h = cases (all_characters s) (sym (le-ltb (bad_at s) (length s) h) ∙ all-or-bad s)
  where
    cases : (b : Bool) → false ≡ not b → b ≡ true
    cases true e = refl
    cases false e = e

-- all are pattern characters, or the first that is none is told
pub good-said : (field : ℕ) (patterns : List (List ℕ)) → all_characters (joined patterns) ≡ true → characters_of field patterns ≡ gives 8
good-said field [] e = refl
good-said field (p ∷ patterns) e =
    let both = both_true (all_characters p) (all_characters (joined patterns)) (sym (all_append p (joined patterns)) ∙ e) in
    passed-field field p patterns (good_none p both.0) ∙ good-said (suc field) patterns both.1

pub said-good : (field : ℕ) (patterns : List (List ℕ)) → characters_of field patterns ≡ gives 8 → all_characters (joined patterns) ≡ true
said-good field [] e = refl
said-good field (p ∷ patterns) e =
    elim (dec_lt (bad_at p) (length p)) [
      | yes h ↦ absurd (never (sym (found-field field p patterns h) ∙ e))
      | no h ↦ passes (omega arith) (λ k. said-good (suc field) patterns (sym (passed-field field p patterns k) ∙ e))
    ]
  where
    never : ◌≡◌ {A = Said ℕ} (refuses 5 (field ∷ bad_at p ∷ get_or p (bad_at p) 0 ∷ [])) (gives 8) → ⊥
    never q = let z : ◌≡◌ {A = ℕ} 0 1 = cc in omega arith

    passes : length p ≤ bad_at p → (length p ≤ bad_at p → all_characters (joined patterns) ≡ true) → all_characters (p ++ joined patterns) ≡ true
    passes h rest = all_append p (joined patterns) ∙ and_yes (all_characters p) (all_characters (joined patterns)) (none-good p h) (rest h)

-- the last of five fields has it where the others have none
last-bad : (a b c d e : List ℕ) → length a ≤ bad_at a → length b ≤ bad_at b → length c ≤ bad_at c → length d ≤ bad_at d
    → all_characters (joined (a ∷ b ∷ c ∷ d ∷ e ∷ [])) ≡ false → bad_at e < length e
last-bad a b c d e ha hb hc hd bad = elim (dec_lt (bad_at e) (length e)) [ yes h ↦ h | no h ↦ absurd (none (omega arith)) ]
  where
    none : length e ≤ bad_at e → ⊥
    none he =
        let all : characters_of 0 (a ∷ b ∷ c ∷ d ∷ e ∷ []) ≡ gives 8 =
        passed-field 0 a (b ∷ c ∷ d ∷ e ∷ []) ha ∙ passed-field 1 b (c ∷ d ∷ e ∷ []) hb ∙ passed-field 2 c (d ∷ e ∷ []) hc ∙ passed-field 3 d (e ∷ []) hd ∙ passed-field 4 e [] he in
        true≢false (sym (said-good 0 (a ∷ b ∷ c ∷ d ∷ e ∷ []) all) ∙ bad)

pub last-wrong : (a b c d e : List ℕ) (i j k l n : ℕ) → i ≡ bad_at a → length a ≤ i → j ≡ bad_at b → length b ≤ j → k ≡ bad_at c → length c ≤ k → l ≡ bad_at d → length d ≤ l
    → n ≡ bad_at e → all_characters (joined (a ∷ b ∷ c ∷ d ∷ e ∷ [])) ≡ false → n < length e
last-wrong a b c d e i j k l n ei hi ej hj ek hk el hl en bad =
    let h : bad_at e < length e = last-bad a b c d e (omega arith) (omega arith) (omega arith) (omega arith) bad in
    omega arith

-- ---- the number that refusal 5 carried before it had three, the place in the fields joined: the widths of the fields before it, and the place
abbrev pub total : List ℕ → ℕ
total [] = 0
total (n ∷ ns) = n + total ns

-- counted from a field on, a later one is told
told-from : (start field place byte : ℕ) (patterns : List (List ℕ)) → characters_of start patterns ≡ refuses 5 (field ∷ place ∷ byte ∷ []) → start ≤ field
told-from start field place byte [] e = absurd (let z : ◌≡◌ {A = ℕ} 0 1 = cc in omega arith)
told-from start field place byte (p ∷ patterns) e =
    elim (dec_lt (bad_at p) (length p)) [
      | yes h ↦ here (sym (found-field start p patterns h) ∙ e)
      | no h ↦ (let k : length p ≤ bad_at p = omega arith in let r = told-from (suc start) field place byte patterns (sym (passed-field start p patterns k) ∙ e) in omega arith)
    ]
  where
    here : ◌≡◌ {A = Said ℕ} (refuses 5 (start ∷ bad_at p ∷ get_or p (bad_at p) 0 ∷ [])) (refuses 5 (field ∷ place ∷ byte ∷ [])) → start ≤ field
    here q = let same : start ≡ field = cc in omega arith

told-place : (start k place byte : ℕ) (patterns : List (List ℕ)) → characters_of start patterns ≡ refuses 5 ((start + k) ∷ place ∷ byte ∷ [])
    → (bad_at (joined patterns) ≡ total (take k (lengths patterns)) + place) × (get_or (joined patterns) (bad_at (joined patterns)) 0 ≡ byte)
told-place start k place byte [] e = absurd (let z : ◌≡◌ {A = ℕ} 0 1 = cc in omega arith)
told-place start k place byte (p ∷ patterns) e =
    elim (dec_lt (bad_at p) (length p)) [
      | yes h ↦ here h (sym (found-field start p patterns h) ∙ e)
      | no h ↦ (let past : length p ≤ bad_at p = omega arith in later past k (sym (passed-field start p patterns past) ∙ e) (λ j q. told-place (suc start) j place byte patterns q))
    ]
  where
    here : bad_at p < length p → ◌≡◌ {A = Said ℕ} (refuses 5 (start ∷ bad_at p ∷ get_or p (bad_at p) 0 ∷ [])) (refuses 5 ((start + k) ∷ place ∷ byte ∷ []))
        → (bad_at (p ++ joined patterns) ≡ total (take k (lengths (p ∷ patterns))) + place) × (get_or (p ++ joined patterns) (bad_at (p ++ joined patterns)) 0 ≡ byte)
    here h q =
        let field : start ≡ start + k = cc in
        let none : k ≡ 0 = omega arith in
        let at : bad_at p ≡ place = cc in
        let found : bad_at (p ++ joined patterns) ≡ bad_at p = bad-found p (joined patterns) h in
        let what : get_or p (bad_at p) 0 ≡ byte = cc in
        (rw none (omega (arith, found, at)), rw found (get_or-append p (joined patterns) 0 (bad_at p) h ∙ what))

    later : length p ≤ bad_at p → (j : ℕ) → characters_of (suc start) patterns ≡ refuses 5 ((start + j) ∷ place ∷ byte ∷ [])
        → ((i : ℕ) → characters_of (suc start) patterns ≡ refuses 5 ((suc start + i) ∷ place ∷ byte ∷ []) → (bad_at (joined patterns) ≡ total (take i (lengths patterns)) + place) × (get_or (joined patterns) (bad_at (joined patterns)) 0 ≡ byte))
        → (bad_at (p ++ joined patterns) ≡ total (take j (lengths (p ∷ patterns))) + place) × (get_or (p ++ joined patterns) (bad_at (p ++ joined patterns)) 0 ≡ byte)
    later h zero q r = absurd (let from = told-from (suc start) (start + 0) place byte patterns q in omega arith)
    later h (suc i) q r =
        let next : start + suc i ≡ suc start + i = omega arith in
        let rest = r i (q ∙ ap (λ (f : ℕ). refuses 5 (f ∷ place ∷ byte ∷ [])) next) in
        let passed : bad_at (p ++ joined patterns) ≡ length p + bad_at (joined patterns) = bad-passed p (joined patterns) h in
        (omega (arith, passed, rest.0), rw passed (get_or-append-add p (joined patterns) (bad_at (joined patterns)) 0 ∙ rest.1))

pub place-in-joined : (field place byte : ℕ) (patterns : List (List ℕ)) → characters_of 0 patterns ≡ refuses 5 (field ∷ place ∷ byte ∷ [])
    → (bad_at (joined patterns) ≡ total (take field (lengths patterns)) + place) × (get_or (joined patterns) (bad_at (joined patterns)) 0 ≡ byte)
place-in-joined field place byte patterns e = told-place 0 field place byte patterns (e ∙ ap (λ (f : ℕ). refuses 5 (f ∷ place ∷ byte ∷ [])) (sym (zero-add field)))
