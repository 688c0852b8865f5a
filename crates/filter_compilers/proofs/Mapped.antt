-- Fields joined, and each position's character: what is so of the fields joined is so of each, since their lengths tell where one ends. Assumes nothing.
use Prim.Native.Nat.{ℕ, zero, suc, ◌<◌}
use mathlib.Core.Path.{◌≡◌, refl, sym, ap, ap₂, ◌∙◌}
use mathlib.Core.List.{List, [], ◌∷◌, ◌++◌, map, map-append}
use lib.ListN.{length, get_or, take, drop, length-map}
use lib.Seq.{take_at, drop_at}
use native.Mathlib.Nat.{not-suc-le-zero, le_of_suc-le-suc}
use native.Mathlib.Omega.{arith}
use Rattle.filter_compilers.specs.Table.{joined, lengths}

module _ (f : ℕ → ℕ) where
  pub mapped_at : (ps : List ℕ) (i : ℕ) → i < length ps → get_or (map f ps) i 0 ≡ f (get_or ps i 0)
  mapped_at [] i h = absurd (not-suc-le-zero h)
  mapped_at (p ∷ ps) zero h = refl
  mapped_at (p ∷ ps) (suc i) h = mapped_at ps i (le_of_suc-le-suc h)

  pub mapped-joined : (fields : List (List ℕ)) → map f (joined fields) ≡ joined (map (map f) fields)
  mapped-joined [] = refl
  mapped-joined (x ∷ fields) = map-append f x (joined fields) ∙ ap (λ (l : List ℕ). map f x ++ l) (mapped-joined fields)

  -- fields of the same lengths, joined alike, are the same
  pub apart : (fields patterns : List (List ℕ)) → lengths patterns ≡ lengths fields → map f (joined fields) ≡ joined patterns → map (map f) fields ≡ patterns
  apart [] [] h e = refl
  apart [] (p ∷ patterns) h e = absurd (let z : ◌≡◌ {A = ℕ} 0 1 = cc in omega arith)
  apart (x ∷ fields) [] h e = absurd (let z : ◌≡◌ {A = ℕ} 0 1 = cc in omega arith)
  apart (x ∷ fields) (p ∷ patterns) h e =
      let long : length p ≡ length x = cc in
      let rest : lengths patterns ≡ lengths fields = cc in
      let same : length (map f x) ≡ length x = length-map x f in
      let both : map f x ++ map f (joined fields) ≡ p ++ joined patterns = sym (map-append f x (joined fields)) ∙ e in
      let first : map f x ≡ p = sym (take_at (map f x) (map f (joined fields)) (length x) same) ∙ ap (take (length x)) both ∙ take_at p (joined patterns) (length x) long in
      let later : map f (joined fields) ≡ joined patterns = sym (drop_at (map f x) (map f (joined fields)) (length x) same) ∙ ap (drop (length x)) both ∙ drop_at p (joined patterns) (length x) long in
      ap₂ (λ (l : List ℕ) (ls : List (List ℕ)). l ∷ ls) first (apart fields patterns rest later)

-- some of the fields
pub mapped-take : {A B : Type 0} (f : A → B) (n : ℕ) (l : List A) → map f (take n l) ≡ take n (map f l)
mapped-take f zero l = refl
mapped-take f (suc n) [] = refl
mapped-take f (suc n) (x ∷ l) = ap (λ (t : List _). f x ∷ t) (mapped-take f n l)

pub mapped-drop : {A B : Type 0} (f : A → B) (n : ℕ) (l : List A) → map f (drop n l) ≡ drop n (map f l)
mapped-drop f zero l = refl
mapped-drop f (suc n) [] = refl
mapped-drop f (suc n) (x ∷ l) = mapped-drop f n l
