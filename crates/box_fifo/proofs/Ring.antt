-- Bounds on weights, what the FIFO's test says, and what an arrival and a release leave: the rules, the entries, the front. Assumes nothing.
use Prim.Native.Nat.{ℕ, zero, suc, ◌≤◌, ◌<◌, ◌+◌, ◌-◌, ◌%◌}
use mathlib.Core.Path.{◌≡◌, refl, sym, ap, ◌∙◌}
use mathlib.Core.Bool.{Bool, true, false, cond}
use mathlib.Core.List.{List, [], ◌∷◌, ◌++◌}
use lib.Dec.{ltb, leb, eqb}
use lib.ListN.{get_or, length, length-set}
use lib.Seq.{get_or-set_same, get_or-set_other}
use native.Mathlib.Numerals.{add-one}
use native.Mathlib.Omega.{arith}
use borrow.Author.Tests.{ltb-true, ltb-false, leb-true, leb-false, eqb-true, lt-ltb, le-leb, eq-eqb, ne_eqb}
use Rattle.laws.proofs.Bools.{both_true}
use Rattle.laws.proofs.Tabulate.{tabulate-ext, tabulate-snoc, tabulate-cons}
use Rattle.frame_info.specs.Info.{extended_of, data_length_of}
use Rattle.frame_info.proofs.Info.{data-bound}
use Rattle.box_fifo.specs.declared.Entry.{Entry}
use Rattle.box_fifo.specs.declared.Fifo.{Fifo}
use Rattle.box_fifo.specs.Ring.{entry_limit, weight_limit, weight_of, whole_entry, mark_entry, sum_to, sum_of, fifo_ok, entry_at, front_of, entries_of, without_front, released, pushed, nowhere, arrive_of}

cond-le : (b : Bool) (x y k : ℕ) → x ≤ k → y ≤ k → cond b x y ≤ k
cond-le true x y k hx hy = hx
cond-le false x y k hx hy = hy

pub weight-le : (e : Entry) → weight_of e ≤ 13
unfolding weight_of
weight-le e =
    cond-le e.mark 0 (cond (extended_of e.bytes) 5 3 + data_length_of e.bytes) 13 (omega arith)
    (omega (arith, cond-le (extended_of e.bytes) 5 3 5 (omega arith) (omega arith), data-bound e.bytes))

pub mark-weight : weight_of mark_entry ≡ 0
unfolding weight_of
mark-weight = refl

pub record Valid (f : Fifo) : Type 0 where
  pub head : f.head < entry_limit
  pub count : f.count ≤ entry_limit
  pub weight : f.weight ≤ weight_limit
  pub sum : sum_of f ≡ f.weight

pub ok-valid : (f : Fifo) → fifo_ok f ≡ true → Valid f
unfolding fifo_ok
ok-valid f e =
    let h = both_true _ _ e in
    let l = both_true _ _ h.1 in
    let w = both_true _ _ l.1 in
    record { head = ltb-true _ _ h.0; count = leb-true _ _ l.0; weight = leb-true _ _ w.0; sum = eqb-true _ _ w.1 }

pub valid-ok : (f : Fifo) → Valid f → fifo_ok f ≡ true
unfolding fifo_ok
valid-ok f v = simp (lt-ltb _ _ v.head, le-leb _ _ v.count, le-leb _ _ v.weight, eq-eqb _ _ v.sum)

-- an entry behind the front is one place nearer after the release
released-at : (f : Fifo) (n : ℕ) → entry_at (without_front f) n ≡ entry_at f (suc n)
released-at f n = ap (λ (k : ℕ). get_or f.entries k nowhere) (omega arith)

-- the weight of the first n + 1 is the front's and that of the n behind it
sum-front : (f : Fifo) (n : ℕ) → sum_to f (suc n) ≡ weight_of (front_of f) + sum_to (without_front f) n
unfolding sum_to
sum-front f zero = omega arith
sum-front f (suc n) = omega (arith, ap weight_of (released-at f n), sum-front f n)

-- one less than a count that is not 0
some : (n : ℕ) → 0 < n → n ≡ suc (n - 1)
some n h = omega arith

-- where there is a front, it leaves
front-leaves : (f : Fifo) → 0 < f.count → released f ≡ without_front f
front-leaves f h = rw (ne_eqb f.count 0 (λ e. omega arith))

without-front : (f : Fifo) → Valid f → 0 < f.count → Valid (without_front f)
without-front f v h =
    record {
      head = omega arith;
      count = omega arith;
      weight = omega arith;
      sum = omega (arith, ap (sum_to f) (some f.count h), sum-front f (f.count - 1));
    }

pub release-valid : (f : Fifo) → Valid f → 0 < f.count → Valid (released f)
release-valid f v h = rw (front-leaves f h) (without-front f v h)

-- no place is lost
pub released-long : (f : Fifo) → length (released f).entries ≡ length f.entries
released-long f = by (eqb f.count 0)
  where
    by : (empty : Bool) → length (cond empty f (without_front f)).entries ≡ length f.entries
    by true = refl
    by false = refl

-- the entries that stand are as they were
pub pushed_at : (f : Fifo) (e : Entry) (i : ℕ) → f.count < entry_limit → i < f.count → entry_at (pushed f e) i ≡ entry_at f i
pushed_at f e i l k =
    let apart : (f.head + i) % entry_limit ≡ (f.head + f.count) % entry_limit → ⊥ = λ q. omega arith in
    get_or-set_other f.entries ((f.head + f.count) % entry_limit) ((f.head + i) % entry_limit) e nowhere apart

pushed-sum : (f : Fifo) (e : Entry) (n : ℕ) → f.count < entry_limit → n ≤ f.count → sum_to (pushed f e) n ≡ sum_to f n
unfolding sum_to
pushed-sum f e zero l k = refl
pushed-sum f e (suc n) l k =
    let a = pushed-sum f e n l (omega arith) in
    let b = pushed_at f e n l (omega arith) in
    cc

-- an entry that the weight has room for keeps the FIFO's rules
pub pushed-valid : (f : Fifo) (e : Entry) → Valid f → length f.entries ≡ entry_limit → f.count < entry_limit → f.weight + weight_of e ≤ weight_limit → Valid (pushed f e)
unfolding sum_to
pushed-valid f e v s l w =
    let at : entry_at (pushed f e) f.count ≡ e = get_or-set_same f.entries ((f.head + f.count) % entry_limit) e nowhere (omega arith) in
    let last : sum_to (pushed f e) (suc f.count) ≡ sum_to f f.count + weight_of e =
    (let a = pushed-sum f e f.count l (omega arith) in cc) in
    record {
      head = v.head;
      count = omega arith;
      weight = w;
      sum = ap (sum_to (pushed f e)) (add-one f.count) ∙ last ∙ ap (λ (k : ℕ). k + weight_of e) v.sum;
    }

-- as lists: a stored entry is last, and a released one was first
pub pushed-entries : (f : Fifo) (e : Entry) → length f.entries ≡ entry_limit → f.count < entry_limit → entries_of (pushed f e) ≡ entries_of f ++ (e ∷ [])
pushed-entries f e s l =
    rw (add-one f.count, tabulate-snoc f.count (entry_at (pushed f e)))
    (let old = tabulate-ext f.count (entry_at (pushed f e)) (entry_at f) (λ i k. pushed_at f e i l k) in
    let new = get_or-set_same f.entries ((f.head + f.count) % entry_limit) e nowhere (omega arith) in
    cc)

pub released-entries : (f : Fifo) → 0 < f.count → entries_of f ≡ front_of f ∷ entries_of (released f)
released-entries f l =
    let rest = tabulate-ext (f.count - 1) (λ i. entry_at f (suc i)) (entry_at (without_front f)) (λ i k. sym (released-at f i)) in
    rw (front-leaves f l) (tabulate-cons f.count (entry_at f) l ∙ (cc))

-- what a call leaves of a FIFO that keeps its rules: they hold on, and a front stays where it is
pub record Entered (f next : Fifo) : Type 0 where
  pub rules : Valid next
  pub entries : length next.entries ≡ entry_limit
  pub front : 0 < f.count → (0 < next.count) × (front_of next ≡ front_of f)

module _ (f : Fifo) (frame : List ℕ) (v : Valid f) (s : length f.entries ≡ entry_limit) where
  pushed-as : (e : Entry) → f.count < entry_limit → f.weight + weight_of e ≤ weight_limit → Entered f (pushed f e)
  pushed-as e l w =
      record {
        rules = pushed-valid f e v s l w;
        entries = length-set f.entries ((f.head + f.count) % entry_limit) e ∙ s;
        front = λ k. (omega arith, pushed_at f e 0 l k);
      }

  entered_by : (a b : Bool) → leb entry_limit f.count ≡ a → ltb weight_limit (f.weight + weight_of (whole_entry frame)) ≡ b → Entered f (arrive_of f frame).1
  unfolding arrive_of
  entered_by true b h k = rw h (record { rules = v; entries = s; front = λ z. (z, refl) })
  entered_by false true h k = rw (h, k) (pushed-as mark_entry (leb-false entry_limit f.count h) (omega (arith, v, mark-weight)))
  entered_by false false h k = rw (h, k) (pushed-as (whole_entry frame) (leb-false entry_limit f.count h) (ltb-false weight_limit (f.weight + weight_of (whole_entry frame)) k))

  pub arrive-enters : Entered f (arrive_of f frame).1
  arrive-enters = entered_by (leb entry_limit f.count) (ltb weight_limit (f.weight + weight_of (whole_entry frame))) refl refl
