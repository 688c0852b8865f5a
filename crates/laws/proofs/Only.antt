-- Two results of one contract are equal: what can be read back is told by what is said of it. Assumes nothing.
use mathlib.Core.Path.{◌≡◌, ap, sym, ◌∙◌}

pub only : {X Y : Type 0} (said : X → Y) (back : Y → X) → ((x : X) → back (said x) ≡ x) → (x y : X) → said x ≡ said y → x ≡ y
only said back reads x y same = sym (reads x) ∙ (ap back same ∙ reads y)

-- two results that are each said to be one thing
pub agreed : {X : Type 0} {x y told : X} → x ≡ told → y ≡ told → x ≡ y
agreed p q = p ∙ sym q
