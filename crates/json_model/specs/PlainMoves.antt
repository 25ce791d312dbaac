-- The same changes of a plain tree, on lists of members and elements.
use Rattle.std.specs.Prelude.{ℕ, zero, suc, List, [], ◌∷◌}
use Rattle.json_model.specs.Plain.{Value, word, list, Values, none, one, value, values}
use Rattle.json_model.specs.Moves.{Change, put, push, insert, remove}

-- these parts and then those
abbrev pub chained : Values → Values → Values
chained none rest = rest
chained (one name v vs) rest = one name v (chained vs rest)

-- new parts before the part of this number, or at the end
abbrev pub placed : ℕ → Values → Values → Values
placed k new none = new
placed zero new (one name v vs) = chained new (one name v vs)
placed (suc k) new (one name v vs) = one name v (placed k new vs)

-- the part of this number gone; of fewer the last
abbrev pub left_over : ℕ → Values → Values
left_over k none = none
left_over k (one name v none) = none
left_over zero (one name v (one other w vs)) = one other w vs
left_over (suc k) (one name v (one other w vs)) = one name v (left_over k (one other w vs))

-- the parts of a value changed
abbrev pub on_parts : (Values → Values) → Value → Value
on_parts f (word kind s) = word kind s
on_parts f (list shape vs) = list shape (f vs)

-- a value changed
abbrev pub plain_changed : Change → Value → Value
plain_changed (put new) v = value new
plain_changed (push new) v = on_parts (λ vs. chained vs (values new)) v
plain_changed (insert k new) v = on_parts (placed k (values new)) v
plain_changed (remove k) v = on_parts (left_over k) v

-- the value of one part changed
abbrev pub plain_at_part : ℕ → (Value → Value) → Values → Values
plain_at_part k f none = none
plain_at_part zero f (one name v vs) = one name (f v) vs
plain_at_part (suc k) f (one name v vs) = one name v (plain_at_part k f vs)

-- the value at the end of a trail of part numbers changed
abbrev pub plain_at_trail : List ℕ → (Value → Value) → Value → Value
plain_at_trail [] f v = f v
plain_at_trail (k ∷ ks) f (word kind s) = word kind s
plain_at_trail (k ∷ ks) f (list shape vs) = list shape (plain_at_part k (plain_at_trail ks f) vs)
