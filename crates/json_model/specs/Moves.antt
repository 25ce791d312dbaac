-- Changes of a spelled tree: what stands beside the change keeps its bytes.
use Rattle.std.specs.Prelude.{ℕ, zero, suc, List, [], ◌∷◌, ◌++◌}
use Rattle.json_model.specs.Spelled.{Head, plain, keyed, Tree, leaf, empty, group, Parts, last, more, Fits, PartsFit}

-- ---- the value at the end of a trail

-- the value of one part changed
abbrev pub at_part : ℕ → (Tree → Tree) → Parts → Parts
at_part zero f (last head tree gap) = last head (f tree) gap
at_part (suc k) f (last head tree gap) = last head tree gap
at_part zero f (more head tree gap parts) = more head (f tree) gap parts
at_part (suc k) f (more head tree gap parts) = more head tree gap (at_part k f parts)

-- the value at the end of a trail of part numbers changed
abbrev pub at_trail : List ℕ → (Tree → Tree) → Tree → Tree
at_trail [] f tree = f tree
at_trail (k ∷ ks) f (leaf kind s) = leaf kind s
at_trail (k ∷ ks) f (empty shape gap) = empty shape gap
at_trail (k ∷ ks) f (group shape parts) = group shape (at_part k (at_trail ks f) parts)

-- ---- blanks at both ends of parts

-- the blanks at the front of a head
abbrev pub gap_before : Head → List ℕ
gap_before (plain gap) = gap
gap_before (keyed gap key behind before) = gap

-- a head with these blanks at its front
abbrev pub led_head : List ℕ → Head → Head
led_head gap (plain old) = plain gap
led_head gap (keyed old key behind before) = keyed gap key behind before

-- parts with these blanks at their front
abbrev pub led : List ℕ → Parts → Parts
led gap (last head tree behind) = last (led_head gap head) tree behind
led gap (more head tree behind parts) = more (led_head gap head) tree behind parts

-- parts with these blanks at their end
abbrev pub ended : List ℕ → Parts → Parts
ended gap (last head tree old) = last head tree gap
ended gap (more head tree old parts) = more head tree old (ended gap parts)

-- parts without blanks at both ends
abbrev pub trimmed : Parts → Parts
trimmed parts = led [] (ended [] parts)

-- ---- new parts

-- these parts and then those, with a comma between
abbrev pub joined : Parts → Parts → Parts
joined (last head tree gap) rest = more head tree gap rest
joined (more head tree gap parts) rest = more head tree gap (joined parts rest)

-- New parts behind these: directly behind the last one's value; the blanks that stood there come behind the new ones.
abbrev pub pushed : Parts → Parts → Parts
pushed new (last head tree gap) = more head tree [] (ended gap new)
pushed new (more head tree gap parts) = more head tree gap (pushed new parts)

-- New parts before the part of this number, or behind the last one: the blanks before that part come before the new ones.
abbrev pub inserted : ℕ → Parts → Parts → Parts
inserted zero new (last head tree gap) = joined (led (gap_before head) new) (last (led_head [] head) tree gap)
inserted zero new (more head tree gap parts) = joined (led (gap_before head) new) (more (led_head [] head) tree gap parts)
inserted (suc k) new (last head tree gap) = more head tree [] (ended gap new)
inserted (suc k) new (more head tree gap parts) = more head tree gap (inserted k new parts)

-- ---- parts that go

-- The part of this number gone from two or more: its blanks before it come before the next part, or, where it was the last
-- one, its blanks behind it come behind the one before it.
abbrev pub without : ℕ → Head → Tree → List ℕ → Parts → Parts
without zero head tree gap parts = led (gap_before head) parts
without (suc k) head tree gap (last other second behind) = last head tree behind
without (suc k) head tree gap (more other second behind parts) = more head tree gap (without k other second behind parts)

-- ---- changes of a value

-- what is done with a value
pub data Change : Type 0 where
  -- it becomes this one
  put : Tree → Change
  -- these parts come behind its last one
  push : Parts → Change
  -- these parts come before its part of this number, or behind the last one
  insert : ℕ → Parts → Change
  -- its part of this number goes
  remove : ℕ → Change

-- a value with new parts at its end; directly behind the bracket where it holds none
abbrev pub with_pushed : Parts → Tree → Tree
with_pushed new (leaf kind s) = leaf kind s
with_pushed new (empty shape gap) = group shape (ended gap new)
with_pushed new (group shape parts) = group shape (pushed new parts)

-- a value with new parts before one of its own
abbrev pub with_inserted : ℕ → Parts → Tree → Tree
with_inserted k new (leaf kind s) = leaf kind s
with_inserted k new (empty shape gap) = group shape (ended gap new)
with_inserted k new (group shape parts) = group shape (inserted k new parts)

-- a value without one of its parts; where it was the only one, the blanks round it stay
abbrev pub with_removed : ℕ → Tree → Tree
with_removed k (leaf kind s) = leaf kind s
with_removed k (empty shape gap) = empty shape gap
with_removed k (group shape (last head tree gap)) = empty shape (gap_before head ++ gap)
with_removed k (group shape (more head tree gap parts)) = group shape (without k head tree gap parts)

-- a value changed
abbrev pub changed : Change → Tree → Tree
changed (put new) tree = new
changed (push new) tree = with_pushed new tree
changed (insert k new) tree = with_inserted k new tree
changed (remove k) tree = with_removed k tree

-- ---- changes of JSON

-- parts may stand in this value: members in an object, elements in an array
abbrev pub Takes : Tree → Parts → Type 0
Takes (leaf kind s) new = Unit {0}
Takes (empty shape gap) new = PartsFit shape new
Takes (group shape parts) new = PartsFit shape new

-- what a change brings is JSON, and may stand there
abbrev pub ChangeFits : Change → Tree → Type 0
ChangeFits (put new) tree = Fits new
ChangeFits (push new) tree = Takes tree new
ChangeFits (insert k new) tree = Takes tree new
ChangeFits (remove k) tree = Unit {0}
