-- What holds of what a tracker keeps, beside what it knows.
use Rattle.std.specs.Prelude.{◌≡◌, ℕ, ◌≤◌, min, Bool, List, [], ◌∷◌, Option, Some, None, find, length, if◌then◌else◌}
use Rattle.std.specs.List.{AllByRecursion}
use Rattle.std.specs.FinMap as map
use Rattle.doc_model.specs.declared.key.DocKey.{DocKey}
use Rattle.doc_model.specs.Keys.{key_cmp}
use Rattle.durability_core.specs.declared.waiting.Waiting.{Waiting}
use Rattle.durability_core.specs.Tracking.{is_of, inherited_of, positions, IsRising}

-- each of prepares is of another key
abbrev pub AreApart : List Waiting → Type 0
AreApart [] = Unit {0}
AreApart (w ∷ ws) = (find (is_of w.key) ws ≡ None) × AreApart ws

-- What a queue keeps of keys agrees with its prepares, and each of these is of another key.
pub record IsQueue (keys : map.FinMap key_cmp Bool) (waiting : List Waiting) : Type 0 where
  pub agrees : (key : DocKey) → map.get keys key ≡ inherited_of waiting key
  pub apart : AreApart waiting

-- a deadline isn't before a moment
abbrev pub IsNotBefore : ℕ → Option ℕ → Type 0
IsNotBefore moment None = Unit {0}
IsNotBefore moment (Some deadline) = moment ≤ deadline

-- no prepare is given up before a moment
abbrev pub NoneBefore : ℕ → List Waiting → Type 0
NoneBefore moment waiting =
    AllByRecursion (λ (w : Waiting). IsNotBefore moment w.deadline) waiting

-- What holds of a tracker: no prepare is given up before a moment, the prepares and what was settled
-- stand in rising order, and there is room to settle all that wait.
pub record IsKept (moment : ℕ) (waiting : List Waiting) (settled : List ℕ) (room : ℕ) : Type 0 where
  pub in_room : length waiting ≤ room
  pub none_before : NoneBefore moment waiting
  pub waiting_rise : IsRising (positions waiting)
  pub settled_rise : IsRising settled

-- the earlier of a moment and a deadline, where there is one
abbrev pub earlier_of : ℕ → Option ℕ → ℕ
earlier_of moment None = moment
earlier_of moment (Some deadline) = min moment deadline

-- the position of the first of prepares, where it is ready
abbrev pub first_ready : (Waiting → Bool) → List Waiting → Option ℕ
first_ready ready [] = None
first_ready ready (w ∷ ws) = if ready w then Some w.position else None
