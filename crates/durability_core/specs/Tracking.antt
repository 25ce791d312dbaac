-- What a tracker knows: how far each place is, and the prepares that wait.
use Rattle.std.specs.Prelude.{ℕ, max, nat_le, Bool, false, ◌&&◌, not, is_none, is_some, unwrap_or, filter, find, take_while, set, get_or, map as list_map, List, [], ◌∷◌, ◌++◌, Option, Some, None, option_map, ◌≡◌, ◌<◌, ◌⊎◌, Result, Ok, Err, if◌then◌else◌}
use Rattle.std.specs.List.{AllByRecursion}
use Rattle.std.specs.Ordering.{eq_by_cmp}
use Rattle.doc_model.specs.declared.key.DocKey.{DocKey}
use Rattle.doc_model.specs.Keys.{key_cmp}
use Rattle.durability_core.specs.declared.chain.Chain.{Chain}
use Rattle.durability_core.specs.declared.waiting.Waiting.{Waiting}
use Rattle.durability_core.specs.declared.fault.TrackFault.{TrackFault}
use Rattle.durability_core.specs.declared.fault.TrackFault.TheVariants as faults
use Rattle.durability_core.specs.Ready.{Known, unknown, is_ready, can_commit}

-- The active's chain and its own place, how far each place is known to be, the prepares that wait,
-- in rising order of their positions, and the positions that the last event settled.
pub record Tracked : Type 0 where
  pub chain : Chain
  pub own : ℕ
  pub known : List Known
  pub waiting : List Waiting
  pub settled : List ℕ

-- ---- what is known of places

-- how far a place is known to be
abbrev pub known_at : List Known → ℕ → Known
known_at known place = get_or known place unknown

-- what is known of a place once it has told how far it is; it is never less
abbrev pub raised : ℕ → ℕ → Known → Known
raised mem disk known = record { mem = max known.mem mem; disk = max known.disk disk }

-- a tracker that was told how far a place is
abbrev pub told : ℕ → ℕ → ℕ → Tracked → Tracked
told place mem disk t =
    record t { known = set t.known place (raised mem disk (known_at t.known place)) }

-- ---- prepares

-- whether a prepare is of a key
abbrev pub is_of : DocKey → Waiting → Bool
is_of key w = eq_by_cmp key_cmp w.key key

-- whether a prepare was inherited: it is never given up
abbrev pub is_inherited : Waiting → Bool
is_inherited w = is_none w.deadline

-- whether the prepare of a key was inherited, where one waits
abbrev pub inherited_of : List Waiting → DocKey → Option Bool
inherited_of waiting key = option_map is_inherited (find (is_of key) waiting)

-- whether a prepare of a key waits
abbrev pub has_waiting : List Waiting → DocKey → Bool
has_waiting waiting key = is_some (inherited_of waiting key)

-- whether an inherited prepare of a key waits
abbrev pub has_inherited : List Waiting → DocKey → Bool
has_inherited waiting key = unwrap_or (inherited_of waiting key) false

-- the positions of prepares
abbrev pub positions : List Waiting → List ℕ
positions waiting = list_map (λ (w : Waiting). w.position) waiting

-- whether numbers rise
abbrev pub IsRising : List ℕ → Type 0
IsRising [] = Unit {0}
IsRising (n ∷ ns) = AllByRecursion (λ m. n < m) ns × IsRising ns

-- whether a prepare is ready, by what is known
abbrev pub is_ready_by : Chain → ℕ → List Known → Waiting → Bool
is_ready_by chain own known w = is_ready chain own (known_at known) w.level w.position

-- whether a deadline has come at a moment
abbrev pub has_come : ℕ → Option ℕ → Bool
has_come now None = false
has_come now (Some deadline) = nat_le deadline now

-- whether a prepare is given up at a moment
abbrev pub is_due : ℕ → Waiting → Bool
is_due now w = has_come now w.deadline

-- ---- a prepare is added

-- the checks of a new prepare in their order, each with the fault of one that fails it
abbrev pub prepare_checks : Chain → List Waiting → ℕ → DocKey → List (Bool × TrackFault)
prepare_checks chain waiting level key =
    (nat_le 1 level && nat_le level 3, faults.Level)
    ∷ (not (has_inherited waiting key), faults.ReCommit)
    ∷ (can_commit chain, faults.Impossible)
    ∷ (not (has_waiting waiting key), faults.InProgress)
    ∷ []

-- the fault of the first check that fails
abbrev pub first_fault : List (Bool × TrackFault) → Option TrackFault
first_fault [] = None
first_fault (check ∷ others) = if check.0 then first_fault others else Some check.1

-- the fault of a new prepare of a level and a key, none where it may be added
abbrev pub prepare_fault : Chain → List Waiting → ℕ → DocKey → Option TrackFault
prepare_fault chain waiting level key = first_fault (prepare_checks chain waiting level key)

-- How the adding of a prepare may end, by its fault: without one it is added, unless memory is
-- wanting.
abbrev pub MayEnd : Option TrackFault → Result (Unit {0}) TrackFault → Type 0
MayEnd None result = (result ≡ Ok tt) ⊎ (result ≡ Err faults.NoMemory)
MayEnd (Some fault) result = result ≡ Err fault

-- whether a position is above those of all prepares
abbrev pub IsLater : ℕ → List Waiting → Type 0
IsLater position waiting = AllByRecursion (λ (w : Waiting). w.position < position) waiting

-- a tracker with one more prepare that waits
abbrev pub with_waiting : Waiting → Tracked → Tracked
with_waiting w t = record t { waiting = t.waiting ++ w ∷ [] }

-- ---- prepares are settled

-- of prepares, those that follow the first ones that are ready
abbrev pub still_waiting : (Waiting → Bool) → List Waiting → List Waiting
still_waiting ready [] = []
still_waiting ready (w ∷ ws) = if ready w then still_waiting ready ws else w ∷ ws

-- A tracker that commits what is ready: the first prepares, in their order, up to one that isn't
-- ready.
abbrev pub committing : Tracked → Tracked
committing t =
    let ready = is_ready_by t.chain t.own t.known in
    record t {
      waiting = still_waiting ready t.waiting;
      settled = positions (take_while ready t.waiting);
    }

-- a tracker that was told how far a place is, and committed what is ready
abbrev pub acknowledged : ℕ → ℕ → ℕ → Tracked → Tracked
acknowledged place mem disk t = committing (told place mem disk t)

-- a tracker that gave up the prepares of its own term whose moment has come, in their order
abbrev pub given_up : ℕ → Tracked → Tracked
given_up now t = record t {
  waiting = filter (λ w. not (is_due now w)) t.waiting;
  settled = positions (filter (is_due now) t.waiting);
}
