-- Changes that wait, one after another, and their bytes.
use Rattle.std.specs.Prelude.{◌≡◌, ℕ, zero, suc, ◌+◌, ◌-◌, ◌≤◌, ◌<◌, ◌^◌, List, [], ◌∷◌, ◌++◌, length, drop}
use Rattle.std.specs.List.{flat_map}
use Rattle.std.specs.Int.{w32, w64, to_be_bytes}
use Rattle.vb_log.specs.declared.bounds.Bounds.{Bounds}
use Rattle.vb_log.specs.declared.entry.Pending.{Pending}
use Rattle.vb_log.specs.declared.limits.TheConstants.{GREATEST_CAS, GREATEST_POSITION, GREATEST_LEVEL}
use Rattle.vb_log.specs.Content.{cas_of}
use Rattle.vb_log.specs.Keys.{IsAllowedKey, key_bytes}
use Rattle.vb_log.specs.Layout.{Layout, byte, number, four, eight}
use Rattle.vb_log.specs.Spelling.{IsAllowedWhat, IsUnnumbered, what_bytes, key_layout, what_layout}

-- ---- bounds

-- bounds that no entry passes
abbrev pub widest : Bounds
widest = record { last = GREATEST_POSITION; cas = GREATEST_CAS }

-- bounds that aren't wider
pub record AreBounds (bounds : Bounds) : Type 0 where
  pub last : bounds.last ≤ GREATEST_POSITION
  pub cas : bounds.cas ≤ GREATEST_CAS

-- ---- what is allowed

-- a change that waits within bounds, prepared behind a position
pub record IsWaiting (bounds : Bounds) (before : ℕ) (p : Pending) : Type 0 where
  pub later : before < p.position
  pub within : p.position ≤ bounds.last
  pub least : 1 ≤ p.level
  pub most : p.level ≤ GREATEST_LEVEL
  pub key : IsAllowedKey p.key
  pub what : IsAllowedWhat p.what
  pub cas : cas_of p.what ≤ bounds.cas
  pub unnumbered : IsUnnumbered p.what

-- changes that wait within bounds, each prepared behind the one before it
abbrev pub AreWaiting : Bounds → ℕ → List Pending → Type 0
AreWaiting bounds before [] = Unit {0}
AreWaiting bounds before (p ∷ ps) = IsWaiting bounds before p × AreWaiting bounds p.position ps

-- they are as many as can be counted
pub record IsPendingWithin (bounds : Bounds) (ps : List Pending) : Type 0 where
  pub waiting : AreWaiting bounds 0 ps
  pub few : length ps < 2 ^ 32

-- changes that wait as the layout allows them
abbrev pub IsAllowedPending : List Pending → Type 0
IsAllowedPending ps = IsPendingWithin widest ps

-- ---- bytes

-- a change that waits: its position, its level, its key, the change
abbrev pub waiting_bytes : Pending → List ℕ
waiting_bytes p = to_be_bytes w64 p.position ++ (p.level ∷ (key_bytes p.key ++ what_bytes p.what))

-- their count, and one after another
abbrev pub pending_bytes : List Pending → List ℕ
pending_bytes ps = to_be_bytes w32 (length ps) ++ flat_map waiting_bytes ps

-- ---- the layout

-- one change that waits; what follows may depend on its position
abbrev pub waiting_layout : Bounds → ℕ → (ℕ → Layout) → Layout
waiting_layout bounds before next =
    number eight (before + 1) bounds.last (λ position.
    byte 1 GREATEST_LEVEL (λ level. key_layout (what_layout bounds.cas (next position))))

-- so many of them, each prepared behind the one before it
abbrev pub all_waiting_layout : Bounds → ℕ → ℕ → Layout → Layout
all_waiting_layout bounds zero before next = next
all_waiting_layout bounds (suc count) before next =
    waiting_layout bounds before (λ position. all_waiting_layout bounds count position next)

-- their count, and one after another
abbrev pub pending_layout : Bounds → Layout → Layout
pending_layout bounds next = number four 0 (2 ^ 32 - 1) (λ count. all_waiting_layout bounds count 0 next)

-- ---- reading

-- one change that waits stands at the front
pub record WaitingAt (bounds : Bounds) (before : ℕ) (bytes : List ℕ) (p : Pending) (rest : List ℕ) : Type 0 where
  pub allowed : IsWaiting bounds before p
  pub front : bytes ≡ waiting_bytes p ++ rest

-- changes that wait stand there
pub record AllWaitingAt (bounds : Bounds) (bytes : List ℕ) (ps : List Pending) (rest : List ℕ) : Type 0 where
  pub allowed : IsPendingWithin bounds ps
  pub front : bytes ≡ pending_bytes ps ++ rest

-- changes that wait as the layout allows them stand there in so many bytes
pub record PendingAt (bytes : List ℕ) (ps : List Pending) (size : ℕ) : Type 0 where
  pub allowed : IsAllowedPending ps
  pub front : bytes ≡ pending_bytes ps ++ drop size bytes
  pub len : size ≡ length (pending_bytes ps)
