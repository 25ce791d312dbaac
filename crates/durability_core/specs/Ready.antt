-- When a prepare is ready to be committed.
use Rattle.std.specs.Prelude.{◌≤◌, ℕ, nat_eq, nat_le, Bool, ◌&&◌, ◌||◌, count_by, length}
use Rattle.std.specs.Prelude.{if◌then◌else◌}
use Rattle.durability_core.specs.declared.chain.Chain.{Chain}
use Rattle.durability_core.specs.Chains.{majority, named_places, place_count}

-- how far a place is known to be: to this length in memory, and to this one on disk
pub record Known : Type 0 where
  pub mem : ℕ
  pub disk : ℕ

-- a place of which nothing is known
abbrev pub unknown : Known
unknown = record { mem = 0; disk = 0 }

-- as much is known of each place as before, or more
pub record KnowsMore (before after : ℕ → Known) : Type 0 where
  pub mem : (place : ℕ) → (before place).mem ≤ (after place).mem
  pub disk : (place : ℕ) → (before place).disk ≤ (after place).disk

-- whether a majority of a chain's places have a name and pass a test
abbrev pub most_pass : Chain → (ℕ → Bool) → Bool
most_pass chain test = nat_le (majority (place_count chain)) (count_by test (named_places chain))

-- whether a chain names a majority of its places, so that a prepare can be committed at all
abbrev pub can_commit : Chain → Bool
can_commit chain = nat_le (majority (place_count chain)) (length (named_places chain))

-- whether a position is in memory at a majority of the places
abbrev pub most_have : Chain → (ℕ → Known) → ℕ → Bool
most_have chain known position = most_pass chain (λ place. nat_le position (known place).mem)

-- whether a position is on disk at a majority of the places
abbrev pub most_keep : Chain → (ℕ → Known) → ℕ → Bool
most_keep chain known position = most_pass chain (λ place. nat_le position (known place).disk)

-- Whether the prepare at a position is ready at a level, by what is known of each place, that of
-- the active among them: a majority has it in memory, or at level 3 on disk; and above level 1 the
-- active's own disk has it.
abbrev pub is_ready : Chain → ℕ → (ℕ → Known) → ℕ → ℕ → Bool
is_ready chain own known level position =
    (if nat_eq level 3 then most_keep chain known position else most_have chain known position)
    && (nat_eq level 1 || nat_le position (known own).disk)
