-- That durable writes stand, said of runs.
use Rattle.std.specs.Prelude.{◌≡◌, ◌≢◌, ◌⊎◌, ℕ, ◌<◌, ◌≤◌, true, List, Ok, Err}
use Rattle.vb_log.specs.declared.entry.Entry.{Entry}
use Rattle.vb_log.specs.Logs.{LogKind, whole_logs}
use Rattle.durability_core.specs.declared.chain.Chain.{Chain}
use Rattle.copy_model.specs.declared.outcome.VbFault.TheVariants as faults
use Rattle.copy_model.specs.Copies.{LayoutKind}
use Rattle.copy_model.specs.Events.{Event, Promotes, Told, Ended, nothing}
use Rattle.copy_model.specs.Laying.{IsBegun}
use Rattle.world_model.specs.Scripts.{IsChain}
use Rattle.world_model.specs.Terms.{term_of, Stands, HasAnswered}
use Rattle.world_model.specs.Worlds.{World, Step, Happens, Crashes, Opens, Run, Start, Then, first_world}

-- an event that was told this promoted nothing, not even halfway
abbrev pub WasRefused : {L : Type 0} → Told L → Type 0
WasRefused told = (told ≢ Ended (Ok nothing)) × (told ≢ Ended (Err faults.DiskFault))

-- an event is no weak promotion at a term above one and up to another
abbrev pub IsStrict : {L : Type 0} → ℕ → ℕ → Event L → Told L → Type 0
IsStrict after up_to (Promotes term answers true) told = after < term → term ≤ up_to → WasRefused told
IsStrict after up_to event told = Unit {0}

-- the same of a step
abbrev pub StrictIn :
    {L Y : Type 0} {k : LogKind L} {y : LayoutKind Y} {v w : World L Y} → ℕ → ℕ → Step k y v w → Type 0
StrictIn after up_to (Happens x c new told e up may goes) = IsStrict after up_to e told
StrictIn after up_to (Crashes x c up) = Unit {0}
StrictIn after up_to (Opens x disk d torn luck down may laid) = Unit {0}

-- the promotions of a run at terms above one and up to another were strict
abbrev pub AllStrict :
    {L Y : Type 0} {k : LogKind L} {y : LayoutKind Y} {s w : World L Y} → ℕ → ℕ → Run k y s w → Type 0
AllStrict after up_to Start = Unit {0}
AllStrict after up_to (Then run last) = AllStrict after up_to run × StrictIn after up_to last

-- Durable prefix: a write that was answered Success at a level stands in each greater term that its owner accepted; at level 1
-- and 2 where the promotions up to that were strict.
abbrev pub DurablePrefix : {Y : Type 0} → LayoutKind Y → Type 0
DurablePrefix {Y} y =
    (layout : Y) (chain : Chain) (number : ℕ) (w : World (List Entry) Y)
    (run : Run whole_logs y (first_world whole_logs layout chain number) w)
    (level term position later : ℕ)
    → IsChain chain.names → IsBegun y layout → HasAnswered run level term position
    → (level ≡ 3) ⊎ AllStrict term later run
    → term < later → (term_of run later).had ≡ true → Stands (term_of run) term position later
