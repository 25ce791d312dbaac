-- What may be asked of a device between two moments.
use Rattle.std.specs.Prelude.{◌≡◌, ℕ, ◌<◌, List, [], ◌∷◌, length}
use Rattle.magma_disk.specs.declared.disk.DiskDone.{DiskDone}
use Rattle.magma_disk.specs.Device.{Device, IsBeside}
use Rattle.magma_disk.specs.Calls.{Writes, Cuts, Syncs, Crashes}

-- a call that may change a device, with its answer, or a crash
pub data Step : Type 0 where
  write_step : ℕ → List ℕ → DiskDone → Step
  cut_step : ℕ → DiskDone → Step
  sync_step : DiskDone → Step
  crash_step : Step

-- what a step does to a disk's states
abbrev pub Does : Step → List Device → List Device → Type 0
Does (write_step at piece answer) old now = Writes at piece answer old now
Does (cut_step size answer) old now = Cuts size answer old now
Does (sync_step answer) old now = Syncs answer old now
Does crash_step old now = Crashes old now

-- some steps, one after another
abbrev pub Runs : List Step → List Device → List Device → Type 0
Runs [] old now = now ≡ old
Runs (step ∷ more) old now = (mid : List Device) × Does step old mid × Runs more mid now

-- a step that neither writes over the byte at i nor cuts it off
abbrev pub Spares : ℕ → Step → Type 0
Spares i (write_step at piece answer) = IsBeside at (length piece) i
Spares i (cut_step size answer) = i < size
Spares i (sync_step answer) = Unit {0}
Spares i crash_step = Unit {0}

-- steps that all spare it
abbrev pub AllSpare : ℕ → List Step → Type 0
AllSpare i [] = Unit {0}
AllSpare i (step ∷ more) = Spares i step × AllSpare i more
