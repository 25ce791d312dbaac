-- A byte that is on the device, and what spares it.
use Rattle.std.proofs.Common.{inl, inr, ℕ, ◌<◌, List, [], ◌∷◌, ◌++◌, length, refl, sym, ◌∙◌, subst, arith}
use Rattle.magma_disk.specs.declared.disk.DiskDone.{DiskDone}
use Rattle.magma_disk.specs.declared.disk.DiskDone.TheVariants as done
use Rattle.magma_disk.specs.Device.{Device, IsBeside, IsUntouched, StaysAt, IsImage, settled, resized, overlaid, written, cut_to}
use Rattle.magma_disk.specs.Calls.{MayLeave, bytes_of, Writes, Cuts, Syncs, Crashes, Settles}
use Rattle.magma_disk.specs.Steps.{Step, write_step, cut_step, sync_step, crash_step, Does, Runs, Spares, AllSpare}
use Rattle.magma_disk.proofs.Bytes.{overlaid_stays, cut_whole}

-- the byte at i of a file is on the device, and a read gives it
record IsSafe (i : ℕ) (file : List ℕ) (d : Device) : Type 0 where
  low : i < d.shortest
  untouched : IsUntouched d.touched i
  seen : StaysAt i file d.bytes

untouched_more : (ranges : List (ℕ × ℕ)) (at count i : ℕ) → IsUntouched ranges i → IsBeside at count i → IsUntouched (ranges ++ (at, count) ∷ []) i
untouched_more [] at count i untouched beside = (beside, tt)
untouched_more (range ∷ more) at count i untouched beside = (untouched.0, untouched_more more at count i untouched.1 beside)

module _ (i : ℕ) (file : List ℕ) where
  abbrev Has : List Device → Type 0
  Has [] = ⊥
  Has (d ∷ past) = IsSafe i file d

  follows : (old new : List ℕ) → StaysAt i file old → StaysAt i old new → StaysAt i file new
  follows old new first second = (second.0, second.1 ∙ first.1)

  of_settled : (bytes : List ℕ) → StaysAt i file bytes → IsSafe i file (settled bytes)
  of_settled bytes stays = record { low = stays.0; untouched = tt; seen = stays }

  settles : (bytes : List ℕ) (d : Device) (past now : List Device) → StaysAt i file bytes → Settles bytes d past now → Has now
  settles bytes d past now stays (inl same) = subst Has (sym same.1) (subst (IsSafe i file) (sym same.0) (of_settled bytes stays))
  settles bytes d past now stays (inr new) = subst Has (sym new) (of_settled bytes stays)

  of_image : (d : Device) (image : List ℕ) → IsSafe i file d → IsImage d image → StaysAt i file image
  of_image d image safe left = follows d.bytes image safe.seen (left.stays i safe.low safe.untouched)

  of_write : (at count : ℕ) (bytes : List ℕ) (d : Device) → IsBeside at count i → IsSafe i file d → StaysAt i d.bytes bytes → IsSafe i file (written at count bytes d)
  of_write at count bytes d beside safe stays =
      record { low = safe.low; untouched = untouched_more d.touched at count i safe.untouched beside; seen = follows d.bytes bytes safe.seen stays }

  of_cut : (size : ℕ) (bytes : List ℕ) (d : Device) → i < size → IsSafe i file d → StaysAt i d.bytes bytes → IsSafe i file (cut_to size bytes d)
  of_cut size bytes d kept safe stays =
      let low = safe.low in
      record { low = omega arith; untouched = safe.untouched; seen = follows d.bytes bytes safe.seen stays }

  writes : (at : ℕ) (piece : List ℕ) (answer : DiskDone) (old now : List Device) → IsBeside at (length piece) i → Has old → Writes at piece answer old now → Has now
  writes at piece answer [] now beside has step = absurd has
  writes at piece done.Done (d ∷ past) now beside has step =
      subst Has (sym step) (of_write at (length piece) (overlaid d.bytes at piece) d beside has (overlaid_stays d.bytes at piece i has.seen.0 beside))
  writes at piece done.Failed (d ∷ past) now beside has (inl same) = subst Has (sym same) has
  writes at piece done.Failed (d ∷ past) now beside has (inr new) =
      subst Has (sym new.3) (of_write at (length piece) new.0 d beside has (new.2.stays i has.seen.0 beside))

  cuts : (size : ℕ) (answer : DiskDone) (old now : List Device) → i < size → Has old → Cuts size answer old now → Has now
  cuts size answer [] now kept has step = absurd has
  cuts size done.Done (d ∷ past) now kept has step =
      subst Has (sym step) (of_cut size (resized size d.bytes) d kept has ((cut_whole size d.bytes).stays i has.seen.0 kept))
  cuts size done.Failed (d ∷ past) now kept has (inl same) = subst Has (sym same) has
  cuts size done.Failed (d ∷ past) now kept has (inr new) = subst Has (sym new.3) (of_cut size new.0 d kept has (new.2.stays i has.seen.0 kept))

  syncs : (answer : DiskDone) (old now : List Device) → Has old → Syncs answer old now → Has now
  syncs answer [] now has step = absurd has
  syncs done.Done (d ∷ past) now has step = settles d.bytes d past now has.seen step
  syncs done.Failed (d ∷ past) now has step = subst Has (sym step) has

  crashes : (old now : List Device) → Has old → Crashes old now → Has now
  crashes [] now has step = absurd has
  crashes (d ∷ past) now has step = settles step.0 d past now (of_image d step.0 has step.1) step.2

  does : (step : Step) (old now : List Device) → Spares i step → Has old → Does step old now → Has now
  does (write_step at piece answer) old now spares has did = writes at piece answer old now spares has did
  does (cut_step size answer) old now spares has did = cuts size answer old now spares has did
  does (sync_step answer) old now spares has did = syncs answer old now has did
  does crash_step old now spares has did = crashes old now has did

  runs : (steps : List Step) (old now : List Device) → AllSpare i steps → Has old → Runs steps old now → Has now
  runs [] old now spare has run = subst Has (sym run) has
  runs (step ∷ more) old now spare has run = runs more run.0 now spare.1 (does step old run.0 spare.0 has run.1) run.2

  left : (now : List Device) (image : List ℕ) → Has now → MayLeave now image → StaysAt i file image
  left [] image has may = absurd has
  left (d ∷ past) image has may = of_image d image has may

  shown : (now : List Device) → Has now → StaysAt i file (bytes_of now)
  shown [] has = absurd has
  shown (d ∷ past) has = has.seen

  pub seen : (steps : List Step) (past now : List Device) → i < length file → AllSpare i steps → Runs steps (settled file ∷ past) now → StaysAt i file (bytes_of now)
  seen steps past now low spare run = shown now (runs steps (settled file ∷ past) now spare (of_settled file (low, refl)) run)

  pub survives : (steps : List Step) (past now : List Device) (image : List ℕ) → i < length file → AllSpare i steps → Runs steps (settled file ∷ past) now → MayLeave now image → StaysAt i file image
  survives steps past now image low spare run may = left now image (runs steps (settled file ∷ past) now spare (of_settled file (low, refl)) run) may
