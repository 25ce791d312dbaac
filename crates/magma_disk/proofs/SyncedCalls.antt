-- A write and then a sync, on a device all of which is on the disk.
use Rattle.std.proofs.Common.{◌≡◌, ◌⊎◌, inl, inr, ℕ, List, [], ◌∷◌, length, take, refl, sym, subst}
use Rattle.magma_disk.specs.declared.disk.DiskDone.{DiskDone}
use Rattle.magma_disk.specs.declared.disk.DiskDone.TheVariants as done
use Rattle.magma_disk.specs.Device.{Device, IsImage, settled, overlaid, Torn, written}
use Rattle.magma_disk.specs.Calls.{bytes_of, MayLeave, Writes, Syncs, Settles, SeesAnImage, IsSeen}
use Rattle.magma_disk.specs.Moments.{LeaveOnly, Throughout, IsSettled}
use Rattle.magma_disk.proofs.Moments.{started, one_more, no_more}
use Rattle.magma_disk.proofs.Images.{settled_only, torn_image, torn_same}
use Rattle.magma_disk.proofs.Bytes.{overlaid_torn}

-- nothing changed where a settled device is torn nowhere
settled_leaves : (P : List ℕ → Type 0) (file : List ℕ) (h : List Device) → IsSettled file h → P file → LeaveOnly P (take 1 h)
settled_leaves P file [] is holds = tt
settled_leaves P file (d ∷ past) is holds =
    (λ image left. subst P (sym (settled_only file image (subst (λ (e : Device). IsImage e image) is left))) holds, tt)

-- a sync of bytes that have P
module _ (P : List ℕ → Type 0) (bytes : List ℕ) (has : P bytes) where
  settles : (h : List Device) (d : Device) (past now : List Device) → (h ≡ [] → ⊥) → Throughout P h (d ∷ past) → Settles bytes d past now → Throughout P h now
  settles h d past now told run (inl same) = no_more P h (d ∷ past) now run same.1
  settles h d past now told run (inr new) = one_more P h (d ∷ past) now (settled bytes) told run new (λ image left. subst P (sym (settled_only bytes image left)) has)

  ends : (d : Device) (past now : List Device) → Settles bytes d past now → IsSettled bytes now
  ends d past now (inl same) = subst (IsSettled bytes) (sym same.1) same.0
  ends d past now (inr new) = subst (IsSettled bytes) (sym new) refl

  syncs : (r : DiskDone) (h : List Device) (d : Device) (past now : List Device) → (h ≡ [] → ⊥) → d.bytes ≡ bytes → Throughout P h (d ∷ past) → Syncs r (d ∷ past) now → Throughout P h now
  syncs done.Done h d past now told is run sync = settles h d past now told run (subst (λ (l : List ℕ). Settles l d past now) is sync)
  syncs done.Failed h d past now told is run sync = no_more P h (d ∷ past) now run sync

-- a call that brought a settled device to one state more or left it, and whose images have P
module _ (P : List ℕ → Type 0) (file : List ℕ) (was : P file) where
  abbrev Goes : List Device → List Device → Type 0
  Goes h now = (now ≡ h) ⊎ ((e : Device) × (now ≡ e ∷ h) × ((image : List ℕ) → IsImage e image → P image))

  pub goes : (h now : List Device) → (h ≡ [] → ⊥) → IsSettled file h → Goes h now → Throughout P h now
  goes h now told is (inl same) = no_more P h h now (started P h (settled_leaves P file h is was)) same
  goes h now told is (inr new) = one_more P h h now new.0 told (started P h (settled_leaves P file h is was)) new.1 new.2

  pub then_syncs : (r : DiskDone) (h : List Device) (e : Device) (mid now : List Device) → (h ≡ [] → ⊥) → IsSettled file h → mid ≡ e ∷ h → ((image : List ℕ) → IsImage e image → P image) → P e.bytes → Syncs r mid now → Throughout P h now
  then_syncs r h e mid now told is step images has sync =
      syncs P e.bytes has r h e h now told refl (subst (Throughout P h) step (goes h mid told is (inr (e, step, images)))) (subst (λ (l : List Device). Syncs r l now) step sync)

-- states are told
cons_told : (d : Device) (past : List Device) → (d ∷ past) ≡ [] → ⊥
cons_told d past none = cc

-- a disk that tells nothing
silent : (P : List ℕ → Type 0) (now : List Device) → now ≡ [] → Throughout P [] now
silent P now is = record { added = []; goes_on = is; begins = tt; each = tt; silent = λ none. is }

module _ (at : ℕ) (piece file : List ℕ) where
  abbrev Leaves : List ℕ → Type 0
  Leaves = Torn at (length piece) file

  torn_images : (bytes : List ℕ) (d e : Device) → d ≡ settled file → Leaves bytes → e ≡ written at (length piece) bytes d → (image : List ℕ) → IsImage e image → Leaves image
  torn_images bytes d e is torn step image left =
      torn_image at (length piece) file bytes image torn (subst (λ (x : Device). IsImage (written at (length piece) bytes x) image) is (subst (λ (x : Device). IsImage x image) step left))

  done_bytes : (d : Device) → d ≡ settled file → Leaves (overlaid d.bytes at piece)
  done_bytes d is = subst (λ (x : Device). Leaves (overlaid x.bytes at piece)) (sym is) (overlaid_torn file at piece)

  pub write_failed : (h now : List Device) → IsSettled file h → Writes at piece done.Failed h now → Throughout Leaves h now
  write_failed [] now is step = silent Leaves now step
  write_failed (d ∷ past) now is (inl same) = goes Leaves file (torn_same at (length piece) file) (d ∷ past) now (cons_told d past) is (inl same)
  write_failed (d ∷ past) now is (inr new) =
      let torn : Leaves new.0 = subst (λ (x : Device). Torn at (length piece) x.bytes new.0) is new.2 in
      goes Leaves file (torn_same at (length piece) file) (d ∷ past) now (cons_told d past) is (inr (written at (length piece) new.0 d, new.3, torn_images new.0 d _ is torn refl))

  pub write_done : (r : DiskDone) (h mid now : List Device) → IsSettled file h → Writes at piece done.Done h mid → Syncs r mid now → Throughout Leaves h now
  write_done r [] mid now is step sync = silent Leaves now (subst (λ (l : List Device). Syncs r l now) step sync)
  write_done r (d ∷ past) mid now is step sync =
      then_syncs Leaves file (torn_same at (length piece) file) r (d ∷ past) (written at (length piece) (overlaid d.bytes at piece) d) mid now (cons_told d past) is step
      (torn_images (overlaid d.bytes at piece) d _ is (done_bytes d is) refl) (done_bytes d is) sync

  pub write_settles : (h mid now : List Device) → IsSettled file h → Writes at piece done.Done h mid → Syncs done.Done mid now → IsSettled (overlaid file at piece) now
  write_settles [] mid now is step sync = subst (IsSettled (overlaid file at piece)) (sym (subst (λ (l : List Device). Syncs done.Done l now) step sync)) tt
  write_settles (d ∷ past) mid now is step sync =
      subst (λ (x : Device). IsSettled (overlaid x.bytes at piece) now) is
      (ends (λ _. Unit {0}) (overlaid d.bytes at piece) tt _ (d ∷ past) now (subst (λ (l : List Device). Syncs done.Done l now) step sync))

-- a sync of what a crash may leave now
pub settle_moments : (r : DiskDone) (h now : List Device) → SeesAnImage h → Syncs r h now → Throughout (MayLeave h) h now
settle_moments r [] now sees sync = silent (MayLeave []) now sync
settle_moments r (d ∷ past) now sees sync = syncs (IsImage d) d.bytes sees r (d ∷ past) d past now (cons_told d past) refl (started (IsImage d) (d ∷ past) ((λ image left. left), tt)) sync

pub settle_done : (h now : List Device) → SeesAnImage h → Syncs done.Done h now → (file : List ℕ) → file ≡ bytes_of h → IsSeen file h × IsSettled file now
settle_done [] now sees sync file is = (tt, subst (IsSettled file) (sym sync) tt)
settle_done (d ∷ past) now sees sync file is =
    ((is, subst (IsImage d) (sym is) sees), subst (λ (l : List ℕ). IsSettled l now) (sym is) (ends (λ _. Unit {0}) d.bytes tt d past now sync))
