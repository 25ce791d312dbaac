-- What a crash leaves after a sync, after a crash, and after a write of nothing.
use Rattle.std.proofs.Common.{◌≡◌, inl, inr, ℕ, ◌≤◌, List, [], ◌∷◌, ◌++◌, length, refl, sym, ◌∙◌, ap, subst, arith}
use Rattle.std.proofs.lemmas.List.{ext_get_or}
use Rattle.magma_disk.specs.declared.disk.DiskDone.{DiskDone}
use Rattle.magma_disk.specs.declared.disk.DiskDone.TheVariants as done
use Rattle.magma_disk.specs.Device.{Device, IsUntouched, IsImage, StaysAt, overlaid, Torn, written}
use Rattle.magma_disk.specs.Calls.{MayLeave, bytes_of, Writes, Syncs, Crashes, Settles, SeesAnImage}
use Rattle.magma_disk.proofs.Images.{settled_only}
use Rattle.magma_disk.proofs.Bytes.{overlaid_none, beside_any}

settled_leaves : (bytes : List ℕ) (d : Device) (past now : List Device) (image : List ℕ) → Settles bytes d past now → MayLeave now image → image ≡ bytes
settled_leaves bytes d past now image (inl same) may =
    settled_only bytes image (subst (λ (e : Device). IsImage e image) same.0 (subst (λ (l : List Device). MayLeave l image) same.1 may))
settled_leaves bytes d past now image (inr new) may = settled_only bytes image (subst (λ (l : List Device). MayLeave l image) new may)

settled_bytes : (bytes : List ℕ) (d : Device) (past now : List Device) → Settles bytes d past now → bytes_of now ≡ bytes
settled_bytes bytes d past now (inl same) = ap bytes_of same.1 ∙ ap (λ (e : Device). e.bytes) same.0
settled_bytes bytes d past now (inr new) = ap bytes_of new

pub after_sync : (d : Device) (past now : List Device) (image : List ℕ) → Syncs done.Done (d ∷ past) now → MayLeave now image → image ≡ d.bytes
after_sync d past now image sync may = settled_leaves d.bytes d past now image sync may

crashed : (bytes : List ℕ) (now after : List Device) → bytes_of now ≡ bytes → ((image : List ℕ) → MayLeave now image → image ≡ bytes) → Crashes now after → bytes_of after ≡ bytes
crashed bytes [] after is only crash = ap bytes_of crash ∙ is
crashed bytes (d ∷ past) after is only crash = settled_bytes crash.0 d past after crash.2 ∙ only crash.0 crash.1

pub read_after : (d : Device) (past now after : List Device) → Syncs done.Done (d ∷ past) now → Crashes now after → bytes_of after ≡ d.bytes
read_after d past now after sync crash =
    crashed d.bytes now after (settled_bytes d.bytes d past now sync) (λ image may. settled_leaves d.bytes d past now image sync may) crash

pub after_crash : (before now : List Device) (image : List ℕ) → Crashes before now → MayLeave now image → image ≡ bytes_of now
after_crash [] now image crash may = absurd (subst (λ (l : List Device). MayLeave l image) crash may)
after_crash (d ∷ past) now image crash may = settled_leaves crash.0 d past now image crash.2 may ∙ sym (settled_bytes crash.0 d past now crash.2)

-- what comes of a torn write of nothing
torn_none : (at : ℕ) (old new : List ℕ) → length old ≤ length new → Torn at 0 old new → new ≡ old
torn_none at old new least torn =
    let most = torn.no_longer in
    let len : length new ≡ length old = omega arith in
    ext_get_or 0 new old len (λ i low. (torn.stays i (omega arith) (beside_any at i)).1)

untouched_none : (ranges : List (ℕ × ℕ)) (at i : ℕ) → IsUntouched ranges i → IsUntouched (ranges ++ (at, 0) ∷ []) i
untouched_none [] at i untouched = (beside_any at i, tt)
untouched_none (range ∷ more) at i untouched = (untouched.0, untouched_none more at i untouched.1)

none_left : (at : ℕ) (bytes : List ℕ) (d : Device) (image : List ℕ) → bytes ≡ d.bytes → IsImage d d.bytes → IsImage (written at 0 bytes d) image → IsImage d image
none_left at bytes d image is sees left =
    let most = left.no_longer in
    let seen = sees.no_longer in
    record {
      no_longer = omega arith;
      stays = λ i low untouched. subst (λ (l : List ℕ). StaysAt i l image) is (left.stays i low (untouched_none d.touched at i untouched));
    }

pub nothing_read : (at : ℕ) (answer : DiskDone) (d : Device) (past now : List Device) → Writes at [] answer (d ∷ past) now → bytes_of now ≡ d.bytes
nothing_read at done.Done d past now step = ap bytes_of step ∙ overlaid_none d.bytes at [] refl
nothing_read at done.Failed d past now (inl same) = ap bytes_of same
nothing_read at done.Failed d past now (inr new) = ap bytes_of new.3 ∙ torn_none at d.bytes new.0 new.1 new.2

pub nothing_left : (at : ℕ) (answer : DiskDone) (d : Device) (past now : List Device) (image : List ℕ) → SeesAnImage (d ∷ past) → Writes at [] answer (d ∷ past) now → MayLeave now image → IsImage d image
nothing_left at done.Done d past now image sees step may =
    none_left at (overlaid d.bytes at []) d image (overlaid_none d.bytes at [] refl) sees (subst (λ (l : List Device). MayLeave l image) step may)
nothing_left at done.Failed d past now image sees (inl same) may = subst (λ (l : List Device). MayLeave l image) same may
nothing_left at done.Failed d past now image sees (inr new) may =
    none_left at new.0 d image (torn_none at d.bytes new.0 new.1 new.2) sees (subst (λ (l : List Device). MayLeave l image) new.3 may)
