-- What putting a vbucket's term on disk comes to, as it is opened.
use Rattle.std.specs.Prelude.{◌≡◌, ◌⊎◌, ◌<◌, ℕ, nat_lt, Bool, true, false, cond, List, Option, Some, None, Result, Ok, Err, refl}
use Rattle.std.proofs.Common.{sym, ◌∙◌, ap, subst, inl, inr, arith}
use Rattle.std.proofs.lemmas.Bool.Decides.{nat_tests}
use Rattle.magma_disk.specs.Counting.{Counts}
use Rattle.magma_disk.specs.Device.{Device}
use Rattle.magma_disk.specs.Moments.{Throughout}
use Rattle.magma_disk.proofs.Moments.{weaker}
use Rattle.magma_store.specs.declared.fault.StoreFault.{StoreFault}
use Rattle.magma_store.specs.declared.fault.StoreFault.TheVariants as fault
use Rattle.vb_log.specs.Content.{Content}
use Rattle.vb_log.specs.Logs.{folds}
use Rattle.copy_model.specs.Copies.{Copy, Pair, Luck, fails_disk}
use Rattle.copy_model.specs.Disk.{Put, Done, NoRoom, Failed, pair_at, on_disk, needed, free, write_log, dead_with}
use Rattle.vb_core.specs.Beginning.{LeavesTerm, PutsFirst}
use Rattle.vb_core.specs.Coming.{next_layout}
use Rattle.vb_core.specs.Flat.{flat}
use Rattle.vb_core.specs.Means.{Stands}
use Rattle.vb_core.specs.Openings.{put_on_disk}
use Rattle.vb_core.specs.Pairs.{HoldsOf}
use Rattle.vb_core.specs.Putting.{IsPut, Puts}
use Rattle.vb_core.specs.Shown.{ShownVb}
use Rattle.vb_core.proofs.Flushing.{done_is}

-- ---- what a write comes to

failed_of : (a b : Bool) (x y z after : Copy Content ℕ) (n f : ℕ) → cond a (cond b (Failed x) (NoRoom n f)) (cond b (Failed y) (Done z)) ≡ Failed after → (x ≡ after) ⊎ (y ≡ after)
failed_of true true x y z after n f e = inl (cc)
failed_of true false x y z after n f e = absurd (cc)
failed_of false true x y z after n f e = inr (cc)
failed_of false false x y z after n f e = absurd (cc)

full_of : (a b : Bool) (x y z : Copy Content ℕ) (n f m g : ℕ) → cond a (cond b (Failed x) (NoRoom n f)) (cond b (Failed y) (Done z)) ≡ NoRoom m g → (a ≡ true) × (n ≡ m) × (f ≡ g)
full_of true true x y z n f m g e = absurd (cc)
full_of true false x y z n f m g e = (refl, cc, cc)
full_of false true x y z n f m g e = absurd (cc)
full_of false false x y z n f m g e = absurd (cc)

below : (a b : ℕ) → nat_lt a b ≡ true → a < b
below a b e = grind (arith, nat_tests)

-- ---- what a crash leaves

-- the copy that the write leaves holds the old pair, or the new one
left_dead : (copy after : Copy Content ℕ) (luck : Luck ℕ) (image : List ℕ) → luck.layout ≡ next_layout copy
    → (dead_with None copy ≡ after) ⊎ (dead_with (Some (pair_at copy.accepted luck.layout copy)) copy ≡ after) → HoldsOf copy image ⊎ HoldsOf after image → LeavesTerm copy image
left_dead copy after luck image lays which (inl old) = inl old
left_dead copy after luck image lays (inl is) (inr now) = go (subst (λ (c : Copy Content ℕ). HoldsOf c image) (sym is) now)
  where
    go : HoldsOf (dead_with None copy) image → LeavesTerm copy image
    go (d, inl e, h) = inl (d, inl e, h)
    go (d, inr e, h) = absurd (cc)
left_dead copy after luck image lays (inr is) (inr now) =
    go (subst (λ n. HoldsOf (dead_with (Some (pair_at copy.accepted n copy)) copy) image) lays (subst (λ (c : Copy Content ℕ). HoldsOf c image) (sym is) now))
  where
    some_is : (x y : Pair Content ℕ) → Some x ≡ Some y → x ≡ y
    some_is x y e = cc

    go : HoldsOf (dead_with (Some (pair_at copy.accepted (next_layout copy) copy)) copy) image → LeavesTerm copy image
    go (d, inl e, h) = inl (d, inl e, h)
    go (d, inr e, h) = inr (d, inl (some_is (pair_at copy.accepted (next_layout copy) copy) d e), h)

-- what a vbucket's answer hands back
abbrev pub back_of : {D : Type 0} → ShownVb D → Result (Unit {0}) StoreFault → Result (ShownVb D) StoreFault × Option D
back_of new (Ok u) = (Ok new, None)
back_of new (Err why) = (Err why, Some new.store.disk)

first_by : {D : Type 0} (states : D → List Device) (copy : Copy Content ℕ) (old new : ShownVb D) (luck : Luck ℕ) (r : Result (Unit {0}) StoreFault) (put : Put (Copy Content ℕ)) → luck.layout ≡ next_layout copy
    → write_log folds (flat copy.chain) luck copy.accepted copy ≡ put → IsPut states copy old new put r → PutsFirst states (states old.store.disk) copy (back_of new r).0 (back_of new r).1
first_by {D} states copy old new luck (Ok u) (Done after) lays e is =
    let same : after ≡ put_on_disk copy = done_is copy after luck copy.accepted e ∙ ap (λ n. on_disk (pair_at copy.accepted n copy) copy) lays in (
      subst (λ (c : Copy Content ℕ). Stands states new c) same is.0,
      subst (λ (c : Copy Content ℕ). Throughout (λ image. HoldsOf copy image ⊎ HoldsOf c image) (states old.store.disk) (states new.store.disk)) same is.1,
    )
first_by states copy old new luck (Ok u) (NoRoom n f) lays e is = absurd is
first_by states copy old new luck (Ok u) (Failed after) lays e is = absurd is
first_by states copy old new luck (Err fault.DiskFault) (Failed after) lays e is =
    let which = failed_of (nat_lt (free (flat copy.chain) copy) (needed folds (flat copy.chain) copy)) (fails_disk luck.chance) (dead_with None copy) (dead_with (Some (pair_at copy.accepted luck.layout copy)) copy)
    (on_disk (pair_at copy.accepted luck.layout copy) copy) after (needed folds (flat copy.chain) copy) (free (flat copy.chain) copy) e in
    weaker (λ image. HoldsOf copy image ⊎ HoldsOf after image) (LeavesTerm copy) (states old.store.disk) (states new.store.disk) (λ image h. left_dead copy after luck image lays which h) is.1
first_by states copy old new luck (Err fault.DiskFault) (Done after) lays e is = absurd is
first_by states copy old new luck (Err fault.DiskFault) (NoRoom n f) lays e is = absurd is
first_by states copy old new luck (Err (fault.Full asked left)) (NoRoom n f) lays e is =
    let full = full_of (nat_lt (free (flat copy.chain) copy) (needed folds (flat copy.chain) copy)) (fails_disk luck.chance) (dead_with None copy) (dead_with (Some (pair_at copy.accepted luck.layout copy)) copy)
    (on_disk (pair_at copy.accepted luck.layout copy) copy) (needed folds (flat copy.chain) copy) (free (flat copy.chain) copy) n f e in
    let asks : asked ≡ needed folds (flat copy.chain) copy = is.0 ∙ sym full.1 in
    let lefts : left ≡ free (flat copy.chain) copy = is.1 ∙ sym full.2 in
    let less : free (flat copy.chain) copy < needed folds (flat copy.chain) copy = below (free (flat copy.chain) copy) (needed folds (flat copy.chain) copy) full.0 in (
      (is.2).same,
      record { asked_is = asks; left_is = lefts; full = subst (λ a. a < asked) (sym lefts) (subst (λ b. free (flat copy.chain) copy < b) (sym asks) less) },
    )
first_by states copy old new luck (Err (fault.Full asked left)) (Done after) lays e is = absurd is
first_by states copy old new luck (Err (fault.Full asked left)) (Failed after) lays e is = absurd is
first_by states copy old new luck (Err fault.NoMemory) (Done after) lays e is = is.same
first_by states copy old new luck (Err fault.NoMemory) (NoRoom n f) lays e is = is.same
first_by states copy old new luck (Err fault.NoMemory) (Failed after) lays e is = is.same
first_by states copy old new luck (Err (fault.Damaged place found expected)) (Done after) lays e is = absurd is
first_by states copy old new luck (Err (fault.Damaged place found expected)) (NoRoom n f) lays e is = absurd is
first_by states copy old new luck (Err (fault.Damaged place found expected)) (Failed after) lays e is = absurd is
first_by states copy old new luck (Err (fault.Spent found)) (Done after) lays e is = absurd is
first_by states copy old new luck (Err (fault.Spent found)) (NoRoom n f) lays e is = absurd is
first_by states copy old new luck (Err (fault.Spent found)) (Failed after) lays e is = absurd is
first_by states copy old new luck (Err fault.OtherChain) (Done after) lays e is = absurd is
first_by states copy old new luck (Err fault.OtherChain) (NoRoom n f) lays e is = absurd is
first_by states copy old new luck (Err fault.OtherChain) (Failed after) lays e is = absurd is

pub puts_first : {D : Type 0} (states : D → List Device) (counts : D → Counts) (copy : Copy Content ℕ) (old new : ShownVb D) (r : Result (Unit {0}) StoreFault) → Puts states counts copy old new r
    → PutsFirst states (states old.store.disk) copy (back_of new r).0 (back_of new r).1
puts_first states counts copy old new r p = first_by states copy old new p.luck r (write_log folds (flat copy.chain) p.luck copy.accepted copy) p.layout refl p.goes
