-- What a copy has that was just begun.
use Rattle.std.specs.Prelude.{◌≡◌, ℕ, ◌+◌, Bool, true, false, refl, if◌then◌else◌}
use Rattle.std.proofs.Common.{ap, subst}
use Rattle.vb_log.specs.Logs.{LogKind}
use Rattle.durability_core.specs.declared.chain.Chain.{Chain}
use Rattle.copy_model.specs.Copies.{Pair, Copy, Chance, Fine, ReadFails, DiskFails, NoMemory}
use Rattle.copy_model.specs.Openings.{new_copy, copy_on, raised, is_spent, spent_number}
use Rattle.copy_model.specs.Openings.{Opening, Opened, Spent, Stopped, opened_by}
use Rattle.copy_model.specs.Openings.{IsOpenedOn, IsNew}

module _ {L Y : Type 0} where
  -- the copy that an opening comes to, or this one
  abbrev copy_in : Copy L Y → Opening L Y → Copy L Y
  copy_in c (Opened x) = x
  copy_in c (Spent number) = c
  copy_in c (Stopped old new) = c

  module _ (chain : Chain) (place number : ℕ) (layout : Y) (d : Pair L Y) (c : Copy L Y) where
    abbrev begun : Copy L Y
    begun = copy_on chain place number false (raised layout d)

    begun_well : is_spent d ≡ false → IsOpenedOn d begun
    begun_well u = record {
      unspent = u;
      role = refl;
      whole = refl;
      promise = refl;
      accepted = refl;
      log = refl;
      incarnation = refl;
      tickets = refl;
      torn = refl;
    }

    opened_well_on : (b : Bool) → is_spent d ≡ b
        → (if b then Spent (spent_number d) else Opened begun) ≡ Opened c → IsOpenedOn d c
    opened_well_on true u e = absurd (cc)
    opened_well_on false u e = subst (IsOpenedOn d) (ap (copy_in c) e) (begun_well u)

    pub opened_on : (chance : Chance) → opened_by chance chain place number layout d ≡ Opened c
        → IsOpenedOn d c
    opened_on Fine e = opened_well_on (is_spent d) refl e
    opened_on ReadFails e = absurd (cc)
    opened_on DiskFails e = absurd (cc)
    opened_on NoMemory e = absurd (cc)

pub begins_new : {L Y : Type 0} (k : LogKind L) (chain : Chain) (place number : ℕ) (layout : Y)
    → IsNew k (new_copy k chain place number layout)
begins_new k chain place number layout = record {
  role = refl;
  whole = refl;
  promise = refl;
  accepted = refl;
  log = refl;
  incarnation = refl;
  tickets = refl;
  torn = refl;
}
