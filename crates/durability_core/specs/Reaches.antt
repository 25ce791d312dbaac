-- What is known of places, as a tracker keeps it.
use Rattle.std.specs.Prelude.{ℕ, nat_le, Bool, List, set, if◌then◌else◌}
use Rattle.durability_core.specs.declared.places.Reach.{Reach}
use Rattle.durability_core.specs.Ready.{Known}
use Rattle.durability_core.specs.Tracking.{known_at, raised}

-- how far a place is known to be
abbrev pub known_of : Reach → Known
known_of r = record { mem = r.mem; disk = r.disk }

-- whether a place is known to have a position, on disk or in memory
abbrev pub has_reached : (ℕ → Known) → Bool → ℕ → ℕ → Bool
has_reached known on_disk position place =
    nat_le position (if on_disk then (known place).disk else (known place).mem)

-- what is known of places, once one has told how far it is
abbrev pub raised_in : List Known → ℕ → ℕ → ℕ → List Known
raised_in known place mem disk = set known place (raised mem disk (known_at known place))
