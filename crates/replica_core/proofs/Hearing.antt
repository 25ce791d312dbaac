-- A dead copy hears nothing.
use Rattle.std.specs.Prelude.{nat_eq, if◌then◌else◌}
use Rattle.std.specs.List.{list_any}
use Rattle.std.proofs.Common.{◌≡◌, Bool, true, false, refl, ap}
use Rattle.durability_core.specs.Chains.{named_places}
use Rattle.replica_core.specs.declared.copy.CopyCore.{CopyCore}
use Rattle.replica_core.specs.declared.copy.Role.TheVariants as roles
use Rattle.replica_core.specs.declared.messages.MessageHead.{MessageHead}
use Rattle.replica_core.specs.declared.messages.Heard.{Heard}
use Rattle.replica_core.specs.declared.messages.Heard.TheVariants as hearing
use Rattle.replica_core.specs.Hearing.{heard_as, heard}

either_ignores : (b : Bool) (h : Heard) → h ≡ hearing.Ignore
    → (if b then h else hearing.Ignore) ≡ hearing.Ignore
either_ignores true h e = e
either_ignores false h e = refl

pub dead_hears : (core : CopyCore) (head : MessageHead) → core.role ≡ roles.Dead
    → heard core head ≡ hearing.Ignore
dead_hears core head e =
    either_ignores (list_any (nat_eq head.from) (named_places core.chain))
    (heard_as core.role core head) (ap (λ role. heard_as role core head) e)
