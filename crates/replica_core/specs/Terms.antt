-- Terms and their owners, and roles.
use Rattle.std.specs.Prelude.{ℕ, ◌%◌, ◌^◌, nat_eq, nat_le, nat_lt, Bool, true, false, ◌&&◌}
use Rattle.replica_core.specs.declared.copy.Role.{Role}
use Rattle.replica_core.specs.declared.copy.Role.TheVariants as roles

-- a term is 4 times its round, from 1, and the place of its owner; it is below 2^48
abbrev pub is_term : ℕ → Bool
is_term t = nat_le 4 t && nat_lt t (2 ^ 48)

-- the place that owns a term
abbrev pub owner : ℕ → ℕ
owner t = t % 4

-- whether a place owns a number, which is then a term
abbrev pub owns : ℕ → ℕ → Bool
owns place t = is_term t && nat_eq (owner t) place

-- whether a role is that of an active copy
abbrev pub is_active : Role → Bool
is_active roles.Active = true
is_active roles.Replica = false
is_active roles.Pending = false
is_active roles.Dead = false

-- whether a role is that of a dead copy
abbrev pub is_dead : Role → Bool
is_dead roles.Active = false
is_dead roles.Replica = false
is_dead roles.Pending = false
is_dead roles.Dead = true
