use Rattle.std.proofs.Common.{◌≡◌, ℕ, take}
use Rattle.std.specs.BTreeMap.{get}
use Rattle.std.specs.Ordering.{nat_cmp}
use Rattle.manifest_rules.specs.Catalog.{collections_in}
use Rattle.manifest_rules.specs.Lifetimes.{ttl_in}
use Rattle.manifest_rules.proofs.manifest.lifetimes_of.Given as goal

abbrev pub invariant-loop-scope : goal.invariant-loop-scope
invariant-loop-scope l = (id : ℕ) → get nat_cmp l.lifetimes id ≡ ttl_in (collections_in (take l.scope-index l.scopes)) id
