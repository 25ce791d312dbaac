use Rattle.std.proofs.Common.{◌≡◌, ℕ, take}
use Rattle.std.specs.Option.{option_or}
use Rattle.std.specs.BTreeMap.{get}
use Rattle.std.specs.Ordering.{nat_cmp}
use Rattle.manifest_rules.specs.Lifetimes.{ttl_in}
use Rattle.manifest_rules.proofs.manifest.add_lifetimes.Given as goal

abbrev pub invariant-loop-collection : goal.invariant-loop-collection
invariant-loop-collection l = (id : ℕ) → get nat_cmp l.lifetimes id ≡ option_or (get nat_cmp l.initial.lifetimes id) (ttl_in (take l.collection-index l.collections) id)
