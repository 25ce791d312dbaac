-- A manifest that is applied as a text, and what applying one comes to.
use Rattle.std.specs.Prelude.{◌≡◌, ℕ, Bool, true, false, if◌then◌else◌, List, [], Option, Some, None, Result, Ok, Err, IsTrue, IfSome}
use Rattle.std.specs.Option.{option_map_or}
use Rattle.doc_model.specs.declared.status.Status.{Status}
use Rattle.doc_model.specs.declared.status.TheConstants.Status as status
use Rattle.manifest_rules.specs.declared.applying.Taken.{Taken}
use Rattle.manifest_rules.specs.declared.applying.Dropped.{Dropped}
use Rattle.manifest_rules.specs.declared.types.Scope.{Scope}
use Rattle.manifest_rules.specs.Catalog.{Catalog, scope_ids, collection_ids}
use Rattle.manifest_rules.specs.Form.{manifest_in}
use Rattle.manifest_rules.specs.Rules.{Step, manifest_step, lost, with_ids}
use Rattle.manifest_rules.specs.State.{are_rising}

-- what bytes come to as a manifest over the one that is there
abbrev pub text_step : Catalog → List ℕ → Result Step Status
text_step old text = option_map_or (λ new. manifest_step old new) (manifest_in text) (Err status.EINVAL)

-- a step drops these collections, and changes something or doesn't
abbrev pub Drops : Result Step Status → Dropped → Type 0
Drops (Ok step) dropped = (step.dropped ≡ dropped.collections) × (step.changed ≡ dropped.changed)
Drops (Err refusing) dropped = ⊥

-- a manifest before which nothing was dropped
abbrev pub bare : ℕ → List Scope → Catalog
bare uid scopes = record { uid = uid; scopes = scopes; dropped_scopes = []; dropped_collections = [] }

-- the step of a new uid and new scopes that change nothing, or that take the place of the old ones with these ids dropped
abbrev pub step_taken : Catalog → ℕ → List Scope → Option Taken → Step
step_taken old uid scopes None = record { after = old; dropped = []; changed = false }
step_taken old uid scopes (Some taken) = record {
  after = record { uid = uid; scopes = scopes; dropped_scopes = taken.scopes; dropped_collections = taken.collections };
  dropped = taken.dropped;
  changed = true;
}

-- a new uid and new scopes come to this
abbrev pub ComesTo : Catalog → ℕ → List Scope → Option Taken → Type 0
ComesTo old uid scopes taken = manifest_step old (bare uid scopes) ≡ Ok (step_taken old uid scopes taken)

-- all ids that were ever dropped rise
abbrev pub BothRise : Taken → Type 0
BothRise taken = IsTrue (are_rising taken.scopes) × IsTrue (are_rising taken.collections)

-- the ids that are dropped where scopes and collections of these ids take the place of a manifest's
abbrev pub taken_of : Catalog → List ℕ → List ℕ → Taken
taken_of old new_scopes new_collections = record {
  scopes = with_ids (lost (scope_ids old.scopes) new_scopes) old.dropped_scopes;
  collections = with_ids (lost (collection_ids old.scopes) new_collections) old.dropped_collections;
  dropped = lost (collection_ids old.scopes) new_collections;
}

-- the same for scopes that may
abbrev pub taken_if : Bool → Catalog → List Scope → Option Taken
taken_if may old scopes = if may then Some (taken_of old (scope_ids scopes) (collection_ids scopes)) else None
