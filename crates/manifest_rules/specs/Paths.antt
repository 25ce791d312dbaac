-- What a path of names leads to: `scope` or `scope.collection`, where an empty name is `_default`.
use Rattle.std.specs.Prelude.{ℕ, nat_eq, Bool, find, count_by, List, codes, Option, Result, Ok, Err, if◌then◌else◌}
use Rattle.std.specs.List.{before_first, after_first}
use Rattle.std.specs.Option.{option_map_or}
use Rattle.doc_model.specs.declared.status.Status.{Status}
use Rattle.doc_model.specs.declared.status.TheConstants.Status as status
use Rattle.manifest_rules.specs.declared.types.Scope.{Scope}
use Rattle.manifest_rules.specs.Rules.{same_name}

-- the dot
abbrev pub is_dot : ℕ → Bool
is_dot c = nat_eq c 46

-- a name, or `_default` where it is empty
abbrev pub named : List ℕ → List ℕ
named name = if same_name name (codes "") then codes "_default" else name

-- the scope of a name
abbrev pub scope_at : List Scope → List ℕ → Option Scope
scope_at scopes name = find (λ s. same_name s.name (named name)) scopes

-- the id of the scope that a path names before its first dot
abbrev pub scope_by : List Scope → List ℕ → Result ℕ Status
scope_by scopes path = option_map_or (λ s. Ok s.id) (scope_at scopes (before_first is_dot path)) (Err status.UNKNOWN_SCOPE)

-- the id of the collection of a name in a scope
abbrev pub collection_in : Scope → List ℕ → Result ℕ Status
collection_in s name = option_map_or (λ c. Ok c.id) (find (λ c. same_name c.name (named name)) s.collections) (Err status.UNKNOWN_COLLECTION)

-- the id of the collection that a path with just one dot names
abbrev pub collection_by : List Scope → List ℕ → Result ℕ Status
collection_by scopes path =
    if nat_eq (count_by is_dot path) 1
    then option_map_or (λ s. collection_in s (after_first is_dot path)) (scope_at scopes (before_first is_dot path)) (Err status.UNKNOWN_SCOPE)
    else Err status.EINVAL
