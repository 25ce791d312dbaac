-- The rules of a manifest, and what a new one comes to over the one that is there.
use Rattle.std.specs.Prelude.{◌≡◌, ℕ, nat_eq, nat_le, nat_lt, Bool, true, false, ◌&&◌, ◌||◌, not, filter, List, [], ◌∷◌, map, length, codes, Result, Ok, Err, if◌then◌else◌}
use Rattle.std.specs.List.{list_all, list_any, flat_map}
use Rattle.std.specs.Cmp.Lexicographic.{pointwise}
use Rattle.doc_model.specs.declared.status.Status.{Status}
use Rattle.doc_model.specs.declared.status.Refused.{Refused}
use Rattle.doc_model.specs.declared.status.Refused.TheVariants as refused
use Rattle.doc_model.specs.declared.status.TheConstants.Status as status
use Rattle.manifest_rules.specs.declared.types.Scope.{Scope}
use Rattle.manifest_rules.specs.declared.types.Collection.{Collection}
use Rattle.manifest_rules.specs.declared.types.TheConstants.{NAME_LIMIT, COUNT_LIMIT, DROPPED_LIMIT}
use Rattle.doc_model.specs.declared.limits.TheConstants.{MANIFEST_LIMIT}
use Rattle.manifest_rules.specs.Catalog.{Catalog, scope_ids, collections_in, collection_ids}
use Rattle.manifest_rules.specs.Text.{text_of}

-- whether two names are the same
abbrev pub same_name : List ℕ → List ℕ → Bool
same_name a b = pointwise nat_eq a b

-- letters of ASCII, digits, `_`, `-` and `%`
abbrev pub is_name_byte : ℕ → Bool
is_name_byte c =
    (nat_le 65 c && nat_le c 90) || (nat_le 97 c && nat_le c 122) || (nat_le 48 c && nat_le c 57) || nat_eq c 95 || nat_eq c 45 || nat_eq c 37

abbrev pub is_name : List ℕ → Bool
is_name name = nat_le 1 (length name) && nat_le (length name) NAME_LIMIT && list_all is_name_byte name

-- each element once
abbrev pub are_distinct : {A : Type 0} → (A → A → Bool) → List A → Bool
are_distinct same [] = true
are_distinct same (x ∷ xs) = not (list_any (same x) xs) && are_distinct same xs

-- ---- rules on a manifest alone

-- names have their form
abbrev pub names_formed : List Scope → Bool
names_formed scopes = list_all (λ s. is_name s.name) scopes && list_all (λ c. is_name c.name) (collections_in scopes)

-- no two scopes share an id, no two a name
abbrev pub scopes_distinct : List Scope → Bool
scopes_distinct scopes = are_distinct nat_eq (scope_ids scopes) && are_distinct same_name (map (λ s. s.name) scopes)

-- no two collections of a scope share a name
abbrev pub names_differ_in : Scope → Bool
names_differ_in scope = are_distinct same_name (map (λ c. c.name) scope.collections)

-- no two collections share an id, and no two of one scope a name
abbrev pub collections_distinct : List Scope → Bool
collections_distinct scopes =
    are_distinct nat_eq (collection_ids scopes) && list_all names_differ_in scopes

-- the ids 1 to 7 are kept for the system
abbrev pub is_reserved : ℕ → Bool
is_reserved id = nat_le 1 id && nat_le id 7

abbrev pub none_reserved : List Scope → Bool
none_reserved scopes = not (list_any is_reserved (scope_ids scopes)) && not (list_any is_reserved (collection_ids scopes))

-- a scope 0 is there, and its name is `_default`
abbrev pub has_default_scope : List Scope → Bool
has_default_scope scopes = list_any (λ s. nat_eq s.id 0 && same_name s.name (codes "_default")) scopes

-- a collection 0 may be there, as `_default` in scope 0
abbrev pub default_is_in_place : List Scope → Bool
default_is_in_place scopes =
    list_all (λ s. list_all (λ c. not (nat_eq c.id 0) || (nat_eq s.id 0 && same_name c.name (codes "_default"))) s.collections) scopes

-- there aren't too many scopes and collections, and the text isn't too long
abbrev pub is_small : Catalog → Bool
is_small m =
    nat_le (length m.scopes) COUNT_LIMIT && nat_le (length (collections_in m.scopes)) COUNT_LIMIT && nat_le (length (text_of m)) MANIFEST_LIMIT

-- the rules on scopes and collections alone
abbrev pub obeys_alone : List Scope → Bool
obeys_alone scopes =
    names_formed scopes && scopes_distinct scopes && collections_distinct scopes && none_reserved scopes && has_default_scope scopes && default_is_in_place scopes

-- ---- rules on a manifest that comes after another

-- a scope that is in both keeps its name
abbrev pub scopes_keep_names : List Scope → List Scope → Bool
scopes_keep_names old new = list_all (λ s. list_all (λ t. not (nat_eq s.id t.id) || same_name s.name t.name) old) new

-- a collection with the id of its scope
abbrev pub placed : List Scope → List (ℕ × Collection)
placed scopes = flat_map (λ s. map (λ c. (s.id, c)) s.collections) scopes

-- a collection that is in both keeps its name and its scope
abbrev pub collections_stay : List Scope → List Scope → Bool
collections_stay old new =
    list_all (λ x. list_all (λ y. not (nat_eq x.1.id y.1.id) || (nat_eq x.0 y.0 && same_name x.1.name y.1.name)) (placed old)) (placed new)

-- no id that was ever dropped is there again
abbrev pub none_revived : Catalog → List Scope → Bool
none_revived old scopes =
    not (list_any (λ id. list_any (nat_eq id) old.dropped_scopes) (scope_ids scopes))
    && not (list_any (λ id. list_any (nat_eq id) old.dropped_collections) (collection_ids scopes))

-- the ids of a list that aren't in another
abbrev pub lost : List ℕ → List ℕ → List ℕ
lost old new = filter (λ id. not (list_any (nat_eq id) new)) old

-- a number added to a list in rising order
abbrev pub with_id : ℕ → List ℕ → List ℕ
with_id id [] = id ∷ []
with_id id (x ∷ xs) = if nat_lt id x then id ∷ x ∷ xs else (if nat_eq id x then x ∷ xs else x ∷ with_id id xs)

-- numbers added to a list in rising order
abbrev pub with_ids : List ℕ → List ℕ → List ℕ
with_ids [] dropped = dropped
with_ids (id ∷ ids) dropped = with_ids ids (with_id id dropped)

-- the manifest that a new one leaves: its own uid and scopes, and all ids that were ever dropped
abbrev pub succeeding : Catalog → Catalog → Catalog
succeeding old new = record {
  uid = new.uid;
  scopes = new.scopes;
  dropped_scopes = with_ids (lost (scope_ids old.scopes) (scope_ids new.scopes)) old.dropped_scopes;
  dropped_collections = with_ids (lost (collection_ids old.scopes) (collection_ids new.scopes)) old.dropped_collections;
}

-- not too many ids were dropped
abbrev pub few_dropped : Catalog → Bool
few_dropped m = nat_le (length m.dropped_scopes) DROPPED_LIMIT && nat_le (length m.dropped_collections) DROPPED_LIMIT

-- the rules on scopes and collections over an old manifest
abbrev pub follows : Catalog → List Scope → Bool
follows old scopes = scopes_keep_names old.scopes scopes && collections_stay old.scopes scopes && none_revived old scopes

-- the rules of a new manifest over an old one
abbrev pub obeys : Catalog → Catalog → Bool
obeys old new = is_small new && obeys_alone new.scopes && follows old new.scopes && few_dropped (succeeding old new)

abbrev pub same_collection : Collection → Collection → Bool
same_collection a b = same_name a.name b.name && nat_eq a.id b.id && nat_eq a.max_ttl b.max_ttl

abbrev pub same_scope : Scope → Scope → Bool
same_scope a b = same_name a.name b.name && nat_eq a.id b.id && pointwise same_collection a.collections b.collections

-- what a new manifest does: the manifest from then on, the collections that are dropped by it, and whether it changes any
pub record Step : Type 0 where
  pub after : Catalog
  pub dropped : List ℕ
  pub changed : Bool

-- What a new manifest comes to over the one that is there: a smaller uid is refused, an equal one changes nothing where
-- all is equal, and a greater one takes the place where it obeys the rules.
abbrev pub manifest_step : Catalog → Catalog → Result Step Status
manifest_step old new =
    if nat_lt new.uid old.uid then Err status.MANIFEST_IS_AHEAD
    else (if nat_eq new.uid old.uid
    then (if pointwise same_scope old.scopes new.scopes then Ok (record { after = old; dropped = []; changed = false }) else Err status.CANNOT_APPLY_MANIFEST)
    else (if obeys old new
    then Ok (record { after = succeeding old new; dropped = lost (collection_ids old.scopes) (collection_ids new.scopes); changed = true })
    else Err status.CANNOT_APPLY_MANIFEST))

-- the first manifest: scope 0 and in it collection 0
abbrev pub first_catalog : Catalog
first_catalog = record {
  uid = 0;
  scopes = record { name = codes "_default"; id = 0; collections = record { name = codes "_default"; id = 0; max_ttl = 0 } ∷ [] } ∷ [];
  dropped_scopes = [];
  dropped_collections = [];
}

-- a new manifest was refused by this status, or for want of memory
abbrev pub IsRefusedStep : Result Step Status → Refused → Type 0
IsRefusedStep step (refused.Status s) = step ≡ Err s
IsRefusedStep step refused.NoMemory = Unit {0}
