-- Manifests that are applied one after another.
use Rattle.std.specs.Prelude.{◌≡◌, ℕ, nat_eq, Bool, true, false, not, ◌&&◌, ◌||◌, IsTrue, List, [], ◌∷◌, ◌++◌, Result, Ok, Err}
use Rattle.std.specs.List.{list_any}
use Rattle.doc_model.specs.declared.status.Status.{Status}
use Rattle.manifest_rules.specs.Catalog.{Catalog, scope_ids, collection_ids}
use Rattle.manifest_rules.specs.Rules.{Step, manifest_step}
use Rattle.manifest_rules.specs.State.{is_kept}

-- the manifest that a step leaves; a refused one leaves the old manifest
abbrev pub left_by : Catalog → Result Step Status → Catalog
left_by old (Ok step) = step.after
left_by old (Err s) = old

-- the manifest that is left when others were applied one after another
abbrev pub run : Catalog → List Catalog → Catalog
run m [] = m
run m (new ∷ more) = run (left_by m (manifest_step m new)) more

-- the manifest with no ids that were ever dropped
abbrev pub without_dropped : Catalog → Catalog
without_dropped m = record { uid = m.uid; scopes = m.scopes; dropped_scopes = []; dropped_collections = [] }

-- the ids of the scopes that a manifest has, and those of its collections
abbrev pub scopes_there : Catalog → List ℕ
scopes_there m = scope_ids m.scopes

abbrev pub collections_there : Catalog → List ℕ
collections_there m = collection_ids m.scopes

-- whether a manifest has an id among these
abbrev pub has_among : (Catalog → List ℕ) → Catalog → ℕ → Bool
has_among ids m id = list_any (nat_eq id) (ids m)

-- Of three points along manifests that are applied one after another: an id that is there at the first and isn't at the
-- second isn't there at the third.
abbrev pub NeverBack : (Catalog → List ℕ) → Type 0
NeverBack ids =
    (start : Catalog) (before middle later : List Catalog) (id : ℕ) → IsTrue (is_kept start)
    → has_among ids (run start before) id ≡ true
    → has_among ids (run start (before ++ middle)) id ≡ false
    → has_among ids (run start (before ++ middle ++ later)) id ≡ false

-- Of two points along manifests that are applied one after another: an id that is among the dropped ones at the first isn't
-- there at the second.
abbrev pub StaysDropped : (Catalog → List ℕ) → (Catalog → List ℕ) → Type 0
StaysDropped ids dropped =
    (start : Catalog) (before later : List Catalog) (id : ℕ) → IsTrue (is_kept start)
    → IsTrue (has_among dropped (run start before) id)
    → has_among ids (run (run start before) later) id ≡ false

-- After a manifest was applied, an id is among the dropped ones where it was among them before, or where it was there
-- and isn't any more.
abbrev pub DropsLost : (Catalog → List ℕ) → (Catalog → List ℕ) → Type 0
DropsLost ids dropped =
    (m new : Catalog) (id : ℕ)
    → has_among dropped (left_by m (manifest_step m new)) id
    ≡ (has_among dropped m id || (has_among ids m id && not (has_among ids (left_by m (manifest_step m new)) id)))
