-- Ids that were dropped along manifests that are applied one after another.
use Rattle.std.proofs.Common.{◌≡◌, ℕ, Bool, true, false, not, ◌&&◌, ◌||◌, List, [], ◌∷◌, ◌++◌, refl, sym, ap, ◌∙◌, true≢false}
use Rattle.manifest_rules.specs.Catalog.{Catalog, scope_ids, collection_ids}
use Rattle.manifest_rules.specs.Rules.{lost, succeeding, manifest_step}
use Rattle.manifest_rules.specs.State.{is_kept}
use Rattle.manifest_rules.specs.Laws.{left_by, run, scopes_there, collections_there, has_among, NeverBack, DropsLost}
use Rattle.manifest_rules.proofs.Gone.{among, with_ids-among, lost-is}
use Rattle.manifest_rules.proofs.Runs.{left_cases, no_scope_back, no_collection_back}

either_way : (a b : Bool) → a ≡ (a || (b && not b))
either_way true b = refl
either_way false true = refl
either_way false false = refl

other_way : (a b c : Bool) → ((b && not c) || a) ≡ (a || (b && not c))
other_way true true true = refl
other_way true true false = refl
other_way true false c = refl
other_way false true true = refl
other_way false true false = refl
other_way false false c = refl

pub scopes_drop : DropsLost scopes_there (λ m. m.dropped_scopes)
scopes_drop m new id =
    left_cases (λ n. among id n.dropped_scopes ≡ (among id m.dropped_scopes || (among id (scope_ids m.scopes) && not (among id (scope_ids n.scopes))))) m new
    (either_way (among id m.dropped_scopes) (among id (scope_ids m.scopes)))
    (λ rules.
    with_ids-among id (lost (scope_ids m.scopes) (scope_ids new.scopes)) m.dropped_scopes
    ∙ ap (λ b. b || among id m.dropped_scopes) (lost-is id (scope_ids m.scopes) (scope_ids new.scopes))
    ∙ other_way (among id m.dropped_scopes) (among id (scope_ids m.scopes)) (among id (scope_ids new.scopes)))

pub collections_drop : DropsLost collections_there (λ m. m.dropped_collections)
collections_drop m new id =
    left_cases (λ n. among id n.dropped_collections ≡ (among id m.dropped_collections || (among id (collection_ids m.scopes) && not (among id (collection_ids n.scopes))))) m new
    (either_way (among id m.dropped_collections) (among id (collection_ids m.scopes)))
    (λ rules.
    with_ids-among id (lost (collection_ids m.scopes) (collection_ids new.scopes)) m.dropped_collections
    ∙ ap (λ b. b || among id m.dropped_collections) (lost-is id (collection_ids m.scopes) (collection_ids new.scopes))
    ∙ other_way (among id m.dropped_collections) (among id (collection_ids m.scopes)) (among id (collection_ids new.scopes)))

run-append : (m : Catalog) (xs ys : List Catalog) → run m (xs ++ ys) ≡ run (run m xs) ys
run-append m [] ys = refl
run-append m (new ∷ xs) ys = run-append (left_by m (manifest_step m new)) xs ys

-- a dropped id stays dropped
stays_dropped : (ids dropped : Catalog → List ℕ) → DropsLost ids dropped → (m : Catalog) (more : List Catalog) (id : ℕ) → has_among dropped m id ≡ true → has_among dropped (run m more) id ≡ true
stays_dropped ids dropped drops m [] id h = h
stays_dropped ids dropped drops m (new ∷ more) id h =
    let next = left_by m (manifest_step m new) in
    stays_dropped ids dropped drops next more id
    (drops m new id ∙ ap (λ b. b || (has_among ids m id && not (has_among ids next id))) h)

-- an id that was there and isn't any more was dropped
was_dropped : (ids dropped : Catalog → List ℕ) → DropsLost ids dropped → (m : Catalog) (more : List Catalog) (id : ℕ) → has_among ids m id ≡ true → has_among ids (run m more) id ≡ false → has_among dropped (run m more) id ≡ true
was_dropped ids dropped drops m [] id here gone = absurd (true≢false (sym here ∙ gone))
was_dropped ids dropped drops m (new ∷ more) id here gone = by (has_among ids (left_by m (manifest_step m new)) id) refl (was_dropped ids dropped drops (left_by m (manifest_step m new)) more id)
  where
    or_true : (a : Bool) → (a || true) ≡ true
    or_true true = refl
    or_true false = refl

    by : (b : Bool) → has_among ids (left_by m (manifest_step m new)) id ≡ b
        → (has_among ids (left_by m (manifest_step m new)) id ≡ true → has_among ids (run m (new ∷ more)) id ≡ false → has_among dropped (run m (new ∷ more)) id ≡ true)
        → has_among dropped (run m (new ∷ more)) id ≡ true
    by true e rest = rest e gone
    by false e rest =
        stays_dropped ids dropped drops (left_by m (manifest_step m new)) more id
        (drops m new id
        ∙ ap (λ b. has_among dropped m id || (b && not (has_among ids (left_by m (manifest_step m new)) id))) here
        ∙ ap (λ b. has_among dropped m id || not b) e
        ∙ or_true (has_among dropped m id))

-- and where no dropped id comes back, it never does
never_back : (ids dropped : Catalog → List ℕ) → DropsLost ids dropped
    → ((start : Catalog) (before later : List Catalog) (id : ℕ) → is_kept start ≡ true → has_among dropped (run start before) id ≡ true → has_among ids (run (run start before) later) id ≡ false)
    → NeverBack ids
never_back ids dropped drops away start before middle later id kept here gone =
    let joined = run-append start before middle in
    ap (λ m. has_among ids m id) (run-append start (before ++ middle) later)
    ∙ away start (before ++ middle) later id kept
    (ap (λ m. has_among dropped m id) joined
    ∙ was_dropped ids dropped drops (run start before) middle id here (ap (λ m. has_among ids m id) (sym joined) ∙ gone))

pub no_scope_again : NeverBack scopes_there
no_scope_again = never_back scopes_there (λ m. m.dropped_scopes) scopes_drop no_scope_back

pub no_collection_again : NeverBack collections_there
no_collection_again = never_back collections_there (λ m. m.dropped_collections) collections_drop no_collection_back
