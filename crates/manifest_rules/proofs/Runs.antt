-- What holds along manifests that are applied one after another.
use Rattle.std.proofs.Common.{◌≡◌, ℕ, ◌^◌, Bool, true, false, cond, not, ◌&&◌, nat_eq, nat_lt, nat_le, List, [], ◌∷◌, length, Some, Ok, Err, refl, ap, ◌∙◌, subst}
use Rattle.std.proofs.lemmas.Bool.{and_parts, and_from, not-true}
use Rattle.std.proofs.lemmas.List.Folds.{list_all-map}
use Rattle.std.specs.Cmp.Lexicographic.{pointwise}
use Rattle.std.specs.Fmt.{digits}
use Rattle.std.specs.List.{list_all}
use Rattle.doc_model.specs.declared.status.TheConstants.Status as status
use Rattle.manifest_rules.specs.declared.types.Scope.{Scope}
use Rattle.manifest_rules.specs.declared.types.TheConstants.{DROPPED_LIMIT}
use Rattle.manifest_rules.specs.Catalog.{Catalog, scope_ids, collections_in, collection_ids, numbers_fit}
use Rattle.manifest_rules.specs.Rules.{same_scope, lost, with_ids, is_small, obeys_alone, follows, few_dropped, none_revived, succeeding, obeys, manifest_step, first_catalog}
use Rattle.manifest_rules.specs.State.{are_rising, is_sound, are_gone, is_kept}
use Rattle.manifest_rules.specs.Laws.{left_by, run}
use Rattle.manifest_rules.specs.declared.applying.Taken.{Taken}
use Rattle.manifest_rules.specs.Applying.{bare, step_taken, ComesTo}
use Rattle.manifest_rules.proofs.Fits.{list_all-both}
use Rattle.manifest_rules.proofs.Gone.{among, share, with_ids-all, filter-all, with_ids-rising, apart, still_gone, not_there}

-- a step leaves the old manifest, or the one that succeeds it by the rules
pub left_cases : (P : Catalog → Type 0) (old new : Catalog) → P old → (obeys old new ≡ true → P (succeeding old new)) → P (left_by old (manifest_step old new))
left_cases P old new stays follows = by (nat_lt new.uid old.uid) (nat_eq new.uid old.uid) (pointwise same_scope old.scopes new.scopes) (obeys old new) refl
  where
    by : (a b s o : Bool) → obeys old new ≡ o → P (left_by old (cond a (Err status.MANIFEST_IS_AHEAD)
        (cond b (cond s (Ok (record { after = old; dropped = []; changed = false })) (Err status.CANNOT_APPLY_MANIFEST))
        (cond o (Ok (record { after = succeeding old new; dropped = lost (collection_ids old.scopes) (collection_ids new.scopes); changed = true })) (Err status.CANNOT_APPLY_MANIFEST)))))
    by true b s o e = stays
    by false true true o e = stays
    by false true false o e = stays
    by false false s true e = follows e
    by false false s false e = stays

-- ---- the rules that a successor obeys

pub record Obeyed (old new : Catalog) : Type 0 where
  pub small : is_small new ≡ true
  pub alone : obeys_alone new.scopes ≡ true
  pub apart_scopes : share (scope_ids new.scopes) old.dropped_scopes ≡ false
  pub apart_collections : share (collection_ids new.scopes) old.dropped_collections ≡ false
  pub few_scopes : nat_le (length (succeeding old new).dropped_scopes) DROPPED_LIMIT ≡ true
  pub few_collections : nat_le (length (succeeding old new).dropped_collections) DROPPED_LIMIT ≡ true

pub obeyed : (old new : Catalog) → obeys old new ≡ true → Obeyed old new
obeyed old new h =
    let first = and_parts (is_small new && obeys_alone new.scopes && follows old new.scopes) (few_dropped (succeeding old new)) h in
    let second = and_parts (is_small new && obeys_alone new.scopes) (follows old new.scopes) first.0 in
    let third = and_parts (is_small new) (obeys_alone new.scopes) second.0 in
    let revived = and_parts _ (none_revived old new.scopes) second.1 in
    let neither = and_parts (not (share (scope_ids new.scopes) old.dropped_scopes)) (not (share (collection_ids new.scopes) old.dropped_collections)) revived.1 in
    let few = and_parts (nat_le (length (succeeding old new).dropped_scopes) DROPPED_LIMIT) _ first.1 in
    record {
      small = third.0;
      alone = third.1;
      apart_scopes = not-true _ neither.0;
      apart_collections = not-true _ neither.1;
      few_scopes = few.0;
      few_collections = few.1;
    }

-- ---- a kept manifest stays kept

below : List ℕ → Bool
below ids = list_all (λ id. nat_lt id (2 ^ 32)) ids

not-from : (b : Bool) → b ≡ false → not b ≡ true
not-from b h = ap not h

gone_more : (old new gone : List ℕ) → list_all (λ id. nat_lt id (2 ^ 32)) old ≡ true → list_all (λ id. nat_lt id (2 ^ 32)) gone ≡ true → are_rising gone ≡ true
    → nat_le (length (with_ids (lost old new) gone)) DROPPED_LIMIT ≡ true → share new gone ≡ false → are_gone new (with_ids (lost old new) gone) ≡ true
gone_more old new gone fits gone_fits rising few none =
    let small = λ (id : ℕ). nat_lt id (2 ^ 32) in
    and_from _ _
    (and_from _ _
    (and_from _ _ (with_ids-all small (lost old new) gone (filter-all small (λ id. not (among id new)) old fits) gone_fits) (with_ids-rising (lost old new) gone rising))
    few)
    (not-from (share new (with_ids (lost old new) gone)) (apart old new gone none))

pub record Gone (ids gone : List ℕ) : Type 0 where
  pub fits : list_all (λ id. nat_lt id (2 ^ 32)) gone ≡ true
  pub rising : are_rising gone ≡ true
  pub few : nat_le (length gone) DROPPED_LIMIT ≡ true
  pub none : share ids gone ≡ false

pub gone_parts : (ids gone : List ℕ) → are_gone ids gone ≡ true → Gone ids gone
gone_parts ids gone h =
    let first = and_parts (list_all (λ id. nat_lt id (2 ^ 32)) gone && are_rising gone && nat_le (length gone) DROPPED_LIMIT) (not (share ids gone)) h in
    let second = and_parts (list_all (λ id. nat_lt id (2 ^ 32)) gone && are_rising gone) (nat_le (length gone) DROPPED_LIMIT) first.0 in
    let third = and_parts (list_all (λ id. nat_lt id (2 ^ 32)) gone) (are_rising gone) second.0 in
    record { fits = third.0; rising = third.1; few = second.1; none = not-true _ first.1 }

pub record Kept (m : Catalog) : Type 0 where
  pub fits : numbers_fit m.uid m.scopes ≡ true
  pub small : is_small m ≡ true
  pub alone : obeys_alone m.scopes ≡ true
  pub gone_scopes : are_gone (scope_ids m.scopes) m.dropped_scopes ≡ true
  pub gone_collections : are_gone (collection_ids m.scopes) m.dropped_collections ≡ true

pub kept_parts : (m : Catalog) → is_kept m ≡ true → Kept m
kept_parts m h =
    let first = and_parts (is_sound m && are_gone (scope_ids m.scopes) m.dropped_scopes) (are_gone (collection_ids m.scopes) m.dropped_collections) h in
    let second = and_parts (is_sound m) (are_gone (scope_ids m.scopes) m.dropped_scopes) first.0 in
    let third = and_parts (numbers_fit m.uid m.scopes && is_small m) (obeys_alone m.scopes) second.0 in
    let fourth = and_parts (numbers_fit m.uid m.scopes) (is_small m) third.0 in
    record { fits = fourth.0; small = fourth.1; alone = third.1; gone_scopes = second.1; gone_collections = first.1 }

scope_ids-fit : (uid : ℕ) (scopes : List Scope) → numbers_fit uid scopes ≡ true → list_all (λ id. nat_lt id (2 ^ 32)) (scope_ids scopes) ≡ true
scope_ids-fit uid scopes h =
    let first = and_parts (nat_lt uid (2 ^ 64) && list_all (λ s. nat_lt s.id (2 ^ 32)) scopes) _ h in
    list_all-map (λ id. nat_lt id (2 ^ 32)) (λ s. s.id) scopes ∙ (and_parts (nat_lt uid (2 ^ 64)) _ first.0).1

collection_ids-fit : (uid : ℕ) (scopes : List Scope) → numbers_fit uid scopes ≡ true → list_all (λ id. nat_lt id (2 ^ 32)) (collection_ids scopes) ≡ true
collection_ids-fit uid scopes h =
    let first = and_parts (nat_lt uid (2 ^ 64) && list_all (λ s. nat_lt s.id (2 ^ 32)) scopes) _ h in
    list_all-map (λ id. nat_lt id (2 ^ 32)) (λ c. c.id) (collections_in scopes) ∙ (list_all-both (λ c. nat_lt c.id (2 ^ 32)) (λ c. nat_lt c.max_ttl (2 ^ 32)) (collections_in scopes) first.1).0

kept_successor : (old new : Catalog) → is_kept old ≡ true → numbers_fit new.uid new.scopes ≡ true → obeys old new ≡ true → is_kept (succeeding old new) ≡ true
kept_successor old new h fits rules =
    let kept = kept_parts old h in
    let new_rules = obeyed old new rules in
    let scopes = gone_parts (scope_ids old.scopes) old.dropped_scopes kept.gone_scopes in
    let collections = gone_parts (collection_ids old.scopes) old.dropped_collections kept.gone_collections in
    and_from _ _
    (and_from _ _ (and_from _ _ (and_from _ _ fits new_rules.small) new_rules.alone)
    (gone_more (scope_ids old.scopes) (scope_ids new.scopes) old.dropped_scopes (scope_ids-fit old.uid old.scopes kept.fits) scopes.fits scopes.rising new_rules.few_scopes new_rules.apart_scopes))
    (gone_more (collection_ids old.scopes) (collection_ids new.scopes) old.dropped_collections (collection_ids-fit old.uid old.scopes kept.fits) collections.fits collections.rising new_rules.few_collections new_rules.apart_collections)

pub kept_step : (old new : Catalog) → is_kept old ≡ true → numbers_fit new.uid new.scopes ≡ true → is_kept (left_by old (manifest_step old new)) ≡ true
kept_step old new h fits = left_cases (λ m. is_kept m ≡ true) old new h (kept_successor old new h fits)

-- what takes the place of a kept manifest is kept
pub kept_taken : (old : Catalog) (uid : ℕ) (scopes : List Scope) (taken : Taken) → is_kept old ≡ true → numbers_fit uid scopes ≡ true → ComesTo old uid scopes (Some taken) → is_kept (step_taken old uid scopes (Some taken)).after ≡ true
kept_taken old uid scopes taken kept fits comes = subst (λ m. is_kept m ≡ true) (ap (left_by old) comes) (kept_step old (bare uid scopes) kept fits)

pub first_kept : is_kept first_catalog ≡ true
unfolding digits
first_kept = refl

-- ---- no id comes back

-- an id of a scope was dropped, and no dropped id is there
record Away (id : ℕ) (ids gone : List ℕ) : Type 0 where
  gone_id : among id gone ≡ true
  none : share ids gone ≡ false

scopes_step : (id : ℕ) (m new : Catalog) → Away id (scope_ids m.scopes) m.dropped_scopes → (let next = left_by m (manifest_step m new) in Away id (scope_ids next.scopes) next.dropped_scopes)
scopes_step id m new h = left_cases (λ n. Away id (scope_ids n.scopes) n.dropped_scopes) m new h (λ rules. record {
  gone_id = still_gone id (lost (scope_ids m.scopes) (scope_ids new.scopes)) m.dropped_scopes h.gone_id;
  none = apart (scope_ids m.scopes) (scope_ids new.scopes) m.dropped_scopes (obeyed m new rules).apart_scopes;
})

collections_step : (id : ℕ) (m new : Catalog) → Away id (collection_ids m.scopes) m.dropped_collections → (let next = left_by m (manifest_step m new) in Away id (collection_ids next.scopes) next.dropped_collections)
collections_step id m new h = left_cases (λ n. Away id (collection_ids n.scopes) n.dropped_collections) m new h (λ rules. record {
  gone_id = still_gone id (lost (collection_ids m.scopes) (collection_ids new.scopes)) m.dropped_collections h.gone_id;
  none = apart (collection_ids m.scopes) (collection_ids new.scopes) m.dropped_collections (obeyed m new rules).apart_collections;
})

scopes_run : (id : ℕ) (m : Catalog) (more : List Catalog) → Away id (scope_ids m.scopes) m.dropped_scopes → Away id (scope_ids (run m more).scopes) (run m more).dropped_scopes
scopes_run id m [] h = h
scopes_run id m (new ∷ more) h = scopes_run id (left_by m (manifest_step m new)) more (scopes_step id m new h)

collections_run : (id : ℕ) (m : Catalog) (more : List Catalog) → Away id (collection_ids m.scopes) m.dropped_collections → Away id (collection_ids (run m more).scopes) (run m more).dropped_collections
collections_run id m [] h = h
collections_run id m (new ∷ more) h = collections_run id (left_by m (manifest_step m new)) more (collections_step id m new h)

-- no dropped id is there, whatever is applied
abbrev Clean : Catalog → Type 0
Clean m = (share (scope_ids m.scopes) m.dropped_scopes ≡ false) × (share (collection_ids m.scopes) m.dropped_collections ≡ false)

clean_run : (m : Catalog) (more : List Catalog) → Clean m → Clean (run m more)
clean_run m [] h = h
clean_run m (new ∷ more) h =
    clean_run (left_by m (manifest_step m new)) more (left_cases Clean m new h (λ rules. (
      apart (scope_ids m.scopes) (scope_ids new.scopes) m.dropped_scopes (obeyed m new rules).apart_scopes,
      apart (collection_ids m.scopes) (collection_ids new.scopes) m.dropped_collections (obeyed m new rules).apart_collections,
    )))

kept_clean : (m : Catalog) → is_kept m ≡ true → Clean m
kept_clean m h = let kept = kept_parts m h in ((gone_parts (scope_ids m.scopes) m.dropped_scopes kept.gone_scopes).none, (gone_parts (collection_ids m.scopes) m.dropped_collections kept.gone_collections).none)

pub no_scope_back : (start : Catalog) (before later : List Catalog) (id : ℕ) → is_kept start ≡ true → among id (run start before).dropped_scopes ≡ true → among id (scope_ids (run (run start before) later).scopes) ≡ false
no_scope_back start before later id h gone_id =
    let clean = clean_run start before (kept_clean start h) in
    let away = scopes_run id (run start before) later (record { gone_id = gone_id; none = clean.0 }) in
    not_there id (scope_ids (run (run start before) later).scopes) (run (run start before) later).dropped_scopes away.none away.gone_id

pub no_collection_back : (start : Catalog) (before later : List Catalog) (id : ℕ) → is_kept start ≡ true → among id (run start before).dropped_collections ≡ true
    → among id (collection_ids (run (run start before) later).scopes) ≡ false
no_collection_back start before later id h gone_id =
    let clean = clean_run start before (kept_clean start h) in
    let away = collections_run id (run start before) later (record { gone_id = gone_id; none = clean.1 }) in
    not_there id (collection_ids (run (run start before) later).scopes) (run (run start before) later).dropped_collections away.none away.gone_id
