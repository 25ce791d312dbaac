-- A whole content stays whole with one more entry.
use Rattle.std.specs.Prelude.{◌≡◌, ℕ, ◌+◌, ◌*◌, ◌<◌, ◌≤◌, ◌^◌, max, nat_eq, is_some, is_none, Bool, true, false, cond, not, ◌&&◌, sum, filter, map as list_map, List, [], ◌∷◌, ◌++◌, length, codes, Option, Some, None, option_and_then, Result, Ok, Err, refl}
use Rattle.std.specs.List.{AllByRecursion, IsDistinct}
use Rattle.std.specs.Option.{option_map_or}
use Rattle.std.specs.Result.{is_ok}
use Rattle.std.specs.Str.{is_utf8}
use Rattle.std.specs.Ordering.{eq_by_cmp}
use Rattle.std.specs.FinMap as map
use Rattle.std.proofs.Common.{sym, ap, ◌∙◌, subst, arith}
use Rattle.std.proofs.lemmas.Bool.{and_parts}
use Rattle.std.proofs.lemmas.List.{length-map}
use Rattle.std.proofs.lemmas.List.Sums.{sum_by-cons}
use Rattle.serde_json.specs.Data.{Data, Items}
use Rattle.serde_json.specs.Read.{read}
use Rattle.kv_edge.specs.Fields.{◌>>=◌}
use Rattle.doc_model.specs.declared.key.DocKey.{DocKey}
use Rattle.doc_model.specs.declared.document.Item.{Item}
use Rattle.doc_model.specs.declared.document.What.{What}
use Rattle.doc_model.specs.declared.document.What.TheVariants as whats
use Rattle.doc_model.specs.declared.status.Status.{Status}
use Rattle.doc_model.specs.declared.status.TheConstants.Status as status
use Rattle.doc_model.specs.Keys.{key_cmp}
use Rattle.doc_model.proofs.Entries.{keys_total}
use Rattle.doc_model.proofs.Drops.{get_kept}
use Rattle.manifest_rules.specs.Catalog.{Catalog, numbers_fit}
use Rattle.manifest_rules.specs.declared.types.Scope.{Scope}
use Rattle.manifest_rules.specs.Form.{manifest_in, catalog_in, catalog_from, scope_from, each_from, id_at, items_at}
use Rattle.manifest_rules.specs.Laws.{left_by}
use Rattle.manifest_rules.proofs.Fits.{bind_some, scopes_from-fit}
use Rattle.manifest_rules.proofs.Runs.{kept_step}
use Rattle.manifest_rules.specs.Rules.{Step, manifest_step}
use Rattle.manifest_rules.specs.Applying.{text_step}
use Rattle.manifest_rules.specs.State.{is_kept}
use Rattle.vb_log.specs.declared.bounds.Bounds.{Bounds}
use Rattle.vb_log.specs.declared.entry.Entry.{Entry}
use Rattle.vb_log.specs.declared.entry.Entry.TheVariants as entries
use Rattle.vb_log.specs.declared.entry.Pending.{Pending}
use Rattle.vb_log.specs.declared.limits.TheConstants.{GREATEST_CAS, GREATEST_POSITION, GREATEST_LEVEL}
use Rattle.vb_log.specs.Content.{Content, cas_of, has_collection, prepare_at, prepare_of, numbered, item_made, with_item, committed, other_than, one_longer, with_step, without, with_entry, is_free}
use Rattle.vb_log.specs.Contents.{IsNumbered, IsAllowedItem, bounds_of, keys_waiting, IsWhole}
use Rattle.vb_log.specs.Held.{item_weight, pending_weight}
use Rattle.vb_log.specs.Keys.{IsAllowedKey}
use Rattle.vb_log.specs.Prepares.{IsWaiting, AreWaiting}
use Rattle.vb_log.specs.Sizes.{is_within, can_add}
use Rattle.vb_log.specs.Spelling.{IsAllowedWhat, IsUnnumbered, IsAllowed}
use Rattle.vb_log.proofs.Apart.{AreApart, apart_of, distinct_of, apart_insert, apart_kept, apart_some, apart_more, distinct_some, distinct_more}
use Rattle.vb_log.proofs.Collections.{Moves, step_moves, is_listed}
use Rattle.vb_log.proofs.Entries.{cas_allowed}
use Rattle.vb_log.proofs.Holding.{fits, free_there}
use Rattle.vb_log.proofs.Weighing.{stand_insert}

-- ---- a content that isn't too large has few parts

heavy : {A : Type 0} (weight : A → ℕ) → ((x : A) → 288 ≤ weight x) → (xs : List A) → 288 * length xs ≤ sum (list_map weight xs)
heavy weight h [] = omega arith
heavy weight h (x ∷ xs) =
    let rest = heavy weight h xs in
    let one = h x in
    let more = sum_by-cons (λ n. n) (weight x) (list_map weight xs) in
    omega arith

heavy_item : (i : Item) → 288 ≤ item_weight i
heavy_item i = omega arith

heavy_pending : (p : Pending) → 288 ≤ pending_weight p
heavy_pending p = omega arith

record HasFew (c : Content) : Type 0 where
  items : map.len c.items < 2 ^ 32
  prepares : length c.prepares < 2 ^ 32

has_few : (c : Content) → is_within c ≡ true → HasFew c
has_few c h =
    let sized = (fits c h).sized in
    let a = heavy item_weight heavy_item (map.values c.items) in
    let b = heavy pending_weight heavy_pending c.prepares in
    let n = length-map (map.entries c.items) (λ e. e.1) in
    let m = map.len-entries c.items in
    record { items = omega (arith, sized, a, b, n, m); prepares = omega (arith, sized, a, b) }

-- ---- within wider bounds

record AreWider (narrow wide : Bounds) : Type 0 where
  last : narrow.last ≤ wide.last
  cas : narrow.cas ≤ wide.cas

item_wider : (old new : Catalog) (narrow wide : Bounds) (item : Item) → AreWider narrow wide
    → (has_collection old item.key.collection ≡ true → has_collection new item.key.collection ≡ true)
    → IsAllowedItem old narrow item → IsAllowedItem new wide item
item_wider old new narrow wide item w there h = record {
  key = h.key;
  present = there h.present;
  later = h.later;
  within = omega (arith, h.within, w.last);
  what = h.what;
  cas = omega (arith, h.cas, w.cas);
  numbered = h.numbered;
}

waiting_wider : (narrow wide : Bounds) (before : ℕ) (ps : List Pending) → AreWider narrow wide → AreWaiting narrow before ps → AreWaiting wide before ps
waiting_wider narrow wide before [] w h = tt
waiting_wider narrow wide before (p ∷ ps) w h =
    let is = h.0 in (
      record {
        later = is.later;
        within = omega (arith, is.within, w.last);
        least = is.least;
        most = is.most;
        key = is.key;
        what = is.what;
        cas = omega (arith, is.cas, w.cas);
        unnumbered = is.unnumbered;
      },
      waiting_wider narrow wide p.position ps w h.1,
    )

-- ---- what waits

waiting_earlier : (bounds : Bounds) (n m : ℕ) (ps : List Pending) → n ≤ m → AreWaiting bounds m ps → AreWaiting bounds n ps
waiting_earlier bounds n m [] le h = tt
waiting_earlier bounds n m (p ∷ ps) le h =
    let is = h.0 in (
      record {
        later = omega (arith, is.later, le);
        within = is.within;
        least = is.least;
        most = is.most;
        key = is.key;
        what = is.what;
        cas = is.cas;
        unnumbered = is.unnumbered;
      },
      h.1,
    )

waiting_some : (bounds : Bounds) (before : ℕ) (test : Pending → Bool) (ps : List Pending) → AreWaiting bounds before ps → AreWaiting bounds before (filter test ps)
waiting_some bounds before test [] h = tt
waiting_some bounds before test (p ∷ ps) h = go (test p) (waiting_some bounds p.position test ps h.1)
  where
    go : (b : Bool) → AreWaiting bounds p.position (filter test ps) → AreWaiting bounds before (cond b (p ∷ filter test ps) (filter test ps))
    go true k = (h.0, k)
    go false k = waiting_earlier bounds before p.position (filter test ps) (omega (arith, h.0.later)) k

few_some : (test : Pending → Bool) (ps : List Pending) → length (filter test ps) ≤ length ps
few_some test [] = omega arith
few_some test (p ∷ ps) = go (test p) (few_some test ps)
  where
    go : (b : Bool) → length (filter test ps) ≤ length ps → length (cond b (p ∷ filter test ps) (filter test ps)) ≤ length (p ∷ ps)
    go true k = omega arith
    go false k = omega arith

-- all were prepared up to a position
waiting_below : (bounds : Bounds) (before : ℕ) (ps : List Pending) (n : ℕ) → bounds.last < n → AreWaiting bounds before ps → AllByRecursion (λ (p : Pending). p.position < n) ps
waiting_below bounds before [] n lt h = tt
waiting_below bounds before (p ∷ ps) n lt h = (omega (arith, h.0.within, lt), waiting_below bounds p.position ps n lt h.1)

waiting_more : (bounds : Bounds) (before : ℕ) (ps : List Pending) (p : Pending) → before < p.position → AllByRecursion (λ (r : Pending). r.position < p.position) ps
    → AreWaiting bounds before ps → ((n : ℕ) → n < p.position → IsWaiting bounds n p) → AreWaiting bounds before (ps ++ p ∷ [])
waiting_more bounds before [] p lt all h is = (is before lt, tt)
waiting_more bounds before (r ∷ rs) p lt all h is = (h.0, waiting_more bounds r.position rs p all.0 all.1 h.1 is)

-- what waits of a key isn't there
none_of : (key : DocKey) (ps : List Pending) → is_none (prepare_of ps key) ≡ true → AllByRecursion (λ (p : Pending). eq_by_cmp key_cmp p.key key ≡ false) ps
none_of key [] e = tt
none_of key (p ∷ ps) e = go (eq_by_cmp key_cmp p.key key) refl e (λ f. none_of key ps f)
  where
    go : (b : Bool) → eq_by_cmp key_cmp p.key key ≡ b → is_none (cond b (Some p) (prepare_of ps key)) ≡ true
        → (is_none (prepare_of ps key) ≡ true → AllByRecursion (λ (p : Pending). eq_by_cmp key_cmp p.key key ≡ false) ps)
        → AllByRecursion (λ (p : Pending). eq_by_cmp key_cmp p.key key ≡ false) (p ∷ ps)
    go true x f rest = absurd (cc)
    go false x f rest = (x, rest f)

-- one that is found is allowed
found_waits : (bounds : Bounds) (before : ℕ) (ps : List Pending) (of : ℕ) (p : Pending) → AreWaiting bounds before ps → prepare_at ps of ≡ Some p → (n : ℕ) × IsWaiting bounds n p
found_waits bounds before [] of p h e = absurd (cc)
found_waits bounds before (r ∷ rs) of p h e = go (nat_eq r.position of) e (λ f. found_waits bounds r.position rs of p h.1 f)
  where
    some_is : (a b : Pending) → Some a ≡ Some b → a ≡ b
    some_is a b e = cc

    go : (b : Bool) → cond b (Some r) (prepare_at rs of) ≡ Some p → (prepare_at rs of ≡ Some p → (n : ℕ) × IsWaiting bounds n p) → (n : ℕ) × IsWaiting bounds n p
    go true f rest = (before, subst (λ (p : Pending). IsWaiting bounds before p) (some_is r p f) h.0)
    go false f rest = rest f

-- ---- a new item

numbered_what : (n : ℕ) (what : What) → IsAllowedWhat what → IsAllowedWhat (numbered n what)
numbered_what n (whats.Put doc) h = record {
  cas = h.cas;
  flags = h.flags;
  expiry = h.expiry;
  attributes = h.attributes;
  attributes_short = h.attributes_short;
  value_short = h.value_short;
}
numbered_what n (whats.Remove cas) h = h

numbered_cas : (n : ℕ) (what : What) → cas_of (numbered n what) ≡ cas_of what
numbered_cas n (whats.Put doc) = refl
numbered_cas n (whats.Remove cas) = refl

numbered_so : (n : ℕ) (what : What) → IsNumbered n (numbered n what)
numbered_so n (whats.Put doc) = refl
numbered_so n (whats.Remove cas) = tt

made_allowed : (manifest : Catalog) (bounds : Bounds) (n : ℕ) (key : DocKey) (what : What) → IsAllowedKey key → IsAllowedWhat what
    → has_collection manifest key.collection ≡ true → 1 ≤ n → n ≤ bounds.last → cas_of what ≤ bounds.cas → IsAllowedItem manifest bounds (item_made n key what)
made_allowed manifest bounds n key what a w there low high cas = record {
  key = a;
  present = there;
  later = low;
  within = high;
  what = numbered_what n what w;
  cas = omega (arith, numbered_cas n what, cas);
  numbered = numbered_so n what;
}

-- an item is at a key of a map with one more
allowed_insert : (manifest : Catalog) (bounds : Bounds) (items : map.FinMap key_cmp Item) (key : DocKey) (item : Item) → IsAllowedItem manifest bounds item
    → ((q : DocKey) (i : Item) → map.get items q ≡ Some i → IsAllowedItem manifest bounds i)
    → (q : DocKey) (i : Item) → map.get (map.insert items key item) q ≡ Some i → IsAllowedItem manifest bounds i
allowed_insert manifest bounds items key item new old q i f = go (eq_by_cmp key_cmp q key) (sym (map.get-insert keys_total items key item q) ∙ f)
  where
    some_is : (a b : Item) → Some a ≡ Some b → a ≡ b
    some_is a b e = cc

    go : (b : Bool) → cond b (Some item) (map.get items q) ≡ Some i → IsAllowedItem manifest bounds i
    go true f = subst (λ (i : Item). IsAllowedItem manifest bounds i) (some_is item i f) new
    go false f = old q i f

-- ---- each entry

-- a content that is one entry longer, with other items, changes that wait and greatest CAS
abbrev longer : Content → map.FinMap key_cmp Item → List Pending → ℕ → Content
longer c items prepares cas = record c { items = items; prepares = prepares; greatest_cas = cas; length = c.length + 1 }

abbrev longer_bounds : Content → ℕ → Bounds
longer_bounds c cas = record { last = c.length + 1; cas = cas }

wider : (c : Content) (cas : ℕ) → c.greatest_cas ≤ cas → AreWider (bounds_of c) (longer_bounds c cas)
wider c cas le = record { last = omega arith; cas = le }

-- changes that waited and wait still
record WaitStill (c : Content) (ps : List Pending) : Type 0 where
  waiting : AreWaiting (bounds_of c) 0 ps
  keys : IsDistinct (eq_by_cmp key_cmp) (keys_waiting ps)
  apart : AreApart c.items ps

all_wait : (c : Content) → IsWhole c → WaitStill c c.prepares
all_wait c h = record { waiting = h.parts.prepares.waiting; keys = h.apart; apart = apart_of c.items c.prepares h.one_each }

some_wait : (c : Content) (test : Pending → Bool) → IsWhole c → WaitStill c (filter test c.prepares)
some_wait c test h = record {
  waiting = waiting_some (bounds_of c) 0 test c.prepares h.parts.prepares.waiting;
  keys = distinct_some (eq_by_cmp key_cmp) (λ (p : Pending). p.key) test c.prepares h.apart;
  apart = apart_some c.items c.prepares test (apart_of c.items c.prepares h.one_each);
}

-- items were made up to the last position
made_below : (c : Content) → IsWhole c → (q : DocKey) (i : Item) → map.get c.items q ≡ Some i → i.seqno < c.length + 1
made_below c h q i f = omega (arith, (h.parts.items q i f).within)

-- the items stay
same_items : (c : Content) (ps : List Pending) → IsWhole c → WaitStill c ps → c.length < GREATEST_POSITION
    → is_within (longer c c.items ps c.greatest_cas) ≡ true → IsWhole (longer c c.items ps c.greatest_cas)
same_items c ps h still short within =
    let w = wider c c.greatest_cas (omega arith) in
    let few = has_few (longer c c.items ps c.greatest_cas) within in
    record {
      parts = record {
        short = omega (arith, short);
        cas = h.parts.cas;
        kept = h.parts.kept;
        own = h.parts.own;
        items = λ q i f. item_wider c.manifest c.manifest (bounds_of c) (longer_bounds c c.greatest_cas) i w (λ e. e) (h.parts.items q i f);
        few = few.items;
        prepares = record { waiting = waiting_wider (bounds_of c) (longer_bounds c c.greatest_cas) 0 ps w still.waiting; few = few.prepares };
      };
      apart = still.keys;
      one_each = distinct_of c.items ps still.apart;
      within = within;
    }

-- a key gets something
new_item : (c : Content) (ps : List Pending) (key : DocKey) (what : What) (cas : ℕ) → IsWhole c → WaitStill c ps → c.length < GREATEST_POSITION
    → IsAllowedKey key → IsAllowedWhat what → has_collection c.manifest key.collection ≡ true
    → c.greatest_cas ≤ cas → cas_of what ≤ cas → cas ≤ GREATEST_CAS
    → is_within (longer c (map.insert c.items key (item_made (c.length + 1) key what)) ps cas) ≡ true
    → IsWhole (longer c (map.insert c.items key (item_made (c.length + 1) key what)) ps cas)
new_item c ps key what cas h still short a w there more under most within =
    let item = item_made (c.length + 1) key what in
    let wide = wider c cas more in
    let few = has_few (longer c (map.insert c.items key item) ps cas) within in
    record {
      parts = record {
        short = omega (arith, short);
        cas = most;
        kept = h.parts.kept;
        own = stand_insert c.items key item refl h.parts.own;
        items = allowed_insert c.manifest (longer_bounds c cas) c.items key item
            (made_allowed c.manifest (longer_bounds c cas) (c.length + 1) key what a w there (omega arith) (omega arith) under)
            (λ q i f. item_wider c.manifest c.manifest (bounds_of c) (longer_bounds c cas) i wide (λ e. e) (h.parts.items q i f));
        few = few.items;
        prepares = record { waiting = waiting_wider (bounds_of c) (longer_bounds c cas) 0 ps wide still.waiting; few = few.prepares };
      };
      apart = still.keys;
      one_each = distinct_of (map.insert c.items key item) ps
          (apart_insert c.items ps key item still.apart (made_below c h) (waiting_below (bounds_of c) 0 ps (c.length + 1) (omega arith) still.waiting));
      within = within;
    }

-- a change is prepared
new_prepare : (c : Content) (key : DocKey) (what : What) (level : ℕ) → IsWhole c → c.length < GREATEST_POSITION → IsAllowedKey key → IsAllowedWhat what → IsUnnumbered what
    → 1 ≤ level → level ≤ GREATEST_LEVEL → is_none (prepare_of c.prepares key) ≡ true → cas_of what ≤ GREATEST_CAS
    → is_within (with_entry c (entries.Prepare key what level)) ≡ true → IsWhole (with_entry c (entries.Prepare key what level))
new_prepare c key what level h short a w plain least most free low within =
    let p : Pending = record { position = c.length + 1; level = level; key = key; what = what } in
    let cas = max c.greatest_cas (cas_of what) in
    let wide = wider c cas (omega arith) in
    let few = has_few (with_entry c (entries.Prepare key what level)) within in
    let still = all_wait c h in
    let below = waiting_below (bounds_of c) 0 c.prepares (c.length + 1) (omega arith) still.waiting in
    record {
      parts = record {
        short = omega (arith, short);
        cas = omega (arith, h.parts.cas, low);
        kept = h.parts.kept;
        own = h.parts.own;
        items = λ q i f. item_wider c.manifest c.manifest (bounds_of c) (longer_bounds c cas) i wide (λ e. e) (h.parts.items q i f);
        few = few.items;
        prepares = record {
          waiting = waiting_more (longer_bounds c cas) 0 c.prepares p (omega arith) below (waiting_wider (bounds_of c) (longer_bounds c cas) 0 c.prepares wide still.waiting)
              (λ n lt. record { later = lt; within = omega arith; least = least; most = most; key = a; what = w; cas = omega arith; unnumbered = plain });
          few = few.prepares;
        };
      };
      apart = distinct_more (eq_by_cmp key_cmp) (λ (p : Pending). p.key) c.prepares p still.keys (none_of key c.prepares free);
      one_each = distinct_of c.items (c.prepares ++ p ∷ []) (apart_more c.items c.prepares p still.apart (made_below c h) below);
      within = within;
    }

-- a prepared change is made, or its collection was dropped
commits : (c : Content) (of : ℕ) (p : Pending) → IsWhole c → c.length < GREATEST_POSITION → prepare_at c.prepares of ≡ Some p
    → is_within (with_entry c (entries.Commit of)) ≡ true → IsWhole (with_entry c (entries.Commit of))
commits c of p h short found within =
    let waits = found_waits (bounds_of c) 0 c.prepares of p h.parts.prepares.waiting found in
    go (has_collection c.manifest p.key.collection) refl waits.0 waits.1 within
  where
    ps : List Pending
    ps = other_than of c.prepares

    made : (b : Bool) → has_collection c.manifest p.key.collection ≡ b → with_entry c (entries.Commit of) ≡ one_longer (record (cond b (with_item c p.key p.what) c) { prepares = ps })
    made b e = ap (λ (o : Option Pending). one_longer (record (committed c o) { prepares = ps })) found ∙ ap (λ b. one_longer (record (cond b (with_item c p.key p.what) c) { prepares = ps })) e

    go : (b : Bool) → has_collection c.manifest p.key.collection ≡ b → (n : ℕ) → IsWaiting (bounds_of c) n p → is_within (with_entry c (entries.Commit of)) ≡ true → IsWhole (with_entry c (entries.Commit of))
    go true e n w within =
        subst IsWhole (sym (made true e)) (new_item c ps p.key p.what c.greatest_cas h (some_wait c (λ p. not (nat_eq p.position of)) h) short w.key w.what e (omega arith) w.cas h.parts.cas
        (subst (λ d. is_within d ≡ true) (made true e) within))
    go false e n w within =
        subst IsWhole (sym (made false e)) (same_items c ps h (some_wait c (λ p. not (nat_eq p.position of)) h) short
        (subst (λ d. is_within d ≡ true) (made false e) within))

-- ---- a manifest

-- what bytes are as a manifest has numbers that fit
manifest_fits : (text : List ℕ) (new : Catalog) → manifest_in text ≡ Some new → numbers_fit new.uid new.scopes ≡ true
manifest_fits text new e = by (is_utf8 text) e
  where
    made : (uid : ℕ) (scopes : List Scope) → Option Catalog
    made uid scopes = Some (record { uid = uid; scopes = scopes; dropped_scopes = []; dropped_collections = [] })

    from : (d : Data) → catalog_from d ≡ Some new → numbers_fit new.uid new.scopes ≡ true
    from d e =
        let uid = bind_some (id_at 16 (codes "uid") d) (λ uid. items_at (codes "scopes") d >>= (λ items. each_from scope_from items >>= (λ scopes. made uid scopes))) new e in
        let items = bind_some (items_at (codes "scopes") d) (λ items. each_from scope_from items >>= (λ scopes. made uid.first scopes)) new uid.then in
        let scopes = bind_some (each_from scope_from items.first) (λ scopes. made uid.first scopes) new items.then in
        let is : record { uid = uid.first; scopes = scopes.first; dropped_scopes = []; dropped_collections = [] } ≡ new = (let e = scopes.then in cc) in
        subst (λ (m : Catalog). numbers_fit m.uid m.scopes ≡ true) is
        (scopes_from-fit d (uid.first, items.first) scopes.first
        (ap (λ (o : Option ℕ). o >>= (λ u. items_at (codes "scopes") d >>= (λ i. Some (let q : ℕ × Items = (u, i) in q)))) uid.is
        ∙ ap (λ (o : Option Items). o >>= (λ i. Some (let q : ℕ × Items = (uid.first, i) in q))) items.is) scopes.is)

    read_as : (o : Option Data) → option_and_then catalog_from o ≡ Some new → numbers_fit new.uid new.scopes ≡ true
    read_as None e = absurd (cc)
    read_as (Some d) e = from d e

    by : (b : Bool) → cond b (catalog_in text) None ≡ Some new → numbers_fit new.uid new.scopes ≡ true
    by true e = read_as (read text) e
    by false e = absurd (cc)

-- what a manifest that applies leaves is kept
kept_applied : (old : Catalog) (text : List ℕ) (step : Step) → is_kept old ≡ true → text_step old text ≡ Ok step → is_kept step.after ≡ true
kept_applied old text step kept e = by (manifest_in text) refl e
  where
    by : (o : Option Catalog) → manifest_in text ≡ o → option_map_or {U = Result Step Status} (λ new. manifest_step old new) o (Err status.EINVAL) ≡ Ok step → is_kept step.after ≡ true
    by None f e = absurd (cc)
    by (Some new) f e = subst (λ (r : Result Step Status). is_kept (left_by old r) ≡ true) e (kept_step old new kept (manifest_fits text new f))

text_moves : (old : Catalog) (id : ℕ) (text : List ℕ) (step : Step) → text_step old text ≡ Ok step → Moves old step id
text_moves old id text step e = by (manifest_in text) e
  where
    by : (o : Option Catalog) → option_map_or {U = Result Step Status} (λ new. manifest_step old new) o (Err status.EINVAL) ≡ Ok step → Moves old step id
    by None e = absurd (cc)
    by (Some new) e = step_moves old new step id e

-- what is there and wasn't dropped is there still
stays_there : (dropped after before : Bool) → dropped ≡ (not after && before) → not dropped ≡ true → before ≡ true → after ≡ true
stays_there dropped true before d n b = refl
stays_there dropped false true d n b = absurd (let z : true ≡ false = sym d ∙ turned dropped n in cc)
  where
    turned : (b : Bool) → not b ≡ true → b ≡ false
    turned true e = absurd (cc)
    turned false e = refl
stays_there dropped false false d n b = absurd (cc)

-- another manifest takes its place
new_manifest : (c : Content) (text : List ℕ) (step : Step) → IsWhole c → c.length < GREATEST_POSITION → text_step c.manifest text ≡ Ok step
    → is_within (one_longer (with_step c (Ok step))) ≡ true → IsWhole (one_longer (with_step c (Ok step)))
new_manifest c text step h short e within =
    let w = wider c c.greatest_cas (omega arith) in
    let few = has_few (one_longer (with_step c (Ok step))) within in
    let test = λ (key : DocKey). not (is_listed key.collection step.dropped) in
    let still = all_wait c h in
    record {
      parts = record {
        short = omega (arith, short);
        cas = h.parts.cas;
        kept = kept_applied c.manifest text step h.parts.kept e;
        own = λ q i f. h.parts.own q i (old q i (test q) refl (sym (get_kept c.items test q) ∙ f));
        items = λ q i f. let there = old q i (test q) refl (sym (get_kept c.items test q) ∙ f) in
            item_wider c.manifest step.after (bounds_of c) (longer_bounds c c.greatest_cas) i w
            (λ has. present q i there (kept_test q i (test q) refl (sym (get_kept c.items test q) ∙ f)) has)
            (h.parts.items q i there);
        few = few.items;
        prepares = record { waiting = waiting_wider (bounds_of c) (longer_bounds c c.greatest_cas) 0 c.prepares w still.waiting; few = few.prepares };
      };
      apart = still.keys;
      one_each = distinct_of (without c.items step.dropped) c.prepares (apart_kept c.items c.prepares test still.apart);
      within = within;
    }
  where
    no_some : (a : Item) → None ≡ Some a → ⊥
    no_some a e = absurd (cc)

    old : (q : DocKey) (i : Item) (b : Bool) → not (is_listed q.collection step.dropped) ≡ b → cond (not (is_listed q.collection step.dropped)) (map.get c.items q) None ≡ Some i → map.get c.items q ≡ Some i
    old q i true e f = ap (λ b. cond b (map.get c.items q) None) (sym e) ∙ f
    old q i false e f = absurd (no_some i (ap (λ b. cond b (map.get c.items q) None) (sym e) ∙ f))

    kept_test : (q : DocKey) (i : Item) (b : Bool) → not (is_listed q.collection step.dropped) ≡ b → cond (not (is_listed q.collection step.dropped)) (map.get c.items q) None ≡ Some i → not (is_listed q.collection step.dropped) ≡ true
    kept_test q i true e f = e
    kept_test q i false e f = absurd (no_some i (ap (λ b. cond b (map.get c.items q) None) (sym e) ∙ f))

    present : (q : DocKey) (i : Item) → map.get c.items q ≡ Some i → not (is_listed q.collection step.dropped) ≡ true → has_collection c.manifest i.key.collection ≡ true → has_collection step.after i.key.collection ≡ true
    present q i there kept has =
        let at : i.key ≡ q = h.parts.own q i there in
        ap (λ (k : DocKey). has_collection step.after k.collection) at
        ∙ stays_there (is_listed q.collection step.dropped) (has_collection step.after q.collection) (has_collection c.manifest q.collection)
        (text_moves c.manifest q.collection text step e).dropped kept (ap (λ (k : DocKey). has_collection c.manifest k.collection) (sym at) ∙ has)

pub stays_whole : (c : Content) (e : Entry) → IsWhole c → IsAllowed e → can_add c e ≡ true → c.length < GREATEST_POSITION → IsWhole (with_entry c e)
stays_whole c (entries.Mutation key doc) h a can short =
    let parts = and_parts (is_free c key) (is_within (with_entry c (entries.Mutation key doc))) can in
    new_item c c.prepares key (whats.Put doc) (max c.greatest_cas doc.cas) h (all_wait c h) short a.0 a.1 (free_there c key parts.0)
    (omega arith) (omega arith) (omega (arith, h.parts.cas, a.1.cas)) parts.1
stays_whole c (entries.Deletion key cas) h a can short =
    let parts = and_parts (is_free c key) (is_within (with_entry c (entries.Deletion key cas))) can in
    new_item c c.prepares key (whats.Remove cas) (max c.greatest_cas cas) h (all_wait c h) short a.0 a.1 (free_there c key parts.0)
    (omega arith) (omega arith) (omega (arith, h.parts.cas, a.1)) parts.1
stays_whole c (entries.Prepare key what level) h a can short =
    let parts = and_parts (is_free c key) (is_within (with_entry c (entries.Prepare key what level))) can in
    let free = and_parts (is_none (prepare_of c.prepares key)) (has_collection c.manifest key.collection) parts.0 in
    new_prepare c key what level h short a.0 a.1 a.2 a.3 a.4 free.0 (cas_allowed what a.1) parts.1
stays_whole c (entries.Commit of) h a can short =
    let parts = and_parts (is_some (prepare_at c.prepares of)) (is_within (with_entry c (entries.Commit of))) can in
    go (prepare_at c.prepares of) refl parts.0 parts.1
  where
    go : (o : Option Pending) → prepare_at c.prepares of ≡ o → is_some o ≡ true → is_within (with_entry c (entries.Commit of)) ≡ true → IsWhole (with_entry c (entries.Commit of))
    go None e some within = absurd (cc)
    go (Some p) e some within = commits c of p h short e within
stays_whole c (entries.Abort of) h a can short =
    let parts = and_parts (is_some (prepare_at c.prepares of)) (is_within (with_entry c (entries.Abort of))) can in
    same_items c (other_than of c.prepares) h (some_wait c (λ p. not (nat_eq p.position of)) h) short parts.1
stays_whole c (entries.Manifest text) h a can short =
    let parts = and_parts (is_ok (text_step c.manifest text)) (is_within (with_entry c (entries.Manifest text))) can in
    go (text_step c.manifest text) refl parts.0 parts.1
  where
    go : (r : Result Step Status) → text_step c.manifest text ≡ r → is_ok r ≡ true → is_within (one_longer (with_step c (text_step c.manifest text))) ≡ true → IsWhole (one_longer (with_step c (text_step c.manifest text)))
    go (Err why) e ok within = absurd (cc)
    go (Ok step) e ok within =
        subst (λ r. IsWhole (one_longer (with_step c r))) (sym e) (new_manifest c text step h short e (subst (λ r. is_within (one_longer (with_step c r)) ≡ true) e within))
