-- Contents that are made of parts.
use Rattle.std.specs.Prelude.{◌≡◌, ℕ, ◌+◌, ◌*◌, ◌≤◌, ◌<◌, ◌^◌, nat_eq, nat_le, nat_lt, T, Bool, true, false, cond, ◌&&◌, map as list_map, List, [], ◌∷◌, length, is_some, Option, Some, None, refl}
use Rattle.std.specs.declared.cmp.Ordering.{Ordering}
use Rattle.std.specs.declared.cmp.Ordering.TheVariants.{Less, Equal, Greater}
use Rattle.std.specs.List.{AllByRecursion, IsDistinct}
use Rattle.std.specs.List.Sorted.{IsPermutation, IsStrictlySortedBy}
use Rattle.std.specs.Ordering.{is_lt, is_eq, eq_by_cmp}
use Rattle.std.specs.FinMap as map
use Rattle.std.specs.FinMap.Entries.{find, below_all, is_sorted}
use Rattle.std.proofs.Common.{sym, ap, ◌∙◌, subst, arith}
use Rattle.std.proofs.lemmas.Bool.{and_from, lt-ltb, le-leb}
use Rattle.std.proofs.lemmas.List.{length-append, length-map}
use Rattle.std.proofs.lemmas.List.Elements.{All-from_recursion, recursion_from_All}
use Rattle.std.proofs.lemmas.List.Sorted.{IsPermutation-map, All-permutation, length_permutation}
use Rattle.std.proofs.lemmas.List.Sums.{sum_by-cons}
use Rattle.doc_model.specs.declared.key.DocKey.{DocKey}
use Rattle.doc_model.specs.declared.document.Item.{Item}
use Rattle.doc_model.specs.declared.document.What.{What}
use Rattle.doc_model.specs.declared.document.What.TheVariants as whats
use Rattle.doc_model.specs.Keys.{key_cmp}
use Rattle.doc_model.specs.Values.{StandOnce}
use Rattle.doc_model.proofs.Entries.{exact_keys, same_key, keys_total}
use Rattle.leb_collections.specs.Functions.{id_bytes}
use Rattle.manifest_rules.specs.Catalog.{Catalog}
use Rattle.vb_log.specs.declared.bounds.Bounds.{Bounds}
use Rattle.vb_log.specs.declared.entry.Pending.{Pending}
use Rattle.vb_log.specs.Content.{Content, has_collection}
use Rattle.vb_log.specs.Contents.{IsAllowedItem, HasBytes, IsWhole, AreItems, numbers_in}
use Rattle.vb_log.specs.Held.{item_weight, pending_weight, waiting_size, positions_rise, positions_within, AreThere, IsHeld}
use Rattle.vb_log.specs.Keys.{IsAllowedKey}
use Rattle.vb_log.specs.Prepares.{AreWaiting}
use Rattle.vb_log.specs.Sizes.{size_of}
use Rattle.vb_log.specs.Spelling.{IsAllowedWhat}
use Rattle.vb_log.specs.Wholes.{by_keys, AreParts, KeepLimits, AreOrdered, listed_size, are_within, GoTogether}
use Rattle.vb_log.proofs.Distinct.{distinct_moved}
use Rattle.vb_log.proofs.Pieces.{key_fits}
use Rattle.vb_log.proofs.Sorting.{hits, hits_more, AllOnce, same_found, values_keyed}
use Rattle.vb_log.proofs.ContentBytes.{rising, sorted_rising, rising_values, rising_allowed, each_value}
use Rattle.vb_log.proofs.Holding.{fits}

-- ---- items of which no two keys are equal

abbrev pub item_keys : List Item → List DocKey
item_keys items = list_map (λ (i : Item). i.key) items

no_hits : (q : DocKey) (items : List Item) → AllByRecursion (λ y. eq_by_cmp key_cmp q y ≡ false) (item_keys items) → hits q items ≡ 0
no_hits q [] h = refl
no_hits q (i ∷ items) h =
    let more : hits q (i ∷ items) ≡ 0 + hits q items = hits_more q i items ∙ ap (λ b. cond b 1 0 + hits q items) h.0 in
    let rest = no_hits q items h.1 in
    omega arith

-- none is hit twice
pub once : (items : List Item) → IsDistinct (eq_by_cmp key_cmp) (item_keys items) → AllOnce items
unfolding IsDistinct
once [] h q = omega arith
once (i ∷ items) h q = go (eq_by_cmp key_cmp q i.key) refl (once items h.1 q)
  where
    go : (b : Bool) → eq_by_cmp key_cmp q i.key ≡ b → hits q items ≤ 1 → hits q (i ∷ items) ≤ 1
    go true is rest =
        let none : hits q items ≡ 0 = ap (λ k. hits k items) (same_key q i.key is) ∙ no_hits i.key items h.0 in
        let more : hits q (i ∷ items) ≡ 1 + hits q items = hits_more q i items ∙ ap (λ b. cond b 1 0 + hits q items) is in
        omega arith
    go false is rest =
        let more : hits q (i ∷ items) ≡ 0 + hits q items = hits_more q i items ∙ ap (λ b. cond b 1 0 + hits q items) is in
        omega arith

first : (a b : Bool) → T (a && b) → T a
first true b h = tt
first false b h = h

second : (a b : Bool) → T (a && b) → T b
second true b h = h
second false b h = absurd h

both : (a b : Bool) → T a → T b → T (a && b)
both true b p q = q
both false b p q = absurd p

all_below : (k : DocKey) (items : List Item) → AllByRecursion (λ y. key_cmp k y ≡ Less) (item_keys items) → T (below_all key_cmp k (by_keys items))
all_below k [] h = tt
all_below k (i ∷ items) h = both (is_lt (key_cmp k i.key)) (below_all key_cmp k (by_keys items)) (subst (λ o. T (is_lt o)) (sym h.0) tt) (all_below k items h.1)

-- keys that rise are those of a map
pub ordered : (items : List Item) → IsStrictlySortedBy key_cmp (item_keys items) → is_sorted key_cmp (by_keys items) ≡ true
unfolding IsStrictlySortedBy
ordered items h = holds (is_sorted key_cmp (by_keys items)) (go items h)
  where
    holds : (b : Bool) → T b → b ≡ true
    holds true h = refl
    holds false h = absurd h

    go : (items : List Item) → IsStrictlySortedBy key_cmp (item_keys items) → T (is_sorted key_cmp (by_keys items))
    go [] h = tt
    go (i ∷ items) h = both (below_all key_cmp i.key (by_keys items)) (is_sorted key_cmp (by_keys items)) (all_below i.key items h.0) (go items h.1)

-- keys of a map are apart
pub apart : (items : List Item) → T (is_sorted key_cmp (by_keys items)) → IsDistinct (eq_by_cmp key_cmp) (item_keys items)
unfolding IsDistinct
apart [] h = tt
apart (i ∷ items) h = (go items (first (below_all key_cmp i.key (by_keys items)) (is_sorted key_cmp (by_keys items)) h), apart items (second (below_all key_cmp i.key (by_keys items)) (is_sorted key_cmp (by_keys items)) h))
  where
    differ : (o : Ordering) → T (is_lt o) → is_eq o ≡ false
    differ Less h = refl
    differ Equal h = absurd h
    differ Greater h = absurd h

    go : (js : List Item) → T (below_all key_cmp i.key (by_keys js)) → AllByRecursion (λ y. eq_by_cmp key_cmp i.key y ≡ false) (item_keys js)
    go [] h = tt
    go (j ∷ js) h = (differ (key_cmp i.key j.key) (first (is_lt (key_cmp i.key j.key)) (below_all key_cmp i.key (by_keys js)) h), go js (second (is_lt (key_cmp i.key j.key)) (below_all key_cmp i.key (by_keys js)) h))

-- the map of items in whatever order
pub same_made : (items sorted : List Item) → IsPermutation items sorted → IsDistinct (eq_by_cmp key_cmp) (item_keys items) → map.from_entries {R = key_cmp} (by_keys items) ≡ map.from_entries (by_keys sorted)
same_made items sorted moved apart =
    let also = distinct_moved keys_total (item_keys items) (item_keys sorted) (IsPermutation-map (λ (i : Item). i.key) items sorted moved) apart in
    map.same_map keys_total exact_keys (map.from_entries (by_keys items)) (map.from_entries (by_keys sorted)) (λ q.
    map.get-from_entries keys_total (by_keys items) q ∙ sym (same_found items sorted q moved (once items apart) (once sorted also)) ∙ sym (map.get-from_entries keys_total (by_keys sorted) q))

pub parts_moved : (items sorted : List Item) (pending : List Pending) (manifest : Catalog) (cas last : ℕ) (c : Content) → IsPermutation items sorted → AreParts items pending manifest cas last c → AreParts sorted pending manifest cas last c
parts_moved items sorted pending manifest cas last c moved h = record {
  once = distinct_moved keys_total (item_keys items) (item_keys sorted) (IsPermutation-map (λ (i : Item). i.key) items sorted moved) h.once;
  items_are = h.items_are ∙ same_made items sorted moved h.once;
  prepares_are = h.prepares_are;
  manifest_is = h.manifest_is;
  cas_is = h.cas_is;
  length_is = h.length_is;
}

-- ---- changes that wait

pub waiting_within : (bounds : Bounds) (before : ℕ) (ps : List Pending) → AreWaiting bounds before ps → positions_within bounds.last ps ≡ true
waiting_within bounds before [] h = refl
waiting_within bounds before (p ∷ ps) h =
    let w = h.0 in
    and_from (nat_le p.position bounds.last) (positions_within bounds.last ps) (le-leb p.position bounds.last w.within) (waiting_within bounds p.position ps h.1)

pub waiting_rise : (bounds : Bounds) (before : ℕ) (ps : List Pending) → AreWaiting bounds before ps → positions_rise ps ≡ true
waiting_rise bounds before [] h = refl
waiting_rise bounds before (p ∷ []) h = refl
waiting_rise bounds before (p ∷ r ∷ ps) h =
    let w = h.1.0 in
    and_from (nat_lt p.position r.position) (positions_rise (r ∷ ps)) (lt-ltb p.position r.position w.later) (waiting_rise bounds p.position (r ∷ ps) h.1)

-- ---- what they count

light : (k : DocKey) (w : What) → IsAllowedKey k → IsAllowedWhat w → size_of k w ≤ 33554432
light k (whats.Put doc) h a =
    let x = a.attributes_short in
    let v = a.value_short in
    omega (arith, key_fits k h, length-append (id_bytes k.collection) k.key)
light k (whats.Remove cas) h a = omega (arith, key_fits k h, length-append (id_bytes k.collection) k.key)

listed_light : (manifest : Catalog) (bounds : Bounds) (before : Option DocKey) (items : List Item) → AreItems manifest bounds before items → listed_size items ≤ 33554432 * length items
listed_light manifest bounds before [] h = omega arith
listed_light manifest bounds before (i ∷ items) h =
    let n = h.0 in
    let a = n.allowed in
    let one = light i.key i.what a.key a.what in
    let rest = listed_light manifest bounds (Some i.key) items h.1 in
    let more = sum_by-cons (λ n. n) (item_weight i) (list_map item_weight items) in
    omega arith

waiting_light : (bounds : Bounds) (before : ℕ) (ps : List Pending) → AreWaiting bounds before ps → waiting_size ps ≤ 33554432 * length ps
waiting_light bounds before [] h = omega arith
waiting_light bounds before (p ∷ ps) h =
    let w = h.0 in
    let one = light p.key p.what w.key w.what in
    let rest = waiting_light bounds p.position ps h.1 in
    let more = sum_by-cons (λ n. n) (pending_weight p) (list_map pending_weight ps) in
    omega arith

-- they are counted in 64 bits
pub countable : (items : List Item) (pending : List Pending) (manifest : Catalog) (bounds : Bounds) → AreOrdered items pending manifest bounds → listed_size items + waiting_size pending < 2 ^ 64
countable items pending manifest bounds h =
    let r = h.rising in
    let w = h.waiting in
    let few = r.few in
    let also = w.few in
    let a = listed_light manifest bounds None items r.rising in
    let b = waiting_light bounds 0 pending w.waiting in
    omega arith

-- ---- the content of parts

abbrev pub made_of : List Item → List Pending → Catalog → ℕ → ℕ → Content
made_of items pending manifest cas last = record { items = map.from_entries (by_keys items); prepares = pending; manifest = manifest; greatest_cas = cas; length = last }

pub is_made : (items : List Item) (pending : List Pending) (manifest : Catalog) (cas last : ℕ) (c : Content) → AreParts items pending manifest cas last c → made_of items pending manifest cas last ≡ c
is_made items pending manifest cas last c h = λ i. record { items = sym h.items_are i; prepares = sym h.prepares_are i; manifest = sym h.manifest_is i; greatest_cas = sym h.cas_is i; length = sym h.length_is i }

-- what was made of them, of the same items and the same changes
pub made_is : (items : List Item) (pending : List Pending) (manifest : Catalog) (cas last : ℕ) (its : map.FinMap key_cmp Item) (waits : List Pending) → its ≡ map.from_entries (by_keys items) → waits ≡ pending
    → made_of items pending manifest cas last ≡ record { items = its; prepares = waits; manifest = manifest; greatest_cas = cas; length = last }
made_is items pending manifest cas last its waits e f = λ i. record { items = sym e i; prepares = sym f i; manifest = manifest; greatest_cas = cas; length = last }

-- parts are those of one content
pub one_made : (items : List Item) (pending : List Pending) (manifest : Catalog) (cas last : ℕ) (c d : Content) → AreParts items pending manifest cas last c → AreParts items pending manifest cas last d → c ≡ d
one_made items pending manifest cas last c d h k = sym (is_made items pending manifest cas last c h) ∙ is_made items pending manifest cas last d k

module _ (items : List Item) (pending : List Pending) (manifest : Catalog) (bounds : Bounds) (h : AreOrdered items pending manifest bounds) where
  found : (q : DocKey) → map.get (map.from_entries {R = key_cmp} (by_keys items)) q ≡ find key_cmp q (by_keys items)
  found q = map.get-from_entries keys_total (by_keys items) q

  pub values_made : map.values (map.from_entries {R = key_cmp} (by_keys items)) ≡ items
  values_made = rising_values manifest bounds (map.from_entries (by_keys items)) items h.rising found

  allowed : (key : DocKey) (item : Item) → map.get (map.from_entries {R = key_cmp} (by_keys items)) key ≡ Some item → IsAllowedItem manifest bounds item × (item.key ≡ key)
  allowed = rising_allowed manifest bounds (map.from_entries (by_keys items)) items h.rising found

  pub bytes_made : HasBytes (made_of items pending manifest bounds.cas bounds.last)
  bytes_made =
      let few = h.rising in
      let short = few.few in
      record {
        short = let w = h.wide in w.last;
        cas = let w = h.wide in w.cas;
        kept = h.kept;
        own = λ q v f. (allowed q v f).1;
        items = λ q v f. (allowed q v f).0;
        few = omega (arith, length-map (map.entries (map.from_entries {R = key_cmp} (by_keys items))) (λ e. e.1), map.len-entries (map.from_entries {R = key_cmp} (by_keys items)), ap length values_made);
        prepares = h.waiting;
      }

  pub whole_made : GoTogether items pending bounds.last → IsWhole (made_of items pending manifest bounds.cas bounds.last)
  whole_made t = record {
    parts = bytes_made;
    apart = t.apart;
    one_each = subst (λ l. IsDistinct nat_eq (numbers_in l pending)) (sym values_made) t.one_each;
    within = subst (λ l. are_within l pending bounds.last ≡ true) (sym values_made) t.within;
  }

  pub together : IsWhole (made_of items pending manifest bounds.cas bounds.last) → GoTogether items pending bounds.last
  together w = record {
    within = subst (λ l. are_within l pending bounds.last ≡ true) values_made w.within;
    apart = w.apart;
    one_each = subst (λ l. IsDistinct nat_eq (numbers_in l pending)) values_made w.one_each;
  }

  pub none_whole : (GoTogether items pending bounds.last → ⊥) → (c : Content) → AreParts items pending manifest bounds.cas bounds.last c → IsWhole c → ⊥
  none_whole apart c p w = apart (together (subst IsWhole (sym (is_made items pending manifest bounds.cas bounds.last c p)) w))

  pub parts_made : AreParts items pending manifest bounds.cas bounds.last (made_of items pending manifest bounds.cas bounds.last)
  parts_made = let r = h.rising in record { once = apart items (sorted_rising manifest bounds None items r.rising); items_are = refl; prepares_are = refl; manifest_is = refl; cas_is = refl; length_is = refl }

  -- ---- it is held

  there : AreThere manifest (map.from_entries {R = key_cmp} (by_keys items))
  there q gone = go (map.get (map.from_entries {R = key_cmp} (by_keys items)) q) refl
    where
      go : (o : Option Item) → map.get (map.from_entries {R = key_cmp} (by_keys items)) q ≡ o → o ≡ None
      go None e = refl
      go (Some item) e =
          let a = allowed q item e in
          let b = a.0 in
          absurd (let z : true ≡ false = sym b.present ∙ ap (λ (k : DocKey). has_collection manifest k.collection) a.1 ∙ gone in cc)

  pub held_made : GoTogether items pending bounds.last → IsHeld (made_of items pending manifest bounds.cas bounds.last)
  held_made t =
      let w = whole_made t in
      let f = (fits (made_of items pending manifest bounds.cas bounds.last) w.within).sized in
      record { kept = h.kept; there = there; within = waiting_within bounds 0 pending (let p = h.waiting in p.waiting); fits = omega arith }

-- ---- parts of a content that is whole keep their limits

stand_once : (items : List Item) → IsDistinct (eq_by_cmp key_cmp) (item_keys items) → StandOnce (by_keys items)
unfolding IsDistinct
stand_once [] h = tt
stand_once (i ∷ items) h = (none items h.0, stand_once items h.1)
  where
    none : (js : List Item) → AllByRecursion (λ y. eq_by_cmp key_cmp i.key y ≡ false) (item_keys js) → find key_cmp i.key (by_keys js) ≡ None
    none [] h = refl
    none (j ∷ js) h = ap (λ b. cond b (Some j) (find key_cmp i.key (by_keys js))) h.0 ∙ none js h.1

-- a map has as many items
len_made : (items : List Item) → IsDistinct (eq_by_cmp key_cmp) (item_keys items) → map.len (map.from_entries {R = key_cmp} (by_keys items)) ≡ length items
len_made items h = go items (stand_once items h)
  where
    go : (items : List Item) → StandOnce (by_keys items) → map.len (map.from_entries {R = key_cmp} (by_keys items)) ≡ length items
    go [] once = map.len-empty key_cmp Item
    go (i ∷ items) once =
        let m = map.from_entries {R = key_cmp} (by_keys items) in
        let none : is_some (map.get m i.key) ≡ false = ap is_some (map.get-from_entries keys_total (by_keys items) i.key ∙ once.0) in
        let more : map.len (map.insert m i.key i) ≡ map.len m + 1 = map.len-insert keys_total m i.key i ∙ ap (λ b. cond b (map.len m) (map.len m + 1)) none in
        let rest = go items once.1 in
        omega arith

pub limits_kept : (items : List Item) (pending : List Pending) (manifest : Catalog) (cas last : ℕ) (c : Content) → AreParts items pending manifest cas last c → IsWhole c → KeepLimits items pending manifest (record { last = last; cas = cas })
limits_kept items pending manifest cas last c p w =
    let made = subst IsWhole (sym (is_made items pending manifest cas last c p)) w in
    let b = made.parts in
    let few = b.few in
    record {
      wide = record { last = b.short; cas = b.cas };
      kept = b.kept;
      few = let is = len_made items p.once in omega arith;
      allowed = subst (AllByRecursion (IsAllowedItem manifest (record { last = last; cas = cas }))) (values_keyed items)
          (each_value (IsAllowedItem manifest (record { last = last; cas = cas })) (by_keys items) (stand_once items p.once) (λ q v f. b.items q v (map.get-from_entries keys_total (by_keys items) q ∙ f)));
      waiting = b.prepares;
    }

-- ---- parts that keep their limits, in order

pub in_order : (items sorted : List Item) (pending : List Pending) (manifest : Catalog) (bounds : Bounds) → KeepLimits items pending manifest bounds → IsPermutation items sorted → is_sorted key_cmp (by_keys sorted) ≡ true → AreOrdered sorted pending manifest bounds
in_order items sorted pending manifest bounds h moved up =
    let few = h.few in
    record {
      wide = h.wide;
      kept = h.kept;
      rising = record {
        rising = rising manifest bounds None sorted (subst T (sym up) tt) tt
            (recursion_from_All (IsAllowedItem manifest bounds) sorted (All-permutation (IsAllowedItem manifest bounds) items sorted moved (All-from_recursion (IsAllowedItem manifest bounds) items h.allowed)));
        few = omega (arith, length_permutation items sorted moved);
      };
      waiting = h.waiting;
    }
