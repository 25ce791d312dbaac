-- What the items at spots count, by keys and by collections.
use Rattle.std.specs.Prelude.{◌≡◌, ℕ, ◌+◌, ◌<◌, ◌≤◌, is_some, nat_eq, nat_lt, if◌then◌else◌, Bool, true, false, cond, not, ◌&&◌, ◌||◌, List, [], ◌∷◌, length, take, drop, Option, Some, None, refl}
use Rattle.std.specs.List.{list_any}
use Rattle.std.specs.Ordering.{eq_by_cmp}
use Rattle.std.specs.FinMap as map
use Rattle.std.specs.FinMap.Entries.{find}
use Rattle.std.proofs.Common.{zero, suc, sym, ◌∙◌, ap, get_or, arith}
use Rattle.std.proofs.lemmas.Bool.{and_parts, ltb-true}
use Rattle.std.proofs.lemmas.Bool.Decides.{nat_tests}
use Rattle.std.proofs.lemmas.List.{drop_all}
use Rattle.std.proofs.lemmas.List.Folds.{list_any_more}
use Rattle.std.proofs.lemmas.List.Sums.{sum_by-drop_more}
use Rattle.doc_model.specs.declared.key.DocKey.{DocKey}
use Rattle.doc_model.specs.declared.document.Item.{Item}
use Rattle.doc_model.specs.Keys.{key_cmp, is_in}
use Rattle.doc_model.specs.Values.{weight_of, of_collection}
use Rattle.doc_model.proofs.Entries.{exact_keys, keys_total}
use Rattle.doc_model.proofs.Drops.{get_kept}
use Rattle.doc_model.proofs.Weights.{counted_of, weight_none, weight_insert, weight_remove, weight_parts, weight_part}
use Rattle.manifest_rules.specs.State.{are_rising}
use Rattle.vb_log.specs.Held.{item_weight, items_size}
use Rattle.vb_log.specs.Sizes.{item_size}
use Rattle.magma_store.specs.declared.spot.Placed.{Placed}
use Rattle.magma_store.specs.declared.spot.Spot.{Spot}
use Rattle.magma_disk.specs.Device.{Device}
use Rattle.magma_store.specs.Room.{with_found_one, with_room_for}
use Rattle.magma_store.specs.Spots.{no_spot, with_room, spot_weight, size_at, spots_size, places_size}
use Rattle.magma_store.specs.Store.{Leads, LeadTo}

-- ---- one key

counted_spot : (s : Option Spot) → counted_of spot_weight s ≡ size_at s
counted_spot None = refl
counted_spot (Some s) = refl

counted_item : (i : Option Item) → counted_of item_weight i ≡ item_size i
counted_item None = refl
counted_item (Some i) = refl

pub size_none : spots_size map.empty ≡ 0
size_none = weight_none spot_weight

pub size_insert : (m : map.FinMap key_cmp Spot) (k : DocKey) (s : Spot) → spots_size (map.insert m k s) + size_at (map.get m k) ≡ spots_size m + s.weight
size_insert m k s = let a = weight_insert spot_weight m k s in let b = counted_spot (map.get m k) in omega arith

pub size_remove : (m : map.FinMap key_cmp Spot) (k : DocKey) → spots_size (map.remove m k) + size_at (map.get m k) ≡ spots_size m
size_remove m k = let a = weight_remove spot_weight m k in let b = counted_spot (map.get m k) in omega arith

pub size_within : (m : map.FinMap key_cmp Spot) (k : DocKey) → size_at (map.get m k) ≤ spots_size m
size_within m k = let a = size_remove m k in omega arith

-- ---- the keys of some collections

-- what some collections have
abbrev pub of_some : List ℕ → map.FinMap key_cmp Spot → map.FinMap key_cmp Spot
of_some ids m = map.retain_keys m (is_in ids)

pub none_sized : (m : map.FinMap key_cmp Spot) → spots_size (of_some [] m) ≡ 0
none_sized m =
    ap spots_size (map.same_map keys_total exact_keys (of_some [] m) map.empty (λ q. get_kept m (is_in []) q ∙ sym (map.get-empty key_cmp q)))
    ∙ size_none

pub some_sized : (m : map.FinMap key_cmp Spot) (ids : List ℕ) → spots_size (of_some ids m) ≤ spots_size m
some_sized m ids = weight_part spot_weight m (is_in ids)

-- without them the rest counts so much less
pub others_sized : (m : map.FinMap key_cmp Spot) (ids : List ℕ)
    → spots_size (map.retain_keys m (λ key. not (is_in ids key))) + spots_size (of_some ids m) ≡ spots_size m
others_sized m ids = let e = weight_parts spot_weight m (is_in ids) in omega arith

kept_twice : (m : map.FinMap key_cmp Spot) (p q r : DocKey → Bool) → ((k : DocKey) → r k ≡ (p k && q k))
    → map.retain_keys (map.retain_keys m p) q ≡ map.retain_keys m r
kept_twice m p q r h = map.same_map keys_total exact_keys (map.retain_keys (map.retain_keys m p) q) (map.retain_keys m r) (λ k.
    get_kept (map.retain_keys m p) q k ∙ ap (λ o. cond (q k) o None) (get_kept m p k) ∙ go (p k) (q k) (map.get m k)
    ∙ sym (get_kept m r k ∙ ap (λ b. cond b (map.get m k) None) (h k)))
  where
    go : (a b : Bool) (o : Option Spot) → cond b (cond a o None) None ≡ cond (a && b) o None
    go true b o = refl
    go false true o = refl
    go false false o = refl

-- a number that follows others which rise isn't among them
rising_apart : (ids : List ℕ) (i : ℕ) → are_rising ids ≡ true → i < length ids → list_any (nat_eq (get_or ids i 0)) (take i ids) ≡ false
rising_apart [] i h l = absurd (omega arith)
rising_apart (x ∷ xs) i h l = go i l (λ j m. rising_apart xs j (rest xs h) m)
  where
    rest : (xs : List ℕ) → are_rising (x ∷ xs) ≡ true → are_rising xs ≡ true
    rest [] h = refl
    rest (y ∷ ys) h = (and_parts (nat_lt x y) (are_rising (y ∷ ys)) h).1

    above : (a : ℕ) (xs : List ℕ) (j : ℕ) → are_rising (a ∷ xs) ≡ true → j < length xs → a < get_or xs j 0
    above a [] j h l = absurd (omega arith)
    above a (y ∷ ys) zero h l = ltb-true a y (and_parts (nat_lt a y) (are_rising (y ∷ ys)) h).0
    above a (y ∷ ys) (suc j) h l =
        let parts = and_parts (nat_lt a y) (are_rising (y ∷ ys)) h in
        let first = ltb-true a y parts.0 in
        let later = above y ys j parts.1 (omega arith) in
        omega arith

    other : (a b : ℕ) → a < b → nat_eq b a ≡ false
    other a b h = grind (arith, nat_tests)

    go : (i : ℕ) → i < length (x ∷ xs) → ((j : ℕ) → j < length xs → list_any (nat_eq (get_or xs j 0)) (take j xs) ≡ false)
        → list_any (nat_eq (get_or (x ∷ xs) i 0)) (take i (x ∷ xs)) ≡ false
    go zero l before = refl
    go (suc j) l before =
        ap (λ b. b || list_any (nat_eq (get_or xs j 0)) (take j xs)) (other x (get_or xs j 0) (above x xs j h (omega arith)))
        ∙ before j (omega arith)

-- one collection more
pub some_more : (m : map.FinMap key_cmp Spot) (ids : List ℕ) (i : ℕ) → are_rising ids ≡ true → i < length ids
    → spots_size (of_some (take (i + 1) ids) m) ≡ spots_size (of_some (take i ids) m) + weight_of spot_weight (of_collection (get_or ids i 0) m)
some_more m ids i rising l =
    let id = get_or ids i 0 in
    let more = of_some (take (i + 1) ids) m in
    let own : map.retain_keys more (λ key. nat_eq key.collection id) ≡ of_collection id m =
    kept_twice m (is_in (take (i + 1) ids)) (λ key. nat_eq key.collection id) (λ key. nat_eq key.collection id)
    (λ k. first (is_in (take (i + 1) ids) k) (is_in (take i ids) k) (nat_eq k.collection id) (told k)) in
    let others : map.retain_keys more (λ key. not (nat_eq key.collection id)) ≡ of_some (take i ids) m =
    kept_twice m (is_in (take (i + 1) ids)) (λ key. not (nat_eq key.collection id)) (is_in (take i ids))
    (λ k. second (is_in (take (i + 1) ids) k) (is_in (take i ids) k) (nat_eq k.collection id) (told k) (apart k)) in
    let parts = weight_parts spot_weight more (λ key. nat_eq key.collection id) in
    let a = ap spots_size own in
    let b = ap spots_size others in
    omega arith
  where
    told : (k : DocKey) → is_in (take (i + 1) ids) k ≡ (is_in (take i ids) k || nat_eq k.collection (get_or ids i 0))
    told k = list_any_more (nat_eq k.collection) ids i 0 l

    number : (a b : ℕ) → nat_eq a b ≡ true → a ≡ b
    number a b e = grind (arith, nat_tests)

    apart : (k : DocKey) → nat_eq k.collection (get_or ids i 0) ≡ true → is_in (take i ids) k ≡ false
    apart k e = ap (λ n. list_any (nat_eq n) (take i ids)) (number k.collection (get_or ids i 0) e) ∙ rising_apart ids i rising l

    first : (a b c : Bool) → a ≡ (b || c) → c ≡ (a && c)
    first a b true e = sym (ap (λ x. x && true) (e ∙ ends b))
      where
        ends : (b : Bool) → (b || true) ≡ true
        ends true = refl
        ends false = refl
    first true b false e = refl
    first false b false e = refl

    second : (a b c : Bool) → a ≡ (b || c) → (c ≡ true → b ≡ false) → b ≡ (a && not c)
    second a true true e h = absurd (let z = h refl in cc)
    second a false true e h = sym (none a)
      where
        none : (a : Bool) → (a && false) ≡ false
        none true = refl
        none false = refl
    second a true false e h = sym (ap (λ x. x && true) e)
    second a false false e h = sym (ap (λ x. x && true) e)

-- ---- places

-- what items count from one place on
pub size_from : (ps : List Placed) (i : ℕ) (p : Placed) → i < length ps → p ≡ get_or ps i p → places_size (drop i ps) ≡ p.spot.weight + places_size (drop (i + 1) ps)
size_from ps i p low is =
    let next = sum_by-drop_more (λ (p : Placed). p.spot.weight) ps i p low in
    let same = ap (λ (p : Placed). p.spot.weight) is in
    omega arith

pub size_behind : (ps : List Placed) (i : ℕ) → length ps ≤ i → places_size (drop i ps) ≡ 0
size_behind ps i all = ap places_size (drop_all i ps all)

-- a spot that is set counts no more than its item
pub size_found : (m : map.FinMap key_cmp Spot) (p : Placed) → spots_size (with_found_one m p) ≤ spots_size m + p.spot.weight
size_found m p = go (is_some (map.get m p.key))
  where
    go : (b : Bool) → spots_size (if b then map.insert m p.key p.spot else m) ≤ spots_size m + p.spot.weight
    go true = let e = size_insert m p.key p.spot in omega arith
    go false = omega arith

-- room counts nothing
pub size_room : (m : map.FinMap key_cmp Spot) (ps : List Placed) → spots_size (with_room m ps) ≡ spots_size m
size_room m [] = refl
size_room m (p ∷ ps) = size_room (with_room_for m p) ps ∙ go (map.get m p.key) refl
  where
    go : (o : Option Spot) → map.get m p.key ≡ o → spots_size (if is_some o then m else map.insert m p.key no_spot) ≡ spots_size m
    go (Some s) e = refl
    go None e =
        let more = size_insert m p.key no_spot in
        let none : size_at (map.get m p.key) ≡ 0 = ap size_at e in
        omega arith

-- ---- items at their spots

-- two maps have something at the same keys, which counts the same
pub record Alike {X Y : Type 0} (f : X → ℕ) (g : Y → ℕ) (m : map.FinMap key_cmp X) (n : map.FinMap key_cmp Y) : Type 0 where
  pub there : (q : DocKey) → is_some (map.get m q) ≡ is_some (map.get n q)
  pub count : (q : DocKey) → counted_of f (map.get m q) ≡ counted_of g (map.get n q)

alike_kept : {X Y : Type 0} (f : X → ℕ) (g : Y → ℕ) (m : map.FinMap key_cmp X) (n : map.FinMap key_cmp Y) (p : DocKey → Bool) → Alike f g m n → Alike f g (map.retain_keys m p) (map.retain_keys n p)
alike_kept {X} {Y} f g m n p h = record {
  there = λ q. ap is_some (get_kept m p q) ∙ some_kept (p q) (map.get m q) (map.get n q) (h.there q) ∙ sym (ap is_some (get_kept n p q));
  count = λ q. ap (counted_of f) (get_kept m p q) ∙ count_kept (p q) (map.get m q) (map.get n q) (h.count q) ∙ sym (ap (counted_of g) (get_kept n p q));
}
  where
    some_kept : (b : Bool) (s : Option X) (i : Option Y) → is_some s ≡ is_some i → is_some (cond b s None) ≡ is_some (cond b i None)
    some_kept true s i e = e
    some_kept false s i e = refl

    count_kept : (b : Bool) (s : Option X) (i : Option Y) → counted_of f s ≡ counted_of g i → counted_of f (cond b s None) ≡ counted_of g (cond b i None)
    count_kept true s i e = e
    count_kept false s i e = refl

alike_without : {X Y : Type 0} (f : X → ℕ) (g : Y → ℕ) (m : map.FinMap key_cmp X) (n : map.FinMap key_cmp Y) (k : DocKey) → Alike f g m n → Alike f g (map.remove m k) (map.remove n k)
alike_without {X} {Y} f g m n k h = record {
  there = λ q. ap is_some (map.get-remove keys_total m k q) ∙ some_left (eq_by_cmp key_cmp q k) (map.get m q) (map.get n q) (h.there q) ∙ sym (ap is_some (map.get-remove keys_total n k q));
  count = λ q. ap (counted_of f) (map.get-remove keys_total m k q) ∙ count_left (eq_by_cmp key_cmp q k) (map.get m q) (map.get n q) (h.count q) ∙ sym (ap (counted_of g) (map.get-remove keys_total n k q));
}
  where
    some_left : (b : Bool) (s : Option X) (i : Option Y) → is_some s ≡ is_some i → is_some (cond b None s) ≡ is_some (cond b None i)
    some_left true s i e = refl
    some_left false s i e = e

    count_left : (b : Bool) (s : Option X) (i : Option Y) → counted_of f s ≡ counted_of g i → counted_of f (cond b None s) ≡ counted_of g (cond b None i)
    count_left true s i e = refl
    count_left false s i e = e

is_none : {X : Type 0} (o : Option X) → false ≡ is_some o → o ≡ None
is_none None e = refl
is_none (Some x) e = absurd (cc)

-- such maps count the same together
alike_among : {X Y : Type 0} (f : X → ℕ) (g : Y → ℕ) (es : List (DocKey × X)) (m : map.FinMap key_cmp X) (n : map.FinMap key_cmp Y) → Alike f g m n
    → ((q : DocKey) → find key_cmp q es ≡ None → map.get m q ≡ None) → weight_of f m ≡ weight_of g n
alike_among {X} {Y} f g [] m n h among =
    let left : m ≡ map.empty = map.same_map keys_total exact_keys m map.empty (λ q. among q refl ∙ sym (map.get-empty key_cmp q)) in
    let right : n ≡ map.empty = map.same_map keys_total exact_keys n map.empty (λ q.
    is_none (map.get n q) (sym (ap is_some (among q refl)) ∙ h.there q) ∙ sym (map.get-empty key_cmp q)) in
    ap (weight_of f) left ∙ weight_none f ∙ sym (ap (weight_of g) right ∙ weight_none g)
alike_among {X} {Y} f g (e ∷ es) m n h among =
    let rest = alike_among f g es (map.remove m e.0) (map.remove n e.0) (alike_without f g m n e.0 h) left in
    let one = weight_remove f m e.0 in
    let other = weight_remove g n e.0 in
    let same = h.count e.0 in
    omega arith
  where
    go : (q : DocKey) (b : Bool) → eq_by_cmp key_cmp q e.0 ≡ b → find key_cmp q es ≡ None → cond b None (map.get m q) ≡ None
    go q true t none = refl
    go q false t none = among q (ap (λ b. cond b (Some e.1) (find key_cmp q es)) t ∙ none)

    left : (q : DocKey) → find key_cmp q es ≡ None → map.get (map.remove m e.0) q ≡ None
    left q none = map.get-remove keys_total m e.0 q ∙ go q (eq_by_cmp key_cmp q e.0) refl none

alike_weigh : {X Y : Type 0} (f : X → ℕ) (g : Y → ℕ) (m : map.FinMap key_cmp X) (n : map.FinMap key_cmp Y) → Alike f g m n → weight_of f m ≡ weight_of g n
alike_weigh f g m n h = alike_among f g (map.entries m) m n h (λ q none. map.get-entries m q ∙ none)

-- ---- spots that lead to items

pub lead_there : (bytes : List ℕ) (end : ℕ) (key : DocKey) (s : Option Spot) (i : Option Item) → Leads bytes end key s i → is_some s ≡ is_some i
lead_there bytes end key None None l = refl
lead_there bytes end key (Some s) (Some i) l = refl
lead_there bytes end key None (Some i) l = absurd l
lead_there bytes end key (Some s) None l = absurd l

pub lead_size : (bytes : List ℕ) (end : ℕ) (key : DocKey) (s : Option Spot) (i : Option Item) → Leads bytes end key s i → size_at s ≡ item_size i
lead_size bytes end key None None l = refl
lead_size bytes end key (Some s) (Some i) l = l.2.weight
lead_size bytes end key None (Some i) l = absurd l
lead_size bytes end key (Some s) None l = absurd l

leads_alike : (spots : map.FinMap key_cmp Spot) (items : map.FinMap key_cmp Item) (end : ℕ) (h : List Device) → LeadTo spots items end h → Alike spot_weight item_weight spots items
leads_alike spots items end [] lead = absurd lead
leads_alike spots items end (d ∷ past) lead = record {
  there = λ q. lead_there d.bytes end q (map.get spots q) (map.get items q) (lead q);
  count = λ q. counted_spot (map.get spots q) ∙ lead_size d.bytes end q (map.get spots q) (map.get items q) (lead q) ∙ sym (counted_item (map.get items q));
}

-- a key has a spot where it has an item
pub opened_there : (spots : map.FinMap key_cmp Spot) (items : map.FinMap key_cmp Item) (end : ℕ) (h : List Device) (key : DocKey) → LeadTo spots items end h → is_some (map.get spots key) ≡ is_some (map.get items key)
opened_there spots items end h key lead = let alike = leads_alike spots items end h lead in alike.there key

-- and its spot tells what it counts
pub opened_at : (spots : map.FinMap key_cmp Spot) (items : map.FinMap key_cmp Item) (end : ℕ) (h : List Device) (key : DocKey) → LeadTo spots items end h → size_at (map.get spots key) ≡ item_size (map.get items key)
opened_at spots items end h key lead =
    let alike = leads_alike spots items end h lead in
    sym (counted_spot (map.get spots key)) ∙ alike.count key ∙ counted_item (map.get items key)

-- so all spots tell what all items count
pub opened_size : (spots : map.FinMap key_cmp Spot) (items : map.FinMap key_cmp Item) (end : ℕ) (h : List Device) → LeadTo spots items end h → spots_size spots ≡ items_size items
opened_size spots items end h lead = alike_weigh spot_weight item_weight spots items (leads_alike spots items end h lead)

pub opened_in : (spots : map.FinMap key_cmp Spot) (items : map.FinMap key_cmp Item) (end : ℕ) (h : List Device) (ids : List ℕ) → LeadTo spots items end h
    → spots_size (map.retain_keys spots (is_in ids)) ≡ items_size (map.retain_keys items (is_in ids))
opened_in spots items end h ids lead =
    alike_weigh spot_weight item_weight (map.retain_keys spots (is_in ids)) (map.retain_keys items (is_in ids))
    (alike_kept spot_weight item_weight spots items (is_in ids) (leads_alike spots items end h lead))
