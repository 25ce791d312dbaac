-- What items count, as they come and go.
use Rattle.std.specs.Prelude.{◌≡◌, ℕ, ◌+◌, ◌<◌, ◌≤◌, nat_eq, nat_lt, Bool, true, false, cond, not, ◌&&◌, ◌||◌, List, [], ◌∷◌, length, take, Option, Some, None, refl}
use Rattle.std.specs.List.{list_any}
use Rattle.std.specs.Ordering.{eq_by_cmp}
use Rattle.std.specs.FinMap as map
use Rattle.std.proofs.Common.{zero, suc, sym, ◌∙◌, ap, get_or, arith}
use Rattle.std.proofs.lemmas.Bool.{and_parts, ltb-true}
use Rattle.std.proofs.lemmas.Bool.Decides.{nat_tests}
use Rattle.std.proofs.lemmas.List.Folds.{list_any_more}
use Rattle.doc_model.specs.declared.key.DocKey.{DocKey}
use Rattle.doc_model.specs.declared.document.Item.{Item}
use Rattle.doc_model.specs.Keys.{key_cmp, is_in}
use Rattle.doc_model.specs.Values.{weight_of, of_collection}
use Rattle.doc_model.proofs.Entries.{exact_keys, keys_total, same_key}
use Rattle.doc_model.proofs.Drops.{get_kept}
use Rattle.doc_model.proofs.Weights.{counted_of, weight_none, weight_insert, weight_remove, weight_parts, weight_part}
use Rattle.manifest_rules.specs.State.{are_rising}
use Rattle.vb_log.specs.Sizes.{item_size}
use Rattle.vb_log.specs.Held.{item_weight, items_size, StandAtKeys}

-- what a key's item counts, in both words
pub item_counted : (o : Option Item) → counted_of item_weight o ≡ item_size o
item_counted None = refl
item_counted (Some i) = refl

pub size_none : items_size map.empty ≡ 0
size_none = weight_none item_weight

-- ---- one item

pub size_insert : (m : map.FinMap key_cmp Item) (k : DocKey) (item : Item) → items_size (map.insert m k item) + item_size (map.get m k) ≡ items_size m + item_weight item
size_insert m k item = let a = weight_insert item_weight m k item in let b = item_counted (map.get m k) in omega arith

pub size_remove : (m : map.FinMap key_cmp Item) (k : DocKey) → items_size (map.remove m k) + item_size (map.get m k) ≡ items_size m
size_remove m k = let a = weight_remove item_weight m k in let b = item_counted (map.get m k) in omega arith

pub size_at : (m : map.FinMap key_cmp Item) (k : DocKey) → item_size (map.get m k) ≤ items_size m
size_at m k = let a = size_remove m k in omega arith

pub stand_none : StandAtKeys map.empty
stand_none key item e = absurd (let z : None ≡ Some item = sym (map.get-empty key_cmp key) ∙ e in cc)

pub stand_insert : (m : map.FinMap key_cmp Item) (k : DocKey) (item : Item) → item.key ≡ k → StandAtKeys m → StandAtKeys (map.insert m k item)
stand_insert m k item own h key found e = go (eq_by_cmp key_cmp key k) refl (sym (map.get-insert keys_total m k item key) ∙ e)
  where
    same : (a b : Item) → Some a ≡ Some b → a ≡ b
    same a b q = cc

    go : (b : Bool) → eq_by_cmp key_cmp key k ≡ b → cond b (Some item) (map.get m key) ≡ Some found → found.key ≡ key
    go true t e = ap (λ (i : Item). i.key) (sym (same item found e)) ∙ own ∙ sym (same_key key k t)
    go false t e = h key found e

stand_kept : (m : map.FinMap key_cmp Item) (p : DocKey → Bool) → StandAtKeys m → StandAtKeys (map.retain_keys m p)
stand_kept m p h key found e = go (p key) (sym (get_kept m p key) ∙ e)
  where
    go : (b : Bool) → cond b (map.get m key) None ≡ Some found → found.key ≡ key
    go true e = h key found e
    go false e = absurd (let z : None ≡ Some found = e in cc)

pub stand_remove : (m : map.FinMap key_cmp Item) (k : DocKey) → StandAtKeys m → StandAtKeys (map.remove m k)
stand_remove m k h key found e = go (eq_by_cmp key_cmp key k) (sym (map.get-remove keys_total m k key) ∙ e)
  where
    go : (b : Bool) → cond b None (map.get m key) ≡ Some found → found.key ≡ key
    go true e = absurd (let z : None ≡ Some found = e in cc)
    go false e = h key found e

-- ---- the items of some collections

-- what some collections have
abbrev pub of_some : List ℕ → map.FinMap key_cmp Item → map.FinMap key_cmp Item
of_some ids m = map.retain_keys m (is_in ids)

pub none_taken : (m : map.FinMap key_cmp Item) → items_size (of_some [] m) ≡ 0
none_taken m = ap items_size (map.same_map keys_total exact_keys (of_some [] m) map.empty (λ q. get_kept m (is_in []) q ∙ sym (map.get-empty key_cmp q))) ∙ size_none

pub some_within : (m : map.FinMap key_cmp Item) (ids : List ℕ) → items_size (of_some ids m) ≤ items_size m
some_within m ids = weight_part item_weight m (is_in ids)

-- without them it counts so much less
pub some_taken : (m : map.FinMap key_cmp Item) (ids : List ℕ) → items_size (map.retain_keys m (λ key. not (is_in ids key))) + items_size (of_some ids m) ≡ items_size m
some_taken m ids = let e = weight_parts item_weight m (is_in ids) in omega arith

pub stand_taken : (m : map.FinMap key_cmp Item) (ids : List ℕ) → StandAtKeys m → StandAtKeys (map.retain_keys m (λ key. not (is_in ids key)))
stand_taken m ids h = stand_kept m (λ key. not (is_in ids key)) h

kept_twice : (m : map.FinMap key_cmp Item) (p q r : DocKey → Bool) → ((k : DocKey) → r k ≡ (p k && q k)) → map.retain_keys (map.retain_keys m p) q ≡ map.retain_keys m r
kept_twice m p q r h = map.same_map keys_total exact_keys (map.retain_keys (map.retain_keys m p) q) (map.retain_keys m r) (λ k.
    get_kept (map.retain_keys m p) q k ∙ ap (λ o. cond (q k) o None) (get_kept m p k) ∙ go (p k) (q k) (map.get m k) ∙ sym (get_kept m r k ∙ ap (λ b. cond b (map.get m k) None) (h k)))
  where
    go : (a b : Bool) (o : Option Item) → cond b (cond a o None) None ≡ cond (a && b) o None
    go true b o = refl
    go false true o = refl
    go false false o = refl

-- a number that follows others which rise isn't among them
rising_apart : (ids : List ℕ) (i : ℕ) → are_rising ids ≡ true → i < length ids → list_any (nat_eq (get_or ids i 0)) (take i ids) ≡ false
rising_apart [] i h l = absurd (omega arith)
rising_apart (x ∷ xs) i h l = go i l (λ j m. rising_apart xs j (rest xs h) m)
  where
    rest : (xs : List ℕ) → are_rising (x ∷ xs) ≡ true → are_rising xs ≡ true
    rest [] h = refl
    rest (y ∷ ys) h = (and_parts (nat_lt x y) (are_rising (y ∷ ys)) h).1

    above : (a : ℕ) (xs : List ℕ) (j : ℕ) → are_rising (a ∷ xs) ≡ true → j < length xs → a < get_or xs j 0
    above a [] j h l = absurd (omega arith)
    above a (y ∷ ys) zero h l = ltb-true a y (and_parts (nat_lt a y) (are_rising (y ∷ ys)) h).0
    above a (y ∷ ys) (suc j) h l =
        let parts = and_parts (nat_lt a y) (are_rising (y ∷ ys)) h in
        let first = ltb-true a y parts.0 in
        let later = above y ys j parts.1 (omega arith) in
        omega arith

    other : (a b : ℕ) → a < b → nat_eq b a ≡ false
    other a b h = grind (arith, nat_tests)

    go : (i : ℕ) → i < length (x ∷ xs) → ((j : ℕ) → j < length xs → list_any (nat_eq (get_or xs j 0)) (take j xs) ≡ false) → list_any (nat_eq (get_or (x ∷ xs) i 0)) (take i (x ∷ xs)) ≡ false
    go zero l before = refl
    go (suc j) l before = ap (λ b. b || list_any (nat_eq (get_or xs j 0)) (take j xs)) (other x (get_or xs j 0) (above x xs j h (omega arith))) ∙ before j (omega arith)

-- one collection more
pub some_more : (m : map.FinMap key_cmp Item) (ids : List ℕ) (i : ℕ) → are_rising ids ≡ true → i < length ids
    → items_size (of_some (take (i + 1) ids) m) ≡ items_size (of_some (take i ids) m) + weight_of item_weight (of_collection (get_or ids i 0) m)
some_more m ids i rising l =
    let id = get_or ids i 0 in
    let more = of_some (take (i + 1) ids) m in
    let own : map.retain_keys more (λ key. nat_eq key.collection id) ≡ of_collection id m =
    kept_twice m (is_in (take (i + 1) ids)) (λ key. nat_eq key.collection id) (λ key. nat_eq key.collection id) (λ k. first (is_in (take (i + 1) ids) k) (is_in (take i ids) k) (nat_eq k.collection id) (told k)) in
    let others : map.retain_keys more (λ key. not (nat_eq key.collection id)) ≡ of_some (take i ids) m =
    kept_twice m (is_in (take (i + 1) ids)) (λ key. not (nat_eq key.collection id)) (is_in (take i ids)) (λ k. second (is_in (take (i + 1) ids) k) (is_in (take i ids) k) (nat_eq k.collection id) (told k) (apart k)) in
    let parts = weight_parts item_weight more (λ key. nat_eq key.collection id) in
    let a = ap items_size own in
    let b = ap items_size others in
    omega arith
  where
    told : (k : DocKey) → is_in (take (i + 1) ids) k ≡ (is_in (take i ids) k || nat_eq k.collection (get_or ids i 0))
    told k = list_any_more (nat_eq k.collection) ids i 0 l

    number : (a b : ℕ) → nat_eq a b ≡ true → a ≡ b
    number a b e = grind (arith, nat_tests)

    apart : (k : DocKey) → nat_eq k.collection (get_or ids i 0) ≡ true → is_in (take i ids) k ≡ false
    apart k e = ap (λ n. list_any (nat_eq n) (take i ids)) (number k.collection (get_or ids i 0) e) ∙ rising_apart ids i rising l

    first : (a b c : Bool) → a ≡ (b || c) → c ≡ (a && c)
    first a b true e = sym (ap (λ x. x && true) (e ∙ ends b))
      where
        ends : (b : Bool) → (b || true) ≡ true
        ends true = refl
        ends false = refl
    first true b false e = refl
    first false b false e = refl

    second : (a b c : Bool) → a ≡ (b || c) → (c ≡ true → b ≡ false) → b ≡ (a && not c)
    second a true true e h = absurd (let z = h refl in cc)
    second a false true e h = sym (none a)
      where
        none : (a : Bool) → (a && false) ≡ false
        none true = refl
        none false = refl
    second a true false e h = sym (ap (λ x. x && true) e)
    second a false false e h = sym (ap (λ x. x && true) e)
