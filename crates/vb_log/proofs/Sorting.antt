-- Items of a map, each at its own key, in rising order of their keys.
use Rattle.std.specs.Prelude.{◌≡◌, ℕ, zero, suc, ◌+◌, ◌≤◌, ◌<◌, T, Bool, true, false, cond, ◌&&◌, map as list_map, List, [], ◌∷◌, length, get_or, Option, Some, None, refl}
use Rattle.std.specs.declared.cmp.Ordering.{Ordering}
use Rattle.std.specs.declared.cmp.Ordering.TheVariants.{Less, Equal, Greater}
use Rattle.std.specs.List.{AllByRecursion, Contains, sum_by}
use Rattle.std.specs.List.Sorted.{IsPermutation, IsSortedBy}
use Rattle.std.specs.Cmp.{tied_itself}
use Rattle.std.specs.Map.{values_of}
use Rattle.std.specs.Ordering.{is_lt, is_eq, eq_by_cmp, ordering_reverse}
use Rattle.std.specs.FinMap as map
use Rattle.std.specs.FinMap.Entries.{find, below_all, is_sorted}
use Rattle.std.proofs.Common.{Bor, sym, ap, ap₂, ◌∙◌, subst, arith}
use Rattle.std.proofs.lemmas.List.{get_or-map, length-map}
use Rattle.std.proofs.lemmas.List.Elements.{recursion_from_All}
use Rattle.std.proofs.lemmas.List.Sorted.{ranks_by, sorted_far, sum_by-IsPermutation, Contains-permutation, IsPermutation-sym}
use Rattle.std.proofs.lemmas.List.Sums.{sum_by-cons}
use Rattle.doc_model.specs.declared.key.DocKey.{DocKey}
use Rattle.doc_model.specs.declared.document.Item.{Item}
use Rattle.doc_model.specs.Keys.{key_cmp}
use Rattle.doc_model.specs.Values.{StandOnce, AreValues}
use Rattle.doc_model.proofs.Entries.{exact_keys, same_key, keys_total}
use Rattle.vb_log.specs.Held.{StandAtKeys}

-- each item with its key
abbrev pub keyed : List Item → List (DocKey × Item)
keyed items = list_map (λ i. (i.key, i)) items

-- whether one item's key is before another's
abbrev pub before : Item → Item → Bool
before a b = is_lt (key_cmp a.key b.key)

some_is : {A : Type 0} (a b : A) → Some a ≡ Some b → a ≡ b
some_is a b e = cc

no_some : {A : Type 0} (a : A) → None ≡ Some a → ⊥
no_some a e = absurd (cc)

pub itself : (k : DocKey) → eq_by_cmp key_cmp k k ≡ true
itself k = ap is_eq (tied_itself keys_total k)

-- ---- items at their own keys

pub own : (es : List (DocKey × Item)) → StandOnce es → ((q : DocKey) (v : Item) → find key_cmp q es ≡ Some v → v.key ≡ q) → es ≡ keyed (values_of es)
own [] once at = refl
own (e ∷ es) once at =
    let first : e.1.key ≡ e.0 = at e.0 e.1 (ap (λ b. cond b (Some e.1) (find key_cmp e.0 es)) (itself e.0)) in
    ap₂ (λ k es. (k, e.1) ∷ es) (sym first) (own es once.1 (λ q v f. at q v (later q v f (eq_by_cmp key_cmp q e.0) refl)))
  where
    later : (q : DocKey) (v : Item) → find key_cmp q es ≡ Some v → (b : Bool) → eq_by_cmp key_cmp q e.0 ≡ b → cond b (Some e.1) (find key_cmp q es) ≡ Some v
    later q v f true is = absurd (no_some v (sym once.0 ∙ ap (λ k. find key_cmp k es) (sym (same_key q e.0 is)) ∙ f))
    later q v f false is = f

-- the items of a map, with their keys
pub record AreOwn (m : map.FinMap key_cmp Item) (items : List Item) : Type 0 where
  pub once : StandOnce (keyed items)
  pub made : map.from_entries (keyed items) ≡ m

pub are_own : (m : map.FinMap key_cmp Item) (items : List Item) → AreValues m items → StandAtKeys m → AreOwn m items
are_own m items v at =
    let is : v.entries ≡ keyed items = own v.entries v.once (λ q i f. at q i (ap (λ n. map.get n q) (sym v.made) ∙ map.get-from_entries keys_total v.entries q ∙ f)) ∙ ap keyed v.read in
    record { once = subst StandOnce is v.once; made = ap map.from_entries (sym is) ∙ v.made }

-- ---- no key stands twice

-- how often a key stands
abbrev pub hits : DocKey → List Item → ℕ
hits q items = sum_by (λ i. cond (eq_by_cmp key_cmp q i.key) 1 0) items

pub hits_more : (q : DocKey) (i : Item) (items : List Item) → hits q (i ∷ items) ≡ cond (eq_by_cmp key_cmp q i.key) 1 0 + hits q items
hits_more q i items = sum_by-cons (λ i. cond (eq_by_cmp key_cmp q i.key) 1 0) i items

no_hit : (q : DocKey) (items : List Item) → find key_cmp q (keyed items) ≡ None → hits q items ≡ 0
no_hit q [] e = refl
no_hit q (i ∷ items) e = go (eq_by_cmp key_cmp q i.key) refl e (λ f. no_hit q items f)
  where
    go : (b : Bool) → eq_by_cmp key_cmp q i.key ≡ b → cond b (Some i) (find key_cmp q (keyed items)) ≡ None → (find key_cmp q (keyed items) ≡ None → hits q items ≡ 0) → hits q (i ∷ items) ≡ 0
    go true is f rest = absurd (no_some i (sym f))
    go false is f rest = hits_more q i items ∙ ap (λ b. cond b 1 0 + hits q items) is ∙ (let none = rest f in omega arith)

hit_once : (q : DocKey) (items : List Item) → StandOnce (keyed items) → hits q items ≤ 1
hit_once q [] once = omega arith
hit_once q (i ∷ items) once = go (eq_by_cmp key_cmp q i.key) refl (hit_once q items once.1)
  where
    go : (b : Bool) → eq_by_cmp key_cmp q i.key ≡ b → hits q items ≤ 1 → hits q (i ∷ items) ≤ 1
    go true is rest =
        let none : hits q items ≡ 0 = ap (λ k. hits k items) (same_key q i.key is) ∙ no_hit i.key items once.0 in
        let more : hits q (i ∷ items) ≡ 1 + hits q items = hits_more q i items ∙ ap (λ b. cond b 1 0 + hits q items) is in
        omega arith
    go false is rest =
        let more : hits q (i ∷ items) ≡ 0 + hits q items = hits_more q i items ∙ ap (λ b. cond b 1 0 + hits q items) is in
        omega arith

-- each key stands once at most
abbrev pub AllOnce : List Item → Type 0
AllOnce items = (q : DocKey) → hits q items ≤ 1

-- behind an item its key doesn't stand again, and others once
once_behind : (i : Item) (items : List Item) → AllOnce (i ∷ items) → (hits i.key items ≡ 0) × AllOnce items
once_behind i items once = (
  (let most = once i.key in
      let more : hits i.key (i ∷ items) ≡ 1 + hits i.key items = hits_more i.key i items ∙ ap (λ b. cond b 1 0 + hits i.key items) (itself i.key) in
      omega arith),
  λ q. let most = once q in let more = hits_more q i items in omega arith,
)

-- ---- sorted items rise

less_if : (k q : DocKey) → eq_by_cmp key_cmp k q ≡ false → is_lt (key_cmp q k) ≡ false → T (is_lt (key_cmp k q))
less_if k q apart behind = go (key_cmp k q) refl (key_cmp q k) (keys_total.antisymm k q) apart behind
  where
    go : (o : Ordering) → key_cmp k q ≡ o → (p : Ordering) → key_cmp k q ≡ ordering_reverse p → is_eq (key_cmp k q) ≡ false → is_lt p ≡ false → T (is_lt o)
    go Less is p turned a b = tt
    go Equal is p turned a b = absurd (let z : true ≡ false = ap is_eq (sym is) ∙ a in cc)
    go Greater is Less turned a b = absurd (cc)
    go Greater is Equal turned a b = absurd (let z : Greater ≡ Equal = sym is ∙ turned in cc)
    go Greater is Greater turned a b = absurd (let z : Greater ≡ Less = sym is ∙ turned in cc)

no_hit_ahead : (q : DocKey) (i : Item) (items : List Item) → hits q (i ∷ items) ≡ 0 → (eq_by_cmp key_cmp q i.key ≡ false) × (hits q items ≡ 0)
no_hit_ahead q i items none = go (eq_by_cmp key_cmp q i.key) refl
  where
    go : (b : Bool) → eq_by_cmp key_cmp q i.key ≡ b → (eq_by_cmp key_cmp q i.key ≡ false) × (hits q items ≡ 0)
    go true is = absurd (let more : hits q (i ∷ items) ≡ 1 + hits q items = hits_more q i items ∙ ap (λ b. cond b 1 0 + hits q items) is in omega arith)
    go false is = (is, (let more : hits q (i ∷ items) ≡ 0 + hits q items = hits_more q i items ∙ ap (λ b. cond b 1 0 + hits q items) is in omega arith))

below : (k : DocKey) (items : List Item) → AllByRecursion (λ j. is_lt (key_cmp j.key k) ≡ false) items → hits k items ≡ 0 → T (below_all key_cmp k (keyed items))
below k [] h none = tt
below k (i ∷ items) h none =
    let apart = no_hit_ahead k i items none in
    both (is_lt (key_cmp k i.key)) (below_all key_cmp k (keyed items)) (less_if k i.key apart.0 h.0) (below k items h.1 apart.1)
  where
    both : (a b : Bool) → T a → T b → T (a && b)
    both true b p q = q
    both false b p q = absurd p

rises : (items : List Item) → IsSortedBy before items → AllOnce items → T (is_sorted key_cmp (keyed items))
rises [] up once = tt
rises (i ∷ items) up once =
    let apart = once_behind i items once in
    let behind : AllByRecursion (λ j. before j i ≡ false) items = recursion_from_All (λ j. before j i ≡ false) items (λ k d h. sorted_far before (ranks_by keys_total (λ i. i.key)) (i ∷ items) up 0 (suc k) d (omega arith) (omega arith)) in
    both (below_all key_cmp i.key (keyed items)) (is_sorted key_cmp (keyed items)) (below i.key items behind apart.0)
    (rises items (λ k d low h. subst (λ n. before (get_or (i ∷ items) n d) (get_or items k d) ≡ false) (next k) (up (suc k) d (omega arith) (omega arith))) apart.1)
  where
    next : (k : ℕ) → suc k + 1 ≡ suc (k + 1)
    next k = omega arith

    both : (a b : Bool) → T a → T b → T (a && b)
    both true b p q = q
    both false b p q = absurd p

-- ---- and are found at their keys

pub found_there : (q : DocKey) (v : Item) (items : List Item) → find key_cmp q (keyed items) ≡ Some v → Contains items v × (v.key ≡ q)
found_there q v [] f = absurd (no_some v f)
found_there q v (i ∷ items) f = go (eq_by_cmp key_cmp q i.key) refl f (λ e. found_there q v items e)
  where
    go : (b : Bool) → eq_by_cmp key_cmp q i.key ≡ b → cond b (Some i) (find key_cmp q (keyed items)) ≡ Some v → (find key_cmp q (keyed items) ≡ Some v → Contains items v × (v.key ≡ q)) → Contains (i ∷ items) v × (v.key ≡ q)
    go true is e rest = ((0, omega arith, some_is i v e), ap (λ (x : Item). x.key) (sym (some_is i v e)) ∙ sym (same_key q i.key is))
    go false is e rest = let more = rest e in let k = more.0.1 in ((suc more.0.0, omega arith, more.0.2), more.1)

hit_at : (v : Item) (items : List Item) (k : ℕ) → k < length items → get_or items k v ≡ v → 1 ≤ hits v.key items
hit_at v [] k low is = absurd (omega arith)
hit_at v (i ∷ items) zero low is =
    let more : hits v.key (i ∷ items) ≡ 1 + hits v.key items = hits_more v.key i items ∙ ap (λ b. cond b 1 0 + hits v.key items) (ap (λ (x : Item). eq_by_cmp key_cmp v.key x.key) is ∙ itself v.key) in
    omega arith
hit_at v (i ∷ items) (suc k) low is =
    let rest = hit_at v items k (omega arith) is in
    let more = hits_more v.key i items in
    omega arith

there_found : (v : Item) (items : List Item) (k : ℕ) → k < length items → get_or items k v ≡ v → AllOnce items → find key_cmp v.key (keyed items) ≡ Some v
there_found v [] k low is once = absurd (omega arith)
there_found v (i ∷ items) zero low is once =
    ap (λ b. cond b (Some i) (find key_cmp v.key (keyed items))) (ap (λ (x : Item). eq_by_cmp key_cmp v.key x.key) is ∙ itself v.key) ∙ ap Some is
there_found v (i ∷ items) (suc k) low is once = go (eq_by_cmp key_cmp v.key i.key) refl (there_found v items k (omega arith) is (once_behind i items once).1)
  where
    go : (b : Bool) → eq_by_cmp key_cmp v.key i.key ≡ b → find key_cmp v.key (keyed items) ≡ Some v → cond b (Some i) (find key_cmp v.key (keyed items)) ≡ Some v
    go true same found =
        let rest = hit_at v items k (omega arith) is in
        let most = once v.key in
        let more : hits v.key (i ∷ items) ≡ 1 + hits v.key items = hits_more v.key i items ∙ ap (λ b. cond b 1 0 + hits v.key items) same in
        absurd (omega arith)
    go false same found = found

pub same_found : (items sorted : List Item) (q : DocKey) → IsPermutation items sorted → AllOnce items → AllOnce sorted → find key_cmp q (keyed sorted) ≡ find key_cmp q (keyed items)
same_found items sorted q moved once also = go (find key_cmp q (keyed items)) refl (find key_cmp q (keyed sorted)) refl
  where
    carried : (xs ys : List Item) (v : Item) → IsPermutation xs ys → AllOnce ys → find key_cmp q (keyed xs) ≡ Some v → find key_cmp q (keyed ys) ≡ Some v
    carried xs ys v m one f =
        let there = found_there q v xs f in
        let at = Contains-permutation xs ys v m there.0 in
        ap (λ k. find key_cmp k (keyed ys)) (sym there.1) ∙ there_found v ys at.0 at.1 at.2 one

    go : (o : Option Item) → find key_cmp q (keyed items) ≡ o → (p : Option Item) → find key_cmp q (keyed sorted) ≡ p → find key_cmp q (keyed sorted) ≡ find key_cmp q (keyed items)
    go (Some v) f p g = carried items sorted v moved also f ∙ sym f
    go None f None g = g ∙ sym f
    go None f (Some w) g = absurd (no_some w (sym f ∙ carried sorted items w (IsPermutation-sym items sorted moved) once g))

-- ---- the values of a map

pub values_keyed : (items : List Item) → list_map (λ (e : DocKey × Item). e.1) (keyed items) ≡ items
values_keyed [] = refl
values_keyed (i ∷ items) = ap (λ l. i ∷ l) (values_keyed items)

-- a map whose keys have what they have in rising items has these as its values
pub values_rising : (m : map.FinMap key_cmp Item) (items : List Item) → T (is_sorted key_cmp (keyed items)) → ((q : DocKey) → map.get m q ≡ find key_cmp q (keyed items)) → map.values m ≡ items
values_rising m items up same =
    let is : m ≡ map.from_sorted (keyed items) = map.same_map keys_total exact_keys m (map.from_sorted (keyed items)) (λ q. same q ∙ sym (map.get-from_sorted key_cmp (keyed items) q up)) in
    ap (λ n. list_map (λ (e : DocKey × Item). e.1) (map.entries n)) is ∙ ap (list_map (λ (e : DocKey × Item). e.1)) (map.entries-from_sorted key_cmp (keyed items) up) ∙ values_keyed items

-- the values of a map in some order, sorted by their keys, are those that it has in its own order
pub sorted_values : (m : map.FinMap key_cmp Item) (items sorted : List Item) → AreValues m items → StandAtKeys m → IsPermutation items sorted → IsSortedBy before sorted → sorted ≡ map.values m
sorted_values m items sorted v at moved up =
    let o = are_own m items v at in
    let once : AllOnce items = λ q. hit_once q items o.once in
    let also : AllOnce sorted = λ q. let same = sum_by-IsPermutation (λ i. cond (eq_by_cmp key_cmp q i.key) 1 0) items sorted moved in let most = once q in omega arith in
    sym (values_rising m sorted (rises sorted up also) (λ q. ap (λ n. map.get n q) (sym o.made) ∙ map.get-from_entries keys_total (keyed items) q ∙ sym (same_found items sorted q moved once also)))

-- references that are sorted by the keys of their items lead to sorted items
pub sorted_now : (refs : List (Bor Item)) → IsSortedBy (λ a b. before a.now b.now) refs → IsSortedBy before (list_map (λ r. r.now) refs)
sorted_now [] up = λ k d low h. absurd (omega arith)
sorted_now (r ∷ refs) up = λ k d low h.
    let wide : k + 1 < length (r ∷ refs) = let same = length-map (r ∷ refs) (λ r. r.now) in omega arith in
    ap₂ before (get_or-map (λ r. r.now) (r ∷ refs) (k + 1) r d wide) (get_or-map (λ r. r.now) (r ∷ refs) k r d (omega arith)) ∙ up k r low wide
