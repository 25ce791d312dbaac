-- What the spots of a store tell of the content that its items make.
use Rattle.std.specs.Prelude.{◌≡◌, ◌↔◌, ℕ, ◌+◌, ◌*◌, ◌≤◌, ◌<◌, ◌^◌, nat_eq, nat_le, T, Bool, true, false, cond, not, ◌&&◌, IsTrue, map as list_map, sum, List, [], ◌∷◌, ◌++◌, length, option_map, IfOk, Option, Some, None, Result, Ok, Err, refl}
use Rattle.std.specs.declared.cmp.Ordering.{Ordering}
use Rattle.std.specs.declared.cmp.Ordering.TheVariants.{Less, Equal, Greater}
use Rattle.std.specs.FinMap as map
use Rattle.std.specs.FinMap.Entries.{find, put, by_order, below_all, is_sorted}
use Rattle.std.specs.List.{list_all, IsDistinct}
use Rattle.std.specs.List.Sorted.{IsPermutation}
use Rattle.std.specs.Map.{values_of}
use Rattle.std.specs.Ordering.{is_lt, is_eq, eq_by_cmp}
use Rattle.std.specs.Cmp.{tied_itself}
use Rattle.std.proofs.Common.{sym, ap, ap₂, ◌∙◌, subst, arith}
use Rattle.std.proofs.lemmas.Bool.{and_parts, and_from, le-leb, leb-true}
use Rattle.std.proofs.lemmas.Bool.Decides.{nat_tests}
use Rattle.std.proofs.lemmas.Cmp.{nat_eq_equiv}
use Rattle.std.proofs.lemmas.List.{length-map}
use Rattle.std.proofs.lemmas.List.Sorted.{IsPermutation-refl, IsPermutation-trans, IsPermutation-sym, IsPermutation-cons, IsPermutation-append_comm, IsPermutation-append_left, IsPermutation-append_right, IsPermutation-map}
use Rattle.std.proofs.lemmas.List.Sums.{sum_by-cons}
use Rattle.std.proofs.lemmas.Map.Keys.{IsDistinct-IsPermutation}
use Rattle.doc_model.specs.declared.key.DocKey.{DocKey}
use Rattle.doc_model.specs.declared.document.Item.{Item}
use Rattle.doc_model.specs.declared.values.Values.{Values}
use Rattle.doc_model.specs.Keys.{key_cmp}
use Rattle.doc_model.specs.Values.{StandOnce, AreValues}
use Rattle.doc_model.proofs.Drops.{get_kept}
use Rattle.doc_model.proofs.Entries.{exact_keys, keys_total, same_key}
use Rattle.doc_model.proofs.Weights.{weight_parts, weight_none, made_again}
use Rattle.magma_disk.specs.Device.{Device}
use Rattle.vb_log.specs.declared.entry.Pending.{Pending}
use Rattle.vb_log.specs.declared.limits.TheConstants.{CONTENT_LIMIT, SUM_LIMIT}
use Rattle.vb_log.specs.Content.{Content, cas_of, has_collection}
use Rattle.vb_log.specs.Contents.{IsAllowedItem, IsWhole, bounds_of, numbers_in}
use Rattle.vb_log.specs.Held.{item_weight, items_size, waiting_size, StandAtKeys}
use Rattle.vb_log.specs.Sizes.{size, is_within}
use Rattle.vb_log.specs.Stored.{IsStorable}
use Rattle.vb_log.specs.Wholes.{AreParts, by_keys}
use Rattle.vb_log.proofs.ContentBytes.{own_entries}
use Rattle.vb_log.proofs.Wholes.{apart, one_made}
use Rattle.manifest_rules.specs.Catalog.{Catalog}
use Rattle.magma_store.specs.declared.meta.Meta.{Meta}
use Rattle.magma_store.specs.declared.spot.Spot.{Spot}
use Rattle.magma_store.specs.Held.{Held}
use Rattle.magma_store.specs.Spots.{spot_weight, size_at, spots_size}
use Rattle.magma_store.specs.Store.{Leads, LeadTo}
use Rattle.magma_store.specs.Whole.{having, bare_of, content_of, numbers_at, is_of_log, AreOfLog, size_there, GoWith, AnswersAll, AreNumbersBehind}
use Rattle.magma_store.proofs.Weights.{size_within, opened_size}

-- the values that are left of those of a map
abbrev pub left : Values Spot → List Spot
left values = list_map (λ (e : DocKey × Spot). e.1) values.slots ++ values.others

-- ---- values in the order of their keys

-- entries with a number in the place of each value
mapped : {X : Type 0} → (X → ℕ) → List (DocKey × X) → List (DocKey × ℕ)
mapped f [] = []
mapped f (e ∷ es) = (e.0, f e.1) ∷ mapped f es

mapped_below : {X : Type 0} (f : X → ℕ) (k : DocKey) (es : List (DocKey × X)) → below_all key_cmp k (mapped f es) ≡ below_all key_cmp k es
unfolding mapped
mapped_below f k [] = refl
mapped_below f k (e ∷ es) = ap (λ b. is_lt (key_cmp k e.0) && b) (mapped_below f k es)

mapped_sorted : {X : Type 0} (f : X → ℕ) (es : List (DocKey × X)) → is_sorted key_cmp (mapped f es) ≡ is_sorted key_cmp es
unfolding mapped
mapped_sorted f [] = refl
mapped_sorted f (e ∷ es) = ap₂ (λ a b. a && b) (mapped_below f e.0 es) (mapped_sorted f es)

mapped_find : {X : Type 0} (f : X → ℕ) (q : DocKey) (es : List (DocKey × X)) → find key_cmp q (mapped f es) ≡ option_map f (find key_cmp q es)
unfolding mapped
mapped_find f q [] = refl
mapped_find {X} f q (e ∷ es) = go (eq_by_cmp key_cmp q e.0) (mapped_find f q es)
  where
    go : (b : Bool) → find key_cmp q (mapped f es) ≡ option_map f (find key_cmp q es)
        → cond b (Some (f e.1)) (find key_cmp q (mapped f es)) ≡ option_map f (cond b (Some e.1) (find key_cmp q es))
    go true rest = refl
    go false rest = rest

mapped_values : {X : Type 0} (f : X → ℕ) (es : List (DocKey × X)) → list_map (λ (e : DocKey × ℕ). e.1) (mapped f es) ≡ list_map f (list_map (λ (e : DocKey × X). e.1) es)
unfolding mapped
mapped_values f [] = refl
mapped_values f (e ∷ es) = ap (λ l. f e.1 ∷ l) (mapped_values f es)

mapped_up : {X : Type 0} (f : X → ℕ) (m : map.FinMap key_cmp X) → T (is_sorted key_cmp (mapped f (map.entries m)))
mapped_up f m = subst T (sym (mapped_sorted f (map.entries m))) (map.entries_sorted m)

-- maps that tell the same numbers tell them in the same order
pub in_order : {X Y : Type 0} (f : X → ℕ) (g : Y → ℕ) (m : map.FinMap key_cmp X) (n : map.FinMap key_cmp Y)
    → ((q : DocKey) → option_map f (map.get m q) ≡ option_map g (map.get n q)) → list_map f (map.values m) ≡ list_map g (map.values n)
in_order {X} {Y} f g m n same =
    sym (mapped_values f (map.entries m))
    ∙ ap (list_map (λ (e : DocKey × ℕ). e.1)) (sym (map.entries-from_sorted key_cmp (mapped f (map.entries m)) (mapped_up f m))
    ∙ ap map.entries maps ∙ map.entries-from_sorted key_cmp (mapped g (map.entries n)) (mapped_up g n))
    ∙ mapped_values g (map.entries n)
  where
    maps : map.from_sorted {R = key_cmp} (mapped f (map.entries m)) ≡ map.from_sorted (mapped g (map.entries n))
    maps = map.same_map keys_total exact_keys (map.from_sorted (mapped f (map.entries m))) (map.from_sorted (mapped g (map.entries n))) (λ q.
        map.get-from_sorted key_cmp (mapped f (map.entries m)) q (mapped_up f m) ∙ mapped_find f q (map.entries m)
        ∙ ap (option_map f) (sym (map.get-entries m q)) ∙ same q ∙ ap (option_map g) (map.get-entries n q)
        ∙ sym (map.get-from_sorted key_cmp (mapped g (map.entries n)) q (mapped_up g n) ∙ mapped_find g q (map.entries n)))

-- ---- values in some order

ahead : {X : Type 0} (a b : X) (xs : List X) → IsPermutation (a ∷ b ∷ xs) (b ∷ a ∷ xs)
ahead a b xs = IsPermutation-append_left xs (a ∷ b ∷ []) (b ∷ a ∷ []) (IsPermutation-append_comm (a ∷ []) (b ∷ []))

put_moved : {X : Type 0} (k : DocKey) (v : X) (es : List (DocKey × X)) → find key_cmp k es ≡ None → IsPermutation (v ∷ values_of es) (values_of (put key_cmp k v es))
put_moved k v [] none = IsPermutation-refl (v ∷ [])
put_moved {X} k v (e ∷ es) none = go (key_cmp k e.0) none (put_moved k v es)
  where
    go : (o : Ordering) → cond (is_eq o) (Some e.1) (find key_cmp k es) ≡ None
        → (find key_cmp k es ≡ None → IsPermutation (v ∷ values_of es) (values_of (put key_cmp k v es)))
        → IsPermutation (v ∷ e.1 ∷ values_of es) (values_of (by_order o ((k, v) ∷ e ∷ es) ((e.0, v) ∷ es) (e ∷ put key_cmp k v es)))
    go Less is rest = IsPermutation-refl (v ∷ e.1 ∷ values_of es)
    go Equal is rest = absurd (cc)
    go Greater is rest =
        IsPermutation-trans (v ∷ e.1 ∷ values_of es) (e.1 ∷ v ∷ values_of es) (e.1 ∷ values_of (put key_cmp k v es))
        (ahead v e.1 (values_of es)) (IsPermutation-cons e.1 (v ∷ values_of es) (values_of (put key_cmp k v es)) (rest is))

no_entries : {X : Type 0} (es : List (DocKey × X)) → length es ≡ 0 → es ≡ []
no_entries [] e = refl
no_entries (x ∷ es) e = absurd (omega arith)

no_values : (X : Type 0) → map.values (map.empty {X = X} {R = key_cmp}) ≡ []
no_values X = ap values_of (no_entries (map.entries (map.empty {X = X} {R = key_cmp})) (sym (map.len-entries (map.empty {X = X} {R = key_cmp})) ∙ map.len-empty key_cmp X))

made_moved : {X : Type 0} (es : List (DocKey × X)) → StandOnce es → IsPermutation (values_of es) (map.values (map.from_entries {R = key_cmp} es))
made_moved {X} [] once = subst (λ (l : List X). IsPermutation [] l) (sym (no_values X)) (IsPermutation-refl [])
made_moved {X} (e ∷ es) once =
    let m = map.from_entries {R = key_cmp} es in
    let new : find key_cmp e.0 (map.entries m) ≡ None = sym (map.get-entries m e.0) ∙ map.get-from_entries keys_total es e.0 ∙ once.0 in
    IsPermutation-trans (e.1 ∷ values_of es) (e.1 ∷ map.values m) (map.values (map.insert m e.0 e.1))
    (IsPermutation-cons e.1 (values_of es) (map.values m) (made_moved es once.1))
    (subst (λ (l : List (DocKey × X)). IsPermutation (e.1 ∷ map.values m) (values_of l)) (sym (map.entries-insert keys_total m e.0 e.1)) (put_moved e.0 e.1 (map.entries m) new))

-- the values of a map in some order are those in the order of their keys, moved
pub values_moved : {X : Type 0} (m : map.FinMap key_cmp X) (values : List X) → AreValues m values → IsPermutation values (map.values m)
values_moved {X} m values v =
    subst (λ (l : List X). IsPermutation l (map.values m)) v.read
    (subst (λ (n : map.FinMap key_cmp X). IsPermutation (values_of v.entries) (map.values n)) v.made (made_moved v.entries v.once))

-- ---- numbers of which no two are equal

-- behind positions, and in the order of the keys in front of them
pub numbers_moved : (spots : map.FinMap key_cmp Spot) (ps : List Pending) (numbers : List ℕ) → AreNumbersBehind (list_map (λ (p : Pending). p.position) ps) spots numbers
    → (IsDistinct nat_eq numbers → IsDistinct nat_eq (numbers_at (map.values spots) ps)) × (IsDistinct nat_eq (numbers_at (map.values spots) ps) → IsDistinct nat_eq numbers)
numbers_moved spots ps numbers b =
    let moved = IsPermutation-map (λ (s : Spot). s.seqno) b.values (map.values spots) (values_moved spots b.values b.are) in
    let all : IsPermutation (positions ++ list_map (λ (s : Spot). s.seqno) b.values) (numbers_at (map.values spots) ps) =
    IsPermutation-trans (positions ++ list_map (λ (s : Spot). s.seqno) b.values) (positions ++ list_map (λ (s : Spot). s.seqno) (map.values spots)) (numbers_at (map.values spots) ps)
    (IsPermutation-append_right positions (list_map (λ (s : Spot). s.seqno) b.values) (list_map (λ (s : Spot). s.seqno) (map.values spots)) moved)
    (IsPermutation-append_comm positions (list_map (λ (s : Spot). s.seqno) (map.values spots))) in
    let e = nat_eq_equiv in (
      λ h. IsDistinct-IsPermutation nat_eq e.symm (positions ++ list_map (λ (s : Spot). s.seqno) b.values) (numbers_at (map.values spots) ps) all (subst (IsDistinct nat_eq) b.is h),
      λ h. subst (IsDistinct nat_eq) (sym b.is)
          (IsDistinct-IsPermutation nat_eq e.symm (numbers_at (map.values spots) ps) (positions ++ list_map (λ (s : Spot). s.seqno) b.values)
          (IsPermutation-sym (positions ++ list_map (λ (s : Spot). s.seqno) b.values) (numbers_at (map.values spots) ps) all) h),
    )
  where
    positions : List ℕ
    positions = list_map (λ (p : Pending). p.position) ps

pub distinct_behind : (xs ys : List ℕ) → IsDistinct nat_eq (xs ++ ys) → IsDistinct nat_eq ys
unfolding IsDistinct
distinct_behind [] ys h = h
distinct_behind (x ∷ xs) ys h = distinct_behind xs ys h.1

-- ---- a test that all pass

-- each value passes that stands at a key
all_pass : (test : Spot → Bool) (es : List (DocKey × Spot)) → list_all test (values_of es) ≡ true → (q : DocKey) (s : Spot) → find key_cmp q es ≡ Some s → test s ≡ true
all_pass test [] all q s f = absurd (cc)
all_pass test (e ∷ es) all q s f =
    let parts = and_parts (test e.1) (list_all test (values_of es)) all in
    go (eq_by_cmp key_cmp q e.0) f parts.0 (all_pass test es parts.1 q s)
  where
    go : (b : Bool) → cond b (Some e.1) (find key_cmp q es) ≡ Some s → test e.1 ≡ true → (find key_cmp q es ≡ Some s → test s ≡ true) → test s ≡ true
    go true is one rest = let same : e.1 ≡ s = cc in ap test (sym same) ∙ one
    go false is one rest = rest is

itself : (k : DocKey) → eq_by_cmp key_cmp k k ≡ true
itself k = ap is_eq (tied_itself keys_total k)

pass_all : (test : Spot → Bool) (es : List (DocKey × Spot)) → StandOnce es → ((q : DocKey) (s : Spot) → find key_cmp q es ≡ Some s → test s ≡ true) → list_all test (values_of es) ≡ true
pass_all test [] once each = refl
pass_all test (e ∷ es) once each =
    and_from (test e.1) (list_all test (values_of es))
    (each e.0 e.1 (ap (λ b. cond b (Some e.1) (find key_cmp e.0 es)) (itself e.0)))
    (pass_all test es once.1 (λ q s f. each q s (later q s f (eq_by_cmp key_cmp q e.0) refl)))
  where
    later : (q : DocKey) (s : Spot) → find key_cmp q es ≡ Some s → (b : Bool) → eq_by_cmp key_cmp q e.0 ≡ b → find key_cmp q (e ∷ es) ≡ Some s
    later q s f true is = absurd (let z : None ≡ Some s = sym once.0 ∙ ap (λ k. find key_cmp k es) (sym (same_key q e.0 is)) ∙ f in cc)
    later q s f false is = ap (λ b. cond b (Some e.1) (find key_cmp q es)) is ∙ f

-- what a test of all spots tells
pub of_log_told : (spots : map.FinMap key_cmp Spot) (last cas : ℕ) (answer : Bool) → AnswersAll (is_of_log last cas) spots answer
    → (answer ≡ true → AreOfLog last cas spots) × (AreOfLog last cas spots → answer ≡ true)
of_log_told spots last cas answer a =
    let there : (q : DocKey) → map.get spots q ≡ find key_cmp q v.entries = λ q. ap (λ m. map.get m q) (sym v.made) ∙ map.get-from_entries keys_total v.entries q in
    let is : answer ≡ list_all (is_of_log last cas) (values_of v.entries) = a.is ∙ ap (list_all (is_of_log last cas)) (sym v.read) in (
      λ yes q s e. split s (all_pass (is_of_log last cas) v.entries (sym is ∙ yes) q s (sym (there q) ∙ e)),
      λ each. is ∙ pass_all (is_of_log last cas) v.entries v.once (λ q s f. joined s (each q s (there q ∙ f))),
    )
  where
    v : AreValues spots a.values
    v = a.are

    split : (s : Spot) → is_of_log last cas s ≡ true → (s.seqno ≤ last) × (s.cas ≤ cas)
    split s h = let parts = and_parts (nat_le s.seqno last) (nat_le s.cas cas) h in (leb-true s.seqno last parts.0, leb-true s.cas cas parts.1)

    joined : (s : Spot) → (s.seqno ≤ last) × (s.cas ≤ cas) → is_of_log last cas s ≡ true
    joined s h = and_from (nat_le s.seqno last) (nat_le s.cas cas) (le-leb s.seqno last h.0) (le-leb s.cas cas h.1)

pub of_log_of : (spots : map.FinMap key_cmp Spot) (c : Content) (last cas : ℕ) (answer : Bool) → last ≡ c.length → cas ≡ c.greatest_cas → AnswersAll (is_of_log last cas) spots answer
    → (answer ≡ true → AreOfLog c.length c.greatest_cas spots) × (AreOfLog c.length c.greatest_cas spots → answer ≡ true)
of_log_of spots c last cas answer e f a =
    of_log_told spots c.length c.greatest_cas answer
    (subst (λ n. AnswersAll (is_of_log n c.greatest_cas) spots answer) e (subst (λ n. AnswersAll (is_of_log last n) spots answer) f a))

above : (a b : ℕ) → b < a → nat_le a b ≡ false
above a b h = grind (arith, nat_tests)

-- an item that was made later fails the test, and one of a greater CAS
pub made_later : (last cas : ℕ) (s : Spot) → last < s.seqno → is_of_log last cas s ≡ false
made_later last cas s h = ap (λ b. b && nat_le s.cas cas) (above s.seqno last h)

pub of_greater : (last cas : ℕ) (s : Spot) → cas < s.cas → is_of_log last cas s ≡ false
of_greater last cas s h = go (nat_le s.seqno last) (above s.cas cas h)
  where
    go : (b : Bool) → nat_le s.cas cas ≡ false → (b && nat_le s.cas cas) ≡ false
    go true e = e
    go false e = refl

pub one_fails : (last cas : ℕ) (s : Spot) (more : List Spot) → is_of_log last cas s ≡ false → list_all (is_of_log last cas) (s ∷ more) ≡ false
one_fails last cas s more e = ap (λ b. b && list_all (is_of_log last cas) more) e

-- ---- what passing keys count

-- where the items of passing keys count as much as all, of which each counts something, all keys pass
pub all_there : (m : map.FinMap key_cmp Spot) (test : DocKey → Bool) → ((q : DocKey) (s : Spot) → map.get m q ≡ Some s → 1 ≤ s.weight)
    → spots_size (map.retain_keys m test) ≡ spots_size m → (q : DocKey) (s : Spot) → map.get m q ≡ Some s → test q ≡ true
all_there m test heavy same q s is = go (test q) refl
  where
    go : (b : Bool) → test q ≡ b → b ≡ true
    go true e = refl
    go false e =
        let parts = weight_parts spot_weight m test in
        let within = size_within (map.retain_keys m (λ key. not (test key))) q in
        let left : size_at (map.get (map.retain_keys m (λ key. not (test key))) q) ≡ s.weight =
        ap size_at (get_kept m (λ key. not (test key)) q ∙ ap (λ b. cond (not b) (map.get m q) None) e ∙ is) in
        let some = heavy q s is in
        absurd (omega arith)

pub none_dropped : (m : map.FinMap key_cmp Spot) (test : DocKey → Bool) → ((q : DocKey) (s : Spot) → map.get m q ≡ Some s → test q ≡ true) → map.retain_keys m test ≡ m
none_dropped m test each = map.same_map keys_total exact_keys (map.retain_keys m test) m (λ q. get_kept m test q ∙ go q (map.get m q) refl)
  where
    go : (q : DocKey) (o : Option Spot) → map.get m q ≡ o → cond (test q) o None ≡ o
    go q (Some s) is = ap (λ b. cond b (Some s) None) (each q s is)
    go q None is = nothing (test q)
      where
        nothing : (b : Bool) → cond {A = Option Spot} b None None ≡ None
        nothing true = refl
        nothing false = refl

-- ---- spots and the items to which they lead

-- what a spot tells of the item to which it leads
record Told (q : DocKey) (s : Spot) (i : Item) : Type 0 where
  own : i.key ≡ q
  storable : IsStorable i
  seqno : s.seqno ≡ i.seqno
  weight : s.weight ≡ item_weight i
  cas : s.cas ≡ cas_of i.what

-- each spot tells of an item, and each item is told of
pub record Tell (spots : map.FinMap key_cmp Spot) (items : map.FinMap key_cmp Item) : Type 0 where
  of_spot : (q : DocKey) (s : Spot) → map.get spots q ≡ Some s → (i : Item) × (map.get items q ≡ Some i) × Told q s i
  of_item : (q : DocKey) (i : Item) → map.get items q ≡ Some i → (s : Spot) × (map.get spots q ≡ Some s) × Told q s i
  numbers : list_map (λ (s : Spot). s.seqno) (map.values spots) ≡ list_map (λ (i : Item). i.seqno) (map.values items)
  sizes : spots_size spots ≡ items_size items

spot_tells : (bytes : List ℕ) (end : ℕ) (q : DocKey) (s : Spot) (o : Option Item) → Leads bytes end q (Some s) o → (i : Item) × (o ≡ Some i) × Told q s i
spot_tells bytes end q s None l = absurd l
spot_tells bytes end q s (Some i) l = let at = l.2 in (i, refl, record { own = l.0; storable = l.1; seqno = at.seqno; weight = at.weight; cas = at.cas })

item_told : (bytes : List ℕ) (end : ℕ) (q : DocKey) (i : Item) (o : Option Spot) → Leads bytes end q o (Some i) → (s : Spot) × (o ≡ Some s) × Told q s i
item_told bytes end q i None l = absurd l
item_told bytes end q i (Some s) l = let at = l.2 in (s, refl, record { own = l.0; storable = l.1; seqno = at.seqno; weight = at.weight; cas = at.cas })

number_told : (bytes : List ℕ) (end : ℕ) (q : DocKey) (o : Option Spot) (p : Option Item) → Leads bytes end q o p → option_map (λ (s : Spot). s.seqno) o ≡ option_map (λ (i : Item). i.seqno) p
number_told bytes end q None None l = refl
number_told bytes end q (Some s) (Some i) l = ap (λ n. Some n) l.2.seqno
number_told bytes end q None (Some i) l = absurd l
number_told bytes end q (Some s) None l = absurd l

pub lead_tells : (spots : map.FinMap key_cmp Spot) (items : map.FinMap key_cmp Item) (end : ℕ) (h : List Device) → LeadTo spots items end h → Tell spots items
lead_tells spots items end [] lead = absurd lead
lead_tells spots items end (d ∷ past) lead = record {
  of_spot = λ q s e. spot_tells d.bytes end q s (map.get items q) (subst (λ o. Leads d.bytes end q o (map.get items q)) e (lead q));
  of_item = λ q i e. item_told d.bytes end q i (map.get spots q) (subst (λ o. Leads d.bytes end q (map.get spots q) o) e (lead q));
  numbers = in_order (λ (s : Spot). s.seqno) (λ (i : Item). i.seqno) spots items (λ q. number_told d.bytes end q (map.get spots q) (map.get items q) (lead q));
  sizes = opened_size spots items end (d ∷ past) lead;
}

-- ---- what a content with the items counts

-- a content without items counts what waits
pub bare_size : (c : Content) → c.items ≡ map.empty → size c ≡ waiting_size c.prepares
bare_size c bare =
    let parts : size c ≡ items_size c.items + waiting_size c.prepares = refl in
    let none : items_size c.items ≡ 0 = ap items_size bare ∙ weight_none item_weight in
    omega arith

count_light : (items : List Item) → 288 * length items ≤ sum (list_map item_weight items)
count_light [] = omega arith
count_light (i ∷ items) =
    let rest = count_light items in
    let more = sum_by-cons (λ n. n) (item_weight i) (list_map item_weight items) in
    omega arith

few : (items : map.FinMap key_cmp Item) → items_size items ≤ CONTENT_LIMIT → map.len items < 2 ^ 32
few items small =
    let light = count_light (map.values items) in
    let values = length-map (map.entries items) (λ (e : DocKey × Item). e.1) in
    let entries = map.len-entries items in
    omega arith

-- the length and what waits aren't too many, whatever the items are
fits : (c : Content) → is_within c ≡ true → (size c ≤ CONTENT_LIMIT) × (nat_le (c.length + length c.prepares) SUM_LIMIT ≡ true)
fits c h =
    let parts = and_parts (nat_le (size c) CONTENT_LIMIT) (nat_le (c.length + length c.prepares) SUM_LIMIT) h in
    (leb-true (size c) CONTENT_LIMIT parts.0, parts.1)

pub whole_fits : (c : Content) → IsWhole c → size c ≤ CONTENT_LIMIT
whole_fits c w = (fits c w.within).0

within_having : (items : map.FinMap key_cmp Item) (c : Content) → is_within c ≡ true → size (having items c) ≤ CONTENT_LIMIT → is_within (having items c) ≡ true
within_having items c h small =
    and_from (nat_le (size (having items c)) CONTENT_LIMIT) (nat_le (c.length + length c.prepares) SUM_LIMIT) (le-leb (size (having items c)) CONTENT_LIMIT small) (fits c h).1

-- ---- a whole content with the items

module _ (spots : map.FinMap key_cmp Spot) (items : map.FinMap key_cmp Item) (c : Content) (tell : Tell spots items) (w : IsWhole c) (bare : c.items ≡ map.empty) where
  test : DocKey → Bool
  test key = has_collection c.manifest key.collection

  heavy : (q : DocKey) (s : Spot) → map.get spots q ≡ Some s → 1 ≤ s.weight
  heavy q s e = let t = tell.of_spot q s e in let weight = t.2.weight in omega arith

  parted : size (having items c) ≡ spots_size spots + size c
  parted =
      let sizes = tell.sizes in
      let waits = bare_size c bare in
      let parts : size (having items c) ≡ items_size items + waiting_size c.prepares = refl in
      omega arith

  allowed : GoWith spots c → (q : DocKey) (i : Item) → map.get items q ≡ Some i → IsAllowedItem c.manifest (bounds_of c) i
  allowed g q i e =
      let t = tell.of_item q i e in
      let told = t.2 in
      let storable = told.storable in
      let of_log = g.of_log q t.0 t.1 in
      let seqno = told.seqno in
      let cas = told.cas in
      record {
        key = storable.key;
        present = ap (λ (k : DocKey). has_collection c.manifest k.collection) told.own
            ∙ all_there spots (λ key. has_collection c.manifest key.collection) heavy g.present q t.0 t.1;
        later = storable.later;
        within = omega (arith, of_log.0, seqno);
        what = storable.what;
        cas = omega (arith, of_log.1, cas);
        numbered = storable.numbered;
      }

  pub whole_having : GoWith spots c → IsWhole (having items c)
  whole_having g =
      let p = w.parts in
      let light = g.light in
      let whole = parted in
      let sizes = tell.sizes in
      record {
        parts = record {
          short = p.short;
          cas = p.cas;
          kept = p.kept;
          own = λ q i e. let t = tell.of_item q i e in t.2.own;
          items = allowed g;
          few = few items (omega arith);
          prepares = p.prepares;
        };
        apart = w.apart;
        one_each = subst (λ (l : List ℕ). IsDistinct nat_eq (l ++ list_map (λ (p : Pending). p.position) c.prepares)) tell.numbers g.one_each;
        within = within_having items c w.within (omega arith);
      }

  pub go_having : IsWhole (having items c) → GoWith spots c
  go_having x =
      let p = x.parts in
      let small = whole_fits (having items c) x in
      let whole = parted in
      record {
        light = omega arith;
        present = ap spots_size (none_dropped spots (λ key. has_collection c.manifest key.collection) (λ q s e.
            let t = tell.of_spot q s e in
            let a = p.items q t.0 t.1 in
            ap (λ (k : DocKey). has_collection c.manifest k.collection) (sym t.2.own) ∙ a.present));
        of_log = λ q s e.
            let t = tell.of_spot q s e in
            let a = p.items q t.0 t.1 in
            let within = a.within in
            let cas = a.cas in
            let own_seqno = t.2.seqno in
            let own_cas = t.2.cas in
            (omega arith, omega arith);
        one_each = subst (λ (l : List ℕ). IsDistinct nat_eq (l ++ list_map (λ (p : Pending). p.position) c.prepares)) (sym tell.numbers) x.one_each;
      }

-- ---- a whole content without its items

-- is whole
pub bare_whole : (c : Content) → IsWhole c → IsWhole (having map.empty c)
bare_whole c w =
    let p = w.parts in
    let small = whole_fits c w in
    let parts : size c ≡ items_size c.items + waiting_size c.prepares = refl in
    let bare = bare_size (having map.empty c) refl in
    record {
      parts = record {
        short = p.short;
        cas = p.cas;
        kept = p.kept;
        own = λ q i e. absurd (nothing q i e);
        items = λ q i e. absurd (nothing q i e);
        few = let none = map.len-empty key_cmp Item in omega arith;
        prepares = p.prepares;
      };
      apart = w.apart;
      one_each = subst (λ (l : List Item). IsDistinct nat_eq (numbers_in l c.prepares)) (sym (no_values Item))
          (distinct_behind (list_map (λ (i : Item). i.seqno) (map.values c.items)) (list_map (λ (p : Pending). p.position) c.prepares) w.one_each);
      within = within_having map.empty c w.within (omega arith);
    }
  where
    nothing : (q : DocKey) (i : Item) → map.get (map.empty {X = Item} {R = key_cmp}) q ≡ Some i → ⊥
    nothing q i e = absurd (let z : None ≡ Some i = sym (map.get-empty {X = Item} key_cmp q) ∙ e in cc)

-- ---- parts without items

pub rest_is : (meta : Meta) (manifest : Catalog) (prepares : List Pending) (rest : Content) → AreParts [] prepares manifest meta.cas meta.length rest → rest ≡ bare_of meta manifest prepares
rest_is meta manifest prepares rest h = λ i. record { items = h.items_are i; prepares = h.prepares_are i; manifest = h.manifest_is i; greatest_cas = h.cas_is i; length = h.length_is i }

pub rest_parts : (meta : Meta) (manifest : Catalog) (prepares : List Pending) → AreParts [] prepares manifest meta.cas meta.length (bare_of meta manifest prepares)
unfolding IsDistinct
rest_parts meta manifest prepares = record { once = tt; items_are = refl; prepares_are = refl; manifest_is = refl; cas_is = refl; length_is = refl }

-- the content without items of parts, with the items of a store
pub content_is : (held : Held) (meta : Meta) (manifest : Catalog) (prepares : List Pending) (none : List Item) (rest : Content) → none ≡ [] → meta ≡ held.meta
    → AreParts none prepares manifest meta.cas meta.length rest → having held.items rest ≡ content_of held manifest prepares
content_is held meta manifest prepares none rest e m h =
    ap (having held.items) (rest_is meta manifest prepares rest (subst (λ (l : List Item). AreParts l prepares manifest meta.cas meta.length rest) e h) ∙ ap (λ (n : Meta). bare_of n manifest prepares) m)

-- where no whole content without items has the parts, none with items has
pub never_whole : (held : Held) (meta : Meta) (manifest : Catalog) (prepares : List Pending) (none : List Item) → none ≡ [] → meta ≡ held.meta
    → ((c : Content) → AreParts none prepares manifest meta.cas meta.length c → IsWhole c → ⊥) → IsWhole (content_of held manifest prepares) → ⊥
never_whole held meta manifest prepares none e m never w =
    never (bare_of meta manifest prepares) (subst (λ (l : List Item). AreParts l prepares manifest meta.cas meta.length (bare_of meta manifest prepares)) (sym e) (rest_parts meta manifest prepares))
    (subst (λ (n : Meta). IsWhole (bare_of n manifest prepares)) (sym m) (bare_whole (content_of held manifest prepares) w))

-- ---- answers

pub going : {E : Type 0} (r : Result Bool E) (spots : map.FinMap key_cmp Spot) (c : Content) (ps : List Pending) → ps ≡ c.prepares
    → spots_size spots + size c ≤ CONTENT_LIMIT → size_there c.manifest spots ≡ spots_size spots → AreOfLog c.length c.greatest_cas spots
    → IfOk r (λ b. IsTrue b ↔ IsDistinct nat_eq (numbers_at (map.values spots) ps)) → IfOk r (λ b. IsTrue b ↔ GoWith spots c)
going (Ok b) spots c ps e light present of_log h = (
  λ yes. record {
    light = light;
    present = present;
    of_log = of_log;
    one_each = subst (λ (l : List Pending). IsDistinct nat_eq (numbers_at (map.values spots) l)) e (h.0 yes);
  },
  λ g. h.1 (subst (λ (l : List Pending). IsDistinct nat_eq (numbers_at (map.values spots) l)) (sym e) g.one_each),
)
going (Err why) spots c ps e light present of_log h = tt

pub whole_told : {E : Type 0} (r : Result Bool E) (spots : map.FinMap key_cmp Spot) (items : map.FinMap key_cmp Item) (c : Content) → Tell spots items → IsWhole c → c.items ≡ map.empty
    → IfOk r (λ b. IsTrue b ↔ GoWith spots c) → IfOk r (λ b. IsTrue b ↔ IsWhole (having items c))
whole_told (Ok b) spots items c tell w bare h = (λ yes. whole_having spots items c tell w bare (h.0 yes), λ x. h.1 (go_having spots items c tell w bare x))
whole_told (Err why) spots items c tell w bare h = tt

-- ---- the parts of a content

pub leads_stand : (spots : map.FinMap key_cmp Spot) (items : map.FinMap key_cmp Item) (end : ℕ) (h : List Device) → LeadTo spots items end h → StandAtKeys items
leads_stand spots items end h lead q i e = let tell = lead_tells spots items end h lead in let t = tell.of_item q i e in t.2.own

pub content_parts : (held : Held) (manifest : Catalog) (prepares : List Pending) → StandAtKeys held.items
    → AreParts (map.values held.items) prepares manifest held.meta.cas held.meta.length (content_of held manifest prepares)
content_parts held manifest prepares at =
    let is : map.entries held.items ≡ by_keys (map.values held.items) = own_entries held.items at in
    record {
      once = apart (map.values held.items) (subst (λ (es : List (DocKey × Item)). T (is_sorted key_cmp es)) is (map.entries_sorted held.items));
      items_are = sym (made_again held.items) ∙ ap map.from_entries is;
      prepares_are = refl;
      manifest_is = refl;
      cas_is = refl;
      length_is = refl;
    }

pub parts_are : (held : Held) (manifest : Catalog) (prepares : List Pending) (c : Content) → StandAtKeys held.items
    → AreParts (map.values held.items) prepares manifest held.meta.cas held.meta.length c ↔ (c ≡ content_of held manifest prepares)
parts_are held manifest prepares c at = (
  λ h. one_made (map.values held.items) prepares manifest held.meta.cas held.meta.length c (content_of held manifest prepares) h (content_parts held manifest prepares at),
  λ e. subst (AreParts (map.values held.items) prepares manifest held.meta.cas held.meta.length) (sym e) (content_parts held manifest prepares at),
)
