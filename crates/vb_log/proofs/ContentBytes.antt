-- Contents and their bytes: a content fits the layout, and has its bytes alone.
use Rattle.std.specs.Prelude.{◌-◌, ◌^◌, map as list_map, ◌≡◌, ℕ, zero, suc, ◌<◌, T, Bool, true, false, cond, ◌&&◌, List, [], ◌∷◌, ◌++◌, length, get_or, Option, Some, None, refl}
use Rattle.std.specs.declared.cmp.Ordering.{Ordering}
use Rattle.std.specs.declared.cmp.Ordering.TheVariants.{Less, Equal, Greater}
use Rattle.std.specs.List.{AllByRecursion}
use Rattle.std.specs.Int.{w64, to_be_bytes}
use Rattle.std.specs.Map.{values_of}
use Rattle.std.specs.Ordering.{is_lt, eq_by_cmp}
use Rattle.std.specs.FinMap as map
use Rattle.std.specs.FinMap.Entries.{find, below_all, is_sorted}
use Rattle.std.proofs.Common.{Bor, All, sym, ap, ap₂, ◌∙◌, subst, append_assoc, append-nil, arith}
use Rattle.std.proofs.lemmas.List.{length-map, get_or-map}
use Rattle.doc_model.specs.declared.key.DocKey.{DocKey}
use Rattle.doc_model.specs.declared.document.Item.{Item}
use Rattle.doc_model.specs.Keys.{key_cmp}
use Rattle.doc_model.specs.Values.{StandOnce}
use Rattle.doc_model.proofs.Entries.{is_equal, same_key, keys_total}
use Rattle.manifest_rules.specs.Catalog.{Catalog}
use Rattle.manifest_rules.specs.State.{is_kept, state_of}
use Rattle.vb_log.specs.declared.bounds.Bounds.{Bounds}
use Rattle.vb_log.specs.declared.entry.Pending.{Pending}
use Rattle.vb_log.specs.declared.limits.TheConstants.{GREATEST_CAS, GREATEST_POSITION}
use Rattle.vb_log.specs.Content.{Content}
use Rattle.vb_log.specs.Contents.{CanBeSpelt, IsAllowedItem, bounds_of, HasBytes, IsContent, AreItems, AreItemsWithin, is_later, items_bytes, body_bytes, content_bytes, items_layout, body_layout, content_layout}
use Rattle.vb_log.specs.Faults.{ContentBreaksAt}
use Rattle.vb_log.specs.Held.{StandAtKeys}
use Rattle.vb_log.specs.Layout.{end, eight, number, Fits, Breaks}
use Rattle.vb_log.specs.Prepares.{AreBounds, AreWaiting, IsPendingWithin, IsAllowedPending, widest, pending_bytes, pending_layout}
use Rattle.vb_log.proofs.Layouts.{no_fit, one_place, left_within, same_number, state_one, leads_on, number_leads, state_leads}
use Rattle.vb_log.proofs.ItemBytes.{items_leads, same_items}
use Rattle.vb_log.proofs.PendingBytes.{pending_leads, same_pending}
use Rattle.vb_log.proofs.Sorting.{keyed, itself, own, values_rising, found_there}

-- ---- the items of a content, in the order of its map

first : (a b : Bool) → T (a && b) → T a
first true b h = tt
first false b h = h

second : (a b : Bool) → T (a && b) → T b
second true b h = h
second false b h = absurd h

both : (a b : Bool) → T a → T b → T (a && b)
both true b p q = q
both false b p q = absurd p

holds : (b : Bool) → T b → b ≡ true
holds true h = refl
holds false h = absurd h

tested : (b : Bool) → b ≡ true → T b
tested true h = tt
tested false h = absurd (cc)

less : (o : Ordering) → T (is_lt o) → o ≡ Less
less Less h = refl
less Equal h = absurd h
less Greater h = absurd h

no_some : {A : Type 0} (a : A) → None ≡ Some a → ⊥
no_some a e = absurd (cc)

-- a key below others has nothing among them
pub none_above : {X : Type 0} (k : DocKey) (es : List (DocKey × X)) → T (below_all key_cmp k es) → find key_cmp k es ≡ None
none_above k [] h = refl
none_above {X} k (e ∷ es) h =
    let is = less (key_cmp k e.0) (first (is_lt (key_cmp k e.0)) (below_all key_cmp k es) h) in
    go (eq_by_cmp key_cmp k e.0) refl is (none_above k es (second (is_lt (key_cmp k e.0)) (below_all key_cmp k es) h))
  where
    go : (b : Bool) → eq_by_cmp key_cmp k e.0 ≡ b → key_cmp k e.0 ≡ Less → find key_cmp k es ≡ None → cond b (Some e.1) (find key_cmp k es) ≡ None
    go true is less rest = absurd (let z : Less ≡ Equal = sym less ∙ is_equal (key_cmp k e.0) is in cc)
    go false is less rest = rest

pub sorted_once : {X : Type 0} (es : List (DocKey × X)) → T (is_sorted key_cmp es) → StandOnce es
sorted_once [] h = tt
sorted_once (e ∷ es) h = (none_above e.0 es (first (below_all key_cmp e.0 es) (is_sorted key_cmp es) h), sorted_once es (second (below_all key_cmp e.0 es) (is_sorted key_cmp es) h))

-- what holds of what each key has holds of all values
pub each_value : (P : Item → Type 0) (es : List (DocKey × Item)) → StandOnce es → ((q : DocKey) (v : Item) → find key_cmp q es ≡ Some v → P v) → AllByRecursion P (values_of es)
each_value P [] once h = tt
each_value P (e ∷ es) once h = (
  h e.0 e.1 (ap (λ b. cond b (Some e.1) (find key_cmp e.0 es)) (map_itself e.0)),
  each_value P es once.1 (λ q v f. h q v (later q v f (eq_by_cmp key_cmp q e.0) refl)),
)
  where
    map_itself : (k : DocKey) → eq_by_cmp key_cmp k k ≡ true
    map_itself k = itself k

    later : (q : DocKey) (v : Item) → find key_cmp q es ≡ Some v → (b : Bool) → eq_by_cmp key_cmp q e.0 ≡ b → cond b (Some e.1) (find key_cmp q es) ≡ Some v
    later q v f true is = absurd (no_some v (sym once.0 ∙ ap (λ k. find key_cmp k es) (sym (same_key q e.0 is)) ∙ f))
    later q v f false is = f

-- the entries of a map whose items stand at their own keys
pub own_entries : (m : map.FinMap key_cmp Item) → StandAtKeys m → map.entries m ≡ keyed (map.values m)
own_entries m at = own (map.entries m) (sorted_once (map.entries m) (map.entries_sorted m)) (λ q v f. at q v (map.get-entries m q ∙ f))

-- a key is before all of some items, where there is one
abbrev IsAhead : Option DocKey → List Item → Type 0
IsAhead None items = Unit {0}
IsAhead (Some key) items = T (below_all key_cmp key (keyed items))

head_later : (before : Option DocKey) (i : Item) (items : List Item) → IsAhead before (i ∷ items) → is_later before i.key ≡ true
head_later None i items h = refl
head_later (Some key) i items h = holds (is_lt (key_cmp key i.key)) (first (is_lt (key_cmp key i.key)) (below_all key_cmp key (keyed items)) h)

pub rising : (manifest : Catalog) (bounds : Bounds) (before : Option DocKey) (items : List Item) → T (is_sorted key_cmp (keyed items)) → IsAhead before items → AllByRecursion (IsAllowedItem manifest bounds) items → AreItems manifest bounds before items
rising manifest bounds before [] up ahead all = tt
rising manifest bounds before (i ∷ items) up ahead all = (
  record { allowed = all.0; later = head_later before i items ahead },
  rising manifest bounds (Some i.key) items (second (below_all key_cmp i.key (keyed items)) (is_sorted key_cmp (keyed items)) up)
      (first (below_all key_cmp i.key (keyed items)) (is_sorted key_cmp (keyed items)) up) all.1,
)

pub items_rise : (c : Content) → HasBytes c → AreItemsWithin c.manifest (bounds_of c) (map.values c.items)
items_rise c h =
    let few = h.few in
    record {
      rising = rising c.manifest (bounds_of c) None (map.values c.items) (subst (λ es. T (is_sorted key_cmp es)) (own_entries c.items h.own) (map.entries_sorted c.items)) tt
          (each_value (IsAllowedItem c.manifest (bounds_of c)) (map.entries c.items) (sorted_once (map.entries c.items) (map.entries_sorted c.items)) (λ q v f. h.items q v (map.get-entries c.items q ∙ f)));
      few = omega (arith, length-map (map.entries c.items) (λ e. e.1), map.len-entries c.items);
    }

-- ---- a content fits the layout

pub bounds_within : (c : Content) → HasBytes c → AreBounds (bounds_of c)
bounds_within c h = record { last = h.short; cas = h.cas }

widened_all : (bounds : Bounds) (before : ℕ) (ps : List Pending) → AreBounds bounds → AreWaiting bounds before ps → AreWaiting widest before ps
widened_all bounds before [] wide h = tt
widened_all bounds before (p ∷ ps) wide h =
    let w = h.0 in
    let within = w.within in
    let cas = w.cas in
    let last = wide.last in
    let most = wide.cas in (
      record { later = w.later; within = omega arith; least = w.least; most = w.most; key = w.key; what = w.what; cas = omega arith; unnumbered = w.unnumbered },
      widened_all bounds p.position ps wide h.1,
    )

-- changes that wait within bounds are such as the layout allows
pub widened : (bounds : Bounds) (ps : List Pending) → AreBounds bounds → IsPendingWithin bounds ps → IsAllowedPending ps
widened bounds ps wide h = record { waiting = widened_all bounds 0 ps wide h.waiting; few = h.few }

body_fits : (bounds : Bounds) (manifest : Catalog) (items : List Item) (prepares : List Pending) → AreBounds bounds → is_kept manifest ≡ true → AreItemsWithin manifest bounds items → IsPendingWithin bounds prepares
    → Fits (body_layout bounds) (body_bytes manifest items prepares)
body_fits bounds manifest items prepares wide kept h k =
    let behind = items_bytes items ++ pending_bytes prepares in
    (leads_on (body_layout bounds) (body_bytes manifest items prepares) (items_layout manifest bounds (pending_layout bounds end)) behind end []
    (state_leads (λ manifest. items_layout manifest bounds (pending_layout bounds end)) (body_bytes manifest items prepares) manifest behind (record { front = refl; kept = kept }))
    (leads_on (items_layout manifest bounds (pending_layout bounds end)) behind (pending_layout bounds end) (pending_bytes prepares) end []
    (items_leads manifest bounds (pending_layout bounds end) behind items (pending_bytes prepares) wide (record { allowed = h; front = refl }))
    (pending_leads bounds end (pending_bytes prepares) prepares [] wide (record { allowed = k; front = sym (append-nil (pending_bytes prepares)) })))).fits refl

pub content_fits : (c : Content) → HasBytes c → Fits content_layout (content_bytes c)
content_fits c h =
    let bounds = bounds_of c in
    let body = body_bytes c.manifest (map.values c.items) c.prepares in
    let cas = to_be_bytes w64 c.greatest_cas ++ body in
    let short = h.short in
    let most = h.cas in
    (leads_on content_layout (content_bytes c) (number eight 0 GREATEST_CAS (λ cas. body_layout (record { last = c.length; cas = cas }))) cas (body_layout bounds) body
    (number_leads eight 0 GREATEST_POSITION (λ last. number eight 0 GREATEST_CAS (λ cas. body_layout (record { last = last; cas = cas }))) (content_bytes c) c.length cas (record { front = refl; above = omega arith; below = short; small = omega arith }))
    (number_leads eight 0 GREATEST_CAS (λ cas. body_layout (record { last = c.length; cas = cas })) cas c.greatest_cas body (record { front = refl; above = omega arith; below = most; small = omega arith }))).fits
    (body_fits bounds c.manifest (map.values c.items) c.prepares (bounds_within c h) h.kept (items_rise c h) h.prepares)

-- ---- one content for one spelling

nothing : (l m : List ℕ) → l ≡ m → l ++ [] ≡ m ++ []
nothing l m e = ap (λ x. x ++ []) e

pub one_content : (c d : Content) → HasBytes c → HasBytes d → content_bytes c ≡ content_bytes d → c ≡ d
one_content c d h k e =
    let low = h.short in
    let high = k.short in
    let less = h.cas in
    let more = k.cas in
    let last = same_number eight c.length d.length _ _ (omega arith) (omega arith) e in
    let cas = same_number eight c.greatest_cas d.greatest_cas _ _ (omega arith) (omega arith) last.rest in
    let bounds : bounds_of c ≡ bounds_of d = λ i. record { last = last.one i; cas = cas.one i } in
    let manifest = state_one (body_bytes c.manifest (map.values c.items) c.prepares) c.manifest d.manifest (items_bytes (map.values c.items) ++ pending_bytes c.prepares) (items_bytes (map.values d.items) ++ pending_bytes d.prepares)
    (record { front = refl; kept = h.kept }) (record { front = cas.rest; kept = k.kept }) in
    let items = same_items c.manifest d.manifest (bounds_of c) (map.values c.items) (map.values d.items) (pending_bytes c.prepares) (pending_bytes d.prepares) (bounds_within c h) (items_rise c h)
    (subst (λ b. AreItemsWithin d.manifest b (map.values d.items)) (sym bounds) (items_rise d k)) manifest.rest in
    let prepares = same_pending (bounds_of c) c.prepares d.prepares [] [] (bounds_within c h) h.prepares (subst (λ b. IsPendingWithin b d.prepares) (sym bounds) k.prepares)
    (nothing (pending_bytes c.prepares) (pending_bytes d.prepares) items.rest) in
    let same : c.items ≡ d.items = map.same_entries_map c.items d.items (own_entries c.items h.own ∙ ap keyed items.one ∙ sym (own_entries d.items k.own)) in
    λ i. record { items = same i; prepares = prepares.one i; manifest = manifest.one i; greatest_cas = cas.one i; length = last.one i }

pub one_spelled : (c d : Content) (bytes : List ℕ) → IsContent c bytes → IsContent d bytes → c ≡ d
one_spelled c d bytes s t =
    let v = s.whole in
    let w = t.whole in
    one_content c d v.parts w.parts (sym s.spelled ∙ t.spelled)

-- ---- bytes that break the layout are no content's

pub broken_none : (bytes : List ℕ) (left : ℕ) → Breaks content_layout bytes left → (c : Content) → IsContent c bytes → ⊥
broken_none bytes left b c s = let w = s.whole in no_fit content_layout bytes left b (subst (λ l. Fits content_layout l) (sym s.spelled) (content_fits c w.parts))

pub broken_at : (bytes : List ℕ) (left : ℕ) → Breaks content_layout bytes left → ContentBreaksAt bytes (length bytes - left)
broken_at bytes left b = let low = left_within content_layout bytes left b in record { left = left; parts = omega arith; breaks = b }

pub one_break : (bytes : List ℕ) (first second : ℕ) → ContentBreaksAt bytes first → ContentBreaksAt bytes second → first ≡ second
one_break bytes first second a b =
    let same = one_place content_layout bytes a.left b.left a.breaks b.breaks in
    let p = a.parts in
    let q = b.parts in
    omega arith

-- ---- a content of parts that were read

below_rising : (manifest : Catalog) (bounds : Bounds) (before : DocKey) (items : List Item) → AreItems manifest bounds (Some before) items → T (below_all key_cmp before (keyed items))
below_rising manifest bounds before [] h = tt
below_rising manifest bounds before (i ∷ items) h =
    let n = h.0 in
    let later = less (key_cmp before i.key) (tested (is_lt (key_cmp before i.key)) n.later) in
    both (is_lt (key_cmp before i.key)) (below_all key_cmp before (keyed items)) (tested (is_lt (key_cmp before i.key)) n.later)
    (lower before i.key (keyed items) later (below_rising manifest bounds i.key items h.1))
  where
    lower : {X : Type 0} (x y : DocKey) (es : List (DocKey × X)) → key_cmp x y ≡ Less → T (below_all key_cmp y es) → T (below_all key_cmp x es)
    lower x y [] p h = tt
    lower x y (e ∷ es) p h =
        both (is_lt (key_cmp x e.0)) (below_all key_cmp x es)
        (tested (is_lt (key_cmp x e.0)) (ap is_lt (keys_total.trans x y e.0 p (less (key_cmp y e.0) (first (is_lt (key_cmp y e.0)) (below_all key_cmp y es) h)))))
        (lower x y es p (second (is_lt (key_cmp y e.0)) (below_all key_cmp y es) h))

pub sorted_rising : (manifest : Catalog) (bounds : Bounds) (before : Option DocKey) (items : List Item) → AreItems manifest bounds before items → T (is_sorted key_cmp (keyed items))
sorted_rising manifest bounds before [] h = tt
sorted_rising manifest bounds before (i ∷ items) h =
    both (below_all key_cmp i.key (keyed items)) (is_sorted key_cmp (keyed items)) (below_rising manifest bounds i.key items h.1) (sorted_rising manifest bounds (Some i.key) items h.1)

each_item : (manifest : Catalog) (bounds : Bounds) (before : Option DocKey) (items : List Item) (k : ℕ) (d : Item) → AreItems manifest bounds before items → k < length items → IsAllowedItem manifest bounds (get_or items k d)
each_item manifest bounds before [] k d h low = absurd (omega arith)
each_item manifest bounds before (i ∷ items) zero d h low = let n = h.0 in n.allowed
each_item manifest bounds before (i ∷ items) (suc k) d h low = each_item manifest bounds (Some i.key) items k d h.1 (omega arith)

-- what a map that is made of rising items has
pub rising_values : (manifest : Catalog) (bounds : Bounds) (m : map.FinMap key_cmp Item) (items : List Item) → AreItemsWithin manifest bounds items → ((q : DocKey) → map.get m q ≡ find key_cmp q (keyed items)) → map.values m ≡ items
rising_values manifest bounds m items h same = values_rising m items (sorted_rising manifest bounds None items h.rising) same

pub rising_allowed : (manifest : Catalog) (bounds : Bounds) (m : map.FinMap key_cmp Item) (items : List Item) → AreItemsWithin manifest bounds items → ((q : DocKey) → map.get m q ≡ find key_cmp q (keyed items))
    → (key : DocKey) (item : Item) → map.get m key ≡ Some item → IsAllowedItem manifest bounds item × (item.key ≡ key)
rising_allowed manifest bounds m items h same key item is =
    let there = found_there key item items (sym (same key) ∙ is) in
    let at = there.0 in
    (subst (IsAllowedItem manifest bounds) at.2 (each_item manifest bounds None items at.0 item h.rising at.1), there.1)

-- ---- writing

-- the items of a content, as they are lent for writing
pub lent_few : (c : Content) (lent : List (Bor Item)) → HasBytes c → list_map (λ i. i.now) lent ≡ map.values c.items → length lent < 2 ^ 32
lent_few c lent h is = let few = h.few in omega (arith, length-map lent (λ i. i.now), ap length is, length-map (map.entries c.items) (λ e. e.1), map.len-entries c.items)

pub lent_allowed : (c : Content) (lent : List (Bor Item)) → HasBytes c → list_map (λ i. i.now) lent ≡ map.values c.items → All (λ i. CanBeSpelt i.now) lent
lent_allowed c lent h is k d low =
    let rise = items_rise c h in
    let long : k < length (map.values c.items) = omega (arith, length-map lent (λ i. i.now), ap length is) in
    let item : get_or (map.values c.items) k d.now ≡ (get_or lent k d).now = ap (λ l. get_or l k d.now) (sym is) ∙ get_or-map (λ i. i.now) lent k d d.now low in
    let a = subst (IsAllowedItem c.manifest (bounds_of c)) item (each_item c.manifest (bounds_of c) None (map.values c.items) k d.now rise.rising long) in
    record { key = a.key; what = a.what }

pub content_written : (c : Content) (items : List Item) (old a b s t now : List ℕ) → items ≡ map.values c.items → a ≡ old ++ to_be_bytes w64 c.length → b ≡ a ++ to_be_bytes w64 c.greatest_cas → s ≡ b ++ state_of c.manifest → t ≡ s ++ items_bytes items → now ≡ t ++ pending_bytes c.prepares
    → now ≡ old ++ content_bytes c
content_written c items old a b s t now is p q r u v =
    v ∙ ap (λ l. l ++ pending_bytes c.prepares) (u ∙ ap₂ (λ l is. l ++ items_bytes is) (r ∙ ap (λ l. l ++ state_of c.manifest) (q ∙ ap (λ l. l ++ to_be_bytes w64 c.greatest_cas) p)) is)
    ∙ five old (to_be_bytes w64 c.length) (to_be_bytes w64 c.greatest_cas) (state_of c.manifest) (items_bytes (map.values c.items)) (pending_bytes c.prepares)
  where
    five : (o u v w x y : List ℕ) → ((((o ++ u) ++ v) ++ w) ++ x) ++ y ≡ o ++ (u ++ (v ++ (w ++ (x ++ y))))
    five o u v w x y = simp append_assoc
