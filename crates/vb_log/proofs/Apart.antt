-- Items and changes that wait of which no two were made by one entry.
use Rattle.std.specs.Prelude.{◌≡◌, ℕ, ◌<◌, nat_eq, Bool, true, false, cond, filter, map as list_map, List, [], ◌∷◌, ◌++◌, Some, None, refl}
use Rattle.std.specs.List.{AllByRecursion, IsDistinct}
use Rattle.std.specs.Map.{values_of}
use Rattle.std.specs.Ordering.{eq_by_cmp}
use Rattle.std.specs.FinMap as map
use Rattle.std.specs.FinMap.Entries.{find}
use Rattle.std.proofs.Common.{sym, ap, ◌∙◌, subst, arith}
use Rattle.doc_model.specs.declared.key.DocKey.{DocKey}
use Rattle.doc_model.specs.declared.document.Item.{Item}
use Rattle.doc_model.specs.Keys.{key_cmp}
use Rattle.doc_model.specs.Values.{StandOnce}
use Rattle.doc_model.proofs.Entries.{keys_total, same_key}
use Rattle.doc_model.proofs.Drops.{get_kept}
use Rattle.vb_log.specs.declared.entry.Pending.{Pending}
use Rattle.vb_log.specs.Contents.{numbers_in}
use Rattle.vb_log.proofs.ContentBytes.{each_value, sorted_once}
use Rattle.vb_log.proofs.Sorting.{itself}

-- ---- lists

no_some : {A : Type 0} (a : A) → None ≡ Some a → ⊥
no_some a e = absurd (cc)

some_is : {A : Type 0} (a b : A) → Some a ≡ Some b → a ≡ b
some_is a b e = cc

unequal : (n m : ℕ) → (n ≡ m → ⊥) → nat_eq n m ≡ false
unequal n m apart = grind (arith, apart)

not_equal : (n m : ℕ) → nat_eq n m ≡ false → n ≡ m → ⊥
not_equal n m e same = absurd (grind (arith, e, same))

pub all_mapped : {A B : Type 0} (P : B → Type 0) (f : A → B) (xs : List A) → AllByRecursion (λ x. P (f x)) xs → AllByRecursion P (list_map f xs)
all_mapped P f [] h = tt
all_mapped P f (x ∷ xs) h = (h.0, all_mapped P f xs h.1)

pub all_unmapped : {A B : Type 0} (P : B → Type 0) (f : A → B) (xs : List A) → AllByRecursion P (list_map f xs) → AllByRecursion (λ x. P (f x)) xs
all_unmapped P f [] h = tt
all_unmapped P f (x ∷ xs) h = (h.0, all_unmapped P f xs h.1)

module _ {B : Type 0} (eq : B → B → Bool) where
  -- a value is none of a list's
  abbrev pub NoneIs : B → List B → Type 0
  NoneIs x ys = AllByRecursion (λ y. eq x y ≡ false) ys

  none_front : (x : B) (ys zs : List B) → NoneIs x (ys ++ zs) → NoneIs x ys
  none_front x [] zs h = tt
  none_front x (y ∷ ys) zs h = (h.0, none_front x ys zs h.1)

  none_behind : (x : B) (ys zs : List B) → NoneIs x (ys ++ zs) → NoneIs x zs
  none_behind x [] zs h = h
  none_behind x (y ∷ ys) zs h = none_behind x ys zs h.1

  none_both : (x : B) (ys zs : List B) → NoneIs x ys → NoneIs x zs → NoneIs x (ys ++ zs)
  none_both x [] zs h k = k
  none_both x (y ∷ ys) zs h k = (h.0, none_both x ys zs h.1 k)

  -- two lists that are distinct, and none of one is one of the other
  record ApartLists (xs ys : List B) : Type 0 where
    first : IsDistinct eq xs
    second : IsDistinct eq ys
    between : AllByRecursion (λ x. NoneIs x ys) xs

  split : (xs ys : List B) → IsDistinct eq (xs ++ ys) → ApartLists xs ys
  unfolding IsDistinct
  split [] ys h = record { first = tt; second = h; between = tt }
  split (x ∷ xs) ys h =
      let rest = split xs ys h.1 in
      record { first = (none_front x xs ys h.0, rest.first); second = rest.second; between = (none_behind x xs ys h.0, rest.between) }

  unite : (xs ys : List B) → ApartLists xs ys → IsDistinct eq (xs ++ ys)
  unfolding IsDistinct
  unite [] ys h = h.second
  unite (x ∷ xs) ys h = (
    none_both x xs ys h.first.0 h.between.0,
    unite xs ys (record { first = h.first.1; second = h.second; between = h.between.1 }),
  )

  -- some of distinct ones are distinct
  pub distinct_some : {A : Type 0} (f : A → B) (test : A → Bool) (xs : List A) → IsDistinct eq (list_map f xs) → IsDistinct eq (list_map f (filter test xs))
  unfolding IsDistinct
  distinct_some f test [] h = tt
  distinct_some {A} f test (x ∷ xs) h = go (test x) (distinct_some f test xs h.1) (none_some (f x) xs h.0)
    where
      none_some : (y : B) (xs : List A) → NoneIs y (list_map f xs) → NoneIs y (list_map f (filter test xs))
      none_some y [] h = tt
      none_some y (x ∷ xs) h = by (test x) (none_some y xs h.1)
        where
          by : (b : Bool) → NoneIs y (list_map f (filter test xs)) → NoneIs y (list_map f (cond b (x ∷ filter test xs) (filter test xs)))
          by true k = (h.0, k)
          by false k = k

      go : (b : Bool) → IsDistinct eq (list_map f (filter test xs)) → NoneIs (f x) (list_map f (filter test xs)) → IsDistinct eq (list_map f (cond b (x ∷ filter test xs) (filter test xs)))
      go true k none = (none, k)
      go false k none = k

  -- with one more that none of them is
  pub distinct_more : {A : Type 0} (f : A → B) (xs : List A) (y : A) → IsDistinct eq (list_map f xs) → AllByRecursion (λ x. eq (f x) (f y) ≡ false) xs → IsDistinct eq (list_map f (xs ++ y ∷ []))
  unfolding IsDistinct
  distinct_more f [] y h k = (tt, tt)
  distinct_more {A} f (x ∷ xs) y h k = (none_more xs h.0, distinct_more f xs y h.1 k.1)
    where
      none_more : (zs : List A) → NoneIs (f x) (list_map f zs) → NoneIs (f x) (list_map f (zs ++ y ∷ []))
      none_more [] n = (k.0, tt)
      none_more (z ∷ zs) n = (n.0, none_more zs n.1)

-- ---- the numbers of a map's items

abbrev seqno_of : Item → ℕ
seqno_of i = i.seqno

abbrev position_of : Pending → ℕ
position_of p = p.position

-- of two keys whose items have one number, each is the other
abbrev pub AreSingle : map.FinMap key_cmp Item → Type 0
AreSingle items = (q r : DocKey) (i j : Item) → map.get items q ≡ Some i → map.get items r ≡ Some j → i.seqno ≡ j.seqno → q ≡ r

abbrev AreSingleIn : List (DocKey × Item) → Type 0
AreSingleIn es = (q r : DocKey) (i j : Item) → find key_cmp q es ≡ Some i → find key_cmp r es ≡ Some j → i.seqno ≡ j.seqno → q ≡ r

-- what stands behind another entry stands behind it and it
found_later : (e : DocKey × Item) (es : List (DocKey × Item)) → StandOnce (e ∷ es) → (q : DocKey) (v : Item) → find key_cmp q es ≡ Some v → find key_cmp q (e ∷ es) ≡ Some v
found_later e es once q v f = go (eq_by_cmp key_cmp q e.0) refl
  where
    go : (b : Bool) → eq_by_cmp key_cmp q e.0 ≡ b → cond b (Some e.1) (find key_cmp q es) ≡ Some v
    go true is = absurd (no_some v (sym once.0 ∙ ap (λ k. find key_cmp k es) (sym (same_key q e.0 is)) ∙ f))
    go false is = f

found_first : (e : DocKey × Item) (es : List (DocKey × Item)) → find key_cmp e.0 (e ∷ es) ≡ Some e.1
found_first e es = ap (λ b. cond b (Some e.1) (find key_cmp e.0 es)) (itself e.0)

distinct_in : (es : List (DocKey × Item)) → StandOnce es → AreSingleIn es → IsDistinct nat_eq (list_map seqno_of (values_of es))
unfolding IsDistinct
distinct_in [] once single = tt
distinct_in (e ∷ es) once single = (
  all_mapped (λ m. nat_eq e.1.seqno m ≡ false) seqno_of (values_of es)
      (each_value (λ v. nat_eq e.1.seqno v.seqno ≡ false) es once.1 (λ q v f. unequal e.1.seqno v.seqno (λ same. apart q v f same))),
  distinct_in es once.1 (λ q r i j f g. single q r i j (found_later e es once q i f) (found_later e es once r j g)),
)
  where
    apart : (q : DocKey) (v : Item) → find key_cmp q es ≡ Some v → e.1.seqno ≡ v.seqno → ⊥
    apart q v f same =
        let one : e.0 ≡ q = single e.0 q e.1 v (found_first e es) (found_later e es once q v f) same in
        no_some v (sym once.0 ∙ ap (λ k. find key_cmp k es) one ∙ f)

-- what holds of all values holds of one that is found
each_found : (P : Item → Type 0) (es : List (DocKey × Item)) → AllByRecursion P (values_of es) → (q : DocKey) (v : Item) → find key_cmp q es ≡ Some v → P v
each_found P [] h q v f = absurd (no_some v f)
each_found P (e ∷ es) h q v f = go (eq_by_cmp key_cmp q e.0) f (λ g. each_found P es h.1 q v g)
  where
    go : (b : Bool) → cond b (Some e.1) (find key_cmp q es) ≡ Some v → (find key_cmp q es ≡ Some v → P v) → P v
    go true f rest = subst P (some_is e.1 v f) h.0
    go false f rest = rest f

single_in : (es : List (DocKey × Item)) → IsDistinct nat_eq (list_map seqno_of (values_of es)) → AreSingleIn es
unfolding IsDistinct
single_in [] h q r i j f g same = absurd (no_some i f)
single_in (e ∷ es) h q r i j f g same = go (eq_by_cmp key_cmp q e.0) refl (eq_by_cmp key_cmp r e.0) refl f g (λ f g. single_in es h.1 q r i j f g same)
  where
    apart : (k : DocKey) (v : Item) → find key_cmp k es ≡ Some v → nat_eq e.1.seqno v.seqno ≡ false
    apart k v g = each_found (λ w. nat_eq e.1.seqno w.seqno ≡ false) es (all_unmapped (λ m. nat_eq e.1.seqno m ≡ false) seqno_of (values_of es) h.0) k v g

    go : (a : Bool) → eq_by_cmp key_cmp q e.0 ≡ a → (b : Bool) → eq_by_cmp key_cmp r e.0 ≡ b
        → cond a (Some e.1) (find key_cmp q es) ≡ Some i → cond b (Some e.1) (find key_cmp r es) ≡ Some j → (find key_cmp q es ≡ Some i → find key_cmp r es ≡ Some j → q ≡ r) → q ≡ r
    go true x true y f g rest = same_key q e.0 x ∙ sym (same_key r e.0 y)
    go true x false y f g rest = absurd (not_equal e.1.seqno j.seqno (apart r j g) (ap seqno_of (some_is e.1 i f) ∙ same))
    go false x true y f g rest = absurd (not_equal e.1.seqno i.seqno (apart q i f) (ap seqno_of (some_is e.1 j g) ∙ sym same))
    go false x false y f g rest = rest f g

-- ---- items and changes that wait

pub record AreApart (items : map.FinMap key_cmp Item) (ps : List Pending) : Type 0 where
  pub single : AreSingle items
  pub waiting : IsDistinct nat_eq (list_map position_of ps)
  pub between : (q : DocKey) (i : Item) → map.get items q ≡ Some i → AllByRecursion (λ (p : Pending). nat_eq i.seqno p.position ≡ false) ps

pub apart_of : (items : map.FinMap key_cmp Item) (ps : List Pending) → IsDistinct nat_eq (numbers_in (map.values items) ps) → AreApart items ps
apart_of items ps h =
    let parts = split nat_eq (list_map seqno_of (map.values items)) (list_map position_of ps) h in
    let es = map.entries items in
    record {
      single = λ q r i j f g. single_in es parts.first q r i j (sym (map.get-entries items q) ∙ f) (sym (map.get-entries items r) ∙ g);
      waiting = parts.second;
      between = λ q i f.
          all_unmapped (λ m. nat_eq i.seqno m ≡ false) position_of ps
          (each_found (λ v. NoneIs nat_eq v.seqno (list_map position_of ps)) es
          (all_unmapped (λ n. NoneIs nat_eq n (list_map position_of ps)) seqno_of (values_of es) parts.between) q i (sym (map.get-entries items q) ∙ f));
    }

pub distinct_of : (items : map.FinMap key_cmp Item) (ps : List Pending) → AreApart items ps → IsDistinct nat_eq (numbers_in (map.values items) ps)
distinct_of items ps h =
    let es = map.entries items in
    let once = sorted_once es (map.entries_sorted items) in
    unite nat_eq (list_map seqno_of (map.values items)) (list_map position_of ps) (record {
      first = distinct_in es once (λ q r i j f g. h.single q r i j (map.get-entries items q ∙ f) (map.get-entries items r ∙ g));
      second = h.waiting;
      between = all_mapped (λ n. NoneIs nat_eq n (list_map position_of ps)) seqno_of (values_of es)
          (each_value (λ v. NoneIs nat_eq v.seqno (list_map position_of ps)) es once
          (λ q v f. all_mapped (λ m. nat_eq v.seqno m ≡ false) position_of ps (h.between q v (map.get-entries items q ∙ f))));
    })

-- ---- what changes

-- a key has an item of a new number
pub apart_insert : (items : map.FinMap key_cmp Item) (ps : List Pending) (key : DocKey) (item : Item) → AreApart items ps
    → ((q : DocKey) (i : Item) → map.get items q ≡ Some i → i.seqno < item.seqno)
    → AllByRecursion (λ (p : Pending). p.position < item.seqno) ps → AreApart (map.insert items key item) ps
apart_insert items ps key item h new behind = record {
  single = λ q r i j f g same. single q r i j (sym (got q) ∙ f) (sym (got r) ∙ g) same (eq_by_cmp key_cmp q key) refl (eq_by_cmp key_cmp r key) refl;
  waiting = h.waiting;
  between = λ q i f. between q i (sym (got q) ∙ f) (eq_by_cmp key_cmp q key) refl;
}
  where
    got : (q : DocKey) → map.get (map.insert items key item) q ≡ cond (eq_by_cmp key_cmp q key) (Some item) (map.get items q)
    got q = map.get-insert keys_total items key item q

    by : (q : DocKey) (i : Item) (b : Bool) → eq_by_cmp key_cmp q key ≡ b → cond (eq_by_cmp key_cmp q key) (Some item) (map.get items q) ≡ Some i → cond b (Some item) (map.get items q) ≡ Some i
    by q i b e f = ap (λ b. cond b (Some item) (map.get items q)) (sym e) ∙ f

    lower : (n m : ℕ) → n < m → n ≡ m → ⊥
    lower n m lt same = absurd (omega (arith, lt, same))

    single : (q r : DocKey) (i j : Item) → cond (eq_by_cmp key_cmp q key) (Some item) (map.get items q) ≡ Some i → cond (eq_by_cmp key_cmp r key) (Some item) (map.get items r) ≡ Some j → i.seqno ≡ j.seqno
        → (a : Bool) → eq_by_cmp key_cmp q key ≡ a → (b : Bool) → eq_by_cmp key_cmp r key ≡ b → q ≡ r
    single q r i j f g same true x true y = same_key q key x ∙ sym (same_key r key y)
    single q r i j f g same true x false y =
        absurd (lower j.seqno item.seqno (new r j (by r j false y g)) (sym same ∙ sym (ap seqno_of (some_is item i (by q i true x f)))))
    single q r i j f g same false x true y =
        absurd (lower i.seqno item.seqno (new q i (by q i false x f)) (same ∙ sym (ap seqno_of (some_is item j (by r j true y g)))))
    single q r i j f g same false x false y = h.single q r i j (by q i false x f) (by r j false y g) same

    none_waits : (ps : List Pending) → AllByRecursion (λ (p : Pending). p.position < item.seqno) ps → AllByRecursion (λ (p : Pending). nat_eq item.seqno p.position ≡ false) ps
    none_waits [] h = tt
    none_waits (p ∷ ps) h = (unequal item.seqno p.position (λ same. lower p.position item.seqno h.0 (sym same)), none_waits ps h.1)

    between : (q : DocKey) (i : Item) → cond (eq_by_cmp key_cmp q key) (Some item) (map.get items q) ≡ Some i → (b : Bool) → eq_by_cmp key_cmp q key ≡ b → AllByRecursion (λ (p : Pending). nat_eq i.seqno p.position ≡ false) ps
    between q i f true x = subst (λ (i : Item). AllByRecursion (λ (p : Pending). nat_eq i.seqno p.position ≡ false) ps) (some_is item i (by q i true x f)) (none_waits ps behind)
    between q i f false x = h.between q i (by q i false x f)

-- some of the items go
pub apart_kept : (items : map.FinMap key_cmp Item) (ps : List Pending) (test : DocKey → Bool) → AreApart items ps → AreApart (map.retain_keys items test) ps
apart_kept items ps test h = record {
  single = λ q r i j f g. h.single q r i j (kept q i (test q) refl (sym (get_kept items test q) ∙ f)) (kept r j (test r) refl (sym (get_kept items test r) ∙ g));
  waiting = h.waiting;
  between = λ q i f. h.between q i (kept q i (test q) refl (sym (get_kept items test q) ∙ f));
}
  where
    kept : (q : DocKey) (i : Item) (b : Bool) → test q ≡ b → cond (test q) (map.get items q) None ≡ Some i → map.get items q ≡ Some i
    kept q i true e f = ap (λ b. cond b (map.get items q) None) (sym e) ∙ f
    kept q i false e f = absurd (no_some i (ap (λ b. cond b (map.get items q) None) (sym e) ∙ f))

-- some of what waits goes
pub apart_some : (items : map.FinMap key_cmp Item) (ps : List Pending) (test : Pending → Bool) → AreApart items ps → AreApart items (filter test ps)
apart_some items ps test h = record {
  single = h.single;
  waiting = distinct_some nat_eq position_of test ps h.waiting;
  between = λ q i f. all_some (λ (p : Pending). nat_eq i.seqno p.position ≡ false) ps (h.between q i f);
}
  where
    all_some : (P : Pending → Type 0) (ps : List Pending) → AllByRecursion P ps → AllByRecursion P (filter test ps)
    all_some P [] h = tt
    all_some P (p ∷ ps) h = go (test p) (all_some P ps h.1)
      where
        go : (b : Bool) → AllByRecursion P (filter test ps) → AllByRecursion P (cond b (p ∷ filter test ps) (filter test ps))
        go true k = (h.0, k)
        go false k = k

-- one more waits, of a new number
pub apart_more : (items : map.FinMap key_cmp Item) (ps : List Pending) (p : Pending) → AreApart items ps
    → ((q : DocKey) (i : Item) → map.get items q ≡ Some i → i.seqno < p.position)
    → AllByRecursion (λ (r : Pending). r.position < p.position) ps → AreApart items (ps ++ p ∷ [])
apart_more items ps p h new behind = record {
  single = h.single;
  waiting = distinct_more nat_eq position_of ps p h.waiting (apart ps behind);
  between = λ q i f. all_push i ps (h.between q i f) (unequal i.seqno p.position (λ same. lower i.seqno p.position (new q i f) same));
}
  where
    lower : (n m : ℕ) → n < m → n ≡ m → ⊥
    lower n m lt same = absurd (omega (arith, lt, same))

    apart : (ps : List Pending) → AllByRecursion (λ (r : Pending). r.position < p.position) ps → AllByRecursion (λ (r : Pending). nat_eq r.position p.position ≡ false) ps
    apart [] h = tt
    apart (r ∷ rs) h = (unequal r.position p.position (lower r.position p.position h.0), apart rs h.1)

    all_push : (i : Item) (ps : List Pending) → AllByRecursion (λ (r : Pending). nat_eq i.seqno r.position ≡ false) ps → nat_eq i.seqno p.position ≡ false → AllByRecursion (λ (r : Pending). nat_eq i.seqno r.position ≡ false) (ps ++ p ∷ [])
    all_push i [] h k = (k, tt)
    all_push i (r ∷ rs) h k = (h.0, all_push i rs h.1 k)
