-- The items to which the spots of a map lead, gathered.
use Rattle.std.specs.Prelude.{◌≡◌, ℕ, ◌≤◌, ◌^◌, nat_lt, filter, Bool, true, false, cond, List, [], ◌∷◌, Option, Some, None, refl}
use Rattle.std.specs.FinMap as map
use Rattle.std.specs.FinMap.Entries.{find}
use Rattle.std.specs.Map.{values_of}
use Rattle.std.specs.Ordering.{eq_by_cmp}
use Rattle.std.proofs.Common.{sym, ap, ◌∙◌, subst, arith}
use Rattle.doc_model.specs.declared.key.DocKey.{DocKey}
use Rattle.doc_model.specs.declared.document.Item.{Item}
use Rattle.doc_model.specs.Keys.{key_cmp}
use Rattle.doc_model.specs.Values.{StandOnce, AreValues}
use Rattle.doc_model.proofs.Entries.{exact_keys, same_key, keys_total}
use Rattle.doc_model.proofs.Drops.{get_kept}
use Rattle.vb_log.specs.Parts.{is_behind}
use Rattle.vb_log.proofs.Sorting.{keyed, itself}
use Rattle.magma_disk.specs.Device.{Device}
use Rattle.magma_store.specs.declared.spot.Spot.{Spot}
use Rattle.magma_store.specs.Gotten.{Stands, AllStand}
use Rattle.magma_store.specs.Store.{Leads, LeadTo, behind}
use Rattle.magma_store.proofs.Gotten.{none_some}

-- a key's spot leads to its item
pub record Led (items : map.FinMap key_cmp Item) (h : List Device) (q : DocKey) (s : Spot) : Type 0 where
  pub item : Item
  pub has : map.get items q ≡ Some item
  pub own : item.key ≡ q
  pub same : s.seqno ≡ item.seqno
  pub stands : Stands s item h

-- the spot of each entry does
abbrev AllLed : map.FinMap key_cmp Item → List Device → List (DocKey × Spot) → Type 0
AllLed items h [] = Unit {0}
AllLed items h (e ∷ es) = Led items h e.0 e.1 × AllLed items h es

-- ---- a map of spots

led_at : (d : Device) (past : List Device) (items : map.FinMap key_cmp Item) (end : ℕ) (q : DocKey) (s : Spot) → end ≤ 2 ^ 62
    → (o : Option Item) → map.get items q ≡ o → Leads d.bytes end q (Some s) o → Led items (d ∷ past) q s
led_at d past items end q s small None is l = absurd l
led_at d past items end q s small (Some item) is l =
    let within = l.2.before in
    record { item = item; has = is; own = l.0; same = l.2.seqno; stands = (l.1, record { seqno = l.2.seqno; len = l.2.len; weight = l.2.weight; cas = l.2.cas; read = l.2.read; before = omega (arith, within, small) }) }

pub led_of : (h : List Device) (spots : map.FinMap key_cmp Spot) (items : map.FinMap key_cmp Item) (end : ℕ) → LeadTo spots items end h → end ≤ 2 ^ 62
    → (q : DocKey) (s : Spot) → map.get spots q ≡ Some s → Led items h q s
led_of [] spots items end l small q s is = absurd l
led_of (d ∷ past) spots items end l small q s is =
    led_at d past items end q s small (map.get items q) refl (subst (λ o. Leads d.bytes end q o (map.get items q)) is (l q))

none_of : (h : List Device) (spots : map.FinMap key_cmp Spot) (items : map.FinMap key_cmp Item) (end : ℕ) → LeadTo spots items end h
    → (q : DocKey) → map.get spots q ≡ None → map.get items q ≡ None
none_of [] spots items end l q is = absurd l
none_of (d ∷ past) spots items end l q is = go (map.get items q) refl (subst (λ o. Leads d.bytes end q o (map.get items q)) is (l q))
  where
    go : (o : Option Item) → map.get items q ≡ o → Leads d.bytes end q None o → map.get items q ≡ None
    go None e k = e
    go (Some item) e k = absurd k

-- ---- entries

all_led : (items : map.FinMap key_cmp Item) (h : List Device) (es : List (DocKey × Spot)) → StandOnce es
    → ((q : DocKey) (s : Spot) → find key_cmp q es ≡ Some s → Led items h q s) → AllLed items h es
all_led items h [] once at = tt
all_led items h (e ∷ es) once at = (
  at e.0 e.1 (ap (λ b. cond b (Some e.1) (find key_cmp e.0 es)) (itself e.0)),
  all_led items h es once.1 (λ q s f. at q s (later q s f (eq_by_cmp key_cmp q e.0) refl)),
)
  where
    later : (q : DocKey) (s : Spot) → find key_cmp q es ≡ Some s → (b : Bool) → eq_by_cmp key_cmp q e.0 ≡ b → find key_cmp q (e ∷ es) ≡ Some s
    later q s f true is = absurd (none_some s (sym once.0 ∙ ap (λ k. find key_cmp k es) (sym (same_key q e.0 is)) ∙ f))
    later q s f false is = ap (λ b. cond b (Some e.1) (find key_cmp q es)) is ∙ f

-- the items of the entries behind a sequence number
abbrev found_of : ℕ → (items : map.FinMap key_cmp Item) (h : List Device) (es : List (DocKey × Spot)) → AllLed items h es → List Item
found_of seqno items h [] l = []
found_of seqno items h (e ∷ es) l = cond (nat_lt seqno e.1.seqno) (l.0.item ∷ found_of seqno items h es l.1) (found_of seqno items h es l.1)

stand_found : (seqno : ℕ) (items : map.FinMap key_cmp Item) (h : List Device) (es : List (DocKey × Spot)) (l : AllLed items h es)
    → AllStand (filter (λ (s : Spot). nat_lt seqno s.seqno) (values_of es)) (found_of seqno items h es l) h
stand_found seqno items h [] l = tt
stand_found seqno items h (e ∷ es) l = go (nat_lt seqno e.1.seqno) (stand_found seqno items h es l.1)
  where
    go : (b : Bool) → AllStand (filter (λ (s : Spot). nat_lt seqno s.seqno) (values_of es)) (found_of seqno items h es l.1) h
        → AllStand (cond b (e.1 ∷ filter (λ (s : Spot). nat_lt seqno s.seqno) (values_of es)) (filter (λ (s : Spot). nat_lt seqno s.seqno) (values_of es)))
        (cond b (l.0.item ∷ found_of seqno items h es l.1) (found_of seqno items h es l.1)) h
    go true rest = (l.0.stands, rest)
    go false rest = rest

-- what a key has that has a spot, where that is behind a sequence number
abbrev picked : ℕ → map.FinMap key_cmp Item → DocKey → Option Spot → Option Item
picked seqno items q None = None
picked seqno items q (Some s) = cond (nat_lt seqno s.seqno) (map.get items q) None

find_found : (seqno : ℕ) (items : map.FinMap key_cmp Item) (h : List Device) (es : List (DocKey × Spot)) (l : AllLed items h es) → StandOnce es
    → (q : DocKey) → find key_cmp q (keyed (found_of seqno items h es l)) ≡ picked seqno items q (find key_cmp q es)
find_found seqno items h [] l once q = refl
find_found seqno items h (e ∷ es) l once q = go (nat_lt seqno e.1.seqno) refl (eq_by_cmp key_cmp q e.0) refl (find_found seqno items h es l.1 once.1 q)
  where
    rest : List Item
    rest = found_of seqno items h es l.1

    go : (b : Bool) → nat_lt seqno e.1.seqno ≡ b → (s : Bool) → eq_by_cmp key_cmp q e.0 ≡ s
        → find key_cmp q (keyed rest) ≡ picked seqno items q (find key_cmp q es)
        → find key_cmp q (keyed (cond b (l.0.item ∷ rest) rest)) ≡ picked seqno items q (cond s (Some e.1) (find key_cmp q es))
    go true is true same more =
        ap (λ k. cond (eq_by_cmp key_cmp q k) (Some l.0.item) (find key_cmp q (keyed rest))) l.0.own
        ∙ ap (λ b. cond b (Some l.0.item) (find key_cmp q (keyed rest))) same
        ∙ sym l.0.has ∙ ap (map.get items) (sym (same_key q e.0 same))
        ∙ sym (ap (λ b. cond b (map.get items q) None) is)
    go true is false same more =
        ap (λ k. cond (eq_by_cmp key_cmp q k) (Some l.0.item) (find key_cmp q (keyed rest))) l.0.own
        ∙ ap (λ b. cond b (Some l.0.item) (find key_cmp q (keyed rest))) same ∙ more
    go false is true same more =
        more ∙ ap (picked seqno items q) (ap (λ k. find key_cmp k es) (same_key q e.0 same) ∙ once.0)
        ∙ sym (ap (λ b. cond b (map.get items q) None) is)
    go false is false same more = more

once_found : (seqno : ℕ) (items : map.FinMap key_cmp Item) (h : List Device) (es : List (DocKey × Spot)) (l : AllLed items h es) → StandOnce es
    → StandOnce (keyed (found_of seqno items h es l))
once_found seqno items h [] l once = tt
once_found seqno items h (e ∷ es) l once = go (nat_lt seqno e.1.seqno) (once_found seqno items h es l.1 once.1)
  where
    rest : List Item
    rest = found_of seqno items h es l.1

    go : (b : Bool) → StandOnce (keyed rest) → StandOnce (keyed (cond b (l.0.item ∷ rest) rest))
    go true more = (
      ap (λ k. find key_cmp k (keyed rest)) l.0.own ∙ find_found seqno items h es l.1 once.1 e.0 ∙ ap (picked seqno items e.0) once.0,
      more,
    )
    go false more = more

-- ---- all of it

values_keyed : (items : List Item) → values_of (keyed items) ≡ items
values_keyed [] = refl
values_keyed (i ∷ items) = ap (λ l. i ∷ l) (values_keyed items)

-- the items to which the spots of a map behind a sequence number lead
pub record Gathers (seqno : ℕ) (items : map.FinMap key_cmp Item) (h : List Device) (spots : List Spot) : Type 0 where
  pub found : List Item
  pub stand : AllStand spots found h
  pub are : AreValues (behind seqno items) found

pub gathers : (seqno : ℕ) (h : List Device) (spots : map.FinMap key_cmp Spot) (items : map.FinMap key_cmp Item) (end : ℕ) (values : List Spot)
    → LeadTo spots items end h → end ≤ 2 ^ 62 → AreValues spots values
    → Gathers seqno items h (filter (λ (s : Spot). nat_lt seqno s.seqno) values)
gathers seqno h spots items end values l small v =
    let there : (q : DocKey) → find key_cmp q v.entries ≡ map.get spots q = λ q. sym (map.get-from_entries keys_total v.entries q) ∙ ap (λ m. map.get m q) v.made in
    let led : AllLed items h v.entries = all_led items h v.entries v.once (λ q s f. led_of h spots items end l small q s (sym (there q) ∙ f)) in
    let found = found_of seqno items h v.entries led in
    record {
      found = found;
      stand = subst (λ vs. AllStand (filter (λ (s : Spot). nat_lt seqno s.seqno) vs) found h) v.read (stand_found seqno items h v.entries led);
      are = record {
        entries = keyed found;
        once = once_found seqno items h v.entries led v.once;
        made = map.same_map keys_total exact_keys (map.from_entries (keyed found)) (behind seqno items) (λ q.
            map.get-from_entries keys_total (keyed found) q ∙ find_found seqno items h v.entries led v.once q
            ∙ ap (picked seqno items q) (there q) ∙ same q (map.get spots q) refl
            ∙ sym (get_kept items (λ key. is_behind seqno (map.get items key)) q));
        read = values_keyed found;
      };
    }
  where
    same : (q : DocKey) (o : Option Spot) → map.get spots q ≡ o → picked seqno items q o ≡ cond (is_behind seqno (map.get items q)) (map.get items q) None
    same q None is = let none = none_of h spots items end l q is in sym (ap (λ o. cond (is_behind seqno o) o None) none)
    same q (Some s) is =
        let lead = led_of h spots items end l small q s is in
        ap (λ n. cond (nat_lt seqno n) (map.get items q) None) lead.same
        ∙ ap (λ o. cond (is_behind seqno o) (map.get items q) None) (sym lead.has)
