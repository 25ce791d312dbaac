-- Maps of spots: what a key has once spots are set, room is made or taken back.
use Rattle.std.specs.Prelude.{◌≡◌, ◌≢◌, ℕ, ◌+◌, ◌<◌, nat_eq, is_some, Bool, true, false, cond, not, ◌&&◌, ◌||◌, List, [], ◌∷◌, ◌++◌, length, take, Option, Some, None, refl}
use Rattle.std.specs.List.{AllByRecursion}
use Rattle.std.specs.Ordering.{eq_by_cmp}
use Rattle.std.specs.FinMap as map
use Rattle.std.proofs.Common.{sym, ◌∙◌, ap, arith, get_or}
use Rattle.std.proofs.lemmas.Bool.{and_parts, eqb-true}
use Rattle.std.proofs.lemmas.List.{take_more}
use Rattle.doc_model.specs.declared.key.DocKey.{DocKey}
use Rattle.doc_model.specs.declared.document.Item.{Item}
use Rattle.doc_model.specs.Keys.{key_cmp, is_in}
use Rattle.doc_model.proofs.Entries.{exact_keys, keys_total, same_key}
use Rattle.doc_model.proofs.Drops.{get_kept}
use Rattle.magma_store.specs.declared.spot.Spot.{Spot}
use Rattle.magma_store.specs.declared.spot.Placed.{Placed}
use Rattle.vb_log.specs.Contents.{item_bytes}
use Rattle.magma_store.specs.Spots.{with_spots, with_room, no_spot, AllLead, placed}
use Rattle.magma_store.specs.Room.{with_room_for, with_found_one, with_found, is_no_spot, has_room, without_room_for, without_room}

-- ---- one place more

module _ {A B : Type 0} (step : A → B → A) (all : A → List B → A) (none : (a : A) → all a [] ≡ a)
    (some : (a : A) (b : B) (bs : List B) → all a (b ∷ bs) ≡ all (step a b) bs) where
  all_more : (a : A) (bs : List B) (b : B) → all a (bs ++ b ∷ []) ≡ step (all a bs) b
  all_more a [] b = some a b [] ∙ none (step a b) ∙ ap (λ x. step x b) (sym (none a))
  all_more a (x ∷ bs) b = some a x (bs ++ b ∷ []) ∙ all_more (step a x) bs b ∙ ap (λ y. step y b) (sym (some a x bs))

  pub all_on : (a : A) (bs : List B) (i : ℕ) (b : B) → i < length bs → b ≡ get_or bs i b
      → all a (take (i + 1) bs) ≡ step (all a (take i bs)) b
  all_on a bs i b within is =
      ap (all a) (take_more bs i b within ∙ ap (λ (x : B). take i bs ++ x ∷ []) (sym is)) ∙ all_more a (take i bs) b

abbrev pub Spots : Type 0
Spots = map.FinMap key_cmp Spot

abbrev set_one : Spots → Placed → Spots
set_one m p = map.insert m p.key p.spot

pub spots_on : (m : Spots) (ps : List Placed) (i : ℕ) (p : Placed) → i < length ps → p ≡ get_or ps i p
    → with_spots m (take (i + 1) ps) ≡ map.insert (with_spots m (take i ps)) p.key p.spot
spots_on m ps i p within is = all_on set_one with_spots (λ a. refl) (λ a b bs. refl) m ps i p within is

pub found_on : (m : Spots) (ps : List Placed) (i : ℕ) (p : Placed) → i < length ps → p ≡ get_or ps i p
    → with_found m (take (i + 1) ps) ≡ with_found_one (with_found m (take i ps)) p
found_on m ps i p within is = all_on with_found_one with_found (λ a. refl) (λ a b bs. refl) m ps i p within is

pub room_on : (m : Spots) (ps : List Placed) (i : ℕ) (p : Placed) → i < length ps → p ≡ get_or ps i p
    → with_room m (take (i + 1) ps) ≡ with_room_for (with_room m (take i ps)) p
room_on m ps i p within is = all_on with_room_for with_room (λ a. refl) (λ a b bs. refl) m ps i p within is

pub back_on : (m : Spots) (ps : List Placed) (i : ℕ) (p : Placed) → i < length ps → p ≡ get_or ps i p
    → without_room m (take (i + 1) ps) ≡ without_room_for (without_room m (take i ps)) p
back_on m ps i p within is = all_on without_room_for without_room (λ a. refl) (λ a b bs. refl) m ps i p within is

-- ---- what a key has

-- whether a place is of this key
abbrev among : DocKey → List Placed → Bool
among q [] = false
among q (p ∷ ps) = eq_by_cmp key_cmp q p.key || among q ps

-- what a key has after places were set
abbrev spot_after : DocKey → List Placed → Option Spot → Option Spot
spot_after q [] had = had
spot_after q (p ∷ ps) had = spot_after q ps (cond (eq_by_cmp key_cmp q p.key) (Some p.spot) had)

-- what one has that has something, where the place is its own
abbrev replaced : Bool → Spot → Option Spot → Option Spot
replaced own spot None = None
replaced own spot (Some had) = cond own (Some spot) (Some had)

abbrev found_after : DocKey → List Placed → Option Spot → Option Spot
found_after q [] had = had
found_after q (p ∷ ps) had = found_after q ps (replaced (eq_by_cmp key_cmp q p.key) p.spot had)

abbrev roomed : Bool → Option Spot → Option Spot
roomed own None = cond own (Some no_spot) None
roomed own (Some had) = Some had

abbrev taken : Bool → Option Spot → Option Spot
taken own None = None
taken own (Some had) = cond (own && is_no_spot had) None (Some had)

-- a look-up of a key alike
alike : (m : Spots) (q k : DocKey) (o : Option Spot) → eq_by_cmp key_cmp q k ≡ true → map.get m q ≡ o → map.get m k ≡ o
alike m q k o same got = ap (λ (x : DocKey). map.get m x) (sym (same_key q k same)) ∙ got

get_spots : (m : Spots) (ps : List Placed) (q : DocKey) → map.get (with_spots m ps) q ≡ spot_after q ps (map.get m q)
get_spots m [] q = refl
get_spots m (p ∷ ps) q =
    get_spots (map.insert m p.key p.spot) ps q ∙ ap (spot_after q ps) (map.get-insert keys_total m p.key p.spot q)

abbrev no_one : Option Spot
no_one = None

never : (b : Bool) → cond b no_one no_one ≡ no_one
never true = refl
never false = refl

module _ (m : Spots) (k q : DocKey) where
  found_one : (s : Spot) (own : Bool) → eq_by_cmp key_cmp q k ≡ own → (o : Option Spot) → map.get m q ≡ o
      → (there : Bool) → is_some (map.get m k) ≡ there → map.get (cond there (map.insert m k s) m) q ≡ replaced own s o
  found_one s own e None got true is =
      map.get-insert keys_total m k s q ∙ ap (λ b. cond b (Some s) (map.get m q)) e ∙ none own e
    where
      none : (own : Bool) → eq_by_cmp key_cmp q k ≡ own → cond own (Some s) (map.get m q) ≡ None
      none true e = absurd (let z : true ≡ false = sym is ∙ ap is_some (alike m q k None e got) in cc)
      none false e = got
  found_one s own e (Some had) got true is =
      map.get-insert keys_total m k s q ∙ ap (λ b. cond b (Some s) (map.get m q)) e ∙ ap (cond own (Some s)) got
  found_one s own e None got false is = got
  found_one s true e (Some had) got false is =
      absurd (let z : false ≡ true = sym is ∙ ap is_some (alike m q k (Some had) e got) in cc)
  found_one s false e (Some had) got false is = got

  room_one : (own : Bool) → eq_by_cmp key_cmp q k ≡ own → (o : Option Spot) → map.get m q ≡ o → (there : Bool)
      → is_some (map.get m k) ≡ there → map.get (cond there m (map.insert m k no_spot)) q ≡ roomed own o
  room_one true e None got true is = absurd (let z : true ≡ false = sym is ∙ ap is_some (alike m q k None e got) in cc)
  room_one false e None got true is = got
  room_one own e (Some had) got true is = got
  room_one true e None got false is =
      map.get-insert keys_total m k no_spot q ∙ ap (λ b. cond b (Some no_spot) (map.get m q)) e
  room_one true e (Some had) got false is =
      absurd (let z : false ≡ true = sym is ∙ ap is_some (alike m q k (Some had) e got) in cc)
  room_one false e None got false is =
      map.get-insert keys_total m k no_spot q ∙ ap (λ b. cond b (Some no_spot) (map.get m q)) e ∙ got
  room_one false e (Some had) got false is =
      map.get-insert keys_total m k no_spot q ∙ ap (λ b. cond b (Some no_spot) (map.get m q)) e ∙ got

  back_one : (own : Bool) → eq_by_cmp key_cmp q k ≡ own → (o : Option Spot) → map.get m q ≡ o → (there : Bool)
      → has_room (map.get m k) ≡ there → map.get (cond there (map.remove m k) m) q ≡ taken own o
  back_one own e None got true is =
      map.get-remove keys_total m k q ∙ ap (cond (eq_by_cmp key_cmp q k) None) got ∙ never (eq_by_cmp key_cmp q k)
  back_one true e (Some had) got true is =
      let room : is_no_spot had ≡ true = sym (ap has_room (alike m q k (Some had) e got)) ∙ is in
      map.get-remove keys_total m k q ∙ ap (λ b. cond b None (map.get m q)) e
      ∙ ap (λ b. cond b None (Some had)) (sym room)
  back_one false e (Some had) got true is =
      map.get-remove keys_total m k q ∙ ap (λ b. cond b None (map.get m q)) e ∙ got
  back_one own e None got false is = got
  back_one true e (Some had) got false is =
      let filled : is_no_spot had ≡ false = sym (ap has_room (alike m q k (Some had) e got)) ∙ is in
      got ∙ ap (λ b. cond b None (Some had)) (sym filled)
  back_one false e (Some had) got false is = got

get_found : (m : Spots) (ps : List Placed) (q : DocKey) → map.get (with_found m ps) q ≡ found_after q ps (map.get m q)
get_found m [] q = refl
get_found m (p ∷ ps) q =
    get_found (with_found_one m p) ps q
    ∙ ap (found_after q ps)
    (found_one m p.key q p.spot (eq_by_cmp key_cmp q p.key) refl (map.get m q) refl (is_some (map.get m p.key)) refl)

roomed_twice : (a b : Bool) (o : Option Spot) → roomed b (roomed a o) ≡ roomed (a || b) o
roomed_twice true b None = refl
roomed_twice false b None = refl
roomed_twice a b (Some had) = refl

get_room : (m : Spots) (ps : List Placed) (q : DocKey) → map.get (with_room m ps) q ≡ roomed (among q ps) (map.get m q)
get_room m [] q = unroomed (map.get m q)
  where
    unroomed : (o : Option Spot) → o ≡ roomed false o
    unroomed None = refl
    unroomed (Some had) = refl
get_room m (p ∷ ps) q =
    get_room (with_room_for m p) ps q
    ∙ ap (roomed (among q ps))
    (room_one m p.key q (eq_by_cmp key_cmp q p.key) refl (map.get m q) refl (is_some (map.get m p.key)) refl)
    ∙ roomed_twice (eq_by_cmp key_cmp q p.key) (among q ps) (map.get m q)

taken_twice : (a b : Bool) (o : Option Spot) → taken b (taken a o) ≡ taken (a || b) o
taken_twice a b None = refl
taken_twice a b (Some had) = go a b (is_no_spot had) refl
  where
    go : (a b room : Bool) → is_no_spot had ≡ room
        → taken b (cond (a && is_no_spot had) None (Some had)) ≡ cond ((a || b) && is_no_spot had) None (Some had)
    go true b true is = ap (λ r. taken b (cond r None (Some had))) is ∙ ap (λ r. cond r None (Some had)) (sym is)
    go true b false is =
        ap (λ r. taken b (cond r None (Some had))) is ∙ other b is ∙ ap (λ r. cond r None (Some had)) (sym is)
      where
        other : (b : Bool) → is_no_spot had ≡ false → cond (b && is_no_spot had) None (Some had) ≡ Some had
        other true is = ap (λ r. cond r None (Some had)) is
        other false is = refl
    go false b room is = refl

get_back : (m : Spots) (ps : List Placed) (q : DocKey)
    → map.get (without_room m ps) q ≡ taken (among q ps) (map.get m q)
get_back m [] q = untaken (map.get m q)
  where
    untaken : (o : Option Spot) → o ≡ taken false o
    untaken None = refl
    untaken (Some had) = refl
get_back m (p ∷ ps) q =
    get_back (without_room_for m p) ps q
    ∙ ap (taken (among q ps))
    (back_one m p.key q (eq_by_cmp key_cmp q p.key) refl (map.get m q) refl (has_room (map.get m p.key)) refl)
    ∙ taken_twice (eq_by_cmp key_cmp q p.key) (among q ps) (map.get m q)

-- ---- room that is taken back

room_is : (s : Spot) → is_no_spot s ≡ true → s ≡ no_spot
room_is s e =
    let all = and_parts (nat_eq s.seqno 0) (nat_eq s.at 0 && (nat_eq s.length 0 && (nat_eq s.weight 0 && nat_eq s.cas 0))) e in
    let behind = and_parts (nat_eq s.at 0) (nat_eq s.length 0 && (nat_eq s.weight 0 && nat_eq s.cas 0)) all.1 in
    let more = and_parts (nat_eq s.length 0) (nat_eq s.weight 0 && nat_eq s.cas 0) behind.1 in
    let last = and_parts (nat_eq s.weight 0) (nat_eq s.cas 0) more.1 in
    λ i. record {
      seqno = eqb-true s.seqno 0 all.0 i;
      at = eqb-true s.at 0 behind.0 i;
      length = eqb-true s.length 0 more.0 i;
      weight = eqb-true s.weight 0 last.0 i;
      cas = eqb-true s.cas 0 last.1 i;
    }

given_back : (own : Bool) (o : Option Spot) → o ≢ Some no_spot → taken own (roomed own o) ≡ o
given_back true None leads = refl
given_back false None leads = refl
given_back false (Some had) leads = refl
given_back true (Some had) leads = go (is_no_spot had) refl
  where
    go : (room : Bool) → is_no_spot had ≡ room → cond room None (Some had) ≡ Some had
    go true e = absurd (leads (ap (λ (s : Spot). Some s) (room_is had e)))
    go false e = refl

pub room_back : (before : Spots) (ps : List Placed) → AllLead before → without_room (with_room before ps) ps ≡ before
room_back before ps leads = map.same_map keys_total exact_keys (without_room (with_room before ps) ps) before (λ q.
    get_back (with_room before ps) ps q ∙ ap (taken (among q ps)) (get_room before ps q)
    ∙ given_back (among q ps) (map.get before q) (leads q))

-- ---- spots for which room was made

found_some : (q : DocKey) (ps : List Placed) (had : Spot) → found_after q ps (Some had) ≡ spot_after q ps (Some had)
found_some q [] had = refl
found_some q (p ∷ ps) had = go (eq_by_cmp key_cmp q p.key) (found_some q ps p.spot) (found_some q ps had)
  where
    go : (own : Bool) → found_after q ps (Some p.spot) ≡ spot_after q ps (Some p.spot)
        → found_after q ps (Some had) ≡ spot_after q ps (Some had)
        → found_after q ps (cond own (Some p.spot) (Some had)) ≡ spot_after q ps (cond own (Some p.spot) (Some had))
    go true new old = new
    go false new old = old

found_none : (q : DocKey) (ps : List Placed) (o : Option Spot) → among q ps ≡ false → found_after q ps o ≡ o
found_none q [] o out = refl
found_none q (p ∷ ps) o out = go (eq_by_cmp key_cmp q p.key) o out (λ out. found_none q ps o out)
  where
    go : (own : Bool) (o : Option Spot) → (own || among q ps) ≡ false → (among q ps ≡ false → found_after q ps o ≡ o)
        → found_after q ps (replaced own p.spot o) ≡ o
    go true o out rest = absurd cc
    go false None out rest = rest out
    go false (Some had) out rest = rest out

spot_none : (q : DocKey) (ps : List Placed) (o : Option Spot) → among q ps ≡ false → spot_after q ps o ≡ o
spot_none q [] o out = refl
spot_none q (p ∷ ps) o out = go (eq_by_cmp key_cmp q p.key) out (λ out. spot_none q ps o out)
  where
    go : (own : Bool) → (own || among q ps) ≡ false → (among q ps ≡ false → spot_after q ps o ≡ o)
        → spot_after q ps (cond own (Some p.spot) o) ≡ o
    go true out rest = absurd cc
    go false out rest = rest out

spot_same : (q : DocKey) (ps : List Placed) (o r : Option Spot) → among q ps ≡ true
    → spot_after q ps o ≡ spot_after q ps r
spot_same q [] o r in_it = absurd cc
spot_same q (p ∷ ps) o r in_it = go (eq_by_cmp key_cmp q p.key) in_it (λ more. spot_same q ps o r more)
  where
    go : (own : Bool) → (own || among q ps) ≡ true → (among q ps ≡ true → spot_after q ps o ≡ spot_after q ps r)
        → spot_after q ps (cond own (Some p.spot) o) ≡ spot_after q ps (cond own (Some p.spot) r)
    go true in_it rest = refl
    go false in_it rest = rest in_it

kept_among : (kept : DocKey → Bool) (q : DocKey) (ps : List Placed)
    → AllByRecursion (λ (p : Placed). kept p.key ≡ true) ps → among q ps ≡ true → kept q ≡ true
kept_among kept q [] all in_it = absurd cc
kept_among kept q (p ∷ ps) all in_it =
    go (eq_by_cmp key_cmp q p.key) refl in_it (λ more. kept_among kept q ps all.1 more)
  where
    go : (own : Bool) → eq_by_cmp key_cmp q p.key ≡ own → (own || among q ps) ≡ true
        → (among q ps ≡ true → kept q ≡ true) → kept q ≡ true
    go true e in_it rest = ap kept (same_key q p.key e) ∙ all.0
    go false e in_it rest = rest in_it

module _ (kept : DocKey → Bool) (ps : List Placed) (all : AllByRecursion (λ (p : Placed). kept p.key ≡ true) ps)
    (q : DocKey) where
  filled : (own : Bool) → among q ps ≡ own → (o : Option Spot)
      → found_after q ps (cond (kept q) (roomed own o) None) ≡ spot_after q ps (cond (kept q) o None)
  filled true e None =
      ap (λ b. found_after q ps (cond b (Some no_spot) None)) (kept_among kept q ps all e) ∙ found_some q ps no_spot
      ∙ spot_same q ps (Some no_spot) (cond (kept q) None None) e
  filled true e (Some had) =
      ap (λ b. found_after q ps (cond b (Some had) None)) (kept_among kept q ps all e) ∙ found_some q ps had
      ∙ spot_same q ps (Some had) (cond (kept q) (Some had) None) e
  filled false e None = found_none q ps (cond (kept q) None None) e ∙ sym (spot_none q ps (cond (kept q) None None) e)
  filled false e (Some had) =
      found_none q ps (cond (kept q) (Some had) None) e ∙ sym (spot_none q ps (cond (kept q) (Some had) None) e)

-- Room for spots is made, other keys go, and the spots are set: it is as if they had been set at last with no room made.
pub room_filled : (spots : Spots) (kept : DocKey → Bool) (ps : List Placed)
    → AllByRecursion (λ (p : Placed). kept p.key ≡ true) ps
    → with_found (map.retain_keys (with_room spots ps) kept) ps ≡ with_spots (map.retain_keys spots kept) ps
room_filled spots kept ps all =
    map.same_map keys_total exact_keys (with_found (map.retain_keys (with_room spots ps) kept) ps)
    (with_spots (map.retain_keys spots kept) ps) (λ q.
    get_found (map.retain_keys (with_room spots ps) kept) ps q
    ∙ ap (found_after q ps)
    (get_kept (with_room spots ps) kept q ∙ ap (λ (o : Option Spot). cond (kept q) o None) (get_room spots ps q))
    ∙ filled kept ps all q (among q ps) refl (map.get spots q)
    ∙ sym (get_spots (map.retain_keys spots kept) ps q ∙ ap (spot_after q ps) (get_kept spots kept q)))

-- ---- no key has room alone

pub lead_none : AllLead map.empty
lead_none q e = absurd (let z : map.get (map.empty {X = Spot} {R = key_cmp}) q ≡ None = map.get-empty key_cmp q in cc)

lead_insert : (m : Spots) (k : DocKey) (s : Spot) → AllLead m → s ≢ no_spot → AllLead (map.insert m k s)
lead_insert m k s leads some q e = go (eq_by_cmp key_cmp q k) (sym (map.get-insert keys_total m k s q) ∙ e)
  where
    go : (own : Bool) → cond own (Some s) (map.get m q) ≡ Some no_spot → ⊥
    go true e = some cc
    go false e = leads q e

pub lead_kept : (m : Spots) (kept : DocKey → Bool) → AllLead m → AllLead (map.retain_keys m kept)
lead_kept m kept leads q e = go (kept q) (sym (get_kept m kept q) ∙ e)
  where
    go : (stays : Bool) → cond stays (map.get m q) None ≡ Some no_spot → ⊥
    go true e = leads q e
    go false e = absurd cc

pub lead_spots : (m : Spots) (ps : List Placed) → AllLead m → AllByRecursion (λ (p : Placed). p.spot ≢ no_spot) ps
    → AllLead (with_spots m ps)
lead_spots m [] leads all = leads
lead_spots m (p ∷ ps) leads all =
    lead_spots (map.insert m p.key p.spot) ps (lead_insert m p.key p.spot leads all.0) all.1

-- ---- a write

-- the keys of dropped collections go
abbrev pub spots_left : List ℕ → Spots → Spots
spots_left dropped spots = map.retain_keys spots (λ key. not (is_in dropped key))

-- none of the places is of a key in a dropped collection
abbrev pub NoneDropped : List ℕ → List Placed → Type 0
NoneDropped dropped ps = AllByRecursion (λ (p : Placed). is_in dropped p.key ≡ false) ps

kept_all : (dropped : List ℕ) (ps : List Placed) → NoneDropped dropped ps
    → AllByRecursion (λ (p : Placed). not (is_in dropped p.key) ≡ true) ps
kept_all dropped [] all = tt
kept_all dropped (p ∷ ps) all = (ap not all.0, kept_all dropped ps all.1)

-- Room is made, the keys of dropped collections go, and the spots are set.
pub room_written : (spots : Spots) (dropped : List ℕ) (ps : List Placed) → NoneDropped dropped ps
    → with_found (spots_left dropped (with_room spots ps)) ps ≡ with_spots (spots_left dropped spots) ps
room_written spots dropped ps all = room_filled spots (λ key. not (is_in dropped key)) ps (kept_all dropped ps all)

-- then no key has room alone
pub lead_written : (spots : Spots) (dropped : List ℕ) (ps : List Placed) → AllLead spots
    → AllByRecursion (λ (p : Placed). p.spot ≢ no_spot) ps → AllLead (with_spots (spots_left dropped spots) ps)
lead_written spots dropped ps leads all =
    lead_spots (spots_left dropped spots) ps (lead_kept spots (λ key. not (is_in dropped key)) leads) all

-- places behind the front are of items
pub placed_lead : (at : ℕ) (items : List Item) → 0 < at
    → AllByRecursion (λ (p : Placed). p.spot ≢ no_spot) (placed at items)
placed_lead at [] behind = tt
placed_lead at (i ∷ is) behind = (
  λ same. let zero : at ≡ 0 = ap (λ (s : Spot). s.at) same in absurd (omega arith),
  placed_lead (at + length (item_bytes i)) is (omega arith),
)

-- places are of their items' keys
pub placed_keys : (dropped : List ℕ) (at : ℕ) (items : List Item)
    → AllByRecursion (λ (i : Item). is_in dropped i.key ≡ false) items → NoneDropped dropped (placed at items)
placed_keys dropped at [] all = tt
placed_keys dropped at (i ∷ is) all = (all.0, placed_keys dropped (at + length (item_bytes i)) is all.1)
