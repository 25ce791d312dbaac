-- Items in rising order of their keys, and their bytes.
use Rattle.std.specs.Prelude.{◌≡◌, ℕ, zero, suc, ◌+◌, ◌-◌, ◌≤◌, ◌<◌, ◌^◌, Bool, false, List, [], ◌∷◌, ◌++◌, length, drop, slice_get, IsTrue, Option, Some, None, option_map, refl}
use Rattle.std.specs.List.{flat_map}
use Rattle.std.specs.Int.{w32, w64, to_be_bytes}
use Rattle.std.proofs.Common.{inl, inr, sym, ap, ap₂, ◌∙◌, subst, append_assoc, append-nil, arith}
use Rattle.std.proofs.lemmas.Bool.{and_from, and_parts, false≢true}
use Rattle.std.proofs.lemmas.List.{length-append, drop_at}
use Rattle.doc_model.specs.declared.key.DocKey.{DocKey}
use Rattle.doc_model.specs.declared.document.Item.{Item}
use Rattle.doc_model.specs.declared.document.What.{What}
use Rattle.doc_model.specs.declared.document.What.TheVariants as whats
use Rattle.manifest_rules.specs.Catalog.{Catalog}
use Rattle.vb_log.specs.declared.bounds.Bounds.{Bounds}
use Rattle.vb_log.specs.declared.fields.FieldFault.{FieldFault}
use Rattle.vb_log.specs.declared.fields.FieldFault.TheVariants as field_fault
use Rattle.vb_log.specs.declared.limits.TheConstants.{SPELT_KEY_LIMIT}
use Rattle.vb_log.specs.Content.{has_collection, numbered, cas_of}
use Rattle.vb_log.specs.Contents.{IsNumbered, is_later, may_follow, IsNextItem, AreItems, AreItemsWithin, item_bytes, items_bytes, passing_key_layout, item_layout, all_items_layout, items_layout, last_key, ItemAt, ItemsAt}
use Rattle.vb_log.specs.Faults.{IsBroken}
use Rattle.vb_log.specs.Keys.{spelt_key, key_bytes}
use Rattle.vb_log.specs.Layout.{Layout, end, number, run, key_field, as_value, four, eight, Fits, Breaks, NumberAt}
use Rattle.vb_log.specs.Prepares.{AreBounds}
use Rattle.vb_log.specs.Reading.{KeyAt, WhatAt}
use Rattle.vb_log.specs.Spelling.{IsAllowedWhat, IsUnnumbered, what_bytes, key_layout, what_layout}
use Rattle.vb_log.proofs.Layouts.{Same, same_byte, same_number, same_run, no_fit, Leads, leads_on, byte_leads, number_leads, passing_leads, broken_behind}
use Rattle.vb_log.proofs.Pieces.{key_fits, what_leads}
use Rattle.vb_log.proofs.Spelt.{one_key}
use Rattle.vb_log.proofs.Entries.{same_key, same_what}

-- ---- a key that passes a test

pub passing_key_leads : (test : DocKey → Bool) (next : DocKey → Layout) (bytes : List ℕ) (key : DocKey) (rest : List ℕ) → KeyAt bytes key rest → IsTrue (test key) → Leads (passing_key_layout test next) bytes (next key) rest
passing_key_leads test next bytes key rest at passes =
    leads_on (passing_key_layout test next) bytes (key_field (length (spelt_key key)) test next) (spelt_key key ++ rest) (next key) rest
    (byte_leads 0 SPELT_KEY_LIMIT (λ size. key_field size test next) bytes (length (spelt_key key)) (spelt_key key ++ rest) (record { front = at.front; above = omega arith; below = key_fits key at.allowed }))
    (passing_leads (length (spelt_key key)) test next (spelt_key key ++ rest) key rest (record { front = refl; whole = refl; allowed = at.allowed; passes = passes }))

-- a key stands there that doesn't pass
pub passing_refused : (test : DocKey → Bool) (next : DocKey → Layout) (bytes : List ℕ) (key : DocKey) (rest : List ℕ) → KeyAt bytes key rest → test key ≡ false → Breaks (passing_key_layout test next) bytes (length bytes - 1)
passing_refused test next bytes key rest at fails =
    let behind = spelt_key key ++ rest in
    let left : length bytes - 1 ≡ length behind = omega (arith, ap length at.front) in
    inr (
      length (spelt_key key),
      behind,
      record { front = at.front; above = omega arith; below = key_fits key at.allowed },
      inl (
        left,
        λ other more so.
            let same = same_run (spelt_key key) (spelt_key other) rest more so.front (sym so.whole) in
            false≢true (sym fails ∙ ap test (one_key key other at.allowed so.allowed same.one) ∙ so.passes),
      ),
    )

-- where no key was read, none was that passes
pub passing_broken : (test : DocKey → Bool) (next : DocKey → Layout) (bytes : List ℕ) (fault : FieldFault) → ((next : Layout) → IsBroken (key_layout next) bytes fault) → IsBroken (passing_key_layout test next) bytes fault
passing_broken test next bytes field_fault.NoMemory b = tt
passing_broken test next [] (field_fault.Broken left) b = elim (b end) [
  | inl none ↦ inl none
  | inr some ↦ (let at = some.2 in let clash = at.front in absurd (cc))
]
passing_broken test next (n ∷ rest) (field_fault.Broken left) b = elim (b (run (length (drop n rest)) as_value end)) [
  | inl none ↦ inl none
  | inr some ↦
      let size = some.0 in
      let behind = some.1 in
      let at = some.2 in
      let same = same_byte n size rest behind at.front in
      elim some.3 [
        | inl none ↦ inr (size, behind, at, inl (none.0, λ key more so. none.1 (spelt_key key) more (record { front = so.front; whole = so.whole; spells = (key, so.allowed, refl) })))
        | inr more ↦
            let piece = more.2 in
            let left_is : drop n rest ≡ more.1 = ap₂ drop same.one same.rest ∙ ap (drop size) piece.front ∙ drop_at more.0 more.1 size piece.whole in
            absurd (no_fit (run (length (drop n rest)) as_value end) more.1 left more.3 (subst (λ l. Fits (run (length l) as_value end) more.1) (sym left_is) (anything more.1)))
      ]
]
  where
    anything : (l : List ℕ) → Fits (run (length l) as_value end) l
    anything l = (l, [], record { front = sym (append-nil l); whole = refl; spells = tt }, refl)

-- ---- one item

-- what a key has, without a sequence number of its own
abbrev pub bare : What → What
bare what = numbered 0 what

pub same_bytes : (n : ℕ) (what : What) → what_bytes (numbered n what) ≡ what_bytes what
same_bytes n (whats.Put doc) = refl
same_bytes n (whats.Remove cas) = refl

pub bare_allowed : (n : ℕ) (what : What) → IsAllowedWhat what → IsAllowedWhat (numbered n what)
bare_allowed n (whats.Put doc) h = record { cas = h.cas; flags = h.flags; expiry = h.expiry; attributes = h.attributes; attributes_short = h.attributes_short; value_short = h.value_short }
bare_allowed n (whats.Remove cas) h = h

pub bare_unnumbered : (what : What) → IsUnnumbered (bare what)
bare_unnumbered (whats.Put doc) = refl
bare_unnumbered (whats.Remove cas) = tt

pub has_number : (n : ℕ) (what : What) → IsNumbered n (numbered n what)
has_number n (whats.Put doc) = refl
has_number n (whats.Remove cas) = tt

same_cas : (n : ℕ) (what : What) → cas_of (numbered n what) ≡ cas_of what
same_cas n (whats.Put doc) = refl
same_cas n (whats.Remove cas) = refl

-- a change is what it is without its number, with it
pub again : (n : ℕ) (what : What) → IsNumbered n what → numbered n (bare what) ≡ what
again n (whats.Put doc) h = λ i. whats.Put (record doc { seqno = sym h i })
again n (whats.Remove cas) h = refl

abbrev later_of : Catalog → Option DocKey → DocKey → Bool
later_of manifest before key = is_later before key

pub item_found : (manifest : Catalog) (bounds : Bounds) (before : Option DocKey) (bytes : List ℕ) (key : DocKey) (more : List ℕ) (seqno : ℕ) (left : List ℕ) (what : What) (rest : List ℕ) → KeyAt bytes key more → IsTrue (may_follow manifest before key)
    → NumberAt eight 1 bounds.last more seqno left → WhatAt bounds.cas left what rest → ItemAt manifest bounds before bytes (record { key = key; seqno = seqno; what = numbered seqno what }) rest
item_found manifest bounds before bytes key more seqno left what rest k passes n w =
    let parts = and_parts (is_later before key) (has_collection manifest key.collection) passes in
    let above = n.above in
    let below = n.below in
    let within = w.within in
    record {
      allowed = record {
        allowed = record {
          key = k.allowed;
          present = parts.1;
          later = above;
          within = below;
          what = bare_allowed seqno what w.allowed;
          cas = subst (λ c. c ≤ bounds.cas) (sym (same_cas seqno what)) within;
          numbered = has_number seqno what;
        };
        later = parts.0;
      };
      front = k.front
          ∙ ap (λ l. key_bytes key ++ l) (n.front ∙ ap (λ l. to_be_bytes w64 seqno ++ l) (w.front ∙ ap (λ l. l ++ rest) (sym (same_bytes seqno what))))
          ∙ sym (regroup (key_bytes key) (to_be_bytes w64 seqno) (what_bytes (numbered seqno what)) rest);
    }
  where
    regroup : (u v w r : List ℕ) → (u ++ (v ++ w)) ++ r ≡ u ++ (v ++ (w ++ r))
    regroup u v w r = simp append_assoc

-- its fields, one behind the other
pub parted : (i : Item) (r : List ℕ) → item_bytes i ++ r ≡ key_bytes i.key ++ (to_be_bytes w64 i.seqno ++ (what_bytes i.what ++ r))
parted i r = regroup (key_bytes i.key) (to_be_bytes w64 i.seqno) (what_bytes i.what) r
  where
    regroup : (u v w r : List ℕ) → (u ++ (v ++ w)) ++ r ≡ u ++ (v ++ (w ++ r))
    regroup u v w r = simp append_assoc

pub what_at_bare : (bounds : Bounds) (what : What) (rest : List ℕ) → IsAllowedWhat what → cas_of what ≤ bounds.cas → WhatAt bounds.cas (what_bytes what ++ rest) (bare what) rest
what_at_bare bounds what rest h low = record {
  allowed = bare_allowed 0 what h;
  within = subst (λ c. c ≤ bounds.cas) (sym (same_cas 0 what)) low;
  unnumbered = bare_unnumbered what;
  front = ap (λ l. l ++ rest) (sym (same_bytes 0 what));
}

pub item_leads : (manifest : Catalog) (bounds : Bounds) (before : Option DocKey) (next : DocKey → Layout) (bytes : List ℕ) (i : Item) (rest : List ℕ) → AreBounds bounds → ItemAt manifest bounds before bytes i rest
    → Leads (item_layout manifest bounds before next) bytes (next i.key) rest
item_leads manifest bounds before next bytes i rest wide at =
    let n = at.allowed in
    let h = n.allowed in
    let within = h.within in
    let last = wide.last in
    let what = what_bytes i.what ++ rest in
    let seqno = to_be_bytes w64 i.seqno ++ what in
    let change = what_layout bounds.cas (next i.key) in
    leads_on (item_layout manifest bounds before next) bytes (number eight 1 bounds.last (λ seqno. change)) seqno (next i.key) rest
    (passing_key_leads (may_follow manifest before) (λ key. number eight 1 bounds.last (λ seqno. what_layout bounds.cas (next key))) bytes i.key seqno (record { allowed = h.key; front = at.front ∙ parted i rest })
    (and_from (is_later before i.key) (has_collection manifest i.key.collection) n.later h.present))
    (leads_on (number eight 1 bounds.last (λ seqno. change)) seqno change what (next i.key) rest
    (number_leads eight 1 bounds.last (λ seqno. change) seqno i.seqno what (record { front = refl; above = h.later; below = within; small = omega arith }))
    (what_leads bounds.cas (next i.key) what (bare i.what) rest (what_at_bare bounds i.what rest h.what h.cas)))

same_item : (manifest also : Catalog) (bounds : Bounds) (x y : Option DocKey) (a b : Item) (r s : List ℕ) → AreBounds bounds → IsNextItem manifest bounds x a → IsNextItem also bounds y b → item_bytes a ++ r ≡ item_bytes b ++ s → Same a b r s
same_item manifest also bounds x y a b r s wide m n e =
    let h = m.allowed in
    let k = n.allowed in
    let last = wide.last in
    let low = h.within in
    let high = k.within in
    let key = same_key a.key b.key _ _ h.key k.key (sym (parted a r) ∙ e ∙ parted b s) in
    let seqno = same_number eight a.seqno b.seqno _ _ (omega arith) (omega arith) key.rest in
    let what = same_what (bare a.what) (bare b.what) r s (bare_allowed 0 a.what h.what) (bare_allowed 0 b.what k.what) (bare_unnumbered a.what) (bare_unnumbered b.what)
    (ap (λ l. l ++ r) (same_bytes 0 a.what) ∙ seqno.rest ∙ ap (λ l. l ++ s) (sym (same_bytes 0 b.what))) in
    let one : a.what ≡ b.what = sym (again a.seqno a.what h.numbered) ∙ ap₂ numbered seqno.one what.one ∙ again b.seqno b.what k.numbered in
    record { one = λ i. record { key = key.one i; seqno = seqno.one i; what = one i }; rest = what.rest }

-- ---- one after another

abbrev flat : List Item → List ℕ
flat items = flat_map item_bytes items

flat_push : (items : List Item) (i : Item) (rest : List ℕ) → flat (items ++ i ∷ []) ++ rest ≡ flat items ++ (item_bytes i ++ rest)
flat_push [] i rest = ap (λ l. l ++ rest) (append-nil (item_bytes i))
flat_push (j ∷ items) i rest = append_assoc (item_bytes j) (flat (items ++ i ∷ [])) rest ∙ ap (λ l. item_bytes j ++ l) (flat_push items i rest) ∙ sym (append_assoc (item_bytes j) (flat items) (item_bytes i ++ rest))

same_flat : (manifest also : Catalog) (bounds : Bounds) (x y : Option DocKey) (is js : List Item) (r s : List ℕ) → AreBounds bounds → AreItems manifest bounds x is → AreItems also bounds y js → length is ≡ length js → flat is ++ r ≡ flat js ++ s → Same is js r s
same_flat manifest also bounds x y [] [] r s wide h k len e = record { one = refl; rest = e }
same_flat manifest also bounds x y [] (j ∷ js) r s wide h k len e = absurd (omega arith)
same_flat manifest also bounds x y (i ∷ is) [] r s wide h k len e = absurd (omega arith)
same_flat manifest also bounds x y (i ∷ is) (j ∷ js) r s wide h k len e =
    let first = same_item manifest also bounds x y i j (flat is ++ r) (flat js ++ s) wide h.0 k.0 (sym (append_assoc (item_bytes i) (flat is) r) ∙ e ∙ append_assoc (item_bytes j) (flat js) s) in
    let shorter : length is ≡ length js = omega arith in
    let more = same_flat manifest also bounds (Some i.key) (Some j.key) is js r s wide h.1 k.1 shorter first.rest in
    record { one = ap₂ (λ i is. i ∷ is) first.one more.one; rest = more.rest }

-- bytes begin with one list of items at most
pub same_items : (manifest also : Catalog) (bounds : Bounds) (is js : List Item) (r s : List ℕ) → AreBounds bounds → AreItemsWithin manifest bounds is → AreItemsWithin also bounds js → items_bytes is ++ r ≡ items_bytes js ++ s → Same is js r s
same_items manifest also bounds is js r s wide h k e =
    let count = same_number four (length is) (length js) (flat is ++ r) (flat js ++ s) h.few k.few
    (sym (append_assoc (to_be_bytes w32 (length is)) (flat is) r) ∙ e ∙ append_assoc (to_be_bytes w32 (length js)) (flat js) s) in
    same_flat manifest also bounds None None is js r s wide h.rising k.rising count.one count.rest

-- ---- they fit the layout

all_leads : (manifest : Catalog) (bounds : Bounds) (before : Option DocKey) (next : Layout) (items : List Item) (rest : List ℕ) → AreBounds bounds → AreItems manifest bounds before items
    → Leads (all_items_layout manifest bounds (length items) before next) (flat items ++ rest) next rest
all_leads manifest bounds before next [] rest wide h = record { breaks = λ left b. b; fits = λ f. f }
all_leads manifest bounds before next (i ∷ items) rest wide h =
    leads_on (all_items_layout manifest bounds (length (i ∷ items)) before next) (flat (i ∷ items) ++ rest) (all_items_layout manifest bounds (length items) (Some i.key) next) (flat items ++ rest) next rest
    (item_leads manifest bounds before (λ key. all_items_layout manifest bounds (length items) (Some key) next) (flat (i ∷ items) ++ rest) i (flat items ++ rest) wide (record { allowed = h.0; front = append_assoc (item_bytes i) (flat items) rest }))
    (all_leads manifest bounds (Some i.key) next items rest wide h.1)

pub items_leads : (manifest : Catalog) (bounds : Bounds) (next : Layout) (bytes : List ℕ) (items : List Item) (rest : List ℕ) → AreBounds bounds → ItemsAt manifest bounds bytes items rest → Leads (items_layout manifest bounds next) bytes next rest
items_leads manifest bounds next bytes items rest wide at =
    let few = at.allowed in
    let short = few.few in
    leads_on (items_layout manifest bounds next) bytes (all_items_layout manifest bounds (length items) None next) (flat items ++ rest) next rest
    (number_leads four 0 (2 ^ 32 - 1) (λ count. all_items_layout manifest bounds count None next) bytes (length items) (flat items ++ rest)
    (record { front = at.front ∙ append_assoc (to_be_bytes w32 (length items)) (flat items) rest; above = omega arith; below = omega arith; small = short }))
    (all_leads manifest bounds None next items rest wide few.rising)

-- ---- reading

last_is : (items : List Item) (i : Item) → slice_get (items ++ i ∷ []) (length items) ≡ Some i
last_is [] i = refl
last_is (j ∷ items) i = last_is items i

pub last_pushed : (items : List Item) (i : Item) → last_key (items ++ i ∷ []) ≡ Some i.key
last_pushed items i =
    let place : length (items ++ i ∷ []) - 1 ≡ length items = omega (arith, length-append items (i ∷ [])) in
    ap (option_map (λ i. i.key)) (ap (slice_get (items ++ i ∷ [])) place ∙ last_is items i)

-- some of them were read behind their count, as far as to what is left
pub record ItemsRead (manifest : Catalog) (bounds : Bounds) (bytes : List ℕ) (count : ℕ) (items : List Item) (left : List ℕ) : Type 0 where
  pub todo : ℕ
  pub parts : length items + todo ≡ count
  pub few : count < 2 ^ 32
  pub follows : (more : List Item) → AreItems manifest bounds (last_key items) more → AreItems manifest bounds None (items ++ more)
  pub front : bytes ≡ to_be_bytes w32 count ++ (flat items ++ left)
  pub leads : (next : Layout) → Leads (items_layout manifest bounds next) bytes (all_items_layout manifest bounds todo (last_key items) next) left

pub items_begin : (manifest : Catalog) (bounds : Bounds) (bytes : List ℕ) (count : ℕ) (left : List ℕ) → NumberAt four 0 (2 ^ 32 - 1) bytes count left → ItemsRead manifest bounds bytes count [] left
items_begin manifest bounds bytes count left at = record {
  todo = count;
  parts = omega arith;
  few = at.small;
  follows = λ more h. h;
  front = at.front;
  leads = λ next. number_leads four 0 (2 ^ 32 - 1) (λ count. all_items_layout manifest bounds count None next) bytes count left at;
}

-- where some are left to be read, the next is
record NextLeads (manifest : Catalog) (bounds : Bounds) (bytes : List ℕ) (todo : ℕ) (before : Option DocKey) (left : List ℕ) : Type 0 where
  fewer : ℕ
  is : todo ≡ suc fewer
  leads : (next : Layout) → Leads (items_layout manifest bounds next) bytes (item_layout manifest bounds before (λ key. all_items_layout manifest bounds fewer (Some key) next)) left

next_leads : (manifest : Catalog) (bounds : Bounds) (bytes : List ℕ) (todo : ℕ) (before : Option DocKey) (left : List ℕ) → 1 ≤ todo → ((next : Layout) → Leads (items_layout manifest bounds next) bytes (all_items_layout manifest bounds todo before next) left)
    → NextLeads manifest bounds bytes todo before left
next_leads manifest bounds bytes zero before left some leads = absurd (omega arith)
next_leads manifest bounds bytes (suc fewer) before left some leads = record { fewer = fewer; is = refl; leads = leads }

read_next : (manifest : Catalog) (bounds : Bounds) (bytes : List ℕ) (count : ℕ) (items : List Item) (left : List ℕ) → (so : ItemsRead manifest bounds bytes count items left) → length items < count → NextLeads manifest bounds bytes so.todo (last_key items) left
read_next manifest bounds bytes count items left so less = let parts = so.parts in next_leads manifest bounds bytes so.todo (last_key items) left (omega arith) so.leads

pub items_step : (manifest : Catalog) (bounds : Bounds) (bytes : List ℕ) (count : ℕ) (items : List Item) (left : List ℕ) (i : Item) (rest : List ℕ) → AreBounds bounds → ItemsRead manifest bounds bytes count items left → length items < count → ItemAt manifest bounds (last_key items) left i rest
    → ItemsRead manifest bounds bytes count (items ++ i ∷ []) rest
items_step manifest bounds bytes count items left i rest wide so less at =
    let n = read_next manifest bounds bytes count items left so less in
    let parts = so.parts in
    let is = n.is in
    let last = sym (last_pushed items i) in
    record {
      todo = n.fewer;
      parts = omega (arith, length-append items (i ∷ []));
      few = so.few;
      follows = λ more k. subst (AreItems manifest bounds None) (sym (append_assoc items (i ∷ []) more)) (so.follows (i ∷ more) (at.allowed, subst (λ b. AreItems manifest bounds b more) (sym last) k));
      front = so.front ∙ ap (λ l. to_be_bytes w32 count ++ l) (ap (λ l. flat items ++ l) at.front ∙ sym (flat_push items i rest));
      leads = λ next. subst (λ b. Leads (items_layout manifest bounds next) bytes (all_items_layout manifest bounds n.fewer b next) rest) last
          (leads_on (items_layout manifest bounds next) bytes (item_layout manifest bounds (last_key items) (λ key. all_items_layout manifest bounds n.fewer (Some key) next)) left (all_items_layout manifest bounds n.fewer (Some i.key) next) rest
          (n.leads next) (item_leads manifest bounds (last_key items) (λ key. all_items_layout manifest bounds n.fewer (Some key) next) left i rest wide at));
    }

pub items_broken : (manifest : Catalog) (bounds : Bounds) (bytes : List ℕ) (count : ℕ) (items : List Item) (left : List ℕ) (fault : FieldFault) → ItemsRead manifest bounds bytes count items left → length items < count
    → ((next : DocKey → Layout) → IsBroken (item_layout manifest bounds (last_key items) next) left fault) → (next : Layout) → IsBroken (items_layout manifest bounds next) bytes fault
items_broken manifest bounds bytes count items left fault so less broken next =
    let n = read_next manifest bounds bytes count items left so less in
    broken_behind (items_layout manifest bounds next) bytes (item_layout manifest bounds (last_key items) (λ key. all_items_layout manifest bounds n.fewer (Some key) next)) left fault (n.leads next)
    (broken (λ key. all_items_layout manifest bounds n.fewer (Some key) next))

pub items_all : (manifest : Catalog) (bounds : Bounds) (bytes : List ℕ) (count : ℕ) (items : List Item) (left : List ℕ) → ItemsRead manifest bounds bytes count items left → length items ≡ count → ItemsAt manifest bounds bytes items left
items_all manifest bounds bytes count items left so all =
    let few = so.few in
    record {
      allowed = record { rising = subst (AreItems manifest bounds None) (append-nil items) (so.follows [] tt); few = omega arith };
      front = so.front ∙ sym (append_assoc (to_be_bytes w32 count) (flat items) left) ∙ ap (λ n. (to_be_bytes w32 n ++ flat items) ++ left) (sym all);
    }
