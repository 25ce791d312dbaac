-- A tail and items: how they are read and spelled, and where the items stand.
use Rattle.std.specs.Prelude.{◌≡◌, ℕ, zero, suc, ◌+◌, ◌-◌, ◌≤◌, ◌<◌, ◌^◌, List, [], ◌∷◌, ◌++◌, length, refl}
use Rattle.std.specs.Int.{w32, to_be_bytes}
use Rattle.std.specs.List.{AllByRecursion}
use Rattle.std.proofs.Common.{sym, ap, ap₂, ◌∙◌, subst, append_assoc, append-nil, arith}
use Rattle.std.proofs.lemmas.List.{length-append}
use Rattle.doc_model.specs.declared.document.Item.{Item}
use Rattle.kv_edge.proofs.Fields.{wide32}
use Rattle.vb_log.specs.Contents.{item_bytes, items_bytes}
use Rattle.vb_log.specs.Spelling.{sized}
use Rattle.vb_log.specs.Stored.{IsStorable}
use Rattle.magma_store.specs.declared.fields.FormFault.{FormFault}
use Rattle.magma_store.specs.declared.fields.FormFault.TheVariants as fault
use Rattle.magma_store.specs.declared.spot.Placed.{Placed}
use Rattle.magma_store.specs.Forms.{Form, end, field, run, any, all_items, batch_form, FieldAt, IsBroken}
use Rattle.magma_store.specs.Fronts.{RunAt, spot_of, PlacedAt, PlacesAt, BatchAt}
use Rattle.magma_store.specs.Spots.{placed}
use Rattle.magma_store.proofs.Leads.{Leads, leads_on, field_leads, run_leads, broken_behind}
use Rattle.magma_store.proofs.Parts.{all_push}
use Rattle.magma_store.proofs.StoredItems.{flat, item_leads, items_lead}

-- ---- lists of items

pub flat_push : (items : List Item) (i : Item) (rest : List ℕ) → flat (items ++ i ∷ []) ++ rest ≡ flat items ++ (item_bytes i ++ rest)
flat_push [] i rest = ap (λ l. l ++ rest) (append-nil (item_bytes i))
flat_push (j ∷ items) i rest = append_assoc (item_bytes j) (flat (items ++ i ∷ [])) rest ∙ ap (λ l. item_bytes j ++ l) (flat_push items i rest) ∙ sym (append_assoc (item_bytes j) (flat items) (item_bytes i ++ rest))

-- one item more stands behind the others
pub placed_push : (at : ℕ) (items : List Item) (i : Item) → placed at (items ++ i ∷ []) ≡ placed at items ++ spot_of (at + length (flat items)) i ∷ []
placed_push at [] i = let same : at ≡ at + 0 = omega arith in ap (λ n. spot_of n i ∷ []) same
placed_push at (j ∷ items) i =
    let offset : at + length (item_bytes j) + length (flat items) ≡ at + length (flat (j ∷ items)) = omega (arith, length-append (item_bytes j) (flat items)) in
    ap (λ l. spot_of at j ∷ l) (placed_push (at + length (item_bytes j)) items i ∙ ap (λ n. placed (at + length (item_bytes j)) items ++ spot_of n i ∷ []) offset)

-- ---- reading

-- any number of four bytes
pub any_leads : (next : ℕ → Form) (bytes : List ℕ) (n : ℕ) (rest : List ℕ) → FieldAt w32 bytes n rest → Leads (field w32 any next) bytes (next n) rest
any_leads next bytes n rest at = field_leads w32 wide32 any next bytes n rest (record { at = at; kept = refl })

-- so many of the items were read, as far as to what is left
pub record PlacesRead (at count done : ℕ) (bytes : List ℕ) (places : List Placed) (left : List ℕ) : Type 0 where
  pub items : List Item
  pub todo : ℕ
  pub counted : length items ≡ done
  pub parts : done + todo ≡ count
  pub allowed : AllByRecursion IsStorable items
  pub front : bytes ≡ flat items ++ left
  pub are : places ≡ placed at items
  pub leads : Leads (all_items 0 count) bytes (all_items done todo) left

pub places_begin : (at count : ℕ) (bytes : List ℕ) → PlacesRead at count 0 bytes [] bytes
places_begin at count bytes = record {
  items = [];
  todo = count;
  counted = refl;
  parts = omega arith;
  allowed = tt;
  front = refl;
  are = refl;
  leads = record { breaks = λ left found expected b. b; only = λ left found expected b. b };
}

-- where some are left to be read, the next is
pub record NextItem (count done : ℕ) (bytes left : List ℕ) : Type 0 where
  pub fewer : ℕ
  pub total : count ≡ done + suc fewer
  pub leads : Leads (all_items 0 count) bytes (all_items done (suc fewer)) left

next_item : (count done todo : ℕ) (bytes left : List ℕ) → done + todo ≡ count → done < count → Leads (all_items 0 count) bytes (all_items done todo) left → NextItem count done bytes left
next_item count done zero bytes left parts less leads = absurd (omega arith)
next_item count done (suc fewer) bytes left parts less leads = record { fewer = fewer; total = sym parts; leads = leads }

pub read_next : (at count done : ℕ) (bytes : List ℕ) (places : List Placed) (left : List ℕ) → PlacesRead at count done bytes places left → done < count → NextItem count done bytes left
read_next at count done bytes places left so less = next_item count done so.todo bytes left so.parts less so.leads

-- how far the items reach that were read
pub offset_is : (at count done : ℕ) (bytes : List ℕ) (places : List Placed) (left : List ℕ) → (so : PlacesRead at count done bytes places left) → length bytes - length left ≡ length (flat so.items)
offset_is at count done bytes places left so = omega (arith, ap length so.front, length-append (flat so.items) left)

pub left_fits : (at count done : ℕ) (bytes : List ℕ) (places : List Placed) (left : List ℕ) → PlacesRead at count done bytes places left → length left ≤ length bytes
left_fits at count done bytes places left so = omega (arith, ap length so.front, length-append (flat so.items) left)

pub places_step : (at count done : ℕ) (bytes : List ℕ) (places : List Placed) (left : List ℕ) (place : Placed) (rest : List ℕ) → PlacesRead at count done bytes places left → done < count
    → PlacedAt (at + (length bytes - length left)) left place rest → PlacesRead at count (done + 1) bytes (places ++ place ∷ []) rest
places_step at count done bytes places left place rest so less p =
    let n = read_next at count done bytes places left so less in
    let counted = so.counted in
    let total = n.total in
    let offset = offset_is at count done bytes places left so in
    let spot : place ≡ spot_of (at + length (flat so.items)) p.item = p.is ∙ ap (λ k. spot_of (at + k) p.item) offset in
    record {
      items = so.items ++ p.item ∷ [];
      todo = n.fewer;
      counted = omega (arith, length-append so.items (p.item ∷ []));
      parts = omega arith;
      allowed = all_push IsStorable so.items p.item so.allowed p.allowed;
      front = so.front ∙ ap (λ l. flat so.items ++ l) p.front ∙ sym (flat_push so.items p.item rest);
      are = ap₂ (λ l x. l ++ x ∷ []) so.are spot ∙ sym (placed_push at so.items p.item);
      leads = leads_on n.leads (item_leads done n.fewer left p.item rest (record { allowed = p.allowed; front = p.front }));
    }

pub places_broken : (at count done : ℕ) (bytes : List ℕ) (places : List Placed) (left : List ℕ) (why : FormFault) → PlacesRead at count done bytes places left → done < count
    → ((more : ℕ) → count ≡ done + suc more → IsBroken (all_items done (suc more)) left why) → IsBroken (all_items 0 count) bytes why
places_broken at count done bytes places left why so less broken =
    let n = read_next at count done bytes places left so less in
    broken_behind why n.leads (broken n.fewer n.total)

-- behind the last item the bytes end
pub items_end : (done : ℕ) (bytes : List ℕ) (why : FormFault) → IsBroken end bytes why → IsBroken (all_items done zero) bytes why
items_end done bytes (fault.Broken left found expected) b = b
items_end done bytes fault.NoMemory b = tt

pub places_ended : (at count done : ℕ) (bytes : List ℕ) (places : List Placed) (left : List ℕ) (why : FormFault) → PlacesRead at count done bytes places left → count ≤ done → IsBroken end left why → IsBroken (all_items 0 count) bytes why
places_ended at count done bytes places left why so all b =
    let parts = so.parts in
    let none : so.todo ≡ 0 = omega arith in
    broken_behind why (subst (λ n. Leads (all_items 0 count) bytes (all_items done n) left) none so.leads) (items_end done left why b)

pub places_all : (at count done : ℕ) (bytes : List ℕ) (places : List Placed) (left : List ℕ) → PlacesRead at count done bytes places left → count ≤ done → left ≡ [] → PlacesAt at count bytes places
places_all at count done bytes places left so all none =
    let parts = so.parts in
    let counted = so.counted in
    record {
      items = so.items;
      allowed = so.allowed;
      counted = omega arith;
      whole = so.front ∙ ap (λ l. flat so.items ++ l) none ∙ append-nil (flat so.items);
      are = so.are;
    }

-- a tail and items were read
pub batch_found : (at : ℕ) (bytes : List ℕ) (size : ℕ) (second tail third : List ℕ) (count : ℕ) (rest : List ℕ) (places : List Placed)
    → FieldAt w32 bytes size second → RunAt size second tail third → FieldAt w32 third count rest → PlacesAt (at + 8 + size) count rest places → BatchAt at bytes tail places
batch_found at bytes size second tail third count rest places p r q s =
    let whole = r.whole in
    let counted = s.counted in
    let small : size < 2 ^ 32 = p.small in
    let few : count < 2 ^ 32 = q.small in
    let offset : at + 8 + size ≡ at + (8 + length tail) = omega arith in
    record {
      items = s.items;
      allowed = s.allowed;
      short = omega arith;
      few = omega arith;
      whole = p.front
          ∙ ap₂ (λ n l. to_be_bytes w32 n ++ l) (sym whole) (r.front ∙ ap (λ l. tail ++ l) (q.front ∙ ap₂ (λ n l. to_be_bytes w32 n ++ l) (sym counted) s.whole))
          ∙ sym (append_assoc (to_be_bytes w32 (length tail)) tail (items_bytes s.items));
      are = s.are ∙ ap (λ n. placed n s.items) offset;
    }

-- ---- its form

pub batch_leads : (tail : List ℕ) (items : List Item) → length tail < 2 ^ 32 → length items < 2 ^ 32 → AllByRecursion IsStorable items → Leads batch_form (sized tail ++ items_bytes items) (all_items (length items) zero) []
batch_leads tail items short few h =
    let all = flat items in
    let counted = to_be_bytes w32 (length items) ++ all in
    let nothing : all ≡ all ++ [] = sym (append-nil all) in
    leads_on
    (any_leads (λ size. run size (field w32 any (λ count. all_items 0 count))) (sized tail ++ counted) (length tail) (tail ++ counted) (record { front = append_assoc (to_be_bytes w32 (length tail)) tail counted; small = short }))
    (leads_on
    (run_leads (length tail) (field w32 any (λ count. all_items 0 count)) (tail ++ counted) tail counted (record { front = refl; whole = refl }))
    (leads_on
    (any_leads (λ count. all_items 0 count) counted (length items) all (record { front = refl; small = few }))
    (subst (λ l. Leads (all_items 0 (length items)) l (all_items (length items) zero) []) (sym nothing) (shift (items_lead 0 items [] h)))))
  where
    shift : Leads (all_items 0 (length items)) (flat items ++ []) (all_items (0 + length items) zero) [] → Leads (all_items 0 (length items)) (flat items ++ []) (all_items (length items) zero) []
    shift l = let same : 0 + length items ≡ length items = omega arith in subst (λ n. Leads (all_items 0 (length items)) (flat items ++ []) (all_items n zero) []) same l
