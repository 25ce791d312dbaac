-- Items one after another: bytes begin with one of them at most, and what their form is broken by.
use Rattle.std.specs.Prelude.{◌≡◌, ℕ, zero, suc, ◌+◌, ◌<◌, ◌^◌, List, [], ◌∷◌, ◌++◌, length, refl}
use Rattle.std.specs.List.{flat_map, AllByRecursion}
use Rattle.std.specs.Int.{w32, w64, to_be_bytes}
use Rattle.std.proofs.Common.{inl, inr, sym, ap, ap₂, ◌∙◌, subst, append_assoc, arith}
use Rattle.std.proofs.lemmas.List.{length-append}
use Rattle.doc_model.specs.declared.document.Item.{Item}
use Rattle.doc_model.specs.declared.document.What.{What}
use Rattle.doc_model.specs.declared.document.What.TheVariants as whats
use Rattle.vb_log.specs.Content.{numbered}
use Rattle.vb_log.specs.Contents.{IsNumbered, item_bytes}
use Rattle.vb_log.specs.Keys.{spelt_key, key_bytes}
use Rattle.vb_log.specs.Layout.{eight}
use Rattle.vb_log.specs.Spelling.{IsAllowedWhat, IsUnnumbered, sized, what_bytes}
use Rattle.vb_log.specs.Stored.{IsStorable}
use Rattle.vb_log.proofs.Entries.{same_key, same_what}
use Rattle.vb_log.proofs.Layouts.{Same, same_number}
use Rattle.vb_log.proofs.Pieces.{key_fits}
use Rattle.magma_store.specs.Forms.{all_items, ItemAt, Breaks}
use Rattle.magma_store.proofs.Leads.{Leads, leads_on}

-- ---- one item

-- what a key has, without a sequence number of its own
abbrev bare : What → What
bare what = numbered 0 what

same_bytes : (what : What) → what_bytes (bare what) ≡ what_bytes what
same_bytes (whats.Put doc) = refl
same_bytes (whats.Remove cas) = refl

bare_allowed : (what : What) → IsAllowedWhat what → IsAllowedWhat (bare what)
bare_allowed (whats.Put doc) h = record { cas = h.cas; flags = h.flags; expiry = h.expiry; attributes = h.attributes; attributes_short = h.attributes_short; value_short = h.value_short }
bare_allowed (whats.Remove cas) h = h

bare_unnumbered : (what : What) → IsUnnumbered (bare what)
bare_unnumbered (whats.Put doc) = refl
bare_unnumbered (whats.Remove cas) = tt

-- a change is what it is without its number, with it
again : (n : ℕ) (what : What) → IsNumbered n what → numbered n (bare what) ≡ what
again n (whats.Put doc) h = λ i. whats.Put (record doc { seqno = sym h i })
again n (whats.Remove cas) h = refl

-- its fields, one behind the other
parted : (i : Item) (r : List ℕ) → item_bytes i ++ r ≡ key_bytes i.key ++ (to_be_bytes w64 i.seqno ++ (what_bytes i.what ++ r))
parted i r = regroup (key_bytes i.key) (to_be_bytes w64 i.seqno) (what_bytes i.what) r
  where
    regroup : (u v w r : List ℕ) → (u ++ (v ++ w)) ++ r ≡ u ++ (v ++ (w ++ r))
    regroup u v w r = simp append_assoc

-- bytes begin with one item at most
pub same_item : (a b : Item) (r s : List ℕ) → IsStorable a → IsStorable b → item_bytes a ++ r ≡ item_bytes b ++ s → Same a b r s
same_item a b r s h k e =
    let low = h.within in
    let high = k.within in
    let key = same_key a.key b.key _ _ h.key k.key (sym (parted a r) ∙ e ∙ parted b s) in
    let seqno = same_number eight a.seqno b.seqno _ _ (omega arith) (omega arith) key.rest in
    let what = same_what (bare a.what) (bare b.what) r s (bare_allowed a.what h.what) (bare_allowed b.what k.what) (bare_unnumbered a.what) (bare_unnumbered b.what)
    (ap (λ l. l ++ r) (same_bytes a.what) ∙ seqno.rest ∙ ap (λ l. l ++ s) (sym (same_bytes b.what))) in
    let one : a.what ≡ b.what = sym (again a.seqno a.what h.numbered) ∙ ap₂ numbered seqno.one what.one ∙ again b.seqno b.what k.numbered in
    record { one = λ i. record { key = key.one i; seqno = seqno.one i; what = one i }; rest = what.rest }

-- ---- how long one is

sized_length : (bytes : List ℕ) → length (sized bytes) ≡ 4 + length bytes
sized_length bytes = omega (arith, length-append (to_be_bytes w32 (length bytes)) bytes)

what_short : (what : What) → IsAllowedWhat what → length (what_bytes what) < 2 ^ 25
what_short (whats.Put doc) h =
    let attributes = h.attributes_short in
    let value = h.value_short in
    omega (arith, sized_length doc.xattrs, sized_length doc.value, length-append (sized doc.xattrs) (sized doc.value))
what_short (whats.Remove cas) h = omega arith

-- an item's length has four bytes
pub item_short : (i : Item) → IsStorable i → length (item_bytes i) < 2 ^ 32
item_short i h =
    let key = key_fits i.key h.key in
    let what = what_short i.what h.what in
    omega (arith, length-append (spelt_key i.key) (to_be_bytes w64 i.seqno ++ what_bytes i.what), length-append (to_be_bytes w64 i.seqno) (what_bytes i.what))

-- ---- one after another

abbrev pub flat : List Item → List ℕ
flat items = flat_map item_bytes items

-- bytes begin with one list of so many items at most
pub same_items : (is js : List Item) (r s : List ℕ) → AllByRecursion IsStorable is → AllByRecursion IsStorable js → length is ≡ length js → flat is ++ r ≡ flat js ++ s → Same is js r s
same_items [] [] r s h k len e = record { one = refl; rest = e }
same_items [] (j ∷ js) r s h k len e = absurd (omega arith)
same_items (i ∷ is) [] r s h k len e = absurd (omega arith)
same_items (i ∷ is) (j ∷ js) r s h k len e =
    let first = same_item i j (flat is ++ r) (flat js ++ s) h.0 k.0 (sym (append_assoc (item_bytes i) (flat is) r) ∙ e ∙ append_assoc (item_bytes j) (flat js) s) in
    let shorter : length is ≡ length js = omega arith in
    let more = same_items is js r s h.1 k.1 shorter first.rest in
    record { one = ap₂ (λ i is. i ∷ is) first.one more.one; rest = more.rest }

-- ---- their form

pub item_leads : (read more : ℕ) (bytes : List ℕ) (i : Item) (rest : List ℕ) → ItemAt bytes i rest → Leads (all_items read (suc more)) bytes (all_items (read + 1) more) rest
item_leads read more bytes i rest at = record {
  breaks = λ left found expected b. inr (i, rest, at, b);
  only = λ left found expected b. elim b [
    | inl none ↦ absurd (none.0 i rest at.allowed at.front)
    | inr there ↦
        let same = same_item there.0 i there.1 rest there.2.allowed at.allowed (sym there.2.front ∙ at.front) in
        subst (λ l. Breaks (all_items (read + 1) more) l left found expected) same.rest there.3
  ];
}

pub items_lead : (read : ℕ) (is : List Item) (rest : List ℕ) → AllByRecursion IsStorable is → Leads (all_items read (length is)) (flat is ++ rest) (all_items (read + length is) zero) rest
items_lead read [] rest h = subst (λ n. Leads (all_items read zero) rest (all_items n zero) rest) (let same : read ≡ read + 0 = omega arith in same) (record { breaks = λ left found expected b. b; only = λ left found expected b. b })
items_lead read (i ∷ is) rest h =
    let total : read + 1 + length is ≡ read + length (i ∷ is) = omega arith in
    subst (λ n. Leads (all_items read (length (i ∷ is))) (flat (i ∷ is) ++ rest) (all_items n zero) rest) total
    (leads_on
    (item_leads read (length is) (flat (i ∷ is) ++ rest) i (flat is ++ rest) (record { allowed = h.0; front = append_assoc (item_bytes i) (flat is) rest }))
    (items_lead (read + 1) is rest h.1))
