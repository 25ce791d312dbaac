-- An item by itself and its bytes.
use Rattle.std.specs.Prelude.{◌≡◌, ℕ, ◌-◌, List, [], ◌++◌, length, drop, refl}
use Rattle.std.specs.Int.{w64, to_be_bytes}
use Rattle.std.proofs.Common.{sym, ap, ap₂, ◌∙◌, append-nil, arith}
use Rattle.std.proofs.lemmas.List.{length-append, drop_at}
use Rattle.doc_model.specs.declared.key.DocKey.{DocKey}
use Rattle.doc_model.specs.declared.document.Item.{Item}
use Rattle.doc_model.specs.declared.document.What.{What}
use Rattle.vb_log.specs.declared.limits.TheConstants.{GREATEST_CAS, GREATEST_POSITION}
use Rattle.vb_log.specs.Content.{numbered}
use Rattle.vb_log.specs.Contents.{item_bytes}
use Rattle.vb_log.specs.Keys.{key_bytes}
use Rattle.vb_log.specs.Layout.{Layout, end, number, run, as_value, eight, Fits, Breaks, NumberAt}
use Rattle.vb_log.specs.Prepares.{widest}
use Rattle.vb_log.specs.Reading.{KeyAt, WhatAt}
use Rattle.vb_log.specs.Spelling.{what_bytes, what_layout}
use Rattle.vb_log.specs.Stored.{IsStorable, stored_layout, StoredAt, StoredFront, StoredBreaksAt}
use Rattle.vb_log.proofs.Layouts.{Same, same_number, no_fit, left_within, Leads, leads_on, number_leads}
use Rattle.vb_log.proofs.Pieces.{key_leads, what_leads}
use Rattle.vb_log.proofs.Entries.{same_key, same_what, cas_allowed}
use Rattle.vb_log.proofs.ItemBytes.{parted, bare, same_bytes, bare_allowed, bare_unnumbered, has_number, again, what_at_bare}

-- an item that was read field by field
pub stored_found : (bytes : List ℕ) (key : DocKey) (more : List ℕ) (seqno : ℕ) (left : List ℕ) (what : What) (rest : List ℕ) → KeyAt bytes key more → NumberAt eight 1 GREATEST_POSITION more seqno left → WhatAt GREATEST_CAS left what rest
    → StoredFront bytes (record { key = key; seqno = seqno; what = numbered seqno what }) rest
stored_found bytes key more seqno left what rest k n w =
    let made : Item = record { key = key; seqno = seqno; what = numbered seqno what } in
    record {
      allowed = record {
        key = k.allowed;
        later = n.above;
        within = n.below;
        what = bare_allowed seqno what w.allowed;
        numbered = has_number seqno what;
      };
      front = k.front
          ∙ ap (λ l. key_bytes key ++ l) (n.front ∙ ap (λ l. to_be_bytes w64 seqno ++ l) (w.front ∙ ap (λ l. l ++ rest) (sym (same_bytes seqno what))))
          ∙ sym (parted made rest);
    }

pub stored_leads : (next : Layout) (bytes : List ℕ) (i : Item) (rest : List ℕ) → StoredFront bytes i rest → Leads (stored_layout next) bytes next rest
stored_leads next bytes i rest at =
    let h = at.allowed in
    let within = h.within in
    let what = what_bytes i.what ++ rest in
    let seqno = to_be_bytes w64 i.seqno ++ what in
    let change = what_layout GREATEST_CAS next in
    leads_on (stored_layout next) bytes (number eight 1 GREATEST_POSITION (λ seqno. change)) seqno next rest
    (key_leads (number eight 1 GREATEST_POSITION (λ seqno. change)) bytes i.key seqno (record { allowed = h.key; front = at.front ∙ parted i rest }))
    (leads_on (number eight 1 GREATEST_POSITION (λ seqno. change)) seqno change what next rest
    (number_leads eight 1 GREATEST_POSITION (λ seqno. change) seqno i.seqno what (record { front = refl; above = h.later; below = within; small = omega arith }))
    (what_leads GREATEST_CAS next what (bare i.what) rest (what_at_bare widest i.what rest h.what (cas_allowed i.what h.what))))

-- bytes begin with one item at most
pub same_stored : (a b : Item) (r s : List ℕ) → IsStorable a → IsStorable b → item_bytes a ++ r ≡ item_bytes b ++ s → Same a b r s
same_stored a b r s h k e =
    let low = h.within in
    let high = k.within in
    let key = same_key a.key b.key _ _ h.key k.key (sym (parted a r) ∙ e ∙ parted b s) in
    let seqno = same_number eight a.seqno b.seqno _ _ (omega arith) (omega arith) key.rest in
    let what = same_what (bare a.what) (bare b.what) r s (bare_allowed 0 a.what h.what) (bare_allowed 0 b.what k.what) (bare_unnumbered a.what) (bare_unnumbered b.what)
    (ap (λ l. l ++ r) (same_bytes 0 a.what) ∙ seqno.rest ∙ ap (λ l. l ++ s) (sym (same_bytes 0 b.what))) in
    let one : a.what ≡ b.what = sym (again a.seqno a.what h.numbered) ∙ ap₂ numbered seqno.one what.one ∙ again b.seqno b.what k.numbered in
    record { one = λ i. record { key = key.one i; seqno = seqno.one i; what = one i }; rest = what.rest }

-- whatever follows fits a run of as many bytes
anything : (rest : List ℕ) → Fits (run (length rest) as_value end) rest
anything rest = (rest, [], record { front = sym (append-nil rest); whole = refl; spells = tt }, refl)

pub stored_none : (bytes : List ℕ) (left : ℕ) → ((next : Layout) → Breaks (stored_layout next) bytes left) → (item : Item) (rest : List ℕ) → IsStorable item → bytes ≡ item_bytes item ++ rest → ⊥
stored_none bytes left b item rest h e =
    no_fit (stored_layout (run (length rest) as_value end)) bytes left (b (run (length rest) as_value end))
    ((stored_leads (run (length rest) as_value end) bytes item rest (record { allowed = h; front = e })).fits (anything rest))

pub stored_breaks_at : (bytes : List ℕ) (left : ℕ) → ((next : Layout) → Breaks (stored_layout next) bytes left) → StoredBreaksAt bytes (length bytes - left)
stored_breaks_at bytes left b = let low = left_within (stored_layout end) bytes left (b end) in record { left = left; parts = omega arith; breaks = b }

pub stored_at : (bytes : List ℕ) (item : Item) (rest : List ℕ) → StoredFront bytes item rest → StoredAt bytes item (length bytes - length rest)
stored_at bytes item rest at =
    let size : length bytes - length rest ≡ length (item_bytes item) = omega (arith, ap length at.front, length-append (item_bytes item) rest) in
    record {
      allowed = at.allowed;
      front = at.front ∙ ap (λ l. item_bytes item ++ l) (sym (ap (drop (length bytes - length rest)) at.front ∙ drop_at (item_bytes item) rest (length bytes - length rest) (sym size)));
      len = size;
    }

pub stored_only : (bytes : List ℕ) (item : Item) (rest : List ℕ) (other : Item) (more : List ℕ) → StoredFront bytes item rest → IsStorable other → bytes ≡ item_bytes other ++ more
    → (item ≡ other) × (length bytes - length rest ≡ length (item_bytes other))
stored_only bytes item rest other more at h e =
    let same = same_stored item other rest more at.allowed h (sym at.front ∙ e) in
    let size : length bytes - length rest ≡ length (item_bytes item) = omega (arith, ap length at.front, length-append (item_bytes item) rest) in
    (same.one, size ∙ ap (λ l. length (item_bytes l)) same.one)
