-- Changes that wait and their bytes, one after another.
use Rattle.std.specs.Prelude.{◌≡◌, ℕ, zero, suc, ◌+◌, ◌-◌, ◌≤◌, ◌<◌, ◌^◌, List, [], ◌∷◌, ◌++◌, length, drop, get_or, refl}
use Rattle.std.specs.List.{flat_map}
use Rattle.std.specs.Int.{w32, w64, to_be_bytes}
use Rattle.std.proofs.Common.{sym, ap, ap₂, ◌∙◌, subst, append_assoc, append-nil, arith}
use Rattle.std.proofs.lemmas.List.{length-append, drop_at}
use Rattle.vb_log.specs.declared.bounds.Bounds.{Bounds}
use Rattle.vb_log.specs.declared.entry.Pending.{Pending}
use Rattle.vb_log.specs.declared.fields.FieldFault.{FieldFault}
use Rattle.vb_log.specs.declared.limits.TheConstants.{GREATEST_LEVEL, GREATEST_POSITION}
use Rattle.vb_log.specs.Faults.{IsBroken, PendingBreaksAt}
use Rattle.vb_log.specs.Keys.{key_bytes}
use Rattle.vb_log.specs.Layout.{Layout, end, run, as_value, four, eight, Fits, Breaks, NumberAt}
use Rattle.vb_log.specs.Prepares.{widest, AreBounds, IsWaiting, AreWaiting, IsPendingWithin, IsAllowedPending, waiting_bytes, pending_bytes, waiting_layout, all_waiting_layout, pending_layout, WaitingAt, AllWaitingAt, PendingAt}
use Rattle.vb_log.specs.Spelling.{what_bytes, key_layout, what_layout}
use Rattle.vb_log.proofs.Layouts.{Same, same_byte, same_number, no_fit, one_place, left_within, Leads, leads_on, byte_leads, number_leads, broken_behind}
use Rattle.vb_log.proofs.Pieces.{key_leads, what_leads}
use Rattle.vb_log.proofs.Entries.{same_key, same_what}

-- ---- one change that waits

-- its fields, one behind the other
parted : (p : Pending) (r : List ℕ) → waiting_bytes p ++ r ≡ to_be_bytes w64 p.position ++ (p.level ∷ (key_bytes p.key ++ (what_bytes p.what ++ r)))
parted p r = regroup (to_be_bytes w64 p.position) (p.level ∷ []) (key_bytes p.key) (what_bytes p.what) r
  where
    regroup : (u v w x r : List ℕ) → (u ++ (v ++ (w ++ x))) ++ r ≡ u ++ (v ++ (w ++ (x ++ r)))
    regroup u v w x r = simp append_assoc

pub waiting_leads : (bounds : Bounds) (before : ℕ) (next : ℕ → Layout) (bytes : List ℕ) (p : Pending) (rest : List ℕ) → AreBounds bounds → WaitingAt bounds before bytes p rest → Leads (waiting_layout bounds before next) bytes (next p.position) rest
waiting_leads bounds before next bytes p rest wide at =
    let h = at.allowed in
    let what = what_bytes p.what ++ rest in
    let key = key_bytes p.key ++ what in
    let level = p.level ∷ key in
    let later = h.later in
    let within = h.within in
    let last = wide.last in
    let change = what_layout bounds.cas (next p.position) in
    leads_on (waiting_layout bounds before next) bytes (key_layout change) key (next p.position) rest
    (leads_on (waiting_layout bounds before next) bytes _ level (key_layout change) key
    (number_leads eight (before + 1) bounds.last _ bytes p.position level (record { front = at.front ∙ parted p rest; above = omega arith; below = within; small = omega arith }))
    (byte_leads 1 GREATEST_LEVEL (λ level. key_layout change) level p.level key (record { front = refl; above = h.least; below = h.most })))
    (leads_on (key_layout change) key change what (next p.position) rest
    (key_leads change key p.key what (record { allowed = h.key; front = refl }))
    (what_leads bounds.cas (next p.position) what p.what rest (record { allowed = h.what; within = h.cas; unnumbered = h.unnumbered; front = refl })))

same_waiting : (bounds : Bounds) (x y : ℕ) (a b : Pending) (r s : List ℕ) → AreBounds bounds → IsWaiting bounds x a → IsWaiting bounds y b → waiting_bytes a ++ r ≡ waiting_bytes b ++ s → Same a b r s
same_waiting bounds x y a b r s wide h k e =
    let last = wide.last in
    let low = h.within in
    let high = k.within in
    let position = same_number eight a.position b.position _ _ (omega arith) (omega arith) (sym (parted a r) ∙ e ∙ parted b s) in
    let level = same_byte a.level b.level _ _ position.rest in
    let key = same_key a.key b.key _ _ h.key k.key level.rest in
    let what = same_what a.what b.what r s h.what k.what h.unnumbered k.unnumbered key.rest in
    record { one = λ i. record { position = position.one i; level = level.one i; key = key.one i; what = what.one i }; rest = what.rest }

-- ---- one after another

abbrev flat : List Pending → List ℕ
flat ps = flat_map waiting_bytes ps

flat_push : (ps : List Pending) (p : Pending) (rest : List ℕ) → flat (ps ++ p ∷ []) ++ rest ≡ flat ps ++ (waiting_bytes p ++ rest)
flat_push [] p rest = ap (λ l. l ++ rest) (append-nil (waiting_bytes p))
flat_push (q ∷ ps) p rest = append_assoc (waiting_bytes q) (flat (ps ++ p ∷ [])) rest ∙ ap (λ l. waiting_bytes q ++ l) (flat_push ps p rest) ∙ sym (append_assoc (waiting_bytes q) (flat ps) (waiting_bytes p ++ rest))

same_flat : (bounds : Bounds) (x y : ℕ) (ps qs : List Pending) (r s : List ℕ) → AreBounds bounds → AreWaiting bounds x ps → AreWaiting bounds y qs → length ps ≡ length qs → flat ps ++ r ≡ flat qs ++ s → Same ps qs r s
same_flat bounds x y [] [] r s wide h k len e = record { one = refl; rest = e }
same_flat bounds x y [] (q ∷ qs) r s wide h k len e = absurd (omega arith)
same_flat bounds x y (p ∷ ps) [] r s wide h k len e = absurd (omega arith)
same_flat bounds x y (p ∷ ps) (q ∷ qs) r s wide h k len e =
    let first = same_waiting bounds x y p q (flat ps ++ r) (flat qs ++ s) wide h.0 k.0 (sym (append_assoc (waiting_bytes p) (flat ps) r) ∙ e ∙ append_assoc (waiting_bytes q) (flat qs) s) in
    let shorter : length ps ≡ length qs = omega arith in
    let more = same_flat bounds p.position q.position ps qs r s wide h.1 k.1 shorter first.rest in
    record { one = ap₂ (λ p ps. p ∷ ps) first.one more.one; rest = more.rest }

-- bytes begin with one list of changes that wait at most
pub same_pending : (bounds : Bounds) (ps qs : List Pending) (r s : List ℕ) → AreBounds bounds → IsPendingWithin bounds ps → IsPendingWithin bounds qs → pending_bytes ps ++ r ≡ pending_bytes qs ++ s → Same ps qs r s
same_pending bounds ps qs r s wide h k e =
    let count = same_number four (length ps) (length qs) (flat ps ++ r) (flat qs ++ s) h.few k.few
    (sym (append_assoc (to_be_bytes w32 (length ps)) (flat ps) r) ∙ e ∙ append_assoc (to_be_bytes w32 (length qs)) (flat qs) s) in
    same_flat bounds 0 0 ps qs r s wide h.waiting k.waiting count.one count.rest

-- each of them is one that waits
pub each_waits : (bounds : Bounds) (before : ℕ) (ps : List Pending) (k : ℕ) (d : Pending) → AreWaiting bounds before ps → k < length ps → IsWaiting bounds 0 (get_or ps k d)
each_waits bounds before [] k d h low = absurd (omega arith)
each_waits bounds before (p ∷ ps) zero d h low =
    let first = h.0 in
    let later = first.later in
    record { later = omega arith; within = first.within; least = first.least; most = first.most; key = first.key; what = first.what; cas = first.cas; unnumbered = first.unnumbered }
each_waits bounds before (p ∷ ps) (suc k) d h low = each_waits bounds p.position ps k d h.1 (omega arith)

-- ---- they fit the layout

all_leads : (bounds : Bounds) (before : ℕ) (next : Layout) (ps : List Pending) (rest : List ℕ) → AreBounds bounds → AreWaiting bounds before ps → Leads (all_waiting_layout bounds (length ps) before next) (flat ps ++ rest) next rest
all_leads bounds before next [] rest wide h = record { breaks = λ left b. b; fits = λ f. f }
all_leads bounds before next (p ∷ ps) rest wide h =
    leads_on (all_waiting_layout bounds (length (p ∷ ps)) before next) (flat (p ∷ ps) ++ rest) (all_waiting_layout bounds (length ps) p.position next) (flat ps ++ rest) next rest
    (waiting_leads bounds before (λ position. all_waiting_layout bounds (length ps) position next) (flat (p ∷ ps) ++ rest) p (flat ps ++ rest) wide (record { allowed = h.0; front = append_assoc (waiting_bytes p) (flat ps) rest }))
    (all_leads bounds p.position next ps rest wide h.1)

pub pending_leads : (bounds : Bounds) (next : Layout) (bytes : List ℕ) (ps : List Pending) (rest : List ℕ) → AreBounds bounds → AllWaitingAt bounds bytes ps rest → Leads (pending_layout bounds next) bytes next rest
pending_leads bounds next bytes ps rest wide at =
    let few = at.allowed in
    let short = few.few in
    leads_on (pending_layout bounds next) bytes (all_waiting_layout bounds (length ps) 0 next) (flat ps ++ rest) next rest
    (number_leads four 0 (2 ^ 32 - 1) (λ count. all_waiting_layout bounds count 0 next) bytes (length ps) (flat ps ++ rest)
    (record { front = at.front ∙ append_assoc (to_be_bytes w32 (length ps)) (flat ps) rest; above = omega arith; below = omega arith; small = short }))
    (all_leads bounds 0 next ps rest wide few.waiting)

-- ---- reading

-- some of them were read behind their count, as far as to what is left
pub record PendingRead (bounds : Bounds) (bytes : List ℕ) (count : ℕ) (ps : List Pending) (before : ℕ) (left : List ℕ) : Type 0 where
  pub todo : ℕ
  pub parts : length ps + todo ≡ count
  pub few : count < 2 ^ 32
  pub within : before ≤ GREATEST_POSITION
  pub follows : (more : List Pending) → AreWaiting bounds before more → AreWaiting bounds 0 (ps ++ more)
  pub front : bytes ≡ to_be_bytes w32 count ++ (flat ps ++ left)
  pub leads : (next : Layout) → Leads (pending_layout bounds next) bytes (all_waiting_layout bounds todo before next) left

pub pending_begin : (bounds : Bounds) (bytes : List ℕ) (count : ℕ) (left : List ℕ) → NumberAt four 0 (2 ^ 32 - 1) bytes count left → PendingRead bounds bytes count [] 0 left
pending_begin bounds bytes count left at = record {
  todo = count;
  parts = omega arith;
  few = at.small;
  within = omega arith;
  follows = λ more h. h;
  front = at.front;
  leads = λ next. number_leads four 0 (2 ^ 32 - 1) (λ count. all_waiting_layout bounds count 0 next) bytes count left at;
}

-- where some are left to be read, the next is
record NextLeads (bounds : Bounds) (bytes : List ℕ) (todo before : ℕ) (left : List ℕ) : Type 0 where
  fewer : ℕ
  is : todo ≡ suc fewer
  leads : (next : Layout) → Leads (pending_layout bounds next) bytes (waiting_layout bounds before (λ position. all_waiting_layout bounds fewer position next)) left

next_leads : (bounds : Bounds) (bytes : List ℕ) (todo before : ℕ) (left : List ℕ) → 1 ≤ todo → ((next : Layout) → Leads (pending_layout bounds next) bytes (all_waiting_layout bounds todo before next) left) → NextLeads bounds bytes todo before left
next_leads bounds bytes zero before left some leads = absurd (omega arith)
next_leads bounds bytes (suc fewer) before left some leads = record { fewer = fewer; is = refl; leads = leads }

read_next : (bounds : Bounds) (bytes : List ℕ) (count : ℕ) (ps : List Pending) (before : ℕ) (left : List ℕ) → (so : PendingRead bounds bytes count ps before left) → length ps < count → NextLeads bounds bytes so.todo before left
read_next bounds bytes count ps before left so less = let parts = so.parts in next_leads bounds bytes so.todo before left (omega arith) so.leads

pub pending_step : (bounds : Bounds) (bytes : List ℕ) (count : ℕ) (ps : List Pending) (before : ℕ) (left : List ℕ) (p : Pending) (rest : List ℕ) → AreBounds bounds → PendingRead bounds bytes count ps before left → length ps < count → WaitingAt bounds before left p rest
    → PendingRead bounds bytes count (ps ++ p ∷ []) p.position rest
pending_step bounds bytes count ps before left p rest wide so less at =
    let n = read_next bounds bytes count ps before left so less in
    let parts = so.parts in
    let is = n.is in
    let h = at.allowed in
    let within = h.within in
    let last = wide.last in
    record {
      todo = n.fewer;
      parts = omega (arith, length-append ps (p ∷ []));
      few = so.few;
      within = omega arith;
      follows = λ more k. subst (AreWaiting bounds 0) (sym (append_assoc ps (p ∷ []) more)) (so.follows (p ∷ more) (h, k));
      front = so.front ∙ ap (λ l. to_be_bytes w32 count ++ l) (ap (λ l. flat ps ++ l) at.front ∙ sym (flat_push ps p rest));
      leads = λ next. leads_on (pending_layout bounds next) bytes (waiting_layout bounds before (λ position. all_waiting_layout bounds n.fewer position next)) left (all_waiting_layout bounds n.fewer p.position next) rest
          (n.leads next) (waiting_leads bounds before (λ position. all_waiting_layout bounds n.fewer position next) left p rest wide at);
    }

pub pending_broken : (bounds : Bounds) (bytes : List ℕ) (count : ℕ) (ps : List Pending) (before : ℕ) (left : List ℕ) (fault : FieldFault) → PendingRead bounds bytes count ps before left → length ps < count
    → ((next : ℕ → Layout) → IsBroken (waiting_layout bounds before next) left fault) → (next : Layout) → IsBroken (pending_layout bounds next) bytes fault
pending_broken bounds bytes count ps before left fault so less broken next =
    let n = read_next bounds bytes count ps before left so less in
    broken_behind (pending_layout bounds next) bytes (waiting_layout bounds before (λ position. all_waiting_layout bounds n.fewer position next)) left fault (n.leads next)
    (broken (λ position. all_waiting_layout bounds n.fewer position next))

pub pending_all : (bounds : Bounds) (bytes : List ℕ) (count : ℕ) (ps : List Pending) (before : ℕ) (left : List ℕ) → PendingRead bounds bytes count ps before left → length ps ≡ count → AllWaitingAt bounds bytes ps left
pending_all bounds bytes count ps before left so all =
    let few = so.few in
    record {
      allowed = record { waiting = subst (AreWaiting bounds 0) (append-nil ps) (so.follows [] tt); few = omega arith };
      front = so.front ∙ sym (append_assoc (to_be_bytes w32 count) (flat ps) left) ∙ ap (λ n. (to_be_bytes w32 n ++ flat ps) ++ left) (sym all);
    }

-- ---- from the front of bytes

pub widest_bounds : AreBounds widest
widest_bounds = record { last = omega arith; cas = omega arith }

-- whatever follows fits a run of as many bytes
anything : (rest : List ℕ) → Fits (run (length rest) as_value end) rest
anything rest = (rest, [], record { front = sym (append-nil rest); whole = refl; spells = tt }, refl)

pub pending_none : (bytes : List ℕ) (left : ℕ) → ((next : Layout) → Breaks (pending_layout widest next) bytes left) → (ps : List Pending) (rest : List ℕ) → IsAllowedPending ps → bytes ≡ pending_bytes ps ++ rest → ⊥
pending_none bytes left b ps rest h e =
    no_fit (pending_layout widest (run (length rest) as_value end)) bytes left (b (run (length rest) as_value end))
    ((pending_leads widest (run (length rest) as_value end) bytes ps rest widest_bounds (record { allowed = h; front = e })).fits (anything rest))

pub pending_breaks_at : (bytes : List ℕ) (left : ℕ) → ((next : Layout) → Breaks (pending_layout widest next) bytes left) → PendingBreaksAt bytes (length bytes - left)
pending_breaks_at bytes left b = let low = left_within (pending_layout widest end) bytes left (b end) in record { left = left; parts = omega arith; breaks = b }

pub pending_found : (bytes : List ℕ) (ps : List Pending) (rest : List ℕ) → AllWaitingAt widest bytes ps rest → PendingAt bytes ps (length bytes - length rest)
pending_found bytes ps rest at =
    let size : length bytes - length rest ≡ length (pending_bytes ps) = omega (arith, ap length at.front, length-append (pending_bytes ps) rest) in
    record {
      allowed = at.allowed;
      front = at.front ∙ ap (λ l. pending_bytes ps ++ l) (sym (ap (drop (length bytes - length rest)) at.front ∙ drop_at (pending_bytes ps) rest (length bytes - length rest) (sym size)));
      len = size;
    }

pub pending_only : (bytes : List ℕ) (ps : List Pending) (rest : List ℕ) (qs : List Pending) (more : List ℕ) → AllWaitingAt widest bytes ps rest → IsAllowedPending qs → bytes ≡ pending_bytes qs ++ more
    → (ps ≡ qs) × (length bytes - length rest ≡ length (pending_bytes qs))
pending_only bytes ps rest qs more at h e =
    let same = same_pending widest ps qs rest more widest_bounds at.allowed h (sym at.front ∙ e) in
    let size : length bytes - length rest ≡ length (pending_bytes ps) = omega (arith, ap length at.front, length-append (pending_bytes ps) rest) in
    (same.one, size ∙ ap (λ l. length (pending_bytes l)) same.one)

pub pending_one_break : (bytes : List ℕ) (first second : ℕ) → PendingBreaksAt bytes first → PendingBreaksAt bytes second → first ≡ second
pending_one_break bytes first second a b =
    let same = one_place (pending_layout widest end) bytes a.left b.left (a.breaks end) (b.breaks end) in
    let p = a.parts in
    let q = b.parts in
    omega arith
