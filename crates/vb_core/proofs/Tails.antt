-- What a store's tail tells, and what its items make.
use Rattle.std.specs.Prelude.{◌≡◌, ◌≤◌, ◌<◌, ℕ, ◌+◌, ◌^◌, nat_eq, nat_le, ◌==◌, true, false, ◌&&◌, List, [], ◌∷◌, ◌++◌, length, drop, map as list_map, IsTrue, Some, None, refl}
use Rattle.std.specs.Int.{w32, to_be_bytes}
use Rattle.std.specs.FinMap as map
use Rattle.std.specs.List.{IsDistinct}
use Rattle.std.specs.Ordering.{eq_by_cmp}
use Rattle.std.proofs.Common.{sym, ◌∙◌, ap, subst, arith, length-append, append-nil, le_trans}
use Rattle.std.proofs.lemmas.Bool.Decides.{nat_tests}
use Rattle.std.proofs.lemmas.List.{drop_at, drop_all}
use Rattle.doc_model.specs.declared.document.Item.{Item}
use Rattle.doc_model.specs.declared.key.DocKey.{DocKey}
use Rattle.doc_model.specs.Keys.{key_cmp}
use Rattle.doc_model.proofs.Weights.{weight_none}
use Rattle.manifest_rules.specs.Catalog.{Catalog}
use Rattle.manifest_rules.specs.Rules.{first_catalog}
use Rattle.manifest_rules.specs.State.{is_kept, state_of, text_bytes, ids_bytes, IsAt}
use Rattle.manifest_rules.specs.Text.{text_of}
use Rattle.manifest_rules.proofs.Runs.{first_kept}
use Rattle.manifest_rules.proofs.States.{same_state}
use Rattle.vb_log.specs.declared.entry.Pending.{Pending}
use Rattle.vb_log.specs.declared.limits.TheConstants.{GREATEST_CAS, GREATEST_POSITION}
use Rattle.vb_log.specs.Content.{Content, no_content}
use Rattle.vb_log.specs.Contents.{IsWhole, IsAllowedItem, numbers_in, bounds_of}
use Rattle.vb_log.specs.Held.{item_weight}
use Rattle.vb_log.specs.Prepares.{IsAllowedPending, AreWaiting, PendingAt, pending_bytes, widest}
use Rattle.vb_core.specs.Pairs.{IsTail, IsNoTail}
use Rattle.vb_core.specs.Shown.{AreStorable}

-- ---- tails

state_long : (m : Catalog) (rest : List ℕ) → 4 ≤ length (state_of m ++ rest)
state_long m rest =
    let a = length-append (state_of m) rest in
    let b = length-append (text_bytes m) (ids_bytes m.dropped_scopes ++ ids_bytes m.dropped_collections) in
    let c = length-append (to_be_bytes w32 (length (text_of m))) (text_of m) in
    omega arith

-- no bytes at all are those of none
pub empty_tail : IsNoTail []
empty_tail m ps t = let e = ap length t.spelled in let l = state_long m (pending_bytes ps) in absurd (omega arith)

pub not_nil : (l : List ℕ) → (length l == 0) ≡ false → l ≡ [] → ⊥
not_nil l e nil = let zero_long : (length l == 0) ≡ true = ap (λ (x : List ℕ). length x == 0) nil in absurd (cc)

-- no state stands there
pub state_bad : (tail : List ℕ) → ((m : Catalog) (rest : List ℕ) → IsTrue (is_kept m) → tail ≡ state_of m ++ rest → ⊥) → IsNoTail tail
state_bad tail none m ps t = none m (pending_bytes ps) t.kept t.spelled

-- what stands behind the state is the changes that wait
same_rest : (tail : List ℕ) (m n : Catalog) (size : ℕ) (ps : List Pending) → IsAt tail m size → IsTail tail n ps → drop size tail ≡ pending_bytes ps
same_rest tail m n size ps at t =
    let same : m ≡ n = same_state m n (drop size tail) (pending_bytes ps) at.kept t.kept (sym at.front ∙ t.spelled) in
    let long : size ≡ length (state_of n) = at.len ∙ ap (λ (c : Catalog). length (state_of c)) same in
    ap (drop size) t.spelled ∙ ap (λ k. drop k (state_of n ++ pending_bytes ps)) long ∙ drop_at (state_of n) (pending_bytes ps) (length (state_of n)) refl

pub pending_bad : (tail rest : List ℕ) (m : Catalog) (size : ℕ) → IsAt tail m size → rest ≡ drop size tail → ((ps : List Pending) (more : List ℕ) → IsAllowedPending ps → rest ≡ pending_bytes ps ++ more → ⊥) → IsNoTail tail
pending_bad tail rest m size at is none n ps t = none ps [] t.allowed (is ∙ same_rest tail m n size ps at t ∙ sym (append-nil (pending_bytes ps)))

pub pending_more : (tail rest : List ℕ) (m : Catalog) (size used : ℕ) (found : List Pending) → IsAt tail m size → rest ≡ drop size tail
    → ((ps : List Pending) (more : List ℕ) → IsAllowedPending ps → rest ≡ pending_bytes ps ++ more → (found ≡ ps) × (used ≡ length (pending_bytes ps))) → used < length rest → IsNoTail tail
pending_more tail rest m size used found at is only less n ps t =
    let all : rest ≡ pending_bytes ps = is ∙ same_rest tail m n size ps at t in
    let o = only ps [] t.allowed (all ∙ sym (append-nil (pending_bytes ps))) in
    let long : used ≡ length rest = o.1 ∙ ap length (sym all) in
    absurd (omega arith)

pub tail_found : (tail rest : List ℕ) (m : Catalog) (size used : ℕ) (ps : List Pending) → IsAt tail m size → rest ≡ drop size tail → PendingAt rest ps used → length rest ≤ used → IsTail tail m ps
tail_found tail rest m size used ps at is p all = record {
  kept = at.kept;
  allowed = p.allowed;
  spelled = at.front ∙ ap (λ l. state_of m ++ l) (sym is ∙ p.front ∙ ap (λ l. pending_bytes ps ++ l) (drop_all used rest all) ∙ append-nil (pending_bytes ps));
}

-- ---- whole contents

no_values : (es : List (DocKey × Item)) → length es ≡ 0 → list_map (λ (e : DocKey × Item). e.1) es ≡ []
no_values [] e = refl
no_values (x ∷ xs) e = absurd (omega arith)

none_valued : map.values (map.empty {X = Item} {R = key_cmp}) ≡ []
none_valued = no_values (map.entries (map.empty {X = Item} {R = key_cmp})) (sym (map.len-entries (map.empty {X = Item} {R = key_cmp})) ∙ map.len-empty key_cmp Item)

no_numbers : IsDistinct nat_eq []
unfolding IsDistinct
no_numbers = tt

no_keys : IsDistinct (eq_by_cmp key_cmp) []
unfolding IsDistinct
no_keys = tt

none_has : (A : Type 0) (key : DocKey) (item : Item) → map.get (map.empty {X = Item} {R = key_cmp}) key ≡ Some item → A
none_has A key item at = let none : map.get (map.empty {X = Item} {R = key_cmp}) key ≡ None = map.get-empty key_cmp key in absurd (cc)

within_none : (a b : ℕ) → a ≡ 0 → nat_le (a + 0) 268435456 ≡ true
within_none a b e = grind (arith, nat_tests)

-- a log without entries comes to a whole content
pub none_whole : IsWhole no_content
none_whole = record {
  parts = record {
    short = omega arith;
    cas = omega arith;
    kept = first_kept;
    own = λ key item at. none_has (item.key ≡ key) key item at;
    items = λ key item at. none_has (IsAllowedItem first_catalog (bounds_of no_content) item) key item at;
    few = let none : map.len (map.empty {X = Item} {R = key_cmp}) ≡ 0 = map.len-empty key_cmp Item in omega arith;
    prepares = record { waiting = tt; few = omega arith };
  };
  apart = no_keys;
  one_each = subst (λ (l : List Item). IsDistinct nat_eq (numbers_in l [])) (sym none_valued) no_numbers;
  within = ap (λ n. nat_le (n + 0) 268435456 && nat_le 0 (2 ^ 41 + 2 ^ 20)) (weight_none item_weight);
}

-- ---- what a whole content has

pub whole_storable : (c : Content) → IsWhole c → AreStorable c.items
whole_storable c w key item at =
    let a = w.parts.items key item at in
    let short = w.parts.short in
    record { key = a.key; later = a.later; within = le_trans a.within short; what = a.what; numbered = a.numbered }

widened : (c : Content) (before : ℕ) (ps : List Pending) → c.length ≤ GREATEST_POSITION → c.greatest_cas ≤ GREATEST_CAS → AreWaiting (bounds_of c) before ps → AreWaiting widest before ps
widened c before [] short small w = tt
widened c before (p ∷ ps) short small w = (
  record {
    later = (w.0).later;
    within = le_trans (w.0).within short;
    least = (w.0).least;
    most = (w.0).most;
    key = (w.0).key;
    what = (w.0).what;
    cas = le_trans (w.0).cas small;
    unnumbered = (w.0).unnumbered;
  },
  widened c p.position ps short small w.1,
)

pub whole_waiting : (c : Content) → IsWhole c → IsAllowedPending c.prepares
whole_waiting c w = record { waiting = widened c 0 c.prepares w.parts.short w.parts.cas w.parts.prepares.waiting; few = w.parts.prepares.few }
