-- A vbucket that begins on what a store holds.
use Rattle.std.specs.Prelude.{◌≡◌, ◌≤◌, ℕ, ◌+◌, nat_eq, Bool, true, false, List, IsTrue, Option, Some, None, if◌then◌else◌, refl}
use Rattle.std.specs.FinMap as map
use Rattle.std.specs.List.{list_any}
use Rattle.std.proofs.Common.{sym, ◌∙◌, ap, ap₂, subst, subst₂, inr, arith, le_refl}
use Rattle.doc_model.specs.declared.document.Item.{Item}
use Rattle.doc_model.specs.declared.key.DocKey.{DocKey}
use Rattle.doc_model.specs.Keys.{key_cmp}
use Rattle.doc_model.proofs.Weights.{weight_none}
use Rattle.durability_core.specs.declared.chain.Chain.{Chain}
use Rattle.manifest_rules.specs.State.{is_kept}
use Rattle.replica_core.specs.declared.copy.CopyCore.{CopyCore}
use Rattle.replica_core.specs.declared.copy.Role.TheVariants as roles
use Rattle.magma_disk.specs.Device.{Device}
use Rattle.magma_store.specs.declared.meta.Meta.{Meta}
use Rattle.magma_store.specs.Held.{Held}
use Rattle.magma_store.specs.Spots.{spots_size}
use Rattle.magma_store.specs.Store.{Shown, IsOpen}
use Rattle.magma_store.proofs.Weights.{opened_size}
use Rattle.vb_log.specs.Content.{Content, has_collection}
use Rattle.vb_log.specs.Contents.{IsWhole}
use Rattle.vb_log.specs.Held.{item_weight, items_size}
use Rattle.vb_log.specs.Logs.{folds}
use Rattle.copy_model.specs.Copies.{Copy}
use Rattle.copy_model.specs.Entries.{core_of}
use Rattle.vb_core.specs.Beginning.{IsFound, BeginsFrom, IsRestOf, core_at, vb_begun, BeginsIn}
use Rattle.vb_core.specs.Means.{Stands, Shows, beneath, over, MadeUpTo}
use Rattle.vb_core.specs.Openings.{begun}
use Rattle.vb_core.specs.Shown.{IsFit}
use Rattle.vb_core.proofs.Batching.{isnt_dropped, shows_whole, all_count}
use Rattle.vb_core.proofs.Tails.{whole_storable, whole_waiting}

-- ---- what is in memory fits

none_some : (A : Type 0) (key : DocKey) (item : Item) → map.get (map.empty {X = Item} {R = key_cmp}) key ≡ Some item → A
none_some A key item at = let none : map.get (map.empty {X = Item} {R = key_cmp}) key ≡ None = map.get-empty key_cmp key in absurd (cc)

pub fresh_fit : (meta : Meta) (rest : Content) (core : CopyCore) → IsWhole rest → core ≡ core_at meta rest.length → IsFit meta core rest 0
fresh_fit meta rest core w is =
    subst (λ (c : CopyCore). IsFit meta c rest 0) (sym is)
    record {
      chain = refl;
      place = refl;
      promised = le_refl (meta.accepted + 4);
      term = inr (omega arith);
      length = refl;
      items = whole_storable rest w;
      waiting = whole_waiting rest w;
      moment = omega arith;
    }

-- ---- it shows the log

none_dropped : (content : Content) (q : DocKey) → IsWhole content → list_any (nat_eq q.collection) content.manifest.dropped_collections ≡ true → map.get content.items q ≡ None
none_dropped content q w gone = go (map.get content.items q) refl
  where
    go : (o : Option Item) → map.get content.items q ≡ o → o ≡ None
    go None at = refl
    go (Some x) at =
        let own : x.key ≡ q = w.parts.own q x at in
        let kept : IsTrue (is_kept content.manifest) = w.parts.kept in
        let there : IsTrue (has_collection content.manifest x.key.collection) = (w.parts.items q x at).present in
        let apart : list_any (nat_eq q.collection) content.manifest.dropped_collections ≡ false =
        ap (λ (k : DocKey). list_any (nat_eq k.collection) content.manifest.dropped_collections) (sym own) ∙ isnt_dropped content.manifest x kept there in
        absurd (cc)

-- a log that was found has the store's items
found_items : (held : Held) (content : Content) → IsFound held content → content.items ≡ held.items
found_items held content f = ap (λ (c : Content). c.items) f.is

found_length : (held : Held) (content : Content) → IsFound held content → content.length ≡ held.meta.length
found_length held content f = ap (λ (c : Content). c.length) f.is

under_is : (held : Held) (content : Content) (is_anew : Bool) (q : DocKey) → IsWhole content → BeginsFrom held content is_anew → map.get (beneath is_anew content.manifest held.items) q ≡ map.get content.items q
under_is held content true q w b = sym (ap (λ (c : Content). map.get c.items q) b.none)
under_is held content false q w b =
    ap (λ (m : map.FinMap key_cmp Item). map.get (beneath false content.manifest m) q) (sym (found_items held content b)) ∙ shows_whole content q (none_dropped content q w)

-- what shows on disk is what the log's items count
fresh_count : {D : Type 0} (states : D → List Device) (store : Shown D) (held : Held) (content : Content) (is_anew : Bool) → IsOpen states held store → BeginsFrom held content is_anew
    → (if is_anew then 0 else spots_size store.spots) ≡ items_size content.items
fresh_count states store held content true is b = sym (ap (λ (c : Content). items_size c.items) b.none ∙ weight_none item_weight)
fresh_count states store held content false is b =
    opened_size store.spots held.items store.layout (states store.disk) is.spots ∙ ap items_size (sym (found_items held content b))

fresh_shows : (held : Held) (content rest : Content) (is_anew : Bool) (n : ℕ) → IsRestOf content rest → BeginsFrom held content is_anew → n ≡ items_size content.items
    → Shows rest n (beneath is_anew content.manifest held.items) content
fresh_shows held content rest is_anew n r b count =
    subst (λ (c : Content). Shows c n (beneath is_anew content.manifest held.items) content) (sym r.rest_is)
    record {
      items = λ q. sym (ap (λ (o : Option Item). over o (map.get (beneath is_anew content.manifest held.items) q)) (map.get-empty key_cmp q) ∙ under_is held content is_anew q r.whole b);
      count = all_count content (beneath is_anew content.manifest held.items) n (λ q. under_is held content is_anew q r.whole b) count;
      others = refl;
    }

-- ---- it stands

made_whole : (content : Content) → IsWhole content → MadeUpTo content.length content.items
made_whole content w key item at = (w.parts.items key item at).within

made_below : (held : Held) (content : Content) (is_anew : Bool) → IsWhole content → BeginsFrom held content is_anew → is_anew ≡ false → MadeUpTo held.meta.length held.items
made_below held content true w b e = absurd (cc)
made_below held content false w b e = subst₂ (λ n (m : map.FinMap key_cmp Item). MadeUpTo n m) (found_length held content b) (found_items held content b) (made_whole content w)

as_long : (held : Held) (content : Content) (is_anew : Bool) → BeginsFrom held content is_anew → is_anew ≡ false → held.meta.length ≤ content.length
as_long held content true b e = absurd (cc)
as_long held content false b e = subst (λ n. n ≤ content.length) (found_length held content b) (le_refl content.length)

-- the numbers of an active copy that accepted a term, from their parts
abbrev core_from : Chain → ℕ → ℕ → ℕ → ℕ → CopyCore
core_from chain place accepted length incarnation = record {
  chain = chain;
  place = place;
  role = roles.Active;
  promise = accepted + 4;
  accepted = accepted + 4;
  length = length;
  whole = true;
  incarnation = incarnation;
}

fresh_core : {D : Type 0} (states : D → List Device) (store : Shown D) (number : ℕ) (content : Content) (is_anew : Bool) (c : Copy Content ℕ) → BeginsIn states store number content is_anew c → core_at store.meta content.length ≡ core_of folds (begun c)
fresh_core states store number content is_anew c b =
    ap₂ (λ a p. core_from a p store.meta.accepted content.length store.meta.incarnation) b.chain_is b.place_is
    ∙ ap₂ (λ t i. core_from c.chain c.place t content.length i) b.accepted_is b.incarnation_is
    ∙ ap (λ (l : Content). core_from c.chain c.place c.accepted l.length c.incarnation) b.log_is

pub fresh_stands : {D : Type 0} (states : D → List Device) (store : Shown D) (number : ℕ) (content rest : Content) (is_anew : Bool) (c : Copy Content ℕ) (core : CopyCore)
    → IsRestOf content rest → core ≡ core_at store.meta rest.length → BeginsIn states store number content is_anew c → Stands states (vb_begun store number is_anew core rest) (begun c)
fresh_stands states store number content rest is_anew c core r is b =
    let long : rest.length ≡ content.length = ap (λ (x : Content). x.length) r.rest_is in
    let core_is : core ≡ core_at store.meta content.length = is ∙ ap (core_at store.meta) long in
    let shown : ℕ = if is_anew then 0 else spots_size store.spots in
    record {
      active = refl;
      numbers = record { core = core_is ∙ fresh_core states store number content is_anew c b; number = b.number_is; seen = sym b.unseen };
      held = b.held;
      is_open = b.is_open;
      pair = b.pair;
      torn = b.torn;
      whole = subst IsWhole b.log_is r.whole;
      told = λ e. absurd (let f = b.pair.accepted_is in let g = ap (λ (m : Meta). m.accepted) b.is_open.meta in let h = b.accepted_is in omega (arith, e, f, g, h));
      shows = subst (λ (l : Content). Shows rest shown (beneath is_anew l.manifest b.held.items) l) b.log_is
          (fresh_shows b.held content rest is_anew shown r b.from (fresh_count states store b.held content is_anew b.is_open b.from));
      made = subst (λ (l : Content). MadeUpTo l.length l.items) b.log_is (made_whole content r.whole);
      on_disk = made_below b.held content is_anew r.whole b.from;
      longer = λ e. subst (λ (l : Content). b.held.meta.length ≤ l.length) b.log_is (as_long b.held content is_anew b.from e);
      recently = λ e key item at. none_some _ key item (sym (ap (λ (x : Content). map.get x.items key) r.rest_is) ∙ at);
      anew = b.anew_is;
      inherited = ap (λ (k : CopyCore). k.length) core_is ∙ ap (λ (l : Content). l.length) b.log_is;
      entries = sym b.no_entries;
      bytes = sym b.no_bytes;
    }
