-- What a change comes to that is made, at once or behind a flush, or refused.
use Rattle.std.specs.Prelude.{◌≡◌, ◌<◌, ◌≤◌, ℕ, ◌+◌, ◌-◌, nat_le, nat_lt, Bool, true, false, ◌||◌, List, [], length, Option, Ok, Err, if◌then◌else◌, refl}
use Rattle.std.proofs.Common.{inl, inr, sym, ◌∙◌, ap, ap₂, subst, arith}
use Rattle.std.proofs.lemmas.Bool.{and_from, le-leb}
use Rattle.std.proofs.lemmas.Bool.Decides.{nat_tests}
use Rattle.kv_request.specs.declared.request.Request.{Request}
use Rattle.std.specs.FinMap as map
use Rattle.doc_model.specs.declared.key.DocKey.{DocKey}
use Rattle.doc_model.specs.declared.document.Item.{Item}
use Rattle.doc_model.specs.Keys.{key_cmp}
use Rattle.doc_model.specs.declared.status.TheConstants.Status as status
use Rattle.replica_core.specs.declared.copy.CopyCore.{CopyCore}
use Rattle.replica_core.specs.declared.copy.Role.TheVariants as roles
use Rattle.replica_core.specs.Terms.{is_active}
use Rattle.magma_disk.specs.Counting.{Counts}
use Rattle.magma_disk.specs.Device.{Device}
use Rattle.magma_store.specs.Counting.{CountsStore}
use Rattle.magma_store.specs.declared.fault.StoreFault.TheVariants as fault
use Rattle.vb_log.specs.declared.entry.Entry.{Entry}
use Rattle.vb_log.specs.declared.entry.Entry.TheVariants as entries
use Rattle.vb_log.specs.declared.entry.Pending.{Pending}
use Rattle.vb_log.specs.Content.{Content, with_entry, allowed}
use Rattle.vb_log.specs.Contents.{IsWhole}
use Rattle.vb_log.specs.Logs.{folds}
use Rattle.vb_log.specs.Sizes.{size_after, is_within, entry_length}
use Rattle.vb_log.specs.Spelling.{IsAllowed}
use Rattle.vb_log.specs.declared.limits.TheConstants.{CONTENT_LIMIT, SUM_LIMIT, GREATEST_POSITION}
use Rattle.vb_log.proofs.Staying.{stays_whole}
use Rattle.copy_model.specs.declared.outcome.Outcome.{Outcome}
use Rattle.copy_model.specs.Copies.{Copy, LayoutKind, Luck, Fine}
use Rattle.copy_model.specs.Disk.{Put, Done, NoRoom, Failed, put_then, pair_at, on_disk, write_log, after_flush, must_flush, flushing}
use Rattle.copy_model.specs.Entries.{log_length, added, settled, committing}
use Rattle.copy_model.specs.declared.limits.TheConstants.{REQUEST_LIMIT, CAS_LIMIT, UNFLUSHED_ENTRIES, UNFLUSHED_BYTES}
use Rattle.copy_model.specs.Requests.{changing, refusal, is_too_much, after_put}
use Rattle.vb_core.specs.declared.making.Made.TheVariants as made
use Rattle.vb_core.specs.Coming.{Leaves, Rests}
use Rattle.vb_core.specs.Covering.{spots_shown, size_among, covered_size, counted, grown, IsFlushedFirst, CanCount}
use Rattle.vb_core.specs.Flat.{flat}
use Rattle.vb_core.specs.Making.{Covers, Makes}
use Rattle.vb_core.specs.Means.{Stands, Lives, Stopped}
use Rattle.vb_core.specs.Plans.{IsAtHome}
use Rattle.vb_core.specs.Putting.{IsPut, Puts}
use Rattle.vb_core.specs.Shown.{ShownVb}
use Rattle.vb_core.proofs.Covering.{all_covered}
use Rattle.vb_core.proofs.Lasting.{follows_entry, lives_entry}
use Rattle.vb_core.proofs.Rested.{luck_of, rests_none, lives_rest, rests_leaves}

-- ---- tests

taken : {A : Type 0} (b : Bool) (x y : A) → b ≡ true → (if b then x else y) ≡ x
taken true x y e = refl
taken false x y e = absurd (cc)

passed : {A : Type 0} (b : Bool) (x y : A) → b ≡ false → (if b then x else y) ≡ y
passed true x y e = absurd (cc)
passed false x y e = refl

-- ---- a change, unfolded

module _ (y : LayoutKind ℕ) (luck : Luck ℕ) (request : Request) (cas : ℕ) (e : Entry) (change : Copy Content ℕ → Copy Content ℕ × Outcome)
    (copy : Copy Content ℕ) where
  too_much : is_too_much copy.log cas e ≡ true → changing folds y luck request cas e change copy ≡ (copy, refusal request status.E2BIG)
  too_much h = taken (is_too_much copy.log cas e) _ _ h

  at_once : is_too_much copy.log cas e ≡ false → must_flush copy ≡ false → changing folds y luck request cas e change copy ≡ change copy
  at_once h k = passed (is_too_much copy.log cas e) _ _ h
      ∙ ap (after_put change request copy) (passed (must_flush copy) (flushing folds y luck copy) (Done copy) k)

  flushed_then : (w : Put (Copy Content ℕ)) → IsFlushedFirst copy cas e → write_log folds y luck copy.accepted copy ≡ w
      → changing folds y luck request cas e change copy ≡ after_put change request copy (put_then (after_flush folds) w)
  flushed_then w h is =
      passed (is_too_much copy.log cas e) _ _ h.small
      ∙ ap (after_put change request copy)
      (taken (must_flush copy) (flushing folds y luck copy) (Done copy) h.first ∙ ap (put_then (after_flush folds)) is)

-- ---- tests of a vbucket, and of its copy

module _ {D : Type 0} (states : D → List Device) where
  -- a test of a vbucket's numbers tells whether a change is too much for the copy
  pub large_is : (vb : ShownVb D) (copy : Copy Content ℕ) (cas size length : ℕ) (e : Entry) (told is : Bool) → Lives states vb copy
      → size ≡ size_after copy.log e
      → length ≡ vb.recent.length → told ≡ (nat_le REQUEST_LIMIT length || nat_le CAS_LIMIT cas || nat_lt CONTENT_LIMIT size) → told ≡ is
      → is_too_much copy.log cas e ≡ is
  large_is vb copy cas size length e told is l whole long test found =
      let same : length ≡ copy.log.length = long ∙ ap (λ (x : Content). x.length) l.stands.shows.others in
      ap (λ n. nat_le REQUEST_LIMIT n || nat_le CAS_LIMIT cas || nat_lt CONTENT_LIMIT (size_after copy.log e)) (sym same)
      ∙ ap (λ n. nat_le REQUEST_LIMIT length || nat_le CAS_LIMIT cas || nat_lt CONTENT_LIMIT n) (sym whole)
      ∙ sym test ∙ found

  -- and whether its log is put on disk first
  pub first_is : (vb : ShownVb D) (copy : Copy Content ℕ) (entries bytes : ℕ) (told is : Bool) → Lives states vb copy
      → entries ≡ vb.unflushed_entries → bytes ≡ vb.unflushed_bytes → told ≡
      (nat_le UNFLUSHED_ENTRIES entries || nat_le UNFLUSHED_BYTES bytes) → told ≡ is
      → must_flush copy ≡ is
  first_is vb copy entries bytes told is l some many test found =
      ap (λ n. nat_le UNFLUSHED_ENTRIES n || nat_le UNFLUSHED_BYTES copy.unflushed_bytes) (sym (some ∙ l.stands.entries))
      ∙ ap (λ n. nat_le UNFLUSHED_ENTRIES entries || nat_le UNFLUSHED_BYTES n) (sym (many ∙ l.stands.bytes))
      ∙ sym test ∙ found

-- ---- an entry in a content whose items are on disk

-- A content was emptied, and an entry added to that; meanwhile what was changed of late was emptied too.
pub record Emptied (old next mid after : Content) (e : Entry) : Type 0 where
  pub made : next ≡ record old { items = map.empty }
  pub added : after ≡ with_entry next e
  pub left : mid ≡ record old { items = map.empty }

pub emptied_after : {old next mid after : Content} {e : Entry} → Emptied old next mid after e → after ≡ with_entry mid e
emptied_after {e = e} h = h.added ∙ ap (λ (x : Content). with_entry x e) (h.made ∙ sym h.left)

pub emptied_covers : {old next mid after : Content} {e : Entry} (covered : Option DocKey) (dropped : List ℕ) → Emptied old next mid after e
    → Covers old.manifest e covered dropped
    → Covers mid.manifest e covered dropped
emptied_covers {e = e} covered dropped h c = subst (λ m. Covers m e covered dropped) (sym (ap (λ (x : Content). x.manifest) h.left)) c

pub emptied_short : {old next mid after : Content} {e : Entry} → Emptied old next mid after e → next.length < GREATEST_POSITION
    → mid.length < GREATEST_POSITION
emptied_short h short =
    let a = ap (λ (x : Content). x.length) h.made in
    let b = ap (λ (x : Content). x.length) h.left in
    omega arith

-- what a vbucket comes to of which the parts were changed one after another
pub grown_is : {D : Type 0} (vb : ShownVb D) (after : Content) (left length bytes : ℕ) (e : Entry)
    (covered : Option DocKey) (dropped : List ℕ)
    → length ≡ after.length → after ≡ with_entry vb.recent e → left ≡ vb.showing - covered_size vb covered dropped
    → bytes ≡ entry_length e
    → counted bytes (record vb { core = record vb.core { length = length }; recent = after; showing = left }) ≡ grown e covered dropped vb
grown_is {D} vb after left length bytes e covered dropped long is gone size =
    let at : ℕ → Content → ℕ → ℕ → ShownVb D = λ n x f b. counted b
    (record vb { core = record vb.core { length = n }; recent = x; showing = f }) in
    ap (λ n. at n after left bytes) long
    ∙ ap (λ x. at x.length x left bytes) is
    ∙ ap (λ f. at (with_entry vb.recent e).length (with_entry vb.recent e) f bytes) gone
    ∙ ap (λ b. at (with_entry vb.recent e).length (with_entry vb.recent e) (vb.showing - covered_size vb covered dropped) b) size

-- behind a write all that is on disk shows
pub all_behind : {D : Type 0} (vb : ShownVb D) (covered : Option DocKey) (dropped : List ℕ) → vb.is_anew ≡ false → vb.recent.items ≡ map.empty
    → size_among vb.store.spots covered dropped ≡ covered_size vb covered dropped
all_behind vb covered dropped anew none =
    all_covered vb.store.spots covered dropped
    ∙ ap₂ (λ (b : Bool) (m : map.FinMap key_cmp Item). size_among (spots_shown b m vb.store.spots) covered dropped) (sym anew) (sym none)

-- counts of a call of which it isn't said whether the disk failed it
pub counts_anyhow : (failed : Type 0) (old new : Counts) → CountsStore failed old new → CountsStore ⊥ old new
counts_anyhow failed old new h = record { faults = h.faults; cause = λ z. absurd z; reads = h.reads; plans = h.plans }

-- an active copy in which nothing waits commits nothing
flush_rests : (copy : Copy Content ℕ) → copy.role ≡ roles.Active → copy.log.prepares ≡ [] → after_flush folds copy ≡ copy
flush_rests copy active none =
    taken (is_active copy.role) (settled folds copy) _ (ap is_active active)
    ∙ ap (λ ps. committing folds ps copy) none

-- what a write that was done leaves
write_done : (y : LayoutKind ℕ) (luck : Luck ℕ) (copy after : Copy Content ℕ) → write_log folds y luck copy.accepted copy ≡ Done after
    → on_disk (pair_at copy.accepted luck.layout copy) copy ≡ after
write_done y luck copy after e = go _ _ _ _ _ _ _ _ e
  where
    go : (a b c : Bool) (x z w : Copy Content ℕ) (n f : ℕ)
        → (if a then (if b then Failed x else NoRoom n f) else (if c then Failed z else Done w)) ≡ Done after → w ≡ after
    go true true c x z w n f e = absurd (cc)
    go true false c x z w n f e = absurd (cc)
    go false b true x z w n f e = absurd (cc)
    go false b false x z w n f e = cc

-- ---- what may be added

record IsNotMuch (c : Content) (e : Entry) : Type 0 where
  log : c.length < REQUEST_LIMIT
  size : size_after c e ≤ CONTENT_LIMIT

not_much : (c : Content) (cas : ℕ) (e : Entry) → is_too_much c cas e ≡ false → IsNotMuch c e
not_much c cas e small = record { log = grind (arith, nat_tests, small); size = grind (arith, nat_tests, small) }

-- whether an entry may be added doesn't go by the items
pub allowed_alike : (c : Content) (items : map.FinMap key_cmp Item) (e : Entry) → allowed c e ≡ allowed (record c { items = items }) e
allowed_alike c items (entries.Mutation key doc) = refl
allowed_alike c items (entries.Deletion key cas) = refl
allowed_alike c items (entries.Prepare key what level) = refl
allowed_alike c items (entries.Commit of) = refl
allowed_alike c items (entries.Abort of) = refl
allowed_alike c items (entries.Manifest text) = refl

-- ---- what putting the log came to

module _ {D : Type 0} (states : D → List Device) where
  put_done : (copy : Copy Content ℕ) (old new : ShownVb D) (w : Put (Copy Content ℕ)) (u : Unit {0}) → IsPut states copy old new w (Ok u)
      → (after : Copy Content ℕ) × (w ≡ Done after) × Stands states new after × Leaves states copy after old new
  put_done copy old new (Done after) u h = (after, refl, h.0, h.1)
  put_done copy old new (NoRoom n f) u h = absurd h
  put_done copy old new (Failed after) u h = absurd h

  put_full : (copy : Copy Content ℕ) (old new : ShownVb D) (w : Put (Copy Content ℕ)) (asked left : ℕ)
      → IsPut states copy old new w (Err (fault.Full asked left))
      → (n : ℕ) × (f : ℕ) × (w ≡ NoRoom n f) × Rests states old new
  put_full copy old new (Done after) asked left h = absurd h
  put_full copy old new (NoRoom n f) asked left h = (n, f, refl, h.2)
  put_full copy old new (Failed after) asked left h = absurd h

  put_failed : (copy : Copy Content ℕ) (old new : ShownVb D) (w : Put (Copy Content ℕ)) → IsPut states copy old new w (Err fault.DiskFault)
      → (after : Copy Content ℕ) × (w ≡ Failed after) × Stopped states new after × Leaves states copy after old new
  put_failed copy old new (Done after) h = absurd h
  put_failed copy old new (NoRoom n f) h = absurd h
  put_failed copy old new (Failed after) h = (after, refl, h.0, h.1)

  -- ---- an entry is added to a copy that may have put its log on disk

  -- what is added leaves a content that has bytes
  whole_entry : (vb : ShownVb D) (copy : Copy Content ℕ) (cas : ℕ) (e : Entry) (covered : Option DocKey) (dropped : List ℕ) → Lives states vb copy
      → Covers vb.recent.manifest e covered dropped → IsAllowed e → allowed vb.recent e ≡ true → is_too_much copy.log cas e ≡ false
      → IsWhole (with_entry copy.log e)
  whole_entry vb copy cas e covered dropped l c may can small =
      let small = not_much copy.log cas e small in
      let covers = subst (λ (x : Content). Covers x.manifest e covered dropped) l.stands.shows.others c in
      let on_log : allowed copy.log e ≡ true = allowed_alike copy.log vb.recent.items e ∙ ap (λ (x : Content). allowed x e) (sym l.stands.shows.others) ∙ can in
      let after = follows_entry copy.log e covered dropped covers in
      let none : (with_entry copy.log e).prepares ≡ [] = after.prepares ∙ l.none_waits in
      let within = and_from (nat_le (size_after copy.log e) CONTENT_LIMIT) (nat_le ((with_entry copy.log e).length + length (with_entry copy.log e).prepares) SUM_LIMIT)
      (le-leb (size_after copy.log e) CONTENT_LIMIT small.size)
      (le-leb ((with_entry copy.log e).length + length (with_entry copy.log e).prepares) SUM_LIMIT
      (let n = ap (λ (ps : List Pending). length ps) none in let m = after.length in let k = small.log in omega arith)) in
      stays_whole copy.log e l.stands.whole may (and_from (allowed copy.log e) (is_within (with_entry copy.log e)) on_log within) (let k = small.log in omega arith)

  grown_position : (vb : ShownVb D) (copy : Copy Content ℕ) (e : Entry) (covered : Option DocKey) (dropped : List ℕ)
      → Covers vb.recent.manifest e covered dropped → Lives states vb copy
      → (with_entry vb.recent e).length ≡ log_length folds copy + 1
  grown_position vb copy e covered dropped c l =
      let follows = follows_entry vb.recent e covered dropped c in
      follows.length ∙ ap (λ (x : Content). x.length + 1) l.stands.shows.others

  live_term : (vb : ShownVb D) (copy : Copy Content ℕ) → Lives states vb copy → vb.core.accepted ≡ copy.accepted
  live_term vb copy l = ap (λ (x : CopyCore). x.accepted) l.stands.numbers.core

  -- a copy that put its log on disk is still one in whose log nothing waits
  put_lives : (y : LayoutKind ℕ) (luck : Luck ℕ) (copy after : Copy Content ℕ) (old new : ShownVb D)
      → write_log folds y luck copy.accepted copy ≡ Done after
      → Lives states old copy → Stands states new after → Lives states new after
  put_lives y luck copy after old new w l s =
      let is = write_done y luck copy after w in
      record {
        stands = s;
        none_waits = ap (λ (c : Copy Content ℕ). c.log.prepares) (sym is) ∙ l.none_waits;
        tickets = ap (λ (c : Copy Content ℕ). c.tickets) (sym is) ∙ l.tickets;
        deadlines = ap (λ (c : Copy Content ℕ). c.deadlines) (sym is) ∙ l.deadlines;
      }

  -- behind a write one entry more can be counted
  pub put_counts : (copy : Copy Content ℕ) (old new : ShownVb D) (u : Unit {0}) (counts : D → Counts)
      → Puts states counts copy old new (Ok u) → CanCount new
  put_counts copy old new u counts p =
      let done = put_done copy old new (write_log folds (flat copy.chain) p.luck copy.accepted copy) u p.goes in
      let is = write_done (flat copy.chain) p.luck copy done.0 done.1 in
      let none : new.unflushed_entries ≡ 0 = done.2.entries ∙ ap (λ (c : Copy Content ℕ). c.unflushed_entries) (sym is) in
      let empty : new.unflushed_bytes ≡ 0 = done.2.bytes ∙ ap (λ (c : Copy Content ℕ). c.unflushed_bytes) (sym is) in
      record { entries = omega arith; bytes = omega arith }

  module _ (counts : D → Counts) where
    pub adds_at_once : (copy : Copy Content ℕ) (cas : ℕ) (e : Entry) (covered : Option DocKey) (dropped : List ℕ) (old : ShownVb D)
        → IsAtHome old → Lives states old copy → Covers old.recent.manifest e covered dropped
        → IsAllowed e → allowed old.recent e ≡ true → is_too_much copy.log cas e ≡ false → must_flush copy ≡ false
        → Makes states counts copy cas e old (grown e covered dropped old) made.Done
    adds_at_once copy cas e covered dropped old home l c may can small later = record {
      before = copy;
      position = grown_position old copy e covered dropped c l;
      term = live_term old copy l;
      comes = λ request reply. record {
        comes = record {
          luck = luck_of Fine copy;
          after = added folds e copy;
          goes = at_once (flat copy.chain) (luck_of Fine copy) request cas e (λ c. (added folds e c, reply c)) copy small later;
          layout = refl;
          is = inl (lives_entry states old copy e covered dropped c can (whole_entry old copy cas e covered dropped l c may can small) l);
          cause = λ z. absurd (let f : false ≡ true = z in cc);
          leaves = rests_leaves states old old copy home (inl l) (rests_none states old);
        };
        sufficed = refl;
      };
    }

    pub adds_behind : (copy : Copy Content ℕ) (cas : ℕ) (e : Entry) (covered : Option DocKey) (dropped : List ℕ) (old mid : ShownVb D)
        (u : Unit {0})
        → Lives states old copy → Puts states counts copy old mid (Ok u) → Covers mid.recent.manifest e covered dropped
        → IsAllowed e → allowed mid.recent e ≡ true → IsFlushedFirst copy cas e
        → Makes states counts copy cas e old (grown e covered dropped mid) made.Done
    adds_behind copy cas e covered dropped old mid u l p c may can first =
        let w = write_log folds (flat copy.chain) p.luck copy.accepted copy in
        let done = put_done copy old mid w u p.goes in
        let after = done.0 in
        let lives = put_lives (flat copy.chain) p.luck copy after old mid done.1 l done.2 in
        let small = ap (λ (c : Copy Content ℕ). is_too_much c.log cas e) (sym (write_done (flat copy.chain) p.luck copy after done.1)) ∙ first.small in
        record {
          before = after;
          position = grown_position mid after e covered dropped c lives;
          term = live_term mid after lives;
          comes = λ request reply. record {
            comes = record {
              luck = p.luck;
              after = added folds e after;
              goes = flushed_then (flat copy.chain) p.luck request cas e (λ c. (added folds e c, reply c)) copy (Done after) first done.1
                  ∙ ap (λ (c : Copy Content ℕ). (added folds e c, reply c)) (flush_rests after lives.stands.active lives.none_waits);
              layout = p.layout;
              is = inl (lives_entry states mid after e covered dropped c can (whole_entry mid after cas e covered dropped lives c may can small) lives);
              cause = p.cause;
              leaves = done.3;
            };
            sufficed = p.sufficed;
          };
        }

    pub refused_large : (copy : Copy Content ℕ) (cas : ℕ) (e : Entry) (old : ShownVb D) → IsAtHome old → Lives states old copy
        → is_too_much copy.log cas e ≡ true
        → Makes states counts copy cas e old old (made.Refused status.E2BIG)
    refused_large copy cas e old home l large = λ request change. record {
      comes = record {
        luck = luck_of Fine copy;
        after = copy;
        goes = too_much (flat copy.chain) (luck_of Fine copy) request cas e change copy large;
        layout = refl;
        is = inl l;
        cause = λ z. absurd (let f : false ≡ true = z in cc);
        leaves = rests_leaves states old old copy home (inl l) (rests_none states old);
      };
      sufficed = refl;
    }

    pub refused_full : (copy : Copy Content ℕ) (cas : ℕ) (e : Entry) (old mid : ShownVb D) (asked left : ℕ)
        → IsAtHome old → Lives states old copy → Puts states counts copy old mid (Err (fault.Full asked left)) → IsFlushedFirst copy cas e
        → Makes states counts copy cas e old mid (made.Refused status.EBUSY)
    refused_full copy cas e old mid asked left home l p first = λ request change.
        let w = write_log folds (flat copy.chain) p.luck copy.accepted copy in
        let full = put_full copy old mid w asked left p.goes in
        record {
          comes = record {
            luck = p.luck;
            after = copy;
            goes = flushed_then (flat copy.chain) p.luck request cas e change copy (NoRoom full.0 full.1) first full.2;
            layout = p.layout;
            is = inl (lives_rest states old mid copy full.3 l);
            cause = p.cause;
            leaves = rests_leaves states old mid copy home (inl l) full.3;
          };
          sufficed = p.sufficed;
        }

    pub refused_failed : (copy : Copy Content ℕ) (cas : ℕ) (e : Entry) (old mid : ShownVb D)
        → Puts states counts copy old mid (Err fault.DiskFault) → IsFlushedFirst copy cas e
        → Makes states counts copy cas e old mid (made.Refused status.ETMPFAIL)
    refused_failed copy cas e old mid p first = λ request change.
        let w = write_log folds (flat copy.chain) p.luck copy.accepted copy in
        let failed = put_failed copy old mid w p.goes in
        record {
          comes = record {
            luck = p.luck;
            after = failed.0;
            goes = flushed_then (flat copy.chain) p.luck request cas e change copy (Failed failed.0) first failed.1;
            layout = p.layout;
            is = inr failed.2;
            cause = p.cause;
            leaves = failed.3;
          };
          sufficed = p.sufficed;
        }
