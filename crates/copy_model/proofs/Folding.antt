-- Each step of a copy is the same on what its logs come to.
use Rattle.std.specs.Prelude.{◌≡◌, ℕ, ◌+◌, nat_lt, Bool, true, false, cond, map as list_map, List, [], ◌∷◌, ◌++◌, Option, Some, None, option_map, refl}
use Rattle.std.proofs.Common.{◌∙◌, ap}
use Rattle.std.proofs.lemmas.List.{map-append}
use Rattle.vb_log.specs.declared.entry.Entry.{Entry}
use Rattle.vb_log.specs.declared.entry.Entry.TheVariants as entries
use Rattle.vb_log.specs.declared.entry.Pending.{Pending}
use Rattle.vb_log.specs.Content.{Content}
use Rattle.vb_log.specs.Logs.{LogKind, IsFaithful, folds}
use Rattle.replica_core.specs.declared.copy.Role.{Role}
use Rattle.replica_core.specs.declared.copy.Role.TheVariants as roles
use Rattle.replica_core.specs.Terms.{is_active}
use Rattle.copy_model.specs.Copies.{Stood, Aborted, Message, EntrySent, Pair, Copy, LayoutKind, Luck, fails_disk}
use Rattle.copy_model.specs.Entries.{others, told_to, saying, saying_to_all, grown, published, added, settling, committed, aborted, is_ready_at, committing, settled, in_role, log_length, acknowledging, ack}
use Rattle.copy_model.specs.Disk.{Put, Done, NoRoom, Failed, dead_with, promised, write_promise, pair_at, needed, free, write_log, after_flush, put_then, flushing, must_flush, flushed_first, tells_flush}
use Rattle.copy_model.specs.Folded.{folded_message, folded_sent, folded_pair, folded}

-- through a test
pub if_folds : {A B : Type 0} (f : A → B) (b : Bool) (x y : A) (z w : B) → f x ≡ z → f y ≡ w → f (cond b x y) ≡ cond b z w
if_folds f true x y z w p q = p
if_folds f false x y z w p q = q

map_map : {A B C : Type 0} (f : B → C) (g : A → B) (xs : List A) → list_map f (list_map g xs) ≡ list_map (λ x. f (g x)) xs
map_map f g [] = refl
map_map f g (x ∷ xs) = ap (λ ys. f (g x) ∷ ys) (map_map f g xs)

module _ {L : Type 0} (k : LogKind L) (h : IsFaithful k) where
  pub grown_folds : {Y : Type 0} (e : Entry) (c : Copy L Y) → folded k (grown k e c) ≡ grown folds e (folded k c)
  grown_folds e c = λ i. record (folded k (grown k e c)) { log = h.adds c.log e i }

  pub saying_folds : {Y : Type 0} (to : ℕ) (m : Message L) (c : Copy L Y) → folded k (saying to m c) ≡ saying to (folded_message k m) (folded k c)
  saying_folds to m c = λ i. record (folded k c) { unspoken = map-append (folded_sent k) c.unspoken (told_to c to m ∷ []) i }

  pub saying_to_all_folds : {Y : Type 0} (m : Message L) (c : Copy L Y) → folded k (saying_to_all m c) ≡ saying_to_all (folded_message k m) (folded k c)
  saying_to_all_folds m c =
      let e = map-append (folded_sent k) c.unspoken (list_map (λ to. told_to c to m) (others c))
      ∙ ap (λ ms. list_map (folded_sent k) c.unspoken ++ ms) (map_map (folded_sent k) (λ to. told_to c to m) (others c)) in
      λ i. record (folded k c) { unspoken = e i }

  pub published_folds : {Y : Type 0} (e : Entry) (c : Copy L Y) → folded k (published k e c) ≡ published folds e (folded k c)
  published_folds e c = λ i. record (folded k (published k e c)) { unspoken = (saying_to_all_folds (EntrySent c.accepted (log_length k c + 1) e) c i).unspoken }

  pub added_folds : {Y : Type 0} (e : Entry) (c : Copy L Y) → folded k (added k e c) ≡ added folds e (folded k c)
  added_folds e c = grown_folds e (published k e c) ∙ ap (grown folds e) (published_folds e c)

  pub committed_folds : {Y : Type 0} (p : ℕ) (c : Copy L Y) → folded k (committed k p c) ≡ committed folds p (folded k c)
  committed_folds p c = ap (settling p (Stood (log_length k c + 1))) (added_folds (entries.Commit p) c)

  pub aborted_folds : {Y : Type 0} (p : ℕ) (c : Copy L Y) → folded k (aborted k p c) ≡ aborted folds p (folded k c)
  aborted_folds p c = ap (settling p Aborted) (added_folds (entries.Abort p) c)

  pub committing_folds : {Y : Type 0} (ps : List Pending) (c : Copy L Y) → folded k (committing k ps c) ≡ committing folds ps (folded k c)
  committing_folds [] c = refl
  committing_folds (p ∷ ps) c =
      if_folds (folded k) (is_ready_at k c p) (committing k ps (committed k p.position c)) c _ _
      (committing_folds ps (committed k p.position c) ∙ ap (committing folds ps) (committed_folds p.position c)) refl

  pub settled_folds : {Y : Type 0} (c : Copy L Y) → folded k (settled k c) ≡ settled folds (folded k c)
  settled_folds c = committing_folds (k.view c.log).prepares c

  pub acknowledging_folds : {Y : Type 0} (c : Copy L Y) → folded k (acknowledging k c) ≡ acknowledging folds (folded k c)
  acknowledging_folds c = saying_folds _ (ack k c) c

  -- ---- roles and the disk

  pub in_role_folds : {Y : Type 0} (role : Role) (c : Copy L Y) → folded k (in_role role c) ≡ in_role role (folded k c)
  in_role_folds role c = refl

  pub dead_with_folds : {Y : Type 0} (d : Option (Pair L Y)) (c : Copy L Y) → folded k (dead_with d c) ≡ dead_with (option_map (folded_pair k) d) (folded k c)
  dead_with_folds d c = ap (λ (x : Copy Content _). record x { torn = option_map (folded_pair k) d }) (in_role_folds roles.Dead c)

  abbrev pub folded_put : {Y : Type 0} → Put (Copy L Y) → Put (Copy Content Y)
  folded_put (Done c) = Done (folded k c)
  folded_put (NoRoom needed free) = NoRoom needed free
  folded_put (Failed c) = Failed (folded k c)

  pub write_promise_folds : {Y : Type 0} (luck : Luck Y) (term : ℕ) (c : Copy L Y) → folded_put (write_promise luck term c) ≡ write_promise luck term (folded k c)
  write_promise_folds luck term c = if_folds folded_put (fails_disk luck.chance) _ _ _ _ (ap (λ d. Failed d) (dead_with_folds (Some (promised term luck.layout c.disk)) c)) refl

  pub write_log_folds : {Y : Type 0} (y : LayoutKind Y) (luck : Luck Y) (term : ℕ) (c : Copy L Y) → folded_put (write_log k y luck term c) ≡ write_log folds y luck term (folded k c)
  write_log_folds y luck term c =
      if_folds folded_put (nat_lt (free y c) (needed k y c)) _ _ _ _
      (if_folds folded_put (fails_disk luck.chance) _ _ _ _ (ap (λ d. Failed d) (dead_with_folds None c)) refl)
      (if_folds folded_put (fails_disk luck.chance) _ _ _ _ (ap (λ d. Failed d) (dead_with_folds (Some (pair_at term luck.layout c)) c)) refl)

  pub after_flush_folds : {Y : Type 0} (c : Copy L Y) → folded k (after_flush k c) ≡ after_flush folds (folded k c)
  after_flush_folds c =
      if_folds (folded k) (is_active c.role) _ _ _ _ (settled_folds c) (if_folds (folded k) (tells_flush c) _ _ _ _ (acknowledging_folds c) refl)

  pub put_then_folds : {Y : Type 0} (f : Copy L Y → Copy L Y) (g : Copy Content Y → Copy Content Y) → ((c : Copy L Y) → folded k (f c) ≡ g (folded k c)) → (p : Put (Copy L Y)) → folded_put (put_then f p) ≡ put_then g (folded_put p)
  put_then_folds f g e (Done c) = ap (λ d. Done d) (e c)
  put_then_folds f g e (NoRoom needed free) = refl
  put_then_folds f g e (Failed c) = refl

  pub flushing_folds : {Y : Type 0} (y : LayoutKind Y) (luck : Luck Y) (c : Copy L Y) → folded_put (flushing k y luck c) ≡ flushing folds y luck (folded k c)
  flushing_folds y luck c =
      put_then_folds (after_flush k) (after_flush folds) after_flush_folds (write_log k y luck c.accepted c)
      ∙ ap (put_then (after_flush folds)) (write_log_folds y luck c.accepted c)

  pub flushed_first_folds : {Y : Type 0} (y : LayoutKind Y) (luck : Luck Y) (c : Copy L Y) → folded_put (flushed_first k y luck c) ≡ flushed_first folds y luck (folded k c)
  flushed_first_folds y luck c = if_folds folded_put (must_flush c) _ _ _ _ (flushing_folds y luck c) refl
