-- How many bytes a step of a connection leaves, and what steps one after the other count.
use Rattle.std.proofs.Common.{◌≡◌, ℕ, ◌+◌, ◌<◌, ◌≤◌, List, length, take, Option, inl, inr, refl, sym, ap, subst, ◌∙◌, arith, length-append, length-drop}
use Rattle.std.proofs.lemmas.List.{length-take-le}
use Rattle.kv_frame.specs.declared.frame.TheConstants.{HEADER_LENGTH}
use Rattle.kv_frame.specs.Grammar.{body_length}
use Rattle.kv_frame.proofs.Unique.{length-spelling}
use Rattle.kv_session.specs.Session.{Line}
use Rattle.magma_disk.specs.Counting.{Counts, Climbs}
use Rattle.magma_disk.specs.Device.{Device}
use Rattle.magma_store.specs.Counting.{CountsStore}
use Rattle.vb_core.specs.Shown.{ShownVb}
use Rattle.kv_tool.specs.declared.connection.Connection.{Connection}
use Rattle.kv_tool.specs.declared.exit.Exit.{Exit}
use Rattle.kv_tool.specs.Progress.{AnswersOne, FeedsOn, FeedsOne, Finishes}

-- ---- what the disk counts

climbs_on : (a b c : ℕ) → Climbs a b → Climbs b c → Climbs a c
climbs_on a b c first second = record { no_lower = omega arith; no_higher = omega arith }

-- steps one after the other, none of which tells a fault
pub counts_on : (a b c : Counts) → CountsStore ⊥ a b → CountsStore ⊥ b c → CountsStore ⊥ a c
counts_on a b c first second = record {
  faults = climbs_on a.faults b.faults c.faults first.faults second.faults;
  cause = λ failed. absurd failed;
  reads = climbs_on a.reads b.reads c.reads first.reads second.reads;
  plans = second.plans ∙ first.plans;
}

-- nothing was called
pub counts_none : (a : Counts) → CountsStore ⊥ a a
counts_none a = record {
  faults = record { no_lower = omega arith; no_higher = omega arith };
  cause = λ failed. absurd failed;
  reads = record { no_lower = omega arith; no_higher = omega arith };
  plans = refl;
}

-- where the vbucket stays, so does what is counted
pub counts_kept : {D : Type 0} (counts : D → Counts) (a : Counts) (old new : Connection D) → CountsStore ⊥ a (counts old.vb.store.disk) → new.vb ≡ old.vb → CountsStore ⊥ a (counts new.vb.store.disk)
counts_kept {D} counts a old new counted same = subst (λ (v : ShownVb D). CountsStore ⊥ a (counts v.store.disk)) (sym same) counted

-- what is written leaves the vbucket
pub written_vb : {D : Type 0} (old new : Connection D) → new ≡ record old { out = new.out } → new.vb ≡ old.vb
written_vb {D} old new others = ap (λ (c : Connection D). c.vb) others

pub failed_vb : {D : Type 0} (old new : Connection D) → new ≡ old → new.vb ≡ old.vb
failed_vb {D} old new same = ap (λ (c : Connection D). c.vb) same

pub finishes_vb : {D : Type 0} (before after : Option (List ℕ)) (old new : Connection D) (wanted result : Option Exit) → Finishes before after old new wanted result → new.vb ≡ old.vb
finishes_vb before after old new wanted result (inl (is, others, empty, put)) = written_vb old new others
finishes_vb before after old new wanted result (inr (is, same, n, put)) = failed_vb old new same

-- ---- bytes

-- what is written leaves both counts
pub written_held : {D : Type 0} (old new : Connection D) → new ≡ record old { out = new.out } → length new.session.held ≡ length old.session.held
written_held {D} old new others = ap (λ (c : Connection D). length c.session.held) others

pub written_fed : {D : Type 0} (old new : Connection D) → new ≡ record old { out = new.out } → new.fed ≡ old.fed
written_fed {D} old new others = ap (λ (c : Connection D). c.fed) others

pub finishes_held : {D : Type 0} (before after : Option (List ℕ)) (old new : Connection D) (wanted result : Option Exit) → Finishes before after old new wanted result → length new.session.held ≡ length old.session.held
finishes_held before after old new wanted result (inl (is, others, empty, put)) = written_held old new others
finishes_held {D} before after old new wanted result (inr (is, same, n, put)) = ap (λ (c : Connection D). length c.session.held) same

pub finishes_fed : {D : Type 0} (before after : Option (List ℕ)) (old new : Connection D) (wanted result : Option Exit) → Finishes before after old new wanted result → new.fed ≡ old.fed
finishes_fed before after old new wanted result (inl (is, others, empty, put)) = written_fed old new others
finishes_fed {D} before after old new wanted result (inr (is, same, n, put)) = ap (λ (c : Connection D). c.fed) same

-- bytes that are fed are held
pub record FeedsCount {D : Type 0} (old new : Connection D) (bytes : List ℕ) (n : ℕ) : Type 0 where
  pub held : length new.session.held ≡ length old.session.held + n
  pub fed : new.fed ≡ old.fed + n
  pub within : n ≤ length bytes

pub feeds_count : {D : Type 0} (old new : Connection D) (bytes : List ℕ) (n : ℕ) → FeedsOn old bytes new n → FeedsCount old new bytes n
feeds_count {D} old new bytes n fed = record {
  held = ap (λ (l : Line). length l.held) fed.feeds.taken ∙ omega (arith, length-append old.session.held (take n bytes), length-take-le n bytes fed.feeds.within);
  fed = ap (λ (c : Connection D). c.fed) fed.others;
  within = fed.feeds.within;
}

-- a frame that was taken and answered leaves fewer bytes to take and to hold
pub record Shrinks {D : Type 0} (old new : Connection D) (bytes : List ℕ) (n : ℕ) : Type 0 where
  pub held : length new.session.held < length old.session.held + n
  pub fed : new.fed ≡ old.fed + n
  pub within : n ≤ length bytes

module _ {D : Type 0} (states : D → List Device) (counts : D → Counts) (now : ℕ) where
  -- a frame that is answered was held
  answered_shorter : (old new : Connection D) → AnswersOne states counts now old new → length new.session.held < length old.session.held
  answered_shorter old new one =
      let size : length (take one.used old.session.held) ≡ HEADER_LENGTH + body_length one.first = ap (λ (l : List ℕ). length l) one.begins.1.spelled ∙ length-spelling one.first in
      omega (arith, size, length-take-le one.used old.session.held one.begins.0, ap (λ (l : List ℕ). length l) one.left, length-drop one.used old.session.held)

  pub shrinks : (old new : Connection D) (bytes : List ℕ) (n : ℕ) → FeedsOne states counts now old bytes new n → Shrinks old new bytes n
  shrinks old new bytes n (mid, fed, one) =
      let c = feeds_count old mid bytes n fed in
      let less = answered_shorter mid new one in
      record { held = omega (arith, c.held, less); fed = one.fed ∙ c.fed; within = c.within }
