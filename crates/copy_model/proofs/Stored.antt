-- What a flush and a promotion that go well put on disk.
use Rattle.std.specs.Prelude.{◌≡◌, ℕ, nat_lt, Bool, true, false, cond, List, Option, None, Some, Result, Ok, Err, refl, if◌then◌else◌}
use Rattle.std.proofs.Common.{sym, ◌∙◌, ap}
use Rattle.vb_log.specs.Logs.{LogKind}
use Rattle.replica_core.specs.declared.fences.FenceAnswer.{FenceAnswer}
use Rattle.replica_core.specs.declared.fences.PromoteFault.{PromoteFault}
use Rattle.replica_core.specs.Terms.{is_active, is_dead}
use Rattle.replica_core.specs.Promotion.{promote_fault}
use Rattle.copy_model.specs.declared.outcome.VbFault.{VbFault}
use Rattle.copy_model.specs.Copies.{Pair, Copy, LayoutKind, Luck, lacks_memory, fails_disk}
use Rattle.copy_model.specs.Entries.{core_of, settled}
use Rattle.copy_model.specs.Disk.{Put, Done, NoRoom, Failed, needed, free, pair_at, on_disk, write_log, after_flush, put_then, flushing, tells_flush}
use Rattle.copy_model.specs.Events.{nothing, if_alive, put_told, flushed_to, flushes, active_at, telling_all, begun_at, promoting, promotes}
use Rattle.copy_model.specs.Grown.{IsStored}
use Rattle.copy_model.proofs.Written.{Keeps, if_told, settled_keeps}

module _ {L : Type 0} (k : LogKind L) {Y : Type 0} (y : LayoutKind Y) (luck : Luck Y) where
  after_flush_disk : (c : Copy L Y) → (after_flush k c).disk ≡ c.disk
  after_flush_disk c =
      if_told (λ (d : Copy L Y). d.disk ≡ c.disk) (is_active c.role) _ _
      (λ _. (settled_keeps k c).disk)
      (λ _. if_told (λ (d : Copy L Y). d.disk ≡ c.disk) (tells_flush c) _ _ (λ _. refl) (λ _. refl))

  begun_disk : (term : ℕ) (c : Copy L Y) → (begun_at k term c).disk ≡ c.disk
  begun_disk term c = (settled_keeps k (telling_all k (active_at k term c))).disk

  -- what a pair has that a log was put into
  stored : (term : ℕ) (c d : Copy L Y) → d.disk ≡ pair_at term luck.layout c → IsStored term c d
  stored term c d e = record {
    log = ap (λ p. p.log) e;
    accepted = ap (λ p. p.accepted) e;
    promise = ap (λ p. p.promise) e;
    incarnation = ap (λ p. p.incarnation) e;
  }

  -- a number that is told, or this one
  abbrev told_or : ℕ → Result ℕ VbFault → ℕ
  told_or n (Ok m) = m
  told_or n (Err fault) = n

  -- ---- a flush

  module _ (c : Copy L Y) (n : ℕ) where
    abbrev Flushed : Copy L Y × Result ℕ VbFault → Type 0
    Flushed r = r.1 ≡ Ok n → IsStored c.accepted c r.0 × (n ≡ (k.view c.log).length)

    abbrev FlushedBy : Put (Copy L Y) → Type 0
    FlushedBy p = Flushed (put_told (flushed_to k) c (put_then (after_flush k) p))

    abbrev flushed : Copy L Y
    flushed = on_disk (pair_at c.accepted luck.layout c) c

    done_flushed : FlushedBy (Done flushed)
    done_flushed e =
        let disk = after_flush_disk flushed in (
          stored c.accepted c (after_flush k flushed) disk,
          sym (ap (told_or n) e) ∙ ap (λ p. (k.view p.log).length) disk,
        )

    log_flushed : FlushedBy (write_log k y luck c.accepted c)
    log_flushed =
        if_told FlushedBy (nat_lt (free y c) (needed k y c)) _ _
        (λ _. if_told FlushedBy (fails_disk luck.chance) _ _ (λ _ e. absurd (cc)) (λ _ e. absurd (cc)))
        (λ _. if_told FlushedBy (fails_disk luck.chance) _ _ (λ _ e. absurd (cc)) (λ _. done_flushed))

    pub flush_stores : (flushes k y luck c).1 ≡ Ok n
        → IsStored c.accepted c (flushes k y luck c).0 × (n ≡ (k.view c.log).length)
    flush_stores =
        if_told Flushed (is_dead c.role) _ _ (λ _ e. absurd (cc))
        (λ _. if_told Flushed (lacks_memory luck.chance) _ _ (λ _ e. absurd (cc)) (λ _. log_flushed))

  -- ---- a promotion

  module _ (c : Copy L Y) (term : ℕ) where
    abbrev Promoted : Copy L Y × Result (Unit {0}) VbFault → Type 0
    Promoted r = r.1 ≡ Ok nothing → IsStored term c r.0

    abbrev PromotedBy : Put (Copy L Y) → Type 0
    PromotedBy p = Promoted (put_told (λ d. (begun_at k term d, Ok nothing)) c p)

    log_promoted : PromotedBy (write_log k y luck term c)
    log_promoted =
        if_told PromotedBy (nat_lt (free y c) (needed k y c)) _ _
        (λ _. if_told PromotedBy (fails_disk luck.chance) _ _ (λ _ e. absurd (cc)) (λ _ e. absurd (cc)))
        (λ _. if_told PromotedBy (fails_disk luck.chance) _ _ (λ _ e. absurd (cc))
        (λ _ e. stored term c _ (begun_disk term (on_disk (pair_at term luck.layout c) c))))

    by_fault : (fault : Option PromoteFault) → Promoted (promoting k y luck term fault c)
    by_fault (Some fault) e = absurd (cc)
    by_fault None e = log_promoted e

    pub promotion_stores : (answers : List FenceAnswer) (weak : Bool)
        → (promotes k y luck term answers weak c).1 ≡ Ok nothing
        → IsStored term c (promotes k y luck term answers weak c).0
    promotion_stores answers weak =
        if_told Promoted (is_dead c.role) _ _ (λ _ e. absurd (cc))
        (λ _. if_told Promoted (lacks_memory luck.chance) _ _ (λ _ e. absurd (cc))
        (λ _. by_fault (promote_fault (core_of k c) term answers weak)))
