-- A copy may take the same steps on what its logs come to.
use Rattle.std.specs.Prelude.{◌≡◌, ℕ, is_some, Bool, true, ◌&&◌, not, Option, Some, None, option_map, refl}
use Rattle.std.proofs.Common.{sym, ◌∙◌, ap}
use Rattle.vb_log.specs.Content.{Content}
use Rattle.vb_log.specs.Logs.{LogKind, IsFaithful, folds}
use Rattle.replica_core.specs.Terms.{is_dead}
use Rattle.copy_model.specs.Copies.{Message, EntrySent, AckSent, RejoinSent, AdoptSent, Copy, Chance, LayoutKind, Luck}
use Rattle.copy_model.specs.Events.{Event, Requests, Polls, Forgets, Hears, Speaks, TellsChange, Ticks, Flushes, Cleans, Fences, Promotes, SetsState, Told, step}
use Rattle.copy_model.specs.Laying.{lays_heard, lays, failing, writes, goes_on, IsLaid, May}
use Rattle.copy_model.specs.Folded.{folded_message, folded_event, folded_told, folded, folded_after}
use Rattle.copy_model.proofs.Events.{step_folds}

mapped_some : {A B : Type 0} (f : A → B) (o : Option A) → is_some (option_map f o) ≡ is_some o
mapped_some f None = refl
mapped_some f (Some a) = refl

module _ {L : Type 0} (k : LogKind L) (h : IsFaithful k) where
  lays_heard_folds :
      {Y : Type 0} (y : LayoutKind Y) (m : Message L) (c : Copy L Y) (layout : Y)
      → lays_heard folds y (folded_message k m) (folded k c) layout ≡ lays_heard k y m c layout
  lays_heard_folds y (EntrySent term position e) c layout = refl
  lays_heard_folds y (AckSent term mem disk) c layout = refl
  lays_heard_folds y (RejoinSent term accepted length incarnation) c layout = refl
  lays_heard_folds y (AdoptSent term incarnation log) c layout = refl

  lays_folds :
      {Y : Type 0} (y : LayoutKind Y) (e : Event L) (c : Copy L Y) (layout : Y)
      → lays folds y (folded_event k e) (folded k c) layout ≡ lays k y e c layout
  lays_folds y (Requests request now) c layout = refl
  lays_folds y (Polls ticket) c layout = refl
  lays_folds y (Forgets ticket) c layout = refl
  lays_folds y (Hears sent) c layout = lays_heard_folds y sent.message c layout
  lays_folds y Speaks c layout = refl
  lays_folds y TellsChange c layout = refl
  lays_folds y (Ticks now) c layout = refl
  lays_folds y Flushes c layout = refl
  lays_folds y (Cleans most) c layout = refl
  lays_folds y (Fences term) c layout = refl
  lays_folds y (Promotes term answers weak) c layout = refl
  lays_folds y (SetsState state) c layout = refl

  goes_on_folds : (e : Event L) (chance : Chance) → goes_on (folded_event k e) chance ≡ goes_on e chance
  goes_on_folds (Requests request now) chance = refl
  goes_on_folds (Polls ticket) chance = refl
  goes_on_folds (Forgets ticket) chance = refl
  goes_on_folds (Hears sent) chance = refl
  goes_on_folds Speaks chance = refl
  goes_on_folds TellsChange chance = refl
  goes_on_folds (Ticks now) chance = refl
  goes_on_folds Flushes chance = refl
  goes_on_folds (Cleans most) chance = refl
  goes_on_folds (Fences term) chance = refl
  goes_on_folds (Promotes term answers weak) chance = refl
  goes_on_folds (SetsState state) chance = refl

  writes_folds :
      {Y : Type 0} (y : LayoutKind Y) (e : Event L) (c : Copy L Y)
      → writes folds y (folded_event k e) (folded k c) ≡ writes k y e c
  writes_folds y e c =
      sym (ap (λ (r : Copy Content _ × Told Content). not (is_dead c.role) && is_some r.0.torn)
      (step_folds k h y (failing c) e c))
      ∙ ap (λ b. not (is_dead c.role) && b) (mapped_some _ (step k y (failing c) e c).0.torn)

  -- the layouts that an event may leave are the same
  pub laid_folds :
      {Y : Type 0} (y : LayoutKind Y) (luck : Luck Y) (e : Event L) (c : Copy L Y)
      → IsLaid k y luck e c → IsLaid folds y luck (folded_event k e) (folded k c)
  laid_folds y luck e c laid = λ w g.
      lays_folds y e c luck.layout
      ∙ laid (sym (writes_folds y e c) ∙ w) (sym (goes_on_folds e luck.chance) ∙ g)

  pub laid_unfolds :
      {Y : Type 0} (y : LayoutKind Y) (luck : Luck Y) (e : Event L) (c : Copy L Y)
      → IsLaid folds y luck (folded_event k e) (folded k c) → IsLaid k y luck e c
  laid_unfolds y luck e c laid = λ w g.
      sym (lays_folds y e c luck.layout)
      ∙ laid (writes_folds y e c ∙ w) (goes_on_folds e luck.chance ∙ g)

  -- so are the steps that it may take
  pub may_fold :
      {Y : Type 0} (y : LayoutKind Y) (e : Event L) (c new : Copy L Y) (told : Told L)
      → May k y e c new told
      → May folds y (folded_event k e) (folded k c) (folded k new) (folded_told k told)
  may_fold y e c new told may = record {
    luck = may.luck;
    laid = laid_folds y may.luck e c may.laid;
    goes = sym (step_folds k h y may.luck e c) ∙ ap (folded_after k) may.goes;
  }

  -- and each that what its log comes to may take is one of a whole log
  pub may_unfold :
      {Y : Type 0} (y : LayoutKind Y) (e : Event L) (c : Copy L Y) (d : Copy Content Y)
      (told : Told Content)
      → May folds y (folded_event k e) (folded k c) d told
      → (r : Copy L Y × Told L) × May k y e c r.0 r.1 × (folded_after k r ≡ (d, told))
  may_unfold y e c d told may =
      let r = step k y may.luck e c in (
        r,
        record { luck = may.luck; laid = laid_unfolds y may.luck e c may.laid; goes = refl },
        step_folds k h y may.luck e c ∙ may.goes,
      )
