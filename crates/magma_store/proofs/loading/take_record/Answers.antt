use Rattle.std.proofs.Common.{◌+◌, Some, length, refl, sym, ◌∙◌, ap, subst}
use Rattle.magma_store.specs.declared.loading.Loaded.{Loaded}
use Rattle.magma_store.specs.Forms.{made_form, change_form}
use Rattle.magma_store.specs.Spots.{AllLead}
use Rattle.magma_store.specs.Taking.{IsBegun, TakesChange, BreaksWithin}
use Rattle.magma_store.proofs.Takings.{handed, broken_within, first_taken, change_taken, begun_sound, change_sound}
use Rattle.magma_store.proofs.loading.take_record.Goals as goal
use Rattle.magma_store.proofs.loading.take_record.Goals.{in-None+in_ok-meta-in-None, in-Some+in_ok-meta-in-Some}

pub returns-in_err-meta-in-None-clause-within : goal.returns-in_err-meta-in-None-clause-within
returns-in_err-meta-in-None-clause-within c =
    let held = c.args.held.now in
    let why = c.in_err-meta-in-None.field-0.0 in
    handed c.from_residual.result why (BreaksWithin (length held)) c.from_residual.ensures.1 (broken_within made_form held why c.in_err-meta-in-None.ensures.broken)

pub returns-in_err-meta-in-Some-clause-within : goal.returns-in_err-meta-in-Some-clause-within
returns-in_err-meta-in-Some-clause-within c =
    let held = c.args.held.now in
    let why = c.in_err-meta-in-Some.field-0.0 in
    handed c.from_residual-in_err-meta-in-Some.result why (BreaksWithin (length held)) c.from_residual-in_err-meta-in-Some.ensures.1 (broken_within change_form held why c.in_err-meta-in-Some.ensures.broken)

pub returns-clause-taken : goal.returns-clause-taken
returns-clause-taken c = λ records by.
    let held = c.args.held.now in
    let old = c.args.loaded.now in
    let new : Loaded = record { meta = Some c.match-take.meta; spots = c.match-take.loaded.spots; filled = old.filled + 9 + length held } in
    elim c.match-take.branch [
      | in-None+in_ok-meta-in-None w ↦
          let begun : IsBegun held c.match-take.meta = subst (IsBegun held) (sym w.meta-is) w.in_ok-meta-in-None.ensures.begun in
          first_taken records held old new c.match-take.meta (sym c.take.ensures.value ∙ w.in-None.is) begun (ap (λ (l : Loaded). l.spots) w.loaded-is) refl refl by
      | in-Some+in_ok-meta-in-Some w ↦
          let takes : TakesChange (old.filled + 9) held old.spots w.in-Some.meta c.match-take.loaded.spots c.match-take.meta =
          subst (λ s. TakesChange (old.filled + 9) held old.spots w.in-Some.meta s c.match-take.meta) (sym (ap (λ (l : Loaded). l.spots) w.loaded-is))
          (subst (TakesChange (old.filled + 9) held old.spots w.in-Some.meta w.changed.new.spots) (sym w.meta-is) w.in_ok-meta-in-Some.ensures.taken) in
          change_taken records held old new w.in-Some.meta c.match-take.meta (sym c.take.ensures.value ∙ w.in-Some.is) takes refl refl by
    ]

pub returns-clause-sound : goal.returns-clause-sound
returns-clause-sound c = λ sound.
    let held = c.args.held.now in
    let old = c.args.loaded.now in
    elim c.match-take.branch [
      | in-None+in_ok-meta-in-None w ↦
          let begun : IsBegun held c.match-take.meta = subst (IsBegun held) (sym w.meta-is) w.in_ok-meta-in-None.ensures.begun in
          record { lead = subst AllLead (sym (ap (λ (l : Loaded). l.spots) w.loaded-is)) sound.lead; numbers = begun_sound held c.match-take.meta begun }
      | in-Some+in_ok-meta-in-Some w ↦
          let takes : TakesChange (old.filled + 9) held old.spots w.in-Some.meta c.match-take.loaded.spots c.match-take.meta =
          subst (λ s. TakesChange (old.filled + 9) held old.spots w.in-Some.meta s c.match-take.meta) (sym (ap (λ (l : Loaded). l.spots) w.loaded-is))
          (subst (TakesChange (old.filled + 9) held old.spots w.in-Some.meta w.changed.new.spots) (sym w.meta-is) w.in_ok-meta-in-Some.ensures.taken) in
          let both = change_sound (old.filled + 9) held old.spots w.in-Some.meta c.match-take.loaded.spots c.match-take.meta takes sound.lead in
          record { lead = both.0; numbers = both.1 }
    ]
