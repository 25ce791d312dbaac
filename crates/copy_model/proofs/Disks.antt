-- The laws of what a copy's steps leave on its disk.
use Rattle.std.specs.Prelude.{◌≡◌, is_some, Bool, true, false, not, ◌&&◌, ◌⊎◌, Option, None, refl}
use Rattle.std.proofs.Common.{sym, ◌∙◌, ap, inl, inr}
use Rattle.vb_log.specs.Logs.{LogKind}
use Rattle.replica_core.specs.Terms.{is_dead}
use Rattle.copy_model.specs.Copies.{Pair, Copy, Fine, DiskFails, LayoutKind, Luck}
use Rattle.copy_model.specs.Events.{Event, step}
use Rattle.copy_model.specs.Laying.{writes}
use Rattle.copy_model.proofs.Dead.{step_dead}
use Rattle.copy_model.proofs.Written.{is_well, Keeps, Fares, Stays, Stops, Writes, Tears}
use Rattle.copy_model.proofs.Stepped.{step_fares}

not_begun : (dead begun : Bool) → dead ≡ false → (not dead && begun) ≡ false → begun ≡ false
not_begun true begun p q = absurd (cc)
not_begun false begun p q = q

has_begun : (dead begun : Bool) → (not dead && begun) ≡ true → begun ≡ true
has_begun true begun p = absurd (cc)
has_begun false begun p = p

is_alive : (dead begun : Bool) → (not dead && begun) ≡ true → dead ≡ false
is_alive true begun p = absurd (cc)
is_alive false begun p = refl

module _ {L Y : Type 0} where
  not_idle : (begun other : Option (Pair L Y)) → is_some begun ≡ true → other ≡ None
      → (begun ≡ other) ⊎ (begun ≡ None) → ⊥
  not_idle begun other begins none (inl same) =
      let e = sym begins ∙ ap is_some (same ∙ none) in cc
  not_idle begun other begins none (inr nothing) = let e = sym begins ∙ ap is_some nothing in cc

  fares_unwritten : (begun : Option (Pair L Y)) (luck : Luck Y) (pair : Pair L Y)
      (other : Option (Pair L Y)) (d : Copy L Y) → is_some begun ≡ false → other ≡ None
      → Fares begun luck pair other d → Keeps pair other d
  fares_unwritten begun luck pair other d quiet none (Stays keeps idle) = keeps
  fares_unwritten begun luck pair other d quiet none (Stops disk torn dead idle) =
      record { disk = disk; torn = torn ∙ sym none }
  fares_unwritten begun luck pair other d quiet none (Writes begins lays torn) =
      absurd (let e = sym begins ∙ quiet in cc)
  fares_unwritten begun luck pair other d quiet none (Tears begins disk dead unwell) =
      absurd (let e = sym begins ∙ quiet in cc)

  fares_laid : (begun : Option (Pair L Y)) (luck : Luck Y) (pair : Pair L Y)
      (other : Option (Pair L Y)) (d : Copy L Y) → Fares begun luck pair other d
      → (d.disk ≡ pair) ⊎ (d.disk.layout ≡ luck.layout)
  fares_laid begun luck pair other d (Stays keeps idle) = inl keeps.disk
  fares_laid begun luck pair other d (Stops disk torn dead idle) = inl disk
  fares_laid begun luck pair other d (Writes begins lays torn) = inr lays
  fares_laid begun luck pair other d (Tears begins disk dead unwell) = inl disk

  fares_stopped : (begun : Option (Pair L Y)) (luck : Luck Y) (pair : Pair L Y)
      (other : Option (Pair L Y)) (d : Copy L Y) → Fares begun luck pair other d
      → (d.torn ≡ other) ⊎ (is_dead d.role ≡ true)
  fares_stopped begun luck pair other d (Stays keeps idle) = inl keeps.torn
  fares_stopped begun luck pair other d (Stops disk torn dead idle) = inr dead
  fares_stopped begun luck pair other d (Writes begins lays torn) = inl torn
  fares_stopped begun luck pair other d (Tears begins disk dead unwell) = inr dead

  fares_done : (begun : Option (Pair L Y)) (luck : Luck Y) (pair : Pair L Y)
      (other : Option (Pair L Y)) (d : Copy L Y) → is_some begun ≡ true → other ≡ None
      → is_well luck.chance ≡ true → Fares begun luck pair other d → d.disk.layout ≡ luck.layout
  fares_done begun luck pair other d begins none well (Stays keeps idle) =
      absurd (not_idle begun other begins none (idle well))
  fares_done begun luck pair other d begins none well (Stops disk torn dead idle) =
      absurd (not_idle begun other begins none (inr idle))
  fares_done begun luck pair other d begins none well (Writes begun_too lays torn) = lays
  fares_done begun luck pair other d begins none well (Tears begun_too disk dead unwell) =
      absurd (let e = sym well ∙ unwell in cc)

  alive_stays_sound : (other torn : Option (Pair L Y)) (dead : Bool) → other ≡ None
      → (torn ≡ other) ⊎ (dead ≡ true) → dead ≡ false → torn ≡ None
  alive_stays_sound other torn dead none (inl same) alive = same ∙ none
  alive_stays_sound other torn dead none (inr is) alive = absurd (let e = sym is ∙ alive in cc)

module _ {L Y : Type 0} (k : LogKind L) (y : LayoutKind Y) (luck : Luck Y) (e : Event L)
    (c : Copy L Y) where
  fares : Fares (step k y (record luck { chance = DiskFails; layout = c.disk.layout }) e c).0.torn
      luck c.disk c.torn (step k y luck e c).0
  fares = step_fares k y c.disk.layout luck e c

  unwritten_by : (dead : Bool) → is_dead c.role ≡ dead → (is_dead c.role ≡ false → c.torn ≡ None)
      → writes k y e c ≡ false → Keeps c.disk c.torn (step k y luck e c).0
  unwritten_by true is sound idle =
      let same = step_dead k y luck e c is in
      record { disk = same.disk; torn = same.torn }
  unwritten_by false is sound idle =
      fares_unwritten _ luck c.disk c.torn (step k y luck e c).0
      (not_begun (is_dead c.role) _ is idle) (sound is) fares

  pub unwritten : (is_dead c.role ≡ false → c.torn ≡ None) → writes k y e c ≡ false
      → Keeps c.disk c.torn (step k y luck e c).0
  unwritten sound idle = unwritten_by (is_dead c.role) refl sound idle

  pub laid : ((step k y luck e c).0.disk ≡ c.disk) ⊎
      ((step k y luck e c).0.disk.layout ≡ luck.layout)
  laid = fares_laid _ luck c.disk c.torn (step k y luck e c).0 fares

  pub stopped : ((step k y luck e c).0.torn ≡ c.torn) ⊎ (is_dead (step k y luck e c).0.role ≡ true)
  stopped = fares_stopped _ luck c.disk c.torn (step k y luck e c).0 fares

  pub done : (is_dead c.role ≡ false → c.torn ≡ None) → writes k y e c ≡ true
      → luck.chance ≡ Fine → (step k y luck e c).0.disk.layout ≡ luck.layout
  done sound begins fine =
      fares_done _ luck c.disk c.torn (step k y luck e c).0 (has_begun (is_dead c.role) _ begins)
      (sound (is_alive (is_dead c.role) _ begins)) (ap is_well fine) fares

  sound_by : (dead : Bool) → is_dead c.role ≡ dead → (is_dead c.role ≡ false → c.torn ≡ None)
      → is_dead (step k y luck e c).0.role ≡ false → (step k y luck e c).0.torn ≡ None
  sound_by true is sound alive =
      let same = step_dead k y luck e c is in
      absurd (let e = sym alive ∙ ap is_dead same.role ∙ is in cc)
  sound_by false is sound alive =
      alive_stays_sound c.torn (step k y luck e c).0.torn (is_dead (step k y luck e c).0.role)
      (sound is) stopped alive

  pub sound : (is_dead c.role ≡ false → c.torn ≡ None) → is_dead (step k y luck e c).0.role ≡ false
      → (step k y luck e c).0.torn ≡ None
  sound held alive = sound_by (is_dead c.role) refl held alive
