-- A dead copy keeps its part in replication and its disk, whatever comes.
use Rattle.std.specs.Prelude.{◌≡◌, ℕ, Bool, true, false, cond, List, [], ◌∷◌, Option, Some, None, refl}
use Rattle.std.proofs.Common.{subst}
use Rattle.kv_request.specs.declared.request.Request.{Request}
use Rattle.kv_request.specs.declared.request.Body.{Body}
use Rattle.kv_request.specs.declared.request.Body.TheVariants as bodies
use Rattle.vb_log.specs.Logs.{LogKind}
use Rattle.replica_core.specs.declared.copy.Role.{Role}
use Rattle.replica_core.specs.declared.copy.Role.TheVariants as roles
use Rattle.replica_core.specs.Terms.{is_dead}
use Rattle.copy_model.specs.declared.outcome.Ticket.{Ticket}
use Rattle.copy_model.specs.declared.outcome.Outcome.{Outcome}
use Rattle.copy_model.specs.Copies.{Fate, Waiting, Stood, Aborted, Left, Sent, Seen, Copy, LayoutKind, Luck, lacks_memory}
use Rattle.copy_model.specs.Requests.{moment_of, seeing, fate_of, polled_as, body_step, requested}
use Rattle.copy_model.specs.Events.{speaks_first, tells_first, Event, Requests, Polls, Forgets, Hears, Speaks, TellsChange, Ticks, Flushes, Cleans, Fences, Promotes, SetsState, step}

-- a copy has what another has of replication and of the disk
pub record Unmoved {L Y : Type 0} (c d : Copy L Y) : Type 0 where
  pub role : d.role ≡ c.role
  pub log : d.log ≡ c.log
  pub accepted : d.accepted ≡ c.accepted
  pub promise : d.promise ≡ c.promise
  pub disk : d.disk ≡ c.disk
  pub torn : d.torn ≡ c.torn

-- what holds of both sides of a test holds of what it comes to
pub if_one : {A : Type 0} (P : A → Type 0) (b : Bool) (x y : A) → P x → P y → P (cond b x y)
if_one P true x y p q = p
if_one P false x y p q = q

dead_role : (role : Role) → is_dead role ≡ true → roles.Dead ≡ role
dead_role roles.Active p = absurd (cc)
dead_role roles.Replica p = absurd (cc)
dead_role roles.Pending p = absurd (cc)
dead_role roles.Dead p = refl

module _ {L : Type 0} (k : LogKind L) where
  -- a copy, dead
  abbrev dead : {Y : Type 0} → Copy L Y → Copy L Y
  dead c = record c { role = roles.Dead }

  unmoved : {Y : Type 0} (c : Copy L Y) → Unmoved c c
  unmoved c = record {
    role = refl;
    log = refl;
    accepted = refl;
    promise = refl;
    disk = refl;
    torn =
        refl;
  }

  body_step_dead : {Y : Type 0} (y : LayoutKind Y) (luck : Luck Y) (now : ℕ) (request : Request)
      (body : Body) (c : Copy L Y)
      → Unmoved (dead c) (body_step k y luck now request body (dead c)).0
  body_step_dead y luck now request (bodies.SetManifest text) c = unmoved (dead c)
  body_step_dead y luck now request bodies.GetManifest c = unmoved (dead c)
  body_step_dead y luck now request (bodies.CollectionId path) c = unmoved (dead c)
  body_step_dead y luck now request (bodies.ScopeId path) c = unmoved (dead c)
  body_step_dead y luck now request (bodies.Hello wanted) c = unmoved (dead c)
  body_step_dead y luck now request bodies.Noop c = unmoved (dead c)
  body_step_dead y luck now request bodies.Version c = unmoved (dead c)
  body_step_dead y luck now request bodies.Quit c = unmoved (dead c)
  body_step_dead y luck now request (bodies.Get key) c = unmoved (dead c)
  body_step_dead y luck now request (bodies.Store key mode flags expiry value) c = unmoved (dead c)
  body_step_dead y luck now request (bodies.Delete key) c = unmoved (dead c)
  body_step_dead y luck now request (bodies.Count key up delta initial expiry) c = unmoved (dead c)
  body_step_dead y luck now request (bodies.Join key front value) c = unmoved (dead c)
  body_step_dead y luck now request (bodies.Touch key expiry fetch) c = unmoved (dead c)
  body_step_dead y luck now request (bodies.Look key spec) c = unmoved (dead c)
  body_step_dead y luck now request (bodies.Edit key spec expiry flags) c = unmoved (dead c)
  body_step_dead y luck now request (bodies.MultiLook key specs) c = unmoved (dead c)
  body_step_dead y luck now request (bodies.MultiEdit key specs expiry flags) c = unmoved (dead c)

  requested_dead : {Y : Type 0} (y : LayoutKind Y) (luck : Luck Y) (request : Request) (now : ℕ)
      (c : Copy L Y) → Unmoved (dead c) (requested k y luck request now (dead c)).0
  requested_dead {Y = Y} y luck request now c =
      if_one (λ (r : Copy L Y × Outcome). Unmoved (dead c) r.0) (lacks_memory luck.chance) _ _
      (unmoved (dead c))
      (let same = body_step_dead y luck (moment_of now) request request.body (seeing now c) in
      record {
        role = same.role;
        log = same.log;
        accepted = same.accepted;
        promise =
            same.promise;
        disk = same.disk;
        torn = same.torn;
      })

  polled_dead : {Y : Type 0} (ticket : Ticket) (c : Copy L Y) (fate : Option Fate)
      → Unmoved c (polled_as ticket c fate).0
  polled_dead ticket c None = unmoved c
  polled_dead ticket c (Some Waiting) = unmoved c
  polled_dead ticket c (Some (Stood position)) =
      record { role = refl; log = refl; accepted = refl; promise = refl; disk = refl; torn = refl }
  polled_dead ticket c (Some Aborted) =
      record { role = refl; log = refl; accepted = refl; promise = refl; disk = refl; torn = refl }
  polled_dead ticket c (Some Left) =
      record { role = refl; log = refl; accepted = refl; promise = refl; disk = refl; torn = refl }

  speaks_dead : {Y : Type 0} (c : Copy L Y) (sent : List (Sent L))
      → Unmoved c (speaks_first c sent).0
  speaks_dead c [] = unmoved c
  speaks_dead c (sent ∷ more) =
      record { role = refl; log = refl; accepted = refl; promise = refl; disk = refl; torn = refl }

  tells_dead : {Y : Type 0} (c : Copy L Y) (seen : List Seen) → Unmoved c (tells_first c seen).0
  tells_dead c [] = unmoved c
  tells_dead c (seen ∷ more) =
      record { role = refl; log = refl; accepted = refl; promise = refl; disk = refl; torn = refl }

  any_dead : {Y : Type 0} (y : LayoutKind Y) (luck : Luck Y) (e : Event L) (c : Copy L Y)
      → Unmoved (dead c) (step k y luck e (dead c)).0
  any_dead y luck (Requests request now) c = requested_dead y luck request now c
  any_dead y luck (Polls ticket) c = polled_dead ticket (dead c) (fate_of ticket c)
  any_dead y luck (Forgets ticket) c =
      record { role = refl; log = refl; accepted = refl; promise = refl; disk = refl; torn = refl }
  any_dead y luck (Hears sent) c = unmoved (dead c)
  any_dead y luck Speaks c = speaks_dead (dead c) c.unspoken
  any_dead y luck TellsChange c = tells_dead (dead c) c.untold
  any_dead y luck (Ticks now) c = unmoved (dead c)
  any_dead y luck Flushes c = unmoved (dead c)
  any_dead y luck (Cleans most) c = unmoved (dead c)
  any_dead y luck (Fences term) c = unmoved (dead c)
  any_dead y luck (Promotes term answers weak) c = unmoved (dead c)
  any_dead y luck (SetsState state) c = unmoved (dead c)

  -- The law: a dead copy stays as it is.
  pub step_dead : {Y : Type 0} (y : LayoutKind Y) (luck : Luck Y) (e : Event L) (c : Copy L Y)
      → is_dead c.role ≡ true → Unmoved c (step k y luck e c).0
  step_dead y luck e c is =
      subst (λ role. Unmoved (record c { role = role })
      (step k y luck e (record c { role = role })).0) (dead_role c.role is)
      (any_dead y luck e c)
