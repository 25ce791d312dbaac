-- What a request on a document comes to, where nothing waits in the log.
use Rattle.std.specs.Prelude.{◌≡◌, ℕ, is_none, IsSome, Bool, true, false, not, ◌||◌, List, Some, None, Result, Ok, refl}
use Rattle.std.proofs.Common.{◌⊎◌, inl, inr, sym, ◌∙◌, ap, subst}
use Rattle.doc_model.specs.declared.key.DocKey.{DocKey}
use Rattle.doc_model.specs.declared.document.What.{What}
use Rattle.doc_model.specs.declared.status.Status.{Status}
use Rattle.doc_model.specs.declared.status.TheConstants.Status as status
use Rattle.kv_request.specs.declared.request.Request.{Request}
use Rattle.kv_request.specs.declared.request.Body.TheVariants as bodies
use Rattle.kv_request.specs.declared.reply.Reply.{Reply}
use Rattle.kv_request.specs.Tables.{key_named, document_key, first_failing}
use Rattle.doc_step.specs.declared.Change.{Change}
use Rattle.vb_log.specs.Content.{Content, has_collection, prepare_of}
use Rattle.vb_log.specs.Logs.{folds}
use Rattle.durability_core.specs.Ready.{can_commit}
use Rattle.copy_model.specs.declared.outcome.Outcome.{Outcome}
use Rattle.copy_model.specs.declared.outcome.Outcome.TheVariants as outcomes
use Rattle.copy_model.specs.Copies.{Copy, LayoutKind, Luck}
use Rattle.copy_model.specs.Requests.{moment_of, seeing, drawn, is_write, is_inherited, concluded, step_on, request_checks, requested}
use Rattle.copy_laws.specs.Histories.{Asked, Takes, IsServed}
use Rattle.copy_laws.proofs.Historic.{NoneWaits, Steps, Makes, by_found, first_fails, asked, request_leaves, named_ends}

-- ---- what a request leaves that makes no change

module _ {Y : Type 0} (y : LayoutKind Y) (a b : Copy Content Y) (request : Request) (now : ℕ) (reply : Reply) (none : NoneWaits a)
    (t : Takes y a (Asked request now reply) b) (named : IsSome (key_named request.body)) where
  no_manifest : (text : List ℕ) → request.body ≡ bodies.SetManifest text → ⊥
  no_manifest text e = let h : IsSome {T = DocKey} None = subst IsSome (ap key_named e) named in cc

  -- a request on a document leaves the log where its step makes no change
  pub unchanged :
      ((change : Change) (what : What) → Steps (seeing now a) (moment_of now) request (Ok change) → Makes (seeing now a) change (Some what) → ⊥)
      → b.log ≡ a.log
  unchanged never =
      asked y a b request now reply (λ (r : Copy Content Y × Outcome). r.0.log ≡ a.log) t
      (λ luck. request_leaves y luck request now a none t.0 (λ (d : Copy Content Y). d.log ≡ a.log)
      (λ d s. s.log) (λ change what d _ e f s. absurd (never change what e f))
      (λ text step d body _ _ _. absurd (no_manifest text body)))

-- ---- what a served request comes to

-- the reply that an outcome is, where it is one
abbrev pub told_of : Reply → Outcome → Reply
told_of reply (outcomes.Reply told) = told
told_of reply (outcomes.Parked ticket) = reply

-- an outcome that serves a request answers so
abbrev pub ServedSo : Reply → (Reply → Type 0) → Outcome → Type 0
ServedSo reply Answers outcome = IsServed (told_of reply outcome) → Answers (told_of reply outcome)

or_true : (b : Bool) → (b || true) ≡ true
or_true true = refl
or_true false = refl

module _ {Y : Type 0} (y : LayoutKind Y) (a b : Copy Content Y) (request : Request) (now : ℕ) (reply : Reply) (none : NoneWaits a)
    (t : Takes y a (Asked request now reply) b) (named : IsSome (key_named request.body))
    (known : has_collection a.log.manifest (document_key request.body).collection ≡ true) (Answers : Reply → Type 0) where
  abbrev Serves : Copy Content Y × Outcome → Type 0
  Serves r = ServedSo reply Answers r.1

  abbrev c : Copy Content Y
  c = seeing now a

  abbrev Excused : Status → Type 0
  Excused why = (why ≡ status.NOT_MY_VBUCKET) ⊎ (why ≡ status.ETMPFAIL)

  waits_not : (k : DocKey) → not (is_inherited c (prepare_of a.log.prepares k)) ≡ true
  waits_not k = ap (λ ps. not (is_inherited c (prepare_of ps k))) none

  meets_none : (k : DocKey) → (not (is_write request.body) || is_none (prepare_of a.log.prepares k)) ≡ true
  meets_none k = ap (λ ps. not (is_write request.body) || is_none (prepare_of ps k)) none ∙ or_true (not (is_write request.body))

  excused : (luck : Luck Y) (why : Status)
      → first_failing (request_checks folds luck request (document_key request.body) c) ≡ Some why → Excused why
  excused luck why e =
      first_fails Excused (request_checks folds luck request (document_key request.body) c) why (
        λ _. inl refl,
        (
          λ f. absurd (let g : true ≡ false = sym known ∙ f in cc),
          (
            λ f. absurd (let g : true ≡ false = sym (waits_not (document_key request.body)) ∙ f in cc),
            (
              λ f. absurd (let g : true ≡ false = sym (ap (λ o. is_none o || can_commit a.chain) t.0) ∙ f in cc),
              (
                λ f. absurd (let g : true ≡ false = sym (meets_none (document_key request.body)) ∙ f in cc),
                (λ _. inr refl, tt),
              ),
            ),
          ),
        ),
      ) e

  not_served : (why : Status) (told : Reply) → told.status ≡ why → Excused why → IsServed told → ⊥
  not_served why told e (inl f) served = served.ours (e ∙ f)
  not_served why told e (inr f) served = served.disk (e ∙ f)

  served_ends_so : (r : Result Change Status) → step_on a.log c.seen (moment_of now) request ≡ r
      → ((luck : Luck Y) → Serves (concluded folds y luck (moment_of now) request (drawn a.log c.seen) r c))
      → (luck : Luck Y) → Serves (requested folds y luck request now a)
  served_ends_so r e h luck =
      named_ends y luck request now a Serves named (λ served. absurd (served.memory refl))
      (by_found Serves _ (first_failing (request_checks folds luck request (document_key request.body) c)) _
      (λ why f served. absurd (not_served why _ refl (excused luck why f) served))
      (λ _. subst (λ r. Serves (concluded folds y luck (moment_of now) request (drawn a.log c.seen) r c)) (sym e) (h luck)))

  -- a request that is served answers what its step comes to
  pub served_as : (r : Result Change Status) → step_on a.log c.seen (moment_of now) request ≡ r
      → ((luck : Luck Y) → Serves (concluded folds y luck (moment_of now) request (drawn a.log c.seen) r c))
      → IsServed reply → Answers reply
  served_as r e h = asked y a b request now reply Serves t (served_ends_so r e h)
