-- The CAS and the positions that requests on documents draw and tell.
use Rattle.std.specs.Prelude.{◌≡◌, ◌≢◌, ◌≤◌, ◌<◌, ◌+◌, ◌*◌, ◌^◌, ℕ, max, IsSome, Bool, true, false, List, [], ◌∷◌, Some, Result, Ok, Err, refl, if◌then◌else◌}
use Rattle.std.specs.Option.{option_map_or}
use Rattle.std.proofs.Common.{sym, ◌∙◌, ap, subst, arith}
use Rattle.doc_model.specs.declared.key.DocKey.{DocKey}
use Rattle.doc_model.specs.declared.document.What.{What}
use Rattle.doc_model.specs.declared.document.What.TheVariants as whats
use Rattle.doc_model.specs.declared.status.Status.{Status}
use Rattle.kv_request.specs.declared.request.Request.{Request}
use Rattle.kv_request.specs.declared.request.Body.{Body}
use Rattle.kv_request.specs.declared.reply.Reply.{Reply}
use Rattle.kv_request.specs.Tables.{key_named, document_key}
use Rattle.manifest_rules.specs.Rules.{Step}
use Rattle.manifest_rules.specs.Applying.{text_step}
use Rattle.doc_step.specs.declared.Effect.{Effect}
use Rattle.doc_step.specs.declared.Effect.TheVariants as effects
use Rattle.doc_step.specs.declared.Change.{Change}
use Rattle.doc_step.specs.Laws.{CarriesDraw}
use Rattle.doc_step.specs.Step.{tells_token}
use Rattle.doc_step.proofs.Drawn.{carries}
use Rattle.vb_log.specs.Content.{Content, cas_of, doc_in, with_entry, with_step, one_longer}
use Rattle.vb_log.specs.Logs.{folds}
use Rattle.copy_model.specs.declared.outcome.Outcome.{Outcome}
use Rattle.copy_model.specs.declared.outcome.Outcome.TheVariants as outcomes
use Rattle.copy_model.specs.Copies.{Copy, LayoutKind, Luck}
use Rattle.copy_model.specs.Requests.{moment_of, seeing, drawn, setting_at, telling_next, made, what_of, plain_entry, step_on, requested}
use Rattle.copy_laws.specs.Histories.{Deed, Asked, Flushed, Takes, TakesAll}
use Rattle.copy_laws.proofs.Historic.{NoneWaits, asked, flush_taken, request_leaves, served_ends, named_ends}
use Rattle.std.specs.FinMap as map

-- ---- what never falls

-- a content with no smaller numbers, in which nothing waits
pub record Rises (before after : Content) : Type 0 where
  pub greatest : before.greatest_cas ≤ after.greatest_cas
  pub length : before.length ≤ after.length
  pub none : after.prepares ≡ []

same_rises : (l : Content) → l.prepares ≡ [] → Rises l l
same_rises l none = record { greatest = omega arith; length = omega arith; none = none }

on_rises : (a b c : Content) → Rises a b → Rises b c → Rises a c
on_rises a b c h k =
    let g = h.greatest in let g' = k.greatest in let n = h.length in let n' = k.length in
    record { greatest = omega (arith, g, g'); length = omega (arith, n, n'); none = k.none }

max_above : (a b : ℕ) → a ≤ max a b
max_above a b = omega arith

one_above : (a : ℕ) → a ≤ a + 1
one_above a = omega arith

plain_rises : (l : Content) (key : DocKey) (what : What) → l.prepares ≡ [] → Rises l (with_entry l (plain_entry key what))
plain_rises l key (whats.Put doc) none = record { greatest = max_above l.greatest_cas doc.cas; length = one_above l.length; none = none }
plain_rises l key (whats.Remove cas) none = record { greatest = max_above l.greatest_cas cas; length = one_above l.length; none = none }

step_rises : (l : Content) (r : Result Step Status) → l.prepares ≡ [] → Rises l (one_longer (with_step l r))
step_rises l (Ok step) none = record { greatest = omega arith; length = one_above l.length; none = none }
step_rises l (Err why) none = record { greatest = omega arith; length = one_above l.length; none = none }

-- from what has the same log
from_same : (a d after : Content) → d ≡ a → a.prepares ≡ [] → (d.prepares ≡ [] → Rises d after) → Rises a after
from_same a d after e none h = subst (λ l. Rises l after) e (h (ap (λ l. l.prepares) e ∙ none))

pub deed_rises : {Y : Type 0} (y : LayoutKind Y) (a b : Copy Content Y) (deed : Deed) → NoneWaits a → Takes y a deed b → Rises a.log b.log
deed_rises {Y = Y} y a b (Asked request now reply) none t =
    asked y a b request now reply (λ (r : Copy Content Y × Outcome). Rises a.log r.0.log) t
    (λ luck. request_leaves y luck request now a none t.0 (λ (d : Copy Content Y). Rises a.log d.log)
    (λ d s. from_same a.log d.log d.log s.log none (same_rises d.log))
    (λ change what d _ _ _ s. from_same a.log d.log _ s.log none (plain_rises d.log (document_key request.body) what))
    (λ text step d _ _ _ s. from_same a.log d.log _ s.log none (step_rises d.log (text_step d.log.manifest text))))
deed_rises y a b (Flushed told) none t = from_same a.log b.log b.log (flush_taken y a b told none t).log none (same_rises b.log)

pub all_rise : {Y : Type 0} (y : LayoutKind Y) (a b : Copy Content Y) (deeds : List Deed) → NoneWaits a → TakesAll y a deeds b
    → Rises a.log b.log
all_rise {Y = Y} y a b [] none t = subst (λ (c : Copy Content Y). Rises a.log c.log) (sym t) (same_rises a.log none)
all_rise y a b (deed ∷ deeds) none t =
    let first : Rises a.log t.0.log = deed_rises y a t.0 deed none t.1 in
    on_rises a.log t.0.log b.log first (all_rise y t.0 b deeds first.none t.2)

pub none_falls : {Y : Type 0} (y : LayoutKind Y) (a b : Copy Content Y) (deeds : List Deed) → NoneWaits a → TakesAll y a deeds b
    → (a.log.greatest_cas ≤ b.log.greatest_cas) × (a.log.length ≤ b.log.length)
none_falls y a b deeds none t = let h = all_rise y a b deeds none t in (h.greatest, h.length)

-- ---- what a change tells

-- what a change makes has the CAS drawn, and its reply tells it
pub record IsDrawn (draw : ℕ) (change : Change) (what : What) : Type 0 where
  pub told : change.reply.cas ≡ draw
  pub has : cas_of what ≡ draw

pub effect_drawn : (draw : ℕ) (change : Change) (what : What) (effect : Effect) → CarriesDraw draw change effect
    → what_of effect draw ≡ Some what → IsDrawn draw change what
effect_drawn draw change what effects.Nothing h e = absurd (cc)
effect_drawn draw change what (effects.Put doc) h e = record { told = h.1; has = sym (ap (λ o. option_map_or cas_of o 0) e) ∙ h.0 }
effect_drawn draw change what effects.Remove h e = record { told = h; has = sym (ap (λ o. option_map_or cas_of o 0) e) }

-- what an entry makes of the numbers
greatest_is : (l : Content) (key : DocKey) (what : What)
    → (with_entry l (plain_entry key what)).greatest_cas ≡ max l.greatest_cas (cas_of what)
greatest_is l key (whats.Put doc) = refl
greatest_is l key (whats.Remove cas) = refl

length_is : (l : Content) (key : DocKey) (what : What) → (with_entry l (plain_entry key what)).length ≡ l.length + 1
length_is l key (whats.Put doc) = refl
length_is l key (whats.Remove cas) = refl

pub above : (g x draw : ℕ) → draw ≡ max (g + 1) x → g < draw
above g x draw e = omega (arith, e)

above_all : (g x draw : ℕ) → draw ≡ max (g + 1) x → max g draw ≡ draw
above_all g x draw e = omega (arith, e)

pub token_cas : (b : Bool) (token : ℕ × ℕ) (reply : Reply) → (if b then record reply { token = Some token } else reply).cas ≡ reply.cas
token_cas true token reply = refl
token_cas false token reply = refl

token_told : (b : Bool) (token : ℕ × ℕ) (reply : Reply) → b ≡ true
    → (if b then record reply { token = Some token } else reply).token ≡ Some token
token_told true token reply e = refl
token_told false token reply e = absurd (cc)

-- what is told of a change that adds to the log
pub record Tells {Y : Type 0} (body : Body) (a b : Copy Content Y) (reply : Reply) : Type 0 where
  pub length : b.log.length ≡ a.log.length + 1
  pub above : a.log.greatest_cas < reply.cas
  pub greatest : b.log.greatest_cas ≡ reply.cas
  pub token : tells_token body ≡ true → reply.token ≡ Some (a.accepted, b.log.length)

module _ {Y : Type 0} (y : LayoutKind Y) (a b : Copy Content Y) (request : Request) (now : ℕ) (reply : Reply) (none : NoneWaits a)
    (t : Takes y a (Asked request now reply) b) (named : IsSome (key_named request.body)) where
  abbrev reply_of : Outcome → Reply
  reply_of (outcomes.Reply told) = told
  reply_of (outcomes.Parked ticket) = reply

  abbrev Told : Copy Content Y × Outcome → Type 0
  Told r = r.0.log.length ≢ a.log.length → Tells request.body a r.0 (reply_of r.1)

  abbrev key : DocKey
  key = document_key request.body

  abbrev draw : ℕ
  draw = drawn a.log (seeing now a).seen

  change_tells : (change : Change) (what : What) (d : Copy Content Y)
      → step_on a.log (seeing now a).seen (moment_of now) request ≡ Ok change → what_of change.effect draw ≡ Some what
      → d.log ≡ a.log → d.accepted ≡ a.accepted
      → Told (made folds request change.reply (plain_entry key what) d)
  change_tells change what d e f same term differs =
      let s = setting_at a.log (seeing now a).seen (moment_of now) key.collection in
      let h : IsDrawn draw change what =
      effect_drawn draw change what change.effect (carries s request (doc_in (map.get a.log.items key)) change e) f in
      let told : (telling_next folds request change.reply d).cas ≡ draw =
      token_cas (tells_token request.body) (d.accepted, d.log.length + 1) change.reply ∙ h.told in
      let long : (with_entry d.log (plain_entry key what)).length ≡ a.log.length + 1 =
      length_is d.log key what ∙ ap (λ (l : Content). l.length + 1) same in
      record {
        length = long;
        above = subst (λ n. a.log.greatest_cas < n) (sym told) (above a.log.greatest_cas ((seeing now a).seen * 2 ^ 20) draw refl);
        greatest = greatest_is d.log key what ∙ ap (λ (l : Content). max l.greatest_cas (cas_of what)) same
            ∙ ap (λ n. max a.log.greatest_cas n) h.has ∙ above_all a.log.greatest_cas ((seeing now a).seen * 2 ^ 20) draw refl
            ∙ sym told;
        token = λ is. token_told (tells_token request.body) (d.accepted, d.log.length + 1) change.reply is
            ∙ ap (λ n. Some (n, d.log.length + 1)) term ∙ ap (λ n. Some (a.accepted, n)) (sym (length_is d.log key what));
      }

  told_ends : (luck : Luck Y) → Told (requested folds y luck request now a)
  told_ends luck =
      named_ends y luck request now a Told named (λ differs. absurd (differs refl))
      (served_ends y luck request (seeing now a) none Told (λ d why s _ differs. absurd (differs (ap (λ (l : Content). l.length) s.log)))
      (moment_of now) t.0
      (λ why _ differs. absurd (differs refl)) (λ change _ _ differs. absurd (differs refl))
      (λ change what d _ e f s. change_tells change what d e f s.log s.accepted))

  request_tells : b.log.length ≢ a.log.length → Tells request.body a b reply
  request_tells = asked y a b request now reply Told t told_ends

  pub tells_numbers : b.log.length ≢ a.log.length
      → (b.log.length ≡ a.log.length + 1) × (a.log.greatest_cas < reply.cas) × (b.log.greatest_cas ≡ reply.cas)
      × (tells_token request.body ≡ true → reply.token ≡ Some (a.accepted, b.log.length))
  tells_numbers differs = let h = request_tells differs in (h.length, h.above, h.greatest, h.token)
