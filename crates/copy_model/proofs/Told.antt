-- What a polled ticket tells.
use Rattle.std.specs.Prelude.{◌≡◌, ◌≢◌, ◌↔◌, Option, Some, None, refl}
use Rattle.std.proofs.Common.{sym, ap}
use Rattle.doc_model.specs.declared.status.TheConstants.Status as status
use Rattle.kv_request.specs.declared.reply.Reply.{Reply}
use Rattle.copy_model.specs.declared.outcome.Ticket.{Ticket}
use Rattle.copy_model.specs.declared.outcome.Polled.{Polled}
use Rattle.copy_model.specs.declared.outcome.Polled.TheVariants as polls
use Rattle.copy_model.specs.Copies.{Fate, Waiting, Stood, Aborted, Left, Copy}
use Rattle.copy_model.specs.Requests.{ambiguous, stood_at, polled_as}
use Rattle.copy_model.specs.Grown.{TellsWhere}

reply_in : Reply → Polled → Reply
reply_in other (polls.Done reply) = reply
reply_in other (polls.Pending ticket) = other

done_is : (r s : Reply) → polls.Done r ≡ polls.Done s → r ≡ s
unfolding reply_in
done_is r s e = ap (reply_in s) e

isnt_ambiguous : (ticket : Ticket) (fate : Option Fate) (reply : Reply)
    → polls.Done (ambiguous ticket.reply) ≡ polls.Done reply
    → reply.status ≢ status.SYNC_WRITE_AMBIGUOUS → TellsWhere ticket fate reply
isnt_ambiguous ticket fate reply e isnt =
    absurd (isnt (ap (λ (r : Reply). r.status) (sym (done_is (ambiguous ticket.reply) reply e))))

pub tells_where : {L Y : Type 0} (ticket : Ticket) (c : Copy L Y) (fate : Option Fate)
    (reply : Reply)
    → (polled_as ticket c fate).1 ≡ polls.Done reply → reply.status ≢ status.SYNC_WRITE_AMBIGUOUS
    → TellsWhere ticket fate reply
tells_where ticket c None reply e isnt = isnt_ambiguous ticket None reply e isnt
tells_where ticket c (Some Waiting) reply e isnt = absurd (cc)
tells_where ticket c (Some (Stood position)) reply e isnt =
    record {
      position = position;
      stood = refl;
      told = sym
          (done_is (stood_at position ticket.reply) reply e);
    }
tells_where ticket c (Some Aborted) reply e isnt = isnt_ambiguous ticket (Some Aborted) reply e isnt
tells_where ticket c (Some Left) reply e isnt = isnt_ambiguous ticket (Some Left) reply e isnt

ticket_in : Ticket → Polled → Ticket
ticket_in other (polls.Done reply) = other
ticket_in other (polls.Pending ticket) = ticket

pub waits_where : {L Y : Type 0} (ticket : Ticket) (c : Copy L Y) (fate : Option Fate)
    (next : Ticket)
    → ((polled_as ticket c fate).1 ≡ polls.Pending next) ↔ ((fate ≡ Some Waiting) × (next ≡ ticket))
unfolding ticket_in
waits_where ticket c None next = (λ e. absurd (cc), λ e. let n = e.0 in absurd (cc))
waits_where ticket c (Some Waiting) next =
    (λ e. (refl, sym (ap (ticket_in next) e)), λ e. ap (λ t. polls.Pending t) (sym e.1))
waits_where ticket c (Some (Stood position)) next =
    (λ e. absurd (cc), λ e. let n = e.0 in absurd (cc))
waits_where ticket c (Some Aborted) next = (λ e. absurd (cc), λ e. let n = e.0 in absurd (cc))
waits_where ticket c (Some Left) next = (λ e. absurd (cc), λ e. let n = e.0 in absurd (cc))
