-- A copy with what its logs come to in place of the logs, and the law that its steps are the same.
use Rattle.std.specs.Prelude.{map as list_map, option_map}
use Rattle.vb_log.specs.Content.{Content}
use Rattle.vb_log.specs.Logs.{LogKind}
use Rattle.copy_model.specs.Copies.{Message, EntrySent, AckSent, RejoinSent, AdoptSent, Sent, Pair, Copy}
use Rattle.copy_model.specs.Events.{Event, Requests, Polls, Forgets, Hears, Speaks, TellsChange, Ticks, Flushes, Cleans, Fences, Promotes, SetsState, Told, Answered, PolledTo, Spoke, ToldChange, FlushedTo, CleanedTo, FencedWith, Ended, Quietly}

abbrev pub folded_message : {L : Type 0} → LogKind L → Message L → Message Content
folded_message k (EntrySent term position entry) = EntrySent term position entry
folded_message k (AckSent term mem disk) = AckSent term mem disk
folded_message k (RejoinSent term accepted length incarnation) = RejoinSent term accepted length incarnation
folded_message k (AdoptSent term incarnation log) = AdoptSent term incarnation (k.view log)

abbrev pub folded_sent : {L : Type 0} → LogKind L → Sent L → Sent Content
folded_sent k sent = record { from = sent.from; to = sent.to; vbucket = sent.vbucket; message = folded_message k sent.message }

abbrev pub folded_pair : {L Y : Type 0} → LogKind L → Pair L Y → Pair Content Y
folded_pair k d = record { promise = d.promise; accepted = d.accepted; log = k.view d.log; incarnation = d.incarnation; layout = d.layout }

-- a copy with what its logs come to
abbrev pub folded : {L Y : Type 0} → LogKind L → Copy L Y → Copy Content Y
folded k c = record {
  chain = c.chain;
  place = c.place;
  number = c.number;
  role = c.role;
  promise = c.promise;
  accepted = c.accepted;
  log = k.view c.log;
  whole = c.whole;
  incarnation = c.incarnation;
  seen = c.seen;
  inherited = c.inherited;
  deadlines = c.deadlines;
  known = c.known;
  tickets = c.tickets;
  unspoken = list_map (folded_sent k) c.unspoken;
  untold = c.untold;
  disk = folded_pair k c.disk;
  torn = option_map (folded_pair k) c.torn;
  unflushed_entries = c.unflushed_entries;
  unflushed_bytes = c.unflushed_bytes;
  anew = c.anew;
}

abbrev pub folded_event : {L : Type 0} → LogKind L → Event L → Event Content
folded_event k (Requests request now) = Requests request now
folded_event k (Polls ticket) = Polls ticket
folded_event k (Forgets ticket) = Forgets ticket
folded_event k (Hears sent) = Hears (folded_sent k sent)
folded_event k Speaks = Speaks
folded_event k TellsChange = TellsChange
folded_event k (Ticks now) = Ticks now
folded_event k Flushes = Flushes
folded_event k (Cleans most) = Cleans most
folded_event k (Fences term) = Fences term
folded_event k (Promotes term answers weak) = Promotes term answers weak
folded_event k (SetsState state) = SetsState state

abbrev pub folded_told : {L : Type 0} → LogKind L → Told L → Told Content
folded_told k (Answered outcome) = Answered outcome
folded_told k (PolledTo polled) = PolledTo polled
folded_told k (Spoke sent) = Spoke (option_map (folded_sent k) sent)
folded_told k (ToldChange seen) = ToldChange seen
folded_told k (FlushedTo result) = FlushedTo result
folded_told k (CleanedTo result) = CleanedTo result
folded_told k (FencedWith result) = FencedWith result
folded_told k (Ended result) = Ended result
folded_told k Quietly = Quietly

-- what an event leaves and tells, with what logs come to
abbrev pub folded_after : {L Y : Type 0} → LogKind L → Copy L Y × Told L → Copy Content Y × Told Content
folded_after k r = (folded k r.0, folded_told k r.1)
