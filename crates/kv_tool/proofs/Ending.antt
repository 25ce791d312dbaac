-- What a run of `pipe` comes to.
use Rattle.std.proofs.Common.{◌≡◌, ◌≢◌, ℕ, ◌+◌, ◌≤◌, false, List, [], ◌∷◌, ◌++◌, length, take, drop, Option, Some, None, inl, inr, refl, sym, ap, subst, ◌∙◌, append_assoc, append-nil, take-append-drop, length-append, arith}
use Rattle.std.proofs.lemmas.List.{take-append-le}
use Rattle.std.proofs.Math.Seq.{take-append_seam}
use Rattle.std.specs.Io.KnownBytes.{IsAtEnd}
use Rattle.kv_edge.specs.Edge.{TookAll, PutAll}
use Rattle.kv_edge.specs.declared.transfer.WriteAll.TheVariants as writing
use Rattle.kv_edge.proofs.Known.{took_more, put_more}
use Rattle.kv_frame.specs.declared.frame.Frame.{Frame}
use Rattle.kv_frame.specs.declared.frame.TheConstants.{HEADER_LENGTH}
use Rattle.kv_frame.specs.declared.frame.Side.TheVariants.{Requests}
use Rattle.kv_frame.specs.Grammar.{spelling, IsFrame}
use Rattle.kv_frame.specs.Judging.{BeginsWith, Lacks}
use Rattle.kv_frame.proofs.Growing.{still_bad}
use Rattle.kv_request.specs.declared.reply.Reply.{Reply}
use Rattle.kv_request.specs.Sending.{sent_bytes}
use Rattle.kv_session.specs.Answers.{made_by}
use Rattle.kv_session.specs.Cutting.{Standing, at_start, behind_all}
use Rattle.kv_session.specs.Session.{Line, new_line}
use Rattle.kv_session.specs.Weaving.{IsTold, output}
use Rattle.kv_session.proofs.Weaving.{behind_one, read_more, read_further, told_more, reply_bytes_more}
use Rattle.magma_disk.specs.Counting.{Counts}
use Rattle.magma_disk.specs.Device.{Device}
use Rattle.vb_core.specs.Shown.{ShownVb}
use Rattle.kv_tool.specs.declared.connection.Connection.{Connection}
use Rattle.kv_tool.specs.declared.connection.Turn.TheVariants as turns
use Rattle.kv_tool.specs.declared.exit.Exit.{Exit}
use Rattle.kv_tool.specs.declared.exit.Exit.TheVariants as exits
use Rattle.kv_tool.specs.declared.piping.TheConstants.{INPUT_LIMIT}
use Rattle.kv_tool.specs.Course.{Knowledge, Answers, Begins, IsKnown}
use Rattle.kv_tool.specs.Outcomes.{Seen, Wrote, Run, IsRun, WroteAll, WroteFront, IsOpen, Loses}
use Rattle.kv_tool.specs.Progress.{IsNew, IsWaiting, IsOver, LosesOne, Turns, Replies, Progress, Empties, Finishes, StopsWith, Serves, EndsAt, Exceeds}
use Rattle.kv_tool.proofs.Running.{starts, takes, writes, told_so}

-- ---- bytes

-- a front of the replies is written
front_written : (seen : Seen) (run : Run) (written more : List ℕ) → Wrote seen written → output run.frames run.replies ≡ written ++ more → WroteFront seen run
front_written seen run written more wrote is =
    (length written, subst (Wrote seen) (sym (ap (take (length written)) is ∙ take-append_seam written more)) wrote)

-- what was written and a front of what is gathered, and what is behind it
split_at : (sent out last : List ℕ) (n : ℕ) → (sent ++ out) ++ last ≡ (sent ++ take n out) ++ (drop n out ++ last)
split_at sent out last n =
    ap (λ (l : List ℕ). (sent ++ l) ++ last) (sym (take-append-drop n out))
    ∙ ap (λ (l : List ℕ). l ++ last) (sym (append_assoc sent (take n out) (drop n out)))
    ∙ append_assoc (sent ++ take n out) (drop n out) last

split_all : (sent out : List ℕ) (n : ℕ) → sent ++ out ≡ (sent ++ take n out) ++ drop n out
split_all sent out n = ap (λ (l : List ℕ). sent ++ l) (sym (take-append-drop n out)) ∙ sym (append_assoc sent (take n out) (drop n out))

-- a frame that begins bytes begins them with more behind
begins_more : (bytes more : List ℕ) (f : Frame) (used : ℕ) → BeginsWith Requests bytes f used → BeginsWith Requests (bytes ++ more) f used
begins_more bytes more f used (within, frame) =
    (omega (arith, within, length-append bytes more), subst (IsFrame Requests f) (sym (take-append-le used bytes more within)) frame)

begins_whole : (held unfed : List ℕ) (count : ℕ) (f : Frame) (used : ℕ) → BeginsWith Requests (held ++ take count unfed) f used → BeginsWith Requests (held ++ unfed) f used
begins_whole held unfed count f used begins =
    subst (λ (l : List ℕ). BeginsWith Requests l f used) (append_assoc held (take count unfed) (drop count unfed) ∙ ap (λ (l : List ℕ). held ++ l) (take-append-drop count unfed))
    (begins_more (held ++ take count unfed) (drop count unfed) f used begins)

-- the bytes of a frame, and what is behind them
begun_so : (bytes : List ℕ) (f : Frame) (used : ℕ) → BeginsWith Requests bytes f used → bytes ≡ spelling f ++ drop used bytes
begun_so bytes f used (within, frame) = sym (take-append-drop used bytes) ∙ ap (λ (l : List ℕ). l ++ drop used bytes) frame.spelled

module _ {D : Type 0} (states : D → List Device) (counts : D → Counts) (now : ℕ) where
  -- the run so far
  abbrev run_of : (seen : Seen) (unfed : List ℕ) (c : Connection D) → Progress states counts now seen unfed c → Run
  run_of seen unfed c p = record { now = now; input = p.fed ++ unfed; frames = p.frames; rest = c.session.held ++ unfed; replies = p.replies; begin = p.begin; end = p.known }

  is_run : (seen : Seen) (unfed : List ℕ) (c : Connection D) → (p : Progress states counts now seen unfed c) → IsRun (λ moment. moment ≡ now) seen.disk_before (run_of seen unfed c p)
  is_run seen unfed c p = record {
    moment = refl;
    small = omega (arith, p.small, length-append p.fed unfed);
    begins = p.begins;
    served = record { read = read_further p.fed p.frames c.session.held unfed p.read; answered = p.answered };
  }

  -- a front of what is gathered is written, and nothing more
  stops : (seen : Seen) (unfed : List ℕ) (c : Connection D) (before after : Option (List ℕ)) (n : ℕ) → Progress states counts now (record seen { written_now = before }) unfed c → PutAll before after (take n c.out.items)
      → StopsWith states counts now (record seen { written_now = after }) c.vb exits.WriteFault
  stops seen unfed c before after n p put =
      let mid : Seen = record seen { written_now = before } in
      let end : Seen = record seen { written_now = after } in (
        run_of mid unfed c p,
        is_run mid unfed c p,
        p.took,
        front_written end (run_of mid unfed c p) (p.sent ++ take n c.out.items) (drop n c.out.items)
            (put_more seen.written_before before after p.sent (take n c.out.items) p.wrote put)
            (p.gathered ∙ split_all p.sent c.out.items n),
        p.is_known,
      )

  -- a write failed behind a frame
  pub fails : (seen : Seen) (unfed : List ℕ) (old new : Connection D) (before after : Option (List ℕ)) → Progress states counts now (record seen { written_now = before }) unfed old → Empties before after old new writing.Failed
      → Serves states counts now (record seen { written_now = after }) new (Some exits.WriteFault)
  fails seen unfed old new before after p (same, n, put) = (
    subst (λ (c : Connection D). StopsWith states counts now (record seen { written_now = after }) c.vb exits.WriteFault) (sym same) (stops seen unfed old before after n p put),
    λ e. cc,
  )

  -- all that is gathered is written
  wrote_all : (seen : Seen) (unfed : List ℕ) (c : Connection D) (before after : Option (List ℕ)) → (p : Progress states counts now (record seen { written_now = before }) unfed c) → PutAll before after c.out.items
      → WroteAll (record seen { written_now = after }) (run_of (record seen { written_now = before }) unfed c p)
  wrote_all seen unfed c before after p put = subst (PutAll seen.written_before after) (sym p.gathered) (put_more seen.written_before before after p.sent c.out.items p.wrote put)

  -- a piece is served, and the replies to it are written
  pub pauses : (seen : Seen) (old new : Connection D) (before after : Option (List ℕ)) (result : Option Exit) → Progress states counts now (record seen { written_now = before }) [] old → IsWaiting old.session
      → Finishes before after old new None result → Serves states counts now (record seen { written_now = after }) new result
  pauses seen old new before after result p waits (inl (is, others, empty, put)) =
      subst (Serves states counts now (record seen { written_now = after }) new) (sym is) (
        writes states counts now seen [] old new before after old.out.items p others put (sym (append-nil old.out.items) ∙ ap (λ (l : List ℕ). old.out.items ++ l) (sym empty)),
        subst (λ (c : Connection D). IsWaiting c.session) (sym others) waits,
        empty,
      )
  pauses seen old new before after result p waits (inr (is, same, n, put)) =
      subst (Serves states counts now (record seen { written_now = after }) new) (sym is) (
        subst (λ (c : Connection D). StopsWith states counts now (record seen { written_now = after }) c.vb exits.WriteFault) (sym same) (stops seen [] old before after n p put),
        λ e. cc,
      )

  -- all replies are written where no further frame is answered
  over : (seen : Seen) (unfed : List ℕ) (c : Connection D) (before after : Option (List ℕ)) (exit : Exit) → Progress states counts now (record seen { written_now = before }) unfed c → IsOver c exit → PutAll before after c.out.items
      → StopsWith states counts now (record seen { written_now = after }) c.vb exit × (exit ≢ exits.ReadFault)
  over seen unfed c before after exits.Done p ended put =
      let mid : Seen = record seen { written_now = before } in (
        (run_of mid unfed c p, is_run mid unfed c p, p.took, inl (ap (λ (s : Standing). s.quit) (sym p.stands) ∙ ended), wrote_all seen unfed c before after p put, p.is_known),
        λ e. cc,
      )
  over seen unfed c before after (exits.BadFrame place) p (going, offset, fault, bad, at) put =
      let mid : Seen = record seen { written_now = before } in (
        (
          run_of mid unfed c p,
          offset,
          fault,
          is_run mid unfed c p,
          p.took,
          ap (λ (s : Standing). s.quit) (sym p.stands) ∙ going,
          still_bad Requests c.session.held unfed offset fault bad,
          omega (arith, at, p.count, length-append c.session.held unfed, length-append p.fed unfed),
          wrote_all seen unfed c before after p put,
          p.is_known,
        ),
        λ e. cc,
      )
  over seen unfed c before after exits.Usage p none put = absurd none
  over seen unfed c before after exits.ReadFault p none put = absurd none
  over seen unfed c before after exits.WriteFault p none put = absurd none
  over seen unfed c before after exits.NoMemory p none put = absurd none
  over seen unfed c before after exits.DiskFault p none put = absurd none
  over seen unfed c before after (exits.Damaged disk place found expected) p none put = absurd none
  over seen unfed c before after exits.TooLong p none put = absurd none
  over seen unfed c before after (exits.Cut count) p none put = absurd none
  over seen unfed c before after (exits.Spent found) p none put = absurd none
  over seen unfed c before after (exits.OtherChain disk) p none put = absurd none
  over seen unfed c before after (exits.Full needed free) p none put = absurd none

  pub ends : (seen : Seen) (unfed : List ℕ) (old new : Connection D) (before after : Option (List ℕ)) (exit : Exit) (result : Option Exit) → Progress states counts now (record seen { written_now = before }) unfed old → IsOver old exit
      → Finishes before after old new (Some exit) result → Serves states counts now (record seen { written_now = after }) new result
  ends seen unfed old new before after exit result p ended (inl (is, others, empty, put)) =
      subst (Serves states counts now (record seen { written_now = after }) new) (sym is)
      (subst (λ (c : Connection D). StopsWith states counts now (record seen { written_now = after }) c.vb exit × (exit ≢ exits.ReadFault)) (sym others) (over seen unfed old before after exit p ended put))
  ends seen unfed old new before after exit result p ended (inr (is, same, n, put)) =
      subst (Serves states counts now (record seen { written_now = after }) new) (sym is) (
        subst (λ (c : Connection D). StopsWith states counts now (record seen { written_now = after }) c.vb exits.WriteFault) (sym same) (stops seen unfed old before after n p put),
        λ e. cc,
      )

  -- ---- a frame whose reply found no memory

  -- The frame behind a run so far that was answered, and what is known of the vbucket then.
  record Lost (seen : Seen) (unfed : List ℕ) (c : Connection D) (p : Progress states counts now seen unfed c) (vb : ShownVb D) : Type 0 where
    first : Frame
    used : ℕ
    reply : Reply
    last : Knowledge
    going : (behind_all at_start p.frames).quit ≡ false
    begins : BeginsWith Requests (c.session.held ++ unfed) first used
    told : IsTold (Answers now) (made_by (behind_all at_start p.frames).features first) p.known reply last
    known : IsKnown states counts seen.faults_before vb last

  lost : (seen : Seen) (unfed : List ℕ) (old mid : Connection D) → (p : Progress states counts now seen unfed old) → LosesOne states counts now old unfed mid → Lost seen unfed old p mid.vb
  lost seen unfed old mid p one =
      let f : Frame = one.first in
      let before : Standing = behind_all at_start p.frames in
      let replies : Replies states counts now old.vb (made_by before.features f) mid.vb one.reply =
      subst (λ (s : Standing). Replies states counts now old.vb (made_by s.features f) mid.vb one.reply) p.stands one.replies in
      let told = told_so states counts now seen.faults_before old.vb mid.vb (made_by before.features f) one.reply p.known p.is_known replies in
      record {
        first = f;
        used = one.used;
        reply = one.reply;
        last = told.0;
        going = ap (λ (s : Standing). s.quit) (sym p.stands) ∙ one.going;
        begins = begins_whole old.session.held unfed one.count f one.used one.begins;
        told = told.1;
        known = told.2;
      }

  loses : (seen : Seen) (unfed : List ℕ) (c : Connection D) (p : Progress states counts now seen unfed c) (vb : ShownVb D) → (l : Lost seen unfed c p vb) → Loses (run_of seen unfed c p) l.last
  loses seen unfed c p vb l = record {
    frame = l.first;
    more = drop l.used (c.session.held ++ unfed);
    reply = l.reply;
    sent = record { of_side = l.begins.1.of_side; fits = l.begins.1.fits };
    spelled = begun_so (c.session.held ++ unfed) l.first l.used l.begins;
    going = l.going;
    told = l.told;
  }

  -- the run with that frame
  abbrev longer : (seen : Seen) (unfed : List ℕ) (c : Connection D) (p : Progress states counts now seen unfed c) (vb : ShownVb D) → Lost seen unfed c p vb → Run
  longer seen unfed c p vb l = record {
    now = now;
    input = p.fed ++ unfed;
    frames = p.frames ++ l.first ∷ [];
    rest = drop l.used (c.session.held ++ unfed);
    replies = p.replies ++ l.reply ∷ [];
    begin = p.begin;
    end = l.last;
  }

  is_longer : (seen : Seen) (unfed : List ℕ) (c : Connection D) (p : Progress states counts now seen unfed c) (vb : ShownVb D) → (l : Lost seen unfed c p vb) → IsRun (λ moment. moment ≡ now) seen.disk_before (longer seen unfed c p vb l)
  is_longer seen unfed c p vb l =
      let run = is_run seen unfed c p in
      record {
        moment = refl;
        small = run.small;
        begins = p.begins;
        served = record {
          read = read_more (p.fed ++ unfed) p.frames (c.session.held ++ unfed) l.first l.used run.served.read l.going l.begins;
          answered = told_more (Answers now) at_start p.begin p.frames p.replies p.known l.last l.first l.reply p.answered l.told;
        };
      }

  -- a front of what is gathered is written, and the frame behind it was answered
  stops_longer : (seen : Seen) (unfed : List ℕ) (c : Connection D) (vb : ShownVb D) (before after : Option (List ℕ)) (n : ℕ) → (p : Progress states counts now (record seen { written_now = before }) unfed c)
      → Lost (record seen { written_now = before }) unfed c p vb → PutAll before after (take n c.out.items) → StopsWith states counts now (record seen { written_now = after }) vb exits.WriteFault
  stops_longer seen unfed c vb before after n p l put =
      let mid : Seen = record seen { written_now = before } in
      let end : Seen = record seen { written_now = after } in
      let bytes : List ℕ = sent_bytes (behind_one (behind_all at_start p.frames) l.first).features l.reply in (
        longer mid unfed c p vb l,
        is_longer mid unfed c p vb l,
        p.took,
        front_written end (longer mid unfed c p vb l) (p.sent ++ take n c.out.items) (drop n c.out.items ++ bytes)
            (put_more seen.written_before before after p.sent (take n c.out.items) p.wrote put)
            (
            reply_bytes_more (Answers now) at_start p.begin p.frames p.replies p.known l.first l.reply p.answered
            ∙ ap (λ (o : List ℕ). o ++ bytes) p.gathered
            ∙ split_at p.sent c.out.items bytes n
            ),
        l.known,
      )

  -- memory is refused, and what was gathered before is written
  pub falls_short : (seen : Seen) (unfed : List ℕ) (old mid new : Connection D) (before after : Option (List ℕ)) (result : Option Exit) → Progress states counts now (record seen { written_now = before }) unfed old
      → Turns states counts now old unfed mid turns.NoMemory → Finishes before after mid new (Some exits.NoMemory) result → Serves states counts now (record seen { written_now = after }) new result
  falls_short seen unfed old mid new before after result p (kept, inl stays) (inl (is, others, empty, put)) =
      let left : Seen = record seen { written_now = before } in
      let end : Seen = record seen { written_now = after } in
      subst (Serves states counts now end new) (sym is) (
        (
          run_of left unfed old p,
          p.known,
          is_run left unfed old p,
          p.took,
          wrote_all seen unfed old before after p (subst (PutAll before after) kept put),
          inl refl,
          subst (λ (v : ShownVb D). IsKnown states counts seen.faults_before v p.known) (sym (ap (λ (c : Connection D). c.vb) others ∙ stays)) p.is_known,
        ),
        λ e. cc,
      )
  falls_short seen unfed old mid new before after result p (kept, inr one) (inl (is, others, empty, put)) =
      let left : Seen = record seen { written_now = before } in
      let end : Seen = record seen { written_now = after } in
      let l = lost left unfed old mid p one in
      subst (Serves states counts now end new) (sym is) (
        (
          run_of left unfed old p,
          l.last,
          is_run left unfed old p,
          p.took,
          wrote_all seen unfed old before after p (subst (PutAll before after) kept put),
          inr (loses left unfed old p mid.vb l),
          subst (λ (c : Connection D). IsKnown states counts seen.faults_before c.vb l.last) (sym others) l.known,
        ),
        λ e. cc,
      )
  falls_short seen unfed old mid new before after result p (kept, inl stays) (inr (is, same, n, put)) =
      let end : Seen = record seen { written_now = after } in
      subst (Serves states counts now end new) (sym is) (
        subst (λ (v : ShownVb D). StopsWith states counts now end v exits.WriteFault) (sym (ap (λ (c : Connection D). c.vb) same ∙ stays))
            (stops seen unfed old before after n p (subst (λ (l : List ℕ). PutAll before after (take n l)) kept put)),
        λ e. cc,
      )
  falls_short seen unfed old mid new before after result p (kept, inr one) (inr (is, same, n, put)) =
      let left : Seen = record seen { written_now = before } in
      let end : Seen = record seen { written_now = after } in
      subst (Serves states counts now end new) (sym is) (
        subst (λ (c : Connection D). StopsWith states counts now end c.vb exits.WriteFault) (sym same)
            (stops_longer seen unfed old mid.vb before after n p (lost left unfed old mid p one) (subst (λ (l : List ℕ). PutAll before after (take n l)) kept put)),
        λ e. cc,
      )

  -- ---- the end of the input

  -- between two reads: bytes of a frame are missing, and all replies are written
  pub record Pauses (seen : Seen) (c : Connection D) : Type 0 where
    pub progress : Progress states counts now seen [] c
    pub waits : IsWaiting c.session
    pub empty : c.out.items ≡ []

  -- before the first byte
  pub starts_paused : (seen : Seen) (left written : Option (List ℕ)) (begin : Knowledge) (new : Connection D) → IsNew new → Begins seen.disk_before begin → IsKnown states counts seen.faults_before new.vb begin
      → Pauses (record seen { left_before = left; left_now = left; written_before = written; written_now = written }) new
  starts_paused seen left written begin new fresh begins known =
      let lacks : Lacks Requests new_line.held HEADER_LENGTH = inl (omega arith, omega arith) in
      record {
        progress = starts states counts now seen left written begin new fresh begins known;
        waits = record {
          going = ap (λ (l : Line). l.quit) fresh.session;
          lacking = (HEADER_LENGTH, subst (λ (l : Line). Lacks Requests l.held HEADER_LENGTH) (sym fresh.session) lacks);
        };
        empty = fresh.out;
      }

  -- a piece is taken
  pub takes_piece : (seen : Seen) (c : Connection D) (left : Option (List ℕ)) (buffer piece : List ℕ) (count : ℕ) → Pauses seen c → TookAll seen.left_now left (take count buffer) → piece ≡ take count buffer → c.fed + length piece ≤ INPUT_LIMIT
      → Progress states counts now (record seen { left_now = left }) piece c
  takes_piece seen c left buffer piece count p took is small = takes states counts now seen c left piece p.progress (subst (TookAll seen.left_now left) (sym is) took) small

  paused_all : (seen : Seen) (c : Connection D) → (p : Pauses seen c) → WroteAll seen (run_of seen [] c p.progress)
  paused_all seen c p =
      subst (Wrote seen) (sym (p.progress.gathered ∙ ap (λ (l : List ℕ). p.progress.sent ++ l) p.empty ∙ append-nil p.progress.sent)) p.progress.wrote

  paused_open : (seen : Seen) (c : Connection D) → (p : Pauses seen c) → IsOpen (run_of seen [] c p.progress)
  paused_open seen c p = record {
    no_quit = ap (λ (s : Standing). s.quit) (sym p.progress.stands) ∙ p.waits.going;
    lacking = (p.waits.lacking.0, subst (λ (l : List ℕ). Lacks Requests l p.waits.lacking.0) (sym (append-nil c.session.held)) p.waits.lacking.1);
  }

  -- a read failed
  pub read_failed : (seen : Seen) (c : Connection D) → Pauses seen c → StopsWith states counts now seen c.vb exits.ReadFault
  read_failed seen c p = (run_of seen [] c p.progress, is_run seen [] c p.progress, p.progress.took, paused_open seen c p, paused_all seen c p, p.progress.is_known)

  -- the input ended
  pub input_ended : (seen : Seen) (c : Connection D) (exit : Exit) → Pauses seen c → IsAtEnd seen.left_now → EndsAt c exit → StopsWith states counts now seen c.vb exit
  input_ended seen c exits.Done p end none =
      (run_of seen [] c p.progress, is_run seen [] c p.progress, p.progress.took, inr (append-nil c.session.held ∙ none, end), paused_all seen c p, p.progress.is_known)
  input_ended seen c (exits.Cut count) p end (is, some) = (
    run_of seen [] c p.progress,
    is_run seen [] c p.progress,
    p.progress.took,
    end,
    paused_open seen c p,
    is ∙ ap (λ (l : List ℕ). length l) (sym (append-nil c.session.held)),
    some,
    paused_all seen c p,
    p.progress.is_known,
  )
  input_ended seen c exits.Usage p end none = absurd none
  input_ended seen c exits.ReadFault p end none = absurd none
  input_ended seen c exits.WriteFault p end none = absurd none
  input_ended seen c exits.NoMemory p end none = absurd none
  input_ended seen c exits.DiskFault p end none = absurd none
  input_ended seen c (exits.Damaged disk place found expected) p end none = absurd none
  input_ended seen c exits.TooLong p end none = absurd none
  input_ended seen c (exits.BadFrame place) p end none = absurd none
  input_ended seen c (exits.Spent found) p end none = absurd none
  input_ended seen c (exits.OtherChain disk) p end none = absurd none
  input_ended seen c (exits.Full needed free) p end none = absurd none

  -- the source gave nothing
  pub stays_left : (seen : Seen) (c : Connection D) (left : Option (List ℕ)) → Pauses seen c → seen.left_now ≡ left → Pauses (record seen { left_now = left }) c
  stays_left seen c left p same = subst (λ (l : Option (List ℕ)). Pauses (record seen { left_now = l }) c) same p

  -- one byte more came than are taken
  too_long : (seen : Seen) (c : Connection D) (left : Option (List ℕ)) (more : ℕ) → Pauses seen c → c.fed ≡ INPUT_LIMIT → TookAll seen.left_now left (more ∷ [])
      → StopsWith states counts now (record seen { left_now = left }) c.vb exits.TooLong
  too_long seen c left more p whole took = (
    run_of seen [] c p.progress,
    more,
    is_run seen [] c p.progress,
    omega (arith, whole, p.progress.count, length-append p.progress.fed []),
    took_more seen.left_before seen.left_now left (p.progress.fed ++ []) (more ∷ []) p.progress.took took,
    paused_open seen c p,
    paused_all seen c p,
    p.progress.is_known,
  )

  pub exceeds : (seen : Seen) (c : Connection D) (left : Option (List ℕ)) (exit : Exit) → Pauses seen c → c.fed ≡ INPUT_LIMIT → Exceeds seen.left_now left c exit
      → StopsWith states counts now (record seen { left_now = left }) c.vb exit
  exceeds seen c left exits.TooLong p whole (more, took) = too_long seen c left more p whole took
  exceeds seen c left exits.ReadFault p whole same = read_failed (record seen { left_now = left }) c (stays_left seen c left p same)
  exceeds seen c left exits.Usage p whole (same, end, none) = absurd none
  exceeds seen c left exits.WriteFault p whole (same, end, none) = absurd none
  exceeds seen c left exits.NoMemory p whole (same, end, none) = absurd none
  exceeds seen c left exits.DiskFault p whole (same, end, none) = absurd none
  exceeds seen c left (exits.Damaged disk place found expected) p whole (same, end, none) = absurd none
  exceeds seen c left exits.Done p whole (same, end, none) =
      input_ended (record seen { left_now = left }) c exits.Done (stays_left seen c left p same) end none
  exceeds seen c left (exits.Cut count) p whole (same, end, some) =
      input_ended (record seen { left_now = left }) c (exits.Cut count) (stays_left seen c left p same) end some
  exceeds seen c left (exits.BadFrame place) p whole (same, end, none) = absurd none
  exceeds seen c left (exits.Spent found) p whole (same, end, none) = absurd none
  exceeds seen c left (exits.OtherChain disk) p whole (same, end, none) = absurd none
  exceeds seen c left (exits.Full needed free) p whole (same, end, none) = absurd none
