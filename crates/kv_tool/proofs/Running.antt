-- A run of `pipe` goes on.
use Rattle.std.proofs.Common.{◌≡◌, ℕ, ◌+◌, ◌≤◌, List, [], ◌∷◌, ◌++◌, length, take, drop, Option, refl, sym, ap, subst, ◌∙◌, append_assoc, append-nil, take-append-drop, length-append, length-drop, arith}
use Rattle.std.proofs.lemmas.List.{length-take-le}
use Rattle.std.proofs.Math.Seq.{drop-length}
use Rattle.kv_edge.specs.Edge.{TookAll, PutAll}
use Rattle.kv_edge.proofs.Known.{took_more, put_more, took_nothing, put_nothing}
use Rattle.kv_frame.specs.declared.frame.Frame.{Frame}
use Rattle.kv_request.specs.declared.reply.Reply.{Reply}
use Rattle.kv_session.specs.Answers.{Made, Passed, Told, made_by}
use Rattle.kv_session.specs.Cutting.{Standing, at_start, behind_all, IsRead}
use Rattle.kv_session.specs.Weaving.{IsTold}
use Rattle.kv_request.specs.Sending.{sent_bytes}
use Rattle.kv_session.specs.Session.{Line}
use Rattle.kv_session.proofs.Weaving.{behind_one, stands_more, read_more, read_further, told_more, reply_bytes_more}
use Rattle.magma_disk.specs.Counting.{Counts}
use Rattle.magma_disk.specs.Device.{Device}
use Rattle.vb_core.specs.Shown.{ShownVb}
use Rattle.kv_tool.specs.declared.connection.Connection.{Connection}
use Rattle.kv_tool.specs.declared.piping.TheConstants.{INPUT_LIMIT}
use Rattle.kv_tool.specs.Course.{Knowledge, Answers, Begins, IsKnown}
use Rattle.kv_tool.specs.Outcomes.{Seen}
use Rattle.kv_tool.specs.Progress.{IsNew, standing, Replies, AnswersOne, FeedsOn, FeedsOne, Progress}

module _ {D : Type 0} (states : D → List Device) (counts : D → Counts) (now : ℕ) where
  -- before the first byte
  pub starts : (seen : Seen) (left written : Option (List ℕ)) (begin : Knowledge) (new : Connection D) → IsNew new → Begins seen.disk_before begin → IsKnown states counts seen.faults_before new.vb begin
      → Progress states counts now (record seen { left_before = left; left_now = left; written_before = written; written_now = written }) [] new
  starts seen left written begin new fresh begins known = record {
    fed = [];
    frames = [];
    replies = [];
    begin = begin;
    known = begin;
    sent = [];
    took = took_nothing left;
    small = omega arith;
    count = fresh.fed;
    read = record { spelled = sym (ap (λ (l : Line). l.held) fresh.session); sent = tt; open_before = tt };
    stands = ap standing fresh.session;
    begins = begins;
    answered = refl;
    is_known = known;
    wrote = put_nothing written;
    gathered = sym fresh.out;
  }

  -- a piece was taken
  pub takes : (seen : Seen) (connection : Connection D) (left : Option (List ℕ)) (piece : List ℕ) → Progress states counts now seen [] connection → TookAll seen.left_now left piece → connection.fed + length piece ≤ INPUT_LIMIT
      → Progress states counts now (record seen { left_now = left }) piece connection
  takes seen connection left piece p took small = record {
    fed = p.fed;
    frames = p.frames;
    replies = p.replies;
    begin = p.begin;
    known = p.known;
    sent = p.sent;
    took = subst (λ (l : List ℕ). TookAll seen.left_before left (l ++ piece)) (append-nil p.fed) (took_more seen.left_before seen.left_now left (p.fed ++ []) piece p.took took);
    small = omega (arith, p.count);
    count = p.count;
    read = p.read;
    stands = p.stands;
    begins = p.begins;
    answered = p.answered;
    is_known = p.is_known;
    wrote = p.wrote;
    gathered = p.gathered;
  }

  -- bytes were fed
  pub feeds : (seen : Seen) (unfed : List ℕ) (old new : Connection D) (n : ℕ) → Progress states counts now seen unfed old → FeedsOn old unfed new n → Progress states counts now seen (drop n unfed) new
  feeds seen unfed old new n p fed =
      let line = ap (λ (c : Connection D). c.session) fed.others in
      let more : List ℕ = take n unfed in
      let count : length more ≡ n = length-take-le n unfed fed.feeds.within in
      record {
        fed = p.fed ++ more;
        frames = p.frames;
        replies = p.replies;
        begin = p.begin;
        known = p.known;
        sent = p.sent;
        took = subst (λ (l : List ℕ). TookAll seen.left_before seen.left_now l) (ap (λ (l : List ℕ). p.fed ++ l) (sym (take-append-drop n unfed)) ∙ sym (append_assoc p.fed more (drop n unfed))) p.took;
        small = omega (arith, p.small, count, length-append p.fed more, length-drop n unfed, fed.feeds.within);
        count = ap (λ (c : Connection D). c.fed) fed.others ∙ omega (arith, p.count, count, length-append p.fed more);
        read = subst (λ (l : Line). IsRead (p.fed ++ more) p.frames l.held) (sym fed.feeds.taken) (read_further p.fed p.frames old.session.held more p.read);
        stands = ap standing fed.feeds.taken ∙ p.stands;
        begins = p.begins;
        answered = p.answered;
        is_known = subst (λ (c : Connection D). IsKnown states counts seen.faults_before c.vb p.known) (sym fed.others) p.is_known;
        wrote = p.wrote;
        gathered = p.gathered ∙ ap (λ (c : Connection D). p.sent ++ c.out.items) (sym fed.others);
      }

  -- a front of what is gathered was written
  pub writes : (seen : Seen) (unfed : List ℕ) (old new : Connection D) (before after : Option (List ℕ)) (front : List ℕ) → Progress states counts now (record seen { written_now = before }) unfed old
      → new ≡ record old { out = new.out } → PutAll before after front → old.out.items ≡ front ++ new.out.items → Progress states counts now (record seen { written_now = after }) unfed new
  writes seen unfed old new before after front p others put split = record {
    fed = p.fed;
    frames = p.frames;
    replies = p.replies;
    begin = p.begin;
    known = p.known;
    sent = p.sent ++ front;
    took = p.took;
    small = p.small;
    count = ap (λ (c : Connection D). c.fed) others ∙ p.count;
    read = subst (λ (c : Connection D). IsRead p.fed p.frames c.session.held) (sym others) p.read;
    stands = ap (λ (c : Connection D). standing c.session) others ∙ p.stands;
    begins = p.begins;
    answered = p.answered;
    is_known = subst (λ (c : Connection D). IsKnown states counts seen.faults_before c.vb p.known) (sym others) p.is_known;
    wrote = put_more seen.written_before before after p.sent front p.wrote put;
    gathered = p.gathered ∙ ap (λ (l : List ℕ). p.sent ++ l) split ∙ sym (append_assoc p.sent front new.out.items);
  }

  -- all bytes were fed
  pub feeds_all : (seen : Seen) (unfed : List ℕ) (old new : Connection D) → Progress states counts now seen unfed old → FeedsOn old unfed new (length unfed) → Progress states counts now seen [] new
  feeds_all seen unfed old new p fed = subst (λ (l : List ℕ). Progress states counts now seen l new) (drop-length unfed) (feeds seen unfed old new (length unfed) p fed)

  -- ---- a frame

  -- what is known of the vbucket behind a reply
  pub told_so : (before : ℕ) (old new : ShownVb D) (m : Made) (reply : Reply) (known : Knowledge) → IsKnown states counts before old known → Replies states counts now old m new reply
      → (after : Knowledge) × IsTold (Answers now) m known reply after × IsKnown states counts before new after
  told_so before old new (Told own features quit) reply known is (same, told) =
      (known, (told, refl), subst (λ (v : ShownVb D). IsKnown states counts before v known) (sym same) is)
  told_so before old new (Passed made) reply known is asks = asks before known is

  -- a frame was answered
  pub answers : (seen : Seen) (unfed : List ℕ) (old new : Connection D) → Progress states counts now seen unfed old → AnswersOne states counts now old new → Progress states counts now seen unfed new
  answers seen unfed old new p one =
      let f : Frame = one.first in
      let before : Standing = behind_all at_start p.frames in
      let replies : Replies states counts now old.vb (made_by before.features f) new.vb one.reply =
      subst (λ (s : Standing). Replies states counts now old.vb (made_by s.features f) new.vb one.reply) p.stands one.replies in
      let told = told_so seen.faults_before old.vb new.vb (made_by before.features f) one.reply p.known p.is_known replies in
      let behind : standing new.session ≡ behind_one before f = one.stands ∙ ap (λ (s : Standing). behind_one s f) p.stands in
      record {
        fed = p.fed;
        frames = p.frames ++ f ∷ [];
        replies = p.replies ++ one.reply ∷ [];
        begin = p.begin;
        known = told.0;
        sent = p.sent;
        took = p.took;
        small = p.small;
        count = one.fed ∙ p.count;
        read =
            subst (λ (l : List ℕ). IsRead p.fed (p.frames ++ f ∷ []) l) (sym one.left)
            (read_more p.fed p.frames old.session.held f one.used p.read (ap (λ (s : Standing). s.quit) (sym p.stands) ∙ one.going) one.begins);
        stands = behind ∙ sym (stands_more at_start p.frames f);
        begins = p.begins;
        answered = told_more (Answers now) at_start p.begin p.frames p.replies p.known told.0 f one.reply p.answered told.1;
        is_known = told.2;
        wrote = p.wrote;
        gathered =
            reply_bytes_more (Answers now) at_start p.begin p.frames p.replies p.known f one.reply p.answered
            ∙ ap (λ (l : List ℕ). l ++ sent_bytes (behind_one before f).features one.reply) p.gathered
            ∙ append_assoc p.sent old.out.items (sent_bytes (behind_one before f).features one.reply)
            ∙ ap (λ (s : Standing). p.sent ++ (old.out.items ++ sent_bytes s.features one.reply)) (sym behind)
            ∙ ap (λ (l : List ℕ). p.sent ++ l) (sym one.gathered);
      }

  -- bytes were fed, and the frame that they ended was answered
  pub feeds_one : (seen : Seen) (unfed : List ℕ) (old new : Connection D) (n : ℕ) → Progress states counts now seen unfed old → FeedsOne states counts now old unfed new n → Progress states counts now seen (drop n unfed) new
  feeds_one seen unfed old new n p (mid, fed, one) = answers seen (drop n unfed) mid new (feeds seen unfed old mid n p fed) one
