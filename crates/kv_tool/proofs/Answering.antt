-- One frame is answered.
use Rattle.std.proofs.Common.{◌≡◌, ℕ, ◌+◌, ◌-◌, ◌≤◌, List, ◌++◌, Result, Ok, length, take, drop, inl, inr, refl, sym, ap, subst, ◌∙◌, arith}
use Rattle.std.specs.Global.{Vec}
use Rattle.std.proofs.lemmas.List.{length-append, length-take, length-take-le, length-drop}
use Rattle.kv_frame.specs.declared.frame.Frame.{Frame}
use Rattle.kv_frame.specs.declared.frame.TheConstants.{HEADER_LENGTH}
use Rattle.kv_frame.specs.declared.frame.Side.{Side}
use Rattle.kv_frame.specs.declared.frame.Side.TheVariants.{Requests}
use Rattle.kv_frame.specs.declared.judging.Fault.{Fault}
use Rattle.kv_frame.specs.declared.judging.Fault.TheVariants as faults
use Rattle.kv_frame.specs.Grammar.{section}
use Rattle.kv_frame.specs.Judging.{BeginsWith, stated_framing, Lacks, IsBad}
use Rattle.kv_request.specs.declared.request.Request.{Request}
use Rattle.kv_request.specs.declared.reply.Reply.{Reply}
use Rattle.kv_edge.specs.declared.traits.NoMemory.{NoMemory}
use Rattle.kv_session.specs.declared.session.Next.{Next}
use Rattle.kv_session.specs.declared.session.Next.TheVariants as nexts
use Rattle.kv_session.specs.Answers.{Made, made_by}
use Rattle.kv_session.specs.Cutting.{behind}
use Rattle.kv_request.specs.Sending.{sent_bytes}
use Rattle.kv_session.specs.Session.{Line, Feeds, Advances}
use Rattle.magma_disk.specs.Counting.{Counts}
use Rattle.magma_disk.specs.Device.{Device}
use Rattle.magma_store.specs.Counting.{CountsStore}
use Rattle.vb_core.specs.Shown.{ShownVb}
use Rattle.kv_tool.specs.declared.connection.Connection.{Connection}
use Rattle.kv_tool.specs.declared.exit.Exit.TheVariants as exits
use Rattle.kv_tool.specs.declared.connection.Turn.{Turn}
use Rattle.kv_tool.specs.declared.connection.Turn.TheVariants as turns
use Rattle.kv_tool.specs.Progress.{standing, Asks, Replies, FeedsOn, FeedsOne, Turns, Gathers}

-- what is wrong shows within the bytes
pub bad_within : (side : Side) (bytes : List ℕ) (place : ℕ) (fault : Fault) → IsBad side bytes place fault → place ≤ length bytes
bad_within side bytes place faults.Magic (long, at, none) = omega (arith, long, at)
bad_within side bytes place faults.Lengths (long, at, magic, has, less) = omega (arith, long, at)
bad_within side bytes place faults.TooBig (long, at, magic, has, less) = omega (arith, long, at)
bad_within side bytes place faults.Extra (magic, good, whole, offset, at, (es, rest, fit, cut, end, some, none)) =
    let size : ℕ = stated_framing magic bytes in
    let parts : length (take size (drop HEADER_LENGTH bytes)) ≡ length (section es) + length rest = ap (λ (l : List ℕ). length l) cut ∙ length-append (section es) rest in
    omega (arith, at, end, parts, length-take size (drop HEADER_LENGTH bytes), length-drop HEADER_LENGTH bytes, good.whole)

-- bytes that are held were fed
pub held_fed : (old : Line) (bytes : List ℕ) (line new : Line) (count fed : ℕ) → Feeds old bytes line count → new ≡ line → length old.held ≤ fed → length new.held ≤ fed + count
held_fed old bytes line new count fed feeds same within =
    omega (
      arith,
      within,
      ap (λ (l : Line). length l.held) same,
      ap (λ (l : Line). length l.held) feeds.taken,
      length-append old.held (take count bytes),
      length-take-le count bytes feeds.within,
    )

-- a place in the bytes held is below the limit of what is fed
pub bad_short : (old : Line) (bytes : List ℕ) (line : Line) (count place fed : ℕ) (fault : Fault) → Advances old bytes line count (nexts.Bad place fault) → length old.held ≤ fed → (place ≤ length line.held) × (length line.held ≤ fed + count)
bad_short old bytes line count place fed fault (mid, feeds, (going, bad, is)) held =
    (bad_within Requests line.held place fault (subst (λ (l : Line). IsBad Requests l.held place fault) (sym is) bad), held_fed old bytes mid line count fed feeds is held)

-- what an answer of the session gives
pub given_so : (given : ℕ × Next) (next : Next) → given.1 ≡ next → ◌≡◌ {A = Result (ℕ × Next) NoMemory} (Ok given) (Ok (given.0, next))
given_so given next is = ap (λ (x : Next). let r : Result (ℕ × Next) NoMemory = Ok (given.0, x) in r) is

-- a frame that begins what is held begins what was held and what was fed
begins_fed : (old line : Line) (bytes : List ℕ) (count : ℕ) (f : Frame) (used : ℕ) → Feeds old bytes line count → BeginsWith Requests line.held f used → BeginsWith Requests (old.held ++ take count bytes) f used
begins_fed old line bytes count f used feeds begins = subst (λ (l : Line). BeginsWith Requests l.held f used) feeds.taken begins

-- gathering leaves the vbucket
pub gathers_vb : {D : Type 0} (old new : Connection D) (count : ℕ) (reply : Reply) (turn : Turn) → Gathers old count reply new turn → new.vb ≡ old.vb
gathers_vb {D} old new count reply (turns.Answered n) (same, appended, others) = ap (λ (c : Connection D). c.vb) others
gathers_vb old new count reply turns.NoMemory (kept, same) = same
gathers_vb old new count reply turns.Waits none = absurd none
gathers_vb old new count reply (turns.Over exit) none = absurd none

-- what the vbucket counts at a request is counted behind the gathering too
pub counts_gathered : {D : Type 0} (counts : D → Counts) (old mid new : Connection D) (count : ℕ) (reply : Reply) (turn : Turn) → CountsStore ⊥ (counts old.vb.store.disk) (counts mid.vb.store.disk) → Gathers mid count reply new turn
    → CountsStore ⊥ (counts old.vb.store.disk) (counts new.vb.store.disk)
counts_gathered {D} counts old mid new count reply turn counted gathers =
    subst (λ (v : ShownVb D). CountsStore ⊥ (counts old.vb.store.disk) (counts v.store.disk)) (sym (gathers_vb mid new count reply turn gathers)) counted

module _ {D : Type 0} (states : D → List Device) (counts : D → Counts) (now : ℕ) where
  -- a session that was fed and gave something out: the connection behind the feeding
  abbrev fed_of : Connection D → Line → ℕ → Connection D
  fed_of old line count = record old { session = line; fed = old.fed + count }

  feeds_on : (old : Connection D) (bytes : List ℕ) (line : Line) (count : ℕ) → Feeds old.session bytes line count → FeedsOn old bytes (fed_of old line count) count
  feeds_on old bytes line count feeds = record { feeds = feeds; others = refl }

  -- a request that is given out is answered by the vbucket
  passes_on : (old mid new : Connection D) (bytes : List ℕ) (count : ℕ) (made : Request) (reply : Reply) (turn : Turn) → Advances old.session bytes mid.session count (nexts.Request made)
      → Asks states counts now made old.vb reply mid.vb → mid.out ≡ old.out → mid.fed ≡ old.fed + count → Gathers mid count reply new turn → Turns states counts now old bytes new turn
  passes_on old mid new bytes count made reply (turns.Answered n) (line, feeds, (going, f, used, begins, m, is)) asks out fed (same, appended, others) =
      subst (λ (n : ℕ). FeedsOne states counts now old bytes new n) (sym same) (
        fed_of old line count,
        feeds_on old bytes line count feeds,
        record {
          first = f;
          used = used;
          reply = reply;
          going = going;
          begins = begins;
          left = ap (λ (c : Connection D). c.session.held) others ∙ ap (λ (l : Line). l.held) is;
          stands = ap (λ (c : Connection D). standing c.session) others ∙ ap standing is ∙ ap (behind (standing line)) (sym m);
          replies = subst (λ (d : Made). Replies states counts now old.vb d new.vb reply) (sym m) (subst (λ (c : Connection D). Asks states counts now made old.vb reply c.vb) (sym others) asks);
          gathered =
              appended
              ∙ ap (λ (v : Vec ℕ). v.items ++ sent_bytes mid.session.features reply) out
              ∙ ap (λ (c : Connection D). old.out.items ++ sent_bytes c.session.features reply) (sym others);
          fed = ap (λ (c : Connection D). c.fed) others ∙ fed;
        },
      )
  passes_on old mid new bytes count made reply turns.NoMemory (line, feeds, (going, f, used, begins, m, is)) asks out fed (kept, stays) = (
    kept ∙ ap (λ (v : Vec ℕ). v.items) out,
    inr record {
      first = f;
      used = used;
      count = count;
      reply = reply;
      going = sym (ap (λ (l : Line). l.quit) feeds.taken) ∙ going;
      begins = begins_fed old.session line bytes count f used feeds begins;
      replies =
          subst (λ (l : Line). Replies states counts now old.vb (made_by l.features f) new.vb reply) feeds.taken
          (subst (λ (d : Made). Replies states counts now old.vb d new.vb reply) (sym m) (subst (λ (v : ShownVb D). Asks states counts now made old.vb reply v) (sym stays) asks));
    },
  )
  passes_on old mid new bytes count made reply turns.Waits gives asks out fed none = absurd none
  passes_on old mid new bytes count made reply (turns.Over exit) gives asks out fed none = absurd none

  -- the connection behind a request that its vbucket was asked
  pub asks_on : (old mid new : Connection D) (bytes : List ℕ) (line : Line) (count : ℕ) (made : Request) (reply : Reply) (turn : Turn) → Advances old.session bytes line count (nexts.Request made)
      → mid ≡ record old { session = line; vb = mid.vb; fed = old.fed + count } → Asks states counts now made old.vb reply mid.vb → Gathers mid count reply new turn → Turns states counts now old bytes new turn
  asks_on old mid new bytes line count made reply turn given others asks gathers =
      passes_on old mid new bytes count made reply turn
      (subst (λ (l : Line). Advances old.session bytes l count (nexts.Request made)) (sym (ap (λ (c : Connection D). c.session) others)) given)
      asks
      (ap (λ (c : Connection D). c.out) others)
      (ap (λ (c : Connection D). c.fed) others)
      gathers

  -- a reply of the session's own is gathered
  pub tells : (old mid new : Connection D) (bytes : List ℕ) (count : ℕ) (reply : Reply) (turn : Turn) → Advances old.session bytes mid.session count (nexts.Refused reply)
      → mid.vb ≡ old.vb → mid.out ≡ old.out → mid.fed ≡ old.fed + count → Gathers mid count reply new turn → Turns states counts now old bytes new turn
  tells old mid new bytes count reply (turns.Answered n) (line, feeds, (going, f, used, features, quit, begins, m, is)) stays out fed (same, appended, others) =
      subst (λ (n : ℕ). FeedsOne states counts now old bytes new n) (sym same) (
        fed_of old line count,
        feeds_on old bytes line count feeds,
        record {
          first = f;
          used = used;
          reply = reply;
          going = going;
          begins = begins;
          left = ap (λ (c : Connection D). c.session.held) others ∙ ap (λ (l : Line). l.held) is;
          stands = ap (λ (c : Connection D). standing c.session) others ∙ ap standing is ∙ ap (behind (standing line)) (sym m);
          replies = subst (λ (d : Made). Replies states counts now old.vb d new.vb reply) (sym m) (ap (λ (c : Connection D). c.vb) others ∙ stays, refl);
          gathered =
              appended
              ∙ ap (λ (v : Vec ℕ). v.items ++ sent_bytes mid.session.features reply) out
              ∙ ap (λ (c : Connection D). old.out.items ++ sent_bytes c.session.features reply) (sym others);
          fed = ap (λ (c : Connection D). c.fed) others ∙ fed;
        },
      )
  tells old mid new bytes count reply turns.NoMemory gives stays out fed (kept, same) = (kept ∙ ap (λ (v : Vec ℕ). v.items) out, inl (same ∙ stays))
  tells old mid new bytes count reply turns.Waits gives stays out fed none = absurd none
  tells old mid new bytes count reply (turns.Over exit) gives stays out fed none = absurd none

  -- where the session stays as it was fed
  stays_fed : (old : Connection D) (bytes : List ℕ) (line new : Line) (count : ℕ) → Feeds old.session bytes line count → new ≡ line → FeedsOn old bytes (fed_of old new count) count
  stays_fed old bytes line new count feeds same = feeds_on old bytes new count (subst (λ (l : Line). Feeds old.session bytes l count) (sym same) feeds)

  -- bytes are missing, and all that there were are fed
  pub waits : (old : Connection D) (bytes : List ℕ) (line : Line) (count missing : ℕ) → Advances old.session bytes line count (nexts.More missing) → count ≡ length bytes
      → Turns states counts now old bytes (fed_of old line count) turns.Waits
  waits old bytes line count missing (mid, feeds, (going, lacks, is)) all = (
    subst (λ (n : ℕ). FeedsOn old bytes (fed_of old line count) n) all (stays_fed old bytes mid line count feeds is),
    record {
      going = ap (λ (l : Line). l.quit) is ∙ going;
      lacking = (missing, subst (λ (l : Line). Lacks Requests l.held missing) (sym is) lacks);
    },
  )

  -- no frame begins so
  pub breaks : (old : Connection D) (bytes : List ℕ) (line : Line) (count place at : ℕ) (fault : Fault) → Advances old.session bytes line count (nexts.Bad place fault) → length old.session.held ≤ old.fed
      → at ≡ old.fed + count - length line.held + place → Turns states counts now old bytes (fed_of old line count) (turns.Over (exits.BadFrame at))
  breaks old bytes line count place at fault (mid, feeds, (going, bad, is)) held at-is =
      let within = held_fed old.session bytes mid line count old.fed feeds is held in (
        count,
        stays_fed old bytes mid line count feeds is,
        (
          ap (λ (l : Line). l.quit) is ∙ going,
          place,
          fault,
          subst (λ (l : Line). IsBad Requests l.held place fault) (sym is) bad,
          omega (arith, at-is, within),
        ),
      )
