-- What stays of a tracker's facts where a copy changes elsewhere.
use Rattle.std.specs.Prelude.{ℕ, List, Option, Some, None}
use Rattle.vb_log.specs.Content.{Content}
use Rattle.durability_core.specs.Tracking.{Tracked}
use Rattle.copy_model.specs.Copies.{Copy, OpenTicket, Sent, Seen}
use Rattle.copy_memory.specs.Tracks.{HasTracker}

-- a copy with other tickets, messages and changes to hand out
abbrev pub with_told : List OpenTicket → List (Sent Content) → List Seen → Copy Content ℕ → Copy Content ℕ
with_told tickets unspoken untold c = record c { tickets = tickets; unspoken = unspoken; untold = untold }

-- has the tracker that it had
pub same_tracker : (t : Option Tracked) (c : Copy Content ℕ) (tickets : List OpenTicket) (unspoken : List (Sent Content)) (untold : List Seen)
    → HasTracker t c → HasTracker t (with_told tickets unspoken untold c)
same_tracker None c tickets unspoken untold h = h
same_tracker (Some t) c tickets unspoken untold h = (
  h.0,
  record {
    chain = h.1.chain;
    own = h.1.own;
    as_many = h.1.as_many;
    others = h.1.others;
    in_range = h.1.in_range;
    own_mem = h.1.own_mem;
    own_disk = h.1.own_disk;
    knows_own = h.1.knows_own;
    waiting = h.1.waiting;
    deadlines = h.1.deadlines;
    inherited = h.1.inherited;
    base = h.1.base;
  },
)
