use Rattle.std.proofs.Common.{◌≡◌, ℕ, ◌<◌, ◌≤◌, ◌-◌, ◌++◌, length, take}
use Rattle.kv_session.specs.Filling.{Filled, IsHeld}
use Rattle.kv_session.proofs.filling.fill.Given as goal

-- the bytes so far were taken, and none after the last that was missing
abbrev pub invariant-loop-taken : goal.invariant-loop-taken
invariant-loop-taken l =
    record {
      within : l.taken ≤ length l.piece;
      held : l.held.items ≡ l.fn.held.items ++ take l.taken l.piece;
      no_more : (k : ℕ) → k < l.taken → Filled (l.fn.held.items ++ take k l.piece) → ⊥;
      held_so : IsHeld l.held;
      before : l.before ≡ length l.fn.held.items;
    }

-- what is left of the piece
abbrev pub decreases-loop-taken : goal.decreases-loop-taken
decreases-loop-taken l = length l.piece - l.taken
