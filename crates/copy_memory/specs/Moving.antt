-- How a copy's numbers move.
use Rattle.std.specs.Prelude.{◌≡◌, ◌⊎◌, ◌<◌, ◌≤◌, ℕ}
use Rattle.vb_log.specs.Content.{Content}
use Rattle.copy_model.specs.Copies.{Copy}
use Rattle.copy_memory.specs.Shown.{ShownMemory}

-- a copy that has promised a term
abbrev pub promised : ℕ → Copy Content ℕ → Copy Content ℕ
promised term c = record c { promise = term }

-- a log of a term goes on from that of a memory: it is of a later term, or of the same and no shorter
abbrev pub GoesOn : ShownMemory → ℕ → Content → Type 0
GoesOn m term content =
    (m.core.accepted < term) ⊎ ((m.core.accepted ≡ term) × (m.core.length ≤ content.length))
