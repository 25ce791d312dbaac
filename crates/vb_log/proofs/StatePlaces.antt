-- The place where bytes break the layout of a manifest's state is within them.
use Rattle.std.specs.Prelude.{ℕ, ◌+◌, ◌-◌, ◌≤◌, List, ◌++◌, length, drop}
use Rattle.std.specs.Int.{w32, to_be_bytes}
use Rattle.std.proofs.Common.{ap, arith}
use Rattle.std.proofs.lemmas.List.{length-append, length-drop}
use Rattle.manifest_rules.specs.Catalog.{scope_ids, collection_ids}
use Rattle.manifest_rules.specs.State.{at_length, at_text, IdsBreak, at_count, at_id, Breaks, in_text, in_scopes, in_collections}
use Rattle.manifest_rules.proofs.Faults.{text_within, ids_within}
use Rattle.manifest_rules.proofs.States.{flat, flat-length}
use Rattle.vb_log.specs.Layout.{StateBreaksWith}

in_ids : (present bytes : List ℕ) (offset : ℕ) → IdsBreak present bytes offset → offset ≤ length bytes
in_ids present bytes offset (at_count place none) = omega arith
in_ids present bytes offset (at_id count gone rest place few less front may none) =
    omega (arith, ap length front, length-append (to_be_bytes w32 count ++ flat gone) rest, length-append (to_be_bytes w32 count) (flat gone), flat-length gone)

pub place_within : (bytes : List ℕ) (place : ℕ) → Breaks bytes place → place ≤ length bytes
place_within bytes place (in_text (at_length is none)) = omega arith
place_within bytes place (in_text (at_text count rest is few front none)) = omega (arith, ap length front, length-append (to_be_bytes w32 count) rest)
place_within bytes place (in_scopes m text offset is t b) =
    omega (arith, text_within bytes m text t, in_ids (scope_ids m.scopes) (drop text bytes) offset b, length-drop text bytes)
place_within bytes place (in_collections m text size offset gone is t i b) =
    omega (arith, ids_within (scope_ids m.scopes) bytes gone text size (text_within bytes m text t) i, in_ids (collection_ids m.scopes) (drop (text + size) bytes) offset b, length-drop (text + size) bytes)

pub breaks_with : (bytes : List ℕ) (place : ℕ) → Breaks bytes place → StateBreaksWith bytes (length bytes - place)
breaks_with bytes place b = let low = place_within bytes place b in record { place = place; parts = omega arith; breaks = b }
