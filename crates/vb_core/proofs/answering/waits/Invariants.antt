use Rattle.std.proofs.Common.{◌≡◌, false, take}
use Rattle.std.specs.List.{list_any}
use Rattle.std.specs.Ordering.{eq_by_cmp}
use Rattle.doc_model.specs.Keys.{key_cmp}
use Rattle.vb_core.proofs.answering.waits.Given as goal

-- none of the changes so far is of the key
abbrev pub invariant-loop-change : goal.invariant-loop-change
invariant-loop-change l = list_any (λ p. eq_by_cmp key_cmp p.key l.key) (take l.change-index l.prepares) ≡ false
