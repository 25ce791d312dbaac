use Rattle.std.proofs.Common.{rules, ◌≡◌, ◌⊎◌, false, inl, inr, sym, ◌∙◌}
use Rattle.manifest_rules.specs.Text.{text_of}
use Rattle.manifest_rules.specs.State.{is_sound}
use Rattle.manifest_rules.proofs.States.{no_manifest, other_manifest}
use Rattle.manifest_rules.proofs.state.read_sound.Goals as goal
use Rattle.manifest_rules.proofs.state.read_sound.Goals.{else-branch-via-then-branch+in_ok-is_text+else-branch-2, else-branch-via-else-branch}

pub returns-in-Err-Status : goal.returns-in-Err-Status
returns-in-Err-Status c = let refused = rw c.in-Err-Status.field-0-is at c.in-Err-Status.ensures.refused in no_manifest c.args.bytes.now refused.1

pub returns-else-branch : goal.returns-else-branch
returns-else-branch c =
    let bad : (is_sound c.in-Ok.manifest ≡ false) ⊎ (text_of c.in-Ok.manifest ≡ c.args.bytes.now → ⊥) = elim c.else-branch.branch [
      | else-branch-via-then-branch+in_ok-is_text+else-branch-2 w ↦ inr (λ same. search (rules, w.in_ok-is_text.ensures, w.if-branch-2.false, same))
      | else-branch-via-else-branch w ↦ inl (sym c.in_ok-is_sound.ensures ∙ w.if-branch.false)
    ] in
    other_manifest c.args.bytes.now c.in-Ok.manifest c.in-Ok.ensures.found.1 bad
