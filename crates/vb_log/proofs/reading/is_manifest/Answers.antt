use Rattle.std.proofs.Common.{◌↔◌, IsTrue, IfOk, refl, sym, subst}
use Rattle.std.proofs.lemmas.Bool.{false≢true}
use Rattle.vb_log.specs.Layout.{Spells, as_manifest}
use Rattle.vb_log.proofs.Pieces.{manifest_there, manifest_none}
use Rattle.vb_log.proofs.reading.is_manifest.Goals as goal
use Rattle.vb_log.proofs.reading.is_manifest.Goals.{in-Ok, in-Err-Status, in-Err-NoMemory}

pub returns : goal.returns
returns c = elim c.match-read_manifest.branch [
  | in-Ok w ↦ let found = w.in-Ok.ensures.found in subst (λ r. IfOk r (λ b. IsTrue b ↔ Spells as_manifest c.args.bytes.now)) (sym w.result-is) (λ _. manifest_there c.args.bytes.now _ found.0 found.1, λ _. refl)
  | in-Err-Status w ↦
      let refused = rw w.in-Err-Status.field-0-is at w.in-Err-Status.ensures.refused in
      subst (λ r. IfOk r (λ b. IsTrue b ↔ Spells as_manifest c.args.bytes.now)) (sym w.result-is) (λ e. absurd (false≢true e), λ s. absurd (manifest_none c.args.bytes.now refused.1 s))
  | in-Err-NoMemory w ↦ subst (λ r. IfOk r (λ b. IsTrue b ↔ Spells as_manifest c.args.bytes.now)) (sym w.result-is) tt
]
