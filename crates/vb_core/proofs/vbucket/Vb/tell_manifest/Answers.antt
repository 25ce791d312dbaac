use Rattle.std.specs.Prelude.{length}
use Rattle.std.proofs.Common.{arith, ap}
use Rattle.vb_core.proofs.Manifests.{kept_short}
use Rattle.vb_core.proofs.vbucket.Vb.tell_manifest.Goals as goal

pub success-requires-clause-value : goal.success-requires-clause-value
success-requires-clause-value g c = omega (
  arith,
  ap length c.in_ok-text.ensures,
  kept_short c.manifest.result.now
      c.manifest.ensures.kept,
)
