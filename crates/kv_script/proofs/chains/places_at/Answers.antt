use Rattle.std.proofs.Common.{ap, ◌∙◌, ◌∷◌, ◌++◌, [], arith}
use Rattle.kv_script.proofs.Places.{place_more}
use Rattle.kv_script.proofs.chains.places_at.Goals as goal

pub loop-word-preserved : goal.loop-word-preserved
loop-word-preserved c =
    c.in_ok-push.ensures.ok ∙ ap (λ x. c.loop-word.places ++ x ∷ []) c.in_ok-place_at.ensures
    ∙ place_more c.args.words.now c.loop-word.places c.loop-word.word-index _ (omega arith) c.loop-word.invariant
