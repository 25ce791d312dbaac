use Rattle.kv_script.proofs.Places.{place_tested}
use Rattle.kv_script.proofs.chains.is_place.Goals as goal

pub returns-then-is_name : goal.returns-then-is_name
returns-then-is_name c = place_tested c.args.word.now c.args.later.now c.contains.result (c.is_name.ensures.0 c.if-is_name.true) c.contains.ensures.value
