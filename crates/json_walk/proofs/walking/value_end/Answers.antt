use Rattle.json_walk.proofs.Heads.{value_bounds, value_end_is}
use Rattle.json_walk.proofs.walking.value_end.Goals as goal

pub overflow_sub-result : goal.overflow_sub-result
overflow_sub-result c = (value_bounds c.args.text.now c.split_at.result.1.now c.behind_value.result.now c.args.at c.requires c.split_at.ensures.back c.behind_value.ensures).less

pub returns-clause-found : goal.returns-clause-found
returns-clause-found c = value_end_is c.args.text.now c.split_at.result.1.now c.behind_value.result.now c.args.at c.split_at.ensures.back c.behind_value.ensures

pub returns-clause-within : goal.returns-clause-within
returns-clause-within c =
    let b = value_bounds c.args.text.now c.split_at.result.1.now c.behind_value.result.now c.args.at c.requires c.split_at.ensures.back c.behind_value.ensures in
    (b.low, b.high)
