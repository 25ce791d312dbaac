use Rattle.std.proofs.Common.{arith}
use Rattle.json_walk.proofs.Heads.{ordered, lies, part_is}
use Rattle.json_walk.proofs.walking.part_from.Goals as goal

pub overflow_sub-result : goal.overflow_sub-result
overflow_sub-result c =
    let o = ordered c.args.text.now c.split_at.result.1.now c.skip_blanks-start.result.now c.behind_key-key_to.result.now c.behind_colon-value.result.now c.args.at c.args.shape c.requires c.split_at.ensures.back c.skip_blanks-start.ensures c.behind_key-key_to.ensures c.behind_colon-value.ensures in
    omega (arith, o.begun, o.called, o.valued)

pub overflow_sub-result-2 : goal.overflow_sub-result-2
overflow_sub-result-2 c =
    let o = ordered c.args.text.now c.split_at.result.1.now c.skip_blanks-start.result.now c.behind_key-key_to.result.now c.behind_colon-value.result.now c.args.at c.args.shape c.requires c.split_at.ensures.back c.skip_blanks-start.ensures c.behind_key-key_to.ensures c.behind_colon-value.ensures in
    omega (arith, o.begun, o.called, o.valued)

pub overflow_sub-result-3 : goal.overflow_sub-result-3
overflow_sub-result-3 c =
    let o = ordered c.args.text.now c.split_at.result.1.now c.skip_blanks-start.result.now c.behind_key-key_to.result.now c.behind_colon-value.result.now c.args.at c.args.shape c.requires c.split_at.ensures.back c.skip_blanks-start.ensures c.behind_key-key_to.ensures c.behind_colon-value.ensures in
    omega (arith, o.begun, o.called, o.valued)

pub returns-clause-found : goal.returns-clause-found
returns-clause-found c = part_is c.args.text.now c.split_at.result.1.now c.skip_blanks-start.result.now c.behind_key-key_to.result.now c.behind_colon-value.result.now c.args.at c.args.shape c.split_at.ensures.back c.skip_blanks-start.ensures c.behind_key-key_to.ensures c.behind_colon-value.ensures

pub returns-clause-within : goal.returns-clause-within
returns-clause-within c =
    lies c.args.text.now c.skip_blanks-start.result.now c.behind_key-key_to.result.now c.behind_colon-value.result.now c.args.at
    (ordered c.args.text.now c.split_at.result.1.now c.skip_blanks-start.result.now c.behind_key-key_to.result.now c.behind_colon-value.result.now c.args.at c.args.shape c.requires c.split_at.ensures.back c.skip_blanks-start.ensures c.behind_key-key_to.ensures c.behind_colon-value.ensures)
