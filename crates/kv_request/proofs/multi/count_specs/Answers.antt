use Rattle.std.proofs.Common.{◌≡◌, sym, ◌∙◌, length, arith, rules}
use Rattle.kv_request.specs.Viewing.{spec_seen}
use Rattle.kv_request.proofs.Walking.{count_step, counted, spec_shorter}
use Rattle.kv_request.proofs.multi.count_specs.Goals as goal

pub loop-behind-preserved : goal.loop-behind-preserved
loop-behind-preserved c =
    let spec = spec_seen c.in-Some.field-0-0 in
    record {
      within = omega (arith, c.loop-behind.invariant.within, spec_shorter c.args.edits c.loop-behind.rest.now spec c.in-Some.behind.now (sym c.in-Some.ensures));
      all = count_step c.loop-behind.count c.args.edits c.loop-behind.rest.now spec c.in-Some.behind.now (sym c.in-Some.ensures) ∙ c.loop-behind.invariant.all;
    }

pub returns-then-is_empty : goal.returns-then-is_empty
returns-then-is_empty c =
    let none : length c.loop-behind.rest.now ≡ 0 = search rules in
    sym (counted c.loop-behind.count c.args.edits c.loop-behind.rest.now none) ∙ c.loop-behind.invariant.all
