use Rattle.std.proofs.Common.{sym, ap, ◌∙◌}
use Rattle.std.specs.List.{flat_map}
use Rattle.kv_request.specs.Multi.{own_checks}
use Rattle.kv_request.specs.Tables.{first_failing}
use Rattle.kv_request.specs.Viewing.{spec_seen, specs_at}
use Rattle.kv_request.proofs.Failing.{fails_before, passes_before}
use Rattle.kv_request.proofs.Walking.{walks}
use Rattle.kv_request.proofs.multi.check_each.Goals as goal

pub returns-in-Some-check_own : goal.returns-in-Some-check_own
returns-in-Some-check_own c =
    let spec = spec_seen c.in-Some.spec in
    let w = walks c.args.edits c.loop-spec.rest.now spec c.in-Some.behind.now (sym c.in-Some.ensures) c.loop-spec.invariant.are in
    sym (fails_before (own_checks spec) (flat_map own_checks (specs_at c.args.edits c.in-Some.behind.now)) c.in-Some-check_own.status (sym c.in-Some-check_own.ensures))
    ∙ sym (ap (λ specs. first_failing (flat_map own_checks specs)) w.specs)
    ∙ c.loop-spec.invariant.same

pub loop-spec-preserved : goal.loop-spec-preserved
loop-spec-preserved c =
    let spec = spec_seen c.in-Some.spec in
    let w = walks c.args.edits c.loop-spec.rest.now spec c.in-Some.behind.now (sym c.in-Some.ensures) c.loop-spec.invariant.are in
    record {
      are = w.are;
      same = sym (passes_before (own_checks spec) (flat_map own_checks (specs_at c.args.edits c.in-Some.behind.now)) (sym c.in_default-check_own.ensures))
          ∙ sym (ap (λ specs. first_failing (flat_map own_checks specs)) w.specs)
          ∙ c.loop-spec.invariant.same;
    }
