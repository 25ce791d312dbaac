use Rattle.std.proofs.Common.{◌≡◌, [], ◌∷◌, ◌++◌, sym, ap, ◌∙◌, append_assoc, append-nil}
use Rattle.kv_request.specs.Viewing.{spec_seen, specs_at}
use Rattle.kv_request.proofs.Walking.{walks, walked}
use Rattle.kv_request.proofs.multi.copy_specs.Goals as goal

pub loop-spec-preserved : goal.loop-spec-preserved
loop-spec-preserved c =
    let spec = spec_seen c.in-Some.spec in
    let more = specs_at c.args.edits c.in-Some.behind.now in
    let w = walks c.args.edits c.loop-spec.rest.now spec c.in-Some.behind.now (sym c.in-Some.ensures) c.loop-spec.invariant.are in
    let pushed : c.push.new.self ≡ c.loop-spec.specs ++ spec ∷ [] =
    c.in_ok-push.ensures.ok ∙ ap (λ s. c.loop-spec.specs ++ s ∷ []) c.in_ok-copy_spec.ensures in
    record {
      are = w.are;
      all = ap (λ specs. specs ++ more) pushed
          ∙ append_assoc c.loop-spec.specs (spec ∷ []) more
          ∙ ap (λ specs. c.loop-spec.specs ++ specs) (sym w.specs)
          ∙ c.loop-spec.invariant.all;
    }

pub returns : goal.returns
returns c =
    sym (append-nil c.loop-spec.specs)
    ∙ ap (λ specs. c.loop-spec.specs ++ specs) (sym (walked c.args.edits c.loop-spec.rest.now (sym c.in_default.ensures) c.loop-spec.invariant.are))
    ∙ c.loop-spec.invariant.all
