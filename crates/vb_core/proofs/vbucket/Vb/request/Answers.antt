-- A request is answered at the moment that was seen, or refused for want of memory.
use Rattle.vb_core.proofs.Rested.{home_of}
use Rattle.vb_core.proofs.Answered.{request_comes, want_comes}
use Rattle.copy_model.specs.declared.outcome.Outcome.TheVariants as outcomes
use Rattle.vb_core.proofs.vbucket.Vb.request.Goals as goal

pub returns-in-Ok-clause-step : goal.returns-in-Ok-clause-step
returns-in-Ok-clause-step g c = λ copy is level.
    request_comes g.D.Disk.states g.D.Disk.counts _ c.args.self.now c.answer.new.self c.args.request.now c.args.now c.min-now.result
    c.max-self-inside.result (outcomes.Reply c.in-Ok.reply) copy
    c.self.view_is c.min-now.ensures c.max-self-inside.ensures is c.in-Ok.ensures.step

pub returns-in-Err-clause-step : goal.returns-in-Err-clause-step
returns-in-Err-clause-step g c = λ copy is level.
    want_comes g.D.Disk.states g.D.Disk.counts _ c.args.self.now _ c.answer.new.self c.args.request.now c.args.now
    c.max-self-inside.result c.refuse-in-Err.result copy
    c.self.view_is c.self-2.view_is (home_of _ c.args.self.now c.self.view_is c.self.invariant) c.in-Err.ensures.stays
    c.refuse-in-Err.ensures.refusal is
