-- A request is refused early, or it is served.
use Rattle.std.proofs.Common.{◌∙◌, sym}
use Rattle.vb_core.proofs.Rested.{home_of}
use Rattle.vb_core.proofs.Served.{early_lives}
use Rattle.vb_core.proofs.Answered.{early_comes}
use Rattle.vb_core.proofs.vbucket.Vb.on_document.Goals as goal

pub returns-in-Some-clause-served : goal.returns-in-Some-clause-served
returns-in-Some-clause-served g c = λ copy is.
    early_comes g.D.Disk.states g.D.Disk.counts c.args.self.now c.args.request.now c.args.key.now c.in-Some.status c.args.now
    c.refusal.result
    (home_of _ c.args.self.now c.self.view_is c.self.invariant) c.requires.key (sym c.refused_early.ensures
    ∙ c.in-Some.is) c.refusal.ensures.reply copy is

pub returns-in-None-clause-served : goal.returns-in-None-clause-served
returns-in-None-clause-served g c = λ copy is.
    c.serve.ensures.served copy (early_lives g.D.Disk.states c.args.self.now copy c.args.request.now c.args.key.now
    (sym c.refused_early.ensures ∙ c.in-None.is) is)
