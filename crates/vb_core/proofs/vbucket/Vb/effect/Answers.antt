-- A change that is planned is made, where it is one.
use Rattle.std.proofs.Common.{sym, subst}
use Rattle.std.proofs.lemmas.Result.{IfOk-weaker}
use Rattle.kv_request.proofs.Small.{small_fits}
use Rattle.doc_model.specs.declared.document.What.{What}
use Rattle.doc_model.specs.declared.document.What.TheVariants as whats
use Rattle.doc_step.specs.declared.Effect.{Effect}
use Rattle.vb_log.specs.Logs.{folds}
use Rattle.copy_model.specs.declared.outcome.Outcome.TheVariants as outcomes
use Rattle.copy_model.specs.Requests.{effecting, what_of}
use Rattle.vb_core.specs.Coming.{ComesWell}
use Rattle.vb_core.specs.Flat.{flat}
use Rattle.vb_core.proofs.Answered.{nothing_comes, at_once_comes}
use Rattle.vb_core.proofs.vbucket.Vb.effect.Goals as goal

pub returns-in-Nothing-clause-effect : goal.returns-in-Nothing-clause-effect
returns-in-Nothing-clause-effect g c = λ now copy lives.
    let vb = c.args.self.now in
    let request = c.args.request.now in
    let reply = c.args.change.reply in
    subst (λ (e : Effect). ComesWell g.D.Disk.states g.D.Disk.counts copy
    (λ luck. effecting folds (flat copy.chain) luck now request c.args.cas reply (what_of e c.args.cas) copy) vb vb
    (outcomes.Reply reply))
    (sym c.in-Nothing.is)
    (nothing_comes g.D.Disk.states g.D.Disk.counts vb request c.args.cas now reply copy c.requires.home lives)

pub returns-in-Nothing-clause-fits : goal.returns-in-Nothing-clause-fits
returns-in-Nothing-clause-fits g c = small_fits c.args.change.reply c.requires.planned.reply

pub returns-in-Put-clause-effect : goal.returns-in-Put-clause-effect
returns-in-Put-clause-effect g c = λ now copy lives.
    let vb = c.args.self.now in
    let request = c.args.request.now in
    let reply = c.args.change.reply in
    let what : What = whats.Put c.in-Put.doc in
    IfOk-weaker c.change.result _ _ (λ told h.
    subst (λ (e : Effect). ComesWell g.D.Disk.states g.D.Disk.counts copy
    (λ luck. effecting folds (flat copy.chain) luck now request c.args.cas reply (what_of e c.args.cas) copy) vb c.change.new.self
    (outcomes.Reply told))
    (sym c.in-Put.is)
    (at_once_comes g.D.Disk.states g.D.Disk.counts vb c.change.new.self request c.args.key.now c.args.cas now reply what
    (outcomes.Reply told) copy c.requires.level c.requires.key h))
    (c.change.ensures.changed copy lives)

pub returns-in-Remove-clause-effect : goal.returns-in-Remove-clause-effect
returns-in-Remove-clause-effect g c = λ now copy lives.
    let vb = c.args.self.now in
    let request = c.args.request.now in
    let reply = c.args.change.reply in
    let what : What = whats.Remove c.args.cas in
    IfOk-weaker c.change-in-Remove.result _ _ (λ told h.
    subst (λ (e : Effect). ComesWell g.D.Disk.states g.D.Disk.counts copy
    (λ luck. effecting folds (flat copy.chain) luck now request c.args.cas reply (what_of e c.args.cas) copy) vb
    c.change-in-Remove.new.self (outcomes.Reply told))
    (sym c.in-Remove.is)
    (at_once_comes g.D.Disk.states g.D.Disk.counts vb c.change-in-Remove.new.self request c.args.key.now c.args.cas now reply what
    (outcomes.Reply told) copy c.requires.level c.requires.key h))
    (c.change-in-Remove.ensures.changed copy lives)
