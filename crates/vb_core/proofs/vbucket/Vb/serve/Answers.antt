-- What is planned is made, and what is refused changes nothing.
use Rattle.std.specs.Prelude.{◌≡◌, ◌+◌, ◌*◌, ◌^◌, ℕ, max}
use Rattle.std.proofs.Common.{◌∙◌, ap}
use Rattle.std.proofs.lemmas.Result.{IfOk-weaker}
use Rattle.copy_model.specs.declared.outcome.Outcome.TheVariants as outcomes
use Rattle.vb_core.specs.Shown.{ShownVb}
use Rattle.vb_core.proofs.Rested.{home_of, home_rests, lives_rest}
use Rattle.vb_core.proofs.Entered.{entered_there}
use Rattle.vb_core.proofs.Answered.{effect_comes, refused_comes}
use Rattle.vb_core.proofs.vbucket.Vb.serve.Goals as goal

pub returns-in-Ok-clause-served : goal.returns-in-Ok-clause-served
returns-in-Ok-clause-served g c = λ copy lives.
    let vb = c.args.self.now in
    let drawn : c.in_ok-cas.cas ≡ max (vb.recent.greatest_cas + 1) (vb.seen * 2 ^ 20) =
    c.in_ok-cas.ensures ∙ ap (λ (n : ℕ). max (n + 1) (c.self.inside.seen * 2 ^ 20)) c.greatest_cas.ensures
    ∙ ap (λ (v : ShownVb g.row.D.Denot). max (v.recent.greatest_cas + 1) (v.seen * 2 ^ 20)) c.self.view_is in
    IfOk-weaker c.effect.result _ _ (λ told h.
    effect_comes g.D.Disk.states g.D.Disk.counts vb c.plan_on.new.self c.effect.new.self c.args.request.now c.args.key.now
    c.in_ok-cas.cas c.args.now c.in-Ok.change (outcomes.Reply told) copy
    (record {
      home = home_of _ vb c.self.view_is c.self.invariant;
      named = c.requires.key;
      level = c.requires.level;
      early = c.requires.early;
      lives = lives;
      rests = c.in-Ok.ensures.rests;
    })
    c.in-Ok.ensures.counts.faults.no_lower drawn (c.in-Ok.ensures.planned copy lives.stands) h)
    (c.effect.ensures.effect c.args.now copy (lives_rest g.D.Disk.states vb c.plan_on.new.self copy c.in-Ok.ensures.rests lives))

pub returns-in-Err-Status-clause-served : goal.returns-in-Err-Status-clause-served
returns-in-Err-Status-clause-served g c = λ copy lives.
    let vb = c.args.self.now in
    refused_comes g.D.Disk.states g.D.Disk.counts vb c.plan_on.new.self c.args.request.now c.args.key.now c.in-Err-Status.status
    c.args.now c.refusal.result copy
    (record {
      home = home_of _ vb c.self.view_is c.self.invariant;
      named = c.requires.key;
      level = c.requires.level;
      early = c.requires.early;
      lives = lives;
      rests = c.in-Err-Status.ensures.rests;
    })
    (rw c.in-Err-Status.field-0-is at (c.in-Err-Status.ensures.planned copy lives.stands))
    (rw c.in-Err-Status.field-0-is at c.refusal.ensures.reply)

pub effect-requires-clause-home : goal.effect-requires-clause-home
effect-requires-clause-home g c = home_rests g.D.Disk.states c.args.self.now c.plan_on.new.self c.in-Ok.ensures.rests
    (home_of _ c.args.self.now c.self.view_is c.self.invariant)

pub plan_on-requires-clause-there : goal.plan_on-requires-clause-there
plan_on-requires-clause-there g c = entered_there c.args.self.now c.args.request.now c.args.key.now c.requires.early
