use Rattle.std.specs.Prelude.{reverse}
use Rattle.std.proofs.Common.{◌∙◌, subst, sym, refl}
use Rattle.vb_log.specs.Joining.{AreNoted}
use Rattle.vb_log.proofs.Together.{SetSome, none_set, one_set, all_set, next_fits, none_in}
use Rattle.vb_log.proofs.setting.set_all.Goals as goal

pub loop-item-init : goal.loop-item-init
loop-item-init c = (
  subst (λ l. AreNoted c.args.items.now (reverse l) c.args.items.now) (sym c.new-notes.ensures.items) refl,
  none_set c.args.items.now c.args.new.items,
)

pub set-requires : goal.set-requires
set-requires c = next_fits c.args.items.now c.args.new.items c.loop-item.left.items c.pop.new.self.items c.in-Some.item c.loop-item.items c.loop-item.invariant.1 c.in-Some.ensures.items c.requires

pub set_back-requires : goal.set_back-requires
set_back-requires c = (c.args.items.now, c.set.ensures.noted c.args.items.now c.loop-item.invariant.0)

pub returns-in-Err-clause-err : goal.returns-in-Err-clause-err
returns-in-Err-clause-err c = c.set_back.ensures c.args.items.now (c.set.ensures.noted c.args.items.now c.loop-item.invariant.0)

pub loop-item-preserved : goal.loop-item-preserved
loop-item-preserved c =
    let h = c.loop-item.invariant in (
      c.set.ensures.noted c.args.items.now h.0,
      one_set c.args.items.now c.args.new.items c.loop-item.left.items c.pop.new.self.items c.in-Some.item c.loop-item.items c.set.new.items h.1 c.in-Some.ensures.items c.in_default-set.ensures.set,
    )

pub returns-clause-ok : goal.returns-clause-ok
returns-clause-ok c =
    let none = none_in c.loop-item.left.items (sym c.loop-item.left.ok.0 ∙ c.in_default.ensures.cases.0) in
    all_set c.args.items.now c.args.new.items c.loop-item.items (subst (λ l. SetSome c.args.items.now c.args.new.items l c.loop-item.items) none c.loop-item.invariant.1)
