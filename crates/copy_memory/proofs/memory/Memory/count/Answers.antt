use Rattle.std.specs.Prelude.{◌≡◌, nat_eq, true, false}
use Rattle.std.proofs.Common.{◌∙◌, ap, arith}
use Rattle.std.proofs.lemmas.Bool.Decides.{nat_tests}
use Rattle.copy_memory.specs.Shown.{ShownMemory}
use Rattle.copy_memory.proofs.Settles.{ends_other, ends_itself}
use Rattle.copy_memory.proofs.memory.Memory.count.Goals as goal

pub returns-then-place-self-clause-ok : goal.returns-then-place-self-clause-ok
returns-then-place-self-clause-ok c =
    let own = c.if-place-self.true ∙ ap (λ (x : ShownMemory). x.core.place) c.self.view_is in
    let same : nat_eq c.args.place c.args.self.now.core.place ≡ true = grind (arith, nat_tests) in
    ends_itself c.settle.result c.args.self.now c.settle.new.self c.args.place c.args.mem c.args.disk c.args.on_disk same c.settle.ensures.ok

pub returns-clause-ok : goal.returns-clause-ok
returns-clause-ok c =
    let own = ap (λ (x : ShownMemory). x.core.place) c.self.view_is in
    let other = c.if-place-self.false in
    let apart : nat_eq c.args.place c.args.self.now.core.place ≡ false = grind (arith, nat_tests) in
    ends_other c.settle_by.result c.args.self.now c.settle_by.new.self c.args.place c.args.mem c.args.disk c.args.on_disk apart
    c.settle_by.ensures.ok c.settle_by.ensures.rise
