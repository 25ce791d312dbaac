use Rattle.std.specs.Prelude.{◌≡◌, ℕ, List, ◌++◌}
use Rattle.std.proofs.Common.{ap, ◌∙◌, append_assoc}
use Rattle.repl_wire.specs.Grammar.{head_bytes}
use Rattle.repl_wire.proofs.encoding.add_whole.Goals as goal

joined : (old head body middle new : List ℕ) → middle ≡ old ++ head → new ≡ middle ++ body → new ≡ old ++ (head ++ body)
joined old head body middle new p q = q ∙ ap (λ l. l ++ body) p ∙ append_assoc old head body

pub returns : goal.returns
returns c =
    joined c.args.out.now.items (head_bytes c.args.head.kind c.args.head.from c.args.head.to c.args.head.vbucket c.args.head.size) c.args.body.now
    c.add_head.new.out.items c.extend_from_slice.new.self.items c.in_ok-add_head.ensures c.in_ok-extend_from_slice.ensures.items
