use Rattle.kv_script.proofs.Places.{chain_right, chain_bad}
use Rattle.kv_script.proofs.chains.names.Goals as goal

pub returns-then-not-is_chain : goal.returns-then-not-is_chain
returns-then-not-is_chain c names h =
    chain_bad c.args.parts.now (λ chain. let yes = c.is_chain.ensures.1 chain in cc (yes, c.if-not-is_chain.true)) names h

pub returns-in-Ok : goal.returns-in-Ok
returns-in-Ok c = chain_right c.args.parts.now c.in-Ok.names c.in-Ok.ensures (c.is_chain.ensures.0 c.if-not-is_chain.false)
