use Rattle.std.proofs.Common.{◌≡◌, ◌++◌, take, flat_map, sym, ap, ◌∙◌, subst, take_all, arith}
use Rattle.durability_core.specs.Chains.{IsName}
use Rattle.magma_store.specs.Changes.{name_bytes}
use Rattle.magma_store.proofs.Written.{all_at}
use Rattle.magma_store.proofs.spelling.add_names.Goals as goal

pub add_name-requires : goal.add_name-requires
add_name-requires c =
    subst IsName (sym c.name-item.is) (all_at IsName c.args.names.now c.loop-name.name-index c.name-item.result c.requires c.loop-name-test.true)

pub returns : goal.returns
returns c =
    let all : take c.loop-name.name-index c.args.names.now ≡ c.args.names.now = take_all c.loop-name.name-index c.args.names.now (omega arith) in
    c.loop-name.invariant ∙ ap (λ l. c.args.out.now.items ++ flat_map name_bytes l) all
