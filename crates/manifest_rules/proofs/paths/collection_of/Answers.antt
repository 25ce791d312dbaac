use Rattle.std.proofs.Common.{rules, ◌≡◌, ◌+◌, take, drop, Some, sym, ap, ◌∙◌, arith}
use Rattle.std.specs.List.{before_first, after_first}
use Rattle.std.specs.Option.{option_copied}
use Rattle.manifest_rules.specs.Paths.{is_dot, scope_at}
use Rattle.manifest_rules.proofs.Dots.{one_dot, behind, found}
use Rattle.manifest_rules.proofs.paths.collection_of.Goals as goal

pub split_at-requires-2 : goal.split_at-requires-2
split_at-requires-2 c = omega (arith, one_dot c.args.path.now (search rules), c.split_at.ensures.back_len, c.first_dot.ensures.value)

pub returns-in-Some : goal.returns-in-Some
returns-in-Some c =
    let front : c.split_at.result.0.now ≡ before_first is_dot c.args.path.now = c.split_at.ensures.front ∙ ap (λ n. take n c.args.path.now) c.first_dot.ensures.value in
    let name : c.split_at-2.result.1.now ≡ after_first is_dot c.args.path.now =
    behind c.first_dot.result c.args.path.now c.split_at.result.1.now c.split_at-2.result.1.now c.split_at.ensures.back c.split_at-2.ensures.back ∙ ap (λ n. drop (n + 1) c.args.path.now) c.first_dot.ensures.value in
    let there : scope_at c.args.manifest.now.scopes c.split_at.result.0.now ≡ Some c.in-Some.scope.now =
    ap (λ ss. scope_at ss c.split_at.result.0.now) (sym c.scopes.ensures) ∙ sym c.scope_named.ensures ∙ ap option_copied c.in-Some.is in
    found c.args.manifest.now.scopes c.args.path.now _ _ c.in-Some.scope.now c.collection_named.result (search rules) front name there c.collection_named.ensures
