use Rattle.std.proofs.Common.{◌≡◌, ◌≤◌, Some, length, sym, ap, ◌∙◌, subst, arith}
use Rattle.std.proofs.lemmas.Bool.Decides.{nat_tests}
use Rattle.leb_collections.specs.Functions.{id_at}
use Rattle.vb_log.specs.Keys.{name_limit}
use Rattle.vb_log.proofs.Spelt.{key_refused, key_found}
use Rattle.vb_log.proofs.keys.key_of.Goals as goal
use Rattle.vb_log.proofs.keys.key_of.Goals.{then-is_empty-via-then-is_empty, then-is_empty-via-else-is_empty+then-name-name_limit}

pub returns-then-is_empty : goal.returns-then-is_empty
returns-then-is_empty c =
    let name = c.split_at.result.1.now in
    let found : id_at c.args.spelt.now ≡ Some (c.in-Ok.found.0, name) = c.in-Ok.ensures.reads ∙ ap (λ l. Some (c.in-Ok.found.0, l)) (sym c.split_at.ensures.back) in
    key_refused c.args.spelt.now name c.in-Ok.found.0 found (elim c.then-is_empty.branch [
      | then-is_empty-via-then-is_empty w ↦ λ some short. grind (arith, nat_tests, w.if-is_empty.ensures)
      | then-is_empty-via-else-is_empty+then-name-name_limit w ↦ λ some short. (let limit = w.name_limit.ensures in let over = w.if-name-name_limit.true in omega arith)
    ])

pub returns : goal.returns
returns c =
    let name = c.split_at.result.1.now in
    let found : id_at c.args.spelt.now ≡ Some (c.in-Ok.found.0, c.in_ok-key.key) = c.in-Ok.ensures.reads ∙ ap (λ l. Some (c.in-Ok.found.0, l)) (sym (c.in_ok-key.ensures ∙ c.split_at.ensures.back)) in
    let some : 1 ≤ length name = grind (arith, nat_tests, c.if-is_empty.ensures) in
    let short : length name ≤ name_limit c.in-Ok.found.0 = (let limit = c.name_limit.ensures in let within = c.if-name-name_limit.false in omega arith) in
    key_found c.args.spelt.now c.in_ok-key.key c.in-Ok.found.0 (λ i. omega (arith, c.type_inv.spelt i)) found
    (subst (λ l. 1 ≤ length l) (sym c.in_ok-key.ensures) some) (subst (λ l. length l ≤ name_limit c.in-Ok.found.0) (sym c.in_ok-key.ensures) short)
