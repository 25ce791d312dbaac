use Rattle.std.proofs.Common.{sym, ◌∙◌}
use Rattle.std.proofs.lemmas.Bool.{false≢true}
use Rattle.xattr_body.proofs.Pairs.{none_named, none_valued}
use Rattle.xattr_body.proofs.reading.pair_at.Goals as goal

pub returns-then-not-is_name : goal.returns-then-not-is_name
returns-then-not-is_name c =
    let f = c.in-Some.found in
    let g = c.in-Some-parts_of.found in
    none_named c.args.bytes.now f.0.now f.1.now (g.0.now, g.1.now) c.in-Some.ensures c.in-Some-parts_of.ensures (λ n. false≢true (c.if-not-is_name.ensures.1 n))

pub returns-then-not-branch : goal.returns-then-not-branch
returns-then-not-branch c =
    let f = c.in-Some.found in
    let g = c.in-Some-parts_of.found in
    none_valued c.args.bytes.now f.0.now f.1.now (g.0.now, g.1.now) c.in-Some.ensures c.in-Some-parts_of.ensures (λ v. false≢true (sym c.if-not-branch.true ∙ c.in_ok-is_value.ensures.1 v))
