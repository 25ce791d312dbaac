use Rattle.std.proofs.Common.{◌∙◌, ap, ap₂, List, ℕ, ◌++◌}
use Rattle.xattr_body.specs.Section.{pairs_bytes}
use Rattle.xattr_body.proofs.Going.{empty_is, not_empty}
use Rattle.xattr_body.proofs.Sections.{each_fits, written_none, written_some}
use Rattle.xattr_body.proofs.writing.spelled.Goals as goal

pub returns-then-is_empty : goal.returns-then-is_empty
returns-then-is_empty c = written_none c.args.pairs.now c.new.result (empty_is c.args.pairs.now c.if-is_empty.ensures) c.new.ensures

pub add_pairs-requires : goal.add_pairs-requires
add_pairs-requires c = each_fits c.args.pairs.now c.requires

pub returns : goal.returns
returns c =
    let front = c.in_ok-extend_from_slice.ensures.items ∙ ap₂ (λ (x : List ℕ) (y : List ℕ). x ++ y) c.in_ok-out.ensures.items c.to_be_bytes.ensures in
    written_some c.args.pairs.now c.pairs_size-size.result c.from_vec.result c.requires (not_empty c.args.pairs.now c.if-is_empty.ensures) c.pairs_size-size.ensures
    (c.from_vec.ensures ∙ c.in_ok-add_pairs.ensures ∙ ap (λ (x : List ℕ). x ++ pairs_bytes c.args.pairs.now) front)
