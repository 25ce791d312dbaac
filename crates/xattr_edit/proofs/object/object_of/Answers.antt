use Rattle.std.proofs.Common.{List, ℕ, [], ◌∷◌, ◌++◌, ap, ◌∙◌}
use Rattle.xattr_edit.proofs.Objects.{object_is}
use Rattle.xattr_edit.proofs.object.object_of.Goals as goal

pub returns : goal.returns
returns c =
    c.from_vec.ensures
    ∙ object_is c.args.section.now c.behind_length.result.now c.push.new.self.items c.put_members.new.out.items c.push-2.new.self.items c.behind_length.ensures
    (c.in_ok-push.ensures.items ∙ ap (λ (l : List ℕ). l ++ 0x7b ∷ []) c.in_ok-out.ensures.items) c.in_ok-put_members.ensures c.in_ok-push-2.ensures.items
