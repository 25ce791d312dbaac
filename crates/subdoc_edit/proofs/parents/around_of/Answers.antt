use Rattle.std.proofs.Common.{◌≡◌, ℕ, ◌-◌, List, [], ◌∷◌, ◌++◌, length, take, drop, Bool, true, ap, subst, ◌∙◌}
use Rattle.json_model.specs.declared.asked.Part.{Part}
use Rattle.json_model.specs.Edit.{key_text}
use Rattle.subdoc_edit.specs.Parents.{openers, PutsNames}
use Rattle.subdoc_edit.proofs.ParentsNames.{first_part, round_value}
use Rattle.subdoc_edit.proofs.parents.around_of.Goals as goal

pub returns : goal.returns
returns c =
    let further : List Part = take (length c.args.absent.now - 1) (drop 1 c.args.absent.now) in
    let put : PutsNames c.push.new.self.items c.put_names.new.out.items further true =
    subst (λ (b : Bool). PutsNames c.push.new.self.items c.put_names.new.out.items further b) c.if-not-branch.false c.in_ok-put_names.ensures in
    let key : c.push.new.self.items ≡ key_text c.in-Member.name ++ 0x3a ∷ [] =
    c.in_ok-push.ensures.items ∙ ap (λ (l : List ℕ). l ++ 0x3a ∷ []) (c.in_ok-put_key.ensures ∙ ap (λ (l : List ℕ). l ++ key_text c.as_slice.result.now) c.new-before.ensures.items ∙ ap key_text c.as_slice.ensures) in
    let before : c.from_vec.result ≡ (key_text c.in-Member.name ++ 0x3a ∷ []) ++ openers put.0 = c.from_vec.ensures ∙ put.2 ∙ ap (λ (l : List ℕ). l ++ openers put.0) key in (
      c.in-Member.name,
      put.0,
      first_part c.args.absent.now c.first-item.result c.in-Member.name put.0 c.in-len1-up.len_at_least c.first-item.is c.in-Member.is put.1,
      round_value c.in-Member.name further put.0 c.from_vec.result c.from_vec-2.result put.1 before (c.from_vec-2.ensures ∙ c.in_ok-behind.ensures.items_if_clones_equal (λ y e. e)),
    )
