-- What a look-up of attributes finds.
use Rattle.std.proofs.Common.{◌≡◌, ℕ, List, [], ◌∷◌, sym, ◌∙◌}
use Rattle.json_model.specs.declared.kinds.Shape.TheVariants as shapes
use Rattle.json_model.specs.declared.asked.Part.{Part}
use Rattle.json_model.specs.declared.asked.Part.TheVariants.{Member}
use Rattle.json_model.specs.declared.asked.Lookup.{Lookup}
use Rattle.json_model.specs.declared.TheConstants.{MOST_DEEP}
use Rattle.json_model.specs.Spelled.{Document, IsText, empty}
use Rattle.subdoc_step.specs.Paths.{read_parts}
use Rattle.subdoc_step.specs.Answers.{looked_up}
use Rattle.subdoc_step.proofs.Went.{fine}
use Rattle.subdoc_step.proofs.Put.{looked_is, text_is}
use Rattle.subdoc_step.proofs.Members.{looked_in, look_member}
use Rattle.xattr_step.specs.Object.{object_text}
use Rattle.xattr_step.specs.Answers.{looked_up_in}
use Rattle.xattr_step.proofs.Objects.{bare, none_text}
use Rattle.xattr_step.proofs.Steps.{leads, looked_in_went}

-- what is looked up in a text by a path that begins with a name
pub looked_by : (lookup : Lookup) (bytes path name : List ℕ) (behind : List Part) (d : Document) → read_parts path ≡ fine (Member name ∷ behind) → IsText MOST_DEEP d bytes → looked_up lookup bytes path ≡ looked_in lookup name behind d.tree
looked_by lookup bytes path name behind d p t = looked_is lookup bytes path (Member name ∷ behind) d p (text_is bytes d t) ∙ look_member lookup name behind d.tree

pub none_found : (lookup : Lookup) (path found : List ℕ) → looked_up_in lookup [] path ≡ fine found → ⊥
none_found lookup path found e =
    let w = looked_in_went lookup [] path found e in
    let l = leads path w.name w.name_is in
    no_err w.name l.behind (sym (looked_by lookup (object_text []) path w.name l.behind (bare (empty shapes.Object [])) l.path_is none_text) ∙ w.seen)
  where
    no_err : (name : List ℕ) (behind : List Part) → looked_in lookup name behind (empty shapes.Object []) ≡ fine found → ⊥
    no_err name behind h = cc
