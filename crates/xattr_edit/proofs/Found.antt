-- The text that an object has at a name, found in its bytes.
use Rattle.std.proofs.Common.{◌≡◌, ℕ, ◌-◌, List, [], ◌∷◌, take, drop, Option, Some, None, Result, Ok, inl, refl, sym, ap, ◌∙◌}
use Rattle.doc_model.specs.declared.status.Status.{Status}
use Rattle.json_model.specs.declared.TheConstants.{MOST_DEEP}
use Rattle.json_model.specs.declared.asked.Part.{Part}
use Rattle.json_model.specs.declared.asked.Part.TheVariants.{Member}
use Rattle.json_model.specs.declared.asked.Lookup.TheVariants as lookups
use Rattle.json_model.specs.Spelled.{Document, IsText}
use Rattle.json_model.specs.Follow.{Outcome, reached, missing, mismatch, Follows}
use Rattle.json_model.specs.Edit.{look_at}
use Rattle.json_walk.specs.Telling.{tree_end}
use Rattle.subdoc_path.specs.declared.led.Led.TheVariants as led
use Rattle.subdoc_path.specs.Led.{TellsPlace, LeadsAt}
use Rattle.subdoc_step.specs.Paths.{followed}
use Rattle.subdoc_step.specs.Answers.{◌>>=◌}
use Rattle.subdoc_step.proofs.Texts.{text_only}
use Rattle.subdoc_step.proofs.Followed.{follows_only}
use Rattle.subdoc_edit.proofs.Pieces.{slice_of}
use Rattle.subdoc_edit.proofs.Trails.{Reached}
use Rattle.xattr_step.specs.Answers.{text_at}
use Rattle.xattr_edit.specs.Updating.{BeginsWith, found_in}

-- the first part alone
pub first_alone : (name : List ℕ) (parts first : List Part) → BeginsWith name parts → first ≡ take 1 parts → first ≡ Member name ∷ []
first_alone name parts first (rest, is) e = e ∙ ap (λ (l : List Part). take 1 l) is

-- what following the name comes to is what there is at it
at_outcome : (name object : List ℕ) (d : Document) (o : Outcome) → IsText MOST_DEEP d object → Follows (Member name ∷ []) d.tree o → text_at name object ≡ look_at lookups.Get o
unfolding text_at
at_outcome name object d o is follows =
    ap (λ (r : Result Document Status). r >>= λ d. look_at lookups.Get (followed (Member name ∷ []) d.tree)) (sym (text_only object (Ok d) (inl (d, is, refl))))
    ∙ ap (look_at lookups.Get) (sym (follows_only (Member name ∷ []) d.tree o is.tree follows))

abbrev pub text_found : List ℕ → Option (List ℕ)
text_found text = Some text

abbrev pub none_found : Option (List ℕ)
none_found = None

pub found_there : (name object : List ℕ) (d : Document) (at end : ℕ) → IsText MOST_DEEP d object → (f : Reached object (Member name ∷ []) d at) → end ≡ tree_end at f.tree
    → text_found (take (end - at) (drop at object)) ≡ found_in (text_at name object)
found_there name object d at end is f e =
    ap text_found (slice_of object at end f.tree f.stands.place e).slice ∙ sym (ap found_in (at_outcome name object d (reached f.trail f.tree) is f.follows))

not_at : (object : List ℕ) (d : Document) (o : Outcome) (n : ℕ) → TellsPlace object d o (led.Missing n) → none_found ≡ found_in (look_at lookups.Get o)
not_at object d (reached trail t) n (at, e, s) = cc
not_at object d (missing trail t absent) n h = refl
not_at object d (mismatch m) n h = refl

not_in : (object : List ℕ) (d : Document) (o : Outcome) (n : ℕ) → TellsPlace object d o (led.Mismatch n) → none_found ≡ found_in (look_at lookups.Get o)
not_in object d (reached trail t) n (at, e, s) = cc
not_in object d (missing trail t absent) n h = refl
not_in object d (mismatch m) n h = refl

pub missing_there : (name object : List ℕ) (d : Document) (n : ℕ) → IsText MOST_DEEP d object → LeadsAt (Member name ∷ []) object d (led.Missing n) → none_found ≡ found_in (text_at name object)
missing_there name object d n is (o, follows, tells) = not_at object d o n tells ∙ sym (ap found_in (at_outcome name object d o is follows))

pub mismatch_there : (name object : List ℕ) (d : Document) (n : ℕ) → IsText MOST_DEEP d object → LeadsAt (Member name ∷ []) object d (led.Mismatch n) → none_found ≡ found_in (text_at name object)
mismatch_there name object d n is (o, follows, tells) = not_in object d o n tells ∙ sym (ap found_in (at_outcome name object d o is follows))
