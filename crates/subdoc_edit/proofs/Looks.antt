-- What is told of a look-up, step by step.
use Rattle.std.proofs.Common.{arith, ◌≡◌, ℕ, ◌-◌, List, [], take, drop, Result, Ok, Err, None, Some, true, false, inl, inr, refl, sym, ap, ◌∙◌}
use Rattle.std.specs.Fmt.{decimal}
use Rattle.doc_model.specs.declared.status.Status.{Status}
use Rattle.doc_model.specs.declared.status.TheConstants.Status as status
use Rattle.doc_model.specs.declared.status.Refused.{Refused}
use Rattle.doc_model.specs.declared.status.Refused.TheVariants as refusals
use Rattle.json_model.specs.declared.TheConstants.{MOST_DEEP}
use Rattle.json_model.specs.declared.kinds.Kind.{Kind}
use Rattle.json_model.specs.declared.kinds.Kind.TheVariants as kinds
use Rattle.json_model.specs.declared.kinds.Shape.{Shape}
use Rattle.json_model.specs.declared.kinds.Shape.TheVariants as shapes
use Rattle.json_model.specs.declared.asked.Part.{Part}
use Rattle.json_model.specs.declared.asked.Lookup.{Lookup}
use Rattle.json_model.specs.declared.asked.Lookup.TheVariants as lookups
use Rattle.json_model.specs.Edit.{looked, look_at}
use Rattle.json_model.specs.Follow.{Outcome, reached, missing, mismatch, Follows}
use Rattle.json_model.specs.Grammar.{IsLeaf}
use Rattle.json_model.specs.Order.{Looks, ReadsText}
use Rattle.json_model.specs.Paths.{ReadsPath}
use Rattle.json_model.specs.Spelled.{Tree, leaf, empty, group, Document, IsText}
use Rattle.json_spell.specs.Nodes.{kind_of}
use Rattle.json_spell.specs.Reading.{children}
use Rattle.json_walk.specs.Places.{IsAt}
use Rattle.json_walk.specs.Telling.{tree_kind, tree_end}
use Rattle.subdoc_path.specs.declared.led.Led.TheVariants as led
use Rattle.subdoc_path.specs.Led.{TellsPlace, LeadsAt}
use Rattle.subdoc_edit.specs.declared.looking.Piece.{Piece}
use Rattle.subdoc_edit.specs.Kinds.{holds_others}
use Rattle.subdoc_edit.specs.Looking.{piece_text, TellsLooked, TellsLook}
use Rattle.subdoc_edit.specs.Splicing.{IsDocument}
use Rattle.subdoc_edit.specs.Telling.{Told}
use Rattle.subdoc_edit.proofs.Pieces.{slice_of, at_within}
use Rattle.subdoc_edit.proofs.Trails.{Reached}

-- ---- one value

pub get_is : (bytes : List ℕ) (at end : ℕ) (t : Tree) → IsAt bytes at t → end ≡ tree_end at t → TellsLooked lookups.Get bytes t (Ok (record { from = at; to = end; count = None }))
get_is bytes at end t s e =
    let c = slice_of bytes at end t s e in
    (record { ordered = c.ordered; within = c.within }, ap (λ (l : List ℕ). Ok l) (sym c.slice))

none_cut : (n : ℕ) (bytes : List ℕ) → take (n - n) (drop n bytes) ≡ []
none_cut n bytes = let e : n - n ≡ 0 = omega arith in ap (λ (i : ℕ). take i (drop n bytes)) e

pub exists_is : (bytes : List ℕ) (at : ℕ) (t : Tree) → IsAt bytes at t → TellsLooked lookups.Exists bytes t (Ok (record { from = at; to = at; count = None }))
exists_is bytes at t s = (record { ordered = omega arith; within = at_within bytes at t s }, ap (λ (l : List ℕ). Ok l) (sym (none_cut at bytes)))

pub shape_holds : (shape : Shape) → holds_others (kind_of shape) ≡ true
shape_holds shapes.Object = refl
shape_holds shapes.Array = refl

pub leaf_holds : (kind : Kind) (s : List ℕ) → IsLeaf kind s → holds_others kind ≡ false
leaf_holds kinds.Object s h = absurd h
leaf_holds kinds.Array s h = absurd h
leaf_holds kinds.Text s h = refl
leaf_holds kinds.Number s h = refl
leaf_holds kinds.True s h = refl
leaf_holds kinds.False s h = refl
leaf_holds kinds.Null s h = refl

no_both : true ≡ false → ⊥
no_both e = cc

pub count_none : (bytes : List ℕ) (t : Tree) (kind : Kind) → kind ≡ tree_kind t → holds_others kind ≡ false → TellsLooked lookups.GetCount bytes t (Err (refusals.Status status.PATH_MISMATCH))
count_none bytes (leaf other s) kind h e = refl
count_none bytes (empty shape g) kind h e = absurd (no_both (sym (shape_holds shape) ∙ ap holds_others (sym h) ∙ e))
count_none bytes (group shape ps) kind h e = absurd (no_both (sym (shape_holds shape) ∙ ap holds_others (sym h) ∙ e))

counted : (bytes : List ℕ) (at : ℕ) (t : Tree) (kind : Kind) (number : ℕ) → IsAt bytes at t → kind ≡ tree_kind t → holds_others kind ≡ true → number ≡ children t → looked lookups.GetCount t ≡ Ok (decimal number)
counted bytes at (leaf other l) kind number s h k n = absurd (no_both (sym k ∙ ap holds_others h ∙ leaf_holds other l s.fits))
counted bytes at (empty shape g) kind number s h k n = ap (λ (i : ℕ). Ok (decimal i)) (sym n)
counted bytes at (group shape ps) kind number s h k n = ap (λ (i : ℕ). Ok (decimal i)) (sym n)

pub count_is : (bytes : List ℕ) (at : ℕ) (t : Tree) (kind : Kind) (number : ℕ) → IsAt bytes at t → kind ≡ tree_kind t → holds_others kind ≡ true → number ≡ children t
    → TellsLooked lookups.GetCount bytes t (Ok (record { from = at; to = at; count = Some number }))
count_is bytes at t kind number s h k n = (record { ordered = omega arith; within = at_within bytes at t s }, counted bytes at t kind number s h k n)

-- ---- the order of refusals

pub path_refused : (lookup : Lookup) (bytes path : List ℕ) (e : Refused) → Told {A = List Part} (λ p. ReadsPath path (Ok p)) (λ s. ReadsPath path (Err s)) (Err e) → TellsLook lookup bytes path (Err e)
path_refused lookup bytes path (refusals.Status s) h = inl (s, h, refl)
path_refused lookup bytes path refusals.NoMemory h = tt

pub text_refused : (lookup : Lookup) (bytes path : List ℕ) (parts : List Part) (e : Refused) → ReadsPath path (Ok parts) → Told {A = Unit {0}} (λ done. IsDocument bytes) (λ s. ReadsText bytes (Err s)) (Err e) → TellsLook lookup bytes path (Err e)
text_refused lookup bytes path parts (refusals.Status s) reads h = inr (parts, reads, inl (s, h, refl))
text_refused lookup bytes path parts refusals.NoMemory reads h = tt

-- the path and the text were read, and following has this outcome
pub record Followed (bytes path : List ℕ) (o : Outcome) : Type 0 where
  pub parts : List Part
  pub reads : ReadsPath path (Ok parts)
  pub document : Document
  pub is : IsText MOST_DEEP document bytes
  pub follows : Follows parts document.tree o

looks : (lookup : Lookup) (bytes path : List ℕ) (o : Outcome) (answer : Result (List ℕ) Status) → Followed bytes path o → answer ≡ look_at lookup o → Looks lookup bytes path answer
looks lookup bytes path o answer f e = inr (f.parts, f.reads, inr (f.document, inl (f.document, f.is, refl), (o, f.follows, e)))

missing_at : (bytes : List ℕ) (d : Document) (trail : List ℕ) (t : Tree) (n : ℕ) → TellsPlace bytes d (reached trail t) (led.Missing n) → ⊥
missing_at bytes d trail t n (at, e, s) = cc

missing_told : (bytes : List ℕ) (d : Document) (o : Outcome) (n : ℕ) (lookup : Lookup) → TellsPlace bytes d o (led.Missing n) → Err status.PATH_ENOENT ≡ look_at lookup o
missing_told bytes d (reached trail t) n lookup h = absurd (missing_at bytes d trail t n h)
missing_told bytes d (missing trail t absent) n lookup h = refl
missing_told bytes d (mismatch m) n lookup h = cc

mismatch_at : (bytes : List ℕ) (d : Document) (trail : List ℕ) (t : Tree) (n : ℕ) → TellsPlace bytes d (reached trail t) (led.Mismatch n) → ⊥
mismatch_at bytes d trail t n (at, e, s) = cc

mismatch_told : (bytes : List ℕ) (d : Document) (o : Outcome) (n : ℕ) (lookup : Lookup) → TellsPlace bytes d o (led.Mismatch n) → Err status.PATH_MISMATCH ≡ look_at lookup o
mismatch_told bytes d (reached trail t) n lookup h = absurd (mismatch_at bytes d trail t n h)
mismatch_told bytes d (missing trail t absent) n lookup h = cc
mismatch_told bytes d (mismatch m) n lookup h = refl

pub nowhere : (lookup : Lookup) (bytes path : List ℕ) (parts : List Part) (d : Document) (n : ℕ) → ReadsPath path (Ok parts) → IsText MOST_DEEP d bytes → LeadsAt parts bytes d (led.Missing n) → TellsLook lookup bytes path (Err (refusals.Status status.PATH_ENOENT))
nowhere lookup bytes path parts d n reads is l = looks lookup bytes path l.0 (Err status.PATH_ENOENT) (record { parts = parts; reads = reads; document = d; is = is; follows = l.1 }) (missing_told bytes d l.0 n lookup l.2)

pub elsewhere : (lookup : Lookup) (bytes path : List ℕ) (parts : List Part) (d : Document) (n : ℕ) → ReadsPath path (Ok parts) → IsText MOST_DEEP d bytes → LeadsAt parts bytes d (led.Mismatch n) → TellsLook lookup bytes path (Err (refusals.Status status.PATH_MISMATCH))
elsewhere lookup bytes path parts d n reads is l = looks lookup bytes path l.0 (Err status.PATH_MISMATCH) (record { parts = parts; reads = reads; document = d; is = is; follows = l.1 }) (mismatch_told bytes d l.0 n lookup l.2)

pub looked_at : (lookup : Lookup) (bytes path : List ℕ) (parts : List Part) (d : Document) (at : ℕ) (r : Result Piece Refused) → ReadsPath path (Ok parts) → IsText MOST_DEEP d bytes → (f : Reached bytes parts d at)
    → TellsLooked lookup bytes f.tree r → TellsLook lookup bytes path r
looked_at lookup bytes path parts d at (Ok p) reads is f h = (h.0, looks lookup bytes path (reached f.trail f.tree) (Ok (piece_text bytes p)) (record { parts = parts; reads = reads; document = d; is = is; follows = f.follows }) (sym h.1))
looked_at lookup bytes path parts d at (Err (refusals.Status s)) reads is f h = looks lookup bytes path (reached f.trail f.tree) (Err s) (record { parts = parts; reads = reads; document = d; is = is; follows = f.follows }) (sym h)
looked_at lookup bytes path parts d at (Err refusals.NoMemory) reads is f h = tt
