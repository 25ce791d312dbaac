-- A value that is one JSON text or more with commas between: the elements of the array that it is between brackets.
use Rattle.std.proofs.Common.{◌≡◌, ℕ, suc, ◌+◌, ◌-◌, ◌≤◌, List, [], ◌∷◌, ◌++◌, length, get_or, take, drop, Some, Ok, Err, inl, inr, refl, sym, ap, subst, ◌∙◌, arith, append_assoc, append-nil, length-append, length-drop}
use Rattle.std.proofs.lemmas.List.{take_at, drop_at, take-append-le, drop-append-le}
use Rattle.std.specs.Prelude.{pos}
use Rattle.json_model.specs.declared.TheConstants.{MOST_DEEP}
use Rattle.json_model.specs.declared.kinds.Kind.{Kind}
use Rattle.json_model.specs.declared.kinds.Kind.TheVariants as kinds
use Rattle.json_model.specs.declared.kinds.Shape.{Shape}
use Rattle.json_model.specs.declared.kinds.Shape.TheVariants as shapes
use Rattle.json_model.specs.Grammar.{IsBlank, AreBlanks, IsLeaf}
use Rattle.json_model.specs.Spelled.{Head, plain, keyed, Tree, leaf, empty, group, Parts, last, more, opening, text, head_text, parts_text, HeadFits, Fits, PartsFit, depth, parts_depth, count, size, Document, IsText}
use Rattle.json_model.specs.Moves.{led_head, led, ended, trimmed}
use Rattle.json_model.specs.Edit.{Asked}
use Rattle.json_model.specs.Values.{GivesParts, bracketed}
use Rattle.doc_model.specs.declared.status.TheConstants.Status as status
use Rattle.json_spell.specs.declared.node.Node.{Node}
use Rattle.json_spell.specs.Nodes.{key_span, tree_nodes, parts_nodes}
use Rattle.json_spell.specs.Places.{Spans}
use Rattle.json_spell.specs.Tokens.{kind_at}
use Rattle.json_spell.proofs.Again.{leaf_first}
use Rattle.subdoc_path.proofs.Walking.{head_of, tree_says}
use Rattle.subdoc_edit.specs.GivenDepths.{ArePassed, value_end}
use Rattle.subdoc_edit.proofs.GivenDepths.{first_and}
use Rattle.subdoc_edit.specs.Given.{IsParts}

-- ---- parts without blanks at both ends

-- the blanks behind the last value
abbrev last_gap : Parts → List ℕ
last_gap (last h t g) = g
last_gap (more h t g ps) = last_gap ps

ended_fits : (shape : Shape) (ps : Parts) → PartsFit shape ps → PartsFit shape (ended [] ps)
ended_fits shape (last h t g) f = (f.0, f.1, tt)
ended_fits shape (more h t g ps) f = (f.0, f.1, f.2, ended_fits shape ps f.3)

led_head_fits : (shape : Shape) (h : Head) → HeadFits shape h → HeadFits shape (led_head [] h)
led_head_fits shapes.Object (plain g) f = absurd f
led_head_fits shapes.Object (keyed g k b v) f = (tt, f.1, f.2, f.3)
led_head_fits shapes.Array (plain g) f = tt
led_head_fits shapes.Array (keyed g k b v) f = absurd f

led_fits : (shape : Shape) (ps : Parts) → PartsFit shape ps → PartsFit shape (led [] ps)
led_fits shape (last h t g) f = (led_head_fits shape h f.0, f.1, f.2)
led_fits shape (more h t g ps) f = (led_head_fits shape h f.0, f.1, f.2, f.3)

trimmed_fits : (shape : Shape) (ps : Parts) → PartsFit shape ps → PartsFit shape (trimmed ps)
trimmed_fits shape ps f = led_fits shape (ended [] ps) (ended_fits shape ps f)

ended_depth : (ps : Parts) → parts_depth (ended [] ps) ≡ parts_depth ps
ended_depth (last h t g) = refl
ended_depth (more h t g ps) = omega (arith, ended_depth ps)

led_depth : (ps : Parts) → parts_depth (led [] ps) ≡ parts_depth ps
led_depth (last h t g) = refl
led_depth (more h t g ps) = refl

trimmed_depth : (ps : Parts) → parts_depth (trimmed ps) ≡ parts_depth ps
trimmed_depth ps = led_depth (ended [] ps) ∙ ended_depth ps

led_head_again : (h : Head) → led_head [] (led_head [] h) ≡ led_head [] h
led_head_again (plain g) = refl
led_head_again (keyed g k b v) = refl

led_again : (ps : Parts) → led [] (led [] ps) ≡ led [] ps
led_again (last h t g) = ap (λ (x : Head). last x t g) (led_head_again h)
led_again (more h t g ps) = ap (λ (x : Head). more x t g ps) (led_head_again h)

ended_again : (ps : Parts) → ended [] (ended [] ps) ≡ ended [] ps
ended_again (last h t g) = refl
ended_again (more h t g ps) = ap (λ (x : Parts). more h t g x) (ended_again ps)

ended_led : (ps : Parts) → ended [] (led [] ps) ≡ led [] (ended [] ps)
ended_led (last h t g) = refl
ended_led (more h t g ps) = refl

trimmed_ended : (ps : Parts) → ended [] (trimmed ps) ≡ trimmed ps
trimmed_ended ps = ended_led (ended [] ps) ∙ ap (λ (x : Parts). led [] x) (ended_again ps)

-- ---- their bytes

ended_text : (ps : Parts) → parts_text ps ≡ parts_text (ended [] ps) ++ last_gap ps
ended_text (last h t g) =
    ap (λ (l : List ℕ). head_text h ++ (l ++ g)) (sym (append-nil (text t))) ∙ sym (append_assoc (head_text h) (text t ++ []) g)
ended_text (more h t g ps) =
    ap (λ (l : List ℕ). head_text h ++ (text t ++ (g ++ 0x2c ∷ l))) (ended_text ps) ∙ regroup (head_text h) (text t) g (parts_text (ended [] ps)) (last_gap ps)
  where
    regroup : (a b c d e : List ℕ) → a ++ (b ++ (c ++ 0x2c ∷ (d ++ e))) ≡ (a ++ (b ++ (c ++ 0x2c ∷ d))) ++ e
    regroup a b c d e = simp append_assoc

led_text : (ps : Parts) → PartsFit shapes.Array ps → parts_text ps ≡ head_text (head_of ps) ++ parts_text (led [] ps)
led_text (last (plain g) t b) f = refl
led_text (last (keyed g k c v) t b) f = absurd f.0
led_text (more (plain g) t b ps) f = refl
led_text (more (keyed g k c v) t b ps) f = absurd f.0

ended_head : (ps : Parts) → head_of (ended [] ps) ≡ head_of ps
ended_head (last h t g) = refl
ended_head (more h t g ps) = refl

trimmed_text : (ps : Parts) → PartsFit shapes.Array ps → parts_text ps ≡ head_text (head_of ps) ++ (parts_text (trimmed ps) ++ last_gap ps)
trimmed_text ps f =
    ended_text ps ∙ ap (λ (l : List ℕ). l ++ last_gap ps) (led_text (ended [] ps) (ended_fits shapes.Array ps f) ∙ ap (λ (h : Head). head_text h ++ parts_text (trimmed ps)) (ended_head ps))
    ∙ append_assoc (head_text (head_of ps)) (parts_text (trimmed ps)) (last_gap ps)

end_is : (at : ℕ) (ps : Parts) → value_end at ps + length (last_gap ps) ≡ at + length (parts_text ps)
end_is at (last h t g) = omega (arith, length-append (head_text h) (text t ++ g), length-append (text t) g)
end_is at (more h t g ps) =
    omega (arith, end_is (at + (length (head_text h) + (length (text t) + (length g + 1)))) ps, length-append (head_text h) (text t ++ (g ++ 0x2c ∷ parts_text ps)), length-append (text t) (g ++ 0x2c ∷ parts_text ps), length-append g (0x2c ∷ parts_text ps))

-- the end of the last value, behind the blanks at the front
trimmed_end : (at : ℕ) (ps : Parts) → PartsFit shapes.Array ps → value_end at ps ≡ at + length (head_text (head_of ps)) + length (parts_text (trimmed ps))
trimmed_end at ps f =
    omega (arith, end_is at ps, ap (λ (l : List ℕ). length l) (trimmed_text ps f), length-append (head_text (head_of ps)) (parts_text (trimmed ps) ++ last_gap ps), length-append (parts_text (trimmed ps)) (last_gap ps))

-- ---- the array between brackets

-- a tree is an array
abbrev IsArray : Tree → Type 0
IsArray (leaf kind s) = ⊥
IsArray (empty shape g) = shape ≡ shapes.Array
IsArray (group shape ps) = shape ≡ shapes.Array

opens_array : (shape : Shape) → opening shape ≡ 0x5b → shape ≡ shapes.Array
opens_array shapes.Object e = absurd (omega (arith, e))
opens_array shapes.Array e = refl

head_byte : (a x : ℕ) (xs ys : List ℕ) → a ∷ xs ≡ x ∷ ys → x ≡ a
head_byte a x xs ys e = cc

array_kind : (x : ℕ) (kind : Kind) (s : List ℕ) → IsLeaf kind s → kind_at x ≡ Some kind → x ≡ 0x5b → ⊥
array_kind x kind s fits k e = subst (λ (o : Kind). IsLeaf o s) (some_kind kind kinds.Array (sym k ∙ ap kind_at e)) fits
  where
    some_kind : (a b : Kind) → Some a ≡ Some b → a ≡ b
    some_kind a b e = cc

is_array : (t : Tree) (bytes after : List ℕ) → Fits t → 0x5b ∷ bytes ≡ text t ++ after → IsArray t
is_array (leaf kind s) bytes after f e =
    let first = leaf_first kind s f in
    let byte : first.byte ≡ 0x5b = head_byte 0x5b first.byte bytes (first.rest ++ after) (e ∙ ap (λ (l : List ℕ). l ++ after) first.whole) in
    array_kind first.byte kind s f first.kind_is byte
is_array (empty shape g) bytes after f e = opens_array shape (head_byte 0x5b (opening shape) bytes _ e)
is_array (group shape ps) bytes after f e = opens_array shape (head_byte 0x5b (opening shape) bytes _ e)

bracket_first : (before : List ℕ) (bytes rest : List ℕ) → AreBlanks before → 0x5b ∷ bytes ≡ before ++ rest → before ≡ []
bracket_first [] bytes rest blank e = refl
bracket_first (x ∷ xs) bytes rest blank e = absurd (no_blank x blank.0 (head_byte 0x5b x bytes (xs ++ rest) e))
  where
    no_blank : (x : ℕ) → IsBlank x → x ≡ 0x5b → ⊥
    no_blank x (inl a) e = absurd (omega (arith, a, e))
    no_blank x (inr (inl a)) e = absurd (omega (arith, a, e))
    no_blank x (inr (inr (inl a))) e = absurd (omega (arith, a, e))
    no_blank x (inr (inr (inr a))) e = absurd (omega (arith, a, e))

-- the text of a value between brackets: nothing stands before it, and it is an array
pub record Array (value : List ℕ) (nodes : List Node) (t : Tree) : Type 0 where
  pub document : Document
  pub is : IsText MOST_DEEP document (bracketed value)
  pub tree_is : document.tree ≡ t
  pub array : IsArray t
  pub spelled : bracketed value ≡ text t ++ document.after
  pub listed : nodes ≡ tree_nodes 0 0 (record { from = 0; to = 0 }) t

array_of : (value : List ℕ) (nodes : List Node) → Spans (bracketed value) nodes → (t : Tree) × Array value nodes t
array_of value nodes (d, is, e) =
    let none : d.before ≡ [] = bracket_first d.before (value ++ 0x5d ∷ []) (text d.tree ++ d.after) is.before is.spelled in
    let spelled : bracketed value ≡ text d.tree ++ d.after = is.spelled ∙ ap (λ (l : List ℕ). l ++ (text d.tree ++ d.after)) none in (
      d.tree,
      record {
        document = d;
        is = is;
        tree_is = refl;
        array = is_array d.tree (value ++ 0x5d ∷ []) d.after is.tree spelled;
        spelled = spelled;
        listed = e ∙ ap (λ (l : List ℕ). tree_nodes (length l) 0 (record { from = 0; to = 0 }) d.tree) none;
      },
    )

-- the first node of parts
pub record FirstPart (at : ℕ) (nodes : List Node) (ps : Parts) : Type 0 where
  pub node : Node
  pub rest : List Node
  pub whole : nodes ≡ node ∷ rest
  pub from : node.from ≡ at + length (head_text (head_of ps))

first_part : (at index : ℕ) (ps : Parts) → FirstPart at (parts_nodes at index ps) ps
first_part at index (last h t g) =
    let s = tree_says (at + length (head_text h)) index (key_span at h) t in
    record { node = s.0; rest = s.1.rest; whole = s.1.whole; from = s.2.from }
first_part at index (more h t g ps) =
    let s = tree_says (at + length (head_text h)) index (key_span at h) t in
    let others : List Node = parts_nodes (at + (length (head_text h) + (length (text t) + (length g + 1)))) (index + size t) ps in
    record { node = s.0; rest = s.1.rest ++ others; whole = ap (λ (l : List Node). l ++ others) s.1.whole; from = s.2.from }

-- ---- what is cut out

cut_is : (value lead inside behind : List ℕ) (from to : ℕ) → value ++ 0x5d ∷ [] ≡ lead ++ (inside ++ behind) → 1 ≤ length behind → from ≡ length lead → to ≡ length lead + length inside
    → (from ≤ to) × (to ≤ length value) × (inside ≡ take (to - from) (drop from value))
cut_is value lead inside behind from to e some f t =
    let total : length value + 1 ≡ length lead + (length inside + length behind) =
    omega (arith, ap (λ (l : List ℕ). length l) e, length-append value (0x5d ∷ []), length-append lead (inside ++ behind), length-append inside behind) in
    let less : from ≤ length value = omega (arith, total, some, f) in
    let n : to - from ≡ length inside = omega (arith, f, t) in
    let dropped : drop from value ++ 0x5d ∷ [] ≡ inside ++ behind = sym (drop-append-le from value (0x5d ∷ []) less) ∙ ap (λ (l : List ℕ). drop from l) e ∙ drop_at lead (inside ++ behind) from (sym f) in
    let enough : to - from ≤ length (drop from value) = omega (arith, total, some, f, t, length-drop from value) in (
      omega (arith, f, t),
      omega (arith, total, some, t),
      sym (take_at inside behind (to - from) (sym n)) ∙ ap (λ (l : List ℕ). take (to - from) l) (sym dropped) ∙ take-append-le (to - from) (drop from value) (0x5d ∷ []) enough,
    )

-- ---- what is read of an array

-- the elements that are read, where this node is the first one's and this is the last one's end
pub record Elements (value : List ℕ) (first : Node) (told end : ℕ) : Type 0 where
  pub parts : Parts
  pub some_before : 1 ≤ first.from
  pub some_end : 1 ≤ end
  pub are : IsParts value (record { from = first.from - 1; to = end - 1; depth = told; delta = pos 0 }) parts
  pub gives : (asked : Parts → Asked) → GivesParts asked value (Ok (asked parts))

tail_is : (a : ℕ) (xs ys : List ℕ) → a ∷ xs ≡ a ∷ ys → xs ≡ ys
tail_is a xs ys e = cc

nodes_are : (n m : Node) (ns ms : List Node) → n ∷ ns ≡ m ∷ ms → (n ≡ m) × (ns ≡ ms)
nodes_are n m ns ms e = (cc, cc)

array_read : (value : List ℕ) (inner rest : List Node) (first d : Node) (told end : ℕ) (ps : Parts) (doc : Document) → IsText MOST_DEEP doc (bracketed value) → doc.tree ≡ group shapes.Array ps → bracketed value ≡ text (group shapes.Array ps) ++ doc.after
    → inner ≡ parts_nodes 1 1 ps → ArePassed inner (count ps) told end rest → first ≡ get_or inner 0 d → Elements value first told end
array_read value inner rest first d told end ps doc is t spelled listed passed first_is =
    let fits : Fits (group shapes.Array ps) = subst (λ (u : Tree). Fits u) t is.tree in
    let shallow : suc (parts_depth ps) ≤ MOST_DEEP = subst (λ (u : Tree). depth u ≤ MOST_DEEP) t is.depth in
    let p = passed 1 1 shapes.Array ps [] (record { listed = listed ∙ sym (append-nil (parts_nodes 1 1 ps)); fits = fits; shallow = omega (arith, shallow) }) refl in
    let f = first_part 1 1 ps in
    let lead : List ℕ = head_text (head_of ps) in
    let from_is : first.from ≡ 1 + length lead = ap (λ (n : Node). n.from) (first_is ∙ ap (λ (l : List Node). get_or l 0 d) (listed ∙ f.whole)) ∙ f.from in
    let end_at : end ≡ 1 + length lead + length (parts_text (trimmed ps)) = p.1 ∙ trimmed_end 1 ps fits in
    let inside : value ++ 0x5d ∷ [] ≡ lead ++ (parts_text (trimmed ps) ++ (last_gap ps ++ (0x5d ∷ doc.after))) =
    tail_is 0x5b (value ++ 0x5d ∷ []) ((parts_text ps ++ 0x5d ∷ []) ++ doc.after) spelled ∙ ap (λ (l : List ℕ). (l ++ 0x5d ∷ []) ++ doc.after) (trimmed_text ps fits) ∙ regroup lead (parts_text (trimmed ps)) (last_gap ps) doc.after in
    let c = cut_is value lead (parts_text (trimmed ps)) (last_gap ps ++ (0x5d ∷ doc.after)) (first.from - 1) (end - 1) inside (omega (arith, length-append (last_gap ps) (0x5d ∷ doc.after))) (omega (arith, from_is)) (omega (arith, end_at)) in
    record {
      parts = trimmed ps;
      some_before = omega (arith, from_is);
      some_end = omega (arith, end_at);
      are = (trimmed_fits shapes.Array ps fits, record { ordered = c.0; within = c.1 }, c.2, trimmed_depth ps ∙ sym p.0, omega (arith, p.0, shallow), led_again (ended [] ps), trimmed_ended ps);
      gives = λ asked. inl (doc, ps, is, t, refl);
    }
  where
    regroup : (a b c r : List ℕ) → ((a ++ (b ++ c)) ++ 0x5d ∷ []) ++ r ≡ a ++ (b ++ (c ++ (0x5d ∷ r)))
    regroup a b c r = simp append_assoc

tree_read : (value : List ℕ) (nodes inner rest : List Node) (root first d : Node) (told end : ℕ) (t : Tree) → Array value nodes t → nodes ≡ root ∷ inner → 1 ≤ length inner → ArePassed inner root.children told end rest → first ≡ get_or inner 0 d → Elements value first told end
tree_read value nodes inner rest root first d told end (leaf kind s) a e some passed first_is = absurd a.array
tree_read value nodes inner rest root first d told end (empty shape g) a e some passed first_is =
    let n = nodes_are root _ inner [] (sym e ∙ a.listed) in
    absurd (omega (arith, ap (λ (l : List Node). length l) n.1, some))
tree_read value nodes inner rest root first d told end (group shape ps) a e some passed first_is =
    let n = nodes_are root _ inner (parts_nodes 1 1 ps) (sym e ∙ a.listed) in
    array_read value inner rest first d told end ps a.document a.is (a.tree_is ∙ ap (λ (s : Shape). group s ps) a.array) (a.spelled ∙ ap (λ (s : Shape). text (group s ps) ++ a.document.after) a.array)
    n.1 (subst (λ (m : ℕ). ArePassed inner m told end rest) (ap (λ (x : Node). x.children) n.0) passed) first_is

pub elements_read : (value : List ℕ) (nodes rest : List Node) (d : Node) (told end : ℕ) → Spans (bracketed value) nodes → 1 ≤ length nodes → 1 ≤ length (take (length nodes - 1) (drop 1 nodes))
    → ArePassed (take (length nodes - 1) (drop 1 nodes)) (get_or nodes 0 d).children told end rest → Elements value (get_or (take (length nodes - 1) (drop 1 nodes)) 0 d) told end
elements_read value nodes rest d told end spans some some_inner passed =
    let a = array_of value nodes spans in
    tree_read value nodes (take (length nodes - 1) (drop 1 nodes)) rest (get_or nodes 0 d) (get_or (take (length nodes - 1) (drop 1 nodes)) 0 d) d told end a.0 a.1 (first_and nodes d some) some_inner passed refl

none_read : (value : List ℕ) (nodes inner : List Node) (root : Node) (t : Tree) → Array value nodes t → nodes ≡ root ∷ inner → length inner ≡ 0 → (asked : Parts → Asked) → GivesParts asked value (Err status.VALUE_CANT_INSERT)
none_read value nodes inner root (leaf kind s) a e none asked = absurd a.array
none_read value nodes inner root (empty shape g) a e none asked = inr (inl (a.document, g, a.is, a.tree_is ∙ ap (λ (s : Shape). empty s g) a.array, refl))
none_read value nodes inner root (group shape ps) a e none asked =
    let n = nodes_are root _ inner (parts_nodes 1 1 ps) (sym e ∙ a.listed) in
    let f = first_part 1 1 ps in
    absurd (omega (arith, ap (λ (l : List Node). length l) (n.1 ∙ f.whole), none))

pub elements_none : (value : List ℕ) (nodes : List Node) (d : Node) → Spans (bracketed value) nodes → 1 ≤ length nodes → length (take (length nodes - 1) (drop 1 nodes)) ≡ 0 → (asked : Parts → Asked) → GivesParts asked value (Err status.VALUE_CANT_INSERT)
elements_none value nodes d spans some none asked =
    let a = array_of value nodes spans in
    none_read value nodes (take (length nodes - 1) (drop 1 nodes)) (get_or nodes 0 d) a.0 a.1 (first_and nodes d some) none asked
