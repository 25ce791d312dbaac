-- The loop over parts: what was read, and what is left.
use Rattle.std.proofs.Common.{◌≡◌, ℕ, zero, suc, ◌+◌, ◌-◌, ◌<◌, ◌≤◌, List, ◌++◌, length, Bool, true, false, Result, Ok, Err, refl, sym, ap, subst, ◌∙◌, arith, append_assoc, length-append}
use Rattle.json_model.specs.declared.kinds.Shape.{Shape}
use Rattle.json_spell.specs.declared.node.Span.{Span}
use Rattle.json_spell.specs.declared.node.Node.{Node}
use Rattle.json_spell.specs.declared.tokens.Stop.{Stop}
use Rattle.json_model.specs.Spelled.{Head, Tree, leaf, empty, group, Parts, last, more, head_text, text}
use Rattle.json_spell.specs.Nodes.{key_span, tree_nodes, parts_nodes}
use Rattle.json_model.specs.Spelled.{size, parts_size, count}
use Rattle.json_spell.specs.Tokens.{gap, behind_gap}
use Rattle.std.specs.Borrow.{Bor}
use Rattle.json_spell.specs.declared.tokens.Stop.TheVariants as stops
use Rattle.json_spell.specs.Reading.{◌>>=◌, Read, head_at, key_at, part_end, join_parts, parts, Writes, WritesCount}
use Rattle.json_spell.proofs.Fronts.{gap_length}
use Rattle.json_spell.proofs.Values.{fine, stop, bind_ok, ok_is, Heads, head_took, IsEnd, end_took}
use Rattle.json_spell.proofs.Again.{parts_chain}

-- ---- lengths

mutual
  pub nodes_size : (at index : ℕ) (key : Span) (t : Tree) → length (tree_nodes at index key t) ≡ size t
  nodes_size at index key (leaf kind s) = refl
  nodes_size at index key (empty shape g) = refl
  nodes_size at index key (group shape ps) = ap suc (parts_nodes_size (at + 1) (index + 1) ps)

  pub parts_nodes_size : (at index : ℕ) (ps : Parts) → length (parts_nodes at index ps) ≡ parts_size ps
  parts_nodes_size at index (last h t g) = nodes_size (at + length (head_text h)) index (key_span at h) t
  parts_nodes_size at index (more h t g ps) =
      let next : ℕ = at + (length (head_text h) + (length (text t) + (length g + 1))) in
      omega (arith, length-append (tree_nodes (at + length (head_text h)) index (key_span at h) t) (parts_nodes next (index + size t) ps), nodes_size (at + length (head_text h)) index (key_span at h) t, parts_nodes_size next (index + size t) ps)

-- ---- turns

-- a reading that leaves no more than it was given
abbrev pub Shortens : (List ℕ → Read Tree) → Type 0
Shortens v = (bytes : List ℕ) (x : Tree × List ℕ) → v bytes ≡ Ok x → (bytes ≡ text x.0 ++ x.1)

pub bind_same : {A B : Type 0} (r : Result A Stop) (f g : A → Result B Stop) → ((x : A) → r ≡ Ok x → f x ≡ g x) → (r >>= f) ≡ (r >>= g)
bind_same (Ok x) f g same = same x refl
bind_same (Err s) f g same = refl

pub end_short : (shape : Shape) (bytes : List ℕ) (b : Bool) (rest : List ℕ) → IsEnd shape (behind_gap bytes) (b, rest) → length rest < length bytes
end_short shape bytes true rest e = omega (arith, gap_length bytes, ap (λ (l : List ℕ). length l) e)
end_short shape bytes false rest e = omega (arith, gap_length bytes, ap (λ (l : List ℕ). length l) e)

-- what stands behind a part is shorter
pub part_short : (shape : Shape) (bytes : List ℕ) (h : Head × List ℕ) (t : Tree × List ℕ) (e : Bool × List ℕ) → Heads shape bytes h → h.1 ≡ text t.0 ++ t.1 → IsEnd shape (behind_gap t.1) e → length e.1 < length bytes
part_short shape bytes h t e heads whole is =
    omega (arith, end_short shape t.1 e.0 e.1 is, ap (λ (l : List ℕ). length l) whole, length-append (text t.0) t.1, ap (λ (l : List ℕ). length l) heads.whole, length-append (head_text h.0) h.1)

join_same : (h : Head) (t : Tree) (g : List ℕ) (f k : List ℕ → Read Parts) (e : Bool × List ℕ) → f e.1 ≡ k e.1 → join_parts h t g f e ≡ join_parts h t g k e
join_same h t g f k (false, rest) same = refl
join_same h t g f k (true, rest) same = ap (λ r. r >>= λ ps. fine (more h t g ps.0, ps.1)) same

pub enough : (v : List ℕ → Read Tree) → Shortens v → (shape : Shape) (n m : ℕ) (bytes : List ℕ) → length bytes < n → length bytes < m → parts v shape n bytes ≡ parts v shape m bytes
unfolding parts
enough v law shape zero m bytes a b = absurd (omega arith)
enough v law shape (suc n) zero bytes a b = absurd (omega arith)
enough v law shape (suc n) (suc m) bytes a b =
    bind_same (head_at shape bytes) _ _ (λ h eh.
    bind_same (v h.1) _ _ (λ t et.
    bind_same (part_end shape (behind_gap t.1)) _ _ (λ e ee.
    let short : length e.1 < length bytes = part_short shape bytes h t e (head_took shape bytes h eh) (law h.1 t et) (end_took shape (behind_gap t.1) e ee) in
    join_same h.0 t.0 (gap t.1) (λ rest. parts v shape n rest) (λ rest. parts v shape m rest) e
    (enough v law shape n m e.1 (omega (arith, short, a)) (omega (arith, short, b))))))

-- ---- the loop

-- What is left is read as the end of all: all parts are then those before and those, with their nodes; and what is wrong
-- with what is left is wrong with all.
pub record GoesOn (v : List ℕ → Read Tree) (shape : Shape) (end : ℕ) (bytes rest : List ℕ) (old now : List Node) (told : ℕ) : Type 0 where
  pub counted : told + length rest ≤ length bytes
  pub done : (ps : Parts) (left : List ℕ) → parts v shape (suc (length rest)) rest ≡ Ok (ps, left)
      → (all : Parts) × (parts v shape (suc (length bytes)) bytes ≡ Ok (all, left))
      × (old ++ parts_nodes (end - length bytes) (length old) all ≡ now ++ parts_nodes (end - length rest) (length now) ps) × (count all ≡ told + count ps)
  pub wrong : (s : Stop) → parts v shape (suc (length rest)) rest ≡ Err s → parts v shape (suc (length bytes)) bytes ≡ Err s

pub goes_init : (v : List ℕ → Read Tree) (shape : Shape) (end : ℕ) (bytes : List ℕ) (old : List Node) → GoesOn v shape end bytes bytes old old 0
goes_init v shape end bytes old = record { counted = omega arith; done = λ ps left e. (ps, e, refl, omega arith); wrong = λ s e. e }

-- where the parts of a part stand
part_nodes : (end : ℕ) (now made : List Node) (h : Head) (t : Tree) (g : List ℕ) (ps : Parts) (key : Span) (rest value next : List ℕ) → length rest ≤ end
    → key ≡ key_span (end - length rest) h → length rest ≡ length (head_text h) + length value → length value ≡ length (text t) + (length g + suc (length next))
    → made ≡ now ++ tree_nodes (end - length value) (length now) key t
    → now ++ parts_nodes (end - length rest) (length now) (more h t g ps) ≡ made ++ parts_nodes (end - length next) (length made) ps
part_nodes end now made h t g ps key rest value next room k a b m =
    let at : ℕ = end - length rest in
    let mine : List Node = tree_nodes (end - length value) (length now) key t in
    let e1 : at + length (head_text h) ≡ end - length value = omega (arith, a, room) in
    let e2 : at + (length (head_text h) + (length (text t) + (length g + 1))) ≡ end - length next = omega (arith, a, b, room) in
    let e3 : length now + size t ≡ length made = omega (arith, ap (λ (l : List Node). length l) m, length-append now mine, nodes_size (end - length value) (length now) key t) in
    let one : tree_nodes (at + length (head_text h)) (length now) (key_span at h) t ≡ mine = rw (e1, ← k) refl in
    let two : parts_nodes (at + (length (head_text h) + (length (text t) + (length g + 1)))) (length now + size t) ps ≡ parts_nodes (end - length next) (length made) ps = rw (e2, e3) refl in
    ap (λ l. now ++ l) (ap (λ l. l ++ parts_nodes (at + (length (head_text h) + (length (text t) + (length g + 1)))) (length now + size t) ps) one ∙ ap (λ l. mine ++ l) two)
    ∙ sym (append_assoc now mine (parts_nodes (end - length next) (length made) ps)) ∙ ap (λ l. l ++ parts_nodes (end - length next) (length made) ps) (sym m)

pub head_of_key : (at : ℕ) (shape : Shape) (bytes value : List ℕ) (key : Span) → key_at at shape bytes ≡ Ok (key, value) → (h : Head) × (head_at shape bytes ≡ Ok (h, value)) × (key ≡ key_span at h)
head_of_key at shape bytes value key e =
    let r = bind_ok (head_at shape bytes) (λ h. fine {A = Span × List ℕ} (key_span at h.0, h.1)) (key, value) e in
    let same = ok_is {A = Span × List ℕ} (key_span at r.0.0, r.0.1) (key, value) r.2 in
    (r.0.0, r.1 ∙ ap (λ (l : List ℕ). fine {A = Head × List ℕ} (r.0.0, l)) (ap (λ (p : Span × List ℕ). p.1) same), ap (λ (p : Span × List ℕ). p.0) (sym same))

-- what one turn of the loop reads
pub record Turn (v : List ℕ → Read Tree) (shape : Shape) (end : ℕ) (rest : List ℕ) (now made : List Node) (goes : Bool) (next : List ℕ) : Type 0 where
  pub head : Head
  pub value : List ℕ
  pub tree : Tree
  pub behind : List ℕ
  pub key : Span
  pub head_is : head_at shape rest ≡ Ok (head, value)
  pub key_is : key ≡ key_span (end - length rest) head
  pub tree_is : v value ≡ Ok (tree, behind)
  pub made_is : made ≡ now ++ tree_nodes (end - length value) (length now) key tree
  pub end_is : part_end shape (behind_gap behind) ≡ Ok (goes, next)

pub turn : (v : List ℕ → Read Tree) (shape : Shape) (end : ℕ) (rest value behind : List ℕ) (now made : List Node) (key : Span) (tree : Tree) (goes : Bool) (next : List ℕ)
    → key_at (end - length rest) shape rest ≡ Ok (key, value) → v value ≡ Ok (tree, behind) → made ≡ now ++ tree_nodes (end - length value) (length now) key tree → part_end shape (behind_gap behind) ≡ Ok (goes, next)
    → Turn v shape end rest now made goes next
turn v shape end rest value behind now made key tree goes next k t m e =
    let h = head_of_key (end - length rest) shape rest value key k in
    record { head = h.0; value = value; tree = tree; behind = behind; key = key; head_is = h.1; key_is = h.2; tree_is = t; made_is = m; end_is = e }

turn_chain : (v : List ℕ → Read Tree) (shape : Shape) (n end : ℕ) (rest : List ℕ) (now made : List Node) (goes : Bool) (next : List ℕ) → (u : Turn v shape end rest now made goes next)
    → parts v shape (suc n) rest ≡ join_parts u.head u.tree (gap u.behind) (λ r. parts v shape n r) (goes, next)
turn_chain v shape n end rest now made goes next u = parts_chain v shape n rest u.head u.tree u.value u.behind next goes u.head_is u.tree_is u.end_is

pub turn_short : (v : List ℕ → Read Tree) → Shortens v → (shape : Shape) (end : ℕ) (rest : List ℕ) (now made : List Node) (goes : Bool) (next : List ℕ) → Turn v shape end rest now made goes next → length next < length rest
turn_short v law shape end rest now made goes next u =
    part_short shape rest (u.head, u.value) (u.tree, u.behind) (goes, next) (head_took shape rest (u.head, u.value) u.head_is) (law u.value (u.tree, u.behind) u.tree_is) (end_took shape (behind_gap u.behind) (goes, next) u.end_is)

pub goes_step : (v : List ℕ → Read Tree) → Shortens v → (shape : Shape) (end : ℕ) (bytes rest next : List ℕ) (old now made : List Node) (told : ℕ) → length bytes ≤ end
    → GoesOn v shape end bytes rest old now told → Turn v shape end rest now made true next → GoesOn v shape end bytes next old made (told + 1)
goes_step v law shape end bytes rest next old now made told room g u =
    let short : length next < length rest = turn_short v law shape end rest now made true next u in
    let chain = turn_chain v shape (length rest) end rest now made true next u in
    let fuel : parts v shape (length rest) next ≡ parts v shape (suc (length next)) next = enough v law shape (length rest) (suc (length next)) next short (omega arith) in
    let heads = head_took shape rest (u.head, u.value) u.head_is in
    let is = end_took shape (behind_gap u.behind) (true, next) u.end_is in
    let n1 : length rest ≡ length (head_text u.head) + length u.value = omega (arith, ap (λ (l : List ℕ). length l) heads.whole, length-append (head_text u.head) u.value) in
    let n2 : length u.value ≡ length (text u.tree) + (length (gap u.behind) + suc (length next)) =
    omega (arith, ap (λ (l : List ℕ). length l) (law u.value (u.tree, u.behind) u.tree_is), length-append (text u.tree) u.behind, gap_length u.behind, ap (λ (l : List ℕ). length l) is) in
    record {
      counted = omega (arith, g.counted, short);
      done = λ ps left e.
          let whole : parts v shape (suc (length rest)) rest ≡ Ok (more u.head u.tree (gap u.behind) ps, left) = chain ∙ ap (λ r. r >>= λ x. fine (more u.head u.tree (gap u.behind) x.0, x.1)) (fuel ∙ e) in
          let d = g.done (more u.head u.tree (gap u.behind) ps) left whole in
          let nodes = part_nodes end now made u.head u.tree (gap u.behind) ps u.key rest u.value next (omega (arith, g.counted, room)) u.key_is n1 n2 u.made_is in
          (d.0, d.1, d.2 ∙ nodes, omega (arith, d.3));
      wrong = λ s e. g.wrong s (chain ∙ ap (λ r. r >>= λ x. fine (more u.head u.tree (gap u.behind) x.0, x.1)) (fuel ∙ e));
    }

pub goes_done : (v : List ℕ → Read Tree) (shape : Shape) (end : ℕ) (bytes rest next : List ℕ) (old now made : List Node) (told : ℕ) → length bytes ≤ end
    → GoesOn v shape end bytes rest old now told → Turn v shape end rest now made false next
    → (all : Parts) × (parts v shape (suc (length bytes)) bytes ≡ Ok (all, next)) × (made ≡ old ++ parts_nodes (end - length bytes) (length old) all) × (told + 1 ≡ count all)
goes_done v shape end bytes rest next old now made told room g u =
    let d = g.done (last u.head u.tree (gap u.behind)) next (turn_chain v shape (length rest) end rest now made false next u) in
    let heads = head_took shape rest (u.head, u.value) u.head_is in
    let at : end - length rest + length (head_text u.head) ≡ end - length u.value = omega (arith, ap (λ (l : List ℕ). length l) heads.whole, length-append (head_text u.head) u.value, g.counted, room) in
    let mine : tree_nodes (end - length rest + length (head_text u.head)) (length now) (key_span (end - length rest) u.head) u.tree ≡ tree_nodes (end - length u.value) (length now) u.key u.tree = rw (at, ← u.key_is) refl in
    (d.0, d.1, u.made_is ∙ sym (ap (λ l. now ++ l) mine) ∙ sym d.2, omega (arith, d.3))

-- ---- what goes wrong in a turn

pub wrong_head : (v : List ℕ → Read Tree) (shape : Shape) (at n : ℕ) (rest : List ℕ) (s : Stop) → key_at at shape rest ≡ Err s → parts v shape (suc n) rest ≡ Err s
unfolding parts
wrong_head v shape at n rest s e = by_head (head_at shape rest) _ e
  where
    by_head : (r : Read Head) (f : Head × List ℕ → Read Parts) → (r >>= λ h. fine {A = Span × List ℕ} (key_span at h.0, h.1)) ≡ Err s → (r >>= f) ≡ Err s
    by_head (Ok h) f e = cc
    by_head (Err t) f e = let same : t ≡ s = cc in ap (λ s. stop s) same

pub wrong_value : (v : List ℕ → Read Tree) (shape : Shape) (at n : ℕ) (rest value : List ℕ) (key : Span) (s : Stop) → key_at at shape rest ≡ Ok (key, value) → v value ≡ Err s → parts v shape (suc n) rest ≡ Err s
unfolding parts
wrong_value v shape at n rest value key s k e = let h = head_of_key at shape rest value key k in rw (h.1, e) refl

pub wrong_end : (v : List ℕ → Read Tree) (shape : Shape) (at n : ℕ) (rest value behind : List ℕ) (key : Span) (tree : Tree) (s : Stop) → key_at at shape rest ≡ Ok (key, value) → v value ≡ Ok (tree, behind) → part_end shape (behind_gap behind) ≡ Err s → parts v shape (suc n) rest ≡ Err s
unfolding parts
wrong_end v shape at n rest value behind key tree s k t e = let h = head_of_key at shape rest value key k in rw (h.1, t, e) refl

-- ---- what is told of a stop

pub stops_count : {A : Type 0} (read : Read A) (made : A → List Node) (many : A → ℕ) (old new : List Node) (s : Stop) (r : Result (Bor (List ℕ) × ℕ) Stop) → r ≡ Err s → read ≡ Err s → WritesCount read made many old new r
stops_count read made many old new s r e h = subst (λ r. WritesCount read made many old new r) (sym e) (by_stop s h)
  where
    by_stop : (s : Stop) → read ≡ Err s → WritesCount read made many old new (Err s)
    by_stop (stops.Not n) h = h
    by_stop (stops.Deep n) h = h
    by_stop stops.NoMemory h = tt

-- a stop within is a stop of the whole, unless memory was refused
pub stops_within : {A B : Type 0} (read : Read A) (made : A → List Node) (many : A → ℕ) (old new : List Node) (inner : Read B) (made2 : B → List Node) (old2 new2 : List Node) (s : Stop) (r : Result (Bor (List ℕ) × ℕ) Stop)
    → r ≡ Err s → ((t : Stop) → inner ≡ Err t → read ≡ Err t) → Writes inner made2 old2 new2 (Err s) → WritesCount read made many old new r
stops_within {A} {B} read made many old new inner made2 old2 new2 s r e further h = subst (λ r. WritesCount read made many old new r) (sym e) (by_stop s h)
  where
    by_stop : (s : Stop) → Writes inner made2 old2 new2 (Err s) → WritesCount read made many old new (Err s)
    by_stop (stops.Not n) h = further (stops.Not n) h
    by_stop (stops.Deep n) h = further (stops.Deep n) h
    by_stop stops.NoMemory h = tt

-- a part's value is within the text
pub key_room : (shape : Shape) (end : ℕ) (bytes rest value : List ℕ) (key : Span) → length bytes ≤ end → (n : ℕ) → n + length rest ≤ length bytes → key_at (end - length rest) shape rest ≡ Ok (key, value) → length value ≤ end
key_room shape end bytes rest value key room n less e =
    let h = head_of_key (end - length rest) shape rest value key e in
    let w = head_took shape rest (h.0, value) h.1 in
    omega (arith, ap (λ (l : List ℕ). length l) w.whole, length-append (head_text h.0) value)

-- what is told of the reading of parts
abbrev pub ToldParts : (List ℕ → Read Tree) → Shape → ℕ → List ℕ → List Node → List Node → Result (Bor (List ℕ) × ℕ) Stop → Type 0
ToldParts v shape end bytes old new r = WritesCount (parts v shape (suc (length bytes)) bytes) (λ ps. parts_nodes (end - length bytes) (length old) ps) (λ ps. count ps) old new r

pub parts_stop : (v : List ℕ → Read Tree) (shape : Shape) (end : ℕ) (bytes : List ℕ) (old new : List Node) (s : Stop) (r : Result (Bor (List ℕ) × ℕ) Stop) → r ≡ Err s → parts v shape (suc (length bytes)) bytes ≡ Err s → ToldParts v shape end bytes old new r
parts_stop v shape end bytes old new s r e h = stops_count (parts v shape (suc (length bytes)) bytes) (λ ps. parts_nodes (end - length bytes) (length old) ps) (λ ps. count ps) old new s r e h

pub parts_stop_within : (v : List ℕ → Read Tree) (shape : Shape) (end : ℕ) (bytes : List ℕ) (old new : List Node) (value : List ℕ) (key : Span) (now made : List Node) (s : Stop) (r : Result (Bor (List ℕ) × ℕ) Stop)
    → r ≡ Err s → ((t : Stop) → v value ≡ Err t → parts v shape (suc (length bytes)) bytes ≡ Err t) → Writes (v value) (λ t. tree_nodes (end - length value) (length now) key t) now made (Err s) → ToldParts v shape end bytes old new r
parts_stop_within v shape end bytes old new value key now made s r e further h =
    stops_within (parts v shape (suc (length bytes)) bytes) (λ ps. parts_nodes (end - length bytes) (length old) ps) (λ ps. count ps) old new (v value) (λ t. tree_nodes (end - length value) (length now) key t) now made s r e further h
