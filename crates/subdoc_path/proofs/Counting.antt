-- Elements passed one by one.
use Rattle.std.proofs.Common.{◌≡◌, ℕ, suc, ◌+◌, ◌<◌, List, get_or, refl, sym, ap, subst, ◌∙◌, arith}
use Rattle.json_spell.specs.declared.node.Node.{Node}
use Rattle.json_model.specs.declared.kinds.Shape.{Shape}
use Rattle.json_model.specs.Spelled.{Parts, last, more, head_text, text, size, count}
use Rattle.std.proofs.Common.{length}
use Rattle.json_model.specs.Follow.{earlier}
use Rattle.subdoc_path.specs.Standing.{StandsParts}
use Rattle.subdoc_path.proofs.Walking.{first_node, next_parts}

-- What is left of the parts behind so many: as many values stand before the one that is wanted as in all.
pub record Passed (bytes : List ℕ) (nodes : List Node) (shape : Shape) (from : ℕ) (ps : Parts) (number done next : ℕ) : Type 0 where
  pub at : ℕ
  pub parts : Parts
  pub stands : StandsParts bytes nodes at next shape parts
  pub counted : done + count parts ≡ count ps
  pub earlier_is : (m : ℕ) → done + m ≡ number → next + earlier parts m ≡ from + earlier ps number

pub passed_none : (bytes : List ℕ) (nodes : List Node) (at : ℕ) (shape : Shape) (from : ℕ) (ps : Parts) (number : ℕ) → StandsParts bytes nodes at from shape ps → Passed bytes nodes shape from ps number 0 from
passed_none bytes nodes at shape from ps number s =
    record { at = at; parts = ps; stands = s; counted = omega arith; earlier_is = λ m e. ap (λ (k : ℕ). from + earlier ps k) (same m e) }
  where
    same : (m : ℕ) → 0 + m ≡ number → m ≡ number
    same m e = omega (arith, e)

pub passed_all : (bytes : List ℕ) (nodes : List Node) (shape : Shape) (from : ℕ) (ps : Parts) (number next : ℕ) → Passed bytes nodes shape from ps number number next → next ≡ from + earlier ps number
passed_all bytes nodes shape from ps number next p = omega (arith, none p.parts, p.earlier_is 0 (omega arith))
  where
    none : (qs : Parts) → earlier qs 0 ≡ 0
    none (last h t g) = refl
    none (more h t g qs) = refl

pub node_there : (bytes : List ℕ) (nodes : List Node) (shape : Shape) (from : ℕ) (ps : Parts) (number done next : ℕ) → Passed bytes nodes shape from ps number done next → next < length nodes
node_there bytes nodes shape from ps number done next p = (first_node bytes nodes p.at next shape p.parts p.stands).within

pub passed_more : (bytes : List ℕ) (nodes : List Node) (shape : Shape) (from : ℕ) (ps : Parts) (number done next : ℕ) (n : Node) → Passed bytes nodes shape from ps number done next
    → done < number → number < count ps → n ≡ get_or nodes next n → Passed bytes nodes shape from ps number (done + 1) n.after
passed_more bytes nodes shape from ps number done next n p less few is = by_parts p.parts p.stands p.counted p.earlier_is
  where
    by_parts : (qs : Parts) → StandsParts bytes nodes p.at next shape qs → done + count qs ≡ count ps → ((m : ℕ) → done + m ≡ number → next + earlier qs m ≡ from + earlier ps number) → Passed bytes nodes shape from ps number (done + 1) n.after
    by_parts (last h t g) s c e = absurd (omega (arith, c, less, few))
    by_parts (more h t g qs) s c e =
        let f = first_node bytes nodes p.at next shape (more h t g qs) s in
        let after : n.after ≡ next + size t = ap (λ (m : Node). m.after) (is ∙ f.is n) ∙ f.says.after in
        let place : ℕ = p.at + (length (head_text h) + (length (text t) + (length g + 1))) in
        record {
          at = place;
          parts = qs;
          stands = subst (λ (i : ℕ). StandsParts bytes nodes place i shape qs) (sym after) (next_parts bytes nodes p.at next shape h t g qs s);
          counted = omega (arith, c);
          earlier_is = λ m h. omega (arith, after, e (suc m) (omega (arith, h)));
        }
