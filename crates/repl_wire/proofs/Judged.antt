-- What is told of bytes: wrong bytes stay wrong, missing bytes are missing, and a message is found.
use Rattle.std.specs.Prelude.{◌≡◌, ◌⊎◌, ℕ, ◌+◌, ◌-◌, ◌<◌, ◌≤◌, List, [], ◌++◌, length, take, drop, Some, refl}
use Rattle.std.proofs.Common.{inl, inr, sym, ap, ◌∙◌, subst, append_assoc, arith}
use Rattle.std.proofs.lemmas.List.{append-nil, length-append, length-take, take_at, take-append-le, take-append-drop}
use Rattle.std.proofs.Math.Seq.{take-append-add}
use Rattle.kv_edge.specs.Fields.{IsBytes, bytes_at}
use Rattle.kv_edge.proofs.Fields.{bytes_take}
use Rattle.repl_wire.specs.declared.decoding.WireStep.{WireStep}
use Rattle.repl_wire.specs.declared.decoding.WireStep.TheVariants as steps
use Rattle.repl_wire.specs.declared.heads.Head.{Head}
use Rattle.repl_wire.specs.declared.message.Message.{Message}
use Rattle.repl_wire.specs.declared.message.Sent.{Sent}
use Rattle.repl_wire.specs.Grammar.{IsSpelled, kind_of, body_bytes, head_bytes, head_layout, body_layout}
use Rattle.repl_wire.specs.Judging.{HeadAt, BeginsWith, Lacks, IsBad, Decodes}
use Rattle.repl_wire.specs.Layout.{Fits, Breaks}
use Rattle.repl_wire.specs.Reading.{IsBody}
use Rattle.repl_wire.proofs.HeadFields.{head_fits, head_open, head_length, SameHead, same_head}
use Rattle.repl_wire.proofs.Layouts.{no_fit, one_place, left_within, breaks_more}
use Rattle.repl_wire.proofs.OneMessage.{head_sent, sent_at, message_fits, one_message}

head_more : (bytes more : List ℕ) (head : Head) (rest : List ℕ) → HeadAt bytes head rest → HeadAt (bytes ++ more) head (rest ++ more)
head_more bytes more head rest at = record {
  right = at.right;
  front = ap (λ l. l ++ more) at.front ∙ append_assoc (head_bytes head.kind head.from head.to head.vbucket head.size) rest more;
}

-- a message at the front of more bytes has their head
front_same : (s : Sent) (bytes more spelt rest : List ℕ) (head : Head) (behind : List ℕ) → HeadAt bytes head behind → IsSpelled s spelt → bytes ++ more ≡ spelt ++ rest
    → SameHead (head_sent s) head (body_bytes s.message ++ rest) (behind ++ more)
front_same s bytes more spelt rest head behind at p e =
    same_head (bytes ++ more) (head_sent s) head (body_bytes s.message ++ rest) (behind ++ more)
    (subst (λ l. HeadAt l (head_sent s) (body_bytes s.message ++ rest)) (sym e) (sent_at s spelt rest p)) (head_more bytes more head behind at)

pub wrong_stays : (s : Sent) (bytes more spelt rest : List ℕ) (place : ℕ) → IsBad bytes place → IsSpelled s spelt → bytes ++ more ≡ spelt ++ rest → ⊥
wrong_stays s bytes more spelt rest place (inl b) p e =
    no_fit head_layout (bytes ++ more) (b.left + length more) (breaks_more head_layout bytes more b.left head_open b.breaks)
    (head_fits (bytes ++ more) (head_sent s) (body_bytes s.message ++ rest) (subst (λ l. HeadAt l (head_sent s) (body_bytes s.message ++ rest)) (sym e) (sent_at s spelt rest p)))
wrong_stays s bytes more spelt rest place (inr b) p e =
    let same = front_same s bytes more spelt rest b.head b.rest b.at p e in
    let body : body_bytes s.message ≡ take b.head.size b.rest =
    sym (take_at (body_bytes s.message) rest b.head.size same.size) ∙ ap (take b.head.size) same.rest ∙ take-append-le b.head.size b.rest more b.there in
    no_fit (body_layout b.head.kind) (take b.head.size b.rest) b.left b.breaks
    (subst (λ (x : ℕ × List ℕ). Fits (body_layout x.0) x.1) (λ i. (same.kind i, body i)) (message_fits s.message p.allowed.message))

pub missing : (s : Sent) (bytes more spelt rest : List ℕ) (n : ℕ) → Lacks bytes n → IsSpelled s spelt → bytes ++ more ≡ spelt ++ rest → length bytes + n ≤ length spelt
missing s bytes more spelt rest n (inl b) p e =
    let m = b.missing in
    omega (arith, ap length p.spelled, length-append (head_bytes (kind_of s.message) s.from s.to s.vbucket (length (body_bytes s.message))) (body_bytes s.message))
missing s bytes more spelt rest n (inr b) p e =
    let m = b.missing in
    let same = front_same s bytes more spelt rest b.head b.rest b.at p e in
    let size = same.size in
    let l = head_length bytes b.head b.rest b.at in
    omega (arith, ap length p.spelled, length-append (head_bytes (kind_of s.message) s.from s.to s.vbucket (length (body_bytes s.message))) (body_bytes s.message))

pub one_wrong : (bytes : List ℕ) (place other : ℕ) → IsBad bytes place → IsBad bytes other → place ≡ other
one_wrong bytes place other (inl a) (inl b) =
    let same = one_place head_layout bytes a.left b.left a.breaks b.breaks in
    let p = a.parts in
    let q = b.parts in
    omega arith
one_wrong bytes place other (inl a) (inr b) = absurd (no_fit head_layout bytes a.left a.breaks (head_fits bytes b.head b.rest b.at))
one_wrong bytes place other (inr a) (inl b) = absurd (no_fit head_layout bytes b.left b.breaks (head_fits bytes a.head a.rest a.at))
one_wrong bytes place other (inr a) (inr b) =
    let same = same_head bytes a.head b.head a.rest b.rest a.at b.at in
    let size = same.size in
    let moved : Breaks (body_layout b.head.kind) (take b.head.size b.rest) a.left =
    subst (λ (x : ℕ × ℕ × List ℕ). Breaks (body_layout x.0) (take x.1 x.2) a.left) (λ i. (same.kind i, same.size i, same.rest i)) a.breaks in
    let left = one_place (body_layout b.head.kind) (take b.head.size b.rest) a.left b.left moved b.breaks in
    let p = a.parts in
    let q = b.parts in
    omega arith

some_missing : (bytes : List ℕ) (n : ℕ) → Lacks bytes n → 0 < n
some_missing bytes n (inl b) = b.some
some_missing bytes n (inr b) = b.some

-- a message at the front is told, unless memory is refused
pub found : (bytes : List ℕ) (step : WireStep) → Decodes bytes step → (s : Sent) (spelt rest : List ℕ) → IsSpelled s spelt → bytes ≡ spelt ++ rest
    → (step ≡ steps.Whole s (length spelt)) ⊎ (step ≡ steps.NoMemory)
found bytes (steps.Whole t used) d s spelt rest p e =
    let one = one_message s t spelt (take used bytes) rest (drop used bytes) p d.spelled (sym e ∙ sym (take-append-drop used bytes)) in
    let there = d.there in
    let len : used ≡ length spelt = omega (arith, ap length one.1, length-take used bytes) in
    inl (λ i. steps.Whole (sym one.0 i) (len i))
found bytes (steps.More n) d s spelt rest p e =
    let m = missing s bytes [] spelt rest n d p (append-nil bytes ∙ e) in
    let some = some_missing bytes n d in
    absurd (omega (arith, ap length e, length-append spelt rest))
found bytes (steps.Bad place) d s spelt rest p e = absurd (wrong_stays s bytes [] spelt rest place d p (append-nil bytes ∙ e))
found bytes steps.NoMemory d s spelt rest p e = inr refl

-- ---- a head and the bytes of its body

-- what stands behind a head is a body, and what follows it
record Behind (rest body : List ℕ) (size : ℕ) : Type 0 where
  there : size ≤ length rest
  len : length body ≡ size
  is : take size rest ≡ body

behind : (rest body more : List ℕ) (size : ℕ) → IsBytes rest → bytes_at size rest ≡ Some (body, more) → Behind rest body size
behind rest body more size fits e =
    let t = bytes_take size rest body more fits e in
    let len = t.1 in
    record {
      there = omega (arith, ap length t.0.parts, length-append body more);
      len = len;
      is = ap (take size) t.0.parts ∙ take_at body more size len;
    }

taken_head : (bytes : List ℕ) (head : Head) (rest : List ℕ) → HeadAt bytes head rest
    → take (12 + head.size) bytes ≡ head_bytes head.kind head.from head.to head.vbucket head.size ++ take head.size rest
taken_head bytes head rest at = ap (take (12 + head.size)) at.front ∙ take-append-add (head_bytes head.kind head.from head.to head.vbucket head.size) rest head.size

pub whole_found : (bytes : List ℕ) (head : Head) (rest body more : List ℕ) (m : Message) → HeadAt bytes head rest → IsBytes rest → bytes_at head.size rest ≡ Some (body, more) → IsBody head.kind m body
    → BeginsWith bytes (record { from = head.from; to = head.to; vbucket = head.vbucket; message = m }) (12 + head.size)
whole_found bytes head rest body more m at fits e b =
    let h = behind rest body more head.size fits e in
    let r = at.right in
    let there = h.there in
    let size : head.size ≡ length (body_bytes m) = sym h.len ∙ ap length b.spelled in
    record {
      there = omega (arith, head_length bytes head rest at);
      spelled = record {
        allowed = record { source = r.source; target = r.target; vbucket = r.vbucket; message = b.allowed };
        spelled = taken_head bytes head rest at
            ∙ (λ i. head_bytes (sym b.kind_is i) head.from head.to head.vbucket (size i) ++ (h.is ∙ b.spelled) i);
      };
    }

pub wrong_found : (bytes : List ℕ) (head : Head) (rest body more : List ℕ) (left : ℕ) → HeadAt bytes head rest → IsBytes rest → bytes_at head.size rest ≡ Some (body, more) → Breaks (body_layout head.kind) body left
    → IsBad bytes (12 + head.size - left)
wrong_found bytes head rest body more left at fits e b =
    let h = behind rest body more head.size fits e in
    let len = h.len in
    let less = left_within (body_layout head.kind) body left b in
    inr (record {
      head = head;
      rest = rest;
      at = at;
      there = h.there;
      left = left;
      parts = omega arith;
      breaks = subst (λ l. Breaks (body_layout head.kind) l left) (sym h.is) b;
    })
