-- One message for one spelling, and one spelling for one message.
use Rattle.std.specs.Prelude.{◌≡◌, ℕ, ◌<◌, ◌^◌, nat_eq, nat_le, nat_lt, Bool, true, false, ◌||◌, List, [], ◌++◌, length, IsTrue, refl}
use Rattle.std.specs.Int.{w64, to_be_bytes}
use Rattle.std.proofs.Common.{sym, ap, ◌∙◌, subst, append_assoc, arith}
use Rattle.std.proofs.lemmas.Bool.{and_parts, leb-true, ltb-true}
use Rattle.std.proofs.lemmas.Bool.Decides.{nat_tests}
use Rattle.std.proofs.lemmas.List.{append-nil}
use Rattle.replica_core.specs.Terms.{is_term}
use Rattle.vb_log.specs.declared.limits.TheConstants.{GREATEST_POSITION}
use Rattle.vb_log.specs.Contents.{content_bytes}
use Rattle.vb_log.specs.Spelling.{spelling as entry_bytes}
use Rattle.vb_log.proofs.ContentBytes.{one_spelled as one_content}
use Rattle.vb_log.proofs.Entries.{one_spelled as one_entry}
use Rattle.vb_log.proofs.Layouts.{same_run}
use Rattle.repl_wire.specs.declared.heads.Head.{Head}
use Rattle.repl_wire.specs.declared.message.Message.{Message}
use Rattle.repl_wire.specs.declared.message.Message.TheVariants as messages
use Rattle.repl_wire.specs.declared.message.Sent.{Sent}
use Rattle.repl_wire.specs.Grammar.{is_accepted, is_length, is_position, IsAllowedMessage, IsSpelled, kind_of, body_bytes, head_bytes, spelling, body_layout}
use Rattle.repl_wire.specs.Judging.{HeadAt}
use Rattle.repl_wire.specs.Layout.{within, eight, Fits}
use Rattle.repl_wire.proofs.HeadFields.{same_head}
use Rattle.repl_wire.proofs.Measured.{size_right}
use Rattle.repl_wire.proofs.OneNumber.{same_number}

-- ---- the numbers have eight bytes

term_small : (t : ℕ) → IsTrue (is_term t) → t < 2 ^ 64
term_small t h = let l = ltb-true t (2 ^ 48) (and_parts (nat_le 4 t) (nat_lt t (2 ^ 48)) h).1 in omega arith

accepted_small : (t : ℕ) → IsTrue (is_accepted t) → t < 2 ^ 64
accepted_small t h = go (nat_eq t 0) refl h
  where
    none : nat_eq t 0 ≡ true → t < 2 ^ 64
    none e = grind (arith, nat_tests)

    go : (b : Bool) → nat_eq t 0 ≡ b → IsTrue (b || is_term t) → t < 2 ^ 64
    go true e h = none e
    go false e h = term_small t h

length_small : (n : ℕ) → IsTrue (is_length n) → n < 2 ^ 64
length_small n h = let l = leb-true n GREATEST_POSITION h in omega arith

position_small : (n : ℕ) → IsTrue (is_position n) → n < 2 ^ 64
position_small n h = length_small n (and_parts (nat_le 1 n) (is_length n) h).1

-- ---- one body

-- a list with nothing behind it
ended : (a b : List ℕ) → a ≡ b → a ++ [] ≡ b ++ []
ended a b e = ap (λ l. l ++ []) e

message_one : (a b : Message) → IsAllowedMessage a → IsAllowedMessage b → kind_of a ≡ kind_of b → body_bytes a ≡ body_bytes b → a ≡ b
message_one (messages.Entry t p x) (messages.Entry u q y) h k same e =
    let term = same_number eight t u (to_be_bytes w64 p ++ entry_bytes x) (to_be_bytes w64 q ++ entry_bytes y) (term_small t h.0) (term_small u k.0) e in
    let position = same_number eight p q (entry_bytes x) (entry_bytes y) (position_small p h.1) (position_small q k.1) term.rest in
    let entry = one_entry x y (entry_bytes x) (record { allowed = h.2; spelled = refl }) (record { allowed = k.2; spelled = position.rest }) in
    λ i. messages.Entry (term.same i) (position.same i) (entry i)
message_one (messages.Ack t m d) (messages.Ack u n f) h k same e =
    let term = same_number eight t u (to_be_bytes w64 m ++ to_be_bytes w64 d) (to_be_bytes w64 n ++ to_be_bytes w64 f) (term_small t h.0) (term_small u k.0) e in
    let mem = same_number eight m n (to_be_bytes w64 d) (to_be_bytes w64 f) (length_small m h.1) (length_small n k.1) term.rest in
    let disk = same_number eight d f [] [] (length_small d h.2) (length_small f k.2) (ended (to_be_bytes w64 d) (to_be_bytes w64 f) mem.rest) in
    λ i. messages.Ack (term.same i) (mem.same i) (disk.same i)
message_one (messages.Rejoin t a l n) (messages.Rejoin u b m o) h k same e =
    let term = same_number eight t u (to_be_bytes w64 a ++ (to_be_bytes w64 l ++ to_be_bytes w64 n)) (to_be_bytes w64 b ++ (to_be_bytes w64 m ++ to_be_bytes w64 o)) (term_small t h.0) (term_small u k.0) e in
    let accepted = same_number eight a b (to_be_bytes w64 l ++ to_be_bytes w64 n) (to_be_bytes w64 m ++ to_be_bytes w64 o) (accepted_small a h.1) (accepted_small b k.1) term.rest in
    let len = same_number eight l m (to_be_bytes w64 n) (to_be_bytes w64 o) (length_small l h.2) (length_small m k.2) accepted.rest in
    let incarnation = same_number eight n o [] [] h.3 k.3 (ended (to_be_bytes w64 n) (to_be_bytes w64 o) len.rest) in
    λ i. messages.Rejoin (term.same i) (accepted.same i) (len.same i) (incarnation.same i)
message_one (messages.Adopt t n x) (messages.Adopt u o y) h k same e =
    let term = same_number eight t u (to_be_bytes w64 n ++ content_bytes x) (to_be_bytes w64 o ++ content_bytes y) (term_small t h.0) (term_small u k.0) e in
    let incarnation = same_number eight n o (content_bytes x) (content_bytes y) h.1 k.1 term.rest in
    let content = one_content x y (content_bytes x) (record { whole = h.2; spelled = refl }) (record { whole = k.2; spelled = incarnation.rest }) in
    λ i. messages.Adopt (term.same i) (incarnation.same i) (content i)
message_one a b h k same e = absurd (omega arith)

-- a body keeps its layout
pub message_fits : (m : Message) → IsAllowedMessage m → Fits (body_layout (kind_of m)) (body_bytes m)
message_fits (messages.Entry t p x) h = (
  t,
  to_be_bytes w64 p ++ entry_bytes x,
  record { number = record { front = refl; small = term_small t h.0 }; passes = h.0 },
  (
    p,
    entry_bytes x,
    record { number = record { front = refl; small = position_small p h.1 }; passes = h.1 },
    (x, record { allowed = h.2; spelled = refl }),
  ),
)
message_fits (messages.Ack t m d) h = (
  t,
  to_be_bytes w64 m ++ to_be_bytes w64 d,
  record { number = record { front = refl; small = term_small t h.0 }; passes = h.0 },
  (
    m,
    to_be_bytes w64 d,
    record { number = record { front = refl; small = length_small m h.1 }; passes = h.1 },
    (d, [], record { number = record { front = sym (append-nil (to_be_bytes w64 d)); small = length_small d h.2 }; passes = h.2 }, tt),
  ),
)
message_fits (messages.Rejoin t a l n) h = (
  t,
  to_be_bytes w64 a ++ (to_be_bytes w64 l ++ to_be_bytes w64 n),
  record { number = record { front = refl; small = term_small t h.0 }; passes = h.0 },
  (
    a,
    to_be_bytes w64 l ++ to_be_bytes w64 n,
    record { number = record { front = refl; small = accepted_small a h.1 }; passes = h.1 },
    (
      l,
      to_be_bytes w64 n,
      record { number = record { front = refl; small = length_small l h.2 }; passes = h.2 },
      (n, [], record { number = record { front = sym (append-nil (to_be_bytes w64 n)); small = h.3 }; passes = refl }, tt),
    ),
  ),
)
message_fits (messages.Adopt t n x) h = (
  t,
  to_be_bytes w64 n ++ content_bytes x,
  record { number = record { front = refl; small = term_small t h.0 }; passes = h.0 },
  (
    n,
    content_bytes x,
    record { number = record { front = refl; small = h.1 }; passes = refl },
    (x, record { whole = h.2; spelled = refl }),
  ),
)

-- ---- one message

-- the head of a message
abbrev pub head_sent : Sent → Head
head_sent s = record { kind = kind_of s.message; from = s.from; to = s.to; vbucket = s.vbucket; size = length (body_bytes s.message) }

kind_right : (m : Message) → IsTrue (within 1 4 (kind_of m))
kind_right (messages.Entry t p x) = refl
kind_right (messages.Ack t m d) = refl
kind_right (messages.Rejoin t a l n) = refl
kind_right (messages.Adopt t n x) = refl

pub sent_at : (s : Sent) (spelt rest : List ℕ) → IsSpelled s spelt → HeadAt (spelt ++ rest) (head_sent s) (body_bytes s.message ++ rest)
sent_at s spelt rest p =
    let a = p.allowed in
    record {
      right = record { kind = kind_right s.message; source = a.source; target = a.target; vbucket = a.vbucket; size = size_right s.message a.message };
      front = ap (λ l. l ++ rest) p.spelled ∙ append_assoc (head_bytes (kind_of s.message) s.from s.to s.vbucket (length (body_bytes s.message))) (body_bytes s.message) rest;
    }

pub one_message : (s t : Sent) (a b x y : List ℕ) → IsSpelled s a → IsSpelled t b → a ++ x ≡ b ++ y → (s ≡ t) × (a ≡ b)
one_message s t a b x y p q e =
    let h = same_head (a ++ x) (head_sent s) (head_sent t) (body_bytes s.message ++ x) (body_bytes t.message ++ y) (sent_at s a x p)
    (subst (λ l. HeadAt l (head_sent t) (body_bytes t.message ++ y)) (sym e) (sent_at t b y q)) in
    let run = same_run (body_bytes s.message) (body_bytes t.message) x y h.rest h.size in
    let message = message_one s.message t.message p.allowed.message q.allowed.message h.kind run.one in
    let same : s ≡ t = λ i. record { from = h.source i; to = h.target i; vbucket = h.vbucket i; message = message i } in
    (same, p.spelled ∙ ap spelling same ∙ sym q.spelled)
