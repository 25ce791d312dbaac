-- What is read of the words of a line is read of the line.
use Rattle.std.specs.Prelude.{◌≡◌, ◌≢◌, ℕ, List, ◌∷◌, [], Result, Ok, Err, refl}
use Rattle.std.specs.List.{slice_split}
use Rattle.std.proofs.Common.{inl, inr, arith, sym, ap, ◌∙◌, subst, get_or}
use Rattle.std.proofs.lemmas.List.Splits.{join_with_byte-slice_split}
use Rattle.kv_script.specs.declared.line.Line.{Line}
use Rattle.kv_script.specs.declared.line.Line.TheVariants as lines
use Rattle.kv_script.specs.declared.line.LineFault.{LineFault}
use Rattle.kv_script.specs.declared.line.LineFault.TheVariants as faults
use Rattle.kv_script.specs.Lines.{IsLine, IsSpelled, joined, word}
use Rattle.kv_script.specs.Reading.{Reads, HasWords}
use Rattle.kv_script.proofs.Solid.{is_space, solid_parts, solid_word, split_joined}

-- a line's words are those between its spaces
pub split_words : (line : Line) (bytes : List ℕ) (s : IsSpelled line bytes) → slice_split is_space bytes ≡ word s.first ∷ s.parts
split_words line bytes s =
    ap (slice_split is_space) s.spelled
    ∙ split_joined (word s.first) s.parts (solid_word s.first) (solid_parts line s.parts s.worded.follows)

pub reread : (r : Result Line LineFault) (words : List (List ℕ)) (bytes : List ℕ) → words ≡ slice_split is_space bytes → Reads (HasWords words) r → Reads (λ line. IsSpelled line bytes) r
reread (Ok line) words bytes e h = record {
  first = h.first;
  parts = h.parts;
  worded = h.worded;
  spelled = sym (join_with_byte-slice_split 0x20 bytes) ∙ ap joined (sym e ∙ h.spelled);
}
reread (Err faults.Bad) words bytes e h = λ line s. h line (record {
  first = s.first;
  parts = s.parts;
  worded = s.worded;
  spelled = e ∙ split_words line bytes s;
})
reread (Err faults.NoMemory) words bytes e h = tt

-- bytes that begin with # are a comment
pub marked : (bytes : List ℕ) → get_or bytes 0 0 ≡ 0x23 → IsLine lines.Comment bytes
marked [] e = absurd (omega arith)
marked (c ∷ bytes) e = inl (record { comment = refl; rest = bytes; marked = ap (λ x. x ∷ bytes) e })

-- a line that doesn't begin with # is no comment
pub no_comment : (r : Result Line LineFault) (bytes : List ℕ) → get_or bytes 0 0 ≢ 0x23 → Reads (λ line. IsSpelled line bytes) r → r ≡ Err faults.Bad → (line : Line) → IsLine line bytes → ⊥
no_comment r bytes n h e line (inl comment) = n (ap (λ l. get_or l 0 0) comment.marked)
no_comment r bytes n h e line (inr spelled) =
    let bad = subst (Reads (λ l. IsSpelled l bytes)) e h in
    bad line spelled
