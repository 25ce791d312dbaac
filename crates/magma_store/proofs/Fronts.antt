-- The first bytes of a record, and the record.
use Rattle.std.proofs.Common.{◌≡◌, inl, inr, ℕ, ◌+◌, ◌<◌, ◌≤◌, ◌^◌, List, [], ◌∷◌, ◌++◌, length, take, drop, Option, Some, None, refl, sym, ◌∙◌, ap, subst, arith, append_assoc, length-append, length-take, length-drop}
use Rattle.std.specs.Int.{w64, byte_len, to_be_bytes}
use Rattle.std.proofs.lemmas.List.{take-append-drop, take_all, drop_at, drop-drop}
use Rattle.kv_edge.specs.Fields.{IsBytes, number_at}
use Rattle.kv_edge.proofs.Fields.{wide64, number_takes, number_size}
use Rattle.magma_store.specs.declared.journal.TheConstants.{OPEN}
use Rattle.magma_store.specs.Journal.{IsEnd, IsNext}
use Rattle.magma_store.specs.Forms.{IsUnsized}
use Rattle.magma_store.specs.Gates.{IsSized, IsCut}

-- ---- a size

-- a size that was read behind an open gate
pub size_read : (rest : List ℕ) (size : ℕ) (more : List ℕ) → IsBytes rest → number_at w64 rest ≡ Some (size, more)
    → IsSized (Some size) (OPEN ∷ rest)
size_read rest size more bytes read =
    let taken = number_takes w64 (2 ^ 64) wide64 rest size more bytes read in
    (taken.1, more, ap (λ (l : List ℕ). OPEN ∷ l) taken.0.parts)

-- none was read
pub cut_read : (b : ℕ) (rest : List ℕ) → number_at w64 (b ∷ rest) ≡ None → IsCut (OPEN ∷ b ∷ rest) (length (b ∷ rest))
cut_read b rest read =
    record {
      rest = b ∷ rest;
      gate = refl;
      more = λ none. cc;
      count = refl;
      short = (number_size w64).short (b ∷ rest)
          read;
    }

-- ---- the first nine bytes, and all

ends_on : (bytes : List ℕ) → IsEnd (take 9 bytes) → IsEnd bytes
ends_on [] ends = tt
ends_on (gate ∷ []) ends = inr refl
ends_on (gate ∷ b ∷ more) (inl shut) = inl shut
ends_on (gate ∷ b ∷ more) (inr last) = absurd cc

pub sized_on : (size : Option ℕ) (bytes head : List ℕ) → head ≡ take 9 bytes → IsSized size head → IsSized size bytes
sized_on None bytes head is ends = ends_on bytes (subst IsEnd is ends)
sized_on (Some size) bytes head is sized = (
  sized.0,
  sized.1 ++ drop 9 bytes,
  sym (take-append-drop 9 bytes)
      ∙ ap (λ (l : List ℕ). l ++ drop 9 bytes) (sym is ∙ sized.2)
      ∙ ap (λ (l : List ℕ). OPEN ∷ l) (append_assoc (to_be_bytes w64 size) sized.1 (drop 9 bytes)),
)

pub cut_on : (bytes head : List ℕ) (found : ℕ) → head ≡ take 9 bytes → IsCut head found → IsCut bytes found
cut_on bytes head found is cut =
    let size = ap (λ (l : List ℕ). length l) (sym is ∙ cut.gate) in
    let count = cut.count in
    let short = cut.short in
    let few : length bytes ≤ 9 = omega (arith, length-take 9 bytes) in
    record {
      rest = cut.rest;
      gate = sym (take_all 9 bytes few) ∙ sym is
          ∙ cut.gate;
      more = cut.more;
      count = cut.count;
      short = cut.short;
    }

-- ---- damage

-- what was found of a record whose size breaks the layout
pub record UnsizedAt (file : List ℕ) (at place found expected : ℕ) : Type 0 where
  pub left : ℕ
  pub is : IsUnsized (drop at file) left found expected
  pub sum : place + left ≡ length file

-- the size is cut off
pub cut_unsized : (file : List ℕ) (at found : ℕ) → IsCut (drop at file) found
    → UnsizedAt file at (at + 1) found (byte_len w64)
cut_unsized file at found cut =
    let size = ap (λ (l : List ℕ). length l) cut.gate in
    let count = cut.count in
    let short = cut.short in
    record {
      left = found;
      is =
          record {
            rest = cut.rest;
            gate = cut.gate;
            more = cut.more;
            breaks = (
              cut.count,
              inl
                  (omega arith, cut.count, refl),
            );
          };
      sum = omega (arith, length-drop at file);
    }

module _ (file : List ℕ) (at size : ℕ) (sized : IsSized (Some size) (drop at file)) where
  behind_is : drop (at + 9) file ≡ sized.1
  behind_is =
      sym (drop-drop 9 at file) ∙ ap (λ (l : List ℕ). drop 9 l) sized.2
      ∙ drop_at (OPEN ∷ to_be_bytes w64 size) sized.1 9 (let len = wide64.len size in omega arith)

  file_len : at + 9 + length sized.1 ≡ length file
  file_len =
      let len = ap (λ (l : List ℕ). length l) sized.2 in
      omega (arith, length-drop at file, length-append (to_be_bytes w64 size) sized.1, wide64.len size)

  -- the size is more than what follows
  pub long_unsized : (most : ℕ) (held : List ℕ) → most ≤ size → held ≡ take most (drop (at + 9) file)
      → length held < most → UnsizedAt file at (at + 1) size (length held)
  long_unsized most held within is short =
      let same = ap (λ (l : List ℕ). length l) (is ∙ ap (λ (l : List ℕ). take most l) behind_is) in
      let all : length held ≡ length sized.1 = omega (arith, length-take most sized.1) in
      let eight = wide64.len size in
      record {
        left = 8 + length sized.1;
        is = record {
          rest = to_be_bytes w64 size ++ sized.1;
          gate = sized.2;
          more = λ none. let gone =
              ap (λ (l : List ℕ). length l) none in absurd
              (omega (arith, length-append (to_be_bytes w64 size) sized.1));
          breaks = (
            omega (arith, length-append (to_be_bytes w64 size) sized.1),
            inr
                (sized.1, record { front = refl; small = sized.0 }, omega arith, all),
          );
        };
        sum = omega (arith, file_len);
      }

  -- as many bytes follow as the size says
  pub whole_next : (held : List ℕ) → held ≡ take size (drop (at + 9) file) → length held ≡ size
      → IsNext (Some held) (drop at file)
  whole_next held is len =
      let rest = drop size sized.1 in
      let parts : sized.1 ≡ held ++ rest =
      sym (take-append-drop size sized.1)
      ∙ ap (λ (l : List ℕ). l ++ rest) (sym (is ∙ ap (λ (l : List ℕ). take size l) behind_is)) in
      let small = sized.0 in (
        omega arith,
        rest,
        sized.2 ∙ ap (λ (l : List ℕ). OPEN ∷ (to_be_bytes w64 size ++ l)) parts
            ∙ ap (λ n. OPEN ∷ (to_be_bytes w64 n ++ (held ++ rest))) (sym len)
            ∙ ap (λ (l : List ℕ). OPEN ∷ l) (sym (append_assoc (to_be_bytes w64 (length held)) held rest)),
      )

-- the same, of these numbers
pub unsized_as : (file : List ℕ) (at p f x place found expected : ℕ) → UnsizedAt file at p f x → p ≡ place → f ≡ found
    → x ≡ expected → (left : ℕ) × IsUnsized (drop at file) left found expected × (place + left ≡ length file)
unsized_as file at p f x place found expected u a b e =
    let is : IsUnsized (drop at file) u.left found expected =
    subst (λ y. IsUnsized (drop at file) u.left found y) e (subst (λ y. IsUnsized (drop at file) u.left y x) b u.is) in
    let sum = u.sum in
    (u.left, is, omega arith)
