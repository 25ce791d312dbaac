-- Bytes that are read piece by piece.
use Rattle.std.proofs.Common.{◌≡◌, ℕ, ◌+◌, ◌-◌, ◌*◌, ◌<◌, ◌≤◌, min, List, [], ◌∷◌, ◌++◌, length, take, drop, refl, sym, ◌∙◌, ap, subst, arith, length-append, length-take, length-drop}
use Rattle.std.proofs.lemmas.List.{take-append-drop, take-take, drop-take, drop-drop, take_all, take_min}
use Rattle.magma_disk.specs.Device.{Device}
use Rattle.magma_disk.specs.Calls.{Reads}
use Rattle.magma_disk.specs.declared.disk.DiskRead.TheVariants as read
use Rattle.magma_store.specs.Journal.{IsFile}

take_plus : (n m : ℕ) (l : List ℕ) → take n l ++ take m (drop n l) ≡ take (n + m) l
take_plus n m l =
    let low : n ≤ n + m = omega arith in
    ap (λ (a : List ℕ). a ++ take m (drop n l)) (sym (take-take n (n + m) l low))
    ∙ ap (λ (a : List ℕ). take n (take (n + m) l) ++ a) (sym (drop-take n m l)) ∙ take-append-drop n (take (n + m) l)

-- what a read gave
pub piece_read : (at n ask : ℕ) (buf : List ℕ) (h : List Device) (d : Device) (past : List Device) → h ≡ d ∷ past
    → length buf ≡ ask → Reads at (read.Got n) buf h → take n buf ≡ take ask (drop at d.bytes)
piece_read at n ask buf h d past is size got =
    let known : Reads at (read.Got n) buf (d ∷ past) = subst (Reads at (read.Got n) buf) is got in
    let given = known.0 in
    let count : n ≡ min ask (length (drop at d.bytes)) = omega (arith, length-drop at d.bytes) in
    known.1 ∙ ap (λ k. take k (drop at d.bytes)) count ∙ take_min ask (drop at d.bytes)

-- one piece more
pub pieces_on : (at have ask : ℕ) (file bytes piece : List ℕ) → bytes ≡ take have (drop at file)
    → piece ≡ take ask (drop (at + have) file) → bytes ++ piece ≡ take (have + ask) (drop at file)
pieces_on at have ask file bytes piece first second =
    (λ i. first i ++ second i)
    ∙ ap (λ (l : List ℕ). take have (drop at file) ++ take ask l) (sym (drop-drop have at file))
    ∙ take_plus have ask (drop at file)

-- where fewer are there than were asked for, more give no more
pub pieces_end : (size count : ℕ) (l bytes : List ℕ) → bytes ≡ take size l → length bytes < size → size ≤ count
    → bytes ≡ take count l
pieces_end size count l bytes is short within =
    let same = ap (λ (x : List ℕ). length x) is in
    let few : length l < size = omega (arith, length-take size l) in
    is ∙ take_all size l (omega arith) ∙ sym (take_all count l (omega arith))

-- what was read of a file
pub file_read : (h : List Device) (file : List ℕ) (at count : ℕ) (bytes : List ℕ)
    → ((d : Device) (past : List Device) → h ≡ d ∷ past → bytes ≡ take count (drop at d.bytes)) → IsFile file h
    → bytes ≡ take count (drop at file)
file_read [] file at count bytes read is = absurd is
file_read (d ∷ past) file at count bytes read is =
    read d past refl ∙ ap (λ (e : Device). take count (drop at e.bytes)) is

-- so much was read by full pieces, and one piece more
pub record Piece (at count turn : ℕ) (bytes piece : List ℕ) : Type 0 where
  pub within : turn * 1048576 < count
  pub have : length bytes ≡ turn * 1048576
  pub ask : ℕ
  pub asked : ask ≡ min (count - turn * 1048576) 1048576
  pub short : length piece ≤ ask

pub piece_on : (at count turn : ℕ) (file bytes piece : List ℕ) (p : Piece at count turn bytes piece)
    → bytes ≡ take (length bytes) (drop at file) → piece ≡ take p.ask (drop (at + turn * 1048576) file)
    → bytes ++ piece ≡ take (turn * 1048576 + p.ask) (drop at file)
piece_on at count turn file bytes piece p so_far read =
    pieces_on at (turn * 1048576) p.ask file bytes piece (so_far ∙ ap (λ k. take k (drop at file)) p.have) read

pub piece_full : (at count turn : ℕ) (file bytes piece : List ℕ) (p : Piece at count turn bytes piece)
    → p.ask ≤ length piece → bytes ≡ take (length bytes) (drop at file)
    → piece ≡ take p.ask (drop (at + turn * 1048576) file)
    → bytes ++ piece ≡ take (length (bytes ++ piece)) (drop at file)
piece_full at count turn file bytes piece p full so_far read =
    let have = p.have in
    let short = p.short in
    let size : length (bytes ++ piece) ≡ turn * 1048576 + p.ask = omega (arith, length-append bytes piece) in
    piece_on at count turn file bytes piece p so_far read ∙ ap (λ k. take k (drop at file)) (sym size)

pub piece_last : (at count turn : ℕ) (file bytes piece : List ℕ) (p : Piece at count turn bytes piece)
    → length piece < p.ask → bytes ≡ take (length bytes) (drop at file)
    → piece ≡ take p.ask (drop (at + turn * 1048576) file)
    → bytes ++ piece ≡ take count (drop at file)
piece_last at count turn file bytes piece p few so_far read =
    let have = p.have in
    let asked = p.asked in
    let within = p.within in
    let size : length (bytes ++ piece) < turn * 1048576 + p.ask = omega (arith, length-append bytes piece) in
    pieces_end (turn * 1048576 + p.ask) count (drop at file) (bytes ++ piece)
    (piece_on at count turn file bytes piece p so_far read) size (omega arith)

pub piece_len : (at count turn : ℕ) (bytes piece : List ℕ) (p : Piece at count turn bytes piece) → p.ask ≤ length piece
    → length (bytes ++ piece) ≡ min count ((turn + 1) * 1048576)
piece_len at count turn bytes piece p full =
    let have = p.have in
    let asked = p.asked in
    let short = p.short in
    let within = p.within in
    omega (arith, length-append bytes piece)
