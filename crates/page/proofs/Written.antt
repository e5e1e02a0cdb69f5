-- The bytes of a page in its buffer: after a line, and after the rest became spaces. Assumes nothing.
use Rattle.std.proofs.Common.{◌≡◌, ℕ, ◌+◌, ◌-◌, ◌<◌, ◌≤◌, [], ◌∷◌, ◌++◌, length, take, drop, set, replicate, sym, ap, ◌∙◌, append_assoc, append-nil, arith, length-append, length-drop}
use lib.Seq.{sets, length-sets}
use borrow.Rule.Slice.PartMut.{put_mid, post_of}
use Rattle.std.proofs.lemmas.List.Edits.{sets-eq}
use Rattle.std.proofs.lemmas.List.{length-take-le, length-set, take_at, take-set, take_more_set, take_rest, drop_all}
use Rattle.std.proofs.lemmas.Slice.{take-put_mid_below}
use Rattle.names.specs.Names.{Bytes}
use Rattle.machine.specs.Page.{padded}

-- bytes were written to the front of the part from a on
pub behind : (buf part rest xs : Bytes) (a k : ℕ) → a ≤ length buf → length xs ≤ length part → rest ≡ sets part 0 xs →
    take (a + length xs) (put_mid a k buf rest) ≡ take a buf ++ xs
behind buf part rest xs a k h l e =
    let s : sets part 0 xs ≡ xs ++ drop (0 + length xs) part = sets-eq xs part 0 (omega arith) in
    let post = post_of a k buf in
    let more = drop (0 + length xs) part ++ post in
    let n : length (take a buf ++ xs) ≡ a + length xs = length-append (take a buf) xs ∙ ap (λ z. z + length xs) (length-take-le a buf h) in
    ap (λ r. take (a + length xs) (take a buf ++ (r ++ post))) (e ∙ s)
    ∙ ap (λ z. take (a + length xs) (take a buf ++ z)) (append_assoc xs (drop (0 + length xs) part) post)
    ∙ ap (take (a + length xs)) (sym (append_assoc (take a buf) xs more))
    ∙ take_at (take a buf ++ xs) more (a + length xs) n

-- a line was written from n on: 0x0A, and the label behind it
pub line-stands : (buf part rest xs : Bytes) (n k : ℕ) → n < length buf → length xs ≤ length part → rest ≡ sets part 0 xs →
    take ((n + 1) + length xs) (put_mid (n + 1) k (set buf n 10) rest) ≡ take n buf ++ (10 ∷ xs)
line-stands buf part rest xs n k h l e =
    let s : length (set buf n 10) ≡ length buf = length-set buf n 10 in
    behind (set buf n 10) part rest xs (n + 1) k (omega arith) l e ∙ ap (λ z. z ++ xs) (take_more_set buf n 10 h) ∙ append_assoc (take n buf) (10 ∷ []) xs

-- a line that is withdrawn leaves the page before it
pub line_withdrawn : (buf rest : Bytes) (n k : ℕ) → n < length buf → take n (put_mid (n + 1) k (set buf n 10) rest) ≡ take n buf
line_withdrawn buf rest n k h =
    let s : length (set buf n 10) ≡ length buf = length-set buf n 10 in
    take-put_mid_below (n + 1) k (set buf n 10) rest n (omega arith) (omega arith) ∙ take-set buf n 10

-- the part from a on
pub rest-length : (buf : Bytes) (a : ℕ) → length (take (length buf - a) (drop a buf)) ≡ length buf - a
rest-length buf a = ap length (take_rest buf a) ∙ length-drop a buf

-- behind the 0x0A at n there is one byte less room than from n on
pub line-room : (buf : Bytes) (n : ℕ) → n < length buf → length buf - n ≡ length (take (length (set buf n 10) - (n + 1)) (drop (n + 1) (set buf n 10))) + 1
line-room buf n h =
    let s : length (set buf n 10) ≡ length buf = length-set buf n 10 in
    let r = rest-length (set buf n 10) (n + 1) in
    omega arith

-- a buffer reaches as far as what was written to its part
reaches : (buf rest : Bytes) (a k : ℕ) → a ≤ length buf → a + length rest ≤ length (put_mid a k buf rest)
reaches buf rest a k h =
    let x = length-take-le a buf h in
    let y = length-append (take a buf) (rest ++ post_of a k buf) in
    let z = length-append rest (post_of a k buf) in
    omega arith

-- a line that stands ends within the buffer
pub stands-within : (buf part rest xs : Bytes) (n k : ℕ) → n < length buf → length xs ≤ length part → rest ≡ sets part 0 xs →
    (n + 1) + length xs ≤ length (put_mid (n + 1) k (set buf n 10) rest)
stands-within buf part rest xs n k h l e =
    let s : length (set buf n 10) ≡ length buf = length-set buf n 10 in
    let m : length rest ≡ length part = ap length e ∙ length-sets part 0 xs in
    let r = reaches (set buf n 10) rest (n + 1) k (omega arith) in
    omega arith

-- and so does the page before it
pub withdrawn-within : (buf rest : Bytes) (n k : ℕ) → n < length buf → n ≤ length (put_mid (n + 1) k (set buf n 10) rest)
withdrawn-within buf rest n k h =
    let s : length (set buf n 10) ≡ length buf = length-set buf n 10 in
    let r = reaches (set buf n 10) rest (n + 1) k (omega arith) in
    omega arith

-- the rest became spaces
pub spaced : (buf rest : Bytes) (len k : ℕ) → len ≤ length buf → k ≡ length buf - len → rest ≡ replicate k 32 → put_mid len k buf rest ≡ padded (take len buf) (length buf)
spaced buf rest len k h q e =
    let none : post_of len k buf ≡ [] = drop_all k (drop len buf) (simp length-drop (omega arith)) in
    let m : k ≡ length buf - length (take len buf) = let x = length-take-le len buf h in omega arith in
    ap (λ r. take len buf ++ (r ++ post_of len k buf)) e ∙ ap (λ p. take len buf ++ (replicate k 32 ++ p)) none ∙ ap (λ z. take len buf ++ z) (append-nil (replicate k 32)) ∙ ap (λ z. take len buf ++ replicate z 32) m
