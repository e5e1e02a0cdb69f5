-- A text that is sent to a sink, piece by piece. Assumes nothing.
use Rattle.std.proofs.Common.{◌≡◌, ℕ, zero, suc, ◌+◌, ◌-◌, ◌<◌, ◌≤◌, [], ◌∷◌, ◌++◌, length, drop, None, Ok, Err, Option, sym, refl, ap, ◌∙◌, add-zero, arith, length-drop}
use lib.Seq.{drop-nil}
use Rattle.names.specs.Names.{Bytes}
use Rattle.convert.specs.SinkLaws.{SinkLaws}
use Rattle.convert.proofs.Sending.{Sending, begin, has-room-all, sent-all, done}
use Rattle.pieces.specs.declared.Piece.{Piece as Answer}
use Rattle.pieces.specs.declared.Piece.TheVariants as answer
use Rattle.pieces.specs.Pieces.{piece, size}
use Rattle.pieces.specs.Reads.{Reads, seen}
use Rattle.text.specs.declared.Mode.{Mode}
use Rattle.text.specs.declared.TextFault.TheVariants as fault
use Rattle.text.specs.Fill.{Lookup, gives, fills, filled, or_here, breaks, broken_at}
use Rattle.text.specs.Answers.{whole}
use Rattle.text.proofs.Keeping.{size-some}

module _ (look : Lookup) (mode : Mode) where
  fills-skip : (k : ℕ) (xs : Bytes) → fills look mode k xs ≡ fills look mode 0 (drop k xs)
  unfolding fills
  fills-skip k [] = ap (fills look mode 0) (sym (drop-nil k))
  fills-skip zero (x ∷ xs) = refl
  fills-skip (suc k) (x ∷ xs) = fills-skip k xs

  fills-front : (xs : Bytes) → 0 < length xs → 1 ≤ size (piece xs) → fills look mode 0 xs ≡ gives look mode (piece xs) ++ fills look mode 0 (drop (size (piece xs)) xs)
  unfolding fills
  fills-front [] h s = absurd (omega arith)
  fills-front (x ∷ xs) h s =
      let p = piece (x ∷ xs) in
      let one : size p ≡ suc (size p - 1) = omega arith in
      ap (λ l. gives look mode p ++ l) (fills-skip (size p - 1) xs ∙ ap (λ k. fills look mode 0 (drop k (x ∷ xs))) (sym one))

  fills-none : fills look mode 0 [] ≡ []
  unfolding fills
  fills-none = refl

breaks_skip : (at k : ℕ) (xs : Bytes) → breaks at k xs ≡ breaks (at + k) 0 (drop k xs)
unfolding breaks
breaks_skip at k [] = ap (breaks (at + k) 0) (sym (drop-nil k))
breaks_skip at zero (x ∷ xs) = ap (λ n. breaks n 0 (x ∷ xs)) (sym (add-zero at))
breaks_skip at (suc k) (x ∷ xs) = breaks_skip (at + 1) k xs ∙ ap (λ n. breaks n 0 (drop k xs)) (let e : at + 1 + k ≡ at + suc k = omega arith in e)

breaks-front : (at : ℕ) (xs : Bytes) → 0 < length xs → 1 ≤ size (piece xs) → breaks at 0 xs ≡ or_here (piece xs) at (breaks (at + size (piece xs)) 0 (drop (size (piece xs)) xs))
unfolding breaks
breaks-front at [] h s = absurd (omega arith)
breaks-front at (x ∷ xs) h s =
    let p = piece (x ∷ xs) in
    let one : size p ≡ suc (size p - 1) = omega arith in
    let sum : at + 1 + (size p - 1) ≡ at + size p = omega arith in
    ap (or_here p at) (breaks_skip (at + 1) (size p - 1) xs ∙ (λ i. breaks (sum i) 0 (drop (sym one i) (x ∷ xs))))

breaks-none : (at : ℕ) → breaks at 0 [] ≡ None
unfolding breaks
breaks-none at = refl

-- the sink now has taken what the text before the rest gives, and no piece there is broken
pub record Filling {S : Type 0} (takes : S → Bytes → S → Type 0) (fits : S → ℕ → Type 0) (look : Lookup) (mode : Mode) (text : Bytes) (start now : S) (rest : Bytes) : Type 0 where
  pub sending : Sending takes fits start now (fills look mode 0 rest) (filled look mode text)
  pub clear : breaks (length text - length rest) 0 rest ≡ broken_at text
  pub within : length rest ≤ length text

module _ {S : Type 0} {takes : S → Bytes → S → Type 0} {fits : S → ℕ → Type 0} (laws : SinkLaws takes fits) {look : Lookup} {mode : Mode} {text : Bytes} where
  pub filling : (start : S) → fits start (length (filled look mode text)) → Filling takes fits look mode text start start text
  filling start h =
      let none : length text - length text ≡ 0 = omega arith in
      record { sending = begin laws start (filled look mode text) h; clear = ap (λ k. breaks k 0 text) none; within = omega arith }

  module _ {start now : S} {rest : Bytes} (sofar : Filling takes fits look mode text start now rest) where
    module _ {a : Answer} {more : Bytes} (r : Reads rest a more) where
      some : 1 ≤ size (piece rest)
      some = size-some (piece rest) (length rest) r.within

      gone : fills look mode 0 rest ≡ gives look mode (seen a (size (piece rest))) ++ fills look mode 0 more
      gone = fills-front look mode rest r.some some ∙ (λ i. gives look mode (r.front i) ++ fills look mode 0 (sym r.behind i))

      broken : or_here (seen a (size (piece rest))) (length text - length rest) (breaks (length text - length rest + size (piece rest)) 0 more) ≡ broken_at text
      broken =
          sym (breaks-front (length text - length rest) rest r.some some ∙ (λ i. or_here (r.front i) (length text - length rest) (breaks (length text - length rest + size (piece rest)) 0 (sym r.behind i)))) ∙ sofar.clear

      pub room_for_piece : fits now (length (gives look mode (seen a (size (piece rest)))))
      room_for_piece = has-room-all laws _ _ sofar.sending gone

    -- a piece that is not broken is sent
    pub piece-sent : {a : Answer} {more : Bytes} {next : S} (r : Reads rest a more) → ((n k : ℕ) (o : Option ℕ) → or_here (seen a n) k o ≡ o) → size (piece rest) ≤ length rest
        → takes now (gives look mode (seen a (size (piece rest)))) next → Filling takes fits look mode text start next more
    piece-sent {a} {more} {next} r sound short k =
        let m = ap length r.behind ∙ length-drop (size (piece rest)) rest in
        let at : length text - length rest + size (piece rest) ≡ length text - length more = omega (arith, sofar.within) in
        record {
          sending = sent-all laws _ _ sofar.sending (gone r) k;
          clear = ap (λ n. breaks n 0 more) (sym at) ∙ sym (sound _ _ _) ∙ broken r;
          within = omega (arith, sofar.within);
        }

    pub broken-here : {more : Bytes} → Reads rest answer.Broken more → Err (fault.Broken (length text - length rest)) ≡ whole (broken_at text)
    broken-here r = ap whole (broken r)

    pub all-sent : rest ≡ [] → takes start (filled look mode text) now
    all-sent e = done laws sofar.sending (ap (fills look mode 0) e ∙ fills-none look mode)

    pub all-whole : rest ≡ [] → Ok tt ≡ whole (broken_at text)
    all-whole e = ap whole (sym (breaks-none _) ∙ ap (breaks (length text - length rest) 0) (sym e) ∙ sofar.clear)
