-- The whole page: the filled body, the labels, and the rest as spaces. Assumes nothing.
use Rattle.std.proofs.Common.{◌≡◌, ℕ, ◌+◌, ◌-◌, ◌≤◌, leb, ◌++◌, length, take, drop, replicate, Ok, Err, Result, sym, refl, ap, ◌∙◌, arith}
use lib.Seq.{sets, length-sets}
use borrow.Rule.Slice.PartMut.{put_mid}
use Rattle.std.proofs.lemmas.List.Edits.{sets-eq}
use Rattle.std.proofs.lemmas.List.{length-take-le, take_at}
use Rattle.std.proofs.lemmas.Bool.{le-leb, cond-true}
use Rattle.names.specs.Names.{Bytes}
use Rattle.store.specs.Vars.{Vars}
use Rattle.text.specs.Fill.{broken_at}
use Rattle.text.specs.declared.TextFault.{TextFault}
use Rattle.text.specs.declared.TextFault.TheVariants.{ShortBuffer}
use Rattle.decks.specs.Model.{active}
use Rattle.machine.specs.Assigning.{plain}
use Rattle.machine.specs.Place.{Place}
use Rattle.machine.specs.Page.{lines_of, fitting, together, labels_on, page_on, padded}
use Rattle.page.specs.declared.Shown.{Shown}
use Rattle.page.specs.Shown.{shown_in, unless_broken, page_answer, bytes_after, page_bytes}
use Rattle.page.proofs.Filling.{Filled}
use Rattle.page.proofs.Written.{rest-length, spaced}

abbrev shown_as : ℕ → ℕ → Result Shown TextFault
shown_as n k = Ok (record { len = n; labels = k })

-- first is the buffer with the body, of n bytes; last is the buffer with the labels, of len bytes in all
module _ (vs : Vars) (p : Place) (buf first last : Bytes) (n len labels : ℕ)
    (f : Filled (broken_at p.card.body) (plain vs p.card.body) buf n) (e : first ≡ sets buf 0 (plain vs p.card.body))
    (count : labels ≡ length (fitting (length first - n) (lines_of vs (active p.deck p.card))))
    (bytes : take len last ≡ take n first ++ together (fitting (length first - n) (lines_of vs (active p.deck p.card))))
    (within : len ≤ length last) (kept : length last ≡ length first) where
  same : length first ≡ length buf
  same = ap length e ∙ length-sets buf 0 (plain vs p.card.body)

  front : take n first ≡ plain vs p.card.body
  front =
      let xs = plain vs p.card.body in
      ap (take n) (e ∙ sets-eq xs buf 0 (omega (arith, f.room))) ∙ take_at xs (drop (0 + length xs) buf) n (sym f.len)

  room : length first - n ≡ length buf - length (plain vs p.card.body)
  room = omega (arith, same, f.len)

  page : take len last ≡ page_on vs p (length buf)
  page =
      let lines = lines_of vs (active p.deck p.card) in
      bytes ∙ ap (λ z. z ++ together (fitting (length first - n) lines)) front ∙ ap (λ z. plain vs p.card.body ++ together (fitting z lines)) room

  granted : page_answer vs p (length buf) ≡ Ok (record { len = length (page_on vs p (length buf)); labels = length (labels_on vs p (length buf)) })
  granted =
      ap (λ o. unless_broken o (shown_in vs p (length buf))) f.whole
      ∙ cond-true (leb (length (plain vs p.card.body)) (length buf)) (Ok (record { len = length (page_on vs p (length buf)); labels = length (labels_on vs p (length buf)) })) (Err ShortBuffer) (le-leb (length (plain vs p.card.body)) (length buf) f.room)

  -- the answer
  pub page-answer : Ok (record { len = len; labels = labels }) ≡ page_answer vs p (length buf)
  page-answer =
      let l : len ≡ length (page_on vs p (length buf)) = sym (length-take-le len last within) ∙ ap length page in
      let k : labels ≡ length (labels_on vs p (length buf)) = count ∙ ap (λ z. length (fitting z (lines_of vs (active p.deck p.card)))) room in
      ap (λ z. shown_as z labels) l ∙ ap (λ z. shown_as (length (page_on vs p (length buf))) z) k ∙ sym granted

  -- the bytes, once the rest of the buffer became spaces
  pub page-bytes : (rest : Bytes) → rest ≡ replicate (length (take (length last - len) (drop len last))) 32 → put_mid len (length last - len) last rest ≡ page_bytes vs p buf
  page-bytes rest b =
      let s : put_mid len (length last - len) last rest ≡ padded (take len last) (length last) = spaced last rest len (length last - len) within refl (b ∙ ap (λ z. replicate z 32) (rest-length last len)) in
      s ∙ ap (λ z. padded z (length last)) page ∙ ap (padded (page_on vs p (length buf))) (kept ∙ same) ∙ ap (λ r. bytes_after r (page_on vs p (length buf)) buf) (sym granted)
