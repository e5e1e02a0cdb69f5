-- What stands at the front of a text, case by case. Assumes nothing.
use Rattle.std.proofs.Common.{◌≡◌, ℕ, ◌+◌, ◌-◌, ◌<◌, ◌≤◌, Bool, true, false, not, eqb, ltb, [], ◌∷◌, length, get_or, take, drop, cond, Some, None, Option, MatchOption, Bor, sym, refl, ap, ◌∙◌, subst, add-zero, get_or-drop, drop-drop, arith}
use Rattle.std.specs.Option.{unwrap_or}
use Rattle.std.specs.List.{prefix_len, position_or_len}
use Rattle.std.proofs.lemmas.List.{take_rest}
use Rattle.std.proofs.lemmas.List.Sums.{prefix_len-le-length}
use Rattle.std.proofs.lemmas.Bool.{cond_both, cond-true, cond-false, eq-eqb, ne_eqb, ltb-false}
use Rattle.names.specs.Names.{Bytes, starts_name, continues_name}
use Rattle.pieces.specs.declared.Conversion.{Conversion}
use Rattle.pieces.specs.declared.Piece.{Piece as Answer}
use Rattle.pieces.specs.declared.Piece.TheVariants as answer
use Rattle.pieces.specs.Words.{name_len, conversion_of}
use Rattle.pieces.specs.Pieces.{Piece, Literal, Reference, Broken, converted, closed, bracket, bare, piece, size}
use Rattle.pieces.specs.Reads.{Reads, Bracketed, IsNameAndRest, seen}
use Rattle.pieces.proofs.Inside.{piece-within}

-- the length of a name, as it is counted

unturned : (b : Bool) → not (not b) ≡ b
unturned true = refl
unturned false = refl

counted : (xs : Bytes) → position_or_len (λ b. not (continues_name b)) xs ≡ prefix_len continues_name xs
counted [] = refl
counted (x ∷ xs) = λ i. cond (unturned (continues_name x) i) (1 + counted xs i) 0

pub name_len-counted : (xs : Bytes) (r : Option ℕ) → starts_name (get_or xs 0 0) ≡ true
    → r ≡ cond (ltb (position_or_len (λ b. not (continues_name b)) xs) (length xs)) (Some (position_or_len (λ b. not (continues_name b)) xs)) None
    → unwrap_or r (length xs) ≡ name_len xs
name_len-counted xs r s e =
    let n = position_or_len (λ b. not (continues_name b)) xs in
    let most : prefix_len continues_name xs ≤ length xs = prefix_len-le-length continues_name xs in
    let same : n ≡ prefix_len continues_name xs = counted xs in
    ap (λ o. unwrap_or o (length xs)) e
    ∙ cond_both (ltb n (length xs)) (Some n) None (λ o. unwrap_or o (length xs) ≡ n) (λ _. refl) (λ f. let past = ltb-false _ _ f in omega arith)
    ∙ same ∙ sym (cond-true _ _ _ s)

-- what follows a dollar sign and a bracket

module _ (xs : Bytes) (n : ℕ) (some : 0 < n) where
  named : eqb n 0 ≡ false
  named = grind arith

  bracket-shut : get_or xs n 0 ≡ 41 → bracket xs n ≡ Reference (take n xs) None (n + 3)
  bracket-shut e = cond-false _ _ _ named ∙ cond-true _ _ _ (eq-eqb _ _ e)

  bracket-colon : get_or xs n 0 ≡ 58 → bracket xs n ≡ closed xs n (name_len (drop (n + 1) xs))
  bracket-colon e = cond-false _ _ _ named ∙ cond-false _ _ _ (ne_eqb _ _ (λ q. let z : ◌≡◌ {A = ℕ} 41 58 = sym q ∙ e in omega arith)) ∙ cond-true _ _ _ (eq-eqb _ _ e)

behind_name : {text name rest : Bytes} → IsNameAndRest text name rest → (b : ℕ) → get_or rest 0 0 ≡ b → get_or text (name_len text) 0 ≡ b
behind_name {text} {name} {rest} r b e =
    sym (ap (λ l. get_or l 0 0) r.behind ∙ get_or-drop (name_len text) text 0 0 ∙ ap (λ k. get_or text k 0) (add-zero (name_len text))) ∙ e

-- one byte more is read
next : {text name rest : Bytes} → IsNameAndRest text name rest → take (length rest - 1) (drop 1 rest) ≡ drop (name_len text + 1) text
next {text} {name} {rest} r = take_rest rest 1 ∙ ap (drop 1) r.behind ∙ drop-drop 1 (name_len text) text

pub bracketed-plain : {text rest : Bytes} (name : Bor Bytes) → IsNameAndRest text name.now rest → get_or rest 0 0 ≡ 41
    → Bracketed text (bracket text (name_len text)) (answer.Reference name None) (take (length rest - 1) (drop 1 rest))
bracketed-plain {text} {rest} name r e =
    let n = name_len text in
    let p = bracket-shut text n r.some (behind_name r 41 e) in
    let s : n + 1 ≡ size (bracket text n) - 2 = omega (arith, ap size p) in
    record {
      front = p ∙ (λ i. Reference (sym r.front i) None (size (sym p i)));
      behind = next r ∙ ap (λ k. drop k text) s;
      long = omega (arith, ap size p);
    }

module _ {text rest word rest2 : Bytes} (name : Bor Bytes) (r : IsNameAndRest text name.now rest) (e : get_or rest 0 0 ≡ 58) (r2 : IsNameAndRest (take (length rest - 1) (drop 1 rest)) word rest2) where
  after : IsNameAndRest (drop (name_len text + 1) text) word rest2
  after = subst (λ ys. IsNameAndRest ys word rest2) (next r) r2

  end_at : (b : ℕ) → get_or rest2 0 0 ≡ get_or text (name_len text + 1 + name_len (drop (name_len text + 1) text)) 0
  end_at b = sym (behind_name after (get_or rest2 0 0) refl) ∙ get_or-drop (name_len text + 1) text (name_len (drop (name_len text + 1) text)) 0

  pub bracketed-open : (get_or rest2 0 0 ≡ 41 → ⊥) → bracket text (name_len text) ≡ Broken
  bracketed-open h = bracket-colon text (name_len text) r.some (behind_name r 58 e) ∙ cond-false _ _ _ (ne_eqb _ _ (λ q. h (end_at 0 ∙ q)))

  pub bracketed-converted : (c : Conversion) → conversion_of word ≡ Some c → get_or rest2 0 0 ≡ 41
      → Bracketed text (bracket text (name_len text)) (answer.Reference name (Some c)) (take (length rest2 - 1) (drop 1 rest2))
  bracketed-converted c k h =
      let n = name_len text in
      let w = name_len (drop (n + 1) text) in
      let p : bracket text n ≡ Reference (take n text) (Some c) (n + w + 4) =
      bracket-colon text n r.some (behind_name r 58 e) ∙ cond-true _ _ _ (eq-eqb _ _ (sym (end_at 0) ∙ h))
      ∙ ap (λ o. converted (take n text) o (n + w + 4)) (ap conversion_of (sym after.front) ∙ k) in
      let s : n + 1 + (w + 1) ≡ size (bracket text n) - 2 = omega (arith, ap size p) in
      record {
        front = p ∙ (λ i. Reference (sym r.front i) (Some c) (size (sym p i)));
        behind = next after ∙ drop-drop (w + 1) (n + 1) text ∙ ap (λ k. drop k text) s;
        long = omega (arith, ap size p);
      }

-- the first piece

reads : (text : Bytes) (p : Piece) (a : Answer) (rest : Bytes) → 0 < length text → piece text ≡ p → p ≡ seen a (size p) → rest ≡ drop (size p) text → Reads text a rest
reads text p a rest h e f b =
    record {
      front = e ∙ f ∙ ap (λ q. seen a (size q)) (sym e);
      behind = b ∙ ap (λ q. drop (size q) text) (sym e);
      within = piece-within text h;
      some = h;
    }

pub reads-byte : (text : Bytes) → 0 < length text → (get_or text 0 0 ≡ 36 → ⊥) → Reads text (answer.Literal (get_or text 0 0)) (take (length text - 1) (drop 1 text))
reads-byte text h k = reads text (Literal (get_or text 0 0) 1) _ _ h (cond-false _ _ _ (ne_eqb _ _ k)) refl (take_rest text 1)

module _ (text : Bytes) (h : 0 < length text) (dollar : get_or text 0 0 ≡ 36) where
  piece-bracket : get_or text 1 0 ≡ 40 → (ys : Bytes) → ys ≡ drop 2 text → piece text ≡ bracket ys (name_len ys)
  piece-bracket e ys y =
      let k : eqb (get_or text 1 0) 36 ≡ false = ne_eqb _ _ (λ q. let z : ◌≡◌ {A = ℕ} 36 40 = sym q ∙ e in omega arith) in
      cond-true _ _ _ (eq-eqb _ _ dollar) ∙ cond-false _ _ _ k ∙ cond-true _ _ _ (eq-eqb _ _ e) ∙ (λ i. bracket (sym y i) (name_len (sym y i)))

  module _ (k : get_or text 1 0 ≡ 36 → ⊥) (l : get_or text 1 0 ≡ 40 → ⊥) where
    piece-bare : piece text ≡ bare (drop 1 text) (name_len (drop 1 text))
    piece-bare = cond-true _ _ _ (eq-eqb _ _ dollar) ∙ cond-false _ _ _ (ne_eqb _ _ k) ∙ cond-false _ _ _ (ne_eqb _ _ l)

    pub reads-nothing : name_len (take (length text - 1) (drop 1 text)) ≡ 0 → Reads text answer.Broken (take (length text - 1) (drop 1 text))
    reads-nothing z =
        let n : name_len (drop 1 text) ≡ 0 = ap name_len (sym (take_rest text 1)) ∙ z in
        reads text Broken answer.Broken _ h (piece-bare ∙ cond-true _ _ _ (eq-eqb _ _ n)) refl (take_rest text 1)

    pub reads-bare : {rest : Bytes} (name : Bor Bytes) → IsNameAndRest (take (length text - 1) (drop 1 text)) name.now rest → Reads text (answer.Reference name None) rest
    reads-bare {rest} name r =
        let q : IsNameAndRest (drop 1 text) name.now rest = subst (λ ys. IsNameAndRest ys name.now rest) (take_rest text 1) r in
        let n = name_len (drop 1 text) in
        let s : 1 + n ≡ n + 1 = omega arith in
        let some = q.some in
        let one : eqb n 0 ≡ false = grind arith in
        reads text (Reference (take n (drop 1 text)) None (n + 1)) _ rest h (piece-bare ∙ cond-false _ _ _ one) (ap (λ l. Reference l None (n + 1)) (sym q.front)) (q.behind ∙ drop-drop n 1 text ∙ ap (λ k. drop k text) s)

  pub reads-bracket : get_or text 1 0 ≡ 40 → (ys : Bytes) → ys ≡ drop 2 text → (rest : Bor Bytes) → rest.now ≡ drop 1 text → (o : Option (Answer × Bor Bytes))
      → MatchOption o (bracket ys (name_len ys) ≡ Broken) (λ r. Bracketed ys (bracket ys (name_len ys)) r.0 r.1.now)
      → Reads text (unwrap_or o (answer.Broken, rest)).0 (unwrap_or o (answer.Broken, rest)).1.now
  reads-bracket e ys y rest t None z = reads text Broken answer.Broken rest.now h (piece-bracket e ys y ∙ z) refl t
  reads-bracket e ys y rest t (Some (a, more)) b =
      let n = size (bracket ys (name_len ys)) in
      let s : 2 + (n - 2) ≡ n = omega (arith, b.long) in
      reads text (bracket ys (name_len ys)) a more.now h (piece-bracket e ys y) b.front (b.behind ∙ ap (drop (n - 2)) y ∙ drop-drop (n - 2) 2 text ∙ ap (λ k. drop k text) s)
