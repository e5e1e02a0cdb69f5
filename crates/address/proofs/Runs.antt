-- A lawful address, read once from the left: what the scan of its runs decides.
use Rattle.std.proofs.Common.{◌≡◌, ℕ, suc, ◌+◌, ◌<◌, ◌≤◌, Bool, true, false, ◌&&◌, eqb, ltb, leb, List, [], ◌∷◌, ◌++◌, length, get_or, take, drop, Some, None, sym, refl, ap, ◌∙◌, inl, inr, append-nil, one-add, arith, length-append}
use Rattle.std.specs.List.{prefix_len, starts_with, list_all}
use Rattle.std.specs.Str.{bytes_eq}
use Rattle.std.specs.Bool.{then_some}
use Rattle.std.proofs.lemmas.List.{append_cancel_left, take_at, drop_at, drop-drop, take-append-drop, length-take-le}
use Rattle.std.proofs.lemmas.List.Sums.{prefix_len-le-length}
use Rattle.std.proofs.lemmas.Bool.{cases_Bool, cond-true, cond-false, and_parts, and_left, and_right, eqb-true, eq-eqb, both_ways, ltb-true, leb-true, lt-ltb, le-leb, lt-leb, false≢true}
use Rattle.std.proofs.lemmas.Slice.Eq.{bytes_eq-Decides}
use Rattle.address.specs.Bytes.{every, has, before, after, begins}
use Rattle.address.specs.Address.{scheme, hash, slash, is_host_byte, is_path_byte, is_host, is_path, host_of, path_of, fragment_of, deck_of, lawful}
use Rattle.address.specs.Layout.{closes, places_of, layout_of}
use Rattle.address.proofs.Cuts.{before-take, before-append, after-append, every-lacks, every-run, every-all, Stops}

and-true : (x y : Bool) → ((x && true) && y) ≡ (x && y)
and-true true y = refl
and-true false y = refl

-- what may follow a run: nothing, or the byte `s` and bytes that pass
abbrev pub ends : (ℕ → Bool) → ℕ → List ℕ → Bool
ends p s [] = true
ends p s (b ∷ xs) = eqb b s && every p xs

ends-closes : (xs : List ℕ) → ends is_path_byte hash xs ≡ closes xs
ends-closes [] = refl
ends-closes (b ∷ xs) = refl

-- after `#`, the path closes well exactly when the rest is a fragment
pub closes-after : (xs f : List ℕ) (r : Bool) → get_or xs 0 0 ≡ 35 → f ≡ drop 1 xs → r ≡ list_all is_path_byte f → r ≡ closes xs
closes-after [] f r m d e = absurd (let z : ⊥ = omega arith in z)
closes-after (b ∷ xs) f r m d e = e ∙ ap (list_all is_path_byte) d ∙ sym (every-all is_path_byte xs) ∙ ap (λ t. t && every is_path_byte xs) (sym (eq-eqb b 35 m))

-- both sides of the first `s` pass exactly when the run ends well
pub ends_is : (p : ℕ → Bool) (s : ℕ) → p s ≡ false → (xs : List ℕ) → (every p (before s xs) && every p (after s xs)) ≡ ends p s (drop (prefix_len p xs) xs)
unfolding every before after
ends_is p s n [] = refl
ends_is p s n (b ∷ xs) =
    elim (cases_Bool (eqb b s)) [
      | inl e ↦ let f : p b ≡ false = ap p (eqb-true b s e) ∙ n in rw (e, f) (rw e refl)
      | inr e ↦ elim (cases_Bool (p b)) [
        | inl f ↦ rw (e, f, one-add) (ends_is p s n xs)
        | inr f ↦ rw (e, f) (rw e refl)
      ]
    ]

-- where it does, what precedes `s` is the run
pub ends-run : (p : ℕ → Bool) (s : ℕ) → p s ≡ false → (xs : List ℕ) → every p (before s xs) ≡ true → before s xs ≡ take (prefix_len p xs) xs
unfolding every before
ends-run p s n [] = λ h. refl
ends-run p s n (b ∷ xs) =
    elim (cases_Bool (eqb b s)) [
      | inl e ↦ let f : p b ≡ false = ap p (eqb-true b s e) ∙ n in rw (e, f) (λ h. refl)
      | inr e ↦ rw e (λ h. let q = and_parts (p b) (every p (before s xs)) h in rw (q.0, one-add) (ap (λ l. b ∷ l) (ends-run p s n xs q.1)))
    ]

module _ (h t : List ℕ) (good : every is_host_byte h ≡ true) where
  -- `http://`, host bytes and the rest: the host goes to the next `/`
  pub host-split : host_of (scheme ++ (h ++ t)) ≡ h ++ before slash t
  unfolding host_of
  host-split = before-append slash h t (every-lacks is_host_byte slash h refl good)

  pub deck-split : deck_of (scheme ++ (h ++ t)) ≡ scheme ++ (h ++ before hash t)
  unfolding deck_of has before
  deck-split = ap (λ l. scheme ++ l) (before-append hash h t (every-lacks is_host_byte hash h refl good))

  pub fragment-split : fragment_of (scheme ++ (h ++ t)) ≡ after hash t
  unfolding fragment_of after
  fragment-split = after-append hash h t (every-lacks is_host_byte hash h refl good)

-- where the rest begins with `/`, the host is the host bytes and the path begins there
module _ (h t : List ℕ) (good : every is_host_byte h ≡ true) where
  pub host-exact : host_of (scheme ++ (h ++ (slash ∷ t))) ≡ h
  unfolding before
  host-exact = host-split h (slash ∷ t) good ∙ append-nil h

  pub path-exact : path_of (scheme ++ (h ++ (slash ∷ t))) ≡ before hash (slash ∷ t)
  unfolding path_of
  path-exact =
      ap (λ l. before hash (drop (7 + length l) (scheme ++ (h ++ (slash ∷ t))))) host-exact
      ∙ ap (before hash) (sym (drop-drop (length h) 7 (scheme ++ (h ++ (slash ∷ t)))) ∙ drop_at h (slash ∷ t) (length h) refl)

  pub lawful-exact : length (scheme ++ (h ++ (slash ∷ t))) ≤ 128 → lawful (scheme ++ (h ++ (slash ∷ t))) ≡ (ltb 0 (length h) && ends is_path_byte hash (drop (prefix_len is_path_byte (slash ∷ t)) (slash ∷ t)))
  unfolding lawful begins every before
  lawful-exact l =
      rw (le-leb _ 128 l, host-exact, path-exact, fragment-split h (slash ∷ t) good, good, sym (ends_is is_path_byte hash refl (slash ∷ t)))
      (and-true (ltb 0 (length h)) _)

-- what is known of the parts of a lawful address
pub record Parts (a : List ℕ) : Type 0 where
  pub short : length a ≤ 128
  pub schemed : a ≡ scheme ++ drop 7 a
  pub named : 0 < length (host_of a)
  pub host : every is_host_byte (host_of a) ≡ true
  pub slashed : begins (slash ∷ []) (path_of a) ≡ true
  pub path : every is_path_byte (path_of a) ≡ true
  pub fragment : every is_path_byte (fragment_of a) ≡ true

-- what `starts_with` finds is what `begins` says
pub begins-tested : (f xs : List ℕ) (r : Bool) → r ≡ starts_with eqb xs f → r ≡ begins f xs
unfolding begins
begins-tested f xs r m = m

-- bytes that begin with a front are that front and the rest
pub begins-is : (f xs : List ℕ) → begins f xs ≡ true → xs ≡ f ++ drop (length f) xs
unfolding begins
begins-is f xs h = sym (take-append-drop (length f) xs) ∙ ap (λ l. l ++ drop (length f) xs) (sym ((bytes_eq-Decides f (take (length f) xs)).0 h))

pub is-begins : (f xs ys : List ℕ) → xs ≡ f ++ ys → begins f xs ≡ true
unfolding begins
is-begins f xs ys e = (bytes_eq-Decides f (take (length f) xs)).1 (sym (take_at f ys (length f) refl) ∙ ap (take (length f)) (sym e))

pub parts_of : (a : List ℕ) → lawful a ≡ true → Parts a
unfolding lawful
parts_of a e =
    let p = and_parts (leb (length a) 128) _ e in
    let q = and_parts (begins scheme a) _ p.1 in
    let r = and_parts (is_host (host_of a)) _ q.1 in
    let s = and_parts (is_path (path_of a)) _ r.1 in
    let h = and_parts (ltb 0 (length (host_of a))) _ r.0 in
    let t = and_parts (begins (slash ∷ []) (path_of a)) _ s.0 in
    record { short = leb-true (length a) 128 p.0; schemed = begins-is scheme a q.0; named = ltb-true 0 _ h.0; host = h.1; slashed = t.0; path = t.1; fragment = s.1 }

-- bytes are what precedes a byte, and the rest
pub before-rest : (s : ℕ) (xs : List ℕ) → before s xs ++ drop (length (before s xs)) xs ≡ xs
before-rest s xs = ap (λ l. l ++ drop (length (before s xs)) xs) (before-take s xs) ∙ take-append-drop (length (before s xs)) xs

slash-first : (xs : List ℕ) → begins (slash ∷ []) (before hash xs) ≡ true → xs ≡ slash ∷ drop 1 xs
unfolding begins before
slash-first [] = λ h. absurd (false≢true h)
slash-first (b ∷ xs) =
    elim (cases_Bool (eqb b hash)) [
      | inl e ↦ rw e (λ h. absurd (false≢true h))
      | inr e ↦ rw e (λ h. ap (λ x. x ∷ xs) (sym (eqb-true slash b (and_parts (eqb slash b) _ h).0)))
    ]

-- a lawful address is `http://`, its host, `/` and the rest
pub rest_of : List ℕ → List ℕ
rest_of a = drop 1 (drop (7 + length (host_of a)) a)

pub shape : (a : List ℕ) → lawful a ≡ true → a ≡ scheme ++ (host_of a ++ (slash ∷ rest_of a))
unfolding host_of path_of rest_of
shape a e =
    let p = parts_of a e in
    let h = slash-first (drop (7 + length (host_of a)) a) p.slashed in
    let d = drop-drop (length (host_of a)) 7 a in
    p.schemed ∙ ap (λ l. scheme ++ l) (sym (before-rest slash (drop 7 a)) ∙ ap (λ l. host_of a ++ l) (d ∙ h))

-- bytes that pass and then one that fails: the run is just those
pub run-append : (p : ℕ → Bool) (xs ys : List ℕ) → every p xs ≡ true → Stops p ys → prefix_len p (xs ++ ys) ≡ length xs
unfolding every
run-append p [] [] h k = refl
run-append p [] (b ∷ ys) h k = rw k refl
run-append p (b ∷ xs) ys h k =
    let q = and_parts (p b) (every p xs) h in
    rw (q.0, one-add) (ap suc (run-append p xs ys q.1 k))

pub refuted : (b : Bool) → (b ≡ true → ⊥) → b ≡ false
refuted true f = absurd (f refl)
refuted false f = refl

-- too long, or without `http://`
pub unlawful-long : (a : List ℕ) → 128 < length a → lawful a ≡ false
unfolding lawful
unlawful-long a h = and_left (leb (length a) 128) _ (lt-leb (length a) 128 h)

pub unlawful-scheme : (a : List ℕ) → begins scheme a ≡ false → lawful a ≡ false
unfolding lawful
unlawful-scheme a h = and_right (leb (length a) 128) _ (and_left (begins scheme a) _ h)

-- the same test, the other way round
pub begins-turned : (f a : List ℕ) (b : Bool) → bytes_eq (take (length f) a) f ≡ b → begins f a ≡ b
unfolding begins
begins-turned f a true h = (bytes_eq-Decides f (take (length f) a)).1 (sym ((bytes_eq-Decides (take (length f) a) f).0 h))
begins-turned f a false h =
    refuted (begins f a) (λ e. both_ways (bytes_eq (take (length f) a) f) h ((bytes_eq-Decides (take (length f) a) f).1 (sym ((bytes_eq-Decides f (take (length f) a)).0 e))))

-- what the layout then is
pub layout-none : (a : List ℕ) → lawful a ≡ false → None ≡ layout_of a
layout-none a e = sym (cond-false (lawful a) _ _ e)

pub layout-some : (a : List ℕ) (x y : ℕ) → lawful a ≡ true → x ≡ 7 + length (host_of a) → y ≡ length (deck_of a) → Some (record { path = x; deck = y }) ≡ layout_of a
layout-some a x y e p q =
    let k : Some (record { path = x; deck = y }) ≡ Some (places_of a) = cc in
    k ∙ sym (cond-true (lawful a) _ _ e)

pub layout-decided : (a : List ℕ) (b : Bool) (x y : ℕ) → lawful a ≡ b → x ≡ 7 + length (host_of a) → (lawful a ≡ true → y ≡ length (deck_of a)) → then_some b (record { path = x; deck = y }) ≡ layout_of a
layout-decided a true x y e p q = layout-some a x y e p (q e)
layout-decided a false x y e p q = layout-none a e

-- what the scan reads, step by step: the bytes after `http://`, those after the host, and those after the path
module _ (a rest tail end : List ℕ) (host path : ℕ)
    (r : rest ≡ drop 7 a) (t : tail ≡ drop host rest) (d : end ≡ drop path tail)
    (h : host ≡ prefix_len is_host_byte rest) (p : path ≡ prefix_len is_path_byte tail)
    (short : length a ≤ 128) (front : begins scheme a ≡ true) where
  whole : a ≡ scheme ++ rest
  whole = begins-is scheme a front ∙ ap (λ l. scheme ++ l) (sym r)

  -- in a lawful address the run of host bytes is the host, and a `/` follows
  rest-is : lawful a ≡ true → rest ≡ host_of a ++ (slash ∷ rest_of a)
  rest-is e = append_cancel_left scheme rest (host_of a ++ (slash ∷ rest_of a)) (sym whole ∙ shape a e)

  host-is : lawful a ≡ true → host ≡ length (host_of a)
  host-is e = h ∙ ap (prefix_len is_host_byte) (rest-is e) ∙ run-append is_host_byte (host_of a) (slash ∷ rest_of a) (parts_of a e).host refl

  tail-is : lawful a ≡ true → tail ≡ slash ∷ rest_of a
  tail-is e = t ∙ ap (drop host) (rest-is e) ∙ drop_at (host_of a) (slash ∷ rest_of a) host (sym (host-is e))

  pub no-host : host ≡ 0 → lawful a ≡ false
  no-host z = refuted (lawful a) (λ e. let k = host-is e in let n = (parts_of a e).named in omega arith)

  pub no_slash : begins (slash ∷ []) tail ≡ false → lawful a ≡ false
  no_slash n = refuted (lawful a) (λ e. both_ways (begins (slash ∷ []) tail) n (is-begins (slash ∷ []) tail (rest_of a) (tail-is e)))

  module _ (named : 0 < host) (slashed : begins (slash ∷ []) tail ≡ true) where
    good : every is_host_byte (take host rest) ≡ true
    good = ap (λ k. every is_host_byte (take k rest)) h ∙ every-run is_host_byte rest

    len : length (take host rest) ≡ host
    len = length-take-le host rest (let k = prefix_len-le-length is_host_byte rest in omega arith)

    tail-cons : tail ≡ slash ∷ drop 1 tail
    tail-cons = begins-is (slash ∷ []) tail slashed

    split : a ≡ scheme ++ (take host rest ++ (slash ∷ drop 1 tail))
    split = whole ∙ ap (λ l. scheme ++ l) (sym (take-append-drop host rest) ∙ ap (λ l. take host rest ++ l) (sym t ∙ tail-cons))

    -- then the address is lawful exactly when the path ends well
    pub decides : lawful a ≡ closes end
    decides =
        let l : length (scheme ++ (take host rest ++ (slash ∷ drop 1 tail))) ≤ 128 = omega (arith, ap length split) in
        ap lawful split ∙ lawful-exact (take host rest) (drop 1 tail) good l
        ∙ ap (λ b. b && ends is_path_byte hash (drop (prefix_len is_path_byte (slash ∷ drop 1 tail)) (slash ∷ drop 1 tail))) (lt-ltb 0 (length (take host rest)) (omega (arith, len)))
        ∙ ap (λ l. ends is_path_byte hash (drop (prefix_len is_path_byte l) l)) (sym tail-cons)
        ∙ ap (λ k. ends is_path_byte hash (drop k tail)) (sym p) ∙ ap (ends is_path_byte hash) (sym d) ∙ ends-closes end

    -- and the places are where the runs ended
    pub path-at : 7 + host ≡ 7 + length (host_of a)
    path-at = ap (λ k. 7 + k) (sym (ap (λ l. length (host_of l)) split ∙ ap length (host-exact (take host rest) (drop 1 tail) good) ∙ len))

    pub deck-at : lawful a ≡ true → (7 + host) + path ≡ length (deck_of a)
    deck-at e =
        let pa : path_of a ≡ before hash tail = ap path_of split ∙ path-exact (take host rest) (drop 1 tail) good ∙ ap (before hash) (sym tail-cons) in
        let g : every is_path_byte (before hash tail) ≡ true = ap (every is_path_byte) (sym pa) ∙ (parts_of a e).path in
        let k : length (before hash tail) ≡ path = ap length (ends-run is_path_byte hash refl tail g ∙ ap (λ n. take n tail) (sym p)) ∙ length-take-le path tail (let m = prefix_len-le-length is_path_byte tail in omega arith) in
        let q : deck_of a ≡ scheme ++ (take host rest ++ before hash tail) = ap deck_of split ∙ deck-split (take host rest) (slash ∷ drop 1 tail) good ∙ ap (λ l. scheme ++ (take host rest ++ before hash l)) (sym tail-cons) in
        omega (arith, len, ap length q, length-append (take host rest) (before hash tail))
