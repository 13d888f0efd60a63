-- A text is cut at its first line feed, or is no ended line.
use Rattle.std.proofs.Common.{◌≡◌, ◌∙◌, ℕ, suc, ◌+◌, ◌<◌, ◌≤◌, List, [], ◌∷◌, Bool, true, false, not, cond, length, take, drop, Some, None, refl, ap, sym, arith}
use Rattle.std.specs.Prelude.{◌==◌, position, nat_lt}
use Rattle.std.specs.List.{slice_split, position_or_len, onto_first, before_first, after_first}
use Rattle.std.proofs.lemmas.Bool.{ltb-true, lt-ltb}
use Rattle.std.proofs.lemmas.List.Splits.{slice_split_first, length-slice_split}
use Rattle.delta_derive.specs.LineText.{line_in, lines_among, lines_in}
use Rattle.delta_derive.proofs.Options.{some_same, none_some}

abbrev feed : ℕ → Bool
feed byte = byte == 10

-- where another piece follows
one_more : (piece : List ℕ) (pieces : List (List ℕ)) → 0 < length pieces → lines_among (piece ∷ pieces) ≡ line_in piece ∷ lines_among pieces
one_more piece [] h = absurd (omega arith)
one_more piece (next ∷ pieces) h = refl

-- the place of the first line feed
place_found : (text : List ℕ) (n : ℕ) → position feed text ≡ Some n → (position_or_len feed text ≡ n) × (n < length text)
place_found text n h = go (nat_lt (position_or_len feed text) (length text)) refl h
  where
    go : (b : Bool) → nat_lt (position_or_len feed text) (length text) ≡ b → cond b (Some (position_or_len feed text)) None ≡ Some n → (position_or_len feed text ≡ n) × (n < length text)
    go true k q = let e = some_same q in (e, let lt = ltb-true (position_or_len feed text) (length text) k in omega (arith, lt, e))
    go false k q = none_some q

pub lines_cut : (text : List ℕ) (n : ℕ) → position feed text ≡ Some n → lines_in text ≡ line_in (take n text) ∷ lines_in (drop (n + 1) text)
lines_cut text n h =
    let at = place_found text n h in
    let less : position_or_len feed text < length text = omega (arith, at.0, at.1) in
    ap lines_among (slice_split_first feed text 0 less)
    ∙ one_more (before_first feed text) (slice_split feed (after_first feed text)) (omega (arith, length-slice_split feed (after_first feed text)))
    ∙ ap (λ i. line_in (take i text) ∷ lines_in (drop (i + 1) text)) at.0

pub feed_within : (text : List ℕ) (n : ℕ) → position feed text ≡ Some n → n < length text
feed_within text n h = (place_found text n h).1

-- a text without a line feed is one piece
uncut : (text : List ℕ) → length text ≤ position_or_len feed text → slice_split feed text ≡ text ∷ []
uncut [] h = refl
uncut (b ∷ bs) h = go (λ k. uncut bs k) (b == 10) h
  where
    go : (length bs ≤ position_or_len feed bs → slice_split feed bs ≡ bs ∷ []) → (v : Bool) → suc (length bs) ≤ cond (not v) (1 + position_or_len feed bs) 0 → cond v ([] ∷ slice_split feed bs) (onto_first b (slice_split feed bs)) ≡ (b ∷ bs) ∷ []
    go more true k = absurd (omega arith)
    go more false k = ap (onto_first b) (more (omega arith))

none_found : (text : List ℕ) → position feed text ≡ None → length text ≤ position_or_len feed text
none_found text h = go (nat_lt (position_or_len feed text) (length text)) refl h
  where
    go : (b : Bool) → nat_lt (position_or_len feed text) (length text) ≡ b → cond b (Some (position_or_len feed text)) None ≡ None → length text ≤ position_or_len feed text
    go true k q = none_some (sym q)
    go false k q = grind (arith, lt-ltb, k)

pub lines_uncut : (text : List ℕ) → position feed text ≡ None → lines_in text ≡ lines_among (text ∷ [])
lines_uncut text h = ap lines_among (uncut text (none_found text h))

pub no_lines : (text : List ℕ) → length text ≡ 0 → lines_in text ≡ []
no_lines [] h = refl
no_lines (b ∷ bs) h = absurd (omega arith)

pub bad_rest : (text : List ℕ) → 0 < length text → lines_among (text ∷ []) ≡ None ∷ []
bad_rest [] h = absurd (omega arith)
bad_rest (b ∷ bs) h = refl

pub ruleset cutting = (lines_cut, feed_within)
