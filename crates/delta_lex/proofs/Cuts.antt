-- Where a text is cut between two characters.
use Rattle.std.proofs.Common.{◌≡◌, ℕ, Bool, true, false, ◌&&◌, List, [], ◌∷◌, ◌++◌, length, take, drop, zero, suc, sym, ap, ◌∙◌, refl}
use Rattle.std.specs.Str.{chars, encode_utf8_all, all_scalars, IsUtf8, IsCharBoundary}
use Rattle.std.proofs.lemmas.List.{take-append-drop}
use Rattle.std.proofs.lemmas.Str.{encodes-append, encodes-chars, scalars-chars, chars-encodes, IsCharBoundary-at_seam}
use Rattle.delta_lex.specs.Measures.{bytes_of}

-- behind so many of a text's characters
pub record Cut (text : List ℕ) (n : ℕ) : Type 0 where
  pub front : take (bytes_of n (chars text)) text ≡ encode_utf8_all (take n (chars text))
  pub behind : chars (drop (bytes_of n (chars text)) text) ≡ drop n (chars text)
  pub boundary : IsCharBoundary text (bytes_of n (chars text))

-- the front of a list and more
pub take_front : (xs ys : List ℕ) → take (length xs) (xs ++ ys) ≡ xs
take_front [] ys = refl
take_front (x ∷ xs) ys = ap (λ (l : List ℕ). x ∷ l) (take_front xs ys)

-- what stands behind the front
pub drop_front : (xs ys : List ℕ) → drop (length xs) (xs ++ ys) ≡ ys
drop_front [] ys = refl
drop_front (x ∷ xs) ys = drop_front xs ys

behind_first : (a b : Bool) → (a && b) ≡ true → b ≡ true
behind_first true b h = h
behind_first false b h = cc

scalars-drop : (n : ℕ) (cs : List ℕ) → all_scalars cs ≡ true → all_scalars (drop n cs) ≡ true
scalars-drop zero cs h = h
scalars-drop (suc n) [] h = h
scalars-drop (suc n) (c ∷ cs) h = scalars-drop n cs (behind_first _ _ h)

-- characters are those up to a place and those behind it
pub split_encodes : (n : ℕ) (cs : List ℕ) → encode_utf8_all cs ≡ encode_utf8_all (take n cs) ++ encode_utf8_all (drop n cs)
split_encodes n cs = ap encode_utf8_all (sym (take-append-drop n cs)) ∙ encodes-append (take n cs) (drop n cs)

-- a text can be cut behind each of its characters
pub cut : (text : List ℕ) (n : ℕ) → IsUtf8 text → Cut text n
cut text n u =
    let split : text ≡ encode_utf8_all (take n (chars text)) ++ encode_utf8_all (drop n (chars text))
    = sym (encodes-chars text u) ∙ ap encode_utf8_all (sym (take-append-drop n (chars text))) ∙ encodes-append (take n (chars text)) (drop n (chars text)) in
    let good = scalars-drop n (chars text) (scalars-chars text u) in
    let rest : IsUtf8 (encode_utf8_all (drop n (chars text))) = (drop n (chars text), (good, refl)) in record {
      front = ap (λ (l : List ℕ). take (bytes_of n (chars text)) l) split ∙ take_front _ _;
      behind = ap (λ (l : List ℕ). chars (drop (bytes_of n (chars text)) l)) split
          ∙ ap chars (drop_front (encode_utf8_all (take n (chars text))) (encode_utf8_all (drop n (chars text)))) ∙ chars-encodes (drop n (chars text)) good;
      boundary = IsCharBoundary-at_seam text (encode_utf8_all (take n (chars text))) (encode_utf8_all (drop n (chars text))) split rest;
    }
