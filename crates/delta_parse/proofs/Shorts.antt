-- The tokens of a text are few and end within it.
use Rattle.std.proofs.Common.{◌≡◌, ◌∙◌, ℕ, zero, suc, ◌+◌, ◌-◌, ◌<◌, ◌≤◌, min, List, [], ◌∷◌, sym, ap, length, take, drop, get_or, arith, length-drop}
use Rattle.std.proofs.lemmas.List.{length-take}
use Rattle.std.proofs.lemmas.Str.{encodes-chars}
use Rattle.std.specs.Str.{chars}
use Rattle.delta_lex.specs.declared.token.Token.{Token}
use Rattle.delta_lex.specs.Tokens.{Lexeme, lexemes, AreSlices, AreInOrder}
use Rattle.delta_lex.proofs.Places.{reads_in_order, reads_slices}
use Rattle.delta_parse.specs.Places.{AreOfText, AreWithin, AreShort}

slice_end : (text : List ℕ) (t : Lexeme) → t.text ≡ take (length t.text) (drop t.at text) → 0 < length t.text → t.at + length t.text ≤ length text
slice_end text t e h =
    let k : length t.text ≡ min (length t.text) (length text - t.at) = ap length e ∙ length-take (length t.text) (drop t.at text) ∙ ap (min (length t.text)) (length-drop t.at text) in
    omega arith

count : (text : List ℕ) (a : ℕ) (ls : List Lexeme) → AreInOrder a ls → AreSlices text ls → a ≤ length text → a + length ls ≤ length text
count text a [] o s h = omega arith
count text a (t ∷ ls) o s h =
    let e : t.at + length t.text ≤ length text = slice_end text t s.0 o.1.0 in
    let k : (t.at + length t.text) + length ls ≤ length text = count text (t.at + length t.text) ls o.1.1 s.1 e in
    let p = o.0 in
    let q = o.1.0 in
    omega arith

within : (text : List ℕ) (a : ℕ) (ls : List Lexeme) → AreInOrder a ls → AreSlices text ls → length text ≤ 1048576 → AreWithin ls
within text a [] o s h = tt
within text a (t ∷ ls) o s h =
    let e : t.at + length t.text ≤ length text = slice_end text t s.0 o.1.0 in
    (omega arith, within text (t.at + length t.text) ls o.1.1 s.1 h)

pub short : (ls : List Lexeme) → AreOfText ls → AreShort ls
short ls f =
    let h = f.tokens in
    let is = h.is_text in
    let o : AreInOrder 0 ls = reads_in_order 0 0 (chars f.text) ls h.read in
    let s : AreSlices f.text ls = reads_slices f.text 0 0 (chars f.text) ls (sym (encodes-chars f.text is.utf8)) h.read in
    let l : length f.text ≤ 1048576 = is.short in
    let n : 0 + length ls ≤ length f.text = count f.text 0 ls o s (omega arith) in
    record { few = omega arith; within = within f.text 0 ls o s l }

pub within_at : (ts : List Token) (n : ℕ) (d : Token) → AreWithin (lexemes ts) → n < length ts → (get_or ts n d).at + length (get_or ts n d).text.now ≤ 1048576
within_at [] n d w h = absurd (omega arith)
within_at (t ∷ ts) zero d w h = w.0
within_at (t ∷ ts) (suc n) d w h = within_at ts n d w.1 (omega arith)
