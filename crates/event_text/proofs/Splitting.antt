-- The words of a line, cut at its first space.
use Rattle.std.proofs.Common.{◌≡◌, ℕ, suc, ◌+◌, ◌<◌, ◌≤◌, List, [], ◌∷◌, Bool, true, false, not, cond, length, take, drop, Some, None, refl, ap, ◌∙◌, sym, arith}
use Rattle.std.specs.Prelude.{◌==◌, position, unwrap_or, nat_lt, Err, if◌then◌else◌, ◌-◌, Option, Result}
use Rattle.std.specs.List.{position_or_len, onto_first}
use Rattle.std.proofs.lemmas.Bool.Decides.{nat_tests}
use Rattle.event_word.specs.declared.event.Step.{Step}
use Rattle.event_word.specs.declared.event.Leaf.{Leaf}
use Rattle.event_word.specs.StreamEvent.{StreamEvent}
use Rattle.event_text.specs.declared.fault.LineFault.{LineFault}
use Rattle.event_text.specs.declared.fault.LineFault.TheVariants.{BadWord, BigNumber, Extra}
use Rattle.event_text.specs.Reading.{words, is_end, last_word, is_number, number_leaf, at_number, step_of, at_leaf, step_or_leaf, at_words, alone}
use Rattle.event_text.specs.Words.{behind}

-- the place of the first space, or the end
abbrev space_in : List ℕ → ℕ
space_in line = position_or_len (λ byte. byte == 32) line

space_within : (line : List ℕ) → space_in line ≤ length line
space_within [] = omega arith
space_within (b ∷ bs) =
    let within = space_within bs in
    elim (b == 32) as (λ v. cond (not v) (1 + space_in bs) 0 ≤ suc (length bs)) [ true ↦ omega arith | false ↦ omega arith ]

pub space_found : (line : List ℕ) → (unwrap_or (position (λ byte. byte == 32) line) (length line) ≡ space_in line) × (space_in line ≤ length line)
space_found line =
    let within = space_within line in
    let at : unwrap_or (position (λ byte. byte == 32) line) (length line) ≡ space_in line = found (space_in line) (length line) within in
    (at, within)
  where
    found : (n len : ℕ) → n ≤ len → unwrap_or (cond (nat_lt n len) (Some n) None) len ≡ n
    found n len within = grind (arith, nat_tests)

-- the first word, and what is behind it
pub words_cut : (line : List ℕ) → words line ≡ take (space_in line) line ∷ behind (drop (space_in line) line)
words_cut [] = refl
words_cut (b ∷ bs) =
    let next : 1 + space_in bs ≡ suc (space_in bs) = omega arith in
    elim (b == 32) as (λ v. cond v ([] ∷ words bs) (onto_first b (words bs)) ≡ take (cond (not v) (1 + space_in bs) 0) (b ∷ bs) ∷ behind (drop (cond (not v) (1 + space_in bs) 0) (b ∷ bs))) [
      | true ↦ refl
      | false ↦ ap (onto_first b) (words_cut bs) ∙ sym (ap (λ n. take n (b ∷ bs) ∷ behind (drop n (b ∷ bs))) next)
    ]

-- a line that is not empty does not end where its first word is awaited
pub not_end : (w rest : List ℕ) → 0 < length w + length rest → is_end w (behind rest) ≡ false
not_end [] [] some = absurd (omega arith)
not_end (b ∷ w) [] some = refl
not_end [] (b ∷ rest) some = rw words_cut refl
not_end (a ∷ w) (b ∷ rest) some = refl

-- behind a leaf, what is left of the line is too much
pub goes_on : (leaf : Leaf) (fault : LineFault) (column : ℕ) (rest : List ℕ) → 0 < length rest → last_word (Some leaf) fault column (behind rest) ≡ Err (Extra column)
goes_on leaf fault column [] some = absurd (omega arith)
goes_on leaf fault column (space ∷ line) some = ap (last_word (Some leaf) fault column) (words_cut line)

-- the words behind `int`, told apart by the first of them
pub number_words : (column : ℕ) (line w rest : List ℕ) → words line ≡ w ∷ behind rest → 0 < length w + length rest
    → at_number column (words line) ≡ (if is_number w then last_word (number_leaf w) (BigNumber column) (column + length w) (behind rest) else Err (BadWord column))
number_words column line w rest cut some =
    let goes : is_end w (behind rest) ≡ false = not_end w rest some in
    ap (at_number column) cut ∙ rw goes refl

-- the words from a column on, told apart by the first of them
pub event_words : (left column : ℕ) (line w rest : List ℕ) → words line ≡ w ∷ behind rest → 0 < length w + length rest
    → at_words left column (words line) ≡ step_or_leaf (step_of w) left (at_words (left - 1) (column + length w + 1) (behind rest)) (at_leaf column w (behind rest))
event_words left column line w rest cut some =
    let goes : is_end w (behind rest) ≡ false = not_end w rest some in
    ap (at_words left column) cut ∙ rw goes refl

-- where that is no number
pub no_number : (column : ℕ) (line w rest : List ℕ) → words line ≡ w ∷ behind rest → 0 < length w + length rest → is_number w ≡ false
    → at_number column (words line) ≡ Err (BadWord column)
no_number column line w rest cut some is_none =
    number_words column line w rest cut some ∙ ap (λ (v : Bool). if v then last_word (number_leaf w) (BigNumber column) (column + length w) (behind rest) else Err (BadWord column)) is_none

-- where that is no step, and no leaf either
pub no_leaf : (left column : ℕ) (line w rest : List ℕ) (fault : LineFault) → words line ≡ w ∷ behind rest → 0 < length w + length rest
    → step_of w ≡ None → Err fault ≡ at_leaf column w (behind rest) → Err fault ≡ at_words left column (words line)
no_leaf left column line w rest fault cut some none bad =
    let after : Result StreamEvent LineFault = at_words (left - 1) (column + length w + 1) (behind rest) in
    ap alone bad
    ∙ sym (event_words left column line w rest cut some ∙ ap (λ (o : Option Step). step_or_leaf o left after (at_leaf column w (behind rest))) none)
