-- Texts, one after another, as far as a sink took them.
use Rattle.std.proofs.Common.{◌≡◌, ℕ, ◌≤◌, ◌<◌, ◌+◌, ◌/◌, ◌%◌, ◌^◌, List, [], ◌∷◌, ◌++◌, Option, ◌∙◌, ap, sym, subst, append_assoc, append-nil, arith}
use Rattle.std.specs.Prelude.{decimal}
use Rattle.std.proofs.lemmas.Fmt.{decimal_step, decimal_digit}
use Rattle.delta_end.specs.Note.{Says}
use Rattle.delta_end.proofs.Growing.{grows_more}

-- the first text was written whole, and then a part of the second
pub says_then : (old mid new : Option (List ℕ)) (text more : List ℕ) (first all : Type 0) → first → Says old mid text first → Says mid new more all → Says old new (text ++ more) all
says_then old mid new text more first all yet before after = record {
  sent = before.sent ++ after.sent;
  rest = after.rest;
  split = ap (λ (bs : List ℕ). bs ++ more) (before.split ∙ ap (λ (bs : List ℕ). before.sent ++ bs) (before.whole yet) ∙ append-nil before.sent)
      ∙ ap (λ (bs : List ℕ). before.sent ++ bs) after.split ∙ sym (append_assoc before.sent after.sent after.rest);
  whole = after.whole;
  added = grows_more old mid new before.sent after.sent before.added after.added;
}

-- a part of the first text was written
pub says_part : (old new : Option (List ℕ)) (text more : List ℕ) (some all : Type 0) → (all → ⊥) → Says old new text some → Says old new (text ++ more) all
says_part old new text more some all never part = record {
  sent = part.sent;
  rest = part.rest ++ more;
  split = ap (λ (bs : List ℕ). bs ++ more) part.split ∙ append_assoc part.sent part.rest more;
  whole = λ is. absurd (never is);
  added = part.added;
}

pub says_as : (old new : Option (List ℕ)) (text other : List ℕ) (all : Type 0) → text ≡ other → Says old new text all → Says old new other all
says_as old new text other all same says = subst (λ (bs : List ℕ). Says old new bs all) same says

-- a number of one digit
pub digit_is : (n : ℕ) → n < 10 → (48 + n % 10) ∷ [] ≡ decimal n
digit_is n small = let e : 48 + n % 10 ≡ 48 + n = omega arith in ap (λ (d : ℕ). d ∷ []) e ∙ sym (decimal_digit n small)

-- the digits before the last, and the last
pub digits_are : (n : ℕ) → 10 ≤ n → n < 2 ^ 64 → decimal (n / 10) ++ (48 + n % 10) ∷ [] ≡ decimal n
digits_are n great fits = sym (decimal_step n great fits)
