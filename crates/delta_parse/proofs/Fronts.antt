-- How a list of tokens begins, and what a slice of it has.
use Rattle.std.proofs.Common.{◌≡◌, ◌∙◌, ℕ, ◌+◌, ◌-◌, ◌<◌, ◌≤◌, Bool, true, false, List, [], ◌∷◌, ◌||◌, refl, sym, ap, length, take, drop, get_or, arith, length-drop}
use Rattle.grammar.specs.Reading.{starts}
use Rattle.delta_parse.specs.declared.terminal.Terminal.{Terminal}
use Rattle.delta_parse.specs.declared.plain.Plain.{Plain}
use Rattle.delta_parse.specs.Terminals.{plain_of, plains}
use Rattle.delta_parse.proofs.Loops.{slice_from}

-- what is said of the first token is said of how the list begins
pub starts_so : (is : Terminal → Bool) (ts : List Plain) (t : Plain) (r : Bool) → 1 ≤ length ts → t ≡ get_or ts 0 t → r ≡ is t.kind → r ≡ starts is (plains ts)
starts_so is [] t r h e g = absurd (omega arith)
starts_so is (u ∷ ts) t r h e g = g ∙ ap (λ (p : Plain). is p.kind) e

pub starts_none : (is : Terminal → Bool) (ts : List Plain) → length ts < 1 → false ≡ starts is (plains ts)
starts_none is [] h = refl
starts_none is (u ∷ ts) h = absurd (omega arith)

pub first_is : (ts : List Plain) (t : Plain) → 1 ≤ length ts → t ≡ get_or ts 0 t → plains ts ≡ plain_of t ∷ plains (take (length ts - 1) (drop 1 ts))
first_is [] t h e = absurd (omega arith)
first_is (u ∷ ts) t h e = ap (λ (p : Plain). plain_of p ∷ plains ts) (sym e) ∙ ap (λ us. plain_of t ∷ plains us) (sym (slice_from (u ∷ ts) 1))

pub slice_length : (ts : List Plain) (n : ℕ) → length (take (length ts - n) (drop n ts)) ≡ length ts - n
slice_length ts n = ap length (slice_from ts n) ∙ length-drop n ts

pub first_shorter : (ts : List Plain) → 1 ≤ length ts → length (take (length ts - 1) (drop 1 ts)) < length ts
first_shorter ts h = (let e = slice_length ts 1 in omega arith)

pub slice_within : (ts : List Plain) (n : ℕ) → length (take (length ts - n) (drop n ts)) ≤ length ts
slice_within ts n = (let e = slice_length ts n in omega arith)

pub slice_shorter : (ts : List Plain) (n : ℕ) → n + 1 ≤ length ts → length (take (length ts - (n + 1)) (drop (n + 1) ts)) < length ts
slice_shorter ts n h = (let e = slice_length ts (n + 1) in omega arith)

pub some_more : (n : ℕ) → 1 ≤ n → 0 < n
some_more n h = omega arith

-- one of two tests
pub first_holds : (x y r : Bool) → r ≡ x → r ≡ true → true ≡ (x || y)
first_holds x y r e h = rw (sym e ∙ h) refl

pub first_fails : (x y r s : Bool) → r ≡ x → r ≡ false → s ≡ y → s ≡ (x || y)
first_fails x y r s e h g = rw (sym e ∙ h) g

-- a loop that goes on behind what was read has less to go
pub less_to_go : (l r n : ℕ) → r < l - (n + 1) → l - (l - r) < l - n
less_to_go l r n h = omega arith
