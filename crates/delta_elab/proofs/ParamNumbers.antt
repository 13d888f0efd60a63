-- The numbers of parameters in a table.
use Rattle.std.proofs.Common.{◌≡◌, ℕ, suc, ◌+◌, List, [], ◌∷◌, ◌++◌, length, map, Some, refl, sym, ap, ap₂, ◌∙◌, arith, append-nil, append_assoc, length-append}
use Rattle.std.proofs.lemmas.List.{length-map}
use Rattle.bunch.specs.declared.name.Name.{Name}
use Rattle.bunch.specs.Names.{put}
use Rattle.delta_meaning.specs.NewNames.{Origin}
use Rattle.delta_meaning.specs.Elaboration.{no_numbers, numbered_names}
use Rattle.delta_elab.specs.Numbering.{number_entries, entries_from, numbers_at}

-- entries in a row before others are names with numbers in a row
pub numbers_at-row : (xs : List ℕ) (n : ℕ) (es : List (ℕ × ℕ)) → numbers_at (entries_from xs n ++ es) ≡ numbered_names xs n (numbers_at es)
numbers_at-row [] n es = refl
numbers_at-row (x ∷ xs) n es = ap (put x n) (numbers_at-row xs (suc n) es)

-- a row of names in two parts
pub entries_from-append : (xs ys : List ℕ) (n : ℕ) → entries_from (xs ++ ys) n ≡ entries_from xs n ++ entries_from ys (n + length xs)
entries_from-append [] ys n = ap (entries_from ys) (omega arith)
entries_from-append (x ∷ xs) ys n =
    let e : suc n + length xs ≡ n + suc (length xs) = omega arith in
    ap (λ l. (x, n) ∷ l) (entries_from-append xs ys (suc n) ∙ ap (λ k. entries_from xs (suc n) ++ entries_from ys k) e)

pub number_entries-append : (xs ys : List (Name × Name)) → number_entries (xs ++ ys) ≡ number_entries xs ++ number_entries ys
number_entries-append [] ys = refl
number_entries-append (x ∷ xs) ys = ap (λ l. (x.0.0, x.1.0) ∷ l) (number_entries-append xs ys)

pub ruleset number_lists = (entries_from-append, number_entries-append)

-- as many variables more as there are names
pub more-variables : (first second : List Origin) (xs : List ℕ) → second ≡ first ++ map Some xs → length second ≡ length first + length xs
more-variables first second xs e = ap length e ∙ (length-append first (map Some xs) ∙ ap (λ k. length first + k) (length-map xs Some))

-- the entries of two rows, one after the other
pub entries-two : (before middle after : List (ℕ × ℕ)) (first second : List Origin) (xs ys : List ℕ)
    → middle ≡ before ++ entries_from xs (length first) → second ≡ first ++ map Some xs → after ≡ middle ++ entries_from ys (length second)
    → after ≡ before ++ entries_from (xs ++ ys) (length first)
entries-two before middle after first second xs ys em es ea =
    let n = length first in
    let next = more-variables first second xs es in
    ea ∙ (ap₂ (λ l k. l ++ entries_from ys k) em next
    ∙ (append_assoc before (entries_from xs n) (entries_from ys (n + length xs)) ∙ ap (λ l. before ++ l) (sym (entries_from-append xs ys n))))

-- the entries of stream parameters before those of historical ones
pub numbers_at-two : (xs ys : List ℕ) (m n : ℕ) → numbers_at (entries_from xs m ++ entries_from ys n) ≡ numbered_names xs m (numbered_names ys n no_numbers)
numbers_at-two xs ys m n =
    numbers_at-row xs m (entries_from ys n)
    ∙ ap (numbered_names xs m) (ap numbers_at (sym (append-nil (entries_from ys n))) ∙ numbers_at-row ys n [])
