-- Tables, one place more and whole, and results that are errors.
use Rattle.std.proofs.Common.{◌≡◌, ◌∙◌, ◌≤◌, ◌+◌, ℕ, add-one, List, [], ◌∷◌, ◌++◌, map, length, ap, ap₂, sym, arith}
use Rattle.std.proofs.lemmas.Bool.{false≢true}
use Rattle.std.specs.Prelude.{Result, Ok, Err, IfOk, IsErr}
use Rattle.core_term.specs.declared.program.Body.{Body}
use Rattle.core_term.specs.CoreTerm.{core_body_of}
use Rattle.state_bounds.specs.ProgramBound.{tabulated, repeated}
use Rattle.delta_bound.proofs.SizedPrograms.{length-bodies}

-- what was put behind a table is its next place
pub table-next : {A : Type 0} (g : ℕ → A) (n : ℕ) (old new : List A) (x : A) → new ≡ old ++ x ∷ [] → old ≡ tabulated n g → x ≡ g n → new ≡ tabulated (n + 1) g
table-next g n old new x h e k = h ∙ (ap₂ (λ l y. l ++ y ∷ []) e k ∙ ap (λ m. tabulated m g) (sym (add-one n)))

-- a table is whole once it has a place for each function
all-places : (f n : ℕ) (bs : List Body) → f ≤ n → n ≤ f → n ≡ length bs → f ≡ length (map core_body_of bs)
all-places f n bs h k e = let whole = length-bodies bs in omega (arith, whole)

pub table-whole : {A : Type 0} (g : ℕ → A) (f n : ℕ) (bs : List Body) (xs : List A) → xs ≡ tabulated f g → f ≤ n → n ≤ f → n ≡ length bs → xs ≡ tabulated (length (map core_body_of bs)) g
table-whole g f n bs xs e h k l = e ∙ ap (λ m. tabulated m g) (all-places f n bs h k l)

-- one round more, and all rounds
pub round-more : {A : Type 0} (g : A → A) (a : A) (n : ℕ) (old new : A) → new ≡ g old → old ≡ repeated n g a → new ≡ repeated (n + 1) g a
round-more g a n old new h e = h ∙ (ap g e ∙ ap (λ m. repeated m g a) (sym (add-one n)))

pub rounds-whole : {A : Type 0} (g : A → A) (a : A) (f n : ℕ) (bs : List Body) (x : A) → x ≡ repeated f g a → f ≤ n → n ≤ f → n ≡ length bs → x ≡ repeated (length (map core_body_of bs)) g a
rounds-whole g a f n bs x e h k l = e ∙ ap (λ m. repeated m g a) (all-places f n bs h k l)

-- nothing is said of the value of an error
pub no_value : {A E : Type 0} (r : Result A E) (P : A → Type 0) → IsErr r → IfOk r P
no_value (Ok x) P h = absurd (false≢true h)
no_value (Err e) P h = tt
