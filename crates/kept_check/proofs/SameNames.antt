-- Names that are the same in two lists, and what is asked of what is held by such names.
use Rattle.std.proofs.Common.{◌≡◌, ◌∙◌, ◌↔◌, ℕ, Bool, true, false, ◌&&◌, not, List, refl, ap, sym}
use Rattle.std.specs.Prelude.{Some}
use Rattle.std.specs.List.{All, list_all}
use Rattle.std.proofs.lemmas.Bool.{not-true, and_from}
use Rattle.stream_prefix.specs.StreamPrefix.{der, IsPrefix}
use Rattle.bunch.specs.declared.name.Name.{Name}
use Rattle.bunch.specs.Names.{holds, numbers_of}
use Rattle.bunch.proofs.Tests.{and_first, and_second}
use Rattle.core_term.specs.FreeNames.{is_distinct}
use Rattle.core_term.specs.Typing.{Context}
use Rattle.core_term.proofs.Sides.{all-holds, holds-all}
use Rattle.delta_state.specs.StateTree.{HeldName, held_names}
use Rattle.delta_state.specs.StateTyping.{IsHeld}
use Rattle.kept_check.specs.Free.{HasNames}

same_test : (a b : Bool) → (a ≡ true → b ≡ true) → (b ≡ true → a ≡ true) → a ≡ b
same_test true b h k = sym (h refl)
same_test false true h k = k refl
same_test false false h k = refl

-- whether each name of the first list is in the second, and each of the second in the first
abbrev pub are_same : List ℕ → List ℕ → Bool
are_same xs ys = list_all (λ x. holds x ys) xs && list_all (λ x. holds x xs) ys

-- and the first has none twice
abbrev pub are_just : List ℕ → List ℕ → Bool
are_just xs ys = is_distinct xs && are_same xs ys

pub names_of_same : (xs ys : List ℕ) → are_same xs ys ≡ true → (x : ℕ) → holds x xs ≡ holds x ys
names_of_same xs ys h x =
    same_test (holds x xs) (holds x ys)
    (all-holds (λ x. holds x ys) xs (and_first (list_all (λ x. holds x ys) xs) (list_all (λ x. holds x xs) ys) h) x)
    (all-holds (λ x. holds x xs) ys (and_second (list_all (λ x. holds x ys) xs) (list_all (λ x. holds x xs) ys) h) x)

pub same_of_names : (xs ys : List ℕ) → ((x : ℕ) → holds x xs ≡ holds x ys) → are_same xs ys ≡ true
same_of_names xs ys h =
    and_from (list_all (λ x. holds x ys) xs) (list_all (λ x. holds x xs) ys) (holds-all (λ x. holds x ys) xs (λ x m. sym (h x) ∙ m)) (holds-all (λ x. holds x xs) ys (λ x m. h x ∙ m))

-- no name of the first list is in the second
pub apart_at : (xs ys : List ℕ) → list_all (λ x. not (holds x ys)) xs ≡ true → (x : ℕ) → holds x xs ≡ true → holds x ys ≡ false
apart_at xs ys h x m = not-true (holds x ys) (all-holds (λ x. not (holds x ys)) xs h x m)

pub apart_of : (xs ys : List ℕ) → ((x : ℕ) → holds x xs ≡ true → holds x ys ≡ false) → list_all (λ x. not (holds x ys)) xs ≡ true
apart_of xs ys h = holds-all (λ x. not (holds x ys)) xs (λ x m. ap not (h x m))

-- what is left of held names
abbrev pub AreLeft : Context → List HeldName → Type 0
AreLeft c held = All (λ h. IsPrefix h.type h.prefix) held × All (λ h. c.types h.name ≡ Some (der h.prefix h.type)) held

module _ (c : Context) (names : List Name) (free : List ℕ) (held : List HeldName) (e : numbers_of names ≡ held_names held) where
  -- names that are each once, and the same as the free ones
  pub held_where : are_just (numbers_of names) free ≡ true → AreLeft c held ↔ IsHeld c free held
  held_where j =
      let d = and_first (is_distinct (numbers_of names)) (are_same (numbers_of names) free) j in
      let s = and_second (is_distinct (numbers_of names)) (are_same (numbers_of names) free) j in (
        λ a. record { are_prefixes = a.0; are_left = a.1; are_free = λ x. ap (holds x) (sym e) ∙ names_of_same (numbers_of names) free s x; are_once = ap is_distinct (sym e) ∙ d },
        λ i. (i.are_prefixes, i.are_left),
      )

  pub held_just : IsHeld c free held → are_just (numbers_of names) free ≡ true
  held_just i =
      and_from (is_distinct (numbers_of names)) (are_same (numbers_of names) free) (ap is_distinct e ∙ i.are_once) (same_of_names (numbers_of names) free (λ x. ap (holds x) e ∙ i.are_free x))

-- whatever list has these names
pub held_like : (c : Context) (v : List Name) (free : List ℕ) (held : List HeldName) → HasNames v free → IsHeld c (numbers_of v) held ↔ IsHeld c free held
held_like c v free held h = (
  λ i. record { are_prefixes = i.are_prefixes; are_left = i.are_left; are_free = λ x. i.are_free x ∙ h x; are_once = i.are_once },
  λ i. record { are_prefixes = i.are_prefixes; are_left = i.are_left; are_free = λ x. i.are_free x ∙ sym (h x); are_once = i.are_once },
)
