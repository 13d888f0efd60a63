-- What is awaited of a bunch and of its parts, whose marks stand one after the other.
use Rattle.std.proofs.Common.{◌≡◌, ◌∙◌, ℕ, zero, suc, ◌+◌, Bool, List, [], ◌∷◌, take, drop, ap, ap₂, refl, sym, zero-add, suc-add}
use Rattle.std.proofs.lemmas.List.{drop-take}
use Rattle.bunch.specs.BunchTree.{BunchTree, empty, leaf, comma, semi}
use Rattle.core_term.specs.Environment.{NameTypes}
use Rattle.machine_parts.specs.AwaitedTree.{AwaitedTree, both_awaited, turns_awaited}
use Rattle.kept_state.specs.KeptPlace.{semi_count, first_cuts, second_cuts}
use Rattle.machine_kept.specs.KeptAwaiting.{awaited_left}

take_none : {A : Type 0} (n : ℕ) → take {A = A} n [] ≡ []
take_none zero = refl
take_none (suc n) = refl

drop_none : {A : Type 0} (n : ℕ) → drop {A = A} n [] ≡ []
drop_none zero = refl
drop_none (suc n) = refl

-- two drops in turn
pub drop_both : {A : Type 0} (n m : ℕ) (xs : List A) → drop m (drop n xs) ≡ drop (n + m) xs
drop_both zero m xs = ap (λ k. drop k xs) (sym (zero-add m))
drop_both (suc n) m [] = drop_none m ∙ sym (drop_none (suc n + m))
drop_both (suc n) m (x ∷ xs) = drop_both n m xs ∙ ap (λ k. drop k (x ∷ xs)) (sym (suc-add n m))

-- the first ones of more
take_first : {A : Type 0} (n m : ℕ) (xs : List A) → take n (take (n + m) xs) ≡ take n xs
take_first zero m xs = refl
take_first (suc n) m [] = ap (take (suc n)) (take_none (suc n + m))
take_first (suc n) m (x ∷ xs) = ap (λ k. take (suc n) (take k (x ∷ xs))) (suc-add n m) ∙ ap (λ l. x ∷ l) (take_first n m xs)

-- marks behind those of a bunch don't matter to it
pub awaited_cut : (b : BunchTree) (T : NameTypes) (cuts : List Bool) → awaited_left b T (take (semi_count b) cuts) ≡ awaited_left b T cuts
awaited_cut empty T cuts = refl
awaited_cut (leaf x t) T cuts = refl
awaited_cut (comma a b) T cuts =
    ap₂ (λ k l. both_awaited (awaited_left a T k) (awaited_left b T l)) (take_first (semi_count a) (semi_count b) cuts) (drop-take (semi_count a) (semi_count b) cuts)
    ∙ ap (both_awaited (awaited_left a T (first_cuts a cuts))) (awaited_cut b T (second_cuts a cuts))
awaited_cut (semi a b) T [] = refl
awaited_cut (semi a b) T (cut ∷ cuts) =
    ap₂ (λ k l. turns_awaited cut (awaited_left a T k) (awaited_left b T l)) (take_first (semi_count a) (semi_count b) cuts) (drop-take (semi_count a) (semi_count b) cuts)
    ∙ ap (turns_awaited cut (awaited_left a T (first_cuts a cuts))) (awaited_cut b T (second_cuts a cuts))

-- what is awaited of two parts in a row, of which the second's marks stand behind the first's
pub both_are : (a b : BunchTree) (T : NameTypes) (cuts rest : List Bool) (x y : AwaitedTree) → x ≡ awaited_left a T cuts → rest ≡ drop (semi_count a) cuts → y ≡ awaited_left b T rest → both_awaited x y ≡ awaited_left (comma a b) T cuts
both_are a b T cuts rest x y e f g = ap₂ both_awaited (e ∙ sym (awaited_cut a T cuts)) (g ∙ ap (awaited_left b T) f)

pub turns_are : (a b : BunchTree) (T : NameTypes) (cut : Bool) (cuts rest : List Bool) (x y : AwaitedTree) → x ≡ awaited_left a T cuts → rest ≡ drop (semi_count a) cuts → y ≡ awaited_left b T rest → turns_awaited cut x y ≡ awaited_left (semi a b) T (cut ∷ cuts)
turns_are a b T cut cuts rest x y e f g = ap₂ (turns_awaited cut) (e ∙ sym (awaited_cut a T cuts)) (g ∙ ap (awaited_left b T) f)
