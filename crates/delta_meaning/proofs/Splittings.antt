-- A prefix for each name of a bunch is its split.
use mathlib.Core.Path.{fun_ext}
use Rattle.std.proofs.Common.{◌≡◌, ℕ, ◌+◌, Bool, true, false, ◌||◌, List, [], ◌∷◌, ◌++◌, length, eqb, if◌then◌else◌, refl, sym, ap₂, ◌∙◌, arith}
use Rattle.std.proofs.lemmas.List.{length-append}
use Rattle.stream_type.specs.StreamType.{eps}
use Rattle.stream_prefix.specs.declared.prefix.StarEnd.{StarEnd}
use Rattle.stream_prefix.specs.declared.prefix.StarEnd.TheVariants.{Emp, Done, First'}
use Rattle.stream_prefix.specs.StreamPrefix.{StreamPrefix, eps_emp, par_both, cat_fst, cat_both, emp}
use Rattle.stream_prefix.specs.Tree.{star_of, end_of}
use Rattle.stream_prefix.proofs.Rows.{row_of-hidden}
use Rattle.bunch.specs.BunchTree.{BunchTree, empty, leaf, comma, semi, leaf_names}
use Rattle.bunch.specs.Names.{holds, value_at}
use Rattle.core_term.specs.Agreement.{types_in}
use Rattle.core_term.specs.Environment.{Environment, by_side, nothing, empty_at}
use Rattle.core_term.specs.Split.{split}
use Rattle.delta_meaning.specs.Splitting.{parts, empties, blanks}

value_at-append : (xs ys : List ℕ) (vs ws : List StreamPrefix) (x : ℕ) → length vs ≡ length xs → value_at eps_emp (xs ++ ys) (vs ++ ws) x ≡ (if holds x xs then value_at eps_emp xs vs x else value_at eps_emp ys ws x)
value_at-append [] ys [] ws x e = refl
value_at-append [] ys (v ∷ vs) ws x e = absurd (omega arith)
value_at-append (z ∷ zs) ys [] ws x e = absurd (omega arith)
value_at-append (z ∷ zs) ys (v ∷ vs) ws x e = let n : length vs ≡ length zs = omega arith in go (eqb x z) (value_at-append zs ys vs ws x n)
  where
    go : (c : Bool) → value_at eps_emp (zs ++ ys) (vs ++ ws) x ≡ (if holds x zs then value_at eps_emp zs vs x else value_at eps_emp ys ws x)
        → (if c then v else value_at eps_emp (zs ++ ys) (vs ++ ws) x) ≡ (if (c || holds x zs) then (if c then v else value_at eps_emp zs vs x) else value_at eps_emp ys ws x)
    go true k = refl
    go false k = k

-- lists of the same lengths, one after the other
both-lengths : (vs ws : List StreamPrefix) (xs ys : List ℕ) → length vs ≡ length xs → length ws ≡ length ys → length (vs ++ ws) ≡ length (xs ++ ys)
both-lengths vs ws xs ys e h = length-append vs ws ∙ (ap₂ (λ m n. m + n) e h ∙ sym (length-append xs ys))

length-empties : (b : BunchTree) → length (empties b) ≡ length (leaf_names b)
length-empties empty = refl
length-empties (leaf x t) = refl
length-empties (comma a b) = both-lengths (empties a) (empties b) (leaf_names a) (leaf_names b) (length-empties a) (length-empties b)
length-empties (semi a b) = both-lengths (empties a) (empties b) (leaf_names a) (leaf_names b) (length-empties a) (length-empties b)

length-blanks : (b : BunchTree) → length (blanks b) ≡ length (leaf_names b)
length-blanks empty = refl
length-blanks (leaf x t) = refl
length-blanks (comma a b) = both-lengths (blanks a) (blanks b) (leaf_names a) (leaf_names b) (length-blanks a) (length-blanks b)
length-blanks (semi a b) = both-lengths (blanks a) (blanks b) (leaf_names a) (leaf_names b) (length-blanks a) (length-blanks b)

length-parts : (b : BunchTree) (p : StreamPrefix) → length (parts b p) ≡ length (leaf_names b)
length-parts empty p = refl
length-parts (leaf x t) p = refl
length-parts (comma a b) (par_both p q) = both-lengths (parts a p) (parts b q) (leaf_names a) (leaf_names b) (length-parts a p) (length-parts b q)
length-parts (semi a b) (cat_fst p) = both-lengths (parts a p) (empties b) (leaf_names a) (leaf_names b) (length-parts a p) (length-empties b)
length-parts (semi a b) (cat_both p q) = both-lengths (parts a p) (parts b q) (leaf_names a) (leaf_names b) (length-parts a p) (length-parts b q)
length-parts (comma a b) _ = length-blanks (comma a b)
length-parts (semi a b) _ = length-blanks (semi a b)

-- of two sides, each with its prefixes
two_sides : (a b : BunchTree) (vs ws : List StreamPrefix) (f g : Environment) (x : ℕ) → length vs ≡ length (leaf_names a) → value_at eps_emp (leaf_names a) vs x ≡ f x → value_at eps_emp (leaf_names b) ws x ≡ g x
    → value_at eps_emp (leaf_names a ++ leaf_names b) (vs ++ ws) x ≡ by_side (leaf_names a) f g x
two_sides a b vs ws f g x n e h = value_at-append (leaf_names a) (leaf_names b) vs ws x n ∙ ap₂ (λ p q. if holds x (leaf_names a) then p else q) e h

value_at-empties : (b : BunchTree) (x : ℕ) → value_at eps_emp (leaf_names b) (empties b) x ≡ empty_at (types_in b) x
value_at-empties empty x = refl
value_at-empties (leaf z t) x = go (eqb x z)
  where
    go : (c : Bool) → (if c then emp t else eps_emp) ≡ emp (if c then t else eps)
    go true = refl
    go false = refl
value_at-empties (comma a b) x = two_sides a b (empties a) (empties b) (empty_at (types_in a)) (empty_at (types_in b)) x (length-empties a) (value_at-empties a x) (value_at-empties b x) ∙ go (holds x (leaf_names a))
  where
    go : (c : Bool) → (if c then emp (types_in a x) else emp (types_in b x)) ≡ emp (if c then types_in a x else types_in b x)
    go true = refl
    go false = refl
value_at-empties (semi a b) x = two_sides a b (empties a) (empties b) (empty_at (types_in a)) (empty_at (types_in b)) x (length-empties a) (value_at-empties a x) (value_at-empties b x) ∙ go (holds x (leaf_names a))
  where
    go : (c : Bool) → (if c then emp (types_in a x) else emp (types_in b x)) ≡ emp (if c then types_in a x else types_in b x)
    go true = refl
    go false = refl

same : (c : Bool) → (if c then eps_emp else eps_emp) ≡ eps_emp
same true = refl
same false = refl

value_at-blanks : (b : BunchTree) (x : ℕ) → value_at eps_emp (leaf_names b) (blanks b) x ≡ eps_emp
value_at-blanks empty x = refl
value_at-blanks (leaf z t) x = same (eqb x z)
value_at-blanks (comma a b) x = two_sides a b (blanks a) (blanks b) nothing nothing x (length-blanks a) (value_at-blanks a x) (value_at-blanks b x) ∙ same (holds x (leaf_names a))
value_at-blanks (semi a b) x = two_sides a b (blanks a) (blanks b) nothing nothing x (length-blanks a) (value_at-blanks a x) (value_at-blanks b x) ∙ same (holds x (leaf_names a))

value_at-parts : (b : BunchTree) (p : StreamPrefix) (x : ℕ) → value_at eps_emp (leaf_names b) (parts b p) x ≡ split b p x
value_at-parts empty p x = refl
value_at-parts (leaf z t) p x = refl
value_at-parts (comma a b) (par_both p q) x = two_sides a b (parts a p) (parts b q) (split a p) (split b q) x (length-parts a p) (value_at-parts a p x) (value_at-parts b q x)
value_at-parts (semi a b) (cat_fst p) x = two_sides a b (parts a p) (empties b) (split a p) (empty_at (types_in b)) x (length-parts a p) (value_at-parts a p x) (value_at-empties b x)
value_at-parts (semi a b) (cat_both p q) x = two_sides a b (parts a p) (parts b q) (split a p) (split b q) x (length-parts a p) (value_at-parts a p x) (value_at-parts b q x)
value_at-parts (comma a b) _ x = value_at-blanks (comma a b) x
value_at-parts (semi a b) _ x = value_at-blanks (semi a b) x

-- the parts of a prefix are its split
pub parts_are_split : (b : BunchTree) (p : StreamPrefix) → value_at eps_emp (leaf_names b) (parts b p) ≡ split b p
parts_are_split b p = fun_ext (value_at-parts b p)

-- a star has no parts
pub parts-comma_star : (a b : BunchTree) (ps : List StreamPrefix) (e : StarEnd) → parts (comma a b) (star_of ps (end_of e)) ≡ blanks (comma a b)
parts-comma_star a b [] Emp = refl
parts-comma_star a b [] Done = refl
parts-comma_star a b [] (First' x p) = refl
parts-comma_star a b (p ∷ ps) e = refl

pub parts-semi_star : (a b : BunchTree) (ps : List StreamPrefix) (e : StarEnd) → parts (semi a b) (star_of ps (end_of e)) ≡ blanks (semi a b)
parts-semi_star a b [] Emp = refl
parts-semi_star a b [] Done = refl
parts-semi_star a b [] (First' x p) = refl
parts-semi_star a b (p ∷ ps) e = refl

-- for functions that ask for the form of a prefix
pub ruleset part_forms = (row_of-hidden, parts-comma_star, parts-semi_star)
