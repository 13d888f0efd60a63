-- Arguments by the names of their parameters.
use Rattle.std.proofs.Common.{◌≡◌, ◌<◌, ℕ, zero, suc, arith, length, get_or, drop, map, Bool, true, false, List, [], ◌∷◌, refl, ap, sym, ◌∙◌}
use Rattle.std.specs.Prelude.{Some, None, if◌then◌else◌, ◌==◌}
use Rattle.std.proofs.lemmas.Bool.{or_parts}
use Rattle.stream_type.specs.StreamType.{StreamType, eps}
use Rattle.bunch.specs.Names.{holds, numbers_of}
use Rattle.bunch.specs.BunchTree.{BunchTree, leaf_names, empty, leaf, comma, semi}
use Rattle.bunch.proofs.NameLists.{holds-append}
use Rattle.bunch.specs.declared.name.Name.{Name}
use Rattle.core_term.specs.declared.term.Node.{Node}
use Rattle.core_term.specs.Agreement.{types_in}
use Rattle.core_term.specs.CoreTerm.{no_terms, eps_term, term_of, terms_from}
use Rattle.core_term.specs.Typing.{Context, argument_of}
use Rattle.core_term.specs.TypeFaults.{first_pair}
use Rattle.core_term.specs.Params.{param_type}

-- no argument stands at a name where there is none
pub argument_of-none : (names : List ℕ) (u : ℕ) → argument_of names no_terms u ≡ eps_term
argument_of-none [] u = refl
argument_of-none (v ∷ names) u = refl

-- a term without free names is in order with each other
pub first_pair-nil : (c : Context) (xs : List ℕ) → first_pair c xs [] ≡ None
first_pair-nil c [] = refl
first_pair-nil c (x ∷ xs) = first_pair-nil c xs

-- a name that is no parameter has the type `eps`
pub types_in-none : (t : BunchTree) (x : ℕ) → holds x (leaf_names t) ≡ false → types_in t x ≡ eps
types_in-none empty x h = refl
types_in-none (leaf y t) x h = ap (λ b. if b then t else eps) ((or_parts (x == y) false h).0)
types_in-none (comma a b) x h =
    let e = or_parts (holds x (leaf_names a)) (holds x (leaf_names b)) (sym (holds-append x (leaf_names a) (leaf_names b)) ∙ h) in
    ap (λ k. if k then types_in a x else types_in b x) (e.0) ∙ types_in-none b x (e.1)
types_in-none (semi a b) x h =
    let e = or_parts (holds x (leaf_names a)) (holds x (leaf_names b)) (sym (holds-append x (leaf_names a) (leaf_names b)) ∙ h) in
    ap (λ k. if k then types_in a x else types_in b x) (e.0) ∙ types_in-none b x (e.1)

-- the type that is read by name
pub param_type-some : (t : BunchTree) (x : ℕ) (s : StreamType) → Some s ≡ param_type t x → types_in t x ≡ s
param_type-some t x s e = go (holds x (leaf_names t)) e
  where
    go : (b : Bool) → Some s ≡ (if b then Some (types_in t x) else None) → types_in t x ≡ s
    go true e = cc e
    go false e = absurd (cc e)

pub param_type-none : (t : BunchTree) (x : ℕ) → None ≡ param_type t x → types_in t x ≡ eps
param_type-none t x e = go (holds x (leaf_names t)) refl e
  where
    go : (b : Bool) → holds x (leaf_names t) ≡ b → None ≡ (if b then Some (types_in t x) else None) → types_in t x ≡ eps
    go true h e = absurd (cc e)
    go false h e = types_in-none t x h

-- a name that isn't the parameter's is passed over
pub argument_of-next : (names : List Name) (terms : List Node) (u i : ℕ) (d : Name) → i < length names → (u == (get_or names i d).0) ≡ false
    → argument_of (numbers_of (drop (suc i) names)) (terms_from (map term_of (drop (suc i) terms))) u ≡ argument_of (numbers_of (drop i names)) (terms_from (map term_of (drop i terms))) u
argument_of-next [] terms u i d h k = absurd (omega arith)
argument_of-next (n ∷ names) [] u zero d h k = argument_of-none (numbers_of names) u
argument_of-next (n ∷ names) [] u (suc i) d h k = argument_of-none (numbers_of (drop (suc i) names)) u ∙ sym (argument_of-none (numbers_of (drop i names)) u)
argument_of-next (n ∷ names) (e ∷ es) u zero d h k =
    sym (ap (λ b. if b then term_of e else argument_of (numbers_of names) (terms_from (map term_of es)) u) k)
argument_of-next (n ∷ names) (e ∷ es) u (suc i) d h k = argument_of-next names es u i d (omega arith) k

pub ruleset arguments = (argument_of-none, first_pair-nil, param_type-some, param_type-none)
