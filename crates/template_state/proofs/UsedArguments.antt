-- Frames that lose the arguments of parameters that aren't used.
use Rattle.std.proofs.Common.{◌≡◌, ◌∙◌, ℕ, Bool, true, false, not, ◌&&◌, ◌||◌, List, [], ◌∷◌, eqb, if◌then◌else◌, ap, refl, subst, sym}
use Rattle.std.proofs.lemmas.Bool.{eqb-true, not-true}
use Rattle.stream_type.specs.StreamType.{StreamType}
use Rattle.bunch.specs.Names.{holds}
use Rattle.bunch.proofs.Tests.{and_first}
use Rattle.core_term.proofs.Sides.{holds-head}
use Rattle.core_term.proofs.Without.{holds-tail}
use Rattle.delta_state.specs.StateTree.{StateTree, ArgumentTrees, frame_state, no_arguments, argument_before, argument_names, free_in_state}
use Rattle.state_rewriting.specs.Rewriting.{as_it_is, one_more, here, unused_argument, without_argument, SimplerBy}
use Rattle.state_rewriting.proofs.RewritingsInside.{by_then}
use Rattle.template_state.specs.Passing.{only_used}

-- the arguments less those of several parameters, one after the other
abbrev less : List ℕ → ArgumentTrees → ArgumentTrees
less [] args = args
less (u ∷ us) args = less us (without_argument u args)

less_is_simpler : {a : StateTree} (q : StreamType) (us : List ℕ) (args : ArgumentTrees) → ((u : ℕ) → holds u us ≡ true → holds u (free_in_state a) ≡ false) → SimplerBy q (frame_state args a) (frame_state (less us args) a)
less_is_simpler q [] args h = as_it_is
less_is_simpler q (u ∷ us) args h =
    by_then (one_more as_it_is (here (unused_argument u (h u (holds-head u us))))) (less_is_simpler q us (without_argument u args) (λ v m. h v (holds-tail v u us m)))

less_none : (us : List ℕ) → less us no_arguments ≡ no_arguments
less_none [] = refl
less_none (u ∷ us) = less_none us

less_before : (us : List ℕ) (x : ℕ) (t : StreamType) (s : StateTree) (args : ArgumentTrees) → less us (argument_before x t s args) ≡ (if holds x us then less us args else argument_before x t s (less us args))
less_before [] x t s args = refl
less_before (u ∷ us) x t s args = go (eqb x u) (less_before us x t s (without_argument u args))
  where
    go : (b : Bool) → less us (argument_before x t s (without_argument u args)) ≡ (if holds x us then less us (without_argument u args) else argument_before x t s (less us (without_argument u args)))
        → less us (if b then without_argument u args else argument_before x t s (without_argument u args)) ≡ (if (b || holds x us) then less us (without_argument u args) else argument_before x t s (less us (without_argument u args)))
    go true h = refl
    go false h = h

-- the names of a list that aren't in another one
abbrev unused_of : List ℕ → List ℕ → List ℕ
unused_of fs [] = []
unused_of fs (x ∷ xs) = if holds x fs then unused_of fs xs else x ∷ unused_of fs xs

holds_unused : (fs xs : List ℕ) (y : ℕ) → holds y (unused_of fs xs) ≡ (not (holds y fs) && holds y xs)
holds_unused fs [] y = none (not (holds y fs))
  where
    none : (b : Bool) → false ≡ (b && false)
    none true = refl
    none false = refl
holds_unused fs (x ∷ xs) y = go (holds x fs) refl (eqb y x) refl (holds_unused fs xs y)
  where
    go : (b : Bool) → holds x fs ≡ b → (c : Bool) → eqb y x ≡ c → holds y (unused_of fs xs) ≡ (not (holds y fs) && holds y xs) → holds y (if b then unused_of fs xs else x ∷ unused_of fs xs) ≡ (not (holds y fs) && (c || holds y xs))
    go true e true f h = h ∙ (ap (λ d. not d && holds y xs) (same true e f) ∙ sym (ap (λ d. not d && true) (same true e f)))
      where
        same : (d : Bool) → holds x fs ≡ d → eqb y x ≡ true → holds y fs ≡ d
        same d e f = ap (λ w. holds w fs) (eqb-true y x f) ∙ e
    go true e false f h = h
    go false e true f h = ap (λ d. d || holds y (unused_of fs xs)) f ∙ sym (ap (λ d. not d && true) (ap (λ w. holds w fs) (eqb-true y x f) ∙ e))
    go false e false f h = ap (λ d. d || holds y (unused_of fs xs)) f ∙ h

-- less these, the used ones are left
less_unused : (fs us : List ℕ) (args : ArgumentTrees) → ((x : ℕ) → holds x (argument_names args) ≡ true → holds x us ≡ not (holds x fs)) → less us args ≡ only_used fs args
less_unused fs us no_arguments h = less_none us
less_unused fs us (argument_before x t s args) h =
    less_before us x t s args ∙ (ap (λ b. if b then less us args else argument_before x t s (less us args)) (h x (holds-head x (argument_names args))) ∙ go (holds x fs) (less_unused fs us args (λ y m. h y (holds-tail y x (argument_names args) m))))
  where
    go : (b : Bool) → less us args ≡ only_used fs args → (if not b then less us args else argument_before x t s (less us args)) ≡ (if b then argument_before x t s (only_used fs args) else only_used fs args)
    go true k = ap (argument_before x t s) k
    go false k = k

pub used_is_simpler : (a : StateTree) (args : ArgumentTrees) (q : StreamType) → SimplerBy q (frame_state args a) (frame_state (only_used (free_in_state a) args) a)
used_is_simpler a args q =
    subst (λ others. SimplerBy q (frame_state args a) (frame_state others a)) (less_unused fs us args left) (less_is_simpler q us args gone)
  where
    fs : List ℕ
    fs = free_in_state a

    us : List ℕ
    us = unused_of fs (argument_names args)

    gone : (u : ℕ) → holds u us ≡ true → holds u fs ≡ false
    gone u m = not-true (holds u fs) (and_first (not (holds u fs)) (holds u (argument_names args)) (sym (holds_unused fs (argument_names args) u) ∙ m))

    left : (x : ℕ) → holds x (argument_names args) ≡ true → holds x us ≡ not (holds x fs)
    left x m = holds_unused fs (argument_names args) x ∙ (ap (λ d. not (holds x fs) && d) m ∙ and_true (not (holds x fs)))
      where
        and_true : (b : Bool) → (b && true) ≡ b
        and_true true = refl
        and_true false = refl
