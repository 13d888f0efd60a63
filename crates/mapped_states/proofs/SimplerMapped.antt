-- Rewritings of states that are mapped: what is free, what is null and what is passed on looks at terms and names alone.
use Rattle.std.proofs.Common.{◌≡◌, ◌∙◌, ℕ, Bool, true, false, ◌&&◌, ◌||◌, List, [], ◌∷◌, ◌++◌, eqb, if◌then◌else◌, ap, ap₂, refl, subst}
use Rattle.stream_type.specs.StreamType.{StreamType}
use Rattle.bunch.specs.Names.{holds}
use Rattle.core_term.specs.FreeNames.{free_names, without}
use Rattle.delta_state.specs.StateTree.{HeldName, LaterTree, StateTree, ArgumentTrees, sink, var_state, par_state, cat_state, let_state, let_par_state, let_cat_state, sum_state, star_state, wait_state, frame_state, no_arguments, argument_before, argument_at, free_in_state, free_in_arguments}
use Rattle.state_rewriting.specs.Rewriting.{Replaced, ReplacedArgument, here, in_left, in_right, in_first, in_bound, in_let, in_let_par, in_let_cat, in_arguments, in_body, at_first, at_other, as_it_is, one_more, IsAlias, alias_for, IsPair, pair_for, is_plain, are_plain, names_passed, at_most_once, stand_once, passed_on, composed, without_argument, Rewritten, finished, unused, unused_pair, unused_row, unused_argument, alias, pair, renamed, frames, SimplerBy, row, returned}
use Rattle.state_rewriting.specs.MarksAtOnce.{term_marks_at_once, marks_at_once}
use Rattle.mapped_states.specs.Mapped.{mapped, mapped_arguments}
use Rattle.mapped_states.specs.Laws.{KeepsTerms, SimplerMapped}
use Rattle.mapped_states.proofs.MappedForms.{argument_names_stay}

module _ (f : LaterTree → LaterTree) (g : List HeldName → List HeldName) (keeps : KeepsTerms f) where
  mutual
    -- the free names
    pub free_stays : (s : StateTree) → free_in_state (mapped f g s) ≡ free_in_state s
    free_stays (sink t) = refl
    free_stays (var_state x) = refl
    free_stays (par_state a b) = ap₂ ◌++◌ (free_stays a) (free_stays b)
    free_stays (cat_state a l) = ap₂ (λ xs e. xs ++ free_names e) (free_stays a) (keeps l)
    free_stays (let_state x s a b) = ap₂ (λ xs ys. xs ++ without x ys) (free_stays a) (free_stays b)
    free_stays (let_par_state x y z a) = ap (λ xs. z ∷ without x (without y xs)) (free_stays a)
    free_stays (let_cat_state x y z a) = ap (λ xs. z ∷ without x (without y xs)) (free_stays a)
    free_stays (sum_state z t held x l y m) = ap₂ (λ d e. z ∷ (without x (free_names d) ++ without y (free_names e))) (keeps l) (keeps m)
    free_stays (star_state z t held l y ys m) = ap₂ (λ d e. z ∷ (free_names d ++ without y (without ys (free_names e)))) (keeps l) (keeps m)
    free_stays (wait_state x t held l) = ap (λ e. x ∷ free_names e) (keeps l)
    free_stays (frame_state args s) = free_in_arguments_stays args

    pub free_in_arguments_stays : (args : ArgumentTrees) → free_in_arguments (mapped_arguments f g args) ≡ free_in_arguments args
    free_in_arguments_stays no_arguments = refl
    free_in_arguments_stays (argument_before x t s args) = ap₂ ◌++◌ (free_stays s) (free_in_arguments_stays args)

  -- a name that isn't used
  unused_stays : (x : ℕ) (s : StateTree) → holds x (free_in_state s) ≡ false → holds x (free_in_state (mapped f g s)) ≡ false
  unused_stays x s n = ap (holds x) (free_stays s) ∙ n

  -- what is a name or finished
  plain_stays : (s : StateTree) → is_plain (mapped f g s) ≡ is_plain s
  plain_stays (sink t) = refl
  plain_stays (var_state x) = refl
  plain_stays _ = refl

  all_plain_stays : (args : ArgumentTrees) → are_plain (mapped_arguments f g args) ≡ are_plain args
  all_plain_stays no_arguments = refl
  all_plain_stays (argument_before x t s args) = ap₂ ◌&&◌ (plain_stays s) (all_plain_stays args)

  -- the names that are passed on, and what may be passed on once alone
  passed_stay : (args : ArgumentTrees) → names_passed (mapped_arguments f g args) ≡ names_passed args
  passed_stay no_arguments = refl
  passed_stay (argument_before x t (var_state u) args) = ap (λ us. u ∷ us) (passed_stay args)
  passed_stay (argument_before x t s args) = passed_stay args

  once_stays : (args : ArgumentTrees) (us : List ℕ) → stand_once (mapped_arguments f g args) us ≡ stand_once args us
  once_stays no_arguments us = refl
  once_stays (argument_before x t s args) us = ap₂ (λ p o. (p || at_most_once x us) && o) (plain_stays s) (once_stays args (without x us))

  -- whether the mark between the parts of a sequence is given at once
  marks_stay : (s : StateTree) → marks_at_once (mapped f g s) ≡ marks_at_once s
  marks_stay (let_state x t a b) = marks_stay b
  marks_stay (let_par_state x y z a) = marks_stay a
  marks_stay (let_cat_state x y z a) = marks_stay a
  marks_stay (frame_state args a) = marks_stay a
  marks_stay (sink t) = refl
  marks_stay (var_state x) = refl
  marks_stay (par_state a b) = refl
  marks_stay (cat_state a l) = refl
  marks_stay (sum_state z t held x l y m) = ap₂ (λ d e. term_marks_at_once d && term_marks_at_once e) (keeps l) (keeps m)
  marks_stay (star_state z t held l y ys m) = ap₂ (λ d e. term_marks_at_once d && term_marks_at_once e) (keeps l) (keeps m)
  marks_stay (wait_state x t held l) = ap term_marks_at_once (keeps l)

  -- the argument of a parameter
  argument_goes : (args : ArgumentTrees) (u : ℕ) → argument_at (mapped_arguments f g args) u ≡ mapped f g (argument_at args u)
  argument_goes no_arguments u = refl
  argument_goes (argument_before x t s args) u = go (eqb u x) (argument_goes args u)
    where
      go : (b : Bool) → argument_at (mapped_arguments f g args) u ≡ mapped f g (argument_at args u)
          → (if b then mapped f g s else argument_at (mapped_arguments f g args) u) ≡ mapped f g (if b then s else argument_at args u)
      go true e = refl
      go false e = e

  -- an argument of a call inside a body, and all of them
  passed_on_goes : (args : ArgumentTrees) (s : StateTree) → passed_on (mapped_arguments f g args) (mapped f g s) ≡ mapped f g (passed_on args s)
  passed_on_goes args (var_state u) = argument_goes args u
  passed_on_goes args _ = refl

  composed_goes : (args inner : ArgumentTrees) → composed (mapped_arguments f g args) (mapped_arguments f g inner) ≡ mapped_arguments f g (composed args inner)
  composed_goes args no_arguments = refl
  composed_goes args (argument_before x t s inner) = ap₂ (argument_before x t) (passed_on_goes args s) (composed_goes args inner)

  -- the arguments less those of a parameter
  without_argument_goes : (u : ℕ) (args : ArgumentTrees) → without_argument u (mapped_arguments f g args) ≡ mapped_arguments f g (without_argument u args)
  without_argument_goes u no_arguments = refl
  without_argument_goes u (argument_before x t s args) = go (eqb x u) (without_argument_goes u args)
    where
      go : (b : Bool) → without_argument u (mapped_arguments f g args) ≡ mapped_arguments f g (without_argument u args)
          → (if b then without_argument u (mapped_arguments f g args) else argument_before x t (mapped f g s) (without_argument u (mapped_arguments f g args)))
          ≡ mapped_arguments f g (if b then without_argument u args else argument_before x t s (without_argument u args))
      go true e = e
      go false e = ap (argument_before x t (mapped f g s)) e

  -- where R holds of mapped states too, so does its replacement of a part
  module _ (names : List ℕ) (R : StreamType → StateTree → StateTree → Type 0) (R_goes : (r : StreamType) (a b : StateTree) → R r a b → R r (mapped f g a) (mapped f g b)) where
    mutual
      pub replaced_goes : {r : StreamType} {a b : StateTree} → Replaced names R r a b → Replaced names R r (mapped f g a) (mapped f g b)
      replaced_goes (here {r = r} {a = a} {b = b} h) = here (R_goes r a b h)
      replaced_goes (in_left h) = in_left (replaced_goes h)
      replaced_goes (in_right h) = in_right (replaced_goes h)
      replaced_goes (in_first h) = in_first (replaced_goes h)
      replaced_goes (in_bound h) = in_bound (replaced_goes h)
      replaced_goes (in_let n h) = in_let n (replaced_goes h)
      replaced_goes (in_let_par n m o h) = in_let_par n m o (replaced_goes h)
      replaced_goes (in_let_cat n m o h) = in_let_cat n m o (replaced_goes h)
      replaced_goes (in_arguments h) = in_arguments (replaced_argument_goes h)
      replaced_goes (in_body n h) = in_body n (replaced_goes h)

      pub replaced_argument_goes : {args others : ArgumentTrees} → ReplacedArgument names R args others → ReplacedArgument names R (mapped_arguments f g args) (mapped_arguments f g others)
      replaced_argument_goes (at_first h) = at_first (replaced_goes h)
      replaced_argument_goes (at_other h) = at_other (replaced_argument_goes h)

  -- a name in the place of another one, or of a pair of names, has nothing to map
  alias_goes : (y z : ℕ) (r : StreamType) (a b : StateTree) → IsAlias y z r a b → IsAlias y z r (mapped f g a) (mapped f g b)
  alias_goes y z r a b alias_for = alias_for

  pair_goes : (x y z : ℕ) (r : StreamType) (a b : StateTree) → IsPair x y z r a b → IsPair x y z r (mapped f g a) (mapped f g b)
  pair_goes x y z r a b pair_for = pair_for

  -- each rewriting
  pub rewriting_goes : (r : StreamType) (a b : StateTree) → Rewritten r a b → Rewritten r (mapped f g a) (mapped f g b)
  rewriting_goes r a b (finished n) = finished n
  rewriting_goes r a b (unused {x = x} {b = q} n) = unused (unused_stays x q n)
  rewriting_goes r a b (unused_pair {x = x} {y = y} {a = q} n m) = unused_pair (unused_stays x q n) (unused_stays y q m)
  rewriting_goes r a b (unused_row {x = x} {y = y} {a = q} n m) = unused_row (unused_stays x q n) (unused_stays y q m)
  rewriting_goes r a b (unused_argument {args = args} {a = q} u n) =
      subst (λ others. Rewritten r (frame_state (mapped_arguments f g args) (mapped f g q)) (frame_state others (mapped f g q))) (without_argument_goes u args) (unused_argument u (unused_stays u q n))
  rewriting_goes r a b (alias {y = y} {z = z} h) = alias (replaced_goes (y ∷ (z ∷ [])) (IsAlias y z) (alias_goes y z) h)
  rewriting_goes r a b (pair {x = x} {y = y} {z = z} n m h) = pair n m (replaced_goes (x ∷ (y ∷ (z ∷ []))) (IsPair x y z) (pair_goes x y z) h)
  rewriting_goes r a b renamed = renamed
  rewriting_goes r a b (row {l = l} e n m) = row (keeps l ∙ e) n (marks_stay b ∙ m)
  rewriting_goes r a b (frames {args = args} {inner = inner} {a = q} p o) =
      subst (λ others. Rewritten r (frame_state (mapped_arguments f g args) (frame_state (mapped_arguments f g inner) (mapped f g q))) (frame_state others (mapped f g q))) (composed_goes args inner)
      (frames (all_plain_stays inner ∙ p) (ap (stand_once (mapped_arguments f g args)) (passed_stay inner) ∙ (once_stays args (names_passed inner) ∙ o)))
  rewriting_goes r a b (returned {args = args} {u = u} h) =
      subst (λ q. Rewritten r (frame_state (mapped_arguments f g args) (var_state u)) q) (argument_goes args u) (returned (ap (holds u) (argument_names_stay f g args) ∙ h))

  -- any number of them
  simpler_goes : {r : StreamType} {a b : StateTree} → SimplerBy r a b → SimplerBy r (mapped f g a) (mapped f g b)
  simpler_goes as_it_is = as_it_is
  simpler_goes (one_more k i) = one_more (simpler_goes k) (replaced_goes [] Rewritten rewriting_goes i)

pub simpler_mapped : SimplerMapped
simpler_mapped f g keeps r a b h = simpler_goes f g keeps h
