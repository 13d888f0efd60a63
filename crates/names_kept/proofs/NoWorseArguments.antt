-- Arguments that are left out, and the arguments of two calls that become one: an argument that may bind names is passed
-- on once at most, so no name is bound more often.
use Rattle.std.proofs.Common.{◌≡◌, ◌∙◌, ℕ, ◌+◌, ◌≤◌, Bool, true, false, true≢false, not, ◌&&◌, ◌||◌, ◌⊎◌, inl, inr, ⊎_elim, List, [], ◌∷◌, eqb, if◌then◌else◌, ap, refl, sym, arith}
use Rattle.std.proofs.lemmas.Bool.{eqb-true}
use Rattle.bunch.specs.Names.{holds}
use Rattle.bunch.proofs.Tests.{and_first, and_second, or_split}
use Rattle.core_term.specs.FreeNames.{without}
use Rattle.core_term.proofs.Sides.{eqb-same}
use Rattle.delta_state.specs.StateTree.{StateTree, ArgumentTrees, sink, var_state, no_arguments, argument_before, argument_names, argument_at}
use Rattle.kept_state.specs.KeptNames.{bound_in_state, bound_in_arguments}
use Rattle.state_rewriting.specs.Rewriting.{is_plain, are_plain, names_passed, at_most_once, stand_once, passed_on, composed, without_argument}
use Rattle.names_kept.proofs.NameCounts.{times, times_both, Fewer, fewer_same, fewer_next, fewer_both, fewer_behind, fewer_than_more, fewer_left, fewer_right}
use Rattle.names_kept.proofs.NoWorseStates.{IsWell, AreWell}

-- without those of a parameter there are no more parameters,
pub fewer_names : (u : ℕ) (args : ArgumentTrees) → Fewer (argument_names (without_argument u args)) (argument_names args)
fewer_names u no_arguments = fewer_same []
fewer_names u (argument_before x t s args) = go (eqb x u) (fewer_names u args)
  where
    go : (b : Bool) → Fewer (argument_names (without_argument u args)) (argument_names args) → Fewer (argument_names (if b then without_argument u args else argument_before x t s (without_argument u args))) (x ∷ argument_names args)
    go true f = fewer_than_more x f
    go false f = fewer_behind x f

-- no more names are bound,
pub fewer_bound : (u : ℕ) (args : ArgumentTrees) → Fewer (bound_in_arguments (without_argument u args)) (bound_in_arguments args)
fewer_bound u no_arguments = fewer_same []
fewer_bound u (argument_before x t s args) = go (eqb x u) (fewer_bound u args)
  where
    go : (b : Bool) → Fewer (bound_in_arguments (without_argument u args)) (bound_in_arguments args) → Fewer (bound_in_arguments (if b then without_argument u args else argument_before x t s (without_argument u args))) (bound_in_arguments (argument_before x t s args))
    go true f = fewer_next f (fewer_right (bound_in_state s) (bound_in_arguments args))
    go false f = fewer_both (bound_in_state s) (bound_in_state s) (bound_in_arguments (without_argument u args)) (bound_in_arguments args) (fewer_same _) f

-- and the rest is well made
pub fewer_well : (u : ℕ) (args : ArgumentTrees) → AreWell args → AreWell (without_argument u args)
fewer_well u no_arguments w = w
fewer_well u (argument_before x t s args) w = go (eqb x u) (fewer_well u args (record { bodies = w.bodies.1; pasts = w.pasts.1; waits = w.waits.1 }))
  where
    go : (b : Bool) → AreWell (without_argument u args) → AreWell (if b then without_argument u args else argument_before x t s (without_argument u args))
    go true v = v
    go false v = record { bodies = (w.bodies.0, v.bodies); pasts = (w.pasts.0, v.pasts); waits = (w.waits.0, v.waits) }

-- what stands as the argument of a parameter is well made,
pub well_at : (args : ArgumentTrees) (u : ℕ) → AreWell args → IsWell (argument_at args u)
well_at no_arguments u w = record { bodies = tt; pasts = tt; waits = tt }
well_at (argument_before x t s args) u w = go (eqb u x) (well_at args u (record { bodies = w.bodies.1; pasts = w.pasts.1; waits = w.waits.1 }))
  where
    go : (b : Bool) → IsWell (argument_at args u) → IsWell (if b then s else argument_at args u)
    go true v = record { bodies = w.bodies.0; pasts = w.pasts.0; waits = w.waits.0 }
    go false v = v

-- and binds no name more often than all arguments do
pub fewer_at : (args : ArgumentTrees) (u : ℕ) → Fewer (bound_in_state (argument_at args u)) (bound_in_arguments args)
fewer_at no_arguments u = fewer_same []
fewer_at (argument_before x t s args) u = go (eqb u x) (fewer_at args u)
  where
    go : (b : Bool) → Fewer (bound_in_state (argument_at args u)) (bound_in_arguments args) → Fewer (bound_in_state (if b then s else argument_at args u)) (bound_in_arguments (argument_before x t s args))
    go true f = fewer_left (bound_in_state s) (bound_in_arguments args)
    go false f = fewer_next f (fewer_right (bound_in_state s) (bound_in_arguments args))

-- so what is passed on is well made,
passed_well : (args : ArgumentTrees) (s : StateTree) → is_plain s ≡ true → AreWell args → IsWell (passed_on args s)
passed_well args (sink t) p w = record { bodies = tt; pasts = tt; waits = tt }
passed_well args (var_state u) p w = well_at args u w
passed_well args _ p w = absurd (true≢false (sym p))

-- and composed arguments are
pub composed_well : (args inner : ArgumentTrees) → are_plain inner ≡ true → AreWell args → AreWell (composed args inner)
composed_well args no_arguments p w = record { bodies = tt; pasts = tt; waits = tt }
composed_well args (argument_before x t s inner) p w =
    let v = passed_well args s (and_first (is_plain s) (are_plain inner) p) w in
    let rest = composed_well args inner (and_second (is_plain s) (are_plain inner) p) w in
    record { bodies = (v.bodies, rest.bodies); pasts = (v.pasts, rest.pasts); waits = (v.waits, rest.waits) }

-- the sum over a list of names
abbrev sum_over : (ℕ → ℕ) → List ℕ → ℕ
sum_over g [] = 0
sum_over g (u ∷ us) = g u + sum_over g us

module _ (x : ℕ) (k : ℕ) (g : ℕ → ℕ) where
  -- x counts k, the others count their own
  abbrev with_one : ℕ → ℕ
  with_one u = if eqb u x then k else g u

  -- where x isn't in the list, it counts nothing,
  none_counted : (us : List ℕ) → holds x us ≡ false → sum_over with_one us ≤ sum_over g (without x us)
  none_counted [] n = omega arith
  none_counted (u ∷ us) n = go (eqb u x) refl (none_counted us)
    where
      rest : (c : Bool) → (c || holds x us) ≡ false → holds x us ≡ false
      rest true m = absurd (true≢false m)
      rest false m = m

      go : (b : Bool) → eqb u x ≡ b → (holds x us ≡ false → sum_over with_one us ≤ sum_over g (without x us)) → (if b then k else g u) + sum_over with_one us ≤ sum_over g (if b then without x us else u ∷ without x us)
      go true e f = absurd (true≢false (sym (ap (λ c. c || holds x us) (ap (λ w. eqb x w) (eqb-true u x e) ∙ eqb-same x)) ∙ n))
      go false e f = let less = f (rest (eqb x u) n) in omega (arith, less)

  -- and so it does where it counts 0
  nothing_counted : (us : List ℕ) → k ≡ 0 → sum_over with_one us ≤ sum_over g (without x us)
  nothing_counted [] n = omega arith
  nothing_counted (u ∷ us) n = go (eqb u x) (nothing_counted us n)
    where
      go : (b : Bool) → sum_over with_one us ≤ sum_over g (without x us) → (if b then k else g u) + sum_over with_one us ≤ sum_over g (if b then without x us else u ∷ without x us)
      go true f = omega (arith, n, f)
      go false f = omega (arith, f)

  -- where x is in the list once at most, it counts k once at most
  once_counted : (us : List ℕ) → at_most_once x us ≡ true → sum_over with_one us ≤ k + sum_over g (without x us)
  once_counted [] m = omega arith
  once_counted (u ∷ us) m = go (eqb u x) m (once_counted us)
    where
      is_not : (b : Bool) → not b ≡ true → b ≡ false
      is_not false h = refl
      is_not true h = absurd (true≢false (sym h))

      go : (b : Bool) → (if b then not (holds x us) else at_most_once x us) ≡ true → (at_most_once x us ≡ true → sum_over with_one us ≤ k + sum_over g (without x us))
          → (if b then k else g u) + sum_over with_one us ≤ k + sum_over g (if b then without x us else u ∷ without x us)
      go true n f = let none = none_counted us (is_not (holds x us) n) in omega (arith, none)
      go false n f = let less = f n in omega (arith, less)

  -- so in both cases
  one_counted : (us : List ℕ) → (k ≡ 0) ⊎ (at_most_once x us ≡ true) → sum_over with_one us ≤ k + sum_over g (without x us)
  one_counted us (inl e) = let none = nothing_counted us e in omega (arith, none)
  one_counted us (inr m) = once_counted us m

module _ (y : ℕ) where
  -- how often the argument of a parameter binds the name y
  abbrev times_at : ArgumentTrees → ℕ → ℕ
  times_at args u = times y (bound_in_state (argument_at args u))

  -- a name and what is finished bind nothing
  plain_binds_nothing : (s : StateTree) → is_plain s ≡ true → times y (bound_in_state s) ≡ 0
  plain_binds_nothing (sink t) p = refl
  plain_binds_nothing (var_state x) p = refl
  plain_binds_nothing _ p = absurd (true≢false (sym p))

  -- composed arguments bind what is passed on,
  composed_times : (args inner : ArgumentTrees) → are_plain inner ≡ true → times y (bound_in_arguments (composed args inner)) ≤ sum_over (times_at args) (names_passed inner)
  composed_times args no_arguments p = omega arith
  composed_times args (argument_before x t (sink q) inner) p = composed_times args inner p
  composed_times args (argument_before x t (var_state u) inner) p =
      let both = times_both y (bound_in_state (argument_at args u)) (bound_in_arguments (composed args inner)) in
      let rest = composed_times args inner p in
      omega (arith, both, rest)
  composed_times args (argument_before x t _ inner) p = absurd (true≢false (sym p))

  -- of no arguments nothing is passed on
  none_passed : (us : List ℕ) → sum_over (times_at no_arguments) us ≡ 0
  none_passed [] = refl
  none_passed (u ∷ us) = let rest = none_passed us in omega (arith, rest)

  -- and what is passed on binds a name no more often than all arguments do, where each that may bind something is
  -- passed on once at most
  shares : (args : ArgumentTrees) (us : List ℕ) → stand_once args us ≡ true → sum_over (times_at args) us ≤ times y (bound_in_arguments args)
  shares no_arguments us o = let none = none_passed us in omega (arith, none)
  shares (argument_before x t s args) us o =
      let split = or_split (is_plain s) (at_most_once x us) (and_first (is_plain s || at_most_once x us) (stand_once args (without x us)) o) in
      let one = one_counted x (times y (bound_in_state s)) (times_at args) us (⊎_elim (λ p. inl (plain_binds_nothing s p)) (λ m. inr m) split) in
      let rest = shares args (without x us) (and_second (is_plain s || at_most_once x us) (stand_once args (without x us)) o) in
      let named = by_names us in
      let both = times_both y (bound_in_state s) (bound_in_arguments args) in
      omega (arith, one, rest, named, both)
    where
      at : (u : ℕ) (b : Bool) → times y (bound_in_state (if b then s else argument_at args u)) ≡ (if b then times y (bound_in_state s) else times_at args u)
      at u true = refl
      at u false = refl

      by_names : (us : List ℕ) → sum_over (times_at (argument_before x t s args)) us ≡ sum_over (with_one x (times y (bound_in_state s)) (times_at args)) us
      by_names [] = refl
      by_names (u ∷ us) = let first = at u (eqb u x) in let rest = by_names us in omega (arith, first, rest)

-- so the arguments of the one call bind no name more often than those of the outer one
pub composed_fewer : (args inner : ArgumentTrees) → are_plain inner ≡ true → stand_once args (names_passed inner) ≡ true → Fewer (bound_in_arguments (composed args inner)) (bound_in_arguments args)
composed_fewer args inner p o = record { at = λ y. let passed = composed_times y args inner p in let shared = shares y args (names_passed inner) o in omega (arith, passed, shared) }
