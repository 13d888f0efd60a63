-- The first state of a kept state that isn't typed, from what is found of its states in turn.
use Rattle.std.proofs.Common.{◌≡◌, ℕ, zero, suc, ◌+◌, ◌<◌, List, [], ◌∷◌, subst, arith}
use Rattle.std.specs.Prelude.{Option, Some, None, slice_get, IsSomeAnd, Ok, Err}
use Rattle.core_term.specs.CoreTerm.{CoreBody, CoreProgram}
use Rattle.delta_state.specs.Stands.{depth_after}
use Rattle.kept_state.specs.KeptTree.{KeptTree}
use Rattle.kept_state.specs.KeptTyping.{IsPlaced, IsTypedKept}
use Rattle.kept_rules.specs.InTurn.{StateAt, states_kept}
use Rattle.kept_rules.specs.StateRules.{IsGood, AreGood, IsGoodAt}
use Rattle.kept_rules.specs.FirstUntyped.{IsFirstUntyped}
use Rattle.kept_rules.proofs.GoodStates.{typed_is_good}
use Rattle.kept_check.specs.declared.stop.Stop.TheVariants.{At}
use Rattle.kept_check.specs.Walk.{IsFirstBad, FindsBad}

module _ (funs : List CoreBody) (depth : ℕ) where
  good_at : (js : List StateAt) (n : ℕ) (j : StateAt) → AreGood funs depth js → slice_get js n ≡ Some j → IsGood funs depth j
  good_at [] n j g e = absurd (cc e)
  good_at (k ∷ js) zero j g e = subst (IsGood funs depth) (cc e) g.0
  good_at (k ∷ js) (suc n) j g e = good_at js n j g.1 e

  good_until : (js : List StateAt) (i m : ℕ) (j : StateAt) → IsFirstBad funs depth js i → m < i → slice_get js m ≡ Some j → IsGood funs depth j
  good_until [] i m j h l e = absurd h
  good_until (k ∷ js) zero m j h l e = absurd (omega (arith, l))
  good_until (k ∷ js) (suc i) zero j h l e = subst (IsGood funs depth) (cc e) h.0
  good_until (k ∷ js) (suc i) (suc m) j h l e = good_until js i m j h.1 (omega (arith, l)) e

  bad_at : (js : List StateAt) (i : ℕ) → IsFirstBad funs depth js i → IsSomeAnd (slice_get js i) (λ j. IsGood funs depth j → ⊥)
  bad_at [] i h = absurd h
  bad_at (k ∷ js) zero h = h
  bad_at (k ∷ js) (suc i) h = bad_at js i h.1

-- where nothing is found it is typed
pub typed_where : (c : CoreProgram) (k : KeptTree) (n next : ℕ) → IsPlaced c k → FindsBad c.funs (depth_after k.events) n (states_kept c k) (Ok next) → IsTypedKept c k
typed_where c k n next p h =
    (typed_is_good c k).1 (λ m j e. record { placed = λ z. p; good = good_at c.funs (depth_after k.events) (states_kept c k) m j h.0 e })

-- else what is found is the first that isn't
pub first_where : (c : CoreProgram) (k : KeptTree) (m : ℕ) → IsPlaced c k → FindsBad c.funs (depth_after k.events) 0 (states_kept c k) (Err (At m)) → IsFirstUntyped c k m
first_where c k m p h =
    let i = h.0 in
    let at : m ≡ 0 + i = h.1 in
    let same : i ≡ m = omega (arith, at) in
    subst (IsFirstUntyped c k) same (record {
      before = λ n j l e. record { placed = λ z. p; good = good_until c.funs (depth_after k.events) (states_kept c k) i n j h.2 l e };
      fails = fails i (slice_get (states_kept c k) i) (bad_at c.funs (depth_after k.events) (states_kept c k) i h.2);
    })
  where
    fails : (i : ℕ) (o : Option StateAt) → IsSomeAnd o (λ j. IsGood c.funs (depth_after k.events) j → ⊥) → IsSomeAnd o (λ j. IsGoodAt c k i j → ⊥)
    fails i None f = f
    fails i (Some j) f = λ g. f g.good
