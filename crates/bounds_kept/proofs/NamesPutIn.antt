-- Where a name is put in for the one that is bound to it, or for the pair of its parts, the state can hold no more.
use Rattle.std.proofs.Common.{◌≡◌, ◌≢◌, ℕ, Bool, true, false, List, [], ◌∷◌, eqb, if◌then◌else◌, ap, refl}
use Rattle.std.specs.Prelude.{Option, Some, is_some}
use Rattle.stream_type.specs.StreamType.{StreamType}
use Rattle.bunch.specs.Names.{put}
use Rattle.bunch.specs.Facts.{place_let}
use Rattle.core_term.specs.CoreTerm.{CoreBody}
use Rattle.core_term.specs.Parts.{par_left, par_right}
use Rattle.core_term.specs.Typing.{Context, type_at, with_name, with_parts}
use Rattle.core_term.proofs.Sides.{holds-head}
use Rattle.core_term.proofs.Without.{holds-tail}
use Rattle.delta_state.specs.StateTree.{StateTree, var_state, let_state, let_par_state}
use Rattle.delta_state.specs.StateTyping.{HasStateType}
use Rattle.delta_state.specs.Settled.{is_settled}
use Rattle.state_rewriting.specs.Rewriting.{Replaced, IsAlias, IsPair, alias_for, pair_for}
use Rattle.state_rewriting.proofs.NamesServing.{OneFor, one_named, one_serves, one_served}
use Rattle.state_rewriting.proofs.FittingParts.{Serves}
use Rattle.state_bounds.specs.Bounds.{Bound, both, ◌⊑◌}
use Rattle.state_bounds.specs.StateBounds.{state_bound}
use Rattle.state_bounds.proofs.BoundOrder.{at_most_same, both_at_most, nothing_at_most}
use Rattle.state_rewriting.proofs.NamesThatServe.{AllServe, alias_serves, pair_serves}
use Rattle.bounds_kept.proofs.LowerParts.{Lowers, LowersLocally, lowers}

-- a name that is there stays, whatever is put at another one
there_put : {A : Type 0} (x z : ℕ) (s : A) (f : ℕ → Option A) → is_some (f z) ≡ true → is_some (put x (Some s) f z) ≡ true
there_put x z s f e = go (eqb z x)
  where
    go : (b : Bool) → is_some (if b then Some s else f z) ≡ true
    go true = refl
    go false = e

module _ (funs : List CoreBody) (counts : ℕ → Bool) (numbers : ℕ → Bound) where
  -- a name in the place of another one holds nothing
  alias_local : (y z : ℕ) → LowersLocally funs counts numbers (OneFor y z) (y ∷ z ∷ []) (IsAlias y z)
  alias_local y z = record {
    named = one_named y z (y ∷ z ∷ []) (holds-head y (z ∷ [])) (holds-tail z y (z ∷ []) (holds-head z []));
    local = there;
  }
    where
      there : (r : StreamType) (a b : StateTree) → IsAlias y z r a b → (c : Context) → AllServe (OneFor y z) c → HasStateType funs counts c a r → is_settled a r ≡ true → Lowers funs counts numbers (OneFor y z) c a b
      there r a b alias_for c k t i = record { free = one_served y z []; bound = nothing_at_most (Some 0) }

  -- so the let with z put in can hold no more
  pub alias_lowers : (y z : ℕ) (c : Context) (r s : StreamType) (a b : StateTree) → Replaced (y ∷ z ∷ []) (IsAlias y z) r a b → HasStateType funs counts c (let_state y s (var_state z) a) r → is_settled (let_state y s (var_state z) a) r ≡ true
      → state_bound funs numbers (let_state y s (var_state z) b) c ⊑ state_bound funs numbers (let_state y s (var_state z) a) c
  alias_lowers y z c r s a b h t i =
      let inside = with_name y s (place_let y (z ∷ []) true c.order) c in
      let serves : Serves inside y z = record { there = λ m. there_put y z s c.types (ap is_some t.0); order = alias_serves y z c.order } in
      both_at_most (Some 0) _ (Some 0) _ (at_most_same (Some 0)) (lowers (alias_local y z) h inside (one_serves y z inside serves) t.1 i).bound

  -- nor does a name in the place of a pair
  pair_local : (x y z : ℕ) → LowersLocally funs counts numbers (OneFor x z) (x ∷ y ∷ z ∷ []) (IsPair x y z)
  pair_local x y z = record {
    named = one_named x z (x ∷ y ∷ z ∷ []) (holds-head x (y ∷ z ∷ [])) (holds-tail z x (y ∷ z ∷ []) (holds-tail z y (z ∷ []) (holds-head z [])));
    local = there;
  }
    where
      there : (r : StreamType) (a b : StateTree) → IsPair x y z r a b → (c : Context) → AllServe (OneFor x z) c → HasStateType funs counts c a r → is_settled a r ≡ true → Lowers funs counts numbers (OneFor x z) c a b
      there r a b pair_for c k t i = record { free = one_served x z (y ∷ []); bound = nothing_at_most (both (Some 0) (Some 0)) }

  -- so the destructuring with z put in can hold no more
  pub pair_lowers : (x y z : ℕ) (c : Context) (r : StreamType) (a b : StateTree) → x ≢ y → y ≢ z → Replaced (x ∷ y ∷ z ∷ []) (IsPair x y z) r a b → HasStateType funs counts c (let_par_state x y z a) r → is_settled (let_par_state x y z a) r ≡ true
      → state_bound funs numbers (let_par_state x y z b) c ⊑ state_bound funs numbers (let_par_state x y z a) c
  pair_lowers x y z c r a b n m h t i =
      let s = par_left (type_at c z) in
      let q = par_right (type_at c z) in
      let inside = with_parts x s y q z c in
      let serves : Serves inside x z = record { there = λ k. there_put y z q (put x (Some s) c.types) (there_put x z s c.types (ap is_some t.1)); order = pair_serves x y z c.order n m t.0 } in
      (lowers (pair_local x y z) h inside (one_serves x z inside serves) t.2 i).bound
