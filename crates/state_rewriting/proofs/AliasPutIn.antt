-- The rewriting that puts in, for a name that is bound to another one, that one: the type is kept, and the runs
-- are lighter.
use Rattle.std.proofs.Common.{◌≡◌, ◌∙◌, ℕ, Bool, true, false, List, [], ◌∷◌, eqb, if◌then◌else◌, ap, refl, sym, arith}
use Rattle.std.specs.Prelude.{Some, is_some}
use Rattle.std.specs.List.{All}
use Rattle.stream_type.specs.StreamType.{StreamType}
use Rattle.bunch.specs.Names.{put, holds}
use Rattle.bunch.specs.Facts.{Facts, place_let, place_like}
use Rattle.core_term.specs.CoreTerm.{CoreBody}
use Rattle.core_term.specs.FreeNames.{without}
use Rattle.core_term.specs.Environment.{Environment, NameTypes}
use Rattle.core_term.specs.Inert.{is_inert_fun}
use Rattle.core_term.specs.Run.{quiet}
use Rattle.core_term.specs.Typing.{Context, IsTypedBody, with_name, with_name_like}
use Rattle.core_term.proofs.Sides.{holds-head, put-same}
use Rattle.core_term.proofs.Without.{holds-tail, holds-without, holds-kept, differs-kept}
use Rattle.core_term.proofs.Retyping.{Among}
use Rattle.core_term.proofs.TypedTerms.{Extends, extends_name}
use Rattle.core_term.proofs.GrowingRuns.{Streams, Continues, streams_put, continues_put}
use Rattle.delta_state.specs.StateTree.{StateTree, var_state, let_state, free_in_state}
use Rattle.delta_state.specs.StateTyping.{HasStateType, no_pasts}
use Rattle.delta_state.specs.Settled.{is_settled}
use Rattle.delta_state.proofs.GrowingStates.{state_run_grows}
use Rattle.state_rewriting.specs.Rewriting.{Replaced, IsAlias, alias_for}
use Rattle.state_rewriting.proofs.OtherNames.{at_other_name}
use Rattle.state_rewriting.proofs.NamesServing.{Beside, beside_both, serves_let, serves_like, serves_fact, OneFor, one_named, one_serves, one_served, one_other, behind_head}
use Rattle.state_rewriting.proofs.NamesThatServe.{alias_serves}
use Rattle.state_rewriting.proofs.FittingParts.{ServesFor, Served, served_fewer, Fits, FitsLocally, fits}
use Rattle.state_rewriting.proofs.LighterParts.{LighterState, LightensLocally, lightens, lighter_let}
use Rattle.state_rewriting.proofs.BindingsLeftOut.{NoOther}

-- y has the type of z, and z serves for it
record KnownAlias (y z : ℕ) (c : Context) : Type 0 where
  pub types : c.types y ≡ c.types z
  pub order : ServesFor y z c.order

-- the alias is in the list of both names
first_of : (y z : ℕ) → holds y (y ∷ z ∷ []) ≡ true
first_of y z = holds-head y (z ∷ [])

-- and so is the other
second_of : (y z : ℕ) → holds z (y ∷ z ∷ []) ≡ true
second_of y z = holds-tail z y (z ∷ []) (holds-head z [])

module _ (y z : ℕ) where
  -- a name that is neither
  other_than : (x : ℕ) → holds x (y ∷ z ∷ []) ≡ false → Beside x y z
  other_than x n = beside_both x y z (y ∷ z ∷ []) (first_of y z) (second_of y z) n

  -- what is known of an alias still is under another name, however that is placed
  alias_name : (c : Context) (x : ℕ) (s : StreamType) (O : Facts) → KnownAlias y z c → holds x (y ∷ z ∷ []) ≡ false → ServesFor y z O → KnownAlias y z (with_name x s O c)
  alias_name c x s O k n o =
      let i = other_than x n in
      record { types = at_other_name x y (Some s) c.types i.first ∙ (k.types ∙ sym (at_other_name x z (Some s) c.types i.second)); order = o }

  -- also where that is placed like a third one
  alias_like : (c : Context) (x u : ℕ) (s : StreamType) → KnownAlias y z c → holds x (y ∷ z ∷ []) ≡ false → holds u (y ∷ z ∷ []) ≡ false → KnownAlias y z (with_name_like x s u c)
  alias_like c x u s k n i = alias_name c x s (place_like x u c.order) k n (serves_like y z x u c.order (other_than x n) (other_than u i) k.order)

  -- it is known where y was just bound to z
  alias_known : (c : Context) (s : StreamType) → c.types z ≡ Some s → KnownAlias y z (with_name y s (place_let y (z ∷ []) true c.order) c)
  alias_known c s t = record { types = put-same y (Some s) c.types ∙ sym (types (eqb z y)); order = alias_serves y z c.order }
    where
      types : (b : Bool) → (if b then Some s else c.types z) ≡ Some s
      types true = refl
      types false = t

  -- the let has no new free names
  alias_free : (xs ys : List ℕ) → Served (OneFor y z) xs ys → Among (z ∷ without y ys) (z ∷ without y xs)
  alias_free xs ys h = behind_head z (without y xs) (without y ys) (λ u e m. holds-without u y xs (differs-kept u y ys m) (one_other y z xs ys h u e (holds-kept u y ys m)))

module _ (funs : List CoreBody) (counts : ℕ → Bool) (y z : ℕ) where
  -- so z fits in the place of y
  alias_replaces : FitsLocally funs counts (y ∷ z ∷ []) (IsAlias y z) (OneFor y z) (KnownAlias y z)
  alias_replaces = record {
    named = one_named y z (y ∷ z ∷ []) (first_of y z) (second_of y z);
    serves = λ c k. one_serves y z c (record { there = λ h. sym (ap is_some k.types) ∙ h; order = k.order });
    known_let = λ c x s us k n. alias_name y z c x s (place_let x us true c.order) k n (serves_let y z x us c.order (other_than y z x n) k.order);
    known_parts = λ c p q u s t k np nq nu. alias_like y z (with_name_like p s u c) q u t (alias_like y z c p u s k np nu) nq nu;
    known_fact = λ c p q k np nq. record { types = k.types; order = serves_fact y z p q c.order (other_than y z p np) (other_than y z q nq) k.order };
    known_body = λ c args e k. absurd (let none : ⊥ = cc e in none);
    local = fits_there;
  }
    where
      fits_there : (r : StreamType) (a b : StateTree) → IsAlias y z r a b → (c : Context) → KnownAlias y z c → HasStateType funs counts c a r → is_settled a r ≡ true → Fits funs counts (OneFor y z) c r a b
      fits_there r a b alias_for c k t i = record { typed = sym k.types ∙ t; settled = refl; free = one_served y z [] }

  -- and the let with z in the place of one y fits in the place of the let
  pub alias_fits : (c : Context) (r s : StreamType) (a b : StateTree) → Replaced (y ∷ z ∷ []) (IsAlias y z) r a b → HasStateType funs counts c (let_state y s (var_state z) a) r → is_settled (let_state y s (var_state z) a) r ≡ true
      → Fits funs counts NoOther c r (let_state y s (var_state z) a) (let_state y s (var_state z) b)
  alias_fits c r s a b h t i =
      let g = fits alias_replaces h _ (alias_known y z c s t.0) t.1 i in
      record { typed = (t.0, g.typed); settled = g.settled; free = served_fewer NoOther (z ∷ without y (free_in_state a)) (z ∷ without y (free_in_state b)) (alias_free y z (free_in_state a) (free_in_state b) g.free) }

module _ (funs : List CoreBody) (typed : All (IsTypedBody funs) funs) (y z : ℕ) where
  -- where the same comes on both names, z gives what y does
  alias_lightens : LightensLocally funs (y ∷ z ∷ []) (IsAlias y z) (λ d. d y ≡ d z)
  alias_lightens = record {
    known_put = λ d x p k n.
        let i = other_than y z x n in
        at_other_name x y p d i.first ∙ (k ∙ sym (at_other_name x z p d i.second));
    known_any = λ d n. absurd (let none : ⊥ = cc n in none);
    local = lighter_there;
  }
    where
      lighter_there : (r : StreamType) (a b : StateTree) → IsAlias y z r a b → (c : Context) (T : NameTypes) → Extends c T no_pasts → HasStateType funs (is_inert_fun funs) c a r → (d e : Environment) → Streams T d → Continues T d e → d y ≡ d z → e y ≡ e z → LighterState funs T r d e a b
      lighter_there r a b alias_for c T w t d e s g k k' = record { out = k; next = k'; calls = omega arith; rise = omega arith; level = omega arith; next_level = omega arith; shut = λ m. refl; next_shut = λ m. refl }

  -- it does where y is bound to z
  bound_alike : (d : Environment) → put y (d z) d y ≡ put y (d z) d z
  bound_alike d = put-same y (d z) d ∙ sym (go (eqb z y))
    where
      go : (b : Bool) → (if b then d z else d z) ≡ d z
      go true = refl
      go false = refl

  -- so the runs of the let with z put in are lighter
  pub alias_lighter : (r s : StreamType) (a b : StateTree) → Replaced (y ∷ z ∷ []) (IsAlias y z) r a b → (c : Context) (T : NameTypes) → Extends c T no_pasts → HasStateType funs (is_inert_fun funs) c (let_state y s (var_state z) a) r → (d e : Environment) → Streams T d → Continues T d e
      → LighterState funs T r d e (let_state y s (var_state z) a) (let_state y s (var_state z) b)
  alias_lighter r s a b h c T w t d e st g =
      let i = state_run_grows funs typed (var_state z) c T s w t.0 d e st g in
      lighter_let
      (lightens typed alias_lightens h _ (put y s T) (extends_name c T no_pasts y s s (place_let y (z ∷ []) true c.order) w refl) t.1 (put y (d z) d) (put y (e z) e)
      (streams_put y s (d z) T d i.first st) (continues_put y s (d z) (e z) T d e i.part g) (bound_alike d) (bound_alike e)) true (quiet (d z)) (quiet (e z))
