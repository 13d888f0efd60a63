-- The rewriting that puts in, for the pair of both parts of a name, that name: the type is kept, and the runs are
-- lighter.
use Rattle.std.proofs.Common.{◌≡◌, ◌≢◌, ◌∙◌, ℕ, Bool, true, false, List, [], ◌∷◌, eqb, ap, ap₂, refl, subst, sym, arith}
use Rattle.std.specs.Prelude.{Some, is_some, unwrap_or}
use Rattle.std.specs.List.{All}
use Rattle.stream_type.specs.StreamType.{StreamType, eps, par}
use Rattle.stream_prefix.specs.StreamPrefix.{StreamPrefix, par_both, IsPart}
use Rattle.stream_prefix.proofs.Derivations.{Derives, par_has_both}
use Rattle.stream_prefix.proofs.Parts.{part_is_prefix}
use Rattle.bunch.specs.Names.{put, holds}
use Rattle.bunch.specs.Facts.{Facts, place_let, place_like}
use Rattle.core_term.specs.CoreTerm.{CoreBody}
use Rattle.core_term.specs.FreeNames.{without}
use Rattle.core_term.specs.Environment.{Environment, NameTypes}
use Rattle.core_term.specs.Inert.{is_inert_fun}
use Rattle.core_term.specs.Parts.{par_left, par_right, left_part, right_part}
use Rattle.core_term.specs.Typing.{Context, type_at, IsTypedBody, with_name, with_name_like, with_parts}
use Rattle.core_term.proofs.Sides.{holds-head, put-same, put-other}
use Rattle.core_term.proofs.Without.{holds-tail, holds-without, holds-kept, differs-kept}
use Rattle.core_term.proofs.Retyping.{Among}
use Rattle.core_term.proofs.TypedTerms.{Extends, type_in, extends_name}
use Rattle.core_term.proofs.GrowingRuns.{Streams, Continues, par_parts, par_parts_grow, streams_put_two, continues_put_two}
use Rattle.delta_state.specs.StateTree.{StateTree, par_state, var_state, let_par_state, free_in_state}
use Rattle.delta_state.specs.StateTyping.{HasStateType, no_pasts}
use Rattle.delta_state.specs.Settled.{is_settled}
use Rattle.state_rewriting.specs.Rewriting.{Replaced, IsPair, pair_for}
use Rattle.state_rewriting.proofs.OtherNames.{apart_from, at_other_name}
use Rattle.state_rewriting.proofs.NamesServing.{Beside, beside_both, serves_let, serves_like, serves_fact, OneFor, one_named, one_serves, one_served, one_other, behind_head}
use Rattle.state_rewriting.proofs.NamesThatServe.{pair_serves}
use Rattle.state_rewriting.proofs.FittingParts.{ServesFor, Served, served_fewer, Fits, FitsLocally, fits, par_form}
use Rattle.state_rewriting.proofs.LighterParts.{LighterState, LightensLocally, lightens, lighter_inside}
use Rattle.state_rewriting.proofs.BindingsLeftOut.{NoOther}

-- x has the type s and y the type t, z that of both, and z serves for x
record KnownPair (x y z : ℕ) (s t : StreamType) (c : Context) : Type 0 where
  pub first_type : c.types x ≡ Some s
  pub second_type : c.types y ≡ Some t
  pub both_type : c.types z ≡ Some (par s t)
  pub order : ServesFor x z c.order

module _ (x y z : ℕ) where
  -- the three names are in their list: the first one
  first_of : holds x (x ∷ y ∷ z ∷ []) ≡ true
  first_of = holds-head x (y ∷ z ∷ [])

  -- the second one
  second_of : holds y (x ∷ y ∷ z ∷ []) ≡ true
  second_of = holds-tail y x (y ∷ z ∷ []) (holds-head y (z ∷ []))

  -- and the subject
  third_of : holds z (x ∷ y ∷ z ∷ []) ≡ true
  third_of = holds-tail z x (y ∷ z ∷ []) (holds-tail z y (z ∷ []) (holds-head z []))

  -- a name that is none of them is neither x nor z
  other_than : (u : ℕ) → holds u (x ∷ y ∷ z ∷ []) ≡ false → Beside u x z
  other_than u n = beside_both u x z (x ∷ y ∷ z ∷ []) first_of third_of n

  -- nor y
  other_second : (u : ℕ) → holds u (x ∷ y ∷ z ∷ []) ≡ false → eqb y u ≡ false
  other_second u n = apart_from u y (x ∷ y ∷ z ∷ []) n second_of

  module _ (s t : StreamType) where
    -- what is known of a pair still is under another name, however that is placed
    pair_name : (c : Context) (u : ℕ) (q : StreamType) (O : Facts) → KnownPair x y z s t c → holds u (x ∷ y ∷ z ∷ []) ≡ false → ServesFor x z O → KnownPair x y z s t (with_name u q O c)
    pair_name c u q O k n o =
        let i = other_than u n in
        record {
          first_type = at_other_name u x (Some q) c.types i.first ∙ k.first_type;
          second_type = at_other_name u y (Some q) c.types (other_second u n) ∙ k.second_type;
          both_type = at_other_name u z (Some q) c.types i.second ∙ k.both_type;
          order = o;
        }

    -- also where that is placed like another one
    pair_like : (c : Context) (u v : ℕ) (q : StreamType) → KnownPair x y z s t c → holds u (x ∷ y ∷ z ∷ []) ≡ false → holds v (x ∷ y ∷ z ∷ []) ≡ false → KnownPair x y z s t (with_name_like u q v c)
    pair_like c u v q k n i = pair_name c u q (place_like u v c.order) k n (serves_like x z u v c.order (other_than u n) (other_than v i) k.order)

    -- it is known where z was just taken apart
    pair_known : (c : Context) → x ≢ y → y ≢ z → x ≢ z → c.types z ≡ Some (par s t) → KnownPair x y z s t (with_parts x s y t z c)
    pair_known c n m o e = record {
      first_type = put-other y x (Some t) (put x (Some s) c.types) (λ i. n (sym i)) ∙ put-same x (Some s) c.types;
      second_type = put-same y (Some t) (put x (Some s) c.types);
      both_type = put-other y z (Some t) (put x (Some s) c.types) m ∙ (put-other x z (Some s) c.types o ∙ e);
      order = pair_serves x y z c.order n m o;
    }

  -- the destructuring has no new free names
  pair_free : (xs ys : List ℕ) → Served (OneFor x z) xs ys → Among (z ∷ without x (without y ys)) (z ∷ without x (without y xs))
  pair_free xs ys h = behind_head z (without x (without y xs)) (without x (without y ys)) (λ u e m.
      let i = holds-kept u x (without y ys) m in
      holds-without u x (without y xs) (differs-kept u x (without y ys) m) (holds-without u y xs (differs-kept u y ys i) (one_other x z xs ys h u e (holds-kept u y ys i))))

module _ (funs : List CoreBody) (counts : ℕ → Bool) (x y z : ℕ) where
  -- so z fits in the place of the pair of x and y
  pair_replaces : (s t : StreamType) → FitsLocally funs counts (x ∷ y ∷ z ∷ []) (IsPair x y z) (OneFor x z) (KnownPair x y z s t)
  pair_replaces s t = record {
    named = one_named x z (x ∷ y ∷ z ∷ []) (first_of x y z) (third_of x y z);
    serves = λ c k. one_serves x z c (record { there = λ h. ap is_some k.both_type; order = k.order });
    known_let = λ c u q us k n. pair_name x y z s t c u q (place_let u us true c.order) k n (serves_let x z u us c.order (other_than x y z u n) k.order);
    known_parts = λ c p q u a b k np nq nu. pair_like x y z s t (with_name_like p a u c) q u b (pair_like x y z s t c p u a k np nu) nq nu;
    known_fact = λ c p q k np nq. record { first_type = k.first_type; second_type = k.second_type; both_type = k.both_type; order = serves_fact x z p q c.order (other_than x y z p np) (other_than x y z q nq) k.order };
    known_body = λ c args e k. absurd (let none : ⊥ = cc e in none);
    local = fits_there;
  }
    where
      -- the type of both is that of the pair
      both_typed : (c : Context) (r : StreamType) → KnownPair x y z s t c → HasStateType funs counts c (par_state (var_state x) (var_state y)) r → c.types z ≡ Some r
      both_typed c r k h =
          let f = par_form funs counts (var_state x) (var_state y) c r h in
          let e : Some s ≡ Some (par_left r) = sym k.first_type ∙ f.left in
          let e' : Some t ≡ Some (par_right r) = sym k.second_type ∙ f.right in
          k.both_type ∙ (ap₂ (λ p q. Some (par (unwrap_or p eps) (unwrap_or q eps))) e e' ∙ ap Some (sym f.form))

      fits_there : (r : StreamType) (a b : StateTree) → IsPair x y z r a b → (c : Context) → KnownPair x y z s t c → HasStateType funs counts c a r → is_settled a r ≡ true → Fits funs counts (OneFor x z) c r a b
      fits_there r a b pair_for c k h i = record { typed = both_typed c r k h; settled = refl; free = one_served x z (y ∷ []) }

  -- and the destructuring with z in the place of one such pair fits in the place of the destructuring
  pub pair_fits : (c : Context) (r : StreamType) (a b : StateTree) → x ≢ y → y ≢ z → Replaced (x ∷ y ∷ z ∷ []) (IsPair x y z) r a b → HasStateType funs counts c (let_par_state x y z a) r → is_settled (let_par_state x y z a) r ≡ true
      → Fits funs counts NoOther c r (let_par_state x y z a) (let_par_state x y z b)
  pair_fits c r a b n m h t i =
      let s = par_left (type_at c z) in
      let q = par_right (type_at c z) in
      let g = fits (pair_replaces s q) h _ (pair_known x y z s q c n m t.0 t.1) t.2 i in
      record { typed = (t.0, t.1, g.typed); settled = g.settled; free = served_fewer NoOther (z ∷ without x (without y (free_in_state a))) (z ∷ without x (without y (free_in_state b))) (pair_free x y z (free_in_state a) (free_in_state b) g.free) }

-- a prefix of a pair is that of its parts
both_parts : {s t : StreamType} {p : StreamPrefix} → Derives (par s t) p → par_both (left_part p) (right_part p) ≡ p
both_parts (par_has_both h k) = refl

module _ (funs : List CoreBody) (typed : All (IsTypedBody funs) funs) (x y z : ℕ) where
  -- where what comes on x and y is what comes on z, z gives what the pair does
  pair_lightens : LightensLocally funs (x ∷ y ∷ z ∷ []) (IsPair x y z) (λ d. par_both (d x) (d y) ≡ d z)
  pair_lightens = record {
    known_put = λ d u p k n.
        let i = other_than x y z u n in
        ap₂ par_both (at_other_name u x p d i.first) (at_other_name u y p d (other_second x y z u n)) ∙ (k ∙ sym (at_other_name u z p d i.second));
    known_any = λ d n. absurd (let none : ⊥ = cc n in none);
    local = lighter_there;
  }
    where
      lighter_there : (r : StreamType) (a b : StateTree) → IsPair x y z r a b → (c : Context) (T : NameTypes) → Extends c T no_pasts → HasStateType funs (is_inert_fun funs) c a r → (d e : Environment) → Streams T d → Continues T d e → par_both (d x) (d y) ≡ d z → par_both (e x) (e y) ≡ e z
          → LighterState funs T r d e a b
      lighter_there r a b pair_for c T w t d e s g k k' = record { out = k; next = k'; calls = omega arith; rise = omega arith; level = omega arith; next_level = omega arith; shut = λ m. refl; next_shut = λ m. refl }

  -- it is where x and y are the parts of z
  parts_alike : (d : Environment) (p q : StreamPrefix) → x ≢ y → y ≢ z → x ≢ z → par_both p q ≡ d z → par_both (put y q (put x p d) x) (put y q (put x p d) y) ≡ put y q (put x p d) z
  parts_alike d p q n m o e =
      ap₂ par_both (put-other y x q (put x p d) (λ i. n (sym i)) ∙ put-same x p d) (put-same y q (put x p d)) ∙ (e ∙ sym (put-other y z q (put x p d) m ∙ put-other x z p d o))

  -- so the runs of the destructuring with z put in are lighter
  pub pair_lighter : (r : StreamType) (a b : StateTree) → x ≢ y → y ≢ z → Replaced (x ∷ y ∷ z ∷ []) (IsPair x y z) r a b → (c : Context) (T : NameTypes) → Extends c T no_pasts → HasStateType funs (is_inert_fun funs) c (let_par_state x y z a) r → (d e : Environment) → Streams T d → Continues T d e
      → LighterState funs T r d e (let_par_state x y z a) (let_par_state x y z b)
  pair_lighter r a b n m h c T w t d e st g =
      let same = type_in c T no_pasts w z _ t.1 in
      let form : T z ≡ par (par_left (T z)) (par_right (T z)) = subst (λ t. T z ≡ par (par_left t) (par_right t)) same (w.stream z _ t.1) in
      let hz = subst (λ t. Derives t (d z)) form (st.at z) in
      let gz = subst (λ t. IsPart t (d z) (e z)) form (g.at z) in
      let i = par_parts hz in
      let j = par_parts_grow hz gz in
      lighter_inside
      (lightens typed pair_lightens h _ _ (extends_name _ _ no_pasts y _ _ (place_like y z (place_like x z c.order)) (extends_name c T no_pasts x _ _ (place_like x z c.order) w (ap par_left same)) (ap par_right same)) t.2
      (put y (right_part (d z)) (put x (left_part (d z)) d)) (put y (right_part (e z)) (put x (left_part (e z)) e))
      (streams_put_two x y (par_left (T z)) (par_right (T z)) _ _ T d i.0 i.1 st) (continues_put_two x y (par_left (T z)) (par_right (T z)) _ _ _ _ T d e j.0 j.1 g)
      (parts_alike d (left_part (d z)) (right_part (d z)) n m t.0 (both_parts hz)) (parts_alike e (left_part (e z)) (right_part (e z)) n m t.0 (both_parts (part_is_prefix hz gz))))
