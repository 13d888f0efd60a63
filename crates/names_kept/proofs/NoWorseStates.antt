-- What a state becomes that has one of its parts replaced: where the new part binds no name more often, and is as well
-- made as the old one, so it is with the whole.
use Rattle.std.proofs.Common.{◌≡◌, ℕ, true, List, [], ◌∷◌, ◌++◌, ap, refl, subst, sym}
use Rattle.stream_type.specs.StreamType.{StreamType}
use Rattle.core_term.specs.FreeNames.{is_distinct}
use Rattle.delta_state.specs.StateTree.{StateTree, ArgumentTrees, sink, var_state, par_state, cat_state, let_state, let_par_state, let_cat_state, frame_state, no_arguments, argument_before, argument_names}
use Rattle.kept_state.specs.KeptNames.{bound_in_state, bound_in_arguments, BodiesOnce, BodiesOnceIn, PastsApart, PastsApartIn, CodeWaitsApart, CodeWaitsApartIn}
use Rattle.state_rewriting.specs.Rewriting.{Replaced, ReplacedArgument, here, in_left, in_right, in_first, in_bound, in_let, in_let_par, in_let_cat, in_arguments, in_body, at_first, at_other, IsAlias, alias_for, IsPair, pair_for}
use Rattle.names_kept.proofs.NameCounts.{Fewer, fewer_distinct, fewer_same, fewer_nothing, fewer_both, fewer_behind}

-- what is asked of a state beside the names that it binds outside all frames' bodies
pub record IsWell (s : StateTree) : Type 0 where
  pub bodies : BodiesOnce s
  pub pasts : PastsApart s
  pub waits : CodeWaitsApart s

-- the same of arguments
pub record AreWell (args : ArgumentTrees) : Type 0 where
  pub bodies : BodiesOnceIn args
  pub pasts : PastsApartIn args
  pub waits : CodeWaitsApartIn args

-- the second state binds no name more often than the first, and is well made where that is
pub record NoWorse (a b : StateTree) : Type 0 where
  pub fewer : Fewer (bound_in_state b) (bound_in_state a)
  pub well : IsWell a → IsWell b

-- so are arguments, of the same parameters
pub record NoWorseIn (args others : ArgumentTrees) : Type 0 where
  pub names : argument_names others ≡ argument_names args
  pub fewer : Fewer (bound_in_arguments others) (bound_in_arguments args)
  pub well : AreWell args → AreWell others

-- a body of a frame with arguments of the same parameters
body_once : (args others : ArgumentTrees) (a : StateTree) → argument_names others ≡ argument_names args → is_distinct (argument_names args ++ bound_in_state a) ≡ true → is_distinct (argument_names others ++ bound_in_state a) ≡ true
body_once args others a e d = subst (λ us. is_distinct (us ++ bound_in_state a) ≡ true) (sym e) d

module _ (names : List ℕ) (R : StreamType → StateTree → StateTree → Type 0) (f : (r : StreamType) (a b : StateTree) → R r a b → NoWorse a b) where
  mutual
    -- the part that is replaced makes the whole no worse
    pub replaced_no_worse : {r : StreamType} {a b : StateTree} → Replaced names R r a b → NoWorse a b
    replaced_no_worse (here {r = r} {a = a} {b = b} h) = f r a b h
    replaced_no_worse (in_left {a = a} {b = b} {e = e} h) =
        let k = replaced_no_worse h in
        record { fewer = fewer_both (bound_in_state b) (bound_in_state a) (bound_in_state e) (bound_in_state e) k.fewer (fewer_same _); well = λ w. left_well (k.well (record { bodies = w.bodies.0; pasts = w.pasts.0; waits = w.waits.0 })) w }
      where
        left_well : IsWell b → IsWell (par_state a e) → IsWell (par_state b e)
        left_well v w = record { bodies = (v.bodies, w.bodies.1); pasts = (v.pasts, w.pasts.1); waits = (v.waits, w.waits.1) }
    replaced_no_worse (in_right {a = a} {b = b} {e = e} h) =
        let k = replaced_no_worse h in
        record { fewer = fewer_both (bound_in_state e) (bound_in_state e) (bound_in_state b) (bound_in_state a) (fewer_same _) k.fewer; well = λ w. right_well (k.well (record { bodies = w.bodies.1; pasts = w.pasts.1; waits = w.waits.1 })) w }
      where
        right_well : IsWell b → IsWell (par_state e a) → IsWell (par_state e b)
        right_well v w = record { bodies = (w.bodies.0, v.bodies); pasts = (w.pasts.0, v.pasts); waits = (w.waits.0, v.waits) }
    replaced_no_worse (in_first {a = a} {b = b} {l = l} h) =
        let k = replaced_no_worse h in
        record { fewer = fewer_both (bound_in_state b) (bound_in_state a) _ _ k.fewer (fewer_same _); well = λ w. first_well (k.well (record { bodies = w.bodies; pasts = w.pasts.0; waits = w.waits.0 })) w }
      where
        first_well : IsWell b → IsWell (cat_state a l) → IsWell (cat_state b l)
        first_well v w = record { bodies = v.bodies; pasts = (v.pasts, w.pasts.1); waits = (v.waits, w.waits.1) }
    replaced_no_worse (in_bound {s = s} {x = x} {a = a} {b = b} {e = e} h) =
        let k = replaced_no_worse h in
        record { fewer = fewer_behind x (fewer_both (bound_in_state b) (bound_in_state a) (bound_in_state e) (bound_in_state e) k.fewer (fewer_same _)); well = λ w. bound_well (k.well (record { bodies = w.bodies.0; pasts = w.pasts.0; waits = w.waits.0 })) w }
      where
        bound_well : IsWell b → IsWell (let_state x s a e) → IsWell (let_state x s b e)
        bound_well v w = record { bodies = (v.bodies, w.bodies.1); pasts = (v.pasts, w.pasts.1); waits = (v.waits, w.waits.1) }
    replaced_no_worse (in_let {s = s} {x = x} {a = a} {b = b} {e = e} n h) =
        let k = replaced_no_worse h in
        record { fewer = fewer_behind x (fewer_both (bound_in_state e) (bound_in_state e) (bound_in_state b) (bound_in_state a) (fewer_same _) k.fewer); well = λ w. let_well (k.well (record { bodies = w.bodies.1; pasts = w.pasts.1; waits = w.waits.1 })) w }
      where
        let_well : IsWell b → IsWell (let_state x s e a) → IsWell (let_state x s e b)
        let_well v w = record { bodies = (w.bodies.0, v.bodies); pasts = (w.pasts.0, v.pasts); waits = (w.waits.0, v.waits) }
    replaced_no_worse (in_let_par {x = x} {y = y} n m o h) =
        let k = replaced_no_worse h in
        record { fewer = fewer_behind x (fewer_behind y k.fewer); well = λ w. let v = k.well (record { bodies = w.bodies; pasts = w.pasts; waits = w.waits }) in record { bodies = v.bodies; pasts = v.pasts; waits = v.waits } }
    replaced_no_worse (in_let_cat {x = x} {y = y} n m o h) =
        let k = replaced_no_worse h in
        record { fewer = fewer_behind x (fewer_behind y k.fewer); well = λ w. let v = k.well (record { bodies = w.bodies; pasts = w.pasts; waits = w.waits }) in record { bodies = v.bodies; pasts = v.pasts; waits = v.waits } }
    replaced_no_worse (in_arguments {args = args} {others = others} {a = a} h) =
        let k = argument_no_worse h in
        record { fewer = k.fewer; well = λ w. arguments_well k.names (k.well (record { bodies = w.bodies.0; pasts = w.pasts.0; waits = w.waits.0 })) w }
      where
        arguments_well : argument_names others ≡ argument_names args → AreWell others → IsWell (frame_state args a) → IsWell (frame_state others a)
        arguments_well e v w = record { bodies = (v.bodies, body_once args others a e w.bodies.1, w.bodies.2); pasts = (v.pasts, w.pasts.1); waits = (v.waits, w.waits.1) }
    replaced_no_worse (in_body {args = args} {a = a} {b = b} n h) =
        let k = replaced_no_worse h in
        record { fewer = fewer_same (bound_in_arguments args); well = λ w. body_well k.fewer (k.well (record { bodies = w.bodies.2; pasts = w.pasts.1; waits = w.waits.1 })) w }
      where
        body_well : Fewer (bound_in_state b) (bound_in_state a) → IsWell b → IsWell (frame_state args a) → IsWell (frame_state args b)
        body_well g v w = record {
          bodies = (w.bodies.0, fewer_distinct (fewer_both (argument_names args) (argument_names args) (bound_in_state b) (bound_in_state a) (fewer_same _) g) w.bodies.1, v.bodies);
          pasts = (w.pasts.0, v.pasts);
          waits = (w.waits.0, v.waits);
        }

    -- nor the arguments
    pub argument_no_worse : {args others : ArgumentTrees} → ReplacedArgument names R args others → NoWorseIn args others
    argument_no_worse (at_first {x = x} {t = t} {a = a} {b = b} {args = args} h) =
        let k = replaced_no_worse h in
        record { names = refl; fewer = fewer_both (bound_in_state b) (bound_in_state a) (bound_in_arguments args) (bound_in_arguments args) k.fewer (fewer_same _); well = λ w. one_well (k.well (record { bodies = w.bodies.0; pasts = w.pasts.0; waits = w.waits.0 })) w }
      where
        one_well : IsWell b → AreWell (argument_before x t a args) → AreWell (argument_before x t b args)
        one_well v w = record { bodies = (v.bodies, w.bodies.1); pasts = (v.pasts, w.pasts.1); waits = (v.waits, w.waits.1) }
    argument_no_worse (at_other {x = x} {t = t} {a = a} {args = args} {others = others} h) =
        let k = argument_no_worse h in
        record { names = ap (λ us. x ∷ us) k.names; fewer = fewer_both (bound_in_state a) (bound_in_state a) (bound_in_arguments others) (bound_in_arguments args) (fewer_same _) k.fewer; well = λ w. other_well (k.well (record { bodies = w.bodies.1; pasts = w.pasts.1; waits = w.waits.1 })) w }
      where
        other_well : AreWell others → AreWell (argument_before x t a args) → AreWell (argument_before x t a others)
        other_well v w = record { bodies = (w.bodies.0, v.bodies); pasts = (w.pasts.0, v.pasts); waits = (w.waits.0, v.waits) }

-- a name in the place of another one, or of a pair of names, makes nothing worse
pub alias_no_worse : (y z : ℕ) (r : StreamType) (a b : StateTree) → IsAlias y z r a b → NoWorse a b
alias_no_worse y z r a b alias_for = record { fewer = fewer_same []; well = λ w. record { bodies = tt; pasts = tt; waits = tt } }

pub pair_no_worse : (x y z : ℕ) (r : StreamType) (a b : StateTree) → IsPair x y z r a b → NoWorse a b
pair_no_worse x y z r a b pair_for = record { fewer = fewer_nothing []; well = λ w. record { bodies = tt; pasts = tt; waits = tt } }
