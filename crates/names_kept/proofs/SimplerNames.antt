-- The laws: a state of which a part is rewritten binds no name more often, and is as well made as before.
use Rattle.std.proofs.Common.{◌≡◌, ℕ, true, List, [], ◌∷◌, ◌++◌, refl, subst, sym}
use Rattle.stream_type.specs.StreamType.{StreamType}
use Rattle.bunch.specs.BunchTree.{leaf_names}
use Rattle.core_term.specs.FreeNames.{bound_names, is_distinct}
use Rattle.delta_state.specs.StateTree.{StateTree, ArgumentTrees, frame_state, argument_names}
use Rattle.kept_state.specs.KeptNames.{bound_in_state, bound_in_arguments, IsTidy}
use Rattle.state_rewriting.specs.Rewriting.{Rewritten, finished, unused, unused_pair, unused_row, unused_argument, alias, pair, renamed, frames, returned, SimplerBy, as_it_is, one_more, IsAlias, IsPair, composed, without_argument, are_plain, stand_once, names_passed, row}
use Rattle.state_rewriting.proofs.SimplerStates.{simpler_stands_for}
use Rattle.state_rewriting.proofs.FramesJoined.{composed_names}
use Rattle.names_kept.specs.Laws.{SimplerIsTidy, SimplerStaysTidy}
use Rattle.names_kept.proofs.NameCounts.{Fewer, fewer_distinct, fewer_same, fewer_nothing, fewer_next, fewer_both, fewer_behind, fewer_than_more, fewer_left, fewer_right}
use Rattle.names_kept.proofs.NoWorseStates.{IsWell, AreWell, NoWorse, replaced_no_worse, alias_no_worse, pair_no_worse}
use Rattle.names_kept.proofs.NoWorseArguments.{fewer_names, fewer_bound, fewer_well, composed_well, composed_fewer, well_at, fewer_at}

-- a call less the arguments of a parameter
dropped_well : (u : ℕ) (args : ArgumentTrees) (a : StateTree) → IsWell (frame_state args a) → IsWell (frame_state (without_argument u args) a)
dropped_well u args a w =
    let v = fewer_well u args (record { bodies = w.bodies.0; pasts = w.pasts.0; waits = w.waits.0 }) in
    record {
      bodies = (v.bodies, fewer_distinct (fewer_both (argument_names (without_argument u args)) (argument_names args) (bound_in_state a) (bound_in_state a) (fewer_names u args) (fewer_same _)) w.bodies.1, w.bodies.2);
      pasts = (v.pasts, w.pasts.1);
      waits = (v.waits, w.waits.1);
    }

-- a call in the place of two
joined_well : (args inner : ArgumentTrees) (a : StateTree) → are_plain inner ≡ true → IsWell (frame_state args (frame_state inner a)) → IsWell (frame_state (composed args inner) a)
joined_well args inner a p w =
    let v = composed_well args inner p (record { bodies = w.bodies.0; pasts = w.pasts.0; waits = w.waits.0 }) in
    record {
      bodies = (v.bodies, subst (λ us. is_distinct (us ++ bound_in_state a) ≡ true) (sym (composed_names args inner)) w.bodies.2.1, w.bodies.2.2);
      pasts = (v.pasts, w.pasts.1.1);
      waits = (v.waits, w.waits.1.1);
    }

-- each rewriting makes nothing worse
pub rewriting_no_worse : (r : StreamType) (a b : StateTree) → Rewritten r a b → NoWorse a b
rewriting_no_worse r a b (finished n) = record { fewer = fewer_nothing (bound_in_state a); well = λ w. record { bodies = tt; pasts = tt; waits = tt } }
rewriting_no_worse r a b (unused {x = x} {a = q} n) = record { fewer = fewer_than_more x (fewer_right (bound_in_state q) (bound_in_state b)); well = λ w. record { bodies = w.bodies.1; pasts = w.pasts.1; waits = w.waits.1 } }
rewriting_no_worse r a b (unused_pair {x = x} {y = y} n m) = record { fewer = fewer_than_more x (fewer_than_more y (fewer_same _)); well = λ w. record { bodies = w.bodies; pasts = w.pasts; waits = w.waits } }
rewriting_no_worse r a b (unused_row {x = x} {y = y} n m) = record { fewer = fewer_than_more x (fewer_than_more y (fewer_same _)); well = λ w. record { bodies = w.bodies; pasts = w.pasts; waits = w.waits } }
rewriting_no_worse r a b (unused_argument {args = args} {a = q} u n) = record { fewer = fewer_bound u args; well = dropped_well u args q }
rewriting_no_worse r a b (alias {y = y} {z = z} {a = p} {b = q} h) =
    let k = replaced_no_worse (y ∷ (z ∷ [])) (IsAlias y z) (alias_no_worse y z) h in
    record { fewer = fewer_behind y k.fewer; well = λ w. let v = k.well (record { bodies = w.bodies.1; pasts = w.pasts.1; waits = w.waits.1 }) in record { bodies = (tt, v.bodies); pasts = (tt, v.pasts); waits = (tt, v.waits) } }
rewriting_no_worse r a b (pair {x = x} {y = y} {z = z} n m h) =
    let k = replaced_no_worse (x ∷ (y ∷ (z ∷ []))) (IsPair x y z) (pair_no_worse x y z) h in
    record { fewer = fewer_behind x (fewer_behind y k.fewer); well = λ w. let v = k.well (record { bodies = w.bodies; pasts = w.pasts; waits = w.waits }) in record { bodies = v.bodies; pasts = v.pasts; waits = v.waits } }
rewriting_no_worse r a b (renamed {x = x}) = record { fewer = fewer_than_more x (fewer_left (bound_in_state b) []); well = λ w. record { bodies = w.bodies.0; pasts = w.pasts.0; waits = w.waits.0 } }
rewriting_no_worse r a b (row {w = u} {x = x} {y = y} {l = l} e n m) = record { fewer = fewer_than_more u (fewer_left (bound_in_state b) (x ∷ (y ∷ bound_names l.term))); well = λ w. record { bodies = w.bodies.0; pasts = w.pasts.0; waits = w.waits.0 } }
rewriting_no_worse r a b (frames {args = args} {inner = inner} {a = q} p o) = record { fewer = composed_fewer args inner p o; well = joined_well args inner q p }
rewriting_no_worse r a b (returned {args = args} {u = u} m) = record { fewer = fewer_at args u; well = λ w. well_at args u (record { bodies = w.bodies.0; pasts = w.pasts.0; waits = w.waits.0 }) }

-- nor do any number of rewritings
often_no_worse : {r : StreamType} {a b : StateTree} → SimplerBy r a b → NoWorse a b
often_no_worse as_it_is = record { fewer = fewer_same _; well = λ w. w }
often_no_worse (one_more k i) =
    let before = often_no_worse k in
    let last = replaced_no_worse [] Rewritten rewriting_no_worse i in
    record { fewer = fewer_next last.fewer before.fewer; well = λ w. last.well (before.well w) }

pub simpler_is_tidy : SimplerIsTidy
simpler_is_tidy params r a b t h =
    let k = often_no_worse h in
    let v = k.well (record { bodies = t.are_apart.bodies_once; pasts = t.are_apart.pasts_apart; waits = t.waits_apart }) in
    record {
      are_apart = record {
        bound_once = fewer_distinct (fewer_both params params (bound_in_state b) (bound_in_state a) (fewer_same params) k.fewer) t.are_apart.bound_once;
        bodies_once = v.bodies;
        pasts_apart = v.pasts;
      };
      waits_apart = v.waits;
    }

pub simpler_stays_tidy : SimplerStaysTidy
simpler_stays_tidy c n p a b typed hp s h = record { stands = simpler_stands_for c n p a b typed hp s.stands h; tidy = simpler_is_tidy (leaf_names c.main.params) _ a b s.tidy h }
