-- The laws: no rewriting lets a state hold more.
use Rattle.std.proofs.Common.{◌≡◌, ◌∙◌, ℕ, Bool, true, true≢false, List, [], ap, refl, subst, sym}
use Rattle.std.specs.Prelude.{Option, Some, None, is_some}
use Rattle.stream_type.specs.StreamType.{StreamType}
use Rattle.stream_prefix.specs.StreamPrefix.{StreamPrefix}
use Rattle.stream_prefix.proofs.Derivations.{is_prefix}
use Rattle.event_word.proofs.Words.{word_derives}
use Rattle.bunch.specs.Names.{holds}
use Rattle.bunch.specs.Facts.{place_let}
use Rattle.core_term.specs.CoreTerm.{CoreBody, CoreProgram}
use Rattle.core_term.specs.Inert.{is_inert_fun}
use Rattle.core_term.specs.Typing.{Context, with_name}
use Rattle.core_term.proofs.TypedRuns.{AreStreams}
use Rattle.delta_state.specs.StateTree.{StateTree, var_state, cat_state, let_cat_state, free_in_state}
use Rattle.delta_state.specs.StateTyping.{HasStateType, context_of_arguments}
use Rattle.delta_state.specs.Settled.{is_settled}
use Rattle.delta_state.specs.Stands.{input_type, context_after, output_left, depth_after}
use Rattle.delta_state.specs.MachineView.{input_of}
use Rattle.state_steps.proofs.Seeing.{Sees}
use Rattle.state_rewriting.specs.Rewriting.{Rewritten, finished, unused, unused_pair, unused_row, unused_argument, alias, pair, renamed, frames, returned, Simpler, SimplerBy, as_it_is, one_more, composed, without_argument, row}
use Rattle.state_rewriting.proofs.HiddenNames.{without_name, let_facts, without_parts, without_row}
use Rattle.state_rewriting.proofs.FittingParts.{fits}
use Rattle.state_rewriting.proofs.BindingsLeftOut.{NoOther}
use Rattle.state_rewriting.proofs.SimplerStates.{rewritten_fits, rewritings_fit, simpler_stands_for}
use Rattle.state_bounds.specs.Bounds.{Bound, ◌⊑◌}
use Rattle.state_bounds.specs.StateBounds.{state_bound, argument_bounds}
use Rattle.state_bounds.specs.Laws.{bound_after}
use Rattle.state_bounds.proofs.BoundOrder.{at_most_same, at_most_next, both_at_most, nothing_at_most}
use Rattle.state_bounds.proofs.StateStreams.{state_streams}
use Rattle.state_bounds.proofs.StatesWithMoreFacts.{Roomy, state_at_most}
use Rattle.bounds_kept.specs.Laws.{SimplerHoldsNoMore, SimplerKeepsBound, SimplerStaysBelow, SimplerIsWithin}
use Rattle.bounds_kept.proofs.CappedBounds.{beside_left, beside_right, state_capped, arguments_capped}
use Rattle.bounds_kept.proofs.LowerParts.{LowersLocally, lowers}
use Rattle.bounds_kept.proofs.NamesPutIn.{alias_lowers, pair_lowers}
use Rattle.bounds_kept.proofs.ArgumentBounds.{roomy_without, roomy_composed, fewer_at_most, argument_at_most, composed_at_most}

-- a context that has what another has of names that are streams there has their very types
seen_is_roomy : (xs : List ℕ) (c e : Context) → AreStreams c xs → Sees xs c e → Roomy xs c e
seen_is_roomy xs c e s h = record { types = λ x m. at x m (c.types x) refl (s.at x m); order = h.order }
  where
    at : (x : ℕ) → holds x xs ≡ true → (o : Option StreamType) → c.types x ≡ o → is_some (c.types x) ≡ true → c.types x ≡ e.types x
    at x m None k i = absurd (true≢false (sym i ∙ ap is_some k))
    at x m (Some t) k i = k ∙ sym (h.types x t m k)

module _ (funs : List CoreBody) (counts : ℕ → Bool) where
  module _ (numbers : ℕ → Bound) where
    -- a state that is typed in a context can hold no more in one that has as much of its free names
    seen_at_most : (s : StateTree) (c e : Context) (r : StreamType) → HasStateType funs counts c s r → Sees (free_in_state s) c e → state_bound funs numbers s e ⊑ state_bound funs numbers s c
    seen_at_most s c e r t h = state_at_most funs numbers s c e (seen_is_roomy (free_in_state s) c e (state_streams funs counts s c r t) h)

    -- what each rewriting puts in can hold no more
    rewriting_holds : (r : StreamType) (a b : StateTree) → Rewritten r a b → (c : Context) → HasStateType funs counts c a r → is_settled a r ≡ true → state_bound funs numbers b c ⊑ state_bound funs numbers a c
    rewriting_holds r a b (finished n) c t i = nothing_at_most (state_bound funs numbers a c)
    rewriting_holds r a b (unused {s = s} {x = x} {a = q} n) c t i =
        let inside = with_name x s (place_let x (free_in_state q) true c.order) c in
        at_most_next _ _ _ (seen_at_most b inside c r t.1 (without_name x s (free_in_state b) (place_let x (free_in_state q) true c.order) c n (let_facts x (free_in_state q) c.order)))
        (beside_right (state_bound funs numbers q c) (state_bound funs numbers b inside) (state_capped funs numbers b inside))
    rewriting_holds r a b (unused_pair {x = x} {y = y} {z = z} n m) c t i = seen_at_most b _ c r t.2 (without_parts x y z _ _ (free_in_state b) c n m)
    rewriting_holds r a b (unused_row {x = x} {y = y} {z = z} n m) c t i = seen_at_most b _ c r t.2 (without_row x y z _ _ (free_in_state b) c n m)
    rewriting_holds r a b (unused_argument {args = args} {a = q} u n) c t i =
        both_at_most _ _ _ _ (fewer_at_most funs numbers u args c) (state_at_most funs numbers q (context_of_arguments c args) (context_of_arguments c (without_argument u args)) (roomy_without u args c (free_in_state q) n))
    rewriting_holds r a b (alias {s = s} {y = y} {z = z} {a = p} {b = q} h) c t i = alias_lowers funs counts numbers y z c r s p q h t i
    rewriting_holds r a b (pair {x = x} {y = y} {z = z} {a = p} {b = q} n m h) c t i = pair_lowers funs counts numbers x y z c r p q n m h t i
    rewriting_holds r a b (renamed {s = s} {x = x}) c t i = beside_left (state_bound funs numbers b c) (Some 0) (state_capped funs numbers b c)
    rewriting_holds r a b (row {s = s} {w = w} {x = x} {y = y} {l = l} e n m) c t i =
        beside_left (state_bound funs numbers b c) (state_bound funs numbers (let_cat_state x y w (cat_state (var_state x) l)) (with_name w s (place_let w (free_in_state b) true c.order) c)) (state_capped funs numbers b c)
    rewriting_holds r a b (frames {args = args} {inner = inner} {a = q} p o) c t i =
        let outer = context_of_arguments c args in
        let within = context_of_arguments outer inner in
        both_at_most _ _ _ _ (composed_at_most funs numbers args inner c p o)
        (at_most_next _ _ _ (state_at_most funs numbers q within (context_of_arguments c (composed args inner)) (roomy_composed args inner c (free_in_state q) p))
        (beside_right (argument_bounds funs numbers inner outer) (state_bound funs numbers q within) (state_capped funs numbers q within)))
    rewriting_holds r a b (returned {args = args} {u = u} m) c t i =
        at_most_next _ _ _ (argument_at_most funs numbers args u c) (beside_left (argument_bounds funs numbers args c) (Some 0) (arguments_capped funs numbers args c))

    -- so the rewritings lower the bound locally, without names
    rewritings_lower : LowersLocally funs counts numbers NoOther [] Rewritten
    rewritings_lower = record {
      named = λ w v n. absurd n;
      local = λ r a b h c k t i. record { free = (rewritten_fits funs counts r a b h c tt t i).free; bound = rewriting_holds r a b h c t i };
    }

pub simpler_holds_no_more : SimplerHoldsNoMore
simpler_holds_no_more funs counts numbers c r a b t i h = (lowers (rewritings_lower funs counts numbers) h c (λ w v n. absurd n) t i).bound

-- the type left is kept as a variable while the rewritings are gone through
pub simpler_keeps_bound : SimplerKeepsBound
simpler_keeps_bound funs counts numbers c r n a b h as_it_is = h
simpler_keeps_bound funs counts numbers c r n a b h (one_more {b = q} k i) =
    let m = simpler_keeps_bound funs counts numbers c r n a q h k in
    let f = fits (rewritings_fit funs counts) i c tt m.typed m.settled in
    record { typed = f.typed; settled = f.settled; within = at_most_next (state_bound funs numbers b c) (state_bound funs numbers q c) (Some n) (simpler_holds_no_more funs counts numbers c r q b m.typed m.settled i) m.within }

-- the state is typed and settled after p, and can hold no more than a
record IsNoMore (c : CoreProgram) (numbers : ℕ → Bound) (p : StreamPrefix) (a q : StateTree) : Type 0 where
  pub typed : HasStateType c.funs (is_inert_fun c.funs) (context_after c p) q (output_left c p)
  pub settled : is_settled q (output_left c p) ≡ true
  pub below : bound_after c numbers p q ⊑ bound_after c numbers p a

-- so is a state that one becomes by rewritings; the type left is kept as a variable
no_more : (c : CoreProgram) (numbers : ℕ → Bound) (p : StreamPrefix) (a : StateTree) {r : StreamType} {q o : StateTree} → SimplerBy r q o → r ≡ output_left c p → IsNoMore c numbers p a q → IsNoMore c numbers p a o
no_more c numbers p a as_it_is e m = m
no_more c numbers p a (one_more {b = q} {e = o} k i) e m =
    let n = no_more c numbers p a k e m in
    let simpler = subst (λ (t : StreamType). Simpler t q o) e i in
    let f = fits (rewritings_fit c.funs (is_inert_fun c.funs)) simpler (context_after c p) tt n.typed n.settled in
    record { typed = f.typed; settled = f.settled; below = at_most_next _ _ _ (simpler_holds_no_more c.funs (is_inert_fun c.funs) numbers (context_after c p) (output_left c p) q o n.typed n.settled simpler) n.below }

pub simpler_stays_below : SimplerStaysBelow
simpler_stays_below c numbers n p a b st h = (no_more c numbers p a h refl (record { typed = st.is_typed; settled = st.settled; below = at_most_same (bound_after c numbers p a) })).below

pub simpler_is_within : SimplerIsWithin
simpler_is_within m word numbers n b h typed simpler =
    let w = h.stands in
    let p = input_of m.program word in
    record {
      stands = record {
        is_word = w.is_word;
        marked = b;
        is_state = refl;
        stands_for = simpler_stands_for m.program (depth_after m.events) p w.marked b typed (is_prefix (word_derives (input_type m.program) word w.is_word)) w.stands_for simpler;
        is_place = w.is_place;
        is_count = w.is_count;
        in_budget = w.in_budget;
        in_limit = w.in_limit;
      };
      within = at_most_next (bound_after m.program numbers p b) (bound_after m.program numbers p w.marked) (Some n) (simpler_stays_below m.program numbers (depth_after m.events) p w.marked b w.stands_for simpler) h.within;
    }
