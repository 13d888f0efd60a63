-- Worked examples: the state of a loop that copies its feed, after an item, at a depth and at another one; and a depth
-- that is too small for the calls that are made.
use Rattle.std.proofs.Common.{◌≡◌, ◌∙◌, ℕ, suc, ◌≤◌, ℤ, List, [], ◌∷◌, arith, ap, refl, subst, sym}
use Rattle.std.proofs.lemmas.List.Elements.{All-nil, All-cons}
use Rattle.stream_type.specs.StreamType.{eps, int, star}
use Rattle.stream_prefix.specs.StreamPrefix.{StreamPrefix, int_full, star_emp, star_rest}
use Rattle.bunch.specs.BunchTree.{leaf}
use Rattle.bunch.specs.Names.{put}
use Rattle.core_term.specs.CoreTerm.{CoreTerm, CoreBody, var_term, nil_term, cons_term, case_star_term, call_term, no_terms, term_before, fun_at}
use Rattle.core_term.specs.Environment.{Environment, NameTypes, untyped, nothing}
use Rattle.core_term.specs.Run.{Run}
use Rattle.core_term.specs.Meaning.{call_at}
use Rattle.delta_state.specs.StateTree.{LaterTree, StateTree, sink, var_state, let_state, star_state, frame_state, no_arguments, argument_before}
use Rattle.delta_state.specs.StateMeaning.{run_state}
use Rattle.delta_state.specs.Rest.{rest_of, call_rest_at}
use Rattle.state_rewriting.specs.Rewriting.{SimplerBy, as_it_is, one_more, here, in_body, in_arguments, at_first, unused, alias, alias_for, frames}
use Rattle.other_depths.specs.Depths.{deepened}
use Rattle.other_depths.specs.Suits.{Suits, SuitsAt}
use Rattle.other_depths.proofs.Shifts.{moved, moved_suits}
use Rattle.other_depths.proofs.DeepStates.{runs_at_other_depths, rests_at_other_depths, simpler_at_other_depths}

-- the case that the loop is: case xs of { nil => nil | y :: ys => y :: copy(ys) }, by the branch of an item
abbrev next_item : CoreTerm
next_item = cons_term (var_term 1) (call_term 0 [] (term_before (var_term 2) no_terms))

-- fun copy(xs : Int*) : Int*
copy : List CoreBody
copy = record { past = []; params = leaf 0 (star int); result = star int; body = case_star_term 0 (star int) nil_term 1 2 next_item } ∷ []

-- the call that waits for what comes on 9, and both its branches at a depth
abbrev inside : ℕ → StateTree
inside d =
    star_state 0 (star int) (record { name = 0; type = star int; prefix = star_emp } ∷ []) (record { term = nil_term; past = []; depth = d }) 1 2 (record { term = next_item; past = []; depth = d })

abbrev waits : ℕ → StateTree
waits d = frame_state (argument_before 0 (star int) (var_state 9) no_arguments) (inside d)

-- numbers come on 9
abbrev types : NameTypes
types = put 9 (star int) untyped

abbrev comes : StreamPrefix → Environment
comes p = put 9 p nothing

abbrev one_item : ℤ → StreamPrefix
one_item n = star_rest (int_full n) star_emp

-- at an item it makes one call, at whatever depth,
copy_calls : (d : ℕ) (n : ℤ) → (run_state (fun_at copy) (waits (suc d)) types (star int) (comes (one_item n))).calls ≡ 1
unfolding copy call_at
copy_calls d n = refl

-- and leaves the next call inside the one that was, a step down
abbrev after_item : ℕ → StateTree
after_item d =
    frame_state (argument_before 0 (star int) (var_state 9) no_arguments)
    (let_state 1 eps (sink eps) (let_state 2 (star int) (var_state 0) (frame_state (argument_before 0 (star int) (var_state 2) no_arguments) (inside d))))

copy_leaves : (d : ℕ) (n : ℤ) → rest_of (fun_at copy) (waits (suc d)) types (star int) (comes (one_item n)) ≡ after_item d
unfolding copy call_at call_rest_at
copy_leaves d n = refl

-- which is made simpler: the loop is what it was, a step down
copy_simpler : (d : ℕ) → SimplerBy (star int) (after_item d) (waits d)
copy_simpler d =
    one_more
    (one_more (one_more (one_more as_it_is (in_body refl (here (unused refl)))) (in_body refl (here (alias (in_arguments (at_first (here alias_for)))))))
    (in_body refl (here (unused refl))))
    (here (frames refl refl))

-- any other depth of 1 or more suits the call,
copy_suits : (d e : ℕ) → Suits (moved (suc d) (suc e)) 1 (waits (suc d))
copy_suits d e =
    let at : SuitsAt (moved (suc d) (suc e)) 1 (suc d) = moved_suits (suc d) (suc e) 1 (omega arith) (omega arith) in
    let P = λ (l : LaterTree). SuitsAt (moved (suc d) (suc e)) 1 l.depth in
    let code : LaterTree = record { term = next_item; past = []; depth = suc d } in
    let end : LaterTree = record { term = nil_term; past = []; depth = suc d } in
    All-cons P end (code ∷ []) at (All-cons P code [] at (All-nil P))

-- the numbers that the two depths are, before the item and after it
moved_before : (d e : ℕ) → moved (suc d) (suc e) (suc d) ≡ suc e
moved_before d e = omega arith

moved_after : (d e : ℕ) → moved (suc d) (suc e) d ≡ e
moved_after d e = omega arith

one_call_made : (d : ℕ) (n : ℤ) → (run_state (fun_at copy) (waits (suc d)) types (star int) (comes (one_item n))).calls ≤ 1
one_call_made d n = omega (arith, copy_calls d n)

-- so what the item does at one depth it does at the other: the same is put out,
copy_runs_alike : (d e : ℕ) (n : ℤ) → run_state (fun_at copy) (waits (suc e)) types (star int) (comes (one_item n)) ≡ run_state (fun_at copy) (waits (suc d)) types (star int) (comes (one_item n))
copy_runs_alike d e n =
    subst (λ k. run_state (fun_at copy) (waits k) types (star int) (comes (one_item n)) ≡ run_state (fun_at copy) (waits (suc d)) types (star int) (comes (one_item n))) (moved_before d e)
    (runs_at_other_depths (moved (suc d) (suc e)) 1 (fun_at copy) (waits (suc d)) types (star int) (comes (one_item n)) (one_call_made d n) (copy_suits d e))

-- and what is left is known without another run
copy_leaves_alike : (d e : ℕ) (n : ℤ) → rest_of (fun_at copy) (waits (suc e)) types (star int) (comes (one_item n)) ≡ after_item e
copy_leaves_alike d e n =
    subst (λ k. rest_of (fun_at copy) (waits k) types (star int) (comes (one_item n)) ≡ after_item e) (moved_before d e)
    (rests_at_other_depths (moved (suc d) (suc e)) 1 (fun_at copy) (waits (suc d)) types (star int) (comes (one_item n)) (one_call_made d n) (copy_suits d e)
    ∙ (ap (deepened (moved (suc d) (suc e))) (copy_leaves d n) ∙ ap after_item (moved_after d e)))

copy_simpler_alike : (d e : ℕ) → SimplerBy (star int) (after_item e) (waits e)
copy_simpler_alike d e =
    subst (λ k. SimplerBy (star int) (after_item k) (waits k)) (moved_after d e) (simpler_at_other_depths (moved (suc d) (suc e)) (star int) (after_item d) (waits d) (copy_simpler d))

-- three items
abbrev three_items : (a b c : ℤ) → StreamPrefix
three_items a b c = star_rest (int_full a) (star_rest (int_full b) (star_rest (int_full c) star_emp))

-- at depth 1 two calls are made, more than the code is deep: the second gives nothing,
shallow_gives : (a b c : ℤ) → run_state (fun_at copy) (waits 1) types (star int) (comes (three_items a b c)) ≡ record { out = star_rest (int_full a) (star_rest (int_full b) star_emp); calls = 2; level = 1 }
unfolding copy call_at
shallow_gives a b c = refl

-- and at depth 5 all is copied,
deep_gives : (a b c : ℤ) → run_state (fun_at copy) (waits 5) types (star int) (comes (three_items a b c)) ≡ record { out = three_items a b c; calls = 3; level = 1 }
unfolding copy call_at
deep_gives a b c = refl

-- so 5 can't stand in the place of 1 there
shallow_differs : (a b c : ℤ) → run_state (fun_at copy) (waits 5) types (star int) (comes (three_items a b c)) ≡ run_state (fun_at copy) (waits 1) types (star int) (comes (three_items a b c)) → ⊥
shallow_differs a b c h =
    let k : ◌≡◌ {A = ℕ} 3 2 = ap (λ (r : Run). r.calls) (sym (deep_gives a b c) ∙ (h ∙ shallow_gives a b c)) in absurd (omega (arith, k))
