-- A machine's state can hold no more than its program: at its start, after an event, and once it is put into a
-- simpler form.
use Rattle.std.proofs.Common.{◌≡◌, ◌∙◌, ℕ, suc, ◌<◌, ◌≤◌, ◌^◌, List, [], ◌∷◌, ◌++◌, ap, sym, subst, arith}
use Rattle.std.specs.Prelude.{Some}
use Rattle.stream_type.specs.StreamType.{StreamType}
use Rattle.stream_prefix.specs.StreamPrefix.{StreamPrefix, emp, der}
use Rattle.stream_prefix.proofs.Derivations.{Derives}
use Rattle.stream_prefix.proofs.Joins.{emp_is_prefix}
use Rattle.event_word.specs.StreamEvent.{StreamEvent}
use Rattle.event_word.specs.Admits.{Admits}
use Rattle.event_word.specs.Word.{one_of, after_word}
use Rattle.event_word.proofs.Words.{word_derives}
use Rattle.core_term.specs.CoreTerm.{CoreProgram}
use Rattle.core_term.specs.Run.{Run}
use Rattle.core_term.specs.Meaning.{horizon}
use Rattle.delta_state.specs.StateTree.{StateTree}
use Rattle.delta_state.specs.Stands.{StandsFor, input_type, depth_after}
use Rattle.delta_state.specs.MachineView.{input_of}
use Rattle.delta_state.specs.Rest.{first_state}
use Rattle.state_steps.specs.Laws.{IsRunnable, state_after_event}
use Rattle.state_steps.proofs.ProgramSteps.{event_derives}
use Rattle.main_steps.specs.Keeping.{Keeps}
use Rattle.main_steps.specs.Laws.{next_entries, first_run_on, first_state_on, run_on, state_on}
use Rattle.main_steps.proofs.Keeping.{first_rest, next_run, next_rest}
use Rattle.state_rewriting.specs.Rewriting.{SimplerBy}
use Rattle.state_bounds.specs.Bounds.{◌⊑◌}
use Rattle.state_bounds.specs.ProgramBound.{main_bound}
use Rattle.state_bounds.specs.Laws.{bound_after}
use Rattle.state_bounds.proofs.BoundOrder.{at_most_next}
use Rattle.state_bounds.proofs.ProgramBounds.{first_holds, event_holds, machine_holds}
use Rattle.bounds_kept.proofs.SimplerBounds.{simpler_stays_below}
use Rattle.machine_parts.specs.AwaitedTree.{AwaitedTree, whole_of, entries_on, awaited_after}
use Rattle.machine_parts.proofs.Awaiting.{entries_whole, entries_left}
use Rattle.machine_parts.proofs.StandingTrees.{begins_as, begins_with, goes_on_with}
use Rattle.machine_bounds.specs.StaysBelow.{IsBelow, KeepsBelow}
use Rattle.machine_bounds.specs.Laws.{BeginsBelow, GoesOnBelow, SimplerBelow, StaysHolding}

-- a million calls are within the depth at which a program begins
within_horizon : (n : ℕ) → n ≤ 1000000 → n ≤ horizon
unfolding horizon
within_horizon n h = omega (arith, h)

pub begins_below : BeginsBelow
begins_below c runnable few numbers enough =
    let same : first_state_on c (entries_on (whole_of c.main.params) (emp (input_type c))) ≡ first_state c =
    ap (first_state_on c) (entries_whole c.main.params (emp_is_prefix (input_type c))) ∙ first_rest c in
    let all = subst (λ (r : Run). r.calls ≤ 1000000) (begins_as c) few in
    subst (λ (s : StateTree). bound_after c numbers (input_of c []) s ⊑ main_bound c numbers) (sym same) (first_holds c numbers runnable enough (within_horizon _ all))

pub goes_on_below : GoesOnBelow
goes_on_below c budget s a input output events spent w x k admits room few numbers enough =
    at_most_next _ _ _ (subst (λ (t : StateTree). bound_after c numbers (input_of c (w ++ x ∷ [])) t ⊑ bound_after c numbers (input_of c w) s) (sym same_rest) step) (k.below numbers enough)
  where
    kept : Keeps c s (input_of c w) input output events w
    kept = k.keeps.keeps

    -- what the event brings, on which names
    brings : Derives (der (input_of c w) (input_type c)) (one_of x input)
    brings = subst (λ (t : StreamType). Derives (der (input_of c w) (input_type c)) (one_of x t)) (sym kept.is_input) (event_derives c w x kept.is_word admits)

    same_next : entries_on a (one_of x input) ≡ next_entries c (input_of c w) input x
    same_next = ap (λ (l : AwaitedTree). entries_on l (one_of x input)) k.keeps.awaits ∙ entries_left c.main.params (word_derives (input_type c) w kept.is_word) brings

    -- so the state is the one after the event,
    same_rest : state_on c s output (entries_on a (one_of x input)) ≡ state_after_event c w s x
    same_rest = ap (state_on c s output) same_next ∙ next_rest c s (input_of c w) input output events w x kept admits

    -- which can hold no more than the one before
    step : bound_after c numbers (input_of c (w ++ x ∷ [])) (state_after_event c w s x) ⊑ bound_after c numbers (input_of c w) s
    step =
        event_holds c numbers w x s kept.runnable enough kept.is_word admits (subst (λ (n : ℕ). n < 2 ^ 42) kept.is_count room) (subst (λ (n : ℕ). StandsFor c (depth_after n) (input_of c w) s) kept.is_count kept.stands_for)
        (subst (λ (r : Run). r.calls ≤ 1000000) (ap (run_on c s output) same_next ∙ next_run c s (input_of c w) input output events w x kept admits) few)

pub simpler_below : SimplerBelow
simpler_below c budget s t a input output events spent word k simpler numbers enough =
    at_most_next _ _ _ (simpler_stays_below c numbers (depth_after events) (input_of c word) s t k.keeps.keeps.stands_for (subst (λ (r : StreamType). SimplerBy r s t) k.keeps.keeps.is_output simpler)) (k.below numbers enough)

pub stays_holding : StaysHolding
stays_holding m word numbers n h enough most small = machine_holds m word numbers n (record { stands = h.stands; within = at_most_next (bound_after m.program numbers (input_of m.program word) h.stands.marked) (main_bound m.program numbers) (Some n) (h.below numbers enough) most }) small

-- a machine begins with what it has to keep, in terms of what it holds then
pub begins_below_with : (c : CoreProgram) → IsRunnable c → (budget : ℕ) (r : Run) (s : StateTree) → r ≡ first_run_on c (entries_on (whole_of c.main.params) (emp (input_type c))) → s ≡ first_state_on c (entries_on (whole_of c.main.params) (emp (input_type c))) → r.calls ≤ budget → budget ≤ 1000000
    → (d : CoreProgram) (a : AwaitedTree) (input output : StreamType) → d ≡ c → a ≡ whole_of c.main.params → input ≡ input_type c → output ≡ der r.out c.main.result → KeepsBelow d budget s a input output 0 r.calls []
begins_below_with c runnable budget r s is_run is_state few within d a input output e f g h =
    let all : r.calls ≤ 1000000 = omega (arith, few, within) in
    record {
      keeps = begins_with c runnable budget r s is_run is_state few within d a input output e f g h;
      below = subst (λ (p : CoreProgram). IsBelow p s []) (sym e)
          (subst (λ (t : StateTree). IsBelow c t []) (sym is_state) (begins_below c runnable (subst (λ (x : Run). x.calls ≤ 1000000) is_run all)));
    }

-- and goes on with it after an event
pub goes_on_below_with : (c : CoreProgram) (budget : ℕ) (s : StateTree) (a : AwaitedTree) (input output : StreamType) (events spent : ℕ) (w : List StreamEvent) (x : StreamEvent) (k : KeepsBelow c budget s a input output events spent w) (admits : Admits (after_word w (input_type c)) x)
    → (r : Run) → r ≡ run_on c s output (entries_on a (one_of x input)) → r.calls ≤ budget → events < 2 ^ 42
    → (next : StreamPrefix) (s' : StateTree) (d : CoreProgram) (budget' : ℕ) (a' : AwaitedTree) (input' output' : StreamType) (events' spent' : ℕ) → next ≡ one_of x input → s' ≡ state_on c s output (entries_on a (one_of x input)) → d ≡ c → budget' ≡ budget → a' ≡ awaited_after a next → input' ≡ der next input
    → output' ≡ der r.out output → events' ≡ suc events → spent' ≡ r.calls → KeepsBelow d budget' s' a' input' output' events' spent' (w ++ x ∷ [])
goes_on_below_with c budget s a input output events spent w x k admits r is_run few room next s' d budget' a' input' output' events' spent' n is_state e b f g h i j =
    let within = k.keeps.in_limit in
    let all : r.calls ≤ 1000000 = omega (arith, few, within) in
    record {
      keeps = goes_on_with c budget s a input output events spent w x k.keeps admits r is_run few room next s' d budget' a' input' output' events' spent' n is_state e b f g h i j;
      below = subst (λ (p : CoreProgram). IsBelow p s' (w ++ x ∷ [])) (sym e)
          (subst (λ (t : StateTree). IsBelow c t (w ++ x ∷ [])) (sym is_state) (goes_on_below c budget s a input output events spent w x k admits room (subst (λ (y : Run). y.calls ≤ 1000000) is_run all)));
    }
