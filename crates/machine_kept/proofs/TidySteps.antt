-- A machine's names stay apart: at its start, after an event, and once its state is put into a simpler form. So what
-- is kept of it goes on just as its program.
use Rattle.std.proofs.Common.{◌≡◌, ◌∙◌, ℕ, suc, ◌<◌, ◌≤◌, ◌^◌, List, [], ◌∷◌, ◌++◌, ap, sym, subst}
use Rattle.stream_type.specs.StreamType.{StreamType}
use Rattle.stream_prefix.specs.StreamPrefix.{StreamPrefix, emp, der}
use Rattle.stream_prefix.proofs.Derivations.{is_prefix}
use Rattle.stream_prefix.proofs.Joins.{emp_is_prefix}
use Rattle.bunch.specs.BunchTree.{leaf_names}
use Rattle.event_word.specs.StreamEvent.{StreamEvent}
use Rattle.event_word.specs.Admits.{Admits}
use Rattle.event_word.specs.Word.{one_of, after_word}
use Rattle.event_word.proofs.Words.{word_derives}
use Rattle.core_term.specs.CoreTerm.{CoreProgram}
use Rattle.core_term.specs.Run.{Run}
use Rattle.delta_state.specs.StateTree.{StateTree}
use Rattle.delta_state.specs.StateMeaning.{types_held, prefixes_held}
use Rattle.delta_state.specs.Stands.{input_type, depth_after}
use Rattle.delta_state.specs.MachineView.{input_of}
use Rattle.state_steps.specs.Laws.{IsRunnable}
use Rattle.main_steps.specs.Laws.{first_run_on, first_state_on, run_on, state_on}
use Rattle.main_steps.proofs.Keeping.{first_rest}
use Rattle.state_rewriting.specs.Rewriting.{SimplerBy}
use Rattle.state_rewriting.proofs.SimplerStates.{simpler_stands_for}
use Rattle.machine_parts.specs.AwaitedTree.{AwaitedTree, whole_of, entries_on, awaited_after, place_in}
use Rattle.machine_parts.proofs.Awaiting.{entries_whole}
use Rattle.machine_bounds.proofs.BelowBounds.{simpler_below, begins_below_with, goes_on_below_with}
use Rattle.kept_state.specs.KeptTree.{KeptTree}
use Rattle.kept_state.specs.KeptNames.{IsTidy}
use Rattle.kept_state.specs.KeptMeaning.{kept_at}
use Rattle.kept_state.specs.KeptSince.{place_kept}
use Rattle.kept_state.specs.Laws.{IsKept}
use Rattle.kept_state.proofs.KeptPrograms.{keeps}
use Rattle.kept_state.proofs.TidyPrograms.{first_is_tidy, stays_tidy}
use Rattle.names_kept.proofs.SimplerNames.{simpler_is_tidy}
use Rattle.machine_kept.specs.Keeping.{KeepsTidy}

-- a machine begins with what it has to keep, in terms of what it holds then,
pub begins_tidy_with : (c : CoreProgram) → IsRunnable c → (budget : ℕ) (r : Run) (s : StateTree) → r ≡ first_run_on c (entries_on (whole_of c.main.params) (emp (input_type c))) → s ≡ first_state_on c (entries_on (whole_of c.main.params) (emp (input_type c))) → r.calls ≤ budget → budget ≤ 1000000
    → (d : CoreProgram) (a : AwaitedTree) (input output : StreamType) → d ≡ c → a ≡ whole_of c.main.params → input ≡ input_type c → output ≡ der r.out c.main.result → KeepsTidy d budget s a input output 0 r.calls []
begins_tidy_with c runnable budget r s is_run is_state few within d a input output e f g h = record {
  below = begins_below_with c runnable budget r s is_run is_state few within d a input output e f g h;
  tidy = subst (λ (p : CoreProgram). IsTidy (leaf_names p.main.params) s) (sym e)
      (subst (λ (t : StateTree). IsTidy (leaf_names c.main.params) t) (sym (is_state ∙ (ap (first_state_on c) (entries_whole c.main.params (emp_is_prefix (input_type c))) ∙ first_rest c))) (first_is_tidy c runnable));
}

-- goes on with it after an event,
pub goes_on_tidy_with : (c : CoreProgram) (budget : ℕ) (s : StateTree) (a : AwaitedTree) (input output : StreamType) (events spent : ℕ) (w : List StreamEvent) (x : StreamEvent) (k : KeepsTidy c budget s a input output events spent w) (admits : Admits (after_word w (input_type c)) x)
    → (r : Run) → r ≡ run_on c s output (entries_on a (one_of x input)) → r.calls ≤ budget → events < 2 ^ 42
    → (next : StreamPrefix) (s' : StateTree) (d : CoreProgram) (budget' : ℕ) (a' : AwaitedTree) (input' output' : StreamType) (events' spent' : ℕ) → next ≡ one_of x input → s' ≡ state_on c s output (entries_on a (one_of x input)) → d ≡ c → budget' ≡ budget → a' ≡ awaited_after a next → input' ≡ der next input
    → output' ≡ der r.out output → events' ≡ suc events → spent' ≡ r.calls → KeepsTidy d budget' s' a' input' output' events' spent' (w ++ x ∷ [])
goes_on_tidy_with c budget s a input output events spent w x k admits r is_run few room next s' d budget' a' input' output' events' spent' n is_state e b f g h i j = record {
  below = goes_on_below_with c budget s a input output events spent w x k.below admits r is_run few room next s' d budget' a' input' output' events' spent' n is_state e b f g h i j;
  tidy = subst (λ (p : CoreProgram). IsTidy (leaf_names p.main.params) s') (sym e)
      (subst (λ (t : StateTree). IsTidy (leaf_names c.main.params) t) (sym is_state)
      (stays_tidy c (leaf_names c.main.params) s (types_held (entries_on a (one_of x input))) output (prefixes_held (entries_on a (one_of x input))) k.below.keeps.keeps.runnable k.tidy));
}

-- and keeps it with a simpler state in place of its own
pub keeps_tidy_simpler : (c : CoreProgram) (budget : ℕ) (s t : StateTree) (a : AwaitedTree) (input output : StreamType) (events spent : ℕ) (word : List StreamEvent) → KeepsTidy c budget s a input output events spent word → SimplerBy output s t
    → KeepsTidy c budget t a input output events spent word
keeps_tidy_simpler c budget s t a input output events spent word h simpler =
    let k = h.below.keeps.keeps in
    record {
      below = record {
        keeps = record {
          keeps = record {
            runnable = k.runnable;
            is_word = k.is_word;
            stands_for = simpler_stands_for c (depth_after events) (input_of c word) s t k.runnable.is_typed.funs_typed (is_prefix (word_derives (input_type c) word k.is_word)) k.stands_for (subst (λ (r : StreamType). SimplerBy r s t) k.is_output simpler);
            is_came = k.is_came;
            is_input = k.is_input;
            is_output = k.is_output;
            is_count = k.is_count;
          };
          awaits = h.below.keeps.awaits;
          is_place = h.below.keeps.is_place;
          in_budget = h.below.keeps.in_budget;
          in_limit = h.below.keeps.in_limit;
        };
        below = simpler_below c budget s t a input output events spent word h.below simpler;
      };
      tidy = simpler_is_tidy (leaf_names c.main.params) output s t h.tidy simpler;
    }

-- what is kept of it goes on just as its program: its place, its output, its count and its state
pub is_kept_of : (c : CoreProgram) (budget : ℕ) (s : StateTree) (a : AwaitedTree) (input output : StreamType) (events spent : ℕ) (word : List StreamEvent) → KeepsTidy c budget s a input output events spent word → events ≤ 2 ^ 41
    → (k : KeptTree) → k.events ≡ events → place_kept k ≡ place_in a → k.out ≡ output → k.state ≡ s → IsKept c (input_of c word) k
is_kept_of c budget s a input output events spent word h few k e f g i =
    let base = h.below.keeps.keeps in
    subst (λ (l : KeptTree). IsKept c (input_of c word) l) (sym same) (keeps c (input_of c word) events s base.runnable (is_prefix (word_derives (input_type c) word base.is_word)) few base.stands_for h.tidy)
  where
    same : k ≡ kept_at c (input_of c word) events s
    same =
        let place = f ∙ h.below.keeps.is_place in
        let out = g ∙ h.below.keeps.keeps.is_output in
        λ j. record { events = e j; ins = (place j).ins; cuts = (place j).cuts; out = out j; state = i j }
