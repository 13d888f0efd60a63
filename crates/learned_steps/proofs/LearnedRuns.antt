-- The run of a learned step with other numbers, at other depths, and the state that it leaves.
use Rattle.std.proofs.Common.{◌≡◌, ◌∙◌, ◌≤◌, ℕ, ℤ, ap, ap₂, sym, subst, arith}
use Rattle.stream_prefix.specs.StreamPrefix.{der}
use Rattle.core_term.specs.CoreTerm.{CoreProgram, fun_at}
use Rattle.core_term.specs.Environment.{Environment, NameTypes}
use Rattle.core_term.specs.Run.{Run}
use Rattle.delta_state.specs.StateMeaning.{types_held, prefixes_held, run_state}
use Rattle.delta_state.specs.Rest.{rest_of}
use Rattle.main_steps.specs.Laws.{run_on, state_on}
use Rattle.state_rewriting.specs.Rewriting.{SimplerBy}
use Rattle.other_numbers.specs.Numbers.{exchanged_environment, exchanged_run}
use Rattle.other_numbers.specs.EventNumbers.{exchanged_event}
use Rattle.other_numbers.specs.StateNumbers.{exchanged_state}
use Rattle.other_numbers.proofs.OtherNumbers.{runs_go_along, rests_go_along, simpler_goes_along}
use Rattle.other_depths.specs.Depths.{deepened}
use Rattle.other_depths.specs.Suits.{Suits}
use Rattle.other_depths.proofs.DeepStates.{runs_at_other_depths, rests_at_other_depths, simpler_at_other_depths}
use Rattle.filled_states.proofs.FilledStates.{suits_exchanged}
use Rattle.learned_steps.specs.Learned.{Learned, GoesWith, names_at, state_with}
use Rattle.learned_steps.specs.Laws.{LearnedRuns}
use Rattle.learned_steps.proofs.AwaitedNumbers.{types_at_event, prefixes_at_event}

module _ (c : CoreProgram) (l : Learned c) (f : ℤ → ℤ) (g : ℕ → ℕ) (h : GoesWith c l f g) where
  -- the types of the program's names at the event that was learned, and what came on them
  abbrev types : NameTypes
  types = types_held (names_at l.awaited l.input l.event)

  abbrev came : Environment
  came = prefixes_held (names_at l.awaited l.input l.event)

  -- with the other numbers, at the depths that were, it makes no more calls
  numbers_go : run_state (fun_at c.funs) (exchanged_state f l.state) types l.output (exchanged_environment f came) ≡ exchanged_run f (record { out = l.out; calls = l.calls; level = l.level })
  numbers_go = runs_go_along f (fun_at c.funs) l.state types l.output came h.commute ∙ ap (exchanged_run f) l.runs

  few : (run_state (fun_at c.funs) (exchanged_state f l.state) types l.output (exchanged_environment f came)).calls ≤ l.calls
  few = subst (λ (r : Run). r.calls ≤ l.calls) (sym numbers_go) (omega arith)

  suits : Suits g l.calls (exchanged_state f l.state)
  suits = suits_exchanged f g l.calls l.state h.suits

  pub run_goes : run_on c (state_with f g l.state) l.output (names_at l.awaited l.input (exchanged_event f l.event)) ≡ exchanged_run f (record { out = l.out; calls = l.calls; level = l.level })
  run_goes =
      ap₂ (λ T d. run_state (fun_at c.funs) (state_with f g l.state) T l.output d) (types_at_event f l.awaited l.input l.event) (prefixes_at_event f l.awaited l.input l.event)
      ∙ (runs_at_other_depths g l.calls (fun_at c.funs) (exchanged_state f l.state) types l.output (exchanged_environment f came) few suits
      ∙ numbers_go)

  -- what is left is what was left, with these numbers at these depths
  pub rest_goes : state_on c (state_with f g l.state) l.output (names_at l.awaited l.input (exchanged_event f l.event)) ≡ state_with f g (state_on c l.state l.output (names_at l.awaited l.input l.event))
  rest_goes =
      ap₂ (λ T d. rest_of (fun_at c.funs) (state_with f g l.state) T l.output d) (types_at_event f l.awaited l.input l.event) (prefixes_at_event f l.awaited l.input l.event)
      ∙ (rests_at_other_depths g l.calls (fun_at c.funs) (exchanged_state f l.state) types l.output (exchanged_environment f came) few suits
      ∙ ap (deepened g) (rests_go_along f (fun_at c.funs) l.state types l.output came h.commute))

-- and it is made simpler as it was
pub next_goes : (c : CoreProgram) (l : Learned c) (f : ℤ → ℤ) (g : ℕ → ℕ) → SimplerBy (der l.out l.output) (state_with f g (state_on c l.state l.output (names_at l.awaited l.input l.event))) (state_with f g l.next)
next_goes c l f g = simpler_at_other_depths g (der l.out l.output) _ _ (simpler_goes_along f (der l.out l.output) _ _ l.simpler)

pub learned_runs : LearnedRuns
learned_runs c l f g h = run_goes c l f g h
