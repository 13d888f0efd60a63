-- A machine that makes a learned step again keeps all that machines have to, whether it stands for its program or for a
-- kept state.
use Rattle.std.proofs.Common.{◌≡◌, ◌∙◌, ◌≤◌, ◌<◌, ◌^◌, ℕ, ℤ, suc, List, [], ◌∷◌, ◌++◌, ap, refl, sym, subst}
use Rattle.stream_type.specs.StreamType.{StreamType}
use Rattle.stream_prefix.specs.StreamPrefix.{der}
use Rattle.event_word.specs.StreamEvent.{StreamEvent}
use Rattle.event_word.specs.Admits.{Admits}
use Rattle.event_word.specs.Word.{one_of, after_word}
use Rattle.core_term.specs.CoreTerm.{CoreProgram}
use Rattle.core_term.specs.Run.{Run}
use Rattle.delta_state.specs.StateTree.{StateTree}
use Rattle.delta_state.specs.Stands.{input_type}
use Rattle.delta_state.specs.MachineView.{answer_to}
use Rattle.main_steps.specs.Laws.{run_on, state_on}
use Rattle.machine_parts.specs.AwaitedTree.{awaited_after}
use Rattle.machine_parts.proofs.StandingTrees.{is_answer}
use Rattle.kept_state.specs.KeptTree.{KeptTree}
use Rattle.kept_state.specs.KeptMeaning.{input_kept}
use Rattle.machine_kept.specs.SinceView.{answer_since}
use Rattle.machine_kept.specs.Keeping.{KeepsTidy, KeepsSince}
use Rattle.machine_kept.proofs.TidySteps.{goes_on_tidy_with, keeps_tidy_simpler}
use Rattle.machine_kept.proofs.SinceSteps.{is_answer_since, goes_on_since_with, keeps_simpler_since}
use Rattle.other_numbers.specs.Numbers.{exchanged, exchanged_run}
use Rattle.other_numbers.specs.EventNumbers.{exchanged_event}
use Rattle.other_numbers.proofs.PrefixNumbers.{der_stays}
use Rattle.other_numbers.proofs.EventNumbers.{events_go_along, admitted_go_along, canon_goes_along}
use Rattle.learned_steps.specs.Learned.{Learned, GoesWith, names_at, state_with}
use Rattle.learned_steps.specs.Laws.{LearnedGoes, LearnedGoesSince}
use Rattle.learned_steps.proofs.AwaitedNumbers.{awaited_at_event}
use Rattle.learned_steps.proofs.LearnedRuns.{run_goes, rest_goes, next_goes}

module _ (c : CoreProgram) (l : Learned c) (f : ℤ → ℤ) (g : ℕ → ℕ) (h : GoesWith c l f g) where
  -- the run that is made, the state that it leaves, and what is left of the input's and of the output's type
  abbrev made : Run
  made = exchanged_run f (record { out = l.out; calls = l.calls; level = l.level })

  abbrev left : StateTree
  left = state_with f g (state_on c l.state l.output (names_at l.awaited l.input l.event))

  is_made : made ≡ run_on c (state_with f g l.state) l.output (names_at l.awaited l.input (exchanged_event f l.event))
  is_made = sym (run_goes c l f g h)

  is_left : left ≡ state_on c (state_with f g l.state) l.output (names_at l.awaited l.input (exchanged_event f l.event))
  is_left = sym (rest_goes c l f g h)

  input_left : der (one_of l.event l.input) l.input ≡ der (one_of (exchanged_event f l.event) l.input) l.input
  input_left = sym (ap (λ p. der p l.input) (events_go_along f l.input l.event) ∙ der_stays f (one_of l.event l.input) l.input)

  output_left : der l.out l.output ≡ der made.out l.output
  output_left = sym (der_stays f l.out l.output)

  -- the event is admitted where the type that is left is that of the word
  admitted : (t : StreamType) → l.input ≡ t → Admits t (exchanged_event f l.event)
  admitted t e = subst (λ (s : StreamType). Admits s (exchanged_event f l.event)) e (admitted_go_along f l.input l.event l.admits)

  module _ (budget events spent : ℕ) (word : List StreamEvent) (few : l.calls ≤ budget) (room : events < 2 ^ 42)
      (k : KeepsTidy c budget (state_with f g l.state) l.awaited l.input l.output events spent word) where
    goes_tidy : KeepsTidy c budget left (awaited_after l.awaited (one_of l.event l.input)) (der (one_of l.event l.input) l.input) (der l.out l.output) (suc events) l.calls (word ++ exchanged_event f l.event ∷ [])
    goes_tidy =
        goes_on_tidy_with c budget (state_with f g l.state) l.awaited l.input l.output events spent word (exchanged_event f l.event) k (admitted (after_word word (input_type c)) k.below.keeps.keeps.is_input) made is_made few room
        (one_of (exchanged_event f l.event) l.input) left c budget (awaited_after l.awaited (one_of l.event l.input)) (der (one_of l.event l.input) l.input) (der l.out l.output) (suc events) l.calls refl is_left refl refl (awaited_at_event f l.awaited l.input l.event) input_left output_left
        refl refl

    pub keeps_made : KeepsTidy c budget (state_with f g l.next) (awaited_after l.awaited (one_of l.event l.input)) (der (one_of l.event l.input) l.input) (der l.out l.output) (suc events) l.calls (word ++ exchanged_event f l.event ∷ [])
    keeps_made =
        keeps_tidy_simpler c budget left (state_with f g l.next) (awaited_after l.awaited (one_of l.event l.input)) (der (one_of l.event l.input) l.input) (der l.out l.output) (suc events) l.calls (word ++ exchanged_event f l.event ∷ []) goes_tidy (next_goes c l f g)

    pub answers_made : exchanged f l.out ≡ answer_to c word (exchanged_event f l.event)
    answers_made =
        is_answer c budget (state_with f g l.state) l.awaited l.input l.output events spent word (exchanged_event f l.event) k.below.keeps (admitted (after_word word (input_type c)) k.below.keeps.keeps.is_input) made is_made few room

  module _ (budget events spent : ℕ) (k : KeptTree) (word : List StreamEvent) (few : l.calls ≤ budget) (room : events < 2 ^ 42)
      (keeps : KeepsSince c budget (state_with f g l.state) l.awaited l.input l.output events spent k word) where
    goes_since : KeepsSince c budget left (awaited_after l.awaited (one_of l.event l.input)) (der (one_of l.event l.input) l.input) (der l.out l.output) (suc events) l.calls k (word ++ exchanged_event f l.event ∷ [])
    goes_since =
        goes_on_since_with c budget (state_with f g l.state) l.awaited l.input l.output events spent k word (exchanged_event f l.event) keeps (admitted (after_word word (input_kept c k)) keeps.is_input) made is_made few room
        (one_of (exchanged_event f l.event) l.input) left c budget (awaited_after l.awaited (one_of l.event l.input)) (der (one_of l.event l.input) l.input) (der l.out l.output) (suc events) l.calls refl is_left refl refl (awaited_at_event f l.awaited l.input l.event) input_left output_left
        refl refl

    pub keeps_made_since : KeepsSince c budget (state_with f g l.next) (awaited_after l.awaited (one_of l.event l.input)) (der (one_of l.event l.input) l.input) (der l.out l.output) (suc events) l.calls k (word ++ exchanged_event f l.event ∷ [])
    keeps_made_since =
        keeps_simpler_since c budget left (state_with f g l.next) (awaited_after l.awaited (one_of l.event l.input)) (der (one_of l.event l.input) l.input) (der l.out l.output) (suc events) l.calls k (word ++ exchanged_event f l.event ∷ []) goes_since (next_goes c l f g)

    pub answers_made_since : exchanged f l.out ≡ answer_since c k word (exchanged_event f l.event)
    answers_made_since =
        is_answer_since c budget (state_with f g l.state) l.awaited l.input l.output events spent k word (exchanged_event f l.event) keeps (admitted (after_word word (input_kept c k)) keeps.is_input) made is_made few room

pub learned_goes : LearnedGoes
learned_goes c l f g budget events spent word h few room k = record {
  keeps = keeps_made c l f g h budget events spent word few room k;
  answers = answers_made c l f g h budget events spent word few room k;
  says = canon_goes_along f l.out;
}

pub learned_goes_since : LearnedGoesSince
learned_goes_since c l f g budget events spent k word h few room keeps = record {
  keeps = keeps_made_since c l f g h budget events spent k word few room keeps;
  answers = answers_made_since c l f g h budget events spent k word few room keeps;
  says = canon_goes_along f l.out;
}
