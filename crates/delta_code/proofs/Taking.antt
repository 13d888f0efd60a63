-- A machine that takes an event and stood for its program, or for a kept state, stands for it after the event.
use Rattle.std.proofs.Common.{ℕ, ◌≡◌, ◌∙◌, ◌<◌, ◌^◌, true, List, [], ◌∷◌, ◌++◌, refl, sym, ap, subst}
use Rattle.stream_type.specs.StreamType.{StreamType, type_of}
use Rattle.stream_prefix.specs.StreamPrefix.{StreamPrefix, der}
use Rattle.stream_prefix.proofs.Derivations.{Derives}
use Rattle.event_word.specs.StreamEvent.{StreamEvent}
use Rattle.event_word.specs.Admits.{Admits}
use Rattle.event_word.specs.Word.{one_of}
use Rattle.event_word.proofs.Words.{word_derives}
use Rattle.core_term.specs.CoreTerm.{CoreProgram}
use Rattle.core_term.specs.Agreement.{types_in}
use Rattle.core_term.specs.Environment.{NameTypes, left_at}
use Rattle.core_term.specs.Inert.{is_inert_fun}
use Rattle.core_term.specs.Split.{split}
use Rattle.delta_state.specs.Settled.{is_settled}
use Rattle.delta_state.specs.StateMeaning.{types_held}
use Rattle.delta_state.specs.StateTree.{HeldName}
use Rattle.delta_state.specs.StateTyping.{HasStateType}
use Rattle.delta_state.specs.Stands.{input_type, context_after}
use Rattle.delta_state.specs.MachineView.{Awaits, answer_to, input_of}
use Rattle.state_steps.proofs.LongerWords.{event_follows}
use Rattle.state_steps.proofs.ProgramSteps.{event_derives}
use Rattle.state_steps.proofs.SourceSteps.{extends_types}
use Rattle.main_steps.specs.Keeping.{Keeps}
use Rattle.main_steps.proofs.SplitLists.{later_lists}
use Rattle.machine_parts.specs.AwaitedTree.{AwaitedTree, awaited_in, awaited_after, entries_on}
use Rattle.machine_parts.proofs.Awaiting.{entries_left}
use Rattle.machine_parts.proofs.StandingTrees.{is_answer}
use Rattle.kept_state.specs.KeptTree.{KeptTree}
use Rattle.kept_state.specs.KeptMeaning.{input_kept, types_since}
use Rattle.kept_state.specs.KeptPlace.{context_over}
use Rattle.kept_state.specs.KeptTyping.{types_kept}
use Rattle.kept_state.specs.Laws.{input_since, event_since}
use Rattle.machine_kept.specs.KeptAwaiting.{awaited_kept}
use Rattle.machine_kept.specs.SinceView.{AwaitsSince, answer_since}
use Rattle.machine_kept.proofs.TidySteps.{goes_on_tidy_with, keeps_tidy_simpler}
use Rattle.machine_kept.proofs.KeptAwaited.{types_later}
use Rattle.machine_kept.proofs.SimplerSince.{kept_outside}
use Rattle.machine_kept.proofs.SinceSteps.{is_answer_since, goes_on_since_with, keeps_simpler_since, params_once}
use Rattle.template_state.specs.Readers.{state_in}
use Rattle.delta_code.specs.declared.machine.Coded.{Coded}
use Rattle.delta_code.specs.CodedView.{program_of, view_of, run_by, state_by, TakesBy, IsReadyFor, CodedStands, CodedSince}

-- what a machine awaits is admitted by the type that is left of its input
pub admitted : (m : Coded) (x : StreamEvent) (word : List StreamEvent) → Awaits view_of CodedStands m word x → Admits (type_of m.input.value) x
admitted m x word w = subst (λ (t : StreamType). Admits t x) (sym w.stands_after.below.keeps.keeps.is_input) w.admits

pub admitted_since : (m : Coded) (x : StreamEvent) (k : KeptTree) (word : List StreamEvent) → AwaitsSince view_of CodedSince m k word x → Admits (type_of m.input.value) x
admitted_since m x k word w = subst (λ (t : StreamType). Admits t x) (sym w.stands_since.is_input) w.admits

-- the state that a machine has there is typed and settled, where it stands for its program,
pub ready : (m : Coded) (x : StreamEvent) (word : List StreamEvent) → Awaits view_of CodedStands m word x → IsReadyFor m x
ready m x word w = record {
  context = context_after c p;
  in_context = λ y t e. same_types y ∙ (extends_types c.main.params left).stream y t e;
  typed = subst (λ (r : StreamType). HasStateType c.funs (is_inert_fun c.funs) (context_after c p) (state_in m.state.value) r) (sym keeps.is_output) keeps.stands_for.is_typed;
  settled = subst (λ (r : StreamType). is_settled (state_in m.state.value) r ≡ true) (sym keeps.is_output) keeps.stands_for.settled;
}
  where
    c : CoreProgram
    c = program_of m

    p : StreamPrefix
    p = input_of c word

    left : NameTypes
    left = left_at (split c.main.params p) (types_in c.main.params)

    keeps : Keeps c (state_in m.state.value) p (type_of m.input.value) (type_of m.output.value) m.events word
    keeps = w.stands_after.below.keeps.keeps

    came : Derives (input_type c) p
    came = word_derives (input_type c) word keeps.is_word

    brings : Derives (der p (input_type c)) (one_of x (type_of m.input.value))
    brings = subst (λ (t : StreamType). Derives (der p (input_type c)) (one_of x t)) (sym keeps.is_input) (event_derives c word x keeps.is_word w.admits)

    same_types : (y : ℕ) → types_held (entries_on (awaited_in m.awaited.value) (one_of x (type_of m.input.value))) y ≡ left y
    same_types y =
        ap (λ (l : AwaitedTree). types_held (entries_on l (one_of x (type_of m.input.value))) y) w.stands_after.below.keeps.awaits
        ∙ (ap (λ (es : List HeldName). types_held es y) (entries_left c.main.params came brings)
        ∙ (later_lists c.main.params came brings).are_types y)

-- or for a kept state
pub ready_since : (m : Coded) (x : StreamEvent) (k : KeptTree) (word : List StreamEvent) → AwaitsSince view_of CodedSince m k word x → IsReadyFor m x
ready_since m x k word w = record {
  context = context_over c.main.params left;
  in_context = λ y t e. same_types y ∙ (extends_types c.main.params left).stream y t e;
  typed = subst (λ (r : StreamType). HasStateType c.funs (is_inert_fun c.funs) (context_over c.main.params left) (state_in m.state.value) r) (sym keeps.is_output) keeps.stands_for.is_typed;
  settled = subst (λ (r : StreamType). is_settled (state_in m.state.value) r ≡ true) (sym keeps.is_output) keeps.stands_for.settled;
}
  where
    c : CoreProgram
    c = program_of m

    left : NameTypes
    left = types_since c k (input_since c k word)

    keeps : CodedSince m k word
    keeps = w.stands_since

    same_event : one_of x (type_of m.input.value) ≡ event_since c k word x
    same_event = ap (one_of x) keeps.is_input

    later : (y : ℕ) → types_held (entries_on (awaited_after (awaited_kept c k) (input_since c k word)) (event_since c k word x)) y ≡ left y
    later = types_later c.main.params (types_kept c k) k.cuts (params_once c keeps.runnable) (kept_outside c k) keeps.is_typed.is_placed.has_cuts
        (word_derives (input_kept c k) word keeps.is_word) (event_follows (input_kept c k) word x keeps.is_word w.admits)

    same_types : (y : ℕ) → types_held (entries_on (awaited_in m.awaited.value) (one_of x (type_of m.input.value))) y ≡ left y
    same_types y =
        ap (λ (l : AwaitedTree). types_held (entries_on l (one_of x (type_of m.input.value))) y) keeps.awaits
        ∙ (ap (λ (d : StreamPrefix). types_held (entries_on (awaited_after (awaited_kept c k) (input_since c k word)) d) y) same_event ∙ later y)

module _ (m n : Coded) (x : StreamEvent) (answer : StreamPrefix) (room : m.events < 2 ^ 42) (t : TakesBy m n x answer) where
  -- after the event it stands for its program,
  pub stands_with_event : (word : List StreamEvent) → Awaits view_of CodedStands m word x → CodedStands n (word ++ x ∷ [])
  stands_with_event word w =
      keeps_tidy_simpler (program_of n) n.budget (state_by m x) (state_in n.state.value) (awaited_in n.awaited.value) (type_of n.input.value) (type_of n.output.value) n.events n.spent (word ++ x ∷ [])
      (goes_on_tidy_with (program_of m) m.budget (state_in m.state.value) (awaited_in m.awaited.value) (type_of m.input.value) (type_of m.output.value) m.events m.spent word x w.stands_after w.admits (run_by m x) refl t.within room
      (one_of x (type_of m.input.value)) (state_by m x) (program_of n) n.budget (awaited_in n.awaited.value) (type_of n.input.value) (type_of n.output.value) n.events n.spent refl refl t.program t.budget t.awaited t.input t.output t.events t.spent)
      t.state

  -- which said what it answered,
  pub answers_event : (word : List StreamEvent) → Awaits view_of CodedStands m word x → answer ≡ answer_to (program_of m) word x
  answers_event word w =
      t.is_answer
      ∙ is_answer (program_of m) m.budget (state_in m.state.value) (awaited_in m.awaited.value) (type_of m.input.value) (type_of m.output.value) m.events m.spent word x w.stands_after.below.keeps w.admits (run_by m x) refl t.within room

  -- or for the kept state,
  pub stands_with_event_since : (k : KeptTree) (word : List StreamEvent) → AwaitsSince view_of CodedSince m k word x → CodedSince n k (word ++ x ∷ [])
  stands_with_event_since k word w =
      keeps_simpler_since (program_of n) n.budget (state_by m x) (state_in n.state.value) (awaited_in n.awaited.value) (type_of n.input.value) (type_of n.output.value) n.events n.spent k (word ++ x ∷ [])
      (goes_on_since_with (program_of m) m.budget (state_in m.state.value) (awaited_in m.awaited.value) (type_of m.input.value) (type_of m.output.value) m.events m.spent k word x w.stands_since w.admits (run_by m x) refl t.within room
      (one_of x (type_of m.input.value)) (state_by m x) (program_of n) n.budget (awaited_in n.awaited.value) (type_of n.input.value) (type_of n.output.value) n.events n.spent refl refl t.program t.budget t.awaited t.input t.output t.events t.spent)
      t.state

  -- which said it then
  pub answers_event_since : (k : KeptTree) (word : List StreamEvent) → AwaitsSince view_of CodedSince m k word x → answer ≡ answer_since (program_of m) k word x
  answers_event_since k word w =
      t.is_answer
      ∙ is_answer_since (program_of m) m.budget (state_in m.state.value) (awaited_in m.awaited.value) (type_of m.input.value) (type_of m.output.value) m.events m.spent k word x w.stands_since w.admits (run_by m x) refl t.within room
