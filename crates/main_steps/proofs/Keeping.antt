-- What a machine keeps beside its state after a word, and that it keeps it after one event more.
use Rattle.std.proofs.Common.{◌≡◌, ◌∙◌, ◌≤◌, ◌<◌, ◌+◌, ◌^◌, ℕ, suc, List, [], ◌∷◌, ◌++◌, length, ap, ap₂, refl, subst, sym, arith}
use Rattle.std.specs.Prelude.{pred}
use Rattle.stream_type.specs.StreamType.{StreamType}
use Rattle.stream_prefix.specs.StreamPrefix.{StreamPrefix, emp, der, join}
use Rattle.stream_prefix.proofs.Derivations.{Derives, is_prefix}
use Rattle.stream_prefix.proofs.Joins.{emp_is_prefix, der-join}
use Rattle.event_word.specs.StreamEvent.{StreamEvent}
use Rattle.event_word.specs.Admits.{Admits}
use Rattle.event_word.specs.Word.{one_of, after_word}
use Rattle.event_word.proofs.Words.{word_derives, after_word-push}
use Rattle.core_term.specs.CoreTerm.{CoreProgram, fun_at}
use Rattle.core_term.specs.Environment.{left_at}
use Rattle.core_term.specs.Agreement.{types_in}
use Rattle.core_term.specs.Split.{split, split_after}
use Rattle.core_term.specs.Meaning.{mean, calls_of, level_of, program_run, run_at, no_past, horizon}
use Rattle.delta_state.specs.StateTree.{StateTree}
use Rattle.delta_state.specs.StateMeaning.{run_state}
use Rattle.delta_state.specs.Rest.{rest_at, rest_of, first_state, next_state}
use Rattle.delta_state.specs.Stands.{StandsFor, input_type, output_left, rest_run, rest_calls, rest_level, rest_mean, depth_after}
use Rattle.delta_state.specs.MachineView.{input_of, answer_to, IsCostly, IsDeep}
use Rattle.state_steps.specs.Laws.{IsRunnable, GoesOnWith}
use Rattle.state_steps.proofs.RunnablePrograms.{mean_derives}
use Rattle.state_steps.proofs.ProgramSteps.{rest_is_left, event_derives, input_after, begins_word, goes_on_word}
use Rattle.main_steps.specs.Keeping.{Keeps}
use Rattle.main_steps.specs.Laws.{first_entries, next_entries, first_run_on, first_state_on, run_on, state_on, KeepsFirst, KeepsNext, StopsForProgram}
use Rattle.main_steps.proofs.SplitLists.{split_lists, later_lists}

-- main's body on the names before any event has the run of the program,
pub first_run : (c : CoreProgram) → first_run_on c (first_entries c) ≡ program_run c (emp (input_type c))
first_run c =
    let l = split_lists c.main.params (emp_is_prefix (input_type c)) in
    ap₂ (λ T d. run_at (fun_at c.funs) horizon c.main.body T c.main.result d no_past) (λ i x. l.are_types x i) (λ i x. l.are_prefixes x i)

-- and leaves its first state,
pub first_rest : (c : CoreProgram) → first_state_on c (first_entries c) ≡ first_state c
first_rest c =
    let l = split_lists c.main.params (emp_is_prefix (input_type c)) in
    ap₂ (λ T d. rest_at (fun_at c.funs) horizon c.main.body T c.main.result d []) (λ i x. l.are_types x i) (λ i x. l.are_prefixes x i)

-- with which a machine keeps what it has to
pub keeps_first : (c : CoreProgram) → IsRunnable c → calls_of c (input_of c []) ≤ 1000000 → Keeps c (first_state c) (emp (input_type c)) (input_type c) (der (mean c (emp (input_type c))) c.main.result) 0 []
keeps_first c runnable le = record { runnable = runnable; is_word = tt; stands_for = begins_word c runnable le; is_came = refl; is_input = refl; is_output = refl; is_count = refl }

-- a word with an event more has one event more
one_longer : {A : Type 0} (xs : List A) (x : A) → suc (length xs) ≡ length (xs ++ x ∷ [])
one_longer [] x = refl
one_longer (y ∷ xs) x = ap suc (one_longer xs x)

module _ (c : CoreProgram) (s : StateTree) (came : StreamPrefix) (input output : StreamType) (events : ℕ) (w : List StreamEvent) (x : StreamEvent) (k : Keeps c s came input output events w) (admits : Admits (after_word w (input_type c)) x) where
  -- what the event brings
  next : Derives (der (input_of c w) (input_type c)) (one_of x (after_word w (input_type c)))
  next = event_derives c w x k.is_word admits

  -- the state on the names at the event has the run that it has on what the event brings,
  pub next_run : run_on c s output (next_entries c came input x) ≡ rest_run c (input_of c w) s (one_of x (after_word w (input_type c)))
  next_run =
      let l = later_lists c.main.params (word_derives (input_type c) w k.is_word) next in
      ap₂ (λ p t. run_on c s output (next_entries c p t x)) k.is_came k.is_input
      ∙ (ap₂ (λ T d. run_state (fun_at c.funs) s T output d) (λ i y. l.are_types y i) (λ i y. l.are_prefixes y i)
      ∙ ap (λ r. run_state (fun_at c.funs) s (left_at (split c.main.params (input_of c w)) (types_in c.main.params)) r (split_after c.main.params (input_of c w) (one_of x (after_word w (input_type c))))) k.is_output)

  -- and leaves the next state
  pub next_rest : state_on c s output (next_entries c came input x) ≡ next_state c (input_of c w) s (one_of x (after_word w (input_type c)))
  next_rest =
      let l = later_lists c.main.params (word_derives (input_type c) w k.is_word) next in
      ap₂ (λ p t. state_on c s output (next_entries c p t x)) k.is_came k.is_input
      ∙ (ap₂ (λ T d. rest_of (fun_at c.funs) s T output d) (λ i y. l.are_types y i) (λ i y. l.are_prefixes y i)
      ∙ ap (λ r. rest_of (fun_at c.funs) s (left_at (split c.main.params (input_of c w)) (types_in c.main.params)) r (split_after c.main.params (input_of c w) (one_of x (after_word w (input_type c))))) k.is_output)

  -- the event alone makes more calls than these, where the state does
  pub costly : (n : ℕ) → n < rest_calls c (input_of c w) s (one_of x (after_word w (input_type c))) → IsCostly c n w x
  costly n h =
      let le = k.stands_for.calls_rest (one_of x (after_word w (input_type c))) (is_prefix next) in
      subst (λ p. calls_of c (input_of c w) + n < calls_of c p) (sym (input_after c w x k.is_word admits)) (omega (arith, h, le))

  -- and the program makes a call at a level above this one
  pub deep : (n : ℕ) → n < rest_level c (input_of c w) s (one_of x (after_word w (input_type c))) → IsDeep c n w x
  deep n h =
      let le = k.stands_for.levels_below (one_of x (after_word w (input_type c))) (is_prefix next) in
      subst (λ p. n < level_of c p) (sym (input_after c w x k.is_word admits)) (less _ _ h le)
    where
      less : (a b : ℕ) → n < a → a ≤ b → n < b
      less a b h k = omega (arith, h, k)

  module _ (room : length w < 2 ^ 42) (le : rest_calls c (input_of c w) s (one_of x (after_word w (input_type c))) ≤ 1000000) where
    -- the state goes on with the event
    goes_on : GoesOnWith c w s x
    goes_on = goes_on_word c w x s k.runnable k.is_word admits room (subst (λ n. StandsFor c (depth_after n) (input_of c w) s) k.is_count k.stands_for) le

    -- so what it gives is the answer,
    pub answers : rest_mean c (input_of c w) s (one_of x (after_word w (input_type c))) ≡ answer_to c w x
    answers = goes_on.answers

    -- which leaves of the output what is left after the longer word,
    output_after : der (rest_mean c (input_of c w) s (one_of x (after_word w (input_type c)))) output ≡ output_left c (input_of c (w ++ x ∷ []))
    output_after =
        let d = one_of x (after_word w (input_type c)) in
        let h = word_derives (input_type c) w k.is_word in
        let given = k.stands_for.gives_rest d (is_prefix next) in
        ap (der (rest_mean c (input_of c w) s d)) k.is_output
        ∙ (sym (der-join (mean_derives c k.runnable (input_of c w) h) (rest_is_left c k.runnable (depth_after events) (input_of c w) d s h next k.stands_for))
        ∙ (ap (λ p. der p c.main.result) (sym given) ∙ ap (λ p. der (mean c p) c.main.result) (sym (input_after c w x k.is_word admits))))

    -- and a machine keeps over the longer word what it kept
    pub keeps_next : Keeps c (next_state c (input_of c w) s (one_of x (after_word w (input_type c)))) (join came (one_of x input)) (der (one_of x input) input) (der (rest_mean c (input_of c w) s (one_of x (after_word w (input_type c)))) output) (suc events) (w ++ x ∷ [])
    keeps_next = record {
      runnable = k.runnable;
      is_word = goes_on.is_word;
      stands_for = subst (λ n. StandsFor c (depth_after (suc n)) (input_of c (w ++ x ∷ [])) (next_state c (input_of c w) s (one_of x (after_word w (input_type c))))) (sym k.is_count) goes_on.stands_for;
      is_came = ap₂ (λ p t. join p (one_of x t)) k.is_came k.is_input ∙ sym (input_after c w x k.is_word admits);
      is_input = ap (λ t. der (one_of x t) t) k.is_input ∙ sym (after_word-push (input_type c) w x);
      is_output = output_after;
      is_count = ap suc k.is_count ∙ one_longer w x;
    }

-- the same in terms of what the machine has in hand
pub kept_first : KeepsFirst
kept_first c runnable le =
    let e = first_run c in
    record {
      answers = ap (λ r. r.out) e;
      keeps = subst (λ s. Keeps c s (emp (input_type c)) (input_type c) (der (first_run_on c (first_entries c)).out c.main.result) 0 []) (sym (first_rest c))
          (subst (λ r. Keeps c (first_state c) (emp (input_type c)) (input_type c) (der r.out c.main.result) 0 []) (sym e) (keeps_first c runnable (subst (λ r. r.calls ≤ 1000000) e le)));
    }

pub kept_next : KeepsNext
kept_next c s came input output events w x k admits room le =
    let a = subst (λ t. Admits t x) k.is_input admits in
    let e = next_run c s came input output events w x k a in
    let short : length w < 2 ^ 42 = subst (λ n. n < 2 ^ 42) k.is_count room in
    let few = subst (λ r. r.calls ≤ 1000000) e le in
    let came' = join came (one_of x input) in
    let input' = der (one_of x input) input in
    let out = (run_on c s output (next_entries c came input x)).out in
    record {
      answers = ap (λ r. r.out) e ∙ answers c s came input output events w x k a short few;
      keeps = subst (λ s'. Keeps c s' came' input' (der out output) (suc events) (w ++ x ∷ [])) (sym (next_rest c s came input output events w x k a))
          (subst (λ r. Keeps c (next_state c (input_of c w) s (one_of x (after_word w (input_type c)))) came' input' (der r.out output) (suc events) (w ++ x ∷ [])) (sym e) (keeps_next c s came input output events w x k a short few));
    }

pub stops_for_program : StopsForProgram
stops_for_program c s came input output events w x k admits =
    let a = subst (λ t. Admits t x) k.is_input admits in
    let e = next_run c s came input output events w x k a in
    record {
      costly = λ n h. costly c s came input output events w x k a n (subst (λ r. n < r.calls) e h);
      deep = λ n h. deep c s came input output events w x k a n (subst (λ r. n < pred r.level) e h);
    }
