-- What a machine keeps at its start and after an event, in terms of what it has in hand.
use Rattle.std.proofs.Common.{◌≡◌, ◌∙◌, ℕ, zero, suc, ◌<◌, ◌≤◌, ◌^◌, List, [], ◌∷◌, ◌++◌, ap, refl, sym, subst, arith}
use Rattle.std.specs.Prelude.{pred}
use Rattle.stream_type.specs.StreamType.{StreamType}
use Rattle.stream_prefix.specs.StreamPrefix.{StreamPrefix, emp, der, join}
use Rattle.stream_prefix.proofs.Derivations.{Derives}
use Rattle.stream_prefix.proofs.Joins.{emp_is_prefix}
use Rattle.event_word.specs.StreamEvent.{StreamEvent}
use Rattle.event_word.specs.Admits.{Admits}
use Rattle.event_word.specs.Word.{one_of, after_word}
use Rattle.event_word.proofs.Words.{word_derives}
use Rattle.core_term.specs.CoreTerm.{CoreProgram}
use Rattle.core_term.specs.Run.{Run}
use Rattle.core_term.specs.Meaning.{mean, calls_of, level_of, program_run, horizon}
use Rattle.delta_state.specs.StateTree.{HeldName, StateTree}
use Rattle.delta_state.specs.Stands.{input_type}
use Rattle.delta_state.specs.MachineView.{input_of, answer_to, IsCostly, IsDeep}
use Rattle.state_steps.specs.Laws.{IsRunnable}
use Rattle.state_steps.proofs.ProgramSteps.{event_derives}
use Rattle.main_steps.specs.Keeping.{Keeps}
use Rattle.main_steps.specs.Laws.{first_entries, next_entries, first_run_on, first_state_on, run_on, state_on, KeptNext, TellsCost}
use Rattle.main_steps.proofs.Keeping.{first_run, kept_first, kept_next, stops_for_program}
use Rattle.machine_parts.specs.AwaitedTree.{AwaitedTree, whole_of, left_of, entries_on, awaited_after, place_in}
use Rattle.machine_parts.specs.KeepsAll.{KeepsAll}
use Rattle.machine_parts.proofs.Awaiting.{entries_whole, entries_left, whole_left, left_after, place_left}

-- the depth at which a program begins
pub horizon_is : horizon ≡ 4611686018427387904
unfolding horizon
horizon_is = refl

-- a level from below above 1,001 is a level above 1,000
pub above_from_below : (n : ℕ) → 1001 < n → 1000 < pred n
above_from_below zero h = absurd (omega (arith, h))
above_from_below (suc n) h = omega (arith, h)

module _ (c : CoreProgram) where
  -- the names at the start
  same_first : entries_on (whole_of c.main.params) (emp (input_type c)) ≡ first_entries c
  same_first = entries_whole c.main.params (emp_is_prefix (input_type c))

  -- the first run is that of the program on nothing
  pub begins_as : first_run_on c (entries_on (whole_of c.main.params) (emp (input_type c))) ≡ program_run c (input_of c [])
  begins_as = ap (first_run_on c) same_first ∙ first_run c

  pub begins : IsRunnable c → (budget : ℕ) (r : Run) (s : StateTree) → r ≡ first_run_on c (entries_on (whole_of c.main.params) (emp (input_type c))) → s ≡ first_state_on c (entries_on (whole_of c.main.params) (emp (input_type c))) → r.calls ≤ budget → budget ≤ 1000000
      → KeepsAll c budget s (whole_of c.main.params) (input_type c) (der r.out c.main.result) 0 r.calls []
  begins runnable budget r s is_run is_state few limit =
      let same_run : r ≡ first_run_on c (first_entries c) = is_run ∙ ap (first_run_on c) same_first in
      let same_state : s ≡ first_state_on c (first_entries c) = is_state ∙ ap (first_state_on c) same_first in
      let all : r.calls ≤ 1000000 = omega (arith, few, limit) in
      let kept = (kept_first c runnable (subst (λ (x : Run). x.calls ≤ 1000000) same_run all)).keeps in
      record {
        keeps = subst (λ (x : Run). Keeps c s (input_of c []) (input_type c) (der x.out c.main.result) 0 []) (sym same_run)
            (subst (λ (x : StateTree). Keeps c x (input_of c []) (input_type c) (der (first_run_on c (first_entries c)).out c.main.result) 0 []) (sym same_state) kept);
        awaits = whole_left c.main.params;
        is_place = ap place_in (whole_left c.main.params) ∙ place_left c.main.params (emp_is_prefix (input_type c));
        in_budget = few;
        in_limit = limit;
      }

  -- in terms of what the machine holds then
  pub begins_with : IsRunnable c → (budget : ℕ) (r : Run) (s : StateTree) → r ≡ first_run_on c (entries_on (whole_of c.main.params) (emp (input_type c))) → s ≡ first_state_on c (entries_on (whole_of c.main.params) (emp (input_type c))) → r.calls ≤ budget → budget ≤ 1000000
      → (d : CoreProgram) (a : AwaitedTree) (input output : StreamType) → d ≡ c → a ≡ whole_of c.main.params → input ≡ input_type c → output ≡ der r.out c.main.result → KeepsAll d budget s a input output 0 r.calls []
  begins_with runnable budget r s is_run is_state few limit d a input output e f g h =
      subst (λ (p : CoreProgram). KeepsAll p budget s a input output 0 r.calls []) (sym e)
      (subst (λ (l : AwaitedTree). KeepsAll c budget s l input output 0 r.calls []) (sym f)
      (subst (λ (t : StreamType). KeepsAll c budget s (whole_of c.main.params) t output 0 r.calls []) (sym g)
      (subst (λ (t : StreamType). KeepsAll c budget s (whole_of c.main.params) (input_type c) t 0 r.calls []) (sym h) (begins runnable budget r s is_run is_state few limit))))

  -- what is given is the program's meaning on nothing, and more calls, or a greater level, than a number are its own
  pub begins_answer : (r : Run) → r ≡ first_run_on c (entries_on (whole_of c.main.params) (emp (input_type c))) → r.out ≡ mean c (input_of c [])
  begins_answer r is_run = ap (λ (x : Run). x.out) (is_run ∙ begins_as)

  pub begins_costly : (n : ℕ) → n < (first_run_on c (entries_on (whole_of c.main.params) (emp (input_type c)))).calls → n < calls_of c (input_of c [])
  begins_costly n h = subst (λ (x : Run). n < x.calls) begins_as h

  pub begins_deep : 1001 < (first_run_on c (entries_on (whole_of c.main.params) (emp (input_type c)))).level → 1000 < level_of c (input_of c [])
  begins_deep h = above_from_below _ (subst (λ (x : Run). 1001 < x.level) begins_as h)

module _ (c : CoreProgram) (budget : ℕ) (s : StateTree) (a : AwaitedTree) (input output : StreamType) (events spent : ℕ) (w : List StreamEvent) (x : StreamEvent) (k : KeepsAll c budget s a input output events spent w) (admits : Admits (after_word w (input_type c)) x) where
  -- what the event brings
  brings : Derives (der (input_of c w) (input_type c)) (one_of x input)
  brings = subst (λ (t : StreamType). Derives (der (input_of c w) (input_type c)) (one_of x t)) (sym k.keeps.is_input) (event_derives c w x k.keeps.is_word admits)

  -- the type that is left admits it
  pub admits_left : Admits input x
  admits_left = subst (λ (t : StreamType). Admits t x) (sym k.keeps.is_input) admits

  -- the names at the event
  same_next : entries_on a (one_of x input) ≡ next_entries c (input_of c w) input x
  same_next = ap (λ (l : AwaitedTree). entries_on l (one_of x input)) k.awaits ∙ entries_left c.main.params (word_derives (input_type c) w k.keeps.is_word) brings

  cost : TellsCost c s (input_of c w) input output w x
  cost = stops_for_program c s (input_of c w) input output events w x k.keeps admits_left

  pub is_costly : (n : ℕ) → n < (run_on c s output (entries_on a (one_of x input))).calls → IsCostly c n w x
  is_costly n h = cost.costly n (subst (λ (es : List HeldName). n < (run_on c s output es).calls) same_next h)

  pub is_deep : 1001 < (run_on c s output (entries_on a (one_of x input))).level → IsDeep c 1000 w x
  is_deep h = cost.deep 1000 (above_from_below _ (subst (λ (es : List HeldName). 1001 < (run_on c s output es).level) same_next h))

  module _ (r : Run) (is_run : r ≡ run_on c s output (entries_on a (one_of x input))) (few : r.calls ≤ budget) (room : events < 2 ^ 42) where
    same_run : r ≡ run_on c s output (next_entries c (input_of c w) input x)
    same_run = is_run ∙ ap (run_on c s output) same_next

    kept : KeptNext c s (input_of c w) input output events w x
    kept =
        let limit = k.in_limit in
        let all : r.calls ≤ 1000000 = omega (arith, few, limit) in
        kept_next c s (input_of c w) input output events w x k.keeps admits_left room (subst (λ (y : Run). y.calls ≤ 1000000) same_run all)

    -- what is given is the answer
    pub is_answer : r.out ≡ answer_to c w x
    is_answer = ap (λ (y : Run). y.out) same_run ∙ kept.answers

    -- and the machine keeps after the event what it kept
    pub goes_on : (s' : StateTree) → s' ≡ state_on c s output (entries_on a (one_of x input)) → KeepsAll c budget s' (awaited_after a (one_of x input)) (der (one_of x input) input) (der r.out output) (suc events) r.calls (w ++ x ∷ [])
    goes_on s' is_state =
        let came : join (input_of c w) (one_of x input) ≡ input_of c (w ++ x ∷ []) = kept.keeps.is_came in
        let same_state : s' ≡ state_on c s output (next_entries c (input_of c w) input x) = is_state ∙ ap (state_on c s output) same_next in
        let awaits : awaited_after a (one_of x input) ≡ left_of c.main.params (input_of c (w ++ x ∷ [])) =
        ap (λ (l : AwaitedTree). awaited_after l (one_of x input)) k.awaits ∙ (left_after c.main.params (word_derives (input_type c) w k.keeps.is_word) brings ∙ ap (left_of c.main.params) came) in
        record {
          keeps = subst (λ (p : StreamPrefix). Keeps c s' p (der (one_of x input) input) (der r.out output) (suc events) (w ++ x ∷ [])) came
              (subst (λ (y : Run). Keeps c s' (join (input_of c w) (one_of x input)) (der (one_of x input) input) (der y.out output) (suc events) (w ++ x ∷ [])) (sym same_run)
              (subst (λ (y : StateTree). Keeps c y (join (input_of c w) (one_of x input)) (der (one_of x input) input) (der (run_on c s output (next_entries c (input_of c w) input x)).out output) (suc events) (w ++ x ∷ [])) (sym same_state) kept.keeps));
          awaits = awaits;
          is_place = ap place_in awaits ∙ place_left c.main.params (word_derives (input_type c) (w ++ x ∷ []) kept.keeps.is_word);
          in_budget = few;
          in_limit = k.in_limit;
        }

    -- in terms of what the machine holds then, next being what came
    pub goes_on_with : (next : StreamPrefix) (s' : StateTree) (d : CoreProgram) (budget' : ℕ) (a' : AwaitedTree) (input' output' : StreamType) (events' spent' : ℕ) → next ≡ one_of x input → s' ≡ state_on c s output (entries_on a (one_of x input)) → d ≡ c → budget' ≡ budget → a' ≡ awaited_after a next → input' ≡ der next input
        → output' ≡ der r.out output → events' ≡ suc events → spent' ≡ r.calls → KeepsAll d budget' s' a' input' output' events' spent' (w ++ x ∷ [])
    goes_on_with next s' d budget' a' input' output' events' spent' n is_state e b f g h i j =
        let f' : a' ≡ awaited_after a (one_of x input) = f ∙ ap (awaited_after a) n in
        let g' : input' ≡ der (one_of x input) input = g ∙ ap (λ (p : StreamPrefix). der p input) n in
        subst (λ (p : CoreProgram). KeepsAll p budget' s' a' input' output' events' spent' (w ++ x ∷ [])) (sym e)
        (subst (λ (m : ℕ). KeepsAll c m s' a' input' output' events' spent' (w ++ x ∷ [])) (sym b)
        (subst (λ (l : AwaitedTree). KeepsAll c budget s' l input' output' events' spent' (w ++ x ∷ [])) (sym f')
        (subst (λ (t : StreamType). KeepsAll c budget s' (awaited_after a (one_of x input)) t output' events' spent' (w ++ x ∷ [])) (sym g')
        (subst (λ (t : StreamType). KeepsAll c budget s' (awaited_after a (one_of x input)) (der (one_of x input) input) t events' spent' (w ++ x ∷ [])) (sym h)
        (subst (λ (m : ℕ). KeepsAll c budget s' (awaited_after a (one_of x input)) (der (one_of x input) input) (der r.out output) m spent' (w ++ x ∷ [])) (sym i)
        (subst (λ (m : ℕ). KeepsAll c budget s' (awaited_after a (one_of x input)) (der (one_of x input) input) (der r.out output) (suc events) m (w ++ x ∷ [])) (sym j) (goes_on s' is_state)))))))
