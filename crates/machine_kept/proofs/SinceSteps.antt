-- What a machine keeps that goes on from a kept state: at the beginning, after an event, and once its state is put
-- into a simpler form. So it can be kept again.
use Rattle.std.proofs.Common.{◌≡◌, ◌∙◌, ℕ, suc, true, ◌+◌, ◌<◌, ◌≤◌, ◌^◌, List, [], ◌∷◌, ◌++◌, length, ap, ap₂, sym, subst, arith, length-append}
use Rattle.stream_type.specs.StreamType.{StreamType, eps}
use Rattle.stream_prefix.specs.StreamPrefix.{StreamPrefix, emp, der, join}
use Rattle.stream_prefix.proofs.Derivations.{Derives, is_prefix}
use Rattle.stream_prefix.proofs.Joins.{der-emp, der-join}
use Rattle.bunch.specs.BunchTree.{leaf_names}
use Rattle.event_word.specs.StreamEvent.{StreamEvent}
use Rattle.event_word.specs.Admits.{Admits}
use Rattle.event_word.specs.Word.{one_of, after_word}
use Rattle.event_word.proofs.Words.{word_derives, after_word-push}
use Rattle.core_term.specs.CoreTerm.{CoreProgram, fun_at, past_names}
use Rattle.core_term.specs.FreeNames.{bound_names, is_distinct}
use Rattle.core_term.specs.Run.{Run}
use Rattle.core_term.specs.Inert.{is_inert_fun}
use Rattle.core_term.proofs.BoundOnce.{distinct_left, distinct_right}
use Rattle.delta_state.specs.StateTree.{StateTree}
use Rattle.delta_state.specs.StateMeaning.{types_held, prefixes_held, run_state}
use Rattle.delta_state.specs.StateTyping.{no_pasts}
use Rattle.delta_state.specs.Rest.{rest_of}
use Rattle.delta_state.specs.PlaceTree.{PlaceTree}
use Rattle.delta_state.specs.Stands.{depth_after}
use Rattle.delta_state.proofs.SettledStates.{settled_nothing}
use Rattle.state_steps.specs.Laws.{IsRunnable}
use Rattle.state_steps.proofs.LongerWords.{event_follows, prefix_with_event}
use Rattle.state_steps.proofs.SourceSteps.{extends_types, state_gives}
use Rattle.main_steps.specs.Laws.{run_on, state_on}
use Rattle.state_rewriting.specs.Rewriting.{SimplerBy}
use Rattle.machine_parts.specs.AwaitedTree.{AwaitedTree, entries_on, awaited_after, place_in}
use Rattle.machine_parts.proofs.StandingTrees.{above_from_below}
use Rattle.kept_state.specs.KeptTree.{KeptTree}
use Rattle.kept_state.specs.KeptTyping.{types_kept, context_kept, IsTypedKept}
use Rattle.kept_state.specs.KeptNames.{IsTidy}
use Rattle.kept_state.specs.KeptMeaning.{input_kept, split_kept, split_kept_after, calls_kept, level_kept, types_since, output_since, rest_run_kept, rest_mean_kept, next_kept, StandsForKept}
use Rattle.kept_state.specs.KeptSince.{place_kept, place_since, kept_since}
use Rattle.kept_state.specs.Laws.{input_since, event_since, StandsForKeptAfter, GoesOnKeptWith, IsKeptSince}
use Rattle.kept_state.proofs.RestSplits.{rest_empty, rest_after_derives}
use Rattle.kept_state.proofs.KeptSteps.{kept_derives, resumes_word, goes_on_kept_word}
use Rattle.kept_state.proofs.KeptAgain.{keeps_again}
use Rattle.kept_state.proofs.TidyPrograms.{stays_tidy}
use Rattle.kept_state.proofs.TidyKeptStates.{typed_is_tidy}
use Rattle.names_kept.proofs.SimplerNames.{simpler_is_tidy}
use Rattle.machine_kept.specs.KeptAwaiting.{awaited_kept}
use Rattle.machine_kept.specs.SinceView.{answer_since, IsCostlySince, IsDeepSince}
use Rattle.machine_kept.specs.Keeping.{KeepsSince}
use Rattle.machine_kept.proofs.KeptAwaited.{after_nothing, after_both, values_in_turn, types_later, prefixes_later, place_after, place_first}
use Rattle.machine_kept.proofs.SimplerSince.{kept_outside, simpler_stands_since}

-- main's parameters are distinct
pub params_once : (c : CoreProgram) → IsRunnable c → is_distinct (leaf_names c.main.params) ≡ true
params_once c runnable = distinct_left (leaf_names c.main.params) (bound_names c.main.body) (distinct_right (past_names c.main) (leaf_names c.main.params ++ bound_names c.main.body) runnable.is_core.main_once.is_once)

-- before anything more came a kept state has given nothing, so all of its output is left
pub output_first : (c : CoreProgram) (k : KeptTree) → IsTypedKept c k → output_since c k (emp (input_kept c k)) ≡ k.out
output_first c k typed =
    ap (λ p. der p k.out)
    (settled_nothing c.funs (is_inert_fun c.funs) k.state (context_kept c k) (types_kept c k) no_pasts k.out (extends_types c.main.params (types_kept c k)) typed.is_typed typed.settled (split_kept c k (emp (input_kept c k)))
    (record { at = λ x m. ap (λ e. e x) (rest_empty c.main.params (types_kept c k) k.cuts) })).out
    ∙ der-emp k.out

-- what is awaited has the place of the kept state, gone on by what came
place_is : (c : CoreProgram) → IsRunnable c → (k : KeptTree) → IsTypedKept c k → {p : StreamPrefix} → Derives (input_kept c k) p → place_in (awaited_after (awaited_kept c k) p) ≡ place_since c k p
place_is c runnable k typed h = place_after c.main.params (types_kept c k) k.cuts (params_once c runnable) (kept_outside c k) typed.is_placed.has_cuts h

-- before anything more came it is the kept state's own
pub place_resumed : (c : CoreProgram) → IsRunnable c → (k : KeptTree) → IsTypedKept c k → place_in (awaited_kept c k) ≡ place_kept k
place_resumed c runnable k typed =
    place_first c.main.params (types_kept c k) k.cuts (params_once c runnable) (kept_outside c k) typed.is_placed.has_cuts
    ∙ ap (λ (i : List StreamType). let p : PlaceTree = record { ins = i; cuts = k.cuts } in p) (values_in_turn eps (leaf_names c.main.params) k.ins (params_once c runnable) typed.is_placed.has_types)

-- a machine begins with what it has to keep, in terms of what it holds then
pub resumes_with : (c : CoreProgram) → IsRunnable c → (k : KeptTree) → IsTypedKept c k → (budget : ℕ) → budget ≤ 1000000
    → (d : CoreProgram) (s : StateTree) (a : AwaitedTree) (input output : StreamType) (events : ℕ) → d ≡ c → s ≡ k.state → a ≡ awaited_kept c k → input ≡ input_kept c k → output ≡ k.out → events ≡ k.events → KeepsSince d budget s a input output events 0 k []
resumes_with c runnable k typed budget within d s a input output events e f g h i j =
    subst (λ (p : CoreProgram). KeepsSince p budget s a input output events 0 k []) (sym e)
    record {
      runnable = runnable;
      is_typed = typed;
      is_word = tt;
      stands_for = subst (λ (t : StateTree). StandsForKeptAfter c k [] t) (sym f) (resumes_word c k runnable typed);
      is_input = h;
      is_output = i ∙ sym (output_first c k typed);
      is_count = let n : k.events ≡ k.events + 0 = omega arith in j ∙ n;
      awaits = g ∙ sym (after_nothing c.main.params (types_kept c k) k.cuts);
      is_place = ap place_in (g ∙ sym (after_nothing c.main.params (types_kept c k) k.cuts)) ∙ place_is c runnable k typed (word_derives (input_kept c k) [] tt);
      in_budget = let n : 0 ≤ budget = omega arith in n;
      in_limit = within;
      tidy = subst (λ (t : StateTree). IsTidy (leaf_names c.main.params) t) (sym f) (typed_is_tidy c k typed);
    }

module _ (c : CoreProgram) (budget : ℕ) (s : StateTree) (a : AwaitedTree) (input output : StreamType) (events spent : ℕ) (k : KeptTree) (w : List StreamEvent) (x : StreamEvent) (keeps : KeepsSince c budget s a input output events spent k w) (admits : Admits (after_word w (input_kept c k)) x) where
  -- what came, and what the event brings
  came : Derives (input_kept c k) (input_since c k w)
  came = word_derives (input_kept c k) w keeps.is_word

  brings : Derives (der (input_since c k w) (input_kept c k)) (event_since c k w x)
  brings = event_follows (input_kept c k) w x keeps.is_word admits

  with_event : input_since c k (w ++ x ∷ []) ≡ join (input_since c k w) (event_since c k w x)
  with_event = prefix_with_event (input_kept c k) w x keeps.is_word admits

  same_event : one_of x input ≡ event_since c k w x
  same_event = ap (one_of x) keeps.is_input

  -- the names at the event have what is left of their types, and what comes on them
  same_types : types_held (entries_on a (one_of x input)) ≡ types_since c k (input_since c k w)
  same_types = ap₂ (λ l p. types_held (entries_on l p)) keeps.awaits same_event ∙ later
    where
      later : types_held (entries_on (awaited_after (awaited_kept c k) (input_since c k w)) (event_since c k w x)) ≡ types_since c k (input_since c k w)
      later = λ i y. types_later c.main.params (types_kept c k) k.cuts (params_once c keeps.runnable) (kept_outside c k) keeps.is_typed.is_placed.has_cuts came brings y i

  same_prefixes : prefixes_held (entries_on a (one_of x input)) ≡ split_kept_after c k (input_since c k w) (event_since c k w x)
  same_prefixes = ap₂ (λ l p. prefixes_held (entries_on l p)) keeps.awaits same_event ∙ later
    where
      later : prefixes_held (entries_on (awaited_after (awaited_kept c k) (input_since c k w)) (event_since c k w x)) ≡ split_kept_after c k (input_since c k w) (event_since c k w x)
      later = λ i y. prefixes_later c.main.params (types_kept c k) k.cuts (params_once c keeps.runnable) (kept_outside c k) keeps.is_typed.is_placed.has_cuts came brings y i

  -- so the state has the run on them that it has on what the event brings, and leaves the next state
  same_run : run_on c s output (entries_on a (one_of x input)) ≡ rest_run_kept c k (input_since c k w) s (event_since c k w x)
  same_run = λ i. run_state (fun_at c.funs) s (same_types i) (keeps.is_output i) (same_prefixes i)

  same_state : state_on c s output (entries_on a (one_of x input)) ≡ next_kept c k (input_since c k w) s (event_since c k w x)
  same_state = λ i. rest_of (fun_at c.funs) s (same_types i) (keeps.is_output i) (same_prefixes i)

  -- more calls, or a greater level, than a number are those of the kept state
  pub is_costly_since : (n : ℕ) → n < (run_on c s output (entries_on a (one_of x input))).calls → IsCostlySince c k n w x
  is_costly_since n h =
      let few = keeps.stands_for.calls_rest (event_since c k w x) (is_prefix brings) in
      let more = subst (λ (r : Run). n < r.calls) same_run h in
      subst (λ (p : StreamPrefix). calls_kept c k (input_since c k w) + n < calls_kept c k p) (sym with_event) (omega (arith, few, more))

  pub is_deep_since : 1001 < (run_on c s output (entries_on a (one_of x input))).level → IsDeepSince c k 1000 w x
  is_deep_since h =
      let low = keeps.stands_for.levels_below (event_since c k w x) (is_prefix brings) in
      let above = above_from_below _ (subst (λ (r : Run). 1001 < r.level) same_run h) in
      subst (λ (p : StreamPrefix). 1000 < level_kept c k p) (sym with_event) (omega (arith, low, above))

  module _ (r : Run) (is_run : r ≡ run_on c s output (entries_on a (one_of x input))) (few : r.calls ≤ budget) (room : events < 2 ^ 42) where
    -- the state goes on with the event
    goes_on : GoesOnKeptWith c k w s x
    goes_on =
        let limit = keeps.in_limit in
        let all : r.calls ≤ 1000000 = omega (arith, few, limit) in
        goes_on_kept_word c k w x s keeps.runnable keeps.is_typed keeps.is_word admits (subst (λ (n : ℕ). n < 2 ^ 42) keeps.is_count room) keeps.stands_for (subst (λ (y : Run). y.calls ≤ 1000000) (is_run ∙ same_run) all)

    -- so what is given is the answer,
    pub is_answer_since : r.out ≡ answer_since c k w x
    is_answer_since = ap (λ (y : Run). y.out) (is_run ∙ same_run) ∙ goes_on.answers

    -- which leaves of the output what is left after the longer word
    output_after : der (rest_mean_kept c k (input_since c k w) s (event_since c k w x)) (output_since c k (input_since c k w)) ≡ output_since c k (input_since c k (w ++ x ∷ []))
    output_after =
        let p = input_since c k w in
        let d = event_since c k w x in
        let gives : Derives (output_since c k p) (rest_mean_kept c k p s d) =
        state_gives c keeps.runnable s (types_since c k p) (output_since c k p) (split_kept_after c k p d) keeps.stands_for.is_typed (record { at = rest_after_derives c.main.params (types_kept c k) k.cuts came brings }) in
        sym (der-join (kept_derives c keeps.runnable k keeps.is_typed came) gives)
        ∙ (ap (λ q. der q k.out) (sym (keeps.stands_for.gives_rest d (is_prefix brings))) ∙ ap (output_since c k) (sym with_event))

    -- and the machine keeps after the event what it kept, in terms of what it holds then, next being what came
    pub goes_on_since_with : (next : StreamPrefix) (s' : StateTree) (d : CoreProgram) (budget' : ℕ) (a' : AwaitedTree) (input' output' : StreamType) (events' spent' : ℕ) → next ≡ one_of x input → s' ≡ state_on c s output (entries_on a (one_of x input)) → d ≡ c → budget' ≡ budget
        → a' ≡ awaited_after a next → input' ≡ der next input → output' ≡ der r.out output → events' ≡ suc events → spent' ≡ r.calls → KeepsSince d budget' s' a' input' output' events' spent' k (w ++ x ∷ [])
    goes_on_since_with next s' d budget' a' input' output' events' spent' n is_state e b f g h i j =
        subst (λ (p : CoreProgram). KeepsSince p budget' s' a' input' output' events' spent' k (w ++ x ∷ [])) (sym e)
        record {
          runnable = keeps.runnable;
          is_typed = keeps.is_typed;
          is_word = goes_on.is_word;
          stands_for = subst (λ (t : StateTree). StandsForKeptAfter c k (w ++ x ∷ []) t) (sym (is_state ∙ same_state)) goes_on.stands_for;
          is_input = g ∙ (ap₂ der (n ∙ same_event) keeps.is_input ∙ sym (after_word-push (input_kept c k) w x));
          is_output = h ∙ (ap₂ der (ap (λ (y : Run). y.out) (is_run ∙ same_run)) keeps.is_output ∙ output_after);
          is_count = i ∙ (ap suc keeps.is_count ∙ one_more_event);
          awaits = then;
          is_place = ap place_in then ∙ place_is c keeps.runnable k keeps.is_typed (word_derives (input_kept c k) (w ++ x ∷ []) goes_on.is_word);
          in_budget = subst (λ (m : ℕ). spent' ≤ m) (sym b) (subst (λ (m : ℕ). m ≤ budget) (sym j) few);
          in_limit = subst (λ (m : ℕ). m ≤ 1000000) (sym b) keeps.in_limit;
          tidy = subst (λ (t : StateTree). IsTidy (leaf_names c.main.params) t) (sym is_state)
              (stays_tidy c (leaf_names c.main.params) s (types_held (entries_on a (one_of x input))) output (prefixes_held (entries_on a (one_of x input))) keeps.runnable keeps.tidy);
        }
      where
        then : a' ≡ awaited_after (awaited_kept c k) (input_since c k (w ++ x ∷ []))
        then =
            f
            ∙ (ap₂ awaited_after keeps.awaits (n ∙ same_event)
            ∙ (after_both c.main.params (types_kept c k) k.cuts came brings ∙ ap (awaited_after (awaited_kept c k)) (sym with_event)))

        one_more_event : suc (k.events + length w) ≡ k.events + length (w ++ x ∷ [])
        one_more_event = let l = length-append w (x ∷ []) in omega (arith, l)

-- a machine keeps what it kept with a simpler state in place of its own
pub keeps_simpler_since : (c : CoreProgram) (budget : ℕ) (s t : StateTree) (a : AwaitedTree) (input output : StreamType) (events spent : ℕ) (k : KeptTree) (word : List StreamEvent) → KeepsSince c budget s a input output events spent k word → SimplerBy output s t
    → KeepsSince c budget t a input output events spent k word
keeps_simpler_since c budget s t a input output events spent k word keeps simpler = record {
  runnable = keeps.runnable;
  is_typed = keeps.is_typed;
  is_word = keeps.is_word;
  stands_for = simpler_stands_since c keeps.runnable k (depth_after (k.events + length word)) (input_since c k word) (word_derives (input_kept c k) word keeps.is_word) s t keeps.stands_for (subst (λ (r : StreamType). SimplerBy r s t) keeps.is_output simpler);
  is_input = keeps.is_input;
  is_output = keeps.is_output;
  is_count = keeps.is_count;
  awaits = keeps.awaits;
  is_place = keeps.is_place;
  in_budget = keeps.in_budget;
  in_limit = keeps.in_limit;
  tidy = simpler_is_tidy (leaf_names c.main.params) output s t keeps.tidy simpler;
}

-- what is kept of it goes on just as the kept state: its place, its output, its count and its state
pub is_kept_again : (c : CoreProgram) (budget : ℕ) (s : StateTree) (a : AwaitedTree) (input output : StreamType) (events spent : ℕ) (k : KeptTree) (word : List StreamEvent) → KeepsSince c budget s a input output events spent k word → events ≤ 2 ^ 41
    → (l : KeptTree) → l.events ≡ events → place_kept l ≡ place_in a → l.out ≡ output → l.state ≡ s → IsKeptSince c k (input_since c k word) l
is_kept_again c budget s a input output events spent k word h few l e f g i =
    subst (λ (m : KeptTree). IsKeptSince c k (input_since c k word) m) (sym same)
    (keeps_again c k (input_since c k word) events s h.runnable h.is_typed (is_prefix (word_derives (input_kept c k) word h.is_word)) few stands h.tidy)
  where
    stands : StandsForKept c k (depth_after events) (input_since c k word) s
    stands = subst (λ (n : ℕ). StandsForKept c k (depth_after n) (input_since c k word) s) (sym h.is_count) h.stands_for

    same : l ≡ kept_since c k (input_since c k word) events s
    same =
        let place = f ∙ h.is_place in
        let out = g ∙ h.is_output in
        λ j. record { events = e j; ins = (place j).ins; cuts = (place j).cuts; out = out j; state = i j }
