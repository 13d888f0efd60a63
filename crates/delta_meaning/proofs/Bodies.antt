-- The core of a function runs as the function does, at every depth.
use Rattle.std.proofs.Common.{◌≡◌, ℕ, zero, suc, ◌+◌, ◌≤◌, ◌<◌, Bool, true, false, true≢false, ◌||◌, List, [], ◌++◌, length, if◌then◌else◌, Some, None, is_some, refl, sym, ap, ap₂, ◌∙◌, arith}
use Rattle.stream_prefix.specs.StreamPrefix.{StreamPrefix, eps_emp, emp}
use Rattle.bunch.specs.Names.{holds, place_in, value_at}
use Rattle.bunch.specs.BunchTree.{BunchTree, empty, leaf, comma, semi, leaf_names}
use Rattle.bunch.proofs.Tables.{place_in-within, value_at-none}
use Rattle.hist_value.specs.HistValue.{HistValue, unit_value}
use Rattle.core_term.specs.CoreTerm.{CoreBody, leaf_types}
use Rattle.core_term.specs.Environment.{Environment}
use Rattle.core_term.specs.Agreement.{types_in}
use Rattle.core_term.specs.Split.{split}
use Rattle.core_term.specs.Run.{Run, one_call}
use Rattle.core_term.specs.Meaning.{Past, no_past, Calls, run_with, body_run, call_at, main_run}
use Rattle.core_term.specs.Typing.{context_of, IsTypedBody}
use Rattle.core_term.specs.Inert.{is_inert_fun}
use Rattle.core_term.proofs.Sides.{by_left, by_right}
use Rattle.delta_meaning.specs.SourceBody.{SourceBody}
use Rattle.delta_meaning.specs.SourceMeaning.{source_past_names, source_past, source_run, source_body_run, source_call_at, source_main_run}
use Rattle.delta_meaning.specs.Elaboration.{numbered_params, no_numbers, param_numbers, core_body}
use Rattle.delta_meaning.specs.Faults.{faults_in, bound_at_first}
use Rattle.delta_meaning.proofs.Fitting.{Fits}
use Rattle.delta_meaning.proofs.StreamNames.{ReadsStreams, typed_reads}
use Rattle.delta_meaning.proofs.Keeping.{keeps}
use Rattle.delta_meaning.proofs.Params.{counted, Renamed, holds-counted-below, holds-counted-above, place_in-apart, numbered_names-there, numbered_names-other, leaf_names-numbered, past_names-numbered, renamed-list, renamed-types, renamed-split}

-- the names of a body's stream parameters, and the number of the first
abbrev streams_of : SourceBody → List ℕ
streams_of b = leaf_names b.params

abbrev first_stream : SourceBody → ℕ → ℕ
first_stream b n = n + length (source_past_names b)

-- where a parameter stands, and so its number
data Place (b : SourceBody) (n x : ℕ) : Type 0 where
  among_streams : holds x (streams_of b) ≡ true → param_numbers b n x ≡ first_stream b n + place_in x (streams_of b) → place_in x (streams_of b) < length (streams_of b) → Place b n x
  among_pasts : holds x (streams_of b) ≡ false → holds x (source_past_names b) ≡ true → param_numbers b n x ≡ n + place_in x (source_past_names b)
      → place_in x (source_past_names b) < length (source_past_names b) → Place b n x

place_of : (b : SourceBody) (n x : ℕ) → bound_at_first b x ≡ true → Place b n x
place_of b n x h = go (holds x (streams_of b)) refl
  where
    go : (c : Bool) → holds x (streams_of b) ≡ c → Place b n x
    go true e = among_streams e (numbered_names-there (streams_of b) (first_stream b n) _ x e) (place_in-within x (streams_of b) e)
    go false e =
        let there = sym (ap (λ c. c || holds x (source_past_names b)) e) ∙ h in
        among_pasts e there (numbered_names-other (streams_of b) (first_stream b n) _ x e ∙ numbered_names-there (source_past_names b) n no_numbers x there)
        (place_in-within x (source_past_names b) there)

-- what a body's environments have at first in the tree and in the core
record Begins (b : SourceBody) (n : ℕ) (env core_env : Environment) (past core_past : Past) : Type 0 where
  prefixes : Renamed (streams_of b) (first_stream b n) env core_env
  hidden : (x : ℕ) → holds x (streams_of b) ≡ true → past x ≡ unit_value
  shown : (x k : ℕ) → holds x (streams_of b) ≡ false → holds x (source_past_names b) ≡ true → k ≡ n + place_in x (source_past_names b) → past x ≡ core_past k
  none : (k : ℕ) → first_stream b n ≤ k → core_past k ≡ unit_value

-- the numbers of a body's stream parameters
abbrev pub stream_numbers : SourceBody → ℕ → ℕ → Bool
stream_numbers b n k = holds k (counted (leaf_names b.params) (n + length (source_past_names b)))

-- then they agree
fits_first : (b : SourceBody) (n : ℕ) {env core_env : Environment} {past core_past : Past} → Begins b n env core_env past core_past
    → Fits (bound_at_first b) (param_numbers b n) (stream_numbers b n) (first_stream b n + length (streams_of b)) (types_in b.params) env past (types_in (numbered_params b.params (first_stream b n))) core_env core_past
fits_first b n {env = env} {core_env = core_env} {past = past} {core_past = core_past} f = record {
  type_is = λ x h i. stream x i (place_of b n x h) (renamed-types b.params m);
  prefix_is = λ x h i. stream x i (place_of b n x h) f.prefixes;
  value_is = λ x h. value x (place_of b n x h);
  is_below = λ x h. below x (place_of b n x h);
  is_apart = λ x y h i e. apart x y e (place_of b n x h) (place_of b n y i);
  is_fresh = λ k le. f.none k (omega (arith, le));
}
  where
    m : ℕ
    m = first_stream b n

    stream : {A : Type 0} {g i : ℕ → A} (x : ℕ) → stream_numbers b n (param_numbers b n x) ≡ true → Place b n x → Renamed (streams_of b) (first_stream b n) g i → g x ≡ i (param_numbers b n x)
    stream x h (among_streams there e lt) r = r.at x (param_numbers b n x) there e
    stream x h (among_pasts off there e lt) r =
        absurd (true≢false (sym h ∙ holds-counted-below (streams_of b) (first_stream b n) (param_numbers b n x) (omega (arith, e, lt))))

    value : (x : ℕ) → Place b n x → past x ≡ core_past (param_numbers b n x)
    value x (among_streams there e lt) = f.hidden x there ∙ sym (f.none (param_numbers b n x) (omega (arith, e)))
    value x (among_pasts off there e lt) = f.shown x (param_numbers b n x) off there e

    below : (x : ℕ) → Place b n x → param_numbers b n x < first_stream b n + length (streams_of b)
    below x (among_streams there e lt) = omega (arith, e, lt)
    below x (among_pasts off there e lt) = omega (arith, e, lt)

    apart : (x y : ℕ) → param_numbers b n x ≡ param_numbers b n y → Place b n x → Place b n y → x ≡ y
    apart x y q (among_streams there e lt) (among_streams also d le) = place_in-apart (streams_of b) x y there also (omega (arith, q, e, d))
    apart x y q (among_streams there e lt) (among_pasts off also d le) = absurd (omega (arith, q, e, d, le))
    apart x y q (among_pasts off there e lt) (among_streams also d le) = absurd (omega (arith, q, e, d, lt))
    apart x y q (among_pasts off there e lt) (among_pasts of also d le) = place_in-apart (source_past_names b) x y there also (omega (arith, q, e, d))

begins_called : (b : SourceBody) (n : ℕ) (vs : List HistValue) (ps : List StreamPrefix)
    → Begins b n (value_at eps_emp (streams_of b) ps) (value_at eps_emp (counted (streams_of b) (first_stream b n)) ps) (source_past b vs) (value_at unit_value (counted (source_past_names b) n) vs)
begins_called b n vs ps = record {
  prefixes = renamed-list eps_emp (streams_of b) ps (first_stream b n);
  hidden = λ x h. by_left (streams_of b) no_past (value_at unit_value (source_past_names b) vs) x h;
  shown = λ x k off there e. by_right (streams_of b) no_past (value_at unit_value (source_past_names b) vs) x off ∙ (renamed-list unit_value (source_past_names b) vs n).at x k there e;
  none = λ k le. value_at-none unit_value (counted (source_past_names b) n) vs k (holds-counted-above (source_past_names b) n k le);
}

-- the main program has no historical parameters
begins_main : (b : SourceBody) (n : ℕ) → b.past ≡ [] → (p : StreamPrefix)
    → Begins b n (split b.params p) (split (numbered_params b.params (first_stream b n)) p) no_past no_past
begins_main b n none p = record {
  prefixes = renamed-split b.params p (first_stream b n);
  hidden = λ x h. refl;
  shown = λ x k off there e. refl;
  none = λ k le. refl;
}

-- a typed core of a body reads only stream names as such
pub core_reads : (functions : ℕ → SourceBody) (number : ℕ → ℕ) (funs : List CoreBody) (b : SourceBody) (n : ℕ) → IsTypedBody funs (core_body functions number b n)
    → ReadsStreams (core_body functions number b n).body (stream_numbers b n)
core_reads functions number funs b n h =
    let core = core_body functions number b n in
    typed_reads funs (is_inert_fun funs) core.body (context_of core) core.result (record { is_stream = λ k. go k (holds k (leaf_names core.params)) refl }) h
  where
    go : (k : ℕ) (c : Bool) → holds k (leaf_names (numbered_params b.params (first_stream b n))) ≡ c
        → is_some (if c then Some (types_in (numbered_params b.params (first_stream b n)) k) else None) ≡ true → stream_numbers b n k ≡ true
    go k true e h = sym (ap (holds k) (leaf_names-numbered b.params (first_stream b n))) ∙ e
    go k false e h = absurd (true≢false (sym h))

-- numbers for names leave the types as they are
pub leaf_types-numbered : (b : BunchTree) (m : ℕ) → leaf_types (numbered_params b m) ≡ leaf_types b
leaf_types-numbered empty m = refl
leaf_types-numbered (leaf x t) m = refl
leaf_types-numbered (comma a b) m = ap₂ ◌++◌ (leaf_types-numbered a m) (leaf_types-numbered b (m + length (leaf_names a)))
leaf_types-numbered (semi a b) m = ap₂ ◌++◌ (leaf_types-numbered a m) (leaf_types-numbered b (m + length (leaf_names a)))

module _ (functions : ℕ → SourceBody) (number : ℕ → ℕ) (is_there : ℕ → Bool) where
  -- a function's core is that of its number, nothing is wrong with its names, and it reads only stream names as such
  pub record IsElaborated (b : SourceBody) (core : CoreBody) : Type 0 where
    pub first : ℕ
    pub is : core ≡ core_body functions number b first
    pub fine : faults_in is_there b.type_names b.body (bound_at_first b) ≡ []
    pub reads : ReadsStreams (core_body functions number b first).body (stream_numbers b first)

module _ (functions : ℕ → SourceBody) (number : ℕ → ℕ) (is_there : ℕ → Bool) (funs : ℕ → CoreBody) where
  module _ (call core_call : Calls)
      (same_types : (f : ℕ) → is_there f ≡ true → leaf_types (funs (number f)).params ≡ leaf_types (functions f).params)
      (same_calls : (f : ℕ) (vs : List HistValue) (ps : List StreamPrefix) → is_there f ≡ true → core_call (number f) vs ps ≡ call f vs ps) where
    begun_keeps : (b : SourceBody) (n : ℕ) → faults_in is_there b.type_names b.body (bound_at_first b) ≡ [] → ReadsStreams (core_body functions number b n).body (stream_numbers b n)
        → {env core_env : Environment} {past core_past : Past} → Begins b n env core_env past core_past
        → run_with funs core_call (core_body functions number b n).body (types_in (numbered_params b.params (first_stream b n))) b.result core_env core_past
        ≡ source_run functions call b.type_names b.body (types_in b.params) b.result env past
    begun_keeps b n fine reads f = keeps functions number is_there funs call core_call same_types same_calls b.type_names b.body b.result (fits_first b n f) fine reads

    body_keeps : (b : SourceBody) (core : CoreBody) → IsElaborated functions number is_there b core → (vs : List HistValue) (ps : List StreamPrefix)
        → body_run funs core_call core vs ps ≡ source_body_run functions call b vs ps
    body_keeps b core e vs ps =
        let n = e.first in
        let there = core_body functions number b n in
        ap (λ c. body_run funs core_call c vs ps) e.is
        ∙ (ap₂ (λ ns ms. run_with funs core_call there.body (types_in there.params) there.result (value_at eps_emp ns ps) (value_at unit_value ms vs)) (leaf_names-numbered b.params (first_stream b n)) (past_names-numbered b.past n)
        ∙ begun_keeps b n e.fine e.reads (begins_called b n vs ps))

    start_keeps : (b : SourceBody) (core : CoreBody) → IsElaborated functions number is_there b core → b.past ≡ [] → (p : StreamPrefix)
        → run_with funs core_call core.body (types_in core.params) core.result (split core.params p) no_past
        ≡ source_run functions call b.type_names b.body (types_in b.params) b.result (split b.params p) no_past
    start_keeps b core e none p =
        ap (λ c. run_with funs core_call (CoreBody.body c) (types_in c.params) c.result (split c.params p) no_past) e.is ∙ begun_keeps b e.first e.fine e.reads (begins_main b e.first none p)

  module _ (all : (f : ℕ) → is_there f ≡ true → IsElaborated functions number is_there (functions f) (funs (number f))) where
    all_types : (f : ℕ) → is_there f ≡ true → leaf_types (funs (number f)).params ≡ leaf_types (functions f).params
    all_types f h = let e = all f h in ap (λ c. leaf_types (CoreBody.params c)) e.is ∙ leaf_types-numbered (functions f).params (first_stream (functions f) e.first)

    -- calls give the same at every depth
    pub calls_keep : (k f : ℕ) (vs : List HistValue) (ps : List StreamPrefix) → is_there f ≡ true → call_at funs k (number f) vs ps ≡ source_call_at functions k f vs ps
    unfolding call_at source_call_at
    calls_keep zero f vs ps h = let e = all f h in ap (λ c. let a : Run = record { out = emp (CoreBody.result c); calls = 1; level = 0 } in a) e.is
    calls_keep (suc k) f vs ps h =
        ap one_call (body_keeps (source_call_at functions k) (call_at funs k) all_types (λ g ws qs i. calls_keep k g ws qs i) (functions f) (funs (number f)) (all f h) vs ps)

    -- and so do bodies
    pub bodies_keep : (k : ℕ) (b : SourceBody) (core : CoreBody) → IsElaborated functions number is_there b core → (vs : List HistValue) (ps : List StreamPrefix)
        → body_run funs (call_at funs k) core vs ps ≡ source_body_run functions (source_call_at functions k) b vs ps
    bodies_keep k b core e vs ps = body_keeps (source_call_at functions k) (call_at funs k) all_types (calls_keep k) b core e vs ps

    pub main_keeps : (k : ℕ) (b : SourceBody) (core : CoreBody) → IsElaborated functions number is_there b core → b.past ≡ [] → (p : StreamPrefix) → main_run funs k core p ≡ source_main_run functions k b p
    main_keeps k b core e none p = start_keeps (source_call_at functions k) (call_at funs k) all_types (calls_keep k) b core e none p

    -- on each environment
    pub environments_keep : (k : ℕ) (b : SourceBody) (core : CoreBody) (e : IsElaborated functions number is_there b core) → b.past ≡ [] → (env core_env : Environment)
        → ((x : ℕ) → holds x (leaf_names b.params) ≡ true → env x ≡ core_env (param_numbers b e.first x))
        → run_with funs (call_at funs k) core.body (types_in core.params) core.result core_env no_past
        ≡ source_run functions (source_call_at functions k) b.type_names b.body (types_in b.params) b.result env no_past
    environments_keep k b core e none env core_env same =
        ap (λ c. run_with funs (call_at funs k) (CoreBody.body c) (types_in c.params) c.result core_env no_past) e.is
        ∙ begun_keeps (source_call_at functions k) (call_at funs k) all_types (calls_keep k) b e.first e.fine e.reads
        (record {
          prefixes = record { at = λ x i h q. same x h ∙ ap core_env (numbered_names-there (streams_of b) (first_stream b e.first) _ x h ∙ sym q) };
          hidden = λ x h. refl;
          shown = λ x i off there q. refl;
          none = λ i le. refl;
        })
