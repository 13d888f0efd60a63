-- Lets in one another: what is to be given in the body of those whose heads are shut is what was to be given in all.
use Rattle.std.specs.Prelude.{map, Result}
use Rattle.std.proofs.Common.{◌≡◌, ◌∙◌, ℕ, List, ◌+◌, ◌-◌, ◌≤◌, max, Bool, true, false, ◌||◌, ap, refl, sym, subst, arith}
use Rattle.stream_type.specs.StreamType.{StreamType}
use Rattle.stream_prefix.specs.StreamPrefix.{StreamPrefix, is_maximal, der}
use Rattle.stream_prefix.specs.Tree.{prefix_of}
use Rattle.bunch.specs.Names.{put}
use Rattle.core_term.specs.CoreTerm.{CoreTerm, is_var, let_term}
use Rattle.core_term.specs.Environment.{Environment, NameTypes}
use Rattle.core_term.specs.Run.{Run, deeper, let_run}
use Rattle.delta_state.specs.StateTree.{StateTree, let_state}
use Rattle.machine_parts.specs.declared.entry.Entry.{Entry}
use Rattle.machine_parts.specs.declared.scope.Scope.{Scope}
use Rattle.machine_parts.specs.declared.stop.Stop.{Stop}
use Rattle.machine_parts.specs.Scope.{types_in, streams_in, types_over, streams_over}
use Rattle.template_state.specs.declared.code.Code.{Code}
use Rattle.template_state.specs.declared.live.Past.{Past}
use Rattle.delta_code.specs.Eased.{Eased}
use Rattle.delta_code.specs.declared.way.Way.{Way}
use Rattle.delta_code.specs.declared.way.Reached.{Reached}
use Rattle.delta_code.specs.Gives.{Leads}
use Rattle.delta_code.specs.Steps.{run_where, rest_where}
use Rattle.delta_code.specs.Way.{after, gained, within}
use Rattle.delta_code.proofs.Easing.{eased_same, eased_then, eased_let, within_eased}
use Rattle.delta_code.proofs.Leading.{onward}

-- The run `first`, which leaves `kept`, was to come at the end of the way `old`, with `n` calls left. It is `rest`,
-- which leaves `left`, at the end of the way `new`, with `m` calls left; no call was at a greater level than `levels`.
pub record Nested (first rest : Run) (kept left : StateTree) (old new : Way) (n m levels : ℕ) : Type 0 where
  pub run : after new rest ≡ after old first
  pub state : Eased (within old.layers kept) (within new.layers left)
  pub counted : new.calls + m ≡ old.calls + n
  pub calls : first.calls + m ≡ rest.calls + n
  pub few : m ≤ n
  pub shallow : new.level ≤ max old.level levels
  pub level : rest.level ≤ first.level

-- before the first let
pub nest_begins : (first : Run) (kept : StateTree) (w : Way) (n levels : ℕ) → Nested first first kept kept w w n n levels
nest_begins first kept w n levels =
    record { run = refl; state = eased_same refl; counted = refl; calls = refl; few = omega arith; shallow = omega arith; level = omega arith }

-- what is left leads to what all of it was to lead to
pub nest_leads : {q : Result Reached Stop} {code : Code} {k : ℕ} {w : Way} {first rest : Run} {kept left : StateTree} {old new : Way} {n m levels : ℕ}
    → Nested first rest kept left old new n m levels → Leads q code k new w rest left m levels → Leads q code k old w first kept n levels
nest_leads h g =
    let counted = h.counted in
    let calls = h.calls in
    let shallow = h.shallow in
    let level = h.level in
    onward g h.run h.state (omega (arith, counted)) (omega (arith, shallow)) (λ f. omega (arith, calls, f)) (λ f. omega (arith, level, f))

-- what is left gives this run, and leaves this
pub nest_is : {first rest other : Run} {kept left state : StateTree} {old new : Way} {n m levels : ℕ} → Nested first rest kept left old new n m levels → rest ≡ other → left ≡ state
    → Nested first other kept state old new n m levels
nest_is {first = first} {kept = kept} {old = old} {new = new} {n = n} {m = m} {levels = levels} h e f =
    subst (λ (z : Run × StateTree). Nested first z.0 kept z.1 old new n m levels) (λ i. (e i, f i)) h

-- the level of a let whose head is shut
level_shut : (w : Bool) (x y : Run) (v : Bool) → (v || is_maximal x.out) ≡ w → w ≡ true → y.level ≤ (let_run v x y).level
level_shut w x y v e f = go (v || is_maximal x.out) refl
  where
    go : (u : Bool) → (v || is_maximal x.out) ≡ u → y.level ≤ (max (deeper false x.level) (deeper (v || is_maximal x.out) y.level))
    go true q = rw q (omega arith)
    go false q = absurd (cc (q, e, f))

module _ (code : Code) (k : ℕ) (es : Past) where
  -- what is left of a let
  pub let_left : (x : ℕ) (t : StreamType) (a b : CoreTerm) (r : StreamType) (types : NameTypes) (env : Environment) {head : Run} → head ≡ run_where code k es a types t env
      → rest_where code k es (let_term x t a b) types r env ≡ let_state x (der head.out t) (rest_where code k es a types t env) (rest_where code k es b (put x t types) r (put x head.out env))
  let_left x t a b r types env e =
      ap (λ (z : Run). let_state x (der z.out t) (rest_where code k es a types t env) (rest_where code k es b (put x t types) r (put x z.out env))) (sym e)

  -- in a let whose head is shut
  into_nest : (x : ℕ) (t : StreamType) (a b : CoreTerm) (r : StreamType) (types : NameTypes) (env : Environment)
      {first head : Run} {kept left : StateTree} {old mid new : Way} {n m levels : ℕ}
      → Nested first (run_where code k es (let_term x t a b) types r env) kept (rest_where code k es (let_term x t a b) types r env) old mid n m levels
      → head ≡ run_where code k es a types t env → Eased (rest_where code k es a types t env) left → (is_var a || is_maximal head.out) ≡ true → head.calls ≤ m → head.level ≤ levels - 1
      → ((z : Run) → after new z ≡ after mid (let_run (is_var a) head z))
      → ((z : StateTree) → within new.layers z ≡ within mid.layers (let_state x (der head.out t) left z))
      → new.calls ≡ mid.calls + head.calls → new.level ≡ max mid.level (deeper false head.level)
      → Nested first (run_where code k es b (put x t types) r (put x head.out env)) kept (rest_where code k es b (put x t types) r (put x head.out env)) old new n (m - head.calls) levels
  into_nest x t a b r types env {first = first} {head = head} {kept = kept} {left = left} {old = old} {mid = mid} {new = new} {n = n} {m = m} {levels = levels} h e eased shut c l gains layers calls level =
      let y = run_where code k es b (put x t types) r (put x head.out env) in
      let s = rest_where code k es b (put x t types) r (put x head.out env) in
      let same : run_where code k es (let_term x t a b) types r env ≡ let_run (is_var a) head y =
      ap (λ (z : Run). let_run (is_var a) z (run_where code k es b (put x t types) r (put x z.out env))) (sym e) in
      let there = let_left x t a b r types env e in
      let g = nest_is h same there in
      let counted = g.counted in
      let all = g.calls in
      let few = g.few in
      let shallow = g.shallow in
      let low = g.level in
      let inner = level_shut true head y (is_var a) shut refl in
      record {
        run = gains y ∙ g.run;
        state = eased_then g.state (eased_then (within_eased mid.layers (eased_let eased (eased_same refl))) (eased_same (sym (layers s))));
        counted = omega (arith, counted, calls, c);
        calls = omega (arith, all, c);
        few = omega (arith, few);
        shallow = omega (arith, shallow, level, l);
        level = omega (arith, low, inner);
      }

  -- where the head's name is bound behind the others, and what is left of the body is left of another term behind more
  nest_again : (known : Past) (bs mid new : List Entry) (x : ℕ) (t : StreamType) (q : StreamPrefix) (e other : CoreTerm) (s : Scope) (r : StreamType)
      {first : Run} {kept : StateTree} {old way on : Way} {n m levels : ℕ}
      → Nested first (run_where code k es e (put x t (types_over bs (types_in s))) r (put x q (streams_over bs (streams_in s)))) kept
      (rest_where code k es e (put x t (types_over bs (types_in s))) r (put x q (streams_over bs (streams_in s)))) old way n m levels
      → ((c : NameTypes) → types_over mid c ≡ put x t (types_over bs c)) → ((d : Environment) → streams_over mid d ≡ put x q (streams_over bs d))
      → run_where code k known other (types_over new (types_in s)) r (streams_over new (streams_in s)) ≡ run_where code k es e (types_over mid (types_in s)) r (streams_over mid (streams_in s))
      → within on.layers (rest_where code k known other (types_over new (types_in s)) r (streams_over new (streams_in s))) ≡ within way.layers (rest_where code k es e (types_over mid (types_in s)) r (streams_over mid (streams_in s)))
      → on.items ≡ way.items → on.calls ≡ way.calls → on.level ≡ way.level
      → Nested first (run_where code k known other (types_over new (types_in s)) r (streams_over new (streams_in s))) kept
      (rest_where code k known other (types_over new (types_in s)) r (streams_over new (streams_in s))) old on n m levels
  nest_again known bs mid new x t q e other s r {first = first} {kept = kept} {old = old} {way = way} {on = on} {n = n} {m = m} {levels = levels} h types streams run rest items calls level =
      let types_are = types (types_in s) in
      let streams_are = streams (streams_in s) in
      let g = nest_is h (λ i. run_where code k es e (sym types_are i) r (sym streams_are i)) (λ i. rest_where code k es e (sym types_are i) r (sym streams_are i)) in
      let counted = g.counted in
      let all = g.calls in
      let few = g.few in
      let shallow = g.shallow in
      let low = g.level in
      let fewer = ap (λ (z : Run). z.calls) run in
      let lower = ap (λ (z : Run). z.level) run in
      record {
        run = (λ i. gained (map prefix_of (items i).items) (calls i) (level i) (run i)) ∙ g.run;
        state = eased_then g.state (eased_same (sym rest));
        counted = omega (arith, counted, calls);
        calls = omega (arith, all, fewer);
        few = omega (arith, few);
        shallow = omega (arith, shallow, level);
        level = omega (arith, low, lower);
      }

  -- in a let whose head is shut, and on to what its body comes to with more bound behind the head's name
  pub nest_inward : (known : Past) (bs mid new : List Entry) (x : ℕ) (t : StreamType) (a b other : CoreTerm) (s : Scope) (r : StreamType) (named : Bool) (behind on : Way)
      {first head : Run} {kept left : StateTree} {old way : Way} {n m levels : ℕ}
      → Nested first (run_where code k es (let_term x t a b) (types_over bs (types_in s)) r (streams_over bs (streams_in s))) kept
      (rest_where code k es (let_term x t a b) (types_over bs (types_in s)) r (streams_over bs (streams_in s))) old way n m levels
      → head ≡ run_where code k es a (types_over bs (types_in s)) t (streams_over bs (streams_in s)) → Eased (rest_where code k es a (types_over bs (types_in s)) t (streams_over bs (streams_in s))) left
      → named ≡ is_var a → (named || is_maximal head.out) ≡ true → head.calls ≤ m → head.level ≤ levels - 1
      → ((z : Run) → after behind z ≡ after way (let_run named head z))
      → ((z : StateTree) → within behind.layers z ≡ within way.layers (let_state x (der head.out t) left z))
      → behind.calls ≡ way.calls + head.calls → behind.level ≡ max way.level (deeper false head.level)
      → ((c : NameTypes) → types_over mid c ≡ put x t (types_over bs c)) → ((d : Environment) → streams_over mid d ≡ put x head.out (streams_over bs d))
      → run_where code k known other (types_over new (types_in s)) r (streams_over new (streams_in s)) ≡ run_where code k es b (types_over mid (types_in s)) r (streams_over mid (streams_in s))
      → within on.layers (rest_where code k known other (types_over new (types_in s)) r (streams_over new (streams_in s))) ≡ within behind.layers (rest_where code k es b (types_over mid (types_in s)) r (streams_over mid (streams_in s)))
      → on.items ≡ behind.items → on.calls ≡ behind.calls → on.level ≡ behind.level
      → Nested first (run_where code k known other (types_over new (types_in s)) r (streams_over new (streams_in s))) kept
      (rest_where code k known other (types_over new (types_in s)) r (streams_over new (streams_in s))) old on n (m - head.calls) levels
  nest_inward known bs mid new x t a b other s r named behind on {head = head} {way = way} h e eased is shut c l gains layers calls level types streams run rest items same_calls same_level =
      nest_again known bs mid new x t head.out b other s r {on = on}
      (into_nest x t a b r (types_over bs (types_in s)) (streams_over bs (streams_in s)) {new = behind} h e eased (subst (λ (v : Bool). (v || is_maximal head.out) ≡ true) is shut) c l
      (λ z. gains z ∙ ap (λ (v : Bool). after way (let_run v head z)) is) layers calls level)
      types streams run rest items same_calls same_level
