-- A chain of items: what is to be given behind those that are whole is what was to be given in all.
use Rattle.std.specs.Prelude.{Result}
use Rattle.std.proofs.Common.{◌≡◌, ◌∙◌, ℕ, ◌+◌, ◌-◌, ◌≤◌, max, Bool, true, false, true≢false, ap, refl, sym, subst, arith}
use Rattle.stream_type.specs.StreamType.{StreamType, eps, one, int, cat, par, sum, star}
use Rattle.stream_prefix.specs.StreamPrefix.{cat_fst, is_maximal}
use Rattle.core_term.specs.CoreTerm.{CoreTerm, cons_term}
use Rattle.core_term.specs.Parts.{star_item, star_items, as_star}
use Rattle.core_term.specs.Run.{Run, relabel, cat_run_at}
use Rattle.delta_state.specs.StateTree.{StateTree, cat_state}
use Rattle.machine_parts.specs.declared.scope.Scope.{Scope}
use Rattle.machine_parts.specs.declared.stop.Stop.{Stop}
use Rattle.machine_parts.proofs.Runs.{rest_goes, rest_waits}
use Rattle.template_state.specs.declared.code.Code.{Code}
use Rattle.template_state.specs.declared.live.Past.{Past}
use Rattle.template_state.specs.Readers.{known_in}
use Rattle.delta_code.specs.Eased.{Eased}
use Rattle.delta_code.specs.declared.way.Way.{Way}
use Rattle.delta_code.specs.Steps.{op_run, op_rest}
use Rattle.delta_code.specs.declared.way.Reached.{Reached}
use Rattle.delta_code.specs.Gives.{Leads}
use Rattle.delta_code.specs.Way.{after, within}
use Rattle.delta_code.proofs.Easing.{eased_same, eased_then, eased_cat}
use Rattle.delta_code.proofs.Gains.{cons_runs}
use Rattle.delta_code.proofs.Leading.{onward}

-- The run `first`, which leaves `kept`, was to come at the end of the way `old`, with `n` calls left. It is `rest`,
-- which leaves `left`, at the end of the way `new`, with `m` calls left; no call was at a greater level than `levels`.
pub record Chained (first rest : Run) (kept left : StateTree) (old new : Way) (n m levels : ℕ) : Type 0 where
  pub run : after new rest ≡ after old first
  pub state : kept ≡ left
  pub layers : new.layers ≡ old.layers
  pub counted : new.calls + m ≡ old.calls + n
  pub calls : first.calls + m ≡ rest.calls + n
  pub few : m ≤ n
  pub shallow : new.level ≤ max old.level levels
  pub level : rest.level ≤ first.level

-- what is left of the chain leads to what all of it was to lead to
pub chain_leads : {q : Result Reached Stop} {code : Code} {k : ℕ} {w : Way} {first rest : Run} {kept left : StateTree} {old new : Way} {n m levels : ℕ}
    → Chained first rest kept left old new n m levels → Leads q code k new w rest left m levels → Leads q code k old w first kept n levels
chain_leads h g =
    let counted = h.counted in
    let calls = h.calls in
    let shallow = h.shallow in
    let level = h.level in
    onward g h.run (eased_same (λ i. within (sym h.layers i) (h.state i))) (omega (arith, counted)) (omega (arith, shallow)) (λ f. omega (arith, calls, f)) (λ f. omega (arith, level, f))

-- the calls and the level of two in turn, of which the first is whole
calls_in_turn : (w : Bool) (x y : Run) → w ≡ true → (cat_run_at w x y).calls ≡ x.calls + y.calls
calls_in_turn true x y h = refl
calls_in_turn false x y h = absurd (true≢false (sym h))

level_in_turn : (w : Bool) (x y : Run) → w ≡ true → (cat_run_at w x y).level ≡ max x.level y.level
level_in_turn true x y h = refl
level_in_turn false x y h = absurd (true≢false (sym h))

module _ (code : Code) (k : ℕ) (s : Scope) (es : Past) where
  -- a chain at the type of what is left of its star
  run_again : (a b : CoreTerm) (r : StreamType) → op_run code k s es (cons_term a b) (star_items r) ≡ op_run code k s es (cons_term a b) r
  run_again a b eps = refl
  run_again a b one = refl
  run_again a b int = refl
  run_again a b (cat t u) = refl
  run_again a b (par t u) = refl
  run_again a b (sum t u) = refl
  run_again a b (star t) = refl

  rest_again : (a b : CoreTerm) (r : StreamType) → op_rest code k s es (cons_term a b) (star_items r) ≡ op_rest code k s es (cons_term a b) r
  rest_again a b eps = refl
  rest_again a b one = refl
  rest_again a b int = refl
  rest_again a b (cat t u) = refl
  rest_again a b (par t u) = refl
  rest_again a b (sum t u) = refl
  rest_again a b (star t) = refl

  -- what is left of an item that is whole and of the items after it
  cons_rest : (a b : CoreTerm) (r : StreamType) (head : Run) → head ≡ op_run code k s es a (star_item r) → is_maximal head.out ≡ true
      → op_rest code k s es (cons_term a b) r ≡ op_rest code k s es b (star_items r)
  cons_rest a b r head e w = sym (rest_goes head _ _ _ e w)

  -- what is left of an item that isn't whole, and of the items after it
  pub cons_waits : (a b : CoreTerm) (r : StreamType) (head : Run) (left : StateTree) → head ≡ op_run code k s es a (star_item r) → is_maximal head.out ≡ false → Eased (op_rest code k s es a (star_item r)) left
      → Eased (op_rest code k s es (cons_term a b) r) (cat_state left (record { term = b; past = known_in es; depth = k }))
  cons_waits a b r head left e w h = eased_then (eased_same (sym (rest_waits head _ _ _ e w))) (eased_cat h)

  -- what is given of an item that isn't whole, and of the items after it
  pub cons_begins : (a b : CoreTerm) (r : StreamType) (head : Run) → head ≡ op_run code k s es a (star_item r) → is_maximal head.out ≡ false
      → relabel as_star (relabel cat_fst head) ≡ op_run code k s es (cons_term a b) r
  cons_begins a b r head e w =
      let x = op_run code k s es a (star_item r) in
      let y = op_run code k s es b (star_items r) in
      ap (λ (z : Run). relabel as_star (relabel cat_fst z)) e ∙ ap (λ (u : Bool). relabel as_star (cat_run_at u x y)) (sym (subst (λ (z : Run). is_maximal z.out ≡ false) e w))

  -- behind an item that is whole
  pub chain_behind : (a b : CoreTerm) (r : StreamType) {first head : Run} {kept : StateTree} {old mid new : Way} {n m levels : ℕ}
      → Chained first (op_run code k s es (cons_term a b) r) kept (op_rest code k s es (cons_term a b) r) old mid n m levels
      → head ≡ op_run code k s es a (star_item r) → is_maximal head.out ≡ true → head.calls ≤ m → head.level ≤ levels
      → ((z : Run) → after new z ≡ after mid (relabel as_star (cat_run_at true head z)))
      → new.layers ≡ mid.layers → new.calls ≡ mid.calls + head.calls → new.level ≡ max mid.level head.level
      → Chained first (op_run code k s es b (star_items r)) kept (op_rest code k s es b (star_items r)) old new n (m - head.calls) levels
  chain_behind a b r {head = head} {mid = mid} h e w c l behind layers calls level =
      let x = op_run code k s es a (star_item r) in
      let y = op_run code k s es b (star_items r) in
      let whole : is_maximal x.out ≡ true = subst (λ (z : Run). is_maximal z.out ≡ true) e w in
      let same_calls : head.calls ≡ x.calls = ap (λ (z : Run). z.calls) e in
      let in_all = calls_in_turn (is_maximal x.out) x y whole in
      let at = level_in_turn (is_maximal x.out) x y whole in
      let counted = h.counted in
      let left = h.calls in
      let few = h.few in
      let shallow = h.shallow in
      let low = h.level in
      record {
        run = behind y ∙ (ap (after mid) (cons_runs head y x y e refl w) ∙ h.run);
        state = h.state ∙ cons_rest a b r head e w;
        layers = layers ∙ h.layers;
        counted = omega (arith, counted, calls, c);
        calls = omega (arith, left, in_all, same_calls, c);
        few = omega (arith, few);
        shallow = omega (arith, shallow, level, l);
        level = omega (arith, low, at);
      }

  -- the items after it, where they are a chain again
  pub chain_again : (b x y : CoreTerm) (r : StreamType) {first : Run} {kept : StateTree} {old new : Way} {n m levels : ℕ}
      → Chained first (op_run code k s es b (star_items r)) kept (op_rest code k s es b (star_items r)) old new n m levels → b ≡ cons_term x y
      → Chained first (op_run code k s es (cons_term x y) r) kept (op_rest code k s es (cons_term x y) r) old new n m levels
  chain_again b x y r {first = first} {kept = kept} {old = old} {new = new} {n = n} {m = m} {levels = levels} h e =
      let run = ap (λ (z : CoreTerm). op_run code k s es z (star_items r)) e ∙ run_again x y r in
      let rest = ap (λ (z : CoreTerm). op_rest code k s es z (star_items r)) e ∙ rest_again x y r in
      subst (λ (z : Run × StateTree). Chained first z.0 kept z.1 old new n m levels) (λ i. (run i, rest i)) h
