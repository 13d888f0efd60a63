-- The step theorem for whatever a state may stand for: a program, or a state that takes a program's place.
use Rattle.std.proofs.Common.{◌≡◌, ◌∙◌, ℕ, ap, ap₂, subst, sym, arith, Bool, true, false, if◌then◌else◌, ◌≤◌, ◌+◌}
use Rattle.std.specs.List.{All}
use Rattle.std.specs.Prelude.{Some, None, pred}
use Rattle.stream_type.specs.StreamType.{StreamType}
use Rattle.stream_prefix.specs.Increment.{increment}
use Rattle.stream_prefix.specs.StreamPrefix.{StreamPrefix, emp, der, join, IsPrefix, IsPart}
use Rattle.stream_prefix.proofs.Derivations.{Derives, derives, is_prefix}
use Rattle.stream_prefix.proofs.Increments.{increment-join}
use Rattle.stream_prefix.proofs.Joins.{emp_is_prefix, der-join, join_assoc, join_is_prefix}
use Rattle.bunch.specs.BunchTree.{BunchTree, leaf_names, stands_before}
use Rattle.bunch.specs.Names.{holds}
use Rattle.core_term.specs.Agreement.{Agrees}
use Rattle.core_term.specs.CoreTerm.{fun_at, CoreProgram}
use Rattle.core_term.specs.Environment.{Environment, NameTypes, left_at}
use Rattle.core_term.specs.Inert.{is_inert_fun}
use Rattle.core_term.specs.Run.{Run}
use Rattle.core_term.specs.Typing.{Context}
use Rattle.core_term.proofs.GrowingRuns.{Streams, continues_same}
use Rattle.core_term.proofs.TypedTerms.{Extends}
use Rattle.delta_state.specs.Rest.{rest_of}
use Rattle.delta_state.specs.Settled.{is_settled}
use Rattle.delta_state.specs.StateMeaning.{run_state}
use Rattle.delta_state.specs.StateTree.{StateTree, laters_of}
use Rattle.delta_state.specs.StateTyping.{HasStateType, no_pasts}
use Rattle.delta_state.proofs.GrowingStates.{state_run_grows}
use Rattle.state_steps.specs.Laws.{IsRunnable}
use Rattle.state_steps.proofs.FactsWithin.{within_itself}
use Rattle.state_steps.proofs.NarrowedStates.{narrow_state}
use Rattle.state_steps.proofs.RestsOfRuns.{Rest, rest_to}
use Rattle.state_steps.proofs.Inputs.{Inputs, left_type, left_context}
use Rattle.state_steps.proofs.Steps.{Step}
use Rattle.state_steps.proofs.StateSteps.{IsReady, state_step}
use Rattle.state_steps.proofs.SplitInputs.{IsSplit, after_join, left_of_both, after_is_part}
use Rattle.state_steps.proofs.RunnablePrograms.{all_apart}

-- what is at most a number is at most what that number is at most
pub le_trans : (i j k : ℕ) → i ≤ j → j ≤ k → i ≤ k
le_trans i j k h l = omega (arith, h, l)

-- and so it is with one less on both sides
pub pred_le : (i j : ℕ) → i ≤ j → pred i ≤ pred j
pred_le i j h = omega (arith, h)

-- the context of a bunch's names in their order, over these types
abbrev pub context_of_types : BunchTree → NameTypes → Context
context_of_types b T = record { types = λ x. if holds x (leaf_names b) then Some (T x) else None; order = stands_before b; past = no_pasts }

-- has the types that it was made of
pub extends_types : (b : BunchTree) (T : NameTypes) → Extends (context_of_types b T) T no_pasts
extends_types b T = record { stream = λ x t i. go x t (holds x (leaf_names b)) i; historical = λ x t i. i }
  where
    go : (x : ℕ) (t : StreamType) (i : Bool) → (if i then Some (T x) else None) ≡ Some t → T x ≡ t
    go x t true e = cc e
    go x t false e = absurd (cc e)

-- what a state of a program may stand for: it has an input, which is split over the names of main's parameters in
-- their order, and a run on each prefix of it, which gives a prefix of its output
pub record Source (c : CoreProgram) : Type 0 where
  pub input : StreamType
  pub types : NameTypes
  pub output : StreamType
  pub run : StreamPrefix → Run
  pub before : StreamPrefix → Environment
  pub after : StreamPrefix → StreamPrefix → Environment
  pub is_split : IsSplit input types before after
  pub agrees : {p q : StreamPrefix} → Derives input p → Derives (der p input) q → Agrees (left_at (before p) types) (stands_before c.main.params) (after p q)
  pub gives : {p : StreamPrefix} → Derives input p → Derives output (run p).out

module _ (c : CoreProgram) (F : Source c) where
  -- the types that are left after p,
  abbrev pub types_at : StreamPrefix → NameTypes
  types_at p = left_at (F.before p) F.types

  -- what is left of the output,
  abbrev pub output_at : StreamPrefix → StreamType
  output_at p = der (F.run p).out F.output

  -- the run of a state on what comes then,
  abbrev pub run_at_rest : StreamPrefix → StateTree → StreamPrefix → Run
  run_at_rest p s q = run_state (fun_at c.funs) s (types_at p) (output_at p) (F.after p q)

  -- and the state that follows
  abbrev pub state_at_rest : StreamPrefix → StateTree → StreamPrefix → StateTree
  state_at_rest p s d = rest_of (fun_at c.funs) s (types_at p) (output_at p) (F.after p d)

  -- the state stands for the source after p, and each code in it that isn't reached has a depth of n or more
  pub record StandsForSource (n : ℕ) (p : StreamPrefix) (s : StateTree) : Type 0 where
    pub is_typed : HasStateType c.funs (is_inert_fun c.funs) (context_of_types c.main.params (types_at p)) s (output_at p)
    pub settled : is_settled s (output_at p) ≡ true
    pub is_deep : All (λ l. n ≤ l.depth) (laters_of s)
    pub gives_rest : (q : StreamPrefix) → IsPrefix (der p F.input) q → (F.run (join p q)).out ≡ join (F.run p).out (run_at_rest p s q).out
    pub calls_rest : (q : StreamPrefix) → IsPrefix (der p F.input) q → (F.run p).calls + (run_at_rest p s q).calls ≤ (F.run (join p q)).calls
    pub calls_rise : (q r : StreamPrefix) → IsPrefix (der p F.input) q → IsPrefix (der q (der p F.input)) r
        → (F.run (join p q)).calls + (run_at_rest p s (join q r)).calls ≤ (F.run (join p (join q r))).calls + (run_at_rest p s q).calls
    pub levels_below : (q : StreamPrefix) → IsPrefix (der p F.input) q → pred (run_at_rest p s q).level ≤ pred (F.run (join p q)).level

-- a typed state gives a prefix of its type
pub state_gives : (c : CoreProgram) → IsRunnable c → (s : StateTree) (T : NameTypes) (r : StreamType) (d : Environment) → HasStateType c.funs (is_inert_fun c.funs) (context_of_types c.main.params T) s r → Streams T d → Derives r (run_state (fun_at c.funs) s T r d).out
state_gives c runnable s T r d h t = (state_run_grows c.funs runnable.is_typed.funs_typed s (context_of_types c.main.params T) T r (extends_types c.main.params T) h d d t (continues_same T d t)).first

module _ (c : CoreProgram) (runnable : IsRunnable c) (F : Source c) where
  -- what comes after p and d, as the parameters see it
  inputs_at : (p d q r : StreamPrefix) → Derives F.input p → Derives (der p F.input) d → Derives (der (join p d) F.input) q → Derives (der q (der (join p d) F.input)) r
      → Inputs (types_at c F p) (stands_before c.main.params) (F.after p d) (F.after (join p d) q) (F.after (join p d) (join q r))
  inputs_at p d q r h k l n =
      let j = join_is_prefix h k in
      record {
        streams = record { at = F.is_split.after_derives h k };
        agrees = F.agrees h k;
        next = record { at = λ x. subst (λ t. Derives t (F.after (join p d) q x)) (left_of_both F.is_split h k x) (F.is_split.after_derives j l x) };
        more = record { at = λ x. subst (λ t. IsPart t (F.after (join p d) q x) (F.after (join p d) (join q r) x)) (left_of_both F.is_split h k x) (after_is_part F.is_split j l n x) };
      }

  -- what a state that stands for the source gives is a prefix of what is left of the output
  pub gives_left : (n : ℕ) (p d : StreamPrefix) (s : StateTree) → Derives F.input p → Derives (der p F.input) d → StandsForSource c F n p s → Derives (output_at c F p) (run_at_rest c F p s d).out
  gives_left n p d s h k stands = state_gives c runnable s (types_at c F p) (output_at c F p) (F.after p d) stands.is_typed (record { at = F.is_split.after_derives h k })

  module _ (n m : ℕ) (p d : StreamPrefix) (s : StateTree) (h : Derives F.input p) (k : Derives (der p F.input) d) (stands : StandsForSource c F n p s) (le : (run_at_rest c F p s d).calls + m ≤ n) where
    -- a state that stands for the source is ready,
    good : IsReady c.funs n (context_of_types c.main.params (types_at c F p)) (types_at c F p) (output_at c F p) s
    good = record { extends = extends_types c.main.params (types_at c F p); typed = stands.is_typed; settled = stands.settled; deep = stands.is_deep }

    -- so it steps on d,
    moved : (q r : StreamPrefix) → Derives (der (join p d) F.input) q → Derives (der q (der (join p d) F.input)) r
        → Step c.funs m (types_at c F p) (context_of_types c.main.params (types_at c F p)) (output_at c F p) (run_state (fun_at c.funs) s (types_at c F p) (output_at c F p)) (state_at_rest c F p s d) (F.after p d) (F.after (join p d) q) (F.after (join p d) (join q r))
    moved q r i j =
        state_step c.funs runnable.is_typed.funs_typed (all_apart c runnable) n m s (context_of_types c.main.params (types_at c F p)) (types_at c F p) (output_at c F p) good (F.after p d) (F.after (join p d) q) (F.after (join p d) (join q r)) (inputs_at p d q r h k i j) le

    -- and gives what is left of the output,
    rest_derives : Derives (output_at c F p) (run_at_rest c F p s d).out
    rest_derives = gives_left n p d s h k stands

    -- the source gives what the state gives, behind what it gave,
    given : (F.run (join p d)).out ≡ join (F.run p).out (run_at_rest c F p s d).out
    given = stands.gives_rest d (is_prefix k)

    -- which leaves of the output what is left after p and d,
    output_after : output_at c F (join p d) ≡ der (run_at_rest c F p s d).out (output_at c F p)
    output_after = ap (λ w. der w F.output) given ∙ der-join (F.gives h) rest_derives

    -- and the names have the types that are left then,
    types_after : types_at c F (join p d) ≡ left_at (F.after p d) (types_at c F p)
    types_after = λ i x. left_of_both F.is_split h k x i

    -- so the run of the next state is that of the step
    run_after : (q : StreamPrefix) → run_at_rest c F (join p d) (state_at_rest c F p s d) q ≡ run_state (fun_at c.funs) (state_at_rest c F p s d) (left_at (F.after p d) (types_at c F p)) (der (run_at_rest c F p s d).out (output_at c F p)) (F.after (join p d) q)
    run_after q = ap₂ (λ T r. run_state (fun_at c.funs) (state_at_rest c F p s d) T r (F.after (join p d) q)) types_after output_after

    -- what comes after p is d and then q
    behind : (q : StreamPrefix) → Derives (der (join p d) F.input) q → Derives (der d (der p F.input)) q
    behind q i = subst (λ t. Derives t q) (der-join h k) i

    -- the step, as runs of states on the source's input
    moved_rest : (q r : StreamPrefix) → Derives (der (join p d) F.input) q → Derives (der q (der (join p d) F.input)) r
        → Rest (output_at c F p) (run_at_rest c F p s d) (run_at_rest c F p s (join d q)) (run_at_rest c F p s (join d (join q r))) (run_at_rest c F (join p d) (state_at_rest c F p s d) q) (run_at_rest c F (join p d) (state_at_rest c F p s d) (join q r))
    moved_rest q r i j =
        let M : Environment → Run = run_state (fun_at c.funs) s (types_at c F p) (output_at c F p) in
        rest_to (moved q r i j).gives (ap M (λ y x. after_join F.is_split h k (behind q i) x y)) (ap M (λ y x. after_join F.is_split h k (behind (join q r) (join_is_prefix i j)) x y)) (run_after q) (run_after (join q r))

    -- the state that follows stands for the source after p and d,
    pub source_stands : StandsForSource c F m (join p d) (state_at_rest c F p s d)
    source_stands =
        let st = moved (emp (der (join p d) F.input)) _ (emp_is_prefix _) (emp_is_prefix _) in
        record {
          is_typed = subst (HasStateType c.funs (is_inert_fun c.funs) (context_of_types c.main.params (types_at c F (join p d))) (state_at_rest c F p s d)) (sym output_after)
              (narrow_state c.funs (is_inert_fun c.funs) _ (left_context (F.after p d) (context_of_types c.main.params (types_at c F p))) (context_of_types c.main.params (types_at c F (join p d))) _
              (record { types = λ x t i e. types x t (holds x (leaf_names c.main.params)) e; order = within_itself _ _; past = λ x t e. e }) st.typed);
          settled = ap (is_settled (state_at_rest c F p s d)) output_after ∙ st.settled;
          is_deep = st.deep;
          gives_rest = λ q i.
              let l = derives _ q i in
              let g = moved_rest q _ l (emp_is_prefix _) in
              ap (λ w. (F.run w).out) (join_assoc h k (behind q l))
              ∙ (stands.gives_rest (join d q) (is_prefix (join_is_prefix k (behind q l)))
              ∙ (ap (join (F.run p).out) g.joins ∙ (sym (join_assoc (F.gives h) rest_derives g.prefix) ∙ ap (λ w. join w (run_at_rest c F (join p d) (state_at_rest c F p s d) q).out) (sym given))));
          calls_rest = λ q i.
              let l = derives _ q i in
              let g = (moved_rest q _ l (emp_is_prefix _)).calls in
              let old = stands.calls_rise d q (is_prefix k) (is_prefix (behind q l)) in
              subst (λ w. (F.run (join p d)).calls + (run_at_rest c F (join p d) (state_at_rest c F p s d) q).calls ≤ (F.run w).calls) (sym (join_assoc h k (behind q l))) (omega (arith, g, old));
          calls_rise = λ q r i j.
              let l = derives _ q i in
              let o = derives _ r j in
              let g = (moved_rest q r l o).beyond in
              let e = join_assoc h k (behind q l) in
              let e' = join_assoc h k (behind (join q r) (join_is_prefix l o)) in
              let f : join (join d q) r ≡ join d (join q r) = join_assoc k (behind q l) (last q r l o) in
              let old = subst (λ w. (F.run (join p (join d q))).calls + (run_at_rest c F p s w).calls ≤ (F.run (join p w)).calls + (run_at_rest c F p s (join d q)).calls) f
              (stands.calls_rise (join d q) r (is_prefix (join_is_prefix k (behind q l))) (is_prefix (subst (λ t. Derives t r) (sym (der-join k (behind q l))) (last q r l o)))) in
              subst (λ w. (F.run w).calls + (run_at_rest c F (join p d) (state_at_rest c F p s d) (join q r)).calls ≤ (F.run (join (join p d) (join q r))).calls + (run_at_rest c F (join p d) (state_at_rest c F p s d) q).calls) (sym e)
              (subst (λ w. (F.run (join p (join d q))).calls + (run_at_rest c F (join p d) (state_at_rest c F p s d) (join q r)).calls ≤ (F.run w).calls + (run_at_rest c F (join p d) (state_at_rest c F p s d) q).calls) (sym e') (omega (arith, g, old)));
          levels_below = λ q i.
              let l = derives _ q i in
              let g = (moved_rest q _ l (emp_is_prefix _)).level in
              let old = stands.levels_below (join d q) (is_prefix (join_is_prefix k (behind q l))) in
              subst (λ w. pred (run_at_rest c F (join p d) (state_at_rest c F p s d) q).level ≤ pred (F.run w).level) (sym (join_assoc h k (behind q l))) (le_trans _ _ _ (pred_le _ _ g) old);
        }
      where
        last : (q r : StreamPrefix) → Derives (der (join p d) F.input) q → Derives (der q (der (join p d) F.input)) r → Derives (der q (der d (der p F.input))) r
        last q r l o = subst (λ t. Derives (der q t) r) (der-join h k) o

        types : (x : ℕ) (t : StreamType) (i : Bool) → left_type (F.after p d x) (if i then Some (types_at c F p x) else None) ≡ Some t → (if i then Some (types_at c F (join p d) x) else None) ≡ Some t
        types x t true e = ap Some (left_of_both F.is_split h k x) ∙ e
        types x t false e = e

    -- and what s gave on d is the increment
    pub source_answers : (run_at_rest c F p s d).out ≡ increment (F.run p).out (F.run (join p d)).out
    source_answers = sym (ap (increment (F.run p).out) given ∙ increment-join (F.gives h) rest_derives)
