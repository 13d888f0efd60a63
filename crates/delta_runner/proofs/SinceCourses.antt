-- What goes on from a kept state is a course that goes on.
use Rattle.std.proofs.Common.{◌≡◌, ℕ, Bool, true, false, List, [], ◌∷◌, ◌++◌, Some, None, if◌then◌else◌, ⊎_elim, ◌∙◌, ap, ap₂, sym, subst, refl, arith}
use Rattle.std.specs.Prelude.{unwrap_or}
use Rattle.stream_type.specs.StreamType.{StreamType, eps, null_of}
use Rattle.stream_prefix.specs.StreamPrefix.{StreamPrefix, der, is_maximal}
use Rattle.stream_prefix.proofs.Derivations.{Derives, is_prefix}
use Rattle.stream_prefix.proofs.Joins.{null_of-der}
use Rattle.stream_prefix.proofs.MaximalPrefixes.{null_is_maximal}
use Rattle.stream_prefix.proofs.PrefixLaws.{maximal_leaves_null}
use Rattle.event_word.specs.StreamEvent.{StreamEvent}
use Rattle.event_word.specs.Admits.{Admits}
use Rattle.event_word.proofs.Words.{word_derives, after_word-pre}
use Rattle.bunch.specs.Names.{holds}
use Rattle.bunch.specs.BunchTree.{leaf_names}
use Rattle.core_term.specs.CoreTerm.{CoreProgram}
use Rattle.core_term.specs.Environment.{empty_at}
use Rattle.core_term.specs.Inert.{is_inert_fun}
use Rattle.core_term.specs.Split.{split}
use Rattle.core_term.specs.Typing.{types_of}
use Rattle.core_term.proofs.Sides.{by_left}
use Rattle.core_term.proofs.Splits.{split_of_whole}
use Rattle.delta_state.specs.StateTree.{StateTree}
use Rattle.delta_state.specs.MachineView.{MachineView}
use Rattle.delta_state.proofs.FinishedStates.{settled_is_finished}
use Rattle.delta_session.specs.OneShot.{said, said_to, left_of, IsCostly, IsDeep}
use Rattle.delta_session.specs.Course.{Course, GoesOn, Awaits, MayAnswer}
use Rattle.delta_session.specs.Programs.{CanRun}
use Rattle.delta_session.specs.Standing.{IsAt, Runs, RunsTheSame}
use Rattle.delta_session.specs.declared.session.Life.TheVariants.{Open}
use Rattle.delta_session.specs.declared.session.Session.{Session}
use Rattle.delta_session.proofs.Growth.{said_is_prefix}
use Rattle.kept_state.specs.KeptTree.{KeptTree}
use Rattle.kept_state.specs.KeptPlace.{context_over}
use Rattle.kept_state.specs.KeptTyping.{IsTypedKept, types_kept}
use Rattle.kept_state.specs.KeptMeaning.{bunch_kept, input_kept, split_kept, mean_kept, types_since, output_since, StandsForKept}
use Rattle.kept_state.specs.Laws.{input_since}
use Rattle.kept_state.proofs.RestBunches.{left_or_over}
use Rattle.kept_state.proofs.RestSplits.{rest_derives}
use Rattle.machine_kept.specs.SinceView.{StandsSince, AwaitsSince, MayTakeSince, answer_since, IsCostlySince, IsDeepSince}
use Rattle.machine_kept.proofs.SinceSteps.{output_first}
use Rattle.delta_runner.specs.KeptOneShot.{one_shot_kept}
use Rattle.delta_runner.specs.SinceCourse.{IsSince, IsSameWoken, IsFrom, course_since, source_of}
use Rattle.delta_runner.specs.declared.woken.Woken.{Woken}
use Rattle.delta_runner.proofs.KeptGrowth.{since_grows, reaches_less}

module _ (c : CoreProgram) (k : KeptTree) (typed : IsTypedKept c k) {p : StreamPrefix} (h : Derives (input_kept c k) p) (whole : is_maximal p ≡ true) where
  -- all has come on each parameter: on one that was left, since all came, and on each other before
  all_came : (x : ℕ) → holds x (leaf_names c.main.params) ≡ true → is_maximal (split_kept c k p x) ≡ true
  all_came x m =
      ⊎_elim (λ over. null_is_maximal (rest_derives c.main.params (types_kept c k) k.cuts h x) over)
      (λ left. ap is_maximal (by_left (leaf_names (bunch_kept c k)) (split (bunch_kept c k) p) (empty_at (types_kept c k)) x left) ∙ split_of_whole (bunch_kept c k) p (is_prefix h) whole x)
      (left_or_over c.main.params (types_kept c k) k.cuts x typed.is_placed.is_place m)

  -- so nothing more can come on any name
  names_ended : (x : ℕ) → null_of (types_of (context_over c.main.params (types_since c k p)) x) ≡ true
  names_ended x = by_test (holds x (leaf_names c.main.params)) refl
    where
      by_test : (b : Bool) → holds x (leaf_names c.main.params) ≡ b → null_of (unwrap_or (if b then Some (types_since c k p x) else None) eps) ≡ true
      by_test true m = null_of-der (rest_derives c.main.params (types_kept c k) k.cuts h x) ∙ all_came x m
      by_test false m = refl

  -- and a state that stands for the kept state gives nothing more
  state_ended : (n : ℕ) (s : StateTree) → StandsForKept c k n p s → null_of (output_since c k p) ≡ true
  state_ended n s stands =
      settled_is_finished c.funs (is_inert_fun c.funs) (context_over c.main.params (types_since c k p)) s (output_since c k p) stands.is_typed stands.settled (λ x free. names_ended x)

-- so where the whole of what may come since has come, what was said is whole
pub ends_whole : (m : MachineView) (k : KeptTree) (word : List StreamEvent) → CanRun m.program → IsTypedKept m.program k → StandsSince m k word
    → null_of (left_of (one_shot_kept m.program k) word) ≡ true → is_maximal (said (one_shot_kept m.program k) word) ≡ true
ends_whole m k word can typed after ended =
    let c = m.program in
    let came : Derives (input_kept c k) (input_since c k word) = word_derives (input_kept c k) word after.is_word in
    let left : null_of (der (input_since c k word) (input_kept c k)) ≡ true = ap null_of (sym (after_word-pre (input_kept c k) word after.is_word)) ∙ ended in
    let whole : is_maximal (input_since c k word) ≡ true = sym (null_of-der came) ∙ left in
    sym (maximal_leaves_null k.out (mean_kept c k (input_since c k word)) (said_is_prefix (one_shot_kept c k) (since_grows c can k typed) word after.is_word))
    ∙ state_ended c k typed came whole _ after.marked after.stands_for

module _ {M : Type 0} (seen : M → MachineView) (since : M → KeptTree → List StreamEvent → Type 0) (law : (m : M) (k : KeptTree) (w : List StreamEvent) → since m k w → StandsSince (seen m) k w) where
  -- the course since a kept state goes on
  pub is_since : (woken : Woken M) (course : Course) (word : List StreamEvent) → CanRun (seen woken.machine).program → IsTypedKept (seen woken.machine).program (source_of woken)
      → course ≡ course_since (seen woken.machine).program (source_of woken) (seen woken.machine).budget → since woken.machine (source_of woken) word → IsSince seen since woken course word
  is_since woken course word can typed is_course state =
      let k = source_of woken in
      let c = (seen woken.machine).program in
      let after = law woken.machine k word state in
      let less = reaches_less c can k typed in
      record {
        can_run = can;
        is_typed = typed;
        is_course = is_course;
        state = state;
        goes_on = subst (λ (r : Course). GoesOn r word) (sym is_course) record {
          comes = after.is_word;
          grows = since_grows c can k typed;
          narrow = omega (arith, less, can.narrow);
          ends = ends_whole (seen woken.machine) k word can typed after;
        };
      }

  module _ (woken : Woken M) (x : StreamEvent) where
    -- where it is awaited by the course, the machine awaits an event,
    pub awaits_it : (course : Course) (word : List StreamEvent) (is : Awaits (IsSince seen since) woken course word x) → AwaitsSince seen since woken.machine (source_of woken) word x
    awaits_it course word is = record {
      stands_since = is.stands_after.state;
      admits = subst (λ (r : Course). Admits (left_of r.gives word) x) is.stands_after.is_course is.admits;
    }

    -- and may take it
    pub may_take : MayAnswer (IsSince seen since) woken x → MayTakeSince seen since woken.machine x
    may_take may =
        let here = may.awaits.stands_after in
        let before : may.course.before ≡ (source_of woken).events = ap (λ (r : Course). r.before) here.is_course in
        let count = (law woken.machine (source_of woken) may.word here.state).is_count in
        record { kept = (source_of woken); word = may.word; awaits = awaits_it may.course may.word may.awaits; has_room = omega (arith, may.has_room, before, count) }

module _ {M : Type 0} (seen : M → MachineView) (since : M → KeptTree → List StreamEvent → Type 0) (woken : Woken M) (x : StreamEvent) (course : Course) (word : List StreamEvent)
    (is : Awaits (IsSince seen since) woken course word x) where
  -- what the machine answers is what is said to the event,
  pub answers_it : (p : StreamPrefix) → p ≡ answer_since (seen woken.machine).program (source_of woken) word x → p ≡ said_to course.gives word x
  answers_it p same = same ∙ ap (λ (r : Course). said_to r.gives word x) (sym is.stands_after.is_course)

  -- and it then stands for the course after it
  pub stands_next : ((m : M) (k : KeptTree) (w : List StreamEvent) → since m k w → StandsSince (seen m) k w) → (next : M) → (seen next).program ≡ (seen woken.machine).program → (seen next).budget ≡ (seen woken.machine).budget
      → since next (source_of woken) (word ++ x ∷ []) → IsSince seen since (record { machine = next; from = woken.from }) course (word ++ x ∷ [])
  stands_next law next program budget state =
      let k = source_of woken in
      is_since seen since law (record { machine = next; from = woken.from }) course (word ++ x ∷ []) (subst CanRun (sym program) is.stands_after.can_run) (subst (λ (c : CoreProgram). IsTypedKept c k) (sym program) is.stands_after.is_typed)
      (is.stands_after.is_course ∙ ap₂ (λ (c : CoreProgram) (budget : ℕ). course_since c k budget) (sym program) (sym budget)) state

  -- an event that is too dear or too deep for it is so for the course
  pub costs_it : (n : ℕ) → n ≡ (seen woken.machine).budget → IsCostlySince (seen woken.machine).program (source_of woken) n word x → (n ≡ course.budget) × IsCostly course.gives n word x
  costs_it n same costly = (
    same ∙ ap (λ (r : Course). r.budget) (sym is.stands_after.is_course),
    subst (λ (r : Course). IsCostly r.gives n word x) (sym is.stands_after.is_course) costly,
  )

  pub is_deep : IsDeepSince (seen woken.machine).program (source_of woken) 1000 word x → IsDeep course.gives 1000 word x
  is_deep deep = subst (λ (r : Course). IsDeep r.gives 1000 word x) (sym is.stands_after.is_course) deep

-- before anything more has come
pub at_start : {M : Type 0} (seen : M → MachineView) (since : M → KeptTree → List StreamEvent → Type 0) → ((m : M) (l : KeptTree) (w : List StreamEvent) → since m l w → StandsSince (seen m) l w) → (woken : Woken M) (rest output : StreamType) (c : CoreProgram) (k : KeptTree) (budget : ℕ) → source_of woken ≡ k → CanRun c → IsTypedKept c k
    → (seen woken.machine).program ≡ c → (seen woken.machine).budget ≡ budget → since woken.machine k [] → rest ≡ input_kept c k → output ≡ k.out
    → IsAt (IsSince seen since) woken rest output (course_since c k budget) []
at_start seen since law woken rest output c k budget source can typed program budget_is state rest_is output_is = record {
  state =
      is_since seen since law woken (course_since c k budget) [] (subst CanRun (sym program) can) (subst (λ (d : CoreProgram). IsTypedKept d (source_of woken)) (sym program) (subst (IsTypedKept c) (sym source) typed))
      (ap₂ (λ (d : CoreProgram) (n : ℕ). course_since d k n) (sym program) (sym budget_is) ∙ ap (λ (l : KeptTree). course_since (seen woken.machine).program l (seen woken.machine).budget) (sym source))
      (subst (λ (l : KeptTree). since woken.machine l []) (sym source) state);
  rest_is = rest_is;
  output_is = output_is ∙ sym (output_first c k typed);
}

-- a session that runs the same as one that goes on from a state goes on from that state
pub from_same : {M : Type 0} (seen : M → MachineView) (c : CoreProgram) (k : KeptTree) (old new : Session (Woken M)) → RunsTheSame (IsSameWoken seen) old new → IsFrom seen old c k → IsFrom seen new c k
from_same seen c k old new runs from next there =
    let here = runs next there in
    let is = from here.0 here.1 in
    (here.2.0 c is.0, here.2.1 k is.1)

-- as one does that runs a machine which does
pub from_its : {M : Type 0} (seen : M → MachineView) (session : Session (Woken M)) (woken : Woken M) (c : CoreProgram) (k : KeptTree) → Runs session woken → (seen woken.machine).program ≡ c → source_of woken ≡ k → IsFrom seen session c k
from_its {M} seen session woken c k is program kept other runs =
    let both : Open other ≡ Open woken = sym runs ∙ is in
    let one = one_machine both in
    (ap (λ (w : Woken M). (seen w.machine).program) one ∙ program, ap (λ (w : Woken M). source_of w) one ∙ kept)
  where
    one_machine : {m n : Woken M} → Open m ≡ Open n → m ≡ n
    one_machine e = cc
