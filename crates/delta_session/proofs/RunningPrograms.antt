-- A program that runs from its start is a course that goes on.
use Rattle.std.proofs.Common.{◌≡◌, ◌≤◌, ℕ, Bool, true, false, List, [], ◌∷◌, ◌++◌, Some, None, Result, Ok, Err, OnOk, ◌&&◌, IsTrue, if◌then◌else◌, ◌∙◌, ap, ap₂, sym, subst, refl, arith}
use Rattle.std.specs.Prelude.{unwrap_or, nat_le}
use Rattle.std.proofs.lemmas.Bool.{leb-true}
use Rattle.stream_type.specs.StreamType.{StreamType, eps, null_of, reach_of, height_of}
use Rattle.stream_type.proofs.Bounds.{reach_of-height_of}
use Rattle.stream_prefix.specs.StreamPrefix.{StreamPrefix, IsPrefix, der, is_maximal}
use Rattle.stream_prefix.proofs.Derivations.{is_prefix}
use Rattle.stream_prefix.proofs.PrefixLaws.{maximal_leaves_null}
use Rattle.event_word.specs.StreamEvent.{StreamEvent}
use Rattle.event_word.specs.Admits.{Admits}
use Rattle.event_word.proofs.Words.{word_derives, after_word-pre}
use Rattle.bunch.specs.Names.{holds}
use Rattle.bunch.specs.BunchTree.{leaf_names}
use Rattle.core_term.specs.CoreTerm.{CoreProgram, fits_of}
use Rattle.core_term.specs.FreeNames.{IsCore}
use Rattle.core_term.specs.Environment.{left_at}
use Rattle.core_term.specs.Agreement.{types_in}
use Rattle.core_term.specs.Split.{split}
use Rattle.core_term.specs.Inert.{is_inert_fun}
use Rattle.core_term.specs.Meaning.{mean}
use Rattle.core_term.specs.Typing.{IsTypedCore, types_of}
use Rattle.core_term.proofs.Splits.{split_is_typed, split_of_whole}
use Rattle.core_term.proofs.TypedRuns.{mean_is_typed, mean_grows}
use Rattle.delta_state.specs.StateTree.{StateTree}
use Rattle.delta_state.specs.Stands.{StandsFor, input_type, output_left, context_after, depth_after}
use Rattle.delta_state.specs.MachineView.{MachineView, StandsAfter, Awaits as AwaitsIt, MayTake, input_of, answer_to, IsCostly as CostsProgram, IsDeep as IsDeepIn}
use Rattle.delta_state.proofs.FinishedStates.{settled_is_finished}
use Rattle.delta_session.specs.OneShot.{Grows, said, said_to, left_of, IsCostly, IsDeep}
use Rattle.delta_session.specs.Course.{Course, GoesOn, Awaits, MayAnswer}
use Rattle.delta_session.specs.Programs.{CanRun, IsRunning, one_shot, course_of}
use Rattle.delta_session.specs.Standing.{IsAt}
use Rattle.delta_session.proofs.Growth.{said_is_prefix}

-- what follows from three facts at a value holds there
pub all_on_ok : {T E P Q R S : Type 0} (r : Result T E) → OnOk r P → OnOk r Q → OnOk r R → (P → Q → R → S) → OnOk r S
all_on_ok (Ok value) p q r follows = follows p q r
all_on_ok (Err fault) p q r follows = tt

-- on each prefix of its input's type it gives one of its output's, and on more input no less
pub program_grows : (c : CoreProgram) → CanRun c → Grows (one_shot c)
program_grows c can = record {
  typed = mean_is_typed c can.core can.typed;
  parts = λ p q typed part. (mean_grows c can.core can.typed p q typed part).0;
}

-- the paths of the output of a program that fits have at most 63 steps
both_true : (a b : Bool) → IsTrue (a && b) → IsTrue b
both_true true b h = h
both_true false b h = absurd (let none : ⊥ = cc h in none)

pub fits_narrow : (c : CoreProgram) → IsTrue (fits_of c) → reach_of c.main.result ≤ 63
fits_narrow c fits =
    let low : height_of c.main.result ≤ 64 = leb-true (height_of c.main.result) 64 (both_true (nat_le (height_of (input_type c)) 64) (nat_le (height_of c.main.result) 64) fits) in
    let below = reach_of-height_of c.main.result in
    omega (arith, low, below)

-- nothing more can come on any name where the whole of the input has come
names_ended : (c : CoreProgram) (p : StreamPrefix) → IsPrefix (input_type c) p → IsTrue (is_maximal p) → (x : ℕ) → null_of (types_of (context_after c p) x) ≡ true
names_ended c p typed whole x = by_test (holds x (leaf_names c.main.params))
  where
    by_test : (b : Bool) → null_of (unwrap_or (if b then Some (left_at (split c.main.params p) (types_in c.main.params) x) else None) eps) ≡ true
    by_test true = maximal_leaves_null (types_in c.main.params x) (split c.main.params p x) (split_is_typed c.main.params p typed x) ∙ split_of_whole c.main.params p typed whole x
    by_test false = refl

-- a state that stands for the program then gives nothing more
state_ended : (c : CoreProgram) (n : ℕ) (p : StreamPrefix) (s : StateTree) → StandsFor c n p s → IsPrefix (input_type c) p → IsTrue (is_maximal p) → null_of (output_left c p) ≡ true
state_ended c n p s stands typed whole =
    settled_is_finished c.funs (is_inert_fun c.funs) (context_after c p) s (output_left c p) stands.is_typed stands.settled (λ x free. names_ended c p typed whole x)

-- so where the whole of its input has come, what it said is whole
pub ends_whole : (m : MachineView) (word : List StreamEvent) → CanRun m.program → StandsAfter m word → null_of (left_of (one_shot m.program) word) ≡ true → is_maximal (said (one_shot m.program) word) ≡ true
ends_whole m word can after ended =
    let c = m.program in
    let typed : IsPrefix (input_type c) (input_of c word) = is_prefix (word_derives (input_type c) word after.is_word) in
    let left : null_of (der (input_of c word) (input_type c)) ≡ true = ap null_of (sym (after_word-pre (input_type c) word after.is_word)) ∙ ended in
    let whole : is_maximal (input_of c word) ≡ true = sym (maximal_leaves_null (input_type c) (input_of c word) typed) ∙ left in
    sym (maximal_leaves_null c.main.result (mean c (input_of c word)) (said_is_prefix (one_shot c) (program_grows c can) word after.is_word))
    ∙ state_ended c (depth_after m.events) (input_of c word) after.marked after.stands_for typed whole

module _ {M : Type 0} (seen : M → MachineView) (stands : M → List StreamEvent → Type 0) (law : (m : M) (w : List StreamEvent) → stands m w → StandsAfter (seen m) w) where
  -- the course of a machine's program goes on
  pub goes_on_there : (m : M) (course : Course) (word : List StreamEvent) → CanRun (seen m).program → course ≡ course_of (seen m).program (seen m).budget → stands m word → GoesOn course word
  goes_on_there m course word can is_course state =
      let after = law m word state in
      subst (λ (k : Course). GoesOn k word) (sym is_course) record {
        comes = after.is_word;
        grows = program_grows (seen m).program can;
        narrow = can.narrow;
        ends = ends_whole (seen m) word can after;
      }

  pub is_running : (m : M) (course : Course) (word : List StreamEvent) → CanRun (seen m).program → course ≡ course_of (seen m).program (seen m).budget → stands m word → IsRunning seen stands m course word
  is_running m course word can is_course state = record { can_run = can; is_course = is_course; state = state; goes_on = goes_on_there m course word can is_course state }

  module _ (m : M) (x : StreamEvent) where
    -- where it is awaited by the course, the machine awaits an event,
    pub awaits_it : (course : Course) (word : List StreamEvent) → Awaits (IsRunning seen stands) m course word x → AwaitsIt seen stands m word x
    awaits_it course word is = record {
      stands_after = is.stands_after.state;
      admits = subst (λ (k : Course). Admits (left_of k.gives word) x) is.stands_after.is_course is.admits;
    }

    -- and may take it
    pub may_take : MayAnswer (IsRunning seen stands) m x → MayTake seen stands m x
    may_take may =
        let here = may.awaits.stands_after in
        let before : may.course.before ≡ 0 = ap (λ (k : Course). k.before) here.is_course in
        let count = (law m may.word here.state).is_count in
        record { word = may.word; awaits = awaits_it may.course may.word may.awaits; has_room = omega (arith, may.has_room, before, count) }

module _ {M : Type 0} (seen : M → MachineView) (stands : M → List StreamEvent → Type 0) (m : M) (x : StreamEvent) (course : Course) (word : List StreamEvent)
    (is : Awaits (IsRunning seen stands) m course word x) where
  -- what the machine answers is what is said to the event,
  pub answers_it : (p : StreamPrefix) → p ≡ answer_to (seen m).program word x → p ≡ said_to course.gives word x
  answers_it p same = same ∙ ap (λ (k : Course). said_to k.gives word x) (sym is.stands_after.is_course)

  -- and it then stands for the course after it
  pub stands_next : ((n : M) (w : List StreamEvent) → stands n w → StandsAfter (seen n) w) → (next : M) → (seen next).program ≡ (seen m).program → (seen next).budget ≡ (seen m).budget → stands next (word ++ x ∷ []) → IsRunning seen stands next course (word ++ x ∷ [])
  stands_next law next program budget state =
      is_running seen stands law next course (word ++ x ∷ []) (subst CanRun (sym program) is.stands_after.can_run) (is.stands_after.is_course ∙ ap₂ course_of (sym program) (sym budget)) state

  -- an event that is too dear or too deep for it is so for the course
  pub costs_it : (n : ℕ) → n ≡ (seen m).budget → CostsProgram (seen m).program n word x → (n ≡ course.budget) × IsCostly course.gives n word x
  costs_it n same costly = (
    same ∙ ap (λ (k : Course). k.budget) (sym is.stands_after.is_course),
    subst (λ (k : Course). IsCostly k.gives n word x) (sym is.stands_after.is_course) costly,
  )

  pub is_deep : IsDeepIn (seen m).program 1000 word x → IsDeep course.gives 1000 word x
  is_deep deep = subst (λ (k : Course). IsDeep k.gives 1000 word x) (sym is.stands_after.is_course) deep

-- before any event
pub at_start : {M : Type 0} (seen : M → MachineView) (stands : M → List StreamEvent → Type 0) → ((m : M) (w : List StreamEvent) → stands m w → StandsAfter (seen m) w) → (machine : M) (rest output : StreamType) (c : CoreProgram) (budget : ℕ) (p : StreamPrefix) → CanRun c
    → (seen machine).program ≡ c → (seen machine).budget ≡ budget → stands machine [] → p ≡ mean c (input_of c []) → rest ≡ input_type c → output ≡ der p c.main.result
    → IsAt (IsRunning seen stands) machine rest output (course_of c budget) []
at_start seen stands law machine rest output c budget p can program budget_is state is rest_is output_is = record {
  state = is_running seen stands law machine (course_of c budget) [] (subst CanRun (sym program) can) (ap₂ course_of (sym program) (sym budget_is)) state;
  rest_is = rest_is;
  output_is = output_is ∙ ap (λ (q : StreamPrefix). der q c.main.result) is;
}

-- what is said before any event is a prefix of the output's type
pub starts_prefix : (c : CoreProgram) → IsCore c → IsTypedCore c → (p : StreamPrefix) → p ≡ mean c (input_of c []) → IsPrefix c.main.result p
starts_prefix c core typed p is = subst (IsPrefix c.main.result) (sym is) (mean_is_typed c core typed (input_of c []) (is_prefix (word_derives (input_type c) [] tt)))
