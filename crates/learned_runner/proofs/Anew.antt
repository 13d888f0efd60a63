-- A runner that stands at no station takes an event by its machine.
use Rattle.std.proofs.Common.{◌≡◌, ◌∙◌, ℕ, Option, None, Result, Ok, Err, IfOk, OnErr, List, [], ◌∷◌, ◌++◌, sym, ap, subst}
use Rattle.stream_type.specs.StreamType.{type_of}
use Rattle.event_word.specs.StreamEvent.{StreamEvent}
use Rattle.event_word.specs.EventFault.{fault_of}
use Rattle.delta_state.specs.MachineView.{IsCostly as StateIsCostly, IsDeep as StateIsDeep}
use Rattle.delta_loop.specs.Meaning.{Meaning, IsCostly, IsDeep, Stands as LoopStands}
use Rattle.delta_code.specs.CodedView.{program_of, CodedStands}
use Rattle.learned_runner.specs.Answering.{MayAnswer, Answers}
use Rattle.learned_runner.specs.Standing.{StandsNow, StandsFor, StandsAsBefore, HasTaken}
use Rattle.learned_runner.specs.declared.runner.Learner.{Learner}
use Rattle.learned_runner.proofs.Moved.{runs_moved}

module _ (r : Learner) (free : r.at ≡ None) where
  -- its machine stands by itself
  pub alone : (P : Meaning) (word : List StreamEvent) → StandsFor r P word → CodedStands r.machine word
  alone P word s = subst (λ (o : Option ℕ). StandsNow o r.machine r.book r.values word) free s.stands

  -- so it may answer
  pub may_answer : LoopStands StandsFor r → MayAnswer r.machine r.version
  may_answer l = record { word = l.word; stands = alone l.program l.word l.state; can_run = l.state.runs.can_run; short = l.state.runs.short; room = l.room }

  -- it tells the fault of an event
  pub fault_here : (P : Meaning) (word : List StreamEvent) (x : StreamEvent) → StandsFor r P word → P.fault word x ≡ fault_of x (type_of r.machine.input.value)
  fault_here P word x s =
      let c = alone P word s in
      ap (λ (Q : Meaning). Q.fault word x) s.runs.means ∙ ap (fault_of x) (sym c.below.keeps.keeps.is_input)

  -- and what stops the program
  pub costly_here : (P : Meaning) (word : List StreamEvent) (x : StreamEvent) → StandsFor r P word → StateIsCostly (program_of r.machine) r.machine.budget word x → IsCostly P word x
  costly_here P word x s costly = subst (λ (Q : Meaning). IsCostly Q word x) (sym s.runs.means) costly

  pub deep_here : (P : Meaning) (word : List StreamEvent) (x : StreamEvent) → StandsFor r P word → StateIsDeep (program_of r.machine) 1000 word x → IsDeep P word x
  deep_here P word x s deep = subst (λ (Q : Meaning). IsDeep Q word x) (sym s.runs.means) deep

  -- what its machine answered is the answer
  pub anew_taken : (new : Learner) (x : StreamEvent) (bytes : List ℕ) → ((word : List StreamEvent) → CodedStands r.machine word → Answers r.machine new.machine r.version word x bytes)
      → new.version ≡ r.version → new.book ≡ r.book → new.at ≡ None → new.lost ≡ r.lost → HasTaken r new x bytes
  anew_taken new x bytes answers version book none lost P word s =
      let a = answers word (alone P word s) in (
        fault_here P word x s ∙ a.admitted,
        record {
          runs = runs_moved (program_of r.machine) (program_of new.machine) r.machine.budget new.machine.budget r.version new.version r.book new.book r.lost new.lost P
              a.program a.budget version book lost s.runs;
          stands = subst (λ (o : Option ℕ). StandsNow o new.machine new.book new.values (word ++ x ∷ [])) (sym none) a.stands;
        },
        a.framed ∙ ap (λ (Q : Meaning). Q.answer word x) (sym s.runs.means),
      )

-- what was taken from one that stands for the same was taken
pub taken_from : (old mid new : Learner) (x : StreamEvent) (bytes : List ℕ) → StandsAsBefore old mid → HasTaken mid new x bytes → HasTaken old new x bytes
taken_from old mid new x bytes same taken P word s = taken P word ((same P word).0 s)

-- and by one that stands for more it is taken too
pub taken_by : (old mid new : Learner) (x : StreamEvent) (bytes : List ℕ) → HasTaken old mid x bytes → ((P : Meaning) (word : List StreamEvent) → StandsFor mid P word → StandsFor new P word)
    → HasTaken old new x bytes
taken_by old mid new x bytes taken more P word s = let t = taken P word s in (t.0, more P (word ++ x ∷ []) t.1, t.2)

-- what an answer tells, it tells of whatever follows from it
pub ok_too : {A E : Type 0} (r : Result A E) (P Q : A → Type 0) → ((x : A) → P x → Q x) → IfOk r P → IfOk r Q
ok_too (Ok x) P Q more h = more x h
ok_too (Err e) P Q more h = tt

-- and so does a refusal
pub err_too : {A E : Type 0} (r : Result A E) (P Q : Type 0) → (P → Q) → OnErr r P → OnErr r Q
err_too (Ok x) P Q more h = tt
err_too (Err e) P Q more h = more h
