-- What is left of a run, by how it ended.
use Rattle.std.proofs.Common.{◌≡◌, ◌⊎◌, inl, inr, ◌+◌, ◌<◌, ◌≤◌, ◌^◌, ℕ, List, Option, length, refl, sym, subst, ◌∙◌, arith}
use Rattle.std.specs.Prelude.{Result, IfOk, IsErrOf}
use Rattle.std.proofs.lemmas.Result.{IfOk-weaker}
use Rattle.std.specs.declared.vec.Vec.{Vec}
use Rattle.std.specs.declared.alloc.Global.{Global}
use Rattle.port.specs.declared.link.Move.{Move}
use Rattle.port.specs.Files.{ChangesOnly, Keeps}
use Rattle.event_word.specs.StreamEvent.{StreamEvent}
use Rattle.event_frame.specs.Reading.{whole}
use Rattle.core_term.specs.CoreTerm.{CoreProgram}
use Rattle.delta_state.specs.MachineView.{MachineView, StandsAfter, input_of}
use Rattle.delta_state.specs.Stands.{output_left}
use Rattle.delta_session.specs.declared.session.Life.TheVariants.{Open as Opened}
use Rattle.delta_session.specs.Standing.{Runs, IsOf}
use Rattle.kept_state.specs.Laws.{input_since, IsKept, IsKeptSince}
use Rattle.kept_state.specs.KeptTree.{KeptTree}
use Rattle.kept_state.specs.KeptMeaning.{output_since}
use Rattle.kept_state.specs.KeptBytes.{kept_bytes}
use Rattle.machine_kept.specs.SinceView.{StandsSince}
use Rattle.delta_end.specs.declared.end.End.{End}
use Rattle.delta_end.specs.declared.end.End.TheVariants.{Done, Usage, Refused, Input, Budget, Deep, Open, FileFailed, ReadFailed, WriteFailed, Memory, Long, Objected}
use Rattle.delta_end.specs.End.{IsOfLoop}
use Rattle.delta_loop.specs.Meaning.{Meaning}
use Rattle.delta_loop.specs.Loop.{IsWellEnded, RanTo}
use Rattle.delta_loop.proofs.Counts.{events_whole}
use Rattle.delta_runner.specs.declared.runner.Runner.{Runner}
use Rattle.delta_session.specs.Programs.{IsRunning}
use Rattle.delta_runner.specs.Standing.{StandsFor}
use Rattle.delta_runner.specs.declared.woken.Woken.{Woken}
use Rattle.delta_runner.specs.SinceCourse.{IsSince, IsFrom, source_of}
use Rattle.commands.specs.declared.keeping.Unleft.{Unleft}
use Rattle.commands.specs.declared.keeping.Unleft.TheVariants.{Large}
use Rattle.commands.specs.Leaving.{from_start, from_kept, OfEachProgram, OfEachState, KeptAs, AreIts, AreTooMany, AreTooFar, Way, Ended, Leaves, IsSaved, IsLarge, IsBehind, LeavesState, ChangesState, Leaving, Saves, TellsBytes}

-- where nothing was written each name holds what it held
pub changes_nothing : (files : Option (List ℕ → List ℕ)) (name : List ℕ) → ChangesOnly files files name
changes_nothing files name told is = (told, is, λ other ne. refl)

-- what the machine of a runner keeps is kept of the program that it runs,
pub kept_as : {M : Type 0} (seen : M → MachineView) (stands : M → List StreamEvent → Type 0) (after : (m : M) (word : List StreamEvent) → stands m word → StandsAfter (seen m) word)
    (runner : Runner M) (machine : M) → Runs runner.session machine → (k : KeptTree) (places : List ℕ)
    → ((word : List StreamEvent) → stands machine word → (seen machine).events ≤ 2 ^ 41 → IsKept (seen machine).program (input_of (seen machine).program word) k)
    → ((word : List StreamEvent) → stands machine word → k.out ≡ output_left (seen machine).program (input_of (seen machine).program word))
    → k.events ≡ (seen machine).events → (holds : KeptTree → List ℕ → Type 0) → holds k (kept_bytes k places) → OfEachProgram seen stands runner (λ origin word. KeptAs origin word holds)
kept_as {M} seen stands after runner machine runs k places kept output events holds it P c word s of few =
    let same : (seen machine).program ≡ c = of machine runs in
    let both : Opened machine ≡ Opened s.standing.machine = sym runs ∙ s.standing.is_open in
    let one : machine ≡ s.standing.machine = cc in
    let state : stands machine word = subst (λ (m : M). stands m word) (sym one) s.standing.at.state.state in
    let count : (seen machine).events ≡ length word = (after machine word state).is_count in (
      k,
      places,
      record {
        kept = subst (λ (d : CoreProgram). IsKept d (input_of d word) k) same (kept word state (omega (arith, count, few)));
        output = subst (λ (d : CoreProgram). k.out ≡ output_left d (input_of d word)) same (output word state);
        count = events ∙ count;
      },
      it,
    )

-- and what that of a runner keeps which goes on from a kept state is kept of that state, or too many events came
module _ {M : Type 0} (seen : M → MachineView) (since : M → KeptTree → List StreamEvent → Type 0) (stands : (m : M) (k : KeptTree) (word : List StreamEvent) → since m k word → StandsSince (seen m) k word)
    (runner : Runner (Woken M)) (woken : Woken M) (runs : Runs runner.session woken) (l : KeptTree) (events : l.events ≡ (seen woken.machine).events) where
  -- the machine stands for the kept state after the word that came since,
  stands_since : (c : CoreProgram) (k : KeptTree) (word : List StreamEvent) (P : Meaning) → StandsFor (IsSince seen since) runner P word → IsFrom seen runner.session c k → since woken.machine k word
  stands_since c k word P s from =
      let both : Opened woken ≡ Opened s.standing.machine = sym runs ∙ s.standing.is_open in
      let one : woken ≡ s.standing.machine = cc in
      subst (λ (t : KeptTree). since woken.machine t word) (from woken runs).1 (subst (λ (w : Woken M). since w.machine (source_of w) word) (sym one) s.standing.at.state.state)

  -- and has counted the events of both
  pub too_far : 2 ^ 41 < l.events → OfEachState seen since runner AreTooFar
  too_far far P c k word s from =
      let count : (seen woken.machine).events ≡ k.events + length word = (stands woken.machine k word (stands_since c k word P s from)).is_count in omega (arith, count, events, far)

  pub kept_again_as : (places : List ℕ)
      → ((k : KeptTree) (word : List StreamEvent) → since woken.machine k word → (seen woken.machine).events ≤ 2 ^ 41 → IsKeptSince (seen woken.machine).program k (input_since (seen woken.machine).program k word) l)
      → ((k : KeptTree) (word : List StreamEvent) → since woken.machine k word → l.out ≡ output_since (seen woken.machine).program k (input_since (seen woken.machine).program k word))
      → l.events ≤ 2 ^ 41 → (holds : KeptTree → List ℕ → Type 0) → holds l (kept_bytes l places) → OfEachState seen since runner (λ origin word. KeptAs origin word holds)
  kept_again_as places kept output few holds it P c k word s from =
      let state = stands_since c k word P s from in
      let same : (seen woken.machine).program ≡ c = (from woken runs).0 in (
        l,
        places,
        record {
          kept = subst (λ (d : CoreProgram). IsKeptSince d k (input_since d k word) l) same (kept k word state (omega (arith, events, few)));
          output = subst (λ (d : CoreProgram). l.out ≡ output_since d k (input_since d k word)) same (output k word state);
          count = events ∙ (stands woken.machine k word state).is_count;
        },
        it,
      )

-- a run that ended well, of which these are the bytes of what is to be kept
module _ (w : Way) (end : End) (ran : Ended w end) (well : IsWellEnded end) where
  -- they are its,
  pub its_bytes : (written : List ℕ) → KeptAs w.origin (whole ran.input) (AreIts written) → (k : KeptTree) × (places : List ℕ) × Leaves w end k × AreIts written k (kept_bytes k places)
  its_bytes written is = (is.0, is.1, record { ran = ran; well = well; kept = is.2 }, is.3)

  -- or too many, or too many events came
  pub is_large : KeptAs w.origin (whole ran.input) AreTooMany ⊎ AreTooFar w.origin (whole ran.input) → IsLarge w
  is_large (inl is) = inl (record { end = end; state = is.0; places = is.1; leaves = record { ran = ran; well = well; kept = is.2 }; large = is.3 })
  is_large (inr far) = inr (record { end = end; ran = ran; well = well; far = far })

-- there are no more events than bytes
pub few_events : {M : Type 0} {stands : M → Meaning → List StreamEvent → Type 0} {P : Meaning} {old new : Option (List Move)} {left0 left1 : Option (List ℕ)} {machine : M} {end : End}
    → (to : RanTo stands P old new left0 left1 machine end) → length (whole to.ran.input) ≤ 2 ^ 41
few_events to = omega (arith, events_whole to.ran.input, to.ran.limit.most)

-- the bytes of what is to be kept of a program that ran
pub tells_program : {M : Type 0} (seen : M → MachineView) (stands : M → List StreamEvent → Type 0) (runner : Runner M) (P : Meaning) (c : CoreProgram) (old new : Option (List Move)) (left0 left1 : Option (List ℕ)) (end : End) (bytes : Result (Vec ℕ Global) Unleft)
    → IfOk bytes (λ v. OfEachProgram seen stands runner (λ origin word. KeptAs origin word (AreIts v.items))) → (IsErrOf bytes Large → OfEachProgram seen stands runner (λ origin word. KeptAs origin word AreTooMany))
    → IsOf seen runner.session c → RanTo (StandsFor (IsRunning seen stands)) P old new left0 left1 runner end → IsWellEnded end
    → TellsBytes (record { meaning = P; origin = from_start c; old = old; new = new; left0 = left0; left1 = left1 }) end bytes
tells_program seen stands runner P c old new left0 left1 end bytes its many of to well =
    let w : Way = record { meaning = P; origin = from_start c; old = old; new = new; left0 = left0; left1 = left1 } in
    let word = whole to.ran.input in
    record {
      ended = to.ran;
      its = IfOk-weaker bytes _ _ (λ v each. its_bytes w end to.ran well v.items (each P c word (to.state well) of (few_events to))) its;
      many = λ is. is_large w end to.ran well (inl (many is P c word (to.state well) of (few_events to)));
    }

-- and of one that went on from a kept state
pub tells_state : {M : Type 0} (seen : M → MachineView) (since : M → KeptTree → List StreamEvent → Type 0) (runner : Runner (Woken M)) (P : Meaning) (c : CoreProgram) (k : KeptTree) (old new : Option (List Move)) (left0 left1 : Option (List ℕ)) (end : End) (bytes : Result (Vec ℕ Global) Unleft)
    → IfOk bytes (λ v. OfEachState seen since runner (λ origin word. KeptAs origin word (AreIts v.items)))
    → (IsErrOf bytes Large → OfEachState seen since runner (λ origin word. KeptAs origin word AreTooMany ⊎ AreTooFar origin word))
    → IsFrom seen runner.session c k → RanTo (StandsFor (IsSince seen since)) P old new left0 left1 runner end → IsWellEnded end
    → TellsBytes (record { meaning = P; origin = from_kept c k; old = old; new = new; left0 = left0; left1 = left1 }) end bytes
tells_state seen since runner P c k old new left0 left1 end bytes its many from to well =
    let w : Way = record { meaning = P; origin = from_kept c k; old = old; new = new; left0 = left0; left1 = left1 } in
    let word = whole to.ran.input in
    record {
      ended = to.ran;
      its = IfOk-weaker bytes _ _ (λ v each. its_bytes w end to.ran well v.items (each P c k word (to.state well) from)) its;
      many = λ is. is_large w end to.ran well (many is P c k word (to.state well) from);
    }

-- what was written under the name is its
pub saved_state : (w : Way) (end : End) (files : Option (List ℕ → List ℕ)) (name written : List ℕ) → (k : KeptTree) × (places : List ℕ) × Leaves w end k × AreIts written k (kept_bytes k places) → Keeps files name written
    → IsSaved w files name end
saved_state w end files name written is keeps = record { state = is.0; places = is.1; leaves = is.2; sizes = is.3.sizes; few = is.3.few; held = λ told there. keeps told there ∙ is.3.same }

-- done and open are good ends
pub is_well : (end : End) → (end ≡ Done) ⊎ (end ≡ Open) → IsWellEnded end
is_well end (inl is) = subst IsWellEnded (sym is) tt
is_well end (inr is) = subst IsWellEnded (sym is) tt

-- the command ended as the run, which ended well
pub saves_well : (w : Way) (name : List ℕ) (old new : Option (List ℕ → List ℕ)) (end : End) → IsWellEnded end → Ended w end → IsSaved w new name end → ChangesOnly old new name → Saves w name old new end
saves_well w name old new Done well ran saved others = record { behind = Done; is_behind = refl; ended = ran; leaves = saved; changes = others; still = λ ill. absurd (ill tt) }
saves_well w name old new Open well ran saved others = record { behind = Open; is_behind = refl; ended = ran; leaves = saved; changes = others; still = λ ill. absurd (ill tt) }
saves_well w name old new Usage well ran saved others = absurd well
saves_well w name old new (Refused why) well ran saved others = absurd well
saves_well w name old new (Input fault) well ran saved others = absurd well
saves_well w name old new (Budget at) well ran saved others = absurd well
saves_well w name old new (Deep at) well ran saved others = absurd well
saves_well w name old new FileFailed well ran saved others = absurd well
saves_well w name old new ReadFailed well ran saved others = absurd well
saves_well w name old new WriteFailed well ran saved others = absurd well
saves_well w name old new Memory well ran saved others = absurd well
saves_well w name old new Long well ran saved others = absurd well
saves_well w name old new (Objected what) well ran saved others = absurd well

-- or as one that didn't, and then nothing is left
pub leaving_nothing : (ran left : End → Type 0) (name : List ℕ) (files : Option (List ℕ → List ℕ)) (end : End) → IsOfLoop end → (IsWellEnded end → ⊥) → ran end → ((e : End) → (IsWellEnded e → ⊥) → IsOfLoop e → left e) → Leaving ran left files files name end
leaving_nothing ran left name files end loop ill so none = record {
  behind = end;
  is_behind = itself end loop;
  ended = so;
  leaves = none end ill loop;
  changes = unchanged end ill;
  still = λ ill. refl;
}
  where
    itself : (end : End) → IsOfLoop end → IsBehind end end
    itself Done loop = refl
    itself Open loop = refl
    itself Usage loop = absurd loop
    itself (Refused why) loop = absurd loop
    itself (Input fault) loop = refl
    itself (Budget at) loop = refl
    itself (Deep at) loop = refl
    itself FileFailed loop = absurd loop
    itself ReadFailed loop = refl
    itself WriteFailed loop = refl
    itself Memory loop = inl refl
    itself Long loop = refl
    itself (Objected what) loop = absurd loop

    unchanged : (end : End) → (IsWellEnded end → ⊥) → ChangesState end files files name
    unchanged Done ill = absurd (ill tt)
    unchanged Open ill = absurd (ill tt)
    unchanged Usage ill = refl
    unchanged (Refused why) ill = refl
    unchanged (Input fault) ill = refl
    unchanged (Budget at) ill = refl
    unchanged (Deep at) ill = refl
    unchanged FileFailed ill = changes_nothing files name
    unchanged ReadFailed ill = refl
    unchanged WriteFailed ill = refl
    unchanged Memory ill = changes_nothing files name
    unchanged Long ill = refl
    unchanged (Objected what) ill = refl

-- of a run that ended so nothing is left
pub leaves_nothing : (w : Way) (files : Option (List ℕ → List ℕ)) (name : List ℕ) (end : End) → (IsWellEnded end → ⊥) → IsOfLoop end → LeavesState w files name end
leaves_nothing w files name Done ill loop = absurd (ill tt)
leaves_nothing w files name Open ill loop = absurd (ill tt)
leaves_nothing w files name Usage ill loop = tt
leaves_nothing w files name (Refused why) ill loop = tt
leaves_nothing w files name (Input fault) ill loop = tt
leaves_nothing w files name (Budget at) ill loop = tt
leaves_nothing w files name (Deep at) ill loop = tt
leaves_nothing w files name FileFailed ill loop = tt
leaves_nothing w files name ReadFailed ill loop = tt
leaves_nothing w files name WriteFailed ill loop = tt
leaves_nothing w files name Memory ill loop = tt
leaves_nothing w files name Long ill loop = tt
leaves_nothing w files name (Objected what) ill loop = absurd loop

pub saves_nothing : (w : Way) (name : List ℕ) (files : Option (List ℕ → List ℕ)) (end : End) → IsOfLoop end → (IsWellEnded end → ⊥) → Ended w end → Saves w name files files end
saves_nothing w name files end loop ill ran = leaving_nothing (Ended w) (LeavesState w files name) name files end loop ill ran (leaves_nothing w files name)
