-- A session on the load, from before an event to after it.
use Rattle.std.proofs.Common.{◌≡◌, ℕ, ◌+◌, ◌*◌, ◌<◌, ◌≤◌, ◌^◌, List, [], ◌∷◌, ◌++◌, Some, None, length, take, drop, get_or, ap, sym, subst, ◌∙◌, append_assoc, append-nil, arith}
use Rattle.std.specs.Prelude.{slice_get}
use Rattle.std.proofs.lemmas.List.{take_all, length-take}
use Rattle.std.proofs.lemmas.Option.{slice_get_within, get_or_from_slice_get}
use Rattle.stream_type.specs.StreamType.{StreamType, type_of}
use Rattle.event_word.specs.StreamEvent.{StreamEvent}
use Rattle.event_word.specs.EventFault.{fault_of}
use Rattle.event_word.specs.Admits.{Admits}
use Rattle.event_word.specs.Word.{IsWord, after, after_word}
use Rattle.event_word.specs.Canon.{canon}
use Rattle.event_word.proofs.Walks.{no_fault_is_admitted}
use Rattle.core_term.specs.CoreTerm.{CoreProgram}
use Rattle.delta_session.specs.declared.session.Session.{Session}
use Rattle.delta_session.specs.Course.{Course}
use Rattle.delta_session.specs.Standing.{Stands, IsOpen}
use Rattle.delta_session.specs.OneShot.{OneShot, said, said_to}
use Rattle.delta_output.specs.Spoken.{spoken, spoken_after}
use Rattle.delta_session.specs.Programs.{one_shot, course_of}
use Rattle.delta_load.specs.Load.{load_type, load}
use Rattle.delta_load.proofs.Words.{is_word}
use Rattle.delta_load.proofs.Places.{length-load}
use Rattle.delta_load.specs.declared.totals.Totals.{Totals}
use Rattle.delta_load.specs.Counting.{totals_of, IsLong}
use Rattle.delta_load.specs.Standing.{IsOnLoad}
use Rattle.delta_load.specs.Stopping.{IsMet}
use Rattle.delta_load.proofs.Counts.{long-append}
use Rattle.delta_load.proofs.Turns.{parted}
use Rattle.delta_state.proofs.Counts.{take-next}

-- what is put out on a word, and then on another behind it
spoken_after-append : (P : OneShot) (before v w : List StreamEvent) → spoken_after P before (v ++ w) ≡ spoken_after P before v ++ spoken_after P (before ++ v) w
spoken_after-append P before [] w = ap (λ (b : List StreamEvent). spoken_after P b w) (sym (append-nil before))
spoken_after-append P before (x ∷ v) w =
    let now = canon (said_to P before x) in
    ap (λ (out : List StreamEvent). now ++ out) (spoken_after-append P (before ++ x ∷ []) v w)
    ∙ ap (λ (b : List StreamEvent). now ++ (spoken_after P (before ++ x ∷ []) v ++ spoken_after P b w)) (append_assoc before (x ∷ []) v)
    ∙ sym (append_assoc now (spoken_after P (before ++ x ∷ []) v) (spoken_after P (before ++ x ∷ v) w))

pub spoken-append : (P : OneShot) (v w : List StreamEvent) → spoken P (v ++ w) ≡ spoken P v ++ spoken_after P v w
spoken-append P v w =
    ap (λ (out : List StreamEvent). canon (said P []) ++ out) (spoken_after-append P [] v w)
    ∙ sym (append_assoc (canon (said P [])) (spoken_after P [] v) (spoken_after P v w))

pub spoken-push : (P : OneShot) (word : List StreamEvent) (x : StreamEvent) → spoken P (word ++ x ∷ []) ≡ spoken P word ++ canon (said_to P word x)
spoken-push P word x = spoken-append P word (x ∷ []) ∙ ap (λ (out : List StreamEvent). spoken P word ++ out) (append-nil (canon (said_to P word x)))

-- an event of a word is admitted after those before it
admitted_in : (s : StreamType) (v w : List StreamEvent) (x : StreamEvent) → IsWord s (v ++ x ∷ w) → Admits (after_word v s) x
admitted_in s [] w x comes = comes.0
admitted_in s (y ∷ v) w x comes = admitted_in (after y s) v w x comes.1

module _ (start items i : ℕ) (x : StreamEvent) (is : slice_get (load start items) i ≡ Some x) where
  within : i < length (load start items)
  within = slice_get_within (load start items) i x is

  read : x ≡ get_or (load start items) i x
  read = sym (get_or_from_slice_get (load start items) i x x is)

  -- the load up to this event, and around it
  pub load_turn : take (i + 1) (load start items) ≡ take i (load start items) ++ x ∷ []
  load_turn = take-next (load start items) i x within read

  pub load_parted : load start items ≡ take i (load start items) ++ x ∷ drop (i + 1) (load start items)
  load_parted = parted (load start items) i x within read

  pub meets : (stops : List StreamEvent → StreamEvent → Type 0) → stops (take i (load start items)) x → IsMet stops (load start items)
  meets stops why = record { before = take i (load start items); event = x; rest = drop (i + 1) (load start items); split = load_parted; why = why }

  -- what was put out up to it is the front of all
  pub long_on : (P : OneShot) → IsLong (spoken P (take i (load start items)) ++ canon (said_to P (take i (load start items)) x)) → IsLong (spoken P (load start items))
  long_on P long =
      let before : List StreamEvent = take i (load start items) in
      let rest : List StreamEvent = drop (i + 1) (load start items) in
      let whole : spoken P (before ++ x ∷ []) ++ spoken_after P (before ++ x ∷ []) rest ≡ spoken P (load start items) =
      sym (spoken-append P (before ++ x ∷ []) rest) ∙ ap (spoken P) (append_assoc before (x ∷ []) rest ∙ sym load_parted) in
      subst IsLong whole (long-append (spoken P (before ++ x ∷ [])) (spoken_after P (before ++ x ∷ []) rest) (subst IsLong (sym (spoken-push P before x)) long))

  module _ {A : Type 0} (stands : A → Course → List StreamEvent → Type 0) (session : Session A) (on : IsOnLoad stands session (take i (load start items))) where
    pub open_here : IsOpen stands session
    open_here = record { course = course_of on.program 1000000; word = take i (load start items); standing = on.standing }

    pub admitted_here : fault_of x (type_of session.rest) ≡ None
    admitted_here =
        let left : after_word (take i (load start items)) load_type ≡ type_of session.rest = sym (on.standing.at.rest_is ∙ ap (after_word (take i (load start items))) on.input) in
        let admits = admitted_in load_type (take i (load start items)) (drop (i + 1) (load start items)) x (subst (IsWord load_type) load_parted (is_word start 0 items)) in
        (no_fault_is_admitted (type_of session.rest) x).1 (subst (λ (s : StreamType). Admits s x) left admits)

    pub room_here : items ≤ 10000000 → session.events < 2 ^ 42
    room_here few =
        let count = on.standing.count in
        let taken = length-take i (load start items) in
        let all = length-load start 0 items in
        omega (arith, count, taken, all, few)

-- the whole load
pub load_whole : (start items i : ℕ) → 5 * items + 1 ≤ i → take i (load start items) ≡ load start items
load_whole start items i h = let len = length-load start 0 items in take_all i (load start items) (omega (arith, h, len))

-- a session that began with nothing taken, and the totals of what came first, have come to this word with these totals
pub record Goes {A : Type 0} (stands : A → Course → List StreamEvent → Type 0) (began : Session A) (first : Totals) (session : Session A) (totals : Totals) (word : List StreamEvent) : Type 0 where
  pub on_load : IsOnLoad stands session word
  pub stands_on : (c : CoreProgram) → Stands stands began (course_of c 1000000) [] → Stands stands session (course_of c 1000000) word
  pub counted : (c : CoreProgram) → Stands stands began (course_of c 1000000) [] → first ≡ totals_of (spoken (one_shot c) []) → totals ≡ totals_of (spoken (one_shot c) word)

module _ (start items i : ℕ) (x : StreamEvent) (is : slice_get (load start items) i ≡ Some x) {A : Type 0} (stands : A → Course → List StreamEvent → Type 0)
    (began : Session A) (first : Totals) (old : Session A) (totals : Totals) (goes : Goes stands began first old totals (take i (load start items))) where
  abbrev before : List StreamEvent
  before = take i (load start items)

  -- an event on
  pub goes_on : (new : Session A) (more : Totals)
      → ((course : Course) (word : List StreamEvent) → Stands stands old course word → Stands stands new course (word ++ x ∷ []))
      → ((course : Course) (word : List StreamEvent) → Stands stands old course word → (said_before : List StreamEvent) → totals ≡ totals_of said_before
      → more ≡ totals_of (said_before ++ canon (said_to course.gives word x)))
      → Goes stands began first new more (take (i + 1) (load start items))
  goes_on new more next count = record {
    on_load = record {
      program = goes.on_load.program;
      standing = subst (λ (w : List StreamEvent). Stands stands new (course_of goes.on_load.program 1000000) w) (sym (load_turn start items i x is)) (next (course_of goes.on_load.program 1000000) before goes.on_load.standing);
      input = goes.on_load.input;
    };
    stands_on = λ c s. subst (λ (w : List StreamEvent). Stands stands new (course_of c 1000000) w) (sym (load_turn start items i x is)) (next (course_of c 1000000) before (goes.stands_on c s));
    counted = λ c s e.
        count (course_of c 1000000) before (goes.stands_on c s) (spoken (one_shot c) before) (goes.counted c s e)
        ∙ ap totals_of (sym (spoken-push (one_shot c) before x) ∙ ap (spoken (one_shot c)) (sym (load_turn start items i x is)));
  }

  -- or stopped at it
  pub long_here : ((course : Course) (word : List StreamEvent) → Stands stands old course word → (said_before : List StreamEvent) → totals ≡ totals_of said_before
      → IsLong (said_before ++ canon (said_to course.gives word x)))
      → (c : CoreProgram) → Stands stands began (course_of c 1000000) [] → first ≡ totals_of (spoken (one_shot c) []) → IsLong (spoken (one_shot c) (load start items))
  long_here long c s e = long_on start items i x is (one_shot c) (long (course_of c 1000000) before (goes.stands_on c s) (spoken (one_shot c) before) (goes.counted c s e))

-- what a session that has just opened said is counted first
pub counted_first : (c : CoreProgram) (first : Totals) (word said_first : List StreamEvent) → first ≡ totals_of word → word ≡ said_first → said_first ≡ canon (said (one_shot c) []) → first ≡ totals_of (spoken (one_shot c) [])
counted_first c first word said_first is same answer = is ∙ ap totals_of (same ∙ answer ∙ sym (append-nil (canon (said (one_shot c) []))))

-- and is the front of all that is put out
pub long_first : (c : CoreProgram) (start items : ℕ) (word said_first : List StreamEvent) → IsLong word → word ≡ said_first → said_first ≡ canon (said (one_shot c) [])
    → IsLong (spoken (one_shot c) (load start items))
long_first c start items word said_first long same answer =
    long-append (canon (said (one_shot c) [])) (spoken_after (one_shot c) [] (load start items)) (subst IsLong (same ∙ answer) long)
