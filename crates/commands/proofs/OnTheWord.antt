-- A session on a word, and what was said to it, from before an event to after it.
use Rattle.std.proofs.Common.{◌≡◌, ℕ, ◌+◌, ◌<◌, List, [], ◌∷◌, ◌++◌, None, IsTrue, true, length, take, drop, get_or, ap, sym, subst, ◌∙◌, append_assoc, arith}
use Rattle.std.proofs.lemmas.List.{take_more, take-append-drop, length-take-le}
use Rattle.stream_type.specs.StreamType.{StreamType, type_of, null_of}
use Rattle.stream_prefix.specs.StreamPrefix.{StreamPrefix, is_maximal}
use Rattle.stream_prefix.proofs.Derivations.{is_prefix}
use Rattle.stream_prefix.proofs.PrefixLaws.{maximal_leaves_null}
use Rattle.event_word.specs.StreamEvent.{StreamEvent}
use Rattle.event_word.specs.EventFault.{fault_of}
use Rattle.event_word.specs.Admits.{Admits}
use Rattle.event_word.specs.Word.{IsWord, pre}
use Rattle.event_word.specs.Canon.{canon}
use Rattle.event_word.proofs.Walks.{no_fault_is_admitted}
use Rattle.event_word.proofs.Words.{word_derives, word_front, word_back, after_word-pre}
use Rattle.delta_session.specs.OneShot.{OneShot, Grows, said, said_to, left_of}
use Rattle.delta_session.specs.Course.{Course, GoesOn}
use Rattle.delta_session.specs.declared.session.Session.{Session}
use Rattle.delta_session.specs.Standing.{Stands}
use Rattle.delta_session.proofs.Growth.{whole_at_end}
use Rattle.delta_output.proofs.Speaking.{spells_first, spells_on}
use Rattle.commands.specs.Stopping.{IsMetAt}

-- events of the output's type that stand for what is said of a word
pub record Says (P : OneShot) (word out : List StreamEvent) : Type 0 where
  pub is_word : IsWord P.result out
  pub means : pre P.result out ≡ said P word

-- what is said before any event
pub says_first : (P : OneShot) → Grows P → Says P [] (canon (said P []))
says_first P grows =
    let first = spells_first P grows in record { is_word = first.0; means = first.1 }

-- an event of a word is admitted after those before it
admits : (P : OneShot) (word : List StreamEvent) (x : StreamEvent) → IsWord P.input (word ++ x ∷ []) → Admits (left_of P word) x
admits P word x comes =
    subst (λ (s : StreamType). Admits s x) (sym (after_word-pre P.input word (word_front P.input word (x ∷ []) comes))) (word_back P.input word (x ∷ []) comes).0

module _ (word : List StreamEvent) (at : ℕ) (x : StreamEvent) (within : at < length word) (read : x ≡ get_or word at x) where
  -- the word up to the event, and around it
  turn : take (at + 1) word ≡ take at word ++ x ∷ []
  turn = take_more word at x within ∙ ap (λ y. take at word ++ y ∷ []) (sym read)

  parted : word ≡ take at word ++ x ∷ drop (at + 1) word
  parted = sym (take-append-drop (at + 1) word) ∙ ap (λ ys. ys ++ drop (at + 1) word) turn ∙ append_assoc (take at word) (x ∷ []) (drop (at + 1) word)

  pub met_at : (stops : List StreamEvent → StreamEvent → Type 0) → stops (take at word) x → IsMetAt stops word at
  met_at stops why = record {
    before = take at word;
    event = x;
    rest = drop (at + 1) word;
    split = parted;
    number = length-take-le at word (omega (arith, within));
    why = why;
  }

  module _ {A : Type 0} (stands : A → Course → List StreamEvent → Type 0) (session : Session A) (course : Course) (standing : Stands stands session course (take at word)) where
    module _ (comes : IsWord course.gives.input word) where
      -- the event goes on with a word of the input's type
      comes_on : IsWord course.gives.input (take at word ++ x ∷ [])
      comes_on =
          subst (IsWord course.gives.input) turn
          (word_front course.gives.input (take (at + 1) word) (drop (at + 1) word) (subst (IsWord course.gives.input) (sym (take-append-drop (at + 1) word)) comes))

      pub admitted_here : fault_of x (type_of session.rest) ≡ None
      admitted_here =
          (no_fault_is_admitted (type_of session.rest) x).1
          (subst (λ (s : StreamType). Admits s x) (sym standing.at.rest_is) (admits course.gives (take at word) x comes_on))

      pub says_on : Grows course.gives → (out more : List StreamEvent) → Says course.gives (take at word) out → more ≡ out ++ canon (said_to course.gives (take at word) x)
          → Says course.gives (take (at + 1) word) more
      says_on grows out more says is =
          let now = spells_on course.gives grows (take at word) x comes_on out says.is_word says.means in
          subst (λ (w : List StreamEvent). Says course.gives w more) (sym turn) (subst (Says course.gives (take at word ++ x ∷ [])) (sym is) (record { is_word = now.0; means = now.1 }))

    pub stands_on : (new : Session A) → Stands stands new course (take at word ++ x ∷ []) → Stands stands new course (take (at + 1) word)
    stands_on new later = subst (λ (w : List StreamEvent). Stands stands new course w) (sym turn) later

-- where the whole of the input has come, what was said is whole
pub said_whole : {A : Type 0} (stands : A → Course → List StreamEvent → Type 0) → ((m : A) (c : Course) (w : List StreamEvent) → stands m c w → GoesOn c w)
    → (session : Session A) (course : Course) (word : List StreamEvent) → Stands stands session course word
    → (p : StreamPrefix) → p ≡ said course.gives word → IsTrue (is_maximal (pre course.gives.input word)) → IsTrue (is_maximal p)
said_whole stands law session course word standing p is ended =
    let at = standing.at in
    let goes = law standing.machine course word at.state in
    let s = course.gives.input in
    let comes = is_prefix (word_derives s word goes.comes) in
    let left : null_of (type_of session.rest) ≡ true = ap null_of (at.rest_is ∙ after_word-pre s word goes.comes) ∙ maximal_leaves_null s (pre s word) comes ∙ ended in
    ap is_maximal is ∙ whole_at_end stands law standing.machine (type_of session.rest) (type_of session.output) course word at left
