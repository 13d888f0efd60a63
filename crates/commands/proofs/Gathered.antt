-- What a run that gathers an input finds and writes.
use Rattle.std.proofs.Common.{◌≡◌, ◌∙◌, ℕ, List, [], ◌∷◌, ◌++◌, Bool, Option, Some, None, refl, sym, ap, subst}
use Rattle.stream_type.specs.StreamType.{StreamType, type_of}
use Rattle.event_word.specs.StreamEvent.{StreamEvent}
use Rattle.event_word.specs.declared.fault.EventFault.{EventFault}
use Rattle.event_word.specs.EventFault.{fault_of}
use Rattle.event_word.specs.Admits.{Admits}
use Rattle.event_word.specs.Word.{IsWord, after, after_word}
use Rattle.event_word.proofs.Walks.{no_fault_is_admitted}
use Rattle.event_word.proofs.Words.{after_word-push, after_word-pre, word_push}
use Rattle.event_frame.specs.Reading.{whole}
use Rattle.delta_end.specs.declared.end.InputFault.{InputFault}
use Rattle.delta_end.specs.declared.end.InputFault.TheVariants.{Event}
use Rattle.delta_loop.specs.Meaning.{Meaning}
use Rattle.delta_loop.proofs.Unstopped.{MakesNoCalls}
use Rattle.delta_loop.specs.Finding.{fault_or, place_in, event_finding, finding}
use Rattle.delta_loop.specs.Output.{answers_after, due, accepted, accepted_after, up_to_fault}
use Rattle.commands.specs.Gathering.{gathering, Gathers}
use Rattle.commands.specs.declared.gathering.Gathering.{Gathering}

-- no call is made
pub makes_no_calls : (s : StreamType) → MakesNoCalls (gathering s)
makes_no_calls s = record { calls = λ word. refl; level = λ word. refl }

-- nothing is written
answers_none : (s : StreamType) (before word : List StreamEvent) → answers_after (gathering s) before word ≡ []
answers_none s before [] = refl
answers_none s before (x ∷ word) = answers_none s (before ++ x ∷ []) word

pub due_none : (s : StreamType) (bytes : List ℕ) → due (gathering s) bytes ≡ []
due_none s bytes = answers_none s [] (accepted (gathering s) (whole bytes))

-- nothing is found in an event that may come, and else its fault is
no_fault : (o : Option EventFault) (place : ℕ) (rest : Option InputFault) → fault_or o place rest ≡ None → (o ≡ None) × (rest ≡ None)
no_fault None place rest e = (refl, e)
no_fault (Some fault) place rest e = absurd (let clash : Some (Event fault place) ≡ None = e in let none : ⊥ = cc in none)

words_found : (s : StreamType) (bytes : List ℕ) (before word : List StreamEvent) (rest : Option InputFault) → event_finding (gathering s) bytes before word rest ≡ None
    → IsWord (after_word before s) word
words_found s bytes before [] rest e = tt
words_found s bytes before (x ∷ word) rest e =
    let both = no_fault (fault_of x (after_word before s)) (place_in bytes before) (event_finding (gathering s) bytes (before ++ x ∷ []) word rest) e in
    ((no_fault_is_admitted (after_word before s) x).0 both.0, subst (λ (t : StreamType). IsWord t word) (after_word-push s before x) (words_found s bytes (before ++ x ∷ []) word rest both.1))

-- where nothing is found, the events are a word of the type
pub is_word : (s : StreamType) (input : List ℕ) (ended : Bool) → finding (gathering s) input ended ≡ None → IsWord s (whole input)
is_word s input ended e = words_found s input [] (whole input) _ e

-- each event of a word may come
pub accepts_all : (s : StreamType) (before word : List StreamEvent) → IsWord (after_word before s) word → accepted_after (gathering s) before word ≡ word
accepts_all s before [] h = refl
accepts_all s before (x ∷ word) h =
    let none : fault_of x (after_word before s) ≡ None = (no_fault_is_admitted (after_word before s) x).1 h.0 in
    let rest = accepts_all s (before ++ x ∷ []) word (subst (λ (t : StreamType). IsWord t word) (sym (after_word-push s before x)) h.1) in
    ap (λ (o : Option EventFault). up_to_fault o x (accepted_after (gathering s) (before ++ x ∷ []) word)) none ∙ ap (λ (w : List StreamEvent). x ∷ w) rest

-- one event more
pub gathers_next : (old new : Gathering) (P : Meaning) (word : List StreamEvent) (x : StreamEvent) → Gathers old P word → Admits (type_of old.rest) x
    → type_of new.rest ≡ after x (type_of old.rest) → new.word.items ≡ old.word.items ++ x ∷ [] → Gathers new P (word ++ x ∷ [])
gathers_next old new P word x now admits rest all =
    let here : Admits (after_word word now.input) x = subst (λ (t : StreamType). Admits t x) now.rest admits in
    record {
      input = now.input;
      means = now.means;
      comes = word_push now.input word x now.comes (subst (λ (t : StreamType). Admits t x) (after_word-pre now.input word now.comes) here);
      rest = rest ∙ ap (after x) now.rest ∙ sym (after_word-push now.input word x);
      all = all ∙ ap (λ (w : List StreamEvent). w ++ x ∷ []) now.all;
    }

-- one with the same type left and the same events has gathered the same
pub gathers_same : (old new : Gathering) (P : Meaning) (word : List StreamEvent) → new.rest ≡ old.rest → new.word.items ≡ old.word.items → Gathers new P word → Gathers old P word
gathers_same old new P word rest all now = record {
  input = now.input;
  means = now.means;
  comes = now.comes;
  rest = ap type_of (sym rest) ∙ now.rest;
  all = sym all ∙ now.all;
}

pub faults_here : (now : Gathering) (P : Meaning) (word : List StreamEvent) (x : StreamEvent) → Gathers now P word → P.fault word x ≡ fault_of x (type_of now.rest)
faults_here now P word x is = ap (λ (Q : Meaning). Q.fault word x) is.means ∙ ap (fault_of x) (sym is.rest)

pub answers_nothing : (now : Gathering) (P : Meaning) (word : List StreamEvent) (x : StreamEvent) → Gathers now P word → P.answer word x ≡ []
answers_nothing now P word x is = ap (λ (Q : Meaning). Q.answer word x) is.means
