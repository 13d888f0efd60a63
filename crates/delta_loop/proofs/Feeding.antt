-- One event, from what stood before it to what stands after it.
use Rattle.std.proofs.Common.{◌≡◌, inr, ℕ, refl, List, [], ◌∷◌, ◌++◌, false, Option, Some, None, ◌∙◌, ap, sym, subst, append_assoc, append-nil}
use Rattle.port.specs.declared.link.Move.{Move}
use Rattle.event_word.specs.StreamEvent.{StreamEvent}
use Rattle.event_word.specs.declared.fault.EventFault.{EventFault}
use Rattle.event_frame.specs.Reading.{whole}
use Rattle.delta_end.specs.declared.end.InputFault.TheVariants.{Event}
use Rattle.delta_end.specs.declared.end.End.TheVariants.{Input, Budget, Deep, WriteFailed, Memory}
use Rattle.delta_loop.specs.Meaning.{Meaning, IsCostly, IsDeep}
use Rattle.delta_loop.specs.Output.{accepted, output, due}
use Rattle.delta_loop.specs.Finding.{place_in}
use Rattle.delta_loop.specs.History.{History, Writes}
use Rattle.delta_loop.specs.Return.{Begins, StopsAt}
use Rattle.delta_loop.specs.Loop.{Serves, Ended}
use Rattle.delta_loop.proofs.Outputs.{output_more, accepted_more, accepted_stop, accepted_begins, output_begins}
use Rattle.delta_loop.proofs.Findings.{finding_refused}

module _ {M : Type 0} (stands : M → Meaning → List StreamEvent → Type 0) (P : Meaning) (start old : Option (List Move)) (m : M) (input : List ℕ) (word : List StreamEvent) (before : Serves stands P start old m input word) where
  -- the whole answer was written
  pub serves_more : (new : Option (List Move)) (n : M) (x : StreamEvent) (bytes sent rest : List ℕ) → P.fault word x ≡ None → stands n P (word ++ x ∷ [])
      → bytes ≡ P.answer word x → bytes ≡ sent ++ rest → rest ≡ [] → Writes old new sent → Serves stands P start new n input (word ++ x ∷ [])
  serves_more new n x bytes sent rest may after answer split none writes =
      let all : sent ≡ P.answer word x = sym (append-nil sent) ∙ sym (ap (λ (bs : List ℕ). sent ++ bs) none) ∙ sym split ∙ answer in
      let written : output P word ++ sent ≡ output P (word ++ x ∷ []) = ap (λ (bs : List ℕ). output P word ++ bs) all ∙ sym (output_more P word x) in
      record {
        history = subst (λ (bs : List ℕ). History (due P) start new input bs false) written (writes (due P) start input (output P word) false before.history);
        accepts = accepted_more P word x before.accepts may;
        state = after;
      }

  -- what was written so far is a part of what is due
  pub written_part : (more : List StreamEvent) → whole input ≡ word ++ more → Begins (output P word) (due P input)
  written_part more is = output_begins P input word (accepted_begins P word more (whole input) before.accepts is)

  -- a part of the answer was written, and that is a part of what is due
  pub written_part_more : (x : StreamEvent) (more : List StreamEvent) (bytes sent rest : List ℕ) → whole input ≡ word ++ x ∷ more → P.fault word x ≡ None
      → bytes ≡ P.answer word x → bytes ≡ sent ++ rest → Begins (output P word ++ sent) (due P input)
  written_part_more x more bytes sent rest is may answer split =
      let longer : whole input ≡ (word ++ x ∷ []) ++ more = is ∙ sym (append_assoc word (x ∷ []) more) in
      let whole_answer = output_begins P input (word ++ x ∷ []) (accepted_begins P (word ++ x ∷ []) more (whole input) (accepted_more P word x before.accepts may) longer) in
      let parts : output P (word ++ x ∷ []) ≡ (output P word ++ sent) ++ rest =
      output_more P word x ∙ ap (λ (bs : List ℕ). output P word ++ bs) (sym answer ∙ split) ∙ sym (append_assoc (output P word) sent rest) in
      (rest ++ whole_answer.0, whole_answer.1 ∙ ap (λ (bs : List ℕ). bs ++ whole_answer.0) parts ∙ append_assoc (output P word ++ sent) rest whole_answer.0)

  -- memory ran out before anything was written
  pub ended_memory : (x : StreamEvent) (more : List StreamEvent) → whole input ≡ word ++ x ∷ more → Ended P start old input false Memory
  ended_memory x more is = record {
    written = output P word;
    history = before.history;
    may = written_part (x ∷ more) is;
  }

  -- the event has a fault
  pub ended_refused : (place : ℕ) (x : StreamEvent) (more : List StreamEvent) (fault : EventFault) → whole input ≡ word ++ x ∷ more → place ≡ place_in input word → P.fault word x ≡ Some fault
      → Ended P start old input false (Input (Event fault place))
  ended_refused place x more fault is at never = record {
    written = output P word;
    history = before.history;
    may = (
      finding_refused P input word more x fault false before.accepts is never ∙ ap (λ (n : ℕ). Some (Event fault n)) (sym at),
      ap (output P) (sym (ap (accepted P) is ∙ accepted_stop P word more x fault before.accepts never)),
    );
  }

  -- a part of the answer was written, and then the link failed
  pub ended_in_write : (new : Option (List Move)) (x : StreamEvent) (more : List StreamEvent) (bytes sent rest : List ℕ) → whole input ≡ word ++ x ∷ more → P.fault word x ≡ None
      → bytes ≡ P.answer word x → bytes ≡ sent ++ rest → Writes old new sent → Ended P start new input false WriteFailed
  ended_in_write new x more bytes sent rest is may answer split writes = record {
    written = output P word ++ sent;
    history = writes (due P) start input (output P word) false before.history;
    may = written_part_more x more bytes sent rest is may answer split;
  }

  -- or memory ran out in the link
  pub ended_memory_in_write : (new : Option (List Move)) (x : StreamEvent) (more : List StreamEvent) (bytes sent rest : List ℕ) → whole input ≡ word ++ x ∷ more → P.fault word x ≡ None
      → bytes ≡ P.answer word x → bytes ≡ sent ++ rest → Writes old new sent → Ended P start new input false Memory
  ended_memory_in_write new x more bytes sent rest is may answer split writes = record {
    written = output P word ++ sent;
    history = writes (due P) start input (output P word) false before.history;
    may = written_part_more x more bytes sent rest is may answer split;
  }

-- an event that stops the program, at the place of its frame
module _ {M : Type 0} (stands : M → Meaning → List StreamEvent → Type 0) (P : Meaning) (start old : Option (List Move)) (m : M) (input : List ℕ) (word : List StreamEvent) (before : Serves stands P start old m input word)
    (place : ℕ) (x : StreamEvent) (more : List StreamEvent) (is : whole input ≡ word ++ x ∷ more) (at : place ≡ place_in input word) (may : P.fault word x ≡ None) where
  stops : (why : List StreamEvent → StreamEvent → Type 0) → why word x → StopsAt P why input (output P word) place
  stops why stopped = record {
    word = word;
    event = x;
    more = more;
    came = is;
    accepts = accepted_more P word x before.accepts may;
    place = at;
    before = refl;
    why = stopped;
  }

  pub ended_costly : IsCostly P word x → Ended P start old input false (Budget place)
  ended_costly costly = record { written = output P word; history = before.history; may = inr (stops (IsCostly P) costly) }

  pub ended_deep : IsDeep P word x → Ended P start old input false (Deep place)
  ended_deep deep = record { written = output P word; history = before.history; may = inr (stops (IsDeep P) deep) }
