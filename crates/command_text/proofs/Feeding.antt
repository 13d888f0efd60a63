-- What a byte more does, by what stood before it.
use Rattle.std.proofs.Common.{arith, zero, suc, ◌+◌, ◌<◌, length, take, drop, get_or, Result, Ok, Err, IsOk, OnOk, IfErr, ◌≡◌, ℕ, List, [], ◌∷◌, ◌++◌, Bool, true, false, Option, Some, option_map, refl, sym, ap, ap₂, ◌∙◌, subst, append_assoc, append-nil}
use Rattle.port.specs.declared.link.Move.{Move}
use Rattle.event_word.specs.StreamEvent.{StreamEvent}
use Rattle.event_frame.specs.declared.version.Version.{Version}
use Rattle.event_frame.specs.Frames.{header, frame, frames}
use Rattle.event_frame.proofs.Readers.{frames_more}
use Rattle.delta_end.specs.declared.end.End.{End}
use Rattle.delta_end.specs.declared.end.End.TheVariants.{Done, Input, Budget, Deep, ReadFailed, WriteFailed, Memory, Long, Usage, Refused as RefusedProgram, Open, FileFailed, Objected}
use Rattle.command_text.specs.Fault.{line_fault}
use Rattle.command_text.specs.declared.fault.LineRefusal.{LineRefusal}
use Rattle.command_text.specs.LineState.{LineState}
use Rattle.delta_loop.specs.History.{History, Writes}
use Rattle.command_text.specs.Reading.{Taken, Within, Refused, taken, taken_from, behind, stop, at_end, last_line, refused_in}
use Rattle.command_text.specs.Conversion.{Conversion, frames_of_lines, all_due, MayEnd, Ended}
use Rattle.delta_loop.specs.Return.{Begins}
use Rattle.command_text.specs.Loop.{Reads, Feeds}
use Rattle.command_text.specs.Sending.{IsOfSending}

pub frames-append : (v : Version) (a b : List StreamEvent) → frames v (a ++ b) ≡ frames v a ++ frames v b
frames-append v [] b = refl
frames-append v (x ∷ a) b = ap (λ (bs : List ℕ). frame v x ++ bs) (frames-append v a b) ∙ sym (append_assoc (frame v x) (frames v a) (frames v b))

-- events in front of events in front
behind_behind : (a b : List StreamEvent) (t : Taken) → behind a (behind b t) ≡ behind (a ++ b) t
behind_behind a b t = ap (λ (w : List StreamEvent). record t { word = w }) (sym (append_assoc a b t.word))

-- a byte that ends the line of an event
pub reads_event : (v : Version) (r next : LineState) (front : List ℕ) (word : List StreamEvent) (byte : ℕ) (x : StreamEvent) → Reads v r front word
    → ((more : List ℕ) → taken_from v r (byte ∷ more) ≡ behind (x ∷ []) (taken_from v next more)) → Reads v next (front ++ byte ∷ []) (word ++ x ∷ [])
reads_event v r next front word byte x reads step = record {
  all = λ more. ap (taken v) (append_assoc front (byte ∷ []) more)
      ∙ (reads.all (byte ∷ more) ∙ (ap (behind word) (step more) ∙ behind_behind word (x ∷ []) (taken_from v next more)));
}

-- what was written, with a frame more
output_one : (v : Version) (word : List StreamEvent) (x : StreamEvent) (sent : List ℕ) → frame v x ≡ sent → (header v ++ frames v word) ++ sent ≡ header v ++ frames v (word ++ x ∷ [])
output_one v word x sent is =
    append_assoc (header v) (frames v word) sent ∙ ap (λ (bs : List ℕ). header v ++ bs) (ap (λ (bs : List ℕ). frames v word ++ bs) (sym is) ∙ sym (frames_more v word x))

pub feeds_event : (v : Version) (start now next : Option (List Move)) (r r' : LineState) (input front : List ℕ) (byte : ℕ) (x : StreamEvent) (sent rest : List ℕ)
    → Feeds v start now r input front false → ((more : List ℕ) → taken_from v r (byte ∷ more) ≡ behind (x ∷ []) (taken_from v r' more))
    → frame v x ≡ sent ++ rest → rest ≡ [] → Writes now next sent → Feeds v start next r' input (front ++ byte ∷ []) false
feeds_event v start now next r r' input front byte x sent rest feeds step split none writes = record {
  word = feeds.word ++ x ∷ [];
  history = subst (λ (out : List ℕ). History (frames_of_lines v).due start next input out false)
      (output_one v feeds.word x sent (split ∙ (ap (λ (bs : List ℕ). sent ++ bs) none ∙ append-nil sent)))
      (writes (frames_of_lines v).due start input (header v ++ frames v feeds.word) false feeds.history);
  reads = reads_event v r r' front feeds.word byte x feeds.reads step;
}

-- a front of the word of an input, and what goes on from it
goes_on_from : (v : Version) (r : LineState) (front more : List ℕ) (word : List StreamEvent) → Reads v r front word
    → (frames_of_lines v).due (front ++ more) ≡ (header v ++ frames v word) ++ frames v (taken_from v r more).word
goes_on_from v r front more word reads =
    ap (λ (t : Taken). header v ++ frames v t.word) (reads.all more)
    ∙ (ap (λ (bs : List ℕ). header v ++ bs) (frames-append v word (taken_from v r more).word) ∙ sym (append_assoc (header v) (frames v word) (frames v (taken_from v r more).word)))

-- memory ran out inside a piece
pub ended_memory : (v : Version) (start now : Option (List Move)) (r : LineState) (front more : List ℕ) → Feeds v start now r (front ++ more) front false
    → Ended (frames_of_lines v) start now (front ++ more) false Memory
ended_memory v start now r front more feeds = record {
  written = header v ++ frames v feeds.word;
  history = feeds.history;
  may = (frames v (taken_from v r more).word, goes_on_from v r front more feeds.word feeds.reads);
}

-- an end of a write: what was written begins what is due
pub may_send : (C : Conversion) (input : List ℕ) (ended : Bool) (written : List ℕ) (end : End) → IsOfSending end → Begins written (all_due C ended input) → MayEnd C input ended written end
may_send C input ended written WriteFailed of begins = begins
may_send C input ended written Memory of begins = begins
may_send C input ended written Done of begins = absurd of
may_send C input ended written (Input f) of begins = absurd of
may_send C input ended written ReadFailed of begins = absurd of
may_send C input ended written Long of begins = absurd of
may_send C input ended written Usage of begins = absurd of
may_send C input ended written (RefusedProgram why) of begins = absurd of
may_send C input ended written Open of begins = absurd of
may_send C input ended written (Budget at) of begins = absurd of
may_send C input ended written (Deep at) of begins = absurd of
may_send C input ended written FileFailed of begins = absurd of
may_send C input ended written (Objected what) of begins = absurd of

pub ended_sending : (v : Version) (start now next : Option (List Move)) (r r' : LineState) (front more : List ℕ) (byte : ℕ) (x : StreamEvent) (sent rest : List ℕ) (end : End)
    → Feeds v start now r (front ++ byte ∷ more) front false → ((behind_it : List ℕ) → taken_from v r (byte ∷ behind_it) ≡ behind (x ∷ []) (taken_from v r' behind_it))
    → frame v x ≡ sent ++ rest → Writes now next sent → IsOfSending end → Ended (frames_of_lines v) start next (front ++ byte ∷ more) false end
ended_sending v start now next r r' front more byte x sent rest end feeds step split writes of =
    let tail : List ℕ = frames v (taken_from v r' more).word in
    let e : (frames_of_lines v).due (front ++ byte ∷ more) ≡ (header v ++ frames v feeds.word) ++ (frame v x ++ tail) =
    goes_on_from v r front (byte ∷ more) feeds.word feeds.reads ∙ ap (λ (t : Taken). (header v ++ frames v feeds.word) ++ frames v t.word) (step more) in
    record {
      written = (header v ++ frames v feeds.word) ++ sent;
      history = writes (frames_of_lines v).due start (front ++ byte ∷ more) (header v ++ frames v feeds.word) false feeds.history;
      may = may_send (frames_of_lines v) (front ++ byte ∷ more) false _ end of (
        rest ++ tail,
        e ∙ (ap (λ (bs : List ℕ). (header v ++ frames v feeds.word) ++ (bs ++ tail)) split
            ∙ (ap (λ (bs : List ℕ). (header v ++ frames v feeds.word) ++ bs) (append_assoc sent rest tail) ∙ sym (append_assoc (header v ++ frames v feeds.word) sent (rest ++ tail)))),
      );
    }

-- what follows where a call was Ok
pub on_ok : {T E : Type 0} (r : Result T E) (P : Type 0) → (IsOk r → P) → OnOk r P
on_ok (Ok x) P f = f refl
on_ok (Err e) P f = tt

-- what follows where it wasn't
pub if_err : {T E : Type 0} (r : Result T E) (P Q : E → Type 0) → IfErr r P → ((e : E) → P e → Q e) → IfErr r Q
if_err (Ok x) P Q h f = tt
if_err (Err e) P Q h f = f e h

-- where the input ended behind this word, the last line is what is left
module _ (v : Version) (start now : Option (List Move)) (r : LineState) (input : List ℕ) (feeds : Feeds v start now r input input true) where
  whole_input : taken v input ≡ behind feeds.word (stop (Within r))
  whole_input = ap (taken v) (sym (append-nil input)) ∙ feeds.reads.all []

  due_is : (frames_of_lines v).due input ≡ header v ++ frames v feeds.word
  due_is = (ap (λ (t : Taken). header v ++ frames v t.word) whole_input) ∙ ap (λ (w : List StreamEvent). header v ++ frames v w) (append-nil feeds.word)

  last_is : (t : Taken) → last_line v r.place r.line ≡ t → (frames_of_lines v).last input ≡ frames v t.word
  last_is t is = (ap (λ (x : Taken). frames v (at_end v x.ending).word) whole_input) ∙ ap (λ (x : Taken). frames v x.word) is

  finding_is : (t : Taken) → last_line v r.place r.line ≡ t → (frames_of_lines v).finding true input ≡ option_map (λ (found : LineRefusal × ℕ). line_fault found.0 found.1) (refused_in t.ending)
  finding_is t is =
      (ap (λ (x : Taken). option_map (λ (found : LineRefusal × ℕ). line_fault found.0 found.1) (refused_in (at_end v x.ending).ending)) whole_input)
      ∙ ap (λ (x : Taken). option_map (λ (found : LineRefusal × ℕ). line_fault found.0 found.1) (refused_in x.ending)) is

  all_is : (t : Taken) → last_line v r.place r.line ≡ t → all_due (frames_of_lines v) true input ≡ (header v ++ frames v feeds.word) ++ frames v t.word
  all_is t is = ap₂ (λ (a b : List ℕ). a ++ b) due_is (last_is t is)

  -- with no byte of a last line
  pub ended_done : last_line v r.place r.line ≡ stop (Within r) → Ended (frames_of_lines v) start now input true Done
  ended_done is = record {
    written = header v ++ frames v feeds.word;
    history = feeds.history;
    may = (refl, finding_is (stop (Within r)) is, sym (all_is (stop (Within r)) is ∙ append-nil (header v ++ frames v feeds.word)));
  }

  -- with a last line that is refused
  pub ended_badly : (refusal : LineRefusal) (place : ℕ) → place ≡ r.place → last_line v r.place r.line ≡ stop (Refused refusal r.place)
      → Ended (frames_of_lines v) start now input true (Input (line_fault refusal place))
  ended_badly refusal place here is = record {
    written = header v ++ frames v feeds.word;
    history = feeds.history;
    may = (
      finding_is (stop (Refused refusal r.place)) is ∙ ap (λ (n : ℕ). Some (line_fault refusal n)) (sym here),
      sym (all_is (stop (Refused refusal r.place)) is ∙ append-nil (header v ++ frames v feeds.word)),
    );
  }

  module _ (next : Option (List Move)) (s : LineState) (x : StreamEvent) (sent rest : List ℕ)
      (is : last_line v r.place r.line ≡ behind (x ∷ []) (stop (Within s))) (split : frame v x ≡ sent ++ rest) (writes : Writes now next sent) where
    abbrev H : List ℕ
    H = header v ++ frames v feeds.word

    history_sent : History (frames_of_lines v).due start next input (H ++ sent) true
    history_sent = writes (frames_of_lines v).due start input H true feeds.history

    due_all : all_due (frames_of_lines v) true input ≡ (H ++ sent) ++ rest
    due_all = all_is (behind (x ∷ []) (stop (Within s))) is ∙ (ap (λ (bs : List ℕ). H ++ bs) (append-nil (frame v x) ∙ split) ∙ sym (append_assoc H sent rest))

    -- with a last line whose frame was written
    pub ended_written : rest ≡ [] → Ended (frames_of_lines v) start next input true Done
    ended_written none = record {
      written = H ++ sent;
      history = history_sent;
      may = (refl, finding_is (behind (x ∷ []) (stop (Within s))) is, sym (due_all ∙ (ap (λ (bs : List ℕ). (H ++ sent) ++ bs) none ∙ append-nil (H ++ sent))));
    }

    -- or was not, or in part
    pub ended_in_part : (end : End) → IsOfSending end → Ended (frames_of_lines v) start next input true end
    ended_in_part end of = record {
      written = H ++ sent;
      history = history_sent;
      may = may_send (frames_of_lines v) input true (H ++ sent) end of (rest, due_all);
    }

-- a piece, cut at a byte of it
cut_at : (piece : List ℕ) (i : ℕ) → i < length piece → piece ≡ take i piece ++ get_or piece i 0 ∷ drop (i + 1) piece
cut_at [] i lt = absurd (omega arith)
cut_at (x ∷ piece) zero lt = refl
cut_at (x ∷ piece) (suc i) lt = let e : suc i + 1 ≡ suc (i + 1) = omega arith in rw e (ap (λ (bs : List ℕ). x ∷ bs) (cut_at piece i (omega arith)))

-- a run that ended at a byte of a piece
pub ended_at : (v : Version) (start before now : Option (List Move)) (r : LineState) (input piece : List ℕ) (i : ℕ) (end : End) → i < length piece
    → ((more : List ℕ) → Feeds v start before r ((input ++ take i piece) ++ get_or piece i 0 ∷ more) (input ++ take i piece) false
    → Ended (frames_of_lines v) start now ((input ++ take i piece) ++ get_or piece i 0 ∷ more) false end)
    → Feeds v start before r (input ++ piece) (input ++ take i piece) false → Ended (frames_of_lines v) start now (input ++ piece) false end
ended_at v start before now r input piece i end lt ends feeds =
    let e : (input ++ take i piece) ++ get_or piece i 0 ∷ drop (i + 1) piece ≡ input ++ piece =
    append_assoc input (take i piece) (get_or piece i 0 ∷ drop (i + 1) piece) ∙ ap (λ (bs : List ℕ). input ++ bs) (sym (cut_at piece i lt)) in
    subst (λ (all : List ℕ). Ended (frames_of_lines v) start now all false end) e
    (ends (drop (i + 1) piece) (subst (λ (all : List ℕ). Feeds v start before r all (input ++ take i piece) false) (sym e) feeds))
