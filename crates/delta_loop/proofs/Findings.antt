-- What is found in an input, by what its reader answered.
use Rattle.std.proofs.Common.{◌≡◌, ℕ, ◌+◌, List, [], ◌∷◌, ◌++◌, Bool, false, Option, Some, None, length, max, ◌∙◌, ap, sym, refl, append_assoc, append-nil, arith}
use Rattle.port.specs.declared.link.Move.{Move}
use Rattle.event_word.specs.StreamEvent.{StreamEvent}
use Rattle.event_word.specs.declared.fault.EventFault.{EventFault}
use Rattle.event_frame.specs.declared.version.Version.{Version}
use Rattle.event_frame.specs.declared.version.Version.TheVariants.{V1, V2}
use Rattle.event_frame.specs.declared.fault.FrameFault.{FrameFault}
use Rattle.event_frame.specs.FrameReader.{FrameReader}
use Rattle.event_frame.specs.Frames.{header, frames}
use Rattle.event_frame.specs.Reading.{whole, ending, Ending, Bad}
use Rattle.event_frame.specs.Reads.{Reads, CanTake, taken_bytes}
use Rattle.delta_end.specs.declared.end.InputFault.{InputFault}
use Rattle.delta_end.specs.declared.end.InputFault.TheVariants.{Frame, Event}
use Rattle.delta_end.specs.declared.end.End.TheVariants.{Input}
use Rattle.delta_loop.specs.Meaning.{Meaning}
use Rattle.delta_loop.specs.Output.{up_to_fault, accepted, accepted_after, output, due}
use Rattle.delta_loop.specs.Finding.{version_of, place_in, fault_or, event_finding, byte_finding, finding}
use Rattle.delta_loop.specs.Loop.{Serves, Ended}

-- what is found behind accepted events is found behind the events after them
pub finding-append : (P : Meaning) (bytes : List ℕ) (before word more : List StreamEvent) (rest : Option InputFault) → accepted_after P before word ≡ word
    → event_finding P bytes before (word ++ more) rest ≡ event_finding P bytes (before ++ word) more rest
finding-append P bytes before [] more rest all = ap (λ (w : List StreamEvent). event_finding P bytes w more rest) (sym (append-nil before))
finding-append P bytes before (x ∷ word) more rest all = by_fault (P.fault before x) all (finding-append P bytes (before ++ x ∷ []) word more rest)
  where
    by_fault : (o : Option EventFault) → up_to_fault o x (accepted_after P (before ++ x ∷ []) word) ≡ x ∷ word
        → (accepted_after P (before ++ x ∷ []) word ≡ word → event_finding P bytes (before ++ x ∷ []) (word ++ more) rest ≡ event_finding P bytes ((before ++ x ∷ []) ++ word) more rest)
        → fault_or o (place_in bytes before) (event_finding P bytes (before ++ x ∷ []) (word ++ more) rest) ≡ event_finding P bytes (before ++ x ∷ word) more rest
    by_fault None same rest_is =
        let now : accepted_after P (before ++ x ∷ []) word ≡ word = cc in
        rest_is now ∙ ap (λ (w : List StreamEvent). event_finding P bytes w more rest) (append_assoc before (x ∷ []) word)
    by_fault (Some fault) same rest_is = cc

-- where each event was accepted, what is found is found in the bytes
pub finding_all : (P : Meaning) (input : List ℕ) (word : List StreamEvent) (ended : Bool) → accepted P word ≡ word → whole input ≡ word
    → finding P input ended ≡ byte_finding (ending input) ended (length input)
finding_all P input word ended accepts all =
    let rest = byte_finding (ending input) ended (length input) in
    ap (λ (w : List StreamEvent). event_finding P input [] w rest) (all ∙ sym (append-nil word)) ∙ finding-append P input [] word [] rest accepts

-- an event that has a fault is found at the place of its frame
pub finding_refused : (P : Meaning) (input : List ℕ) (word more : List StreamEvent) (x : StreamEvent) (fault : EventFault) (ended : Bool) → accepted P word ≡ word
    → whole input ≡ word ++ x ∷ more → P.fault word x ≡ Some fault → finding P input ended ≡ Some (Event fault (place_in input word))
finding_refused P input word more x fault ended accepts all never =
    let rest = byte_finding (ending input) ended (length input) in
    ap (λ (w : List StreamEvent). event_finding P input [] w rest) all ∙ finding-append P input [] word (x ∷ more) rest accepts
    ∙ ap (λ (o : Option EventFault). fault_or o (place_in input word) (event_finding P input (word ++ x ∷ []) more rest)) never

-- where each event was accepted, what was written is what is due
pub due_all : (P : Meaning) (input : List ℕ) (word : List StreamEvent) → accepted P word ≡ word → whole input ≡ word → output P word ≡ due P input
due_all P input word accepts all = ap (output P) (sym (ap (accepted P) all ∙ accepts))

-- a byte that can't stand in its place ends the run
pub ended_bad : {M : Type 0} (stands : M → Meaning → List StreamEvent → Type 0) (P : Meaning) (start now : Option (List Move)) (m : M) (input : List ℕ) (word : List StreamEvent) (fault : FrameFault)
    → Serves stands P start now m input word → whole input ≡ word → ending input ≡ Bad fault → Ended P start now input false (Input (Frame fault))
ended_bad stands P start now m input word fault serves all bad = record {
  written = output P word;
  history = serves.history;
  may = (
    finding_all P input word false serves.accepts all ∙ ap (λ (e : Ending). byte_finding e false (length input)) bad,
    due_all P input word serves.accepts all,
  );
}

-- the version of a header is told by its bytes
pub version_of-header : (v : Version) (more : List ℕ) → version_of (header v ++ more) ≡ v
version_of-header V1 more = refl
version_of-header V2 more = refl

length-header : (v : Version) (more : List ℕ) → length (header v ++ more) ≡ 4 + length more
length-header V1 more = omega arith
length-header V2 more = omega arith

version_read : (v : Version) (all kept : List ℕ) (word : List StreamEvent) → all ≡ taken_bytes (Some v) word ++ kept → version_of all ≡ v
version_read v all kept word split = ap version_of (split ∙ append_assoc (header v) (frames v word) kept) ∙ version_of-header v (frames v word ++ kept)

not_none : (word : List StreamEvent) (x : StreamEvent) → word ++ x ∷ [] ≡ [] → ⊥
not_none [] x e = cc
not_none (y ∷ word) x e = cc

-- the place of an event's frame is where the reader stood before it, or behind the header
pub event_place : (old new : FrameReader) (all : List ℕ) (word : List StreamEvent) (x : StreamEvent) → Reads old all word → Reads new all (word ++ x ∷ [])
    → max old.taken 4 ≡ place_in all word
event_place old new all word x before after = by_new new.version after.split after.events old.version before.split before.place before.events
  where
    at : (v : Version) → version_of all ≡ v → place_in all word ≡ 4 + length (frames v word)
    at v is = ap (λ (w : Version). length (header w ++ frames w word)) is ∙ length-header v (frames v word)

    by_old : (v : Version) → version_of all ≡ v → (o : Option Version) → all ≡ taken_bytes o word ++ old.kept → old.taken ≡ length (taken_bytes o word) → CanTake o word → max old.taken 4 ≡ place_in all word
    by_old v is None split place none = omega (arith, at v is, place, ap (λ (w : List StreamEvent). length (frames v w)) none)
    by_old v is (Some u) split place fit = let same : version_of all ≡ u = version_read u all old.kept word split in omega (arith, at u same, place, length-header u (frames u word))

    by_new : (n : Option Version) → all ≡ taken_bytes n (word ++ x ∷ []) ++ new.kept → CanTake n (word ++ x ∷ []) → (o : Option Version) → all ≡ taken_bytes o word ++ old.kept
        → old.taken ≡ length (taken_bytes o word) → CanTake o word → max old.taken 4 ≡ place_in all word
    by_new None split none o osplit place can = absurd (not_none word x none)
    by_new (Some v) split fit o osplit place can = by_old v (version_read v all new.kept (word ++ x ∷ []) split) o osplit place can
