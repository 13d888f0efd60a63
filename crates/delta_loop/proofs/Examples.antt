-- Worked examples: what is written for some inputs, and what is found in them.
use Rattle.std.proofs.Common.{◌≡◌, List, [], ◌∷◌, ◌++◌, Bool, true, false, Option, Some, None, refl}
use Rattle.event_word.specs.StreamEvent.{StreamEvent}
use Rattle.event_word.specs.declared.fault.EventFault.{EventFault}
use Rattle.event_word.specs.declared.fault.EventFault.TheVariants.{Ended}
use Rattle.event_frame.specs.declared.version.Version.TheVariants.{V1, V2}
use Rattle.event_frame.specs.declared.fault.FrameFault.TheVariants.{BadMagic, BadLeaf, Truncated}
use Rattle.event_frame.specs.Frames.{header, frame}
use Rattle.delta_end.specs.declared.end.InputFault.TheVariants.{Frame, Event}
use Rattle.delta_loop.specs.Meaning.{Meaning}
use Rattle.delta_loop.specs.Output.{due}
use Rattle.delta_loop.specs.Finding.{finding}

-- one event may come, and is answered by its frame; nothing comes first
abbrev one_event : List StreamEvent → StreamEvent → Option EventFault
one_event [] x = None
one_event (y ∷ word) x = Some (Ended 0)

abbrev whether_one : List StreamEvent → Bool
whether_one [] = false
whether_one (x ∷ word) = true

abbrev copy : Meaning
copy = record { version = Some V1; fault = one_event; first = []; answer = λ word x. frame V1 x; finishes = whether_one; is_whole = λ word. true; calls = λ word. 0; level = λ word. 0; budget = 0 }

-- before any byte and after a header alone, the header is due
due_for_nothing : due copy [] ≡ header V1
due_for_nothing = refl

due_for_header : due copy (header V2) ≡ header V1
due_for_header = refl

-- a part of a frame adds nothing, and its last byte the answer
due_for_part : due copy (header V1 ++ 0 ∷ []) ≡ header V1
due_for_part = refl

due_for_event : due copy (header V1 ++ 0 ∷ 0x10 ∷ []) ≡ header V1 ++ 0 ∷ 0x10 ∷ []
due_for_event = refl

-- an event that is refused adds nothing
due_for_two : due copy (header V1 ++ 0 ∷ 0x10 ∷ 0 ∷ 0x10 ∷ []) ≡ header V1 ++ 0 ∷ 0x10 ∷ []
due_for_two = refl

-- it is found at the place of its frame, also where a bad byte comes after it
second_event : finding copy (header V1 ++ 0 ∷ 0x10 ∷ 0 ∷ 0x12 ∷ 0xff ∷ []) false ≡ Some (Event (Ended 0) 6)
second_event = refl

-- a byte that can't stand in its place is found at it
bad_magic : finding copy (0x44 ∷ 0x45 ∷ 0x56 ∷ 0x33 ∷ []) false ≡ Some (Frame (BadMagic 3))
bad_magic = refl

bad_leaf : finding copy (header V1 ++ 0 ∷ 0x10 ∷ 0 ∷ 0xff ∷ []) false ≡ Some (Frame (BadLeaf 7 0xff))
bad_leaf = refl

-- a header or a frame that is cut off is found where the input ended, and not before
cut_header : finding copy (0x44 ∷ 0x45 ∷ []) true ≡ Some (Frame (Truncated 2))
cut_header = refl

cut_frame : finding copy (header V1 ++ 0 ∷ []) true ≡ Some (Frame (Truncated 5))
cut_frame = refl

not_yet : finding copy (header V1 ++ 0 ∷ []) false ≡ None
not_yet = refl

-- a header alone is good
header_alone : finding copy (header V2) true ≡ None
header_alone = refl
