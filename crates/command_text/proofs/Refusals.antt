-- What is wrong with the front of an input is wrong with all of it.
use Rattle.std.proofs.Common.{◌≡◌, ℕ, ◌==◌, Bool, true, false, if◌then◌else◌, List, [], ◌∷◌, ◌++◌, length, Option, Some, None, Result, Ok, Err, option_map, ◌∙◌, ap, sym, refl}
use Rattle.event_word.specs.StreamEvent.{StreamEvent}
use Rattle.event_frame.specs.declared.version.Version.{Version}
use Rattle.delta_end.specs.declared.end.InputFault.{InputFault}
use Rattle.command_text.specs.declared.fault.LineRefusal.{LineRefusal}
use Rattle.command_text.specs.Fault.{line_fault}
use Rattle.command_text.specs.LineState.{LineState}
use Rattle.command_text.specs.Reading.{event_of, Ending, Within, Refused, Taken, line_then, next_line, with_byte, taken_from, first_line, taken, at_end, refused_in, finding}
use Rattle.command_text.specs.Conversion.{frames_of_lines}

-- a line, and what stands behind it
line_stays : (e : Result StreamEvent LineRefusal) (place : ℕ) (t u : Taken) (why : LineRefusal) (at : ℕ) → (t.ending ≡ Refused why at → u.ending ≡ Refused why at)
    → (line_then e place t).ending ≡ Refused why at → (line_then e place u).ending ≡ Refused why at
line_stays (Ok x) place t u why at stays is = stays is
line_stays (Err refusal) place t u why at stays is = is

-- one of two
either_stays : (c : Bool) (t u t' u' : Taken) (why : LineRefusal) (at : ℕ) → (t.ending ≡ Refused why at → u.ending ≡ Refused why at) → (t'.ending ≡ Refused why at → u'.ending ≡ Refused why at)
    → (if c then t else t').ending ≡ Refused why at → (if c then u else u').ending ≡ Refused why at
either_stays true t u t' u' why at first second is = first is
either_stays false t u t' u' why at first second is = second is

-- a refused line stays refused, whatever comes behind it
refused_stays : (v : Version) (s : LineState) (input more : List ℕ) (why : LineRefusal) (at : ℕ) → (taken_from v s input).ending ≡ Refused why at → (taken_from v s (input ++ more)).ending ≡ Refused why at
refused_stays v s [] more why at is = absurd (let none : ⊥ = cc in none)
refused_stays v s (byte ∷ bytes) more why at is =
    either_stays (byte == 10) _ _ _ _ why at
    (line_stays (event_of v s.line) s.place (taken_from v (next_line s) bytes) (taken_from v (next_line s) (bytes ++ more)) why at (refused_stays v (next_line s) bytes more why at))
    (either_stays (length s.line == 256) _ _ _ _ why at (λ same. same) (refused_stays v (with_byte s byte) bytes more why at)) is

found_stays : (v : Version) (input more : List ℕ) (found : LineRefusal × ℕ) → finding v false input ≡ Some found → finding v true (input ++ more) ≡ Some found
found_stays v input more found is = by_ending (taken v input).ending refl is
  where
    by_ending : (e : Ending) → (taken v input).ending ≡ e → refused_in e ≡ Some found → finding v true (input ++ more) ≡ Some found
    by_ending (Within s) here is = absurd (let none : ⊥ = cc in none)
    by_ending (Refused why at) here is = ap (λ (e : Ending). refused_in (at_end v e).ending) (refused_stays v first_line input more why at here) ∙ is

-- an input with nothing wrong has no front with a fault
pub no_bad_front : (v : Version) (input more : List ℕ) (fault : InputFault) → (frames_of_lines v).finding false input ≡ Some fault → (frames_of_lines v).finding true (input ++ more) ≡ None → ⊥
no_bad_front v input more fault bad good = by_finding (finding v false input) refl bad
  where
    by_finding : (o : Option (LineRefusal × ℕ)) → finding v false input ≡ o → option_map (λ (found : LineRefusal × ℕ). line_fault found.0 found.1) o ≡ Some fault → ⊥
    by_finding None here is = cc
    by_finding (Some found) here is =
        let clash : Some (line_fault found.0 found.1) ≡ None = sym (ap (option_map (λ (f : LineRefusal × ℕ). line_fault f.0 f.1)) (found_stays v input more found here)) ∙ good in cc
