-- Worked examples: the lines of some ends.
use Rattle.std.proofs.Common.{◌≡◌, ℕ, List, [], ◌∷◌, ◌++◌, Some, refl, ap, ap₂, ◌∙◌, arith}
use Rattle.std.specs.Prelude.{codes}
use Rattle.std.proofs.lemmas.Fmt.{decimal_step, decimal_digit}
use Rattle.event_word.specs.declared.fault.EventFault.TheVariants.{Ended}
use Rattle.event_frame.specs.declared.fault.FrameFault.TheVariants.{Truncated}
use Rattle.program_refusal.specs.declared.refusal.RefusalName.TheVariants.{Expected}
use Rattle.program_refusal.specs.declared.refusal.Refusal.{Refusal}
use Rattle.delta_end.specs.declared.objection.BoundName.TheVariants.{Cycle}
use Rattle.delta_end.specs.declared.objection.TableName.TheVariants.{BadNumber}
use Rattle.delta_end.specs.declared.objection.StateName.TheVariants.{Untyped}
use Rattle.delta_end.specs.declared.objection.Objection.TheVariants.{Bound, Table, State}
use Rattle.delta_end.specs.declared.end.InputFault.TheVariants.{Frame, Event}
use Rattle.delta_end.specs.declared.end.End.TheVariants.{Input, Refused, Objected}
use Rattle.delta_end.specs.Note.{note_of}

note_of_event : note_of (Input (Event (Ended 0) 6)) ≡ codes "delta: input refused: Ended at 6\n"
note_of_event = ap (λ (digits : List ℕ). (codes "delta: input refused: " ++ codes "Ended") ++ (codes " at " ++ digits ++ 10 ∷ [])) (decimal_digit 6 (omega arith))

note_of_cut : note_of (Input (Frame (Truncated 13))) ≡ codes "delta: input refused: Truncated at 13\n"
note_of_cut = ap (λ (digits : List ℕ). (codes "delta: input refused: " ++ codes "Truncated") ++ (codes " at " ++ digits ++ 10 ∷ []))
    (decimal_step 13 (omega arith) (omega arith) ∙ ap (λ (digits : List ℕ). digits ++ 51 ∷ []) (decimal_digit 1 (omega arith)))

note_of_program : note_of (Refused (Some (record { name = Expected; at = 7 }))) ≡ codes "delta: program refused: Expected at 7\n"
note_of_program = ap (λ (digits : List ℕ). (codes "delta: program refused: " ++ codes "Expected") ++ (codes " at " ++ digits ++ 10 ∷ [])) (decimal_digit 7 (omega arith))

note_of_bound : note_of (Objected (Bound Cycle 4)) ≡ codes "delta: no bound: Cycle at 4\n"
note_of_bound = ap (λ (digits : List ℕ). (codes "delta: no bound: " ++ codes "Cycle") ++ (codes " at " ++ digits ++ 10 ∷ [])) (decimal_digit 4 (omega arith))

note_of_table : note_of (Objected (Table BadNumber 0 1)) ≡ codes "delta: table refused: BadNumber in 0 at 1\n"
note_of_table =
    ap₂ (λ (file row : List ℕ). (codes "delta: table refused: " ++ codes "BadNumber") ++ ((codes " in " ++ file) ++ (codes " at " ++ row ++ 10 ∷ [])))
    (decimal_digit 0 (omega arith)) (decimal_digit 1 (omega arith))

note_of_state : note_of (Objected (State Untyped 0)) ≡ codes "delta: state refused: Untyped at 0\n"
note_of_state = ap (λ (digits : List ℕ). (codes "delta: state refused: " ++ codes "Untyped") ++ (codes " at " ++ digits ++ 10 ∷ [])) (decimal_digit 0 (omega arith))
