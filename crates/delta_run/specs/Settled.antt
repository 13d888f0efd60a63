-- What a run that ended with 0, 4, 6 or 9 owes to its whole input: its end and its bytes, whatever the pieces and the budget.
use Rattle.std.specs.Prelude.{◌≡◌, ⊤, ℕ, ◌^◌, nat_le, List, length, take, Bool, true, false, Option, Some, None}
use Rattle.port.specs.declared.link.Move.{Move}
use Rattle.port.specs.Moves.{bytes_written}
use Rattle.event_frame.specs.declared.version.Version.{Version}
use Rattle.event_frame.specs.Reading.{whole}
use Rattle.delta_tree.specs.SyntaxTree.{ProgramTree}
use Rattle.core_term.specs.CoreTerm.{CoreProgram}
use Rattle.delta_end.specs.declared.end.InputFault.{InputFault}
use Rattle.delta_end.specs.declared.end.End.{End}
use Rattle.delta_end.specs.declared.end.End.TheVariants.{Done, Input, Open, Long}
use Rattle.checked_program.specs.Acceptance.{IsWritable}
use Rattle.delta_loop.specs.Meaning.{Meaning}
use Rattle.delta_loop.specs.Finding.{finding}
use Rattle.delta_loop.specs.Output.{accepted, due}
use Rattle.delta_loop.specs.Answer.{Adds}
use Rattle.delta_output.specs.LoopMeaning.{meaning_of}
use Rattle.output_laws.specs.TreeOneShot.{one_shot_of}

-- the input was refused, or it ended where it may end, or where more is awaited, or it is too long: status 4, 0, 6 or 9
abbrev pub IsOverInput : End → Type 0
IsOverInput (Input fault) = ⊤
IsOverInput Done = ⊤
IsOverInput Open = ⊤
IsOverInput Long = ⊤
IsOverInput end = ⊥

-- of an input the first 2^40 bytes count, and it ends with them where it has no more
abbrev pub counted : List ℕ → List ℕ
counted all = take (2 ^ 40) all

abbrev pub ends_there : List ℕ → Bool
ends_there all = nat_le (length all) (2 ^ 40)

-- the end by what is wrong with these bytes, by whether the input ends with them, and by whether it may end so
abbrev pub end_by : Option InputFault → Bool → Bool → End
end_by (Some fault) ends finishes = Input fault
end_by None false finishes = Long
end_by None true true = Done
end_by None true false = Open

abbrev pub end_after : Meaning → List ℕ → Bool → End
end_after P bytes ends = end_by (finding P bytes ends) ends (P.finishes (accepted P (whole bytes)))

abbrev pub end_over : Meaning → List ℕ → End
end_over P all = end_after P (counted all) (ends_there all)

-- a run over this whole input that ended so: the end is that of the input, with the fault that is found in it, and what was written is due for the bytes of it that count
abbrev pub IsSettled : Meaning → List ℕ → Option (List Move) → Option (List Move) → End → Type 0
IsSettled P all old new end = IsOverInput end → (end ≡ end_over P all) × Adds old new (λ moves. bytes_written moves ≡ due P (counted all))

-- so it is for an accepted text, with any budget in place of the run's
abbrev pub SettlesWell : List ℕ → Version → Option (List ℕ) → Option (List Move) → Option (List Move) → End → Type 0
SettlesWell text v left old new end =
    (p : ProgramTree) (c : CoreProgram) → IsWritable text v p c → (all : List ℕ) → left ≡ Some all → (budget : ℕ)
    → IsSettled (meaning_of v budget (one_shot_of p)) all old new end
