-- The exit status of a command, by how it ended and by what came of its note.
use Rattle.std.specs.Prelude.{◌≡◌, ◌⊎◌, ℕ, ◌-◌, ◌^◌, ◌<◌, Result, Ok, Err}
use Rattle.port.specs.declared.fault.IoFault.{IoFault}
use Rattle.port.specs.declared.fault.IoFault.TheVariants.{Memory as NoMemory, Failed}
use Rattle.port.specs.Faults.{Rose}
use Rattle.delta_end.specs.declared.end.End.{End}
use Rattle.delta_end.specs.End.{status_of, status_without_note}

-- the status of an end: the note was written, or the sink failed and its count rose, or memory ran out in the sink
abbrev pub IsStatus : End → ℕ → ℕ → ℕ → Type 0
IsStatus end status before now =
    ((now ≡ before) × (status ≡ status_of end)) ⊎ (Rose before now × (status ≡ status_without_note end)) ⊎ ((now ≡ before) × (status ≡ 8))

-- the status for an end, and for what came of its note
abbrev pub AnswerOf : End → Result (Unit {0}) IoFault → ℕ → Type 0
AnswerOf end (Ok u) status = status ≡ status_of end
AnswerOf end (Err NoMemory) status = status ≡ 8
AnswerOf end (Err Failed) status = status ≡ status_without_note end

-- no failed call was counted, and one could have been
pub record IsStill (before now : ℕ) : Type 0 where
  pub same : now ≡ before
  pub room : before < 2 ^ 64 - 1
