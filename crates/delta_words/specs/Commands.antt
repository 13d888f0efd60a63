-- The commands, and what each takes.
use Rattle.std.specs.Prelude.{ℕ, List, true, false, codes, Option, Some, None, if◌then◌else◌}
use Rattle.std.specs.Str.{bytes_eq}
use Rattle.delta_words.specs.declared.command.Command.{Command}
use Rattle.delta_words.specs.declared.command.Command.TheVariants.{Run, Eval, Check, Print, Text, Gen, Bound, Derive, Feed, Save, Resume}
use Rattle.delta_words.specs.declared.command.Takes.{Takes}

-- the command of a name, written whole
abbrev pub command_of : List ℕ → Option Command
command_of word =
    if bytes_eq word (codes "run") then Some Run
    else (if bytes_eq word (codes "eval") then Some Eval
    else (if bytes_eq word (codes "check") then Some Check
    else (if bytes_eq word (codes "print") then Some Print
    else (if bytes_eq word (codes "text") then Some Text
    else (if bytes_eq word (codes "gen") then Some Gen
    else (if bytes_eq word (codes "bound") then Some Bound
    else (if bytes_eq word (codes "derive") then Some Derive
    else (if bytes_eq word (codes "feed") then Some Feed
    else (if bytes_eq word (codes "save") then Some Save
    else (if bytes_eq word (codes "resume") then Some Resume
    else None))))))))))

-- so many operands, and no option
abbrev pub operands_alone : ℕ → Takes
operands_alone number = record { operands = number; most = number; budget = false; v2 = false; frames = false }

-- how many operands must stand behind a command and how many may, and which options
abbrev pub takes_of : Command → Takes
takes_of Run = record { operands = 1; most = 1; budget = true; v2 = true; frames = false }
takes_of Eval = record { operands = 1; most = 1; budget = true; v2 = true; frames = false }
takes_of Check = record { operands = 1; most = 1; budget = false; v2 = false; frames = false }
takes_of Print = record { operands = 1; most = 1; budget = false; v2 = false; frames = false }
takes_of Text = record { operands = 0; most = 0; budget = false; v2 = true; frames = true }
takes_of Gen = record { operands = 2; most = 2; budget = false; v2 = false; frames = false }
takes_of Bound = record { operands = 1; most = 1; budget = false; v2 = false; frames = false }
takes_of Derive = record { operands = 2; most = 2; budget = false; v2 = false; frames = false }
takes_of Feed = record { operands = 3; most = 10; budget = true; v2 = false; frames = false }
takes_of Save = record { operands = 2; most = 3; budget = true; v2 = true; frames = false }
takes_of Resume = record { operands = 2; most = 2; budget = true; v2 = true; frames = false }
