-- The laws of acceptance.
use Rattle.std.specs.Prelude.{◌≡◌, ℕ, List}
use Rattle.event_frame.specs.declared.version.Version.{Version}
use Rattle.delta_tree.specs.SyntaxTree.{ProgramTree}
use Rattle.core_term.specs.CoreTerm.{CoreProgram}
use Rattle.program_refusal.specs.declared.refusal.Refusal.{Refusal}
use Rattle.checked_program.specs.Acceptance.{IsAcceptedAs, IsRefusedAs, IsElaboratedAs, IsUnelaborated, IsWritable, IsRefusedToWrite}

-- a text is accepted as one program with one core at most
abbrev pub AcceptedIsOne : Type 0
AcceptedIsOne = (text : List ℕ) (p q : ProgramTree) (c d : CoreProgram) → IsAcceptedAs text p c → IsAcceptedAs text q d → (p ≡ q) × (c ≡ d)

-- a text is refused for one thing at most
abbrev pub RefusalIsOne : Type 0
RefusalIsOne = (text : List ℕ) (w v : Refusal) → IsRefusedAs text w → IsRefusedAs text v → w ≡ v

-- a text that is accepted isn't refused
abbrev pub AcceptedIsNotRefused : Type 0
AcceptedIsNotRefused = (text : List ℕ) (p : ProgramTree) (c : CoreProgram) (w : Refusal) → IsAcceptedAs text p c → IsRefusedAs text w → ⊥

-- a text has one core at most, without one it is refused for one thing at most, and never both
pub record CoreIsJudged : Type 0 where
  pub core_is_one : (text : List ℕ) (c d : CoreProgram) → IsElaboratedAs text c → IsElaboratedAs text d → c ≡ d
  pub refusal_is_one : (text : List ℕ) (w v : Refusal) → IsUnelaborated text w → IsUnelaborated text v → w ≡ v
  pub not_refused : (text : List ℕ) (c : CoreProgram) (w : Refusal) → IsElaboratedAs text c → IsUnelaborated text w → ⊥

-- so it is where frames of a version are to be written
pub record WritingIsJudged : Type 0 where
  pub refusal_is_one : (text : List ℕ) (version : Version) (w v : Refusal) → IsRefusedToWrite text version w → IsRefusedToWrite text version v → w ≡ v
  pub not_refused : (text : List ℕ) (version : Version) (p : ProgramTree) (c : CoreProgram) (w : Refusal) → IsWritable text version p c
      → IsRefusedToWrite text version w → ⊥
