-- What is answered where a run is to go on from bytes.
--
-- Choices that are not obvious:
-- - What is wrong with the form comes first (`form_fault`): too many bytes, then the version, then a byte that can't
--   stand in its place. So a state that isn't typed is told only where the bytes are those of some kept state.
-- - Bytes are those of one kept state of the program's trees at most (`OneSpelling` of kept_state), and one state of it
--   at most is the first that isn't typed (`OneFirst` of kept_rules). So no two of these answers fit the same bytes, and
--   those of a typed kept state are never refused as untyped.
use Rattle.std.specs.Prelude.{ℕ, ◌≡◌, ⊤, List, Some, None, Result, Ok, Err}
use Rattle.core_term.specs.CoreTerm.{CoreProgram}
use Rattle.kept_state.specs.KeptTree.{KeptTree}
use Rattle.kept_state.specs.KeptTyping.{IsTypedKept}
use Rattle.kept_state.specs.KeptBytes.{kept_bytes}
use Rattle.kept_state.specs.KeptSizes.{HasSizes}
use Rattle.kept_state.specs.KeptForm.{form_fault, bad_form, bad_version}
use Rattle.kept_rules.specs.FirstUntyped.{IsFirstUntyped}
use Rattle.delta_keep.specs.declared.kept.Kept.{Kept}
use Rattle.delta_keep.specs.KeptView.{kept_of, places_kept}
use Rattle.kept_check.specs.declared.fault.KeepFault.{KeepFault}
use Rattle.kept_check.specs.declared.fault.KeepFault.TheVariants.{Memory, Form, Untyped, Version}
use Rattle.kept_check.specs.declared.stop.Stop.{Stop}
use Rattle.kept_check.specs.declared.stop.Stop.TheVariants.{Memory as NoMemory, At}

-- the bytes are those of a kept state, and the state with this number is the first of it that isn't typed
pub record TellsUntyped (c : CoreProgram) (bytes : List ℕ) (n : ℕ) : Type 0 where
  pub kept : Kept
  pub has_form : form_fault bytes ≡ None
  pub has_bytes : bytes ≡ kept_bytes (kept_of kept) (places_kept kept)
  pub is_first : IsFirstUntyped c (kept_of kept) n

-- a kept state is answered where nothing is wrong with the form of the bytes, and else it is told what is wrong first.
-- Nothing is said of want of memory
abbrev pub TellsKeepFault : CoreProgram → List ℕ → Result Kept KeepFault → Type 0
TellsKeepFault c bytes (Ok k) = form_fault bytes ≡ None
TellsKeepFault c bytes (Err Memory) = ⊤
TellsKeepFault c bytes (Err (Form at)) = form_fault bytes ≡ Some (bad_form at)
TellsKeepFault c bytes (Err (Untyped n)) = TellsUntyped c bytes n
TellsKeepFault c bytes (Err (Version n)) = form_fault bytes ≡ Some (bad_version n)

-- the bytes are those of no typed kept state of the program whose numbers have their sizes
abbrev pub IsOfNone : CoreProgram → List ℕ → Type 0
IsOfNone c bytes = (k : KeptTree) (places : List ℕ) → HasSizes k → IsTypedKept c k → bytes ≡ kept_bytes k places → ⊥

-- so it is where a state is told that isn't typed: no bytes of a typed one are refused for that
abbrev pub RefusesNone : CoreProgram → List ℕ → KeepFault → Type 0
RefusesNone c bytes Memory = ⊤
RefusesNone c bytes (Form at) = ⊤
RefusesNone c bytes (Untyped n) = IsOfNone c bytes
RefusesNone c bytes (Version n) = ⊤

-- the same before the states are looked at
abbrev pub TellsForm : List ℕ → Result Kept KeepFault → Type 0
TellsForm bytes (Ok k) = form_fault bytes ≡ None
TellsForm bytes (Err Memory) = ⊤
TellsForm bytes (Err (Form at)) = form_fault bytes ≡ Some (bad_form at)
TellsForm bytes (Err (Untyped n)) = ⊥
TellsForm bytes (Err (Version n)) = form_fault bytes ≡ Some (bad_version n)

-- where the states were looked at, it is told which is the first that isn't typed. Nothing is said of want of memory
abbrev pub TellsStop : CoreProgram → Kept → Stop → Type 0
TellsStop c k NoMemory = ⊤
TellsStop c k (At n) = IsFirstUntyped c (kept_of k) n

-- the kept state is typed, or so it is told
abbrev pub TellsTyped : CoreProgram → Kept → Result ℕ Stop → Type 0
TellsTyped c k (Ok _) = IsTypedKept c (kept_of k)
TellsTyped c k (Err e) = TellsStop c k e
