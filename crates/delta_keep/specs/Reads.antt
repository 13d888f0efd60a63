-- What a reader of some parts answers: one record for all that is read.
use Rattle.std.specs.Prelude.{ℕ, ◌≡◌, ⊤, List, [], ◌∷◌, ◌++◌, length, Result, Ok, Err}
use Rattle.std.specs.List.{AllByRecursion}
use Rattle.core_term.specs.declared.term.Node.{Node}
use Rattle.core_term.specs.CoreTerm.{term_of}
use Rattle.kept_state.specs.KeptForm.{Part, settle}
use Rattle.kept_state.specs.KeptSizes.{FitsShort, FitsTerm, FitsState}
use Rattle.delta_keep.specs.declared.halt.Halt.{Halt}
use Rattle.delta_keep.specs.declared.halt.Halt.TheVariants.{Memory, At}
use Rattle.delta_keep.specs.declared.kept.Argument.{Argument}
use Rattle.delta_keep.specs.KeptView.{state_of}
use Rattle.delta_keep.specs.Walking.{walk, passed, stuck}

-- these parts were read from the bytes
pub record Read (parts : List Part) (bytes written rest : List ℕ) (Fits : Type 0) : Type 0 where
  -- the bytes of what was read come first, and the rest behind them
  pub spelled : bytes ≡ written ++ rest
  -- the rest stands behind what was awaited
  pub walked : walk (settle parts) bytes ≡ passed rest
  -- the numbers of what was read have their sizes
  pub sizes : Fits

-- a reader of these parts stops where going over the bytes is stuck. Nothing is said of want of memory, nor of bytes
-- that nest too deep, of which the same is told
abbrev pub Stops : List Part → List ℕ → Halt → Type 0
Stops parts bytes Memory = ⊤
Stops parts bytes (At left) = walk (settle parts) bytes ≡ stuck left

-- a reader of these parts answers what it read, or why it stopped: of an answer it is told which bytes were read, which
-- are left, and which numbers have their sizes
abbrev pub Reads : {V : Type 0} → List Part → List ℕ → (V → List ℕ) → (V → List ℕ) → (V → Type 0) → Result V Halt → Type 0
Reads parts bytes written rest Fits (Ok v) = Read parts bytes (written v) (rest v) (Fits v)
Reads parts bytes written rest Fits (Err e) = Stops parts bytes e

-- no form can be read: there is no byte, or no level is left
abbrev pub HasNoForm : List ℕ → Halt → Type 0
HasNoForm bytes Memory = ⊤
HasNoForm bytes (At left) = (bytes ≡ []) × (left ≡ 0)

-- what is put into a box comes with the bytes behind it, or memory was refused
abbrev pub Boxes : {V W : Type 0} → (V → W) → (V → List ℕ) → W → List ℕ → Result V Halt → Type 0
Boxes value rest w bytes (Ok v) = (value v ≡ w) × (rest v ≡ bytes)
Boxes value rest w bytes (Err Memory) = ⊤
Boxes value rest w bytes (Err (At left)) = ⊥

-- an item that was read stands behind those before it, and what is behind it is answered, or memory was refused; where
-- its reader stopped, it stops
abbrev pub Pushes : {V W A : Type 0} → (V → A) → (V → List ℕ) → (W → List ℕ) → List A → List A → Result V Halt → Result W Halt → Type 0
Pushes value behind rest old new (Ok v) (Ok w) = (new ≡ old ++ value v ∷ []) × (rest w ≡ behind v)
Pushes value behind rest old new (Ok v) (Err Memory) = ⊤
Pushes value behind rest old new (Ok v) (Err (At left)) = ⊥
Pushes value behind rest old new (Err e) (Ok w) = ⊥
Pushes value behind rest old new (Err e) (Err f) = f ≡ e

-- so many items can be counted, and each has its sizes
abbrev pub FitsList : {A : Type 0} → (A → Type 0) → List A → Type 0
FitsList Fits xs = FitsShort (length xs) × AllByRecursion Fits xs

-- the names and numbers of a node
abbrev pub FitsNode : Node → Type 0
FitsNode n = FitsTerm (term_of n)

-- those of an argument
abbrev pub FitsArgument : Argument → Type 0
FitsArgument a = FitsShort a.name.0 × FitsState (state_of a.state.value)
