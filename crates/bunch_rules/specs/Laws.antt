-- What the laws of derivations say.
use Rattle.std.specs.Prelude.{ℕ, ◌≡◌, Bool, true, false, List, Some}
use Rattle.stream_type.specs.StreamType.{StreamType}
use Rattle.bunch.specs.Names.{holds}
use Rattle.bunch.specs.BunchTree.{BunchTree, IsDistinct, leaf_names, stands_before}
use Rattle.core_term.specs.CoreTerm.{CoreTerm, CoreBody, CoreProgram, fun_at}
use Rattle.core_term.specs.FreeNames.{bound_names, is_distinct, IsBoundOnce, IsCore}
use Rattle.core_term.specs.Typing.{Context, HasType, IsTypedBody, IsTypedCore}
use Rattle.bunch_rules.specs.Written.{Line, IsWritten}
use Rattle.bunch_rules.specs.Derivation.{Known, HasLeaf, Derives, IsDerivedBody, IsDerived}

-- a context has the names of a bunch with their types, and the bunch's facts of order; it may have more of both
pub record Serves (known : Known) (g : BunchTree) (c : Context) : Type 0 where
  pub knows : c.past ≡ known
  pub has_name : (x : ℕ) (t : StreamType) → HasLeaf g x t → c.types x ≡ Some t
  pub has_fact : (x y : ℕ) → stands_before g x y ≡ true → c.order x y ≡ true

-- no name is bound twice, and none that stands in the bunch already
pub record BindsNew (bound : List ℕ) (g : BunchTree) : Type 0 where
  pub once : is_distinct bound ≡ true
  pub new : (x : ℕ) → holds x bound ≡ true → holds x (leaf_names g) ≡ false

-- the parameters of each function are distinct
abbrev pub AreDistinct : List CoreBody → Type 0
AreDistinct funs = (f : ℕ) → IsDistinct (fun_at funs f).params

-- a term that a bunch derives is typed in every order that has the bunch's facts
abbrev pub DerivedIsTyped : Type 0
DerivedIsTyped =
    (funs : List CoreBody) (counts : ℕ → Bool) (known : Known) (g : BunchTree) (e : CoreTerm) (r : StreamType) (c : Context) → AreDistinct funs
    → Derives funs counts known g e r
    → Serves known g c → IsDistinct g → BindsNew (bound_names e) g → HasType funs counts c e r

-- a body that its parameters derive is typed, where names are bound once
abbrev pub DerivedBodyIsTyped : Type 0
DerivedBodyIsTyped = (funs : List CoreBody) (texts : ℕ) (b : CoreBody) → AreDistinct funs → IsBoundOnce texts b → IsDerivedBody funs b → IsTypedBody funs b

-- a program whose bodies are derived is typed
abbrev pub DerivedProgramIsTyped : Type 0
DerivedProgramIsTyped = (c : CoreProgram) → IsCore c → IsDerived c → IsTypedCore c

-- what lines write is a derivation
abbrev pub WrittenIsDerived : Type 0
WrittenIsDerived = (c : CoreProgram) (ls : List Line) → IsWritten c ls → IsDerived c

-- so a program of which lines write a derivation is typed
abbrev pub WrittenProgramIsTyped : Type 0
WrittenProgramIsTyped = (c : CoreProgram) (ls : List Line) → IsCore c → IsWritten c ls → IsTypedCore c
