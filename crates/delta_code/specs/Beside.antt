-- What is asked where a state is left as it is because no name that it uses has anything coming, and what such a
-- step is to give.
--
-- Choices that are not obvious:
-- - An event comes on one name. That nothing comes on another one is said of the list of what is awaited, and not
--   of names: so it goes along with lists that are joined, whichever of two entries with one name counts.
-- - A typed settled state gives nothing, and stays as it is, where nothing comes on its free names. So here alone
--   a step asks that its state is typed and settled.
use Rattle.std.specs.Prelude.{ℕ, ◌≡◌, ◌==◌, ◌<◌, ◌≤◌, false, IsTrue, ⊤, List, [], ◌∷◌, Some, Result, IfOk, OnOk, IfErr, if◌then◌else◌}
use Rattle.std.specs.List.{All}
use Rattle.stream_type.specs.StreamType.{StreamType}
use Rattle.stream_prefix.specs.StreamPrefix.{emp, der}
use Rattle.bunch.specs.Names.{holds}
use Rattle.core_term.specs.CoreTerm.{CoreBody}
use Rattle.core_term.specs.Environment.{NameTypes}
use Rattle.core_term.specs.Inert.{is_inert_fun}
use Rattle.core_term.specs.Run.{Run}
use Rattle.core_term.specs.Typing.{Context}
use Rattle.delta_state.specs.StateTree.{HeldName, StateTree}
use Rattle.delta_state.specs.StateMeaning.{types_held}
use Rattle.delta_state.specs.StateTyping.{HasStateType}
use Rattle.delta_state.specs.Settled.{is_settled}
use Rattle.state_rewriting.specs.Rewriting.{SimplerBy}
use Rattle.machine_parts.specs.declared.stop.Stop.{Stop}
use Rattle.machine_parts.specs.declared.stop.Stop.TheVariants.{Spent, Deep}
use Rattle.delta_code.specs.declared.told.Told.{Told}
use Rattle.delta_code.specs.declared.touched.Touch.{Touch}
use Rattle.delta_code.specs.declared.touched.Touch.TheVariants.{Nothing, One, Many}
use Rattle.delta_code.specs.Told.{told}

-- nothing comes on any of these,
abbrev pub Untouched : List HeldName → Type 0
Untouched entries = All (λ h. h.prefix ≡ emp h.type) entries

-- or on any but one of this name
pub record UntouchedBut (x : ℕ) (entries : List HeldName) : Type 0 where
  pub at : All (λ h. (h.name == x) ≡ false → h.prefix ≡ emp h.type) entries

-- what is told of the names on which something comes
abbrev pub Tells : Touch → List HeldName → Type 0
Tells Nothing entries = Untouched entries
Tells (One x) entries = UntouchedBut x.0 entries
Tells Many entries = ⊤

-- the entries with these names
abbrev pub used_of : List ℕ → List HeldName → List HeldName
used_of names [] = []
used_of names (h ∷ entries) = if holds h.name names then h ∷ used_of names entries else used_of names entries

-- over these functions, where names have these types left, the state has the type r, and is settled
pub record IsReady (funs : List CoreBody) (types : NameTypes) (s : StateTree) (r : StreamType) : Type 0 where
  pub context : Context
  pub in_context : (x : ℕ) (t : StreamType) → context.types x ≡ Some t → types x ≡ t
  pub typed : HasStateType funs (is_inert_fun funs) context s r
  pub settled : IsTrue (is_settled s r)

-- what a step asks that goes down to the states which use the name x: nothing comes on any other, and the state is
-- ready
pub record IsBeside (x : ℕ) (entries : List HeldName) (funs : List CoreBody) (s : StateTree) (r : StreamType) : Type 0 where
  pub touched : UntouchedBut x entries
  pub ready : IsReady funs (types_held entries) s r

-- a state goes on by this run, and is then put into a simpler form; its type is that before, moved on by what was
-- given; it makes at most so many calls, none of them at a greater level than that, and is spent only where the run
-- makes more, and too deep only where the run has a greater level
pub record Advances (result : Result Told Stop) (asked : Run) (kept new : StateTree) (before after : StreamType) (left levels : ℕ) : Type 0 where
  pub run : IfOk result (λ g. told g ≡ asked)
  pub rest : OnOk result (SimplerBy after kept new)
  pub output : OnOk result (after ≡ der asked.out before)
  pub counted : IfOk result (λ g. g.calls ≤ left)
  pub shallow : IfOk result (λ g. g.level ≤ levels)
  pub spent : IfErr result (λ stop. stop ≡ Spent → left < asked.calls)
  pub deep : IfErr result (λ stop. stop ≡ Deep → levels < asked.level)
