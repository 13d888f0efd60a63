-- Where what is behind a value starts.
use Rattle.std.specs.Prelude.{ℕ, ◌≡◌, ◌-◌, List, length, Result, Ok, Err}
use Rattle.delta_keep.specs.declared.halt.Halt.{Halt}

-- a value comes with the place of the bytes that were left behind it; where its reader stopped, it stops
abbrev pub Places : {V S : Type 0} → (S → List ℕ) → List ℕ → Result (V × S) Halt → Result (V × ℕ) Halt → Type 0
Places left bytes (Ok v) (Ok w) = (w.0 ≡ v.0) × (w.1 ≡ length bytes - length (left v.1))
Places left bytes (Ok v) (Err e) = ⊥
Places left bytes (Err e) (Ok w) = ⊥
Places left bytes (Err e) (Err f) = f ≡ e
