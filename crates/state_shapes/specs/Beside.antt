-- What stands beside a key.
use Rattle.std.specs.Prelude.{Bool, if◌then◌else◌, Option, Some, None, List, ◌∷◌}

-- what stands beside the first key that is k, where one is
abbrev pub beside : {A : Type 0} → (A → A → Bool) → List A → List A → A → Option A
beside eq (k ∷ ks) (v ∷ vs) n = if eq k n then Some v else beside eq ks vs n
beside eq _ _ n = None
