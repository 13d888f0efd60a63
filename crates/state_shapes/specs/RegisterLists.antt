-- Registers as lists: keys with the number beside each, and keys with the depth beside each.
use Rattle.std.specs.Prelude.{ℕ, ℤ, ◌≡◌, List, ◌++◌, length}
use Rattle.state_shapes.specs.declared.registers.Registers.{Registers}
use Rattle.state_shapes.specs.declared.found.Found.{Found}

pub record RegisterLists : Type 0 where
  pub keys : List ℤ
  pub numbers : List ℤ
  pub depth_keys : List ℕ
  pub depths : List ℕ

-- those that are given
abbrev pub lists_of : Registers → RegisterLists
lists_of r = record { keys = r.keys.now; numbers = r.numbers.now; depth_keys = r.depth_keys.now; depths = r.depths.now }

-- those that were found
abbrev pub lists_in : Found → RegisterLists
lists_in f = record { keys = f.keys.items; numbers = f.numbers.items; depth_keys = f.depth_keys.items; depths = f.depths.items }

-- each key has something beside it
pub record IsParallel (l : RegisterLists) : Type 0 where
  pub numbers : length l.keys ≡ length l.numbers
  pub depths : length l.depth_keys ≡ length l.depths

-- others behind these
abbrev pub behind : RegisterLists → RegisterLists → RegisterLists
behind l m = record { keys = l.keys ++ m.keys; numbers = l.numbers ++ m.numbers; depth_keys = l.depth_keys ++ m.depth_keys; depths = l.depths ++ m.depths }

-- m is l with more behind it
pub record Longer (l m : RegisterLists) : Type 0 where
  pub more : RegisterLists
  pub are_parallel : IsParallel more
  pub is_behind : m ≡ behind l more
