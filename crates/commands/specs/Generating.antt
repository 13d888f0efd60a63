-- What the run on the load does, by how it ended.
use Rattle.std.specs.Prelude.{◌≡◌, ℕ, List}
use Rattle.delta_end.specs.declared.end.End.{End}
use Rattle.delta_end.specs.declared.end.End.TheVariants.{Done, Usage, Refused, Input, Budget, Deep, Open, FileFailed, ReadFailed, WriteFailed, Memory, Long, Objected}
use Rattle.delta_load.specs.Load.{load}
use Rattle.delta_load.specs.Counting.{totals_of}
use Rattle.delta_load.specs.Summary.{summary_of}
use Rattle.delta_loop.specs.Return.{Begins}
use Rattle.delta_output.specs.Spoken.{spoken}
use Rattle.delta_session.specs.Programs.{one_shot}
use Rattle.delta_load.specs.LoadCore.{load_core}

-- the line of a load: its items, its events and bytes, those of what the load's program puts out on it, and the last
-- key among these
abbrev pub load_line : ℕ → ℕ → List ℕ
load_line start items = summary_of start items (totals_of (spoken (one_shot load_core) (load start items)))

-- these bytes were written, and then the run ended so
abbrev pub Generates : ℕ → ℕ → List ℕ → End → Type 0
Generates start items written Done = written ≡ load_line start items
Generates start items written WriteFailed = Begins written (load_line start items)
Generates start items written Memory = Begins written (load_line start items)
Generates start items written Usage = ⊥
Generates start items written (Refused why) = ⊥
Generates start items written (Input fault) = ⊥
Generates start items written (Budget at) = ⊥
Generates start items written (Deep at) = ⊥
Generates start items written Open = ⊥
Generates start items written FileFailed = ⊥
Generates start items written (Objected what) = ⊥
Generates start items written ReadFailed = ⊥
Generates start items written Long = ⊥
