-- The laws of accepted programs.
use Rattle.std.specs.Prelude.{◌≡◌, ◌≤◌, ◌<◌, ◌^◌, IsTrue}
use Rattle.stream_prefix.specs.StreamPrefix.{StreamPrefix, IsPrefix, IsPart, is_maximal}
use Rattle.bunch.specs.BunchTree.{as_type}
use Rattle.delta_tree.specs.SyntaxTree.{ProgramTree}
use Rattle.core_term.specs.CoreTerm.{CoreProgram}
use Rattle.delta_meaning.specs.SourceBody.{main_of}
use Rattle.delta_meaning.specs.SourceMeaning.{mean, calls_of}
use Rattle.delta_elab.specs.declared.fault.ProgramFault.{ProgramFault}
use Rattle.delta_elab.specs.declared.fault.ProgramFault.TheVariants.{Memory}
use Rattle.delta_elab.specs.Accepted.{IsAccepted, SaysWhy}

-- of a program that is accepted with some core, no fault but want of memory says why it isn't
abbrev pub AcceptedIsNotRefused : Type 0
AcceptedIsNotRefused = (p : ProgramTree) (c : CoreProgram) (f : ProgramFault) → IsAccepted p c → SaysWhy p f → f ≡ Memory

-- an accepted program gives no less on more input, and makes no fewer calls
abbrev pub AcceptedGrows : Type 0
AcceptedGrows =
    (p : ProgramTree) (c : CoreProgram) → IsAccepted p c
    → (q more : StreamPrefix) → IsPrefix (as_type (main_of p).params) q → IsPart (as_type (main_of p).params) q more
    → IsPart (main_of p).result (mean p q) (mean p more) × (calls_of p q ≤ calls_of p more)

-- it gives a whole stream on a whole one, where it makes fewer than 2^62 calls
abbrev pub AcceptedIsWhole : Type 0
AcceptedIsWhole =
    (p : ProgramTree) (c : CoreProgram) → IsAccepted p c
    → (q : StreamPrefix) → IsPrefix (as_type (main_of p).params) q → IsTrue (is_maximal q) → calls_of p q < 2 ^ 62 → IsTrue (is_maximal (mean p q))
