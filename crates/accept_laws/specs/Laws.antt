-- The laws of acceptance that rest on the grammar.
use Rattle.std.specs.Prelude.{◌≡◌, ◌⊎◌, ◌+◌, ◌≤◌, ℕ, List, Ok, length}
use Rattle.event_frame.specs.declared.version.Version.{Version}
use Rattle.delta_tree.specs.SyntaxTree.{ProgramTree}
use Rattle.core_term.specs.CoreTerm.{CoreProgram, node_count}
use Rattle.core_term.specs.FreeNames.{nodes_of_bodies}
use Rattle.delta_print.specs.Canonical.{canonical_text}
use Rattle.delta_meaning.specs.Elaborated.{elaborate}
use Rattle.delta_elab.specs.Accepted.{IsAccepted}
use Rattle.program_refusal.specs.declared.refusal.Refusal.{Refusal}
use Rattle.program_text.specs.ProgramText.{IsTextOf}
use Rattle.checked_program.specs.Acceptance.{IsAcceptedAs, IsRefusedAs, IsWritable, IsRefusedToWrite}
use Rattle.accept_laws.specs.ReadAgain.{IsReadWell}

-- each text is accepted as a program with its core, or is refused for something at some place
abbrev pub TextsAreJudged : Type 0
TextsAreJudged = (text : List ℕ)
    → ((p : ProgramTree) × ((c : CoreProgram) × IsAcceptedAs text p c)) ⊎ ((why : Refusal) × IsRefusedAs text why)

-- so it is where frames of a version are to be written
abbrev pub WritingsAreJudged : Type 0
WritingsAreJudged = (text : List ℕ) (v : Version)
    → ((p : ProgramTree) × ((c : CoreProgram) × IsWritable text v p c)) ⊎ ((why : Refusal) × IsRefusedToWrite text v why)

-- the core of the program of a text has no more nodes than a text may have bytes
abbrev pub CoresAreSmall : Type 0
CoresAreSmall = (text : List ℕ) (p : ProgramTree) (c : CoreProgram) → IsTextOf text p → elaborate p ≡ Ok c
    → nodes_of_bodies c.funs + node_count c.main.body ≤ 1048576

-- and at most 1,000 functions, and few names
abbrev pub NamesAreFew : Type 0
NamesAreFew = (text : List ℕ) (p : ProgramTree) (c : CoreProgram) → IsTextOf text p → elaborate p ≡ Ok c
    → (length c.funs ≤ 1000) × (length c.texts ≤ 2073600)

-- the canonical text of the program of a text, read again without the limits on marks and length, is that program but for
-- places, and none of its tokens is a name twice or one too many
abbrev pub CanonicalIsNamed : Type 0
CanonicalIsNamed = (text : List ℕ) (p : ProgramTree) → IsTextOf text p → IsReadWell (canonical_text p) p

-- and where the text is accepted with a core, what is read again is accepted with the same core
abbrev pub CanonicalIsAccepted : Type 0
CanonicalIsAccepted = (text : List ℕ) (p : ProgramTree) (c : CoreProgram) → IsAcceptedAs text p c
    → (r : IsReadWell (canonical_text p) p) → IsAccepted r.tree c
