-- A canonical text, read again without the limits on marks and length, is named and accepted as its program was.
use Rattle.std.proofs.Common.{ℕ, List, sym}
use Rattle.std.specs.Str.{chars}
use Rattle.delta_lex.proofs.Divisions.{read_divides}
use Rattle.delta_tree.specs.SyntaxTree.{ProgramTree}
use Rattle.delta_print.specs.Canonical.{canonical_text}
use Rattle.delta_print.specs.ReadingBack.{IsReadAs}
use Rattle.delta_print.proofs.ParsedTrees.{parsed_is_read}
use Rattle.program_text.specs.ProgramText.{IsTextOf}
use Rattle.text_laws.proofs.NamesOfTrees.{trees_are_named}
use Rattle.accept_laws.specs.Laws.{CanonicalIsNamed, CanonicalIsAccepted}
use Rattle.accept_laws.proofs.KeptNames.{IsNamedTree, names_are_kept}
use Rattle.accept_laws.proofs.KeptCores.{cores_are_kept}

read_again : (text : List ℕ) (p : ProgramTree) → IsTextOf text p → IsReadAs (canonical_text p) p
read_again text p is = parsed_is_read text is.tokens p is.are_its.is_text.utf8 (read_divides 0 0 (chars text) is.tokens is.are_its.read) is.belongs.is_tree

pub canonical_is_named : CanonicalIsNamed
canonical_is_named text p is =
    let r = read_again text p is in
    let named : IsNamedTree p = (trees_are_named is.tokens p is.belongs.is_tree).0 is.belongs.named in
    record {
      tokens = r.tokens;
      tree = r.tree;
      divides = r.divides;
      is_tree = r.is_tree;
      same = r.same;
      named = (trees_are_named r.tokens r.tree r.is_tree).1 (names_are_kept p r.tree (sym r.same) named);
    }

pub canonical_is_accepted : CanonicalIsAccepted
canonical_is_accepted text p c a r = record { elaborated = cores_are_kept p r.tree c (sym r.same) a.accepted.elaborated; typed = a.accepted.typed }
