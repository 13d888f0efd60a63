-- What is read in turn.
use Rattle.std.proofs.Common.{ℕ, List, map, arith}
use Rattle.std.specs.declared.vec.Vec.{Vec}
use Rattle.std.specs.declared.alloc.Global.{Global}
use Rattle.bunch.specs.declared.name.Name.{Name}
use Rattle.delta_tree.specs.declared.types.TyExp.{TyExp}
use Rattle.delta_tree.specs.Tree.{past_of}
use Rattle.delta_tree.specs.SyntaxTree.{WrittenType}
use Rattle.delta_parse.specs.Terminals.{plains}
use Rattle.delta_parse.proofs.InTurn.{token_read, at_once, before_reads}
use Rattle.delta_parse.proofs.FlatDeclarations as flat
use Rattle.delta_parse.proofs.declaration_reader.read_past.Goals as goal

abbrev past_trees : Vec (Name × TyExp) Global → List (ℕ × WrittenType)
past_trees v = map past_of v.items

pub returns-in-None : goal.returns-in-None
returns-in-None c n l = at_once l (rw c.new.ensures.items (flat.past_none (plains c.args.tokens.now) c.in-None.ensures.none))

pub returns-in-Some : goal.returns-in-Some
returns-in-Some c n l =
    let s = c.in-Some.ensures.shorter in
    token_read (omega (arith, s, l)) (flat.past_some _ _ _ c.in-Some.ensures.some c.in-Some.ensures.kind) (before_reads past_trees c.followed_by.ensures c.read_entry_items.ensures)
