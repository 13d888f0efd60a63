-- Rows that are appended one after the other.
use Rattle.std.proofs.Common.{◌≡◌, ℕ, Result, Ok, Err, Bool, true, false, List, [], ◌∷◌, ◌++◌, append_assoc}
use Rattle.std.specs.Prelude.{OnOk}
use Rattle.delta_tree.specs.SyntaxTree.{WrittenHist, Expression, Expressions, expression_before}
use Rattle.delta_tree.proofs.Rows.{expression_form_of-call, head_form_of-call}
use Rattle.delta_print.specs.declared.chunk.Chunk.{Chunk}
use Rattle.delta_parse.specs.declared.terminal.Terminal.TheVariants.{Open, Close}
use Rattle.delta_print.specs.declared.chunk.Chunk.TheVariants.{Fixed}
use Rattle.delta_print.specs.Chunks.{named}
use Rattle.delta_print.specs.Rows.{comma_behind, hists_row, call_row, expression_row, expressions_row, more_expressions_row}

-- for functions that append to a row
pub ruleset appends = (append_assoc)

-- with what calls stand for
pub ruleset calls = (append_assoc, expression_form_of-call, head_form_of-call)

-- the tokens of stream arguments, behind another one or not
abbrev pub expressions_behind : Bool → Expressions → List Chunk
expressions_behind true es = more_expressions_row es
expressions_behind false es = expressions_row es

-- one more of them
pub one_more_expression : (b : Bool) (row next new : List Chunk) (e : Expression) (es : Expressions) → next ≡ row ++ comma_behind b → new ≡ next ++ expression_row e
    → new ++ more_expressions_row es ≡ row ++ expressions_behind b (expression_before e es)
one_more_expression true row next new e es h k = rw (k, h) (simp append_assoc)
one_more_expression false row next new e es h k = rw (k, h) (simp append_assoc)

-- for the loop over them
pub ruleset commas = (append_assoc, one_more_expression)

-- a fact of an Ok, from another
pub on_ok_from : {A E : Type 0} (P Q : Type 0) (r : Result A E) → (P → Q) → OnOk r P → OnOk r Q
on_ok_from P Q (Ok x) f h = f h
on_ok_from P Q (Err e) f h = tt

-- a call: the function with its historical arguments, the stream arguments, and the bracket behind them
pub call_appended : (old front inside new : List Chunk) (f : ℕ) (ms : List WrittenHist) (u : List Chunk) → front ≡ old ++ named f ∷ (hists_row ms ++ Fixed Open ∷ []) → inside ≡ front ++ u
    → new ≡ inside ++ Fixed Close ∷ [] → new ≡ old ++ call_row f ms u
call_appended old front inside new f ms u a b c = rw (c, b, a) (simp append_assoc)
