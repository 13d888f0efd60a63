-- The parts of the grammar that have a name, and what each stands for.
use Rattle.std.specs.Prelude.{ℕ}
use Rattle.grammar.specs.Rules.{Sort, token, thing, pair, list, Language, Value, Rule}
use Rattle.delta_tree.specs.SyntaxTree.{WrittenType, WrittenContext, WrittenHist, Expression, Head, WrittenFunction, Declaration}
use Rattle.delta_parse.specs.declared.terminal.Terminal.{Terminal}
use Rattle.delta_parse.specs.Terminals.{Worth}

-- what a `let` binds: one name, or two that come at once or one after the other
pub data Pattern : Type 0 where
  one_name : (x : ℕ) → Pattern
  two_at_once : (x y : ℕ) → Pattern
  two_in_turn : (x y : ℕ) → Pattern

-- what a case goes on with: an expression for each side of a sum, or one for a star that is over and one for an item and the rest
pub data Arms : Type 0 where
  sum_arms : (x : ℕ) (a : Expression) (y : ℕ) (b : Expression) → Arms
  star_arms : (a : Expression) (y ys : ℕ) (b : Expression) → Arms

-- what stands in a bracket behind its first expression
pub data Ending : Type 0 where
  plain_ending : Ending
  at_once : (b : Expression) → Ending
  in_turn : (b : Expression) → Ending
  of_type : (t : WrittenType) → Ending

-- the things that parts stand for
pub data Thing : Type 0 where
  type_thing : Thing
  context_thing : Thing
  entry_thing : Thing
  branch_thing : Thing
  history_thing : Thing
  expression_thing : Thing
  head_thing : Thing
  pattern_thing : Thing
  arms_thing : Thing
  ending_thing : Thing
  function_thing : Thing
  declaration_thing : Thing

abbrev pub meaning_of : Thing → Type 0
meaning_of type_thing = WrittenType
meaning_of context_thing = WrittenContext
meaning_of entry_thing = ℕ × WrittenType
meaning_of branch_thing = ℕ × WrittenHist
meaning_of history_thing = WrittenHist
meaning_of expression_thing = Expression
meaning_of head_thing = Head
meaning_of pattern_thing = Pattern
meaning_of arms_thing = Arms
meaning_of ending_thing = Ending
meaning_of function_thing = WrittenFunction
meaning_of declaration_thing = Declaration

-- the parts of the grammar; those that begin with `more_` are what is repeated, and may derive no token
pub data Part : Type 0 where
  a_program : Part
  declarations : Part
  a_declaration : Part
  a_main : Part
  a_past : Part
  an_entry : Part
  more_entries : Part
  parameters : Part
  a_context : Part
  more_commas : Part
  more_semicolons : Part
  an_item : Part
  a_type : Part
  a_par : Part
  a_cat : Part
  a_star : Part
  more_stars : Part
  a_base : Part
  an_expression : Part
  a_pattern : Part
  a_head : Part
  an_application : Part
  an_atom : Part
  an_ending : Part
  the_arms : Part
  arguments : Part
  more_histories : Part
  more_expressions : Part
  a_history : Part
  a_comparison : Part
  a_sum : Part
  more_summands : Part
  a_product : Part
  more_factors : Part
  a_unary : Part
  a_history_atom : Part

abbrev pub stands_for : Part → Sort Thing
stands_for a_program = pair (list (thing declaration_thing)) (thing function_thing)
stands_for declarations = list (thing declaration_thing)
stands_for a_declaration = thing declaration_thing
stands_for a_main = thing function_thing
stands_for a_past = list (thing entry_thing)
stands_for an_entry = thing entry_thing
stands_for more_entries = list (thing entry_thing)
stands_for parameters = thing context_thing
stands_for a_context = thing context_thing
stands_for more_commas = thing context_thing
stands_for more_semicolons = thing context_thing
stands_for an_item = thing context_thing
stands_for a_type = thing type_thing
stands_for a_par = thing type_thing
stands_for a_cat = thing type_thing
stands_for a_star = thing type_thing
stands_for more_stars = list token
stands_for a_base = thing type_thing
stands_for an_expression = thing expression_thing
stands_for a_pattern = thing pattern_thing
stands_for a_head = thing head_thing
stands_for an_application = thing expression_thing
stands_for an_atom = thing expression_thing
stands_for an_ending = thing ending_thing
stands_for the_arms = thing arms_thing
stands_for arguments = pair (list (thing history_thing)) (list (thing expression_thing))
stands_for more_histories = list (thing history_thing)
stands_for more_expressions = list (thing expression_thing)
stands_for a_history = thing history_thing
stands_for a_comparison = thing history_thing
stands_for a_sum = thing history_thing
stands_for more_summands = list (pair token (thing history_thing))
stands_for a_product = thing history_thing
stands_for more_factors = list (pair token (thing history_thing))
stands_for a_unary = thing history_thing
stands_for a_history_atom = thing history_thing

-- what the grammar is written over
abbrev pub delta : Language
delta = record { Terminal = Terminal; Worth = Worth; Thing = Thing; Meaning = meaning_of; Part = Part; stands_for = stands_for }

-- the values of a sort, and its rules
abbrev pub Meant : Sort Thing → Type 0
Meant s = Value delta s

abbrev pub RuleFor : Sort Thing → Type 0
RuleFor s = Rule delta s
