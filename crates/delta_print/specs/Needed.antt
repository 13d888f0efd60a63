-- A bracket stands only where it is needed.
use Rattle.std.specs.Prelude.{◌≡◌, true, false, List, [], ◌∷◌, ◌++◌}
use Rattle.grammar.specs.Sentences.{IsSentence}
use Rattle.delta_tree.specs.SyntaxTree.{WrittenType, WrittenContext, WrittenHist, Expression}
use Rattle.delta_parse.specs.declared.terminal.Terminal.TheVariants.{Open, Close}
use Rattle.delta_parse.specs.Terminals.{Tok, is_kind}
use Rattle.delta_parse.specs.Parts.{Part, a_type, a_par, a_cat, a_star, a_context, an_item, more_commas, more_semicolons, an_expression, an_application, a_history, a_comparison, a_sum, a_product, a_unary, stands_for, delta, Meant}
use Rattle.delta_parse.specs.Tables.{delta_grammar}
use Rattle.delta_print.specs.declared.place.TypePlace.TheVariants as types
use Rattle.delta_print.specs.declared.place.ContextPlace.TheVariants as contexts
use Rattle.delta_print.specs.declared.place.HistPlace.TheVariants as hists
use Rattle.delta_print.specs.Brackets.{type_bare, context_bare, hist_bare, expression_bare}

-- the tokens are brackets, and between them this part with this value
pub record InBrackets (p : Part) (ts : List Tok) (v : Meant (stands_for p)) : Type 0 where
  pub opening : Tok
  pub inside : List Tok
  pub closing : Tok
  pub whole : ts ≡ opening ∷ (inside ++ closing ∷ [])
  pub opens : is_kind Open opening.kind ≡ true
  pub closes : is_kind Close closing.kind ≡ true
  pub derived : IsSentence delta delta_grammar p inside v

-- a type that is put in brackets at a place is derived there in brackets alone
pub record TypeBracketsAreNeeded : Type 0 where
  pub at_par : (ts : List Tok) (v : WrittenType) → IsSentence delta delta_grammar a_par ts v → type_bare types.Par v ≡ false → InBrackets a_type ts v
  pub at_cat : (ts : List Tok) (v : WrittenType) → IsSentence delta delta_grammar a_cat ts v → type_bare types.Cat v ≡ false → InBrackets a_type ts v
  pub at_star : (ts : List Tok) (v : WrittenType) → IsSentence delta delta_grammar a_star ts v → type_bare types.Star v ≡ false → InBrackets a_type ts v

-- so is an expression left of a `::` and behind `inl` and `inr`
abbrev pub ExpressionBracketsAreNeeded : Type 0
ExpressionBracketsAreNeeded =
    (ts : List Tok) (v : Expression) → IsSentence delta delta_grammar an_application ts v → expression_bare v ≡ false → InBrackets an_expression ts v

-- so is a historical expression
pub record HistBracketsAreNeeded : Type 0 where
  pub at_comparison : (ts : List Tok) (v : WrittenHist) → IsSentence delta delta_grammar a_comparison ts v
      → hist_bare hists.Comparison v.expr ≡ false → InBrackets a_history ts v
  pub at_sum : (ts : List Tok) (v : WrittenHist) → IsSentence delta delta_grammar a_sum ts v → hist_bare hists.Sum v.expr ≡ false → InBrackets a_history ts v
  pub at_product : (ts : List Tok) (v : WrittenHist) → IsSentence delta delta_grammar a_product ts v → hist_bare hists.Product v.expr ≡ false
      → InBrackets a_history ts v
  pub at_unary : (ts : List Tok) (v : WrittenHist) → IsSentence delta delta_grammar a_unary ts v → hist_bare hists.Unary v.expr ≡ false
      → InBrackets a_history ts v

-- so are parameters
pub record ContextBracketsAreNeeded : Type 0 where
  pub at_item : (ts : List Tok) (v : WrittenContext) → IsSentence delta delta_grammar an_item ts v → context_bare contexts.Item v ≡ false
      → InBrackets a_context ts v
  pub at_commas : (ts : List Tok) (v : WrittenContext) → IsSentence delta delta_grammar more_commas ts v → context_bare contexts.Commas v ≡ false
      → InBrackets a_context ts v
  pub at_semicolons : (ts : List Tok) (v : WrittenContext) → IsSentence delta delta_grammar more_semicolons ts v
      → context_bare contexts.Semicolons v ≡ false → InBrackets a_context ts v
