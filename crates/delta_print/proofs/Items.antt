-- The names and numbers of a row of tokens, in order, and those that the parts of a rule bring.
--
-- A rule brings the items of its tokens: each name, each number where a number may stand, and nothing of words and signs.
use Rattle.std.proofs.Common.{◌≡◌, ℕ, Bool, true, ◌||◌, List, [], ◌∷◌, ◌++◌, Option, Some, None}
use Rattle.std.specs.Prelude.{nat_lt, if◌then◌else◌}
use Rattle.grammar.specs.Rules.{Sort, token, place, thing, pair, option, list, one_of, part, both, either, maybe, placed, make}
use Rattle.delta_parse.specs.declared.terminal.Terminal.{Terminal}
use Rattle.delta_parse.specs.declared.terminal.Terminal.TheVariants.{NameToken, OneToken, NumberToken}
use Rattle.delta_parse.specs.Terminals.{Tok, code_of, is_kind}
use Rattle.delta_parse.specs.Parts.{Pattern, one_name, two_at_once, two_in_turn, Arms, sum_arms, star_arms, Ending, plain_ending, at_once, in_turn, of_type, Thing, type_thing, context_thing, entry_thing, branch_thing, history_thing, expression_thing, head_thing, pattern_thing, arms_thing, ending_thing, function_thing, declaration_thing, meaning_of, stands_for, Meant, RuleFor}
use Rattle.delta_print.specs.declared.chunk.Chunk.{Chunk}
use Rattle.delta_print.specs.declared.chunk.Chunk.TheVariants.{Fixed, Named, Digits, Minus, TypeStar}
use Rattle.delta_print.specs.Rows.{type_row, context_row, entry_row, number_row, hist_row, expression_row, head_row, sum_arms_row, star_arms_row, declaration_row, main_row}

-- what a token says beside a word or a sign; a token with no text stands out
pub data Item : Type 0 where
  name : (x : ℕ) → Item
  number : (n : ℕ) → Item
  textless : Item

abbrev pub has_text : Terminal → Bool
has_text k = nat_lt (code_of k) 39 || is_kind k OneToken

abbrev pub chunk_items : Chunk → List Item
chunk_items (Fixed k) = if has_text k then [] else textless ∷ []
chunk_items (Named x) = name x.0 ∷ []
chunk_items (Digits n) = number n ∷ []
chunk_items Minus = []
chunk_items TypeStar = []

abbrev pub items : List Chunk → List Item
items [] = []
items (c ∷ cs) = chunk_items c ++ items cs

abbrev pub pattern_items : Pattern → List Item
pattern_items (one_name x) = name x ∷ []
pattern_items (two_at_once x y) = name x ∷ name y ∷ []
pattern_items (two_in_turn x y) = name x ∷ name y ∷ []

abbrev pub arms_items : Arms → List Item
arms_items (sum_arms x a y b) = items (sum_arms_row x (expression_row a) y (expression_row b))
arms_items (star_arms a y ys b) = items (star_arms_row (expression_row a) y ys (expression_row b))

abbrev pub ending_items : Ending → List Item
ending_items plain_ending = []
ending_items (at_once b) = items (expression_row b)
ending_items (in_turn b) = items (expression_row b)
ending_items (of_type t) = items (type_row t)

-- the items of what a part stands for, as they stand in its canonical row
abbrev pub thing_items : (b : Thing) → meaning_of b → List Item
thing_items type_thing v = items (type_row v)
thing_items context_thing v = items (context_row v)
thing_items entry_thing v = items (entry_row v)
thing_items branch_thing v = name v.0 ∷ items (hist_row v.1.expr)
thing_items history_thing v = items (hist_row v.expr)
thing_items expression_thing v = items (expression_row v)
thing_items head_thing v = items (head_row v)
thing_items pattern_thing v = pattern_items v
thing_items arms_thing v = arms_items v
thing_items ending_thing v = ending_items v
thing_items function_thing v = items (main_row v)
thing_items declaration_thing v = items (declaration_row v)

abbrev pub option_items : {A : Type 0} → (A → List Item) → Option A → List Item
option_items f None = []
option_items f (Some x) = f x

abbrev pub list_items : {A : Type 0} → (A → List Item) → List A → List Item
list_items f [] = []
list_items f (x ∷ xs) = f x ++ list_items f xs

-- a token that stands in a value is a sign
abbrev pub value_items : (s : Sort Thing) → Meant s → List Item
value_items token v = []
value_items place v = []
value_items (thing b) v = thing_items b v
value_items (pair s t) v = value_items s v.0 ++ value_items t v.1
value_items (option s) v = option_items (value_items s) v
value_items (list s) v = list_items (value_items s) v

-- the items of a token where one of these kinds stands
abbrev pub token_items : (Terminal → Bool) → Tok → List Item
token_items is t = if is NameToken then name t.worth.name ∷ [] else (if is NumberToken then items (number_row t.worth.number) else [])

-- what the parts of a rule bring
abbrev pub rule_items : {s : Sort Thing} → RuleFor s → Meant s → List Item
rule_items (one_of is) v = token_items is v
rule_items (part p) v = value_items (stands_for p) v
rule_items (both a b) v = rule_items a v.0 ++ rule_items b v.1
rule_items (either a b) v = rule_items a v
rule_items (maybe a) v = option_items (rule_items a) v
rule_items (placed a) v = rule_items a v.1
rule_items (make {t = t} f a) v = value_items t v

-- the kinds are names alone, or no names
abbrev pub TellNames : (Terminal → Bool) → Type 0
TellNames is = (k : Terminal) → is k ≡ true → is_kind NameToken k ≡ is NameToken

-- the actions of a rule keep all items in order
abbrev pub Keeps : {s : Sort Thing} → RuleFor s → Type 0
Keeps (one_of is) = TellNames is
Keeps (part p) = Unit {0}
Keeps (both a b) = Keeps a × Keeps b
Keeps (either {s = s} a b) = ((v : Meant s) → rule_items b v ≡ rule_items a v) × (Keeps a × Keeps b)
Keeps (maybe a) = Keeps a
Keeps (placed a) = Keeps a
Keeps (make {s = s} {t = t} f a) = ((x : Meant s) → value_items t (f x) ≡ rule_items a x) × Keeps a
