-- From the tokens of a text to those that the grammar sees: terminals, the numbers of names, and what numbers write.
use Rattle.std.specs.Prelude.{ℕ, ℤ, pos, List, [], ◌∷◌, ◌++◌, map, Option, Some, None, if◌then◌else◌}
use Rattle.std.specs.List.{list_any, position_or_len}
use Rattle.std.specs.Str.{bytes_eq}
use Rattle.std.specs.Borrow.{Bor}
use Rattle.indexmap.specs.IndexSet.{IndexSet}
use lib.Chars.{codes}
use Rattle.delta_lex.specs.declared.token.Kind.{Kind}
use Rattle.delta_lex.specs.declared.token.Kind.TheVariants.{Name, Word, Number, Sign}
use Rattle.delta_lex.specs.Tokens.{Lexeme}
use Rattle.delta_lex.specs.Numbers.{number_of}
use Rattle.delta_parse.specs.declared.terminal.Terminal.{Terminal}
use Rattle.delta_parse.specs.declared.terminal.Terminal.TheVariants.{FunWord, MainWord, TypeWord, LetWord, InWord, CaseWord, OfWord, InlWord, InrWord, NilWord, WaitWord, EpsWord, IfWord, ThenWord, ElseWord, FoldWord, FromWord, WithWord, IntWord, FstWord, SndWord, Open, Close, OpenBrace, CloseBrace, Comma, Semicolon, Colon, Colons, Equals, Arrow, Bar, Bars, Plus, Minus, Times, Slash, Less, Dot, NameToken, OneToken, NumberToken, Other}
use Rattle.delta_parse.specs.Terminals.{Tok}

-- the words of the language
abbrev pub word_of : List ℕ → Terminal
word_of text =
    if bytes_eq text (codes "fun") then FunWord else
    (if bytes_eq text (codes "main") then MainWord else
    (if bytes_eq text (codes "type") then TypeWord else
    (if bytes_eq text (codes "let") then LetWord else
    (if bytes_eq text (codes "in") then InWord else
    (if bytes_eq text (codes "case") then CaseWord else
    (if bytes_eq text (codes "of") then OfWord else
    (if bytes_eq text (codes "inl") then InlWord else
    (if bytes_eq text (codes "inr") then InrWord else
    (if bytes_eq text (codes "nil") then NilWord else
    (if bytes_eq text (codes "wait") then WaitWord else
    (if bytes_eq text (codes "eps") then EpsWord else
    (if bytes_eq text (codes "if") then IfWord else
    (if bytes_eq text (codes "then") then ThenWord else
    (if bytes_eq text (codes "else") then ElseWord else
    (if bytes_eq text (codes "fold") then FoldWord else
    (if bytes_eq text (codes "from") then FromWord else
    (if bytes_eq text (codes "with") then WithWord else
    (if bytes_eq text (codes "Int") then IntWord else
    (if bytes_eq text (codes "fst") then FstWord else
    (if bytes_eq text (codes "snd") then SndWord else
    Other))))))))))))))))))))

-- its signs
abbrev pub sign_of : List ℕ → Terminal
sign_of text =
    if bytes_eq text (codes "(") then Open else
    (if bytes_eq text (codes ")") then Close else
    (if bytes_eq text (codes "{") then OpenBrace else
    (if bytes_eq text (codes "}") then CloseBrace else
    (if bytes_eq text (codes ",") then Comma else
    (if bytes_eq text (codes ";") then Semicolon else
    (if bytes_eq text (codes ":") then Colon else
    (if bytes_eq text (codes "::") then Colons else
    (if bytes_eq text (codes "=") then Equals else
    (if bytes_eq text (codes "=>") then Arrow else
    (if bytes_eq text (codes "|") then Bar else
    (if bytes_eq text (codes "||") then Bars else
    (if bytes_eq text (codes "+") then Plus else
    (if bytes_eq text (codes "-") then Minus else
    (if bytes_eq text (codes "*") then Times else
    (if bytes_eq text (codes "/") then Slash else
    (if bytes_eq text (codes "<") then Less else
    (if bytes_eq text (codes ".") then Dot else
    Other)))))))))))))))))

-- the base type 1 is a number whose text is exactly 1
abbrev pub numeral_of : List ℕ → Terminal
numeral_of text = if bytes_eq text (codes "1") then OneToken else NumberToken

abbrev pub terminal_of : Kind → List ℕ → Terminal
terminal_of Name text = NameToken
terminal_of Word text = word_of text
terminal_of Number text = numeral_of text
terminal_of Sign text = sign_of text

-- the names so far and a token's name behind them, unless it stands among them
abbrev pub with_text : List (List ℕ) → List ℕ → List (List ℕ)
with_text names text = if list_any (bytes_eq text) names then names else names ++ (text ∷ [])

abbrev pub with_name : List (List ℕ) → Kind → List ℕ → List (List ℕ)
with_name names Name text = with_text names text
with_name names _ text = names

abbrev pub add_name : List (List ℕ) → Lexeme → List (List ℕ)
add_name names t = with_name names t.kind t.text

abbrev pub names_from : List (List ℕ) → List Lexeme → List (List ℕ)
names_from names [] = names
names_from names (t ∷ ts) = names_from (add_name names t) ts

-- the names of a text, each once, in order of first appearance
abbrev pub names_in : List Lexeme → List (List ℕ)
names_in ts = names_from [] ts

-- a name's number, behind these names: its place among them, or their count where it is new
abbrev pub name_of : List (List ℕ) → Kind → List ℕ → ℕ
name_of names Name text = position_or_len (bytes_eq text) names
name_of names _ text = 0

abbrev pub value_or_zero : Option ℤ → ℤ
value_or_zero None = pos 0
value_or_zero (Some n) = n

abbrev pub worth_of : Kind → List ℕ → ℤ
worth_of Number text = value_or_zero (number_of text)
worth_of _ text = pos 0

-- a token as the grammar sees it, with the number of its name
abbrev pub token_named : ℕ → Lexeme → Tok
token_named name t = record { kind = terminal_of t.kind t.text; at = t.at; worth = record { name = name; number = worth_of t.kind t.text } }

-- behind these names
abbrev pub token_with : List (List ℕ) → Lexeme → Tok
token_with names t = token_named (name_of names t.kind t.text) t

-- tokens as the grammar sees them, behind these names
abbrev pub numbered : List (List ℕ) → List Lexeme → List Tok
numbered names [] = []
numbered names (t ∷ ts) = token_with names t ∷ numbered (add_name names t) ts

-- the tokens of a text as the grammar sees them
abbrev pub grammar_tokens : List Lexeme → List Tok
grammar_tokens ts = numbered [] ts

-- the names in a set, in the order in which they were put there
abbrev pub texts_of : {S : Type 0} → IndexSet (Bor (List ℕ)) S → List (List ℕ)
texts_of s = map (λ k. k.now) s.keys
