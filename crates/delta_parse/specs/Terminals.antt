-- The terminals of the grammar, and tokens as the grammar sees them.
use Rattle.std.specs.Prelude.{ℕ, ℤ, Bool, ◌==◌, List, map}
use Rattle.grammar.specs.Rules.{Token}
use Rattle.delta_parse.specs.declared.plain.Plain.{Plain}
use Rattle.delta_parse.specs.declared.terminal.Terminal.{Terminal}
use Rattle.delta_parse.specs.declared.terminal.Terminal.TheVariants.{FunWord, MainWord, TypeWord, LetWord, InWord, CaseWord, OfWord, InlWord, InrWord, NilWord, WaitWord, EpsWord, IfWord, ThenWord, ElseWord, FoldWord, FromWord, WithWord, IntWord, FstWord, SndWord, Open, Close, OpenBrace, CloseBrace, Comma, Semicolon, Colon, Colons, Equals, Arrow, Bar, Bars, Plus, Minus, Times, Slash, Less, Dot, NameToken, OneToken, NumberToken, Other}

-- a number for each terminal
abbrev pub code_of : Terminal → ℕ
code_of FunWord = 0
code_of MainWord = 1
code_of TypeWord = 2
code_of LetWord = 3
code_of InWord = 4
code_of CaseWord = 5
code_of OfWord = 6
code_of InlWord = 7
code_of InrWord = 8
code_of NilWord = 9
code_of WaitWord = 10
code_of EpsWord = 11
code_of IfWord = 12
code_of ThenWord = 13
code_of ElseWord = 14
code_of FoldWord = 15
code_of FromWord = 16
code_of WithWord = 17
code_of IntWord = 18
code_of FstWord = 19
code_of SndWord = 20
code_of Open = 21
code_of Close = 22
code_of OpenBrace = 23
code_of CloseBrace = 24
code_of Comma = 25
code_of Semicolon = 26
code_of Colon = 27
code_of Colons = 28
code_of Equals = 29
code_of Arrow = 30
code_of Bar = 31
code_of Bars = 32
code_of Plus = 33
code_of Minus = 34
code_of Times = 35
code_of Slash = 36
code_of Less = 37
code_of Dot = 38
code_of NameToken = 39
code_of OneToken = 40
code_of NumberToken = 41
code_of Other = 42

abbrev pub is_kind : Terminal → Terminal → Bool
is_kind a b = code_of a == code_of b

-- what a token says beside its terminal: the number of a name, and what a number writes
pub record Worth : Type 0 where
  pub name : ℕ
  pub number : ℤ

-- a token as the grammar sees it
abbrev pub Tok : Type 0
Tok = Token Terminal Worth

abbrev pub plain_of : Plain → Tok
plain_of t = record { kind = t.kind; at = t.at; worth = record { name = t.name; number = t.number } }

abbrev pub plains : List Plain → List Tok
plains ts = map plain_of ts
