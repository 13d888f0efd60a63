-- How many marks are open before a token.
use Rattle.std.specs.Prelude.{ℕ, ◌+◌, ◌-◌, ◌<◌, ◌≤◌, List, [], ◌∷◌, length, take, reverse}
use Rattle.delta_parse.specs.declared.terminal.Terminal.{Terminal}
use Rattle.delta_parse.specs.declared.terminal.Terminal.TheVariants.{InWord, ThenWord, ElseWord, Arrow, Colons, Bars, Plus, Minus, Times, Slash, Less, Equals, Dot, InlWord, InrWord, FstWord, SndWord, OfWord, FromWord, WithWord, FoldWord, CaseWord, Open, OpenBrace, Close, CloseBrace, Comma, Semicolon, Bar, FunWord, TypeWord, MainWord, NameToken}
use Rattle.delta_parse.specs.declared.marks.Effect.{Effect}
use Rattle.delta_parse.specs.declared.marks.Effect.TheVariants.{Opens, Closes, Separates, Begins, Adds, Nothing}
use Rattle.delta_parse.specs.declared.marks.Behind.{Behind}
use Rattle.delta_parse.specs.declared.marks.Behind.TheVariants.{NoWith, AfterWith, AfterName}
use Rattle.delta_parse.specs.declared.marks.Marks.{Marks}
use Rattle.delta_parse.specs.Terminals.{Tok}

-- what a token does to the marks: a bracket opens or closes, `,` `;` and `|` separate, a declaration begins, another mark is added
abbrev pub effect_of : Terminal → Effect
effect_of Open = Opens
effect_of OpenBrace = Opens
effect_of Close = Closes
effect_of CloseBrace = Closes
effect_of Comma = Separates
effect_of Semicolon = Separates
effect_of Bar = Separates
effect_of FunWord = Begins
effect_of TypeWord = Begins
effect_of MainWord = Begins
effect_of InWord = Adds
effect_of ThenWord = Adds
effect_of ElseWord = Adds
effect_of Arrow = Adds
effect_of Colons = Adds
effect_of Bars = Adds
effect_of Plus = Adds
effect_of Minus = Adds
effect_of Times = Adds
effect_of Slash = Adds
effect_of Less = Adds
effect_of Equals = Adds
effect_of Dot = Adds
effect_of InlWord = Adds
effect_of InrWord = Adds
effect_of FstWord = Adds
effect_of SndWord = Adds
effect_of OfWord = Adds
effect_of FromWord = Adds
effect_of WithWord = Adds
effect_of FoldWord = Adds
effect_of CaseWord = Adds
effect_of _ = Nothing

-- the comma of a `with` stands two tokens behind it, and closes no mark
abbrev pub effect_behind : Behind → Terminal → Effect
effect_behind AfterName Comma = Nothing
effect_behind _ k = effect_of k

abbrev pub behind_after : Behind → Terminal → Behind
behind_after b WithWord = AfterWith
behind_after AfterWith NameToken = AfterName
behind_after _ _ = NoWith

-- the open marks, and for each open bracket, the innermost first, how many were open when it had opened
pub record Opened : Type 0 where
  pub count : ℕ
  pub inside : List ℕ
  pub behind : Behind

-- those that stay open at a separator: the bracket round it and what was open before that
abbrev pub up_to_bracket : List ℕ → ℕ
up_to_bracket [] = 0
up_to_bracket (m ∷ rest) = m

-- those that stay open when a bracket closes
abbrev pub closed : ℕ → List ℕ → ℕ
closed n [] = n
closed n (m ∷ rest) = m - 1

abbrev pub rest_of : List ℕ → List ℕ
rest_of [] = []
rest_of (m ∷ rest) = rest

-- a declaration begins outside brackets
abbrev pub begun : ℕ → List ℕ → ℕ
begun n [] = 0
begun n (m ∷ rest) = n

abbrev pub count_after : Effect → ℕ → List ℕ → ℕ
count_after Opens n inside = n + 1
count_after Closes n inside = closed n inside
count_after Separates n inside = up_to_bracket inside
count_after Begins n inside = begun n inside
count_after Adds n inside = n + 1
count_after Nothing n inside = n

abbrev pub inside_after : Effect → ℕ → List ℕ → List ℕ
inside_after Opens n inside = (n + 1) ∷ inside
inside_after Closes n inside = rest_of inside
inside_after _ n inside = inside

abbrev pub opened_with : Effect → Behind → Opened → Opened
opened_with e b s = record { count = count_after e s.count s.inside; inside = inside_after e s.count s.inside; behind = b }

abbrev pub after_token : Opened → Terminal → Opened
after_token s k = opened_with (effect_behind s.behind k) (behind_after s.behind k) s

abbrev pub opened : Opened → List Tok → Opened
opened s [] = s
opened s (t ∷ ts) = opened (after_token s t.kind) ts

abbrev pub none_open : Opened
none_open = record { count = 0; inside = []; behind = NoWith }

-- the marks open before token number n
abbrev pub marks_before : List Tok → ℕ → ℕ
marks_before ts n = (opened none_open (take n ts)).count

-- none of the first n tokens has more marks open before it
abbrev pub IsShallow : List Tok → ℕ → Type 0
IsShallow ts n = (k : ℕ) → k < n → marks_before ts k ≤ 64

-- token number n is the first with more marks open before it, or there is none and n is past the end
pub record IsFirstDeep (ts : List Tok) (n : ℕ) : Type 0 where
  pub within : n ≤ length ts
  pub shallow : IsShallow ts n
  pub deep : n < length ts → 64 < marks_before ts n

abbrev pub opened_of : Marks → Opened
opened_of m = record { count = m.count; inside = reverse m.inside.items; behind = m.behind }
