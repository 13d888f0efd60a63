-- The tokens of a canonical text, and the text of each.
use Rattle.std.specs.Prelude.{ℕ, List, [], ◌∷◌, Option, Some, None, slice_get, unwrap_or}
use Rattle.std.specs.Fmt.{decimal}
use lib.Chars.{codes}
use Rattle.bunch.specs.declared.name.Name.{Name}
use Rattle.delta_parse.specs.declared.terminal.Terminal.{Terminal}
use Rattle.delta_parse.specs.declared.terminal.Terminal.TheVariants.{FunWord, MainWord, TypeWord, LetWord, InWord, CaseWord, OfWord, InlWord, InrWord, NilWord, WaitWord, EpsWord, IfWord, ThenWord, ElseWord, FoldWord, FromWord, WithWord, IntWord, FstWord, SndWord, Open, Close, OpenBrace, CloseBrace, Comma, Semicolon, Colon, Colons, Equals, Arrow, Bar, Bars, Plus, Minus as MinusSign, Times, Slash, Less, Dot, NameToken, OneToken, NumberToken, Other}
use Rattle.delta_print.specs.declared.chunk.Chunk.{Chunk}
use Rattle.delta_print.specs.declared.chunk.Chunk.TheVariants.{Fixed, Named, Digits, Minus, TypeStar}

-- the text of a word or a sign, and of the type 1; names and other numbers have none that is fixed
abbrev pub fixed_text : Terminal → List ℕ
fixed_text FunWord = codes "fun"
fixed_text MainWord = codes "main"
fixed_text TypeWord = codes "type"
fixed_text LetWord = codes "let"
fixed_text InWord = codes "in"
fixed_text CaseWord = codes "case"
fixed_text OfWord = codes "of"
fixed_text InlWord = codes "inl"
fixed_text InrWord = codes "inr"
fixed_text NilWord = codes "nil"
fixed_text WaitWord = codes "wait"
fixed_text EpsWord = codes "eps"
fixed_text IfWord = codes "if"
fixed_text ThenWord = codes "then"
fixed_text ElseWord = codes "else"
fixed_text FoldWord = codes "fold"
fixed_text FromWord = codes "from"
fixed_text WithWord = codes "with"
fixed_text IntWord = codes "Int"
fixed_text FstWord = codes "fst"
fixed_text SndWord = codes "snd"
fixed_text Open = codes "("
fixed_text Close = codes ")"
fixed_text OpenBrace = codes "{"
fixed_text CloseBrace = codes "}"
fixed_text Comma = codes ","
fixed_text Semicolon = codes ";"
fixed_text Colon = codes ":"
fixed_text Colons = codes "::"
fixed_text Equals = codes "="
fixed_text Arrow = codes "=>"
fixed_text Bar = codes "|"
fixed_text Bars = codes "||"
fixed_text Plus = codes "+"
fixed_text MinusSign = codes "-"
fixed_text Times = codes "*"
fixed_text Slash = codes "/"
fixed_text Less = codes "<"
fixed_text Dot = codes "."
fixed_text NameToken = []
fixed_text OneToken = codes "1"
fixed_text NumberToken = []
fixed_text Other = []

-- the text of a name by its number; a number that isn't of these names has none
abbrev pub name_text : List (List ℕ) → ℕ → List ℕ
name_text names x = unwrap_or (slice_get names x) []

-- the text of a token, where these are the texts of the names
abbrev pub chunk_text : List (List ℕ) → Chunk → List ℕ
chunk_text names (Fixed k) = fixed_text k
chunk_text names (Named x) = name_text names x.0
chunk_text names (Digits n) = decimal n
chunk_text names Minus = codes "-"
chunk_text names TypeStar = codes "*"

-- the token of the name with a number
abbrev pub named : ℕ → Chunk
named x = Named (record { 0 = x })
