-- Two terminals are one where their codes are: the code of a terminal is its tag.
use Rattle.std.proofs.Common.{◌≡◌, ◌∙◌, ◌==◌, refl, ap₂}
use denote.Enum.Declared.{tag_of}
use denote.Enum.Bare.{sameb}
use Rattle.delta_parse.specs.contracts.terminal.Terminal.{the_type}
use Rattle.delta_parse.specs.declared.terminal.Terminal.{Terminal}
use Rattle.delta_parse.specs.declared.terminal.Terminal.TheVariants.{FunWord, MainWord, TypeWord, LetWord, InWord, CaseWord, OfWord, InlWord, InrWord, NilWord, WaitWord, EpsWord, IfWord, ThenWord, ElseWord, FoldWord, FromWord, WithWord, IntWord, FstWord, SndWord, Open, Close, OpenBrace, CloseBrace, Comma, Semicolon, Colon, Colons, Equals, Arrow, Bar, Bars, Plus, Minus, Times, Slash, Less, Dot, NameToken, OneToken, NumberToken, Other}
use Rattle.delta_parse.specs.Terminals.{code_of, is_kind}
use Rattle.delta_parse.proofs.terminal.same_kind.Goals as goal

tag_is : (a : Terminal) → tag_of the_type a ≡ code_of a
tag_is FunWord = refl
tag_is MainWord = refl
tag_is TypeWord = refl
tag_is LetWord = refl
tag_is InWord = refl
tag_is CaseWord = refl
tag_is OfWord = refl
tag_is InlWord = refl
tag_is InrWord = refl
tag_is NilWord = refl
tag_is WaitWord = refl
tag_is EpsWord = refl
tag_is IfWord = refl
tag_is ThenWord = refl
tag_is ElseWord = refl
tag_is FoldWord = refl
tag_is FromWord = refl
tag_is WithWord = refl
tag_is IntWord = refl
tag_is FstWord = refl
tag_is SndWord = refl
tag_is Open = refl
tag_is Close = refl
tag_is OpenBrace = refl
tag_is CloseBrace = refl
tag_is Comma = refl
tag_is Semicolon = refl
tag_is Colon = refl
tag_is Colons = refl
tag_is Equals = refl
tag_is Arrow = refl
tag_is Bar = refl
tag_is Bars = refl
tag_is Plus = refl
tag_is Minus = refl
tag_is Times = refl
tag_is Slash = refl
tag_is Less = refl
tag_is Dot = refl
tag_is NameToken = refl
tag_is OneToken = refl
tag_is NumberToken = refl
tag_is Other = refl

same_codes : (a b : Terminal) → sameb the_type a b ≡ is_kind a b
same_codes a b = ap₂ (λ m n. m == n) (tag_is a) (tag_is b)

pub returns : goal.returns
returns c = c.eq.ensures ∙ same_codes _ _
