-- The kind of a token, by the test for it.
use Rattle.std.proofs.Common.{◌≡◌, ◌∙◌, true, List, [], ◌∷◌, refl, sym, ap, get_or, eqb-true}
use Rattle.delta_parse.specs.declared.terminal.Terminal.{Terminal}
use Rattle.delta_parse.specs.declared.terminal.Terminal.TheVariants.{FunWord, MainWord, TypeWord, LetWord, InWord, CaseWord, OfWord, InlWord, InrWord, NilWord, WaitWord, EpsWord, IfWord, ThenWord, ElseWord, FoldWord, FromWord, WithWord, IntWord, FstWord, SndWord, Open, Close, OpenBrace, CloseBrace, Comma, Semicolon, Colon, Colons, Equals, Arrow, Bar, Bars, Plus, Minus, Times, Slash, Less, Dot, NameToken, OneToken, NumberToken, Other}
use Rattle.delta_parse.specs.Terminals.{code_of, is_kind}

-- the terminals by their numbers
terminals : List Terminal
terminals =
    FunWord ∷ MainWord ∷ TypeWord ∷ LetWord ∷ InWord ∷ CaseWord ∷ OfWord ∷ InlWord ∷ InrWord ∷ NilWord ∷ WaitWord ∷ EpsWord ∷ IfWord ∷ ThenWord ∷ ElseWord
    ∷ FoldWord ∷ FromWord ∷ WithWord ∷ IntWord ∷ FstWord ∷ SndWord ∷ Open ∷ Close ∷ OpenBrace ∷ CloseBrace ∷ Comma ∷ Semicolon ∷ Colon ∷ Colons ∷ Equals ∷ Arrow
    ∷ Bar ∷ Bars ∷ Plus ∷ Minus ∷ Times ∷ Slash ∷ Less ∷ Dot ∷ NameToken ∷ OneToken ∷ NumberToken ∷ Other ∷ []

told : (k : Terminal) → get_or terminals (code_of k) Other ≡ k
unfolding terminals
told FunWord = refl
told MainWord = refl
told TypeWord = refl
told LetWord = refl
told InWord = refl
told CaseWord = refl
told OfWord = refl
told InlWord = refl
told InrWord = refl
told NilWord = refl
told WaitWord = refl
told EpsWord = refl
told IfWord = refl
told ThenWord = refl
told ElseWord = refl
told FoldWord = refl
told FromWord = refl
told WithWord = refl
told IntWord = refl
told FstWord = refl
told SndWord = refl
told Open = refl
told Close = refl
told OpenBrace = refl
told CloseBrace = refl
told Comma = refl
told Semicolon = refl
told Colon = refl
told Colons = refl
told Equals = refl
told Arrow = refl
told Bar = refl
told Bars = refl
told Plus = refl
told Minus = refl
told Times = refl
told Slash = refl
told Less = refl
told Dot = refl
told NameToken = refl
told OneToken = refl
told NumberToken = refl
told Other = refl

-- what passes the test for a kind is of that kind
pub kind_is : (a b : Terminal) → is_kind a b ≡ true → b ≡ a
kind_is a b h =
    let same : code_of a ≡ code_of b = eqb-true (code_of a) (code_of b) h in
    sym (told b) ∙ ap (λ n. get_or terminals n Other) (sym same) ∙ told a
