-- The definitions at single rows of tokens: which of them bind a name, and which are a name twice. Each answer was worked out by
-- hand, and the check computes it.
use Rattle.std.proofs.Common.{◌≡◌, ℕ, Bool, true, false, ◌&&◌, List, [], ◌∷◌, ◌++◌, refl, pos}
use Rattle.delta_parse.specs.declared.terminal.Terminal.{Terminal}
use Rattle.delta_parse.specs.declared.terminal.Terminal.TheVariants.{FunWord, LetWord, InWord, CaseWord, OfWord, InlWord, InrWord, NilWord, WaitWord, FoldWord, FromWord, WithWord, IntWord, Open, Close, OpenBrace, CloseBrace, Comma, Semicolon, Colon, Colons, Equals, Arrow, Bar, Dot, NameToken, NumberToken}
use Rattle.delta_parse.specs.Terminals.{Tok, is_kind}
use Rattle.delta_parse.specs.Bindings.{Bound, binds, after_token, bound, none_bound, is_twice}

abbrev name : ℕ → Tok
name n = record { kind = NameToken; at = 0; worth = record { name = n; number = pos 0 } }

abbrev sign : Terminal → Tok
sign k = record { kind = k; at = 0; worth = record { name = 0; number = pos 0 } }

abbrev with_binder : Bool → ℕ → List ℕ → List ℕ
with_binder true n ns = n ∷ ns
with_binder false n ns = ns

-- the names that the tokens bind, in their order
abbrev binders : Bound → List Tok → List ℕ
binders s [] = []
binders s (t ∷ ts) = with_binder (is_kind NameToken t.kind && binds s.stand) t.worth.name (binders (after_token s t) ts)

-- fun 1 {2 : Int} (3 : 4, (5 : Int; 6 : (4))) : 4 =
abbrev header : List Tok
header =
    sign FunWord ∷ name 1 ∷ sign OpenBrace ∷ name 2 ∷ sign Colon ∷ sign IntWord ∷ sign CloseBrace ∷ sign Open ∷ name 3 ∷ sign Colon ∷ name 4 ∷ sign Comma
    ∷ sign Open ∷ name 5 ∷ sign Colon ∷ sign IntWord ∷ sign Semicolon ∷ name 6 ∷ sign Colon ∷ sign Open ∷ name 4 ∷ sign Close ∷ sign Close ∷ sign Close
    ∷ sign Colon ∷ name 4 ∷ sign Equals ∷ []

parameters-bind : binders none_bound header ≡ 2 ∷ 3 ∷ 5 ∷ 6 ∷ []
parameters-bind = refl

-- let (7; 8) = 3 in let 9 = 1 (3, 3) in wait 3 in
abbrev patterns : List Tok
patterns =
    sign LetWord ∷ sign Open ∷ name 7 ∷ sign Semicolon ∷ name 8 ∷ sign Close ∷ sign Equals ∷ name 3 ∷ sign InWord
    ∷ sign LetWord ∷ name 9 ∷ sign Equals ∷ name 1 ∷ sign Open ∷ name 3 ∷ sign Comma ∷ name 3 ∷ sign Close ∷ sign InWord
    ∷ sign WaitWord ∷ name 3 ∷ sign InWord ∷ []

-- a name that is waited for isn't bound, and neither is one that is used
patterns-bind : binders (bound none_bound header) patterns ≡ 7 ∷ 8 ∷ 9 ∷ []
patterns-bind = refl

-- case 7 of { nil => 8 | 10 :: 11 => case 10 of { inl 12 => (12, 12) | inr 13 => 13 } }
abbrev arms : List Tok
arms =
    sign CaseWord ∷ name 7 ∷ sign OfWord ∷ sign OpenBrace ∷ sign NilWord ∷ sign Arrow ∷ name 8 ∷ sign Bar ∷ name 10 ∷ sign Colons ∷ name 11 ∷ sign Arrow
    ∷ sign CaseWord ∷ name 10 ∷ sign OfWord ∷ sign OpenBrace ∷ sign InlWord ∷ name 12 ∷ sign Arrow ∷ sign Open ∷ name 12 ∷ sign Comma ∷ name 12 ∷ sign Close
    ∷ sign Bar ∷ sign InrWord ∷ name 13 ∷ sign Arrow ∷ name 13 ∷ sign CloseBrace ∷ sign CloseBrace ∷ []

arms-bind : binders (bound none_bound (header ++ patterns)) arms ≡ 10 ∷ 11 ∷ 12 ∷ 13 ∷ []
arms-bind = refl

-- { fold 2 from 1 with 14, 15. case 14 of { inl 16 => 16 | inr 17 => 17 :: 2 } }
abbrev history : List Tok
history =
    sign OpenBrace ∷ sign FoldWord ∷ name 2 ∷ sign FromWord ∷ sign NumberToken ∷ sign WithWord ∷ name 14 ∷ sign Comma ∷ name 15 ∷ sign Dot
    ∷ sign CaseWord ∷ name 14 ∷ sign OfWord ∷ sign OpenBrace ∷ sign InlWord ∷ name 16 ∷ sign Arrow ∷ name 16
    ∷ sign Bar ∷ sign InrWord ∷ name 17 ∷ sign Arrow ∷ name 17 ∷ sign Colons ∷ name 2 ∷ sign CloseBrace ∷ sign CloseBrace ∷ []

histories-bind : binders (bound none_bound header) history ≡ 14 ∷ 15 ∷ 16 ∷ 17 ∷ []
histories-bind = refl

-- fun 1 {2 : Int} (2 : Int) : Int = 2
abbrev doubled : List Tok
doubled =
    sign FunWord ∷ name 1 ∷ sign OpenBrace ∷ name 2 ∷ sign Colon ∷ sign IntWord ∷ sign CloseBrace ∷ sign Open ∷ name 2 ∷ sign Colon ∷ sign IntWord ∷ sign Close
    ∷ sign Colon ∷ sign IntWord ∷ sign Equals ∷ name 2 ∷ []

-- the historical parameter isn't twice
first-is-new : is_twice doubled 3 ≡ false
first-is-new = refl

-- the stream's parameter of the same name is
second-is-twice : is_twice doubled 8 ≡ true
second-is-twice = refl

-- its use isn't
use-is-not : is_twice doubled 15 ≡ false
use-is-not = refl
