-- Each token of a row is one token of the text.
use Rattle.std.proofs.Common.{◌≡◌, ℕ, ◌+◌, ◌%◌, ◌<◌, ◌^◌, Bool, true, false, ◌&&◌, List, [], ◌∷◌, ◌++◌, length, refl, ap, subst, ◌∙◌, arith, ◌⊎◌, inl, inr, Some, Ok, codes}
use Rattle.std.specs.Prelude.{◌==◌, pos, if◌then◌else◌}
use Rattle.std.specs.Char.{is_ascii_digit}
use Rattle.std.specs.List.{list_all}
use Rattle.std.specs.Fmt.{decimal}
use Rattle.std.specs.Str.{chars, IsUtf8}
use Rattle.std.specs.Str.Parse.{digits_value}
use Rattle.std.proofs.lemmas.Fmt.{decimal_by_steps, decimal_nonempty, IsAscii-decimal, digits_decimal, digits_value-decimal}
use Rattle.std.proofs.lemmas.Str.{chars-IsAscii, IsUtf8-from_ascii}
use Rattle.std.proofs.lemmas.Bool.Decides.{nat_tests}
use Rattle.std.proofs.lemmas.Bool.{and_parts}
use Rattle.unicode_ident.proofs.Computing.{unicode_ident}
use lib.Utf8.{encode}
use Rattle.bunch.specs.declared.name.Name.{Name as NameOf}
use Rattle.delta_lex.specs.declared.token.Kind.{Kind}
use Rattle.delta_lex.specs.declared.token.Kind.TheVariants.{Name, Word, Number, Sign}
use Rattle.unicode_ident.specs.Ident.{is_xid_continue}
use Rattle.delta_lex.specs.Characters.{starts_name, is_digit}
use Rattle.delta_lex.specs.Numbers.{number_of}
use Rattle.delta_lex.specs.Shapes.{has_shape}
use Rattle.delta_lex.specs.Tokens.{lexeme, token_of}
use Rattle.delta_lex.specs.Division.{IsTokenBefore}
use Rattle.delta_lex.proofs.Longest.{no_name, sign_other}
use Rattle.delta_lex.proofs.Numerals.{fits, own}
use Rattle.delta_parse.specs.declared.terminal.Terminal.TheVariants.{FunWord, MainWord, TypeWord, LetWord, InWord, CaseWord, OfWord, InlWord, InrWord, NilWord, WaitWord, EpsWord, IfWord, ThenWord, ElseWord, FoldWord, FromWord, WithWord, IntWord, FstWord, SndWord, Open, Close, OpenBrace, CloseBrace, Comma, Semicolon, Colon, Colons, Equals, Arrow, Bar, Bars, Plus, Minus as MinusSign, Times, Slash, Less, Dot, NameToken, OneToken, NumberToken, Other}
use Rattle.delta_print.specs.declared.chunk.Chunk.{Chunk}
use Rattle.delta_print.specs.declared.chunk.Chunk.TheVariants.{Fixed, Named, Digits, Minus, TypeStar}
use Rattle.delta_print.specs.Chunks.{chunk_text, name_text}
use Rattle.delta_print.specs.Layout.{holds_next, holds_back}
use Rattle.delta_print.specs.ReadingBack.{IsNameText, IsSpelled, chunk_lexeme_kind}
use Rattle.delta_print.proofs.Spelling.{IsApart, close_apart, star_apart, comma_apart, semicolon_apart, open_token, minus_token}

-- the text of a token of a row is a token, and what it is; some stand before anything, and what begins some goes on with no token
pub record IsToken (names : List (List ℕ)) (c : Chunk) : Type 0 where
  pub kind : Kind
  pub first : ℕ
  pub others : List ℕ
  pub all : chars (chunk_text names c) ≡ first ∷ others
  pub utf8 : IsUtf8 (chunk_text names c)
  pub shape : has_shape kind (first ∷ others) ≡ true
  pub slash : ((first == 47) ≡ false) ⊎ (others ≡ [])
  pub made : (at : ℕ) → token_of kind at (chunk_text names c) ≡ Ok (lexeme (chunk_lexeme_kind c) at (chunk_text names c))
  pub before_all : holds_next c ≡ true → (rest : List ℕ) → IsTokenBefore kind (first ∷ others) rest
  pub back : holds_back c ≡ true → IsApart first

-- NAMES

no_slash : (c : ℕ) → starts_name c ≡ true → (c == 47) ≡ false
no_slash c h = cases (c == 47) refl
  where
    cases : (b : Bool) → (c == 47) ≡ b → b ≡ false
    cases true e =
        let same : c ≡ 47 = grind (arith, nat_tests) in
        absurd (no_name 47 (sign_other 47 refl) (subst (λ (k : ℕ). starts_name k ≡ true) same h))
    cases false e = refl

-- the characters of a name
record IsName (cs : List ℕ) : Type 0 where
  pub first : ℕ
  pub others : List ℕ
  pub all : cs ≡ first ∷ others
  pub shape : has_shape Name (first ∷ others) ≡ true
  pub slash : (first == 47) ≡ false

name_parts : (cs : List ℕ) → has_shape Name cs ≡ true → IsName cs
name_parts [] h = absurd (cc h)
name_parts (c ∷ cs) h = record { first = c; others = cs; all = refl; shape = h; slash = no_slash c (and_parts (starts_name c) (list_all is_xid_continue cs) h).0 }

name_is : (names : List (List ℕ)) (x : NameOf) → IsNameText (name_text names x.0) → IsToken names (Named x)
name_is names x h =
    let parts : IsName (chars (name_text names x.0)) = name_parts (chars (name_text names x.0)) h.shape in record {
      kind = Name;
      first = parts.first;
      others = parts.others;
      all = parts.all;
      utf8 = h.utf8;
      shape = parts.shape;
      slash = inl parts.slash;
      made = λ at. ap (λ b. Ok (lexeme (if b then Word else Name) at (name_text names x.0))) h.no_word;
      before_all = λ e rest. absurd (cc e);
      back = λ e. absurd (cc e);
    }

-- NUMBERS

-- the digits of a number write it
pub number_of-decimal : (n : ℕ) → n < 2 ^ 63 → number_of (decimal n) ≡ Some (pos n)
number_of-decimal n h =
    let wide : n < 2 ^ 64 = omega arith in
    let digits : list_all is_ascii_digit (decimal n) ≡ true = digits_decimal own n wide in
    let value : digits_value 10 (decimal n) ≡ n = digits_value-decimal own n wide in
    let some : 0 < length (decimal n) = decimal_nonempty n wide in
    let small : n < 9223372036854775808 = omega arith in
    rw (digits, value, fits (length (decimal n)) n some small) refl

digit_passes : (n : ℕ) → n < 10 → is_digit (48 + n) ≡ true
digit_passes n h = grind (arith, nat_tests)

all_behind : (p : ℕ → Bool) (ds : List ℕ) (d : ℕ) → list_all p ds ≡ true → p d ≡ true → list_all p (ds ++ d ∷ []) ≡ true
all_behind p [] d h e = ap (λ b. b && true) e
all_behind p (c ∷ ds) d h e =
    let parts = and_parts (p c) (list_all p ds) h in
    ap (λ b. b && list_all p (ds ++ d ∷ [])) parts.0 ∙ all_behind p ds d parts.1 e

one_more : (ds : List ℕ) (d : ℕ) → has_shape Number ds ≡ true → is_digit d ≡ true → has_shape Number (ds ++ d ∷ []) ≡ true
one_more [] d h e = absurd (cc h)
one_more (c ∷ ds) d h e =
    let parts = and_parts (is_digit c) (list_all is_digit ds) h in
    ap (λ b. b && list_all is_digit (ds ++ d ∷ [])) parts.0 ∙ all_behind is_digit ds d parts.1 e

rest_small : (n : ℕ) → n % 10 < 10
rest_small n = omega arith

number_shape : (n : ℕ) → n < 2 ^ 64 → has_shape Number (decimal n) ≡ true
number_shape n h =
    let P : ℕ → List ℕ → Type 0 = λ k ds. has_shape Number ds ≡ true in
    decimal_by_steps P (λ k low. ap (λ b. b && true) (digit_passes k low)) (λ k ds high e. one_more ds (48 + k % 10) e (digit_passes (k % 10) (rest_small k))) n h

digit_no_slash : (c : ℕ) → is_digit c ≡ true → (c == 47) ≡ false
digit_no_slash c h = grind (arith, nat_tests)

-- the characters of a number
record IsNumber (cs : List ℕ) : Type 0 where
  pub first : ℕ
  pub others : List ℕ
  pub all : cs ≡ first ∷ others
  pub shape : has_shape Number (first ∷ others) ≡ true
  pub slash : (first == 47) ≡ false

number_parts : (cs : List ℕ) → has_shape Number cs ≡ true → IsNumber cs
number_parts [] h = absurd (cc h)
number_parts (c ∷ cs) h = record { first = c; others = cs; all = refl; shape = h; slash = digit_no_slash c (and_parts (is_digit c) (list_all is_digit cs) h).0 }

number_is : (names : List (List ℕ)) (n : ℕ) → n < 2 ^ 63 → IsToken names (Digits n)
number_is names n h =
    let wide : n < 2 ^ 64 = omega arith in
    let parts : IsNumber (decimal n) = number_parts (decimal n) (number_shape n wide) in record {
      kind = Number;
      first = parts.first;
      others = parts.others;
      all = chars-IsAscii (decimal n) (IsAscii-decimal n wide) ∙ parts.all;
      utf8 = IsUtf8-from_ascii (decimal n) (IsAscii-decimal n wide);
      shape = parts.shape;
      slash = inl parts.slash;
      made = λ at. rw (number_of-decimal n h) refl;
      before_all = λ e rest. absurd (cc e);
      back = λ e. absurd (cc e);
    }

-- each token that has a text
pub token_is : (names : List (List ℕ)) (c : Chunk) → IsSpelled names c → IsToken names c
unfolding chars unicode_ident encode
token_is names (Fixed FunWord) h =
    record { kind = Name; first = 102; others = codes "un"; all = refl; utf8 = (codes "fun", (refl, refl)); shape = refl; slash = inl refl; made = λ at. refl; before_all = λ h rest. absurd (cc h); back = λ h. absurd (cc h) }
token_is names (Fixed MainWord) h =
    record { kind = Name; first = 109; others = codes "ain"; all = refl; utf8 = (codes "main", (refl, refl)); shape = refl; slash = inl refl; made = λ at. refl; before_all = λ h rest. absurd (cc h); back = λ h. absurd (cc h) }
token_is names (Fixed TypeWord) h =
    record { kind = Name; first = 116; others = codes "ype"; all = refl; utf8 = (codes "type", (refl, refl)); shape = refl; slash = inl refl; made = λ at. refl; before_all = λ h rest. absurd (cc h); back = λ h. absurd (cc h) }
token_is names (Fixed LetWord) h =
    record { kind = Name; first = 108; others = codes "et"; all = refl; utf8 = (codes "let", (refl, refl)); shape = refl; slash = inl refl; made = λ at. refl; before_all = λ h rest. absurd (cc h); back = λ h. absurd (cc h) }
token_is names (Fixed InWord) h =
    record { kind = Name; first = 105; others = codes "n"; all = refl; utf8 = (codes "in", (refl, refl)); shape = refl; slash = inl refl; made = λ at. refl; before_all = λ h rest. absurd (cc h); back = λ h. absurd (cc h) }
token_is names (Fixed CaseWord) h =
    record { kind = Name; first = 99; others = codes "ase"; all = refl; utf8 = (codes "case", (refl, refl)); shape = refl; slash = inl refl; made = λ at. refl; before_all = λ h rest. absurd (cc h); back = λ h. absurd (cc h) }
token_is names (Fixed OfWord) h =
    record { kind = Name; first = 111; others = codes "f"; all = refl; utf8 = (codes "of", (refl, refl)); shape = refl; slash = inl refl; made = λ at. refl; before_all = λ h rest. absurd (cc h); back = λ h. absurd (cc h) }
token_is names (Fixed InlWord) h =
    record { kind = Name; first = 105; others = codes "nl"; all = refl; utf8 = (codes "inl", (refl, refl)); shape = refl; slash = inl refl; made = λ at. refl; before_all = λ h rest. absurd (cc h); back = λ h. absurd (cc h) }
token_is names (Fixed InrWord) h =
    record { kind = Name; first = 105; others = codes "nr"; all = refl; utf8 = (codes "inr", (refl, refl)); shape = refl; slash = inl refl; made = λ at. refl; before_all = λ h rest. absurd (cc h); back = λ h. absurd (cc h) }
token_is names (Fixed NilWord) h =
    record { kind = Name; first = 110; others = codes "il"; all = refl; utf8 = (codes "nil", (refl, refl)); shape = refl; slash = inl refl; made = λ at. refl; before_all = λ h rest. absurd (cc h); back = λ h. absurd (cc h) }
token_is names (Fixed WaitWord) h =
    record { kind = Name; first = 119; others = codes "ait"; all = refl; utf8 = (codes "wait", (refl, refl)); shape = refl; slash = inl refl; made = λ at. refl; before_all = λ h rest. absurd (cc h); back = λ h. absurd (cc h) }
token_is names (Fixed EpsWord) h =
    record { kind = Name; first = 101; others = codes "ps"; all = refl; utf8 = (codes "eps", (refl, refl)); shape = refl; slash = inl refl; made = λ at. refl; before_all = λ h rest. absurd (cc h); back = λ h. absurd (cc h) }
token_is names (Fixed IfWord) h =
    record { kind = Name; first = 105; others = codes "f"; all = refl; utf8 = (codes "if", (refl, refl)); shape = refl; slash = inl refl; made = λ at. refl; before_all = λ h rest. absurd (cc h); back = λ h. absurd (cc h) }
token_is names (Fixed ThenWord) h =
    record { kind = Name; first = 116; others = codes "hen"; all = refl; utf8 = (codes "then", (refl, refl)); shape = refl; slash = inl refl; made = λ at. refl; before_all = λ h rest. absurd (cc h); back = λ h. absurd (cc h) }
token_is names (Fixed ElseWord) h =
    record { kind = Name; first = 101; others = codes "lse"; all = refl; utf8 = (codes "else", (refl, refl)); shape = refl; slash = inl refl; made = λ at. refl; before_all = λ h rest. absurd (cc h); back = λ h. absurd (cc h) }
token_is names (Fixed FoldWord) h =
    record { kind = Name; first = 102; others = codes "old"; all = refl; utf8 = (codes "fold", (refl, refl)); shape = refl; slash = inl refl; made = λ at. refl; before_all = λ h rest. absurd (cc h); back = λ h. absurd (cc h) }
token_is names (Fixed FromWord) h =
    record { kind = Name; first = 102; others = codes "rom"; all = refl; utf8 = (codes "from", (refl, refl)); shape = refl; slash = inl refl; made = λ at. refl; before_all = λ h rest. absurd (cc h); back = λ h. absurd (cc h) }
token_is names (Fixed WithWord) h =
    record { kind = Name; first = 119; others = codes "ith"; all = refl; utf8 = (codes "with", (refl, refl)); shape = refl; slash = inl refl; made = λ at. refl; before_all = λ h rest. absurd (cc h); back = λ h. absurd (cc h) }
token_is names (Fixed IntWord) h =
    record { kind = Name; first = 73; others = codes "nt"; all = refl; utf8 = (codes "Int", (refl, refl)); shape = refl; slash = inl refl; made = λ at. refl; before_all = λ h rest. absurd (cc h); back = λ h. absurd (cc h) }
token_is names (Fixed FstWord) h =
    record { kind = Name; first = 102; others = codes "st"; all = refl; utf8 = (codes "fst", (refl, refl)); shape = refl; slash = inl refl; made = λ at. refl; before_all = λ h rest. absurd (cc h); back = λ h. absurd (cc h) }
token_is names (Fixed SndWord) h =
    record { kind = Name; first = 115; others = codes "nd"; all = refl; utf8 = (codes "snd", (refl, refl)); shape = refl; slash = inl refl; made = λ at. refl; before_all = λ h rest. absurd (cc h); back = λ h. absurd (cc h) }
token_is names (Fixed Open) h =
    record { kind = Sign; first = 40; others = []; all = refl; utf8 = (codes "(", (refl, refl)); shape = refl; slash = inl refl; made = λ at. refl; before_all = λ e rest. open_token rest; back = λ h. absurd (cc h) }
token_is names (Fixed Close) h =
    record { kind = Sign; first = 41; others = []; all = refl; utf8 = (codes ")", (refl, refl)); shape = refl; slash = inl refl; made = λ at. refl; before_all = λ h rest. absurd (cc h); back = λ e. close_apart }
token_is names (Fixed OpenBrace) h =
    record { kind = Sign; first = 123; others = []; all = refl; utf8 = (codes "{", (refl, refl)); shape = refl; slash = inl refl; made = λ at. refl; before_all = λ h rest. absurd (cc h); back = λ h. absurd (cc h) }
token_is names (Fixed CloseBrace) h =
    record { kind = Sign; first = 125; others = []; all = refl; utf8 = (codes "}", (refl, refl)); shape = refl; slash = inl refl; made = λ at. refl; before_all = λ h rest. absurd (cc h); back = λ h. absurd (cc h) }
token_is names (Fixed Comma) h =
    record { kind = Sign; first = 44; others = []; all = refl; utf8 = (codes ",", (refl, refl)); shape = refl; slash = inl refl; made = λ at. refl; before_all = λ h rest. absurd (cc h); back = λ e. comma_apart }
token_is names (Fixed Semicolon) h =
    record { kind = Sign; first = 59; others = []; all = refl; utf8 = (codes ";", (refl, refl)); shape = refl; slash = inl refl; made = λ at. refl; before_all = λ h rest. absurd (cc h); back = λ e. semicolon_apart }
token_is names (Fixed Colon) h =
    record { kind = Sign; first = 58; others = []; all = refl; utf8 = (codes ":", (refl, refl)); shape = refl; slash = inl refl; made = λ at. refl; before_all = λ h rest. absurd (cc h); back = λ h. absurd (cc h) }
token_is names (Fixed Colons) h =
    record { kind = Sign; first = 58; others = codes ":"; all = refl; utf8 = (codes "::", (refl, refl)); shape = refl; slash = inl refl; made = λ at. refl; before_all = λ h rest. absurd (cc h); back = λ h. absurd (cc h) }
token_is names (Fixed Equals) h =
    record { kind = Sign; first = 61; others = []; all = refl; utf8 = (codes "=", (refl, refl)); shape = refl; slash = inl refl; made = λ at. refl; before_all = λ h rest. absurd (cc h); back = λ h. absurd (cc h) }
token_is names (Fixed Arrow) h =
    record { kind = Sign; first = 61; others = codes ">"; all = refl; utf8 = (codes "=>", (refl, refl)); shape = refl; slash = inl refl; made = λ at. refl; before_all = λ h rest. absurd (cc h); back = λ h. absurd (cc h) }
token_is names (Fixed Bar) h =
    record { kind = Sign; first = 124; others = []; all = refl; utf8 = (codes "|", (refl, refl)); shape = refl; slash = inl refl; made = λ at. refl; before_all = λ h rest. absurd (cc h); back = λ h. absurd (cc h) }
token_is names (Fixed Bars) h =
    record { kind = Sign; first = 124; others = codes "|"; all = refl; utf8 = (codes "||", (refl, refl)); shape = refl; slash = inl refl; made = λ at. refl; before_all = λ h rest. absurd (cc h); back = λ h. absurd (cc h) }
token_is names (Fixed Plus) h =
    record { kind = Sign; first = 43; others = []; all = refl; utf8 = (codes "+", (refl, refl)); shape = refl; slash = inl refl; made = λ at. refl; before_all = λ h rest. absurd (cc h); back = λ h. absurd (cc h) }
token_is names (Fixed MinusSign) h =
    record { kind = Sign; first = 45; others = []; all = refl; utf8 = (codes "-", (refl, refl)); shape = refl; slash = inl refl; made = λ at. refl; before_all = λ h rest. absurd (cc h); back = λ h. absurd (cc h) }
token_is names (Fixed Times) h =
    record { kind = Sign; first = 42; others = []; all = refl; utf8 = (codes "*", (refl, refl)); shape = refl; slash = inl refl; made = λ at. refl; before_all = λ h rest. absurd (cc h); back = λ h. absurd (cc h) }
token_is names (Fixed Slash) h =
    record { kind = Sign; first = 47; others = []; all = refl; utf8 = (codes "/", (refl, refl)); shape = refl; slash = inr refl; made = λ at. refl; before_all = λ h rest. absurd (cc h); back = λ h. absurd (cc h) }
token_is names (Fixed Less) h =
    record { kind = Sign; first = 60; others = []; all = refl; utf8 = (codes "<", (refl, refl)); shape = refl; slash = inl refl; made = λ at. refl; before_all = λ h rest. absurd (cc h); back = λ h. absurd (cc h) }
token_is names (Fixed Dot) h =
    record { kind = Sign; first = 46; others = []; all = refl; utf8 = (codes ".", (refl, refl)); shape = refl; slash = inl refl; made = λ at. refl; before_all = λ h rest. absurd (cc h); back = λ h. absurd (cc h) }
token_is names (Fixed OneToken) h =
    record { kind = Number; first = 49; others = []; all = refl; utf8 = (codes "1", (refl, refl)); shape = refl; slash = inl refl; made = λ at. refl; before_all = λ h rest. absurd (cc h); back = λ h. absurd (cc h) }
token_is names (Fixed NameToken) h = absurd (cc h)
token_is names (Fixed NumberToken) h = absurd (cc h)
token_is names (Fixed Other) h = absurd (cc h)
token_is names (Named x) h = name_is names x h.1
token_is names (Digits n) h = number_is names n h
token_is names Minus h =
    record { kind = Sign; first = 45; others = []; all = refl; utf8 = (codes "-", (refl, refl)); shape = refl; slash = inl refl; made = λ at. refl; before_all = λ e rest. minus_token rest; back = λ h. absurd (cc h) }
token_is names TypeStar h =
    record { kind = Sign; first = 42; others = []; all = refl; utf8 = (codes "*", (refl, refl)); shape = refl; slash = inl refl; made = λ at. refl; before_all = λ h rest. absurd (cc h); back = λ e. star_apart }
