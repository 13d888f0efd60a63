-- The names of a text, numbered in the order in which they first stand there: each has a text that is a name, and no two the same.
use Rattle.std.proofs.Common.{codes, ◌≡◌, ℕ, zero, suc, ◌+◌, ◌<◌, ◌≤◌, Bool, true, false, ◌&&◌, List, [], ◌∷◌, ◌++◌, length, get_or, refl, sym, ap, ap₂, subst, ◌∙◌, ◌⊎◌, inl, inr, arith, Result, Ok, Err, length-append}
use Rattle.std.specs.Prelude.{pos, Some, None, ◌||◌, ◌==◌, nat_lt, nat_le, is_some, if◌then◌else◌}
use Rattle.std.specs.Char.{is_ascii_digit}
use Rattle.std.specs.List.{list_any, list_all, position_or_len}
use Rattle.std.specs.Str.{bytes_eq, encode_utf8_all, all_scalars}
use Rattle.std.specs.Str.Parse.{digits_value}
use Rattle.std.proofs.lemmas.Bool.Decides.{nat_tests}
use Rattle.std.proofs.lemmas.List.{get_or_append_left}
use Rattle.std.proofs.Math.Seq.{get_or-append_seam}
use Rattle.std.proofs.lemmas.Slice.Eq.{bytes_eq-Decides}
use Rattle.std.proofs.lemmas.Str.{chars-encodes}
use Rattle.delta_lex.specs.declared.fault.LexFault.{LexFault}
use Rattle.delta_lex.specs.declared.fault.LexFault.TheVariants.{BigNumber}
use Rattle.delta_lex.specs.declared.token.Kind.{Kind}
use Rattle.delta_lex.specs.declared.token.Kind.TheVariants.{Name, Word, Number, Sign}
use Rattle.delta_lex.specs.Characters.{is_word}
use Rattle.delta_lex.specs.Numbers.{number_of}
use Rattle.delta_lex.specs.Shapes.{has_shape}
use Rattle.delta_lex.specs.Tokens.{Lexeme, lexeme, token_of}
use Rattle.delta_lex.specs.Division.{Divides, at_end, by_separator, by_comment, by_token}
use Rattle.delta_parse.specs.declared.terminal.Terminal.{Terminal}
use Rattle.delta_parse.specs.declared.terminal.Terminal.TheVariants.{FunWord, MainWord, TypeWord, LetWord, InWord, CaseWord, OfWord, InlWord, InrWord, NilWord, WaitWord, EpsWord, IfWord, ThenWord, ElseWord, FoldWord, FromWord, WithWord, IntWord, FstWord, SndWord, Open, Close, OpenBrace, CloseBrace, Comma, Semicolon, Colon, Colons, Equals, Arrow, Bar, Bars, Plus, Minus, Times, Slash, Less, Dot, NameToken, OneToken, NumberToken, Other}
use Rattle.delta_parse.specs.Terminals.{Tok, is_kind}
use Rattle.delta_parse.specs.Plain.{word_of, sign_of, numeral_of, terminal_of, worth_of, value_or_zero, name_of, with_text, with_name, add_name, token_with, numbered, names_from}
use Rattle.delta_print.specs.Chunks.{name_text}
use Rattle.delta_print.specs.ReadingBack.{IsNameText, AreDistinct}
use Rattle.delta_print.proofs.ItemsOfTokens.{token_name, token_names, IsNumber, AreNumbers}
use Rattle.delta_print.proofs.Numbering.{name_text-read, any_at}
use Rattle.delta_print.proofs.DerivedPrograms.{both_true}

-- NUMBERS

-- digits that write a number too big are none
number_fits : (digits : Bool) (n : ℕ) (b : Bool) → b ≡ (digits && nat_le n 9223372036854775807) → IsNumber (value_or_zero (if b then Some (pos n) else None))
number_fits digits n false e = omega arith
number_fits digits n true e =
    let small : nat_le n 9223372036854775807 ≡ true = (both_true digits (nat_le n 9223372036854775807) (sym e)).1 in
    grind (arith, nat_tests)

regroup : (a b c : Bool) → a && (b && c) ≡ (a && b) && c
regroup true b c = refl
regroup false b c = refl

number_is : (text : List ℕ) → IsNumber (value_or_zero (number_of text))
number_is text =
    number_fits (list_all is_ascii_digit text && nat_lt 0 (length text)) (digits_value 10 text) _
    (regroup (list_all is_ascii_digit text) (nat_lt 0 (length text)) (nat_le (digits_value 10 text) 9223372036854775807))

worth_is : (k : Kind) (text : List ℕ) → IsNumber (worth_of k text)
worth_is Name text = omega arith
worth_is Word text = omega arith
worth_is Number text = number_is text
worth_is Sign text = omega arith

pub are_numbers : (names : List (List ℕ)) (ls : List Lexeme) → AreNumbers (numbered names ls)
are_numbers names [] = tt
are_numbers names (t ∷ ts) = (worth_is t.kind t.text, are_numbers (add_name names t) ts)

-- KINDS

-- the kind of no name
record IsNoName (k : Terminal) : Type 0 where
  pub no : is_kind NameToken k ≡ false

fixed : (k : Terminal) → is_kind NameToken k ≡ false → IsNoName k
fixed k h = record { no = h }

pick : (text word : List ℕ) {x y : Terminal} → IsNoName x → IsNoName y → IsNoName (if bytes_eq text word then x else y)
pick text word {x = x} {y = y} h g = cases (bytes_eq text word)
  where
    cases : (b : Bool) → IsNoName (if b then x else y)
    cases true = h
    cases false = g

word_no_name : (text : List ℕ) → IsNoName (word_of text)
word_no_name text =
    pick text (codes "fun") (fixed FunWord refl)
    (pick text (codes "main") (fixed MainWord refl)
    (pick text (codes "type") (fixed TypeWord refl)
    (pick text (codes "let") (fixed LetWord refl)
    (pick text (codes "in") (fixed InWord refl)
    (pick text (codes "case") (fixed CaseWord refl)
    (pick text (codes "of") (fixed OfWord refl)
    (pick text (codes "inl") (fixed InlWord refl)
    (pick text (codes "inr") (fixed InrWord refl)
    (pick text (codes "nil") (fixed NilWord refl)
    (pick text (codes "wait") (fixed WaitWord refl)
    (pick text (codes "eps") (fixed EpsWord refl)
    (pick text (codes "if") (fixed IfWord refl)
    (pick text (codes "then") (fixed ThenWord refl)
    (pick text (codes "else") (fixed ElseWord refl)
    (pick text (codes "fold") (fixed FoldWord refl)
    (pick text (codes "from") (fixed FromWord refl)
    (pick text (codes "with") (fixed WithWord refl)
    (pick text (codes "Int") (fixed IntWord refl)
    (pick text (codes "fst") (fixed FstWord refl)
    (pick text (codes "snd") (fixed SndWord refl) (fixed Other refl)))))))))))))))))))))

sign_no_name : (text : List ℕ) → IsNoName (sign_of text)
sign_no_name text =
    pick text (codes "(") (fixed Open refl)
    (pick text (codes ")") (fixed Close refl)
    (pick text (codes "{") (fixed OpenBrace refl)
    (pick text (codes "}") (fixed CloseBrace refl)
    (pick text (codes ",") (fixed Comma refl)
    (pick text (codes ";") (fixed Semicolon refl)
    (pick text (codes ":") (fixed Colon refl)
    (pick text (codes "::") (fixed Colons refl)
    (pick text (codes "=") (fixed Equals refl)
    (pick text (codes "=>") (fixed Arrow refl)
    (pick text (codes "|") (fixed Bar refl)
    (pick text (codes "||") (fixed Bars refl)
    (pick text (codes "+") (fixed Plus refl)
    (pick text (codes "-") (fixed Minus refl)
    (pick text (codes "*") (fixed Times refl)
    (pick text (codes "/") (fixed Slash refl)
    (pick text (codes "<") (fixed Less refl)
    (pick text (codes ".") (fixed Dot refl) (fixed Other refl))))))))))))))))))

numeral_no_name : (text : List ℕ) → IsNoName (numeral_of text)
numeral_no_name text =
    pick text (codes "1") (fixed OneToken refl) (fixed NumberToken refl)

-- NUMBERING

-- names by their numbers, behind so many: each is one of those before, or the next; and there are so many in all
abbrev pub AreInTurn : ℕ → ℕ → List ℕ → Type 0
AreInTurn all n [] = n ≡ all
AreInTurn all n (x ∷ xs) = (x ≤ n) × AreInTurn all (if x == n then n + 1 else n) xs

found_cases : (p : List ℕ → Bool) (x : List ℕ) (xs : List (List ℕ)) (b : Bool) → p x ≡ b → list_any p (x ∷ xs) ≡ true → (list_any p xs ≡ true → position_or_len p xs < length xs)
    → position_or_len p (x ∷ xs) < length (x ∷ xs)
found_cases p x xs true e h k = rw e (omega arith)
found_cases p x xs false e h k =
    let rest : list_any p xs ≡ true = sym (ap (λ b. b || list_any p xs) e) ∙ h in
    let below : position_or_len p xs < length xs = k rest in
    rw e (omega arith)

found_before : (p : List ℕ → Bool) (xs : List (List ℕ)) → list_any p xs ≡ true → position_or_len p xs < length xs
found_before p [] h = absurd (cc h)
found_before p (x ∷ xs) h = found_cases p x xs (p x) refl h (λ k. found_before p xs k)

none_cases : (p : List ℕ → Bool) (x : List ℕ) (xs : List (List ℕ)) (b : Bool) → p x ≡ b → list_any p (x ∷ xs) ≡ false → (list_any p xs ≡ false → position_or_len p xs ≡ length xs)
    → position_or_len p (x ∷ xs) ≡ length (x ∷ xs)
none_cases p x xs true e h k = absurd (let no : true ≡ false = sym (ap (λ b. b || list_any p xs) e) ∙ h in cc no)
none_cases p x xs false e h k =
    let rest : list_any p xs ≡ false = sym (ap (λ b. b || list_any p xs) e) ∙ h in
    let whole : position_or_len p xs ≡ length xs = k rest in
    rw e (omega arith)

none_before : (p : List ℕ → Bool) (xs : List (List ℕ)) → list_any p xs ≡ false → position_or_len p xs ≡ length xs
none_before p [] h = refl
none_before p (x ∷ xs) h = none_cases p x xs (p x) refl h (λ k. none_before p xs k)

-- a name's number, and how many names there are behind it
record IsSeen (names : List (List ℕ)) (text : List ℕ) : Type 0 where
  pub within : position_or_len (bytes_eq text) names ≤ length names
  pub next : (if position_or_len (bytes_eq text) names == length names then length names + 1 else length names) ≡ length (with_text names text)

seen : (names : List (List ℕ)) (text : List ℕ) → IsSeen names text
seen names text = cases (list_any (bytes_eq text) names) refl
  where
    here : (x n : ℕ) → x ≡ n → (if x == n then n + 1 else n) ≡ n + 1
    here x n e = let yes : (x == n) ≡ true = grind (arith, nat_tests) in rw yes refl

    before : (x n : ℕ) → x < n → (if x == n then n + 1 else n) ≡ n
    before x n h = let no : (x == n) ≡ false = grind (arith, nat_tests) in rw no refl

    cases : (b : Bool) → list_any (bytes_eq text) names ≡ b → IsSeen names text
    cases true e =
        let k : position_or_len (bytes_eq text) names < length names = found_before (bytes_eq text) names e in
        record { within = omega arith; next = before _ _ k ∙ sym (ap (λ b. length (if b then names else names ++ (text ∷ []))) e) }
    cases false e =
        let k : position_or_len (bytes_eq text) names ≡ length names = none_before (bytes_eq text) names e in
        let long : length (names ++ (text ∷ [])) ≡ length names + 1 = omega (arith, length-append names (text ∷ [])) in
        record { within = omega arith; next = here _ _ k ∙ sym long ∙ sym (ap (λ b. length (if b then names else names ++ (text ∷ []))) e) }

-- a token more
turn_step : (all : ℕ) (names : List (List ℕ)) (k : Kind) (text : List ℕ) (t : Tok) (xs : List ℕ) → t.kind ≡ terminal_of k text → t.worth.name ≡ name_of names k text
    → AreInTurn all (length (with_name names k text)) xs → AreInTurn all (length names) (token_name t ++ xs)
turn_step all names Name text t xs e g h =
    let s : IsSeen names text = seen names text in
    let front : token_name t ≡ position_or_len (bytes_eq text) names ∷ [] = rw (e, g) refl in
    let P : ℕ → Type 0 = λ n. AreInTurn all n xs in
    let Q : List ℕ → Type 0 = λ r. AreInTurn all (length names) (r ++ xs) in
    subst Q (sym front) (s.within, subst P (sym s.next) h)
turn_step all names Word text t xs e g h =
    let front : token_name t ≡ [] = ap (λ b. if b then t.worth.name ∷ [] else []) (ap (is_kind NameToken) e ∙ (word_no_name text).no) in
    let Q : List ℕ → Type 0 = λ r. AreInTurn all (length names) (r ++ xs) in
    subst Q (sym front) h
turn_step all names Number text t xs e g h =
    let front : token_name t ≡ [] = ap (λ b. if b then t.worth.name ∷ [] else []) (ap (is_kind NameToken) e ∙ (numeral_no_name text).no) in
    let Q : List ℕ → Type 0 = λ r. AreInTurn all (length names) (r ++ xs) in
    subst Q (sym front) h
turn_step all names Sign text t xs e g h =
    let front : token_name t ≡ [] = ap (λ b. if b then t.worth.name ∷ [] else []) (ap (is_kind NameToken) e ∙ (sign_no_name text).no) in
    let Q : List ℕ → Type 0 = λ r. AreInTurn all (length names) (r ++ xs) in
    subst Q (sym front) h

-- the names of tokens
pub are_in_turn : (names : List (List ℕ)) (ls : List Lexeme) → AreInTurn (length (names_from names ls)) (length names) (token_names (numbered names ls))
are_in_turn names [] = refl
are_in_turn names (t ∷ ts) =
    turn_step (length (names_from names (t ∷ ts))) names t.kind t.text (token_with names t) (token_names (numbered (add_name names t) ts)) refl refl (are_in_turn (add_name names t) ts)

grown : (x n all : ℕ) (b : Bool) → (x == n) ≡ b → x ≤ n → (if b then n + 1 else n) ≤ all → (x < all) × (n ≤ all)
grown x n all true e h g = let same : x ≡ n = grind (arith, nat_tests) in (omega arith, omega arith)
grown x n all false e h g = let below : x < n = grind (arith, nat_tests) in (omega arith, omega arith)

pub turn_within : (all n : ℕ) (xs : List ℕ) → AreInTurn all n xs → n ≤ all
turn_within all n [] h = omega arith
turn_within all n (x ∷ xs) h = (grown x n all (x == n) refl h.0 (turn_within all (if x == n then n + 1 else n) xs h.1)).1

-- each number is one of a name
pub name_within : (all n x : ℕ) (xs : List ℕ) → AreInTurn all n (x ∷ xs) → x < all
name_within all n x xs h = (grown x n all (x == n) refl h.0 (turn_within all (if x == n then n + 1 else n) xs h.1)).0

-- TEXTS OF NAMES

-- each text is that of a name
abbrev AreNameTexts : List (List ℕ) → Type 0
AreNameTexts [] = Unit {0}
AreNameTexts (t ∷ ts) = IsNameText t × AreNameTexts ts

-- where a token is a name, its text is
abbrev HaveNameTexts : List Lexeme → Type 0
HaveNameTexts [] = Unit {0}
HaveNameTexts (l ∷ ls) = (l.kind ≡ Name → IsNameText l.text) × HaveNameTexts ls

one_more_text : (names : List (List ℕ)) (text : List ℕ) → AreNameTexts names → IsNameText text → AreNameTexts (names ++ (text ∷ []))
one_more_text [] text h g = (g, tt)
one_more_text (t ∷ names) text h g = (h.0, one_more_text names text h.1 g)

with_one_text : (names : List (List ℕ)) (k : Kind) (text : List ℕ) → AreNameTexts names → (k ≡ Name → IsNameText text) → AreNameTexts (with_name names k text)
with_one_text names Name text h g = cases (list_any (bytes_eq text) names)
  where
    cases : (b : Bool) → AreNameTexts (if b then names else names ++ (text ∷ []))
    cases true = h
    cases false = one_more_text names text h (g refl)
with_one_text names Word text h g = h
with_one_text names Number text h g = h
with_one_text names Sign text h g = h

texts_from : (names : List (List ℕ)) (ls : List Lexeme) → AreNameTexts names → HaveNameTexts ls → AreNameTexts (names_from names ls)
texts_from names [] h g = h
texts_from names (l ∷ ls) h g = texts_from (add_name names l) ls (with_one_text names l.kind l.text h g.0) g.1

text_at : (names : List (List ℕ)) (i : ℕ) → AreNameTexts names → i < length names → IsNameText (get_or names i [])
text_at [] i h l = absurd (omega arith)
text_at (t ∷ names) zero h l = h.0
text_at (t ∷ names) (suc i) h l = text_at names i h.1 (omega arith)

behind_front : (cs ds : List ℕ) → all_scalars (cs ++ ds) ≡ true → (all_scalars cs ≡ true) × (all_scalars ds ≡ true)
behind_front [] ds h = (refl, h)
behind_front (c ∷ cs) ds h =
    let parts = both_true _ _ h in
    let k = behind_front cs ds parts.1 in
    (ap₂ (λ x y. x && y) parts.0 k.0, k.1)

abbrev Gives : Result Lexeme LexFault → Lexeme → Type 0
Gives r l = r ≡ Ok l

name_is : (b : Bool) (at : ℕ) (word : List ℕ) (l : Lexeme) → is_word (encode_utf8_all word) ≡ b → has_shape Name word ≡ true → all_scalars word ≡ true
    → Gives (Ok (lexeme (if b then Word else Name) at (encode_utf8_all word))) l → l.kind ≡ Name → IsNameText l.text
name_is true at word l e shape good m is = absurd (let k : Word ≡ l.kind = cc m in let no : Word ≡ Name = k ∙ is in cc no)
name_is false at word l e shape good m is =
    let t : encode_utf8_all word ≡ l.text = cc m in
    let whole : IsNameText (encode_utf8_all word) = record { utf8 = (word, (good, refl)); shape = ap (has_shape Name) (chars-encodes word good) ∙ shape; no_word = e } in
    subst IsNameText t whole

number_is_none : (b : Bool) (at : ℕ) (text : List ℕ) (l : Lexeme) → Gives (if b then Ok (lexeme Number at text) else Err (BigNumber at)) l → l.kind ≡ Name → ⊥
number_is_none true at text l m is = let k : Number ≡ l.kind = cc m in let no : Number ≡ Name = k ∙ is in cc no
number_is_none false at text l m is = cc m

-- a token that is a name
token_text : (kind : Kind) (at : ℕ) (word : List ℕ) (l : Lexeme) → has_shape kind word ≡ true → all_scalars word ≡ true → token_of kind at (encode_utf8_all word) ≡ Ok l → l.kind ≡ Name → IsNameText l.text
token_text Name at word l shape good made is = name_is (is_word (encode_utf8_all word)) at word l refl shape good made is
token_text Word at word l shape good made is = absurd (cc shape)
token_text Number at word l shape good made is = absurd (number_is_none (is_some (number_of (encode_utf8_all word))) at (encode_utf8_all word) l made is)
token_text Sign at word l shape good made is = absurd (let k : Sign ≡ l.kind = cc made in let no : Sign ≡ Name = k ∙ is in cc no)

have_texts : {at : ℕ} {cs : List ℕ} {ls : List Lexeme} → Divides at cs ls → all_scalars cs ≡ true → HaveNameTexts ls
have_texts at_end h = tt
have_texts (by_separator s d) h = have_texts d (both_true _ _ h).1
have_texts (by_comment body rest b e d) h = have_texts d (behind_front (47 ∷ 47 ∷ body) rest h).1
have_texts (by_token {at = at} kind word rest {token = token} before made d) h =
    let k = behind_front word rest h in
    (token_text kind at word token before.shape k.0 made, have_texts d k.1)

-- each name of the tokens into which characters divide
pub text_is_name : (cs : List ℕ) (ls : List Lexeme) → Divides 0 cs ls → all_scalars cs ≡ true → (i : ℕ) → i < length (names_from [] ls) → IsNameText (name_text (names_from [] ls) i)
text_is_name cs ls d h i l =
    subst IsNameText (sym (name_text-read (names_from [] ls) i l)) (text_at (names_from [] ls) i (texts_from [] ls tt (have_texts d h)) l)

-- NO TWO THE SAME

-- places that are read
abbrev AreApart : List (List ℕ) → Type 0
AreApart names = (i j : ℕ) → i < j → j < length names → get_or names i [] ≡ get_or names j [] → ⊥

one_more_apart : (names : List (List ℕ)) (text : List ℕ) → AreApart names → list_any (bytes_eq text) names ≡ false → AreApart (names ++ (text ∷ []))
one_more_apart names text h none i j below inside same = cases_at
  where
    long : length (names ++ (text ∷ [])) ≡ length names + 1
    long = omega (arith, length-append names (text ∷ []))

    left : (k : ℕ) → k < length names → get_or (names ++ (text ∷ [])) k [] ≡ get_or names k []
    left k l = get_or_append_left names (text ∷ []) [] k l

    inner : j < length names → ⊥
    inner l = h i j below l (sym (left i (omega arith)) ∙ same ∙ left j l)

    last : j ≡ length names → ⊥
    last e =
        let is_text : get_or (names ++ (text ∷ [])) j [] ≡ text = ap (λ k. get_or (names ++ (text ∷ [])) k []) e ∙ get_or-append_seam names text [] [] in
        let found : bytes_eq text (get_or names i []) ≡ true = (bytes_eq-Decides text (get_or names i [])).1 (sym is_text ∙ sym same ∙ left i (omega arith)) in
        let yes : list_any (bytes_eq text) names ≡ true = any_at (bytes_eq text) names i (omega arith) found in
        cc (yes, none)

    split : (a b : ℕ) → a < b + 1 → (a < b) ⊎ (a ≡ b)
    split a b l = grind arith

    cases_at : ⊥
    cases_at = elim (split j (length names) (omega (arith, long, inside))) [ inl l ↦ inner l | inr e ↦ last e ]

with_one_apart : (names : List (List ℕ)) (k : Kind) (text : List ℕ) → AreApart names → AreApart (with_name names k text)
with_one_apart names Name text h = cases (list_any (bytes_eq text) names) refl
  where
    cases : (b : Bool) → list_any (bytes_eq text) names ≡ b → AreApart (if b then names else names ++ (text ∷ []))
    cases true e = h
    cases false e = one_more_apart names text h e
with_one_apart names Word text h = h
with_one_apart names Number text h = h
with_one_apart names Sign text h = h

apart_from : (names : List (List ℕ)) (ls : List Lexeme) → AreApart names → AreApart (names_from names ls)
apart_from names [] h = h
apart_from names (l ∷ ls) h = apart_from (add_name names l) ls (with_one_apart names l.kind l.text h)

pub names_are_distinct : (ls : List Lexeme) → AreDistinct (names_from [] ls)
names_are_distinct ls i j below inside same =
    apart_from [] ls (λ i j b l e. omega arith) i j below inside (sym (name_text-read (names_from [] ls) i (omega arith)) ∙ same ∙ name_text-read (names_from [] ls) j inside)
