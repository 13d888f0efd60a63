-- The tokens of a canonical text as the grammar sees them: their terminals, the numbers of their names, and what their numbers write.
use Rattle.std.proofs.Common.{◌≡◌, ℕ, zero, suc, ◌+◌, ◌<◌, ◌≤◌, ◌^◌, Bool, true, false, List, [], ◌∷◌, ◌++◌, length, take, get_or, map, refl, sym, ap, ap₂, subst, ◌∙◌, arith, codes}
use Rattle.std.specs.Prelude.{◌==◌, ◌||◌, if◌then◌else◌}
use Rattle.std.specs.List.{list_any, position_or_len}
use Rattle.std.specs.Fmt.{decimal}
use Rattle.std.specs.Str.{bytes_eq}
use Rattle.std.proofs.lemmas.Fmt.{decimal_digit, decimal_injective}
use Rattle.std.proofs.lemmas.Grind.{common_steps}
use Rattle.std.proofs.lemmas.List.{length-take-le, get_or-take, take_all}
use Rattle.std.proofs.lemmas.List.Sums.{position_or_len_is}
use Rattle.std.proofs.lemmas.Slice.Eq.{bytes_eq-Decides}
use Rattle.std.proofs.lemmas.Bool.Decides.{nat_tests}
use Rattle.std.proofs.lemmas.Option.{unwrap_or-slice_get}
use Rattle.std.proofs.lemmas.Bool.{false_from_ne_true}
use Rattle.bunch.specs.declared.name.Name.{Name as NameOf}
use Rattle.delta_lex.specs.Tokens.{Lexeme}
use Rattle.delta_tree.specs.SyntaxTree.{WrittenFunction}
use Rattle.delta_tree.specs.Unplaced.{unplaced_function}
use Rattle.delta_parse.specs.declared.terminal.Terminal.TheVariants.{FunWord, MainWord, TypeWord, LetWord, InWord, CaseWord, OfWord, InlWord, InrWord, NilWord, WaitWord, EpsWord, IfWord, ThenWord, ElseWord, FoldWord, FromWord, WithWord, IntWord, FstWord, SndWord, Open, Close, OpenBrace, CloseBrace, Comma, Semicolon, Colon, Colons, Equals, Arrow, Bar, Bars, Plus, Minus as MinusSign, Times, Slash, Less, Dot, NameToken, OneToken, NumberToken, Other}
use Rattle.delta_parse.specs.Terminals.{Tok}
use Rattle.delta_parse.specs.Plain.{terminal_of, numeral_of, worth_of, value_or_zero, name_of, with_text, with_name, add_name, token_with, numbered, names_from, names_in, grammar_tokens}
use Rattle.delta_parse.specs.Programs.{tree_with}
use Rattle.delta_print.specs.declared.chunk.Chunk.{Chunk}
use Rattle.delta_print.specs.declared.chunk.Chunk.TheVariants.{Fixed, Named, Digits, Minus, TypeStar}
use Rattle.delta_print.specs.Chunks.{chunk_text, name_text}
use Rattle.delta_print.specs.Canonical.{canonical_text}
use Rattle.delta_print.specs.Printable.{chunk_kind, chunk_name, chunk_number, chunk_token, row_tokens, unplaced_token, program_row}
use Rattle.delta_print.specs.ReadingBack.{IsSpelled, AreSpelled, chunk_lexeme_kind, AreLexemesOf, DividesInto, IsNextOf, names_with, AreInOrder, AreDistinct}
use Rattle.delta_print.specs.Laws.{AreProgram, CanonicalIsRead}
use Rattle.delta_print.proofs.SpelledTokens.{number_of-decimal}
use Rattle.delta_print.proofs.Dividing.{program_divides}
use Rattle.delta_print.proofs.DerivedPrograms.{canonical_is_derived}

-- TESTS

same_text : (a b : List ℕ) → a ≡ b → bytes_eq a b ≡ true
same_text a b e = (bytes_eq-Decides a b).1 e

other_text : (a b : List ℕ) → (a ≡ b → ⊥) → bytes_eq a b ≡ false
other_text a b h = false_from_ne_true (bytes_eq a b) (λ e. h ((bytes_eq-Decides a b).0 e))

-- a number's text is `1` where it is 1
numeral_is : (m : ℕ) → m < 2 ^ 63 → numeral_of (decimal m) ≡ (if m == 1 then OneToken else NumberToken)
numeral_is m small = cases (m == 1) refl
  where
    one : decimal 1 ≡ codes "1"
    one = decimal_digit 1 (omega arith)

    cases : (b : Bool) → (m == 1) ≡ b → numeral_of (decimal m) ≡ (if b then OneToken else NumberToken)
    cases true e =
        let is_one : m ≡ 1 = grind (arith, nat_tests) in
        ap (λ b. if b then OneToken else NumberToken) (same_text (decimal m) (codes "1") (ap decimal is_one ∙ one))
    cases false e =
        let never : decimal m ≡ codes "1" → ⊥ = λ h.
        let is_one : m ≡ 1 = decimal_injective m 1 (omega arith) (omega arith) (h ∙ sym one) in
        let yes : (m == 1) ≡ true = grind (arith, nat_tests) in
        cc in
        ap (λ b. if b then OneToken else NumberToken) (other_text (decimal m) (codes "1") never)

-- NAMES

pub name_text-read : (names : List (List ℕ)) (x : ℕ) → x < length names → name_text names x ≡ get_or names x []
name_text-read names x h = unwrap_or-slice_get names x []

pub any_at : (p : List ℕ → Bool) (xs : List (List ℕ)) (i : ℕ) → i < length xs → p (get_or xs i []) ≡ true → list_any p xs ≡ true
any_at p [] i h e = absurd (omega arith)
any_at p (x ∷ xs) zero h e = rw e refl
any_at p (x ∷ xs) (suc i) h e = either_true (p x) (list_any p xs) (any_at p xs i (omega arith) e)
  where
    either_true : (a b : Bool) → b ≡ true → a || b ≡ true
    either_true true b k = refl
    either_true false b k = k

none_at : (p : List ℕ → Bool) (xs : List (List ℕ)) → ((k : ℕ) → k < length xs → p (get_or xs k []) ≡ false) → list_any p xs ≡ false
none_at p [] h = refl
none_at p (x ∷ xs) h = neither (p x) (list_any p xs) (h zero (omega arith)) (none_at p xs (λ k l. h (suc k) (omega arith)))
  where
    neither : (a b : Bool) → a ≡ false → b ≡ false → a || b ≡ false
    neither a b e f = rw e f

-- what a token says beside its place, behind so many names
pub record StepIs (names : List (List ℕ)) (n : ℕ) (c : Chunk) : Type 0 where
  pub terminal : terminal_of (chunk_lexeme_kind c) (chunk_text names c) ≡ chunk_kind c
  pub name : name_of (take n names) (chunk_lexeme_kind c) (chunk_text names c) ≡ chunk_name c
  pub number : worth_of (chunk_lexeme_kind c) (chunk_text names c) ≡ chunk_number c
  pub next : with_name (take n names) (chunk_lexeme_kind c) (chunk_text names c) ≡ take (names_with n c) names
  pub within : names_with n c ≤ length names

-- the names before one are others
before_other : (names : List (List ℕ)) (n x k : ℕ) → AreDistinct names → x < length names → k < x → k < n → bytes_eq (name_text names x) (get_or (take n names) k []) ≡ false
before_other names n x k d h below inside =
    let read : get_or (take n names) k [] ≡ name_text names k = get_or-take n names k [] inside ∙ sym (name_text-read names k (omega arith)) in
    rw read (other_text (name_text names x) (name_text names k) (λ e. d k x below h (sym e)))

at_itself : (names : List (List ℕ)) (n x : ℕ) → x < length names → x < n → bytes_eq (name_text names x) (get_or (take n names) x []) ≡ true
at_itself names n x h inside =
    let read : get_or (take n names) x [] ≡ name_text names x = get_or-take n names x [] inside ∙ sym (name_text-read names x h) in
    same_text (name_text names x) (get_or (take n names) x []) (sym read)

place_is : (names : List (List ℕ)) (n x : ℕ) → AreDistinct names → x < length names → x ≤ n → n ≤ length names → position_or_len (bytes_eq (name_text names x)) (take n names) ≡ x
place_is names n x d h le w =
    let long : length (take n names) ≡ n = length-take-le n names w in
    position_or_len_is (bytes_eq (name_text names x)) (take n names) x [] (omega arith) (λ k below. before_other names n x k d h below (omega arith)) (λ inside. at_itself names n x h (omega arith))

new_name : (names : List (List ℕ)) (x : ℕ) → AreDistinct names → x < length names → with_text (take x names) (name_text names x) ≡ take (x + 1) names
new_name names x d h =
    let long : length (take x names) ≡ x = length-take-le x names (omega arith) in
    let none : list_any (bytes_eq (name_text names x)) (take x names) ≡ false = none_at _ (take x names) (λ k below. before_other names x x k d h (omega arith) (omega arith)) in
    let more : take (x + 1) names ≡ take x names ++ get_or names x [] ∷ [] = grind (arith, common_steps) in
    rw (none, more, name_text-read names x h) refl

old_name : (names : List (List ℕ)) (n x : ℕ) → x < length names → x < n → n ≤ length names → with_text (take n names) (name_text names x) ≡ take n names
old_name names n x h inside w =
    let long : length (take n names) ≡ n = length-take-le n names w in
    let found : list_any (bytes_eq (name_text names x)) (take n names) ≡ true = any_at _ (take n names) x (omega arith) (at_itself names n x h inside) in
    rw found refl

name_step : (names : List (List ℕ)) (n : ℕ) (x : NameOf) → AreDistinct names → x.0 < length names → x.0 ≤ n → n ≤ length names → StepIs names n (Named x)
name_step names n x d h le w = cases (x.0 == n) refl
  where
    ended : (b : Bool) → (x.0 == n) ≡ b → with_text (take n names) (name_text names x.0) ≡ take (if b then n + 1 else n) names
    ended true e =
        let same : x.0 ≡ n = grind (arith, nat_tests) in
        subst (λ (k : ℕ). with_text (take k names) (name_text names x.0) ≡ take (k + 1) names) same (new_name names x.0 d h)
    ended false e =
        let below : x.0 < n = grind (arith, nat_tests) in
        old_name names n x.0 h below w

    fits : (b : Bool) → (x.0 == n) ≡ b → (if b then n + 1 else n) ≤ length names
    fits true e =
        let same : x.0 ≡ n = grind (arith, nat_tests) in omega arith
    fits false e = w

    cases : (b : Bool) → (x.0 == n) ≡ b → StepIs names n (Named x)
    cases b e = record { terminal = refl; name = place_is names n x.0 d h le w; number = refl; next = ended (x.0 == n) refl; within = fits (x.0 == n) refl }

-- each token
step_is : (names : List (List ℕ)) (n : ℕ) (c : Chunk) → IsSpelled names c → IsNextOf n c → AreDistinct names → n ≤ length names → StepIs names n c
step_is names n (Fixed FunWord) s o d w = record { terminal = refl; name = refl; number = refl; next = refl; within = w }
step_is names n (Fixed MainWord) s o d w = record { terminal = refl; name = refl; number = refl; next = refl; within = w }
step_is names n (Fixed TypeWord) s o d w = record { terminal = refl; name = refl; number = refl; next = refl; within = w }
step_is names n (Fixed LetWord) s o d w = record { terminal = refl; name = refl; number = refl; next = refl; within = w }
step_is names n (Fixed InWord) s o d w = record { terminal = refl; name = refl; number = refl; next = refl; within = w }
step_is names n (Fixed CaseWord) s o d w = record { terminal = refl; name = refl; number = refl; next = refl; within = w }
step_is names n (Fixed OfWord) s o d w = record { terminal = refl; name = refl; number = refl; next = refl; within = w }
step_is names n (Fixed InlWord) s o d w = record { terminal = refl; name = refl; number = refl; next = refl; within = w }
step_is names n (Fixed InrWord) s o d w = record { terminal = refl; name = refl; number = refl; next = refl; within = w }
step_is names n (Fixed NilWord) s o d w = record { terminal = refl; name = refl; number = refl; next = refl; within = w }
step_is names n (Fixed WaitWord) s o d w = record { terminal = refl; name = refl; number = refl; next = refl; within = w }
step_is names n (Fixed EpsWord) s o d w = record { terminal = refl; name = refl; number = refl; next = refl; within = w }
step_is names n (Fixed IfWord) s o d w = record { terminal = refl; name = refl; number = refl; next = refl; within = w }
step_is names n (Fixed ThenWord) s o d w = record { terminal = refl; name = refl; number = refl; next = refl; within = w }
step_is names n (Fixed ElseWord) s o d w = record { terminal = refl; name = refl; number = refl; next = refl; within = w }
step_is names n (Fixed FoldWord) s o d w = record { terminal = refl; name = refl; number = refl; next = refl; within = w }
step_is names n (Fixed FromWord) s o d w = record { terminal = refl; name = refl; number = refl; next = refl; within = w }
step_is names n (Fixed WithWord) s o d w = record { terminal = refl; name = refl; number = refl; next = refl; within = w }
step_is names n (Fixed IntWord) s o d w = record { terminal = refl; name = refl; number = refl; next = refl; within = w }
step_is names n (Fixed FstWord) s o d w = record { terminal = refl; name = refl; number = refl; next = refl; within = w }
step_is names n (Fixed SndWord) s o d w = record { terminal = refl; name = refl; number = refl; next = refl; within = w }
step_is names n (Fixed Open) s o d w = record { terminal = refl; name = refl; number = refl; next = refl; within = w }
step_is names n (Fixed Close) s o d w = record { terminal = refl; name = refl; number = refl; next = refl; within = w }
step_is names n (Fixed OpenBrace) s o d w = record { terminal = refl; name = refl; number = refl; next = refl; within = w }
step_is names n (Fixed CloseBrace) s o d w = record { terminal = refl; name = refl; number = refl; next = refl; within = w }
step_is names n (Fixed Comma) s o d w = record { terminal = refl; name = refl; number = refl; next = refl; within = w }
step_is names n (Fixed Semicolon) s o d w = record { terminal = refl; name = refl; number = refl; next = refl; within = w }
step_is names n (Fixed Colon) s o d w = record { terminal = refl; name = refl; number = refl; next = refl; within = w }
step_is names n (Fixed Colons) s o d w = record { terminal = refl; name = refl; number = refl; next = refl; within = w }
step_is names n (Fixed Equals) s o d w = record { terminal = refl; name = refl; number = refl; next = refl; within = w }
step_is names n (Fixed Arrow) s o d w = record { terminal = refl; name = refl; number = refl; next = refl; within = w }
step_is names n (Fixed Bar) s o d w = record { terminal = refl; name = refl; number = refl; next = refl; within = w }
step_is names n (Fixed Bars) s o d w = record { terminal = refl; name = refl; number = refl; next = refl; within = w }
step_is names n (Fixed Plus) s o d w = record { terminal = refl; name = refl; number = refl; next = refl; within = w }
step_is names n (Fixed MinusSign) s o d w = record { terminal = refl; name = refl; number = refl; next = refl; within = w }
step_is names n (Fixed Times) s o d w = record { terminal = refl; name = refl; number = refl; next = refl; within = w }
step_is names n (Fixed Slash) s o d w = record { terminal = refl; name = refl; number = refl; next = refl; within = w }
step_is names n (Fixed Less) s o d w = record { terminal = refl; name = refl; number = refl; next = refl; within = w }
step_is names n (Fixed Dot) s o d w = record { terminal = refl; name = refl; number = refl; next = refl; within = w }
step_is names n (Fixed OneToken) s o d w = record { terminal = refl; name = refl; number = refl; next = refl; within = w }
step_is names n (Fixed NameToken) s o d w = absurd (cc s)
step_is names n (Fixed NumberToken) s o d w = absurd (cc s)
step_is names n (Fixed Other) s o d w = absurd (cc s)
step_is names n (Named x) s o d w = name_step names n x d s.0 o w
step_is names n (Digits m) s o d w = record { terminal = numeral_is m s; name = refl; number = ap value_or_zero (number_of-decimal m s); next = refl; within = w }
step_is names n Minus s o d w = record { terminal = refl; name = refl; number = refl; next = refl; within = w }
step_is names n TypeStar s o d w = record { terminal = refl; name = refl; number = refl; next = refl; within = w }

-- a row's tokens, and the names behind it
pub record AreNumbered (names : List (List ℕ)) (n : ℕ) (row : List Chunk) (ls : List Lexeme) : Type 0 where
  pub tokens : map unplaced_token (numbered (take n names) ls) ≡ row_tokens row
  pub all : names_from (take n names) ls ≡ names

pub are_numbered : (names : List (List ℕ)) (n : ℕ) (row : List Chunk) (ls : List Lexeme) → AreDistinct names → n ≤ length names → AreSpelled names row → AreInOrder (length names) n row → AreLexemesOf names row ls
    → AreNumbered names n row ls
are_numbered names n [] [] d w s o a = record { tokens = refl; all = take_all n names (omega arith) }
are_numbered names n [] (l ∷ ls) d w s o a = absurd a
are_numbered names n (c ∷ row) [] d w s o a = absurd a
are_numbered names n (c ∷ row) (l ∷ ls) d w s o a =
    let k : StepIs names n c = step_is names n c s.0 o.0 d w in
    let rest : AreNumbered names (names_with n c) row ls = are_numbered names (names_with n c) row ls d k.within s.1 o.1 a.1.1 in
    let kind_is : l.kind ≡ chunk_lexeme_kind c = a.0 in
    let text_is : l.text ≡ chunk_text names c = a.1.0 in
    let next : add_name (take n names) l ≡ take (names_with n c) names = rw (kind_is, text_is) k.next in
    let token : unplaced_token (token_with (take n names) l) ≡ chunk_token c = rw (kind_is, text_is, k.terminal, k.name, k.number) refl in record {
      tokens = ap₂ (λ (t : Tok) (ts : List Tok). t ∷ ts) token (ap (λ seen. map unplaced_token (numbered seen ls)) next ∙ rest.tokens);
      all = ap (λ seen. names_from seen ls) next ∙ rest.all;
    }

-- the whole text
pub canonical_is_read : CanonicalIsRead
canonical_is_read p h =
    let k : DividesInto p.names (canonical_text p) (program_row p) 0 = program_divides p h.spelled 0 in
    let m : AreNumbered p.names 0 (program_row p) k.tokens = are_numbered p.names 0 (program_row p) k.tokens h.distinct (omega arith) h.spelled h.ordered k.are in
    let g : AreProgram (grammar_tokens k.tokens) p = canonical_is_derived p h.made (grammar_tokens k.tokens) m.tokens in
    let names : names_in k.tokens ≡ p.names = m.all in
    let renamed : ℕ → WrittenFunction → WrittenFunction = λ n f. record f { name = n } in
    let main_is : unplaced_function (tree_with (names_in k.tokens) g.found g.main).main ≡ unplaced_function p.main =
    ap (renamed (length (names_in k.tokens))) g.same_main ∙ ap (λ n. renamed n (unplaced_function p.main)) (ap length names ∙ sym h.main) in record {
      tokens = k.tokens;
      tree = tree_with (names_in k.tokens) g.found g.main;
      divides = k.divides;
      is_tree = record { found = g.found; main = g.main; program = g.program; is = refl };
      same = cc (names, g.same_declarations, main_is);
    }
