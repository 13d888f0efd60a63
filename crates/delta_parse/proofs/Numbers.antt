-- The numbers of names, token by token, and the places of tokens.
use Rattle.std.proofs.Common.{◌≡◌, ◌∙◌, ℕ, zero, suc, ◌+◌, ◌-◌, ◌<◌, ◌≤◌, Bool, true, false, List, [], ◌∷◌, ◌++◌, refl, sym, ap, length, drop, get_or, arith, append_assoc, append-nil, cond, add-one, length-append, drop-cons}
use Rattle.std.proofs.lemmas.List.{drop_all}
use Rattle.std.specs.Prelude.{ℤ}
use Rattle.std.specs.List.{list_any}
use Rattle.std.specs.Str.{bytes_eq}
use Rattle.delta_lex.specs.declared.token.Kind.{Kind}
use Rattle.delta_lex.specs.declared.token.Kind.TheVariants.{Name, Word, Number, Sign}
use Rattle.delta_lex.specs.declared.token.Token.{Token}
use Rattle.delta_lex.specs.Tokens.{lexeme_of, lexemes}
use Rattle.delta_parse.specs.declared.terminal.Terminal.{Terminal}
use Rattle.delta_parse.specs.Terminals.{Tok}
use Rattle.delta_parse.specs.Plain.{with_name, add_name, token_with, numbered, names_from, name_of, terminal_of, worth_of}
use Rattle.delta_parse.specs.Places.{place_from, place_at}

-- the tokens from one on
lexemes_from : (ts : List Token) (i : ℕ) (d : Token) → i < length ts → lexemes (drop i ts) ≡ lexeme_of (get_or ts i d) ∷ lexemes (drop (i + 1) ts)
lexemes_from ts i d h = rw (add-one, drop-cons ts i d h) refl

-- a token more
pub numbered_step : (ts : List Token) (i : ℕ) (d : Token) (xs : List Tok) (names more : List (List ℕ)) (p : Tok) (whole : List Tok) → i < length ts
    → p ≡ token_with names (lexeme_of (get_or ts i d)) → more ≡ add_name names (lexeme_of (get_or ts i d)) → xs ++ numbered names (lexemes (drop i ts)) ≡ whole
    → (xs ++ (p ∷ [])) ++ numbered more (lexemes (drop (i + 1) ts)) ≡ whole
numbered_step ts i d xs names more p whole h e g w =
    let a : numbered names (lexemes (drop i ts)) ≡ token_with names (lexeme_of (get_or ts i d)) ∷ numbered (add_name names (lexeme_of (get_or ts i d))) (lexemes (drop (i + 1) ts)) = ap (numbered names) (lexemes_from ts i d h) in
    append_assoc xs (p ∷ []) (numbered more (lexemes (drop (i + 1) ts)))
    ∙ ap (λ q. xs ++ (q ∷ numbered more (lexemes (drop (i + 1) ts)))) e
    ∙ ap (λ q. xs ++ (token_with names (lexeme_of (get_or ts i d)) ∷ numbered q (lexemes (drop (i + 1) ts)))) g
    ∙ ap (λ q. xs ++ q) (sym a) ∙ w

pub names_step : (ts : List Token) (i : ℕ) (d : Token) (names more : List (List ℕ)) (whole : List (List ℕ)) → i < length ts → more ≡ add_name names (lexeme_of (get_or ts i d)) → names_from names (lexemes (drop i ts)) ≡ whole
    → names_from more (lexemes (drop (i + 1) ts)) ≡ whole
names_step ts i d names more whole h g w =
    ap (λ q. names_from q (lexemes (drop (i + 1) ts))) g ∙ sym (ap (names_from names) (lexemes_from ts i d h)) ∙ w

pub few_step : (names : List (List ℕ)) (k : Kind) (text : List ℕ) → length (with_name names k text) ≤ length names + 1
few_step names Name text = go (list_any (bytes_eq text) names)
  where
    go : (b : Bool) → length (cond b names (names ++ (text ∷ []))) ≤ length names + 1
    go true = omega arith
    go false = omega (arith, length-append names (text ∷ []))
few_step names Word text = omega arith
few_step names Number text = omega arith
few_step names Sign text = omega arith

-- where no token is left
pub numbered_end : (ts : List Token) (i : ℕ) (xs : List Tok) (names : List (List ℕ)) (whole : List Tok) → length ts ≤ i → xs ++ numbered names (lexemes (drop i ts)) ≡ whole → xs ≡ whole
numbered_end ts i xs names whole h w = sym (append-nil xs) ∙ sym (ap (λ us. xs ++ numbered names (lexemes us)) (drop_all i ts h)) ∙ w

pub names_end : (ts : List Token) (i : ℕ) (names whole : List (List ℕ)) → length ts ≤ i → names_from names (lexemes (drop i ts)) ≡ whole → names ≡ whole
names_end ts i names whole h w = sym (ap (λ us. names_from names (lexemes us)) (drop_all i ts h)) ∙ w

-- the place of a token, and that of the end
pub place_inside : (end : ℕ) (ts : List Token) (n : ℕ) (d : Token) → n < length ts → place_from end (lexemes ts) n ≡ (get_or ts n d).at
place_inside end [] n d h = absurd (omega arith)
place_inside end (t ∷ ts) zero d h = refl
place_inside end (t ∷ ts) (suc n) d h = place_inside (t.at + length t.text.now) ts n d (omega arith)

pub place_past : (end : ℕ) (t : Token) (ts : List Token) (n : ℕ) (d : Token) → length (t ∷ ts) ≤ n
    → place_from end (lexemes (t ∷ ts)) n ≡ (get_or (t ∷ ts) (length ts) d).at + length (get_or (t ∷ ts) (length ts) d).text.now
place_past end t ts zero d h = absurd (omega arith)
place_past end t [] (suc zero) d h = refl
place_past end t [] (suc (suc n)) d h = refl
place_past end t (u ∷ ts) (suc n) d h = place_past (t.at + length t.text.now) u ts n d (omega arith)

pub place_last : (ts : List Token) (n : ℕ) (d : Token) → (length ts ≡ 0 → ⊥) → length ts ≤ n
    → place_at (lexemes ts) n ≡ (get_or ts (length ts - 1) d).at + length (get_or ts (length ts - 1) d).text.now
place_last [] n d z h = absurd (z refl)
place_last (t ∷ ts) n d z h =
    let e : length (t ∷ ts) - 1 ≡ length ts = omega arith in
    rw e (place_past 0 t ts n d h)

-- a token as the grammar sees it, from its parts
pub token_made : (names : List (List ℕ)) (t : Token) (k : Terminal) (name : ℕ) (number : ℤ) → k ≡ terminal_of t.kind t.text.now → name ≡ name_of names t.kind t.text.now → number ≡ worth_of t.kind t.text.now
    → record { kind = k; at = t.at; worth = record { name = name; number = number } } ≡ token_with names (lexeme_of t)
token_made names t k name number e g h = rw (e, g, h) refl

pub few_after : (names more : List (List ℕ)) (k : Kind) (text : List ℕ) → more ≡ with_name names k text → length more ≤ length names + 1
few_after names more k text e = rw e (few_step names k text)
