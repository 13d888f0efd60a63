-- The text of each token is one token, wherever it stands before what can't go on with it.
use Rattle.std.proofs.Common.{◌≡◌, ℕ, Bool, true, false, ◌&&◌, ◌||◌, List, [], ◌∷◌, ◌++◌, refl, ap, subst, ◌∙◌, arith, ◌⊎◌, inl, inr}
use Rattle.std.specs.Prelude.{◌==◌, ⊤}
use Rattle.std.specs.List.{list_all}
use Rattle.std.proofs.lemmas.Bool.{and_parts}
use Rattle.unicode_ident.proofs.Computing.{unicode_ident}
use Rattle.delta_lex.specs.declared.token.Kind.{Kind}
use Rattle.delta_lex.specs.declared.token.Kind.TheVariants.{Name, Word, Number, Sign}
use Rattle.unicode_ident.specs.Ident.{is_xid_continue}
use Rattle.delta_lex.specs.Characters.{starts_name, is_digit}
use Rattle.delta_lex.specs.Pieces.{begins_with}
use Rattle.delta_lex.specs.Shapes.{has_shape}
use Rattle.delta_lex.specs.Division.{begins_comment, IsTokenBefore}
use Rattle.delta_lex.proofs.Longest.{no_name, sign_other}

-- a character that goes on with no name, no number and no sign, and begins no comment
pub record IsApart (d : ℕ) : Type 0 where
  pub letters : is_xid_continue d ≡ false
  pub digits : is_digit d ≡ false
  pub pairs : d == 58 || (d == 62 || d == 124) ≡ false
  pub slash : d == 47 ≡ false

-- it stands first, or nothing does
abbrev pub BeginsApart : List ℕ → Type 0
BeginsApart [] = ⊤
BeginsApart (d ∷ ds) = IsApart d

pub space_apart : IsApart 32
unfolding unicode_ident
space_apart = record { letters = refl; digits = refl; pairs = refl; slash = refl }

pub feed_apart : IsApart 10
unfolding unicode_ident
feed_apart = record { letters = refl; digits = refl; pairs = refl; slash = refl }

pub close_apart : IsApart 41
unfolding unicode_ident
close_apart = record { letters = refl; digits = refl; pairs = refl; slash = refl }

pub star_apart : IsApart 42
unfolding unicode_ident
star_apart = record { letters = refl; digits = refl; pairs = refl; slash = refl }

pub comma_apart : IsApart 44
unfolding unicode_ident
comma_apart = record { letters = refl; digits = refl; pairs = refl; slash = refl }

pub semicolon_apart : IsApart 59
unfolding unicode_ident
semicolon_apart = record { letters = refl; digits = refl; pairs = refl; slash = refl }

passes_inside : (p : ℕ → Bool) (w more : List ℕ) (d : ℕ) → list_all p (w ++ d ∷ more) ≡ true → p d ≡ true
passes_inside p [] more d h = (and_parts (p d) (list_all p more) h).0
passes_inside p (c ∷ w) more d h = passes_inside p w more d (and_parts (p c) (list_all p (w ++ d ∷ more)) h).1

-- the second of two characters that are one sign
second_of_three : (a b c x y z : Bool) → (a && x) || ((b && y) || (c && z)) ≡ true → x || (y || z) ≡ true
second_of_three a b c x y z h = grind arith

no_third : (c e d : ℕ) (w more : List ℕ) → has_shape Sign (c ∷ e ∷ (w ++ d ∷ more)) ≡ true → ⊥
no_third c e d [] more h = cc h
no_third c e d (x ∷ w) more h = cc h

no_sign : (c d : ℕ) (more : List ℕ) → IsApart d → has_shape Sign (c ∷ d ∷ more) ≡ true → ⊥
no_sign c d [] a h = let e : d == 58 || (d == 62 || d == 124) ≡ true = second_of_three (c == 58) (c == 61) (c == 124) (d == 58) (d == 62) (d == 124) h in cc (a.pairs, e)
no_sign c d (e ∷ more) a h = cc h

-- nothing longer has a shape
none_longer : (k : Kind) (c d : ℕ) (w more : List ℕ) → IsApart d → has_shape k (c ∷ (w ++ d ∷ more)) ≡ true → ⊥
none_longer Name c d w more a h =
    let e : is_xid_continue d ≡ true = passes_inside is_xid_continue w more d (and_parts (starts_name c) (list_all is_xid_continue (w ++ d ∷ more)) h).1 in cc (a.letters, e)
none_longer Word c d w more a h = cc h
none_longer Number c d w more a h =
    let e : is_digit d ≡ true = passes_inside is_digit w more d (and_parts (is_digit c) (list_all is_digit (w ++ d ∷ more)) h).1 in cc (a.digits, e)
none_longer Sign c d [] more a h = no_sign c d more a h
none_longer Sign c d (e ∷ w) more a h = no_third c e d w more h

longest_apart : (c : ℕ) (w rest : List ℕ) → BeginsApart rest → (k : Kind) (more behind : List ℕ) → rest ≡ more ++ behind → has_shape k ((c ∷ w) ++ more) ≡ true → more ≡ []
longest_apart c w rest a k [] behind e h = refl
longest_apart c w [] a k (d ∷ more) behind e h = absurd (cc e)
longest_apart c w (x ∷ rest) a k (d ∷ more) behind e h =
    let same : x ≡ d = cc e in
    absurd (none_longer k c d w more (subst IsApart same a) h)

no_comment_apart : (c : ℕ) (w rest : List ℕ) → ((c == 47) ≡ false) ⊎ (w ≡ []) → BeginsApart rest → begins_comment ((c ∷ w) ++ rest) ≡ false
no_comment_apart c w rest (inl h) a = ap (λ b. b && begins_with 47 (w ++ rest)) h
no_comment_apart c [] [] (inr h) a = and_false (c == 47)
  where
    and_false : (b : Bool) → b && false ≡ false
    and_false true = refl
    and_false false = refl
no_comment_apart c [] (d ∷ rest) (inr h) a = ap (λ b. (c == 47) && b) a.slash ∙ and_false (c == 47)
  where
    and_false : (b : Bool) → b && false ≡ false
    and_false true = refl
    and_false false = refl
no_comment_apart c (e ∷ w) rest (inr h) a = absurd (cc h)

-- a token before what is apart
pub token_apart : (kind : Kind) (c : ℕ) (w rest : List ℕ) → has_shape kind (c ∷ w) ≡ true → ((c == 47) ≡ false) ⊎ (w ≡ []) → BeginsApart rest → IsTokenBefore kind (c ∷ w) rest
token_apart kind c w rest h s a = record { shape = h; longest = longest_apart c w rest a; no_comment = no_comment_apart c w rest s a }

-- an opening bracket and a minus stand before anything
open_longest : (rest : List ℕ) (k : Kind) (more behind : List ℕ) → rest ≡ more ++ behind → has_shape k (40 ∷ more) ≡ true → more ≡ []
open_longest rest k [] behind e h = refl
open_longest rest Name (d ∷ more) behind e h = absurd (no_name 40 (sign_other 40 refl) (and_parts (starts_name 40) (list_all is_xid_continue (d ∷ more)) h).0)
open_longest rest Word (d ∷ more) behind e h = absurd (cc h)
open_longest rest Number (d ∷ more) behind e h = absurd (cc h)
open_longest rest Sign (d ∷ []) behind e h = absurd (cc h)
open_longest rest Sign (d ∷ x ∷ more) behind e h = absurd (cc h)

minus_longest : (rest : List ℕ) (k : Kind) (more behind : List ℕ) → rest ≡ more ++ behind → has_shape k (45 ∷ more) ≡ true → more ≡ []
minus_longest rest k [] behind e h = refl
minus_longest rest Name (d ∷ more) behind e h = absurd (no_name 45 (sign_other 45 refl) (and_parts (starts_name 45) (list_all is_xid_continue (d ∷ more)) h).0)
minus_longest rest Word (d ∷ more) behind e h = absurd (cc h)
minus_longest rest Number (d ∷ more) behind e h = absurd (cc h)
minus_longest rest Sign (d ∷ []) behind e h = absurd (cc h)
minus_longest rest Sign (d ∷ x ∷ more) behind e h = absurd (cc h)

pub open_token : (rest : List ℕ) → IsTokenBefore Sign (40 ∷ []) rest
open_token rest = record { shape = refl; longest = open_longest rest; no_comment = refl }

pub minus_token : (rest : List ℕ) → IsTokenBefore Sign (45 ∷ []) rest
minus_token rest = record { shape = refl; longest = minus_longest rest; no_comment = refl }
