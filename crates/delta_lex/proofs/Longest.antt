-- The piece at the front of characters is the longest token that stands there.
use Rattle.std.proofs.Common.{◌≡◌, ℕ, ◌+◌, ◌<◌, ◌≤◌, Bool, true, false, not, cond, ◌&&◌, ◌||◌, List, [], ◌∷◌, length, take, zero, suc, sym, ap, subst, ◌∙◌, refl, arith, ◌⊎◌, inl, inr}
use Rattle.std.specs.Prelude.{nat_lt, if◌then◌else◌, ◌==◌}
use Rattle.std.specs.List.{list_all, list_any, prefix_len}
use Rattle.std.specs.Char.{is_ascii_alphabetic}
use Rattle.std.proofs.lemmas.Bool.Decides.{nat_tests}
use Rattle.unicode_ident.proofs.IdentLemmas.{is_xid_start-ascii}
use Rattle.delta_lex.specs.declared.token.Kind.TheVariants.{Name, Word, Number, Sign}
use Rattle.delta_lex.specs.declared.piece.Piece.TheVariants.{Gap, Solid, Stray}
use Rattle.delta_lex.specs.declared.character.Run.TheVariants.{Letters, Digits, Comment}
use Rattle.delta_lex.specs.Characters.{is_separator, starts_name, is_digit, is_sign, signs, goes_on}
use Rattle.delta_lex.specs.Pieces.{begins_with, joins, piece_of}
use Rattle.std.proofs.lemmas.List.Sums.{prefix_len-le-length}
use Rattle.std.proofs.lemmas.Bool.{and_parts, both_ways}
use Rattle.delta_lex.proofs.Runs.{one_add}
use Rattle.delta_lex.specs.Shapes.{has_shape, NoneLonger, StartsNone, IsLongest}

-- a test of each number below a bound
abbrev all_below : (ℕ → Bool) → ℕ → Bool
all_below p zero = true
all_below p (suc n) = p n && all_below p n

here_or_below : (c n : ℕ) → c < suc n → (c ≡ n) ⊎ (c < n)
here_or_below c n h = grind arith

below_passes : (p : ℕ → Bool) (n c : ℕ) → all_below p n ≡ true → c < n → p c ≡ true
below_passes p zero c h low = absurd (omega arith)
below_passes p (suc n) c h low =
    let parts = and_parts (p n) (all_below p n) h in
    elim (here_or_below c n low) [
      | inl e ↦ subst (λ (k : ℕ). p k ≡ true) (sym e) parts.0
      | inr less ↦ below_passes p n c parts.1 less
    ]

small_number : (x : ℕ) → nat_lt x 128 ≡ true → x < 128
small_number x h = grind (arith, nat_tests)

pub number_is : (d k : ℕ) → (d == k) ≡ true → d ≡ k
number_is d k h = grind (arith, nat_tests)

any_step : (b : Bool) (x c : ℕ) (xs : List ℕ) → (x == c) ≡ b → nat_lt x 128 ≡ true → (b || list_any (λ y. y == c) xs) ≡ true
    → (list_any (λ y. y == c) xs ≡ true → c < 128) → c < 128
any_step true x c xs e small h rest = subst (λ (k : ℕ). k < 128) (number_is x c e) (small_number x small)
any_step false x c xs e small h rest = rest h

-- a number in a list of numbers that are all ASCII
any_below : (xs : List ℕ) (c : ℕ) → list_all (λ x. nat_lt x 128) xs ≡ true → list_any (λ x. x == c) xs ≡ true → c < 128
any_below [] c small h = cc
any_below (x ∷ xs) c small h =
    let parts = and_parts (nat_lt x 128) (list_all (λ y. nat_lt y 128) xs) small in
    any_step (x == c) x c xs refl parts.0 h (any_below xs c parts.1)

-- no name starts with a digit, a sign or a separator
abbrev other : ℕ → Bool
other c = is_digit c || (is_sign c || is_separator c)

sign_below : (c : ℕ) → is_sign c ≡ true → c < 128
sign_below c h = any_below signs c refl h

other_step : (b : Bool) (c : ℕ) → is_sign c ≡ b → (is_digit c || (b || is_separator c)) ≡ true → c < 128
other_step true c e h = sign_below c e
other_step false c e h = grind (arith, nat_tests)

other_below : (c : ℕ) → other c ≡ true → c < 128
other_below c h = other_step (is_sign c) c refl h

apart : (c : ℕ) → c < 128 → (not (other c) || not (c == 95 || is_ascii_alphabetic c)) ≡ true
apart c h = below_passes (λ n. not (other n) || not (n == 95 || is_ascii_alphabetic n)) 128 c refl h

starts_ascii : (c : ℕ) → c < 128 → starts_name c ≡ (c == 95 || is_ascii_alphabetic c)
starts_ascii c h = ap (λ b. c == 95 || b) (is_xid_start-ascii c h)

refuted : (a b : Bool) → (not a || not b) ≡ true → a ≡ true → b ≡ true → ⊥
refuted a b h e k = grind arith

pub no_name : (c : ℕ) → other c ≡ true → starts_name c ≡ true → ⊥
no_name c h s =
    let low = other_below c h in
    refuted (other c) (c == 95 || is_ascii_alphabetic c) (apart c low) h (sym (starts_ascii c low) ∙ s)

digit_other : (c : ℕ) → is_digit c ≡ true → other c ≡ true
digit_other c h = ap (λ b. b || (is_sign c || is_separator c)) h

or_true : (a : Bool) → (a || true) ≡ true
or_true true = refl
or_true false = refl

pub sign_other : (c : ℕ) → is_sign c ≡ true → other c ≡ true
sign_other c h = ap (λ b. is_digit c || (b || is_separator c)) h ∙ or_true (is_digit c)

separator_other : (c : ℕ) → is_separator c ≡ true → other c ≡ true
separator_other c h = ap (λ b. is_digit c || (is_sign c || b)) h ∙ ap (λ b. is_digit c || b) (or_true (is_sign c)) ∙ or_true (is_digit c)

-- no sign is a digit, and no separator is one of them
pub digit_no_sign : (c : ℕ) → is_digit c ≡ true → is_sign c ≡ true → ⊥
digit_no_sign c h k =
    refuted (is_digit c) (is_sign c) (below_passes (λ n. not (is_digit n) || not (is_sign n)) 128 c refl (sign_below c k)) h k

separator_no_digit : (c : ℕ) → is_separator c ≡ true → is_digit c ≡ true → ⊥
separator_no_digit c h k =
    refuted (is_separator c) (is_digit c) (below_passes (λ n. not (is_separator n) || not (is_digit n)) 128 c refl (other_below c (digit_other c k))) h k

separator_no_sign : (c : ℕ) → is_separator c ≡ true → is_sign c ≡ true → ⊥
separator_no_sign c h k =
    refuted (is_separator c) (is_sign c) (below_passes (λ n. not (is_separator n) || not (is_sign n)) 128 c refl (sign_below c k)) h k

first_of_three : (a b c d e f : Bool) → ((a && b) || ((c && d) || (e && f))) ≡ true → (a ≡ true) ⊎ ((c ≡ true) ⊎ (e ≡ true))
first_of_three a b c d e f h = grind arith

-- the first of two characters that are one sign is a sign
joins_sign : (c : ℕ) (cs : List ℕ) → joins c cs ≡ true → is_sign c ≡ true
joins_sign c cs h =
    elim (first_of_three (c == 58) (begins_with 58 cs) (c == 61) (begins_with 62 cs) (c == 124) (begins_with 124 cs) h) [
      | inl e ↦ subst (λ (k : ℕ). is_sign k ≡ true) (sym (number_is c 58 e)) refl
      | inr (inl e) ↦ subst (λ (k : ℕ). is_sign k ≡ true) (sym (number_is c 61 e)) refl
      | inr (inr e) ↦ subst (λ (k : ℕ). is_sign k ≡ true) (sym (number_is c 124 e)) refl
    ]

-- what the first character of each shape is
first_of_sign : (c : ℕ) (ds : List ℕ) → has_shape Sign (c ∷ ds) ≡ true → is_sign c ≡ true
first_of_sign c [] h = h
first_of_sign c (d ∷ []) h = joins_sign c (d ∷ []) h
first_of_sign c (d ∷ e ∷ ds) h = cc

first_of_name : (c : ℕ) (ds : List ℕ) → has_shape Name (c ∷ ds) ≡ true → starts_name c ≡ true
first_of_name c ds h = (and_parts (starts_name c) (list_all (goes_on Letters) ds) h).0

first_of_number : (c : ℕ) (ds : List ℕ) → has_shape Number (c ∷ ds) ≡ true → is_digit c ≡ true
first_of_number c ds h = (and_parts (is_digit c) (list_all (goes_on Digits) ds) h).0

-- no token starts where no name, number or sign does
none_starts : (c : ℕ) (cs : List ℕ) → (starts_name c ≡ true → ⊥) → (is_digit c ≡ true → ⊥) → (is_sign c ≡ true → ⊥) → StartsNone c cs
none_starts c cs n d s Name m within h = n (first_of_name c (take m cs) h)
none_starts c cs n d s Word m within h = cc
none_starts c cs n d s Number m within h = d (first_of_number c (take m cs) h)
none_starts c cs n d s Sign m within h = s (first_of_sign c (take m cs) h)

-- the front that passes a test is the longest that does
run_passes_step : (p : ℕ → Bool) (b : Bool) (c : ℕ) (cs : List ℕ) → p c ≡ b → list_all p (take (prefix_len p cs) cs) ≡ true
    → list_all p (take (cond b (1 + prefix_len p cs) 0) (c ∷ cs)) ≡ true
run_passes_step p true c cs e h = rw one_add (ap (λ b. b && list_all p (take (prefix_len p cs) cs)) e ∙ h)
run_passes_step p false c cs e h = refl

pub run_passes : (p : ℕ → Bool) (cs : List ℕ) → list_all p (take (prefix_len p cs) cs) ≡ true
run_passes p [] = refl
run_passes p (c ∷ cs) = run_passes_step p (p c) c cs refl (run_passes p cs)

pub run_within : (p : ℕ → Bool) (cs : List ℕ) → prefix_len p cs ≤ length cs
run_within p cs = prefix_len-le-length p cs

run_longest : (p : ℕ → Bool) (cs : List ℕ) (m : ℕ) → m ≤ length cs → list_all p (take m cs) ≡ true → m ≤ prefix_len p cs
run_longest p cs zero within h = omega arith
run_longest p [] (suc m) within h = absurd (omega arith)
run_longest p (c ∷ cs) (suc m) within h =
    let parts = and_parts (p c) (list_all p (take m cs)) h in
    let deeper : m ≤ prefix_len p cs = run_longest p cs m (omega arith) parts.1 in
    subst (λ (b : Bool). suc m ≤ cond b (1 + prefix_len p cs) 0) (sym parts.0) (omega arith)

name_none_longer : (c : ℕ) (cs : List ℕ) → starts_name c ≡ true → NoneLonger Name (prefix_len (goes_on Letters) cs) c cs
name_none_longer c cs s Name m within h =
    (refl, run_longest (goes_on Letters) cs m within (and_parts (starts_name c) (list_all (goes_on Letters) (take m cs)) h).1)
name_none_longer c cs s Word m within h = cc
name_none_longer c cs s Number m within h = absurd (no_name c (digit_other c (first_of_number c (take m cs) h)) s)
name_none_longer c cs s Sign m within h = absurd (no_name c (sign_other c (first_of_sign c (take m cs) h)) s)

number_none_longer : (c : ℕ) (cs : List ℕ) → (starts_name c ≡ true → ⊥) → is_digit c ≡ true → NoneLonger Number (prefix_len (goes_on Digits) cs) c cs
number_none_longer c cs n d Name m within h = absurd (n (first_of_name c (take m cs) h))
number_none_longer c cs n d Word m within h = cc
number_none_longer c cs n d Number m within h =
    (refl, run_longest (goes_on Digits) cs m within (and_parts (is_digit c) (list_all (goes_on Digits) (take m cs)) h).1)
number_none_longer c cs n d Sign m within h = absurd (digit_no_sign c d (first_of_sign c (take m cs) h))

none_of_three : (a b c : Bool) → ((a && false) || ((b && false) || (c && false))) ≡ true → ⊥
none_of_three a b c h = grind arith

joins_none : (c : ℕ) → joins c [] ≡ true → ⊥
joins_none c h = none_of_three (c == 58) (c == 61) (c == 124) h

-- no sign has three characters
sign_short : (c m : ℕ) (cs : List ℕ) → m ≤ length cs → has_shape Sign (c ∷ take m cs) ≡ true → m ≤ 1
sign_short c zero cs within h = omega arith
sign_short c (suc zero) cs within h = omega arith
sign_short c (suc (suc m)) [] within h = absurd (omega arith)
sign_short c (suc (suc m)) (d ∷ []) within h = absurd (omega arith)
sign_short c (suc (suc m)) (d ∷ e ∷ cs) within h = cc

-- where the character and the next are no sign, a sign has one character
sign_single : (c m : ℕ) (cs : List ℕ) → joins c cs ≡ false → m ≤ length cs → has_shape Sign (c ∷ take m cs) ≡ true → m ≤ 0
sign_single c zero cs j within h = omega arith
sign_single c (suc m) [] j within h = absurd (omega arith)
sign_single c (suc zero) (d ∷ cs) j within h = cc
sign_single c (suc (suc m)) (d ∷ []) j within h = absurd (omega arith)
sign_single c (suc (suc m)) (d ∷ e ∷ cs) j within h = cc

pair_none_longer : (c : ℕ) (cs : List ℕ) → (starts_name c ≡ true → ⊥) → (is_digit c ≡ true → ⊥) → NoneLonger Sign 1 c cs
pair_none_longer c cs n d Name m within h = absurd (n (first_of_name c (take m cs) h))
pair_none_longer c cs n d Word m within h = cc
pair_none_longer c cs n d Number m within h = absurd (d (first_of_number c (take m cs) h))
pair_none_longer c cs n d Sign m within h = (refl, sign_short c m cs within h)

sign_none_longer : (c : ℕ) (cs : List ℕ) → (starts_name c ≡ true → ⊥) → (is_digit c ≡ true → ⊥) → joins c cs ≡ false → NoneLonger Sign 0 c cs
sign_none_longer c cs n d j Name m within h = absurd (n (first_of_name c (take m cs) h))
sign_none_longer c cs n d j Word m within h = cc
sign_none_longer c cs n d j Number m within h = absurd (d (first_of_number c (take m cs) h))
sign_none_longer c cs n d j Sign m within h = (refl, sign_single c m cs j within h)

-- at a name, a number, a sign of two characters and a sign of one
name_longest : (c : ℕ) (cs : List ℕ) → starts_name c ≡ true → IsLongest (Solid Name (prefix_len (goes_on Letters) cs)) c cs
name_longest c cs s = (
  run_within (goes_on Letters) cs,
  (ap (λ b. b && list_all (goes_on Letters) (take (prefix_len (goes_on Letters) cs) cs)) s ∙ run_passes (goes_on Letters) cs, name_none_longer c cs s),
)

number_longest : (c : ℕ) (cs : List ℕ) → (starts_name c ≡ true → ⊥) → is_digit c ≡ true → IsLongest (Solid Number (prefix_len (goes_on Digits) cs)) c cs
number_longest c cs n d = (
  run_within (goes_on Digits) cs,
  (ap (λ b. b && list_all (goes_on Digits) (take (prefix_len (goes_on Digits) cs) cs)) d ∙ run_passes (goes_on Digits) cs, number_none_longer c cs n d),
)

pair_longest : (c : ℕ) (cs : List ℕ) → (starts_name c ≡ true → ⊥) → (is_digit c ≡ true → ⊥) → joins c cs ≡ true → IsLongest (Solid Sign 1) c cs
pair_longest c [] n d j = absurd (joins_none c j)
pair_longest c (e ∷ cs) n d j = (omega arith, (j, pair_none_longer c (e ∷ cs) n d))

sign_longest : (c : ℕ) (cs : List ℕ) → (starts_name c ≡ true → ⊥) → (is_digit c ≡ true → ⊥) → joins c cs ≡ false → is_sign c ≡ true → IsLongest (Solid Sign 0) c cs
sign_longest c cs n d j g = (omega arith, (g, sign_none_longer c cs n d j))

-- the tests in the order in which they are made
chosen : (c : ℕ) (cs : List ℕ) (s n d m j g : Bool) → is_separator c ≡ s → starts_name c ≡ n → is_digit c ≡ d
    → joins c cs ≡ j → is_sign c ≡ g
    → IsLongest (if s then Gap 0 else (if n then Solid Name (prefix_len (goes_on Letters) cs) else (if d then Solid Number (prefix_len (goes_on Digits) cs)
    else (if m then Gap (prefix_len (goes_on Comment) cs) else (if j then Solid Sign 1 else (if g then Solid Sign 0 else Stray)))))) c cs
chosen c cs true n d m j g es en ed ej eg = λ h. none_starts c cs (no_name c (separator_other c h)) (separator_no_digit c h) (separator_no_sign c h)
chosen c cs false true d m j g es en ed ej eg = name_longest c cs en
chosen c cs false false true m j g es en ed ej eg = number_longest c cs (both_ways _ en) ed
chosen c cs false false false true j g es en ed ej eg = λ h. absurd (both_ways _ es h)
chosen c cs false false false false true g es en ed ej eg = pair_longest c cs (both_ways _ en) (both_ways _ ed) ej
chosen c cs false false false false false true es en ed ej eg = sign_longest c cs (both_ways _ en) (both_ways _ ed) ej eg
chosen c cs false false false false false false es en ed ej eg = none_starts c cs (both_ways _ en) (both_ways _ ed) (both_ways _ eg)

pub longest_is_taken : (c : ℕ) (cs : List ℕ) → IsLongest (piece_of c cs) c cs
longest_is_taken c cs = chosen c cs (is_separator c) (starts_name c) (is_digit c) (c == 47 && begins_with 47 cs) (joins c cs) (is_sign c) refl refl refl refl refl
