-- What is put in brackets at a place is derived there in brackets alone.
use Rattle.std.proofs.Common.{◌≡◌, ℕ, true, false, List, [], ◌∷◌, ◌++◌, Option, Some, None, refl, sym, ap, ap₂, subst, ◌∙◌, ◌⊎◌, inl, inr, append-nil, arith}
use Rattle.std.specs.Prelude.{nat_le}
use Rattle.std.proofs.lemmas.Bool.Decides.{nat_tests}
use Rattle.grammar.specs.Rules.{token, thing, pair, option, list, part, both, maybe}
use Rattle.grammar.specs.Grammar.{Derives}
use Rattle.delta_tree.specs.SyntaxTree.{WrittenHist, Head, WrittenType, cat_written, par_written, star_written, Expression}
use Rattle.delta_parse.specs.declared.terminal.Terminal.{Terminal}
use Rattle.delta_parse.specs.declared.terminal.Terminal.TheVariants.{Open, Close, Bars, Dot, Times}
use Rattle.delta_parse.specs.Terminals.{Tok, is_kind}
use Rattle.delta_parse.specs.Parts.{Arms, sum_arms, star_arms, Ending, plain_ending, at_once, in_turn, of_type, expression_thing, ending_thing, an_expression, an_application, an_atom, an_ending, type_thing, a_type, a_par, a_cat, a_star, more_stars, a_base, delta, RuleFor}
use Rattle.delta_parse.specs.Rules.{sign, infix_rule, bracket_rule}
use Rattle.delta_parse.specs.Actions.{atom_from, case_with, ended, ended_at_once, ended_in_turn, ended_of_type, bracketed, nothing_inside, something_inside, more_of, joined, starred, bracketed_type}
use Rattle.delta_parse.specs.Tables.{delta_grammar}
use Rattle.delta_print.specs.declared.place.TypePlace.{TypePlace}
use Rattle.delta_print.specs.declared.place.TypePlace.TheVariants as types
use Rattle.delta_print.specs.Brackets.{expression_bare, type_bare, type_level, type_room}
use Rattle.delta_print.specs.Needed.{InBrackets, TypeBracketsAreNeeded, ExpressionBracketsAreNeeded}
use Rattle.delta_print.proofs.Inverting.{Perhaps, nothing, something, Made, invert}

-- a bracket of a type
bracket_is : (ts : List Tok) (v : WrittenType) → Made {s = pair token (pair (thing type_thing) token)} (thing type_thing) bracketed_type (both (sign Open) (both (part a_type) (sign Close))) ts v → InBrackets a_type ts v
bracket_is ts v m =
    let k = invert m.derived in
    let o = invert k.first in
    let l = invert k.second in
    let c = invert l.second in
    let P : WrittenType → Type 0 = λ x. Derives delta delta_grammar (thing type_thing) (part a_type) l.front x in
    record {
      opening = m.of.0;
      inside = l.front;
      closing = m.of.1.1;
      whole = k.whole ∙ ap₂ (λ (u w : List Tok). u ++ w) o.0 (l.whole ∙ ap (λ (w : List Tok). l.front ++ w) c.0);
      opens = o.1;
      closes = c.1;
      derived = subst P (sym m.is) l.first;
    }

-- a base is bare, or in brackets
base_is : (ts : List Tok) (v : WrittenType) → Derives delta delta_grammar (thing type_thing) (part a_base) ts v → (type_bare types.Star v ≡ true) ⊎ InBrackets a_type ts v
base_is ts v d =
    elim (invert (invert d)) [
      | inl e ↦ (let k = invert e in inl (rw k.is refl))
      | inr f ↦ elim (invert f) [
        | inl e ↦ (let k = invert e in inl (rw k.is refl))
        | inr g ↦ elim (invert g) [
          | inl e ↦ (let k = invert e in inl (rw k.is refl))
          | inr h ↦ elim (invert h) [
            | inl e ↦ (let k = invert e in inl (rw k.is refl))
            | inr e ↦ inr (bracket_is ts v (invert e))
          ]
        ]
      ]
    ]

-- it needs none at this place, or stands in them
abbrev IsBareOr : TypePlace → List Tok → WrittenType → Type 0
IsBareOr spot ts v = (type_bare spot v ≡ true) ⊎ InBrackets a_type ts v

-- no star, where none is read
no_stars : (ts : List Tok) (ss : List Tok) → ss ≡ [] → Derives delta delta_grammar (list token) (part more_stars) ts ss → ts ≡ []
no_stars ts ss none d = cases (invert (invert d))
  where
    cases : Made {s = option (pair token (list token))} (list token) more_of (maybe (both (sign Times) (part more_stars))) ts ss → ts ≡ []
    cases m = perhaps m.of m.is (invert m.derived)
      where
        perhaps : (o : Option (Tok × List Tok)) → ss ≡ more_of o → Perhaps {s = pair token (list token)} (both (sign Times) (part more_stars)) ts o → ts ≡ []
        perhaps o is (nothing none' e) = none'
        perhaps o is (something x e k) = absurd (let full : [] ≡ x.0 ∷ x.1 = sym none ∙ is ∙ ap more_of e in cc)

starred_bare : (at : ℕ) (t : WrittenType) (ss : List Tok) → type_bare types.Star (starred at (star_written at t) ss) ≡ true
starred_bare at t [] = refl
starred_bare at t (s ∷ ss) = starred_bare at (star_written at t) ss

star_cases : (ts front back : List Tok) (at : ℕ) (t v : WrittenType) (ss : List Tok) → v ≡ starred at t ss → ts ≡ front ++ back → Derives delta delta_grammar (thing type_thing) (part a_base) front t
    → Derives delta delta_grammar (list token) (part more_stars) back ss → IsBareOr types.Star ts v
star_cases ts front back at t v [] is whole d e =
    let none : back ≡ [] = no_stars back [] refl e in
    let alone : front ≡ ts = sym (append-nil front) ∙ ap (λ (w : List Tok). front ++ w) (sym none) ∙ sym whole in
    let P : List Tok → Type 0 = λ w. IsBareOr types.Star w t in
    let Q : WrittenType → Type 0 = λ x. IsBareOr types.Star ts x in
    subst Q (sym is) (subst P alone (base_is front t d))
star_cases ts front back at t v (s ∷ ss) is whole d e = inl (rw is (starred_bare at t ss))

star_is : (ts : List Tok) (v : WrittenType) → Derives delta delta_grammar (thing type_thing) (part a_star) ts v → IsBareOr types.Star ts v
star_is ts v d =
    let m = invert (invert d) in
    let k = invert (invert m.derived) in
    star_cases ts k.front k.back m.of.0 m.of.1.0 v m.of.1.1 m.is k.whole k.first k.second

-- a part alone, or two with a sign between them
infix_cases : (spot : TypePlace) (left : RuleFor (thing type_thing)) (right : RuleFor (pair token (thing type_thing))) (form : ℕ → WrittenType → WrittenType → WrittenType)
    → ((at : ℕ) (l r : WrittenType) → type_bare spot (form at l r) ≡ true) → ((ts : List Tok) (v : WrittenType) → Derives delta delta_grammar (thing type_thing) left ts v → IsBareOr spot ts v)
    → (ts front back : List Tok) (at : ℕ) (l v : WrittenType) (o : Option (Tok × WrittenType)) → v ≡ joined form (at, (l, o)) → ts ≡ front ++ back
    → Derives delta delta_grammar (thing type_thing) left front l → Perhaps {s = pair token (thing type_thing)} right back o → IsBareOr spot ts v
infix_cases spot left right form bare below ts front back at l v o is whole d (nothing none e) =
    let alone : front ≡ ts = sym (append-nil front) ∙ ap (λ (w : List Tok). front ++ w) (sym none) ∙ sym whole in
    let same : l ≡ v = ap (λ (x : Option (Tok × WrittenType)). joined form (at, (l, x))) (sym e) ∙ sym is in
    let P : List Tok → Type 0 = λ w. IsBareOr spot w l in
    let Q : WrittenType → Type 0 = λ x. IsBareOr spot ts x in
    subst Q same (subst P alone (below front l d))
infix_cases spot left right form bare below ts front back at l v o is whole d (something x e k) =
    let same : v ≡ form at l x.1 = is ∙ ap (λ (y : Option (Tok × WrittenType)). joined form (at, (l, y))) e in
    inl (rw same (bare at l x.1))

infix_is : (spot : TypePlace) (left right : RuleFor (thing type_thing)) (k : Terminal) (form : ℕ → WrittenType → WrittenType → WrittenType)
    → ((at : ℕ) (l r : WrittenType) → type_bare spot (form at l r) ≡ true) → ((ts : List Tok) (v : WrittenType) → Derives delta delta_grammar (thing type_thing) left ts v → IsBareOr spot ts v)
    → (ts : List Tok) (v : WrittenType) → Derives delta delta_grammar (thing type_thing) (infix_rule left k right form) ts v → IsBareOr spot ts v
infix_is spot left right k form bare below ts v d =
    let m = invert d in
    let l = invert (invert m.derived) in
    infix_cases spot left (both (sign k) right) form bare below ts l.front l.back m.of.0 m.of.1.0 v m.of.1.1 m.is l.whole l.first (invert l.second)

-- what needs none at a place needs none where more stands bare
more_room : (spot next : TypePlace) → nat_le (type_room spot) (type_room next) ≡ true → (ts : List Tok) (v : WrittenType) → IsBareOr spot ts v → IsBareOr next ts v
more_room spot next le ts v (inl h) = inl (room (type_level v) (type_room spot) (type_room next) h le)
  where
    room : (a b c : ℕ) → nat_le a b ≡ true → nat_le b c ≡ true → nat_le a c ≡ true
    room a b c h k = grind (arith, nat_tests)
more_room spot next le ts v (inr b) = inr b

cat_is : (ts : List Tok) (v : WrittenType) → Derives delta delta_grammar (thing type_thing) (part a_cat) ts v → IsBareOr types.Cat ts v
cat_is ts v d = infix_is types.Cat (part a_star) (part a_cat) Dot cat_written (λ at l r. refl) (λ us x e. more_room types.Star types.Cat refl us x (star_is us x e)) ts v (invert d)

par_is : (ts : List Tok) (v : WrittenType) → Derives delta delta_grammar (thing type_thing) (part a_par) ts v → IsBareOr types.Par ts v
par_is ts v d = infix_is types.Par (part a_cat) (part a_par) Bars par_written (λ at l r. refl) (λ us x e. more_room types.Cat types.Par refl us x (cat_is us x e)) ts v (invert d)

needed : (spot : TypePlace) (ts : List Tok) (v : WrittenType) → type_bare spot v ≡ false → IsBareOr spot ts v → InBrackets a_type ts v
needed spot ts v h (inl k) = absurd (cc (h, k))
needed spot ts v h (inr b) = b

pub type_brackets_are_needed : TypeBracketsAreNeeded
type_brackets_are_needed = record {
  at_par = λ ts v d h. needed types.Par ts v h (par_is ts v d);
  at_cat = λ ts v d h. needed types.Cat ts v h (cat_is ts v d);
  at_star = λ ts v d h. needed types.Star ts v h (star_is ts v d);
}

-- EXPRESSIONS

-- it needs none, or stands in them
abbrev IsFreeOr : List Tok → Expression → Type 0
IsFreeOr ts v = (expression_bare v ≡ true) ⊎ InBrackets an_expression ts v

name_free : (x : Tok × Option (List WrittenHist × List Expression)) → expression_bare (atom_from x) ≡ true
name_free (t, None) = refl
name_free (t, Some k) = refl

case_free : (at : ℕ) (h : Head) (x : Arms) → expression_bare (case_with at h x) ≡ true
case_free at h (sum_arms x a y b) = refl
case_free at h (star_arms a y ys b) = refl

-- the closing bracket alone
pub record ClosesAt (ts : List Tok) : Type 0 where
  pub closing : Tok
  pub whole : ts ≡ closing ∷ []
  pub closes : is_kind Close closing.kind ≡ true

plain_is : (ts : List Tok) (x : Ending) → x ≡ plain_ending → Derives delta delta_grammar (thing ending_thing) (part an_ending) ts x → ClosesAt ts
plain_is ts x plain d =
    elim (invert (invert d)) [
      | inl e ↦ (let m = invert e in let k = invert m.derived in record { closing = m.of; whole = k.0; closes = k.1 })
      | inr f ↦ elim (invert f) [
        | inl e ↦ (let m = invert e in let same : plain_ending ≡ ended_at_once m.of = sym plain ∙ m.is in absurd (cc same))
        | inr g ↦ elim (invert g) [
          | inl e ↦ (let m = invert e in let same : plain_ending ≡ ended_in_turn m.of = sym plain ∙ m.is in absurd (cc same))
          | inr e ↦ (let m = invert e in let same : plain_ending ≡ ended_of_type m.of = sym plain ∙ m.is in absurd (cc same))
        ]
      ]
    ]

-- how a bracket ends says what it is
ended_is : (ts front back : List Tok) (opening : Tok) (at : ℕ) (e v : Expression) (x : Ending) → v ≡ ended at e x → ts ≡ opening ∷ (front ++ back) → is_kind Open opening.kind ≡ true
    → Derives delta delta_grammar (thing expression_thing) (part an_expression) front e → Derives delta delta_grammar (thing ending_thing) (part an_ending) back x → IsFreeOr ts v
ended_is ts front back opening at e v plain_ending is whole opens d f =
    let k = plain_is back plain_ending refl f in
    let P : Expression → Type 0 = λ y. Derives delta delta_grammar (thing expression_thing) (part an_expression) front y in
    inr (record { opening = opening; inside = front; closing = k.closing; whole = whole ∙ ap (λ (w : List Tok). opening ∷ (front ++ w)) k.whole; opens = opens; closes = k.closes; derived = subst P (sym is) d })
ended_is ts front back opening at e v (at_once b) is whole opens d f = inl (rw is refl)
ended_is ts front back opening at e v (in_turn b) is whole opens d f = inl (rw is refl)
ended_is ts front back opening at e v (of_type t) is whole opens d f = inl (rw is refl)

bracket_free : (ts : List Tok) (v : Expression) → Derives delta delta_grammar (thing expression_thing) bracket_rule ts v → IsFreeOr ts v
bracket_free ts v d =
    let m = invert d in
    let k = invert m.derived in
    let o = invert k.first in
    elim (invert k.second) [
      | inl e ↦ (let n = invert e in let none : v ≡ bracketed (m.of.0, nothing_inside n.of) = m.is ∙ ap (λ (y : Option (Expression × Ending)). bracketed (m.of.0, y)) n.is in inl (rw none refl))
      | inr e ↦ (let n = invert e in
          let l = invert n.derived in
          let some : v ≡ bracketed (m.of.0, something_inside n.of) = m.is ∙ ap (λ (y : Option (Expression × Ending)). bracketed (m.of.0, y)) n.is in
          let all : ts ≡ m.of.0 ∷ (l.front ++ l.back) = k.whole ∙ ap₂ (λ (u w : List Tok). u ++ w) o.0 l.whole in
          ended_is ts l.front l.back m.of.0 m.of.0.at n.of.0 v n.of.1 some all o.1 l.first l.second)
    ]

atom_is : (ts : List Tok) (v : Expression) → Derives delta delta_grammar (thing expression_thing) (part an_atom) ts v → IsFreeOr ts v
atom_is ts v d =
    elim (invert (invert d)) [
      | inl e ↦ (let m = invert e in inl (rw m.is (name_free m.of)))
      | inr f ↦ elim (invert f) [
        | inl e ↦ (let m = invert e in inl (rw m.is refl))
        | inr g ↦ elim (invert g) [
          | inl e ↦ (let m = invert e in inl (rw m.is refl))
          | inr h ↦ elim (invert h) [
            | inl e ↦ bracket_free ts v e
            | inr i ↦ elim (invert i) [
              | inl e ↦ (let m = invert e in inl (rw m.is refl))
              | inr e ↦ (let m = invert e in inl (rw m.is (case_free m.of.0.at m.of.1.0 m.of.1.1.1.1.0)))
            ]
          ]
        ]
      ]
    ]

application_is : (ts : List Tok) (v : Expression) → Derives delta delta_grammar (thing expression_thing) (part an_application) ts v → IsFreeOr ts v
application_is ts v d =
    elim (invert (invert d)) [
      | inl e ↦ (let m = invert e in inl (rw m.is refl))
      | inr f ↦ elim (invert f) [
        | inl e ↦ (let m = invert e in inl (rw m.is refl))
        | inr e ↦ atom_is ts v e
      ]
    ]

pub expression_brackets_are_needed : ExpressionBracketsAreNeeded
expression_brackets_are_needed ts v d h =
    elim (application_is ts v d) [
      | inl k ↦ absurd (cc (h, k))
      | inr b ↦ b
    ]
