-- What is put in brackets in a historical expression or in parameters is derived there in brackets alone.
use Rattle.std.proofs.Common.{◌≡◌, ℕ, Bool, true, false, List, [], ◌∷◌, ◌++◌, Option, Some, refl, sym, ap, ap₂, subst, ◌∙◌, ◌⊎◌, inl, inr, append-nil, arith}
use Rattle.std.specs.Prelude.{nat_le}
use Rattle.std.proofs.lemmas.Bool.Decides.{nat_tests}
use Rattle.grammar.specs.Rules.{token, thing, pair, list, one_of, part, both}
use Rattle.grammar.specs.Grammar.{Derives}
use Rattle.hist_value.specs.HistExpr.{HistExpr, reckoned}
use Rattle.delta_tree.specs.SyntaxTree.{WrittenContext, WrittenHist}
use Rattle.delta_parse.specs.declared.terminal.Terminal.{Terminal}
use Rattle.delta_parse.specs.declared.terminal.Terminal.TheVariants.{Open, Close, Comma, Semicolon, Plus, Minus, Times, Slash, Less, FstWord, SndWord, InlWord}
use Rattle.delta_parse.specs.Terminals.{Tok, is_kind}
use Rattle.delta_parse.specs.Parts.{history_thing, context_thing, a_history, a_comparison, a_sum, more_summands, a_product, more_factors, a_unary, a_history_atom, a_context, an_item, more_commas, more_semicolons, delta, RuleFor}
use Rattle.delta_parse.specs.Rules.{sign, is_product, is_sum, is_comparison, hist_bracket_rule}
use Rattle.delta_parse.specs.Actions.{hist_with, prefixed_expr, to_left, operator, more_of, compared, bracketed_hist, unit_inside, pair_inside, context_with, context_from}
use Rattle.delta_parse.specs.Tables.{delta_grammar}
use Rattle.delta_print.specs.declared.place.ContextPlace.{ContextPlace}
use Rattle.delta_print.specs.declared.place.ContextPlace.TheVariants as contexts
use Rattle.delta_print.specs.declared.place.HistPlace.{HistPlace}
use Rattle.delta_print.specs.declared.place.HistPlace.TheVariants as hists
use Rattle.delta_print.specs.Brackets.{context_bare, hist_bare, hist_level, hist_room, op_level}
use Rattle.delta_print.specs.Needed.{InBrackets, HistBracketsAreNeeded, ContextBracketsAreNeeded}
use Rattle.delta_print.proofs.Inverting.{Perhaps, nothing, something, invert}

-- it needs none at this spot, or stands in them
abbrev IsBareOr : HistPlace → List Tok → WrittenHist → Type 0
IsBareOr spot ts v = (hist_bare spot v.expr ≡ true) ⊎ InBrackets a_history ts v

prefixed_bare : (k : Terminal) (e : HistExpr) → hist_bare hists.Unary (prefixed_expr k e) ≡ true
prefixed_bare FstWord e = refl
prefixed_bare SndWord e = refl
prefixed_bare InlWord e = refl
prefixed_bare _ e = refl

-- what a bracket holds
held_is : (ts front behind back : List Tok) (opening closing : Tok) (h v : WrittenHist) (o : Option (Tok × WrittenHist)) → v ≡ bracketed_hist (opening, Some (h, o)) → ts ≡ opening ∷ (front ++ (behind ++ back))
    → is_kind Open opening.kind ≡ true → Derives delta delta_grammar (thing history_thing) (part a_history) front h
    → Perhaps {s = pair token (thing history_thing)} (both (sign Comma) (part a_history)) behind o → back ≡ closing ∷ [] → is_kind Close closing.kind ≡ true → IsBareOr hists.Unary ts v
held_is ts front behind back opening closing h v o is whole opens d (nothing none e) last closes =
    let same : h ≡ v = ap (λ (x : Option (Tok × WrittenHist)). bracketed_hist (opening, Some (h, x))) (sym e) ∙ sym is in
    let P : WrittenHist → Type 0 = λ y. Derives delta delta_grammar (thing history_thing) (part a_history) front y in
    inr (record {
      opening = opening;
      inside = front;
      closing = closing;
      whole = whole ∙ ap₂ (λ (u w : List Tok). opening ∷ (front ++ (u ++ w))) none last;
      opens = opens;
      closes = closes;
      derived = subst P same d;
    })
held_is ts front behind back opening closing h v o is whole opens d (something x e k) last closes =
    let pair_is : v ≡ bracketed_hist (opening, Some (h, Some x)) = is ∙ ap (λ (y : Option (Tok × WrittenHist)). bracketed_hist (opening, Some (h, y))) e in inl (rw pair_is refl)

bracket_is : (ts : List Tok) (v : WrittenHist) → Derives delta delta_grammar (thing history_thing) hist_bracket_rule ts v → IsBareOr hists.Unary ts v
bracket_is ts v d =
    let m = invert d in
    let k = invert m.derived in
    let o = invert k.first in
    elim (invert k.second) [
      | inl e ↦ (let n = invert e in let none : v ≡ bracketed_hist (m.of.0, unit_inside n.of) = m.is ∙ ap (λ (y : Option (WrittenHist × Option (Tok × WrittenHist))). bracketed_hist (m.of.0, y)) n.is in inl (rw none refl))
      | inr e ↦ (let n = invert e in
          let l = invert n.derived in
          let r = invert l.second in
          let c = invert r.second in
          let some : v ≡ bracketed_hist (m.of.0, pair_inside n.of) = m.is ∙ ap (λ (y : Option (WrittenHist × Option (Tok × WrittenHist))). bracketed_hist (m.of.0, y)) n.is in
          let all : ts ≡ m.of.0 ∷ (l.front ++ (r.front ++ r.back)) = k.whole ∙ ap₂ (λ (u w : List Tok). u ++ w) o.0 (l.whole ∙ ap (λ (w : List Tok). l.front ++ w) r.whole) in
          held_is ts l.front r.front r.back m.of.0 n.of.1.1 n.of.0 v n.of.1.0 some all o.1 l.first (invert r.first) c.0 c.1)
    ]

atom_is : (ts : List Tok) (v : WrittenHist) → Derives delta delta_grammar (thing history_thing) (part a_history_atom) ts v → IsBareOr hists.Unary ts v
atom_is ts v d =
    elim (invert (invert d)) [
      | inl e ↦ (let m = invert e in inl (rw m.is refl))
      | inr f ↦ elim (invert f) [
        | inl e ↦ (let m = invert e in inl (rw m.is refl))
        | inr g ↦ elim (invert g) [
          | inl e ↦ (let m = invert e in inl (rw m.is refl))
          | inr h ↦ elim (invert h) [
            | inl e ↦ (let m = invert e in inl (rw m.is refl))
            | inr e ↦ bracket_is ts v e
          ]
        ]
      ]
    ]

unary_is : (ts : List Tok) (v : WrittenHist) → Derives delta delta_grammar (thing history_thing) (part a_unary) ts v → IsBareOr hists.Unary ts v
unary_is ts v d =
    elim (invert (invert d)) [
      | inl e ↦ (let m = invert e in inl (rw m.is (prefixed_bare m.of.0.kind m.of.1.expr)))
      | inr e ↦ atom_is ts v e
    ]

-- what needs none at a place needs none where more stands bare
room : (a b c : ℕ) → nat_le a b ≡ true → nat_le b c ≡ true → nat_le a c ≡ true
room a b c h k = grind (arith, nat_tests)

more_room : (spot next : HistPlace) → nat_le (hist_room spot) (hist_room next) ≡ true → (ts : List Tok) (v : WrittenHist) → IsBareOr spot ts v → IsBareOr next ts v
more_room spot next le ts v (inl h) = inl (room (hist_level v.expr) (hist_room spot) (hist_room next) h le)
more_room spot next le ts v (inr b) = inr b

product_op : (k : Terminal) → is_product k ≡ true → nat_le (op_level (operator k)) 1 ≡ true
product_op Times h = refl
product_op Slash h = refl
product_op _ h = absurd (cc h)

sum_op : (k : Terminal) → is_sum k ≡ true → nat_le (op_level (operator k)) 2 ≡ true
sum_op Plus h = refl
sum_op Minus h = refl
sum_op _ h = absurd (cc h)

any_op : (k : Terminal) → nat_le (op_level (operator k)) 3 ≡ true
any_op Plus = refl
any_op Minus = refl
any_op Times = refl
any_op Slash = refl
any_op Less = refl
any_op _ = refl

-- no operand, where none is read
no_factors : (ts : List Tok) (more : List (Tok × WrittenHist)) → more ≡ [] → Derives delta delta_grammar (list (pair token (thing history_thing))) (part more_factors) ts more → ts ≡ []
no_factors ts more none d = perhaps (invert (invert d)).of (invert (invert d)).is (invert (invert (invert d)).derived)
  where
    perhaps : (o : Option ((Tok × WrittenHist) × List (Tok × WrittenHist))) → more ≡ more_of o
        → Perhaps {s = pair (pair token (thing history_thing)) (list (pair token (thing history_thing)))} (both (both (one_of is_product) (part a_unary)) (part more_factors)) ts o → ts ≡ []
    perhaps o is (nothing empty e) = empty
    perhaps o is (something x e k) = absurd (let full : [] ≡ x.0 ∷ x.1 = sym none ∙ is ∙ ap more_of e in cc)

no_summands : (ts : List Tok) (more : List (Tok × WrittenHist)) → more ≡ [] → Derives delta delta_grammar (list (pair token (thing history_thing))) (part more_summands) ts more → ts ≡ []
no_summands ts more none d = perhaps (invert (invert d)).of (invert (invert d)).is (invert (invert (invert d)).derived)
  where
    perhaps : (o : Option ((Tok × WrittenHist) × List (Tok × WrittenHist))) → more ≡ more_of o
        → Perhaps {s = pair (pair token (thing history_thing)) (list (pair token (thing history_thing)))} (both (both (one_of is_sum) (part a_product)) (part more_summands)) ts o → ts ≡ []
    perhaps o is (nothing empty e) = empty
    perhaps o is (something x e k) = absurd (let full : [] ≡ x.0 ∷ x.1 = sym none ∙ is ∙ ap more_of e in cc)

-- the first operand, and those behind it
pub record FirstOf (is : Terminal → Bool) (p : RuleFor (list (pair token (thing history_thing)))) (x : Tok × WrittenHist) (more : List (Tok × WrittenHist)) : Type 0 where
  pub sign_is : is x.0.kind ≡ true
  pub behind : List Tok
  pub rest : Derives delta delta_grammar (list (pair token (thing history_thing))) p behind more

first_factor : (ts : List Tok) (x : Tok × WrittenHist) (more all : List (Tok × WrittenHist)) → all ≡ x ∷ more → Derives delta delta_grammar (list (pair token (thing history_thing))) (part more_factors) ts all
    → FirstOf is_product (part more_factors) x more
first_factor ts x more all full d = perhaps (invert (invert d)).of (invert (invert d)).is (invert (invert (invert d)).derived)
  where
    perhaps : (o : Option ((Tok × WrittenHist) × List (Tok × WrittenHist))) → all ≡ more_of o
        → Perhaps {s = pair (pair token (thing history_thing)) (list (pair token (thing history_thing)))} (both (both (one_of is_product) (part a_unary)) (part more_factors)) ts o
        → FirstOf is_product (part more_factors) x more
    perhaps o is (nothing empty e) = absurd (let never : x ∷ more ≡ [] = sym full ∙ is ∙ ap more_of e in cc)
    perhaps o is (something y e k) =
        let same : x ∷ more ≡ y.0 ∷ y.1 = sym full ∙ is ∙ ap more_of e in
        let head : y.0 ≡ x = cc same in
        let tail : y.1 ≡ more = cc same in
        let l = invert k in
        let f = invert l.first in
        let t = invert f.first in
        let P : Tok × WrittenHist → Type 0 = λ z. is_product z.0.kind ≡ true in
        let Q : List (Tok × WrittenHist) → Type 0 = λ z. Derives delta delta_grammar (list (pair token (thing history_thing))) (part more_factors) l.back z in
        record { sign_is = subst P head t.1; behind = l.back; rest = subst Q tail l.second }

first_summand : (ts : List Tok) (x : Tok × WrittenHist) (more all : List (Tok × WrittenHist)) → all ≡ x ∷ more → Derives delta delta_grammar (list (pair token (thing history_thing))) (part more_summands) ts all
    → FirstOf is_sum (part more_summands) x more
first_summand ts x more all full d = perhaps (invert (invert d)).of (invert (invert d)).is (invert (invert (invert d)).derived)
  where
    perhaps : (o : Option ((Tok × WrittenHist) × List (Tok × WrittenHist))) → all ≡ more_of o
        → Perhaps {s = pair (pair token (thing history_thing)) (list (pair token (thing history_thing)))} (both (both (one_of is_sum) (part a_product)) (part more_summands)) ts o
        → FirstOf is_sum (part more_summands) x more
    perhaps o is (nothing empty e) = absurd (let never : x ∷ more ≡ [] = sym full ∙ is ∙ ap more_of e in cc)
    perhaps o is (something y e k) =
        let same : x ∷ more ≡ y.0 ∷ y.1 = sym full ∙ is ∙ ap more_of e in
        let head : y.0 ≡ x = cc same in
        let tail : y.1 ≡ more = cc same in
        let l = invert k in
        let f = invert l.first in
        let t = invert f.first in
        let P : Tok × WrittenHist → Type 0 = λ z. is_sum z.0.kind ≡ true in
        let Q : List (Tok × WrittenHist) → Type 0 = λ z. Derives delta delta_grammar (list (pair token (thing history_thing))) (part more_summands) l.back z in
        record { sign_is = subst P head t.1; behind = l.back; rest = subst Q tail l.second }

-- an operation of a level or below, whatever operands follow
factors_level : (at : ℕ) (h : WrittenHist) (more : List (Tok × WrittenHist)) (ts : List Tok) → Derives delta delta_grammar (list (pair token (thing history_thing))) (part more_factors) ts more
    → hist_bare hists.Product h.expr ≡ true → hist_bare hists.Product (to_left at h more).expr ≡ true
factors_level at h [] ts d b = b
factors_level at h (x ∷ more) ts d b =
    let k = first_factor ts x more (x ∷ more) refl d in
    factors_level at (hist_with at (reckoned (operator x.0.kind) h.expr x.1.expr)) more k.behind k.rest (product_op x.0.kind k.sign_is)

summands_level : (at : ℕ) (h : WrittenHist) (more : List (Tok × WrittenHist)) (ts : List Tok) → Derives delta delta_grammar (list (pair token (thing history_thing))) (part more_summands) ts more
    → hist_bare hists.Sum h.expr ≡ true → hist_bare hists.Sum (to_left at h more).expr ≡ true
summands_level at h [] ts d b = b
summands_level at h (x ∷ more) ts d b =
    let k = first_summand ts x more (x ∷ more) refl d in
    summands_level at (hist_with at (reckoned (operator x.0.kind) h.expr x.1.expr)) more k.behind k.rest (sum_op x.0.kind k.sign_is)

alone_is : (spot : HistPlace) (ts front back : List Tok) (h v : WrittenHist) → v ≡ h → ts ≡ front ++ back → back ≡ [] → IsBareOr spot front h → IsBareOr spot ts v
alone_is spot ts front back h v is whole none b =
    let alone : front ≡ ts = sym (append-nil front) ∙ ap (λ (w : List Tok). front ++ w) (sym none) ∙ sym whole in
    let P : List Tok → Type 0 = λ w. IsBareOr spot w h in
    let Q : WrittenHist → Type 0 = λ x. IsBareOr spot ts x in
    subst Q (sym is) (subst P alone b)

product_cases : (ts front back : List Tok) (at : ℕ) (h v : WrittenHist) (more : List (Tok × WrittenHist)) → v ≡ to_left at h more → ts ≡ front ++ back
    → Derives delta delta_grammar (thing history_thing) (part a_unary) front h → Derives delta delta_grammar (list (pair token (thing history_thing))) (part more_factors) back more → IsBareOr hists.Product ts v
product_cases ts front back at h v [] is whole d e = alone_is hists.Product ts front back h v is whole (no_factors back [] refl e) (more_room hists.Unary hists.Product refl front h (unary_is front h d))
product_cases ts front back at h v (x ∷ more) is whole d e =
    let k = first_factor back x more (x ∷ more) refl e in
    inl (rw is (factors_level at (hist_with at (reckoned (operator x.0.kind) h.expr x.1.expr)) more k.behind k.rest (product_op x.0.kind k.sign_is)))

product_is : (ts : List Tok) (v : WrittenHist) → Derives delta delta_grammar (thing history_thing) (part a_product) ts v → IsBareOr hists.Product ts v
product_is ts v d =
    let m = invert (invert d) in
    let k = invert (invert m.derived) in
    product_cases ts k.front k.back m.of.0 m.of.1.0 v m.of.1.1 m.is k.whole k.first k.second

sum_cases : (ts front back : List Tok) (at : ℕ) (h v : WrittenHist) (more : List (Tok × WrittenHist)) → v ≡ to_left at h more → ts ≡ front ++ back
    → Derives delta delta_grammar (thing history_thing) (part a_product) front h → Derives delta delta_grammar (list (pair token (thing history_thing))) (part more_summands) back more → IsBareOr hists.Sum ts v
sum_cases ts front back at h v [] is whole d e = alone_is hists.Sum ts front back h v is whole (no_summands back [] refl e) (more_room hists.Product hists.Sum refl front h (product_is front h d))
sum_cases ts front back at h v (x ∷ more) is whole d e =
    let k = first_summand back x more (x ∷ more) refl e in
    inl (rw is (summands_level at (hist_with at (reckoned (operator x.0.kind) h.expr x.1.expr)) more k.behind k.rest (sum_op x.0.kind k.sign_is)))

sum_is : (ts : List Tok) (v : WrittenHist) → Derives delta delta_grammar (thing history_thing) (part a_sum) ts v → IsBareOr hists.Sum ts v
sum_is ts v d =
    let m = invert (invert d) in
    let k = invert (invert m.derived) in
    sum_cases ts k.front k.back m.of.0 m.of.1.0 v m.of.1.1 m.is k.whole k.first k.second

comparison_cases : (ts front back : List Tok) (at : ℕ) (h v : WrittenHist) (o : Option (Tok × WrittenHist)) → v ≡ compared (at, (h, o)) → ts ≡ front ++ back
    → Derives delta delta_grammar (thing history_thing) (part a_sum) front h → Perhaps {s = pair token (thing history_thing)} (both (one_of is_comparison) (part a_sum)) back o → IsBareOr hists.Comparison ts v
comparison_cases ts front back at h v o is whole d (nothing none e) =
    alone_is hists.Comparison ts front back h v (is ∙ ap (λ (x : Option (Tok × WrittenHist)). compared (at, (h, x))) e) whole none (more_room hists.Sum hists.Comparison refl front h (sum_is front h d))
comparison_cases ts front back at h v o is whole d (something x e k) =
    let same : v ≡ compared (at, (h, Some x)) = is ∙ ap (λ (y : Option (Tok × WrittenHist)). compared (at, (h, y))) e in inl (rw same (any_op x.0.kind))

comparison_is : (ts : List Tok) (v : WrittenHist) → Derives delta delta_grammar (thing history_thing) (part a_comparison) ts v → IsBareOr hists.Comparison ts v
comparison_is ts v d =
    let m = invert (invert d) in
    let k = invert (invert m.derived) in
    comparison_cases ts k.front k.back m.of.0 m.of.1.0 v m.of.1.1 m.is k.whole k.first (invert k.second)

needed : (spot : HistPlace) (ts : List Tok) (v : WrittenHist) → hist_bare spot v.expr ≡ false → IsBareOr spot ts v → InBrackets a_history ts v
needed spot ts v h (inl k) = absurd (cc (h, k))
needed spot ts v h (inr b) = b

pub hist_brackets_are_needed : HistBracketsAreNeeded
hist_brackets_are_needed = record {
  at_comparison = λ ts v d h. needed hists.Comparison ts v h (comparison_is ts v d);
  at_sum = λ ts v d h. needed hists.Sum ts v h (sum_is ts v d);
  at_product = λ ts v d h. needed hists.Product ts v h (product_is ts v d);
  at_unary = λ ts v d h. needed hists.Unary ts v h (unary_is ts v d);
}

-- PARAMETERS

abbrev IsListedOr : ContextPlace → List Tok → WrittenContext → Type 0
IsListedOr spot ts v = (context_bare spot v ≡ true) ⊎ InBrackets a_context ts v

-- one parameter stands bare everywhere
item_is : (spot : ContextPlace) (ts : List Tok) (v : WrittenContext) → Derives delta delta_grammar (thing context_thing) (part an_item) ts v → IsListedOr spot ts v
item_is spot ts v d =
    elim (invert (invert d)) [
      | inl e ↦ (let m = invert e in inl (rw m.is refl))
      | inr e ↦ (let m = invert e in
          let k = invert m.derived in
          let o = invert k.first in
          let l = invert k.second in
          let c = invert l.second in
          let P : WrittenContext → Type 0 = λ x. Derives delta delta_grammar (thing context_thing) (part a_context) l.front x in
          inr (record {
            opening = m.of.0;
            inside = l.front;
            closing = m.of.1.1;
            whole = k.whole ∙ ap₂ (λ (u w : List Tok). u ++ w) o.0 (l.whole ∙ ap (λ (w : List Tok). l.front ++ w) c.0);
            opens = o.1;
            closes = c.1;
            derived = subst P (sym m.is) l.first;
          }))
    ]

by_comma : (k : Terminal) (a b : WrittenContext) → is_kind Comma k ≡ true → context_bare contexts.Commas (context_with k a b) ≡ true
by_comma Semicolon a b h = absurd (cc h)
by_comma _ a b h = refl

by_semicolon : (k : Terminal) (a b : WrittenContext) → is_kind Semicolon k ≡ true → context_bare contexts.Semicolons (context_with k a b) ≡ true
by_semicolon Semicolon a b h = refl
by_semicolon _ a b h = absurd (cc h)

-- one alone, or a list by this sign
list_cases : (spot : ContextPlace) (sign' : Terminal) (rest : RuleFor (thing context_thing)) → ((k : Terminal) (a b : WrittenContext) → is_kind sign' k ≡ true → context_bare spot (context_with k a b) ≡ true)
    → (ts front back : List Tok) (a v : WrittenContext) (o : Option (Tok × WrittenContext)) → v ≡ context_from (a, o) → ts ≡ front ++ back
    → Derives delta delta_grammar (thing context_thing) (part an_item) front a → Perhaps {s = pair token (thing context_thing)} (both (sign sign') rest) back o → IsListedOr spot ts v
list_cases spot sign' rest listed ts front back a v o is whole d (nothing none e) =
    let alone : front ≡ ts = sym (append-nil front) ∙ ap (λ (w : List Tok). front ++ w) (sym none) ∙ sym whole in
    let same : a ≡ v = ap (λ (x : Option (Tok × WrittenContext)). context_from (a, x)) (sym e) ∙ sym is in
    let P : List Tok → Type 0 = λ w. IsListedOr spot w a in
    let Q : WrittenContext → Type 0 = λ x. IsListedOr spot ts x in
    subst Q same (subst P alone (item_is spot front a d))
list_cases spot sign' rest listed ts front back a v o is whole d (something x e k) =
    let same : v ≡ context_from (a, Some x) = is ∙ ap (λ (y : Option (Tok × WrittenContext)). context_from (a, y)) e in
    let t = invert (invert k).first in
    inl (rw same (listed x.0.kind a x.1 t.1))

commas_is : (ts : List Tok) (v : WrittenContext) → Derives delta delta_grammar (thing context_thing) (part more_commas) ts v → IsListedOr contexts.Commas ts v
commas_is ts v d =
    let m = invert (invert d) in
    let k = invert m.derived in
    list_cases contexts.Commas Comma (part more_commas) by_comma ts k.front k.back m.of.0 v m.of.1 m.is k.whole k.first (invert k.second)

semicolons_is : (ts : List Tok) (v : WrittenContext) → Derives delta delta_grammar (thing context_thing) (part more_semicolons) ts v → IsListedOr contexts.Semicolons ts v
semicolons_is ts v d =
    let m = invert (invert d) in
    let k = invert m.derived in
    list_cases contexts.Semicolons Semicolon (part more_semicolons) by_semicolon ts k.front k.back m.of.0 v m.of.1 m.is k.whole k.first (invert k.second)

listed : (spot : ContextPlace) (ts : List Tok) (v : WrittenContext) → context_bare spot v ≡ false → IsListedOr spot ts v → InBrackets a_context ts v
listed spot ts v h (inl k) = absurd (cc (h, k))
listed spot ts v h (inr b) = b

pub context_brackets_are_needed : ContextBracketsAreNeeded
context_brackets_are_needed = record {
  at_item = λ ts v d h. listed contexts.Item ts v h (item_is contexts.Item ts v d);
  at_commas = λ ts v d h. listed contexts.Commas ts v h (commas_is ts v d);
  at_semicolons = λ ts v d h. listed contexts.Semicolons ts v h (semicolons_is ts v d);
}
