-- What the grammar derives of tokens at no place it derives of the same tokens at any places, and the two values are alike but for
-- places.
use Rattle.std.proofs.Common.{◌≡◌, ℕ, Bool, true, List, [], ◌∷◌, ◌++◌, Some, None, map, refl, sym, subst, ap, ap₂, ◌∙◌}
use Rattle.std.specs.Option.{option_map}
use Rattle.grammar.specs.Rules.{Sort, token, place, thing, pair, option, list, one_of, part, both, either, maybe, placed, make}
use Rattle.grammar.specs.Grammar.{Derives, by_token, by_part, by_both, by_left, by_right, by_none, by_some, by_placed, by_make, place_of}
use Rattle.delta_tree.specs.Unplaced.{unplaced_type, unplaced_context, unplaced_past, unplaced_hist, unplaced_expression, unplaced_head, unplaced_function, unplaced_declaration}
use Rattle.delta_parse.specs.Terminals.{Tok}
use Rattle.delta_parse.specs.Parts.{Arms, sum_arms, star_arms, Ending, plain_ending, at_once, in_turn, of_type, Thing, type_thing, context_thing, entry_thing, branch_thing, history_thing, expression_thing, head_thing, pattern_thing, arms_thing, ending_thing, function_thing, declaration_thing, meaning_of, Part, delta, Meant, RuleFor}
use Rattle.delta_parse.specs.Rules.{rule_of}
use Rattle.delta_parse.specs.Tables.{delta_grammar}
use Rattle.delta_tree.specs.SyntaxTree.{WrittenHist}
use Rattle.delta_print.specs.Printable.{unplaced_token}

abbrev pub unplaced_arms : Arms → Arms
unplaced_arms (sum_arms x a y b) = sum_arms x (unplaced_expression a) y (unplaced_expression b)
unplaced_arms (star_arms a y ys b) = star_arms (unplaced_expression a) y ys (unplaced_expression b)

abbrev pub unplaced_ending : Ending → Ending
unplaced_ending plain_ending = plain_ending
unplaced_ending (at_once b) = at_once (unplaced_expression b)
unplaced_ending (in_turn b) = in_turn (unplaced_expression b)
unplaced_ending (of_type t) = of_type (unplaced_type t)

abbrev pub unplaced_branch : ℕ × WrittenHist → ℕ × WrittenHist
unplaced_branch b = (b.0, unplaced_hist b.1)

-- what a part stands for, without places
abbrev pub unplaced_thing : (b : Thing) → meaning_of b → meaning_of b
unplaced_thing type_thing v = unplaced_type v
unplaced_thing context_thing v = unplaced_context v
unplaced_thing entry_thing v = unplaced_past v
unplaced_thing branch_thing v = unplaced_branch v
unplaced_thing history_thing v = unplaced_hist v
unplaced_thing expression_thing v = unplaced_expression v
unplaced_thing head_thing v = unplaced_head v
unplaced_thing pattern_thing v = v
unplaced_thing arms_thing v = unplaced_arms v
unplaced_thing ending_thing v = unplaced_ending v
unplaced_thing function_thing v = unplaced_function v
unplaced_thing declaration_thing v = unplaced_declaration v

-- a value without places
abbrev pub unplaced_value : (s : Sort Thing) → Meant s → Meant s
unplaced_value token v = unplaced_token v
unplaced_value place v = 0
unplaced_value (thing b) v = unplaced_thing b v
unplaced_value (pair s t) v = (unplaced_value s v.0, unplaced_value t v.1)
unplaced_value (option s) v = option_map (unplaced_value s) v
unplaced_value (list s) v = map (unplaced_value s) v

-- the actions of a rule are the same with and without places
abbrev pub Natural : {s : Sort Thing} → RuleFor s → Type 0
Natural (one_of is) = Unit {0}
Natural (part p) = Unit {0}
Natural (both a b) = Natural a × Natural b
Natural (either a b) = Natural a × Natural b
Natural (maybe a) = Natural a
Natural (placed a) = Natural a
Natural (make {s = s} {t = t} f a) = ((x : Meant s) → unplaced_value t (f x) ≡ f (unplaced_value s x)) × Natural a

-- the tokens are derived, as a value that is this one without its places
pub record Placed {s : Sort Thing} (a : RuleFor s) (ts : List Tok) (x : Meant s) : Type 0 where
  pub value : Meant s
  pub derived : Derives delta delta_grammar s a ts value
  pub same : unplaced_value s value ≡ x

-- tokens without places fall into two parts as they do with them
pub record Cut (u w ts : List Tok) : Type 0 where
  pub front : List Tok
  pub back : List Tok
  pub whole : ts ≡ front ++ back
  pub front_is : u ≡ map unplaced_token front
  pub back_is : w ≡ map unplaced_token back

pub cut : (u w ts : List Tok) → u ++ w ≡ map unplaced_token ts → Cut u w ts
cut [] w ts e = record { front = []; back = ts; whole = refl; front_is = refl; back_is = e }
cut (t ∷ u) w [] e = absurd (cc e)
cut (t ∷ u) w (x ∷ ts) e =
    let tails : u ++ w ≡ map unplaced_token ts = cc e in
    let heads : t ≡ unplaced_token x = cc e in
    let c : Cut u w ts = cut u w ts tails in
    record { front = x ∷ c.front; back = c.back; whole = ap (λ (r : List Tok). x ∷ r) c.whole; front_is = ap₂ (λ (y : Tok) (r : List Tok). y ∷ r) heads c.front_is; back_is = c.back_is }

none_left : (ts : List Tok) → [] ≡ map unplaced_token ts → ts ≡ []
none_left [] e = refl
none_left (x ∷ ts) e = absurd (cc e)

one_token : (is : _ → Bool) (t : Tok) (ts : List Tok) → is t.kind ≡ true → t ∷ [] ≡ map unplaced_token ts → Placed {s = token} (one_of is) ts t
one_token is t [] h e = absurd (cc e)
one_token is t (x ∷ []) h e =
    let same : t ≡ unplaced_token x = cc e in
    let P : Tok → Type 0 = λ y. is y.kind ≡ true in
    record { value = x; derived = by_token (subst P same h); same = sym same }
one_token is t (x ∷ y ∷ ts) h e = absurd (cc e)

place_of-unplaced : (ts : List Tok) → place_of (map unplaced_token ts) ≡ 0
place_of-unplaced [] = refl
place_of-unplaced (t ∷ ts) = refl

at_front : (u ts : List Tok) → u ≡ map unplaced_token ts → place_of u ≡ 0
at_front u ts e = rw e (place_of-unplaced ts)

module _ (natural : (p : Part) → Natural (rule_of p)) where
  pub give_places : {s : Sort Thing} {a : RuleFor s} {us : List Tok} {x : Meant s} → Derives delta delta_grammar s a us x → Natural a → (ts : List Tok) → us ≡ map unplaced_token ts → Placed {s = s} a ts x
  give_places (by_token {is = is} {t = t} h) n ts e = one_token is t ts h e
  give_places (by_part {p = p} d) n ts e =
      let k = give_places d (natural p) ts e in
      record { value = k.value; derived = by_part k.derived; same = k.same }
  give_places (by_both {s = s} {t = t} {a = a} {b = b} {u = u} {w = w} d f) n ts e =
      let c = cut u w ts e in
      let k = give_places d n.0 c.front c.front_is in
      let l = give_places f n.1 c.back c.back_is in
      let P : List Tok → Type 0 = λ r. Derives delta delta_grammar (pair s t) (both a b) r (k.value, l.value) in
      record { value = (k.value, l.value); derived = subst P (sym c.whole) (by_both k.derived l.derived); same = cc (k.same, l.same) }
  give_places (by_left d) n ts e =
      let k = give_places d n.0 ts e in
      record { value = k.value; derived = by_left k.derived; same = k.same }
  give_places (by_right d) n ts e =
      let k = give_places d n.1 ts e in
      record { value = k.value; derived = by_right k.derived; same = k.same }
  give_places (by_none {s = s} {a = a}) n ts e =
      let P : List Tok → Type 0 = λ r. Derives delta delta_grammar (option s) (maybe a) r None in
      record { value = None; derived = subst P (sym (none_left ts e)) by_none; same = refl }
  give_places (by_some d) n ts e =
      let k = give_places d n ts e in
      record { value = Some k.value; derived = by_some k.derived; same = ap Some k.same }
  give_places (by_placed {u = u} d) n ts e =
      let k = give_places d n ts e in
      record { value = (place_of ts, k.value); derived = by_placed k.derived; same = cc (k.same, at_front u ts e) }
  give_places (by_make {f = f} d) n ts e =
      let k = give_places d n.1 ts e in
      record { value = f k.value; derived = by_make k.derived; same = n.0 k.value ∙ ap f k.same }
