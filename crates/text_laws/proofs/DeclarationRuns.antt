-- How the names that are told token by token go on, over declarations and `main`.
use Rattle.std.proofs.Common.{◌≡◌, ◌∙◌, ℕ, ◌+◌, ◌≤◌, true, false, List, [], ◌∷◌, ◌++◌, length, refl, sym, ap, subst, arith, append-nil, append_assoc, length-append}
use Rattle.std.specs.Prelude.{nat_le}
use Rattle.delta_tree.specs.SyntaxTree.{WrittenFunction, WrittenAlias, Declaration, alias_declared, function_declared}
use Rattle.delta_parse.specs.declared.terminal.Terminal.TheVariants.{FunWord, MainWord, TypeWord, NameToken}
use Rattle.delta_parse.specs.Terminals.{Tok, is_kind}
use Rattle.delta_parse.specs.Bindings.{Bound, bound, begun}
use Rattle.text_laws.specs.TreeNames.{are_new, bound_in, twice_in, header_names, type_names, function_names, IsNamed, AreAllNamed}
use Rattle.text_laws.proofs.TokenKinds.{kind_is}
use Rattle.text_laws.proofs.NameRuns.{Stand, at_body, at_header, Fine, bound-append, fine-front, fine-join, at, Steps, Same, made}
use Rattle.text_laws.proofs.HeaderRuns.{Bind, Binds, new_parts, new_whole, one_new, one_is_new}

-- THE REST OF A HEADER AND ITS BODY

-- the tokens bind these names in the header, and n more in the body, where k that are bound together are the same
pub record Tail (from : Stand) (s : Bound) (u : List Tok) (names : List ℕ) (n k : ℕ) : Type 0 where
  pub next : Bound
  pub is : bound (at from s) u ≡ at at_body next
  pub types : next.types ≡ s.types
  pub functions : next.functions ≡ s.functions
  pub apart : Fine (at from s) u → s.count ≤ 1024 → are_new s.together names ≡ true
  pub pairs : Fine (at from s) u → s.count ≤ 1024 → k ≡ 0
  pub few : Fine (at from s) u → s.count ≤ 1024 → s.count + (length names + n) ≤ 1024
  pub back : are_new s.together names ≡ true → k ≡ 0 → s.count + (length names + n) ≤ 1024 → Fine (at from s) u

pub record Tails (from : Stand) (u : List Tok) (names : List ℕ) (n k : ℕ) : Type 0 where
  pub tail : (s : Bound) → Tail from s u names n k

pub body_tail : {u : List Tok} {n k : ℕ} → Steps at_body at_body u n k → Tails at_body u [] n k
body_tail {u = u} {n = n} {k = k} a = record {
  tail = λ s.
      let b = a.step s in
      record {
        next = b.next;
        is = b.is;
        types = b.types;
        functions = b.functions;
        apart = λ h c. refl;
        pairs = λ h c. (b.forth h c).0;
        few = λ h c. (let x = (b.forth h c).1 in omega (arith, x));
        back = λ h z c. b.back z (omega (arith, c));
      };
}

header_joined : (from mid : Stand) (s : Bound) (u w : List Tok) (xs ys : List ℕ) (n k : ℕ) (a : Bind from mid s u xs) → Tail mid a.next w ys n k → Tail from s (u ++ w) (xs ++ ys) n k
header_joined from mid s u w xs ys n k a b =
    let e : bound (at from s) (u ++ w) ≡ bound (at mid a.next) w = bound-append (at from s) u w ∙ ap (λ r. bound r w) a.is in
    let l : length (xs ++ ys) ≡ length xs + length ys = length-append xs ys in
    let second : Fine (at from s) (u ++ w) → Fine (at mid a.next) w = λ h. subst (λ r. Fine r w) a.is (fine-front (at from s) u w h).1 in
    let first : Fine (at from s) (u ++ w) → Fine (at from s) u = λ h. (fine-front (at from s) u w h).0 in
    let room : Fine (at from s) (u ++ w) → s.count ≤ 1024 → a.next.count ≤ 1024 = λ h c. (let x = (a.forth (first h) c).1 in let p = a.count in omega (arith, x, p)) in
    record {
      next = b.next;
      is = e ∙ b.is;
      types = b.types ∙ a.types;
      functions = b.functions ∙ a.functions;
      apart = λ h c. new_whole s.together xs ys (a.forth (first h) c).0 (subst (λ l. are_new l ys ≡ true) a.together (b.apart (second h) (room h c)));
      pairs = λ h c. b.pairs (second h) (room h c);
      few = λ h c. (let x = b.few (second h) (room h c) in let p = a.count in omega (arith, x, p, l));
      back = λ z d c.
          let p = a.count in
          let parts = new_parts s.together xs ys z in
          let x : Fine (at from s) u = a.back parts.0 (omega (arith, c, l)) in
          let y : Fine (at mid a.next) w = b.back (subst (λ l. are_new l ys ≡ true) (sym a.together) parts.1) d (omega (arith, p, c, l)) in
          fine-join (at from s) u w x (subst (λ r. Fine r w) (sym a.is) y);
    }

pub tail_front : {from mid : Stand} {u x y : List Tok} {xs ys : List ℕ} {n k : ℕ} → u ≡ x ++ y → Binds from mid x xs → Tails mid y ys n k → Tails from u (xs ++ ys) n k
tail_front {from = from} {mid = mid} {u = u} {x = x} {y = y} {xs = xs} {ys = ys} {n = n} {k = k} e a b =
    subst (λ w. Tails from w (xs ++ ys) n k) (sym e) (record { tail = λ s. header_joined from mid s x y xs ys n k (a.bind s) (b.tail (a.bind s).next) })

-- DECLARATIONS

-- declarations are named well behind these names
pub record AreWell (types functions : List ℕ) (ds : List Declaration) : Type 0 where
  pub new_types : are_new types (type_names ds) ≡ true
  pub new_functions : are_new functions (function_names ds) ≡ true
  pub few : length functions + length (function_names ds) ≤ 1000
  pub named : AreAllNamed ds

pub record Declare (s : Bound) (u : List Tok) (ds : List Declaration) : Type 0 where
  pub next : Bound
  pub is : bound (at at_body s) u ≡ at at_body next
  pub types : next.types ≡ s.types ++ type_names ds
  pub functions : next.functions ≡ s.functions ++ function_names ds
  pub forth : Fine (at at_body s) u → length s.functions ≤ 1000 → AreWell s.types s.functions ds
  pub back : AreWell s.types s.functions ds → Fine (at at_body s) u

pub record Declares (u : List Tok) (ds : List Declaration) : Type 0 where
  pub declare : (s : Bound) → Declare s u ds

types-cons : (d : Declaration) (ds : List Declaration) → type_names (d ∷ ds) ≡ type_names (d ∷ []) ++ type_names ds
types-cons (alias_declared a) ds = refl
types-cons (function_declared f) ds = refl

functions-cons : (d : Declaration) (ds : List Declaration) → function_names (d ∷ ds) ≡ function_names (d ∷ []) ++ function_names ds
functions-cons (alias_declared a) ds = refl
functions-cons (function_declared f) ds = refl

named-join : (d : Declaration) (ds : List Declaration) → AreAllNamed (d ∷ []) → AreAllNamed ds → AreAllNamed (d ∷ ds)
named-join (alias_declared a) ds h g = g
named-join (function_declared f) ds h g = (h.0, g)

named-parts : (d : Declaration) (ds : List Declaration) → AreAllNamed (d ∷ ds) → AreAllNamed (d ∷ []) × AreAllNamed ds
named-parts (alias_declared a) ds h = (tt, h)
named-parts (function_declared f) ds h = ((h.0, tt), h.1)

well-join : (types functions : List ℕ) (d : Declaration) (ds : List Declaration) → AreWell types functions (d ∷ []) → AreWell (types ++ type_names (d ∷ [])) (functions ++ function_names (d ∷ [])) ds
    → AreWell types functions (d ∷ ds)
well-join types functions d ds a b =
    let e = types-cons d ds in
    let g = functions-cons d ds in
    let l = length-append (function_names (d ∷ [])) (function_names ds) in
    let m = length-append functions (function_names (d ∷ [])) in
    let c : length (function_names (d ∷ ds)) ≡ length (function_names (d ∷ [])) + length (function_names ds) = ap length g ∙ l in
    let few = b.few in
    record {
      new_types = subst (λ l. are_new types l ≡ true) (sym e) (new_whole types (type_names (d ∷ [])) (type_names ds) a.new_types b.new_types);
      new_functions = subst (λ l. are_new functions l ≡ true) (sym g) (new_whole functions (function_names (d ∷ [])) (function_names ds) a.new_functions b.new_functions);
      few = omega (arith, few, m, c);
      named = named-join d ds a.named b.named;
    }

well-parts : (types functions : List ℕ) (d : Declaration) (ds : List Declaration) → AreWell types functions (d ∷ ds)
    → AreWell types functions (d ∷ []) × AreWell (types ++ type_names (d ∷ [])) (functions ++ function_names (d ∷ [])) ds
well-parts types functions d ds a =
    let e = types-cons d ds in
    let g = functions-cons d ds in
    let l = length-append (function_names (d ∷ [])) (function_names ds) in
    let m = length-append functions (function_names (d ∷ [])) in
    let c : length (function_names (d ∷ ds)) ≡ length (function_names (d ∷ [])) + length (function_names ds) = ap length g ∙ l in
    let few = a.few in
    let t = new_parts types (type_names (d ∷ [])) (type_names ds) (subst (λ l. are_new types l ≡ true) e a.new_types) in
    let f = new_parts functions (function_names (d ∷ [])) (function_names ds) (subst (λ l. are_new functions l ≡ true) g a.new_functions) in
    let n = named-parts d ds a.named in
    (record { new_types = t.0; new_functions = f.0; few = omega (arith, few, c); named = n.0 }, record { new_types = t.1; new_functions = f.1; few = omega (arith, few, m, c); named = n.1 })

declared_joined : (s : Bound) (u w : List Tok) (d : Declaration) (ds : List Declaration) (a : Declare s u (d ∷ [])) → Declare a.next w ds → Declare s (u ++ w) (d ∷ ds)
declared_joined s u w d ds a b =
    let e : bound (at at_body s) (u ++ w) ≡ bound (at at_body a.next) w = bound-append (at at_body s) u w ∙ ap (λ r. bound r w) a.is in
    let P : List ℕ → List ℕ → Type 0 = λ t f. AreWell t f ds in
    record {
      next = b.next;
      is = e ∙ b.is;
      types = b.types ∙ ap (λ l. l ++ type_names ds) a.types ∙ append_assoc s.types (type_names (d ∷ [])) (type_names ds) ∙ ap (λ l. s.types ++ l) (sym (types-cons d ds));
      functions = b.functions ∙ ap (λ l. l ++ function_names ds) a.functions ∙ append_assoc s.functions (function_names (d ∷ [])) (function_names ds) ∙ ap (λ l. s.functions ++ l) (sym (functions-cons d ds));
      forth = λ h c.
          let parts = fine-front (at at_body s) u w h in
          let x = a.forth parts.0 c in
          let m = length-append s.functions (function_names (d ∷ [])) in
          let n : length a.next.functions ≡ length s.functions + length (function_names (d ∷ [])) = ap length a.functions ∙ m in
          let few = x.few in
          let y = b.forth (subst (λ r. Fine r w) a.is parts.1) (omega (arith, n, few)) in
          well-join s.types s.functions d ds x (subst (λ t. P t (s.functions ++ function_names (d ∷ []))) a.types (subst (λ f. P a.next.types f) a.functions y));
      back = λ h.
          let parts = well-parts s.types s.functions d ds h in
          let y = b.back (subst (λ t. P t a.next.functions) (sym a.types) (subst (λ f. P (s.types ++ type_names (d ∷ [])) f) (sym a.functions) parts.1)) in
          fine-join (at at_body s) u w (a.back parts.0) (subst (λ r. Fine r w) (sym a.is) y);
    }

pub declares_join : {u w : List Tok} (d : Declaration) (ds : List Declaration) → Declares u (d ∷ []) → Declares w ds → Declares (u ++ w) (d ∷ ds)
declares_join {u = u} {w = w} d ds a b = record { declare = λ s. declared_joined s u w d ds (a.declare s) (b.declare (a.declare s).next) }

pub declares_none : Declares [] []
declares_none = record {
  declare = λ s. record {
    next = s;
    is = refl;
    types = sym (append-nil s.types);
    functions = sym (append-nil s.functions);
    forth = λ h c. record { new_types = refl; new_functions = refl; few = omega (arith, c); named = tt };
    back = λ h. tt;
  };
}

-- an alias: its two first tokens, and what leaves the names as they are
alias_at : (t r : Tok) (w : List Tok) (a : WrittenAlias) (s : Bound) → a.name ≡ r.worth.name → Same at_body at_body w → Declare s (made TypeWord t ∷ made NameToken r ∷ w) (alias_declared a ∷ [])
alias_at t r w a s n same =
    let next : Bound = record (begun s) { types = s.types ++ (r.worth.name ∷ []) } in
    record {
      next = next;
      is = same.is next;
      types = ap (λ x. s.types ++ (x ∷ [])) (sym n);
      functions = sym (append-nil s.functions);
      forth = λ h c. record {
        new_types = subst (λ x. are_new s.types (x ∷ []) ≡ true) (sym n) (one_new s.types r.worth.name h.1.1.0);
        new_functions = refl;
        few = omega (arith, c);
        named = tt;
      };
      back = λ h. (refl, (refl, (one_is_new s.types r.worth.name (subst (λ x. are_new s.types (x ∷ []) ≡ true) n h.new_types), (refl, same.fine next))));
    }

pub alias_declares : (t r : Tok) (w : List Tok) (a : WrittenAlias) → is_kind TypeWord t.kind ≡ true → is_kind NameToken r.kind ≡ true → a.name ≡ r.worth.name → Same at_body at_body w
    → Declares (t ∷ r ∷ w) (alias_declared a ∷ [])
alias_declares t r w a h g n same = record {
  declare = λ s.
      subst (λ i. Declare s (made i t ∷ r ∷ w) (alias_declared a ∷ [])) (sym (kind_is TypeWord t.kind h))
      (subst (λ j. Declare s (made TypeWord t ∷ made j r ∷ w) (alias_declared a ∷ [])) (sym (kind_is NameToken r.kind g)) (alias_at t r w a s n same));
}

-- a function or `main` is named well
named_well : (f : WrittenFunction) → are_new [] (header_names f) ≡ true → twice_in f.body ≡ 0 → 0 + (length (header_names f) + bound_in f.body) ≤ 1024 → IsNamed f
named_well f a b c = record { parameters = a; pairs = b; few = omega (arith, c) }

not_full : (n : ℕ) → nat_le 1000 n ≡ false → n + 1 ≤ 1000
not_full n h = grind arith

room : (n : ℕ) → n + 1 ≤ 1000 → nat_le 1000 n ≡ false
room n h = grind arith

function_at : (t r : Tok) (w : List Tok) (f : WrittenFunction) (s : Bound) → f.name ≡ r.worth.name → Tails at_header w (header_names f) (bound_in f.body) (twice_in f.body)
    → Declare s (made FunWord t ∷ made NameToken r ∷ w) (function_declared f ∷ [])
function_at t r w f s n rest =
    let inside : Bound = record (begun s) { functions = s.functions ++ (r.worth.name ∷ []) } in
    let tail = rest.tail inside in
    record {
      next = tail.next;
      is = tail.is;
      types = tail.types ∙ sym (append-nil s.types);
      functions = tail.functions ∙ ap (λ x. s.functions ++ (x ∷ [])) (sym n);
      forth = λ h c. record {
        new_types = refl;
        new_functions = subst (λ x. are_new s.functions (x ∷ []) ≡ true) (sym n) (one_new s.functions r.worth.name h.1.1.0);
        few = not_full (length s.functions) h.1.1.1.0;
        named = (named_well f (tail.apart h.1.1.1.1 (omega arith)) (tail.pairs h.1.1.1.1 (omega arith)) (tail.few h.1.1.1.1 (omega arith)), tt);
      };
      back = λ h.
          let is_named : IsNamed f = h.named.0 in
          let few = is_named.few in
          let count = h.few in (
            refl,
            (
              refl,
              (
                one_is_new s.functions r.worth.name (subst (λ x. are_new s.functions (x ∷ []) ≡ true) n h.new_functions),
                (room (length s.functions) (omega (arith, count)), tail.back is_named.parameters is_named.pairs (omega (arith, few))),
              ),
            ),
          );
    }

pub function_declares : (t r : Tok) (w : List Tok) (f : WrittenFunction) → is_kind FunWord t.kind ≡ true → is_kind NameToken r.kind ≡ true → f.name ≡ r.worth.name
    → Tails at_header w (header_names f) (bound_in f.body) (twice_in f.body) → Declares (t ∷ r ∷ w) (function_declared f ∷ [])
function_declares t r w f h g n rest = record {
  declare = λ s.
      subst (λ i. Declare s (made i t ∷ r ∷ w) (function_declared f ∷ [])) (sym (kind_is FunWord t.kind h))
      (subst (λ j. Declare s (made FunWord t ∷ made j r ∷ w) (function_declared f ∷ [])) (sym (kind_is NameToken r.kind g)) (function_at t r w f s n rest));
}

-- `main`
pub record Mains (u : List Tok) (m : WrittenFunction) : Type 0 where
  pub forth : (s : Bound) → Fine (at at_body s) u → IsNamed m
  pub back : (s : Bound) → IsNamed m → Fine (at at_body s) u

main_at : (t : Tok) (w : List Tok) (m : WrittenFunction) → Tails at_header w (header_names m) (bound_in m.body) (twice_in m.body) → Mains (made MainWord t ∷ w) m
main_at t w m rest = record {
  forth = λ s h.
      let tail = rest.tail (begun s) in
      named_well m (tail.apart h.1.1 (omega arith)) (tail.pairs h.1.1 (omega arith)) (tail.few h.1.1 (omega arith));
  back = λ s h. (let few = h.few in (refl, (refl, (rest.tail (begun s)).back h.parameters h.pairs (omega (arith, few)))));
}

pub main_mains : (t : Tok) (w : List Tok) (m : WrittenFunction) → is_kind MainWord t.kind ≡ true → Tails at_header w (header_names m) (bound_in m.body) (twice_in m.body) → Mains (t ∷ w) m
main_mains t w m h rest = subst (λ i. Mains (made i t ∷ w) m) (sym (kind_is MainWord t.kind h)) (main_at t w m rest)
