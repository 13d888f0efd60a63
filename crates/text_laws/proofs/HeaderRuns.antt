-- How the names that are told token by token go on, over the tokens of a header.
use Rattle.std.proofs.Common.{◌≡◌, ◌∙◌, ℕ, ◌+◌, ◌≤◌, Bool, true, false, ◌&&◌, not, List, [], ◌∷◌, ◌++◌, length, refl, sym, ap, ap₂, subst, arith, append-nil, append_assoc, length-append}
use Rattle.std.specs.Prelude.{◌==◌}
use Rattle.std.specs.List.{list_any}
use Rattle.std.proofs.lemmas.Bool.{and_parts}
use Rattle.delta_parse.specs.declared.terminal.Terminal.TheVariants.{Open, OpenBrace, Close, CloseBrace, Comma, Semicolon, Colon, Equals, NameToken}
use Rattle.delta_parse.specs.Terminals.{Tok, is_kind}
use Rattle.delta_parse.specs.Bindings.{Bound, bound}
use Rattle.text_laws.specs.TreeNames.{are_new}
use Rattle.text_laws.proofs.TokenKinds.{kind_is}
use Rattle.text_laws.proofs.NameRuns.{Stand, at_body, at_header, at_type, Fine, bound-append, fine-front, fine-join, at, Same, goes, made, not_full, room}

-- LISTS OF NAMES

and_assoc : (a b c : Bool) → a && (b && c) ≡ (a && b) && c
and_assoc true b c = refl
and_assoc false b c = refl

pub are_new-append : (before xs ys : List ℕ) → are_new before (xs ++ ys) ≡ are_new before xs && are_new (before ++ xs) ys
are_new-append before [] ys = ap (λ b. are_new b ys) (sym (append-nil before))
are_new-append before (x ∷ xs) ys =
    ap (λ b. not (list_any (λ m. m == x) before) && b) (are_new-append (before ++ (x ∷ [])) xs ys)
    ∙ and_assoc (not (list_any (λ m. m == x) before)) (are_new (before ++ (x ∷ [])) xs) (are_new ((before ++ (x ∷ [])) ++ xs) ys)
    ∙ ap (λ l. (not (list_any (λ m. m == x) before) && are_new (before ++ (x ∷ [])) xs) && are_new l ys) (append_assoc before (x ∷ []) xs)

pub new_parts : (before xs ys : List ℕ) → are_new before (xs ++ ys) ≡ true → (are_new before xs ≡ true) × (are_new (before ++ xs) ys ≡ true)
new_parts before xs ys h = and_parts _ _ (sym (are_new-append before xs ys) ∙ h)

pub new_whole : (before xs ys : List ℕ) → are_new before xs ≡ true → are_new (before ++ xs) ys ≡ true → are_new before (xs ++ ys) ≡ true
new_whole before xs ys h g = are_new-append before xs ys ∙ ap₂ (λ a b. a && b) h g

pub one_new : (before : List ℕ) (x : ℕ) → list_any (λ m. m == x) before ≡ false → are_new before (x ∷ []) ≡ true
one_new before x h = ap (λ b. not b && true) h

pub one_is_new : (before : List ℕ) (x : ℕ) → are_new before (x ∷ []) ≡ true → list_any (λ m. m == x) before ≡ false
one_is_new before x h = go (list_any (λ m. m == x) before) h
  where
    go : (b : Bool) → not b && true ≡ true → b ≡ false
    go true e = absurd (cc e)
    go false e = refl

-- HEADERS

-- from one stand to another the tokens bind these names, each together with all that were bound in the header
pub record Bind (from to : Stand) (s : Bound) (u : List Tok) (names : List ℕ) : Type 0 where
  pub next : Bound
  pub is : bound (at from s) u ≡ at to next
  pub types : next.types ≡ s.types
  pub functions : next.functions ≡ s.functions
  pub count : next.count ≡ s.count + length names
  pub together : next.together ≡ s.together ++ names
  pub forth : Fine (at from s) u → s.count ≤ 1024 → (are_new s.together names ≡ true) × (s.count + length names ≤ 1024)
  pub back : are_new s.together names ≡ true → s.count + length names ≤ 1024 → Fine (at from s) u

pub record Binds (from to : Stand) (u : List Tok) (names : List ℕ) : Type 0 where
  pub bind : (s : Bound) → Bind from to s u names

joined : (from mid to : Stand) (s : Bound) (u w : List Tok) (xs ys : List ℕ) (a : Bind from mid s u xs) → Bind mid to a.next w ys → Bind from to s (u ++ w) (xs ++ ys)
joined from mid to s u w xs ys a b =
    let e : bound (at from s) (u ++ w) ≡ bound (at mid a.next) w = bound-append (at from s) u w ∙ ap (λ r. bound r w) a.is in
    let l : length (xs ++ ys) ≡ length xs + length ys = length-append xs ys in
    record {
      next = b.next;
      is = e ∙ b.is;
      types = b.types ∙ a.types;
      functions = b.functions ∙ a.functions;
      count = (let p = a.count in let q = b.count in omega (arith, p, q, l));
      together = b.together ∙ ap (λ l. l ++ ys) a.together ∙ append_assoc s.together xs ys;
      forth = λ h c.
          let parts = fine-front (at from s) u w h in
          let x = a.forth parts.0 c in
          let p = a.count in
          let y = b.forth (subst (λ r. Fine r w) a.is parts.1) (omega (arith, p, x.1)) in
          (new_whole s.together xs ys x.0 (subst (λ l. are_new l ys ≡ true) a.together y.0), omega (arith, p, y.1, l));
      back = λ z c.
          let p = a.count in
          let parts = new_parts s.together xs ys z in
          let x : Fine (at from s) u = a.back parts.0 (omega (arith, c, l)) in
          let y : Fine (at mid a.next) w = b.back (subst (λ l. are_new l ys ≡ true) (sym a.together) parts.1) (omega (arith, p, c, l)) in
          fine-join (at from s) u w x (subst (λ r. Fine r w) (sym a.is) y);
    }

pub binds_join : {from mid to : Stand} {u w : List Tok} {xs ys : List ℕ} → Binds from mid u xs → Binds mid to w ys → Binds from to (u ++ w) (xs ++ ys)
binds_join {from = from} {mid = mid} {to = to} {u = u} {w = w} {xs = xs} {ys = ys} a b = record { bind = λ s. joined from mid to s u w xs ys (a.bind s) (b.bind (a.bind s).next) }

-- the same names, told otherwise
pub named_as : {from to : Stand} {u : List Tok} {xs : List ℕ} (ys : List ℕ) → Binds from to u xs → xs ≡ ys → Binds from to u ys
named_as {from = from} {to = to} {u = u} ys a e = subst (λ l. Binds from to u l) e a

-- tokens that bind no name
pub silent : {from to : Stand} {u : List Tok} → Same from to u → Binds from to u []
silent {from = from} {to = to} {u = u} a = record {
  bind = λ s. record {
    next = s;
    is = a.is s;
    types = refl;
    functions = refl;
    count = omega arith;
    together = sym (append-nil s.together);
    forth = λ h c. (refl, omega arith);
    back = λ z c. a.fine s;
  };
}

parameter_at : (t : Tok) (s : Bound) → Bind at_header at_header s (made NameToken t ∷ []) (t.worth.name ∷ [])
parameter_at t s = record {
  next = record s { count = s.count + 1; together = s.together ++ (t.worth.name ∷ []) };
  is = refl;
  types = refl;
  functions = refl;
  count = refl;
  together = refl;
  forth = λ h c. (one_new s.together t.worth.name h.0, not_full s.count h.1.0);
  back = λ z c. (one_is_new s.together t.worth.name z, (room s.count c, tt));
}

-- a parameter's name
pub parameter_name : (t : Tok) → is_kind NameToken t.kind ≡ true → Binds at_header at_header (t ∷ []) (t.worth.name ∷ [])
parameter_name t h = record { bind = λ s. subst (λ i. Bind at_header at_header s (made i t ∷ []) (t.worth.name ∷ [])) (sym (kind_is NameToken t.kind h)) (parameter_at t s) }

pub colon_begins : (t : Tok) → is_kind Colon t.kind ≡ true → Same at_header at_type (t ∷ [])
colon_begins = goes Colon at_header at_type (λ t. record { is = λ s. refl; fine = λ s. (refl, (refl, tt)) })

pub colon_goes_on : (t : Tok) → is_kind Colon t.kind ≡ true → Same at_type at_type (t ∷ [])
colon_goes_on = goes Colon at_type at_type (λ t. record { is = λ s. refl; fine = λ s. (refl, (refl, tt)) })

pub bracket_opens : (t : Tok) → is_kind Open t.kind ≡ true → Same at_header at_header (t ∷ [])
bracket_opens = goes Open at_header at_header (λ t. record { is = λ s. refl; fine = λ s. (refl, (refl, tt)) })

pub bracket_closes : (t : Tok) → is_kind Close t.kind ≡ true → Same at_header at_header (t ∷ [])
bracket_closes = goes Close at_header at_header (λ t. record { is = λ s. refl; fine = λ s. (refl, (refl, tt)) })

pub type_closes : (t : Tok) → is_kind Close t.kind ≡ true → Same at_type at_type (t ∷ [])
type_closes = goes Close at_type at_type (λ t. record { is = λ s. refl; fine = λ s. (refl, (refl, tt)) })

pub brace_opens : (t : Tok) → is_kind OpenBrace t.kind ≡ true → Same at_header at_header (t ∷ [])
brace_opens = goes OpenBrace at_header at_header (λ t. record { is = λ s. refl; fine = λ s. (refl, (refl, tt)) })

pub brace_closes : (t : Tok) → is_kind CloseBrace t.kind ≡ true → Same at_type at_header (t ∷ [])
brace_closes = goes CloseBrace at_type at_header (λ t. record { is = λ s. refl; fine = λ s. (refl, (refl, tt)) })

pub comma_parts : (t : Tok) → is_kind Comma t.kind ≡ true → Same at_type at_header (t ∷ [])
comma_parts = goes Comma at_type at_header (λ t. record { is = λ s. refl; fine = λ s. (refl, (refl, tt)) })

pub semicolon_parts : (t : Tok) → is_kind Semicolon t.kind ≡ true → Same at_type at_header (t ∷ [])
semicolon_parts = goes Semicolon at_type at_header (λ t. record { is = λ s. refl; fine = λ s. (refl, (refl, tt)) })

pub equals_ends : (t : Tok) → is_kind Equals t.kind ≡ true → Same at_type at_body (t ∷ [])
equals_ends = goes Equals at_type at_body (λ t. record { is = λ s. refl; fine = λ s. (refl, (refl, tt)) })
