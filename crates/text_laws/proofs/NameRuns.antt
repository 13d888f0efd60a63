-- How the names that are told token by token go on, over tokens that bind names in a body.
use Rattle.std.proofs.Common.{◌≡◌, ◌∙◌, ℕ, ◌+◌, ◌≤◌, Bool, true, false, List, [], ◌∷◌, ◌++◌, refl, sym, ap, subst, arith}
use Rattle.std.specs.Prelude.{◌==◌, ◌||◌, nat_le, if◌then◌else◌}
use Rattle.delta_parse.specs.declared.terminal.Terminal.{Terminal}
use Rattle.delta_parse.specs.declared.terminal.Terminal.TheVariants.{FunWord, MainWord, TypeWord, LetWord, OfWord, InlWord, InrWord, NilWord, EpsWord, WithWord, IntWord, Open, Close, OpenBrace, Comma, Semicolon, Colon, Colons, Equals, Arrow, Bar, Bars, Plus, Times, Dot, NameToken, OneToken}
use Rattle.delta_parse.specs.Terminals.{Tok, is_kind}
use Rattle.delta_parse.specs.Bindings.{Bound, in_header, before_first, after_token, bound, none_bound, is_repeated, is_excess}
use Rattle.text_laws.specs.TreeNames.{same_names}
use Rattle.text_laws.proofs.TokenKinds.{kind_is}

-- none of the tokens is a name twice, or one too many, behind these names
abbrev pub Fine : Bound → List Tok → Type 0
Fine s [] = Unit {0}
Fine s (t ∷ ts) = (is_repeated s t ≡ false) × ((is_excess s t ≡ false) × Fine (after_token s t) ts)

pub bound-append : (s : Bound) (u w : List Tok) → bound s (u ++ w) ≡ bound (bound s u) w
bound-append s [] w = refl
bound-append s (t ∷ u) w = bound-append (after_token s t) u w

pub fine-front : (s : Bound) (u w : List Tok) → Fine s (u ++ w) → Fine s u × Fine (bound s u) w
fine-front s [] w h = (tt, h)
fine-front s (t ∷ u) w (a, (b, h)) = (let k = fine-front (after_token s t) u w h in ((a, (b, k.0)), k.1))

pub fine-join : (s : Bound) (u w : List Tok) → Fine s u → Fine (bound s u) w → Fine s (u ++ w)
fine-join s [] w h g = g
fine-join s (t ∷ u) w (a, (b, h)) g = (a, (b, fine-join (after_token s t) u w h g))

-- where the next token stands: in a body, in a header, in a header's type, where a name is to be bound, or behind one
pub data Stand : Type 0 where
  at_body : Stand
  at_header : Stand
  at_type : Stand
  at_first : Stand
  at_bound : Stand

-- the same names, where the next token stands so
abbrev pub at : Stand → Bound → Bound
at at_body s = record s { stand = none_bound.stand }
at at_header s = record s { stand = in_header Comma }
at at_type s = record s { stand = in_header Colon }
at at_first s = record s { stand = before_first Open }
at at_bound s = record s { stand = before_first NameToken }

-- from one stand to another the tokens bind n names, and k of them that are bound together are the same
pub record Step (from to : Stand) (s : Bound) (u : List Tok) (n k : ℕ) : Type 0 where
  pub next : Bound
  pub is : bound (at from s) u ≡ at to next
  pub types : next.types ≡ s.types
  pub functions : next.functions ≡ s.functions
  pub count : next.count ≡ s.count + n
  pub forth : Fine (at from s) u → s.count ≤ 1024 → (k ≡ 0) × (s.count + n ≤ 1024)
  pub back : k ≡ 0 → s.count + n ≤ 1024 → Fine (at from s) u

-- so it is behind any names
pub record Steps (from to : Stand) (u : List Tok) (n k : ℕ) : Type 0 where
  pub step : (s : Bound) → Step from to s u n k

joined : (from mid to : Stand) (s : Bound) (u w : List Tok) (n m k j : ℕ) (a : Step from mid s u n k) → Step mid to a.next w m j → Step from to s (u ++ w) (n + m) (k + j)
joined from mid to s u w n m k j a b =
    let e : bound (at from s) (u ++ w) ≡ bound (at mid a.next) w = bound-append (at from s) u w ∙ ap (λ r. bound r w) a.is in
    record {
      next = b.next;
      is = e ∙ b.is;
      types = b.types ∙ a.types;
      functions = b.functions ∙ a.functions;
      count = (let p = a.count in let q = b.count in omega (arith, p, q));
      forth = λ h c.
          let parts = fine-front (at from s) u w h in
          let x = a.forth parts.0 c in
          let p = a.count in
          let y = b.forth (subst (λ r. Fine r w) a.is parts.1) (omega (arith, p, x.1)) in
          (omega (arith, x.0, y.0), omega (arith, p, y.1));
      back = λ z c.
          let p = a.count in
          let x : Fine (at from s) u = a.back (omega (arith, z)) (omega (arith, c)) in
          let y : Fine (at mid a.next) w = b.back (omega (arith, z)) (omega (arith, p, c)) in
          fine-join (at from s) u w x (subst (λ r. Fine r w) (sym a.is) y);
    }

pub joins : {from mid to : Stand} {u w : List Tok} {n m k j : ℕ} → Steps from mid u n k → Steps mid to w m j → Steps from to (u ++ w) (n + m) (k + j)
joins {from = from} {mid = mid} {to = to} {u = u} {w = w} {n = n} {m = m} {k = k} {j = j} a b = record { step = λ s. joined from mid to s u w n m k j (a.step s) (b.step (a.step s).next) }

-- the same numbers, told otherwise
pub told_as : {from to : Stand} {u : List Tok} {n k : ℕ} (m j : ℕ) → Steps from to u n k → n ≡ m → k ≡ j → Steps from to u m j
told_as {from = from} {to = to} {u = u} {n = n} {k = k} m j a e g =
    subst (λ i. Steps from to u i j) e (subst (λ i. Steps from to u n i) g a)

-- ONE TOKEN

-- from one stand to another the tokens leave all names as they are
pub record Same (from to : Stand) (u : List Tok) : Type 0 where
  pub is : (s : Bound) → bound (at from s) u ≡ at to s
  pub fine : (s : Bound) → Fine (at from s) u

pub same_join : {from mid to : Stand} {u w : List Tok} → Same from mid u → Same mid to w → Same from to (u ++ w)
same_join {from = from} {mid = mid} {to = to} {u = u} {w = w} a b = record {
  is = λ s. bound-append (at from s) u w ∙ ap (λ r. bound r w) (a.is s) ∙ b.is s;
  fine = λ s. fine-join (at from s) u w (a.fine s) (subst (λ r. Fine r w) (sym (a.is s)) (b.fine s));
}

-- they bind none
pub still : {from to : Stand} {u : List Tok} → Same from to u → Steps from to u 0 0
still {from = from} {to = to} {u = u} a = record {
  step = λ s. record {
    next = s;
    is = a.is s;
    types = refl;
    functions = refl;
    count = omega arith;
    forth = λ h c. (refl, omega arith);
    back = λ z c. a.fine s;
  };
}

-- in a body any token but these words and the bar leaves the names as they are
abbrev pub is_quiet : Terminal → Bool
is_quiet TypeWord = false
is_quiet FunWord = false
is_quiet MainWord = false
is_quiet LetWord = false
is_quiet WithWord = false
is_quiet OfWord = false
is_quiet Bar = false
is_quiet _ = true

-- the tokens of types leave a header's type as well
abbrev pub is_of_type : Terminal → Bool
is_of_type EpsWord = true
is_of_type OneToken = true
is_of_type IntWord = true
is_of_type NameToken = true
is_of_type Open = true
is_of_type Close = true
is_of_type Plus = true
is_of_type Bars = true
is_of_type Dot = true
is_of_type Times = true
is_of_type _ = false

-- a token of a kind
abbrev pub made : Terminal → Tok → Tok
made k t = record t { kind = k }

quiet_at : (k : Terminal) → is_quiet k ≡ true → (t : Tok) → Same at_body at_body (made k t ∷ [])
quiet_at TypeWord h t = absurd (cc h)
quiet_at FunWord h t = absurd (cc h)
quiet_at MainWord h t = absurd (cc h)
quiet_at LetWord h t = absurd (cc h)
quiet_at WithWord h t = absurd (cc h)
quiet_at OfWord h t = absurd (cc h)
quiet_at Bar h t = absurd (cc h)
quiet_at k h t = record { is = λ s. refl; fine = λ s. (refl, (refl, tt)) }

pub quiet : (t : Tok) → is_quiet t.kind ≡ true → Same at_body at_body (t ∷ [])
quiet t h = quiet_at t.kind h t

in_type_at : (k : Terminal) → is_of_type k ≡ true → (t : Tok) → Same at_type at_type (made k t ∷ [])
in_type_at EpsWord h t = record { is = λ s. refl; fine = λ s. (refl, (refl, tt)) }
in_type_at OneToken h t = record { is = λ s. refl; fine = λ s. (refl, (refl, tt)) }
in_type_at IntWord h t = record { is = λ s. refl; fine = λ s. (refl, (refl, tt)) }
in_type_at NameToken h t = record { is = λ s. refl; fine = λ s. (refl, (refl, tt)) }
in_type_at Open h t = record { is = λ s. refl; fine = λ s. (refl, (refl, tt)) }
in_type_at Close h t = record { is = λ s. refl; fine = λ s. (refl, (refl, tt)) }
in_type_at Plus h t = record { is = λ s. refl; fine = λ s. (refl, (refl, tt)) }
in_type_at Bars h t = record { is = λ s. refl; fine = λ s. (refl, (refl, tt)) }
in_type_at Dot h t = record { is = λ s. refl; fine = λ s. (refl, (refl, tt)) }
in_type_at Times h t = record { is = λ s. refl; fine = λ s. (refl, (refl, tt)) }
in_type_at k h t = absurd (cc h)

type_is_quiet : (k : Terminal) → is_of_type k ≡ true → is_quiet k ≡ true
type_is_quiet TypeWord h = absurd (cc h)
type_is_quiet FunWord h = absurd (cc h)
type_is_quiet MainWord h = absurd (cc h)
type_is_quiet LetWord h = absurd (cc h)
type_is_quiet WithWord h = absurd (cc h)
type_is_quiet OfWord h = absurd (cc h)
type_is_quiet Bar h = absurd (cc h)
type_is_quiet k h = refl

-- the tokens are those of a type
abbrev pub AreOfType : List Tok → Type 0
AreOfType [] = Unit {0}
AreOfType (t ∷ ts) = (is_of_type t.kind ≡ true) × AreOfType ts

pub types_in_body : (u : List Tok) → AreOfType u → Same at_body at_body u
types_in_body [] h = record { is = λ s. refl; fine = λ s. tt }
types_in_body (t ∷ ts) (a, h) = same_join (quiet t (type_is_quiet t.kind a)) (types_in_body ts h)

pub types_in_header : (u : List Tok) → AreOfType u → Same at_type at_type u
types_in_header [] h = record { is = λ s. refl; fine = λ s. tt }
types_in_header (t ∷ ts) (a, h) = same_join (in_type_at t.kind a t) (types_in_header ts h)

-- a token of this kind goes from one stand to another, and binds no name
pub goes : (k : Terminal) (from to : Stand) → ((t : Tok) → Same from to (made k t ∷ [])) → (t : Tok) → is_kind k t.kind ≡ true → Same from to (t ∷ [])
goes k from to f t h = subst (λ i. Same from to (made i t ∷ [])) (sym (kind_is k t.kind h)) (f t)

pub let_word : (t : Tok) → is_kind LetWord t.kind ≡ true → Same at_body at_first (t ∷ [])
let_word = goes LetWord at_body at_first (λ t. record { is = λ s. refl; fine = λ s. (refl, (refl, tt)) })

pub with_word : (t : Tok) → is_kind WithWord t.kind ≡ true → Same at_body at_first (t ∷ [])
with_word = goes WithWord at_body at_first (λ t. record { is = λ s. refl; fine = λ s. (refl, (refl, tt)) })

pub of_word : (t : Tok) → is_kind OfWord t.kind ≡ true → Same at_body at_first (t ∷ [])
of_word = goes OfWord at_body at_first (λ t. record { is = λ s. refl; fine = λ s. (refl, (refl, tt)) })

pub bar : (t : Tok) → is_kind Bar t.kind ≡ true → Same at_body at_first (t ∷ [])
bar = goes Bar at_body at_first (λ t. record { is = λ s. refl; fine = λ s. (refl, (refl, tt)) })

pub open_first : (t : Tok) → is_kind Open t.kind ≡ true → Same at_first at_first (t ∷ [])
open_first = goes Open at_first at_first (λ t. record { is = λ s. refl; fine = λ s. (refl, (refl, tt)) })

pub brace_first : (t : Tok) → is_kind OpenBrace t.kind ≡ true → Same at_first at_first (t ∷ [])
brace_first = goes OpenBrace at_first at_first (λ t. record { is = λ s. refl; fine = λ s. (refl, (refl, tt)) })

pub inl_first : (t : Tok) → is_kind InlWord t.kind ≡ true → Same at_first at_first (t ∷ [])
inl_first = goes InlWord at_first at_first (λ t. record { is = λ s. refl; fine = λ s. (refl, (refl, tt)) })

pub inr_first : (t : Tok) → is_kind InrWord t.kind ≡ true → Same at_first at_first (t ∷ [])
inr_first = goes InrWord at_first at_first (λ t. record { is = λ s. refl; fine = λ s. (refl, (refl, tt)) })

pub nil_first : (t : Tok) → is_kind NilWord t.kind ≡ true → Same at_first at_body (t ∷ [])
nil_first = goes NilWord at_first at_body (λ t. record { is = λ s. refl; fine = λ s. (refl, (refl, tt)) })

pub arrow_behind : (t : Tok) → is_kind Arrow t.kind ≡ true → Same at_bound at_body (t ∷ [])
arrow_behind = goes Arrow at_bound at_body (λ t. record { is = λ s. refl; fine = λ s. (refl, (refl, tt)) })

pub equals_behind : (t : Tok) → is_kind Equals t.kind ≡ true → Same at_bound at_body (t ∷ [])
equals_behind = goes Equals at_bound at_body (λ t. record { is = λ s. refl; fine = λ s. (refl, (refl, tt)) })

-- NAMES

pub not_full : (n : ℕ) → nat_le 1024 n ≡ false → n + 1 ≤ 1024
not_full n h = grind arith

pub room : (n : ℕ) → n + 1 ≤ 1024 → nat_le 1024 n ≡ false
room n h = grind arith

-- a first name
first_at : (t : Tok) (s : Bound) → Step at_first at_bound s (made NameToken t ∷ []) 1 0
first_at t s = record {
  next = record s { count = s.count + 1; together = t.worth.name ∷ [] };
  is = refl;
  types = refl;
  functions = refl;
  count = refl;
  forth = λ h c. (refl, not_full s.count h.1.0);
  back = λ z c. (refl, (room s.count c, tt));
}

pub first_name : (t : Tok) → is_kind NameToken t.kind ≡ true → Steps at_first at_bound (t ∷ []) 1 0
first_name t h = record { step = λ s. subst (λ i. Step at_first at_bound s (made i t ∷ []) 1 0) (sym (kind_is NameToken t.kind h)) (first_at t s) }

same_false : (b : Bool) → (b || false) ≡ false → (let n : ℕ = if b then 1 else 0 in n ≡ 0)
same_false true h = absurd (cc h)
same_false false h = refl

same_zero : (b : Bool) → (let n : ℕ = if b then 1 else 0 in n ≡ 0) → (b || false) ≡ false
same_zero true h = absurd (omega (arith, h))
same_zero false h = refl

-- two names that are bound together, with a sign between them
abbrev pub is_between : Terminal → Bool
is_between Comma = true
is_between Semicolon = true
is_between Colons = true
is_between _ = false

pair_at : (k : Terminal) → is_between k ≡ true → (t c r : Tok) (s : Bound) → Step at_first at_body s (made NameToken t ∷ made k c ∷ made NameToken r ∷ []) 2 (same_names t.worth.name r.worth.name)
pair_at Comma h t c r s = record {
  next = record s { count = s.count + 1 + 1; together = t.worth.name ∷ r.worth.name ∷ [] };
  is = refl;
  types = refl;
  functions = refl;
  count = omega arith;
  forth = λ h c. (same_false (t.worth.name == r.worth.name) h.1.1.1.1.0, (let f = not_full (s.count + 1) h.1.1.1.1.1.0 in omega (arith, f)));
  back = λ z c. (refl, (room s.count (omega (arith, c)), (refl, (refl, (same_zero (t.worth.name == r.worth.name) z, (room (s.count + 1) (omega (arith, c)), tt))))));
}
pair_at Semicolon h t c r s = record {
  next = record s { count = s.count + 1 + 1; together = t.worth.name ∷ r.worth.name ∷ [] };
  is = refl;
  types = refl;
  functions = refl;
  count = omega arith;
  forth = λ h c. (same_false (t.worth.name == r.worth.name) h.1.1.1.1.0, (let f = not_full (s.count + 1) h.1.1.1.1.1.0 in omega (arith, f)));
  back = λ z c. (refl, (room s.count (omega (arith, c)), (refl, (refl, (same_zero (t.worth.name == r.worth.name) z, (room (s.count + 1) (omega (arith, c)), tt))))));
}
pair_at Colons h t c r s = record {
  next = record s { count = s.count + 1 + 1; together = t.worth.name ∷ r.worth.name ∷ [] };
  is = refl;
  types = refl;
  functions = refl;
  count = omega arith;
  forth = λ h c. (same_false (t.worth.name == r.worth.name) h.1.1.1.1.0, (let f = not_full (s.count + 1) h.1.1.1.1.1.0 in omega (arith, f)));
  back = λ z c. (refl, (room s.count (omega (arith, c)), (refl, (refl, (same_zero (t.worth.name == r.worth.name) z, (room (s.count + 1) (omega (arith, c)), tt))))));
}
pair_at k h t c r s = absurd (cc h)

pub two_names : (t c r : Tok) → is_kind NameToken t.kind ≡ true → is_between c.kind ≡ true → is_kind NameToken r.kind ≡ true
    → Steps at_first at_body (t ∷ c ∷ r ∷ []) 2 (same_names t.worth.name r.worth.name)
two_names t c r h b g =
    let P : Terminal → Terminal → Bound → Type 0 = λ i j s. Step at_first at_body s (made i t ∷ c ∷ made j r ∷ []) 2 (same_names t.worth.name r.worth.name) in
    record {
      step = λ s.
          subst (λ i. P i r.kind s) (sym (kind_is NameToken t.kind h))
          (subst (λ j. P NameToken j s) (sym (kind_is NameToken r.kind g)) (pair_at c.kind b t c r s));
    }
