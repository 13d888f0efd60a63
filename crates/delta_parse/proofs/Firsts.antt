-- What is wrong first in a list of tokens.
use Rattle.std.proofs.Common.{◌≡◌, ◌∙◌, ℕ, ◌+◌, ◌-◌, ◌<◌, ◌≤◌, ◌⊎◌, inl, inr, true, false, List, [], ◌++◌, refl, sym, ap, length, take, drop, arith, append-nil, append_assoc, subst, ⊎_elim}
use Rattle.std.proofs.Math.Seq.{take-length}
use Rattle.std.proofs.lemmas.List.{take-append-drop, take-take, take-map, length-map, length-take-le}
use Rattle.std.proofs.lemmas.Bool.{cases_lt}
use Rattle.grammar.specs.Sentences.{IsSentence}
use Rattle.delta_tree.specs.SyntaxTree.{WrittenFunction, Declaration}
use Rattle.delta_parse.specs.declared.plain.Plain.{Plain}
use Rattle.delta_parse.specs.declared.whole_reader.Stop.TheVariants as stops
use Rattle.delta_parse.specs.declared.bindings.NameFault.{NameFault}
use Rattle.delta_parse.specs.declared.bindings.NameFault.TheVariants.{Twice, Many}
use Rattle.delta_parse.specs.Terminals.{Tok, plain_of, plains}
use Rattle.delta_parse.specs.Parts.{a_program, delta}
use Rattle.delta_parse.specs.Tables.{delta_grammar}
use Rattle.delta_parse.specs.Programs.{IsProgram, BeginsProgram, AreDeclarations, IsUnexpected, StopsAt}
use Rattle.delta_parse.specs.Marks.{marks_before, IsShallow, IsFirstDeep}
use Rattle.delta_parse.specs.Bindings.{is_twice, is_many, AreNamed, IsFaultAt}
use Rattle.delta_parse.specs.Causes.{Wrong, too_deep, unexpected, bound_twice, too_many, no_main, order_of, IsWrong, IsFirstWrong, IsComplaint, IsCut, name_complaint}
use Rattle.delta_parse.proofs.BindingSteps.{named_shorter}

later : (n m a b : ℕ) → n ≤ m → a ≤ b → (n < m) ⊎ ((n ≡ m) × (a ≤ b))
later n m a b h k = ⊎_elim (λ w. inl w) (λ w. inr (omega arith, k)) (cases_lt n m)

take-of-take : {A : Type 0} (m n : ℕ) (ts : List A) → m ≤ n → take m (take n ts) ≡ take m ts
take-of-take m n ts h = take-take m n ts h

-- what begins a program begins one at each front
begins_front : (us : List Tok) (m : ℕ) → BeginsProgram us → BeginsProgram (take m us)
begins_front us m b =
    let e : us ++ b.begun.0 ≡ take m us ++ (drop m us ++ b.begun.0) = ap (λ w. w ++ b.begun.0) (sym (take-append-drop m us)) ∙ append_assoc (take m us) (drop m us) b.begun.0 in
    let P : List Tok → Type 0 = λ w. IsSentence delta delta_grammar a_program w b.begun.1 in
    record { begun = (drop m us ++ b.begun.0, b.begun.1, subst P e b.begun.2) }

pub begins_shorter : (ts : List Tok) (m n : ℕ) → m ≤ n → BeginsProgram (take n ts) → BeginsProgram (take m ts)
begins_shorter ts m n h b = (let k = begins_front (take n ts) m b in rw (take-of-take m n ts h) at k)

-- a program begins itself
pub begins_whole : (ts : List Tok) (ds : List Declaration) (m : WrittenFunction) → IsProgram ts ds m → BeginsProgram ts
begins_whole ts ds m d =
    let P : List Tok → Type 0 = λ w. IsSentence delta delta_grammar a_program w (ds, m) in
    record { begun = ([], (ds, m), subst P (sym (append-nil ts)) d.derived) }

unexpected_after : (ts : List Tok) (n m : ℕ) → n ≤ length ts → BeginsProgram (take n ts) → IsUnexpected ts m → n ≤ m
unexpected_after ts n m h b u = ⊎_elim (λ w. absurd (u.fails (omega arith) (begins_shorter ts (m + 1) n (omega arith) b))) (λ w. w) (cases_lt m n)

deep_after : (ts : List Tok) (n m : ℕ) → IsShallow ts n → 64 < marks_before ts m → n ≤ m
deep_after ts n m s d = ⊎_elim (λ w. absurd (let k : marks_before ts m ≤ 64 = s m w in omega arith)) (λ w. w) (cases_lt m n)

once_after : (ts : List Tok) (n m : ℕ) → AreNamed ts n → is_twice ts m ≡ true → n ≤ m
once_after ts n m a w = ⊎_elim (λ h. absurd (let k : is_twice ts m ≡ false = a.once m h in cc)) (λ h. h) (cases_lt m n)

few_after : (ts : List Tok) (n m : ℕ) → AreNamed ts n → is_many ts m ≡ true → n ≤ m
few_after ts n m a w = ⊎_elim (λ h. absurd (let k : is_many ts m ≡ false = a.few m h in cc)) (λ h. h) (cases_lt m n)

-- a token that is too deep
pub deep_first : (ts : List Tok) (n : ℕ) → IsFirstDeep ts n → AreNamed ts n → n < length ts → BeginsProgram (take n ts) → IsFirstWrong ts n too_deep
deep_first ts n d a h b = record { wrong = (h, d.deep h); first = others }
  where
    others : (m : ℕ) (v : Wrong) → IsWrong ts m v → (n < m) ⊎ ((n ≡ m) × (order_of too_deep ≤ order_of v))
    others m too_deep w = later n m 1 1 (deep_after ts n m d.shallow w.1) (omega arith)
    others m unexpected w = later n m 1 2 (unexpected_after ts n m d.within b w) (omega arith)
    others m bound_twice w = later n m 1 3 (once_after ts n m a w.1) (omega arith)
    others m too_many w = later n m 1 4 (few_after ts n m a w.1) (omega arith)
    others m no_main w = later n m 1 5 (omega (arith, w.0)) (omega arith)

-- a token that doesn't fit
pub unexpected_first : (ts : List Tok) (n : ℕ) → IsUnexpected ts n → BeginsProgram (take n ts) → IsShallow ts n → (n < length ts → marks_before ts n ≤ 64) → AreNamed ts n → IsFirstWrong ts n unexpected
unexpected_first ts n u b s here a = record { wrong = u; first = others }
  where
    strictly : (m : ℕ) → n ≤ m → m < length ts → 64 < marks_before ts m → (n < m) ⊎ ((n ≡ m) × (2 ≤ 1))
    strictly m h w d = ⊎_elim (λ k. inl k) (λ k. absurd (let e : m ≡ n = omega arith in let g : marks_before ts n ≤ 64 = here (omega arith) in let f : marks_before ts m ≡ marks_before ts n = ap (marks_before ts) e in omega arith)) (cases_lt n m)

    others : (m : ℕ) (v : Wrong) → IsWrong ts m v → (n < m) ⊎ ((n ≡ m) × (order_of unexpected ≤ order_of v))
    others m too_deep w = strictly m (deep_after ts n m s w.1) w.0 w.1
    others m unexpected w = later n m 2 2 (unexpected_after ts n m u.within b w) (omega arith)
    others m bound_twice w = later n m 2 3 (once_after ts n m a w.1) (omega arith)
    others m too_many w = later n m 2 4 (few_after ts n m a w.1) (omega arith)
    others m no_main w = later n m 2 5 (let k = u.within in omega (arith, w.0)) (omega arith)

-- a name that is twice, where what is before it and itself fits
twice_first : (ts : List Tok) (n d : ℕ) → IsFirstDeep ts d → n < d → IsFaultAt ts n Twice → BeginsProgram (take (n + 1) ts) → IsFirstWrong ts n bound_twice
twice_first ts n d f h a b = record { wrong = (a.within, a.is); first = others }
  where
    others : (m : ℕ) (v : Wrong) → IsWrong ts m v → (n < m) ⊎ ((n ≡ m) × (order_of bound_twice ≤ order_of v))
    others m too_deep w = inl (let k = deep_after ts d m f.shallow w.1 in omega arith)
    others m unexpected w = inl (let l = a.within in let k = unexpected_after ts (n + 1) m (omega arith) b w in omega arith)
    others m bound_twice w = later n m 3 3 (once_after ts n m a.before w.1) (omega arith)
    others m too_many w = later n m 3 4 (few_after ts n m a.before w.1) (omega arith)
    others m no_main w = inl (let l = a.within in omega (arith, w.0))

-- a name too many
many_first : (ts : List Tok) (n d : ℕ) → IsFirstDeep ts d → n < d → IsFaultAt ts n Many → BeginsProgram (take (n + 1) ts) → IsFirstWrong ts n too_many
many_first ts n d f h a b = record { wrong = (a.within, a.is.1); first = others }
  where
    strictly : (m : ℕ) → n ≤ m → is_twice ts m ≡ true → (n < m) ⊎ ((n ≡ m) × (4 ≤ 3))
    strictly m k w = ⊎_elim (λ l. inl l) (λ l. absurd (let e : m ≡ n = omega arith in let g : is_twice ts m ≡ is_twice ts n = ap (is_twice ts) e in let z = a.is.0 in cc)) (cases_lt n m)

    others : (m : ℕ) (v : Wrong) → IsWrong ts m v → (n < m) ⊎ ((n ≡ m) × (order_of too_many ≤ order_of v))
    others m too_deep w = inl (let k = deep_after ts d m f.shallow w.1 in omega arith)
    others m unexpected w = inl (let l = a.within in let k = unexpected_after ts (n + 1) m (omega arith) b w in omega arith)
    others m bound_twice w = strictly m (once_after ts n m a.before w.1) w.1
    others m too_many w = later n m 4 4 (few_after ts n m a.before w.1) (omega arith)
    others m no_main w = inl (let l = a.within in omega (arith, w.0))

pub no_main_first : (ts : List Tok) → AreDeclarations ts → BeginsProgram ts → IsShallow ts (length ts) → AreNamed ts (length ts) → IsFirstWrong ts (length ts) no_main
no_main_first ts a b s c = record { wrong = (refl, a); first = others }
  where
    b' : BeginsProgram (take (length ts) ts)
    b' = rw (take-length ts) b

    others : (m : ℕ) (v : Wrong) → IsWrong ts m v → (length ts < m) ⊎ ((length ts ≡ m) × (order_of no_main ≤ order_of v))
    others m too_deep w = absurd (let k : marks_before ts m ≤ 64 = s m w.0 in omega (arith, w.1))
    others m unexpected w = absurd (w.no_declarations (let k = w.within in let h = unexpected_after ts (length ts) m (omega arith) b' w in omega arith) a)
    others m bound_twice w = absurd (let k : is_twice ts m ≡ false = c.once m w.0 in let z = w.1 in cc)
    others m too_many w = absurd (let k : is_many ts m ≡ false = c.few m w.0 in let z = w.1 in cc)
    others m no_main w = inr (sym w.0, omega arith)

-- what a cut at a wrong name says
pub cut_at_name : (ts : List Tok) (n d : ℕ) (x : NameFault) → IsFirstDeep ts d → IsFaultAt ts n x → n < d → IsCut ts (n + 1)
cut_at_name ts n d x f a h = record {
  within = (let k = a.within in omega arith);
  shallow = λ k w. f.shallow k (omega arith);
  named = named_shorter ts (n + 1 - 1) n (omega arith) a.before;
}

pub name_first : (ts : List Tok) (n d : ℕ) (x : NameFault) → IsFirstDeep ts d → IsFaultAt ts n x → n < d → BeginsProgram (take (n + 1) ts) → IsComplaint ts (name_complaint n x)
name_first ts n d Twice f a h b = twice_first ts n d f h a b
name_first ts n d Many f a h b = many_first ts n d f h a b

-- what a cut before a mark too much says, where no name before it is wrong
deep_cut : (ts : List Tok) (d : ℕ) → IsFirstDeep ts d → AreNamed ts d → IsCut ts d
deep_cut ts d f a = record { within = f.within; shallow = f.shallow; named = named_shorter ts (d - 1) d (omega arith) a }

-- the first wrong name stands at that mark or behind it
pub cut_before_name : (ts : List Tok) (n d : ℕ) (x : NameFault) → IsFirstDeep ts d → IsFaultAt ts n x → d ≤ n → IsCut ts d × (BeginsProgram (take d ts) → IsFirstWrong ts d too_deep)
cut_before_name ts n d x f a h =
    let l = a.within in
    let c : AreNamed ts d = named_shorter ts d n h a.before in
    (deep_cut ts d f c, deep_first ts d f c (omega arith))

-- no name is wrong
pub cut_at_deep : (ts : List Tok) (d : ℕ) → IsFirstDeep ts d → AreNamed ts (length ts) → d < length ts → IsCut ts d × (BeginsProgram (take d ts) → IsFirstWrong ts d too_deep)
cut_at_deep ts d f a h =
    let c : AreNamed ts d = named_shorter ts d (length ts) (omega arith) a in
    (deep_cut ts d f c, deep_first ts d f c h)

pub no_cut : (ts : List Tok) (d : ℕ) → IsFirstDeep ts d → length ts ≤ d → IsShallow ts (length ts)
no_cut ts d f h = λ k w. f.shallow k (omega arith)

-- what doesn't fit in the front of the tokens doesn't fit in them
unexpected_front : (ts : List Tok) (d n : ℕ) → d ≤ length ts → n < d → IsUnexpected (take d ts) n → IsUnexpected ts n
unexpected_front ts d n h k u =
    let a : length (take d ts) ≡ d = length-take-le d ts h in
    let c : take (n + 1) (take d ts) ≡ take (n + 1) ts = take-of-take (n + 1) d ts (omega arith) in
    record {
      within = omega arith;
      fails = λ _ b. u.fails (omega arith) (rw c b);
      no_program = λ z. absurd (omega arith);
      no_declarations = λ z. absurd (omega arith);
    }

plains-take : (d : ℕ) (ts : List Plain) → plains (take d ts) ≡ take d (plains ts)
plains-take d ts = sym (take-map plain_of d ts)

-- a program begins with the front of the tokens
pub front_begins : (ts : List Plain) (d : ℕ) → BeginsProgram (plains (take d ts)) → BeginsProgram (take d (plains ts))
front_begins ts d b = (rw (plains-take d ts) at b)

pub front_ends : (ts : List Plain) (d : ℕ) → StopsAt (plains (take d ts)) (stops.Misfit 0) → BeginsProgram (take d (plains ts))
front_ends ts d s =
    let us : List Tok = plains (take d ts) in
    let b : BeginsProgram (take (length us - 0) us) = s.1.1 in
    let t : take (length us - 0) us ≡ us = ap (λ k. take k us) (omega arith) ∙ take-length us in
    front_begins ts d (rw t at b)

-- a token of the front doesn't fit
pub front_stops : (ts : List Plain) (d left : ℕ) → IsCut (plains ts) d → 0 < left → StopsAt (plains (take d ts)) (stops.Misfit left) → IsFirstWrong (plains ts) (d - left) unexpected
front_stops ts d left f z s =
    let i = f.within in
    let e : plains (take d ts) ≡ take d (plains ts) = plains-take d ts in
    let k : length (take d (plains ts)) ≡ d = length-take-le d (plains ts) i in
    let l : length (plains (take d ts)) - left ≡ d - left = ap (λ us. length us - left) e ∙ ap (λ j. j - left) k in
    let le : left ≤ d = (let w = s.0 in let v : length (plains (take d ts)) ≡ d = ap length e ∙ k in omega arith) in
    let u : IsUnexpected (take d (plains ts)) (d - left) = (let w = s.1.0 in rw (l, e) at w) in
    let b : BeginsProgram (take (d - left) (take d (plains ts))) = (let w = s.1.1 in rw (l, e) at w) in
    let b' : BeginsProgram (take (d - left) (plains ts)) = (rw (take-of-take (d - left) d (plains ts) (omega arith)) at b) in
    let a : AreNamed (plains ts) (d - left) = named_shorter (plains ts) (d - left) (d - 1) (omega arith) f.named in
    unexpected_first (plains ts) (d - left) (unexpected_front (plains ts) d (d - left) i (omega arith) u) b' (λ j w. f.shallow j (omega arith)) (λ w. f.shallow (d - left) (omega arith)) a

-- where no mark and no name is wrong
pub whole_stops : (ts : List Plain) (left : ℕ) → IsShallow (plains ts) (length (plains ts)) → AreNamed (plains ts) (length (plains ts)) → StopsAt (plains ts) (stops.Misfit left) → IsFirstWrong (plains ts) (length ts - left) unexpected
whole_stops ts left h a s =
    let n : length (plains ts) ≡ length ts = length-map ts plain_of in
    let e : length (plains ts) - left ≡ length ts - left = ap (λ j. j - left) n in
    let u : IsUnexpected (plains ts) (length ts - left) = (let x = s.1.0 in rw e at x) in
    let b : BeginsProgram (take (length ts - left) (plains ts)) = (let x = s.1.1 in rw e at x) in
    let c : AreNamed (plains ts) (length ts - left) = named_shorter (plains ts) (length ts - left) (length (plains ts)) (omega arith) a in
    unexpected_first (plains ts) (length ts - left) u b (λ j v. h j (omega arith)) (λ v. h (length ts - left) v) c

pub whole_no_main : (ts : List Plain) → IsShallow (plains ts) (length (plains ts)) → AreNamed (plains ts) (length (plains ts)) → StopsAt (plains ts) stops.NoMain → IsFirstWrong (plains ts) (length (plains ts)) no_main
whole_no_main ts h a s = no_main_first (plains ts) s.0 s.1 h a
