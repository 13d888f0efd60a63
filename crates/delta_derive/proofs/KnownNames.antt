-- The historical names with one more, with one hidden, and as parameters give them.
use mathlib.Core.Path.{fun_ext}
use Rattle.std.proofs.Common.{◌≡◌, ◌∙◌, ◌<◌, ◌+◌, ℕ, Bool, true, false, true≢false, List, [], ◌∷◌, ◌++◌, length, take, get_or, if◌then◌else◌, refl, ap, ap₂, sym}
use Rattle.std.specs.Prelude.{Option, Some, None, ◌==◌}
use Rattle.std.proofs.lemmas.List.{take_more}
use Rattle.std.proofs.lemmas.Bool.{eqb-true}
use Rattle.stream_type.specs.StreamType.{StreamType}
use Rattle.bunch.specs.declared.name.Name.{Name}
use Rattle.bunch.specs.Names.{put}
use Rattle.hist_value.specs.declared.hist_type.HTy.{HTy}
use Rattle.hist_value.specs.HistType.{HistType, hist_type_of, past}
use Rattle.hist_value.specs.Environment.{entry_at, typed_entries_of, types_of}
use Rattle.bunch_rules.specs.Derivation.{Known, hidden, learned}
use Rattle.delta_check.proofs.Entries.{types_of-push}

-- one more entry
pub types_of-more : (es : List (Name × HTy)) (e : Name × HTy) → types_of (es ++ e ∷ []) ≡ put e.0.0 (Some (hist_type_of e.1)) (types_of es)
types_of-more es e = fun_ext (λ x. types_of-push es e x)

entries-joined : (es fs : List (Name × HTy)) → typed_entries_of (es ++ fs) ≡ typed_entries_of es ++ typed_entries_of fs
entries-joined [] fs = refl
entries-joined (e ∷ es) fs = ap (λ l. (e.0.0, Some (hist_type_of e.1)) ∷ l) (entries-joined es fs)

-- one more copy
pub copied-next : (known copies : List (Name × HTy)) (i : ℕ) (e : Name × HTy) (t : HTy) → i < length known → e ≡ get_or known i e → hist_type_of t ≡ hist_type_of e.1 → typed_entries_of copies ≡ typed_entries_of (take i known)
    → typed_entries_of (copies ++ (e.0, t) ∷ []) ≡ typed_entries_of (take (i + 1) known)
copied-next known copies i e t lt at same h =
    entries-joined copies ((e.0, t) ∷ []) ∙ ap₂ (λ l s. l ++ (e.0.0, Some s) ∷ []) h same
    ∙ sym (ap typed_entries_of (take_more known i e lt) ∙ entries-joined (take i known) (get_or known i e ∷ []) ∙ ap (λ v. typed_entries_of (take i known) ++ (v.0.0, Some (hist_type_of v.1)) ∷ []) (sym at))

-- one more entry, and one hidden, in either order
put_hidden : (x z : ℕ) (t : HistType) (known : Known) → (z == x) ≡ false → put z (Some t) (hidden x known) ≡ hidden x (put z (Some t) known)
put_hidden x z t known h = fun_ext (λ y. go y (y == z) refl (y == x) refl)
  where
    go : (y : ℕ) (a : Bool) → (y == z) ≡ a → (b : Bool) → (y == x) ≡ b → (if y == z then Some t else (if y == x then None else known y)) ≡ (if y == x then None else (if y == z then Some t else known y))
    go y true k true l = absurd (true≢false (sym l ∙ ap (λ u. u == x) (eqb-true y z k) ∙ h))
    go y true k false l = ap (λ c. if c then Some t else (if y == x then None else known y)) k ∙ sym (ap (λ c. if c then None else (if y == z then Some t else known y)) l ∙ ap (λ c. if c then Some t else known y) k)
    go y false k b l = ap (λ c. if c then Some t else (if y == x then None else known y)) k ∙ ap (λ c. if y == x then None else (if c then Some t else known y)) (sym k)

hidden_again : (x z : ℕ) (t : HistType) (known : Known) → (z == x) ≡ true → hidden x known ≡ hidden x (put z (Some t) known)
hidden_again x z t known h = fun_ext (λ y. go y (y == x) refl (y == z) refl)
  where
    go : (y : ℕ) (b : Bool) → (y == x) ≡ b → (a : Bool) → (y == z) ≡ a → (if y == x then None else known y) ≡ (if y == x then None else (if y == z then Some t else known y))
    go y true l a k = ap (λ c. if c then None else known y) l ∙ sym (ap (λ c. if c then None else (if y == z then Some t else known y)) l)
    go y false l true k = absurd (true≢false (sym (ap (λ u. u == x) (eqb-true y z k) ∙ h) ∙ l))
    go y false l false k = ap (λ c. if y == x then None else (if c then Some t else known y)) (sym k)

-- the next entry is kept, or it is hidden
next_known : (known : List (Name × HTy)) (i : ℕ) (e : Name × HTy) → i < length known → e ≡ get_or known i e → types_of (take (i + 1) known) ≡ put e.0.0 (Some (hist_type_of e.1)) (types_of (take i known))
next_known known i e lt at = ap types_of (take_more known i e lt) ∙ ap (λ v. types_of (take i known ++ v ∷ [])) (sym at) ∙ types_of-more (take i known) e

pub kept-next : (x : ℕ) (known kept : List (Name × HTy)) (i : ℕ) (e : Name × HTy) (t : HTy) → i < length known → e ≡ get_or known i e → hist_type_of t ≡ hist_type_of e.1 → (e.0.0 == x) ≡ false → types_of kept ≡ hidden x (types_of (take i known))
    → types_of (kept ++ (e.0, t) ∷ []) ≡ hidden x (types_of (take (i + 1) known))
kept-next x known kept i e t lt at same ne h =
    types_of-more kept (e.0, t) ∙ ap₂ (λ s k. put e.0.0 (Some s) k) same h ∙ put_hidden x e.0.0 (hist_type_of e.1) (types_of (take i known)) ne ∙ sym (ap (hidden x) (next_known known i e lt at))

pub hidden-next : (x : ℕ) (known kept : List (Name × HTy)) (i : ℕ) (e : Name × HTy) → i < length known → e ≡ get_or known i e → (e.0.0 == x) ≡ true → types_of kept ≡ hidden x (types_of (take i known)) → types_of kept ≡ hidden x (types_of (take (i + 1) known))
hidden-next x known kept i e lt at eq h = h ∙ hidden_again x e.0.0 (hist_type_of e.1) (types_of (take i known)) eq ∙ sym (ap (hidden x) (next_known known i e lt at))

pub hidden-none : (x : ℕ) → types_of [] ≡ hidden x (types_of [])
hidden-none x = fun_ext (λ y. go (y == x))
  where
    go : (b : Bool) → ◌≡◌ {A = Option HistType} None (if b then None else None)
    go true = refl
    go false = refl

-- one more name is known
pub learned-more : (x : Name) (t : HTy) (s : StreamType) (known es : List (Name × HTy)) → typed_entries_of es ≡ typed_entries_of known → hist_type_of t ≡ past s → types_of (es ++ (x, t) ∷ []) ≡ learned x.0 s (types_of known)
learned-more x t s known es h k = types_of-more es (x, t) ∙ ap₂ (λ o f. put x.0 (Some o) f) k (ap (entry_at None) h)

pub ruleset known_names = (types_of-more, copied-next, kept-next, hidden-next, hidden-none, learned-more)
