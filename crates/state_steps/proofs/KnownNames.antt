-- Contexts in which some names have values: these change no stream and no fact, and a name that is bound under
-- them may as well be bound before them.
use Rattle.std.proofs.Common.{◌≡◌, ◌∙◌, ℕ, true, List, [], ◌∷◌, ap, ap₂, refl, sym, Bool, false, eqb, ◌&&◌, if◌then◌else◌}
use Rattle.std.specs.Prelude.{Some, unwrap_or, None, is_some}
use Rattle.stream_type.specs.StreamType.{StreamType, eps}
use Rattle.bunch.specs.Facts.{Facts, place_like, put_before}
use Rattle.bunch.specs.Names.{put}
use Rattle.hist_value.specs.HistType.{HistType, past}
use Rattle.core_term.specs.FreeNames.{without}
use Rattle.core_term.specs.Typing.{Context, type_at, with_name, with_fact, with_parts, is_before, with_name_like, waited}
use Rattle.delta_state.specs.StateTree.{Known}
use Rattle.delta_state.specs.StateTyping.{with_past, with_known}
use Rattle.state_steps.proofs.FactsWithin.{within_itself}
use Rattle.state_steps.proofs.Seeing.{Sees, sees_next, sees_like, sees_fact}

-- names that have values change no stream name,
pub past_types-same : (es : List Known) (c : Context) → (with_past es c).types ≡ c.types
past_types-same [] c = refl
past_types-same (k ∷ es) c = past_types-same es c

-- and no fact of the order
pub past_order-same : (es : List Known) (c : Context) → (with_past es c).order ≡ c.order
past_order-same [] c = refl
past_order-same (k ∷ es) c = past_order-same es c

-- a name that is bound under them hides no other value than one that is bound before them
past_put : (es : List Known) (c : Context) (x : ℕ) (s : StreamType) (o : Facts) (y : ℕ) (h : HistType) (b : Bool) → eqb y x ≡ b → (if b then None else (with_past es c).past y) ≡ Some h → (with_past es (with_name x s o c)).past y ≡ Some h
past_put [] c x s o y h b e k = ap (λ d. if d then None else c.past y) e ∙ k
past_put (i ∷ es) c x s o y h b e k = go b (eqb y i.name) k (past_put es c x s o y h b e)
  where
    go : (b d : Bool) → (if b then None else (if d then Some (past i.type) else (with_past es c).past y)) ≡ Some h → ((if b then None else (with_past es c).past y) ≡ Some h → (with_past es (with_name x s o c)).past y ≡ Some h)
        → (if d then Some (past i.type) else (with_past es (with_name x s o c)).past y) ≡ Some h
    go true d k f = absurd (cc k)
    go false true k f = k
    go false false k f = f k

-- a new name that is bound under names with values may be bound before them
pub sees_hoisted : (es : List Known) (x : ℕ) (s : StreamType) (f : Facts → Facts) (ys : List ℕ) (c : Context) → Sees ys (with_name x s (f (with_past es c).order) (with_past es c)) (with_past es (with_name x s (f c.order) c))
sees_hoisted es x s f ys c = record {
  types = λ y u m k. ap (λ g. g y) (past_types-same es (with_name x s (f c.order) c)) ∙ (ap (λ g. put x (Some s) g y) (sym (past_types-same es c)) ∙ k);
  order = record { at = λ u v m n k. ap (λ g. g u v) (past_order-same es (with_name x s (f c.order) c)) ∙ (ap (λ g. f g u v) (sym (past_order-same es c)) ∙ k) };
  past = λ y h k. past_put es c x s (f c.order) y h (eqb y x) refl k;
}

-- under names with values a name has its type,
pub past_type_at : (es : List Known) (c : Context) (z : ℕ) → type_at (with_past es c) z ≡ type_at c z
past_type_at es c z = ap (λ g. unwrap_or (g z) eps) (past_types-same es c)

-- the facts of the order hold,
pub past_before : (es : List Known) (c : Context) (x y : ℕ) → is_before (with_past es c) x y ≡ is_before c x y
past_before es c x y = ap₂ (λ t o. (is_some (t x) && is_some (t y)) && o x y) (past_types-same es c) (past_order-same es c)

-- and a stream name is one without them
pub past_stream : (es : List Known) (c : Context) (x : ℕ) (s : StreamType) → (with_past es c).types x ≡ Some s → c.types x ≡ Some s
past_stream es c x s k = ap (λ g. g x) (sym (past_types-same es c)) ∙ k

-- the names of z's parts may be bound before names with values
pub sees_hoisted_parts : (es : List Known) (x : ℕ) (s : StreamType) (y : ℕ) (t : StreamType) (z : ℕ) (ys : List ℕ) (c : Context) → Sees ys (with_parts x s y t z (with_past es c)) (with_past es (with_parts x s y t z c))
sees_hoisted_parts es x s y t z ys c =
    sees_next ys _ _ _ (sees_like y t z ys _ _ (sees_hoisted es x s (place_like x z) (z ∷ without y ys) c)) (sees_hoisted es y t (place_like y z) ys (with_name_like x s z c))

-- a fact of the order changes no value
past_fact : (es : List Known) (x y : ℕ) (c : Context) → (with_past es (with_fact x y c)).past ≡ (with_past es c).past
past_fact [] x y c = refl
past_fact (e ∷ es) x y c = ap (put e.name (Some (past e.type))) (past_fact es x y c)

-- it may be put before names with values,
sees_hoisted_fact : (es : List Known) (x y : ℕ) (ys : List ℕ) (c : Context) → Sees ys (with_fact x y (with_past es c)) (with_past es (with_fact x y c))
sees_hoisted_fact es x y ys c = record {
  types = λ u s m k. ap (λ g. g u) (past_types-same es (with_fact x y c)) ∙ (ap (λ g. g u) (sym (past_types-same es c)) ∙ k);
  order = record { at = λ u v m n k. ap (λ g. g u v) (past_order-same es (with_fact x y c)) ∙ (ap (λ g. put_before x y g u v) (sym (past_order-same es c)) ∙ k) };
  past = λ u h k. ap (λ g. g u) (past_fact es x y c) ∙ k;
}

-- and so may the names of z's parts, the first before the second
pub sees_hoisted_row : (es : List Known) (x : ℕ) (s : StreamType) (y : ℕ) (t : StreamType) (z : ℕ) (ys : List ℕ) (c : Context) → Sees ys (with_fact x y (with_parts x s y t z (with_past es c))) (with_past es (with_fact x y (with_parts x s y t z c)))
sees_hoisted_row es x s y t z ys c =
    let h = sees_hoisted_parts es x s y t z ys c in
    sees_next ys _ _ _ (sees_fact x y ys _ _ h) (sees_hoisted_fact es x y ys (with_parts x s y t z c))

-- a name that was waited for has a value now
pub sees_waited_known : (x : ℕ) (t : StreamType) (ys : List ℕ) (c : Context) → type_at c x ≡ t → Sees ys (waited x c) (with_known x t c)
sees_waited_known x t ys c e = record { types = λ y u m k. types y u (eqb y x) k; order = within_itself ys c.order; past = λ y h k. kept y h (eqb y x) k }
  where
    types : (y : ℕ) (u : StreamType) (b : Bool) → (if b then None else c.types y) ≡ Some u → c.types y ≡ Some u
    types y u true k = absurd (cc k)
    types y u false k = k

    kept : (y : ℕ) (h : HistType) (b : Bool) → (if b then Some (past (type_at c x)) else c.past y) ≡ Some h → (if b then Some (past t) else c.past y) ≡ Some h
    kept y h true k = ap (λ t. Some (past t)) (sym e) ∙ k
    kept y h false k = k
