-- An item that came on a stream of items: its parts, its calls, and what it is worth to an order.
use Rattle.std.proofs.Common.{◌≡◌, ◌∙◌, ◌≤◌, ◌⊎◌, inl, inr, ℕ, true≢false, ap, subst, sym}
use Rattle.std.specs.Prelude.{IsTrue}
use Rattle.stream_type.specs.StreamType.{StreamType, star}
use Rattle.stream_prefix.specs.StreamPrefix.{StreamPrefix, star_emp, star_first, star_rest, emp, is_maximal}
use Rattle.stream_prefix.proofs.Derivations.{Derives, star_has_emp, star_has_first, star_has_rest}
use Rattle.core_term.specs.Run.{Run, star_run}
use Rattle.state_steps.proofs.Steps.{first_emp, rest_emp}
use Rattle.bunch.proofs.Tests.{and_second}

-- p came of an item, and q of the items behind it: a first item that isn't ended has none behind it
abbrev pub CameItem : StreamPrefix → StreamPrefix → StreamPrefix → Type 0
CameItem o p q = (o ≡ star_rest p q) ⊎ ((o ≡ star_first p) × (q ≡ star_emp))

-- then something came
pub star_none : (p q o : StreamPrefix) → CameItem o p q → o ≡ star_emp → ⊥
star_none p q o (inl e) m = rest_emp p q (sym e ∙ m)
star_none p q o (inr e) m = first_emp p (sym e.0 ∙ m)

-- an item that is ended is whole, and a stream of items came behind it
item_parts : {s : StreamType} {p q : StreamPrefix} → Derives (star s) (star_rest p q) → Derives s p × Derives (star s) q × IsTrue (is_maximal p)
item_parts (star_has_rest h m k) = (h, k, m)

-- an item that isn't ended is a prefix of an item
first_parts : {s : StreamType} {p : StreamPrefix} → Derives (star s) (star_first p) → Derives s p
first_parts (star_has_first h) = h

-- so both parts are prefixes of their types, and whole where all that came is
pub star_came : (s : StreamType) (o p q : StreamPrefix) → Derives (star s) o → CameItem o p q → Derives s p × Derives (star s) q × (IsTrue (is_maximal o) → IsTrue (is_maximal p) × IsTrue (is_maximal q))
star_came s o p q h (inl e) =
    let i = item_parts (subst (Derives (star s)) e h) in
    (i.0, i.1, λ m. (i.2, and_second (is_maximal p) (is_maximal q) (sym (ap is_maximal e) ∙ m)))
star_came s o p q h (inr e) = (first_parts (subst (Derives (star s)) e.0 h), subst (Derives (star s)) (sym e.1) star_has_emp, λ m. absurd (true≢false (sym m ∙ ap is_maximal e.0)))

-- the item is whole, or nothing came behind it
pub star_turn : (s t : StreamType) (o p q : StreamPrefix) → Derives (star s) o → t ≡ star s → CameItem o p q → IsTrue (is_maximal p) ⊎ (q ≡ emp t)
star_turn s t o p q h e (inl k) = inl (item_parts (subst (Derives (star s)) k h)).2
star_turn s t o p q h e (inr k) = inr (k.1 ∙ ap emp (sym e))

-- the branch of the item makes no more calls than the case
pub star_calls : (r : StreamType) (k : ℕ) (o p q : StreamPrefix) → CameItem o p q → (a : Run) (b : StreamPrefix → StreamPrefix → Run) → (star_run r o a b).calls ≤ k → (b p q).calls ≤ k
star_calls r k o p q (inl e) a b le = subst (λ w. (star_run r w a b).calls ≤ k) e le
star_calls r k o p q (inr e) a b le = subst (λ w. (b p w).calls ≤ k) (sym e.1) (subst (λ w. (star_run r w a b).calls ≤ k) e.0 le)
