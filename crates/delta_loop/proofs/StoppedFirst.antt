-- A program that is stopped before any event.
use Rattle.std.proofs.Common.{◌≡◌, inl, ℕ, List, [], ◌++◌, false, Option, Some, ◌∙◌, ap, sym, refl, append_assoc, append-nil, arith}
use Rattle.port.specs.declared.link.Move.{Move}
use Rattle.event_frame.specs.declared.version.Version.{Version}
use Rattle.delta_end.specs.declared.end.End.{End}
use Rattle.delta_end.specs.declared.end.End.TheVariants.{Budget, Deep, WriteFailed, Memory}
use Rattle.delta_loop.specs.Meaning.{Meaning, StartsCostly, StartsDeep}
use Rattle.delta_loop.specs.Output.{opening, due}
use Rattle.delta_loop.specs.History.{Writes}
use Rattle.delta_loop.specs.Return.{Begins, StopsFirst, MayEnd}
use Rattle.delta_loop.specs.Loop.{Ran}
use Rattle.delta_loop.proofs.Opening.{fresh}
use Rattle.delta_loop.proofs.Lefts.{loses_nothing}
use Rattle.delta_loop.proofs.Limits.{within_limit}

module _ (P : Meaning) (old new : Option (List Move)) (left0 left1 : Option (List ℕ)) (same : left1 ≡ left0) (v : Version) (is : P.version ≡ Some v) (sent rest : List ℕ) (split : opening (Some v) ++ [] ≡ sent ++ rest) (writes : Writes old new sent) where
  header_is : opening P.version ≡ sent ++ rest
  header_is = ap opening is ∙ sym (append-nil (opening (Some v))) ∙ split

  unread : (end : End) → MayEnd P [] false sent end → Ran P old new left0 left1 end
  unread end may = record {
    input = [];
    ended = false;
    at = record { written = sent; history = writes (due P) old [] [] false (fresh (due P) old); may = may };
    limit = within_limit end 0 (omega arith);
    taken = loses_nothing left0 left1 same;
    used_up = λ never. cc;
  }

  stops_first : (why : Type 0) → rest ≡ [] → why → StopsFirst P why [] sent 0
  stops_first why none stopped = record {
    unread = refl;
    header = sym (append-nil sent) ∙ sym (ap (λ (bs : List ℕ). sent ++ bs) none) ∙ sym header_is;
    place = refl;
    why = stopped;
  }

  -- the header was written, and the program makes too many calls
  pub ran_costly : rest ≡ [] → StartsCostly P → Ran P old new left0 left1 (Budget 0)
  ran_costly none costly = unread (Budget 0) (inl (stops_first (StartsCostly P) none costly))

  -- or one at too great a level
  pub ran_deep : rest ≡ [] → StartsDeep P → Ran P old new left0 left1 (Deep 0)
  ran_deep none deep = unread (Deep 0) (inl (stops_first (StartsDeep P) none deep))

  part : Begins sent (due P [])
  part = (
    rest ++ P.first,
    append-nil (opening P.version ++ P.first) ∙ ap (λ (bs : List ℕ). bs ++ P.first) header_is ∙ append_assoc sent rest P.first,
  )

  -- a part of it was written, and the link failed or had no memory
  pub ran_unwritten : Ran P old new left0 left1 WriteFailed
  ran_unwritten = unread WriteFailed part

  pub ran_unkept : Ran P old new left0 left1 Memory
  ran_unkept = unread Memory part
