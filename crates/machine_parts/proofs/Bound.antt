-- A name that is bound behind others.
use Rattle.std.proofs.Common.{◌≡◌, ◌∙◌, List, [], ◌∷◌, ◌++◌, ap, refl}
use Rattle.stream_type.specs.StreamType.{StreamType, type_of}
use Rattle.stream_prefix.specs.StreamPrefix.{StreamPrefix}
use Rattle.stream_prefix.specs.Tree.{prefix_of}
use Rattle.bunch.specs.Names.{put}
use Rattle.core_term.specs.Environment.{Environment, NameTypes}
use Rattle.machine_parts.specs.declared.entry.Entry.{Entry}
use Rattle.machine_parts.specs.Scope.{types_over, streams_over}

types_behind : (es : List Entry) (e : Entry) (c : NameTypes) → types_over (es ++ e ∷ []) c ≡ put e.name.0 (type_of e.ty) (types_over es c)
types_behind [] e c = refl
types_behind (a ∷ es) e c = types_behind es e (put a.name.0 (type_of a.ty) c)

streams_behind : (es : List Entry) (e : Entry) (d : Environment) → streams_over (es ++ e ∷ []) d ≡ put e.name.0 (prefix_of e.prefix) (streams_over es d)
streams_behind [] e d = refl
streams_behind (a ∷ es) e d = streams_behind es e (put a.name.0 (prefix_of a.prefix) d)

-- it is before all of them
pub types_over_one : (es fs : List Entry) (e : Entry) (t : StreamType) (c : NameTypes) → fs ≡ es ++ e ∷ [] → type_of e.ty ≡ t
    → types_over fs c ≡ put e.name.0 t (types_over es c)
types_over_one es fs e t c is same =
    ap (λ (l : List Entry). types_over l c) is ∙ (types_behind es e c ∙ ap (λ (u : StreamType). put e.name.0 u (types_over es c)) same)

pub streams_over_one : (es fs : List Entry) (e : Entry) (p : StreamPrefix) (d : Environment) → fs ≡ es ++ e ∷ [] → prefix_of e.prefix ≡ p
    → streams_over fs d ≡ put e.name.0 p (streams_over es d)
streams_over_one es fs e p d is same =
    ap (λ (l : List Entry). streams_over l d) is ∙ (streams_behind es e d ∙ ap (λ (q : StreamPrefix). put e.name.0 q (streams_over es d)) same)
